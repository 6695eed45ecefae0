-- The route that the code finds is the definition's.
use Rattle.std.specs.Prelude.{Result, Some}
use Rattle.kapi_text.specs.ResultIs.{ResultIs}
use Rattle.kapi_reply.specs.declared.refusal.Refused.{Refused}
use Rattle.kapi_answer.specs.declared.route.ResourceRoute.{ResourceRoute}
use Rattle.kapi_answer.specs.declared.route.Route.{Route}
use Rattle.kapi_answer.specs.declared.route.Route.TheVariants as route
use Rattle.kapi_answer.specs.Route.{ResourceRouted, Routed, health, resource}

-- a route of a resource as data
abbrev pub resource_data : ResourceRoute → ResourceRouted
resource_data r = record { row = r.row.now; point = r.point.now; action = r.action }

-- a route as data
abbrev pub route_data : Route → Routed
route_data route.Health = health
route_data (route.Resource r) = resource (resource_data r)

-- what was found is what the definition returns
abbrev pub Routes : Result Route Refused → Result Routed Refused → Type 0
Routes result given = ResultIs (λ e. Some e) route_data result given
