-- Points whose resource and subresource have no slash, as the rules of roles see them (Kubernetes, 'Using RBAC
-- Authorization').
use Rattle.std.specs.Prelude.{◌≡◌, ◌==◌, false}
use Rattle.std.specs.List.{list_any}
use Rattle.kapi_rules.specs.declared.point.Point.{Point}
use Rattle.kapi_rules.specs.declared.point.Point.TheVariants as point

-- no slash in the resource and none in the subresource
abbrev pub HasNoSlash : Point → Type 0
HasNoSlash (point.Resource p) = (list_any (λ b. b == 47) p.resource ≡ false) × (list_any (λ b. b == 47) p.subresource ≡ false)
HasNoSlash (point.Url u) = Unit {0}
