-- Points: what requests ask to do (Kubernetes, 'Authorization Overview', request attributes).
use Rattle.std.specs.Prelude.{◌≡◌, ◌==◌, false}
use Rattle.std.specs.List.{list_any}
use Rattle.kapi_rules.specs.declared.point.Point.{Point}
use Rattle.kapi_rules.specs.declared.point.Point.TheVariants as point

-- the point's resource has no slash; its subresource, name and path may have some
abbrev pub HasPlainResource : Point → Type 0
HasPlainResource (point.Resource p) = list_any (λ b. b == 47) p.resource ≡ false
HasPlainResource (point.Url p) = Unit {0}
