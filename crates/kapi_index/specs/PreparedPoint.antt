-- Points with their words prepared.
use Rattle.std.specs.Prelude.{◌≡◌, ℕ, List, ◌∷◌, ◌++◌}
use Rattle.kapi_rules.specs.declared.point.ResourcePoint.{ResourcePoint}

-- the words are those of the point
pub record IsAsked (p : ResourcePoint) (v g r o a n : List ℕ) : Type 0 where
  pub verb : v ≡ p.verb
  pub group : g ≡ p.group
  pub resource : r ≡ p.resource
  pub own : o ≡ p.resource ++ 47 ∷ p.subresource
  pub any : a ≡ 42 ∷ 47 ∷ p.subresource
  pub name : n ≡ p.name
