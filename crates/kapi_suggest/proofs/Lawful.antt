-- The laws of the policy that is suggested.
use Rattle.std.proofs.Common.{◌≡◌, ◌||◌, ℕ, Bool, true, false, not, ap, sym, ◌∙◌, List, refl}
use Rattle.std.proofs.lemmas.Bool.{and_from, or_right}
use Rattle.std.specs.List.{list_any}
use Rattle.kapi_model.specs.Identities.{is_master}
use Rattle.kapi_model.specs.declared.identity.Identity.{Identity}
use Rattle.kapi_rules.proofs.Covers.{itself}
use Rattle.kapi_rules.specs.Points.{HasPlainResource}
use Rattle.kapi_rules.specs.declared.point.Point.{Point}
use Rattle.kapi_policy.specs.Objects.{PolicyObjects}
use Rattle.kapi_aggregation.proofs.Lists.{some_at}
use Rattle.kapi_aggregation.specs.Members.{Has}
use Rattle.kapi_escalation_laws.specs.Access.{may}
use Rattle.kapi_reviews.specs.declared.question.Question.{Question}
use Rattle.kapi_suggest.specs.Needs.{suggested}
use Rattle.kapi_suggest.specs.Policies.{AreFew, suggestion}
use Rattle.kapi_suggest.specs.Uses.{Allows, ArePlain, HasItsGroups, ListsNoEmptyName, counts, given_by, gives}
use Rattle.kapi_suggest.proofs.Bound.{bound}
use Rattle.kapi_suggest.proofs.Exact.{exact}
use Rattle.kapi_suggest.proofs.Least.{atom_own, least}

pub exact_policy : (uses : List Question) (identity : Identity) (namespace : List ℕ) (p : Point) → AreFew uses → HasPlainResource p → may (suggestion uses) identity namespace p ≡ given_by uses identity namespace p
unfolding suggestion
exact_policy uses identity namespace p few plain = bound (suggested uses) few identity namespace p ∙ exact p plain identity namespace uses

counts_there : (namespace : List ℕ) → counts namespace namespace ≡ true
counts_there namespace = or_right _ _ (itself namespace)

given_own : (uses : List Question) (u : Question) → Has uses u → given_by uses u.identity u.namespace u.point ≡ true
given_own uses u has = by_master (is_master u.identity) refl
  where
    by_master : (m : Bool) → is_master u.identity ≡ m → (m || list_any (gives u.identity u.namespace u.point) uses) ≡ true
    by_master true is = refl
    by_master false is =
        some_at (gives u.identity u.namespace u.point) uses u has
        (and_from _ _ (ap not is) (and_from _ _ (itself u.identity.user) (and_from _ _ (counts_there u.namespace) (atom_own u.point))))

pub allows_all : (uses : List Question) → AreFew uses → ArePlain uses → Allows (suggestion uses) uses
allows_all uses few plain = λ u has. exact_policy uses u.identity u.namespace u.point few (plain u has) ∙ given_own uses u has

pub least_policy : (uses : List Question) (other : PolicyObjects) (identity : Identity) (namespace : List ℕ) (p : Point)
    → AreFew uses → ArePlain uses → Allows other uses → ListsNoEmptyName other → HasItsGroups uses identity → HasPlainResource p
    → may (suggestion uses) identity namespace p ≡ true → may other identity namespace p ≡ true
least_policy uses other identity namespace p few are_plain allowed no_empty groups plain h =
    least uses other identity namespace p are_plain allowed no_empty groups plain (sym (exact_policy uses identity namespace p few plain) ∙ h)
