use Rattle.std.proofs.Common.{◌≡◌, ◌∙◌, ℕ, List, Option, Some, None, String, Global, string_bytes, option_map, refl, ap, sym}
use Rattle.std.proofs.lemmas.Map.Text.{is_eq-slice_cmp}
use Rattle.std.proofs.lemmas.Slice.Eq.{bytes_eq-Decides}
use Rattle.std.specs.Cmp.Lexicographic.{slice_cmp}
use Rattle.std.specs.Ordering.{nat_cmp, is_eq}
use Rattle.std.specs.Prelude.{IfSome}
use Rattle.std.specs.declared.cmp.Ordering.TheVariants.{Equal}
use Rattle.serde_json.proofs.Views.{view-lookup}
use Rattle.serde_json.specs.View.{view}
use Rattle.kapi_object.proofs.Removal.{Entry, members_view_removed}
use Rattle.kapi_object.proofs.tree.take_entry.Goals as goal

-- a key that compares as equal is the same
same_key : (key : List ℕ) (r : Option Entry) → IfSome r (λ p. slice_cmp nat_cmp key (string_bytes p.0) ≡ Equal) → IfSome r (λ p. string_bytes p.0 ≡ key)
same_key key None h = tt
same_key key (Some p) h = sym ((bytes_eq-Decides key (string_bytes p.0)).0 (sym (is_eq-slice_cmp key (string_bytes p.0)) ∙ ap is_eq h))

value_of : (r : Option Entry) → option_map (λ p. view p.1) r ≡ option_map view (option_map (λ p. p.1) r)
value_of None = refl
value_of (Some p) = refl

pub returns-clause-left : goal.returns-clause-left
returns-clause-left c = rw c.remove_entry.ensures.entries (members_view_removed c.args.key.now c.args.members.now.entries c.requires)

pub returns-clause-key : goal.returns-clause-key
returns-clause-key c = same_key c.args.key.now c.remove_entry.result c.remove_entry.ensures.same_key

pub returns-clause-taken : goal.returns-clause-taken
returns-clause-taken c = value_of c.remove_entry.result ∙ ap (option_map view) c.remove_entry.ensures.value ∙ view-lookup c.args.key.now c.args.members.now.entries
