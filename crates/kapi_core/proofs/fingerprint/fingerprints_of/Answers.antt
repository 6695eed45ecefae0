use Rattle.std.proofs.Common.{◌≡◌, ◌+◌, ◌++◌, ◌∷◌, ◌||◌, Bool, List, ℕ, Some, false, drop, slice_get, append_assoc, sym, ap, ◌∙◌}
use Rattle.std.specs.List.{flat_map, list_any}
use Rattle.std.proofs.lemmas.List.{drop_more}
use Rattle.std.proofs.lemmas.Option.{slice_get_within, get_or_from_slice_get}
use Rattle.kapi_core.specs.Fingerprints.{fingerprints, is_of_policy}
use Rattle.kapi_store.specs.Lent.{changes_of}
use Rattle.kapi_store.specs.declared.change.Change.{Change}
use Rattle.kapi_core.proofs.fingerprint.fingerprints_of.Goals as goal

pub loop-index-preserved : goal.loop-index-preserved
loop-index-preserved c =
    let cs = changes_of c.args.changes.now in
    let i = c.loop-index.index in
    let x = c.in_ok-key.field-0.now in
    let rest = drop (i + 1) cs in
    let old = c.loop-index.numbers.items in
    let here : slice_get cs i ≡ Some x = sym c.in_ok-key.ensures in
    let front : drop i cs ≡ x ∷ rest = drop_more cs i x (slice_get_within cs i x here) ∙ ap (λ y. y ∷ rest) (get_or_from_slice_get cs i x x here) in
    let other : is_of_policy x.key ≡ false = rw c.as_str.ensures at (sym c.eq.ensures ∙ c.if-eq.false) in (
      ap (λ (ns : List ℕ). ns ++ flat_map (λ (d : Change). fingerprints d.key) rest) c.in-Ok.ensures
          ∙ append_assoc old (fingerprints x.key) (flat_map (λ (d : Change). fingerprints d.key) rest)
          ∙ ap (λ (ds : List Change). old ++ flat_map (λ (d : Change). fingerprints d.key) ds) (sym front)
          ∙ c.loop-index.invariant.0,
      ap (λ (b : Bool). b || list_any (λ (d : Change). is_of_policy d.key) rest) (sym other)
          ∙ ap (list_any (λ (d : Change). is_of_policy d.key)) (sym front)
          ∙ c.loop-index.invariant.1,
    )
