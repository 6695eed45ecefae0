use Rattle.std.proofs.Common.{ℕ, if◌then◌else◌, is_ok, List, ◌≡◌, ◌∙◌, ◌++◌, ◌∷◌, [], ap, append_assoc, Result, Ok, Err, OnOk}
use Rattle.serde_json.specs.Written.{compact_text, has_float}
use Rattle.kapi_paths.specs.Printed.{path_tree}
use Rattle.kapi_paths.proofs.Printing.{path_has_no_float}
use Rattle.kapi_paths.proofs.printed.push_object.Goals as goal

-- what was added, in another form
added : {V E : Type 0} (r : Result V E) (new more kept wanted : List ℕ) → more ≡ wanted → new ≡ (if is_ok r then more else kept) → OnOk r (new ≡ wanted)
added (Ok v) new more kept wanted h e = e ∙ h
added (Err x) new more kept wanted h e = tt

pub returns : goal.returns
returns c =
    let tree = path_tree c.args.path.now c.args.steps.now in
    let whole : c.in_ok-written.written.items ≡ compact_text tree =
    c.in_ok-written.ensures.text (ap has_float c.in_ok-path_tree.ensures ∙ path_has_no_float c.args.path.now c.args.steps.now) ∙ ap compact_text c.in_ok-path_tree.ensures in
    let text = c.args.text.now.items in
    let first = c.in_ok-extend_from_slice.ensures.items ∙ ap (λ l. text ++ l) (c.as_slice.ensures.value ∙ whole) in
    added c.extend_from_slice-2.result _ _ _ _ (ap (λ l. l ++ 10 ∷ []) first ∙ append_assoc text (compact_text tree) (10 ∷ [])) c.extend_from_slice-2.ensures.items
