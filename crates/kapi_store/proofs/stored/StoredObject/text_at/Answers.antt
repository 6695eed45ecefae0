use Rattle.std.proofs.Common.{◌≡◌, ◌∙◌, ◌++◌, sym, ap}
use Rattle.serde_json.specs.Written.{compact_text}
use Rattle.kapi_store.specs.Private.Cut.{version_text}
use Rattle.kapi_store.specs.Stored.{stored_tree}
use Rattle.kapi_store.proofs.Labelled.{told_ordered}
use Rattle.kapi_store.proofs.VersionTexts.{version_spliced}
use Rattle.kapi_store.proofs.stored.StoredObject.text_at.Goals as goal

pub returns-in-Some : goal.returns-in-Some
returns-in-Some c =
    let s = c.args.self.now in
    let own : c.as_str-2.result.now ≡ version_text s.revision = c.as_str-2.ensures.value ∙ c.in_ok-own.ensures in
    let text : c.as_str.result.now ≡ compact_text (stored_tree s) = c.as_str.ensures ∙ s.canonical in
    let other : c.as_str-in-Some.result.now ≡ version_text c.args.revision = c.as_str-in-Some.ensures.value ∙ c.in_ok-other-in-Some.ensures in
    c.in_ok-joined-in-Some.ensures ∙ ap (λ t. c.in-Some.before.now ++ (t ++ c.in-Some.behind.now)) other
    ∙ version_spliced s.revision c.args.revision (stored_tree s) c.in-Some.before.now c.in-Some.behind.now (told_ordered s.text s.reads) s.versioned
    (λ a b is. c.in-Some.ensures.once a b (text ∙ is ∙ ap (λ p. a ++ (p ++ b)) (sym own)))
