use Rattle.std.proofs.Common.{ap, sym, ◌∙◌}
use Rattle.std.proofs.lemmas.Slice.Eq.{bytes_eq-Decides}
use Rattle.kapi_store.proofs.SameText.{same_by_text}
use Rattle.kapi_store.proofs.stored.StoredObject.is_same.Goals as goal

pub returns-then-self-other-2 : goal.returns-then-self-other-2
returns-then-self-other-2 c =
    let texts = bytes_eq-Decides c.args.self.now.text c.args.other.now.text in (
      λ yes. same_by_text c.args.self.now c.args.other.now c.if-self-other.true c.if-self-other-2.true (texts.0 (sym c.eq.ensures ∙ yes)),
      λ same. c.eq.ensures ∙ texts.1 (ap (λ s. s.text) same),
    )
