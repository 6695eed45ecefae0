use Rattle.std.proofs.Common.{◌∙◌, ap, sym}
use Rattle.kapi_store.specs.Private.Hidden.{visible}
use Rattle.kapi_store.proofs.SlotSteps.{all_visible, visible_swept}
use Rattle.kapi_store.proofs.slots.sweep.Goals as goal

pub returns-in-Some-clause-objects : goal.returns-in-Some-clause-objects
returns-in-Some-clause-objects c =
    let es = c.args.slots.now.entries in
    c.remove.ensures.entries ∙ visible_swept c.in-Some.slot es c.requires ∙ ap (λ hidden. visible hidden es) (sym c.in-Some.is)

pub returns-in-None-clause-objects : goal.returns-in-None-clause-objects
returns-in-None-clause-objects c =
    let es = c.args.slots.now.entries in
    sym (all_visible es) ∙ ap (λ hidden. visible hidden es) (sym c.in-None.is)
