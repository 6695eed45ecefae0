use Rattle.std.proofs.Common.{◌∙◌, ◌+◌, ap, length, refl, subst, sym}
use Rattle.std.specs.List.{IsDistinct}
use Rattle.kapi_store.specs.Keys.{is_key}
use Rattle.kapi_store.specs.Plain.{plain_of}
use Rattle.kapi_answer.proofs.Listed.{deletion_told, shown_keys}
use Rattle.kapi_answer.proofs.collection.delete_listed.Goals as goal

pub returns-in_ok-list_text-in-Ok-clause-gives : goal.returns-in_ok-list_text-in-Ok-clause-gives
returns-in_ok-list_text-in-Ok-clause-gives c =
    deletion_told (plain_of c.args.store.now) c.args.row.now c.args.listed.now (length c.args.listed.now) (c.revision.result + length c.args.listed.now)
    c.in_ok-name.name c.in_ok-list_text-in-Ok.field-0.items c.in_ok-keys_of-in-Ok.field-0.items
    c.in-Ok.ensures.gives refl c.in_ok-name.ensures c.in_ok-keys_of-in-Ok.ensures c.in_ok-list_text-in-Ok.ensures
    (ap (λ r. r + length c.args.listed.now) c.revision.ensures.number)

pub returns-in_ok-list_text-in-Ok-clause-distinct : goal.returns-in_ok-list_text-in-Ok-clause-distinct
returns-in_ok-list_text-in-Ok-clause-distinct c =
    subst (IsDistinct is_key) (shown_keys c.args.listed.now ∙ sym c.in_ok-keys_of-in-Ok.ensures) c.requires
