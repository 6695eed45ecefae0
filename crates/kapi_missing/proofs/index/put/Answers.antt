use Rattle.std.proofs.Common.{◌∙◌, false, ap}
use Rattle.std.proofs.lemmas.Map.Text.{is_eq-slice_cmp}
use Rattle.std.specs.Option.{option_map_or}
use Rattle.kapi_missing.proofs.Under.{put_under}
use Rattle.kapi_missing.specs.Private.Numbers.{has}
use Rattle.kapi_missing.proofs.index.put.Goals as goal

pub returns : goal.returns
returns c = λ text n.
    put_under c.args.sets.now c.insert.new.self c.args.key.now text c.args.this.number n c.taken-numbers.result c.add.new.numbers
    (c.taken-numbers.ensures.those n) (c.in_ok-add.ensures n) (ap (λ o. option_map_or (λ s. has s n) o false) c.in_ok-insert.ensures.updates.1)
    (λ other. ap (λ o. option_map_or (λ s. has s n) o false) (c.in_ok-insert.ensures.updates.2 (record c.args.key { now = text }) (is_eq-slice_cmp c.args.key.now text ∙ other)) ∙ c.taken-numbers.ensures.others text n other)
