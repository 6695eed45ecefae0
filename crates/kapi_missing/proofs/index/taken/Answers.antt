use Rattle.std.proofs.Common.{◌∙◌, false, ap}
use Rattle.std.proofs.lemmas.Map.Text.{is_eq-slice_cmp}
use Rattle.std.specs.Option.{option_map_or}
use Rattle.kapi_missing.specs.Private.Numbers.{has}
use Rattle.kapi_missing.proofs.index.taken.Goals as goal

pub returns-in-Some-clause-others : goal.returns-in-Some-clause-others
returns-in-Some-clause-others c = λ text n other.
    ap (λ o. option_map_or (λ s. has s n) o false) (c.remove.ensures.updates.2 (record c.args.key { now = text }) (is_eq-slice_cmp c.args.key.now text ∙ other))
