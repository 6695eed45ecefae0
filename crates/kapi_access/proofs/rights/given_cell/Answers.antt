use Rattle.std.proofs.Common.{◌≡◌, ◌∙◌, ap, arith, codes, map, string_bytes}
use Rattle.std.proofs.lemmas.Grind.{common_steps}
use Rattle.kapi_access.specs.Rights.{given_text}
use Rattle.kapi_access.proofs.Lists.{joined_by}
use Rattle.kapi_access.proofs.rights.given_cell.Goals as goal

pub returns : goal.returns
returns c =
    let texts : map string_bytes c.deref.result.now ≡ map given_text c.args.list.now = grind (arith, common_steps) in
    c.new.ensures ∙ ap (λ v. v.items) c.into_bytes.ensures.value ∙ c.in_ok-join.ensures.ok ∙ joined_by string_bytes (codes "; ") c.deref.result.now _ texts
