use Rattle.std.proofs.Common.{◌∙◌, ap, drop, find}
use Rattle.std.specs.Str.{bytes_eq}
use Rattle.std.proofs.lemmas.Bool.{and_parts}
use Rattle.kapi_store.specs.Rows.{is_of}
use Rattle.kapi_store.proofs.FirstRows.{found_from}
use Rattle.kapi_store.proofs.rows.Rows.find.Goals as goal

pub returns : goal.returns
returns c =
    let wanted = is_of c.args.group.now c.args.version.now c.args.plural.now in
    let list = c.args.self.now in
    c.first_of.ensures ∙ ap (find wanted) (c.from-rows.ensures ∙ ap (drop c.start.result) (c.as_slice.ensures ∙ c.self.view_is))
    ∙ found_from wanted (λ r. bytes_eq r.plural c.args.plural.now) (λ r h. (and_parts _ _ (and_parts _ _ h).1).1) list c.start.result c.start.ensures
