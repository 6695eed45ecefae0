use Rattle.std.proofs.Common.{◌≡◌, ◌∙◌, ap, map}
use Rattle.std.proofs.lemmas.Result.{IfOk-weaker}
use Rattle.kapi_policy.specs.Views.{binding_of}
use Rattle.kapi_paths.specs.Printed.{printed}
use Rattle.kapi_paths.specs.Rights.{rights_without, row_of}
use Rattle.kapi_paths.proofs.Printing.{answered}
use Rattle.kapi_paths.proofs.printed.answer_paths.Goals as goal

pub returns : goal.returns
returns g c =
    let rights : map row_of c.as_slice.result.now ≡ rights_without c.args.without.now = ap (map row_of) c.as_slice.ensures.value ∙ c.in_ok-rights.ensures in
    IfOk-weaker c.text_of.result _ _
    (λ v is. answered (g.P.Policy.content c.args.policy.now) (map binding_of c.args.bindings.now) c.in_ok-bound.bound c.in_ok-known.known (rights_without c.args.without.now) (map row_of c.as_slice.result.now)
    c.args.form c.args.to.now v.items c.in_ok-paths.paths.items c.in_ok-bound.ensures c.in_ok-known.ensures rights c.in_ok-paths.ensures.each c.in_ok-paths.ensures.once c.in_ok-paths.ensures.listed
    (is ∙ ap (printed (g.P.Policy.content c.args.policy.now) c.in_ok-bound.bound c.in_ok-known.known (map row_of c.as_slice.result.now) c.args.form c.args.to.now) c.as_slice-2.ensures.value)) c.text_of.ensures
