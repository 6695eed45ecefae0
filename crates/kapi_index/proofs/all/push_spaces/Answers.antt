use Rattle.std.proofs.Common.{ap, map, string_bytes, ◌∙◌, ◌++◌}
use Rattle.kapi_policy.specs.All.{bindings_in_namespaces}
use Rattle.kapi_policy.specs.Views.{binding_of}
use Rattle.kapi_index.proofs.EachBinding.{one_space}
use Rattle.kapi_index.specs.Contents.{bindings_in, bindings_of_space, by_text, in_all}
use Rattle.kapi_index.proofs.all.push_spaces.Goals as goal

pub loop-name-preserved : goal.loop-name-preserved
loop-name-preserved c =
    one_space (map binding_of c.loop-name.list.items) _ _ (bindings_in_namespaces (in_all bindings_in (by_text c.args.spaces.now.entries))) (string_bytes c.in-Some.name.now) c.in-Some.space.now _ _
    (ap by_text c.in-Some.ensures.steps) c.loop-name.invariant
    (c.in_ok-push_space.ensures ∙ ap (λ n. map binding_of c.loop-name.list.items ++ bindings_of_space n c.in-Some.space.now) c.as_str.ensures.value)
