use Rattle.std.proofs.Common.{◌≡◌, ◌++◌, map}
use Rattle.kapi_policy.specs.All.{bindings_in_namespaces}
use Rattle.kapi_policy.specs.Views.{binding_of}
use Rattle.kapi_index.specs.Contents.{bindings_in, by_text, in_all}
use Rattle.kapi_index.proofs.all.push_spaces.Given as goal

abbrev pub invariant-loop-name : goal.invariant-loop-name
invariant-loop-name l =
    map binding_of l.list.items ++ bindings_in_namespaces (in_all bindings_in (by_text l.name-iterator))
    ≡ map binding_of l.initial.list.items ++ bindings_in_namespaces (in_all bindings_in (by_text l.spaces.entries))
