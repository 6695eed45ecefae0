-- Whose paths are looked for.
use Rattle.std.specs.Prelude.{List, map}
use Rattle.std.specs.List.{flat_map}
use Rattle.kapi_policy.specs.Decided.{Binding}
use Rattle.kapi_paths.specs.Steps.{who_is}
use Rattle.kapi_paths.specs.declared.node.Node.{Node}

-- the subjects of a binding
unfoldable pub subjects_of : Binding → List Node
subjects_of b = map (who_is b.namespace) b.subjects

-- the subjects of all of them
abbrev pub sources : List Binding → List Node
sources bindings = flat_map subjects_of bindings
