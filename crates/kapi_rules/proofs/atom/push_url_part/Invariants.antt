use Rattle.std.proofs.Common.{◌≡◌, ◌++◌, take}
use Rattle.std.specs.List.{flat_map}
use Rattle.kapi_rules.specs.Atoms.{url_atoms}
use Rattle.kapi_rules.proofs.atom.push_url_part.Given as goal

abbrev pub invariant-loop-url : goal.invariant-loop-url
invariant-loop-url l = l.list.items ≡ l.initial.list.items ++ flat_map (url_atoms l.rule) (take l.url-index l.url-items)
