use Rattle.std.proofs.Common.{◌≡◌, ◌∷◌, ◌++◌, [], string_bytes, take}
use Rattle.std.specs.List.{flat_map}
use Rattle.kapi_access.proofs.merge_rules.push_list.Given as goal

abbrev pub invariant-loop-text : goal.invariant-loop-text
invariant-loop-text l = string_bytes l.key ≡ string_bytes l.initial.key ++ flat_map (λ t. t ++ 10 ∷ []) (take l.text-index l.texts)
