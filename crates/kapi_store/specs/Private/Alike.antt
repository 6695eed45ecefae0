-- Labels that are the same, as a test.
use Rattle.std.specs.Prelude.{Bool, true, false, ◌&&◌, List, [], ◌∷◌}
use Rattle.std.specs.Str.{bytes_eq}
use Rattle.kapi_model.specs.declared.selector.Label.{Label}

-- the same key and the same value
abbrev pub same_label : Label → Label → Bool
same_label l m = bytes_eq l.key m.key && bytes_eq l.value m.value

-- the same labels, in the same order
abbrev pub same_labels : List Label → List Label → Bool
same_labels [] [] = true
same_labels [] (m ∷ ms) = false
same_labels (l ∷ ls) [] = false
same_labels (l ∷ ls) (m ∷ ms) = same_label l m && same_labels ls ms
