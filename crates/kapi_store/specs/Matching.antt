-- A selector in the form in which an object's labels are looked up in it.
use Rattle.std.specs.Prelude.{◌≡◌, List, [], ◌∷◌, None}
use Rattle.kapi_model.specs.Selector.{matches_values, value_in}
use Rattle.kapi_model.specs.declared.selector.Label.{Label}
use Rattle.kapi_model.specs.declared.selector.Selector.{Selector}
use Rattle.kapi_store.specs.declared.matcher.Matcher.{Matcher}
use Rattle.kapi_store.specs.Private.Matching.{meets}

-- no two labels have one key
abbrev pub AreDistinct : List Label → Type 0
AreDistinct [] = Unit {0}
AreDistinct (l ∷ ls) = (value_in ls l.key ≡ None) × AreDistinct ls

-- the form of a selector matches the labels that the selector matches
abbrev pub Meets : Matcher → Selector → Type 0
Meets m selector = (labels : List Label) → AreDistinct labels → meets m labels ≡ matches_values selector (value_in labels)
