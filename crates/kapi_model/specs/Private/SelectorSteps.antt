-- How a selector's tokens are gone through, one piece or value after another.
use Rattle.std.specs.Prelude.{ℕ, ◌==◌, false, if◌then◌else◌, List, [], ◌∷◌, length, Option, Some, None, Result, Ok, Err}
use Rattle.kapi_text.specs.ResultIs.{◌>>=◌}
use Rattle.kapi_model.specs.SelectorText.{Fault, syntax, first_value, listed, pieces}
use Rattle.kapi_model.specs.declared.selector_token.Token.{Token}
use Rattle.kapi_model.specs.declared.selector_token.Token.TheVariants.{Close, Comma}

-- the pieces of the tokens that are left, if a comma comes before them
abbrev pub pieces_left : Option (List Token) → List (List Token)
pieces_left None = []
pieces_left (Some ts) = pieces false ts

-- the tokens behind a value: those of other values behind a comma, or none behind the `)` that ends the requirement
abbrev pub behind_value : List Token → Result (Option (List Token)) Fault
behind_value (Close ∷ ts) = if length ts == 0 then Ok None else Err syntax
behind_value (Comma ∷ ts) = Ok (Some ts)
behind_value ts = Err syntax

-- the values that are left, if there may be some
abbrev pub values_left : Option (List Token) → Result (List (List ℕ)) Fault
values_left None = Ok []
values_left (Some ts) = listed ts

-- a value, and the values that the tokens behind it list
abbrev pub value_and : List ℕ → List Token → Result (List (List ℕ)) Fault
value_and v ts = behind_value ts >>= λ left. first_value v (values_left left)
