-- What a check gives of each item.
use Rattle.std.specs.Prelude.{List, [], ◌∷◌, Result, Ok}
use Rattle.kapi_text.specs.ResultIs.{◌>>=◌}

-- the result of each item in order, or the first fault
unfoldable pub each : {X Y F : Type 0} → (X → Result Y F) → List X → Result (List Y) F
each f [] = Ok []
each f (x ∷ xs) = f x >>= λ y. each f xs >>= λ ys. Ok (y ∷ ys)
