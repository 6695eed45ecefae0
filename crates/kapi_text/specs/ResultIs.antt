-- The result of a fallible call: that of its definition, unless it is out of memory.
use Rattle.std.specs.Prelude.{◌≡◌, Option, Some, None, Result, Ok, Err}

-- a call failed with that fault, if the definition returns it; nothing is said where it is out of memory
abbrev pub Fails : {Y F : Type 0} → Option F → Result Y F → Type 0
Fails None given = Unit {0}
Fails (Some fault) given = given ≡ Err fault

-- what was returned, under its view, is what the definition returns; a view of the errors reports the fault of each,
-- and none if out of memory
abbrev pub ResultIs : {X Y E F : Type 0} → (E → Option F) → (X → Y) → Result X E → Result Y F → Type 0
ResultIs fault view (Ok x) given = given ≡ Ok (view x)
ResultIs fault view (Err e) given = Fails (fault e) given

infixl 10 ◌>>=◌
-- a check after another: the first that fails decides
abbrev pub ◌>>=◌ : {A B F : Type 0} → Result A F → (A → Result B F) → Result B F
(Ok x) >>= f = f x
(Err e) >>= f = Err e
