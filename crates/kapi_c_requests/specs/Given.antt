-- A number and a text, which are given to a call.
use Rattle.std.specs.Prelude.{ℕ, Bool, true, false, List}

pub record Given : Type 0 where
  pub number : ℕ
  pub text : List ℕ

abbrev pub bit : Bool → ℕ
bit true = 1
bit false = 0
