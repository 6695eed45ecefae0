-- A text without a colon names no service account.
use Rattle.std.proofs.Common.{◌≡◌, ℕ, ◌+◌, List, [], ◌∷◌, length, Bool, true, false, not, cond, ◌||◌, ◌==◌, None, refl, arith}
use Rattle.std.specs.List.{list_any, position_or_len}
use Rattle.kapi_escalation.specs.Impersonation.{account_in}

-- if no element is the first that passes, none passes
none_passes : (p : ℕ → Bool) (xs : List ℕ) → position_or_len p xs ≡ length xs → list_any p xs ≡ false
none_passes p [] = λ h. refl
none_passes p (x ∷ xs) =
    elim (p x) as (λ b. cond (not b) (1 + position_or_len p xs) 0 ≡ length (x ∷ xs) → (b || list_any p xs) ≡ false) [
      | true ↦ λ h. absurd (omega arith)
      | false ↦ λ h. none_passes p xs (omega arith)
    ]

pub no_account : (text : List ℕ) → position_or_len (λ b. b == 58) text ≡ length text → None ≡ account_in text
unfolding account_in
no_account text h = rw (none_passes (λ b. b == 58) text h) refl
