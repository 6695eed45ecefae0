-- A version without a slash is of the core group.
use Rattle.std.proofs.Common.{◌≡◌, ℕ, ◌+◌, List, [], ◌∷◌, length, Bool, true, false, not, cond, ◌||◌, ◌==◌, refl, arith}
use Rattle.std.specs.List.{list_any, position_or_len}
use Rattle.kapi_manifests.specs.Kinds.{group_of}

-- if no element is the first that passes, none passes
none_passes : (p : ℕ → Bool) (xs : List ℕ) → position_or_len p xs ≡ length xs → list_any p xs ≡ false
none_passes p [] = λ h. refl
none_passes p (x ∷ xs) =
    elim (p x) as (λ b. cond (not b) (1 + position_or_len p xs) 0 ≡ length (x ∷ xs) → (b || list_any p xs) ≡ false) [
      | true ↦ λ h. absurd (omega arith)
      | false ↦ λ h. none_passes p xs (omega arith)
    ]

pub core_group : (version : List ℕ) → position_or_len (λ b. b == 47) version ≡ length version → [] ≡ group_of version
unfolding group_of
core_group version h = rw (none_passes (λ b. b == 47) version h) refl
