-- A label's key with a slash, and one without.
use Rattle.std.proofs.Common.{◌≡◌, ℕ, ◌+◌, ◌<◌, List, [], ◌∷◌, length, Bool, true, false, not, cond, ◌||◌, ◌&&◌, ◌==◌, refl, arith}
use Rattle.std.specs.List.{list_any, position_or_len, before_first, after_first}
use Rattle.kapi_model.specs.Names.{is_dns_subdomain, is_label_name, is_label_key}

-- if no element is the first that passes, none passes
none_passes : (p : ℕ → Bool) (xs : List ℕ) → position_or_len p xs ≡ length xs → list_any p xs ≡ false
none_passes p [] = λ h. refl
none_passes p (x ∷ xs) =
    elim (p x) as (λ b. cond (not b) (1 + position_or_len p xs) 0 ≡ length (x ∷ xs) → (b || list_any p xs) ≡ false) [
      | true ↦ λ h. absurd (omega arith)
      | false ↦ λ h. none_passes p xs (omega arith)
    ]

-- if an element is the first that passes, some passes
some_passes : (p : ℕ → Bool) (xs : List ℕ) → position_or_len p xs < length xs → list_any p xs ≡ true
some_passes p [] = λ h. absurd (omega arith)
some_passes p (x ∷ xs) =
    elim (p x) as (λ b. cond (not b) (1 + position_or_len p xs) 0 < length (x ∷ xs) → (b || list_any p xs) ≡ true) [
      | true ↦ λ h. refl
      | false ↦ λ h. some_passes p xs (omega arith)
    ]

pub key_without_slash : (s : List ℕ) → position_or_len (λ b. b == 47) s ≡ length s → is_label_key s ≡ is_label_name s
unfolding is_label_key
key_without_slash s h = rw (none_passes (λ b. b == 47) s h) refl

pub key_with_slash : (s : List ℕ) → position_or_len (λ b. b == 47) s < length s
    → is_label_key s ≡ (is_dns_subdomain (before_first (λ b. b == 47) s) && is_label_name (after_first (λ b. b == 47) s))
unfolding is_label_key
key_with_slash s h = rw (some_passes (λ b. b == 47) s h) refl
