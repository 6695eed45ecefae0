-- Policies after lists of steps, and lists of one thing.
use Rattle.std.proofs.Common.{◌≡◌, ℕ, zero, suc, ◌+◌, List, [], ◌∷◌, ◌++◌, refl, ap, replicate, add-one}
use Rattle.kapi_policy.specs.declared.change.PolicyChange.{PolicyChange}
use Rattle.kapi_policy.specs.Objects.{PolicyObjects}
use Rattle.kapi_policy.specs.Steps.{after_changes}
use Rattle.kapi_publishing.specs.Steps.{after}

pub after_none : (p : PolicyObjects) → after p [] ≡ p
unfolding after
after_none p = refl

-- steps after steps
pub after_more : (p : PolicyObjects) (xs ys : List (List PolicyChange)) → after p (xs ++ ys) ≡ after (after p xs) ys
unfolding after
after_more p [] ys = refl
after_more p (x ∷ xs) ys = after_more (after_changes x p) xs ys

pub after_one : (p : PolicyObjects) (step : List PolicyChange) → after p (step ∷ []) ≡ after_changes step p
unfolding after
after_one p step = refl

replicate_suc : {A : Type 0} → (n : ℕ) (x : A) → replicate n x ++ x ∷ [] ≡ replicate (suc n) x
replicate_suc zero x = refl
replicate_suc (suc n) x = ap (λ l. x ∷ l) (replicate_suc n x)

pub replicate_snoc : {A : Type 0} → (n : ℕ) (x : A) → replicate n x ++ x ∷ [] ≡ replicate (n + 1) x
replicate_snoc n x = rw add-one (replicate_suc n x)
