-- Lists of clients whose numbers rise, and what stands of each as one is changed, added or taken away.
use Rattle.std.proofs.Common.{◌≡◌, ℕ, ◌<◌, ◌≤◌, suc, zero, List, [], ◌∷◌, ◌++◌, length, length-set, get_or, set, inl, inr, sym, subst, arith}
use Rattle.std.specs.Prelude.{◌⊎◌, ◌+◌, ◌-◌}
use Rattle.std.specs.List.{AllByRecursion, HoldsAt, remove}
use Rattle.std.proofs.Math.Seq.{get_or-append_seam}
use Rattle.std.proofs.lemmas.Bool.{cases_eq, cases_lt}
use Rattle.std.proofs.lemmas.Grind.{get_or-set_at}
use Rattle.std.proofs.lemmas.List.{get_or_append_left, get_or-set_other, length-append}
use Rattle.std.proofs.lemmas.List.Edits.{get_or-remove_above, get_or-remove_below, length-remove}
use Rattle.kapi_serve.specs.declared.clients.Awake.{Awake}
use Rattle.kapi_serve.specs.declared.client.Client.{Client}
use Rattle.kapi_serve.specs.Private.ClientsMatch.{AreAsleep, IsQuiet, IsWithin, Rise}

-- ---- each client

pub each_at : (P : Client → Type 0) (cs : List Client) (i : ℕ) (d : Client) → AllByRecursion P cs → i < length cs → P (get_or cs i d)
each_at P [] i d all below = absurd (omega (arith, below))
each_at P (c ∷ cs) zero d all below = all.0
each_at P (c ∷ cs) (suc i) d all below = each_at P cs i d all.1 (omega (arith, below))

pub each_to : (P Q : Client → Type 0) (cs : List Client) → ((c : Client) → P c → Q c) → AllByRecursion P cs → AllByRecursion Q cs
each_to P Q [] f all = tt
each_to P Q (c ∷ cs) f all = (f c all.0, each_to P Q cs f all.1)

pub each_both : (P Q R : Client → Type 0) (cs : List Client) → ((c : Client) → P c → Q c → R c) → AllByRecursion P cs → AllByRecursion Q cs → AllByRecursion R cs
each_both P Q R [] f all also = tt
each_both P Q R (c ∷ cs) f all also = (f c all.0 also.0, each_both P Q R cs f all.1 also.1)

pub each_more : (P : Client → Type 0) (cs : List Client) (e : Client) → AllByRecursion P cs → P e → AllByRecursion P (cs ++ e ∷ [])
each_more P [] e all one = (one, tt)
each_more P (c ∷ cs) e all one = (all.0, each_more P cs e all.1 one)

pub each_put : (P : Client → Type 0) (cs : List Client) (i : ℕ) (e : Client) → AllByRecursion P cs → P e → AllByRecursion P (set cs i e)
each_put P [] zero e all one = tt
each_put P [] (suc i) e all one = tt
each_put P (c ∷ cs) zero e all one = (one, all.1)
each_put P (c ∷ cs) (suc i) e all one = (all.0, each_put P cs i e all.1 one)

pub each_kept : (P : Client → Type 0) (cs : List Client) (i : ℕ) → AllByRecursion P cs → AllByRecursion P (remove cs i)
each_kept P [] zero all = tt
each_kept P [] (suc i) all = tt
each_kept P (c ∷ cs) zero all = all.1
each_kept P (c ∷ cs) (suc i) all = (all.0, each_kept P cs i all.1)

-- ---- clients whose numbers rise

-- one is changed, and the others have other numbers
pub each_set : (P Q : Client → Type 0) (cs : List Client) (i : ℕ) (d e : Client) → Rise cs → i < length cs → ((c : Client) → (c.id.0 ≡ (get_or cs i d).id.0 → ⊥) → P c → Q c) → AllByRecursion P cs → Q e
    → AllByRecursion Q (set cs i e)
unfolding Rise
each_set P Q [] i d e rise below f all one = absurd (omega (arith, below))
each_set P Q (c ∷ cs) zero d e rise below f all one = (one, each_both (λ y. c.id.0 < y.id.0) P Q cs (λ y less p. f y (λ same. omega (arith, less, same)) p) rise.0 all.1)
each_set P Q (c ∷ cs) (suc i) d e rise below f all one =
    let inside : i < length cs = omega (arith, below) in
    let less : c.id.0 < (get_or cs i d).id.0 = each_at (λ y. c.id.0 < y.id.0) cs i d rise.0 inside in
    (f c (λ same. omega (arith, less, same)) all.0, each_set P Q cs i d e rise.1 inside f all.1 one)

-- one is taken away
pub each_left : (P Q : Client → Type 0) (cs : List Client) (i : ℕ) (d : Client) → Rise cs → i < length cs → ((c : Client) → (c.id.0 ≡ (get_or cs i d).id.0 → ⊥) → P c → Q c) → AllByRecursion P cs
    → AllByRecursion Q (remove cs i)
unfolding Rise
each_left P Q [] i d rise below f all = absurd (omega (arith, below))
each_left P Q (c ∷ cs) zero d rise below f all = each_both (λ y. c.id.0 < y.id.0) P Q cs (λ y less p. f y (λ same. omega (arith, less, same)) p) rise.0 all.1
each_left P Q (c ∷ cs) (suc i) d rise below f all =
    let inside : i < length cs = omega (arith, below) in
    let less : c.id.0 < (get_or cs i d).id.0 = each_at (λ y. c.id.0 < y.id.0) cs i d rise.0 inside in
    (f c (λ same. omega (arith, less, same)) all.0, each_left P Q cs i d rise.1 inside f all.1)

pub rise_set : (cs : List Client) (i : ℕ) (d e : Client) → Rise cs → i < length cs → e.id ≡ (get_or cs i d).id → Rise (set cs i e)
unfolding Rise
rise_set [] i d e rise below same = absurd (omega (arith, below))
rise_set (c ∷ cs) zero d e rise below same = (subst (λ k. AllByRecursion (λ y. k.0 < y.id.0) cs) (sym same) rise.0, rise.1)
rise_set (c ∷ cs) (suc i) d e rise below same =
    let inside : i < length cs = omega (arith, below) in
    (each_put (λ y. c.id.0 < y.id.0) cs i e rise.0 (subst (λ k. c.id.0 < k.0) (sym same) (each_at (λ y. c.id.0 < y.id.0) cs i d rise.0 inside)), rise_set cs i d e rise.1 inside same)

pub rise_left : (cs : List Client) (i : ℕ) → Rise cs → Rise (remove cs i)
unfolding Rise
rise_left [] zero rise = tt
rise_left [] (suc i) rise = tt
rise_left (c ∷ cs) zero rise = rise.1
rise_left (c ∷ cs) (suc i) rise = (each_kept (λ y. c.id.0 < y.id.0) cs i rise.0, rise_left cs i rise.1)

pub rise_more : (cs : List Client) (e : Client) → Rise cs → AllByRecursion (λ y. y.id.0 < e.id.0) cs → Rise (cs ++ e ∷ [])
unfolding Rise
rise_more [] e rise below = (tt, tt)
rise_more (c ∷ cs) e rise below = (each_more (λ y. c.id.0 < y.id.0) cs e rise.0 below.0, rise_more cs e rise.1 below.1)

pub rise_less : (cs : List Client) (i j : ℕ) (d : Client) → Rise cs → i < j → j < length cs → (get_or cs i d).id.0 < (get_or cs j d).id.0
unfolding Rise
rise_less [] i j d rise less below = absurd (omega (arith, below))
rise_less (c ∷ cs) i zero d rise less below = absurd (omega (arith, less))
rise_less (c ∷ cs) zero (suc j) d rise less below = each_at (λ y. c.id.0 < y.id.0) cs j d rise.0 (omega (arith, below))
rise_less (c ∷ cs) (suc i) (suc j) d rise less below = rise_less cs i j d rise.1 (omega (arith, less)) (omega (arith, below))

-- ---- by place

pub each_by_place : (P : Client → Type 0) (cs : List Client) → ((i : ℕ) → i < length cs → HoldsAt P cs i) → AllByRecursion P cs
each_by_place P [] f = tt
each_by_place P (c ∷ cs) f = (f 0 (omega arith) c, each_by_place P cs (λ i below. f (suc i) (omega (arith, below))))

-- more places are awake
pub asleep_more : (aw bw : Awake) (cs : List Client) → ((i : ℕ) → IsWithin aw i → IsWithin bw i) → AreAsleep aw cs → AreAsleep bw cs
asleep_more aw bw cs more asleep i below = elim (asleep i below) [ inl within ↦ inl (more i within) | inr quiet ↦ inr quiet ]

-- one is changed, whose place is awake or which is quiet
pub asleep_set : (aw : Awake) (cs : List Client) (i : ℕ) (e : Client) → IsWithin aw i ⊎ IsQuiet e → AreAsleep aw cs → AreAsleep aw (set cs i e)
asleep_set aw cs i e here asleep j below = by_place (subst (λ n. j < n) (length-set cs i e) below) (cases_eq j i)
  where
    by_place : j < length cs → (j ≡ i) ⊎ (j ≡ i → ⊥) → IsWithin aw j ⊎ HoldsAt (λ c. IsQuiet c) (set cs i e) j
    by_place inside (inl same) = elim here [
      | inl within ↦ inl (subst (λ k. IsWithin aw k) (sym same) within)
      | inr quiet ↦ inr (λ d. subst (λ c. IsQuiet c) (sym (get_or-set_at cs i j e d same (subst (λ k. k < length cs) same inside))) quiet)
    ]
    by_place inside (inr never) = elim (asleep j inside) [
      | inl within ↦ inl within
      | inr quiet ↦ inr (λ d. subst (λ c. IsQuiet c) (sym (get_or-set_other cs i j e d never)) (quiet d))
    ]

-- one leaves, and those behind it move up
pub asleep_left : (aw : Awake) (cs : List Client) (i : ℕ) → i < length cs → AreAsleep aw cs → AreAsleep (record aw { start = aw.start - 1 }) (remove cs i)
asleep_left aw cs i inside asleep j below = by_place (cases_lt j i)
  where
    by_place : (j < i) ⊎ (i ≤ j) → IsWithin (record aw { start = aw.start - 1 }) j ⊎ HoldsAt (λ c. IsQuiet c) (remove cs i) j
    by_place (inl before) = elim (asleep j (omega (arith, before, inside))) [
      | inl within ↦ inl (omega (arith, within.0), within.1)
      | inr quiet ↦ inr (λ d. subst (λ c. IsQuiet c) (sym (get_or-remove_below cs i d j before inside)) (quiet d))
    ]
    by_place (inr behind) = elim (asleep (j + 1) (omega (arith, below, length-remove cs i inside))) [
      | inl within ↦ inl (omega (arith, within.0), omega (arith, within.1))
      | inr quiet ↦ inr (λ d. subst (λ c. IsQuiet c) (sym (get_or-remove_above cs i d j behind inside)) (quiet d))
    ]

-- a quiet one comes
pub asleep_came : (aw : Awake) (cs : List Client) (e : Client) → IsQuiet e → AreAsleep aw cs → AreAsleep aw (cs ++ e ∷ [])
asleep_came aw cs e new asleep j below = by_place (cases_lt j (length cs))
  where
    by_place : (j < length cs) ⊎ (length cs ≤ j) → IsWithin aw j ⊎ HoldsAt (λ c. IsQuiet c) (cs ++ e ∷ []) j
    by_place (inl before) = elim (asleep j before) [
      | inl within ↦ inl within
      | inr quiet ↦ inr (λ d. subst (λ c. IsQuiet c) (sym (get_or_append_left cs (e ∷ []) d j before)) (quiet d))
    ]
    by_place (inr behind) =
        let last : length cs ≡ j = omega (arith, behind, below, length-append cs (e ∷ [])) in
        inr (λ d. subst (λ k. IsQuiet (get_or (cs ++ e ∷ []) k d)) last (subst (λ c. IsQuiet c) (sym (get_or-append_seam cs e [] d)) new))
