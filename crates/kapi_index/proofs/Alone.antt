-- One name alone, put in and taken out.
use Rattle.std.proofs.Common.{◌≡◌, ◌∙◌, ℕ, Bool, true, false, not, ◌&&◌, ◌||◌, List, [], ◌∷◌, Option, Some, None, refl, sym, ap, bytes_eq}
use Rattle.std.specs.List.Sorted.{IsStrictlySortedBy}
use Rattle.std.proofs.lemmas.Map.Text.{is_eq-slice_cmp}
use Rattle.std.proofs.lemmas.Slice.Eq.{bytes_eq-Decides}
use Rattle.kapi_policy.specs.Objects.{name_cmp}
use Rattle.kapi_text.proofs.Booleans.{or_false, turned}
use Rattle.kapi_index.specs.Listed.{is_listed}
use Rattle.kapi_index.specs.NamesOf.{names_in}
use Rattle.kapi_index.specs.declared.names.Names.{Names}
use Rattle.kapi_index.specs.declared.names.Names.TheVariants.{Few, Many}

alone_listed : (one n : List ℕ) → is_listed n (one ∷ []) ≡ bytes_eq one n
alone_listed one n = or_false _ ∙ is_eq-slice_cmp n one ∙ turned n one

abbrev pub IsSorted : Names → Type 0
IsSorted s = IsStrictlySortedBy name_cmp (names_in s)

pub few_sorted : (o : Option (List ℕ)) → IsStrictlySortedBy name_cmp (names_in (Few o))
unfolding IsStrictlySortedBy
few_sorted None = tt
few_sorted (Some name) = (tt, tt)

module _ (before after : Names) (now : List (List ℕ)) (seen : names_in before ≡ now) where
  pub put_first : (name : List ℕ) → before ≡ Few None → after ≡ Few (Some name) → (n : List ℕ) → is_listed n (names_in after) ≡ (bytes_eq name n || is_listed n now)
  put_first name was is n =
      ap (λ s. is_listed n (names_in s)) is ∙ alone_listed name n ∙ sym (or_false (bytes_eq name n))
      ∙ ap (λ l. bytes_eq name n || is_listed n l) (sym (ap names_in was) ∙ seen)

  pub put_second : (name one : List ℕ) (tree : List (List ℕ)) → before ≡ Few (Some one) → after ≡ Many tree
      → ((n : List ℕ) → is_listed n tree ≡ (bytes_eq name n || bytes_eq one n)) → (n : List ℕ) → is_listed n (names_in after) ≡ (bytes_eq name n || is_listed n now)
  put_second name one tree was is two n =
      ap (λ s. is_listed n (names_in s)) is ∙ two n ∙ ap (λ b. bytes_eq name n || b) (sym (alone_listed one n))
      ∙ ap (λ l. bytes_eq name n || is_listed n l) (sym (ap names_in was) ∙ seen)

  -- the names after the one name is taken out, and after another is
  pub taken_out : (name one : List ℕ) → before ≡ Few (Some one) → after ≡ Few None → bytes_eq one name ≡ true
      → (n : List ℕ) → is_listed n (names_in after) ≡ (is_listed n now && not (bytes_eq name n))
  taken_out name one was is equal n =
      ap (λ s. is_listed n (names_in s)) is ∙ no_more (bytes_eq name n)
      ∙ ap (λ b. b && not (bytes_eq name n)) (sym (ap (λ x. bytes_eq x n) ((bytes_eq-Decides one name).0 equal)) ∙ sym (alone_listed one n) ∙ ap (is_listed n) (sym (ap names_in was) ∙ seen))
    where
      no_more : (b : Bool) → false ≡ (b && not b)
      no_more true = refl
      no_more false = refl

  pub left_in : (name one : List ℕ) → before ≡ Few (Some one) → bytes_eq one name ≡ false
      → (n : List ℕ) → is_listed n (one ∷ []) ≡ (is_listed n now && not (bytes_eq name n))
  left_in name one was other n =
      alone_listed one n ∙ kept (bytes_eq one n) (bytes_eq name n) refl refl
      ∙ ap (λ b. b && not (bytes_eq name n)) (sym (alone_listed one n) ∙ ap (is_listed n) (sym (ap names_in was) ∙ seen))
    where
      kept : (a b : Bool) → bytes_eq one n ≡ a → bytes_eq name n ≡ b → a ≡ (a && not b)
      kept true true p q =
          let same : one ≡ name = (bytes_eq-Decides one n).0 p ∙ sym ((bytes_eq-Decides name n).0 q) in
          sym ((bytes_eq-Decides one name).1 same) ∙ other
      kept true false p q = refl
      kept false true p q = refl
      kept false false p q = refl
