-- A page that is written keeps the rule of the book.
use Rattle.std.proofs.Common.{◌≡◌, ℕ, ◌+◌, ◌<◌, ◌==◌, Bool, true, false, List, [], ◌∷◌, ◌++◌, length, refl, ap, sym, subst, ◌∙◌, arith, inl, length-append, None}
use Rattle.std.proofs.lemmas.List.{append-nil}
use Rattle.std.proofs.lemmas.Bool.Decides.{nat_tests}
use mathlib.Core.List.{IsPrefix}
use prog.Atomic.{either}
use Rattle.logbook.specs.Pages.{Cell, cell, keeps, no_nib, step, Moves, Goes}
use Rattle.kapi_publishing.specs.declared.book.Page.{Page}
use Rattle.kapi_publishing.specs.Private.Writing.{AreCounted, Written}
use Rattle.kapi_publishing.proofs.Pages.{prefix_whole}

abbrev pub shown : List Page → List Page
shown pages = []

abbrev pub moved : List Page → List Page → Unit {0} → Type 0
moved xs ys n = Unit {0}

writes_goes : (pages v : List Page) (e : Page) (old number : ℕ) → length v ≡ old + 1 → length pages ≡ number + 1 → IsPrefix v pages
    → (b : Bool) → (number == old) ≡ b
    → Goes AreCounted shown moved 0 (v, (no_nib, None)) (λ n. either (n == old) (old + 1) n) (Written (step 0 old (old + 1) e) (v, (no_nib, None))) ((number, true) ∷ []) pages
writes_goes pages v e old number len counted pre true is =
    let here : number ≡ old = grind (arith, nat_tests) in
    let same : v ≡ pages = prefix_whole v pages pre (omega arith) in
    let n : either (number == old) (old + 1) number ≡ number + 1 = rw is (omega arith) in (
      keeps,
      e ∷ [],
      None,
      tt,
      record { steps = number + 1; words = ap (λ (k : ℕ). (k, true) ∷ []) n; counted = omega (arith, length-append pages (e ∷ [])) },
      inl (refl, refl),
      rw is (ap (λ w. w ++ e ∷ []) (sym same)),
    )
writes_goes pages v e old number len counted pre false is =
    let all : pages ++ [] ≡ pages = append-nil pages in
    let n : either (number == old) (old + 1) number ≡ number = rw is refl in (
      keeps,
      [],
      None,
      tt,
      record { steps = number; words = ap (λ (k : ℕ). (k, true) ∷ []) n; counted = ap length all ∙ counted },
      inl (refl, refl),
      rw is tt,
    )

-- whatever the book is, the exchange writes the page after all seen pages, or finds that the book is longer
pub writes_moves : (v : List Page) (e : Page) (old : ℕ) → length v ≡ old + 1
    → Moves AreCounted shown moved 0 (v, (no_nib, None)) (λ n. either (n == old) (old + 1) n) (Written (step 0 old (old + 1) e) (v, (no_nib, None)))
writes_moves v e old len cs pages kept pre away =
    let P : List Cell → Type 0 = λ c. (0 < length c) × ((cell c 0).1 ≡ true) × Goes AreCounted shown moved 0 (v, (no_nib, None)) (λ n. either (n == old) (old + 1) n) (Written (step 0 old (old + 1) e) (v, (no_nib, None))) c pages in
    subst P (sym kept.words) (omega arith, refl, writes_goes pages v e old kept.steps len kept.counted pre (kept.steps == old) refl)
