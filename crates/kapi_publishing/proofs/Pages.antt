-- Beginnings of the pages of one book.
use Rattle.std.proofs.Common.{◌≡◌, ℕ, suc, ◌+◌, ◌≤◌, List, [], ◌∷◌, ◌++◌, length, map, refl, sym, subst, ap, ◌∙◌, arith, inl, inr}
use mathlib.Core.List.{IsPrefix}
use Rattle.logbook.specs.Pages.{Book}
use Rattle.kapi_policy.specs.declared.change.PolicyChange.{PolicyChange}
use Rattle.kapi_publishing.specs.Boards.{Chair, chair}
use Rattle.kapi_publishing.specs.Laws.{Agree}
use Rattle.kapi_publishing.specs.Pages.{opening_in, step_page, steps_in}
use Rattle.kapi_publishing.specs.Rule.{Begins}
use Rattle.kapi_publishing.specs.declared.book.Page.{Page}

steps_on : (xs ys : List Page) → map (λ (q : Page). q.step) (xs ++ ys) ≡ map (λ (q : Page). q.step) xs ++ map (λ (q : Page). q.step) ys
steps_on [] ys = refl
steps_on (x ∷ xs) ys = ap (λ r. x.step ∷ r) (steps_on xs ys)

steps_many : (xs : List Page) → length (map (λ (q : Page). q.step) xs) ≡ length xs
steps_many [] = refl
steps_many (x ∷ xs) = ap suc (steps_many xs)

-- there is a page more than steps
pub steps_counted : (pages : List Page) (n : ℕ) → length pages ≡ n + 1 → length (steps_in pages) ≡ n
steps_counted [] n many = absurd (omega (arith, many))
steps_counted (p ∷ ps) n many = let k = steps_many ps in omega (arith, many, k)

-- the steps with a page more
pub steps_more : (pages : List Page) (n : ℕ) (step : List PolicyChange) → length pages ≡ n + 1 → steps_in (pages ++ step_page step ∷ []) ≡ steps_in pages ++ step ∷ []
steps_more [] n step many = absurd (omega (arith, many))
steps_more (p ∷ ps) n step many = steps_on ps (step_page step ∷ [])

pub opening_same : (pages : List Page) (n : ℕ) (step : List PolicyChange) → length pages ≡ n + 1 → opening_in (pages ++ step_page step ∷ []) ≡ opening_in pages
opening_same [] n step many = absurd (omega (arith, many))
opening_same (p ∷ ps) n step many = refl

-- of the pages of one book, those that begin others begin their steps
pub begins_steps : (xs ys : List Page) (n : ℕ) → length xs ≡ n + 1 → IsPrefix xs ys → Begins (steps_in xs) (steps_in ys)
begins_steps [] ys n many p = absurd (omega (arith, many))
begins_steps (x ∷ xs) [] n many p = absurd (cc (p.1))
begins_steps (x ∷ xs) (y ∷ ys) n many p =
    let tails : xs ++ p.0 ≡ ys = cc (p.1) in (map (λ (q : Page). q.step) p.0, ap (map (λ (q : Page). q.step)) (sym tails) ∙ steps_on xs p.0)

pub opening_begun : (xs ys : List Page) (n : ℕ) → length xs ≡ n + 1 → IsPrefix xs ys → opening_in xs ≡ opening_in ys
opening_begun [] ys n many p = absurd (omega (arith, many))
opening_begun (x ∷ xs) [] n many p = absurd (cc (p.1))
opening_begun (x ∷ xs) (y ∷ ys) n many p = let heads : x ≡ y = cc (p.1) in ap (λ (q : Page). q.opening) heads

-- two that have seen pages of one book agree
pub agree_before : (c d : Chair) (b e : Book) (xs ys : List Page) (n : ℕ) → chair b xs ≡ c → chair e ys ≡ d → length xs ≡ n + 1 → IsPrefix xs ys → Agree c d
agree_before c d b e xs ys n sees saw many p =
    subst (λ (x : Chair). Agree x d) sees (subst (λ (x : Chair). Agree (chair b xs) x) saw (opening_begun xs ys n many p, inl (begins_steps xs ys n many p)))

pub agree_behind : (c d : Chair) (b e : Book) (xs ys : List Page) (n : ℕ) → chair b xs ≡ c → chair e ys ≡ d → length ys ≡ n + 1 → IsPrefix ys xs → Agree c d
agree_behind c d b e xs ys n sees saw many p =
    subst (λ (x : Chair). Agree x d) sees (subst (λ (x : Chair). Agree (chair b xs) x) saw (sym (opening_begun ys xs n many p), inr (begins_steps ys xs n many p)))

pub begins_seen : (c : Chair) (b : Book) (xs ys : List Page) (n : ℕ) → chair b xs ≡ c → length xs ≡ n + 1 → IsPrefix xs ys → Begins c.seen (steps_in ys)
begins_seen c b xs ys n sees many p = subst (λ (x : Chair). Begins x.seen (steps_in ys)) sees (begins_steps xs ys n many p)

-- of two beginnings of one list the shorter begins the longer
pub prefix_shorter : {A : Type 0} (xs ys zs : List A) → IsPrefix xs zs → IsPrefix ys zs → length xs ≤ length ys → IsPrefix xs ys
prefix_shorter [] ys zs p q le = (ys, refl)
prefix_shorter (x ∷ xs) [] zs p q le = absurd (omega arith)
prefix_shorter (x ∷ xs) (y ∷ ys) [] p q le = absurd (cc (p.1))
prefix_shorter (x ∷ xs) (y ∷ ys) (z ∷ zs) p q le =
    let heads : x ≡ y = cc (p.1, q.1) in
    let rest = prefix_shorter xs ys zs (p.0, cc (p.1)) (q.0, cc (q.1)) (omega arith) in
    (rest.0, cc (heads, rest.1))

-- a beginning as long as the whole is the whole
pub prefix_whole : {A : Type 0} (xs ys : List A) → IsPrefix xs ys → length ys ≤ length xs → xs ≡ ys
prefix_whole [] [] p le = refl
prefix_whole [] (y ∷ ys) p le = absurd (omega arith)
prefix_whole (x ∷ xs) [] p le = absurd (cc (p.1))
prefix_whole (x ∷ xs) (y ∷ ys) p le =
    let rest = prefix_whole xs ys (p.0, cc (p.1)) (omega arith) in cc (p.1, rest)
