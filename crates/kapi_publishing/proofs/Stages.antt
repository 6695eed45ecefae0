-- The steps that wait at each stage.
use Rattle.std.proofs.Common.{◌≡◌, ◌↔◌, ◌⊎◌, ⊎_elim, inl, inr, ◌<◌, List, [], ◌∷◌, ◌++◌, length, fold, refl, sym, ap, ◌∙◌, subst, arith}
use Rattle.kapi_policy.specs.declared.change.PolicyChange.{PolicyChange}
use Rattle.kapi_publishing.specs.Boards.{Board}
use Rattle.kapi_publishing.specs.Pages.{Shelf, opening_in, steps_in}
use Rattle.kapi_publishing.specs.Private.Copies.{IsPaged, absorbed, reader_of}
use Rattle.kapi_publishing.specs.Private.Stages.{IsAt, IsNoted, IsPublishedTo, board_of, steps_among}
use Rattle.kapi_publishing.specs.declared.book.Page.{Page}
use Rattle.kapi_publishing.specs.declared.desk.Stage.{Stage}
use Rattle.kapi_publishing.specs.declared.desk.Stage.TheVariants as stage
use Rattle.kapi_publishing.specs.declared.rule.View.{View}
use Rattle.kapi_publishing.specs.declared.version.Version.{Version}
use Rattle.kapi_publishing.specs.declared.version.Operation.{Operation}
use Rattle.kapi_publishing.specs.declared.version.Operation.TheVariants.{Step, Note}
use Rattle.kapi_publishing.proofs.Keeps.{paged_next, published_next}
use Rattle.kapi_publishing.proofs.Pages.{steps_counted}

pub steps_none : (ops : List Operation) → ops ≡ [] → steps_among ops ≡ []
unfolding steps_among
steps_none ops none = ap steps_among none

pub steps_one : (ops : List Operation) (step : List PolicyChange) → ops ≡ Step step ∷ [] → steps_among ops ≡ step ∷ []
unfolding steps_among
steps_one ops step one = ap steps_among one

-- with a note behind them, the steps are the same
pub steps_noted : (ops : List Operation) (pages : _) → steps_among (ops ++ Note pages ∷ []) ≡ steps_among ops
unfolding steps_among
steps_noted [] pages = refl
steps_noted (Step step ∷ ops) pages = ap (λ l. step ∷ l) (steps_noted ops pages)
steps_noted (Note own ∷ ops) pages = steps_noted ops pages

-- a step waits wherever the stage is not idle
pub waits_at : (at : Stage) (ops : List Operation) (shelf : Shelf) (shown : List Page) → IsAt at ops shelf shown
    → ((ops ≡ []) × (steps_among ops ≡ []) × (shelf.pages ≡ shown)) ⊎ ((0 < length ops) × (0 < length (steps_among ops)))
unfolding steps_among
waits_at stage.Idle ops shelf shown h = inl (h.0, ap steps_among h.0, h.1)
waits_at (stage.Taken step) ops shelf shown h = inr (subst (λ l. (0 < length l) × (0 < length (steps_among l))) (sym h.0) (omega arith, omega arith))
waits_at stage.Written ops shelf shown h = inr (subst (λ l. (0 < length l) × (0 < length (steps_among l))) (sym h.1) (omega arith, omega arith))
waits_at stage.Noted ops shelf shown h = inr (subst (λ l. (0 < length l) × (0 < length (steps_among l))) (sym h.2) (omega arith, omega arith))

-- if no step waits, no operation does, and the book has the pages that are shown
pub idle_at : (at : Stage) (ops : List Operation) (shelf : Shelf) (shown : List Page) → IsAt at ops shelf shown → steps_among ops ≡ [] → (ops ≡ []) × (shelf.pages ≡ shown)
idle_at at ops shelf shown h none = ⊎_elim (λ (t : (ops ≡ []) × (steps_among ops ≡ []) × (shelf.pages ≡ shown)). (t.0, t.2)) (λ (t : (0 < length ops) × (0 < length (steps_among ops))). absurd (let k = ap length none in omega (arith, t.1, k))) (waits_at at ops shelf shown h)

pub pending_at : (at : Stage) (ops : List Operation) (shelf : Shelf) (shown : List Page) → IsAt at ops shelf shown → (0 < length ops) ↔ (0 < length (steps_among ops))
pending_at at ops shelf shown h =
    ⊎_elim
    (λ (t : (ops ≡ []) × (steps_among ops ≡ []) × (shelf.pages ≡ shown)). (
      (λ (l : 0 < length ops). absurd (let k = ap length t.0 in omega (arith, l, k))),
      (λ (l : 0 < length (steps_among ops)). absurd (let k = ap length t.1 in omega (arith, l, k))),
    ))
    (λ (t : (0 < length ops) × (0 < length (steps_among ops))). ((λ (l : 0 < length ops). t.1), (λ (l : 0 < length (steps_among ops)). t.0)))
    (waits_at at ops shelf shown h)

-- ---- a desk

-- a desk that has just opened
pub stands_first : (v : View) (x y first : Version) (shelf : Shelf) → v ≡ reader_of x.pages.book → y ≡ x → x ≡ first → IsPaged first → shelf.book ≡ first.pages.book → IsPublishedTo v y shelf
stands_first v x y first shelf knows same is paged own =
    let all : y ≡ first = same ∙ is in
    (ap (λ (u : View). u.knows) knows, ap (λ (u : View). u.book) knows ∙ ap (λ (z : Version). z.pages.book) (sym same), subst IsPaged (sym all) paged, own ∙ ap (λ (z : Version). z.pages.book) (sym all))

-- a desk that has published
pub stands_next : (v w : View) (x y : Version) (ops rest : List Operation) (shelf : Shelf) → IsPublishedTo v x shelf → IsNoted ops shelf x.pages.log → y ≡ fold absorbed x ops → w ≡ v → rest ≡ []
    → IsPublishedTo w y shelf × ((rest ≡ []) × (shelf.pages ≡ y.pages.log))
stands_next v w x y ops rest shelf s noted is same none =
    let next = paged_next x y ops shelf s.2 noted is in
    let book : x.pages.book ≡ y.pages.book = sym s.3 ∙ sym next.2 in
    ((ap (λ (u : View). u.knows) same ∙ s.0, ap (λ (u : View). u.book) same ∙ s.1 ∙ book, next.0, sym next.2), (none, sym next.1))

-- what it has published then
pub told_next : (x y p : Version) (ops rest : List Operation) (shelf : Shelf) (board now : Board) → board_of x ops ≡ board → board ≡ now → IsPaged x → IsNoted ops shelf x.pages.log
    → y ≡ fold absorbed x ops → rest ≡ [] → p ≡ y → (steps_in y.pages.log ≡ now.list ++ now.waiting) × (p.steps ≡ length (steps_in y.pages.log)) × (steps_among rest ≡ [])
told_next x y p ops rest shelf board now shows same paged noted is none told =
    let all : board_of x ops ≡ now = shows ∙ same in
    let next = paged_next x y ops shelf paged noted is in (
      (published_next x y ops shelf paged noted is).1 ∙ ap (λ (b : Board). b.list ++ b.waiting) all,
      ap (λ (z : Version). z.steps) told ∙ sym (steps_counted y.pages.log y.steps next.0.1),
      steps_none rest none,
    )

pub opening_next : (x y : Version) (ops : List Operation) (shelf : Shelf) (board now : Board) → board_of x ops ≡ board → board ≡ now → IsPaged x → IsNoted ops shelf x.pages.log
    → y ≡ fold absorbed x ops → opening_in y.pages.log ≡ now.opening
opening_next x y ops shelf board now shows same paged noted is = (published_next x y ops shelf paged noted is).0 ∙ ap (λ (b : Board). b.opening) (shows ∙ same)

-- the note of a page is taken
pub noted_at : (at : Stage) (ops : List Operation) (shelf : Shelf) (shown : List Page) → at ≡ stage.Noted → IsAt at ops shelf shown → IsNoted ops shelf shown
noted_at at ops shelf shown is h = subst (λ (s : Stage). IsAt s ops shelf shown) is h
