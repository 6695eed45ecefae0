-- Each step of desk and seats keeps the rule.
use Rattle.std.proofs.Common.{◌≡◌, ◌≢◌, ℕ, zero, suc, ◌+◌, List, [], ◌∷◌, ◌++◌, length, set, fold, true, true≢false, refl, sym, ap, ◌∙◌, subst, ⊎_elim, length-append}
use mathlib.Core.Option.{some, some-ne-none, some-injective}
use lib.ListN.{get_elem?}
use Rattle.left_right.specs.Register.{Admits, TurnsAt, Forks, Merges}
use Rattle.atomic_table.proofs.Lists.{at_set, at_snoc}
use Rattle.logbook.specs.Pages.{Book}
use Rattle.kapi_policy.specs.Steps.{after_changes}
use Rattle.kapi_publishing.specs.declared.rule.View.{View}
use Rattle.kapi_publishing.specs.declared.version.Version.{Version}
use Rattle.kapi_publishing.specs.declared.version.Operation.{Operation}
use Rattle.kapi_publishing.specs.Pages.{Shelf, opening_in, step_page, steps_in}
use Rattle.kapi_publishing.specs.Private.Copies.{Entered, IsPaged, IsShown, absorbed, newcomer, reader_of}
use Rattle.kapi_publishing.specs.Private.Stages.{IsNoted, steps_among}
use Rattle.kapi_publishing.specs.Steps.{after}
use Rattle.kapi_publishing.proofs.Lists.{after_more, after_one}
use Rattle.kapi_publishing.proofs.Pages.{opening_same, steps_more}

-- what the rule says of what a seat knows
abbrev Knows : Book → View → Type 0
Knows book v = v.knows ≡ true → v.book ≡ book

knows_set : (book : Book) (views : List View) (seat : ℕ) (w : View) → ((j : ℕ) (u : View) → get_elem? views j ≡ some u → Knows book u) → Knows book w
    → (j : ℕ) (u : View) → get_elem? (set views seat w) j ≡ some u → Knows book u
knows_set book views seat w others mine j u e =
    ⊎_elim
    (λ (t : (j ≡ seat) × (w ≡ u)). subst (Knows book) t.1 mine)
    (λ (t : (j ≢ seat) × (get_elem? views j ≡ some u)). others j u t.1)
    (at_set views seat j w u e)

knows_snoc : (book : Book) (views : List View) (w : View) → ((j : ℕ) (u : View) → get_elem? views j ≡ some u → Knows book u) → Knows book w
    → (j : ℕ) (u : View) → get_elem? (views ++ w ∷ []) j ≡ some u → Knows book u
knows_snoc book views w others mine j u e = ⊎_elim (others j u) (λ (same : w ≡ u). subst (Knows book) same mine) (at_snoc views w u j e)

knows_nothing : (book : Book) → Knows book newcomer
knows_nothing book k = absurd (true≢false (sym k))

pub begins : (x : Version) → IsPaged x → IsShown x (newcomer ∷ [])
begins x paged = (paged, one)
  where
    one : (seat : ℕ) (v : View) → get_elem? (newcomer ∷ []) seat ≡ some v → Knows x.pages.book v
    one zero v e = subst (Knows x.pages.book) (some-injective _ _ e) (knows_nothing x.pages.book)
    one (suc seat) v e = absurd (some-ne-none v (sym e))

pub admits : Admits IsShown newcomer
admits x views h = (h.0, knows_snoc x.pages.book views newcomer h.1 (knows_nothing x.pages.book))

pub enters : (seat : ℕ) (v : View) (x : Version) → TurnsAt IsShown seat v x x Entered
enters seat v x views h at =
    (v, (h.0, knows_set x.pages.book views seat v h.1 (h.1 seat v at)), (refl, h.0, λ k. sym (h.1 seat v at k)))

pub opens : (seat : ℕ) (v : View) (x y : Version) → y ≡ x → TurnsAt IsShown seat v x y (λ v x y w. w ≡ reader_of y.pages.book)
opens seat v x y same views h at =
    let shown : IsShown y views = subst (λ z. IsShown z views) (sym same) h in
    let w = reader_of y.pages.book in (w, (shown.0, knows_set y.pages.book views seat w shown.1 (λ _. refl)), refl)

-- a copy after a step and its note
pub paged_next : (x y : Version) (waiting : List Operation) (shelf : Shelf) → IsPaged x → IsNoted waiting shelf x.pages.log → y ≡ fold absorbed x waiting
    → IsPaged y × (y.pages.log ≡ shelf.pages) × (y.pages.book ≡ shelf.book)
paged_next x y waiting shelf paged noted is =
    let step = noted.0 in
    let pages = noted.1 in
    let z : Version = record { policy = after_changes step x.policy; steps = x.steps + 1; pages = pages } in
    let made : y ≡ z = is ∙ ap (fold absorbed x) noted.2 in
    let log : z.pages.log ≡ x.pages.log ++ step_page step ∷ [] = noted.4 ∙ noted.5 in
    let opening : opening_in z.pages.log ≡ opening_in x.pages.log = ap opening_in log ∙ opening_same x.pages.log x.steps step paged.1 in
    let steps : steps_in z.pages.log ≡ steps_in x.pages.log ++ step ∷ [] = ap steps_in log ∙ steps_more x.pages.log x.steps step paged.1 in
    let policy : z.policy ≡ after (opening_in z.pages.log) (steps_in z.pages.log) =
    ap (after_changes step) paged.0 ∙ sym (after_one (after (opening_in x.pages.log) (steps_in x.pages.log)) step) ∙ sym (after_more (opening_in x.pages.log) (steps_in x.pages.log) (step ∷ [])) ∙ (λ i. after (sym opening i) (sym steps i)) in
    let counted : length z.pages.log ≡ z.steps + 1 = ap length log ∙ length-append x.pages.log (step_page step ∷ []) ∙ ap (λ n. n + 1) paged.1 in
    subst (λ (v : Version). IsPaged v × (v.pages.log ≡ shelf.pages) × (v.pages.book ≡ shelf.book)) (sym made) ((policy, counted), noted.4, noted.3)

-- what a desk has published after a step and its note
pub published_next : (x y : Version) (waiting : List Operation) (shelf : Shelf) → IsPaged x → IsNoted waiting shelf x.pages.log → y ≡ fold absorbed x waiting
    → (opening_in y.pages.log ≡ opening_in x.pages.log) × (steps_in y.pages.log ≡ steps_in x.pages.log ++ steps_among waiting)
unfolding steps_among
published_next x y waiting shelf paged noted is =
    let next = paged_next x y waiting shelf paged noted is in
    let log : y.pages.log ≡ x.pages.log ++ step_page noted.0 ∷ [] = next.1 ∙ noted.5 in (
      ap opening_in log ∙ opening_same x.pages.log x.steps noted.0 paged.1,
      ap steps_in log ∙ steps_more x.pages.log x.steps noted.0 paged.1 ∙ sym (ap (λ l. steps_in x.pages.log ++ steps_among l) noted.2),
    )

pub publishes : (seat : ℕ) (v : View) (x y : Version) (waiting : List Operation) (shelf : Shelf) → IsPaged x → shelf.book ≡ x.pages.book → IsNoted waiting shelf x.pages.log
    → y ≡ fold absorbed x waiting → TurnsAt IsShown seat v x y (λ v x y w. w ≡ v)
publishes seat v x y waiting shelf paged book noted is views h at =
    let next = paged_next x y waiting shelf paged noted is in
    let same : x.pages.book ≡ y.pages.book = sym (next.2 ∙ book) in
    let all = knows_set x.pages.book views seat v h.1 (h.1 seat v at) in
    (v, (next.0, λ j u e k. all j u e k ∙ same), refl)

pub forks : (seat : ℕ) (v : View) → Forks IsShown seat v v v
forks seat v x views h at =
    let mine = h.1 seat v at in (h.0, knows_snoc x.pages.book (set views seat v) v (knows_set x.pages.book views seat v h.1 mine) mine)

pub merges : (seat : ℕ) (v : View) (other : ℕ) (told : View) → Merges IsShown seat v other told told newcomer
merges seat v other told x views h at apart there =
    let theirs = ⊎_elim (λ (t : (other ≡ seat) × (told ≡ told)). absurd (apart t.0)) (λ (t : (other ≢ seat) × (get_elem? views other ≡ some told)). h.1 other told t.1) (at_set views seat other told told there) in
    (h.0, knows_set x.pages.book (set views seat told) other newcomer (knows_set x.pages.book views seat told h.1 theirs) (knows_nothing x.pages.book))
