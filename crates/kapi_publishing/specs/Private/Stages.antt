-- How far a step is on its way to be published.
use Rattle.std.specs.Prelude.{◌≡◌, ℕ, ◌+◌, List, [], ◌∷◌, ◌++◌, length, true}
use Rattle.logbook.specs.Pages.{Book}
use Rattle.kapi_policy.specs.declared.change.PolicyChange.{PolicyChange}
use Rattle.kapi_publishing.specs.Boards.{Board}
use Rattle.kapi_publishing.specs.Pages.{Shelf, opening_in, step_page, steps_in}
use Rattle.kapi_publishing.specs.Private.Copies.{IsPaged}
use Rattle.kapi_publishing.specs.declared.book.Page.{Page}
use Rattle.kapi_publishing.specs.declared.desk.Stage.{Stage}
use Rattle.kapi_publishing.specs.declared.desk.Stage.TheVariants as stage
use Rattle.kapi_publishing.specs.declared.rule.View.{View}
use Rattle.kapi_publishing.specs.declared.version.Version.{Version}
use Rattle.kapi_publishing.specs.declared.version.Operation.{Operation}
use Rattle.kapi_publishing.specs.declared.version.Operation.TheVariants.{Step, Note}

-- the steps among operations
unfoldable pub steps_among : List Operation → List (List PolicyChange)
steps_among [] = []
steps_among (Step step ∷ rest) = step ∷ steps_among rest
steps_among (Note pages ∷ rest) = steps_among rest

-- the desk that shows this copy, where these operations wait
abbrev pub board_of : Version → List Operation → Board
board_of x waiting = record { desk = x.pages.book; opening = opening_in x.pages.log; list = steps_in x.pages.log; waiting = steps_among waiting }

-- the operations of a step and of the note of its page
abbrev pub IsNoted : List Operation → Shelf → List Page → Type 0
IsNoted waiting shelf shown =
    (step : List PolicyChange) × (pages : _) × (waiting ≡ Step step ∷ Note pages ∷ []) × (pages.book ≡ shelf.book) × (pages.log ≡ shelf.pages)
    × (shelf.pages ≡ shown ++ step_page step ∷ [])

-- at this stage these operations wait, and the book has these pages beside those that are shown
abbrev pub IsAt : Stage → List Operation → Shelf → List Page → Type 0
IsAt stage.Idle waiting shelf shown = (waiting ≡ []) × (shelf.pages ≡ shown)
IsAt (stage.Taken step) waiting shelf shown = (waiting ≡ Step step.value ∷ []) × (shelf.pages ≡ shown)
IsAt stage.Written waiting shelf shown = (step : List PolicyChange) × (waiting ≡ Step step ∷ []) × (shelf.pages ≡ shown ++ step_page step ∷ [])
IsAt stage.Noted waiting shelf shown = IsNoted waiting shelf shown

-- the desk knows its book, whose first pages the copy that is shown has
abbrev pub IsPublishedTo : View → Version → Shelf → Type 0
IsPublishedTo v x shelf = (v.knows ≡ true) × (v.book ≡ x.pages.book) × IsPaged x × (shelf.book ≡ x.pages.book)

-- a seat knows the book that its pages are of, and their number of steps
abbrev pub IsSeated : View → Book → List Page → ℕ → Type 0
IsSeated v book pages count = (v.knows ≡ true) × (v.book ≡ book) × (length pages ≡ count + 1)
