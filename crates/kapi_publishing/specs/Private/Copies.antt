-- The two copies of a desk, and what readers know of them.
use Rattle.std.specs.Prelude.{◌≡◌, ℕ, ◌+◌, List, length, true, false}
use mathlib.Core.Option.{some}
use lib.ListN.{get_elem?}
use Rattle.logbook.specs.Pages.{Book}
use Rattle.kapi_policy.specs.Steps.{after_changes}
use Rattle.kapi_publishing.specs.Pages.{opening_in, steps_in}
use Rattle.kapi_publishing.specs.Steps.{after}
use Rattle.kapi_publishing.specs.declared.rule.View.{View}
use Rattle.kapi_publishing.specs.declared.version.Version.{Version}
use Rattle.kapi_publishing.specs.declared.version.Operation.{Operation}
use Rattle.kapi_publishing.specs.declared.version.Operation.TheVariants.{Step, Note}

-- a copy with one operation more
abbrev pub absorbed : Version → Operation → Version
absorbed x (Step step) = record { policy = after_changes step x.policy; steps = x.steps + 1; pages = x.pages }
absorbed x (Note pages) = record { policy = x.policy; steps = x.steps; pages = pages }

-- a copy has the policy that its pages make, and their number of steps
abbrev pub IsPaged : Version → Type 0
IsPaged x = (x.policy ≡ after (opening_in x.pages.log) (steps_in x.pages.log)) × (length x.pages.log ≡ x.steps + 1)

-- what a new reader knows: nothing
abbrev pub newcomer : View
newcomer = record { knows = false; book = record { number = 0; log_name = 0; cells_name = 0 } }

-- what desk and seats know: the book
abbrev pub reader_of : Book → View
reader_of book = record { knows = true; book = book }

-- the shown copy has the policy and the number of its pages, and each view that knows a book knows the book of these
abbrev pub IsShown : Version → List View → Type 0
IsShown x views = IsPaged x × ((seat : ℕ) (v : View) → get_elem? views seat ≡ some v → v.knows ≡ true → v.book ≡ x.pages.book)

-- what an entry tells
abbrev pub Entered : View → Version → Version → View → Type 0
Entered v x y w = (w ≡ v) × IsPaged y × (v.knows ≡ true → y.pages.book ≡ v.book)
