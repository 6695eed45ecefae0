-- How a book is written.
use Rattle.std.specs.Prelude.{◌≡◌, ℕ, ◌+◌, ◌==◌, List, [], ◌∷◌, ◌++◌, length, true, MatchBool}
use Rattle.logbook.specs.Pages.{Cell, Step, View, Book, Named}
use Rattle.kapi_publishing.specs.declared.book.Page.{Page}

-- the one shared word is the number of steps
pub record AreCounted (cells : List Cell) (pages : List Page) : Type 0 where
  pub steps : ℕ
  pub words : cells ≡ (steps, true) ∷ []
  pub counted : length pages ≡ steps + 1

-- the shared word of a book
abbrev pub head_of : Book → Named
head_of b = record { tracked = true; key = 0; book = b }

-- the page was written behind all that were seen; or the book had more pages
abbrev pub Written : Step Page → View Page (Unit {0}) → ℕ → View Page (Unit {0}) → Type 0
Written s v found w = MatchBool (found == s.old) (w.0 ≡ v.0 ++ s.ask ∷ []) (Unit {0})
