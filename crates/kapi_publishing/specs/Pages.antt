-- The pages of a desk's book.
use Rattle.std.specs.Prelude.{List, [], ◌∷◌, map}
use Rattle.logbook.specs.Pages.{Book}
use Rattle.kapi_policy.specs.declared.change.PolicyChange.{PolicyChange}
use Rattle.kapi_policy.specs.Objects.{PolicyObjects, no_objects}
use Rattle.kapi_publishing.specs.declared.book.Page.{Page}

-- which book it is, and its pages
pub record Shelf : Type 0 where
  pub book : Book
  pub pages : List Page

-- the first page of a book
abbrev pub opening_page : PolicyObjects → Page
opening_page policy = record { opening = policy; step = [] }

-- the page of a step
abbrev pub step_page : List PolicyChange → Page
step_page step = record { opening = no_objects; step = step }

-- the policy that the first page says
abbrev pub opening_in : List Page → PolicyObjects
opening_in [] = no_objects
opening_in (p ∷ ps) = p.opening

-- the steps that the other pages say
abbrev pub steps_in : List Page → List (List PolicyChange)
steps_in [] = []
steps_in (p ∷ ps) = map (λ q. q.step) ps
