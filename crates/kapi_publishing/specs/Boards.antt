-- What contracts see of a desk, a seat and a list of reported steps.
use Rattle.std.specs.Prelude.{List, [], length, if◌then◌else◌, nat_lt}
use Rattle.logbook.specs.Pages.{Book}
use Rattle.kapi_policy.specs.declared.change.PolicyChange.{PolicyChange}
use Rattle.kapi_policy.specs.Decided.{Decided, allowed, masters, denied, Granted}
use Rattle.kapi_policy.specs.Objects.{PolicyObjects}
use Rattle.kapi_publishing.specs.Pages.{opening_in, steps_in}
use Rattle.kapi_publishing.specs.declared.book.Page.{Page}
use Rattle.kapi_publishing.specs.declared.decision.SeatDecision.{SeatDecision}
use Rattle.kapi_publishing.specs.declared.decision.SeatDecision.TheVariants.{Allowed, Masters, Denied}
use Rattle.kapi_publishing.specs.declared.decision.SeatGrant.{SeatGrant}

-- a desk: which one it is, the policy that it opened with, the published steps, and the waiting steps
pub record Board : Type 0 where
  pub desk : Book
  pub opening : PolicyObjects
  pub list : List (List PolicyChange)
  pub waiting : List (List PolicyChange)

-- a seat or a list of reported steps: which desk it is of, the policy at the desk's opening, and the published steps
-- that it has seen
pub record Chair : Type 0 where
  pub desk : Book
  pub opening : PolicyObjects
  pub seen : List (List PolicyChange)

-- a seat of the desk with no published step seen
abbrev pub fresh : Board → Chair
fresh board = record { desk = board.desk; opening = board.opening; seen = [] }

-- a seat or a list of the desk with all published steps seen
abbrev pub informed : Board → Chair
informed board = record { desk = board.desk; opening = board.opening; seen = board.list }

-- a seat or a list that has seen these pages of a desk's book
abbrev pub chair : Book → List Page → Chair
chair book pages = record { desk = book; opening = opening_in pages; seen = steps_in pages }

-- the second list where it is longer, else the first
abbrev pub longer : List (List PolicyChange) → List (List PolicyChange) → List (List PolicyChange)
longer xs ys = if nat_lt (length xs) (length ys) then ys else xs

-- a decision without its own texts
abbrev pub seat_granted : SeatGrant → Granted
seat_granted g = record { kind = g.kind; binding = g.binding; role = g.role; rule = g.rule }

-- what a seat decides, as a decision of the policy
abbrev pub seat_decision : SeatDecision → Decided
seat_decision (Allowed g) = allowed (seat_granted g)
seat_decision Masters = masters
seat_decision Denied = denied
