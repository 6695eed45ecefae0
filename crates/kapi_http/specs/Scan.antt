-- Where the head of a request ends (RFC 9112 sections 2.1 and 2.2).
use Rattle.std.specs.Prelude.{ℕ, ◌+◌, ◌==◌, if◌then◌else◌, Bool, true, false, List, [], ◌∷◌}
use Rattle.httparse.specs.Ascii.{line_feed, carriage_return}
use Rattle.kapi_http.specs.declared.scan.HeadState.{HeadState}
use Rattle.kapi_http.specs.declared.scan.HeadState.TheVariants.{Leading, LeadingCr, Inside, LineStart, LineCr, Ended}
use Rattle.kapi_http.specs.declared.scan.Scan.{Scan}

-- the place behind the next byte: a line ends at LF, a line of only CR is empty, and the first empty line ends the head
abbrev pub next_place : HeadState → ℕ → HeadState
next_place Leading b = if b == line_feed then Leading else if b == carriage_return then LeadingCr else Inside
next_place LeadingCr b = if b == line_feed then Leading else Inside
next_place Inside b = if b == line_feed then LineStart else Inside
next_place LineStart b = if b == line_feed then Ended else if b == carriage_return then LineCr else Inside
next_place LineCr b = if b == line_feed then Ended else Inside
next_place Ended b = Ended

-- how many lines that are not empty end with this byte
abbrev pub lines_ended : HeadState → ℕ → ℕ
lines_ended Leading b = 0
lines_ended LeadingCr b = 0
lines_ended Inside b = if b == line_feed then 1 else 0
lines_ended LineStart b = 0
lines_ended LineCr b = 0
lines_ended Ended b = 0

-- the head is whole
abbrev pub is_ended : HeadState → Bool
is_ended Leading = false
is_ended LeadingCr = false
is_ended Inside = false
is_ended LineStart = false
is_ended LineCr = false
is_ended Ended = true

-- the scan with one byte more
abbrev pub step : Scan → ℕ → Scan
step s b = record { place = next_place s.place b; at = s.at + 1; lines = s.lines + lines_ended s.place b }

-- the scan before any byte
abbrev pub begin : Scan
begin = record { place = Leading; at = 0; lines = 0 }

-- the scan with these bytes more, but with none behind the end of the head
unfoldable pub scanned : Scan → List ℕ → Scan
scanned s [] = s
scanned s (b ∷ bytes) = if is_ended s.place then s else scanned (step s b) bytes
