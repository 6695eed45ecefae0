-- Targets as clients write them: each segment behind a slash, percent-encoded (RFC 3986 sections 2.1 and 3.3).
use Rattle.std.specs.Prelude.{◌≡◌, ℕ, ◌<◌, ◌==◌, Bool, true, false, not, ◌&&◌, ◌||◌, List, ◌∷◌, All}
use Rattle.std.specs.List.{flat_map, list_all}
use Rattle.std.specs.Str.{is_utf8}
use Rattle.percent_encoding.specs.declared.ascii_set.AsciiSet.{AsciiSet}
use Rattle.percent_encoding.specs.AsciiSet.{should_percent_encode}
use Rattle.percent_encoding.specs.Percent.{percent_encode}
use Rattle.kapi_request_info.specs.Target.{is_target_byte}
use Rattle.kapi_request_info.specs.Path.{names_something}

-- a byte of a target that begins no escape, no segment and no query
abbrev pub stands_for_itself : ℕ → Bool
stands_for_itself b = is_target_byte b && (not (b == 37) && (not (b == 47) && not (b == 63)))

-- what the set leaves unescaped stands for itself
abbrev pub IsSegmentSet : AsciiSet → Type 0
IsSegmentSet set = (b : ℕ) → should_percent_encode set b ≡ false → stands_for_itself b ≡ true

-- texts that can be the segments of a path
abbrev pub AreSegments : List (List ℕ) → Type 0
AreSegments names = (list_all names_something names ≡ true) × (list_all is_utf8 names ≡ true) × All (λ s. All (λ b. b < 256) s) names

-- the path of some segments
abbrev pub written : AsciiSet → List (List ℕ) → List ℕ
written set names = flat_map (λ s. 47 ∷ percent_encode set s) names

-- an authority, as far as it matters where it ends (RFC 3986 section 3.2)
abbrev pub is_authority : List ℕ → Bool
is_authority text = list_all (λ b. is_target_byte b && not (b == 47 || b == 63)) text
