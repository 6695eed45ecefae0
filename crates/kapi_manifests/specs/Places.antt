-- Where a reader of a file stands: an object begins at a brace and ends at the brace that closes it, if braces in
-- strings do not count (RFC 8259, 'Objects' and 'Strings'). Between objects are white space and comments, which go from
-- `#` to the end of the line; any other line begins no object.
use Rattle.std.specs.Prelude.{ℕ, ◌+◌, ◌-◌, ◌==◌, ◌||◌, nat_le, Bool, true, false, if◌then◌else◌}
use Rattle.kapi_manifests.specs.declared.reader_state.ReaderState.{ReaderState}
use Rattle.kapi_manifests.specs.declared.reader_state.ReaderState.TheVariants.{Between, Comment, Stray, Inside, Quoted, Escaped}

-- a space, a tab, or an end of a line
abbrev pub is_blank : ℕ → Bool
is_blank b = b == 32 || (b == 9 || (b == 13 || b == 10))

-- the place behind the brace that closes the innermost of so many
abbrev pub closed : ℕ → ReaderState
closed depth = if nat_le depth 1 then Between else Inside (depth - 1)

-- the place behind a byte
unfoldable pub behind : ReaderState → ℕ → ReaderState
behind Between b = if is_blank b then Between else (if b == 35 then Comment else (if b == 123 then Inside 1 else Stray))
behind Comment b = if b == 10 then Between else Comment
behind Stray b = if b == 10 then Between else Stray
behind (Inside depth) b =
    if b == 34 then Quoted depth
    else (if b == 123 then Inside (depth + 1)
    else (if b == 125 then closed depth else Inside depth))
behind (Quoted depth) b = if b == 34 then Inside depth else (if b == 92 then Escaped depth else Quoted depth)
behind (Escaped depth) b = Quoted depth

-- the place is in an object, or in a line that begins none
abbrev pub is_piece : ReaderState → Bool
is_piece Between = false
is_piece Comment = false
is_piece _ = true

-- how many braces are open there
abbrev pub depth_of : ReaderState → ℕ
depth_of (Inside depth) = depth
depth_of (Quoted depth) = depth
depth_of (Escaped depth) = depth
depth_of _ = 0
