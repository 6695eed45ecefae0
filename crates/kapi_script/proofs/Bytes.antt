-- Lines, byte by byte.
use Rattle.std.proofs.Common.{◌≡◌, ◌==◌, ℕ, ◌+◌, All, false, List, [], ◌∷◌, ◌++◌, Option, Result, Ok, Err, refl, sym, arith, subst, ap, ◌∙◌, Some, None, OnOk, IfErr, take, append-nil, append_assoc, ◌<◌, ◌≤◌, length, drop, get_or, drop-cons, add-one}
use Rattle.std.specs.Io.KnownBytes.{Consumes, IsAtEnd}
use Rattle.kapi_core.specs.Refines.{Refines}
use Rattle.std.proofs.lemmas.List.{drop_all}
use Rattle.std.proofs.lemmas.List.Elements.{All-append, All-cons, All-nil}
use Rattle.std.proofs.lemmas.List.Splits.{slice_split_at, slice_split_none}
use Rattle.kapi_core.specs.Running.{Running}
use Rattle.kapi_core.specs.Machine.{Machine}
use Rattle.kapi_script.specs.Scripts.{lines, said, first_bad_from}
use Rattle.kapi_script.specs.Private.Playing.{Play, ReachedBy, Reading, ReadsOn, IsPlayedOn, Ends}
use Rattle.kapi_script.specs.declared.script.Script.{Script}
use Rattle.kapi_script.specs.declared.script.ScriptFault.{ScriptFault}
use Rattle.kapi_script.specs.declared.script.ScriptFault.TheVariants as fault

-- LF ends the line that was read
pub line_ends : (all : Play) (byte : ℕ) (unread before line : List ℕ) (core : Running) (s : Script) (c : Option (List ℕ)) → byte ≡ 10 → line ≡ s.line.items
    → Reading all (byte ∷ unread) core s before c → ReachedBy all (line ∷ lines unread) s.lines core before c
line_ends all byte unread before line core s c e f h =
    subst (λ ls. ReachedBy all ls s.lines core before c)
    (slice_split_at (λ b. b == 10) s.line.items byte unread h.0 (rw e refl) ∙ ap (λ l. l ∷ lines unread) (sym f)) h.1

-- the next line begins
pub line_begins : (all : Play) (unread before items : List ℕ) (n : ℕ) (core : Running) (d : Option (List ℕ)) → items ≡ []
    → ReachedBy all (lines unread) n core before d → All (λ b. (b == 10) ≡ false) items × ReachedBy all (lines (items ++ unread)) n core before d
line_begins all unread before items n core d e h =
    subst (λ xs. All (λ b. (b == 10) ≡ false) xs × ReachedBy all (lines (xs ++ unread)) n core before d) (sym e) ((λ k d below. absurd (omega (arith, below))), h)

-- a byte more of a line
pub byte_pushed : (all : Play) (byte : ℕ) (unread before : List ℕ) (core : Running) (s t : Script) (c : Option (List ℕ)) (result : Result (Unit {0}) ScriptFault)
    → (byte == 10) ≡ false → t.lines ≡ s.lines → OnOk result (t.line.items ≡ s.line.items ++ byte ∷ []) → IfErr result (λ e. e ≡ fault.Memory)
    → Reading all (byte ∷ unread) core s before c → ReadsOn all unread core t before c result
byte_pushed all byte unread before core s t c (Ok done) other lines_are pushed _ h =
    let P : List ℕ → ℕ → Type 0 = λ items n. All (λ b. (b == 10) ≡ false) items × ReachedBy all (lines (items ++ unread)) n core before c in
    let whole = All-append (λ b. (b == 10) ≡ false) s.line.items (byte ∷ []) h.0 (All-cons (λ b. (b == 10) ≡ false) byte [] other (All-nil (λ b. (b == 10) ≡ false))) in
    let there = subst (λ ls. ReachedBy all (lines ls) s.lines core before c) (sym (append_assoc s.line.items (byte ∷ []) unread)) h.1 in
    subst (λ n. P t.line.items n) (sym lines_are) (subst (λ items. P items s.lines) (sym pushed) (whole, there))
byte_pushed all byte unread before core s t c (Err (fault.BadLine number reason)) other lines_are pushed is h = absurd (cc is)
byte_pushed all byte unread before core s t c (Err fault.Read) other lines_are pushed is h = tt
byte_pushed all byte unread before core s t c (Err fault.Write) other lines_are pushed is h = tt
byte_pushed all byte unread before core s t c (Err fault.Memory) other lines_are pushed is h = tt

-- what ended a line ends the script
pub line_failed : (all : Play) (rest : List (List ℕ)) (unread before : List ℕ) (n : ℕ) (core : Running) (s : Script) (d : Option (List ℕ)) (result : Result (Unit {0}) ScriptFault) (e : ScriptFault)
    → result ≡ Err e → IsPlayedOn all rest n core before d result → ReadsOn all unread core s before d (Err e)
line_failed all rest unread before n core s d result (fault.BadLine number reason) is h = subst (λ r. IsPlayedOn all rest n core before d r) is h
line_failed all rest unread before n core s d result fault.Read is h = tt
line_failed all rest unread before n core s d result fault.Write is h = tt
line_failed all rest unread before n core s d result fault.Memory is h = tt

-- nothing is left to be read but the last line
pub last_line : (all : Play) (before line : List ℕ) (core : Running) (s : Script) (c : Option (List ℕ)) → line ≡ s.line.items → Reading all [] core s before c
    → ReachedBy all (line ∷ []) s.lines core before c
last_line all before line core s c e h =
    subst (λ ls. ReachedBy all ls s.lines core before c)
    (ap lines (append-nil s.line.items) ∙ slice_split_none (λ b. b == 10) s.line.items h.0 ∙ ap (λ l. l ∷ []) (sym e)) h.1

-- all lines were played
pub ended : (all : Play) (before : List ℕ) (n : ℕ) (core : Running) (d : Option (List ℕ)) (result : Result (Unit {0}) ScriptFault)
    → IsPlayedOn all [] n core before d result → Ends all before d result
unfolding said first_bad_from
ended all before n core d (Ok done) h =
    let s = h.1.said_so_far [] in
    (s.0, h.2 ∙ ap (λ t. Some (before ++ t)) (sym (s.1 ∙ append-nil h.0)), h.1.none_bad)
ended all before n core d (Err (fault.BadLine number reason)) h = h
ended all before n core d (Err fault.Read) h = tt
ended all before n core d (Err fault.Write) h = tt
ended all before n core d (Err fault.Memory) h = tt

-- the next byte that is read
pub byte_first : (all : Play) (bytes unread before : List ℕ) (i : ℕ) (core : Running) (s : Script) (c : Option (List ℕ)) → i < length bytes
    → Reading all (drop i bytes ++ unread) core s before c → Reading all (get_or bytes i 0 ∷ (drop (i + 1) bytes ++ unread)) core s before c
byte_first all bytes unread before i core s c below h =
    subst (λ xs. Reading all (xs ++ unread) core s before c) (drop-cons bytes i 0 below ∙ ap (λ k. get_or bytes i 0 ∷ drop k bytes) (sym (add-one i))) h

-- all bytes were read
pub bytes_end : (all : Play) (bytes unread before : List ℕ) (i : ℕ) (core : Running) (s : Script) (c : Option (List ℕ)) → length bytes ≤ i
    → Reading all (drop i bytes ++ unread) core s before c → Reading all unread core s before c
bytes_end all bytes unread before i core s c over h = subst (λ xs. Reading all (xs ++ unread) core s before c) (drop_all i bytes over) h

-- what ended the script does not depend on what was not read
pub reads_failed : (all : Play) (unread other before : List ℕ) (core later : Running) (s t : Script) (d : Option (List ℕ)) (e : ScriptFault)
    → ReadsOn all unread core s before d (Err e) → ReadsOn all other later t before d (Err e)
reads_failed all unread other before core later s t d (fault.BadLine number reason) h = h
reads_failed all unread other before core later s t d fault.Read h = tt
reads_failed all unread other before core later s t d fault.Write h = tt
reads_failed all unread other before core later s t d fault.Memory h = tt

some_same : (xs ys : List ℕ) → Some xs ≡ Some ys → xs ≡ ys
some_same xs ys e = cc

-- a piece was read of what was left
pub read_some : (c d : Option (List ℕ)) (unread piece : List ℕ) → c ≡ Some unread → Consumes c d piece
    → (rest : List ℕ) × (d ≡ Some rest) × (unread ≡ piece ++ rest)
read_some None d unread piece e h = absurd (cc e)
read_some (Some xs) None unread piece e h = absurd h
read_some (Some xs) (Some ys) unread piece e h = (ys, refl, sym (some_same xs unread e) ∙ h)

at_end : (d : Option (List ℕ)) (rest : List ℕ) → d ≡ Some rest → IsAtEnd d → rest ≡ []
at_end None rest e h = absurd (cc e)
at_end (Some xs) rest e h = sym (some_same xs rest e) ∙ h

-- nothing was left
pub read_none : (c d : Option (List ℕ)) (unread buffer : List ℕ) (count : ℕ) → c ≡ Some unread → Consumes c d (take count buffer) → count ≡ 0 → IsAtEnd d
    → unread ≡ []
read_none c d unread buffer count e h none end =
    let r = read_some c d unread (take count buffer) e h in
    r.2 ∙ ap (λ n. take n buffer ++ r.0) none ∙ at_end d r.0 r.1 end

pub on_ok : (result : Result (Unit {0}) ScriptFault) (P : Type 0) → P → OnOk result P
on_ok (Ok done) P p = p
on_ok (Err e) P p = tt

-- what ended the reading ends the script
pub ends_failed : (all : Play) (unread before : List ℕ) (core : Running) (s : Script) (d : Option (List ℕ)) (e : ScriptFault)
    → ReadsOn all unread core s before d (Err e) → Ends all before d (Err e)
ends_failed all unread before core s d (fault.BadLine number reason) h = h
ends_failed all unread before core s d fault.Read h = tt
ends_failed all unread before core s d fault.Write h = tt
ends_failed all unread before core s d fault.Memory h = tt

-- at the start nothing was read
pub at_start : (m : Machine) (text before items : List ℕ) (core : Running) (c : Option (List ℕ)) → items ≡ [] → Refines core m → c ≡ Some before
    → All (λ b. (b == 10) ≡ false) items × ReachedBy (record { begun = m; lines = lines text }) (lines (items ++ text)) 0 core before c
at_start m text before items core c none stands e =
    line_begins (record { begun = m; lines = lines text }) text before items 0 core c none (
      [],
      record { machine = m; stands = stands; said_so_far = λ refused. (refused, refl); none_bad = refl },
      e ∙ ap Some (sym (append-nil before)),
    )
