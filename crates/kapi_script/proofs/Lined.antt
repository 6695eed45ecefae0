-- One line more of a script.
use Rattle.std.proofs.Common.{◌≡◌, ℕ, ◌+◌, Bool, true, false, List, [], ◌∷◌, ◌++◌, Option, Some, None, Result, Ok, Err, OnOk, IfErr, refl, sym, ap, ◌∙◌, subst, append_assoc, append-nil, Bor}
use Rattle.std.specs.Io.KnownBytes.{Appends}
use Rattle.kapi_core.specs.Machine.{Machine}
use Rattle.kapi_core.specs.Refines.{Refines}
use Rattle.kapi_core.specs.Running.{Running}
use Rattle.kapi_script.specs.AnswerLines.{answer_line, refused_line}
use Rattle.kapi_script.specs.Scripts.{bad, line_of, is_bad, written_for, after_line, said, first_bad_from}
use Rattle.kapi_script.specs.Private.Playing.{Play, Plays, played_text, Reached, ReachedBy, Stopped, IsPlayedOn}
use Rattle.kapi_script.specs.declared.script.Played.{Played}
use Rattle.kapi_script.specs.declared.script.Played.TheVariants as played
use Rattle.kapi_script.specs.declared.script.ScriptFault.{ScriptFault}
use Rattle.kapi_script.specs.declared.script.ScriptFault.TheVariants as fault

said_more : (m : Machine) (line : List ℕ) (rest : List (List ℕ)) (r : Bool) (rs : List Bool) → is_bad (line_of line) ≡ false
    → said m (line ∷ rest) (r ∷ rs) ≡ written_for (line_of line) r m ++ said (after_line (line_of line) r m) rest rs
unfolding said
said_more m line rest r rs e = rw e refl

said_bad : (m : Machine) (line : List ℕ) (rest : List (List ℕ)) (rs : List Bool) → is_bad (line_of line) ≡ true → said m (line ∷ rest) rs ≡ []
unfolding said
said_bad m line rest rs e = rw e refl

good_first : (n : ℕ) (line : List ℕ) (rest : List (List ℕ)) → is_bad (line_of line) ≡ false → first_bad_from n (line ∷ rest) ≡ first_bad_from (n + 1) rest
unfolding first_bad_from
good_first n line rest e = rw e refl

bad_first : (n : ℕ) (line : List ℕ) (rest : List (List ℕ)) → is_bad (line_of line) ≡ true → first_bad_from n (line ∷ rest) ≡ Some n
unfolding first_bad_from
bad_first n line rest e = rw e refl

-- a line was played, or refused as it ran out of memory
reached_more : (all : Play) (rest : List (List ℕ)) (n : ℕ) (old new : Running) (line written text : List ℕ) (r : Bool) (h : Reached all (line ∷ rest) n old written)
    → is_bad (line_of line) ≡ false → text ≡ written_for (line_of line) r h.machine → Refines new (after_line (line_of line) r h.machine)
    → Reached all rest (n + 1) new (written ++ text)
reached_more all rest n old new line written text r h good e stands = record {
  machine = after_line (line_of line) r h.machine;
  stands = stands;
  said_so_far = λ rs.
      let s = h.said_so_far (r ∷ rs) in (
        s.0,
        s.1 ∙ ap (λ t. written ++ t) (said_more h.machine line rest r rs good ∙ ap (λ t. t ++ said (after_line (line_of line) r h.machine) rest rs) (sym e))
            ∙ sym (append_assoc written text (said (after_line (line_of line) r h.machine) rest rs)),
      );
  none_bad = h.none_bad ∙ good_first (n + 1) line rest good;
}

some_is : (xs ys : List ℕ) → Some xs ≡ Some ys → xs ≡ ys
some_is xs ys e = cc

-- what a writer holds that held some bytes before
held : (before written text : List ℕ) (c d : Option (List ℕ)) → c ≡ Some (before ++ written) → Appends c d text → d ≡ Some (before ++ (written ++ text))
held before written text None d e h = absurd (cc e)
held before written text (Some xs) None e h = absurd h
held before written text (Some xs) (Some ys) e h =
    ap Some (h ∙ ap (λ l. l ++ text) (some_is xs (before ++ written) e) ∙ append_assoc before written text)

-- a writer holds its old bytes and then what was written
reached_by : (all : Play) (rest : List (List ℕ)) (n : ℕ) (old new : Running) (line before text : List ℕ) (r : Bool) (c d : Option (List ℕ)) → is_bad (line_of line) ≡ false
    → Appends c d text → (h : ReachedBy all (line ∷ rest) n old before c) → text ≡ written_for (line_of line) r h.1.machine
    → Refines new (after_line (line_of line) r h.1.machine) → ReachedBy all rest (n + 1) new before d
reached_by all rest n old new line before text r c d good wrote h e stands =
    (h.0 ++ text, reached_more all rest n old new line h.0 text r h.1 good e stands, held before h.0 text c d h.2 wrote)

-- the line was not bad
abbrev IsGood : Played → Type 0
IsGood p = (reason : Bor (List ℕ)) → p ≡ played.Bad reason → ⊥

-- one line more, that is not bad
more : (all : Play) (rest : List (List ℕ)) (n : ℕ) (old new : Running) (line before : List ℕ) (p : Played) (c d : Option (List ℕ)) → Plays old new line p → IsGood p
    → Appends c d (played_text p) → ReachedBy all (line ∷ rest) n old before c → ReachedBy all rest (n + 1) new before d
more all rest n old new line before played.Skipped c d plays good wrote h =
    reached_by all rest n old new line before [] false c d (rw plays.0 refl) wrote h (rw plays.0 refl) (rw plays.0 (plays.1 h.1.machine h.1.stands))
more all rest n old new line before (played.Bad reason) c d plays good wrote h = absurd (good reason refl)
more all rest n old new line before played.Refused c d plays good wrote h =
    reached_by all rest n old new line before refused_line true c d (rw plays.1 refl) wrote h (rw plays.1 refl) (rw plays.1 (plays.2 h.1.machine h.1.stands))
more all rest n old new line before (played.Answered answer) c d plays good wrote h =
    let made = plays.2 h.1.machine h.1.stands in
    reached_by all rest n old new line before (answer_line answer) false c d (rw plays.1 refl) wrote h (rw plays.1 (ap answer_line made.0)) (rw plays.1 made.1)

-- a line was played, and its answer written or not
pub gone : (all : Play) (rest : List (List ℕ)) (n : ℕ) (old new : Running) (line before : List ℕ) (p : Played) (c d : Option (List ℕ)) (result : Result (Unit {0}) ScriptFault)
    → Plays old new line p → IsGood p → OnOk result (Appends c d (played_text p)) → IfErr result (λ e. e ≡ fault.Write)
    → ReachedBy all (line ∷ rest) n old before c → IsPlayedOn all rest (n + 1) new before d result
gone all rest n old new line before p c d (Ok done) plays good wrote failed h = more all rest n old new line before p c d plays good wrote h
gone all rest n old new line before p c d (Err e) plays good wrote failed h = subst (λ e. IsPlayedOn all rest (n + 1) new before d (Err e)) (sym failed) tt

-- a bad line ends the script
pub stopped : (all : Play) (rest : List (List ℕ)) (n : ℕ) (old new : Running) (line before : List ℕ) (p : Played) (reason : Bor (List ℕ)) (c : Option (List ℕ))
    → Plays old new line p → p ≡ played.Bad reason → ReachedBy all (line ∷ rest) n old before c → Stopped all (n + 1) before c
stopped all rest n old new line before p reason c plays is h =
    let known : line_of line ≡ bad = subst (Plays old new line) is plays in
    let is_so : is_bad (line_of line) ≡ true = rw known refl in
    let s = h.1.said_so_far [] in (
      s.0,
      h.2 ∙ ap (λ t. Some (before ++ t)) (sym (s.1 ∙ ap (λ t. h.0 ++ t) (said_bad h.1.machine line rest [] is_so) ∙ append-nil h.0)),
      h.1.none_bad ∙ bad_first (n + 1) line rest is_so,
    )
