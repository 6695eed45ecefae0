-- What a script's answers say of its case.
use Rattle.std.proofs.Common.{◌≡◌, ℕ, Bool, true, List, [], ◌∷◌, ◌++◌, Option, Some, None, Result, Ok, Err, IfOk, refl, sym, ap, subst, ◌∙◌, length, append-nil, append_assoc}
use Rattle.kapi_core.specs.Machine.{Machine, with_rechecks}
use Rattle.kapi_lines.proofs.Appending.{appends_nothing}
use Rattle.kapi_replay.specs.Failures.{FailsAs, FailsBy, FailsOn, IsBadLine, IsNotLoaded, differences, event_text, is_reason_of, number_at, script_text}
use Rattle.kapi_replay.specs.Outcomes.{AreAlike, ArePlayed, IsReplayed, IsReported, checks_in}
use Rattle.kapi_replay.specs.Playing.{Fails}
use Rattle.kapi_loading.specs.Reasons.{is_reason}
use Rattle.kapi_transcripts.specs.declared.failure.Check.{Check}
use Rattle.kapi_transcripts.specs.declared.failure.Failure.{Failure}
use Rattle.kapi_transcripts.specs.declared.failure.Outcome.{Outcome}
use Rattle.kapi_transcripts.specs.declared.failure.Failure.TheVariants as failure
use Rattle.kapi_transcripts.specs.declared.files.LoadedFile.{LoadedFile}
use Rattle.kapi_transcripts.specs.declared.files.Transcript.{Transcript}
use Rattle.kapi_script.specs.Scripts.{IsAnsweredBy, first_bad, lines, said}
use Rattle.kapi_loading.specs.Faults.{FileFault, bad_line}
use Rattle.kapi_transcripts.specs.declared.case.Case.{Case}
use Rattle.kapi_transcripts.specs.declared.case.Loaded.{Loaded}

some_is : (xs ys : List ℕ) → Some xs ≡ Some ys → xs ≡ ys
some_is xs ys e = cc

-- all lines were answered
pub compared : {V E : Type 0} (items : V → List Failure) (r : Result V E) (m : Machine) (c : Case) (text answers shown : List ℕ) → text ≡ script_text c.script
    → IsAnsweredBy m text [] (Some answers) None → shown ≡ answers → IfOk r (λ v. items v ≡ differences c shown) → IfOk r (λ v. FailsOn m c (items v))
compared items (Ok v) m c text answers shown is h same e =
    let told : answers ≡ said m (lines (script_text c.script)) h.0 = rw (← is) (some_is answers (said m (lines text) h.0) h.1) in
    let whole : first_bad (script_text c.script) ≡ None = rw (← is) h.2 in
    (h.0, subst (λ o. FailsAs c o (said m (lines (script_text c.script)) h.0) (items v)) (sym whole) (e ∙ ap (differences c) (same ∙ told)))
compared items (Err x) m c text answers shown is h same e = tt

-- a line had no known form
pub refused : {V E : Type 0} (items : V → List Failure) (r : Result V E) (m : Machine) (c : Case) (n : ℕ) (text : List ℕ) (contents : Option (List ℕ))
    → text ≡ script_text c.script → IsAnsweredBy m text [] contents (Some n) → IfOk r (λ v. IsBadLine c n (items v)) → IfOk r (λ v. FailsOn m c (items v))
refused items (Ok v) m c n text contents is h e =
    let bad : first_bad (script_text c.script) ≡ Some n = rw (← is) h.2 in
    (h.0, subst (λ o. FailsAs c o (said m (lines (script_text c.script)) h.0) (items v)) (sym bad) e)
refused items (Err x) m c n text contents is h e = tt

-- a line of no known form is told with a reason
pub told_form : {V E : Type 0} (items : V → List Failure) (r : Result V E) (c : Case) (n : ℕ) (reason : List ℕ) → is_reason_of (event_text c.script n) reason ≡ true
    → IfOk r (λ v. items v ≡ failure.NoForm (number_at c.script n) reason ∷ []) → IfOk r (λ v. IsBadLine c n (items v))
told_form items (Ok v) c n reason is e = (reason, is, e)
told_form items (Err x) c n reason is e = tt

-- a line that is not loaded is told with a reason
pub told_line : {V E : Type 0} (items : V → List Failure) (r : Result V E) (load : Loaded) (n : ℕ) (reason : List ℕ) → is_reason reason ≡ true
    → IfOk r (λ v. items v ≡ failure.NotLoaded load.number n reason ∷ []) → IfOk r (λ v. IsNotLoaded load n (items v))
told_line items (Ok v) load n reason is e = (reason, is, e)
told_line items (Err x) load n reason is e = tt

-- no machine is made, as a line of the file is not loaded
pub unloaded : {V E : Type 0} (items : V → List Failure) (r : Result V E) (c : Case) (load : Loaded) (n : ℕ) (given : Result Machine FileFault) → given ≡ Err (bad_line n)
    → IfOk r (λ v. IsNotLoaded load n (items v)) → IfOk r (λ v. FailsBy c load given (items v))
unloaded items r c load n given is h = subst (λ x. IfOk r (λ v. FailsBy c load x (items v))) (sym is) h

-- the machine is the one that a file makes
pub loaded : {V E : Type 0} (items : V → List Failure) (r : Result V E) (m : Machine) (c : Case) (load : Loaded) (given : Result Machine FileFault) → given ≡ Ok m
    → IfOk r (λ v. FailsOn (with_rechecks c.rechecks m) c (items v)) → IfOk r (λ v. FailsBy c load given (items v))
loaded items r m c load given is h = subst (λ x. IfOk r (λ v. FailsBy c load x (items v))) (sym is) h

-- nothing is left
pub none_left : {X : Type 0} (xs : List X) → length xs ≡ 0 → xs ≡ []
none_left [] h = refl
none_left (x ∷ xs) h = absurd (cc h)

-- a case more
pub more_played : (loads : List LoadedFile) (all rest later : List Case) (c : Case) (done next : List Check) (old found first given new : List Failure)
    → ((others : List Check) (more : List Failure) → ArePlayed loads rest others more → ArePlayed loads all (done ++ others) (old ++ more)) → rest ≡ c ∷ later
    → Fails loads c found → AreAlike first found → given ≡ first → next ≡ done ++ checks_in c given → new ≡ old ++ first
    → (others : List Check) (more : List Failure) → ArePlayed loads later others more → ArePlayed loads all (next ++ others) (new ++ more)
more_played loads all rest later c done next old found first given new before is fails alike same checks failures others more h =
    let told : next ≡ done ++ checks_in c first = rw (← same) checks in
    rw (told, failures, append_assoc done (checks_in c first) others, append_assoc old first more)
    (before (checks_in c first ++ others) (first ++ more) (rw is (others, found, first, more, refl, refl, fails, alike, h)))

-- no case is left
pub all_played : (loads : List LoadedFile) (all rest : List Case) (done : List Check) (old : List Failure)
    → ((others : List Check) (more : List Failure) → ArePlayed loads rest others more → ArePlayed loads all (done ++ others) (old ++ more)) → rest ≡ []
    → ArePlayed loads all done old
all_played loads all rest done old before is =
    subst (λ fs. ArePlayed loads all done fs) (append-nil old)
    (subst (λ cs. ArePlayed loads all cs (old ++ [])) (append-nil done) (before [] [] (rw is (refl, refl))))

-- a transcript more
pub more_replayed : (rewrites : Bool) (all rest later : List Transcript) (t : Transcript) (begun old new : Option (List ℕ)) (done next : List Outcome) (o : Outcome)
    → ((contents : Option (List ℕ)) (more : List Outcome) → IsReplayed rewrites rest old contents more → IsReplayed rewrites all begun contents (done ++ more))
    → rest ≡ t ∷ later → IsReported rewrites t old new o → next ≡ done ++ o ∷ []
    → (contents : Option (List ℕ)) (more : List Outcome) → IsReplayed rewrites later new contents more → IsReplayed rewrites all begun contents (next ++ more)
more_replayed rewrites all rest later t begun old new done next o before is reported pushed contents more h =
    rw (pushed, append_assoc done (o ∷ []) more) (before contents (o ∷ more) (rw is (new, o, more, reported, h, refl)))

-- no transcript is left
pub all_replayed : (rewrites : Bool) (all rest : List Transcript) (begun old : Option (List ℕ)) (done : List Outcome)
    → ((contents : Option (List ℕ)) (more : List Outcome) → IsReplayed rewrites rest old contents more → IsReplayed rewrites all begun contents (done ++ more))
    → rest ≡ [] → IsReplayed rewrites all begun old done
all_replayed rewrites all rest begun old done before is =
    subst (λ os. IsReplayed rewrites all begun old os) (append-nil done) (before old [] (rw is (appends_nothing old, refl)))
