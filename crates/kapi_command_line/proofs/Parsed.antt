-- What clap makes of Kapi's command line.
use Rattle.std.proofs.Common.{◌≡◌, ◌∙◌, ◌⊎◌, ◌==◌, ◌≢◌, Bool, true, false, List, [], ◌∷◌, length, Option, Some, None, Result, Ok, Err, IfOk, IsErrOf, inl, inr, refl, sym, ap, subst, not, codes, if◌then◌else◌}
use Rattle.std.proofs.Math.Dec.{eqb-suc-zero}
use Rattle.std.specs.Prelude.{option_and_then, option_map}
use Rattle.std.specs.List.{list_any}
use Rattle.std.specs.Str.{bytes_eq}
use Rattle.std.proofs.lemmas.Bool.{or_right}
use Rattle.clap.specs.Faults.{fault_of, is_simple_and_free}
use Rattle.clap.specs.Kinds.{IsAmong, Kinds}
use Rattle.clap.specs.Simple.{App, HasMatchesOf, is_simple, subcommand_of, subcommand_rows_of}
use Rattle.clap.specs.Walk.{Row, Text}
use Rattle.clap.specs.declared.error.kind.ErrorKind.{ErrorKind}
use Rattle.clap.specs.declared.error.kind.ErrorKind.TheVariants.{DisplayHelp, DisplayVersion, OutOfMemory}
use Rattle.clap.specs.declared.parser.matches.ArgMatches.{ArgMatches}
use Rattle.clap.proofs.OnLiterals.{clap_on_literals}
use Rattle.kapi_command_line.specs.Asked.{AreWrong, Names, Reads, Shows, asked, asked_by, asking_in, audit_in, compare_in, each, is_shown, paths_in, serve_in, suggest_in, what_in, who_in}
use Rattle.kapi_command_line.specs.CommandLine.{kapi}
use Rattle.kapi_command_line.specs.declared.program.Command.{Command}
use Rattle.kapi_command_line.specs.declared.program.Command.TheVariants.{Audit, Check, Compare, Paths, Replay, Risks, Script, Serve, Show, Suggest, What, Who}
use Rattle.kapi_command_line.specs.declared.program.Asking.{Asking}
use Rattle.clap.specs.declared.error.Error.{Error}
use Rattle.kapi_command_line.specs.declared.program.CommandFault.{CommandFault}
use Rattle.kapi_command_line.specs.declared.program.CommandFault.TheVariants as fault

kapi_is_simple : is_simple kapi ≡ true
unfolding clap_on_literals
kapi_is_simple = refl

kapi_is_free : is_simple_and_free kapi ≡ true
unfolding clap_on_literals
kapi_is_free = refl

-- ---- a parse that succeeds

abbrev pub given : ArgMatches → Option Command
given m = option_and_then (λ p. asked_by p.0 p.1) (subcommand_rows_of m)

pub faultless : (a : App) (words : List Text) → a ≡ kapi → (is_simple_and_free a ≡ true → fault_of a words ≡ []) → fault_of kapi words ≡ []
faultless a words e none = ap (λ x. fault_of x words) (sym e) ∙ none (ap is_simple_and_free e ∙ kapi_is_free)

pub asked_of : (a : App) (words : List Text) (m : ArgMatches) → a ≡ kapi → (is_simple_and_free a ≡ true → fault_of a words ≡ []) → HasMatchesOf a words m
    → asked words ≡ given m
unfolding asked
asked_of a words m e none rows =
    let same : subcommand_rows_of m ≡ subcommand_of kapi words = (rows (ap is_simple e ∙ kapi_is_simple)).1 ∙ ap (λ x. subcommand_of x words) e in
    rw (faultless a words e none, same) refl

never_some : {X : Type 0} (f : X → Command) → ((x : X) (k : Error) → f x ≡ Show k → ⊥) → (o : Option X) (k : Error) → option_map f o ≡ Some (Show k) → ⊥
never_some f never None k e = cc
never_some f never (Some x) k e = never x k (cc e)

never_check : (o : Option Asking) (kinds : List Text) (k : Error) → option_map (λ ask. Check ask kinds) o ≡ Some (Show k) → ⊥
never_check None kinds k e = cc
never_check (Some x) kinds k e = let both : Check x kinds ≡ Show k = cc e in cc both

-- a choice is no text to be shown if neither side is
one_of : (b : Bool) (x y : Option Command) (k : Error) → (x ≡ Some (Show k) → ⊥) → (y ≡ Some (Show k) → ⊥) → (if b then x else y) ≡ Some (Show k) → ⊥
one_of true x y k p q e = p e
one_of false x y k p q e = q e

never_by : (name : Text) (rows : List Row) (k : Error) → asked_by name rows ≡ Some (Show k) → ⊥
never_by name rows k =
    one_of (bytes_eq name (codes "script")) _ _ k (λ e. cc e)
    (one_of (bytes_eq name (codes "audit")) _ _ k (never_some Audit (λ x k e. cc e) (audit_in rows) k)
    (one_of (bytes_eq name (codes "serve")) _ _ k (never_some Serve (λ x k e. cc e) (serve_in rows) k)
    (one_of (bytes_eq name (codes "replay")) _ _ k (λ e. cc e)
    (one_of (bytes_eq name (codes "compare")) _ _ k (never_some Compare (λ x k e. cc e) (compare_in rows) k)
    (one_of (bytes_eq name (codes "who")) _ _ k (never_some Who (λ x k e. cc e) (who_in rows) k)
    (one_of (bytes_eq name (codes "what")) _ _ k (never_some What (λ x k e. cc e) (what_in rows) k)
    (one_of (bytes_eq name (codes "risks")) _ _ k (never_some Risks (λ x k e. cc e) (asking_in (codes "POLICY") rows) k)
    (one_of (bytes_eq name (codes "paths")) _ _ k (never_some Paths (λ x k e. cc e) (paths_in rows) k)
    (one_of (bytes_eq name (codes "check")) _ _ k (never_check (asking_in (codes "POLICY") rows) (each (codes "kinds") rows) k)
    (one_of (bytes_eq name (codes "suggest")) _ _ k (never_some Suggest (λ x k e. cc e) (suggest_in rows) k) (λ e. cc e)))))))))))

never_shown : (o : Option (Text × List Row)) (k : Error) → option_and_then (λ p. asked_by p.0 p.1) o ≡ Some (Show k) → ⊥
never_shown None k e = cc
never_shown (Some p) k e = never_by p.0 p.1 k e

pub names_of : (words : List Text) (m : ArgMatches) (r : Result Command CommandFault) → asked words ≡ given m → Reads r (given m) → IfOk r (Names words)
names_of words m (Ok (Script ks)) e h = e ∙ h
names_of words m (Ok (Audit f)) e h = e ∙ h
names_of words m (Ok (Serve o)) e h = e ∙ h
names_of words m (Ok (Replay o)) e h = e ∙ h
names_of words m (Ok (Compare o)) e h = e ∙ h
names_of words m (Ok (Paths o)) e h = e ∙ h
names_of words m (Ok (Check o ks)) e h = e ∙ h
names_of words m (Ok (Suggest o)) e h = e ∙ h
names_of words m (Ok (Who o)) e h = e ∙ h
names_of words m (Ok (What o)) e h = e ∙ h
names_of words m (Ok (Risks o)) e h = e ∙ h
names_of words m (Ok (Show x)) e h = absurd (never_shown (subcommand_rows_of m) _ h)
names_of words m (Err x) e h = tt

pub wrong_of : (words : List Text) (m : ArgMatches) (r : Result Command CommandFault) → asked words ≡ given m → (fault_of kapi words ≡ [])
    → Reads r (given m) → IsErrOf r fault.Words → AreWrong words
wrong_of words m (Ok c) e none h is = let bad : ⊥ = cc in absurd bad
wrong_of words m (Err fault.Words) e none h is = (e ∙ h, inl none)
wrong_of words m (Err fault.Memory) e none h is = let bad : ⊥ = cc in absurd bad

-- ---- a parse that fails

not_shown : (k : ErrorKind) → k ≢ DisplayHelp → k ≢ DisplayVersion → not (is_shown k) ≡ true
not_shown DisplayHelp h v = absurd (h refl)
not_shown DisplayVersion h v = absurd (v refl)
not_shown _ h v = refl

some_kind : (k : ErrorKind) (ks : Kinds) → IsAmong k ks → (length ks == 0) ≡ false
some_kind k [] h = absurd h
some_kind k (x ∷ xs) h = eqb-suc-zero (length xs)

among_any : (p : ErrorKind → Bool) (k : ErrorKind) (ks : Kinds) → p k ≡ true → IsAmong k ks → list_any p ks ≡ true
among_any p k [] e h = absurd h
among_any p k (x ∷ xs) e (inl same) = rw (← same, e) refl
among_any p k (x ∷ xs) e (inr more) = rw (among_any p k xs e more) (or_right (p x) true refl)

wrong_among : (words : List Text) (k : ErrorKind) → k ≢ DisplayHelp → k ≢ DisplayVersion → IsAmong k (fault_of kapi words) → AreWrong words
unfolding asked
wrong_among words k h v among =
    let some = some_kind k (fault_of kapi words) among in
    (rw some refl, inr (among_any (λ x. not (is_shown x)) k (fault_of kapi words) (not_shown k h v) among))

pub wrong_at : (a : App) (words : List Text) (x k : ErrorKind) → a ≡ kapi → x ≡ k → (is_simple_and_free a ≡ true → (k ≡ OutOfMemory) ⊎ IsAmong k (fault_of a words))
    → x ≢ DisplayHelp → x ≢ DisplayVersion → x ≢ OutOfMemory → AreWrong words
wrong_at a words x k e same kinds h v o =
    elim (kinds (ap is_simple_and_free e ∙ kapi_is_free)) [
      | inl memory ↦ absurd (o (same ∙ memory))
      | inr among ↦ wrong_among words k (λ z. h (same ∙ z)) (λ z. v (same ∙ z)) (subst (λ y. IsAmong k (fault_of y words)) e among)
    ]

-- a text that is asked for is shown
pub shown_at : (a : App) (words : List Text) (x k : ErrorKind) → a ≡ kapi → x ≡ k → (is_simple_and_free a ≡ true → (k ≡ OutOfMemory) ⊎ IsAmong k (fault_of a words))
    → is_shown x ≡ true → Shows words k
shown_at a words x k e same kinds shown =
    elim (kinds (ap is_simple_and_free e ∙ kapi_is_free)) [
      | inl memory ↦ never_memory (ap is_shown (sym (same ∙ memory)) ∙ shown)
      | inr among ↦ (subst (λ y. IsAmong k (fault_of y words)) e among, ap is_shown (sym same) ∙ shown)
    ]
  where
    never_memory : {P : Type 0} → is_shown OutOfMemory ≡ true → P
    never_memory h = absurd (cc h)
