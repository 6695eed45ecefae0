-- What a core has loaded, line by line.
use Rattle.std.proofs.Common.{◌≡◌, ℕ, suc, ◌+◌, true, false, List, ◌∷◌, Option, None, Some, Result, Ok, Err, is_some, is_err, map, refl, sym, ap, ◌∙◌, subst, add-one, drop, drop-cons, get_or, length, ◌<◌, ◌≤◌}
use Rattle.std.proofs.lemmas.List.{drop_all}
use Rattle.kapi_text.specs.ResultIs.{Fails, ◌>>=◌}
use Rattle.kapi_answer.specs.Load.{LoadFault, model_of_fault, loads}
use Rattle.kapi_answer.specs.declared.loading.LoadError.{LoadError}
use Rattle.kapi_core.specs.Machine.{Machine, changed}
use Rattle.kapi_core.specs.Opening.{opening}
use Rattle.kapi_core.specs.Refines.{Loads, Refines}
use Rattle.kapi_core.specs.Running.{Running}
use Rattle.kapi_lines.specs.Lines.{line_of, lines_of}
use Rattle.kapi_lines.specs.declared.line.Line.{Line}
use Rattle.kapi_loading.specs.Faults.{FileFault}
use Rattle.kapi_model.specs.declared.row.ResourceRow.{ResourceRow}
use Rattle.kapi_loading.specs.Loading.{loaded, machine_from, made_by, turned}
use Rattle.kapi_policy.specs.declared.change.PolicyChange.{PolicyChange}

-- of lines those from a place on are still to be loaded
abbrev pub LoadedTo : Machine → List Line → ℕ → Running → Type 0
LoadedTo m lines i core = (k : Machine) × (loaded m (map line_of lines) ≡ loaded k (map line_of (drop i lines))) × Refines core k

-- a line more is loaded
pub line_loaded : (m : Machine) (lines : List Line) (i : ℕ) (d : Line) (core next : Running) (made : List PolicyChange)
    → i < length lines → LoadedTo m lines i core → Loads core next (get_or lines i d).text.now (Ok made) → LoadedTo m lines (i + 1) next
unfolding loaded
line_loaded m lines i d core next made below (k, said, stands) loads_ok =
    let l = get_or lines i d in
    let t = loads_ok k stands in
    let rest = map line_of (drop (suc i) lines) in
    let one : loaded k (line_of l ∷ rest) ≡ loaded (changed t.0 k) rest = ap (λ r. made_by l.number k r >>= λ next. loaded next rest) t.1 in
    subst (λ n. LoadedTo m lines n next) (sym (add-one i)) (changed t.0 k, said ∙ ap (λ ls. loaded k (map line_of ls)) (drop-cons lines i d below) ∙ one, t.3)

-- a line is not loaded
pub line_refused : (m : Machine) (lines : List Line) (i : ℕ) (d : Line) (core next : Running) (e : LoadError)
    → i < length lines → LoadedTo m lines i core → Loads core next (get_or lines i d).text.now (Err e) → is_some (model_of_fault e) ≡ true
    → is_err (loaded m (map line_of lines)) ≡ true
unfolding loaded
line_refused m lines i d core next e below (k, said, stands) fails known =
    let l = get_or lines i d in
    let rest = map line_of (drop (suc i) lines) in
    ap is_err (said ∙ ap (λ ls. loaded k (map line_of ls)) (drop-cons lines i d below)) ∙ by_fault (model_of_fault e) (loads k.store l.text.now) known (fails k stands).0
  where
    by_fault : (told : Option LoadFault) (given : Result _ LoadFault) → is_some told ≡ true → Fails told given
        → is_err (made_by (get_or lines i d).number k given >>= λ next. loaded next (map line_of (drop (suc i) lines))) ≡ true
    by_fault None given known h = absurd (cc known)
    by_fault (Some fault) given known h = rw h refl

-- all lines are loaded
pub all_loaded : (m : Machine) (lines : List Line) (i : ℕ) (core : Running) → length lines ≤ i → LoadedTo m lines i core
    → is_err (loaded m (map line_of lines)) ≡ false
unfolding loaded
all_loaded m lines i core past (k, said, stands) = ap is_err (said ∙ ap (λ ls. loaded k (map line_of ls)) (drop_all i lines past))

-- a file makes no machine exactly if one of its lines is not loaded
pub made_fails : (table : List ResourceRow) (first : ℕ) (objects : List ℕ) → is_err (machine_from table first objects) ≡ is_err (loaded (opening table first) (lines_of objects))
unfolding machine_from
made_fails table first objects = by_result (loaded (opening table first) (lines_of objects))
  where
    by_result : (r : Result Machine FileFault) → is_err (r >>= λ k. Ok (turned 64 k)) ≡ is_err r
    by_result (Ok k) = refl
    by_result (Err fault) = refl
