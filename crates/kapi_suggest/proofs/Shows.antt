-- The lines of an audit log that are left give the rest of its uses.
use Rattle.std.proofs.Common.{◌≡◌, ℕ, suc, ◌+◌, ◌<◌, ◌≤◌, List, ◌∷◌, length, map, drop, get_or, Option, Some, None, Result, Ok, Err, refl, sym, ap, subst, ◌∙◌, add-one, drop-cons}
use Rattle.std.proofs.lemmas.List.{drop_all}
use Rattle.kapi_text.specs.ResultIs.{Fails, ◌>>=◌}
use Rattle.kapi_lines.specs.Lines.{NumberedLine, line_of}
use Rattle.kapi_lines.specs.declared.line.Line.{Line}
use Rattle.kapi_access.specs.Lines.{LineError}
use Rattle.kapi_reviews.specs.declared.question.Question.{Question}
use Rattle.kapi_suggest.specs.Events.{uses_in, with_line}

one_more : (uses more : List Question) (l : NumberedLine) (ls : List NumberedLine) → with_line uses l ≡ Ok more → uses_in uses (l ∷ ls) ≡ uses_in more ls
unfolding uses_in
one_more uses more l ls is =
    let P : Result (List Question) LineError → Type 0 = λ r. (r >>= λ m. uses_in m ls) ≡ uses_in more ls in subst P (sym is) refl

one_bad : (uses : List Question) (l : NumberedLine) (ls : List NumberedLine) (e : LineError) → with_line uses l ≡ Err e → uses_in uses (l ∷ ls) ≡ Err e
unfolding uses_in
one_bad uses l ls e is =
    let P : Result (List Question) LineError → Type 0 = λ r. (r >>= λ m. uses_in m ls) ≡ Err e in subst P (sym is) refl

module _ (lines : List Line) (i : ℕ) (uses : List Question) (all : Result (List Question) LineError) (h : uses_in uses (map line_of (drop i lines)) ≡ all) where
  abbrev left : List Line → Result (List Question) LineError
  left ls = uses_in uses (map line_of ls)

  -- a line more that is read
  pub reading_more : (d : Line) (more : List Question) → i < length lines → with_line uses (line_of (get_or lines i d)) ≡ Ok more → uses_in more (map line_of (drop (i + 1) lines)) ≡ all
  reading_more d more below is =
      let said = sym (one_more uses more (line_of (get_or lines i d)) (map line_of (drop (suc i) lines)) is) ∙ ap left (sym (drop-cons lines i d below)) ∙ h in
      subst (λ n. uses_in more (map line_of (drop n lines)) ≡ all) (sym (add-one i)) said

  -- a line that is no event
  pub reading_bad : (d : Line) (o : Option LineError) → i < length lines → Fails o (with_line uses (line_of (get_or lines i d))) → Fails o all
  reading_bad d None below fails = tt
  reading_bad d (Some e) below fails =
      sym h ∙ ap left (drop-cons lines i d below) ∙ one_bad uses (line_of (get_or lines i d)) (map line_of (drop (suc i) lines)) e fails

  -- no line is left
  pub reading_all : length lines ≤ i → all ≡ Ok uses
  unfolding uses_in
  reading_all past = sym h ∙ ap left (drop_all i lines past)
