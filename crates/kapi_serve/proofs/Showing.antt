-- Steps that are published behind the others.
use Rattle.std.proofs.Common.{◌≡◌, ◌↔◌, ◌≤◌, ◌<◌, Bool, true, false, List, [], ◌∷◌, ◌++◌, length, refl, sym, ap, ◌∙◌, subst, append_assoc, length-append, Option, None, Some, arith}
use Rattle.std.specs.Option.{option_to_list}
use Rattle.std.proofs.lemmas.List.{append-nil}
use Rattle.kapi_policy.specs.declared.change.PolicyChange.{PolicyChange}
use Rattle.kapi_publishing.specs.Boards.{Board}
use Rattle.kapi_publishing.specs.Steps.{step_of}
use Rattle.kapi_serve.specs.Publishes.{IsPrompt, Publishes, Takes, all_steps, unpublished}

-- nothing waits if none is pending
pub none_waits : (ws : List (List PolicyChange)) (b : Bool) → ((b ≡ true) ↔ (0 < length ws)) → b ≡ false → ws ≡ []
none_waits [] b iff off = refl
none_waits (w ∷ ws) b iff off = let on : b ≡ true = iff.1 (omega arith) in absurd (cc)

-- ---- nothing is shown

pub shows_nothing : (d : Board) (k : Option (List PolicyChange)) → Publishes d d k k []
shows_nothing d k = record { opening = refl; all = sym (append-nil (all_steps d k)); prompt = λ h. h }

pub shows_empty : (d : Board) (k : Option (List PolicyChange)) (cs : List PolicyChange) → cs ≡ [] → Publishes d d k k (step_of cs)
shows_empty d k cs none = subst (λ xs. Publishes d d k k (step_of xs)) (sym none) (shows_nothing d k)

pub shows_as : (d e : Board) (k q : Option (List PolicyChange)) (xs ys : List (List PolicyChange)) → xs ≡ ys → Publishes d e k q xs → Publishes d e k q ys
shows_as d e k q xs ys same s = subst (λ zs. Publishes d e k q zs) same s

-- steps are published one after the other
pub shows_on : (d e f : Board) (p q r : Option (List PolicyChange)) (xs ys : List (List PolicyChange)) → Publishes d e p q xs → Publishes e f q r ys → Publishes d f p r (xs ++ ys)
shows_on d e f p q r xs ys s t = record {
  opening = t.opening ∙ s.opening;
  all = t.all ∙ ap (λ zs. zs ++ ys) s.all ∙ append_assoc (all_steps d p) xs ys;
  prompt = λ h. t.prompt (s.prompt h);
}

pub shows_on_nothing : (d e f : Board) (p q r : Option (List PolicyChange)) → Publishes d e p q [] → Publishes e f q r [] → Publishes d f p r []
shows_on_nothing d e f p q r s t = shows_on d e f p q r [] [] s t

-- ---- a step is shown

pub prompt_none : (d : Board) → d.waiting ≡ [] → (k : Option (List PolicyChange)) → k ≡ None → IsPrompt d k
prompt_none d none k gone = subst (λ q. IsPrompt d q) (sym gone) (subst (λ ws. length (ws ++ []) ≤ 1) (sym none) (omega arith))

-- where nothing was unpublished, all steps are the published ones
pub all_published : (d : Board) → d.waiting ≡ [] → (k : Option (List PolicyChange)) → k ≡ None → all_steps d k ≡ d.list
all_published d none k gone = ap (λ q. all_steps d q) gone ∙ ap (λ ws. d.list ++ (ws ++ [])) none ∙ append-nil d.list

-- the desk took the step
shows_taken : (d e : Board) (k : Option (List PolicyChange)) (cs : List PolicyChange) → d.waiting ≡ [] → k ≡ None → Takes d e cs None → Publishes d e k k (cs ∷ [])
shows_taken d e k cs none gone took = record {
  opening = took.0;
  all = ap (λ q. all_steps e q) gone ∙ ap (λ ws. e.list ++ ws) (append-nil e.waiting) ∙ took.1 ∙ ap (λ xs. xs ++ cs ∷ []) (sym (all_published d none k gone));
  prompt = λ h. subst (λ q. IsPrompt e q) (sym gone) (subst (λ ws. length ws ≤ 1) (sym (append-nil e.waiting)) took.2);
}

-- the step is kept
shows_kept : (d e : Board) (k : Option (List PolicyChange)) (cs : List PolicyChange) → d.waiting ≡ [] → k ≡ None → e ≡ d → Publishes d e k (Some cs) (cs ∷ [])
shows_kept d e k cs none gone same =
    let P : Board → Type 0 = λ b. Publishes d b k (Some cs) (cs ∷ []) in
    subst P (sym same) (record {
      opening = refl;
      all = ap (λ ws. d.list ++ (ws ++ cs ∷ [])) none ∙ ap (λ xs. xs ++ cs ∷ []) (sym (all_published d none k gone));
      prompt = λ h. subst (λ ws. length (ws ++ cs ∷ []) ≤ 1) (sym none) (omega arith);
    })

-- the desk took the step, or the step is kept
pub shows_taken_or_kept : (d e : Board) (k q : Option (List PolicyChange)) (cs : List PolicyChange) → d.waiting ≡ [] → k ≡ None → Takes d e cs q → Publishes d e k q (cs ∷ [])
shows_taken_or_kept d e k None cs none gone took =
    subst (λ q. Publishes d e k q (cs ∷ [])) gone (shows_taken d e k cs none gone took)
shows_taken_or_kept d e k (Some back) cs none gone (same, is) =
    subst (λ b. Publishes d e k (Some b) (cs ∷ [])) (sym is) (shows_kept d e k cs none gone same)

-- what waited is published
pub shows_waiting : (d e : Board) (k : Option (List PolicyChange)) → e.opening ≡ d.opening → e.list ≡ d.list ++ d.waiting → e.waiting ≡ [] → Publishes d e k k []
shows_waiting d e k opening list none =
    let kept : List (List PolicyChange) = unpublished (record d { waiting = [] }) k in record {
      opening = opening;
      all = (λ j. list j ++ (none j ++ kept)) ∙ append_assoc d.list d.waiting kept ∙ sym (append-nil (all_steps d k));
      prompt = λ h. subst (λ ws. length (ws ++ option_to_list k) ≤ 1) (sym none) (omega (arith, length-append d.waiting (option_to_list k), h));
    }

-- the step still waits
pub shows_same : (d e : Board) (k : Option (List PolicyChange)) → e.opening ≡ d.opening → e.list ≡ d.list → e.waiting ≡ d.waiting → Publishes d e k k []
shows_same d e k opening list waiting = record {
  opening = opening;
  all = (λ j. list j ++ unpublished (record d { waiting = waiting j }) k) ∙ sym (append-nil (all_steps d k));
  prompt = λ h. subst (λ ws. length (unpublished (record d { waiting = ws }) k) ≤ 1) (sym waiting) h;
}

-- what was kept is shown
pub shows_again : (d e : Board) (k q : Option (List PolicyChange)) (cs : List PolicyChange) → k ≡ Some cs → d.waiting ≡ [] → Publishes d e None q (cs ∷ []) → Publishes d e k q []
shows_again d e k q cs is none s = record {
  opening = s.opening;
  all = s.all ∙ ap (λ ws. (d.list ++ (ws ++ [])) ++ cs ∷ []) none ∙ ap (λ xs. xs ++ cs ∷ []) (append-nil d.list)
      ∙ ap (λ ws. d.list ++ (ws ++ cs ∷ [])) (sym none) ∙ ap (λ o. all_steps d o) (sym is) ∙ sym (append-nil (all_steps d k));
  prompt = λ h. s.prompt (prompt_none d none None refl);
}
