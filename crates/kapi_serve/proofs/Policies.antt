-- Each policy published by a desk was the policy of the machine at some moment.
use Rattle.std.proofs.Common.{◌≡◌, ℕ, suc, List, [], ◌∷◌, ◌++◌, take, refl, sym, ap, ◌∙◌, append_assoc}
use Rattle.std.proofs.lemmas.List.{append_cancel_left}
use Rattle.kapi_core.proofs.Gains.{event_is_run_on}
use Rattle.kapi_core.proofs.Telling.{event_tells}
use Rattle.kapi_core.specs.Machine.{Machine, after as machine_after, answers, policy_of, step}
use Rattle.kapi_core.specs.Running.{Running}
use Rattle.kapi_core.specs.Telling.{changes_told}
use Rattle.kapi_core.specs.declared.event.Answer.{Answer}
use Rattle.kapi_core.specs.declared.event.Event.{Event}
use Rattle.kapi_publishing.proofs.Lists.{after_more}
use Rattle.kapi_publishing.specs.Boards.{Board}
use Rattle.kapi_policy.specs.Steps.{after_changes}
use Rattle.kapi_publishing.specs.Steps.{after}
use Rattle.kapi_loading.specs.Loading.{Publishes}
use Rattle.kapi_policy.specs.Objects.{PolicyObjects}
use Rattle.kapi_policy.specs.declared.change.PolicyChange.{PolicyChange}
use Rattle.kapi_escalation_laws.specs.StoredStates.{AreInOrder}
use Rattle.kapi_escalation.proofs.Writes.{stands_in_order}
use Rattle.kapi_serve.specs.Advances.{steps_in}
use Rattle.kapi_serve.specs.Policies.{PublishesPolicies}
use Rattle.kapi_publishing.specs.Steps.{step_of}

-- a policy after some steps is one that the machine had after some of the events
IsHad : Machine → List Event → PolicyObjects → List (List PolicyChange) → Type 0
IsHad m es objects r = (n : ℕ) × (after objects r ≡ policy_of (machine_after m (take n es)))

-- one event more, in front: its step is the first, or it has none
before_it : (objects new : PolicyObjects) (m : Machine) (es : List Event) (later : List (List PolicyChange)) (told : List PolicyChange) → new ≡ after_changes told objects
    → ((r rest : List (List PolicyChange)) → r ++ rest ≡ later → IsHad m es new r)
    → (s : List PolicyChange) (r rest : List (List PolicyChange)) → s ∷ (r ++ rest) ≡ step_of told ++ later → IsHad m es objects (s ∷ r)
unfolding after after_changes IsHad
before_it objects new m es later [] same had s r rest is =
    let k = had (s ∷ r) rest is in (k.0, ap (λ o. after o (s ∷ r)) (sym same) ∙ k.1)
before_it objects new m es later (c ∷ cs) same had s r rest is =
    let k = had r rest (cc is) in
    let first : s ≡ c ∷ cs = cc is in
    (k.0, ap (λ t. after (after_changes t objects) r) first ∙ ap (λ o. after o r) (sym same) ∙ k.1)

-- the first of the steps that answers report
first_steps : (m : Machine) (es : List Event) → AreInOrder m.store.objects → (r rest : List (List PolicyChange)) → r ++ rest ≡ steps_in (answers m es) → IsHad m es (policy_of m) r
unfolding steps_in answers machine_after IsHad after
first_steps m es sorted [] rest is = (0, refl)
first_steps m [] sorted (s ∷ r) rest is = absurd (cc is)
first_steps m (e ∷ es) sorted (s ∷ r) rest is =
    let next : Machine = (step m e).1 in
    let told : List PolicyChange = changes_told (step m e).0 in
    let same : policy_of next ≡ after_changes told (policy_of m) = event_tells m e sorted in
    let k = before_it (policy_of m) (policy_of next) next es (steps_in (answers next es)) told same (λ r rest is. first_steps next es (event_is_run_on m e sorted).order r rest is) s r rest is in
    (suc k.0, k.1)

-- the steps that a desk has published since it had published the machine's policy
pub policies_shown : (core : Running) (board next : Board) (events : List Event) (told : List Answer) (left : List (List PolicyChange)) → next.opening ≡ board.opening
    → ((m : Machine) → Publishes core board m → told ≡ answers m events) → next.list ++ left ≡ board.list ++ steps_in told → PublishesPolicies core board next events
unfolding IsHad
policies_shown core board next events told left same runs published m shown seen (r, is) (q, ends) =
    let whole : board.list ++ (r ++ (q ++ left)) ≡ board.list ++ steps_in (answers m events) =
    ap (λ l. board.list ++ l) (sym (append_assoc r q left)) ∙ sym (append_assoc board.list (r ++ q) left) ∙ ap (λ l. l ++ left) (sym (append_assoc board.list r q) ∙ ap (λ l. l ++ q) (sym is) ∙ sym ends)
    ∙ published ∙ ap (λ a. board.list ++ steps_in a) (runs m shown) in
    let had = first_steps m events (stands_in_order core.store m.changes m.store shown.0.store) r (q ++ left) (append_cancel_left board.list (r ++ (q ++ left)) (steps_in (answers m events)) whole) in
    (had.0, (λ j. after (same j) (is j)) ∙ after_more board.opening board.list r ∙ ap (λ o. after o r) shown.1 ∙ had.1)
