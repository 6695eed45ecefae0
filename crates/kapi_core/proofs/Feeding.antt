-- Bytes that come in are taken in as the model takes them.
use Rattle.std.proofs.Common.{◌≡◌, ℕ, ◌+◌, ◌<◌, ◌≤◌, inl, inr, Bool, true, false, IsTrue, IsFalse, nat_le, List, ◌++◌, length, Some, Result, Ok, Err, refl, sym, ap, ◌∙◌}
use Rattle.std.proofs.lemmas.Bool.{leb-true, leb-false}
use Rattle.std.proofs.lemmas.Map.Steps.{set_value_same}
use Rattle.std.specs.Map.{lookup, set_value}
use Rattle.std.specs.Ordering.{nat_cmp}
use Rattle.std.specs.BTreeMap.{is_at}
use Rattle.kapi_http.specs.Inbox.{Unserved}
use Rattle.kapi_http.specs.declared.inbox.FeedError.{FeedError}
use Rattle.kapi_http.specs.declared.inbox.FeedError.TheVariants.{Full, Memory, Ended}
use Rattle.kapi_store.specs.Plain.{plain_of}
use Rattle.kapi_core.specs.declared.connection.Connection.{Connection}
use Rattle.kapi_core.specs.declared.event.ConnId.{ConnId}
use Rattle.kapi_core.specs.declared.event.Event.TheVariants as event
use Rattle.kapi_core.specs.declared.event.Answer.TheVariants as told
use Rattle.kapi_core.specs.Private.Feeds.{Feeds}
use Rattle.kapi_core.specs.Running.{Running}
use Rattle.kapi_core.specs.Refines.{TakesIn}
use Rattle.kapi_core.proofs.AlikeLinks.{link_there}
use Rattle.kapi_core.proofs.Steps.{machine_of, made_for, not_early, told_late, fed, fed_full, fed_nowhere}
use Rattle.kapi_core.specs.Limits.{kept_limit}

-- bytes are taken in with the same connections as before
pub taken_in : (old : Running) (links : List (ℕ × Connection)) (conn : ConnId) (piece : List ℕ) (r : Result (Unit {0}) FeedError)
    → Feeds old.connections links conn.0 piece r → TakesIn old (record old { connections = links }) conn piece r
taken_in old links conn piece (Ok done) f = λ m h.
    made_for old.store old.policy old.marks old.connections old.next_id old.rechecks m old.store old.policy old.marks links old.next_id old.rechecks (event.Feed conn piece) told.Done h
    (fed old.store old.policy old.marks old.connections links old.next_id old.rechecks conn piece f.0 f.1 f.2 f.3)
taken_in old links conn piece (Err Full) f = λ m h. rw f.3
    (made_for old.store old.policy old.marks old.connections old.next_id old.rechecks m old.store old.policy old.marks old.connections old.next_id old.rechecks (event.Feed conn piece) told.Full h
    (fed_full old.store old.policy old.marks old.connections old.next_id old.rechecks conn piece f.0 f.1 f.2))
taken_in old links conn piece (Err Ended) f = λ m h. rw f.1
    (made_for old.store old.policy old.marks old.connections old.next_id old.rechecks m old.store old.policy old.marks old.connections old.next_id old.rechecks (event.Feed conn piece) told.Ended h
    (λ cs k p v ps l. elim f.0 [
      | inl none ↦ fed_nowhere old.store old.policy old.marks old.connections old.next_id old.rechecks conn piece none cs k p v ps l
      | inr c ↦ let there = link_there cs (plain_of old.store) (is_at (nat_cmp conn.0)) old.connections ps c.0 l c.1 in
          absurd (let both : true ≡ false = sym c.2 ∙ there.2.goes_on in cc both)
    ]))
taken_in old links conn piece (Err Memory) f = λ m h. (
  rw f.3 h,
  not_early old.store old.policy old.marks old.connections old.next_id old.rechecks m (event.Feed conn piece) h
      (λ cs k p v ps l. told_late (machine_of old.store cs old.next_id old.rechecks ps) (event.Feed conn piece) told.Done
      (fed old.store old.policy old.marks old.connections (set_value (is_at (nat_cmp conn.0)) old.connections (record f.0 { inbox = record { kept = f.0.inbox.kept ++ piece; ended = false } }))
      old.next_id old.rechecks conn piece f.0 f.1 f.2 refl cs k p v ps l).0 refl),
)

-- an inbox that did not change leaves the connections as they were
unchanged : (es fs : List (ℕ × Connection)) (id : ℕ) (c : Connection) (u : Unserved) → lookup (is_at (nat_cmp id)) es ≡ Some c
    → fs ≡ set_value (is_at (nat_cmp id)) es (record c { inbox = u }) → u ≡ c.inbox → fs ≡ es
unchanged es fs id c u there is same =
    is ∙ ap (λ v. set_value (is_at (nat_cmp id)) es (record c { inbox = v })) same ∙ set_value_same (is_at (nat_cmp id)) es c there

-- what an inbox answers, its connection does
pub fed_from : (es fs : List (ℕ × Connection)) (id : ℕ) (piece : List ℕ) (c : Connection) (u : Unserved) (r : Result (Unit {0}) FeedError)
    → lookup (is_at (nat_cmp id)) es ≡ Some c → fs ≡ set_value (is_at (nat_cmp id)) es (record c { inbox = u })
    → ((d : Unit {0}) → r ≡ Ok d → (u ≡ record { kept = c.inbox.kept ++ piece; ended = false }) × (length c.inbox.kept + length piece ≤ kept_limit))
    → ((e : FeedError) → r ≡ Err e → u ≡ c.inbox)
    → (r ≡ Err Ended → c.inbox.ended ≡ true) → (r ≡ Err Full → kept_limit < length c.inbox.kept + length piece)
    → (r ≡ Err Memory → length c.inbox.kept + length piece ≤ kept_limit)
    → Feeds es fs id piece r
fed_from es fs id piece c u (Ok done) there is ok same ended full memory =
    (c, there, (ok done refl).1, is ∙ ap (λ v. set_value (is_at (nat_cmp id)) es (record c { inbox = v })) (ok done refl).0)
fed_from es fs id piece c u (Err Full) there is ok same ended full memory = (c, there, full refl, unchanged es fs id c u there is (same Full refl))
fed_from es fs id piece c u (Err Ended) there is ok same ended full memory = (inr (c, there, ended refl), unchanged es fs id c u there is (same Ended refl))
fed_from es fs id piece c u (Err Memory) there is ok same ended full memory = (c, there, memory refl, unchanged es fs id c u there is (same Memory refl))

-- if an inbox is out of memory, it goes on and the bytes fit
pub memory_fits : (r : Result (Unit {0}) FeedError) (ended : Bool) (n : ℕ) → (IsTrue ended → r ≡ Err Ended) → (IsFalse ended × (kept_limit < n) → r ≡ Err Full)
    → r ≡ Err Memory → n ≤ kept_limit
memory_fits r true n if_ended if_full is = absurd (let both : Err Ended ≡ Err Memory = sym (if_ended refl) ∙ is in cc both)
memory_fits r false n if_ended if_full is =
    elim (nat_le n kept_limit) as (λ b. nat_le n kept_limit ≡ b → n ≤ kept_limit) [
      | true ↦ λ fits. leb-true n kept_limit fits
      | false ↦ λ many. absurd (let both : Err Full ≡ Err Memory = sym (if_full (refl, leb-false n kept_limit many)) ∙ is in cc both)
    ] refl
