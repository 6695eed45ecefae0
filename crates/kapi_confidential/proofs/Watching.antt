-- The events of a watch are made by what it ranges over.
use Rattle.std.proofs.Common.{◌≡◌, ℕ, Bool, true, false, not, ◌&&◌, if◌then◌else◌, List, [], ◌∷◌, Option, Some, None, codes, nat_lt, option_map, refl, sym, ap, ◌∙◌}
use Rattle.std.specs.List.{cons_option}
use Rattle.serde_json.specs.Data.{Data}
use Rattle.kapi_object.specs.Tree.{in_metadata}
use Rattle.kapi_model.specs.Selector.{matches}
use Rattle.kapi_policy.specs.Laws.{is_allowed}
use Rattle.kapi_policy.specs.Objects.{PolicyObjects}
use Rattle.kapi_store.specs.Listing.{is_listed, is_within}
use Rattle.kapi_store.specs.Plain.{Plain, PlainChange}
use Rattle.kapi_store.specs.declared.key.Key.{Key}
use Rattle.kapi_watch.specs.Shown.{Added, Deleted, Expired, Modified, Refused, Shown, selected, shown_by, shown_of}
use Rattle.kapi_watch.specs.Watches.{due, is_expired, later, pumped, shown_all}
use Rattle.kapi_watch.specs.declared.scope.WatchScope.{WatchScope}
use Rattle.kapi_answer.specs.Watch.{PlainWatching, event_reply_of, rechecked}
use Rattle.kapi_confidential.proofs.Filters.{filters_swap}
use Rattle.kapi_confidential.specs.Alike.{WatchesAlike, changes_for, next_event}

module _ (scope : WatchScope) where
  abbrev is_in : PlainChange → Bool
  is_in c = is_within scope.row scope.namespace scope.name c.key

  selects_nothing : (k : Key) (o : Option Data) → is_within scope.row scope.namespace scope.name k ≡ false → selected scope k o ≡ None
  unfolding is_listed
  selects_nothing k None out = refl
  selects_nothing k (Some tree) out = ap (λ b. if b && matches scope.selector (in_metadata (codes "labels") tree) then Some tree else None) out

  shows_nothing : (c : PlainChange) → is_in c ≡ false → shown_of scope c ≡ None
  unfolding shown_of
  shows_nothing c out =
      ap (λ o. option_map (λ e. (c.revision, e)) (shown_by c.revision o (selected scope c.key c.new))) (selects_nothing c.key c.old out)
      ∙ ap (λ o. option_map (λ e. (c.revision, e)) (shown_by c.revision None o)) (selects_nothing c.key c.new out)

  all_within : (cs : List PlainChange) → shown_all scope cs ≡ shown_all scope (changes_for scope cs)
  all_within [] = refl
  all_within (c ∷ cs) = by_test (is_in c) refl (all_within cs)
    where
      by_test : (b : Bool) → is_in c ≡ b → shown_all scope cs ≡ shown_all scope (changes_for scope cs)
          → cons_option (shown_of scope c) (shown_all scope cs) ≡ shown_all scope (if b then c ∷ changes_for scope cs else changes_for scope cs)
      by_test true is rest = ap (cons_option (shown_of scope c)) rest
      by_test false out rest = ap (λ o. cons_option o (shown_all scope cs)) (shows_nothing c out) ∙ rest

  shown_alike : (n : ℕ) (history changes : List PlainChange) → changes_for scope changes ≡ changes_for scope history → shown_all scope (later n history) ≡ shown_all scope (later n changes)
  shown_alike n history changes made =
      all_within (later n history) ∙ ap (shown_all scope) (filters_swap is_in (λ c. nat_lt n c.revision) history) ∙ ap (λ cs. shown_all scope (later n cs)) (sym made)
      ∙ ap (shown_all scope) (sym (filters_swap is_in (λ c. nat_lt n c.revision) changes)) ∙ sym (all_within (later n changes))

module _ (w : PlainWatching) (objects other : PolicyObjects) (s t : Plain) (history changes : List PlainChange) (alike : WatchesAlike w objects other s t history changes) where
  pumped_alike : pumped history s w.watch ≡ pumped changes t w.watch
  unfolding due is_expired
  pumped_alike =
      let shown = shown_alike w.watch.scope w.watch.start history changes alike.made in
      rw (alike.revision, alike.first, shown) refl

  replies_alike : (e : Shown) → event_reply_of s w e ≡ event_reply_of t w e
  unfolding event_reply_of
  replies_alike (Added d) = refl
  replies_alike (Modified d) = refl
  replies_alike (Deleted d) = refl
  replies_alike Expired = rw (alike.revision, alike.first) refl
  replies_alike Refused = refl

  pub events_alike : (rechecks : Bool) → next_event rechecks objects s history w ≡ next_event rechecks other t changes w
  unfolding rechecked
  events_alike rechecks =
      ap (λ e. option_map (event_reply_of s w) (rechecked rechecks objects w e)) pumped_alike
      ∙ ap (λ d. option_map (event_reply_of s w) (if rechecks && not (is_allowed d) then Some Refused else pumped changes t w.watch)) (alike.decides w.attributes.namespace w.attributes.point)
      ∙ ap (λ f. option_map f (rechecked rechecks other w (pumped changes t w.watch))) (λ i. λ e. replies_alike e i)
