use Rattle.std.proofs.Common.{◌≡◌, ◌+◌, ◌<◌, ◌∷◌, ℕ, List, Some, sym, ap, ◌∙◌, map, length, drop, slice_get, option_map, arith}
use Rattle.std.specs.List.{filter_map, position_or_len}
use Rattle.std.proofs.lemmas.Option.{slice_get_within}
use Rattle.kapi_store.specs.Lent.{changes_of}
use Rattle.kapi_store.specs.Plain.{plain_change}
use Rattle.kapi_store.specs.declared.change.Change.{Change}
use Rattle.kapi_watch.specs.Shown.{shown_of, found_of}
use Rattle.kapi_watch.specs.declared.scope.WatchScope.{WatchScope}
use Rattle.kapi_watch.proofs.Due.{drop_front, drop_none, first_found, first_passed, next_passes, passed_next}
use Rattle.kapi_watch.proofs.Scopes.{is_in_scope, out_shows}
use Rattle.kapi_watch.proofs.scope.WatchScope.first_of.Goals as goal

-- the first event of the changes from the next within the scope on is that of all, as it is from here on
first_from_next : (self : WatchScope) (cs : List Change) (from index : ℕ) → index ≡ from + position_or_len (λ c. is_in_scope self c.key) (drop from cs)
    → slice_get (filter_map (shown_of self) (map plain_change (drop from cs))) 0 ≡ slice_get (filter_map (shown_of self) (map plain_change cs)) 0
    → slice_get (filter_map (shown_of self) (map plain_change (drop index cs))) 0 ≡ slice_get (filter_map (shown_of self) (map plain_change cs)) 0
first_from_next self cs from index is first =
    ap (λ l. slice_get l 0) (passed_next plain_change (shown_of self) (λ c. is_in_scope self c.key) (λ c out. out_shows self (plain_change c) out) cs from index is)
    ∙ first

-- the first event of the next change within the scope and of those behind it is that of all, likewise
first_with_next : (self : WatchScope) (cs : List Change) (from index : ℕ) (x : Change) → slice_get cs index ≡ Some x
    → index ≡ from + position_or_len (λ c. is_in_scope self c.key) (drop from cs)
    → slice_get (filter_map (shown_of self) (map plain_change (drop from cs))) 0 ≡ slice_get (filter_map (shown_of self) (map plain_change cs)) 0
    → slice_get (filter_map (shown_of self) (map plain_change (x ∷ drop (index + 1) cs))) 0 ≡ slice_get (filter_map (shown_of self) (map plain_change cs)) 0
first_with_next self cs from index x at is first =
    ap (λ l. slice_get (filter_map (shown_of self) (map plain_change l)) 0) (sym (drop_front cs index x at)) ∙ first_from_next self cs from index is first

pub returns-in_err-get : goal.returns-in_err-get
returns-in_err-get c =
    let cs = changes_of c.args.changes.now in
    let i = c.next_within-index.result in
    let f = shown_of c.args.self.now in
    ap (option_map found_of) c.from_residual.ensures
    ∙ ap (λ l. slice_get (filter_map f (map plain_change l)) 0) (sym (drop_none cs i (sym c.in_err-get.ensures)))
    ∙ first_from_next c.args.self.now cs c.loop-from.from i c.next_within-index.ensures c.loop-from.invariant

pub find_within-found-requires : goal.find_within-found-requires
find_within-found-requires c =
    next_passes (λ x. is_in_scope c.args.self.now x.key) (changes_of c.args.changes.now) c.loop-from.from c.next_within-index.result c.in_ok-get.field-0.now
    c.next_within-index.ensures (sym c.in_ok-get.ensures)

pub returns-then-is_some : goal.returns-then-is_some
returns-then-is_some c =
    let cs = changes_of c.args.changes.now in
    let i = c.next_within-index.result in
    let x = c.in_ok-get.field-0.now in
    first_found (shown_of c.args.self.now) found_of c.find_within-found.result (plain_change x) (map plain_change (drop (i + 1) cs)) c.find_within-found.ensures
    (sym c.is_some.ensures ∙ c.if-is_some.true)
    ∙ first_with_next c.args.self.now cs c.loop-from.from i x (sym c.in_ok-get.ensures) c.next_within-index.ensures c.loop-from.invariant

pub overflow_add-from : goal.overflow_add-from
overflow_add-from c =
    let cs = changes_of c.args.changes.now in
    let here : c.next_within-index.result < length cs = slice_get_within cs c.next_within-index.result c.in_ok-get.field-0.now (sym c.in_ok-get.ensures) in
    omega arith

pub loop-from-preserved : goal.loop-from-preserved
loop-from-preserved c =
    let cs = changes_of c.args.changes.now in
    let i = c.next_within-index.result in
    let x = c.in_ok-get.field-0.now in
    first_passed (shown_of c.args.self.now) found_of c.find_within-found.result (plain_change x) (map plain_change (drop (i + 1) cs)) c.find_within-found.ensures
    (sym c.is_some.ensures ∙ c.if-is_some.false)
    ∙ first_with_next c.args.self.now cs c.loop-from.from i x (sym c.in_ok-get.ensures) c.next_within-index.ensures c.loop-from.invariant
