use Rattle.std.proofs.Common.{◌≡◌, ℕ, ◌-◌, Ok, map, ap, sym, subst, refl, ◌∙◌, arith}
use Rattle.std.specs.Prelude.{nat_lt}
use Rattle.std.specs.List.{filter}
use Rattle.kapi_store.specs.Changes.{last_of}
use Rattle.kapi_store.specs.Lent.{changes_of}
use Rattle.kapi_store.specs.Plain.{plain_change}
use Rattle.kapi_store.specs.State.{State}
use Rattle.kapi_store.specs.View.{state_of}
use Rattle.kapi_store.proofs.Stores.{window_after, history_after, history_gone}
use Rattle.kapi_store.proofs.store.Store.changes_after.Goals as goal

pub returns-then-revision-self-clause-all : goal.returns-then-revision-self-clause-all
returns-then-revision-self-clause-all c = λ history p stands.
    let first : c.args.self.now.first ≡ c.self.inside.first = ap (λ s. s.first) (sym c.self.view_is) in
    history_gone c.args.self.now c.args.revision history p stands (omega arith)

pub returns-then-count-clause-all : goal.returns-then-count-clause-all
returns-then-count-clause-all c = λ history p stands.
    let at : c.args.self.now.revision ≡ c.self.inside.revision = ap (λ s. s.revision) (sym c.self.view_is) in
    history_gone c.args.self.now c.args.revision history p stands (omega arith)

pub returns-clause-changes : goal.returns-clause-changes
returns-clause-changes c =
    let count : ℕ = c.self.inside.revision - c.args.revision in
    let now : state_of c.self.inside ≡ c.args.self.now = c.self.view_is in
    let P : State → Type 0 = λ s. last_of count s.window ≡ filter (λ d. nat_lt c.args.revision d.revision) s.window in
    let W : State → Type 0 = λ s. changes_of c.last.result ≡ last_of count s.window in
    let is : c.saturating_sub-count.result ≡ count = omega arith in
    let lent : changes_of c.last.result ≡ last_of count c.self.inside.window = c.last.ensures ∙ ap (λ n. last_of n c.self.inside.window) is in
    subst W now lent ∙ subst P now (window_after (state_of c.self.inside) c.args.revision count c.self.invariant.0 (omega arith) refl (omega arith))

pub returns-clause-all : goal.returns-clause-all
returns-clause-all c = λ history p stands.
    let count : ℕ = c.self.inside.revision - c.args.revision in
    let now : state_of c.self.inside ≡ c.args.self.now = c.self.view_is in
    let at : c.args.self.now.revision ≡ c.self.inside.revision = ap (λ s. s.revision) (sym now) in
    let first : c.args.self.now.first ≡ c.self.inside.first = ap (λ s. s.first) (sym now) in
    let W : State → Type 0 = λ s. changes_of c.last.result ≡ last_of count s.window in
    let is : c.saturating_sub-count.result ≡ count = omega arith in
    let lent : changes_of c.last.result ≡ last_of count c.self.inside.window = c.last.ensures ∙ ap (λ n. last_of n c.self.inside.window) is in
    history_after c.args.self.now c.args.revision count history p stands (omega arith) (omega arith) (omega arith) ∙ ap (λ cs. Ok (map plain_change cs)) (sym (subst W now lent))
