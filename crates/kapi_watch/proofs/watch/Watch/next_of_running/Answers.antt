use Rattle.std.proofs.Common.{◌≡◌, ◌≤◌, ◌<◌, ℕ, length, sym, ap, ◌∙◌, subst, arith, Some, slice_get, refl}
use Rattle.std.proofs.lemmas.Option.{slice_get_read}
use Rattle.kapi_store.specs.Stored.{stored_tree}
use Rattle.kapi_store.specs.Plain.{changes_after, plain_of}
use Rattle.kapi_watch.specs.Private.Looked.{first_in, position_after, shown_in}
use Rattle.kapi_watch.specs.Running.{RefinesWatch}
use Rattle.kapi_watch.specs.Shown.{Added}
use Rattle.kapi_watch.specs.Watches.{after_pump}
use Rattle.kapi_watch.proofs.Standing.{first_after_one, first_pumped, rest_after, rest_pumped}
use Rattle.kapi_watch.proofs.watch.Watch.next_of_running.Goals as goal

pub returns-in-Some-clause-event : goal.returns-in-Some-clause-event
returns-in-Some-clause-event c = λ history s w stands is.
    let l = c.in-Some.ensures.lookup in
    let told = c.args.self.now.told in
    let there : slice_get c.as_slice.result.now told ≡ Some c.in-Some.object.now =
    slice_get_read c.as_slice.result.now (length c.as_slice.result.now) told c.in-Some.object.now refl l.3.0 l.1 in
    ap (λ o. Some (Added (stored_tree o))) c.get-in-Some.ensures
    ∙ first_pumped c.args.self.now history s w is c.in-Some.object.now (ap (λ os. slice_get os told) (sym c.as_slice.ensures) ∙ there)

pub returns-in-Some-clause-place : goal.returns-in-Some-clause-place
returns-in-Some-clause-place c = λ history s w stands is.
    let l = c.in-Some.ensures.lookup in
    let len : length c.as_slice.result.now ≡ length c.args.self.now.first = ap length c.as_slice.ensures in
    let within : c.args.self.now.told < length c.as_slice.result.now = l.3.0 in
    first_after_one c.args.self.now history s w is (omega arith)

pub returns-clause-event : goal.returns-clause-event
returns-clause-event c = λ history s w stands is.
    let l = c.in_default.ensures.lookup in
    let len : length c.as_slice.result.now ≡ length c.args.self.now.first = ap length c.as_slice.ensures in
    let past : length c.as_slice.result.now ≤ c.args.self.now.told = l.3 in
    let over : length c.args.self.now.first ≤ c.args.self.now.told = omega arith in
    c.event_in.ensures ∙ ap shown_in (c.look-found.ensures history s stands) ∙ rest_pumped c.args.self.now history s w is over

pub returns-clause-place : goal.returns-clause-place
returns-clause-place c = λ history s w stands is.
    let l = c.in_default.ensures.lookup in
    let r = c.args.self.now in
    let len : length c.as_slice.result.now ≡ length r.first = ap length c.as_slice.ensures in
    let past : length c.as_slice.result.now ≤ r.told = l.3 in
    let over : length r.first ≤ r.told = omega arith in
    let P : ℕ → Type 0 = λ p. RefinesWatch (record r { position = p }) history s (after_pump history s w) in
    let stood = c.position_past.ensures
    ∙ ap (position_after (plain_of c.args.store.now) r.position) (c.look-found.ensures history s stands)
    ∙ ap (λ p. position_after p r.position (first_in r.scope (changes_after history s r.position))) stands.plain in
    subst P (sym stood) (rest_after r history s w is over stands.numbered stands.counted)
