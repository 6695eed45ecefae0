use Rattle.std.proofs.Common.{◌≡◌, ◌-◌, ◌≤◌, length, sym, ◌∙◌, refl, arith}
use Rattle.std.proofs.lemmas.List.{length-drop}
use Rattle.std.proofs.lemmas.Option.{slice_get_past}
use Rattle.circular_buffer.proofs.Places.{slice_get-drop}
use Rattle.kapi_store.specs.Lent.{changes_of}
use Rattle.kapi_store.proofs.window.Changes.get.Goals as goal

pub returns-then-index-saturating_sub : goal.returns-then-index-saturating_sub
returns-then-index-saturating_sub c =
    c.get.ensures ∙ sym (slice_get-drop c.args.self.now.skipped c.args.self.now.window.now c.args.index _ refl)

pub returns-else-index-saturating_sub : goal.returns-else-index-saturating_sub
returns-else-index-saturating_sub c =
    let rest : length (changes_of c.args.self.now) ≡ length c.args.self.now.window.now - c.args.self.now.skipped = length-drop c.args.self.now.skipped c.args.self.now.window.now in
    let past : length (changes_of c.args.self.now) ≤ c.args.index = omega arith in
    sym (slice_get_past (changes_of c.args.self.now) c.args.index past)
