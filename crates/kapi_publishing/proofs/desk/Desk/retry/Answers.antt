use Rattle.std.proofs.Common.{drop}
use Rattle.kapi_publishing.specs.Private.Stages.{IsNoted}
use Rattle.kapi_publishing.proofs.Stages.{noted_at, opening_next, stands_next, told_next}
use Rattle.kapi_publishing.proofs.desk.Desk.retry.Goals as goal

pub invariant_of-self : goal.invariant_of-self
invariant_of-self g c =
    let d = c.self-2.inside in
    let x = d.writer.desk.shown.value in
    let waiting = drop d.writer.behind d.writer.log.items in
    let noted : IsNoted waiting d.book x.pages.log = noted_at d.stage waiting d.book x.pages.log c.in-Noted.is c.self-2.invariant.1 in
    let shown = c.in-Ok.ensures in stands_next _ _ x _ waiting _ d.book c.self-2.invariant.0 noted shown.0 shown.1 shown.2

pub returns-in-Ok-clause-opening : goal.returns-in-Ok-clause-opening
returns-in-Ok-clause-opening g c =
    let d = c.self-2.inside in
    let x = d.writer.desk.shown.value in
    let waiting = drop d.writer.behind d.writer.log.items in
    let noted : IsNoted waiting d.book x.pages.log = noted_at d.stage waiting d.book x.pages.log c.in-Noted.is c.self-2.invariant.1 in
    opening_next x _ waiting d.book _ _ c.self-2.view_is c.ready.ensures c.self-2.invariant.0.2 noted c.in-Ok.ensures.0

pub returns-in-Ok-clause-steps : goal.returns-in-Ok-clause-steps
returns-in-Ok-clause-steps g c =
    let d = c.self-2.inside in
    let x = d.writer.desk.shown.value in
    let waiting = drop d.writer.behind d.writer.log.items in
    let noted : IsNoted waiting d.book x.pages.log = noted_at d.stage waiting d.book x.pages.log c.in-Noted.is c.self-2.invariant.1 in
    let shown = c.in-Ok.ensures in told_next x _ _ waiting _ d.book _ _ c.self-2.view_is c.ready.ensures c.self-2.invariant.0.2 noted shown.0 shown.2 c.published-in-Ok.ensures
