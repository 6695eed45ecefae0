use Rattle.std.proofs.Common.{sym, ◌∙◌, ap}
use Rattle.kapi_publishing.proofs.Writing.{writes_moves}
use Rattle.kapi_publishing.proofs.book.Book.write.Goals as goal

pub compare_exchange-found-requires : goal.compare_exchange-found-requires
compare_exchange-found-requires c =
    let h = c.self.invariant.0 in
    let offer = c.plain-offer.ensures in
    let pen = c.no_pen-pen.ensures in
    let pages = c.again-pages.ensures in (
      ap (λ w. w.tracked) h,
      ap (λ s. s.book) pages ∙ sym (ap (λ w. w.book) h),
      pen.0 ∙ sym (ap (λ w. w.book) h),
      offer.0 ∙ sym (ap (λ s. s.names) pages),
      rw (ap (λ w. w.key) h, pen.1, offer.1, offer.3, pages) (writes_moves c.self.inside.pages.log _ c.self.inside.steps c.self.invariant.1),
    )
