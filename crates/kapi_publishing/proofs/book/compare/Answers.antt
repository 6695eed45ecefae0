use Rattle.std.proofs.Common.{ap, subst}
use mathlib.Core.List.{IsPrefix}
use Rattle.kapi_publishing.proofs.Pages.{prefix_shorter}
use Rattle.kapi_publishing.proofs.book.compare.Goals as goal

pub returns : goal.returns
returns c =
    let both = c.learn.new.self.log in
    let this : IsPrefix c.args.fewer.now.log both = subst (λ l. IsPrefix l both) (ap (λ s. s.log) c.again-both.ensures) c.learn.ensures.2 in
    prefix_shorter c.args.fewer.now.log c.args.more.now.log both this c.learn.ensures.3 c.requires.fewer
