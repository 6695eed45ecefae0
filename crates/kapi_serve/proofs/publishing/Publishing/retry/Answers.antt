use Rattle.std.proofs.Common.{◌≡◌, [], subst}
use Rattle.kapi_serve.specs.Publishes.{Publishes}
use Rattle.kapi_serve.proofs.publishing.Publishing.retry.Goals as goal

pub returns-then-waits : goal.returns-then-waits
returns-then-waits g c = c.retry.ensures c.args.self.now.kept

pub returns-in-None : goal.returns-in-None
returns-in-None g c =
    let same : c.args.self.now.kept ≡ c.take.new.self = cc in
    subst (λ q. Publishes c.args.desk.now c.retry.new.desk c.args.self.now.kept q []) same (c.retry.ensures c.args.self.now.kept)
