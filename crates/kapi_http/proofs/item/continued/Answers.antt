use Rattle.std.proofs.Common.{arith, length, ◌-◌}
use Rattle.std.proofs.lemmas.List.{length-take}
use Rattle.kapi_http.proofs.Decided.{accepted_known, chunks_bounded, chunks_known, refused_known}
use Rattle.kapi_http.proofs.item.continued.Goals as goal

pub read_on-requires-clause-bound : goal.read_on-requires-clause-bound
read_on-requires-clause-bound c = (chunks_bounded _ _ _ _ _ c.requires.known c.in-Chunked.is).0

pub read_on-requires-clause-fits : goal.read_on-requires-clause-fits
read_on-requires-clause-fits c =
    let bounded = chunks_bounded _ _ _ _ _ c.requires.known c.in-Chunked.is in
    omega (arith, bounded.1, c.requires.more, c.requires.fits, length-take (length c.args.kept.now - c.args.more) c.args.kept.now)

pub returns-in-Chunked : goal.returns-in-Chunked
returns-in-Chunked c = chunks_known _ _ _ _ _ _ _ c.requires.known c.in-Chunked.is c.read_on.ensures

pub returns-in-Refused : goal.returns-in-Refused
returns-in-Refused c = refused_known _ _ _ _ _ _ c.requires.known c.in-Refused.is

pub returns-in-Accepted : goal.returns-in-Accepted
returns-in-Accepted c = accepted_known _ _ _ _ _ _ c.requires.known c.in-Accepted.is
