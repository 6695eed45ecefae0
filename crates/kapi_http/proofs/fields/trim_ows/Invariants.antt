use Rattle.std.proofs.Common.{◌≡◌, length, reverse}
use Rattle.httparse.specs.Grammar.{skip_ows}
use Rattle.kapi_http.proofs.fields.trim_ows.Given as goal

abbrev pub invariant-loop-last : goal.invariant-loop-last
invariant-loop-last l = skip_ows (reverse l.rest) ≡ skip_ows (reverse (skip_ows l.item))

abbrev pub decreases-loop-last : goal.decreases-loop-last
decreases-loop-last l = length l.rest
