use Rattle.std.proofs.Common.{◌≡◌, ◌+◌, ◌++◌, drop}
use Rattle.kapi_transcripts.specs.Reports.{rewritten, rewritten_from}
use Rattle.kapi_transcripts.proofs.report.rewrite.Given as goal

abbrev pub invariant-loop-index : goal.invariant-loop-index
invariant-loop-index l = l.text.items ++ rewritten_from l.failures (l.index + 1) (drop l.index l.lines) ≡ rewritten l.lines l.failures
