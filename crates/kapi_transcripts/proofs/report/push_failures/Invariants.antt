use Rattle.std.proofs.Common.{◌≡◌, ◌++◌, take}
use Rattle.kapi_transcripts.specs.Reports.{failures_text}
use Rattle.kapi_transcripts.proofs.report.push_failures.Given as goal

abbrev pub invariant-loop-failure : goal.invariant-loop-failure
invariant-loop-failure l = l.text.items ≡ l.initial.text.items ++ failures_text l.name l.lines (take l.failure-index l.failures)
