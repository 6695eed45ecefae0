use Rattle.std.specs.Prelude.{List}
use Rattle.kapi_serve.specs.Acts.{ClientState}
use Rattle.kapi_serve.specs.Advances.{Advances}
use Rattle.kapi_serve.specs.Private.ServerStates.{stage}
use Rattle.kapi_serve.specs.Private.ClientsMatch.{PassesBy}
use Rattle.kapi_serve.proofs.publishing.Publishing.make_turns.Given as goal

abbrev pub invariant-loop : goal.invariant-loop
invariant-loop g l = ((s : List ClientState) → Advances (stage l.initial.core l.initial.desk l.initial.self s) (stage l.core l.desk l.self s)) × PassesBy l.initial.core l.core
