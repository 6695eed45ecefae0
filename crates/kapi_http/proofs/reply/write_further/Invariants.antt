use Rattle.std.proofs.Common.{◌≡◌, ◌++◌, take, flat_map}
use Rattle.std.specs.Prelude.{string_bytes}
use Rattle.kapi_http.specs.Reply.{further}
use Rattle.kapi_http.proofs.reply.write_further.Given as goal

abbrev pub invariant-loop-method : goal.invariant-loop-method
invariant-loop-method l = string_bytes l.out ≡ string_bytes l.initial.out ++ flat_map further (take l.method-index l.methods)
