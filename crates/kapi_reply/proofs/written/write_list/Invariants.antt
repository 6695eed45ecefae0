use Rattle.std.proofs.Common.{◌≡◌, ◌++◌, map, drop}
use Rattle.json.specs.Tree.{items_tokens}
use Rattle.serde_json.specs.View.{items_of}
use Rattle.serde_json.specs.Written.{items_outline}
use Rattle.kapi_reply.specs.Views.{cause_data}
use Rattle.kapi_reply.proofs.written.write_list.Given as goal

abbrev pub invariant-loop-cause : goal.invariant-loop-cause
invariant-loop-cause l =
    (l.out.tokens ++ items_tokens (items_outline (items_of (map cause_data (drop l.cause-index l.causes))))
    ≡ l.initial.out.tokens ++ items_tokens (items_outline (items_of (map cause_data l.causes))))
    × (l.out.before ≡ l.initial.out.before)
