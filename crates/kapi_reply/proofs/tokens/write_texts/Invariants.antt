use Rattle.std.proofs.Common.{◌≡◌, ◌++◌, map, drop}
use Rattle.json.specs.Tree.{items_tokens}
use Rattle.serde_json.specs.Data.{string}
use Rattle.serde_json.specs.View.{items_of}
use Rattle.serde_json.specs.Written.{items_outline}
use Rattle.kapi_reply.proofs.tokens.write_texts.Given as goal

abbrev pub invariant-loop-text : goal.invariant-loop-text
invariant-loop-text l =
    (l.out.tokens ++ items_tokens (items_outline (items_of (map (λ text. string text.now) (drop l.text-index l.texts))))
    ≡ l.initial.out.tokens ++ items_tokens (items_outline (items_of (map (λ text. string text.now) l.texts))))
    × (l.out.before ≡ l.initial.out.before)
