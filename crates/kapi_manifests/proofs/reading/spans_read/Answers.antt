use Rattle.std.proofs.Common.{◌≡◌, ◌∙◌, List, ap, false, map, sym, true}
use Rattle.kapi_manifests.specs.Files.{is_yaml}
use Rattle.kapi_manifests.specs.Pieces.{piece_in, pieces}
use Rattle.kapi_manifests.specs.declared.cut.Span.{Span}
use Rattle.kapi_manifests.proofs.Taken.{file_read, yaml_read}
use Rattle.kapi_manifests.proofs.reading.spans_read.Goals as goal

pub returns-then-is_yaml : goal.returns-then-is_yaml
returns-then-is_yaml c =
    let all = c.as_slice.ensures.value ∙ c.in_ok-spans.ensures in
    let yaml : is_yaml (pieces c.args.text.now) ≡ true =
    sym (ap (λ (ss : List Span). is_yaml (map (piece_in c.args.text.now) ss)) all) ∙ sym c.is_yaml.ensures ∙ c.if-is_yaml.true in
    rw (c.truncate.ensures.items, c.in_ok-spans.ensures) (yaml_read c.args.text.now yaml)

pub returns : goal.returns
returns c =
    let all = c.as_slice.ensures.value ∙ c.in_ok-spans.ensures in
    let json : is_yaml (pieces c.args.text.now) ≡ false =
    sym (ap (λ (ss : List Span). is_yaml (map (piece_in c.args.text.now) ss)) all) ∙ sym c.is_yaml.ensures ∙ c.if-is_yaml.false in
    rw c.in_ok-spans.ensures (file_read c.args.text.now json)
