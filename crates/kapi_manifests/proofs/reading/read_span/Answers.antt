use Rattle.std.proofs.Common.{◌≡◌, rules, IfOk, ap, subst, sym, ◌∙◌}
use Rattle.serde_json.specs.View.{view}
use Rattle.kapi_manifests.specs.Files.{document, fault, faults_found, faults_read, objects_found, objects_read, read_piece}
use Rattle.kapi_manifests.specs.Pieces.{piece_in}
use Rattle.kapi_manifests.proofs.Listed.{piece_not_read, piece_read}
use Rattle.kapi_manifests.proofs.reading.read_span.Goals as goal

pub returns-in-Ok-clause-objects : goal.returns-in-Ok-clause-objects
returns-in-Ok-clause-objects c =
    let read : document (view c.in-Ok.document) ≡ read_piece c.text_of-text.result.now =
    piece_read _ _ (sym c.first_byte.ensures ∙ c.if-first_byte-ne123.false) c.in-Ok.ensures.ok.0 c.in-Ok.ensures.ok.1 in
    let is : document (view c.in-Ok.document) ≡ read_piece (piece_in c.args.source.text.now c.args.span) = read ∙ ap read_piece c.text_of-text.ensures in
    subst (λ r. IfOk c.found_in.result (λ f. objects_found f ≡ objects_read r)) is c.found_in.ensures.objects

pub returns-in-Ok-clause-faults : goal.returns-in-Ok-clause-faults
returns-in-Ok-clause-faults c =
    let read : document (view c.in-Ok.document) ≡ read_piece c.text_of-text.result.now =
    piece_read _ _ (sym c.first_byte.ensures ∙ c.if-first_byte-ne123.false) c.in-Ok.ensures.ok.0 c.in-Ok.ensures.ok.1 in
    let is : document (view c.in-Ok.document) ≡ read_piece (piece_in c.args.source.text.now c.args.span) = read ∙ ap read_piece c.text_of-text.ensures in
    subst (λ r. IfOk c.found_in.result (λ f. faults_found f ≡ faults_read r)) is c.found_in.ensures.faults

pub returns-else-is_memory : goal.returns-else-is_memory
returns-else-is_memory c =
    let read : fault ≡ read_piece c.text_of-text.result.now = piece_not_read _ (λ utf8. c.in-Err.ensures.err (search rules) utf8) in
    let is : fault ≡ read_piece (piece_in c.args.source.text.now c.args.span) = read ∙ ap read_piece c.text_of-text.ensures in
    record { objects = ap objects_read is; faults = ap faults_read is }
