use Rattle.kapi_transcripts.proofs.Read.{line_read}
use Rattle.kapi_transcripts.proofs.draft.read_line.Goals as goal

pub returns : goal.returns
returns c = line_read c.read_form.result _ _ _ _ _ _ c.in_ok-form.form c.in_ok-form.ensures c.read_form.ensures.ended c.read_form.ensures.next
