-- What is asked for where numbers have bounds.
use Rattle.std.proofs.Common.{◌≡◌, ◌∙◌, List, length, Some, codes}
use Rattle.clap.specs.Walk.{Row, first_of}
use Rattle.kapi_command_line.specs.Asked.{answer_of, are_idle, audit_in, audited_in, each, first_of_word, form_in, is_true, listens_in, readers_of, serve_in, served_in}
use Rattle.kapi_command_line.specs.Numbers.{are_few, is_first}
use Rattle.kapi_command_line.proofs.Values.{when_holds}
use Rattle.kapi_command_line.specs.declared.program.AuditFiles.{AuditFiles}
use Rattle.kapi_command_line.specs.declared.program.ServeOptions.{ServeOptions}

pub audit_of : (rows : List Row) (x : AuditFiles) → readers_of (first_of (codes "readers") rows) ≡ Some x.readers → first_of (codes "POLICY") rows ≡ Some x.policy
    → first_of (codes "QUESTIONS") rows ≡ Some x.questions → form_in rows ≡ Some x.form → audited_in rows ≡ Some x.manifests → x.kinds ≡ each (codes "kinds") rows
    → x.log ≡ is_true (first_of (codes "log") rows) → audit_in rows ≡ Some x
audit_of rows x readers policy questions printed manifests kinds log =
    rw (readers, policy, questions, printed, manifests, ← kinds, ← log) (when_holds (are_few x.readers) _ x.few)

pub serve_of : (rows : List Row) (x : ServeOptions) → answer_of (first_of (codes "answer") rows) ≡ Some x.answer → readers_of (first_of (codes "readers") rows) ≡ Some x.readers
    → first_of_word (first_of (codes "first-revision") rows) ≡ Some x.first_revision → served_in rows ≡ Some x.manifests → listens_in rows ≡ Some x.listens
    → x.kinds ≡ each (codes "kinds") rows → x.load ≡ first_of (codes "load") rows → x.recheck ≡ is_true (first_of (codes "recheck-watches") rows)
    → x.idle_readers ≡ are_idle rows → serve_in rows ≡ Some x
serve_of rows x answer readers revision manifests listens kinds load recheck idle =
    rw (answer, readers, revision, manifests, listens, ← kinds, ← load, ← recheck, ← idle)
    (when_holds (is_first x.first_revision) _ x.first ∙ when_holds (are_few (length x.listens)) _ x.few ∙ when_holds (are_few x.readers) _ x.threads)
