-- The audit that was read is the one that is asked for, as its number of readers is within bounds.
use Rattle.std.proofs.Common.{rules}
use Rattle.kapi_command_line.specs.Asked.{rows_in}
use Rattle.kapi_command_line.specs.declared.program.AuditFiles.{AuditFiles}
use Rattle.kapi_command_line.proofs.Bounded.{audit_of}
use Rattle.kapi_command_line.proofs.command_line.audit_files.Goals as goal

pub returns : goal.returns
returns c =
    let x : AuditFiles = record {
      policy = c.in_ok-needed.field-0;
      questions = c.in_ok-needed-2.field-0;
      kinds = c.in_ok-each.field-0;
      log = c.is_given.result;
      form = c.in_ok-form.form;
      manifests = c.in_ok-audited_manifests.field-0;
      readers = c.in_ok-readers.readers;
      few = c.result-2-1.given.0;
    } in
    audit_of (rows_in c.args.words.now) x (search rules) (search rules) (search rules) (search rules) (search rules) (search rules) (search rules)
