-- The server that was read is the one that is asked for, as its numbers are within bounds.
use Rattle.std.proofs.Common.{rules}
use Rattle.kapi_command_line.specs.Asked.{rows_in}
use Rattle.kapi_command_line.specs.declared.program.ServeOptions.{ServeOptions}
use Rattle.kapi_command_line.proofs.Bounded.{serve_of}
use Rattle.kapi_command_line.proofs.command_line.serve_options.Goals as goal

pub returns : goal.returns
returns c =
    let x : ServeOptions = record {
      kinds = c.in_ok-each.field-0;
      load = c.in_ok-text.field-0;
      manifests = c.in_ok-manifests.manifests;
      first_revision = c.in_ok-first_revision.first_revision;
      recheck = c.is_given.result;
      listens = c.in_ok-listens.listens;
      answer = c.in_ok-answer.answer;
      readers = c.in_ok-readers.readers;
      idle_readers = c.has_idle_readers.result;
      first = c.result-2-1.given.0;
      few = c.result-2-1.given.1.0;
      threads = c.result-2-1.given.1.1.0;
    } in
    serve_of (rows_in c.args.words.now) x (search rules) (search rules) (search rules) (search rules) (search rules) (search rules) (search rules) (search rules) (search rules)
