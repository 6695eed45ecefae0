use Rattle.kapi_http.proofs.EmptyLines.{open_waits, waits_open}
use Rattle.kapi_http.proofs.HeadEnds.{accepted_head, never_head, refused_head, too_large, waiting, whole_head}
use Rattle.kapi_http.proofs.laws.heads_end_where_the_grammar_ends.Goals as goal

pub returns-clause-accepts : goal.returns-clause-accepts
returns-clause-accepts c = accepted_head

pub returns-clause-refuses : goal.returns-clause-refuses
returns-clause-refuses c = refused_head

pub returns-clause-never : goal.returns-clause-never
returns-clause-never c = never_head

pub returns-clause-large : goal.returns-clause-large
returns-clause-large c = too_large

pub returns-clause-pending : goal.returns-clause-pending
returns-clause-pending c = λ bytes e. let w = waiting bytes e in (w.0, waits_open bytes e, w.1)

pub returns-clause-whole : goal.returns-clause-whole
returns-clause-whole c = whole_head

pub returns-clause-unended : goal.returns-clause-unended
returns-clause-unended c = open_waits
