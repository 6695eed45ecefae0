-- The lines of a script's answers.
use Rattle.std.specs.Prelude.{ℕ, if◌then◌else◌, List, ◌++◌, codes}
use Rattle.std.specs.Fmt.{decimal}
use Rattle.kapi_core.specs.declared.event.Answer.{Answer}
use Rattle.kapi_core.specs.declared.event.Answer.TheVariants as told
use Rattle.kapi_core.specs.declared.event.Output.{Output}
use Rattle.kapi_core.specs.declared.event.Turned.{Turned}
use Rattle.kapi_lines.specs.Escapes.{escaped}

-- bytes that are sent; `last` where the connection ends with them
unfoldable pub output_line : Output → List ℕ
output_line output = ((if output.close then codes "last " else codes "out ") ++ escaped output.bytes) ++ codes "\n"

-- a write of the controller: its revision and the name
unfoldable pub turn_line : Turned → List ℕ
turn_line turned = ((((codes "turn " ++ decimal turned.revision) ++ codes " ") ++ escaped turned.name)) ++ codes "\n"

-- the line that an answer is written as
unfoldable pub answer_line : Answer → List ℕ
answer_line (told.Opened conn) = codes "conn " ++ decimal conn.0 ++ codes "\n"
answer_line told.Done = codes "ok\n"
answer_line told.Nothing = codes "none\n"
answer_line (told.Sent output) = output_line output
answer_line (told.Turned turned) = turn_line turned
answer_line told.TooMany = codes "error TooMany\n"
answer_line told.Full = codes "error Full\n"
answer_line told.Ended = codes "error Ended\n"

-- the line for an event that is refused as the machine is out of memory
abbrev pub refused_line : List ℕ
refused_line = codes "error Memory\n"
