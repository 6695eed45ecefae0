-- The ports of a server and the identities of their clients, as the command line specifies them.
use Rattle.std.specs.Prelude.{ℕ, List, map}
use Rattle.kapi_model.specs.declared.identity.Identity.{Identity}
use Rattle.kapi_command_line.specs.declared.program.Listen.{Listen}

-- the port and the identity of each listener, in the order of the words
abbrev pub doors_of : List Listen → List (ℕ × Identity)
doors_of listens = map (λ l. (l.port, l.identity)) listens
