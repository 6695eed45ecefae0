-- What clap takes of the rows of the table.
use Rattle.std.specs.Prelude.{List, [], ◌∷◌, map}
use Rattle.clap.specs.Words.{App, Rule, Text, new_app, with_rule, with_subcommand}
use Rattle.clap.specs.Simple.{Shape}
use Rattle.kapi_command_line.specs.CommandLine.{any, few, flag, maybe, often, once, some, word}
use Rattle.kapi_command_line.specs.declared.arguments.Argument.{Argument}
use Rattle.kapi_command_line.specs.declared.arguments.Kind.{Kind}
use Rattle.kapi_command_line.specs.declared.arguments.Kind.TheVariants as kind
use Rattle.kapi_command_line.specs.declared.arguments.Subcommand.{Subcommand}

abbrev pub rule_as : Kind → Text → Rule
rule_as kind.Flag name = flag name
rule_as kind.Once name = once name
rule_as kind.Often name = often name
rule_as kind.Word name = word name
rule_as kind.Maybe name = maybe name
rule_as kind.Any name = any name
rule_as kind.Some name = some name
rule_as kind.Few name = few name

abbrev pub rule_by : Argument → Rule
rule_by a = rule_as a.kind a.name.now

abbrev pub with_rules : App → List Rule → App
with_rules a [] = a
with_rules a (r ∷ rs) = with_rules (with_rule a r) rs

abbrev pub shape_by : Subcommand → Shape
shape_by s = (with_rules (with_rules (new_app s.name.now) (map rule_by s.shared.now)) (map rule_by s.own.now)).top

abbrev pub with_shapes : App → List Shape → App
with_shapes a [] = a
with_shapes a (s ∷ ss) = with_shapes (with_subcommand a s) ss
