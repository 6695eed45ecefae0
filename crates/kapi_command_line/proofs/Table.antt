-- The rows of the table, added one after the other.
use Rattle.std.proofs.Common.{◌≡◌, ◌∙◌, ℕ, ◌+◌, ◌<◌, false, List, length, map, drop, drop-cons, get_or, add-one, ap, sym}
use Rattle.clap.specs.Words.{AddsArg, AddsSubcommand, App, with_rule, with_subcommand}
use Rattle.clap.specs.Simple.{app_of, shape_of}
use Rattle.clap.specs.Walk.{rule_of}
use Rattle.clap.specs.declared.builder.arg.Arg.{Arg}
use Rattle.clap.specs.declared.builder.command.Command.{Command}
use Rattle.clap.specs.declared.builder.command.Command.TheViews.{out-Command}
use Rattle.kapi_command_line.specs.Private.Table.{rule_by, shape_by, with_rules, with_shapes}
use Rattle.kapi_command_line.specs.declared.arguments.Argument.{Argument}
use Rattle.kapi_command_line.specs.declared.arguments.Subcommand.{Subcommand}

pub one_rule : (old new : Command) (arg : Arg) (xs : List Argument) (i : ℕ) (d : Argument) (all : App) → i < length xs → AddsArg old arg new → arg.global ≡ false
    → rule_of arg ≡ rule_by (get_or xs i d) → with_rules (app_of old) (map rule_by (drop i xs)) ≡ all → with_rules (app_of new) (map rule_by (drop (i + 1) xs)) ≡ all
one_rule old new arg xs i d all below adds local rule before =
    ap (λ a. with_rules a (map rule_by (drop (i + 1) xs))) (adds.shape local ∙ ap (with_rule (app_of old)) rule)
    ∙ ap (λ n. with_rules (with_rule (app_of old) (rule_by (get_or xs i d))) (map rule_by (drop n xs))) (add-one i)
    ∙ sym (ap (λ ls. with_rules (app_of old) (map rule_by ls)) (drop-cons xs i d below)) ∙ before

pub one_shape : (old new sub : Command) (xs : List Subcommand) (i : ℕ) (d : Subcommand) (all : App) → i < length xs → AddsSubcommand old sub new → (out-Command sub).has_globals ≡ false
    → shape_of sub ≡ shape_by (get_or xs i d) → with_shapes (app_of old) (map shape_by (drop i xs)) ≡ all
    → with_shapes (app_of new) (map shape_by (drop (i + 1) xs)) ≡ all
one_shape old new sub xs i d all below adds local shape before =
    ap (λ a. with_shapes a (map shape_by (drop (i + 1) xs))) (adds.shape local ∙ ap (with_subcommand (app_of old)) shape)
    ∙ ap (λ n. with_shapes (with_subcommand (app_of old) (shape_by (get_or xs i d))) (map shape_by (drop n xs))) (add-one i)
    ∙ sym (ap (λ ls. with_shapes (app_of old) (map shape_by ls)) (drop-cons xs i d below)) ∙ before
