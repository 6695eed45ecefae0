-- The values of a command line's words.
use Rattle.std.proofs.Common.{◌≡◌, Bool, true, false, List, ◌++◌, Option, Some, None, option_map, ap, refl}
use Rattle.std.proofs.Math.Bool.{Bool-set}
use Rattle.clap.specs.Matches.{first_value, matched_of, raw_values, subcommand_name_of}
use Rattle.clap.specs.Simple.{subcommand_rows_of}
use Rattle.clap.specs.Walk.{Row, Text, all_of, first_of, rows_of}
use Rattle.clap.specs.declared.parser.matches.ArgMatches.{ArgMatches}
use Rattle.clap.specs.declared.parser.matches.Found.{Found}
use Rattle.clap.proofs.WalkLemmas.{first_value-rows, raw_values-rows}
use Rattle.kapi_command_line.specs.Numbers.{when}
use Rattle.kapi_command_line.specs.declared.program.Listen.{Listen}

pub first_value_rows : (f : Found) (id : Text) → first_value f id ≡ first_of id (rows_of f)
first_value_rows f id = first_value-rows f id

pub raw_values_rows : (f : Found) (id : Text) → option_map raw_values (matched_of f id) ≡ all_of id (rows_of f)
raw_values_rows f id = raw_values-rows f id

-- ---- tests

-- a value that is made of the proof of a test, where the test holds
pub when_holds : {A : Type 0} (b : Bool) (make : b ≡ true → Option A) (h : b ≡ true) → when b make ≡ make h
when_holds false make h = absurd (cc h)
when_holds true make h = ap make (Bool-set true true refl h)

-- ---- the subcommand

-- parts of a value that is there, side by side
both : {B P Q : Type 0} (f : B → P) (g : B → Q) (s : Option B) (p : P) (q : Q) → option_map f s ≡ Some p → option_map {T = P × Q} (λ x. x.1) (option_map (λ b. (f b, g b)) s) ≡ Some q
    → option_map {U = P × Q} (λ b. (f b, g b)) s ≡ Some (p, q)
both f g None p q a b = absurd (cc a)
both f g (Some x) p q a b = let e : f x ≡ p = cc a in let k : g x ≡ q = cc b in λ i. Some (e i, k i)

-- a subcommand of that name and those rows
pub entered : (m : ArgMatches) (name : Text) (rows : List Row) → subcommand_name_of m ≡ Some name → option_map (λ p. p.1) (subcommand_rows_of m) ≡ Some rows
    → subcommand_rows_of m ≡ Some (name, rows)
entered m name rows a b = both _ _ _ name rows a b

-- ---- the words of the ports, one after the other

-- the ports of some words, and then those of further words
abbrev pub after : List Listen → Option (List Listen) → Option (List Listen)
after done rest = option_map (λ more. done ++ more) rest
