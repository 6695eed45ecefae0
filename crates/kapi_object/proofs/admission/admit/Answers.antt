use Rattle.serde_json.specs.View.{view}
use Rattle.std.proofs.Common.{◌≡◌, ◌==◌, [], length, true, rules}
use Rattle.kapi_object.proofs.Clean.{none_if, kept_tree_has_no_fault}
use Rattle.kapi_object.specs.Admission.{faults_on}
use Rattle.kapi_object.proofs.KeptGiven.{given_of-kept_tree}
use Rattle.kapi_object.proofs.KeptHolds.{kept_tree_holds}
use Rattle.kapi_object.proofs.Depths.{no_deeper}
use Rattle.kapi_object.proofs.NoFloats.{no_floats}
use Rattle.kapi_object.proofs.Ordered.{keys_in_order}
use Rattle.kapi_object.proofs.admission.admit.Goals as goal

pub returns-clause-whole : goal.returns-clause-whole
returns-clause-whole c = rw c.in_ok-kept.ensures (kept_tree_holds no_floats 120 c.args.row.now (view c.args.tree) c.requires.whole)

pub returns-clause-ordered : goal.returns-clause-ordered
returns-clause-ordered c = rw c.in_ok-kept.ensures (kept_tree_holds keys_in_order 120 c.args.row.now (view c.args.tree) c.requires.ordered)

pub returns-clause-nests : goal.returns-clause-nests
returns-clause-nests c = λ nests. rw c.in_ok-kept.ensures (kept_tree_holds no_deeper 120 c.args.row.now (view c.args.tree) nests)

pub returns-clause-given : goal.returns-clause-given
returns-clause-given c = rw c.in_ok-kept.ensures (given_of-kept_tree c.args.row.now (view c.args.tree))

pub returns-clause-clean : goal.returns-clause-clean
returns-clause-clean c =
    let empty : (length c.in_ok-faults.faults.items == 0) ≡ true = let h = c.if-not-is_empty.ensures in search rules in
    let none : faults_on c.args.row.now.schema (view c.args.tree) ≡ [] = rw (← c.in_ok-faults.ensures) (none_if c.in_ok-faults.faults.items empty) in
    rw c.in_ok-kept.ensures (kept_tree_has_no_fault c.args.row.now (view c.args.tree) none)
