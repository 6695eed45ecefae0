-- Lines without their references.
use Rattle.std.specs.Prelude.{ℕ, Bool, List, [], ◌∷◌, if◌then◌else◌}
use Rattle.kapi_model.specs.declared.policy_rule.PolicyRule.{PolicyRule}
use Rattle.kapi_policy.specs.Decided.{Binding}
use Rattle.kapi_policy.specs.Objects.{PolicyObjects}
use Rattle.kapi_policy.specs.Views.{binding_of}
use Rattle.kapi_access.specs.declared.gained.Gain.{Gain}
use Rattle.kapi_access.specs.declared.way.Way.{Way as ByWay}
use Rattle.kapi_rules.specs.declared.atom.Atom.{Atom}
use Rattle.kapi_access.specs.declared.grantee.Grantee.{Grantee}
use Rattle.kapi_access.specs.declared.gained_rules.GainedAtoms.{GainedAtoms as AtomsGained}
use Rattle.kapi_access.specs.declared.gained_rules.GainedRule.{GainedRule as RuleGained}
use Rattle.kapi_access.specs.Gained.{Gained, GainedAtoms, GainedRule, can_match}
use Rattle.kapi_access.specs.Who.{Way, counts_in, ways_of}
use Rattle.kapi_access.specs.declared.question.Scope.{Scope}

-- a way without its references
abbrev pub way_of : ByWay → Way
way_of w = record { to = w.to; binding = binding_of w.binding; rule = w.rule }

-- a gain without its references
abbrev pub gain_of : Gain → Gained
gain_of g = record { to = g.to; binding = binding_of g.binding; rule = g.rule; gain = g.gain }

-- the atoms of a line without its references
abbrev pub gained_atoms_of : AtomsGained → GainedAtoms
gained_atoms_of g = record { to = g.to; binding = binding_of g.binding; rule = g.rule; atoms = g.atoms.items }

-- a gain by a rule without its references
abbrev pub gained_rule_of : RuleGained → GainedRule
gained_rule_of g = record { to = g.to; binding = binding_of g.binding; rule = g.rule; gain = g.gain }

-- the ways by a binding that counts there
unfoldable pub ways_there : PolicyObjects → (PolicyRule → Bool) → Scope → Binding → List Way
ways_there objects test there b = if counts_in there b then ways_of objects test b else []

-- the line of an atom that some request matches where the binding counts
unfoldable pub line_for : Grantee → Binding → ℕ → Atom → List Gained
line_for to b rule a = if can_match b.namespace a then record { to = to; binding = b; rule = rule; gain = a } ∷ [] else []
