-- Which aggregated cluster role is rewritten next, and how.
use Rattle.std.specs.Prelude.{List, [], ◌∷◌, Bool, not, ◌&&◌, if◌then◌else◌, Option, Some, None}
use Rattle.std.specs.Option.{option_or}
use Rattle.kapi_model.specs.declared.policy_rule.PolicyRule.{PolicyRule}
use Rattle.kapi_aggregation.specs.Roles.{Labelled, is_aggregated}
use Rattle.kapi_aggregation.specs.Unions.{same_rules, union_for}
use Rattle.kapi_aggregation.specs.declared.turn.Turn.{Turn}

-- the cluster role is aggregated, and its rules are not its union
abbrev pub differs : List Labelled → Labelled → Bool
differs roles r = is_aggregated r && not (same_rules r.role.rules (union_for roles r))

-- the cluster role with its union in place of its rules
abbrev pub turn_of : List Labelled → Labelled → Turn
turn_of roles r = record { name = r.name; rules = union_for roles r }

-- what a cluster role that differs is to become
abbrev pub turn_at : List Labelled → Labelled → Option Turn
turn_at roles r = if differs roles r then Some (turn_of roles r) else None

-- what an aggregated cluster role is to become, if these are not its rules
abbrev pub turn_to : Labelled → List PolicyRule → Option Turn
turn_to r rules = if is_aggregated r && not (same_rules r.role.rules rules) then Some (record { name = r.name; rules = rules }) else None

-- the first answer that there is
abbrev pub first_some : {X Y : Type 0} → (X → Option Y) → List X → Option Y
first_some f [] = None
first_some f (x ∷ xs) = option_or (f x) (first_some f xs)

-- what is to become of the first cluster role that differs, which is the one of least name
abbrev pub next : List Labelled → Option Turn
next roles = first_some (turn_at roles) roles
