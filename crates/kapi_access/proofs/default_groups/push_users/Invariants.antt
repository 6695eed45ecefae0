use Rattle.std.proofs.Common.{◌≡◌, ◌++◌, take, string_bytes}
use Rattle.std.specs.List.{flat_map}
use Rattle.kapi_access.specs.Grantees.{user_in}
use Rattle.kapi_access.proofs.default_groups.push_users.Given as goal

abbrev pub invariant-loop-subject : goal.invariant-loop-subject
invariant-loop-subject l = string_bytes l.text ≡ string_bytes l.initial.text ++ flat_map user_in (take l.subject-index l.subjects)
