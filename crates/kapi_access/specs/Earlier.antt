-- Bindings that gave the same before.
use Rattle.std.specs.Prelude.{List, [], ◌∷◌, Bool, true, false, ◌&&◌, if◌then◌else◌, map}
use Rattle.std.specs.Cmp.Lexicographic.{slice_cmp}
use Rattle.std.specs.Ordering.{is_lt, nat_cmp, ordering_then}
use Rattle.std.specs.Str.{bytes_eq}
use Rattle.kapi_model.specs.declared.subject.Subject.{Subject}
use Rattle.kapi_model.specs.declared.subject.Subject.TheVariants.{User, Group, ServiceAccount}
use Rattle.kapi_policy.specs.Decided.{Binding}
use Rattle.kapi_policy.specs.Objects.{PolicyObjects}
use Rattle.kapi_policy.specs.Views.{binding_of}
use Rattle.kapi_policy.specs.declared.binding.Binding.{Binding as BoundBy}
use Rattle.kapi_aggregation.specs.Members.{Has}
use Rattle.kapi_aggregation.specs.Unions.{same_rules}
use Rattle.kapi_access.specs.Grantees.{role_of}

-- both are the same user, group or service account
abbrev pub same_subject : Subject → Subject → Bool
same_subject (User a) (User b) = bytes_eq a b
same_subject (Group a) (Group b) = bytes_eq a b
same_subject (ServiceAccount a) (ServiceAccount b) = bytes_eq a.namespace b.namespace && bytes_eq a.name b.name
same_subject a b = false

-- both lists have equal subjects, in the same order
abbrev pub same_subjects : List Subject → List Subject → Bool
same_subjects [] [] = true
same_subjects [] (y ∷ ys) = false
same_subjects (x ∷ xs) [] = false
same_subjects (x ∷ xs) (y ∷ ys) = same_subject x y && same_subjects xs ys

-- the binding before and the one after give the same subjects the same rules, in the same namespace
abbrev pub gives_same : PolicyObjects → PolicyObjects → Binding → Binding → Bool
gives_same before after s b =
    bytes_eq s.namespace b.namespace && (same_subjects s.subjects b.subjects && same_rules (role_of before s) (role_of after b))

-- the first of the bindings before gives the same as the one after
abbrev pub first_gives_same : PolicyObjects → PolicyObjects → List Binding → Binding → Bool
first_gives_same before after [] b = false
first_gives_same before after (s ∷ rest) b = gives_same before after s b

-- the order of a policy's bindings: the cluster-wide ones have the least namespace
abbrev pub comes_before : Binding → Binding → Bool
comes_before a b = is_lt (ordering_then (slice_cmp nat_cmp a.namespace b.namespace) (slice_cmp nat_cmp a.name b.name))

-- the bindings from that one's place on
abbrev pub from_place : Binding → List Binding → List Binding
from_place b [] = []
from_place b (s ∷ rest) = if comes_before s b then from_place b rest else s ∷ rest

-- all of them are among the others
abbrev pub AreAmong : List Binding → List Binding → Type 0
AreAmong some all = (b : Binding) → Has some b → Has all b

-- bindings without their references
abbrev pub bindings_at : List BoundBy → List Binding
bindings_at list = map binding_of list
