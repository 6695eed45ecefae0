-- The least for what was used: for each user and place the rules of the atoms that were used there.
use Rattle.std.specs.Prelude.{ℕ, ◌==◌, Bool, not, ◌&&◌, if◌then◌else◌, List, [], ◌∷◌, ◌++◌, length, reverse}
use Rattle.std.specs.BTreeMap.{insert_entry, is_at}
use Rattle.std.specs.Cmp.Lexicographic.{slice_cmp}
use Rattle.std.specs.List.{filter, flat_map, fold, list_any}
use Rattle.std.specs.Map.{lookup, remove_entry}
use Rattle.std.specs.Option.{unwrap_or}
use Rattle.std.specs.Ordering.{nat_cmp, ordering_then}
use Rattle.std.specs.Str.{bytes_eq}
use Rattle.std.specs.declared.cmp.Ordering.{Ordering}
use Rattle.kapi_model.specs.Identities.{is_master}
use Rattle.kapi_model.specs.declared.identity.Identity.{Identity}
use Rattle.kapi_rules.specs.Atoms.{implies}
use Rattle.kapi_rules.specs.Rules.{allows}
use Rattle.kapi_rules.specs.declared.atom.Atom.{Atom}
use Rattle.kapi_rules.specs.declared.point.Point.{Point}
use Rattle.kapi_access.specs.Together.{together}
use Rattle.kapi_reviews.specs.declared.question.Question.{Question}
use Rattle.kapi_suggest.specs.Uses.{atom_used, counts}
use Rattle.kapi_suggest.specs.declared.user_scope.UserScope.{UserScope}
use Rattle.kapi_suggest.specs.declared.suggested.Suggested.{Suggested}

-- places are in the order of users, and then of namespaces: cluster-wide first
abbrev pub place_cmp : UserScope → UserScope → Ordering
place_cmp a b = ordering_then (slice_cmp nat_cmp a.user b.user) (slice_cmp nat_cmp a.namespace b.namespace)

-- some atom implies that one
abbrev pub is_implied : List Atom → Atom → Bool
is_implied atoms a = list_any (λ b. implies b a) atoms

-- the atoms with one more, unless one implies it
unfoldable pub with_atom : List Atom → Atom → List Atom
with_atom atoms a = if is_implied atoms a then atoms else atoms ++ a ∷ []

-- the atoms that none behind them implies
abbrev pub widest : List Atom → List Atom
widest atoms = reverse (fold with_atom [] (reverse atoms))

-- who used it, and in which namespace
abbrev pub place_used : Question → UserScope
place_used u = record { user = u.identity.user; namespace = u.namespace }

-- what was used at a place so far: no atom implies a later one
abbrev pub used_at : List (UserScope × List Atom) → UserScope → List Atom
used_at list place = unwrap_or (lookup (is_at (place_cmp place)) list) []

-- the atoms of each place, with one use more; those of masters are left out
unfoldable pub with_use : List (UserScope × List Atom) → Question → List (UserScope × List Atom)
with_use list u =
    if is_master u.identity then list
    else insert_entry place_cmp (remove_entry (is_at (place_cmp (place_used u))) list) (place_used u) (with_atom (used_at list (place_used u)) (atom_used u.point))

-- the atoms that were used at each place
abbrev pub used : List Question → List (UserScope × List Atom)
used uses = fold with_use [] uses

-- what the user of a place in a namespace used cluster-wide
abbrev pub used_everywhere : List (UserScope × List Atom) → UserScope → List Atom
used_everywhere list place = if length place.namespace == 0 then [] else used_at list (record { user = place.user; namespace = [] })

-- the atoms that a place needs: in a namespace only what the user has not everywhere
abbrev pub needed_at : List (UserScope × List Atom) → UserScope × List Atom → List Atom
needed_at list e = filter (λ a. not (is_implied (used_everywhere list e.0) a)) (widest e.1)

-- the rules for a place, if it needs any
abbrev pub suggested_at : List (UserScope × List Atom) → UserScope × List Atom → List Suggested
suggested_at list e =
    if length (needed_at list e) == 0 then [] else record { at = e.0; rules = together (needed_at list e) } ∷ []

-- the rules that are suggested, in the order of places
unfoldable pub suggested : List Question → List Suggested
suggested uses = flat_map (suggested_at (used uses)) (used uses)

-- the rules are the identity's, count in the namespace, and allow the request
abbrev pub allows_by : Identity → List ℕ → Point → Suggested → Bool
allows_by identity namespace p s =
    bytes_eq s.at.user identity.user && (counts s.at.namespace namespace && list_any (λ rule. allows rule p) s.rules)
