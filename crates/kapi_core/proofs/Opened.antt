-- In a table that fits, the five opening objects are stored.
use Rattle.std.proofs.Common.{◌≡◌, ℕ, ◌+◌, ◌≤◌, ◌∙◌, true, false, List, [], ◌∷◌, Ok, Err, Result, refl, ap, arith}
use Rattle.std.proofs.lemmas.Bool.{le-leb, and_parts}
use Rattle.std.specs.List.{list_all}
use Rattle.std.specs.Map.{keys_of}
use Rattle.std.specs.Str.{chars}
use Rattle.serde_json.specs.Data.{Data, null}
use Rattle.kapi_object.specs.Admission.{BodyFault, object_of}
use Rattle.kapi_object.proofs.OnLiterals.{admission_on_literals}
use Rattle.kapi_model.specs.declared.row.ResourceRow.{ResourceRow}
use Rattle.kapi_store.specs.Changes.{placed, placed_all}
use Rattle.kapi_store.specs.Plain.{creation_at, free_place, has_namespace, has_object, is_namespaced, revisions_left}
use Rattle.kapi_store.specs.Limits.{last_revision}
use Rattle.kapi_core.specs.Machine.{Machine, changed}
use Rattle.kapi_core.specs.Opening.{OpeningObject, Standing, basic_user, basic_user_binding, cluster_admin, cluster_admin_binding, default_namespace, cluster_key, empty, opening, opening_keys, opening_objects, with_opening}
use Rattle.kapi_core.specs.Table.{cluster_role_bindings_row, cluster_roles_row, fits, has_row, is_known, namespaces_row, required_rows, role_bindings_row, roles_row, rows_differ}
use Rattle.kapi_core.specs.Limits.{last_first}
use Rattle.kapi_core.proofs.Fitting.{stands_alone}

-- the tree that a body was read as
unfoldable pub tree_in : Result Data BodyFault → Data
tree_in (Ok tree) = tree
tree_in (Err fault) = null

-- the tree of an opening object
abbrev pub opened_tree : OpeningObject → Data
opened_tree o = tree_in (object_of o.row o.body)

-- one object more is created
created_next : (m : Machine) (o : OpeningObject) (tree : Data) → object_of o.row o.body ≡ Ok tree
    → free_place m.store (cluster_key o.row o.name) ≡ Ok tt → m.store.revision + 1 ≤ last_revision
    → with_opening m o ≡ changed (creation_at (cluster_key o.row o.name) tree (m.store.revision + 1) ∷ []) m
unfolding with_opening revisions_left
created_next m o tree body free left = rw (body, free, le-leb (m.store.revision + 1) last_revision left) refl

-- the machine with one object more
abbrev pub next_of : OpeningObject → Data → Machine → Machine
next_of o tree m = changed (creation_at (cluster_key o.row o.name) tree (m.store.revision + 1) ∷ []) m

-- ---- the five bodies are objects

default_tree : object_of default_namespace.row default_namespace.body ≡ Ok (opened_tree default_namespace)
unfolding admission_on_literals chars tree_in
default_tree = refl

admin_tree : object_of cluster_admin.row cluster_admin.body ≡ Ok (opened_tree cluster_admin)
unfolding admission_on_literals chars tree_in
admin_tree = refl

user_tree : object_of basic_user.row basic_user.body ≡ Ok (opened_tree basic_user)
unfolding admission_on_literals chars tree_in
user_tree = refl

admins_tree : object_of cluster_admin_binding.row cluster_admin_binding.body ≡ Ok (opened_tree cluster_admin_binding)
unfolding admission_on_literals chars tree_in
admins_tree = refl

users_tree : object_of basic_user_binding.row basic_user_binding.body ≡ Ok (opened_tree basic_user_binding)
unfolding admission_on_literals chars tree_in
users_tree = refl

-- ---- their places are free

-- a table that fits has no namespaced resource type of these three resources
record Alone (table : List ResourceRow) : Type 0 where
  namespaces : is_namespaced table (cluster_key namespaces_row []) ≡ false
  cluster_roles : is_namespaced table (cluster_key cluster_roles_row []) ≡ false
  bindings : is_namespaced table (cluster_key cluster_role_bindings_row []) ≡ false

alone : (table : List ResourceRow) → fits table ≡ true → Alone table
unfolding required_rows
alone table h =
    let parts = and_parts (list_all (has_row table) required_rows) _ h in
    let differ = (and_parts (list_all is_known table) (rows_differ table) parts.1).1 in
    let first = and_parts (has_row table namespaces_row) _ parts.0 in
    let second = and_parts (has_row table roles_row) _ first.1 in
    let third = and_parts (has_row table role_bindings_row) _ second.1 in
    let fourth = and_parts (has_row table cluster_roles_row) _ third.1 in
    let fifth = and_parts (has_row table cluster_role_bindings_row) _ fourth.1 in
    record {
      namespaces = stands_alone namespaces_row table refl first.0 differ;
      cluster_roles = stands_alone cluster_roles_row table refl fourth.0 differ;
      bindings = stands_alone cluster_role_bindings_row table refl fifth.0 differ;
    }

-- the five machines, with trees that may be any
abbrev pub one : List ResourceRow → ℕ → Data → Machine
one table first a = next_of default_namespace a (empty table first)

abbrev pub two : List ResourceRow → ℕ → Data → Data → Machine
two table first a b = next_of cluster_admin b (one table first a)

abbrev pub three : List ResourceRow → ℕ → Data → Data → Data → Machine
three table first a b c = next_of basic_user c (two table first a b)

abbrev pub four : List ResourceRow → ℕ → Data → Data → Data → Data → Machine
four table first a b c d = next_of cluster_admin_binding d (three table first a b c)

abbrev pub five : List ResourceRow → ℕ → Data → Data → Data → Data → Data → Machine
five table first a b c d e = next_of basic_user_binding e (four table first a b c d)

free_one : (table : List ResourceRow) (first : ℕ) → Alone table → free_place (empty table first).store (cluster_key default_namespace.row default_namespace.name) ≡ Ok tt
unfolding free_place has_namespace has_object
free_one table first h = rw h.namespaces refl

free_two : (table : List ResourceRow) (first : ℕ) (a : Data) → Alone table → free_place (one table first a).store (cluster_key cluster_admin.row cluster_admin.name) ≡ Ok tt
unfolding free_place has_namespace has_object placed placed_all
free_two table first a h = rw h.cluster_roles refl

free_three : (table : List ResourceRow) (first : ℕ) (a b : Data) → Alone table → free_place (two table first a b).store (cluster_key basic_user.row basic_user.name) ≡ Ok tt
unfolding free_place has_namespace has_object placed placed_all
free_three table first a b h = rw h.cluster_roles refl

free_four : (table : List ResourceRow) (first : ℕ) (a b c : Data) → Alone table
    → free_place (three table first a b c).store (cluster_key cluster_admin_binding.row cluster_admin_binding.name) ≡ Ok tt
unfolding free_place has_namespace has_object placed placed_all
free_four table first a b c h = rw h.bindings refl

free_five : (table : List ResourceRow) (first : ℕ) (a b c d : Data) → Alone table
    → free_place (four table first a b c d).store (cluster_key basic_user_binding.row basic_user_binding.name) ≡ Ok tt
unfolding free_place has_namespace has_object placed placed_all
free_five table first a b c d h = rw h.bindings refl

-- ---- all of them

-- the machine as it begins, whatever the five bodies were read as
opening_is : (table : List ResourceRow) (first : ℕ) → Alone table → first ≤ last_first
    → opening table first ≡ five table first
    (opened_tree default_namespace)
    (opened_tree cluster_admin)
    (opened_tree basic_user)
    (opened_tree cluster_admin_binding)
    (opened_tree basic_user_binding)
unfolding opening opening_objects
opening_is table first h low =
    let a = opened_tree default_namespace in
    let b = opened_tree cluster_admin in
    let c = opened_tree basic_user in
    let d = opened_tree cluster_admin_binding in
    let e = opened_tree basic_user_binding in
    let m = empty table first in
    ap (λ n. with_opening (with_opening (with_opening (with_opening n cluster_admin) basic_user) cluster_admin_binding) basic_user_binding)
    (created_next m default_namespace a default_tree (free_one table first h) (omega (arith, low)))
    ∙ ap (λ n. with_opening (with_opening (with_opening n basic_user) cluster_admin_binding) basic_user_binding)
    (created_next (one table first a) cluster_admin b admin_tree (free_two table first a h) (omega (arith, low)))
    ∙ ap (λ n. with_opening (with_opening n cluster_admin_binding) basic_user_binding)
    (created_next (two table first a b) basic_user c user_tree (free_three table first a b h) (omega (arith, low)))
    ∙ ap (λ n. with_opening n basic_user_binding)
    (created_next (three table first a b c) cluster_admin_binding d admins_tree (free_four table first a b c h) (omega (arith, low)))
    ∙ created_next (four table first a b c d) basic_user_binding e users_tree (free_five table first a b c d h) (omega (arith, low))

five_keys : (table : List ResourceRow) (first : ℕ) (a b c d e : Data) → keys_of (five table first a b c d e).store.objects ≡ opening_keys
unfolding placed placed_all opening_keys
five_keys table first a b c d e = refl

five_revision : (table : List ResourceRow) (first : ℕ) (a b c d e : Data) → (five table first a b c d e).store.revision ≡ first + 5
five_revision table first a b c d e = omega arith

-- the machine as it begins, in a table that fits
pub opening_five : (table : List ResourceRow) (first : ℕ) → fits table ≡ true → first ≤ last_first
    → opening table first ≡ five table first (opened_tree default_namespace) (opened_tree cluster_admin) (opened_tree basic_user) (opened_tree cluster_admin_binding) (opened_tree basic_user_binding)
opening_five table first h low = opening_is table first (alone table h) low

pub opening_stands : (table : List ResourceRow) (first : ℕ) → fits table ≡ true → first ≤ last_first → Standing table first
opening_stands table first h low =
    let is = opening_is table first (alone table h) low in
    let a = opened_tree default_namespace in
    let b = opened_tree cluster_admin in
    let c = opened_tree basic_user in
    let d = opened_tree cluster_admin_binding in
    let e = opened_tree basic_user_binding in
    record {
      objects = ap (λ m. keys_of m.store.objects) is ∙ five_keys table first a b c d e;
      revision = ap (λ m. m.store.revision) is ∙ five_revision table first a b c d e;
    }
