-- What decisions name, and the rules that are held.
use Rattle.std.proofs.Common.{◌≡◌, ℕ, suc, ◌+◌, Bool, true, false, cond, if◌then◌else◌, ◌==◌, ◌||◌, List, [], ◌∷◌, ◌++◌, length, map, nat_lt, Option, Some, None, refl, sym, ap, ◌∙◌, arith, append-nil}
use Rattle.std.proofs.lemmas.Bool.Decides.{nat_tests}
use Rattle.std.proofs.lemmas.List.Folds.{list_any-append}
use Rattle.std.proofs.lemmas.Grind.{flat_map-append}
use Rattle.std.specs.List.{flat_map, list_any, position, position_or_len}
use Rattle.std.specs.Option.{is_some, option_or, unwrap_or}
use Rattle.kapi_model.specs.declared.binding.ClusterRoleBinding.{ClusterRoleBinding}
use Rattle.kapi_model.specs.declared.identity.Identity.{Identity}
use Rattle.kapi_model.specs.declared.policy_rule.PolicyRule.{PolicyRule}
use Rattle.kapi_model.specs.declared.kinds.RoleKind.{RoleKind}
use Rattle.kapi_model.specs.declared.kinds.RoleKind.TheVariants as role_kind
use Rattle.kapi_rules.specs.Rules.{allows}
use Rattle.kapi_rules.specs.declared.point.Point.{Point}
use Rattle.kapi_policy.specs.Decided.{Binding, bindings_in, bindings_of, cluster_binding, allowed, masters, allowed_if, decided, first_some, given, Granted, granted, granted_at, granted_by, held, rules_of, rules_of_kind}
use Rattle.kapi_model.specs.Identities.{is_master}
use Rattle.kapi_policy.specs.Laws.{cluster_wide, is_allowed, NamesFirst, rules_by}
use Rattle.kapi_policy.specs.Objects.{PolicyObjects}

-- ---- the first index

none_below : (n : ℕ) → nat_lt 0 (suc n) ≡ true
none_below n = grind (arith, nat_tests)

one_more_is_below : (m n : ℕ) → nat_lt (1 + m) (suc n) ≡ nat_lt m n
one_more_is_below m n = grind (arith, nat_tests)

place_is_below : {X : Type 0} (p : X → Bool) (xs : List X) → nat_lt (position_or_len p xs) (length xs) ≡ list_any p xs
place_is_below p [] = refl
place_is_below p (x ∷ xs) =
    elim (p x) as (λ b. p x ≡ b → nat_lt (position_or_len p (x ∷ xs)) (length (x ∷ xs)) ≡ list_any p (x ∷ xs)) [
      | true ↦ λ is. rw is (none_below (length xs))
      | false ↦ λ is. rw is (one_more_is_below (position_or_len p xs) (length xs) ∙ place_is_below p xs)
    ] refl

is_some_if : (b : Bool) (n : ℕ) → is_some (cond b (Some n) None) ≡ b
is_some_if true n = refl
is_some_if false n = refl

pub is_some_position : {X : Type 0} (p : X → Bool) (xs : List X) → is_some (position p xs) ≡ list_any p xs
is_some_position p xs = is_some_if (nat_lt (position_or_len p xs) (length xs)) _ ∙ place_is_below p xs

-- ---- allowed exactly if a held rule allows

is_some_or : {X : Type 0} (a b : Option X) → is_some (option_or a b) ≡ (is_some a || is_some b)
is_some_or None b = refl
is_some_or (Some x) b = refl

is_some_first : {X Y Z : Type 0} (f : X → Option Y) (r : X → List Z) (q : Z → Bool) → ((x : X) → is_some (f x) ≡ list_any q (r x)) → (xs : List X) → is_some (first_some f xs) ≡ list_any q (flat_map r xs)
is_some_first f r q same [] = refl
is_some_first f r q same (x ∷ xs) =
    is_some_or (f x) (first_some f xs) ∙ ap (λ b. b || is_some (first_some f xs)) (same x)
    ∙ ap (λ b. list_any q (r x) || b) (is_some_first f r q same xs) ∙ sym (list_any-append q (r x) (flat_map r xs))

is_some_at : (b : Binding) (o : Option ℕ) → is_some (granted_at b o) ≡ is_some o
is_some_at b None = refl
is_some_at b (Some n) = refl

grants_where_allowed : (objects : PolicyObjects) (identity : Identity) (point : Point) (b : Binding) → is_some (granted_by objects identity point b) ≡ list_any (λ rule. allows rule point) (rules_by objects identity b)
unfolding granted_by
grants_where_allowed objects identity point b = is_some_at b _ ∙ is_some_position (λ rule. allows rule point) (rules_by objects identity b)

granted_where_allowed : (objects : PolicyObjects) (identity : Identity) (namespace : List ℕ) (point : Point) → is_some (granted objects identity namespace point) ≡ list_any (λ rule. allows rule point) (held objects identity namespace)
unfolding granted held
granted_where_allowed objects identity namespace point =
    is_some_first (granted_by objects identity point) (rules_by objects identity) (λ rule. allows rule point) (grants_where_allowed objects identity point) (bindings_in objects namespace)

is_allowed_by : (m : Bool) (o : Option Granted) → is_allowed (cond m masters (allowed_if o)) ≡ (m || is_some o)
is_allowed_by true o = refl
is_allowed_by false None = refl
is_allowed_by false (Some g) = refl

pub allowed_where_held : (objects : PolicyObjects) (identity : Identity) (namespace : List ℕ) (point : Point) → is_allowed (decided objects identity namespace point) ≡ (is_master identity || list_any (λ rule. allows rule point) (held objects identity namespace))
unfolding decided
allowed_where_held objects identity namespace point =
    is_allowed_by (is_master identity) (granted objects identity namespace point) ∙ ap (λ b. is_master identity || b) (granted_where_allowed objects identity namespace point)

-- ---- what is named

-- the first element with an answer, and that none before it has one
record FirstAt {X Y : Type 0} (f : X → Option Y) (xs : List X) (y : Y) : Type 0 where
  pub before : List X
  pub one : X
  pub after : List X
  pub listed : xs ≡ before ++ one ∷ after
  pub gives : f one ≡ Some y
  pub none : is_some (first_some f before) ≡ false

first_at : {X Y : Type 0} (f : X → Option Y) (xs : List X) (y : Y) → first_some f xs ≡ Some y → FirstAt f xs y
first_at f [] y h = absurd (cc h)
first_at f (x ∷ xs) y h =
    elim (f x) as (λ o. f x ≡ o → option_or o (first_some f xs) ≡ Some y → FirstAt f (x ∷ xs) y) [
      | None ↦ λ is. λ k.
          let rest = first_at f xs y k in
          record { before = x ∷ rest.before; one = rest.one; after = rest.after; listed = ap (λ l. x ∷ l) rest.listed; gives = rest.gives; none = rw is rest.none }
      | Some z ↦ λ is. λ k. record { before = []; one = x; after = xs; listed = refl; gives = is ∙ k; none = refl }
    ] refl h

granted_from : (m : Bool) (o : Option Granted) (g : Granted) → cond m masters (allowed_if o) ≡ allowed g → o ≡ Some g
granted_from true o g h = absurd (cc h)
granted_from false None g h = absurd (cc h)
granted_from false (Some x) g h = cc h

index_of : (b : Binding) (o : Option ℕ) (g : Granted) → granted_at b o ≡ Some g → o ≡ Some g.rule
index_of b None g h = absurd (cc h)
index_of b (Some n) g h =
    let same : record { kind = b.kind; binding = b.name; role = b.role; rule = n } ≡ g = cc h in ap (λ (x : Granted). Some x.rule) same

names_of : (b : Binding) (o : Option ℕ) (g : Granted) → granted_at b o ≡ Some g → g ≡ record { kind = b.kind; binding = b.name; role = b.role; rule = g.rule }
names_of b None g h = absurd (cc h)
names_of b (Some n) g h =
    let same : record { kind = b.kind; binding = b.name; role = b.role; rule = n } ≡ g = cc h in
    sym same ∙ ap (λ (r : ℕ). record { kind = b.kind; binding = b.name; role = b.role; rule = r }) (ap (λ (x : Granted). x.rule) same)

pub first_is_named : (objects : PolicyObjects) (identity : Identity) (namespace : List ℕ) (point : Point) (g : Granted) → decided objects identity namespace point ≡ allowed g → NamesFirst objects identity namespace point g
unfolding decided granted granted_by
first_is_named objects identity namespace point g h =
    let p : PolicyRule → Bool = λ rule. allows rule point in
    let found = first_at (granted_by objects identity point) (bindings_in objects namespace) g (granted_from (is_master identity) _ g h) in
    record {
      before = found.before;
      binding = found.one;
      after = found.after;
      listed = found.listed;
      earlier = sym (is_some_first (granted_by objects identity point) (rules_by objects identity) p (grants_where_allowed objects identity point) found.before) ∙ found.none;
      first = index_of found.one _ g found.gives;
      named = names_of found.one _ g found.gives;
    }

-- ---- what is held cluster-wide

pub cluster_wide_first : (objects : PolicyObjects) (identity : Identity) (namespace : List ℕ) → (more : List PolicyRule) × (held objects identity namespace ≡ held objects identity [] ++ more)
unfolding held bindings_in
cluster_wide_first objects identity namespace =
    let all : List Binding = map cluster_binding objects.cluster_role_bindings in
    let there : List Binding = if length namespace == 0 then [] else bindings_of namespace objects.role_bindings in
    let rules : Binding → List PolicyRule = rules_by objects identity in
    (flat_map rules there, flat_map-append rules all there ∙ ap (λ l. flat_map rules l ++ flat_map rules there) (sym (append-nil all)))

rules_there : (objects : PolicyObjects) (kind : RoleKind) (name : List ℕ) → rules_of_kind (cluster_wide objects) kind name [] ≡ rules_of_kind objects kind name []
rules_there objects role_kind.Role name = refl
rules_there objects role_kind.ClusterRole name = refl

given_there : (objects : PolicyObjects) (identity : Identity) (e : List ℕ × ClusterRoleBinding) → given (cluster_wide objects) identity (cluster_binding e) ≡ given objects identity (cluster_binding e)
unfolding given rules_of
given_there objects identity e = rw (rules_there objects e.1.role_ref.kind e.1.role_ref.name) refl

granted_there : (objects : PolicyObjects) (identity : Identity) (point : Point) (e : List ℕ × ClusterRoleBinding) → granted_by (cluster_wide objects) identity point (cluster_binding e) ≡ granted_by objects identity point (cluster_binding e)
unfolding granted_by
granted_there objects identity point e = rw (given_there objects identity e) refl

flat_map_same : {E X Z : Type 0} (v : E → X) (f g : X → List Z) → ((e : E) → f (v e) ≡ g (v e)) → (es : List E) → flat_map f (map v es ++ []) ≡ flat_map g (map v es ++ [])
flat_map_same v f g same [] = refl
flat_map_same v f g same (e ∷ es) = rw (same e, flat_map_same v f g same es) refl

first_some_same : {E X Y : Type 0} (v : E → X) (f g : X → Option Y) → ((e : E) → f (v e) ≡ g (v e)) → (es : List E) → first_some f (map v es ++ []) ≡ first_some g (map v es ++ [])
first_some_same v f g same [] = refl
first_some_same v f g same (e ∷ es) = rw (same e, first_some_same v f g same es) refl

pub held_there : (objects : PolicyObjects) (identity : Identity) → held (cluster_wide objects) identity [] ≡ held objects identity []
unfolding held bindings_in
held_there objects identity =
    flat_map_same cluster_binding (rules_by (cluster_wide objects) identity) (rules_by objects identity) (λ e. ap (λ o. unwrap_or o []) (given_there objects identity e)) objects.cluster_role_bindings

pub decided_there : (objects : PolicyObjects) (identity : Identity) (point : Point) → decided (cluster_wide objects) identity [] point ≡ decided objects identity [] point
unfolding decided granted bindings_in
decided_there objects identity point =
    rw (first_some_same cluster_binding (granted_by (cluster_wide objects) identity point) (granted_by objects identity point) (granted_there objects identity point) objects.cluster_role_bindings) refl
