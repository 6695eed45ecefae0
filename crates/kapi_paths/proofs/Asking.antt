-- A step is there exactly if a request is allowed.
use Rattle.std.proofs.Common.{◌≡◌, ◌↔◌, inl, inr, ℕ, ◌==◌, Bool, true, false, cond, not, ◌&&◌, ◌||◌, if◌then◌else◌, List, [], ◌∷◌, ◌++◌, length, map, None, refl, sym, ap, subst, ◌∙◌, ⊎_elim}
use Rattle.std.specs.Prelude.{codes}
use Rattle.std.specs.List.{filter, flat_map, list_any}
use Rattle.std.specs.Option.{unwrap_or}
use Rattle.std.specs.Str.{bytes_eq}
use Rattle.std.proofs.lemmas.Bool.{and_from, and_parts, or_cases, or_left, or_right}
use Rattle.std.proofs.lemmas.List.Folds.{list_any-append}
use Rattle.kapi_text.proofs.Booleans.{and_false, or_false}
use Rattle.kapi_model.specs.Identities.{is_master}
use Rattle.kapi_model.specs.Subjects.{subject_matches}
use Rattle.kapi_model.specs.declared.binding.RoleBinding.{RoleBinding}
use Rattle.kapi_model.specs.declared.identity.Identity.{Identity}
use Rattle.kapi_model.specs.declared.kinds.RoleKind.{RoleKind}
use Rattle.kapi_model.specs.declared.kinds.RoleKind.TheVariants as role_kind
use Rattle.kapi_model.specs.declared.policy_rule.PolicyRule.{PolicyRule}
use Rattle.kapi_rules.proofs.Covers.{itself, same}
use Rattle.kapi_rules.proofs.Law.{any_weaker}
use Rattle.kapi_rules.proofs.Parts.{any_flat_map, any_map, any_never, any_same}
use Rattle.kapi_rules.specs.Entries.{names_match, resource_matches, word_matches}
use Rattle.kapi_rules.specs.Rules.{allows}
use Rattle.kapi_policy.proofs.Decisions.{allowed_where_held}
use Rattle.kapi_policy.specs.All.{all_bindings, bindings_in_namespaces, has_namespace}
use Rattle.kapi_policy.specs.Decided.{Binding, bindings_in, bindings_of, cluster_binding, decided, given, held, is_in, namespace_binding, rules_of}
use Rattle.kapi_policy.specs.Laws.{is_allowed}
use Rattle.kapi_policy.specs.Objects.{PolicyObjects}
use Rattle.kapi_policy.specs.declared.change.NamespacedName.{NamespacedName}
use Rattle.kapi_paths.specs.Asked.{IsAsked, MayAsk, gives, has_step, is_everything, is_subject, request, rules_at}
use Rattle.kapi_paths.specs.Graphs.{next_of}
use Rattle.kapi_paths.specs.Rights.{Row}
use Rattle.kapi_paths.specs.Steps.{are_asked, bound, by_bindings, everything, has_right, held_kind, identity_of, next, node}
use Rattle.kapi_paths.specs.declared.node.Node.{Node}
use Rattle.kapi_paths.specs.declared.node.NodeKind.{NodeKind}
use Rattle.kapi_paths.specs.declared.node.NodeKind.TheVariants as kind
use Rattle.kapi_paths.specs.declared.right.Names.{Names}
use Rattle.kapi_paths.specs.declared.right.Names.TheVariants as names
use Rattle.kapi_paths.specs.declared.steps.Known.{Known}

-- ---- lists

any_filter : {X : Type 0} (p t : X → Bool) (xs : List X) → list_any p (filter t xs) ≡ list_any (λ x. t x && p x) xs
any_filter p t [] = refl
any_filter p t (x ∷ xs) = by_test (t x) (any_filter p t xs)
  where
    by_test : (b : Bool) → list_any p (filter t xs) ≡ list_any (λ x. t x && p x) xs → list_any p (cond b (x ∷ filter t xs) (filter t xs)) ≡ ((b && p x) || list_any (λ x. t x && p x) xs)
    by_test true more = ap (λ b. p x || b) more
    by_test false more = more

module _ {N X : Type 0} (IsChoice : N → Type 0) (f : X → Bool) (g : N → X → Bool) (choose : (x : X) → f x ≡ true → (n : N) × IsChoice n × (g n x ≡ true)) where
  -- if each that passes does so by a choice, some do by one
  chosen : (xs : List X) → list_any f xs ≡ true → (n : N) × IsChoice n × (list_any (g n) xs ≡ true)
  chosen [] h = absurd (cc h)
  chosen (x ∷ xs) h = elim (or_cases (f x) (list_any f xs) h) as (λ _. (n : N) × IsChoice n × ((g n x || list_any (g n) xs) ≡ true)) [
    | inl k ↦ let c = choose x k in (c.0, c.1, or_left (g c.0 x) (list_any (g c.0) xs) c.2)
    | inr k ↦ let c = chosen xs k in (c.0, c.1, or_right (g c.0 x) (list_any (g c.0) xs) c.2)
  ]

-- ---- rights

abbrev client : List ℕ
client = codes "kubernetes.io/kube-apiserver-client"

abbrev signers : List ℕ
signers = codes "kubernetes.io/*"

first_of : (listed : List (List ℕ)) → (name : List ℕ) × (names_match listed name ≡ true)
first_of [] = ([], refl)
first_of (name ∷ listed) = (name, or_right (length (name ∷ listed) == 0) _ (or_left (bytes_eq name name) _ (itself name)))

asked_name : (n : Names) (listed : List (List ℕ)) → are_asked n listed ≡ true → (name : List ℕ) × IsAsked n name × (names_match listed name ≡ true)
asked_name names.Unnamed listed h = ([], refl, h)
asked_name names.Any listed h = let name = first_of listed in (name.0, tt, name.1)
asked_name names.Signer listed h = ⊎_elim (λ k. (client, inl refl, k)) (λ k. (signers, inr refl, k)) (or_cases (names_match listed client) (names_match listed signers) h)

are_named : (n : Names) (listed : List (List ℕ)) (name : List ℕ) → IsAsked n name → names_match listed name ≡ true → are_asked n listed ≡ true
are_named names.Unnamed listed name is h = subst (λ (k : List ℕ). names_match listed k ≡ true) is h
are_named names.Any listed name is h = refl
are_named names.Signer listed name (inl is) h = or_left (names_match listed client) (names_match listed signers) (subst (λ (k : List ℕ). names_match listed k ≡ true) is h)
are_named names.Signer listed name (inr is) h = or_right (names_match listed client) (names_match listed signers) (subst (λ (k : List ℕ). names_match listed k ≡ true) is h)

-- the last of four, and another in its place
last : (a b c x y : Bool) → (a && (b && (c && x))) ≡ true → (x ≡ true) × (y ≡ true → (a && (b && (c && y))) ≡ true)
last true true true x y h = (h, λ k. k)
last true true false x y h = absurd (cc h)
last true false c x y h = absurd (cc h)
last false b c x y h = absurd (cc h)

module _ (row : Row) (rule : PolicyRule) where
  abbrev verb : Bool
  verb = list_any (λ e. word_matches e row.verb) rule.verbs

  abbrev api_group : Bool
  api_group = list_any (λ e. word_matches e row.group) rule.api_groups

  abbrev resource : Bool
  resource = list_any (λ e. resource_matches e row.resource row.subresource) rule.resources

  -- a rule that has the right allows a request of it
  right_allows : has_right row rule ≡ true → (name : List ℕ) × IsAsked row.names name × (allows rule (request row name) ≡ true)
  right_allows h =
      let asked = are_asked row.names rule.resource_names in
      let name = asked_name row.names rule.resource_names (last verb api_group resource asked asked h).0 in
      (name.0, name.1, (last verb api_group resource asked (names_match rule.resource_names name.0) h).1 name.2)

  allows_right : (name : List ℕ) → IsAsked row.names name → allows rule (request row name) ≡ true → has_right row rule ≡ true
  allows_right name is h =
      let both = last verb api_group resource (names_match rule.resource_names name) (are_asked row.names rule.resource_names) h in
      both.1 (are_named row.names rule.resource_names name is both.0)

-- ---- bindings

-- c: the request is cluster-wide; z: the binding is; e: it is in the namespace of the request
placed : (c z e q : Bool) → (e ≡ true → z ≡ c) → cond c false (e && q) ≡ (not z && ((z || e) && q))
placed true true e q h = refl
placed true false true q h = absurd (let never = h refl in cc)
placed true false false q h = refl
placed false true true q h = absurd (let never = h refl in cc)
placed false true false q h = refl
placed false false e q h = refl

module _ (objects : PolicyObjects) (identity : Identity) (place : List ℕ) (test : PolicyRule → Bool) where
  abbrev passes : Binding → Bool
  passes b = list_any test (unwrap_or (given objects identity b) [])

  abbrev counts : Binding → Bool
  counts b = (length b.namespace == 0 || bytes_eq b.namespace place) && passes b

  abbrev here : NamespacedName × RoleBinding → Bool
  here entry = cond (length place == 0) false (is_in place entry.0 && passes (namespace_binding entry))

  abbrev counted : NamespacedName × RoleBinding → Bool
  counted entry = has_namespace entry && counts (namespace_binding entry)

  in_place : (entry : NamespacedName × RoleBinding) → here entry ≡ counted entry
  in_place entry =
      placed (length place == 0) (length entry.0.namespace == 0) (bytes_eq entry.0.namespace place) (passes (namespace_binding entry))
      (λ e. ap (λ (n : List ℕ). length n == 0) (same entry.0.namespace place e))

  in_namespaces : (c : Bool) (entries : List (NamespacedName × RoleBinding)) → list_any passes (if c then [] else bindings_of place entries) ≡ list_any (λ entry. cond c false (is_in place entry.0 && passes (namespace_binding entry))) entries
  in_namespaces true entries = sym (any_never entries)
  in_namespaces false entries =
      any_map passes namespace_binding (filter (λ entry. is_in place entry.0) entries) ∙ any_filter (λ entry. passes (namespace_binding entry)) (λ entry. is_in place entry.0) entries

  held_counts : list_any test (held objects identity place) ≡ list_any counts (all_bindings objects)
  unfolding held bindings_in all_bindings
  held_counts =
      let wide = map cluster_binding objects.cluster_role_bindings in
      let entries = objects.role_bindings in
      any_flat_map test (λ b. unwrap_or (given objects identity b) []) (wide ++ (if length place == 0 then [] else bindings_of place entries))
      ∙ list_any-append passes wide (if length place == 0 then [] else bindings_of place entries)
      ∙ ap (λ b. b || list_any passes (if length place == 0 then [] else bindings_of place entries))
      (any_map passes cluster_binding objects.cluster_role_bindings ∙ sym (any_map counts cluster_binding objects.cluster_role_bindings))
      ∙ ap (λ b. list_any counts wide || b)
      (in_namespaces (length place == 0) entries
      ∙ any_same here counted entries in_place
      ∙ sym (any_map counts namespace_binding (filter has_namespace entries) ∙ any_filter (λ entry. counts (namespace_binding entry)) has_namespace entries))
      ∙ sym (list_any-append counts wide (bindings_in_namespaces entries))

  of_kind : (k : RoleKind) (there name : List ℕ) → gives objects place test (node (held_kind k) there name)
      ≡ ((length there == 0 || bytes_eq there place) && list_any test (unwrap_or (rules_of objects (record { kind = k; name = name }) there) []))
  of_kind role_kind.Role there name = refl
  of_kind role_kind.ClusterRole there name = refl

  bound_gives : (b : Binding) → list_any (gives objects place test) (bound identity b) ≡ counts b
  unfolding given
  bound_gives b = by_match (list_any (λ s. subject_matches s b.namespace identity) b.subjects)
    where
      by_match : (m : Bool) → list_any (gives objects place test) (if m then node (held_kind b.role.kind) b.namespace b.role.name ∷ [] else [])
          ≡ ((length b.namespace == 0 || bytes_eq b.namespace place) && list_any test (unwrap_or (if m then rules_of objects b.role b.namespace else None) []))
      by_match true = or_false _ ∙ of_kind b.role.kind b.namespace b.role.name
      by_match false = sym (and_false _)

  -- the steps by bindings give what is held
  bindings_give : list_any (gives objects place test) (by_bindings (all_bindings objects) identity) ≡ (is_master identity || list_any test (held objects identity place))
  unfolding by_bindings
  bindings_give =
      list_any-append (gives objects place test) (if is_master identity then everything ∷ [] else []) (flat_map (bound identity) (all_bindings objects))
      ∙ ap (λ b. b || list_any (gives objects place test) (flat_map (bound identity) (all_bindings objects))) (masters (is_master identity))
      ∙ ap (λ b. is_master identity || b)
      (any_flat_map (gives objects place test) (bound identity) (all_bindings objects) ∙ any_same (λ b. list_any (gives objects place test) (bound identity b)) counts (all_bindings objects) bound_gives ∙ sym held_counts)
    where
      masters : (m : Bool) → list_any (gives objects place test) (if m then everything ∷ [] else []) ≡ m
      masters true = refl
      masters false = refl

-- ---- the law

module _ (objects : PolicyObjects) (known : Known) (rows : List Row) (place : List ℕ) where
  steps_give : (test : PolicyRule → Bool) (k : NodeKind) (there name : List ℕ) → is_subject k ≡ true
      → list_any (gives objects place test) (next objects (all_bindings objects) known rows k there name)
      ≡ (is_master (identity_of k there name) || list_any test (held objects (identity_of k there name) place))
  unfolding next
  steps_give test kind.User there name h = bindings_give objects (identity_of kind.User there name) place test
  steps_give test kind.Group there name h = bindings_give objects (identity_of kind.Group there name) place test
  steps_give test kind.Account there name h = bindings_give objects (identity_of kind.Account there name) place test
  steps_give test kind.Everything there name h = absurd (cc h)
  steps_give test kind.EveryUser there name h = absurd (cc h)
  steps_give test kind.All there name h = absurd (cc h)
  steps_give test kind.Accounts there name h = absurd (cc h)
  steps_give test kind.Limits there name h = absurd (cc h)
  steps_give test kind.Role there name h = absurd (cc h)
  steps_give test kind.ClusterRole there name h = absurd (cc h)

  abbrev there : Node → Bool
  there n = length n.place == 0 || bytes_eq n.place place

  abbrev some : (PolicyRule → Bool) → Node → Bool
  some test n = list_any test (rules_at objects n.kind n.place n.name)

  gives_more : (f g : PolicyRule → Bool) → ((rule : PolicyRule) → f rule ≡ true → g rule ≡ true) → (n : Node) → gives objects place f n ≡ true → gives objects place g n ≡ true
  gives_more f g more n h = ⊎_elim
      (λ k. or_left (is_everything n.kind) (there n && some g n) k)
      (λ k.
      let both = and_parts (there n) (some f n) k in
      or_right (is_everything n.kind) (there n && some g n) (and_from (there n) (some g n) both.0 (any_weaker f g (rules_at objects n.kind n.place n.name) more both.1)))
      (or_cases (is_everything n.kind) (there n && some f n) h)

  module _ (row : Row) where
    abbrev asking : List ℕ → PolicyRule → Bool
    asking name rule = allows rule (request row name)

    by_request : (n : Node) → gives objects place (has_right row) n ≡ true → (name : List ℕ) × IsAsked row.names name × (gives objects place (asking name) n ≡ true)
    by_request n h = ⊎_elim
        (λ k. let name = some_asked row.names in (name.0, name.1, or_left (is_everything n.kind) (there n && some (asking name.0) n) k))
        (λ k.
        let both = and_parts (there n) (some (has_right row) n) k in
        let name = chosen (IsAsked row.names) (has_right row) asking (right_allows row) (rules_at objects n.kind n.place n.name) both.1 in
        (name.0, name.1, or_right (is_everything n.kind) (there n && some (asking name.0) n) (and_from (there n) (some (asking name.0) n) both.0 name.2)))
        (or_cases (is_everything n.kind) (there n && some (has_right row) n) h)
      where
        some_asked : (n : Names) → (name : List ℕ) × IsAsked n name
        some_asked names.Unnamed = ([], refl)
        some_asked names.Any = ([], tt)
        some_asked names.Signer = (client, inl refl)

    pub step_where_asked : (x : Node) → is_subject x.kind ≡ true → MayAsk objects (identity_of x.kind x.place x.name) place row ↔ (has_step objects known rows x place row ≡ true)
    step_where_asked x is =
        let who = identity_of x.kind x.place x.name in
        let same_answer : (name : List ℕ) → is_allowed (decided objects who place (request row name)) ≡ list_any (gives objects place (asking name)) (next_of objects (all_bindings objects) known rows x) =
        λ name. allowed_where_held objects who place (request row name) ∙ sym (steps_give (asking name) x.kind x.place x.name is) in (
          λ m. any_weaker (gives objects place (asking m.name)) (gives objects place (has_right row)) (next_of objects (all_bindings objects) known rows x)
              (gives_more (asking m.name) (has_right row) (λ rule. allows_right row rule m.name m.asked)) (sym (same_answer m.name) ∙ m.allowed),
          λ h.
              let name = chosen (IsAsked row.names) (gives objects place (has_right row)) (λ n. gives objects place (asking n)) by_request (next_of objects (all_bindings objects) known rows x) h in
              record { name = name.0; asked = name.1; allowed = same_answer name.0 ∙ name.2 },
        )
