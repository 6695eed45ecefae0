-- Who may do nothing risky is who is not listed.
use Rattle.std.proofs.Common.{◌≡◌, ◌⊎◌, inl, inr, ℕ, Bool, true, false, ◌&&◌, ◌||◌, ◌==◌, if◌then◌else◌, List, [], ◌∷◌, ◌++◌, length, refl, sym, ap, subst, codes, ◌∙◌}
use Rattle.std.proofs.Math.Dec.{eqb-suc-zero}
use Rattle.std.proofs.lemmas.Bool.{and_parts, or_cases, or_left, or_right, or_parts, eqb-true, false_from_ne_true, and_from}
use Rattle.std.specs.List.{list_any}
use Rattle.std.specs.Str.{bytes_eq}
use Rattle.kapi_model.specs.Kinds.{rbac_group}
use Rattle.kapi_model.specs.declared.kinds.RoleKind.{RoleKind}
use Rattle.kapi_model.specs.declared.kinds.RoleKind.TheVariants as role_kind
use Rattle.kapi_model.specs.declared.policy_rule.PolicyRule.{PolicyRule}
use Rattle.kapi_model.specs.declared.role_ref.RoleRef.{RoleRef}
use Rattle.kapi_model.specs.Identities.{is_master}
use Rattle.kapi_model.specs.declared.identity.Identity.{Identity}
use Rattle.kapi_rules.proofs.Covers.{itself, same}
use Rattle.kapi_rules.proofs.Law.{any_weaker}
use Rattle.kapi_rules.specs.Entries.{names_match, resource_matches, star, word_matches}
use Rattle.kapi_rules.specs.Rules.{allows}
use Rattle.kapi_rules.specs.declared.point.Point.{Point}
use Rattle.kapi_rules.specs.declared.point.Point.TheVariants as point
use Rattle.kapi_policy.specs.Decided.{held}
use Rattle.kapi_policy.specs.Objects.{PolicyObjects}
use Rattle.kapi_access.proofs.Anywhere.{held_there}
use Rattle.kapi_access.proofs.Held.{may_by, rule_of_may}
use Rattle.kapi_escalation_laws.proofs.Elements.{passing}
use Rattle.kapi_aggregation.proofs.Lists.{some_at}
use Rattle.kapi_access.specs.Grantees.{matches}
use Rattle.kapi_access.specs.Risks.{authentication_group, goes_on_after, has_word, impersonating_detail, is_about_details, is_about_users, is_risky, IsImpersonation, IsWithoutRisk, lets_impersonate, lets_on_roles, matches_extra, risks}
use Rattle.kapi_escalation_laws.specs.Access.{IsUnprivileged, may, verb_of}
use Rattle.kapi_escalation.specs.Exempt.{binding, escalating, role_point}
use Rattle.kapi_escalation.specs.Impersonation.{impersonating}
use Rattle.kapi_access.specs.Who.{Way, counts, is_named, is_named_in}

-- what is risky
pub data Danger : Point → Type 0 where
  escalates : (kind : RoleKind) (name : List ℕ) → Danger (escalating kind name)
  binds : (role : RoleRef) → Danger (binding role)
  impersonates : (p : Point) → IsImpersonation p → Danger p

-- ---- a risky rule allows something dangerous

-- what goes on after a text has it in front, and more
longer : (start text : List ℕ) → goes_on_after start text ≡ true → (b : ℕ) × ((more : List ℕ) × (text ≡ start ++ b ∷ more))
longer [] [] h = absurd (cc h)
longer [] (b ∷ text) h = (b, (text, refl))
longer (a ∷ start) [] h = absurd (cc h)
longer (a ∷ start) (b ∷ text) h =
    let parts = and_parts (a == b) (goes_on_after start text) h in
    let rest = longer start text parts.1 in
    (rest.0, (rest.1.0, ap (λ (c : ℕ). c ∷ text) (sym (eqb-true a b parts.0)) ∙ ap (λ (t : List ℕ). a ∷ t) rest.1.1))

-- an entry that matches an extra field
abbrev own_field : List ℕ → Bool
own_field entry = goes_on_after (codes "userextras/") entry

abbrev any_field : List ℕ → Bool
any_field entry = goes_on_after (codes "*/") entry

extra_field : (entry : List ℕ) → matches_extra entry ≡ true → (field : List ℕ) × (resource_matches entry (codes "userextras") field ≡ true)
extra_field entry h = by_case (or_cases (word_matches entry (codes "userextras")) (own_field entry || any_field entry) h)
  where
    sub : (b : ℕ) (more : List ℕ) → (word_matches entry (codes "userextras/" ++ b ∷ more) || bytes_eq entry (codes "*/" ++ b ∷ more)) ≡ true
        → resource_matches entry (codes "userextras") (b ∷ more) ≡ true
    sub b more k = rw (eqb-suc-zero (length more)) k

    by_start : (goes_on_after (codes "userextras/") entry ≡ true) ⊎ (goes_on_after (codes "*/") entry ≡ true) → (field : List ℕ) × (resource_matches entry (codes "userextras") field ≡ true)
    by_start (inl own) =
        let rest = longer (codes "userextras/") entry own in
        let whole : List ℕ = codes "userextras/" ++ rest.0 ∷ rest.1.0 in (
          rest.0 ∷ rest.1.0,
          sub rest.0 rest.1.0 (or_left (word_matches entry whole) (bytes_eq entry (codes "*/" ++ rest.0 ∷ rest.1.0)) (or_right (bytes_eq entry star) (bytes_eq entry whole) (subst (λ (e : List ℕ). bytes_eq e whole ≡ true) (sym rest.1.1) (itself whole)))),
        )
    by_start (inr any) =
        let rest = longer (codes "*/") entry any in
        let whole : List ℕ = codes "*/" ++ rest.0 ∷ rest.1.0 in (
          rest.0 ∷ rest.1.0,
          sub rest.0 rest.1.0 (or_right (word_matches entry (codes "userextras/" ++ rest.0 ∷ rest.1.0)) (bytes_eq entry whole) (subst (λ (e : List ℕ). bytes_eq e whole ≡ true) (sym rest.1.1) (itself whole))),
        )

    by_case : (word_matches entry (codes "userextras") ≡ true) ⊎ ((goes_on_after (codes "userextras/") entry || goes_on_after (codes "*/") entry) ≡ true)
        → (field : List ℕ) × (resource_matches entry (codes "userextras") field ≡ true)
    by_case (inl word) = ([], word)
    by_case (inr starts) = by_start (or_cases (goes_on_after (codes "userextras/") entry) (goes_on_after (codes "*/") entry) starts)

field_extra : (field entry : List ℕ) → resource_matches entry (codes "userextras") field ≡ true → matches_extra entry ≡ true
field_extra [] entry h = or_left (word_matches entry (codes "userextras")) (own_field entry || any_field entry) h
field_extra (b ∷ more) entry h =
    by_case (or_cases (word_matches entry own) (bytes_eq entry any) (subst (λ (t : Bool). (if t then word_matches entry (codes "userextras") else word_matches entry own || bytes_eq entry any) ≡ true) (eqb-suc-zero (length more)) h))
  where
    own : List ℕ
    own = codes "userextras/" ++ b ∷ more

    any : List ℕ
    any = codes "*/" ++ b ∷ more

    by_word : (bytes_eq entry star ≡ true) ⊎ (bytes_eq entry own ≡ true) → matches_extra entry ≡ true
    by_word (inl all) =
        or_left (word_matches entry (codes "userextras")) (own_field entry || any_field entry) (or_left (bytes_eq entry star) (bytes_eq entry (codes "userextras")) all)
    by_word (inr is) =
        or_right (word_matches entry (codes "userextras")) (own_field entry || any_field entry) (or_left (own_field entry) (any_field entry) (subst (λ (e : List ℕ). goes_on_after (codes "userextras/") e ≡ true) (sym (same entry own is)) refl))

    by_case : (word_matches entry own ≡ true) ⊎ (bytes_eq entry any ≡ true) → matches_extra entry ≡ true
    by_case (inl word) = by_word (or_cases (bytes_eq entry star) (bytes_eq entry own) word)
    by_case (inr is) =
        or_right (word_matches entry (codes "userextras")) (own_field entry || any_field entry) (or_right (own_field entry) (any_field entry) (subst (λ (e : List ℕ). goes_on_after (codes "*/") e ≡ true) (sym (same entry any is)) refl))

some_name : (listed : List (List ℕ)) → (name : List ℕ) × (names_match listed name ≡ true)
some_name [] = ([], refl)
some_name (n ∷ listed) = (n, or_right _ _ (or_left (bytes_eq n n) _ (itself n)))

DangerBy : PolicyRule → Type 0
DangerBy rule = (p : Point) × (Danger p × (allows rule p ≡ true))

-- a rule with the verb `impersonate` allows it on each resource and group that it lists
on_resource : (rule : PolicyRule) (group resource : List ℕ) → has_word rule.verbs (codes "impersonate") ≡ true → has_word rule.api_groups group ≡ true → has_word rule.resources resource ≡ true
    → allows rule (point.Resource (record { verb = codes "impersonate"; group = group; resource = resource; subresource = []; name = (some_name rule.resource_names).0 })) ≡ true
on_resource rule group resource verb there is = and_from _ _ verb (and_from _ _ there (and_from _ _ is (some_name rule.resource_names).1))

acting : (rule : PolicyRule) → lets_impersonate rule ≡ true → DangerBy rule
unfolding DangerBy
acting rule h = by_group (or_cases (is_about_users rule) (is_about_details rule) parts.1)
  where
    parts : (has_word rule.verbs (codes "impersonate") ≡ true) × ((is_about_users rule || is_about_details rule) ≡ true)
    parts = and_parts (has_word rule.verbs (codes "impersonate")) (is_about_users rule || is_about_details rule) h

    name : (name : List ℕ) × (names_match rule.resource_names name ≡ true)
    name = some_name rule.resource_names

    of_core : has_word rule.api_groups [] ≡ true → (has_word rule.resources (codes "users") ≡ true) ⊎ ((has_word rule.resources (codes "groups") || has_word rule.resources (codes "serviceaccounts")) ≡ true)
        → (p : Point) × (Danger p × (allows rule p ≡ true))
    of_core group (inl users) = (impersonating (codes "users") name.0, (Danger.impersonates _ (IsImpersonation.of_user name.0), on_resource rule [] (codes "users") parts.0 group users))
    of_core group (inr more) = by_resource (or_cases (has_word rule.resources (codes "groups")) (has_word rule.resources (codes "serviceaccounts")) more)
      where
        by_resource : (has_word rule.resources (codes "groups") ≡ true) ⊎ (has_word rule.resources (codes "serviceaccounts") ≡ true) → (p : Point) × (Danger p × (allows rule p ≡ true))
        by_resource (inl groups) = (impersonating (codes "groups") name.0, (Danger.impersonates _ (IsImpersonation.of_group name.0), on_resource rule [] (codes "groups") parts.0 group groups))
        by_resource (inr accounts) =
            (impersonating (codes "serviceaccounts") name.0, (Danger.impersonates _ (IsImpersonation.of_account name.0), on_resource rule [] (codes "serviceaccounts") parts.0 group accounts))

    of_details : has_word rule.api_groups authentication_group ≡ true → (has_word rule.resources (codes "uids") ≡ true) ⊎ (list_any matches_extra rule.resources ≡ true) → (p : Point) × (Danger p × (allows rule p ≡ true))
    of_details group (inl uids) =
        (impersonating_detail (codes "uids") [] name.0, (Danger.impersonates _ (IsImpersonation.of_uid name.0), on_resource rule authentication_group (codes "uids") parts.0 group uids))
    of_details group (inr extras) =
        let entry = passing matches_extra rule.resources extras in
        let field = extra_field entry.0 entry.1.1 in (
          impersonating_detail (codes "userextras") field.0 name.0,
          (
            Danger.impersonates _ (IsImpersonation.of_extra field.0 name.0),
            and_from _ _ parts.0 (and_from _ _ group (and_from _ _ (some_at (λ e. resource_matches e (codes "userextras") field.0) rule.resources entry.0 entry.1.0 field.1) name.1)),
          ),
        )

    by_group : (is_about_users rule ≡ true) ⊎ (is_about_details rule ≡ true) → (p : Point) × (Danger p × (allows rule p ≡ true))
    by_group (inl users) =
        let others : Bool = has_word rule.resources (codes "groups") || has_word rule.resources (codes "serviceaccounts") in
        let two = and_parts (has_word rule.api_groups []) (has_word rule.resources (codes "users") || others) users in of_core two.0 (or_cases (has_word rule.resources (codes "users")) others two.1)
    by_group (inr details) =
        let two = and_parts (has_word rule.api_groups authentication_group) (has_word rule.resources (codes "uids") || list_any matches_extra rule.resources) details in
        of_details two.0 (or_cases (has_word rule.resources (codes "uids")) (list_any matches_extra rule.resources) two.1)

on_roles : (verb : List ℕ) (rule : PolicyRule) → lets_on_roles verb rule ≡ true → (kind : RoleKind) × ((name : List ℕ) × (allows rule (role_point verb kind name) ≡ true))
on_roles verb rule h = by_kind (or_cases (has_word rule.resources (codes "roles")) (has_word rule.resources (codes "clusterroles")) more.1)
  where
    parts : (has_word rule.verbs verb ≡ true) × ((has_word rule.api_groups rbac_group && (has_word rule.resources (codes "roles") || has_word rule.resources (codes "clusterroles"))) ≡ true)
    parts = and_parts _ _ h

    more : (has_word rule.api_groups rbac_group ≡ true) × ((has_word rule.resources (codes "roles") || has_word rule.resources (codes "clusterroles")) ≡ true)
    more = and_parts _ _ parts.1

    name : (name : List ℕ) × (names_match rule.resource_names name ≡ true)
    name = some_name rule.resource_names

    by_kind : (has_word rule.resources (codes "roles") ≡ true) ⊎ (has_word rule.resources (codes "clusterroles") ≡ true) → (kind : RoleKind) × ((name : List ℕ) × (allows rule (role_point verb kind name) ≡ true))
    by_kind (inl roles) = (role_kind.Role, (name.0, and_from _ _ parts.0 (and_from _ _ more.0 (and_from _ _ roles name.1))))
    by_kind (inr cluster) = (role_kind.ClusterRole, (name.0, and_from _ _ parts.0 (and_from _ _ more.0 (and_from _ _ cluster name.1))))

risky_allows : (rule : PolicyRule) → is_risky rule ≡ true → DangerBy rule
unfolding is_risky DangerBy
risky_allows rule h = by_first (or_cases (lets_impersonate rule) (lets_on_roles (codes "escalate") rule || lets_on_roles (codes "bind") rule) h)
  where
    by_verb : (lets_on_roles (codes "escalate") rule ≡ true) ⊎ (lets_on_roles (codes "bind") rule ≡ true) → (p : Point) × (Danger p × (allows rule p ≡ true))
    by_verb (inl escalate) = let at = on_roles (codes "escalate") rule escalate in (escalating at.0 at.1.0, (Danger.escalates at.0 at.1.0, at.1.1))
    by_verb (inr bind) =
        let at = on_roles (codes "bind") rule bind in
        let role : RoleRef = record { kind = at.0; name = at.1.0 } in (binding role, (Danger.binds role, at.1.1))

    by_first : (lets_impersonate rule ≡ true) ⊎ ((lets_on_roles (codes "escalate") rule || lets_on_roles (codes "bind") rule) ≡ true) → (p : Point) × (Danger p × (allows rule p ≡ true))
    by_first (inl impersonate) = acting rule impersonate
    by_first (inr others) = by_verb (or_cases (lets_on_roles (codes "escalate") rule) (lets_on_roles (codes "bind") rule) others)

-- ---- a rule that allows something dangerous is risky

lets_role : (verb : List ℕ) (kind : RoleKind) (name : List ℕ) (rule : PolicyRule) → allows rule (role_point verb kind name) ≡ true → lets_on_roles verb rule ≡ true
lets_role verb role_kind.Role name rule h =
    let one = and_parts _ _ h in
    let two = and_parts _ _ one.1 in
    let three = and_parts _ _ two.1 in
    and_from _ _ one.0 (and_from _ _ two.0 (or_left (has_word rule.resources (codes "roles")) (has_word rule.resources (codes "clusterroles")) three.0))
lets_role verb role_kind.ClusterRole name rule h =
    let one = and_parts _ _ h in
    let two = and_parts _ _ one.1 in
    let three = and_parts _ _ two.1 in
    and_from _ _ one.0 (and_from _ _ two.0 (or_right (has_word rule.resources (codes "roles")) (has_word rule.resources (codes "clusterroles")) three.0))

module _ (rule : PolicyRule) where
  abbrev has_users : Bool
  has_users = has_word rule.resources (codes "users")

  abbrev has_groups : Bool
  has_groups = has_word rule.resources (codes "groups")

  abbrev has_accounts : Bool
  has_accounts = has_word rule.resources (codes "serviceaccounts")

  abbrev has_uids : Bool
  has_uids = has_word rule.resources (codes "uids")

  abbrev has_extras : Bool
  has_extras = list_any matches_extra rule.resources

  about_users : (resource name : List ℕ) → (has_word rule.resources resource ≡ true → (has_users || (has_groups || has_accounts)) ≡ true) → allows rule (impersonating resource name) ≡ true → lets_impersonate rule ≡ true
  about_users resource name is h =
      let one = and_parts _ _ h in
      let two = and_parts _ _ one.1 in
      let three = and_parts _ _ two.1 in
      and_from (has_word rule.verbs (codes "impersonate")) (is_about_users rule || is_about_details rule) one.0
      (or_left (is_about_users rule) (is_about_details rule) (and_from (has_word rule.api_groups []) (has_users || (has_groups || has_accounts)) two.0 (is three.0)))

  about_details : (resource field value : List ℕ) → (list_any (λ e. resource_matches e resource field) rule.resources ≡ true → (has_uids || has_extras) ≡ true)
      → allows rule (impersonating_detail resource field value) ≡ true → lets_impersonate rule ≡ true
  about_details resource field value is h =
      let one = and_parts _ _ h in
      let two = and_parts _ _ one.1 in
      let three = and_parts _ _ two.1 in
      and_from (has_word rule.verbs (codes "impersonate")) (is_about_users rule || is_about_details rule) one.0
      (or_right (is_about_users rule) (is_about_details rule) (and_from (has_word rule.api_groups authentication_group) (has_uids || has_extras) two.0 (is three.0)))

  lets_act : (p : Point) → IsImpersonation p → allows rule p ≡ true → lets_impersonate rule ≡ true
  lets_act p (IsImpersonation.of_user name) h = about_users (codes "users") name (λ is. or_left has_users (has_groups || has_accounts) is) h
  lets_act p (IsImpersonation.of_group name) h = about_users (codes "groups") name (λ is. or_right has_users (has_groups || has_accounts) (or_left has_groups has_accounts is)) h
  lets_act p (IsImpersonation.of_account name) h = about_users (codes "serviceaccounts") name (λ is. or_right has_users (has_groups || has_accounts) (or_right has_groups has_accounts is)) h
  lets_act p (IsImpersonation.of_uid name) h = about_details (codes "uids") [] name (λ is. or_left has_uids has_extras is) h
  lets_act p (IsImpersonation.of_extra field value) h =
      about_details (codes "userextras") field value
      (λ is. or_right has_uids has_extras (any_weaker (λ e. resource_matches e (codes "userextras") field) matches_extra rule.resources (field_extra field) is)) h

allowing_is_risky : (p : Point) (rule : PolicyRule) → Danger p → allows rule p ≡ true → is_risky rule ≡ true
unfolding is_risky
allowing_is_risky p rule (Danger.escalates kind name) h =
    or_right (lets_impersonate rule) _ (or_left (lets_on_roles (codes "escalate") rule) (lets_on_roles (codes "bind") rule) (lets_role (codes "escalate") kind name rule h))
allowing_is_risky p rule (Danger.binds role) h =
    or_right (lets_impersonate rule) _ (or_right (lets_on_roles (codes "escalate") rule) (lets_on_roles (codes "bind") rule) (lets_role (codes "bind") role.kind role.name rule h))
allowing_is_risky p rule (Danger.impersonates q asked) h = or_left (lets_impersonate rule) _ (lets_act rule p asked h)

-- ---- who is listed

module _ (objects : PolicyObjects) (identity : Identity) where
  module _ (namespace : List ℕ) where
    listed_there : is_named_in namespace (risks objects) identity ≡ list_any is_risky (held objects identity namespace)
    unfolding risks
    listed_there = sym (held_there identity namespace objects is_risky)

    never : IsWithoutRisk objects identity namespace → (p : Point) → Danger p → may objects identity namespace p ≡ false
    never riskless p (Danger.escalates kind name) = riskless.no_escalate kind name
    never riskless p (Danger.binds role) = riskless.no_bind role
    never riskless p (Danger.impersonates q asked) = riskless.no_impersonate p asked

    -- who is named may do something dangerous
    named_may : is_named_in namespace (risks objects) identity ≡ true → (p : Point) × (Danger p × (may objects identity namespace p ≡ true))
    unfolding DangerBy
    named_may named =
        let rule = passing is_risky (held objects identity namespace) (sym listed_there ∙ named) in
        let danger = risky_allows rule.0 rule.1.1 in
        (danger.0, (danger.1.0, may_by objects identity namespace danger.0 rule.0 rule.1.0 danger.1.1))

    -- who may do something dangerous and is no master is named
    may_named : (p : Point) → is_master identity ≡ false → Danger p → may objects identity namespace p ≡ true → is_named_in namespace (risks objects) identity ≡ true
    may_named p plain danger allowed =
        let rule = rule_of_may objects identity namespace p allowed plain in
        listed_there ∙ some_at is_risky (held objects identity namespace) rule.0 rule.1.0 (allowing_is_risky p rule.0 danger rule.1.1)

    pub riskless_is_unlisted : IsWithoutRisk objects identity namespace → (is_master identity || is_named_in namespace (risks objects) identity) ≡ false
    riskless_is_unlisted riskless =
        rw riskless.no_master (false_from_ne_true _ (λ named.
        let danger = named_may named in
        absurd (let not_so = never riskless danger.0 danger.1.0 in let so = danger.1.1 in cc)))

    pub unlisted_is_riskless : (is_master identity || is_named_in namespace (risks objects) identity) ≡ false → IsWithoutRisk objects identity namespace
    unlisted_is_riskless unlisted =
        let parts = or_parts (is_master identity) (is_named_in namespace (risks objects) identity) unlisted in
        let none : (p : Point) → Danger p → may objects identity namespace p ≡ false =
        (λ p danger. false_from_ne_true _ (λ allowed. absurd (let named = may_named p parts.0 danger allowed in let not_so = parts.1 in cc))) in
        record {
          no_master = parts.0;
          no_escalate = λ kind name. none (escalating kind name) (Danger.escalates kind name);
          no_bind = λ role. none (binding role) (Danger.binds role);
          no_impersonate = λ p asked. none p (Danger.impersonates p asked);
        }

  verb_asked : (p : Point) → IsImpersonation p → verb_of p ≡ codes "impersonate"
  verb_asked p (IsImpersonation.of_user name) = refl
  verb_asked p (IsImpersonation.of_group name) = refl
  verb_asked p (IsImpersonation.of_account name) = refl
  verb_asked p (IsImpersonation.of_uid name) = refl
  verb_asked p (IsImpersonation.of_extra field value) = refl

  -- who is unprivileged may impersonate nothing at all; a line that names somebody counts where its binding does
  pub unprivileged_is_unlisted : IsUnprivileged objects identity → (is_master identity || is_named (risks objects) identity) ≡ false
  unprivileged_is_unlisted unprivileged =
      rw unprivileged.no_master (false_from_ne_true _ (λ named.
      let line = passing (λ (w : Way). matches w.to identity) (risks objects) named in
      let there = line.0.binding.namespace in
      let named_there = some_at (λ (w : Way). matches w.to identity && counts there w.binding) (risks objects) line.0 line.1.0
      (and_from _ _ line.1.1 (or_right (length there == 0) (bytes_eq there there) (itself there))) in
      let danger = named_may there named_there in
      absurd (let not_so = never there (without there) danger.0 danger.1.0 in let so = danger.1.1 in cc)))
    where
      without : (namespace : List ℕ) → IsWithoutRisk objects identity namespace
      without namespace = record {
        no_master = unprivileged.no_master;
        no_escalate = unprivileged.no_escalate namespace;
        no_bind = unprivileged.no_bind namespace;
        no_impersonate = λ p asked. unprivileged.no_impersonate namespace p (verb_asked p asked);
      }
