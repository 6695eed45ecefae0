-- What a grantee alone is, each identity that it is is too.
use Rattle.std.proofs.Common.{◌≡◌, ◌⊎◌, inl, inr, ℕ, Bool, true, false, ◌&&◌, ◌||◌, if◌then◌else◌, List, [], ◌∷◌, ◌++◌, Option, Some, None, refl, sym, ap, subst, ◌∙◌}
use Rattle.std.proofs.lemmas.Bool.{or_cases, or_right}
use Rattle.std.specs.List.{list_all, list_any}
use Rattle.std.specs.Str.{bytes_eq}
use Rattle.kapi_text.proofs.Booleans.{or_false}
use Rattle.kapi_model.specs.declared.subject.ServiceAccount.{ServiceAccount}
use Rattle.kapi_model.specs.Identities.{is_in}
use Rattle.kapi_model.specs.declared.identity.Identity.{Identity}
use Rattle.kapi_rules.proofs.Covers.{itself, same}
use Rattle.kapi_policy.specs.All.{all_bindings}
use Rattle.kapi_policy.specs.Decided.{Binding}
use Rattle.kapi_policy.specs.Objects.{PolicyObjects}
use Rattle.kapi_escalation.specs.Impersonation.{own_groups, service_account}
use Rattle.kapi_aggregation.proofs.Lists.{some_at}
use Rattle.kapi_aggregation.specs.Members.{Has}
use Rattle.kapi_escalation_laws.proofs.Elements.{each_passes, has_right, passing}
use Rattle.kapi_access.specs.declared.grantee.Grantee.{Grantee}
use Rattle.kapi_access.specs.declared.grantee.Grantee.TheVariants as grantee
use Rattle.kapi_access.specs.declared.identities.Identities.{Identities}
use Rattle.kapi_access.specs.declared.identities.Identities.TheVariants as identities
use Rattle.kapi_access.specs.Grantees.{alone, grantees, matches, unbound_user, usual_member}
use Rattle.kapi_access.specs.Usual.{IsMeant, IsUsual, anonymous_user, authenticated, anonymous, unauthenticated, usual_groups}
use Rattle.kapi_access.proofs.Fresh.{nobody_is_unbound_user}

-- ---- the groups of usual identities

in_listed : (groups : List (List ℕ)) (g : List ℕ) → Has groups g → list_any (λ x. bytes_eq x g) groups ≡ true
in_listed groups g has = some_at (λ x. bytes_eq x g) groups g has (itself g)

-- a usual identity is in each group that its user has by itself
in_usual : (identity : Identity) (g : List ℕ) → IsUsual identity → Has (usual_groups identity.user) g → is_in g identity ≡ true
in_usual identity g (inl is) has =
    let there : Has (usual_groups anonymous_user) g = subst (λ (x : Identity). Has (usual_groups x.user) g) is has in
    subst (λ (x : Identity). is_in g x ≡ true) (sym is) (in_listed (usual_groups anonymous_user) g there)
in_usual identity g (inr a) has = each_passes (λ g. is_in g identity) (usual_groups identity.user) g a.grouped has

-- who is in the group of the anonymous user is that user
is_anonymous : (identity : Identity) → IsUsual identity → is_in unauthenticated identity ≡ true → identity ≡ anonymous
is_anonymous identity (inl is) h = is
is_anonymous identity (inr a) h = absurd (let not_so = a.apart in cc)

-- who is in another group is authenticated
is_known : (identity : Identity) (group : List ℕ) → IsUsual identity → bytes_eq group unauthenticated ≡ false → is_in group identity ≡ true → is_in authenticated identity ≡ true
is_known identity group (inl is) other h =
    let there : (bytes_eq unauthenticated group || false) ≡ true = subst (λ (x : Identity). is_in group x ≡ true) is h in
    let named : unauthenticated ≡ group = same unauthenticated group (sym (or_false (bytes_eq unauthenticated group)) ∙ there) in
    absurd (let so : bytes_eq group unauthenticated ≡ true = rw (← named) refl in cc)
is_known identity group (inr a) other h = in_usual identity authenticated (inr a) (rw a.known (has_right (own_groups (service_account identity.user)) (authenticated ∷ []) authenticated (inl refl)))

-- ---- the identity of a grantee alone

pub alone_matches : (who : Identities) (other : List ℕ) (to : Grantee) → matches to (alone who other to) ≡ true
alone_matches identities.Any other (grantee.User name) = itself name
alone_matches identities.Any other (grantee.Group name) = rw (itself name) refl
alone_matches identities.Usual other (grantee.User name) = itself name
alone_matches identities.Usual other (grantee.Group name) = by_case (bytes_eq name unauthenticated) refl
  where
    by_case : (t : Bool) → bytes_eq name unauthenticated ≡ t → is_in name (if t then anonymous else record { user = other; groups = name ∷ authenticated ∷ [] }) ≡ true
    by_case true is = rw (same name unauthenticated is) refl
    by_case false is = rw (itself name) refl

-- an identity that it is is in its groups
pub in_too : (who : Identities) (other : List ℕ) (to : Grantee) (identity : Identity) (g : List ℕ) → IsMeant who identity → matches to identity ≡ true
    → is_in g (alone who other to) ≡ true → is_in g identity ≡ true
in_too identities.Any other (grantee.User n) identity g meant is h = absurd (cc h)
in_too identities.Any other (grantee.Group n) identity g meant is h = subst (λ x. is_in x identity ≡ true) (same n g (sym (or_false (bytes_eq n g)) ∙ h)) is
in_too identities.Usual other (grantee.User n) identity g meant is h =
    let x = passing (λ x. bytes_eq x g) (usual_groups n) h in
    subst (λ y. is_in y identity ≡ true) (same x.0 g x.1.1)
    (in_usual identity x.0 meant (subst (λ y. Has (usual_groups y) x.0) (sym (same identity.user n is)) x.1.0))
in_too identities.Usual other (grantee.Group n) identity g meant is h = by_case (bytes_eq n unauthenticated) refl h
  where
    by_name : (bytes_eq n g ≡ true) ⊎ ((bytes_eq authenticated g || false) ≡ true) → bytes_eq n unauthenticated ≡ false → is_in g identity ≡ true
    by_name (inl own) not_so = subst (λ x. is_in x identity ≡ true) (same n g own) is
    by_name (inr all) not_so = subst (λ x. is_in x identity ≡ true) (same authenticated g (sym (or_false (bytes_eq authenticated g)) ∙ all)) (is_known identity n meant not_so is)

    by_case : (t : Bool) → bytes_eq n unauthenticated ≡ t → is_in g (if t then anonymous else record { user = other; groups = n ∷ authenticated ∷ [] }) ≡ true → is_in g identity ≡ true
    by_case true so there =
        subst (λ (x : Identity). is_in g x ≡ true) (sym (is_anonymous identity meant (subst (λ x. is_in x identity ≡ true) (same n unauthenticated so) is))) there
    by_case false not_so there = by_name (or_cases (bytes_eq n g) (bytes_eq authenticated g || false) there) not_so

-- if a binding names its user, that is theirs
user_too : (who : Identities) (objects : PolicyObjects) (b : Binding) (to : Grantee) (identity : Identity) (n : List ℕ) → Has (all_bindings objects) b → Has (grantees b) (grantee.User n)
    → IsMeant who identity → matches to identity ≡ true → matches (grantee.User n) (alone who (unbound_user objects) to) ≡ true → matches (grantee.User n) identity ≡ true
user_too identities.Any objects b (grantee.User m) identity n stands bound meant is h = subst (λ x. bytes_eq identity.user x ≡ true) (same m n h) is
user_too identities.Any objects b (grantee.Group m) identity n stands bound meant is h = absurd (let never = nobody_is_unbound_user objects b n stands bound in cc)
user_too identities.Usual objects b (grantee.User m) identity n stands bound meant is h = subst (λ x. bytes_eq identity.user x ≡ true) (same m n h) is
user_too identities.Usual objects b (grantee.Group m) identity n stands bound meant is h = by_case (bytes_eq m unauthenticated) refl h
  where
    by_case : (t : Bool) → bytes_eq m unauthenticated ≡ t → matches (grantee.User n) (if t then anonymous else record { user = unbound_user objects; groups = m ∷ authenticated ∷ [] }) ≡ true → bytes_eq identity.user n ≡ true
    by_case true so there =
        subst (λ (x : Identity). matches (grantee.User n) x ≡ true) (sym (is_anonymous identity meant (subst (λ x. is_in x identity ≡ true) (same m unauthenticated so) is))) there
    by_case false not_so there = absurd (let never = nobody_is_unbound_user objects b n stands bound in cc)

-- whom a binding gives its role, and that it is, they are
pub matches_too : (who : Identities) (objects : PolicyObjects) (b : Binding) (by to : Grantee) (identity : Identity) → Has (all_bindings objects) b → Has (grantees b) by
    → IsMeant who identity → matches to identity ≡ true → matches by (alone who (unbound_user objects) to) ≡ true → matches by identity ≡ true
matches_too who objects b (grantee.User n) to identity stands bound meant is h = user_too who objects b to identity n stands bound meant is h
matches_too who objects b (grantee.Group n) to identity stands bound meant is h = in_too who (unbound_user objects) to identity n meant is h

-- ---- it is one of the identities

each_in : (xs ys : List (List ℕ)) → ((g : List ℕ) → Has ys g → Has xs g) → list_all (λ g. list_any (λ x. bytes_eq x g) xs) ys ≡ true
each_in xs [] within = refl
each_in xs (y ∷ ys) within = rw (in_listed xs y (within y (inl refl))) (each_in xs ys (λ g has. within g (inr has)))

no_account_apart : (o : Option ServiceAccount) → list_any (λ g. bytes_eq g unauthenticated) (own_groups o ++ authenticated ∷ []) ≡ false
no_account_apart None = refl
no_account_apart (Some account) = refl

user_is_usual : (n : List ℕ) → IsUsual (record { user = n; groups = usual_groups n })
user_is_usual n = by_case (bytes_eq n anonymous_user) refl
  where
    by_case : (t : Bool) → bytes_eq n anonymous_user ≡ t → IsUsual (record { user = n; groups = usual_groups n })
    by_case true is = inl (ap (λ x. record { user = x; groups = usual_groups x }) (same n anonymous_user is))
    by_case false is =
        inr (record { known = is; apart = rw is (no_account_apart (service_account n)); grouped = each_in (usual_groups n) (usual_groups n) (λ g has. has) })

stranger_is_no_account : (objects : PolicyObjects) → service_account (unbound_user objects) ≡ None
unfolding service_account
stranger_is_no_account objects = refl

member_is_usual : (objects : PolicyObjects) (n : List ℕ) → IsUsual (usual_member (unbound_user objects) n)
member_is_usual objects n = by_case (bytes_eq n unauthenticated) refl
  where
    by_case : (t : Bool) → bytes_eq n unauthenticated ≡ t → IsUsual (if t then anonymous else record { user = unbound_user objects; groups = n ∷ authenticated ∷ [] })
    by_case true is = inl refl
    by_case false is =
        inr (record { known = refl; apart = rw is refl; grouped = rw (stranger_is_no_account objects) (both (or_right (bytes_eq n authenticated) true refl)) })
      where
        both : (bytes_eq n authenticated || true) ≡ true → ((bytes_eq n authenticated || true) && true) ≡ true
        both h = rw h refl

pub alone_is_meant : (who : Identities) (objects : PolicyObjects) (to : Grantee) → IsMeant who (alone who (unbound_user objects) to)
alone_is_meant identities.Any objects to = tt
alone_is_meant identities.Usual objects (grantee.User n) = user_is_usual n
alone_is_meant identities.Usual objects (grantee.Group n) = member_is_usual objects n
