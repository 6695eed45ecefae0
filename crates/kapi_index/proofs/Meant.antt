-- Which identities the subjects of a binding match, by their keys.
use Rattle.std.proofs.Common.{◌≡◌, ℕ, ◌==◌, Bool, true, false, not, ◌&&◌, ◌||◌, if◌then◌else◌, List, [], ◌∷◌, length, refl, sym, ap, ◌∙◌}
use Rattle.std.proofs.lemmas.List.Folds.{list_any-append}
use Rattle.std.specs.BTreeMap.Range.{is_from_start}
use Rattle.std.specs.List.{filter, list_any}
use Rattle.std.specs.Str.{bytes_eq}
use Rattle.std.specs.declared.collections.Bound.{Bound as Start}
use Rattle.kapi_policy.specs.Objects.{name_cmp}
use Rattle.kapi_model.specs.Subjects.{account_user, is_account, subject_matches, namespace_of}
use Rattle.kapi_model.specs.declared.identity.Identity.{Identity}
use Rattle.kapi_model.specs.declared.subject.Subject.{Subject}
use Rattle.kapi_model.specs.declared.subject.Subject.TheVariants.{User, Group, ServiceAccount}
use Rattle.kapi_text.proofs.Booleans.{any_same, or_across, or_false, turned}
use Rattle.kapi_index.specs.Listed.{is_key}
use Rattle.kapi_index.specs.Prepared.{account_users, group_of, groups_of, user_of, users_of}
use Rattle.kapi_index.specs.Scopes.{ArePrepared, IsPrepared, bare, matches}
use Rattle.kapi_index.specs.declared.scope.Bound.{Bound}

none_of : (gs : List (List ℕ)) → list_any (λ g. false) gs ≡ false
none_of [] = refl
none_of (g ∷ gs) = none_of gs

account_meant : (user namespace name : List ℕ) → is_account user namespace name ≡ is_key user (account_users namespace name)
account_meant user namespace name = by_test (length namespace == 0) refl
  where
    whole : List ℕ
    whole = account_user namespace name

    by_test : (b : Bool) → (length namespace == 0) ≡ b → (not (length namespace == 0) && bytes_eq user whole) ≡ is_key user (if length namespace == 0 then [] else whole ∷ [])
    by_test true is = rw is refl
    by_test false is = rw is (turned user whole ∙ sym (or_false (bytes_eq whole user)))

-- one subject matches the identity by the user or the group that it is
one_meant : (namespace : List ℕ) (identity : Identity) (s : Subject)
    → subject_matches s namespace identity ≡ (is_key identity.user (user_of namespace s) || list_any (λ g. is_key g (group_of s)) identity.groups)
one_meant namespace identity (User name) =
    turned identity.user name ∙ sym (or_false (bytes_eq name identity.user)) ∙ sym (or_false (bytes_eq name identity.user || false))
    ∙ ap (λ b. (bytes_eq name identity.user || false) || b) (sym (none_of identity.groups))
one_meant namespace identity (Group name) =
    any_same (λ g. bytes_eq g name) (λ g. bytes_eq name g || false) (λ g. turned g name ∙ sym (or_false (bytes_eq name g))) identity.groups
one_meant namespace identity (ServiceAccount account) =
    account_meant identity.user (namespace_of account namespace) account.name
    ∙ sym (or_false (is_key identity.user (account_users (namespace_of account namespace) account.name)))
    ∙ ap (λ b. is_key identity.user (account_users (namespace_of account namespace) account.name) || b) (sym (none_of identity.groups))

any_either : (p q : List ℕ → Bool) (gs : List (List ℕ)) → list_any (λ g. p g || q g) gs ≡ (list_any p gs || list_any q gs)
any_either p q [] = refl
any_either p q (g ∷ gs) = ap (λ b. (p g || q g) || b) (any_either p q gs) ∙ or_across (p g) (q g) (list_any p gs) (list_any q gs)

pub meant : (namespace : List ℕ) (identity : Identity) (subjects : List Subject)
    → list_any (λ s. subject_matches s namespace identity) subjects
    ≡ (is_key identity.user (users_of namespace subjects) || list_any (λ g. is_key g (groups_of subjects)) identity.groups)
meant namespace identity [] = sym (none_of identity.groups)
meant namespace identity (s ∷ subjects) =
    ap (λ b. b || list_any (λ s. subject_matches s namespace identity) subjects) (one_meant namespace identity s)
    ∙ ap (λ b. (is_key identity.user (user_of namespace s) || list_any (λ g. is_key g (group_of s)) identity.groups) || b) (meant namespace identity subjects)
    ∙ or_across (is_key identity.user (user_of namespace s)) (list_any (λ g. is_key g (group_of s)) identity.groups)
    (is_key identity.user (users_of namespace subjects)) (list_any (λ g. is_key g (groups_of subjects)) identity.groups)
    ∙ ap (λ b. b || (list_any (λ g. is_key g (group_of s)) identity.groups || list_any (λ g. is_key g (groups_of subjects)) identity.groups))
    (sym (list_any-append (λ x. bytes_eq x identity.user) (user_of namespace s) (users_of namespace subjects)))
    ∙ ap (λ b. is_key identity.user (users_of namespace (s ∷ subjects)) || b)
    (sym (any_either (λ g. is_key g (group_of s)) (λ g. is_key g (groups_of subjects)) identity.groups)
    ∙ any_same _ _ (λ g. sym (list_any-append (λ x. bytes_eq x g) (group_of s) (groups_of subjects))) identity.groups)

-- whether the keys of a binding have the user or one of the groups
abbrev pub asked : Identity → Bound → Bool
asked identity b = is_key identity.user b.keys.users || list_any (λ g. is_key g b.keys.groups) identity.groups

pub asked_means : (namespace : List ℕ) (identity : Identity) (b : Bound) → IsPrepared namespace b → matches namespace identity b.binding ≡ asked identity b
asked_means namespace identity b prepared =
    meant namespace identity b.binding.subjects
    ∙ ap (λ t. t || list_any (λ g. is_key g (groups_of b.binding.subjects)) identity.groups) (sym (prepared.users identity.user))
    ∙ ap (λ t. is_key identity.user b.keys.users || t) (any_same _ _ (λ g. sym (prepared.groups g)) identity.groups)

-- the bindings that match the identity are those whose keys are asked for
pub left_asked : (namespace : List ℕ) (identity : Identity) (start : Start (List ℕ)) (es : List (List ℕ × Bound)) → ArePrepared namespace es
    → filter (λ e. is_from_start name_cmp start e.0 && matches namespace identity e.1) (bare es) ≡ bare (filter (λ e. is_from_start name_cmp start e.0 && asked identity e.1) es)
left_asked namespace identity start [] prepared = refl
left_asked namespace identity start (e ∷ es) prepared =
    rw (asked_means namespace identity e.1 prepared.0, left_asked namespace identity start es prepared.1) (by_test (is_from_start name_cmp start e.0 && asked identity e.1))
  where
    by_test : (b : Bool) → (if b then (e.0, e.1.binding) ∷ bare (filter (λ e. is_from_start name_cmp start e.0 && asked identity e.1) es) else bare (filter (λ e. is_from_start name_cmp start e.0 && asked identity e.1) es))
        ≡ bare (if b then e ∷ filter (λ e. is_from_start name_cmp start e.0 && asked identity e.1) es else filter (λ e. is_from_start name_cmp start e.0 && asked identity e.1) es)
    by_test true = refl
    by_test false = refl
