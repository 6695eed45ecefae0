-- Bindings are found under the user or group of each subject.
use Rattle.std.proofs.Common.{arith, ◌≡◌, ◌⊎◌, ◌<◌, ℕ, zero, suc, Bool, true, false, cond, List, [], ◌∷◌, ◌++◌, length, map, set, get_or, Some, refl, sym, ap, subst, ◌∙◌, inl, inr, ⊎_elim}
use Rattle.std.specs.BTreeMap.{BTreeMap, Updates, get, is_at}
use Rattle.std.specs.List.{list_any, slice_get}
use Rattle.std.specs.Option.{unwrap_or}
use Rattle.std.specs.Str.{bytes_eq}
use Rattle.std.proofs.lemmas.Bool.{and_parts, cases_eq, or_cases}
use Rattle.std.proofs.lemmas.List.{get_or-set_same, get_or-set_other}
use Rattle.kapi_model.specs.Subjects.{account_user, namespace_of, subject_matches}
use Rattle.kapi_model.specs.declared.identity.Identity.{Identity}
use Rattle.kapi_model.specs.declared.subject.Subject.{Subject}
use Rattle.kapi_model.specs.declared.subject.Subject.TheVariants as subject
use Rattle.kapi_rules.proofs.Covers.{same}
use Rattle.kapi_paths.specs.Bound.{IsMarked, key_of, positions_at}
use Rattle.kapi_paths.specs.Chains.{Has}
use Rattle.kapi_paths.specs.Numbers.{node_cmp}
use Rattle.kapi_paths.specs.Steps.{node}
use Rattle.kapi_paths.specs.declared.node.Node.{Node}
use Rattle.kapi_paths.specs.declared.node.NodeKind.TheVariants as kind
use Rattle.kapi_paths.proofs.Grown.{has_last, has_left}
use Rattle.kapi_paths.proofs.Numbering.{node_exact}

-- a position that was under a key stays there
pub put_kept : (old mid new : BTreeMap Node (List ℕ)) (key : Node) (list : List ℕ) (position : ℕ) → list ≡ positions_at old key
    → ((k : Node) → is_at (node_cmp key) k ≡ false → positions_at mid k ≡ positions_at old k) → Updates node_cmp mid new key (Some (list ++ position ∷ []))
    → (k : Node) (i : ℕ) → Has (positions_at old k) i → Has (positions_at new k) i
put_kept old mid new key list position is others updates k i h = by_case (is_at (node_cmp key) k) refl
  where
    by_case : (b : Bool) → is_at (node_cmp key) k ≡ b → Has (positions_at new k) i
    by_case true e =
        let had : get node_cmp new k ≡ Some (list ++ position ∷ []) = updates.0 k ∙ ap (λ b. cond b (Some (list ++ position ∷ [])) (get node_cmp mid k)) e in
        subst (λ (l : List ℕ). Has l i) (sym (ap (λ o. unwrap_or o []) had))
        (has_left list (position ∷ []) i (subst (λ (l : List ℕ). Has l i) (sym (is ∙ ap (positions_at old) (node_exact key k e))) h))
    by_case false e = subst (λ (l : List ℕ). Has l i) (sym (ap (λ o. unwrap_or o []) (updates.2 k e) ∙ others k e)) h

pub put_added : (mid new : BTreeMap Node (List ℕ)) (key : Node) (list : List ℕ) (position : ℕ) → Updates node_cmp mid new key (Some (list ++ position ∷ [])) → Has (positions_at new key) position
put_added mid new key list position updates = subst (λ (l : List ℕ). Has l position) (sym (ap (λ o. unwrap_or o []) updates.1)) (has_last list position)

pub set_marked : (marks : List Bool) (position i : ℕ) → position < length marks → IsMarked marks i → IsMarked (set marks position true) i
set_marked marks position i within h = ⊎_elim
    (λ e. subst (λ k. IsMarked (set marks position true) k) (sym e) (get_or-set_same marks position true false within))
    (λ e. get_or-set_other marks position i true false e ∙ h)
    (cases_eq i position)

-- ---- which subjects match

pub some_has : {X : Type 0} (p : X → Bool) (xs : List X) → list_any p xs ≡ true → (x : X) × Has xs x × (p x ≡ true)
some_has p [] h = absurd (cc h)
some_has p (x ∷ xs) h = ⊎_elim (λ k. (x, inl refl, k)) (λ k. let found = some_has p xs k in (found.0, inr found.1, found.2)) (or_cases (p x) (list_any p xs) h)

-- a subject that matches stands for the identity's user or one of its groups
pub matched_key : (s : Subject) (namespace : List ℕ) (identity : Identity) → subject_matches s namespace identity ≡ true
    → (key_of namespace s ≡ node kind.User [] identity.user) ⊎ ((g : List ℕ) × Has identity.groups g × (key_of namespace s ≡ node kind.Group [] g))
matched_key (subject.User name) namespace identity h = inl (ap (node kind.User []) (sym (same identity.user name h)))
matched_key (subject.Group name) namespace identity h =
    let found = some_has (λ g. bytes_eq g name) identity.groups h in
    inr (found.0, found.1, ap (node kind.Group []) (sym (same found.0 name found.2)))
matched_key (subject.ServiceAccount account) namespace identity h =
    let place = namespace_of account namespace in
    inl (ap (node kind.User []) (sym (same identity.user (account_user place account.name) (and_parts _ _ h).1)))

-- ---- positions

pub at_map : {X Y : Type 0} (f : X → Y) (xs : List X) (i : ℕ) (x : X) → i < length xs → x ≡ get_or xs i x → slice_get (map f xs) i ≡ Some (f x)
at_map f [] i x within is = absurd (omega (arith, within))
at_map f (y ∷ xs) zero x within is = ap (λ z. Some (f z)) (sym is)
at_map f (y ∷ xs) (suc i) x within is = at_map f xs i x (omega (arith, within)) is
