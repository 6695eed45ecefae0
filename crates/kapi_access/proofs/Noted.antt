-- A set with one place more.
use Rattle.std.proofs.Common.{◌≡◌, ℕ, cond, true, ◌&&◌, ◌||◌, List, refl, ap, ◌∙◌}
use Rattle.std.specs.BTreeMap.{is_at}
use Rattle.std.specs.BTreeSet.{BTreeSet, contains}
use Rattle.std.specs.Str.{bytes_eq}
use Rattle.kapi_text.proofs.Booleans.{and_false}
use Rattle.kapi_policy.specs.Objects.{place_cmp}
use Rattle.kapi_policy.specs.declared.change.NamespacedName.{NamespacedName}
use Rattle.kapi_access.specs.declared.grantee.Grantee.{Grantee}
use Rattle.kapi_access.specs.declared.grantee.Grantee.TheVariants as grantee
use Rattle.kapi_access.specs.Noted.{is_noted}
use Rattle.kapi_access.specs.Who.{same_grantee}
use Rattle.kapi_access.proofs.Idle.{one_more}

module _ (old new : BTreeSet NamespacedName) (place : NamespacedName) (there name : List ℕ) (is : place ≡ record { namespace = there; name = name })
    (put : (q : NamespacedName) → contains place_cmp new q ≡ cond (is_at (place_cmp place) q) true (contains place_cmp old q)) where
  put_there : (n q : List ℕ) → contains place_cmp new (record { namespace = n; name = q })
      ≡ ((bytes_eq n there && bytes_eq q name) || contains place_cmp old (record { namespace = n; name = q }))
  put_there n q =
      one_more old new place put (record { namespace = n; name = q })
      ∙ ap (λ (p : NamespacedName). (bytes_eq n p.namespace && bytes_eq q p.name) || contains place_cmp old (record { namespace = n; name = q })) is

  pub user_noted : (groups : BTreeSet NamespacedName) (n : List ℕ) (g : Grantee) → is_noted new groups n g ≡ ((bytes_eq n there && same_grantee g (grantee.User name)) || is_noted old groups n g)
  user_noted groups n (grantee.User q) = put_there n q
  user_noted groups n (grantee.Group q) = rw (and_false (bytes_eq n there)) refl

  pub group_noted : (users : BTreeSet NamespacedName) (n : List ℕ) (g : Grantee) → is_noted users new n g ≡ ((bytes_eq n there && same_grantee g (grantee.Group name)) || is_noted users old n g)
  group_noted users n (grantee.User q) = rw (and_false (bytes_eq n there)) refl
  group_noted users n (grantee.Group q) = put_there n q
