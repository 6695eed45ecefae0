-- The namespace and the name of a tree, when other texts of its metadata are written.
use Rattle.std.proofs.Common.{◌≡◌, ◌&&◌, ℕ, true, false, List, [], None, Some, option_map, codes, decimal, if◌then◌else◌, bytes_eq, refl, sym, ap, ◌∙◌}
use Rattle.std.specs.Option.{option_and_then, unwrap_or}
use Rattle.std.specs.Ordering.{nat_cmp, match_ordering}
use Rattle.std.specs.declared.cmp.Ordering.TheVariants.{Less, Equal, Greater}
use Rattle.std.specs.Cmp.{first_so, second_so}
use Rattle.std.specs.Cmp.Lexicographic.{slice_cmp}
use Rattle.std.proofs.lemmas.Map.Lookups.{exact_bytes}
use Rattle.std.proofs.lemmas.Slice.Eq.{bytes_eq-Decides}
use Rattle.serde_json.specs.Data.{Data, string, object, Members, no_members, member}
use Rattle.serde_json.specs.Find.{as_str, get, get_member}
use Rattle.kapi_model.specs.Selector.{matches}
use Rattle.kapi_object.proofs.SetTexts.{in_text}
use Rattle.kapi_object.specs.Object.{stamped_tree}
use Rattle.kapi_object.specs.Tree.{in_metadata, with_text}
use Rattle.kapi_store.specs.Gone.{at_version, changed_at, with_changed}
use Rattle.kapi_store.specs.Listing.{is_asked, is_listed, is_within}
use Rattle.kapi_store.specs.UidAndVersion.{created_tree, metadata_text, replaced_tree, uid_in, uid_of, version_in, with_stamps_of}
use Rattle.kapi_store.specs.declared.key.Key.{Key}
use Rattle.kapi_watch.specs.declared.scope.WatchScope.{WatchScope}
use Rattle.kapi_watch.specs.Histories.{IsNamedBy}
use Rattle.kapi_watch.specs.Lists.{place_in}

-- ---- a text that is put

text_stamped : (q uid version : List ℕ) (d : Data) → bytes_eq q (codes "resourceVersion") ≡ false → bytes_eq q (codes "uid") ≡ false
    → metadata_text q (stamped_tree uid version d) ≡ metadata_text q d
text_stamped q uid version d apart apart_too =
    ap (λ o. unwrap_or (option_and_then as_str o) []) (in_text q (codes "resourceVersion") version (with_text (codes "uid") uid d) apart ∙ in_text q (codes "uid") uid d apart_too)

-- stamps change neither the namespace nor the name
pub named_stamped : (k : Key) (uid version : List ℕ) (d : Data) → IsNamedBy k d → IsNamedBy k (stamped_tree uid version d)
named_stamped k uid version d h = (text_stamped (codes "namespace") uid version d refl refl ∙ h.0, text_stamped (codes "name") uid version d refl refl ∙ h.1)

pub named_created : (k : Key) (revision : ℕ) (d : Data) → IsNamedBy k d → IsNamedBy k (created_tree revision d)
named_created k revision d h = named_stamped k (uid_of revision) (decimal revision) d h

pub named_replaced : (k : Key) (revision : ℕ) (old d : Data) → IsNamedBy k d → IsNamedBy k (replaced_tree revision old d)
named_replaced k revision old d h =
    named_stamped k (uid_in old) (decimal revision) (with_stamps_of old d) (named_stamped k (uid_in old) (version_in old) d h)

-- ---- a member whose value is changed

module _ (k : List ℕ) (f : Data → Data) where
  changed_here : (ms : Members) → get_member k (changed_at k f ms) ≡ option_map f (get_member k ms)
  changed_here no_members = refl
  changed_here (member l d ms) =
      elim (slice_cmp nat_cmp k l) as (λ o. slice_cmp nat_cmp k l ≡ o
      → match_ordering o (get_member k (changed_at k f ms)) (Some (if bytes_eq l k then f d else d)) (get_member k (changed_at k f ms))
      ≡ option_map f (match_ordering o (get_member k ms) (Some d) (get_member k ms))) [
        | Less ↦ λ is. changed_here ms
        | Equal ↦ λ is. let this : bytes_eq l k ≡ true = (bytes_eq-Decides l k).1 (sym (exact_bytes k l is)) in rw this refl
        | Greater ↦ λ is. changed_here ms
      ] refl

  changed_there : (q : List ℕ) (ms : Members) → bytes_eq q k ≡ false → get_member q (changed_at k f ms) ≡ get_member q ms
  changed_there q no_members apart = refl
  changed_there q (member l d ms) apart =
      elim (slice_cmp nat_cmp q l) as (λ o. slice_cmp nat_cmp q l ≡ o
      → match_ordering o (get_member q (changed_at k f ms)) (Some (if bytes_eq l k then f d else d)) (get_member q (changed_at k f ms))
      ≡ match_ordering o (get_member q ms) (Some d) (get_member q ms)) [
        | Less ↦ λ is. changed_there q ms apart
        | Equal ↦ λ is. let this : bytes_eq l k ≡ false = ap (λ t. bytes_eq t k) (sym (exact_bytes q l is)) ∙ apart in rw this refl
        | Greater ↦ λ is. changed_there q ms apart
      ] refl

  get_changed_here : (d : Data) → get k (with_changed k f d) ≡ option_map f (get k d)
  get_changed_here (object ms) = changed_here ms
  get_changed_here _ = refl

  get_changed_there : (q : List ℕ) (d : Data) → bytes_eq q k ≡ false → get q (with_changed k f d) ≡ get q d
  get_changed_there q (object ms) apart = changed_there q ms apart
  get_changed_there q _ apart = refl

text_at_version : (q : List ℕ) (revision : ℕ) (tree : Data) → bytes_eq q (codes "resourceVersion") ≡ false → metadata_text q (at_version revision tree) ≡ metadata_text q tree
text_at_version q revision tree apart =
    let g : Data → Data = with_changed (codes "resourceVersion") (λ d. string (decimal revision)) in
    ap (λ o. unwrap_or (option_and_then as_str (option_and_then (get q) o)) []) (get_changed_here (codes "metadata") g tree)
    ∙ elim (get (codes "metadata") tree) as (λ o. unwrap_or (option_and_then as_str (option_and_then (get q) (option_map g o))) [] ≡ unwrap_or (option_and_then as_str (option_and_then (get q) o)) []) [
      | None ↦ refl
      | Some d ↦ ap (λ o. unwrap_or (option_and_then as_str o) []) (get_changed_there (codes "resourceVersion") (λ d. string (decimal revision)) q d apart)
    ]

-- another version changes neither the namespace nor the name
pub named_at_version : (k : Key) (revision : ℕ) (tree : Data) → IsNamedBy k tree → IsNamedBy k (at_version revision tree)
named_at_version k revision tree h = (text_at_version (codes "namespace") revision tree refl ∙ h.0, text_at_version (codes "name") revision tree refl ∙ h.1)

-- ---- the place

-- the place of what is listed at a key that names it is the key
pub place_is : (scope : WatchScope) (k : Key) (other tree : Data) → is_listed scope.row scope.namespace scope.selector scope.name k other ≡ true → IsNamedBy k tree → place_in scope tree ≡ k
unfolding is_listed
place_is scope k other tree is named =
    let within : is_within scope.row scope.namespace scope.name k ≡ true = first_so (is_within scope.row scope.namespace scope.name k) (matches scope.selector (in_metadata (codes "labels") other)) is in
    let inside = is_asked scope.namespace k.namespace && is_asked scope.name k.name in
    let group : scope.row.group ≡ k.group = (bytes_eq-Decides scope.row.group k.group).0 (first_so (bytes_eq scope.row.group k.group) (bytes_eq scope.row.plural k.resource && inside) within) in
    let rest : (bytes_eq scope.row.plural k.resource && inside) ≡ true = second_so (bytes_eq scope.row.group k.group) (bytes_eq scope.row.plural k.resource && inside) within in
    let resource : scope.row.plural ≡ k.resource = (bytes_eq-Decides scope.row.plural k.resource).0 (first_so (bytes_eq scope.row.plural k.resource) inside rest) in
    λ i. record { group = group i; resource = resource i; namespace = named.0 i; name = named.1 i }
