-- What is kept of the metadata is what stays of it if the rest is removed.
use Rattle.std.proofs.Common.{◌≡◌, ◌∙◌, ℕ, List, [], ◌∷◌, Bool, true, false, not, if◌then◌else◌, Option, Some, None, is_some, unwrap_or, filter, refl, sym, ap, subst, cond, codes, bytes_eq, String, Global, string_bytes}
use Rattle.std.proofs.lemmas.Map.Text.{is_eq-slice_cmp}
use Rattle.std.proofs.lemmas.Slice.Eq.{bytes_eq-Decides}
use Rattle.std.specs.Cmp.{first_so, second_so}
use Rattle.std.specs.Cmp.Lexicographic.{slice_cmp, nat_list_cmp_total}
use Rattle.std.specs.Option.{option_and_then}
use Rattle.std.specs.Ordering.{nat_cmp, ordering_reverse, is_eq, is_lt, match_ordering}
use Rattle.std.specs.declared.cmp.Ordering.{Ordering}
use Rattle.std.specs.declared.cmp.Ordering.TheVariants.{Less, Equal, Greater}
use Rattle.serde_json.proofs.Views.{get_member-put}
use Rattle.serde_json.specs.Data.{Data, null, object, Members, no_members, member}
use Rattle.serde_json.specs.Find.{as_null, get, get_member}
use Rattle.serde_json.specs.View.{view, members_view}
use Rattle.serde_json.specs.declared.value.Value.{Value}
use Rattle.kapi_model.specs.declared.row.ResourceRow.{ResourceRow}
use Rattle.kapi_object.proofs.Closed.{metadata_hold}
use Rattle.kapi_object.proofs.SetTexts.{in_members}
use Rattle.kapi_object.proofs.Ordered.{key_first, keys_in_order, none_found, others_in_order, precedes_too}
use Rattle.kapi_object.specs.Order.{in_order, is_ordered, precedes}
use Rattle.kapi_object.specs.Tree.{in_metadata, is_empty_object, metadata_member, metadata_of, unless_null}
use Rattle.kapi_object.proofs.KeptGiven.{kept_in_entries, kept_name, kept_namespace, kept_version, none_else, put_entries_other}
use Rattle.kapi_object.proofs.KeptHolds.{kept_metadata_holds}
use Rattle.kapi_object.specs.Admission.{kept_metadata, put_entries}
use Rattle.kapi_object.specs.Private.Kept.{is_kept, kept_members}

-- the entries that stay of a map
pub entries_kept : (row : ResourceRow) (es : List (String Global × Value))
    → members_view (filter (λ e. is_kept row (string_bytes e.0) (view e.1)) es) ≡ kept_members row (members_view es)
entries_kept row [] = refl
entries_kept row (e ∷ es) =
    let rest : List (String Global × Value) = filter (λ e. is_kept row (string_bytes e.0) (view e.1)) es in
    elim (is_kept row (string_bytes e.0) (view e.1)) as (λ b. members_view (cond b (e ∷ rest) rest)
    ≡ (if b then member (string_bytes e.0) (view e.1) (kept_members row (members_view es)) else kept_members row (members_view es))) [
      | true ↦ ap (member (string_bytes e.0) (view e.1)) (entries_kept row es)
      | false ↦ entries_kept row es
    ]

-- ---- members in order that have the same values are the same

is_equal : (o : Ordering) → is_eq o ≡ true → o ≡ Equal
is_equal Less h = absurd (cc h)
is_equal Equal h = refl
is_equal Greater h = absurd (cc h)

first_found : (k : List ℕ) (d : Data) (ms : Members) → get_member k (member k d ms) ≡ Some d
first_found k d ms = rw (is_equal (slice_cmp nat_cmp k k) (is_eq-slice_cmp k k ∙ (bytes_eq-Decides k k).1 refl)) refl

-- a key before the first is none of them
not_found : (k l : List ℕ) (e : Data) (ns : Members) → in_order (member l e ns) ≡ true → slice_cmp nat_cmp k l ≡ Less → get_member k (member l e ns) ≡ None
not_found k l e ns h is =
    let before : precedes k (member l e ns) ≡ true = rw is (precedes_too k l ns is (key_first l e ns h)) in
    none_found k (member l e ns) before

-- what is found of the others, if the keys of the first are the same
same_after : (q k l : List ℕ) (d e : Data) (ms ns : Members) → in_order (member k d ms) ≡ true → in_order (member l e ns) ≡ true → k ≡ l
    → get_member q (member k d ms) ≡ get_member q (member l e ns) → get_member q ms ≡ get_member q ns
same_after q k l d e ms ns hm hn key same =
    elim (slice_cmp nat_cmp q k) as (λ o. slice_cmp nat_cmp q k ≡ o → get_member q ms ≡ get_member q ns) [
      | Less ↦ λ is.
          let less : slice_cmp nat_cmp q l ≡ Less = ap (slice_cmp nat_cmp q) (sym key) ∙ is in
          none_found q ms (precedes_too q k ms is (key_first k d ms hm)) ∙ sym (none_found q ns (precedes_too q l ns less (key_first l e ns hn)))
      | Equal ↦ λ is.
          let this : q ≡ k = (bytes_eq-Decides q k).0 (sym (is_eq-slice_cmp q k) ∙ ap is_eq is) in
          none_found q ms (ap (λ x. precedes x ms) this ∙ key_first k d ms hm) ∙ sym (none_found q ns (ap (λ x. precedes x ns) (this ∙ key) ∙ key_first l e ns hn))
      | Greater ↦ λ is.
          let after : slice_cmp nat_cmp q l ≡ Greater = ap (slice_cmp nat_cmp q) (sym key) ∙ is in
          let left : get_member q (member k d ms) ≡ get_member q ms = rw is refl in
          let right : get_member q (member l e ns) ≡ get_member q ns = rw after refl in
          sym left ∙ same ∙ right
    ] refl

same_members : (ms ns : Members) → in_order ms ≡ true → in_order ns ≡ true → ((q : List ℕ) → get_member q ms ≡ get_member q ns) → ms ≡ ns
same_members no_members no_members hm hn same = refl
same_members no_members (member l e ns) hm hn same = absurd (cc (same l ∙ first_found l e ns))
same_members (member k d ms) no_members hm hn same = absurd (cc (sym (same k) ∙ first_found k d ms))
same_members (member k d ms) (member l e ns) hm hn same =
    elim (slice_cmp nat_cmp k l) as (λ o. slice_cmp nat_cmp k l ≡ o → member k d ms ≡ member l e ns) [
      | Less ↦ λ is. absurd (cc (sym (first_found k d ms) ∙ same k ∙ not_found k l e ns hn is))
      | Equal ↦ λ is.
          let key : k ≡ l = (bytes_eq-Decides k l).0 (sym (is_eq-slice_cmp k l) ∙ ap is_eq is) in
          let value : Some d ≡ Some e = sym (first_found k d ms) ∙ same k ∙ ap (λ x. get_member x (member l e ns)) key ∙ first_found l e ns in
          let others : ms ≡ ns = same_members ms ns (others_in_order k d ms hm) (others_in_order l e ns hn) (λ q. same_after q k l d e ms ns hm hn key (same q)) in
          ap (λ x. member x d ms) key ∙ ap (λ o. member l (unwrap_or o d) ms) value ∙ ap (member l e) others
      | Greater ↦ λ is.
          let less : slice_cmp nat_cmp l k ≡ Less = nat_list_cmp_total.antisymm l k ∙ ap ordering_reverse is in
          absurd (cc (sym (first_found l e ns) ∙ sym (same l) ∙ not_found l k d ms hm less))
    ] refl

-- ---- what is found of the members that stay

precedes_kept : (row : ResourceRow) (j : List ℕ) (ms : Members) → precedes j ms ≡ true → precedes j (kept_members row ms) ≡ true
precedes_kept row j no_members p = refl
precedes_kept row j (member l d ms) p =
    let first : is_lt (slice_cmp nat_cmp j l) ≡ true = first_so (is_lt (slice_cmp nat_cmp j l)) (precedes j ms) p in
    let others : precedes j ms ≡ true = second_so (is_lt (slice_cmp nat_cmp j l)) (precedes j ms) p in
    elim (is_kept row l d) as (λ b. precedes j (if b then member l d (kept_members row ms) else kept_members row ms) ≡ true) [
      | true ↦ rw first (precedes_kept row j ms others)
      | false ↦ precedes_kept row j ms others
    ]

kept_in_order : (row : ResourceRow) (ms : Members) → in_order ms ≡ true → in_order (kept_members row ms) ≡ true
kept_in_order row no_members h = refl
kept_in_order row (member l d ms) h =
    elim (is_kept row l d) as (λ b. in_order (if b then member l d (kept_members row ms) else kept_members row ms) ≡ true) [
      | true ↦ rw (precedes_kept row l ms (key_first l d ms h), keys_in_order.first 0 l d ms h) (kept_in_order row ms (others_in_order l d ms h))
      | false ↦ kept_in_order row ms (others_in_order l d ms h)
    ]

-- the value of a key, if it is kept
abbrev value_kept : ResourceRow → List ℕ → Option Data → Option Data
value_kept row key None = None
value_kept row key (Some d) = if is_kept row key d then Some d else None

get_kept : (row : ResourceRow) (q : List ℕ) (ms : Members) → in_order ms ≡ true → get_member q (kept_members row ms) ≡ value_kept row q (get_member q ms)
get_kept row q no_members h = refl
get_kept row q (member l d ms) h =
    let kept : Members = kept_members row ms in
    let rest : get_member q kept ≡ value_kept row q (get_member q ms) = get_kept row q ms (others_in_order l d ms h) in
    let found : Bool → Option Data = λ b. get_member q (if b then member l d kept else kept) in
    elim (slice_cmp nat_cmp q l) as (λ o. slice_cmp nat_cmp q l ≡ o → found (is_kept row l d) ≡ value_kept row q (match_ordering o (get_member q ms) (Some d) (get_member q ms))) [
      | Less ↦ λ is. elim (is_kept row l d) as (λ b. found b ≡ value_kept row q (get_member q ms)) [ true ↦ rw is rest | false ↦ rest ]
      | Equal ↦ λ is.
          let same : q ≡ l = (bytes_eq-Decides q l).0 (sym (is_eq-slice_cmp q l) ∙ ap is_eq is) in
          let none : get_member q kept ≡ None = rest ∙ ap (value_kept row q) (none_found q ms (ap (λ k. precedes k ms) same ∙ key_first l d ms h)) in
          elim (is_kept row l d) as (λ b. found b ≡ (if b then Some d else None)) [ true ↦ rw is refl | false ↦ none ]
          ∙ ap (λ k. if is_kept row k d then Some d else None) (sym same)
      | Greater ↦ λ is. elim (is_kept row l d) as (λ b. found b ≡ value_kept row q (get_member q ms)) [ true ↦ rw is rest | false ↦ rest ]
    ] refl

-- ---- what is found of what is kept

-- labels or annotations
entries_found : (row : ResourceRow) (k : List ℕ) (o : Option Data) (ms : Members)
    → ((d : Data) → is_kept row k d ≡ (if is_some (as_null d) then false else not (is_empty_object d))) → get_member k ms ≡ None
    → get_member k (put_entries k (option_and_then unless_null o) ms) ≡ value_kept row k o
entries_found row k None ms law none = none
entries_found row k (Some null) ms law none = none
entries_found row k (Some (object no_members)) ms law none = none ∙ ap (λ b. if b then Some (object no_members) else None) (sym (law (object no_members)))
entries_found row k (Some d) ms law none = get_member-put k d ms ∙ ap (λ b. if b then Some d else None) (sym (law d))

name_found : (row : ResourceRow) (o : Option Data) → option_and_then unless_null o ≡ value_kept row (codes "name") o
name_found row None = refl
name_found row (Some null) = refl
name_found row (Some _) = refl

version_found : (row : ResourceRow) (o : Option Data) → option_and_then unless_null o ≡ value_kept row (codes "resourceVersion") o
version_found row None = refl
version_found row (Some null) = refl
version_found row (Some _) = refl

either : (b : Bool) (o : Option Data) → (if b then o else o) ≡ o
either true o = refl
either false o = refl

place_found : (row : ResourceRow) (o : Option Data) → (if row.namespaced then option_and_then unless_null o else None) ≡ value_kept row (codes "namespace") o
place_found row None = either row.namespaced None
place_found row (Some null) = either row.namespaced None
place_found row (Some _) = refl

none_kept : (row : ResourceRow) (q : List ℕ) (o : Option Data) → bytes_eq q (codes "labels") ≡ false → bytes_eq q (codes "annotations") ≡ false → bytes_eq q (codes "name") ≡ false
    → bytes_eq q (codes "namespace") ≡ false → bytes_eq q (codes "resourceVersion") ≡ false → value_kept row q o ≡ None
none_kept row q None hl ha hn hp hv = refl
none_kept row q (Some null) hl ha hn hp hv = refl
none_kept row q (Some _) hl ha hn hp hv = rw (hl, ha, hn, hv, hp) refl

-- at a key, or at any other
at : (q k : List ℕ) (P : List ℕ → Type 0) → P k → (bytes_eq q k ≡ false → P q) → P q
at q k P here apart = elim (bytes_eq q k) as (λ b. bytes_eq q k ≡ b → P q) [ true ↦ λ is. subst P (sym ((bytes_eq-Decides q k).0 is)) here | false ↦ apart ] refl

found_kept : (row : ResourceRow) (tree : Data) (q : List ℕ) → get_member q (kept_metadata row tree) ≡ value_kept row q (in_metadata q tree)
found_kept row tree q =
    let P : List ℕ → Type 0 = λ k. get_member k (kept_metadata row tree) ≡ value_kept row k (in_metadata k tree) in
    let labels : Members = put_entries (codes "labels") (metadata_member (codes "labels") tree) no_members in
    at q (codes "labels") P
    (kept_in_entries (codes "labels") row tree refl refl refl
    ∙ put_entries_other (codes "labels") (codes "annotations") (metadata_member (codes "annotations") tree) labels refl
    ∙ entries_found row (codes "labels") (in_metadata (codes "labels") tree) no_members (λ d. refl) refl)
    (λ hl. at q (codes "annotations") P
    (kept_in_entries (codes "annotations") row tree refl refl refl
    ∙ entries_found row (codes "annotations") (in_metadata (codes "annotations") tree) labels (λ d. refl)
    (put_entries_other (codes "annotations") (codes "labels") (metadata_member (codes "labels") tree) no_members refl))
    (λ ha. at q (codes "name") P (kept_name row tree ∙ name_found row (in_metadata (codes "name") tree))
    (λ hn. at q (codes "namespace") P (kept_namespace row tree ∙ place_found row (in_metadata (codes "namespace") tree))
    (λ hp. at q (codes "resourceVersion") P (kept_version row tree ∙ version_found row (in_metadata (codes "resourceVersion") tree))
    (λ hv. none_else q row tree hl ha hn hp hv ∙ sym (none_kept row q (in_metadata q tree) hl ha hn hp hv))))))

-- what is kept of the metadata of a tree
pub members_kept : (row : ResourceRow) (tree : Data) → is_ordered tree ≡ true → kept_members row (metadata_of tree) ≡ kept_metadata row tree
members_kept row tree h =
    let ordered : in_order (metadata_of tree) ≡ true = metadata_hold keys_in_order 0 tree h in
    same_members (kept_members row (metadata_of tree)) (kept_metadata row tree) (kept_in_order row (metadata_of tree) ordered) (kept_metadata_holds keys_in_order 0 row tree h)
    (λ q. get_kept row q (metadata_of tree) ordered ∙ ap (value_kept row q) (in_members q (get (codes "metadata") tree)) ∙ sym (found_kept row tree q))
