-- Labels are written in the order of their keys, and read in it.
use Rattle.std.proofs.Common.{◌≡◌, ◌∙◌, ℕ, List, [], ◌∷◌, refl, sym, ap}
use Rattle.std.proofs.lemmas.Cmp.{nat_list_cmp_total}
use Rattle.std.specs.Cmp.Lexicographic.{slice_cmp}
use Rattle.std.specs.Ordering.{nat_cmp, match_ordering, ordering_reverse}
use Rattle.std.specs.declared.cmp.Ordering.{Ordering}
use Rattle.std.specs.declared.cmp.Ordering.TheVariants.{Less, Equal, Greater}
use Rattle.serde_json.specs.Data.{Data, string, Members, no_members, member, put}
use Rattle.kapi_object.specs.Contents.{labels_in, put_labels}
use Rattle.kapi_model.specs.declared.selector.Label.{Label}
use Rattle.kapi_rbac_types.specs.Laws.{Precedes, IsInOrder}

turned : (k l : List ℕ) → slice_cmp nat_cmp k l ≡ Less → slice_cmp nat_cmp l k ≡ Greater
turned k l h = nat_list_cmp_total.antisymm l k ∙ ap ordering_reverse h

turned_back : (k l : List ℕ) → slice_cmp nat_cmp k l ≡ Greater → slice_cmp nat_cmp l k ≡ Less
turned_back k l h = nat_list_cmp_total.antisymm l k ∙ ap ordering_reverse h

-- the labels as members, one after another
abbrev pub plain : List Label → Members
plain [] = no_members
plain (l ∷ ls) = member l.key (string l.value) (plain ls)

pub labels_plain : (ls : List Label) → labels_in (plain ls) ≡ ls
labels_plain [] = refl
labels_plain (l ∷ ls) = ap (λ r. l ∷ r) (labels_plain ls)

-- labels that come after a member are put after it
put_after : (k : List ℕ) (d : Data) (ls : List Label) (ms : Members) → Precedes k ls → put_labels ls (member k d ms) ≡ member k d (put_labels ls ms)
put_after k d [] ms h = refl
put_after k d (l ∷ ls) ms h = rw (turned k l.key h.0) (put_after k d ls (put l.key (string l.value) ms) h.1)

pub in_order_plain : (ls : List Label) → IsInOrder ls → put_labels ls no_members ≡ plain ls
in_order_plain [] h = refl
in_order_plain (l ∷ ls) h = put_after l.key (string l.value) ls no_members h.0 ∙ ap (member l.key (string l.value)) (in_order_plain ls h.1)

pub labels_round : (ls : List Label) → IsInOrder ls → labels_in (put_labels ls no_members) ≡ ls
labels_round ls h = ap labels_in (in_order_plain ls h) ∙ labels_plain ls

-- ---- any labels, once they were written

-- the labels with one more in its place
abbrev insert : Label → List Label → List Label
insert l [] = l ∷ []
insert l (m ∷ ms) = match_ordering (slice_cmp nat_cmp l.key m.key) (l ∷ m ∷ ms) (record { key = m.key; value = l.value } ∷ ms) (m ∷ insert l ms)

put_plain : (l : Label) (ms : List Label) → put l.key (string l.value) (plain ms) ≡ plain (insert l ms)
put_plain l [] = refl
put_plain l (m ∷ ms) =
    elim (slice_cmp nat_cmp l.key m.key) as (λ o.
    match_ordering o (member l.key (string l.value) (member m.key (string m.value) (plain ms))) (member m.key (string l.value) (plain ms))
    (member m.key (string m.value) (put l.key (string l.value) (plain ms)))
    ≡ plain (match_ordering o (l ∷ m ∷ ms) (record { key = m.key; value = l.value } ∷ ms) (m ∷ insert l ms))) [
      | Less ↦ refl
      | Equal ↦ refl
      | Greater ↦ ap (member m.key (string m.value)) (put_plain l ms)
    ]

precedes_more : (j k : List ℕ) (ls : List Label) → slice_cmp nat_cmp j k ≡ Less → Precedes k ls → Precedes j ls
precedes_more j k [] h p = tt
precedes_more j k (l ∷ ls) h p = (nat_list_cmp_total.trans j k l.key h p.0, precedes_more j k ls h p.1)

precedes_insert : (k : List ℕ) (l : Label) (ms : List Label) → slice_cmp nat_cmp k l.key ≡ Less → Precedes k ms → Precedes k (insert l ms)
precedes_insert k l [] h p = (h, tt)
precedes_insert k l (m ∷ ms) h p =
    elim (slice_cmp nat_cmp l.key m.key) as (λ o. Precedes k (match_ordering o (l ∷ m ∷ ms) (record { key = m.key; value = l.value } ∷ ms) (m ∷ insert l ms))) [
      | Less ↦ (h, p)
      | Equal ↦ (p.0, p.1)
      | Greater ↦ (p.0, precedes_insert k l ms h p.1)
    ]

insert_order : (l : Label) (ms : List Label) → IsInOrder ms → IsInOrder (insert l ms)
insert_order l [] h = (tt, tt)
insert_order l (m ∷ ms) h =
    let P : Ordering → Type 0 = λ o. slice_cmp nat_cmp l.key m.key ≡ o → IsInOrder (match_ordering o (l ∷ m ∷ ms) (record { key = m.key; value = l.value } ∷ ms) (m ∷ insert l ms)) in
    let cases : P (slice_cmp nat_cmp l.key m.key) = elim (slice_cmp nat_cmp l.key m.key) as P [
      | Less ↦ λ e. ((e, precedes_more l.key m.key ms e h.0), h)
      | Equal ↦ λ e. (h.0, h.1)
      | Greater ↦ λ e. (precedes_insert m.key l ms (turned_back l.key m.key e) h.0, insert_order l ms h.1)
    ] in
    cases refl

-- the labels that were put, in order
abbrev insert_all : List Label → List Label → List Label
insert_all [] ms = ms
insert_all (l ∷ ls) ms = insert_all ls (insert l ms)

put_all_plain : (ls ms : List Label) → put_labels ls (plain ms) ≡ plain (insert_all ls ms)
put_all_plain [] ms = refl
put_all_plain (l ∷ ls) ms = ap (put_labels ls) (put_plain l ms) ∙ put_all_plain ls (insert l ms)

insert_all_order : (ls ms : List Label) → IsInOrder ms → IsInOrder (insert_all ls ms)
insert_all_order [] ms h = h
insert_all_order (l ∷ ls) ms h = insert_all_order ls (insert l ms) (insert_order l ms h)

-- what was written of any labels is written of what it is read as
pub labels_stable : (ls : List Label) → put_labels (labels_in (put_labels ls no_members)) no_members ≡ put_labels ls no_members
labels_stable ls =
    ap (λ ms. put_labels (labels_in ms) no_members) (put_all_plain ls [])
    ∙ ap (λ ns. put_labels ns no_members) (labels_plain (insert_all ls []))
    ∙ in_order_plain (insert_all ls []) (insert_all_order ls [] tt)
    ∙ sym (put_all_plain ls [])
