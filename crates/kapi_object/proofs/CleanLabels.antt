-- Labels without faults have none as they are kept.
use Rattle.std.proofs.Common.{◌≡◌, ◌∙◌, ℕ, List, [], ◌∷◌, Option, Some, None, refl, sym, ap}
use Rattle.std.proofs.lemmas.Map.Text.{is_eq-slice_cmp}
use Rattle.std.proofs.lemmas.Slice.Eq.{bytes_eq-Decides}
use Rattle.std.specs.Cmp.Lexicographic.{slice_cmp}
use Rattle.std.specs.Ordering.{nat_cmp, match_ordering, is_eq}
use Rattle.std.specs.declared.cmp.Ordering.{Ordering}
use Rattle.std.specs.declared.cmp.Ordering.TheVariants.{Less, Equal, Greater}
use Rattle.serde_json.specs.Data.{Data, string, object, Members, no_members, member, put}
use Rattle.kapi_model.specs.declared.selector.Label.{Label}
use Rattle.kapi_object.specs.Contents.{text_of, labels_in, put_labels, members_value}
use Rattle.kapi_object.specs.Tree.{members_or_none}
use Rattle.kapi_object.proofs.CleanLists.{parts, both}
use Rattle.kapi_object.specs.Faults.{entry_faults, members_faults, entries_faults}
use Rattle.kapi_object.specs.declared.metadata.Entries.TheVariants.{Labels}

-- a label without fault
abbrev IsClean : List ℕ → List ℕ → List ℕ → Type 0
IsClean field key value = entry_faults Labels field key (string value) ≡ []

-- each label without fault
abbrev AreClean : List ℕ → List Label → Type 0
AreClean field [] = Unit {0}
AreClean field (l ∷ ls) = IsClean field l.key l.value × AreClean field ls

entry_text : (field key : List ℕ) (d : Data) → entry_faults Labels field key d ≡ [] → IsClean field key (text_of d)
unfolding entry_faults
entry_text field key (string s) h = h
entry_text field key _ h = absurd (cc h)

labels_clean : (field : List ℕ) (ms : Members) → members_faults Labels field ms ≡ [] → AreClean field (labels_in ms)
unfolding members_faults
labels_clean field no_members h = tt
labels_clean field (member k d ms) h =
    let hs : (entry_faults Labels field k d ≡ []) × (members_faults Labels field ms ≡ []) = parts (entry_faults Labels field k d) (members_faults Labels field ms) h in
    (entry_text field k d hs.0, labels_clean field ms hs.1)

same_key : (k l : List ℕ) → slice_cmp nat_cmp k l ≡ Equal → k ≡ l
same_key k l e = (bytes_eq-Decides k l).0 (sym (is_eq-slice_cmp k l) ∙ ap is_eq e)

put_clean : (field k v : List ℕ) (ms : Members) → IsClean field k v → members_faults Labels field ms ≡ [] → members_faults Labels field (put k (string v) ms) ≡ []
unfolding members_faults
put_clean field k v no_members hk hm = both (entry_faults Labels field k (string v)) [] hk refl
put_clean field k v (member l e ms) hk hm =
    let hs : (entry_faults Labels field l e ≡ []) × (members_faults Labels field ms ≡ []) = parts (entry_faults Labels field l e) (members_faults Labels field ms) hm in
    let P : Ordering → Type 0 = λ o. slice_cmp nat_cmp k l ≡ o
    → members_faults Labels field (match_ordering o (member k (string v) (member l e ms)) (member l (string v) ms) (member l e (put k (string v) ms))) ≡ [] in
    let cases : P (slice_cmp nat_cmp k l) = elim (slice_cmp nat_cmp k l) as P [
      | Less ↦ λ i. both (entry_faults Labels field k (string v)) (members_faults Labels field (member l e ms)) hk hm
      | Equal ↦ λ i. both (entry_faults Labels field l (string v)) (members_faults Labels field ms) (rw (← same_key k l i) hk) hs.1
      | Greater ↦ λ i. both (entry_faults Labels field l e) (members_faults Labels field (put k (string v) ms)) hs.0 (put_clean field k v ms hk hs.1)
    ] in
    cases refl

put_labels_clean : (field : List ℕ) (ls : List Label) (ms : Members) → AreClean field ls → members_faults Labels field ms ≡ [] → members_faults Labels field (put_labels ls ms) ≡ []
put_labels_clean field [] ms hl hm = hm
put_labels_clean field (l ∷ ls) ms hl hm = put_labels_clean field ls (put l.key (string l.value) ms) hl.1 (put_clean field l.key l.value ms hl.0 hm)

members_clean : (field : List ℕ) (o : Option Data) → entries_faults Labels field o ≡ [] → members_faults Labels field (members_or_none o) ≡ []
unfolding entries_faults members_faults
members_clean field None h = refl
members_clean field (Some (object ms)) h = h
members_clean field (Some _) h = absurd (cc h)

members_told : (field : List ℕ) (ms : Members) → members_faults Labels field ms ≡ [] → entries_faults Labels field (members_value ms) ≡ []
unfolding entries_faults
members_told field no_members h = refl
members_told field (member k d ms) h = h

pub labels_part : (field : List ℕ) (o : Option Data) → entries_faults Labels field o ≡ []
    → entries_faults Labels field (members_value (put_labels (labels_in (members_or_none o)) no_members)) ≡ []
unfolding members_faults
labels_part field o h =
    members_told field (put_labels (labels_in (members_or_none o)) no_members)
    (put_labels_clean field (labels_in (members_or_none o)) no_members (labels_clean field (members_or_none o) (members_clean field o h)) refl)
