-- The test of labels decides whether they are equal.
use Rattle.std.proofs.Common.{◌≡◌, ◌∙◌, List, [], ◌∷◌, true, ap, refl, bytes_eq, Decides}
use Rattle.std.proofs.lemmas.Bool.{and_parts, and_from}
use Rattle.std.proofs.lemmas.Slice.Eq.{bytes_eq-Decides}
use Rattle.kapi_model.specs.declared.selector.Label.{Label}
use Rattle.kapi_store.specs.Private.Alike.{same_label, same_labels}

label_equal : (l m : Label) → same_label l m ≡ true → l ≡ m
label_equal l m h =
    let parts = and_parts (bytes_eq l.key m.key) (bytes_eq l.value m.value) h in
    λ i. record { key = (bytes_eq-Decides l.key m.key).0 parts.0 i; value = (bytes_eq-Decides l.value m.value).0 parts.1 i }

label_itself : (l : Label) → same_label l l ≡ true
label_itself l =
    and_from (bytes_eq l.key l.key) (bytes_eq l.value l.value) ((bytes_eq-Decides l.key l.key).1 refl) ((bytes_eq-Decides l.value l.value).1 refl)

labels_equal : (ls ms : List Label) → same_labels ls ms ≡ true → ls ≡ ms
labels_equal [] [] h = refl
labels_equal [] (m ∷ ms) h = absurd (cc h)
labels_equal (l ∷ ls) [] h = absurd (cc h)
labels_equal (l ∷ ls) (m ∷ ms) h =
    let parts = and_parts (same_label l m) (same_labels ls ms) h in
    ap (λ (n : Label). n ∷ ls) (label_equal l m parts.0) ∙ ap (λ (ns : List Label). m ∷ ns) (labels_equal ls ms parts.1)

labels_themselves : (ls : List Label) → same_labels ls ls ≡ true
labels_themselves [] = refl
labels_themselves (l ∷ ls) = and_from (same_label l l) (same_labels ls ls) (label_itself l) (labels_themselves ls)

pub labels_decide : (ls ms : List Label) → Decides (same_labels ls ms) (ls ≡ ms)
labels_decide ls ms = (labels_equal ls ms, λ e. rw e (labels_themselves ms))
