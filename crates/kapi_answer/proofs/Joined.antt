-- The text of a list, piece by piece.
use Rattle.std.proofs.Common.{◌≡◌, ℕ, List, [], ◌∷◌, ◌++◌, append_assoc, codes, refl}
use Rattle.json.specs.Print.{escape_byte, quoted}
use Rattle.serde_json.specs.Data.{Items, array, member, no_members, object, string}
use Rattle.serde_json.specs.Written.{compact_text}

cons_append : (x : ℕ) (xs ys : List ℕ) → (x ∷ xs) ++ ys ≡ x ∷ (xs ++ ys)
cons_append x xs ys = refl

nil_append : (xs : List ℕ) → [] ++ xs ≡ xs
nil_append xs = refl

-- pieces that are written one after the other are the whole
regroup : (a v b i c k d e r : List ℕ) →
    ((((([] ++ (123 ∷ [] ++ (a ++ 58 ∷ v))) ++ (44 ∷ (b ++ 58 ∷ []))) ++ i) ++ (44 ∷ [] ++ (c ++ 58 ∷ k))) ++ ((44 ∷ (d ++ 58 ∷ 123 ∷ [])) ++ (e ++ 58 ∷ r))) ++ 125 ∷ 125 ∷ []
    ≡ 123 ∷ (a ++ 58 ∷ (v ++ 44 ∷ (b ++ 58 ∷ (i ++ 44 ∷ (c ++ 58 ∷ (k ++ 44 ∷ (d ++ 58 ∷ ((123 ∷ (e ++ 58 ∷ (r ++ 125 ∷ []))) ++ 125 ∷ []))))))))
regroup a v b i c k d e r = simp (append_assoc, cons_append, nil_append)

-- a list's members, written one after the other, are its text
pub list_joined : (version kind revision : List ℕ) (ds : Items) →
    ((((([] ++ (codes "{" ++ (quoted (codes "apiVersion") ++ 58 ∷ quoted version))) ++ codes ",\"items\":") ++ compact_text (array ds))
    ++ (codes "," ++ (quoted (codes "kind") ++ 58 ∷ quoted kind))) ++ (codes ",\"metadata\":{" ++ (quoted (codes "resourceVersion") ++ 58 ∷ quoted revision))) ++ codes "}}"
    ≡ compact_text (object
    (member (codes "apiVersion") (string version)
    (member (codes "items") (array ds)
    (member (codes "kind") (string kind)
    (member (codes "metadata") (object (member (codes "resourceVersion") (string revision) no_members)) no_members)))))
unfolding escape_byte
list_joined version kind revision ds =
    regroup (quoted (codes "apiVersion")) (quoted version) (quoted (codes "items")) (compact_text (array ds)) (quoted (codes "kind")) (quoted kind) (quoted (codes "metadata")) (quoted (codes "resourceVersion")) (quoted revision)
