-- The text of an event, piece by piece.
use Rattle.std.proofs.Common.{◌≡◌, ℕ, List, [], ◌∷◌, ◌++◌, append_assoc, codes, refl}
use Rattle.json.specs.Print.{escape_byte, quoted}
use Rattle.serde_json.specs.Data.{Data}
use Rattle.serde_json.specs.Written.{compact_text}
use Rattle.kapi_watch.specs.Text.{event_tree}

cons_append : (x : ℕ) (xs ys : List ℕ) → (x ∷ xs) ++ ys ≡ x ∷ (xs ++ ys)
cons_append x xs ys = refl

nil_append : (xs : List ℕ) → [] ++ xs ≡ xs
nil_append xs = refl

-- pieces that are written one after the other are the whole
regroup : (a o t k : List ℕ) →
    (((([] ++ (123 ∷ (a ++ 58 ∷ []))) ++ o) ++ (44 ∷ (t ++ 58 ∷ []))) ++ k) ++ 125 ∷ []
    ≡ 123 ∷ (a ++ 58 ∷ (o ++ 44 ∷ (t ++ 58 ∷ (k ++ 125 ∷ []))))
regroup a o t k = simp (append_assoc, cons_append, nil_append)

-- an event's members, written one after the other, are its text
pub event_joined : (kind : List ℕ) (d : Data) →
    (((([] ++ codes "{\"object\":") ++ compact_text d) ++ codes ",\"type\":") ++ quoted kind) ++ codes "}"
    ≡ compact_text (event_tree kind d)
unfolding escape_byte
event_joined kind d = regroup (quoted (codes "object")) (compact_text d) (quoted (codes "type")) (quoted kind)
