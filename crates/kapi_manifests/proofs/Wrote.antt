-- Lines that are written one after the other.
use Rattle.std.proofs.Common.{◌≡◌, ◌∙◌, ◌+◌, ◌++◌, ℕ, List, [], ◌∷◌, append_assoc, refl, ap}
use Rattle.std.proofs.lemmas.List.{length-append}
use Rattle.serde_json.specs.Data.{Data}
use Rattle.kapi_manifests.specs.Written.{AreLines, AreOf, IsTextOf}
use Rattle.kapi_manifests.specs.declared.fault.Origin.{Origin}
use Rattle.kapi_manifests.specs.declared.prepared.Lines.{Lines}

-- one line more
pub line_more : (text line : List ℕ) (ds : List Data) (d : Data) → AreLines text ds → IsTextOf line d → AreLines (text ++ (line ++ 10 ∷ [])) (ds ++ d ∷ [])
line_more text line [] d none reads = (line, [], rw none refl, reads, refl)
line_more text line (e ∷ ds) d lines reads =
    (lines.0, lines.1 ++ (line ++ 10 ∷ []), ap (λ t. t ++ (line ++ 10 ∷ [])) lines.2 ∙ append_assoc lines.0 (10 ∷ lines.1) (line ++ 10 ∷ []), lines.3, line_more lines.1 line ds d lines.4 reads)

-- the text of one object more, and its place
pub pushed : (old new : Lines) (line : List ℕ) (ds : List Data) (d : Data) (o : Origin) → AreOf old ds → new.text.items ≡ (old.text.items ++ line) ++ 10 ∷ []
    → new.origins.items ≡ old.origins.items ++ o ∷ [] → IsTextOf line d → AreOf new (ds ++ d ∷ [])
pushed old new line ds d o of text origins reads = record {
  text = rw (text, append_assoc old.text.items line (10 ∷ [])) (line_more old.text.items line ds d of.text reads);
  origins = rw (origins, length-append old.origins.items (o ∷ []), length-append ds (d ∷ [])) (ap (λ n. n + 1) of.origins);
}

-- four lists, one after the other
pub in_order : {X : Type 0} (h m s o k t : List X) → k ≡ m → t ≡ s → ((h ++ k) ++ t) ++ o ≡ h ++ (m ++ (s ++ o))
in_order h m s o k t first second = rw (first, second) (append_assoc (h ++ m) s o ∙ append_assoc h m (s ++ o))
