-- The uses that an audit log shows have no slash in their resources.
use Rattle.std.proofs.Common.{◌≡◌, ◌⊎◌, inl, inr, Bool, true, false, if◌then◌else◌, List, [], ◌∷◌, ◌++◌, codes, Option, Some, None, Ok, refl, subst}
use Rattle.std.proofs.lemmas.Bool.{and_parts, not-true}
use Rattle.serde_json.specs.Data.{Data}
use Rattle.kapi_text.specs.ResultIs.{◌>>=◌}
use Rattle.kapi_lines.specs.Lines.{NumberedLine}
use Rattle.kapi_object.specs.Tree.{json_object}
use Rattle.kapi_rules.specs.Points.{HasPlainResource}
use Rattle.kapi_rules.specs.declared.point.Point.{Point}
use Rattle.kapi_rules.specs.declared.point.Point.TheVariants as point
use Rattle.kapi_aggregation.specs.Members.{Has}
use Rattle.kapi_escalation_laws.proofs.Elements.{has_either}
use Rattle.kapi_reviews.specs.declared.question.Question.{Question}
use Rattle.kapi_suggest.specs.Events.{has_slashed_resource, is_decided, is_event, is_right, refused_if, shown_by, shown_if, shown_in, use_of, used_if, uses_in, with_shown}
use Rattle.kapi_suggest.specs.Uses.{ArePlain}
use Rattle.kapi_suggest.specs.declared.event.Shown.{Shown}
use Rattle.kapi_suggest.specs.declared.event.Shown.TheVariants as shown

plain_point : (p : Point) → has_slashed_resource p ≡ false → HasPlainResource p
plain_point (point.Resource p) h = h
plain_point (point.Url p) h = tt

-- what is shown, if it is a use, is plain
abbrev IsPlain : Shown → Type 0
IsPlain (shown.Used u) = HasPlainResource u.point
IsPlain (shown.Refused u) = Unit {0}
IsPlain shown.Nothing = Unit {0}
IsPlain shown.NoEvent = Unit {0}

plain_use : (u : Question) (r : Bool) → is_right u ≡ r → IsPlain (if r then shown.Used u else shown.NoEvent)
plain_use u true is = plain_point u.point (not-true _ (and_parts _ _ is).1)
plain_use u false is = tt

plain_refusal : (u : Question) (r : Bool) → IsPlain (if r then shown.Refused u else shown.NoEvent)
plain_refusal u true = tt
plain_refusal u false = tt

plain_tree : (d : Data) → IsPlain (shown_by d)
unfolding shown_by
plain_tree d = by_event (is_event d) (is_decided (codes "allow") d) (is_decided (codes "forbid") d)
  where
    by_event : (e w r : Bool) → IsPlain (if e then (if w then used_if (use_of d) else (if r then refused_if (use_of d) else shown.Nothing)) else shown.NoEvent)
    by_event true true r = plain_use (use_of d) (is_right (use_of d)) refl
    by_event true false true = plain_refusal (use_of d) (is_right (use_of d))
    by_event true false false = tt
    by_event false w r = tt

plain_line : (o : Option Data) → IsPlain (shown_if o)
plain_line None = tt
plain_line (Some d) = plain_tree d

more_plain : (uses : List Question) (u : Question) → ArePlain uses → HasPlainResource u.point → ArePlain (uses ++ u ∷ [])
more_plain uses u plain own = λ v has. by_case v (has_either uses (u ∷ []) v has)
  where
    by_case : (v : Question) → Has uses v ⊎ Has (u ∷ []) v → HasPlainResource v.point
    by_case v (inl has) = plain v has
    by_case v (inr (inl is)) = let P : Question → Type 0 = λ q. HasPlainResource q.point in subst P is own
    by_case v (inr (inr never)) = absurd never

pub plain_uses : (done : List Question) (lines : List NumberedLine) (uses : List Question) → ArePlain done → uses_in done lines ≡ Ok uses → ArePlain uses
unfolding uses_in
plain_uses done [] uses plain h = let P : List Question → Type 0 = λ l. ArePlain l in let is : done ≡ uses = cc h in subst P is plain
plain_uses done (l ∷ lines) uses plain h = by_shown (shown_in l.text) (plain_line (json_object l.text)) (λ more more_are k. plain_uses more lines uses more_are k) h
  where
    by_shown : (s : Shown) → IsPlain s → ((more : List Question) → ArePlain more → uses_in more lines ≡ Ok uses → ArePlain uses)
        → (with_shown done l.number s >>= λ more. uses_in more lines) ≡ Ok uses → ArePlain uses
    by_shown (shown.Used u) own rest k = rest (done ++ u ∷ []) (more_plain done u plain own) k
    by_shown (shown.Refused u) own rest k = rest done plain k
    by_shown shown.Nothing own rest k = rest done plain k
    by_shown shown.NoEvent own rest k = absurd (cc k)
