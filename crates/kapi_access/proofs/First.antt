-- The first ways name whom all ways name, and each grantee once.
use Rattle.std.proofs.Common.{◌≡◌, ℕ, Bool, true, false, ◌&&◌, ◌||◌, if◌then◌else◌, List, [], ◌∷◌, ◌++◌, refl, sym, ap, ◌∙◌}
use Rattle.std.proofs.lemmas.List.Folds.{list_any-append}
use Rattle.std.specs.List.{fold, list_any}
use Rattle.std.specs.Str.{bytes_eq}
use Rattle.std.proofs.lemmas.Bool.{and_parts, or_parts}
use Rattle.kapi_model.specs.declared.identity.Identity.{Identity}
use Rattle.kapi_rules.proofs.Covers.{same}
use Rattle.kapi_rules.specs.Rules.{allows}
use Rattle.kapi_rules.specs.declared.point.Point.{Point}
use Rattle.kapi_policy.specs.All.{all_bindings}
use Rattle.kapi_policy.specs.Decided.{bindings_in}
use Rattle.kapi_policy.specs.Objects.{PolicyObjects}
use Rattle.kapi_text.proofs.Booleans.{or_assoc, or_false, turned as turned_word}
use Rattle.kapi_escalation_laws.proofs.Elements.{passing}
use Rattle.kapi_aggregation.proofs.Lists.{some_at}
use Rattle.kapi_access.specs.declared.grantee.Grantee.{Grantee}
use Rattle.kapi_access.specs.declared.grantee.Grantee.TheVariants as grantee
use Rattle.kapi_access.specs.Grantees.{matches}
use Rattle.kapi_access.specs.Risks.{is_risky, risks}
use Rattle.kapi_access.specs.Who.{IsEachOnce, Way, first_ways, is_named, is_told, same_grantee, ways, who_anywhere, who_may, with_way, within}
use Rattle.kapi_access.specs.declared.first_ways.Listed.{Listed}
use Rattle.kapi_access.specs.declared.first_ways.Listed.TheVariants as listed

pub same_is : (a b : Grantee) → same_grantee a b ≡ true → a ≡ b
same_is (grantee.User a) (grantee.User b) h = ap grantee.User (same a b h)
same_is (grantee.Group a) (grantee.Group b) h = ap grantee.Group (same a b h)
same_is (grantee.User a) (grantee.Group b) h = absurd (cc h)
same_is (grantee.Group a) (grantee.User b) h = absurd (cc h)

turned : (a b : Grantee) → same_grantee a b ≡ same_grantee b a
turned (grantee.User a) (grantee.User b) = turned_word a b
turned (grantee.Group a) (grantee.Group b) = turned_word a b
turned (grantee.User a) (grantee.Group b) = refl
turned (grantee.Group a) (grantee.User b) = refl

module _ (l : Listed) where
  -- the way is the other's grantee's there
  abbrev test : Way → Way → Bool
  test a b = bytes_eq (within l a) (within l b) && same_grantee a.to b.to

  test_turned : (a b : Way) → test a b ≡ test b a
  test_turned a b = rw (turned_word (within l a) (within l b), turned a.to b.to) refl

  abbrev told : List Way → Way → Bool
  told list way = is_told (record { listed = l; list = list }) (within l way) way.to

  -- a list with one way more has its grantee too
  pub told_more : (list : List Way) (way : Way) (there : List ℕ) (to : Grantee) → is_told (record { listed = l; list = list ++ way ∷ [] }) there to
      ≡ ((bytes_eq there (within l way) && same_grantee to way.to) || is_told (record { listed = l; list = list }) there to)
  told_more list way there to =
      list_any-append (λ (w : Way). bytes_eq there (within l w) && same_grantee to w.to) list (way ∷ [])
      ∙ turn_round (is_told (record { listed = l; list = list }) there to) (bytes_eq there (within l way) && same_grantee to way.to)
    where
      turn_round : (a b : Bool) → (a || (b || false)) ≡ (b || a)
      turn_round true true = refl
      turn_round true false = refl
      turn_round false true = refl
      turn_round false false = refl

  -- sets that have one grantee more have those of what was found and the way behind it
  pub noted_more : (noted had : List ℕ → Grantee → Bool) (list longer : List Way) (way : Way) → longer ≡ list ++ way ∷ []
      → ((n : List ℕ) (g : Grantee) → had n g ≡ is_told (record { listed = l; list = list }) n g)
      → ((n : List ℕ) (g : Grantee) → noted n g ≡ ((bytes_eq n (within l way) && same_grantee g way.to) || had n g))
      → (n : List ℕ) (g : Grantee) → noted n g ≡ is_told (record { listed = l; list = longer }) n g
  noted_more noted had list longer way is old new n g =
      new n g ∙ ap (λ t. (bytes_eq n (within l way) && same_grantee g way.to) || t) (old n g) ∙ sym (told_more list way n g)
      ∙ ap (λ (ways : List Way). is_told (record { listed = l; list = ways }) n g) (sym is)

  -- a test that sees only a way's grantee, and where it is listed
  module _ (q : Way → Bool) (alike : (a b : Way) → a.to ≡ b.to → within l a ≡ within l b → q a ≡ q b) where
    some_told : (list : List Way) (way : Way) → told list way ≡ true → q way ≡ true → list_any q list ≡ true
    some_told list way has passes =
        let w = passing (λ (w : Way). test way w) list has in
        let parts = and_parts (bytes_eq (within l way) (within l w.0)) (same_grantee way.to w.0.to) w.1.1 in
        some_at q list w.0 w.1.0 (sym (alike way w.0 (same_is way.to w.0.to parts.1) (same (within l way) (within l w.0) parts.0)) ∙ passes)

    with_some : (list : List Way) (way : Way) → list_any q (if told list way then list else list ++ way ∷ []) ≡ (list_any q list || q way)
    with_some list way = by_case (told list way) refl
      where
        had : (a b : Bool) → (b ≡ true → a ≡ true) → a ≡ (a || b)
        had true b h = refl
        had false true h = h refl
        had false false h = refl

        last : (a b : Bool) → (a || (b || false)) ≡ (a || b)
        last true b = refl
        last false true = refl
        last false false = refl

        by_case : (t : Bool) → told list way ≡ t → list_any q (if t then list else list ++ way ∷ []) ≡ (list_any q list || q way)
        by_case true has = had (list_any q list) (q way) (some_told list way has)
        by_case false new = list_any-append q list (way ∷ []) ∙ last (list_any q list) (q way)

    folded_some : (list more : List Way) → list_any q (fold with_way (record { listed = l; list = list }) more).list ≡ (list_any q list || list_any q more)
    folded_some list [] = sym (or_false (list_any q list))
    folded_some list (way ∷ more) =
        folded_some (if told list way then list else list ++ way ∷ []) more
        ∙ ap (λ t. t || list_any q more) (with_some list way)
        ∙ or_assoc (list_any q list) (q way) (list_any q more)

    -- some first way passes exactly if some way does
    pub first_some : (list : List Way) → list_any q (first_ways l list) ≡ list_any q list
    first_some list = folded_some [] list

  -- ---- each once

  one_more_once : (list : List Way) (way : Way) → told list way ≡ false → IsEachOnce l list → IsEachOnce l (list ++ way ∷ [])
  one_more_once [] way new once = (refl, tt)
  one_more_once (w ∷ list) way new once =
      let parts = or_parts (test way w) (told list way) new in
      (told_more list way (within l w) w.to ∙ rw (test_turned w way, parts.0) once.0, one_more_once list way parts.1 once.1)

  with_once : (list : List Way) (way : Way) → IsEachOnce l list → IsEachOnce l (if told list way then list else list ++ way ∷ [])
  with_once list way once = by_case (told list way) refl
    where
      by_case : (t : Bool) → told list way ≡ t → IsEachOnce l (if t then list else list ++ way ∷ [])
      by_case true has = once
      by_case false new = one_more_once list way new once

  folded_once : (list more : List Way) → IsEachOnce l list → IsEachOnce l (fold with_way (record { listed = l; list = list }) more).list
  folded_once list [] once = once
  folded_once list (way ∷ more) once = folded_once (if told list way then list else list ++ way ∷ []) more (with_once list way once)

  first_once : (list : List Way) → IsEachOnce l (first_ways l list)
  first_once list = folded_once [] list tt

pub first_named : (identity : Identity) (list : List Way) → is_named (first_ways listed.Once list) identity ≡ is_named list identity
first_named identity list = first_some listed.Once (λ w. matches w.to identity) (λ a b to there. ap (λ g. matches g identity) to) list

pub each_who_once : (objects : PolicyObjects) (namespace : List ℕ) (p : Point) → IsEachOnce listed.Once (who_may objects namespace p)
unfolding who_may
each_who_once objects namespace p = first_once listed.Once (ways objects (λ rule. allows rule p) (bindings_in objects namespace))

pub each_anywhere_once : (objects : PolicyObjects) (p : Point) → IsEachOnce listed.InEachScope (who_anywhere objects p)
unfolding who_anywhere
each_anywhere_once objects p = first_once listed.InEachScope (ways objects (λ rule. allows rule p) (all_bindings objects))

pub each_risk_once : (objects : PolicyObjects) → IsEachOnce listed.InEachScope (risks objects)
unfolding risks
each_risk_once objects = first_once listed.InEachScope (ways objects is_risky (all_bindings objects))
