-- The numbers of rules, once one more has its number.
use Rattle.std.proofs.Common.{◌≡◌, ℕ, suc, ◌+◌, ◌<◌, append_assoc, arith, get_or, length-take, subst, take, length-append, ◌==◌, Bool, true, false, ◌&&◌, ◌||◌, List, [], ◌∷◌, ◌++◌, length, map, refl, ap, sym, ◌∙◌}
use Rattle.std.proofs.lemmas.List.{take_more}
use Rattle.std.specs.Prelude.{Err, IfOk, Ok, OnOk, Result}
use Rattle.kapi_text.proofs.Booleans.{or_false}
use Rattle.kapi_missing.proofs.Meets.{at_push}
use Rattle.kapi_model.specs.declared.policy_rule.PolicyRule.{PolicyRule}
use Rattle.kapi_missing.specs.Private.Index.{IsCovered, IsIndex}
use Rattle.kapi_missing.specs.Private.Stoppers.{Stopper, at, earlier_one, held_one, stoppers}
use Rattle.kapi_missing.specs.declared.index.Rules.{Rules}

pub grown : (test : Stopper → Bool) (all : List Stopper) (s : Stopper) (number n : ℕ) (old new x : Bool) → number ≡ length all → old ≡ at (map test all) n
    → x ≡ test s → new ≡ (old || (x && (number == n))) → new ≡ at (map test (all ++ s ∷ [])) n
grown test all s number n old new x is were holds added =
    added ∙ ap (λ (b : Bool). old || (b && (number == n))) holds ∙ ap (λ (b : Bool). b || (test s && (number == n))) were
    ∙ ap (λ k. at (map test all) n || (test s && (k == n))) is ∙ sym (at_push test all s n)

-- a rule for which the test does not hold adds no number
pub kept : (test : Stopper → Bool) (all : List Stopper) (s : Stopper) (n : ℕ) (old : Bool) → test s ≡ false → old ≡ at (map test all) n → old ≡ at (map test (all ++ s ∷ [])) n
kept test all s n old fails were = were ∙ sym (at_push test all s n ∙ rw fails (or_false (at (map test all) n)))

-- the length of what stands under a text
pub lengths_known : (old new put same known : Bool) → new ≡ (old || (put && same)) → (old ≡ true → known ≡ true) → (put ≡ true → known ≡ true) → new ≡ true → known ≡ true
lengths_known true new put same known is before added there = before refl
lengths_known false new true same known is before added there = added refl
lengths_known false new false same known is before added there = absurd (let never = sym is ∙ there in cc)

-- two facts of one that went well
pub both_ok : {T E P Q R : Type 0} (r : Result T E) → (P → Q → R) → OnOk r P → OnOk r Q → OnOk r R
both_ok (Ok x) leads p q = leads p q
both_ok (Err e) leads p q = p

-- a wanted rule covers nothing besides what it lists
pub still_covered : (all : List Stopper) (rule : PolicyRule) (rules : Rules) → IsCovered all rules → IsCovered (all ++ earlier_one rule ∷ []) rules
still_covered all rule rules were = record {
  any_verb = λ n. kept _ all (earlier_one rule) n _ refl (were.any_verb n);
  any_group = λ n. kept _ all (earlier_one rule) n _ refl (were.any_group n);
  any_resource = λ n. kept _ all (earlier_one rule) n _ refl (were.any_resource n);
  any_name = λ n. kept _ all (earlier_one rule) n _ refl (were.any_name n);
  subresources = λ text n. kept _ all (earlier_one rule) n _ refl (were.subresources text n);
  beginnings = λ text n. kept _ all (earlier_one rule) n _ refl (were.beginnings text n);
  lengths = were.lengths;
}

length_map : {X Y : Type 0} (f : X → Y) (xs : List X) → length (map f xs) ≡ length xs
length_map f [] = refl
length_map f (x ∷ xs) = ap (λ n. suc n) (length_map f xs)

pub held_number : (held : List PolicyRule) → length (map held_one held) ≡ length held
held_number held = length_map held_one held

pub wanted_number : (held before : List PolicyRule) → length (stoppers held before) ≡ length held + length before
wanted_number held before =
    length-append (map held_one held) (map earlier_one before) ∙ rw (length_map held_one held, length_map earlier_one before) refl

pub next_held : (held : List PolicyRule) (rule : PolicyRule) → map held_one (held ++ rule ∷ []) ≡ map held_one held ++ held_one rule ∷ []
next_held [] rule = refl
next_held (h ∷ held) rule = ap (λ r. held_one h ∷ r) (next_held held rule)

map_push : (before : List PolicyRule) (rule : PolicyRule) → map earlier_one (before ++ rule ∷ []) ≡ map earlier_one before ++ earlier_one rule ∷ []
map_push [] rule = refl
map_push (b ∷ before) rule = ap (λ r. earlier_one b ∷ r) (map_push before rule)

pub next_wanted : (held before : List PolicyRule) (rule : PolicyRule) → stoppers held (before ++ rule ∷ []) ≡ stoppers held before ++ earlier_one rule ∷ []
next_wanted held before rule = ap (λ r. map held_one held ++ r) (map_push before rule) ∙ sym (append_assoc (map held_one held) (map earlier_one before) (earlier_one rule ∷ []))

length_take : {X : Type 0} (n : ℕ) (xs : List X) → n < length xs → length (take n xs) ≡ n
length_take n xs within = length-take n xs ∙ omega (arith, within)

pub held_step : (held : List PolicyRule) (number : ℕ) (rule : PolicyRule) (old new : Rules) → number < length held → rule ≡ get_or held number rule
    → ((all : List Stopper) → number ≡ length all → IsIndex all old → IsIndex (all ++ held_one rule ∷ []) new)
    → IsIndex (map held_one (take number held)) old → IsIndex (map held_one (take (number + 1) held)) new
held_step held number rule old new within is more were =
    let long : number ≡ length (map held_one (take number held)) = sym (held_number (take number held) ∙ length_take number held within) in
    let next : map held_one (take (number + 1) held) ≡ map held_one (take number held) ++ held_one rule ∷ [] =
    ap (map held_one) (take_more held number rule within ∙ ap (λ r. take number held ++ r ∷ []) (sym is)) ∙ next_held (take number held) rule in
    subst (λ all. IsIndex all new) (sym next) (more (map held_one (take number held)) long were)

pub wanted_step : (held wanted : List PolicyRule) (number position : ℕ) (rule : PolicyRule) (old new : Rules) → number ≡ length held + position → position < length wanted
    → rule ≡ get_or wanted position rule → ((all : List Stopper) → number ≡ length all → IsIndex all old → IsIndex (all ++ earlier_one rule ∷ []) new)
    → IsIndex (stoppers held (take position wanted)) old → IsIndex (stoppers held (take (position + 1) wanted)) new
wanted_step held wanted number position rule old new at_number within is more were =
    let long : number ≡ length (stoppers held (take position wanted)) = at_number ∙ sym (wanted_number held (take position wanted) ∙ ap (λ k. length held + k) (length_take position wanted within)) in
    let next : stoppers held (take (position + 1) wanted) ≡ stoppers held (take position wanted) ++ earlier_one rule ∷ [] =
    ap (stoppers held) (take_more wanted position rule within ∙ ap (λ r. take position wanted ++ r ∷ []) (sym is)) ∙ next_wanted held (take position wanted) rule in
    subst (λ all. IsIndex all new) (sym next) (more (stoppers held (take position wanted)) long were)

pub if_ok : {T E : Type 0} {P Q : T → Type 0} (r : Result T E) → ((x : T) → P x → Q x) → IfOk r P → IfOk r Q
if_ok (Ok x) leads p = leads x p
if_ok (Err e) leads p = p
