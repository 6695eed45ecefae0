-- Lists that are made one element after another, if a fault may stop it; and the values in a selector's text.
use Rattle.std.proofs.Common.{◌≡◌, ℕ, ◌+◌, ◌-◌, ◌<◌, ◌≤◌, List, [], ◌∷◌, ◌++◌, length, get_or, take, drop, false, Option, Some, None, Result, Ok, Err, refl, sym, ap, ◌∙◌, append_assoc, arith}
use Rattle.std.proofs.Math.Dec.{eqb-suc-zero}
use Rattle.std.proofs.lemmas.List.{append-nil, take_rest}
use Rattle.std.specs.Borrow.{Bor}
use Rattle.std.specs.Option.{IfSome, option_copied}
use Rattle.kapi_text.specs.ResultIs.{Fails, ◌>>=◌}
use Rattle.kapi_model.specs.declared.selector.Requirement.{Requirement}
use Rattle.kapi_model.specs.declared.selector_token.Token.{Token}
use Rattle.kapi_model.specs.declared.selector_token.Token.TheVariants.{Word, Equals, NotEquals, Not, Open, Close, Comma}
use Rattle.kapi_model.specs.Private.SelectorSteps.{behind_value, pieces_left, value_and, values_left}
use Rattle.kapi_model.specs.SelectorText.{Fault, first_value, listed, pieces, requirement, requirements, word_of}

-- elements before those that follow
abbrev pub before : {A F : Type 0} → List A → Result (List A) F → Result (List A) F
before xs r = r >>= λ ys. Ok (xs ++ ys)

pub before_none : {A F : Type 0} (r : Result (List A) F) → before [] r ≡ r
before_none (Ok ys) = refl
before_none (Err e) = refl

pub before_more : {A F : Type 0} (xs : List A) (x : A) (r : Result (List A) F) → before xs (r >>= λ ys. Ok (x ∷ ys)) ≡ before (xs ++ x ∷ []) r
before_more xs x (Ok ys) = ap Ok (sym (append_assoc xs (x ∷ []) ys))
before_more xs x (Err e) = refl

pub before_end : {A F : Type 0} (xs : List A) → before {A = A} {F = F} xs (Ok []) ≡ Ok xs
before_end xs = ap Ok (append-nil xs)

-- a fault of a part is one of the whole
pub fails_on : {A B F : Type 0} (o : Option F) (r : Result A F) (s : Result B F) → ((f : F) → r ≡ Err f → s ≡ Err f) → Fails o r → Fails o s
fails_on None r s h g = tt
fails_on (Some f) r s h g = h f g

-- ---- requirements

pub requirement_more : (xs : List Requirement) (r : Requirement) (piece : List Token) (ps : List (List Token)) → requirement piece ≡ Ok r
    → before xs (requirements (piece ∷ ps)) ≡ before (xs ++ r ∷ []) (requirements ps)
unfolding requirements
requirement_more xs r piece ps h = rw h (before_more xs r (requirements ps))

pub requirement_fails : (xs : List Requirement) (piece : List Token) (ps : List (List Token)) (f : Fault) → requirement piece ≡ Err f
    → before xs (requirements (piece ∷ ps)) ≡ Err f
unfolding requirements
requirement_fails xs piece ps f h = rw h refl

pub no_requirement : requirements [] ≡ Ok []
unfolding requirements
no_requirement = refl

pub requirement_step : (xs : List Requirement) (r : Requirement) (rest : Option (List Token)) (left piece : List Token) (behind : List (List Token)) (all : Result (List Requirement) Fault)
    → rest ≡ Some left → pieces false left ≡ piece ∷ behind → requirement piece ≡ Ok r → before xs (requirements (pieces_left rest)) ≡ all
    → before (xs ++ r ∷ []) (requirements behind) ≡ all
requirement_step xs r rest left piece behind all is parted ok inv =
    sym (requirement_more xs r piece behind ok) ∙ ap (λ ps. before xs (requirements ps)) (sym parted) ∙ ap (λ o. before xs (requirements (pieces_left o))) (sym is) ∙ inv

pub requirement_faults : (xs : List Requirement) (o : Option Fault) (rest : Option (List Token)) (left piece : List Token) (behind : List (List Token)) (all : Result (List Requirement) Fault)
    → rest ≡ Some left → pieces false left ≡ piece ∷ behind → Fails o (requirement piece) → before xs (requirements (pieces_left rest)) ≡ all → Fails o all
requirement_faults xs o rest left piece behind all is parted fails inv =
    fails_on o (requirement piece) all
    (λ f h. sym inv ∙ ap (λ o. before xs (requirements (pieces_left o))) is ∙ ap (λ ps. before xs (requirements ps)) parted ∙ requirement_fails xs piece behind f h) fails

pub requirements_end : (xs : List Requirement) (rest : Option (List Token)) (all : Result (List Requirement) Fault) → rest ≡ None → before xs (requirements (pieces_left rest)) ≡ all → all ≡ Ok xs
requirements_end xs rest all is inv =
    sym inv ∙ ap (λ o. before xs (requirements (pieces_left o))) is ∙ ap (before xs) no_requirement ∙ before_end xs

-- ---- values

listed_behind_word : (v : List ℕ) (ts : List Token) → listed (Word v ∷ ts) ≡ value_and v ts
unfolding listed
listed_behind_word v [] = refl
listed_behind_word v (Close ∷ []) = refl
listed_behind_word v (Close ∷ t ∷ ts) = rw (eqb-suc-zero (length ts)) refl
listed_behind_word v (Comma ∷ ts) = refl
listed_behind_word v (Word w ∷ ts) = refl
listed_behind_word v (Equals ∷ ts) = refl
listed_behind_word v (NotEquals ∷ ts) = refl
listed_behind_word v (Not ∷ ts) = refl
listed_behind_word v (Open ∷ ts) = refl

listed_by_word : (t : Token) (ts : List Token) (v : List ℕ) → word_of t ≡ Some v → listed (t ∷ ts) ≡ value_and v ts
listed_by_word (Word w) ts v h = let same : w ≡ v = cc in rw same (listed_behind_word v ts)
listed_by_word Equals ts v h = cc
listed_by_word NotEquals ts v h = cc
listed_by_word Not ts v h = cc
listed_by_word Open ts v h = cc
listed_by_word Close ts v h = cc
listed_by_word Comma ts v h = cc

listed_by_other : (t : Token) (ts : List Token) → word_of t ≡ None → listed (t ∷ ts) ≡ value_and [] (t ∷ ts)
unfolding listed
listed_by_other (Word w) ts h = cc
listed_by_other Equals ts h = refl
listed_by_other NotEquals ts h = refl
listed_by_other Not ts h = refl
listed_by_other Open ts h = refl
listed_by_other Close [] h = refl
listed_by_other Close (t ∷ ts) h = rw (eqb-suc-zero (length ts)) refl
listed_by_other Comma ts h = refl

pub nothing_listed : (s : List Token) → length s < 1 → listed s ≡ value_and [] s
unfolding listed
nothing_listed [] h = refl
nothing_listed (t ∷ ts) h = absurd (omega arith)

pub word_is_first : (s : List Token) (t : Token) (v : List ℕ) → 0 < length s → t ≡ get_or s 0 t → word_of t ≡ Some v → listed s ≡ value_and v (take (length s - 1) (drop 1 s))
word_is_first [] t v some at word = absurd (omega arith)
word_is_first (x ∷ xs) t v some at word = listed_by_word x xs v (ap word_of (sym at) ∙ word) ∙ ap (value_and v) (sym (take_rest (x ∷ xs) 1))

pub other_is_first : (s : List Token) (t : Token) → 0 < length s → t ≡ get_or s 0 t → word_of t ≡ None → listed s ≡ value_and [] s
other_is_first [] t some at other = absurd (omega arith)
other_is_first (x ∷ xs) t some at other = listed_by_other x xs (ap word_of (sym at) ∙ other)

pub value_more : (xs : List (List ℕ)) (left behind : List Token) (v : List ℕ) (o : Option (List Token)) → listed left ≡ value_and v behind → behind_value behind ≡ Ok o
    → before xs (listed left) ≡ before (xs ++ v ∷ []) (values_left o)
value_more xs left behind v o split rest =
    let e : listed left ≡ first_value v (values_left o) = split ∙ ap (λ r. r >>= λ l. first_value v (values_left l)) rest in
    ap (before xs) e ∙ before_more xs v (values_left o)

pub value_fails : (xs : List (List ℕ)) (left behind : List Token) (v : List ℕ) (f : Fault) → listed left ≡ value_and v behind → behind_value behind ≡ Err f
    → before xs (listed left) ≡ Err f
value_fails xs left behind v f split fault =
    ap (before xs) (split ∙ ap (λ r. r >>= λ l. first_value v (values_left l)) fault)

pub value_step : (xs : List (List ℕ)) (rest : Option (List Token)) (left behind : List Token) (v : List ℕ) (o : Option (List Token)) (all : Result (List (List ℕ)) Fault)
    → rest ≡ Some left → listed left ≡ value_and v behind → behind_value behind ≡ Ok o → before xs (values_left rest) ≡ all → before (xs ++ v ∷ []) (values_left o) ≡ all
value_step xs rest left behind v o all is split ok inv =
    sym (value_more xs left behind v o split ok) ∙ ap (λ r. before xs (values_left r)) (sym is) ∙ inv

pub value_faults : (xs : List (List ℕ)) (o : Option Fault) (rest : Option (List Token)) (left behind : List Token) (v : List ℕ) (all : Result (List (List ℕ)) Fault)
    → rest ≡ Some left → listed left ≡ value_and v behind → Fails o (behind_value behind) → before xs (values_left rest) ≡ all → Fails o all
value_faults xs o rest left behind v all is split fails inv =
    fails_on o (behind_value behind) all (λ f h. sym inv ∙ ap (λ r. before xs (values_left r)) is ∙ value_fails xs left behind v f split h) fails

pub values_end : (xs : List (List ℕ)) (rest : Option (List Token)) (all : Result (List (List ℕ)) Fault) → rest ≡ None → before xs (values_left rest) ≡ all → all ≡ Ok xs
values_end xs rest all is inv = sym inv ∙ ap (λ r. before xs (values_left r)) is ∙ before_end xs

-- ---- what is left

-- how many tokens are left, and one more if a comma comes before them
abbrev pub size_left : Option (List Token) → ℕ
size_left None = 0
size_left (Some ts) = length ts + 1

pub less_left : (o : Option (Bor (List Token))) (n m : ℕ) → IfSome o (λ left. length left.now < n) → n ≤ m → size_left (option_copied o) < m + 1
less_left None n m h le = omega arith
less_left (Some left) n m h le = omega (arith, h)
