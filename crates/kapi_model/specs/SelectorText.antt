-- The text of a label selector (Kubernetes, 'Labels and Selectors', 'List and watch filtering').
use Rattle.std.specs.Prelude.{ℕ, ◌==◌, Bool, true, false, ◌&&◌, ◌||◌, if◌then◌else◌, List, [], ◌∷◌, length, codes, Option, Some, None, Result, Ok, Err}
use Rattle.std.specs.List.{list_all}
use Rattle.std.specs.Str.{bytes_eq}
use Rattle.kapi_text.specs.ResultIs.{◌>>=◌}
use Rattle.kapi_model.specs.Names.{is_label_key, is_label_value}
use Rattle.kapi_model.specs.declared.selector.Operator.{Operator}
use Rattle.kapi_model.specs.declared.selector.Operator.TheVariants.{In, NotIn, Exists, DoesNotExist}
use Rattle.kapi_model.specs.declared.selector.Requirement.{Requirement}
use Rattle.kapi_model.specs.declared.selector.Selector.{Selector}
use Rattle.kapi_model.specs.declared.selector_error.SelectorError.{SelectorError}
use Rattle.kapi_model.specs.declared.selector_error.SelectorError.TheVariants as error
use Rattle.kapi_model.specs.declared.selector_token.Token.{Token}
use Rattle.kapi_model.specs.declared.selector_token.Token.TheVariants.{Word, Equals, NotEquals, Not, Open, Close, Comma}

-- ---- tokens

-- the bytes that are in no word: space, `!`, `(`, `)`, `,` and `=`
abbrev pub ends_word : ℕ → Bool
ends_word b = b == 32 || (b == 33 || (b == 40 || (b == 41 || (b == 44 || b == 61))))

-- the token that a byte outside words begins, if it is no space; `=` may follow
abbrev pub mark : ℕ → Bool → Option Token
mark b before_equals =
    if b == 32 then None
    else (if b == 33 then (if before_equals then Some NotEquals else Some Not)
    else (if b == 40 then Some Open
    else (if b == 41 then Some Close
    else (if b == 44 then Some Comma else Some Equals))))

-- the two bytes are one token: `!=` or `==`
abbrev pub is_pair : ℕ → Bool → Bool
is_pair b before_equals = before_equals && (b == 33 || b == 61)

-- a token, if there is one, and the tokens that follow it
abbrev pub led_by : Option Token → List Token → List Token
led_by None ts = ts
led_by (Some t) ts = t ∷ ts

-- the first word with a byte more in front
abbrev pub longer : ℕ → List Token → List Token
longer b (Word w ∷ ts) = Word (b ∷ w) ∷ ts
longer b ts = ts

-- the tokens of a text: `==` and `=`, `!=`, `!`, `(`, `)`, `,`, and words, runs of other bytes; spaces part tokens
unfoldable pub tokens : List ℕ → List Token
tokens [] = []
tokens (b ∷ []) = if ends_word b then led_by (mark b false) [] else Word (b ∷ []) ∷ []
tokens (b ∷ c ∷ rest) =
    if ends_word b then led_by (mark b (c == 61)) (if is_pair b (c == 61) then tokens rest else tokens (c ∷ rest))
    else (if ends_word c then Word (b ∷ []) ∷ tokens (c ∷ rest) else longer b (tokens (c ∷ rest)))

-- ---- requirements

-- a text that is no selector
pub data Fault : Type 0 where
  syntax : Fault

-- the fault that an error reports; none if it is out of memory
abbrev pub fault_of : SelectorError → Option Fault
fault_of error.Syntax = Some syntax
fault_of error.Memory = None

-- a requirement, if its key and its values obey the rules of labels
abbrev pub checked : List ℕ → Operator → List (List ℕ) → Result Requirement Fault
checked key operator values =
    if is_label_key key && list_all is_label_value values
    then Ok (record { key = key; operator = operator; values = values })
    else Err syntax

-- the word that a token is, if it is one
abbrev pub word_of : Token → Option (List ℕ)
word_of (Word w) = Some w
word_of t = None

-- the word that all the tokens are, if they are one
abbrev pub only_word : List Token → Option (List ℕ)
only_word [] = None
only_word (t ∷ ts) = if length ts == 0 then word_of t else None

-- the key of a label that is not to be there
abbrev pub without : Option (List ℕ) → Result Requirement Fault
without None = Err syntax
without (Some key) = checked key DoesNotExist []

-- the one value if there is a word
abbrev pub sole : Option (List ℕ) → Result (List (List ℕ)) Fault
sole None = Err syntax
sole (Some v) = Ok (v ∷ [])

-- the one value behind `=`, `==` or `!=`, which may be empty
abbrev pub one_value : List Token → Result (List (List ℕ)) Fault
one_value [] = Ok ([] ∷ [])
one_value (t ∷ ts) = sole (only_word (t ∷ ts))

-- a value before others
abbrev pub first_value : List ℕ → Result (List (List ℕ)) Fault → Result (List (List ℕ)) Fault
first_value v others = others >>= λ vs. Ok (v ∷ vs)

-- the values behind `(`, up to the `)` that ends the requirement: parted by commas, and each may be empty
unfoldable pub listed : List Token → Result (List (List ℕ)) Fault
listed (Close ∷ []) = Ok ([] ∷ [])
listed (Comma ∷ ts) = first_value [] (listed ts)
listed (Word v ∷ Close ∷ []) = Ok (v ∷ [])
listed (Word v ∷ Comma ∷ ts) = first_value v (listed ts)
listed ts = Err syntax

-- the operator that a word names before `(`
abbrev pub named : List ℕ → Result Operator Fault
named word = if bytes_eq word (codes "in") then Ok In else (if bytes_eq word (codes "notin") then Ok NotIn else Err syntax)

-- what `=`, `==` or `!=` and a value require of a key
abbrev pub equality : List ℕ → Operator → List Token → Result Requirement Fault
equality key operator ts = one_value ts >>= λ values. checked key operator values

-- what `in` or `notin` and the values behind `(` require of a key
abbrev pub membership : List ℕ → List ℕ → List Token → Result Requirement Fault
membership key word ts = named word >>= λ operator. (listed ts >>= λ values. checked key operator values)

-- what a word and the tokens behind it require of a key
abbrev pub set_based : List ℕ → List ℕ → List Token → Result Requirement Fault
set_based key word (Open ∷ ts) = membership key word ts
set_based key word ts = Err syntax

-- what the tokens behind a key require of it
unfoldable pub behind_key : List ℕ → List Token → Result Requirement Fault
behind_key key [] = checked key Exists []
behind_key key (Equals ∷ ts) = equality key In ts
behind_key key (NotEquals ∷ ts) = equality key NotIn ts
behind_key key (Word word ∷ ts) = set_based key word ts
behind_key key ts = Err syntax

-- a requirement: `KEY`, `!KEY`, `KEY=VALUE`, `KEY==VALUE`, `KEY!=VALUE`, `KEY in (VALUE,..)` or `KEY notin (VALUE,..)`
unfoldable pub requirement : List Token → Result Requirement Fault
requirement (Word key ∷ ts) = behind_key key ts
requirement (Not ∷ ts) = without (only_word ts)
requirement ts = Err syntax

-- ---- the selector

-- a token before the first piece
abbrev pub onto_first : Token → List (List Token) → List (List Token)
onto_first t [] = []
onto_first t (piece ∷ pieces) = (t ∷ piece) ∷ pieces

-- whether the tokens behind a token are in parentheses, if the token may be
abbrev pub is_inside : Bool → Token → Bool
is_inside inside Open = true
is_inside inside Close = false
is_inside inside t = inside

-- the token parts requirements: a comma outside of parentheses
abbrev pub is_parting : Bool → Token → Bool
is_parting false Comma = true
is_parting inside t = false

-- the pieces between the commas outside of parentheses; `inside` says whether the first token is in parentheses
unfoldable pub pieces : Bool → List Token → List (List Token)
pieces inside [] = [] ∷ []
pieces inside (t ∷ ts) = if is_parting inside t then [] ∷ pieces false ts else onto_first t (pieces (is_inside inside t) ts)

-- a requirement of each piece
unfoldable pub requirements : List (List Token) → Result (List Requirement) Fault
requirements [] = Ok []
requirements (piece ∷ pieces) = requirement piece >>= λ first. (requirements pieces >>= λ others. Ok (first ∷ others))

-- the requirements of all tokens: none if there is no token
abbrev pub all_required : List Token → Result (List Requirement) Fault
all_required ts = if length ts == 0 then Ok [] else requirements (pieces false ts)

-- the selector that a text is: no label listed, and a requirement of each piece
unfoldable pub selector_of : List ℕ → Result Selector Fault
selector_of text = all_required (tokens text) >>= λ rs. Ok (record { match_labels = []; match_expressions = rs })
