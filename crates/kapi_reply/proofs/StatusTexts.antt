-- A Status object's tokens, part by part, are those of its tree, and print as its compact text.
use Rattle.std.proofs.Common.{◌≡◌, ◌∙◌, ℕ, ◌==◌, ◌&&◌, Bool, true, false, cond, List, [], ◌∷◌, ◌++◌, length, codes, Option, Some, None, refl, sym, ap}
use Rattle.json.specs.Print.{print}
use Rattle.json.specs.Token.{Token, begin_object, end_object, key}
use Rattle.json.specs.Token as token
use Rattle.json.specs.Tree.{members_tokens}
use Rattle.serde_json.specs.Data.{Data, array, object, number, string, unsigned, Members, no_members, put}
use Rattle.serde_json.specs.Events.{members_len}
use Rattle.serde_json.specs.View.{items_of}
use Rattle.serde_json.specs.Written.{compact_text, members_outline}
use Rattle.serde_json.proofs.Texts.{print-outline}
use Rattle.kapi_http.specs.Message.{status_number}
use Rattle.kapi_reply.specs.Private.Tokens.{causes_tokens, data_tokens, deletion_tokens, details_tokens, is_nameless, head_tokens, metadata_tokens, some_text_tokens, status_tokens, subject_tokens, text_tokens, words_tokens}
use Rattle.kapi_reply.specs.Status.{Failed, Subject, deleted_status, details_of, status_of, with_causes, with_some_object, with_some_text, with_subject}

-- the tokens of a tree print as its compact text
pub print_outline : (d : Data) → print (data_tokens d) ≡ compact_text d
print_outline d = print-outline d

-- ---- the details

abbrev member_tokens : Members → List Token
member_tokens ms = members_tokens (members_outline ms)

abbrev with_group : Bool → List ℕ → Members → Members
with_group b t ms = cond b ms (put (codes "group") (string t) ms)

abbrev with_kind : Bool → List ℕ → Members → Members
with_kind b t ms = cond b ms (put (codes "kind") (string t) ms)

abbrev with_name : Bool → List ℕ → Members → Members
with_name b t ms = cond b ms (put (codes "name") (string t) ms)

abbrev with_list : Bool → Data → Members
with_list b d = cond b no_members (put (codes "causes") d no_members)

abbrev told_if : Bool → List ℕ → List ℕ → List Token
told_if b k t = cond b [] (text_tokens k t)

-- the members of the details, by what is left out
details_by : (c g k n : Bool) (d : Data) (group kind name : List ℕ)
    → member_tokens (with_name n name (with_kind k kind (with_group g group (with_list c d))))
    ≡ cond c [] (key (codes "causes") ∷ data_tokens d)
    ++ ((told_if g (codes "group") group ++ (told_if k (codes "kind") kind ++ told_if n (codes "name") name)) ++ end_object ∷ [])
details_by true true true true d group kind name = refl
details_by true true true false d group kind name = refl
details_by true true false true d group kind name = refl
details_by true true false false d group kind name = refl
details_by true false true true d group kind name = refl
details_by true false true false d group kind name = refl
details_by true false false true d group kind name = refl
details_by true false false false d group kind name = refl
details_by false true true true d group kind name = refl
details_by false true true false d group kind name = refl
details_by false true false true d group kind name = refl
details_by false true false false d group kind name = refl
details_by false false true true d group kind name = refl
details_by false false true false d group kind name = refl
details_by false false false true d group kind name = refl
details_by false false false false d group kind name = refl

-- the details are empty exactly if all is left out
empty_by : (c g k n : Bool) (d : Data) (group kind name : List ℕ)
    → (members_len (with_name n name (with_kind k kind (with_group g group (with_list c d)))) == 0) ≡ (c && (g && (k && n)))
empty_by true true true true d group kind name = refl
empty_by true true true false d group kind name = refl
empty_by true true false true d group kind name = refl
empty_by true true false false d group kind name = refl
empty_by true false true true d group kind name = refl
empty_by true false true false d group kind name = refl
empty_by true false false true d group kind name = refl
empty_by true false false false d group kind name = refl
empty_by false true true true d group kind name = refl
empty_by false true true false d group kind name = refl
empty_by false true false true d group kind name = refl
empty_by false true false false d group kind name = refl
empty_by false false true true d group kind name = refl
empty_by false false true false d group kind name = refl
empty_by false false false true d group kind name = refl
empty_by false false false false d group kind name = refl

details_written : (s : Option Subject) (cs : List Data)
    → member_tokens (details_of s cs) ≡ causes_tokens cs ++ (subject_tokens s ++ end_object ∷ [])
unfolding with_causes with_subject with_some_text causes_tokens subject_tokens some_text_tokens
details_written None cs = details_by (length cs == 0) true true true (array (items_of cs)) [] [] []
details_written (Some s) cs =
    details_by (length cs == 0) (length s.group == 0) (length s.resource == 0) (length s.name == 0) (array (items_of cs)) s.group s.resource s.name

details_empty : (s : Option Subject) (cs : List Data) → (members_len (details_of s cs) == 0) ≡ ((length cs == 0) && is_nameless s)
unfolding with_causes with_subject with_some_text is_nameless
details_empty None cs = empty_by (length cs == 0) true true true (array (items_of cs)) [] [] []
details_empty (Some s) cs =
    empty_by (length cs == 0) (length s.group == 0) (length s.resource == 0) (length s.name == 0) (array (items_of cs)) s.group s.resource s.name

-- ---- the whole

-- the members before the reason, with the details unless they are bare
abbrev before_reason : Bool → ℕ → Members → List ℕ → Members
before_reason bare code details message =
    put (codes "metadata") (object no_members)
    (put (codes "message") (string message)
    (put (codes "kind") (string (codes "Status"))
    (cond bare (put (codes "code") (number (unsigned code)) (put (codes "apiVersion") (string (codes "v1")) no_members))
    (put (codes "details") (object details)
    (put (codes "code") (number (unsigned code)) (put (codes "apiVersion") (string (codes "v1")) no_members))))))

-- the tokens of the details, unless they are bare
abbrev inner_tokens : Bool → Members → List Token
inner_tokens bare details = cond bare [] (key (codes "details") ∷ begin_object ∷ member_tokens details)

-- the tokens after the details, with the reason unless there is none
abbrev last_tokens : Bool → List ℕ → List ℕ → List Token
last_tokens wordless message reason =
    key (codes "kind") ∷ token.string (codes "Status") ∷ key (codes "message") ∷ token.string message ∷ key (codes "metadata") ∷ begin_object ∷ end_object
    ∷ (told_if wordless (codes "reason") reason ++ (key (codes "status") ∷ token.string (codes "Failure") ∷ end_object ∷ []))

-- the tokens of a Status object, by what is left out
status_by : (bare wordless : Bool) (code : ℕ) (details : Members) (message reason : List ℕ)
    → data_tokens (object
    (put (codes "status") (string (codes "Failure"))
    (cond wordless (before_reason bare code details message) (put (codes "reason") (string reason) (before_reason bare code details message)))))
    ≡ head_tokens code ++ (inner_tokens bare details ++ last_tokens wordless message reason)
status_by true true code details message reason = refl
status_by true false code details message reason = refl
status_by false true code details message reason = refl
status_by false false code details message reason = refl

details_told : (s : Option Subject) (cs : List Data) → inner_tokens (members_len (details_of s cs) == 0) (details_of s cs) ≡ details_tokens s cs
unfolding details_tokens
details_told s cs = rw (details_empty s cs, details_written s cs) refl

-- the parts are the tokens of the whole
pub status_told : (s : Option Subject) (f : Failed) → status_tokens s f ≡ data_tokens (status_of s f)
unfolding status_of with_some_object with_some_text some_text_tokens
status_told s f =
    let details = details_of s f.causes in
    sym (status_by (members_len details == 0) (length f.reason == 0) (status_number f.code) details f.message f.reason
    ∙ ap (λ ts. head_tokens (status_number f.code) ++ (ts ++ words_tokens f.message f.reason)) (details_told s f.causes))

-- ---- a deletion

-- the members of its details, by what is left out
deleted_by : (g k n : Bool) (group kind name uid : List ℕ)
    → member_tokens (put (codes "uid") (string uid) (with_name n name (with_kind k kind (with_group g group no_members))))
    ≡ (told_if g (codes "group") group ++ (told_if k (codes "kind") kind ++ told_if n (codes "name") name))
    ++ (text_tokens (codes "uid") uid ++ end_object ∷ [])
deleted_by true true true group kind name uid = refl
deleted_by true true false group kind name uid = refl
deleted_by true false true group kind name uid = refl
deleted_by true false false group kind name uid = refl
deleted_by false true true group kind name uid = refl
deleted_by false true false group kind name uid = refl
deleted_by false false true group kind name uid = refl
deleted_by false false false group kind name uid = refl

-- the tokens of a deletion, over those of its details
abbrev around : List Token → List Token
around inner =
    begin_object ∷ (text_tokens (codes "apiVersion") (codes "v1") ++ ((key (codes "details") ∷ begin_object ∷ inner) ++ (text_tokens (codes "kind") (codes "Status")
    ++ (metadata_tokens ++ (text_tokens (codes "status") (codes "Success") ++ end_object ∷ [])))))

-- the parts are the tokens of the whole
pub deletion_told : (s : Subject) (uid : List ℕ) → deletion_tokens s uid ≡ data_tokens (deleted_status s uid)
unfolding deleted_status with_subject with_some_text subject_tokens some_text_tokens
deletion_told s uid =
    ap around (sym (deleted_by (length s.group == 0) (length s.resource == 0) (length s.name == 0) s.group s.resource s.name uid))
