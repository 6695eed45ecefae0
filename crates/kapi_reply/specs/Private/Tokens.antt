-- The tokens of a Status object, part by part: they are written one after the other, and no tree is built.
use Rattle.std.specs.Prelude.{ℕ, Bool, true, ◌&&◌, ◌==◌, if◌then◌else◌, List, [], ◌∷◌, ◌++◌, length, codes, decimal, Option, Some, None}
use Rattle.json.specs.Token.{Token, begin_object, end_object, key, number, string}
use Rattle.json.specs.Tree.{json_tokens}
use Rattle.kapi_http.specs.Message.{status_number}
use Rattle.kapi_reply.specs.Status.{Failed, Subject}
use Rattle.serde_json.specs.Data.{Data, array}
use Rattle.serde_json.specs.View.{items_of}
use Rattle.serde_json.specs.Written.{outline}

-- the tokens of a value
abbrev pub data_tokens : Data → List Token
data_tokens d = json_tokens (outline d)

-- the tokens of a member whose value is a text
abbrev pub text_tokens : List ℕ → List ℕ → List Token
text_tokens k text = key k ∷ string text ∷ []

-- the tokens of a member whose value is a text; none if the text is empty
unfoldable pub some_text_tokens : List ℕ → List ℕ → List Token
some_text_tokens k text = if length text == 0 then [] else text_tokens k text

-- the tokens of the causes; none if there is no cause
unfoldable pub causes_tokens : List Data → List Token
causes_tokens causes = if length causes == 0 then [] else key (codes "causes") ∷ data_tokens (array (items_of causes))

-- the tokens of the subject's members
unfoldable pub subject_tokens : Option Subject → List Token
subject_tokens None = []
subject_tokens (Some s) =
    some_text_tokens (codes "group") s.group ++ (some_text_tokens (codes "kind") s.resource ++ some_text_tokens (codes "name") s.name)

-- whether nothing is to be told of the subject
unfoldable pub is_nameless : Option Subject → Bool
is_nameless None = true
is_nameless (Some s) = (length s.group == 0) && ((length s.resource == 0) && (length s.name == 0))

-- the tokens of the details; none if nothing is to be told
unfoldable pub details_tokens : Option Subject → List Data → List Token
details_tokens s causes =
    if (length causes == 0) && is_nameless s then []
    else key (codes "details") ∷ begin_object ∷ (causes_tokens causes ++ (subject_tokens s ++ end_object ∷ []))

-- the tokens of a deletion's details
abbrev pub deleted_tokens : Subject → List ℕ → List Token
deleted_tokens s uid =
    key (codes "details") ∷ begin_object ∷ (subject_tokens (Some s) ++ (text_tokens (codes "uid") uid ++ end_object ∷ []))

-- the tokens before the details
abbrev pub head_tokens : ℕ → List Token
head_tokens code = begin_object ∷ key (codes "apiVersion") ∷ string (codes "v1") ∷ key (codes "code") ∷ number (decimal code) ∷ []

-- the tokens of the metadata, which are empty
abbrev pub metadata_tokens : List Token
metadata_tokens = key (codes "metadata") ∷ begin_object ∷ end_object ∷ []

-- the tokens after the details
abbrev pub words_tokens : List ℕ → List ℕ → List Token
words_tokens message reason =
    text_tokens (codes "kind") (codes "Status") ++ (text_tokens (codes "message") message ++ (metadata_tokens
    ++ (some_text_tokens (codes "reason") reason ++ (text_tokens (codes "status") (codes "Failure") ++ end_object ∷ []))))

-- the tokens of a failure's Status object
abbrev pub status_tokens : Option Subject → Failed → List Token
status_tokens s f = head_tokens (status_number f.code) ++ (details_tokens s f.causes ++ words_tokens f.message f.reason)

-- the tokens of a deletion's Status object
abbrev pub deletion_tokens : Subject → List ℕ → List Token
deletion_tokens s uid =
    begin_object ∷ (text_tokens (codes "apiVersion") (codes "v1") ++ (deleted_tokens s uid ++ (text_tokens (codes "kind") (codes "Status")
    ++ (metadata_tokens ++ (text_tokens (codes "status") (codes "Success") ++ end_object ∷ [])))))
