-- What the attributes of a review specify: `resource` may be `RESOURCE/SUBRESOURCE`, which is as the two apart.
use Rattle.std.specs.Prelude.{ℕ, List, length, Bool, true, false, not, ◌&&◌, ◌||◌, ◌==◌, if◌then◌else◌, Option, Some, None, is_some, codes}
use Rattle.std.specs.List.{list_any, before_first, after_first}
use Rattle.std.specs.Str.{bytes_eq}
use Rattle.serde_json.specs.Data.{Data, string}
use Rattle.kapi_object.specs.Contents.{text_at}
use Rattle.kapi_object.specs.Tree.{member_of}
use Rattle.kapi_reviews.specs.declared.kind.ReviewKind.{ReviewKind}
use Rattle.kapi_reviews.specs.Kinds.{is_local}

-- whether a key has a value
abbrev pub has : List ℕ → Data → Bool
has key d = is_some (member_of key d)

-- whether a key has a value that is not the empty text
abbrev pub is_told : Option Data → Bool
is_told None = false
is_told (Some (string s)) = not (length s == 0)
is_told (Some _) = true

-- whether a text has a slash
abbrev pub has_slash : List ℕ → Bool
has_slash s = list_any (λ b. b == 47) s

-- the text before the first slash, or all of it if there is none
abbrev pub before_slash : List ℕ → List ℕ
before_slash s = before_first (λ b. b == 47) s

-- the text after the first slash, if there is one
abbrev pub after_slash : List ℕ → List ℕ
after_slash s = after_first (λ b. b == 47) s

-- the resource of attributes: the text before a slash
abbrev pub resource_in : Data → List ℕ
resource_in d = before_slash (text_at (codes "resource") d)

-- the subresource: the one that is named as such, else the text after the slash
abbrev pub subresource_in : Data → List ℕ
subresource_in d =
    if length (text_at (codes "subresource") d) == 0 then after_slash (text_at (codes "resource") d)
    else text_at (codes "subresource") d

-- a resource has no slash, or one if no subresource is named
abbrev pub is_right_resource : Data → Bool
is_right_resource d =
    not (has_slash (text_at (codes "resource") d))
    || (not (is_told (member_of (codes "subresource") d)) && not (has_slash (after_slash (text_at (codes "resource") d))))

-- a subresource has no slash
abbrev pub is_right_subresource : Data → Bool
is_right_subresource d = not (has_slash (text_at (codes "subresource") d))

-- the namespace of a local review is the one of its path, if any is named
abbrev pub is_right_namespace : ReviewKind → List ℕ → Data → Bool
is_right_namespace kind namespace d =
    not (is_local kind)
    || (length (text_at (codes "namespace") d) == 0 || bytes_eq (text_at (codes "namespace") d) namespace)
