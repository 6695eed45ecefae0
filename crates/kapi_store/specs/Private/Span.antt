-- The range of keys of all objects of a list or of a namespace.
use Rattle.std.specs.Prelude.{ℕ, zero, Bool, ◌&&◌, List, [], ◌∷◌, ◌++◌}
use Rattle.std.specs.List.{list_any}
use Rattle.std.specs.Str.{bytes_eq}
use Rattle.kapi_model.specs.declared.row.ResourceRow.{ResourceRow}
use Rattle.kapi_store.specs.declared.key.Key.{Key}

-- the first text after this one, in the order of bytes
abbrev pub after : List ℕ → List ℕ
after text = text ++ zero ∷ []

-- the first key that may be listed
unfoldable pub first_key : ResourceRow → List ℕ → List ℕ → Key
first_key row [] name = record { group = row.group; resource = row.plural; namespace = []; name = [] }
first_key row (b ∷ bs) name = record { group = row.group; resource = row.plural; namespace = b ∷ bs; name = name }

-- the first key after all that may be listed
unfoldable pub end_key : ResourceRow → List ℕ → List ℕ → Key
end_key row [] name = record { group = row.group; resource = after row.plural; namespace = []; name = [] }
end_key row (b ∷ bs) [] = record { group = row.group; resource = row.plural; namespace = after (b ∷ bs); name = [] }
end_key row (b ∷ bs) (c ∷ cs) = record { group = row.group; resource = row.plural; namespace = b ∷ bs; name = after (c ∷ cs) }

-- a key is of the resource type, in the namespace
abbrev pub is_of : ResourceRow → List ℕ → Key → Bool
is_of row namespace k = bytes_eq row.group k.group && (bytes_eq row.plural k.resource && bytes_eq k.namespace namespace)

-- the first key of the resource type in the namespace
abbrev pub namespace_start : ResourceRow → List ℕ → Key
namespace_start row namespace = record { group = row.group; resource = row.plural; namespace = namespace; name = [] }

-- the first key after all keys of the resource type in the namespace
abbrev pub namespace_end : ResourceRow → List ℕ → Key
namespace_end row namespace = record { group = row.group; resource = row.plural; namespace = after namespace; name = [] }

-- the resource type is namespaced, and the namespace holds an object of it
abbrev pub row_holds : {X : Type 0} → List (Key × X) → List ℕ → ResourceRow → Bool
row_holds os namespace row = row.namespaced && list_any (λ e. is_of row namespace e.0) os
