-- Resource types by name.
use Rattle.std.specs.Prelude.{ℕ, Bool, ◌&&◌, List}
use Rattle.std.specs.Str.{bytes_eq}
use Rattle.kapi_model.specs.declared.row.ResourceRow.{ResourceRow}

-- the resource type is that of the group, the version and the name
abbrev pub is_of : List ℕ → List ℕ → List ℕ → ResourceRow → Bool
is_of group version plural row = bytes_eq row.group group && (bytes_eq row.version version && bytes_eq row.plural plural)
