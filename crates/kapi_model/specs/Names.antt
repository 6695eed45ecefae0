-- Names, as tests on the bytes of a text: RFC 1123 section 2.1; Kubernetes' pages 'Object Names and IDs' and 'Labels
-- and Selectors'.
use Rattle.std.specs.Prelude.{ℕ, ◌-◌, List, length, codes, slice_index, Bool, not, nat_le, ◌&&◌, ◌||◌, ◌==◌, if◌then◌else◌}
use Rattle.std.specs.List.{list_all, list_any, slice_split, before_first, after_first}
use Rattle.std.specs.Char.{is_ascii_alphanumeric, is_ascii_lowercase, is_ascii_digit}
use Rattle.std.specs.Str.{bytes_eq}
use Rattle.kapi_model.specs.declared.row.ResourceRow.{ResourceRow}
use Rattle.kapi_model.specs.declared.row.Schema.{Schema}
use Rattle.kapi_model.specs.declared.row.Schema.TheVariants.{Open}

-- the byte `-`
abbrev pub hyphen : ℕ
hyphen = 45

-- the byte `_`
abbrev pub underscore : ℕ
underscore = 95

-- the byte `.`
abbrev pub dot : ℕ
dot = 46

-- the byte `/`
abbrev pub slash : ℕ
slash = 47

-- the byte `%`
abbrev pub percent : ℕ
percent = 37

-- the longest DNS label, label name and label value (RFC 1123 section 2.1; Kubernetes, 'Labels and Selectors')
abbrev pub label_limit : ℕ
label_limit = 63

-- the longest DNS subdomain (Kubernetes, 'Object Names and IDs')
abbrev pub subdomain_limit : ℕ
subdomain_limit = 253

-- the text begins and ends with an ASCII letter or digit
abbrev pub is_enclosed : List ℕ → Bool
is_enclosed s = is_ascii_alphanumeric (slice_index s 0) && is_ascii_alphanumeric (slice_index s (length s - 1))

-- a byte of a DNS name: `a` to `z`, `0` to `9`, or `-`
abbrev pub is_dns_byte : ℕ → Bool
is_dns_byte b = is_ascii_lowercase b || (is_ascii_digit b || b == hyphen)

-- a byte of a label: an ASCII letter or digit, `-`, `_` or `.`
abbrev pub is_name_byte : ℕ → Bool
is_name_byte b = is_ascii_alphanumeric b || (b == hyphen || (b == underscore || b == dot))

-- a part of a DNS name between its dots, of any length (RFC 1123 section 2.1, in lower case)
unfoldable pub is_dns_part : List ℕ → Bool
is_dns_part s = is_enclosed s && list_all is_dns_byte s

-- a DNS label: a part of a DNS name, no longer than a label may be (Kubernetes, 'Object Names and IDs')
unfoldable pub is_dns_label : List ℕ → Bool
is_dns_label s = nat_le (length s) label_limit && is_dns_part s

-- a DNS subdomain: parts of a DNS name joined by `.`, within the subdomain limit (Kubernetes, 'Object Names and IDs')
unfoldable pub is_dns_subdomain : List ℕ → Bool
is_dns_subdomain s = nat_le (length s) subdomain_limit && list_all is_dns_part (slice_split (λ b. b == dot) s)

-- a name that is a path segment: not empty, not `.` or `..`, without `/` and `%` (Kubernetes, 'Object Names and IDs')
unfoldable pub is_path_segment : List ℕ → Bool
is_path_segment s = not (length s == 0) && (not (bytes_eq s (codes ".")) && (not (bytes_eq s (codes "..")) && not (list_any (λ b. b == slash || b == percent) s)))

-- the name of a label's key, and a label's value that is not empty (Kubernetes, 'Labels and Selectors')
unfoldable pub is_label_name : List ℕ → Bool
is_label_name s = nat_le (length s) label_limit && (is_enclosed s && list_all is_name_byte s)

-- a label's key: a name, or a DNS subdomain, `/` and a name (Kubernetes, 'Labels and Selectors'); an annotation's key
-- too ('Annotations')
unfoldable pub is_label_key : List ℕ → Bool
is_label_key s =
    if list_any (λ b. b == slash) s
    then is_dns_subdomain (before_first (λ b. b == slash) s) && is_label_name (after_first (λ b. b == slash) s)
    else is_label_name s

-- a label's value: empty, or a name (Kubernetes, 'Labels and Selectors')
unfoldable pub is_label_value : List ℕ → Bool
is_label_value s = length s == 0 || is_label_name s

-- the resource type of Kubernetes' namespaces, in the core group
abbrev pub is_namespaces : ResourceRow → Bool
is_namespaces row = length row.group == 0 && bytes_eq row.plural (codes "namespaces")

-- the rule of names by a schema: names of roles and bindings are path segments ('Using RBAC Authorization')
abbrev pub is_name_for : Schema → ResourceRow → List ℕ → Bool
is_name_for Open row s = if is_namespaces row then is_dns_label s else is_dns_subdomain s
is_name_for _ row s = is_path_segment s

-- the rule of names for the objects of a resource type (Kubernetes, 'Object Names and IDs')
unfoldable pub is_name_on : ResourceRow → List ℕ → Bool
is_name_on row s = is_name_for row.schema row s
