-- The pairs of a query (URL Standard section 5, 'application/x-www-form-urlencoded').
use Rattle.std.specs.Prelude.{ℕ, if◌then◌else◌, List, [], ◌∷◌, map, Option, Some, None}
use Rattle.std.specs.Str.{bytes_eq}
use Rattle.std.specs.Str.Lossy.{utf8_lossy}
use Rattle.form_urlencoded.specs.Form.{raw_pairs, decode}
use Rattle.kapi_request_info.specs.declared.query.QueryPair.{QueryPair}

-- a key or a value, decoded: `+` is a space, what is no escape stays, and what is no UTF-8 becomes U+FFFD
abbrev pub query_text : List ℕ → List ℕ
query_text bytes = utf8_lossy (decode bytes)

-- a pair of a query, its key and value
abbrev pub query_pair : List ℕ × List ℕ → QueryPair
query_pair p = record { key = query_text p.0; value = query_text p.1 }

-- all pairs of a query, decoded, in order
abbrev pub query_pairs : List ℕ → List QueryPair
query_pairs query = map query_pair (raw_pairs query)

-- the value of the first pair with a key
unfoldable pub query_value : List QueryPair → List ℕ → Option (List ℕ)
query_value [] key = None
query_value (p ∷ ps) key = if bytes_eq p.key key then Some p.value else query_value ps key
