-- The resource and the subresource that a path names have no slash.
use Rattle.std.proofs.Common.{◌≡◌, ℕ, zero, suc, Bool, true, false, not, ◌==◌, length, ◌&&◌, if◌then◌else◌, List, [], ◌∷◌, codes, Result, Ok, Err, refl, sym, IfOk}
use Rattle.std.specs.List.{list_all}
use Rattle.std.specs.Str.{bytes_eq, is_utf8}
use Rattle.std.proofs.lemmas.Bool.{and_parts}
use Rattle.kapi_http.specs.declared.message.Method.{Method}
use Rattle.kapi_request_info.specs.declared.attributes.Attributes.{Attributes}
use Rattle.kapi_request_info.specs.declared.attributes.InfoError.{InfoError}
use Rattle.kapi_request_info.specs.Faults.{TargetFault, bad_path, bad_escape}
use Rattle.kapi_request_info.specs.declared.query.QueryPair.{QueryPair}
use Rattle.kapi_request_info.specs.Given.{GivesInfo}
use Rattle.kapi_request_info.specs.Path.{has_slash, names_something, has_whole_escapes, segments, texts, without_last_empty, pieces}
use Rattle.kapi_request_info.specs.Resource.{part, is_namespace_subresource, namespace_and_parts, named_by, verb_and_name, resource_attributes, url_attributes, attributes_by}
use Rattle.kapi_request_info.specs.Slashes.{HasNoSlash}

-- each segment names something
abbrev AllName : List (List ℕ) → Type 0
AllName names = list_all names_something names ≡ true

last_not : (a b c d : Bool) → (a && (b && (c && not d))) ≡ true → d ≡ false
last_not true true true false h = refl
last_not true true true true h = cc
last_not true true false d h = cc
last_not true false c d h = cc
last_not false b c d h = cc

-- a segment that names something has no slash
no_slash : (s : List ℕ) → names_something s ≡ true → has_slash s ≡ false
no_slash s h = last_not (not (length s == 0)) (not (bytes_eq s (codes "."))) (not (bytes_eq s (codes ".."))) (has_slash s) h

part_no_slash : (names : List (List ℕ)) (i : ℕ) → AllName names → has_slash (part names i) ≡ false
part_no_slash [] i h = refl
part_no_slash (s ∷ names) zero h = no_slash s (and_parts (names_something s) (list_all names_something names) h).0
part_no_slash (s ∷ names) (suc i) h = part_no_slash names i (and_parts (names_something s) (list_all names_something names) h).1

-- the segments of a path each name something
checked_names : (b c d : Bool) (names found : List (List ℕ)) → b ≡ list_all names_something names
    → ◌≡◌ {A = Result (List (List ℕ)) TargetFault} (if b then (if c then (if d then Ok names else Err bad_escape) else Err bad_escape) else Err bad_path) (Ok found)
    → AllName found
checked_names true true true names found e h = let same : names ≡ found = cc in rw (← same) (sym e)
checked_names true true false names found e h = cc
checked_names true false d names found e h = cc
checked_names false c d names found e h = cc

segments_name : (path : List ℕ) (found : List (List ℕ)) → segments path ≡ Ok found → AllName found
unfolding segments texts
segments_name path found h =
    let names = without_last_empty (pieces path) in
    checked_names (list_all names_something names) (has_whole_escapes path) (list_all is_utf8 names) names found refl h

-- the parts beside a namespace each name something
abbrev PartsName : List ℕ × List (List ℕ) → Type 0
PartsName p = AllName p.1

kept_names : (b c : Bool) (first name third : List ℕ) (more : List (List ℕ)) → AllName (first ∷ name ∷ third ∷ more)
    → PartsName (if b then (if c then (name, first ∷ name ∷ third ∷ more) else (name, third ∷ more)) else ([], first ∷ name ∷ third ∷ more))
kept_names true true first name third more h = h
kept_names true false first name third more h =
    (and_parts (names_something name) (list_all names_something (third ∷ more)) (and_parts (names_something first) (list_all names_something (name ∷ third ∷ more)) h).1).1
kept_names false c first name third more h = h

same_names : (b : Bool) (names : List (List ℕ)) (name : List ℕ) → AllName names → PartsName (if b then (name, names) else ([], names))
same_names true names name h = h
same_names false names name h = h

parts_name : (rest : List (List ℕ)) → AllName rest → PartsName (namespace_and_parts rest)
unfolding namespace_and_parts
parts_name (first ∷ name ∷ third ∷ more) h = kept_names (bytes_eq first (codes "namespaces")) (is_namespace_subresource third) first name third more h
parts_name (first ∷ name ∷ []) h = same_names (bytes_eq first (codes "namespaces")) (first ∷ name ∷ []) name h
parts_name (first ∷ []) h = h
parts_name [] h = h

-- attributes were returned, for a point without slashes
abbrev Slashless : {F : Type 0} → Result Attributes F → Type 0
Slashless r = IfOk r (λ a. HasNoSlash a.point)

named_slashless : (group version : List ℕ) (p : List ℕ × List (List ℕ)) (query : List QueryPair) (v : Result (List ℕ × List ℕ) TargetFault)
    → AllName p.1 → Slashless (named_by group version p query v)
named_slashless group version p query (Ok v) h = (part_no_slash p.1 0 h, part_no_slash p.1 2 h)
named_slashless group version p query (Err e) h = tt

resource_slashless : (method : Method) (group version : List ℕ) (rest : List (List ℕ)) (query : List QueryPair)
    → AllName rest → Slashless (resource_attributes method group version rest query)
resource_slashless method group version rest query h =
    let p = namespace_and_parts rest in
    named_slashless group version p query (verb_and_name method (part p.1 1) query) (parts_name rest h)

either_slashless : (b : Bool) (r s : Result Attributes TargetFault) → Slashless r → Slashless s → Slashless (if b then r else s)
either_slashless true r s h k = h
either_slashless false r s h k = k

rest_names : (name : List ℕ) (names : List (List ℕ)) → AllName (name ∷ names) → AllName names
rest_names name names h = (and_parts (names_something name) (list_all names_something names) h).1

attributes_slashless : (method : Method) (path : List ℕ) (names : List (List ℕ)) (query : List QueryPair)
    → AllName names → Slashless (attributes_by method path names query)
unfolding attributes_by
attributes_slashless method path (first ∷ second ∷ third ∷ fourth ∷ more) query h =
    let from_third = rest_names second (third ∷ fourth ∷ more) (rest_names first (second ∷ third ∷ fourth ∷ more) h) in
    let names = first ∷ second ∷ third ∷ fourth ∷ more in
    let core = resource_attributes method [] second (third ∷ fourth ∷ more) query in
    let grouped = resource_attributes method second third (fourth ∷ more) query in
    let other : Result Attributes TargetFault = Ok (url_attributes method path names query) in
    let is_grouped = bytes_eq first (codes "apis") in
    either_slashless (bytes_eq first (codes "api")) core (if is_grouped then grouped else other)
    (resource_slashless method [] second (third ∷ fourth ∷ more) query from_third)
    (either_slashless is_grouped grouped other (resource_slashless method second third (fourth ∷ more) query (rest_names third (fourth ∷ more) from_third)) tt)
attributes_slashless method path (first ∷ second ∷ third ∷ []) query h =
    let names = first ∷ second ∷ third ∷ [] in
    either_slashless (bytes_eq first (codes "api")) (resource_attributes method [] second (third ∷ []) query) (Ok (url_attributes method path names query))
    (resource_slashless method [] second (third ∷ []) query (rest_names second (third ∷ []) (rest_names first (second ∷ third ∷ []) h))) tt
attributes_slashless method path (first ∷ second ∷ []) query h = tt
attributes_slashless method path (first ∷ []) query h = tt
attributes_slashless method path [] query h = tt

given_slashless : (r : Result Attributes InfoError) (given : Result Attributes TargetFault) → GivesInfo r given → Slashless given → Slashless r
given_slashless (Ok a) given h k = rw h at k
given_slashless (Err e) given h k = tt

-- what is returned for a path whose segments were found
pub found_slashless : (r : Result Attributes InfoError) (method : Method) (path : List ℕ) (names : List (List ℕ)) (query : List QueryPair)
    → segments path ≡ Ok names → GivesInfo r (attributes_by method path names query) → Slashless r
found_slashless r method path names query found h =
    given_slashless r (attributes_by method path names query) h (attributes_slashless method path names query (segments_name path names found))
