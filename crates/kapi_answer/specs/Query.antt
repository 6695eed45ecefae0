-- What the query of a request may ask for (Kubernetes, 'Kubernetes API Concepts', 'Dry-run' and 'Resource versions';
-- 'Labels and Selectors'; 'Field Selectors').
use Rattle.std.specs.Prelude.{ℕ, ◌==◌, Bool, not, ◌&&◌, nat_le, nat_lt, if◌then◌else◌, List, [], length, codes, unwrap_or, Option, Some, None, Result, Ok, Err, ok_or}
use Rattle.std.specs.Char.{is_ascii_digit}
use Rattle.std.specs.List.{list_all}
use Rattle.std.specs.Str.{bytes_eq}
use Rattle.std.specs.Str.Parse.{digits_value}
use Rattle.kapi_model.specs.SelectorText.{Fault, selector_of}
use Rattle.kapi_model.specs.declared.selector.Selector.{Selector}
use Rattle.kapi_reply.specs.Refusals.{asked_for}
use Rattle.kapi_reply.specs.declared.refusal.BadRequestReason.TheVariants as word
use Rattle.kapi_reply.specs.declared.refusal.Refusal.TheVariants as refusal
use Rattle.kapi_reply.specs.declared.refusal.Refused.{Refused}
use Rattle.kapi_request_info.specs.Query.{query_value}
use Rattle.kapi_request_info.specs.Selector.{selected_name}
use Rattle.kapi_request_info.specs.declared.query.QueryPair.{QueryPair}
use Rattle.kapi_answer.specs.declared.query.Filter.{Filter}
use Rattle.kapi_answer.specs.declared.route.Action.{Action}
use Rattle.kapi_answer.specs.declared.route.Action.TheVariants as action
use Rattle.kapi_text.specs.ResultIs.{◌>>=◌}

-- the value of a key, empty if there is none
unfoldable pub asked : List QueryPair → List ℕ → List ℕ
asked query key = unwrap_or (query_value query key) []

-- the refusal of an option that is not served
abbrev pub bad_option : Refused
bad_option = asked_for (refusal.BadRequest word.Option)

-- the refusal of a query that cannot be read
abbrev pub bad_query : Refused
bad_query = asked_for (refusal.BadRequest word.Query)

-- refused where the flag says that the option is set
abbrev pub unless : Bool → Refused → Result (Unit {0}) Refused
unless asked refused = if asked then Err refused else Ok tt

-- an option is not set
abbrev pub unset : List ℕ → List QueryPair → Result (Unit {0}) Refused
unset key query = unless (nat_lt 0 (length (asked query key))) bad_option

-- no dry run is served
unfoldable pub no_dry_run : List QueryPair → Result (Unit {0}) Refused
no_dry_run query = unset (codes "dryRun") query

-- no part of a list is served
unfoldable pub no_continuation : List QueryPair → Result (Unit {0}) Refused
no_continuation query = unset (codes "continue") query

-- no list is served as events
unfoldable pub no_initial_events : List QueryPair → Result (Unit {0}) Refused
no_initial_events query = unset (codes "sendInitialEvents") query

-- the `resourceVersionMatch` is set, and is not `NotOlderThan`
abbrev pub is_other_match : List ℕ → Bool
is_other_match text = nat_lt 0 (length text) && not (bytes_eq text (codes "NotOlderThan"))

-- no other match is served
unfoldable pub no_other_match : List QueryPair → Result (Unit {0}) Refused
no_other_match query = unless (is_other_match (asked query (codes "resourceVersionMatch"))) bad_option

-- a list is answered at once, and as it is
unfoldable pub whole_list : List QueryPair → Result (Unit {0}) Refused
whole_list query = do
  c ← no_continuation query
  i ← no_initial_events query
  no_other_match query

-- the label selector that was read, or its refusal
abbrev pub selector_or_refused : Result Selector Fault → Result Selector Refused
selector_or_refused (Ok selector) = Ok selector
selector_or_refused (Err fault) = Err bad_query

-- the label selector that is asked for
unfoldable pub selector_asked : List QueryPair → Result Selector Refused
selector_asked query = selector_or_refused (selector_of (asked query (codes "labelSelector")))

-- the name that a field selector selects; the filter of all names if it is empty
unfoldable pub name_selected : List ℕ → Result (List ℕ) Refused
name_selected text = if length text == 0 then Ok [] else ok_or (selected_name text) bad_query

-- the name that is asked for; all names if it is empty
unfoldable pub name_asked : List QueryPair → Result (List ℕ) Refused
name_asked query = name_selected (asked query (codes "fieldSelector"))

-- which objects of a collection are asked for
unfoldable pub filtered : List QueryPair → Result Filter Refused
filtered query = do
  selector ← selector_asked query
  name ← name_asked query
  Ok (record { selector = selector; name = name; since = 0 })

-- the filter of all objects
abbrev pub everything : Filter
everything = record { selector = record { match_labels = []; match_expressions = [] }; name = []; since = 0 }

-- the revision that 1 to 15 decimal digits write
abbrev pub revision : List ℕ → Option ℕ
revision text = if nat_lt 0 (length text) && (nat_le (length text) 15 && list_all is_ascii_digit text) then Some (digits_value 10 text) else None

-- a revision that was reached
abbrev pub reached : ℕ → ℕ → Result (Unit {0}) Refused
reached current asked = if nat_le asked current then Ok tt else Err (asked_for (refusal.NotYetReached (record { asked = asked; current = current })))

-- a revision that was reached, if a query value is one
abbrev pub reached_if : ℕ → Option ℕ → Result (Unit {0}) Refused
reached_if current None = Err bad_query
reached_if current (Some asked) = reached current asked

-- the revision that a text asks for was reached; an empty text asks for none
unfoldable pub version_reached : ℕ → List ℕ → Result (Unit {0}) Refused
version_reached current text = if length text == 0 then Ok tt else reached_if current (revision text)

-- the revision that a query asks for was reached
abbrev pub version_asked : ℕ → List QueryPair → Result (Unit {0}) Refused
version_asked current query = version_reached current (asked query (codes "resourceVersion"))

-- a list at the current revision
unfoldable pub listed : ℕ → List QueryPair → Result Filter Refused
listed current query = do
  w ← whole_list query
  filter ← filtered query
  v ← version_asked current query
  Ok filter

-- the revision that is asked for; 0 if none is
unfoldable pub revision_asked : List QueryPair → ℕ
revision_asked query = unwrap_or (revision (asked query (codes "resourceVersion"))) 0

-- a watch: the filter of a list, and the revision from which on changes are shown
unfoldable pub watched : ℕ → List QueryPair → Result Filter Refused
watched current query = do
  filter ← listed current query
  Ok (record filter { since = revision_asked query })

-- a read of one object at the current revision
abbrev pub read : ℕ → List QueryPair → Result Filter Refused
read current query = version_asked current query >>= λ u. Ok everything

-- a write of one object
abbrev pub written : List QueryPair → Result Filter Refused
written query = no_dry_run query >>= λ u. Ok everything

-- a deletion of objects of a collection
abbrev pub all_deleted : List QueryPair → Result Filter Refused
all_deleted query = no_dry_run query >>= λ u. filtered query

-- what the query of each action may ask for at the current revision, and which objects of a collection it asks for
unfoldable pub queried : Action → ℕ → List QueryPair → Result Filter Refused
queried action.Get current query = read current query
queried action.List current query = listed current query
queried action.Watch current query = watched current query
queried action.DeleteCollection current query = all_deleted query
queried _ current query = written query
