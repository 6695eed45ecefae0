-- What the calls on connections do to their map.
use Rattle.std.specs.Prelude.{◌≡◌, ℕ, ◌+◌, ◌<◌, ◌≤◌, ◌⊎◌, true, false, List, ◌++◌, length, Some, None, Result, Ok, Err}
use Rattle.std.specs.Ordering.{nat_cmp}
use Rattle.std.specs.Map.{lookup, remove_entry, set_value}
use Rattle.std.specs.BTreeMap.{is_at}
use Rattle.kapi_http.specs.declared.inbox.FeedError.{FeedError}
use Rattle.kapi_http.specs.declared.inbox.FeedError.TheVariants.{Full, Memory, Ended}
use Rattle.kapi_answer.specs.Watch.{PlainWatching, RefinesWatching}
use Rattle.kapi_answer.specs.declared.watch.After.{After}
use Rattle.kapi_answer.specs.declared.watch.After.TheVariants as becomes
use Rattle.kapi_answer.specs.declared.watch.Watching.{Watching}
use Rattle.kapi_store.specs.Plain.{Plain, PlainChange, RefinesPlain}
use Rattle.kapi_store.specs.State.{State}
use Rattle.kapi_watch.specs.Running.{at_place}
use Rattle.kapi_watch.specs.Watches.{after_pump}
use Rattle.kapi_watch.specs.declared.watch.Cursor.{Cursor}
use Rattle.kapi_core.specs.declared.connection.Connection.{Connection}
use Rattle.kapi_core.specs.Limits.{kept_limit}

-- a watch that is moved to a place was moved past what it shows next
abbrev pub MovesOn : State → Watching → Cursor → Type 0
MovesOn store r place = (history : List PlainChange) (s : Plain) (w : PlainWatching) → RefinesPlain store history s
    → RefinesWatching r history s w → RefinesWatching (record r { watch = at_place r.watch place }) history s (record w { watch = after_pump history s w.watch })

-- the connections after an event of a watch: the watch is at a place, or has ended, or its connection is closed
abbrev pub passed : List (ℕ × Connection) → ℕ → Connection → Watching → After → Cursor → List (ℕ × Connection)
passed old id c w becomes.Watches place = set_value (is_at (nat_cmp id)) old (record c { watching = Some (record w { watch = at_place w.watch place }) })
passed old id c w becomes.WatchEnded place = set_value (is_at (nat_cmp id)) old (record c { watching = None })
passed old id c w becomes.Closes place = remove_entry (is_at (nat_cmp id)) old

-- bytes were taken in on a connection, or were refused and nothing was changed
abbrev pub Feeds : List (ℕ × Connection) → List (ℕ × Connection) → ℕ → List ℕ → Result (Unit {0}) FeedError → Type 0
Feeds old new id piece (Ok done) = (c : Connection) × (lookup (is_at (nat_cmp id)) old ≡ Some c) × (length c.inbox.kept + length piece ≤ kept_limit)
    × (new ≡ set_value (is_at (nat_cmp id)) old (record c { inbox = record { kept = c.inbox.kept ++ piece; ended = false } }))
Feeds old new id piece (Err Full) = (c : Connection) × (lookup (is_at (nat_cmp id)) old ≡ Some c) × (kept_limit < length c.inbox.kept + length piece) × (new ≡ old)
Feeds old new id piece (Err Ended) = ((lookup (is_at (nat_cmp id)) old ≡ None) ⊎ ((c : Connection) × (lookup (is_at (nat_cmp id)) old ≡ Some c) × (c.inbox.ended ≡ true))) × (new ≡ old)
Feeds old new id piece (Err Memory) = (c : Connection) × (lookup (is_at (nat_cmp id)) old ≡ Some c) × (length c.inbox.kept + length piece ≤ kept_limit) × (new ≡ old)
