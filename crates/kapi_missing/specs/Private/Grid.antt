-- A bit for each atom of few entries.
use Rattle.std.specs.Prelude.{◌≡◌, ℕ, zero, suc, ◌+◌, ◌*◌, ◌%◌, ◌≤◌, ◌==◌, nat_lt, Bool, true, false, ◌&&◌, List, [], ◌∷◌, Option, Some, None, get_or, length, map}
use Rattle.std.specs.Int.{bit_at}
use Rattle.std.specs.List.{list_all, list_any}
use Rattle.kapi_missing.specs.Private.Left.{Sees, item}
use Rattle.kapi_missing.specs.Private.Numbers.{has_bit}
use Rattle.kapi_missing.specs.Private.Stoppers.{Item, Stopper, meets}
use Rattle.kapi_missing.specs.declared.grid.Column.{Column}
use Rattle.kapi_missing.specs.declared.grid.Columns.{Columns}
use Rattle.kapi_missing.specs.declared.grid.Grid.{Grid}
use Rattle.kapi_missing.specs.declared.grid.Placed.{Placed}
use Rattle.kapi_missing.specs.declared.grid.PlacedRule.{PlacedRule}

-- the entry at a place
abbrev pub item_at : List Column → ℕ → Option Item
item_at [] place = None
item_at (c ∷ columns) zero = Some (item c.part)
item_at (c ∷ columns) (suc place) = item_at columns place

-- the column at a place has the number of a rule
abbrev pub column_has : List Column → ℕ → ℕ → Bool
column_has [] place number = false
column_has (c ∷ columns) zero number = has_bit c.rules.items number
column_has (c ∷ columns) (suc place) number = column_has columns place number

-- each column has the numbers of the rules that meet its entry
abbrev pub AreColumns : List Stopper → List Column → Type 0
AreColumns all [] = Unit {0}
AreColumns all (c ∷ columns) = Sees all (meets (item c.part)) c.rules.items × AreColumns all columns

pub record AreGridColumns (all : List Stopper) (columns : Columns) : Type 0 where
  pub groups : AreColumns all columns.groups.items
  pub resources : AreColumns all columns.resources.items
  pub verbs : AreColumns all columns.verbs.items
  pub names : AreColumns all columns.names.items

pub record AreFew (columns : Columns) : Type 0 where
  pub groups : length columns.groups.items ≤ 64
  pub resources : length columns.resources.items ≤ 64
  pub verbs : length columns.verbs.items ≤ 64
  pub names : length columns.names.items ≤ 64

-- the numbers are less than that one
abbrev pub are_below : ℕ → List ℕ → Bool
are_below n list = list_all (λ m. nat_lt m n) list

-- a bit of the word is set exactly if some of the rules for which the test holds meets the entry at its place
abbrev pub IsRowMarked : List Stopper → (Stopper → Bool) → List Column → ℕ → Type 0
IsRowMarked all test names word =
    (n : ℕ) (d : Item) → item_at names n ≡ Some d → (bit_at word n == 1) ≡ list_any (λ s. test s && meets d s) all

-- the same of the words from that row on, one a verb
abbrev pub AreVerbsMarked : List Stopper → (Stopper → Bool) → Columns → List ℕ → ℕ → Type 0
AreVerbsMarked all test columns marks first =
    (v : ℕ) (c : Item) → item_at columns.verbs.items v ≡ Some c → IsRowMarked all (λ s. test s && meets c s) columns.names.items (get_or marks (first + v) 0)

-- the same of the rows from that one on, as many as there are verbs for each resource
abbrev pub AreResourcesMarked : List Stopper → (Stopper → Bool) → Columns → List ℕ → ℕ → Type 0
AreResourcesMarked all test columns marks first =
    (r : ℕ) (b : Item) → item_at columns.resources.items r ≡ Some b
    → AreVerbsMarked all (λ s. test s && meets b s) columns marks ((first + r) * length columns.verbs.items)

-- a bit of each group, resource, verb and name is set exactly if some of the rules meets all four
abbrev pub IsMarked : List Stopper → Columns → List ℕ → Type 0
IsMarked all columns marks =
    (g : ℕ) (a : Item) → item_at columns.groups.items g ≡ Some a
    → AreResourcesMarked all (λ s. true && meets a s) columns marks (g * length columns.resources.items)

-- the entry has that place
abbrev pub ArePlaced : List Column → List Placed → Type 0
ArePlaced columns [] = Unit {0}
ArePlaced columns (e ∷ entries) = (item_at columns e.place ≡ Some (item e.part)) × ArePlaced columns entries

-- the bit of each place is set
abbrev pub AreAmong : ℕ → List Placed → Type 0
AreAmong bits [] = Unit {0}
AreAmong bits (e ∷ entries) = ((bit_at bits (e.place % 64) == 1) ≡ true) × AreAmong bits entries

abbrev pub placed_items : List Placed → List Item
placed_items entries = map (λ e. item e.part) entries

pub record IsPlaced (columns : Columns) (rule : PlacedRule) : Type 0 where
  pub groups : ArePlaced columns.groups.items rule.groups.items
  pub resources : ArePlaced columns.resources.items rule.resources.items
  pub verbs : ArePlaced columns.verbs.items rule.verbs.items
  pub names : ArePlaced columns.names.items rule.names.items
  pub bits : AreAmong rule.bits rule.names.items

abbrev pub lists_at : PlacedRule → List (List Item)
lists_at rule = placed_items rule.groups.items ∷ placed_items rule.resources.items ∷ placed_items rule.verbs.items ∷ placed_items rule.names.items ∷ []

-- a word for each group, resource and verb
pub record IsGrid (grid : Grid) : Type 0 where
  pub few : AreFew grid.columns
  pub long : length grid.marks.items ≡ length grid.columns.groups.items * length grid.columns.resources.items * length grid.columns.verbs.items
