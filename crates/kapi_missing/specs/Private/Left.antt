-- What is left of a wanted rule.
use Rattle.std.specs.Prelude.{◌≡◌, ℕ, Bool, true, ◌&&◌, if◌then◌else◌, List, [], ◌∷◌, ◌++◌, map, Option, Some, None}
use Rattle.std.specs.List.{flat_map, list_all, list_any}
use Rattle.std.specs.Option.{option_map}
use denote.Ref.{Bor}
use Rattle.kapi_model.specs.declared.policy_rule.PolicyRule.{PolicyRule}
use Rattle.kapi_rules.specs.Atoms.{names_of, resource_atom, url_atom}
use Rattle.kapi_rules.specs.declared.atom.Atom.{Atom}
use Rattle.kapi_rules.specs.declared.atom.Names.{Names}
use Rattle.kapi_rules.specs.declared.atom.Names.TheVariants as names
use Rattle.kapi_missing.specs.Private.Numbers.{has_bit, some_has}
use Rattle.kapi_missing.specs.Private.Stoppers.{Item, Stopper, at, meets, names_item, word_in}
use Rattle.kapi_missing.specs.declared.numbers.Numbers.{Numbers}
use Rattle.kapi_missing.specs.declared.rows.List.TheVariants as of
use Rattle.kapi_missing.specs.declared.rows.ListEntry.{ListEntry}
use Rattle.kapi_missing.specs.declared.tree.Class.{Class}
use Rattle.kapi_missing.specs.declared.tree.Entry.{Entry}
use Rattle.kapi_missing.specs.declared.tree.Level.{Level}

-- the choices of an entry of each list that none of the rules meets in all for which the test holds
abbrev pub left : List Stopper → (Stopper → Bool) → List (List Item) → List (List Item)
left all test [] = if list_any test all then [] else [] ∷ []
left all test (items ∷ lists) = flat_map (λ i. map (λ c. i ∷ c) (left all (λ s. test s && meets i s) lists)) items

abbrev pub names_in : Option (List ℕ) → Names
names_in None = names.All
names_in (Some name) = names.One name

abbrev pub on_url : Option (List ℕ) → Option (List ℕ) → List Atom
on_url (Some url) (Some verb) = url_atom verb url ∷ []
on_url (Some url) None = []
on_url None verb = []

abbrev pub on_resource : Option (List ℕ) → Option (List ℕ) → Option (List ℕ) → Option (List ℕ) → List Atom
on_resource (Some group) (Some resource) (Some verb) name = resource_atom verb group resource (names_in name) ∷ []
on_resource (Some group) (Some resource) None name = []
on_resource (Some group) None verb name = []
on_resource None resource verb name = []

-- the atom of chosen entries: of a URL and a verb, or of a group, a resource, a verb and names
abbrev pub atoms_of : List Item → List Atom
atoms_of (url ∷ verb ∷ []) = on_url url.text verb.text
atoms_of (group ∷ resource ∷ verb ∷ name ∷ []) = on_resource group.text resource.text verb.text name.text
atoms_of other = []

-- the entry that is borrowed
abbrev pub item : ListEntry → Item
item part = record { list = part.list; text = option_map (λ (t : Bor (List ℕ)). t.now) part.text }

abbrev pub items_in : List ListEntry → List Item
items_in parts = map item parts

-- the set has the numbers of the rules for which the test holds
abbrev pub Sees : List Stopper → (Stopper → Bool) → List ℕ → Type 0
Sees all test words = (n : ℕ) → has_bit words n ≡ at (map test all) n

-- the row has the numbers of the rules that meet the entry
abbrev pub IsRow : List Stopper → Item → List (Bor Numbers) → Type 0
IsRow all i row = (n : ℕ) → some_has row n ≡ at (map (meets i) all) n

abbrev pub AreRows : List Stopper → List Entry → Type 0
AreRows all [] = Unit {0}
AreRows all (e ∷ entries) = IsRow all (item e.part) e.row.items × AreRows all entries

-- the entries of the lists
abbrev pub entries_in : List Entry → List Item
entries_in entries = map (λ e. item e.part) entries

abbrev pub lists_in : List Level → List (List Item)
lists_in levels = map (λ l. entries_in l.entries.items) levels

-- the rule meets every entry of the lists
abbrev pub meets_every : List (List Item) → Stopper → Bool
meets_every [] s = true
meets_every (items ∷ lists) s = meets_every lists s && list_all (λ i. meets i s) items

-- the lists, for those rules; others may be in the rows besides
abbrev pub AreLevels : List Stopper → List Stopper → List Level → Type 0
AreLevels all others [] = Unit {0}
AreLevels all others (level ∷ levels) =
    AreRows (all ++ others) level.entries.items × Sees all (meets_every (lists_in (level ∷ levels))) level.full.items × AreLevels all others levels

-- the lists of a rule's atoms on resources, and on URLs
abbrev pub resource_lists : PolicyRule → List (List Item)
resource_lists rule =
    map (word_in of.Groups) rule.api_groups ∷ map (word_in of.Resources) rule.resources ∷ map (word_in of.Verbs) rule.verbs ∷ map names_item (names_of rule.resource_names) ∷ []

abbrev pub url_lists : PolicyRule → List (List Item)
url_lists rule = map (word_in of.Urls) rule.non_resource_urls ∷ map (word_in of.Verbs) rule.verbs ∷ []

-- the atoms that are left of the lists
abbrev pub left_atoms : List Stopper → List (List Item) → List Atom
left_atoms all lists = flat_map atoms_of (left all (λ s. true) lists)

-- none counted, none left of the lists, if the rules meet what is chosen
abbrev pub IsCounted : List Stopper → List (List Item) → List ℕ → ℕ → Type 0
IsCounted all lists rules count = count ≡ 0 → (test : Stopper → Bool) → Sees all test rules → left all test lists ≡ []

abbrev pub AreClasses : List Stopper → List (List Item) → List Class → Type 0
AreClasses all lists [] = Unit {0}
AreClasses all lists (c ∷ classes) = IsCounted all lists c.rules.items c.left × AreClasses all lists classes

-- the text that is borrowed
abbrev pub text_in : Option (Bor (List ℕ)) → Option (List ℕ)
text_in text = option_map (λ (t : Bor (List ℕ)). t.now) text

-- the atoms of the choices, behind what is chosen
abbrev pub atoms_behind : List Item → List (List Item) → List Atom
atoms_behind chosen choices = flat_map (λ c. atoms_of (chosen ++ c)) choices

-- nothing is left of the rule
abbrev pub IsNoneLeft : List Stopper → PolicyRule → Type 0
IsNoneLeft all rule = (left all (λ s. true) (resource_lists rule) ≡ []) × (left all (λ s. true) (url_lists rule) ≡ [])
