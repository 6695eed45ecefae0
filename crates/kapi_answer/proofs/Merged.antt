-- What is merged of trees in order is in order, and no deeper than they are.
use Rattle.std.proofs.Common.{◌≡◌, ◌≤◌, arith, ℕ, zero, suc, List, true, false, ◌&&◌, if◌then◌else◌, bytes_eq, Some, refl}
use Rattle.std.specs.Cmp.{first_so, second_so}
use Rattle.std.specs.Cmp.Lexicographic.{slice_cmp}
use Rattle.std.specs.Option.{unwrap_or}
use Rattle.std.specs.Ordering.{nat_cmp, is_lt, match_ordering}
use Rattle.std.specs.declared.cmp.Ordering.TheVariants.{Less, Equal, Greater}
use Rattle.serde_json.specs.Data.{Data, null, boolean, number, string, array, object, Members, no_members, member, depth, members_depth}
use Rattle.serde_json.specs.Find.{get_member}
use Rattle.kapi_object.proofs.Depths.{no_deeper}
use Rattle.kapi_object.proofs.Ordered.{keys_in_order}
use Rattle.kapi_object.specs.Order.{is_ordered, in_order, precedes}
use Rattle.kapi_object.specs.Merge.{all_merged, changed, members_or_none, merged, value_at, without}

precedes_rest : (key name : List ℕ) (ms : Members) → precedes key ms ≡ true → precedes key (without name ms) ≡ true
precedes_rest key name no_members h = refl
precedes_rest key name (member other d ms) h =
    let first : is_lt (slice_cmp nat_cmp key other) ≡ true = first_so (is_lt (slice_cmp nat_cmp key other)) (precedes key ms) h in
    let later : precedes key ms ≡ true = second_so (is_lt (slice_cmp nat_cmp key other)) (precedes key ms) h in
    elim (bytes_eq name other) as (λ b. precedes key (if b then ms else member other d (without name ms)) ≡ true) [
      | true ↦ later
      | false ↦ rw first (precedes_rest key name ms later)
    ]

rest_in_order : (name : List ℕ) (ms : Members) → in_order ms ≡ true → in_order (without name ms) ≡ true
rest_in_order name no_members h = refl
rest_in_order name (member other d ms) h =
    let before : precedes other ms ≡ true = first_so (precedes other ms) (is_ordered d && in_order ms) h in
    elim (bytes_eq name other) as (λ b. in_order (if b then ms else member other d (without name ms)) ≡ true) [
      | true ↦ keys_in_order.others 0 other d ms h
      | false ↦ rw (precedes_rest other name ms before, keys_in_order.first 0 other d ms h) (rest_in_order name ms (keys_in_order.others 0 other d ms h))
    ]

value_ordered : (name : List ℕ) (ms : Members) → in_order ms ≡ true → is_ordered (value_at name ms) ≡ true
value_ordered name no_members h = refl
value_ordered name (member other d ms) h =
    let later : is_ordered (value_at name ms) ≡ true = value_ordered name ms (keys_in_order.others 0 other d ms h) in
    elim (slice_cmp nat_cmp name other) as (λ o. is_ordered (unwrap_or (match_ordering o (get_member name ms) (Some d) (get_member name ms)) null) ≡ true) [
      | Less ↦ later
      | Equal ↦ keys_in_order.first 0 other d ms h
      | Greater ↦ later
    ]

members_in_order : (target : Data) → is_ordered target ≡ true → in_order (members_or_none target) ≡ true
members_in_order (object ms) h = h
members_in_order null h = refl
members_in_order (boolean b) h = refl
members_in_order (number n) h = refl
members_in_order (string s) h = refl
members_in_order (array ds) h = refl

-- a name that takes a value in order, or is taken out
changed_in_order : (name : List ℕ) (patch value : Data) (ms : Members) → is_ordered value ≡ true → in_order ms ≡ true
    → in_order (changed name patch value ms) ≡ true
changed_in_order name null value ms hv hm = rest_in_order name ms hm
changed_in_order name (boolean b) value ms hv hm = keys_in_order.with_member 0 name value ms hv hm
changed_in_order name (number n) value ms hv hm = keys_in_order.with_member 0 name value ms hv hm
changed_in_order name (string s) value ms hv hm = keys_in_order.with_member 0 name value ms hv hm
changed_in_order name (array ds) value ms hv hm = keys_in_order.with_member 0 name value ms hv hm
changed_in_order name (object ns) value ms hv hm = keys_in_order.with_member 0 name value ms hv hm

mutual
  pub merged_in_order : (target patch : Data) → is_ordered target ≡ true → is_ordered patch ≡ true → is_ordered (merged target patch) ≡ true
  merged_in_order target null ht hp = refl
  merged_in_order target (boolean b) ht hp = refl
  merged_in_order target (number n) ht hp = refl
  merged_in_order target (string s) ht hp = refl
  merged_in_order target (array ds) ht hp = hp
  merged_in_order target (object patches) ht hp = all_in_order (members_or_none target) patches (members_in_order target ht) hp

  all_in_order : (ms patches : Members) → in_order ms ≡ true → in_order patches ≡ true → in_order (all_merged ms patches) ≡ true
  all_in_order ms no_members hm hp = hm
  all_in_order ms (member name patch patches) hm hp =
      let value : Data = merged (value_at name ms) patch in
      all_in_order (changed name patch value ms) patches
      (changed_in_order name patch value ms (merged_in_order (value_at name ms) patch (value_ordered name ms hm) (keys_in_order.first 0 name patch patches hp)) hm)
      (keys_in_order.others 0 name patch patches hp)

-- ---- how deep it nests

rest_nests : (n : ℕ) (name : List ℕ) (ms : Members) → members_depth ms ≤ n → members_depth (without name ms) ≤ n
rest_nests n name no_members h = h
rest_nests n name (member other d ms) h =
    elim (bytes_eq name other) as (λ b. members_depth (if b then ms else member other d (without name ms)) ≤ n) [
      | true ↦ omega arith
      | false ↦ omega (arith, rest_nests n name ms (omega arith))
    ]

value_nests : (n : ℕ) (name : List ℕ) (ms : Members) → members_depth ms ≤ n → depth (value_at name ms) ≤ n
value_nests n name no_members h = omega arith
value_nests n name (member other d ms) h =
    let later : depth (value_at name ms) ≤ n = value_nests n name ms (omega arith) in
    elim (slice_cmp nat_cmp name other) as (λ o. depth (unwrap_or (match_ordering o (get_member name ms) (Some d) (get_member name ms)) null) ≤ n) [
      | Less ↦ later
      | Equal ↦ omega arith
      | Greater ↦ later
    ]

members_nest : (n : ℕ) (target : Data) → depth target ≤ suc n → members_depth (members_or_none target) ≤ n
members_nest n (object ms) h = omega arith
members_nest n null h = omega arith
members_nest n (boolean b) h = omega arith
members_nest n (number x) h = omega arith
members_nest n (string s) h = omega arith
members_nest n (array ds) h = omega arith

changed_nests : (n : ℕ) (name : List ℕ) (patch value : Data) (ms : Members) → depth value ≤ n → members_depth ms ≤ n
    → members_depth (changed name patch value ms) ≤ n
changed_nests n name null value ms hv hm = rest_nests n name ms hm
changed_nests n name (boolean b) value ms hv hm = no_deeper.with_member n name value ms hv hm
changed_nests n name (number x) value ms hv hm = no_deeper.with_member n name value ms hv hm
changed_nests n name (string s) value ms hv hm = no_deeper.with_member n name value ms hv hm
changed_nests n name (array ds) value ms hv hm = no_deeper.with_member n name value ms hv hm
changed_nests n name (object ns) value ms hv hm = no_deeper.with_member n name value ms hv hm

mutual
  pub merged_nests : (n : ℕ) (target patch : Data) → depth target ≤ n → depth patch ≤ n → depth (merged target patch) ≤ n
  merged_nests n target null ht hp = omega arith
  merged_nests n target (boolean b) ht hp = omega arith
  merged_nests n target (number x) ht hp = omega arith
  merged_nests n target (string s) ht hp = omega arith
  merged_nests n target (array ds) ht hp = hp
  merged_nests zero target (object patches) ht hp = omega arith
  merged_nests (suc n) target (object patches) ht hp =
      omega (arith, all_nest n (members_or_none target) patches (members_nest n target ht) (omega arith))

  all_nest : (n : ℕ) (ms patches : Members) → members_depth ms ≤ n → members_depth patches ≤ n → members_depth (all_merged ms patches) ≤ n
  all_nest n ms no_members hm hp = hm
  all_nest n ms (member name patch patches) hm hp =
      let value : Data = merged (value_at name ms) patch in
      all_nest n (changed name patch value ms) patches
      (changed_nests n name patch value ms (merged_nests n (value_at name ms) patch (value_nests n name ms hm) (omega arith)) hm)
      (omega arith)
