-- Trees that are ordered by their keys; every tree that is read of a text is.
use Rattle.std.proofs.Common.{◌≡◌, ℕ, List, Bool, true, false, not, ◌&&◌, if◌then◌else◌, bytes_eq, Option, Some, None, option_map, refl, sym, ap, ◌∙◌, subst}
use Rattle.std.proofs.lemmas.Map.Text.{is_eq-slice_cmp}
use Rattle.std.specs.Cmp.{first_so, second_so}
use Rattle.std.specs.Option.{option_and_then}
use Rattle.std.specs.Ordering.{nat_cmp, match_ordering, ordering_reverse, is_eq, is_lt}
use Rattle.std.specs.declared.cmp.Ordering.{Ordering}
use Rattle.std.specs.declared.cmp.Ordering.TheVariants.{Less, Equal, Greater}
use Rattle.std.specs.Cmp.Lexicographic.{slice_cmp, nat_list_cmp_total}
use Rattle.json.specs.Json as json
use Rattle.json.specs.Lex.{tokens}
use Rattle.serde_json.specs.Data.{Data, number, array, object, Items, item, Members, no_members, member, put}
use Rattle.serde_json.specs.Find.{get_member}
use Rattle.serde_json.specs.Read.{read, of_json, of_items, of_members, number_of, max_depth}
use Rattle.kapi_object.specs.Order.{precedes, is_ordered, are_ordered, in_order}
use Rattle.kapi_object.specs.Tree.{filter_members, without}
use Rattle.kapi_object.proofs.Closed.{Closed}

pub is_less : (o : Ordering) → is_lt o ≡ true → o ≡ Less
is_less Less h = refl
is_less Equal h = absurd (cc h)
is_less Greater h = absurd (cc h)

-- what is greater than a key has that key below it
turned : (k l : List ℕ) → slice_cmp nat_cmp k l ≡ Greater → slice_cmp nat_cmp l k ≡ Less
turned k l h = nat_list_cmp_total.antisymm l k ∙ ap ordering_reverse h

-- a key before another that comes before members comes before them
pub precedes_too : (k l : List ℕ) (ms : Members) → slice_cmp nat_cmp k l ≡ Less → precedes l ms ≡ true → precedes k ms ≡ true
precedes_too k l no_members h p = refl
precedes_too k l (member m d ms) h p =
    let below : slice_cmp nat_cmp l m ≡ Less = is_less (slice_cmp nat_cmp l m) (first_so (is_lt (slice_cmp nat_cmp l m)) (precedes l ms) p) in
    rw (nat_list_cmp_total.trans k l m h below) (precedes_too k l ms h (second_so (is_lt (slice_cmp nat_cmp l m)) (precedes l ms) p))

precedes_put : (j k : List ℕ) (d : Data) (ms : Members) → slice_cmp nat_cmp j k ≡ Less → precedes j ms ≡ true → precedes j (put k d ms) ≡ true
precedes_put j k d no_members h p = rw h refl
precedes_put j k d (member l e ms) h p =
    elim (slice_cmp nat_cmp k l) as (λ o. precedes j (match_ordering o (member k d (member l e ms)) (member l d ms) (member l e (put k d ms))) ≡ true) [
      | Less ↦ rw h p
      | Equal ↦ p
      | Greater ↦ rw (first_so (is_lt (slice_cmp nat_cmp j l)) (precedes j ms) p) (precedes_put j k d ms h (second_so (is_lt (slice_cmp nat_cmp j l)) (precedes j ms) p))
    ]

-- the parts of members in order
pub key_first : (k : List ℕ) (d : Data) (ms : Members) → in_order (member k d ms) ≡ true → precedes k ms ≡ true
key_first k d ms h = first_so (precedes k ms) (is_ordered d && in_order ms) h

value_ordered : (k : List ℕ) (d : Data) (ms : Members) → in_order (member k d ms) ≡ true → is_ordered d ≡ true
value_ordered k d ms h = first_so (is_ordered d) (in_order ms) (second_so (precedes k ms) (is_ordered d && in_order ms) h)

pub others_in_order : (k : List ℕ) (d : Data) (ms : Members) → in_order (member k d ms) ≡ true → in_order ms ≡ true
others_in_order k d ms h = second_so (is_ordered d) (in_order ms) (second_so (precedes k ms) (is_ordered d && in_order ms) h)

put_in_order : (k : List ℕ) (d : Data) (ms : Members) → is_ordered d ≡ true → in_order ms ≡ true → in_order (put k d ms) ≡ true
put_in_order k d no_members hd hm = rw hd refl
put_in_order k d (member l e ms) hd hm =
    elim (slice_cmp nat_cmp k l) as (λ o. slice_cmp nat_cmp k l ≡ o → in_order (match_ordering o (member k d (member l e ms)) (member l d ms) (member l e (put k d ms))) ≡ true) [
      | Less ↦ λ is. rw (is, precedes_too k l ms is (key_first l e ms hm), hd) hm
      | Equal ↦ λ is. rw (key_first l e ms hm, hd) (others_in_order l e ms hm)
      | Greater ↦ λ is. rw (precedes_put l k d ms (turned k l is) (key_first l e ms hm), value_ordered l e ms hm) (put_in_order k d ms hd (others_in_order l e ms hm))
    ] refl

-- a key that comes before members comes before some of them
pub precedes_filter : (j : List ℕ) (passes : List ℕ → Bool) (ms : Members) → precedes j ms ≡ true → precedes j (filter_members passes ms) ≡ true
precedes_filter j passes no_members p = refl
precedes_filter j passes (member l d ms) p =
    let first : is_lt (slice_cmp nat_cmp j l) ≡ true = first_so (is_lt (slice_cmp nat_cmp j l)) (precedes j ms) p in
    let others : precedes j ms ≡ true = second_so (is_lt (slice_cmp nat_cmp j l)) (precedes j ms) p in
    elim (passes l) as (λ b. precedes j (if b then member l d (filter_members passes ms) else filter_members passes ms) ≡ true) [
      | true ↦ rw first (precedes_filter j passes ms others)
      | false ↦ precedes_filter j passes ms others
    ]

filter_in_order : (passes : List ℕ → Bool) (ms : Members) → in_order ms ≡ true → in_order (filter_members passes ms) ≡ true
filter_in_order passes no_members h = refl
filter_in_order passes (member l d ms) h =
    elim (passes l) as (λ b. in_order (if b then member l d (filter_members passes ms) else filter_members passes ms) ≡ true) [
      | true ↦ rw (precedes_filter l passes ms (key_first l d ms h), value_ordered l d ms h) (filter_in_order passes ms (others_in_order l d ms h))
      | false ↦ filter_in_order passes ms (others_in_order l d ms h)
    ]

-- a key that comes before all of the members is none of theirs
pub none_found : (key : List ℕ) (ms : Members) → precedes key ms ≡ true → get_member key ms ≡ None
none_found key no_members p = refl
none_found key (member l d ms) p =
    let less : slice_cmp nat_cmp key l ≡ Less = is_less (slice_cmp nat_cmp key l) (first_so (is_lt (slice_cmp nat_cmp key l)) (precedes key ms) p) in
    rw less (none_found key ms (second_so (is_lt (slice_cmp nat_cmp key l)) (precedes key ms) p))

pub none_removed : (key : List ℕ) (ms : Members) → precedes key ms ≡ true → without key ms ≡ ms
none_removed key no_members p = refl
none_removed key (member l d ms) p =
    let less : slice_cmp nat_cmp key l ≡ Less = is_less (slice_cmp nat_cmp key l) (first_so (is_lt (slice_cmp nat_cmp key l)) (precedes key ms) p) in
    let other : bytes_eq key l ≡ false = sym (is_eq-slice_cmp key l) ∙ ap is_eq less in
    rw other (ap (member l d) (none_removed key ms (second_so (is_lt (slice_cmp nat_cmp key l)) (precedes key ms) p)))

pub keys_in_order : Closed (λ n d. is_ordered d ≡ true) (λ n ds. are_ordered ds ≡ true) (λ n ms. in_order ms ≡ true)
keys_in_order = record {
  text = λ n s. refl;
  list = λ n ds h. h;
  members = λ n ms h. h;
  inside = λ n ms h. h;
  no_item = λ n. refl;
  one_more = λ n d ds hd h. rw hd h;
  no_member = λ n. refl;
  with_member = λ n. put_in_order;
  without_one = λ n k ms h. filter_in_order (λ other. not (bytes_eq k other)) ms h;
  first = λ n. value_ordered;
  others = λ n. others_in_order;
}

-- ---- what is read of a text

-- P holds of what was read, if something was
abbrev IfRead : {X : Type 0} → (X → Type 0) → Option X → Type 0
IfRead F None = Unit {0}
IfRead F (Some x) = F x

mapped : {X Y : Type 0} (F : X → Type 0) (G : Y → Type 0) (f : X → Y) → ((x : X) → F x → G (f x)) → (o : Option X) → IfRead F o → IfRead G (option_map f o)
mapped F G f h None r = tt
mapped F G f h (Some x) r = h x r

then_read : {X Y : Type 0} (F : X → Type 0) (G : Y → Type 0) (f : X → Option Y) → ((x : X) → F x → IfRead G (f x)) → (o : Option X) → IfRead F o → IfRead G (option_and_then f o)
then_read F G f h None r = tt
then_read F G f h (Some x) r = h x r

-- what holds of everything
any : {X : Type 0} (F : X → Type 0) → ((x : X) → F x) → (o : Option X) → IfRead F o
any F h None = tt
any F h (Some x) = h x

abbrev Ordered : Data → Type 0
Ordered d = is_ordered d ≡ true

abbrev AllOrdered : Items → Type 0
AllOrdered ds = are_ordered ds ≡ true

abbrev InOrder : Members → Type 0
InOrder ms = in_order ms ≡ true

mutual
  json_ordered : (j : json.Json) → IfRead Ordered (of_json j)
  json_ordered json.null = refl
  json_ordered (json.boolean b) = refl
  json_ordered (json.number s) = mapped (λ n. Unit {0}) Ordered number (λ n h. refl) (number_of s) (any (λ n. Unit {0}) (λ n. tt) (number_of s))
  json_ordered (json.string s) = refl
  json_ordered (json.array js) = mapped AllOrdered Ordered array (λ ds h. h) (of_items js) (items_ordered js)
  json_ordered (json.object ms) = mapped InOrder Ordered object (λ ns h. h) (of_members ms no_members) (members_ordered ms no_members refl)

  items_ordered : (js : json.Items) → IfRead AllOrdered (of_items js)
  items_ordered json.no_items = refl
  items_ordered (json.item j js) =
      then_read Ordered AllOrdered (λ d. option_map (item d) (of_items js)) (λ d hd. mapped AllOrdered AllOrdered (item d) (λ ds h. rw hd h) (of_items js) (items_ordered js)) (of_json j) (json_ordered j)

  members_ordered : (ms : json.Members) (found : Members) → InOrder found → IfRead InOrder (of_members ms found)
  members_ordered json.no_members found h = h
  members_ordered (json.member k j ms) found h =
      then_read Ordered InOrder (λ d. of_members ms (put k d found)) (λ d hd. members_ordered ms (put k d found) (put_in_order k d found hd h)) (of_json j) (json_ordered j)

from_json : (o : Option json.Json) → IfRead Ordered (option_and_then of_json o)
from_json None = tt
from_json (Some j) = json_ordered j

read_is_ordered : (text : List ℕ) → IfRead Ordered (read text)
read_is_ordered text = from_json (option_and_then (λ p. json.if_last p.0 p.1) (json.value max_depth (tokens text)))

-- a tree that was read of a text is ordered
pub was_read_ordered : (text : List ℕ) (d : Data) → read text ≡ Some d → is_ordered d ≡ true
was_read_ordered text d is = let F : Option Data → Type 0 = λ o. IfRead Ordered o in subst F is (read_is_ordered text)
