-- What nests no deeper than so far.
use Rattle.std.proofs.Common.{◌≡◌, ◌≤◌, ℕ, suc, List, Bool, true, false, not, if◌then◌else◌, bytes_eq, arith}
use Rattle.std.specs.Ordering.{nat_cmp, match_ordering}
use Rattle.std.specs.declared.cmp.Ordering.TheVariants.{Less, Equal, Greater}
use Rattle.std.specs.Cmp.Lexicographic.{slice_cmp}
use Rattle.serde_json.specs.Data.{Data, Members, no_members, member, put, depth, items_depth, members_depth}
use Rattle.kapi_object.specs.Tree.{filter_members}
use Rattle.kapi_object.proofs.Closed.{Closed}

put_nests : (n : ℕ) (k : List ℕ) (d : Data) (ms : Members) → depth d ≤ n → members_depth ms ≤ n → members_depth (put k d ms) ≤ n
put_nests n k d no_members hd hm = omega arith
put_nests n k d (member l e ms) hd hm =
    elim (slice_cmp nat_cmp k l) as (λ o. members_depth (match_ordering o (member k d (member l e ms)) (member l d ms) (member l e (put k d ms))) ≤ n) [
      | Less ↦ omega arith
      | Equal ↦ omega arith
      | Greater ↦ omega (arith, put_nests n k d ms hd (omega arith))
    ]

filter_nests : (n : ℕ) (passes : List ℕ → Bool) (ms : Members) → members_depth ms ≤ n → members_depth (filter_members passes ms) ≤ n
filter_nests n passes no_members h = h
filter_nests n passes (member l d ms) h =
    elim (passes l) as (λ b. members_depth (if b then member l d (filter_members passes ms) else filter_members passes ms) ≤ n) [
      | true ↦ omega (arith, filter_nests n passes ms (omega arith))
      | false ↦ filter_nests n passes ms (omega arith)
    ]

pub no_deeper : Closed (λ n d. depth d ≤ n) (λ n ds. items_depth ds ≤ n) (λ n ms. members_depth ms ≤ n)
no_deeper = record {
  text = λ n s. omega arith;
  list = λ n ds h. omega arith;
  members = λ n ms h. omega arith;
  inside = λ n ms h. omega arith;
  no_item = λ n. omega arith;
  one_more = λ n d ds hd h. omega arith;
  no_member = λ n. omega arith;
  with_member = put_nests;
  without_one = λ n k ms h. filter_nests n (λ other. not (bytes_eq k other)) ms h;
  first = λ n k d ms h. omega arith;
  others = λ n k d ms h. omega arith;
}
