-- What has no float.
use Rattle.std.proofs.Common.{◌≡◌, ℕ, List, Bool, true, false, not, if◌then◌else◌, bytes_eq, refl}
use Rattle.std.specs.Ordering.{nat_cmp, match_ordering}
use Rattle.std.specs.declared.cmp.Ordering.TheVariants.{Less, Equal, Greater}
use Rattle.std.specs.Cmp.Lexicographic.{slice_cmp}
use Rattle.std.proofs.lemmas.Bool.{or_parts}
use Rattle.serde_json.specs.Data.{Data, Members, no_members, member, put}
use Rattle.serde_json.specs.Written.{has_float, items_have_float, members_have_float}
use Rattle.kapi_object.specs.Tree.{filter_members}
use Rattle.kapi_object.proofs.Closed.{Closed}

pub put_has_no_float : (k : List ℕ) (d : Data) (ms : Members) → has_float d ≡ false → members_have_float ms ≡ false → members_have_float (put k d ms) ≡ false
put_has_no_float k d no_members hd hm = rw hd refl
put_has_no_float k d (member l e ms) hd hm =
    let parts : (has_float e ≡ false) × (members_have_float ms ≡ false) = or_parts (has_float e) (members_have_float ms) hm in
    elim (slice_cmp nat_cmp k l) as (λ o. members_have_float (match_ordering o (member k d (member l e ms)) (member l d ms) (member l e (put k d ms))) ≡ false) [
      | Less ↦ rw (hd, parts.0) parts.1
      | Equal ↦ rw hd parts.1
      | Greater ↦ rw parts.0 (put_has_no_float k d ms hd parts.1)
    ]

filter_has_no_float : (passes : List ℕ → Bool) (ms : Members) → members_have_float ms ≡ false → members_have_float (filter_members passes ms) ≡ false
filter_has_no_float passes no_members h = refl
filter_has_no_float passes (member l d ms) h =
    let parts : (has_float d ≡ false) × (members_have_float ms ≡ false) = or_parts (has_float d) (members_have_float ms) h in
    elim (passes l) as (λ b. members_have_float (if b then member l d (filter_members passes ms) else filter_members passes ms) ≡ false) [
      | true ↦ rw parts.0 (filter_has_no_float passes ms parts.1)
      | false ↦ filter_has_no_float passes ms parts.1
    ]

pub no_floats : Closed (λ n d. has_float d ≡ false) (λ n ds. items_have_float ds ≡ false) (λ n ms. members_have_float ms ≡ false)
no_floats = record {
  text = λ n s. refl;
  list = λ n ds h. h;
  members = λ n ms h. h;
  inside = λ n ms h. h;
  no_item = λ n. refl;
  one_more = λ n d ds hd h. rw hd h;
  no_member = λ n. refl;
  with_member = λ n. put_has_no_float;
  without_one = λ n k ms h. filter_has_no_float (λ other. not (bytes_eq k other)) ms h;
  first = λ n k d ms h. (or_parts (has_float d) (members_have_float ms) h).0;
  others = λ n k d ms h. (or_parts (has_float d) (members_have_float ms) h).1;
}
