-- The readers return the shares.
use Rattle.std.proofs.Common.{◌≡◌, ℕ, zero, suc, ◌+◌, ◌<◌, List, [], ◌∷◌, Option, Result, Ok, Err, IfOk, map, length, slice_index_or, refl, sym, ap, ◌∙◌, subst, arith}
use Rattle.kapi_audit.specs.Answers.{answer_of}
use Rattle.kapi_audit.specs.Private.Readers.{AreReaders}
use Rattle.kapi_audit.specs.Private.Sharing.{AreShares, share}
use Rattle.kapi_lines.specs.declared.line.Line.{Line}
use Rattle.kapi_audit.specs.declared.reader.Reader.{Reader}
use Rattle.kapi_publishing.specs.Boards.{Chair}
use Rattle.kapi_publishing.specs.Steps.{after}
use Rattle.kapi_publishing.specs.declared.seat.SeatError.{SeatError}
use Rattle.kapi_model.specs.declared.row.ResourceRow.{ResourceRow}

-- the share of what is made of a list
share_map : {A B : Type 0} (f : A → B) (wait others : ℕ) (xs : List A) → map f (share wait others xs) ≡ share wait others (map f xs)
unfolding share
share_map f wait others [] = refl
share_map f zero others (x ∷ xs) = ap (λ t. f x ∷ t) (share_map f others others xs)
share_map f (suc wait) others (x ∷ xs) = share_map f wait others xs

-- what is answered from a seat
abbrev pub from_seat : ResourceRow → Chair → Line → Option (List ℕ)
from_seat row seat l = answer_of row (after seat.opening seat.seen) l.text.now

-- what the reader at a place returned
abbrev pub CameBack : ResourceRow → ℕ → List Line → Reader → Result (List (Option (List ℕ))) SeatError → Type 0
CameBack row others lines r result = IfOk result (λ s. s ≡ map (from_seat row r.seat) (share r.number others lines))

-- each reader returned its share
abbrev pub AllCameBack : ResourceRow → ℕ → List Line → List Reader → List (Result (List (Option (List ℕ))) SeatError) → Type 0
AllCameBack row others lines rs results = (i : ℕ) (d : Result (List (Option (List ℕ))) SeatError) → i < length rs
    → (r : Reader) × ((e : Reader) → slice_index_or rs i e ≡ r) × CameBack row others lines r (slice_index_or results i d)

pub joined : (row : ResourceRow) (seat : Chair) (others from : ℕ) (lines : List Line) (rs : List Reader) (results : List (Result (List (Option (List ℕ))) SeatError)) (shares : List (List (Option (List ℕ))))
    → AreReaders seat from rs → length results ≡ length rs → AllCameBack row others lines rs results → map Ok shares ≡ results
    → AreShares from (from + length rs) others (map (from_seat row seat) lines) shares
unfolding AreReaders AreShares
joined row seat others from lines [] results [] are same all is = omega arith
joined row seat others from lines [] results (s ∷ ss) are same all is = let whole : length (map Ok (s ∷ ss)) ≡ 0 = ap length is ∙ same in absurd (omega (arith, whole))
joined row seat others from lines (r ∷ rs) results [] are same all is = let whole : 0 ≡ length (r ∷ rs) = ap length is ∙ same in absurd (omega (arith, whole))
joined row seat others from lines (r ∷ rs) results (s ∷ ss) are same all is =
    let there : AllCameBack row others lines (r ∷ rs) (map Ok (s ∷ ss)) = subst (AllCameBack row others lines (r ∷ rs)) (sym is) all in
    let mine = there 0 (Ok []) (omega arith) in
    let me : r ≡ mine.0 = mine.1 r in
    let f = from_seat row in
    let given : s ≡ map (f r.seat) (share r.number others lines) = subst (λ (x : Reader). s ≡ map (f x.seat) (share x.number others lines)) (sym me) mine.2 in
    let named : s ≡ share from others (map (f seat) lines) =
    given ∙ (λ i. map (f (are.1 i)) (share (are.0 i) others lines)) ∙ share_map (f seat) from others lines in
    let later : AllCameBack row others lines rs (map Ok ss) = λ i d below. there (suc i) d (omega (arith, below)) in
    let rest = joined row seat others (from + 1) lines rs (map Ok ss) ss are.2 (let whole = ap length is ∙ same in omega (arith, whole)) later refl in
    (named, subst (λ n. AreShares (from + 1) n others (map (f seat) lines) ss) (omega arith) rest)

-- each reader returned its share, if all have finished
pub joined_if : {V : Type 0} (items : V → List (List (Option (List ℕ)))) (row : ResourceRow) (seat : Chair) (others : ℕ) (lines : List Line) (rs : List Reader) (results : List (Result (List (Option (List ℕ))) SeatError))
    (result : Result V SeatError) → AreReaders seat 0 rs → length results ≡ length rs → AllCameBack row others lines rs results → IfOk result (λ v. map Ok (items v) ≡ results)
    → IfOk result (λ v. AreShares 0 (length rs) others (map (from_seat row seat) lines) (items v))
joined_if items row seat others lines rs results (Ok v) are same all is =
    subst (λ n. AreShares 0 n others (map (from_seat row seat) lines) (items v)) (omega arith) (joined row seat others 0 lines rs results (items v) are same all is)
joined_if items row seat others lines rs results (Err e) are same all is = tt
