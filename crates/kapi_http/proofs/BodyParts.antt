-- What is read as a whole body in chunks is one.
use Rattle.std.proofs.Common.{◌≡◌, ℕ, zero, suc, ◌+◌, ◌-◌, ◌*◌, ◌<◌, ◌≤◌, Bool, true, false, List, [], ◌∷◌, ◌++◌, length, refl, sym, ap, subst, ◌∙◌, arith, append_assoc, length-append, flat_map, All, not, ◌&&◌}
use Rattle.std.specs.Prelude.{min, nat_lt, ◌==◌}
use Rattle.std.specs.Char.{digit_value, is_digit}
use Rattle.std.specs.Cmp.{first_so, second_so}
use Rattle.std.specs.Str.Parse.{AllDigits, digits_value_after}
use Rattle.std.proofs.lemmas.Bool.{eqb-true, ltb-false, ltb-true}
use Rattle.std.proofs.lemmas.List.Elements.{All-cons, All-nil}
use Rattle.kapi_http.specs.ChunkedBody.{IsBody, IsChunk, SentChunk, IsSize, chunk_bytes, data_of, end_bytes}
use Rattle.kapi_http.specs.Chunks.{behind_size, chunk_step, chunked, in_data, is_over, is_wrong, joined, next_state, no_chunks, only}
use Rattle.kapi_http.specs.declared.chunks.Chunks.{Chunks}
use Rattle.kapi_http.specs.declared.chunks.ChunkState.{ChunkState}
use Rattle.kapi_http.specs.declared.chunks.ChunkState.TheVariants.{SizeLine, SizeCr, Data, DataEnd, DataCr, LastLine, LastCr, Whole, Wrong, TooLarge}
use Rattle.kapi_http.proofs.BodyReads.{mk, opened, spelled}
use Rattle.kapi_http.proofs.Chunking.{chunked_over}

-- the bytes are read to their end, which is the body's
abbrev Ends : ChunkState → ℕ → ℕ → List ℕ → Type 0
Ends s at sum bytes = ((chunked (mk s at sum) bytes).spot ≡ Whole) × ((chunked (mk s at sum) bytes).at ≡ at + length bytes)

over_ends : (s : ChunkState) (at sum : ℕ) (bytes : List ℕ) → is_over s ≡ true → Ends s at sum bytes → (s ≡ Whole) × (length bytes ≡ 0)
over_ends s at sum bytes over e =
    let stays : chunked (mk s at sum) bytes ≡ mk s at sum = chunked_over (mk s at sum) bytes over in
    (sym (ap (λ (c : Chunks). c.spot) stays) ∙ e.0, omega (arith, e.1, ap (λ (c : Chunks). c.at) stays))

wrong_ends : (at sum : ℕ) (bytes : List ℕ) → Ends Wrong at sum bytes → ⊥
wrong_ends at sum bytes e = let is : Wrong ≡ Whole = (over_ends Wrong at sum bytes refl e).0 in cc

large_ends : (at sum : ℕ) (bytes : List ℕ) → (chunked (mk TooLarge at sum) bytes).spot ≡ Whole → ⊥
large_ends at sum bytes e =
    let stays : chunked (mk TooLarge at sum) bytes ≡ mk TooLarge at sum = chunked_over (mk TooLarge at sum) bytes refl in
    let is : TooLarge ≡ Whole = sym (ap (λ (c : Chunks). c.spot) stays) ∙ e in cc

never_ends : (s : ChunkState) (at sum : ℕ) → is_over s ≡ false → Ends s at sum [] → ⊥
unfolding chunked
never_ends s at sum going e = let is : s ≡ Whole = e.0 in let over : is_over s ≡ true = ap is_over is in cc

-- ---- one byte

-- behind a byte that is no data, nor the last byte of a sent body above the limit
out_step : (s t : ChunkState) (at sum b : ℕ) (bytes : List ℕ) → next_state s sum b ≡ t → in_data s ≡ false → is_over s ≡ false → Ends s at sum (b ∷ bytes)
    → Ends t (at + 1) sum bytes × (joined (mk s at sum) (b ∷ bytes) ≡ joined (mk t (at + 1) sum) bytes)
unfolding chunked joined
out_step s t at sum b bytes next out going ends = by_sent (nat_lt 1572864 (at + 1) && not (is_wrong t)) refl
  where
    by_sent : (u : Bool) → (nat_lt 1572864 (at + 1) && not (is_wrong t)) ≡ u
        → Ends t (at + 1) sum bytes × (joined (mk s at sum) (b ∷ bytes) ≡ joined (mk t (at + 1) sum) bytes)
    by_sent true x =
        let same : chunked (mk s at sum) (b ∷ bytes) ≡ chunked (mk TooLarge (at + 1) sum) bytes = rw (going, out, next, x) refl in
        absurd (large_ends (at + 1) sum bytes (ap (λ (c : Chunks). c.spot) (sym same) ∙ ends.0))
    by_sent false x =
        let same : chunked (mk s at sum) (b ∷ bytes) ≡ chunked (mk t (at + 1) sum) bytes = rw (going, out, next, x) refl in
        ((ap (λ (c : Chunks). c.spot) (sym same) ∙ ends.0, omega (arith, ends.1, ap (λ (c : Chunks). c.at) same)), rw (out, next, x) refl)

in_step : (s t : ChunkState) (at sum b : ℕ) (bytes : List ℕ) → next_state s sum b ≡ t → in_data s ≡ true → is_over s ≡ false → Ends s at sum (b ∷ bytes)
    → Ends t (at + 1) (sum + 1) bytes × (joined (mk s at sum) (b ∷ bytes) ≡ b ∷ joined (mk t (at + 1) (sum + 1)) bytes)
unfolding chunked joined
in_step s t at sum b bytes next out going ends = by_sent (nat_lt 1572864 (at + 1) && not (is_wrong t)) refl
  where
    by_sent : (u : Bool) → (nat_lt 1572864 (at + 1) && not (is_wrong t)) ≡ u
        → Ends t (at + 1) (sum + 1) bytes × (joined (mk s at sum) (b ∷ bytes) ≡ b ∷ joined (mk t (at + 1) (sum + 1)) bytes)
    by_sent true x =
        let same : chunked (mk s at sum) (b ∷ bytes) ≡ chunked (mk TooLarge (at + 1) (sum + 1)) bytes = rw (going, out, next, x) refl in
        absurd (large_ends (at + 1) (sum + 1) bytes (ap (λ (c : Chunks). c.spot) (sym same) ∙ ends.0))
    by_sent false x =
        let same : chunked (mk s at sum) (b ∷ bytes) ≡ chunked (mk t (at + 1) (sum + 1)) bytes = rw (going, out, next, x) refl in
        ((ap (λ (c : Chunks). c.spot) (sym same) ∙ ends.0, omega (arith, ends.1, ap (λ (c : Chunks). c.at) same)), rw (out, next, x) refl)

-- ---- a byte that must be there

record Follows (w : ℕ) (s t : ChunkState) (at sum : ℕ) (bytes : List ℕ) : Type 0 where
  others : List ℕ
  here : bytes ≡ w ∷ others
  ends : Ends t (at + 1) sum others
  joins : joined (mk s at sum) bytes ≡ joined (mk t (at + 1) sum) others

follows : (w : ℕ) (s t : ChunkState) (at sum : ℕ) (bytes : List ℕ) → is_over s ≡ false → in_data s ≡ false → ((b : ℕ) → next_state s sum b ≡ only w b t)
    → Ends s at sum bytes → Follows w s t at sum bytes
follows w s t at sum [] going out next e = absurd (never_ends s at sum going e)
follows w s t at sum (b ∷ bytes) going out next e = by_byte (b == w) refl
  where
    by_byte : (u : Bool) → (b == w) ≡ u → Follows w s t at sum (b ∷ bytes)
    by_byte true x =
        let n = out_step s t at sum b bytes (next b ∙ rw x refl) out going e in
        record { others = bytes; here = ap (λ (k : ℕ). k ∷ bytes) (eqb-true b w x); ends = n.0; joins = n.1 }
    by_byte false x = absurd (wrong_ends (at + 1) sum bytes (out_step s Wrong at sum b bytes (next b ∙ rw x refl) out going e).0)

-- ---- a size line

record Sized (k v at sum : ℕ) (bytes : List ℕ) : Type 0 where
  digits : List ℕ
  others : List ℕ
  value : ℕ
  place : ℕ
  here : bytes ≡ digits ++ 13 ∷ 10 ∷ others
  all : AllDigits 16 digits
  some : 0 < k + length digits
  few : k + length digits ≤ 8
  least : v ≤ value
  exact : value ≤ 1048576 → value ≡ digits_value_after 16 v digits
  ends : Ends (behind_size value sum) place sum others
  joins : joined (mk (SizeLine k v) at sum) bytes ≡ joined (mk (behind_size value sum) place sum) others

sized : (bytes : List ℕ) (k v at sum : ℕ) → k ≤ 8 → v ≤ 1048577 → Ends (SizeLine k v) at sum bytes → Sized k v at sum bytes
sized [] k v at sum few small e = absurd (never_ends (SizeLine k v) at sum refl e)
sized (b ∷ bytes) k v at sum few small e = by_digit (is_digit b 16 && nat_lt k 8) refl (sized bytes (k + 1) v1 (at + 1) sum)
  where
    v1 : ℕ
    v1 = min (v * 16 + digit_value b) 1048577

    Rest : Type 0
    Rest = k + 1 ≤ 8 → v1 ≤ 1048577 → Ends (SizeLine (k + 1) v1) (at + 1) sum bytes → Sized (k + 1) v1 (at + 1) sum bytes

    line_end : 0 < k → Ends (SizeCr v) (at + 1) sum bytes → (joined (mk (SizeLine k v) at sum) (13 ∷ bytes) ≡ joined (mk (SizeCr v) (at + 1) sum) bytes) → Sized k v at sum (13 ∷ bytes)
    line_end some ends joins =
        let f = follows 10 (SizeCr v) (behind_size v sum) (at + 1) sum bytes refl refl (λ c. refl) ends in
        record {
          digits = [];
          others = f.others;
          value = v;
          place = at + 1 + 1;
          here = ap (λ (l : List ℕ). 13 ∷ l) f.here;
          all = tt;
          some = omega (arith, some);
          few = omega (arith, few);
          least = omega arith;
          exact = λ h. refl;
          ends = f.ends;
          joins = joins ∙ f.joins;
        }

    by_cr : (u : Bool) → (b == 13 && nat_lt 0 k) ≡ u → (is_digit b 16 && nat_lt k 8) ≡ false → Sized k v at sum (b ∷ bytes)
    by_cr true x undigit =
        let cr : b ≡ 13 = eqb-true b 13 (first_so (b == 13) (nat_lt 0 k) x) in
        let some : 0 < k = ltb-true 0 k (second_so (b == 13) (nat_lt 0 k) x) in
        let n = out_step (SizeLine k v) (SizeCr v) at sum b bytes (rw (undigit, x) refl) refl refl e in
        subst (λ (c : ℕ). Sized k v at sum (c ∷ bytes)) (sym cr) (line_end some n.0 (ap (λ (c : ℕ). joined (mk (SizeLine k v) at sum) (c ∷ bytes)) (sym cr) ∙ n.1))
    by_cr false x undigit = absurd (wrong_ends (at + 1) sum bytes (out_step (SizeLine k v) Wrong at sum b bytes (rw (undigit, x) refl) refl refl e).0)

    by_digit : (u : Bool) → (is_digit b 16 && nat_lt k 8) ≡ u → Rest → Sized k v at sum (b ∷ bytes)
    by_digit false x rest = by_cr (b == 13 && nat_lt 0 k) refl x
    by_digit true x rest =
        let digit : digit_value b < 16 = ltb-true (digit_value b) 16 (first_so (is_digit b 16) (nat_lt k 8) x) in
        let below : k < 8 = ltb-true k 8 (second_so (is_digit b 16) (nat_lt k 8) x) in
        let n = out_step (SizeLine k v) (SizeLine (k + 1) v1) at sum b bytes (rw x refl) refl refl e in
        let r = rest (omega (arith, below)) (omega arith) n.0 in
        record {
          digits = b ∷ r.digits;
          others = r.others;
          value = r.value;
          place = r.place;
          here = ap (λ (l : List ℕ). b ∷ l) r.here;
          all = (digit, r.all);
          some = omega arith;
          few = omega (arith, r.few);
          least = omega (arith, r.least, small);
          exact = λ h. let plain : v1 ≡ v * 16 + digit_value b = omega (arith, r.least, h) in r.exact h ∙ ap (λ (n : ℕ). digits_value_after 16 n r.digits) plain;
          ends = r.ends;
          joins = n.1 ∙ r.joins;
        }

-- ---- data

record Held (left at sum total : ℕ) (bytes : List ℕ) : Type 0 where
  part : List ℕ
  others : List ℕ
  place : ℕ
  here : bytes ≡ part ++ others
  size : length part ≡ left
  ends : Ends DataEnd place total others
  joins : joined (mk (Data left) at sum) bytes ≡ part ++ joined (mk DataEnd place total) others

held : (bytes : List ℕ) (left at sum total : ℕ) → 0 < left → total ≡ sum + left → Ends (Data left) at sum bytes → Held left at sum total bytes
held [] left at sum total some is e = absurd (never_ends (Data left) at sum refl e)
held (b ∷ bytes) left at sum total some is e = by_left (nat_lt 1 left) refl (held bytes (left - 1) (at + 1) (sum + 1) total)
  where
    Rest : Type 0
    Rest = 0 < left - 1 → total ≡ sum + 1 + (left - 1) → Ends (Data (left - 1)) (at + 1) (sum + 1) bytes → Held (left - 1) (at + 1) (sum + 1) total bytes

    by_left : (u : Bool) → nat_lt 1 left ≡ u → Rest → Held left at sum total (b ∷ bytes)
    by_left true x rest =
        let more : 1 < left = ltb-true 1 left x in
        let n = in_step (Data left) (Data (left - 1)) at sum b bytes (rw x refl) refl refl e in
        let r = rest (omega (arith, more)) (omega (arith, more, is)) n.0 in
        record {
          part = b ∷ r.part;
          others = r.others;
          place = r.place;
          here = ap (λ (l : List ℕ). b ∷ l) r.here;
          size = omega (arith, r.size, more);
          ends = r.ends;
          joins = n.1 ∙ ap (λ (l : List ℕ). b ∷ l) r.joins;
        }
    by_left false x rest =
        let last : left ≤ 1 = ltb-false 1 left x in
        let n = in_step (Data left) DataEnd at sum b bytes (rw x refl) refl refl e in
        let all : sum + 1 ≡ total = omega (arith, is, last, some) in
        record {
          part = b ∷ [];
          others = bytes;
          place = at + 1;
          here = refl;
          size = omega (arith, last, some);
          ends = subst (λ (k : ℕ). Ends DataEnd (at + 1) k bytes) all n.0;
          joins = n.1 ∙ ap (λ (k : ℕ). b ∷ joined (mk DataEnd (at + 1) k) bytes) all;
        }

-- ---- a body

record Parts (sum : ℕ) (bytes found : List ℕ) : Type 0 where
  chunks : List SentChunk
  size : List ℕ
  all : All IsChunk chunks
  last : IsSize size 0
  sent : bytes ≡ flat_map chunk_bytes chunks ++ end_bytes size
  joins : found ≡ data_of chunks
  limit : sum + length (data_of chunks) ≤ 1048576

nothing : (bytes : List ℕ) → length bytes ≡ 0 → bytes ≡ []
nothing [] e = refl
nothing (b ∷ bytes) e = absurd (omega (arith, e))

last_parts : (at sum : ℕ) (bytes : List ℕ) (s : Sized 0 0 at sum bytes) → s.value ≡ 0 → sum ≤ 1048576 → Parts sum bytes (joined (mk (SizeLine 0 0) at sum) bytes)
unfolding joined
last_parts at sum bytes s none small =
    let line : behind_size s.value sum ≡ LastLine = rw none refl in
    let ends : Ends LastLine s.place sum s.others = subst (λ (t : ChunkState). Ends t s.place sum s.others) line s.ends in
    let f = follows 13 LastLine LastCr s.place sum s.others refl refl (λ b. refl) ends in
    let g = follows 10 LastCr Whole (s.place + 1) sum f.others refl refl (λ b. refl) f.ends in
    let over : g.others ≡ [] = nothing g.others (over_ends Whole (s.place + 1 + 1) sum g.others refl g.ends).1 in
    record {
      chunks = [];
      size = s.digits;
      all = All-nil IsChunk;
      last = record { numeral = (omega (arith, s.some), s.all); few = omega (arith, s.few); value = sym (s.exact (omega (arith, none))) ∙ none };
      sent = s.here ∙ ap (λ (l : List ℕ). s.digits ++ 13 ∷ 10 ∷ l) (f.here ∙ ap (λ (l : List ℕ). 13 ∷ l) (g.here ∙ ap (λ (l : List ℕ). 10 ∷ l) over));
      joins = s.joins ∙ ap (λ (t : ChunkState). joined (mk t s.place sum) s.others) line ∙ f.joins ∙ g.joins ∙ ap (joined (mk Whole (s.place + 1 + 1) sum)) over;
      limit = omega (arith, small);
    }

chunk_parts : (at sum : ℕ) (bytes : List ℕ) (s : Sized 0 0 at sum bytes) → 0 < s.value → sum + s.value ≤ 1048576
    → ((others : List ℕ) (place : ℕ) → length others < length bytes → Ends (SizeLine 0 0) place (sum + s.value) others → Parts (sum + s.value) others (joined (mk (SizeLine 0 0) place (sum + s.value)) others))
    → Parts sum bytes (joined (mk (SizeLine 0 0) at sum) bytes)
chunk_parts at sum bytes s some small rest =
    let n : ℕ = s.value in
    let total : ℕ = sum + n in
    let line : behind_size n sum ≡ Data n = opened n sum some small in
    let ends : Ends (Data n) s.place sum s.others = subst (λ (t : ChunkState). Ends t s.place sum s.others) line s.ends in
    let d = held s.others n s.place sum total some refl ends in
    let f = follows 13 DataEnd DataCr d.place total d.others refl refl (λ b. refl) d.ends in
    let g = follows 10 DataCr (SizeLine 0 0) (d.place + 1) total f.others refl refl (λ b. refl) f.ends in
    let behind : d.others ≡ 13 ∷ 10 ∷ g.others = f.here ∙ ap (λ (l : List ℕ). 13 ∷ l) g.here in
    let text : bytes ≡ s.digits ++ 13 ∷ 10 ∷ (d.part ++ 13 ∷ 10 ∷ g.others) = s.here ∙ ap (λ (l : List ℕ). s.digits ++ 13 ∷ 10 ∷ l) (d.here ∙ ap (λ (l : List ℕ). d.part ++ l) behind) in
    let shorter : length g.others < length bytes =
    omega (arith, ap length text, length-append s.digits (13 ∷ 10 ∷ (d.part ++ 13 ∷ 10 ∷ g.others)), length-append d.part (13 ∷ 10 ∷ g.others)) in
    let r = rest g.others (d.place + 1 + 1) shorter g.ends in
    let c : SentChunk = record { size = s.digits; bytes = d.part } in
    let value : n ≡ digits_value_after 16 0 s.digits = s.exact (omega (arith, small)) in
    let is : IsChunk c = record {
      size = record { numeral = (omega (arith, s.some), s.all); few = omega (arith, s.few); value = sym value ∙ sym d.size };
      some = omega (arith, d.size, some);
    } in
    let behind_chunk : List ℕ = flat_map chunk_bytes r.chunks ++ end_bytes r.size in
    record {
      chunks = c ∷ r.chunks;
      size = r.size;
      all = All-cons IsChunk c r.chunks is r.all;
      last = r.last;
      sent = text ∙ ap (λ (l : List ℕ). s.digits ++ 13 ∷ 10 ∷ (d.part ++ 13 ∷ 10 ∷ l)) r.sent ∙ sym (spelled s.digits d.part behind_chunk)
          ∙ sym (append_assoc (chunk_bytes c) (flat_map chunk_bytes r.chunks) (end_bytes r.size));
      joins = s.joins ∙ ap (λ (t : ChunkState). joined (mk t s.place sum) s.others) line ∙ d.joins ∙ ap (λ (l : List ℕ). d.part ++ l) (f.joins ∙ g.joins ∙ r.joins);
      limit = omega (arith, r.limit, d.size, length-append d.part (data_of r.chunks));
    }

parts : (n : ℕ) (bytes : List ℕ) (at sum : ℕ) → length bytes ≤ n → sum ≤ 1048576 → Ends (SizeLine 0 0) at sum bytes → Parts sum bytes (joined (mk (SizeLine 0 0) at sum) bytes)
parts zero bytes at sum short small e = absurd (never_ends (SizeLine 0 0) at sum refl (subst (λ (l : List ℕ). Ends (SizeLine 0 0) at sum l) (nothing bytes (omega (arith, short))) e))
parts (suc n) bytes at sum short small e = by_size (s.value == 0) refl (parts n)
  where
    s : Sized 0 0 at sum bytes
    s = sized bytes 0 0 at sum (omega arith) (omega arith) e

    Rest : Type 0
    Rest = (others : List ℕ) (place total : ℕ) → length others ≤ n → total ≤ 1048576 → Ends (SizeLine 0 0) place total others → Parts total others (joined (mk (SizeLine 0 0) place total) others)

    by_limit : (u : Bool) → nat_lt 1048576 (sum + s.value) ≡ u → (s.value == 0) ≡ false → Rest → Parts sum bytes (joined (mk (SizeLine 0 0) at sum) bytes)
    by_limit true x some rest =
        let line : behind_size s.value sum ≡ TooLarge = rw (some, x) refl in
        absurd (large_ends s.place sum s.others (subst (λ (t : ChunkState). Ends t s.place sum s.others) line s.ends).0)
    by_limit false x some rest =
        let fits : sum + s.value ≤ 1048576 = ltb-false 1048576 (sum + s.value) x in
        let filled : 0 < s.value = positive s.value some in
        chunk_parts at sum bytes s filled fits (λ others place shorter ends. rest others place (sum + s.value) (omega (arith, shorter, short)) fits ends)
      where
        positive : (k : ℕ) → (k == 0) ≡ false → 0 < k
        positive zero h = absurd cc
        positive (suc k) h = omega arith

    by_size : (u : Bool) → (s.value == 0) ≡ u → Rest → Parts sum bytes (joined (mk (SizeLine 0 0) at sum) bytes)
    by_size true x rest = last_parts at sum bytes s (eqb-true s.value 0 x) small
    by_size false x rest = by_limit (nat_lt 1048576 (sum + s.value)) refl x rest

-- ---- within the limit of what is sent

whole_within : (c : Chunks) (bytes : List ℕ) → is_over c.spot ≡ false → (chunked c bytes).spot ≡ Whole → (chunked c bytes).at ≤ 1572864
unfolding chunked
whole_within c [] going e = absurd (let over : is_over c.spot ≡ true = ap is_over e in cc)
whole_within c (b ∷ bytes) going e = by_over (is_over (chunk_step c b).spot) refl (whole_within (chunk_step c b) bytes)
  where
    one : chunked c (b ∷ bytes) ≡ chunked (chunk_step c b) bytes
    one = rw going refl

    Rest : Type 0
    Rest = is_over (chunk_step c b).spot ≡ false → (chunked (chunk_step c b) bytes).spot ≡ Whole → (chunked (chunk_step c b) bytes).at ≤ 1572864

    next : ChunkState
    next = next_state c.spot c.sum b

    -- a state that is whole was not taken for too large
    by_sent : (u : Bool) → (nat_lt 1572864 (c.at + 1) && not (is_wrong next)) ≡ u → (chunk_step c b).spot ≡ Whole → c.at + 1 ≤ 1572864
    by_sent true x whole = absurd (let large : (chunk_step c b).spot ≡ TooLarge = rw x refl in let is : TooLarge ≡ Whole = sym large ∙ whole in cc)
    by_sent false x whole =
        let is : next ≡ Whole = (let same : (chunk_step c b).spot ≡ next = rw x refl in sym same ∙ whole) in
        let plain : (nat_lt 1572864 (c.at + 1) && not (is_wrong Whole)) ≡ false = ap (λ (t : ChunkState). nat_lt 1572864 (c.at + 1) && not (is_wrong t)) (sym is) ∙ x in
        ltb-false 1572864 (c.at + 1) (and_true (nat_lt 1572864 (c.at + 1)) plain)
      where
        and_true : (p : Bool) → (p && true) ≡ false → p ≡ false
        and_true true h = absurd (cc h)
        and_true false h = refl

    by_over : (u : Bool) → is_over (chunk_step c b).spot ≡ u → Rest → (chunked c (b ∷ bytes)).at ≤ 1572864
    by_over false x rest = subst (λ (d : Chunks). d.at ≤ 1572864) (sym one) (rest x (ap (λ (d : Chunks). d.spot) (sym one) ∙ e))
    by_over true x rest =
        let stays : chunked (chunk_step c b) bytes ≡ chunk_step c b = chunked_over (chunk_step c b) bytes x in
        let same : chunked c (b ∷ bytes) ≡ chunk_step c b = one ∙ stays in
        subst (λ (d : Chunks). d.at ≤ 1572864) (sym same) (by_sent (nat_lt 1572864 (c.at + 1) && not (is_wrong next)) refl (ap (λ (d : Chunks). d.spot) (sym same) ∙ e))

-- what is read to its end as a body is one, and its data are those that are joined
pub whole_is_body : (bytes : List ℕ) → (chunked no_chunks bytes).spot ≡ Whole → (chunked no_chunks bytes).at ≡ length bytes
    → (chunks : List SentChunk) × (size : List ℕ) × IsBody bytes chunks size × (joined no_chunks bytes ≡ data_of chunks)
whole_is_body bytes whole all =
    let p = parts (length bytes) bytes 0 0 (omega arith) (omega arith) (whole, omega (arith, all)) in (
      p.chunks,
      p.size,
      record {
        each = p.all;
        last = p.last;
        sent = p.sent;
        data_limit = omega (arith, p.limit);
        sent_limit = omega (arith, all, whole_within no_chunks bytes refl whole);
      },
      p.joins,
    )
