-- Bodies in chunks whose bytes come in pieces.
use Rattle.std.proofs.Common.{◌≡◌, ℕ, ◌+◌, ◌<◌, ◌≤◌, suc, Bool, true, false, List, [], ◌∷◌, ◌++◌, length, take, drop, refl, sym, ap, ◌∙◌, arith, take-append-drop}
use Rattle.std.proofs.lemmas.List.{drop-append-le, length-take}
use Rattle.kapi_http.specs.Chunks.{chunk_step, chunked, ending_of, in_data, is_over, no_chunks}
use Rattle.kapi_http.specs.declared.chunks.Chunks.{Chunks}
use Rattle.kapi_http.specs.declared.chunks.Ending.TheVariants as ending
use Rattle.kapi_http.specs.declared.chunks.ChunkState.{ChunkState}
use Rattle.kapi_http.specs.declared.chunks.ChunkState.TheVariants.{SizeLine, SizeCr, Data, DataEnd, DataCr, LastLine, LastCr, Whole, Wrong, TooLarge}

-- nothing is read behind the end of a body
pub chunked_over : (c : Chunks) (bytes : List ℕ) → is_over c.spot ≡ true → chunked c bytes ≡ c
unfolding chunked
chunked_over c [] e = refl
chunked_over c (b ∷ bytes) e = rw e refl

-- two pieces one after the other
pub chunked_append : (c : Chunks) (a b : List ℕ) → chunked c (a ++ b) ≡ chunked (chunked c a) b
unfolding chunked
chunked_append c [] b = refl
chunked_append c (x ∷ a) b = by_spot (is_over c.spot) refl (chunked_append (chunk_step c x) a b)
  where
    by_spot : (e : Bool) → is_over c.spot ≡ e → chunked (chunk_step c x) (a ++ b) ≡ chunked (chunked (chunk_step c x) a) b
        → chunked c (x ∷ (a ++ b)) ≡ chunked (chunked c (x ∷ a)) b
    by_spot true e more = rw e (sym (chunked_over c b e))
    by_spot false e more = rw e more

-- the state after some bytes depends only on the bytes that were read
pub chunked_take : (c : Chunks) (bytes : List ℕ)
    → (n : ℕ) × (n ≤ length bytes) × ((chunked c bytes).at ≡ c.at + n) × (chunked c (take n bytes) ≡ chunked c bytes)
unfolding chunked
chunked_take c [] = (0, omega arith, omega arith, refl)
chunked_take c (b ∷ bytes) = by_spot (is_over c.spot) refl (chunked_take (chunk_step c b) bytes)
  where
    Reads : Chunks → List ℕ → Type 0
    Reads t text = (n : ℕ) × (n ≤ length text) × ((chunked t text).at ≡ t.at + n) × (chunked t (take n text) ≡ chunked t text)

    by_spot : (e : Bool) → is_over c.spot ≡ e → Reads (chunk_step c b) bytes → Reads c (b ∷ bytes)
    by_spot true e more = (0, omega arith, rw e (omega arith), rw e refl)
    by_spot false e more =
        let count : (chunked (chunk_step c b) bytes).at ≡ c.at + 1 + more.0 = more.2 in
        (suc more.0, omega (arith, more.1), rw e (count ∙ omega arith), rw e more.3)

-- a body that is not over was read to the last byte
pub chunked_all : (c : Chunks) (bytes : List ℕ) → is_over (chunked c bytes).spot ≡ false → (chunked c bytes).at ≡ c.at + length bytes
unfolding chunked
chunked_all c [] e = omega arith
chunked_all c (b ∷ bytes) e = by_spot (is_over c.spot) refl (chunked_all (chunk_step c b) bytes)
  where
    by_spot : (t : Bool) → is_over c.spot ≡ t
        → (is_over (chunked (chunk_step c b) bytes).spot ≡ false → (chunked (chunk_step c b) bytes).at ≡ c.at + 1 + length bytes)
        → (chunked c (b ∷ bytes)).at ≡ c.at + length (b ∷ bytes)
    by_spot true t more = absurd (let going = rw t at e in let shut : is_over c.spot ≡ true = t in cc)
    by_spot false t more = let going = rw t at e in rw t (more going ∙ omega arith)

-- the data are at most the bytes
step_bounded : (c : Chunks) (b : ℕ) → c.sum ≤ c.at → (chunk_step c b).sum ≤ (chunk_step c b).at
step_bounded c b h = by_data (in_data c.spot) refl
  where
    by_data : (t : Bool) → in_data c.spot ≡ t → (chunk_step c b).sum ≤ (chunk_step c b).at
    by_data true t = rw t (omega (arith, h))
    by_data false t = rw t (omega (arith, h))

pub data_bounded : (c : Chunks) (bytes : List ℕ) → c.sum ≤ c.at → (chunked c bytes).sum ≤ (chunked c bytes).at
unfolding chunked
data_bounded c [] h = h
data_bounded c (b ∷ bytes) h = by_spot (is_over c.spot) refl (data_bounded (chunk_step c b) bytes (step_bounded c b h))
  where
    by_spot : (t : Bool) → is_over c.spot ≡ t → (chunked (chunk_step c b) bytes).sum ≤ (chunked (chunk_step c b) bytes).at
        → (chunked c (b ∷ bytes)).sum ≤ (chunked c (b ∷ bytes)).at
    by_spot true t more = rw t h
    by_spot false t more = rw t more

-- what is read of a text lies within it
pub chunks_within : (bytes : List ℕ) → (chunked no_chunks bytes).at ≤ length bytes
chunks_within bytes = let front = chunked_take no_chunks bytes in omega (arith, front.1, front.2)

-- exactly an open body goes on
pub open_goes_on : (s : ChunkState) → ending_of s ≡ ending.Open → is_over s ≡ false
open_goes_on (SizeLine digits size) e = refl
open_goes_on (SizeCr size) e = refl
open_goes_on (Data left) e = refl
open_goes_on DataEnd e = refl
open_goes_on DataCr e = refl
open_goes_on LastLine e = refl
open_goes_on LastCr e = refl
open_goes_on Whole e = absurd cc
open_goes_on Wrong e = absurd cc
open_goes_on TooLarge e = absurd cc

pub going_is_open : (s : ChunkState) → is_over s ≡ false → ending_of s ≡ ending.Open
going_is_open (SizeLine digits size) e = refl
going_is_open (SizeCr size) e = refl
going_is_open (Data left) e = refl
going_is_open DataEnd e = refl
going_is_open DataCr e = refl
going_is_open LastLine e = refl
going_is_open LastCr e = refl
going_is_open Whole e = absurd cc
going_is_open Wrong e = absurd cc
going_is_open TooLarge e = absurd cc

pub ended_is_over : (s : ChunkState) → (ending_of s ≡ ending.Open → ⊥) → is_over s ≡ true
ended_is_over s ended = by_over (is_over s) refl
  where
    by_over : (b : Bool) → is_over s ≡ b → is_over s ≡ true
    by_over true e = e
    by_over false e = absurd (ended (going_is_open s e))

-- reading on behind so many bytes
pub chunks_append : (n : ℕ) (bytes more : List ℕ) → n ≤ length bytes
    → chunked no_chunks (drop n (bytes ++ more)) ≡ chunked (chunked no_chunks (drop n bytes)) more
chunks_append n bytes more fits =
    ap (chunked no_chunks) (drop-append-le n bytes more fits) ∙ chunked_append no_chunks (drop n bytes) more

-- a body that is over stays as it is, whatever follows
pub chunks_stay : (n : ℕ) (bytes more : List ℕ) → n ≤ length bytes → is_over (chunked no_chunks (drop n bytes)).spot ≡ true
    → chunked no_chunks (drop n (bytes ++ more)) ≡ chunked no_chunks (drop n bytes)
chunks_stay n bytes more fits over =
    chunks_append n bytes more fits ∙ chunked_over (chunked no_chunks (drop n bytes)) more over

-- the result depends only on the bytes that were read
pub chunks_front : (body : List ℕ) → chunked no_chunks (take (chunked no_chunks body).at body) ≡ chunked no_chunks body
chunks_front body =
    let front = chunked_take no_chunks body in
    let at : (chunked no_chunks body).at ≡ front.0 = omega (arith, front.2) in
    ap (λ (k : ℕ). chunked no_chunks (take k body)) at ∙ front.3

-- with fewer bytes than were read the body stays open
pub chunks_open : (body : List ℕ) (k : ℕ) → k < (chunked no_chunks body).at → ending_of (chunked no_chunks (take k body)).spot ≡ ending.Open
chunks_open body k below = going_is_open (chunked no_chunks (take k body)).spot (by_over (is_over (chunked no_chunks (take k body)).spot) refl)
  where
    by_over : (b : Bool) → is_over (chunked no_chunks (take k body)).spot ≡ b → is_over (chunked no_chunks (take k body)).spot ≡ false
    by_over false e = e
    by_over true e =
        let same : chunked no_chunks body ≡ chunked no_chunks (take k body) =
        ap (chunked no_chunks) (sym (take-append-drop k body)) ∙ chunked_append no_chunks (take k body) (drop k body)
        ∙ chunked_over (chunked no_chunks (take k body)) (drop k body) e in
        absurd (omega (arith, ap (λ (c : Chunks). c.at) same, chunks_within (take k body), length-take k body))
