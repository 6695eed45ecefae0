-- Seats to which the published steps are reported, one by one.
use Rattle.std.proofs.Common.{◌≡◌, ℕ, zero, suc, ◌+◌, All, List, [], ◌∷◌, ◌++◌, length, sym, ◌∙◌, subst, arith}
use Rattle.kapi_publishing.specs.Boards.{Chair}
use Rattle.kapi_audit.specs.Private.Readers.{AreReaders}
use Rattle.kapi_audit.specs.declared.reader.Reader.{Reader}

-- no reader yet
pub no_readers : (seat : Chair) (rs : List Reader) → rs ≡ [] → AreReaders seat 0 rs
unfolding AreReaders
no_readers seat rs none = subst (AreReaders seat 0) (sym none) tt

-- one reader more
pub reader_more : (seat : Chair) (from : ℕ) (rs : List Reader) (r : Reader) → AreReaders seat from rs → r.number ≡ from + length rs → r.seat ≡ seat → AreReaders seat from (rs ++ r ∷ [])
unfolding AreReaders
reader_more seat from [] r are number sits = (number ∙ omega arith, sits, tt)
reader_more seat from (q ∷ qs) r are number sits = (are.0, are.1, reader_more seat (from + 1) qs r are.2 (number ∙ omega arith) sits)

pub readers_more : (seat : Chair) (rs more : List Reader) (r : Reader) (n : ℕ) → AreReaders seat 0 rs → r.number ≡ n → n ≡ length rs → r.seat ≡ seat → more ≡ rs ++ r ∷ [] → AreReaders seat 0 more
readers_more seat rs more r n are number counted sits is = subst (AreReaders seat 0) (sym is) (reader_more seat 0 rs r are (let k = number ∙ counted in omega (arith, k)) sits)

-- what is said of all seats is said of the front ones
pub front_all : (seat : Chair) (xs ys zs : List Chair) → zs ≡ xs ++ ys → All (λ s. s ≡ seat) zs → All (λ s. s ≡ seat) xs
front_all seat xs ys zs is h = front xs (subst (All (λ s. s ≡ seat)) is h)
  where
    front : (fs : List Chair) → All (λ s. s ≡ seat) (fs ++ ys) → All (λ s. s ≡ seat) fs
    front [] k n d below = absurd (omega (arith, below))
    front (f ∷ fs) k zero d below = k zero d (omega arith)
    front (f ∷ fs) k (suc n) d below = front fs (λ m e b. k (suc m) e (omega (arith, b))) n d (omega (arith, below))
