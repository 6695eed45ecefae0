-- The slots and connections that there are.
use Rattle.std.proofs.Common.{◌≡◌, ℕ, ◌+◌, ◌<◌, ◌≤◌, ◌==◌, false, List, [], ◌∷◌, ◌++◌, refl, sym, ap, ◌∙◌, subst, arith}
use Rattle.std.proofs.lemmas.Bool.{ne_eqb}
use Rattle.kapi_serve.specs.Acts.{IsFree, ClientState}
use Rattle.kapi_serve.proofs.Flows.{differs_back}

-- ---- lists of numbers

-- none of the numbers is this one
unfoldable pub IsNew : ℕ → List ℕ → Type 0
IsNew n [] = Unit {0}
IsNew n (k ∷ ks) = ((k == n) ≡ false) × IsNew n ks

-- the numbers differ
unfoldable pub AreApart : List ℕ → Type 0
AreApart [] = Unit {0}
AreApart (k ∷ ks) = IsNew k ks × AreApart ks

-- the numbers are below a limit
unfoldable pub AreBelow : ℕ → List ℕ → Type 0
AreBelow n [] = Unit {0}
AreBelow n (k ∷ ks) = (k < n) × AreBelow n ks

-- a number that none of the numbers is
pub new_at : (n k : ℕ) (ks ls : List ℕ) → IsNew n (ks ++ k ∷ ls) → (k == n) ≡ false
unfolding IsNew
new_at n k [] ls h = h.0
new_at n k (j ∷ ks) ls h = new_at n k ks ls h.1

pub new_without : (n k : ℕ) (ks ls : List ℕ) → IsNew n (ks ++ k ∷ ls) → IsNew n (ks ++ ls)
unfolding IsNew
new_without n k [] ls h = h.1
new_without n k (j ∷ ks) ls h = (h.0, new_without n k ks ls h.1)

pub new_front : (n : ℕ) (ks ls : List ℕ) → IsNew n (ks ++ ls) → IsNew n ks
unfolding IsNew
new_front n [] ls h = tt
new_front n (k ∷ ks) ls h = (h.0, new_front n ks ls h.1)

pub new_back : (n : ℕ) (ks ls : List ℕ) → IsNew n (ks ++ ls) → IsNew n ls
unfolding IsNew
new_back n [] ls h = h
new_back n (k ∷ ks) ls h = new_back n ks ls h.1

pub new_more : (n k : ℕ) (ks : List ℕ) → IsNew n ks → (k == n) ≡ false → IsNew n (ks ++ k ∷ [])
unfolding IsNew
new_more n k [] h off = (off, tt)
new_more n k (j ∷ ks) h off = (h.0, new_more n k ks h.1 off)

-- numbers that differ
apart_at : (k : ℕ) (ks ls : List ℕ) → AreApart (ks ++ k ∷ ls) → IsNew k (ks ++ ls)
unfolding AreApart IsNew
apart_at k [] ls h = h.0
apart_at k (j ∷ ks) ls h = (differs_back k j (new_at j k ks ls h.0), apart_at k ks ls h.1)

apart_without : (k : ℕ) (ks ls : List ℕ) → AreApart (ks ++ k ∷ ls) → AreApart (ks ++ ls)
unfolding AreApart
apart_without k [] ls h = h.1
apart_without k (j ∷ ks) ls h = (new_without j k ks ls h.0, apart_without k ks ls h.1)

apart_more : (k : ℕ) (ks : List ℕ) → AreApart ks → IsNew k ks → AreApart (ks ++ k ∷ [])
unfolding AreApart IsNew
apart_more k [] h new = (tt, tt)
apart_more k (j ∷ ks) h new = (new_more j k ks h.0 (differs_back j k new.0), apart_more k ks h.1 new.1)

-- numbers below another
below_at : (n k : ℕ) (ks ls : List ℕ) → AreBelow n (ks ++ k ∷ ls) → k < n
unfolding AreBelow
below_at n k [] ls h = h.0
below_at n k (j ∷ ks) ls h = below_at n k ks ls h.1

below_without : (n k : ℕ) (ks ls : List ℕ) → AreBelow n (ks ++ k ∷ ls) → AreBelow n (ks ++ ls)
unfolding AreBelow
below_without n k [] ls h = h.1
below_without n k (j ∷ ks) ls h = (h.0, below_without n k ks ls h.1)

below_more : (n k : ℕ) (ks : List ℕ) → AreBelow n ks → k < n → AreBelow n (ks ++ k ∷ [])
unfolding AreBelow
below_more n k [] h less = (less, tt)
below_more n k (j ∷ ks) h less = (h.0, below_more n k ks h.1 less)

below_up : (n p : ℕ) (ks : List ℕ) → n ≤ p → AreBelow n ks → AreBelow p ks
unfolding AreBelow
below_up n p [] up h = tt
below_up n p (k ∷ ks) up h = let less : k < n = h.0 in let here : k < p = omega arith in (here, below_up n p ks up h.1)

-- a number that is less is another
pub less_differs : (k n : ℕ) → k < n → (k == n) ≡ false
less_differs k n less = ne_eqb k n (λ e. let same : k ≡ n = e in omega arith)

-- numbers below a limit are others than the limit
new_above : (n : ℕ) (ks : List ℕ) → AreBelow n ks → IsNew n ks
unfolding AreBelow IsNew
new_above n [] h = tt
new_above n (k ∷ ks) h = (less_differs k n h.0, new_above n ks h.1)

-- ---- seats

-- the slots of clients
unfoldable pub slots : List ClientState → List ℕ
slots [] = []
slots (x ∷ xs) = x.slot ∷ slots xs

-- the numbers of the clients' connections
unfoldable pub ids : List ClientState → List ℕ
ids [] = []
ids (x ∷ xs) = x.conn.0 ∷ ids xs

-- the slots of lists that are joined
pub slots_more : (s t : List ClientState) → slots (s ++ t) ≡ slots s ++ slots t
unfolding slots
slots_more [] t = refl
slots_more (x ∷ s) t = ap (λ r. x.slot ∷ r) (slots_more s t)

pub ids_more : (s t : List ClientState) → ids (s ++ t) ≡ ids s ++ ids t
unfolding ids
ids_more [] t = refl
ids_more (x ∷ s) t = ap (λ r. x.conn.0 ∷ r) (ids_more s t)

pub slots_with : (x : ClientState) (f b : List ClientState) → slots (f ++ x ∷ b) ≡ slots f ++ x.slot ∷ slots b
unfolding slots
slots_with x f b = slots_more f (x ∷ b)

pub ids_with : (x : ClientState) (f b : List ClientState) → ids (f ++ x ∷ b) ≡ ids f ++ x.conn.0 ∷ ids b
unfolding ids
ids_with x f b = ids_more f (x ∷ b)

-- a seat changes what it owes alone
pub slots_same : (x y : ClientState) (f b : List ClientState) → y.slot ≡ x.slot → slots (f ++ x ∷ b) ≡ slots (f ++ y ∷ b)
slots_same x y f b e = slots_with x f b ∙ ap (λ k. slots f ++ k ∷ slots b) (sym e) ∙ sym (slots_with y f b)

pub ids_same : (x y : ClientState) (f b : List ClientState) → y.conn ≡ x.conn → ids (f ++ x ∷ b) ≡ ids (f ++ y ∷ b)
ids_same x y f b e = ids_with x f b ∙ ap (λ c. ids f ++ c.0 ∷ ids b) (sym e) ∙ sym (ids_with y f b)

-- no client is on a slot that is free
pub new_if_free : (k : ℕ) (s : List ClientState) → IsFree k s → IsNew k (slots s)
unfolding IsFree IsNew slots
new_if_free k [] h = tt
new_if_free k (x ∷ s) h = (h.0, new_if_free k s h.1)

-- the slots differ, and so do the connections, whose numbers were given
pub record Sits (n : ℕ) (s : List ClientState) : Type 0 where
  pub slots_apart : AreApart (slots s)
  pub ids_apart : AreApart (ids s)
  pub ids_below : AreBelow n (ids s)

-- at first there are no clients
pub nobody_sits : (n : ℕ) → Sits n []
unfolding slots ids AreApart AreBelow
nobody_sits n = record { slots_apart = tt; ids_apart = tt; ids_below = tt }

-- numbers are given
pub sits_up : (n p : ℕ) (s : List ClientState) → n ≤ p → Sits n s → Sits p s
sits_up n p s up h = record { slots_apart = h.slots_apart; ids_apart = h.ids_apart; ids_below = below_up n p (ids s) up h.ids_below }

-- something is done for a client
pub sits_served : (n : ℕ) (x y : ClientState) (f b : List ClientState) → y.slot ≡ x.slot → y.conn ≡ x.conn → Sits n (f ++ x ∷ b) → Sits n (f ++ y ∷ b)
sits_served n x y f b slot conn h = record {
  slots_apart = subst (λ ks. AreApart ks) (slots_same x y f b slot) h.slots_apart;
  ids_apart = subst (λ ks. AreApart ks) (ids_same x y f b conn) h.ids_apart;
  ids_below = subst (λ ks. AreBelow n ks) (ids_same x y f b conn) h.ids_below;
}

-- a client leaves
pub sits_left : (n : ℕ) (x : ClientState) (f b : List ClientState) → Sits n (f ++ x ∷ b) → Sits n (f ++ b)
sits_left n x f b h = record {
  slots_apart = subst (λ ks. AreApart ks) (sym (slots_more f b)) (apart_without x.slot (slots f) (slots b) (subst (λ ks. AreApart ks) (slots_with x f b) h.slots_apart));
  ids_apart = subst (λ ks. AreApart ks) (sym (ids_more f b)) (apart_without x.conn.0 (ids f) (ids b) (subst (λ ks. AreApart ks) (ids_with x f b) h.ids_apart));
  ids_below = subst (λ ks. AreBelow n ks) (sym (ids_more f b)) (below_without n x.conn.0 (ids f) (ids b) (subst (λ ks. AreBelow n ks) (ids_with x f b) h.ids_below));
}

-- the next number is no client's
pub next_is_new : (n : ℕ) (s : List ClientState) → Sits n s → IsNew n (ids s)
next_is_new n s h = new_above n (ids s) h.ids_below

-- a client comes, with the next number
pub sits_more : (n : ℕ) (x : ClientState) (s : List ClientState) → IsFree x.slot s → x.conn.0 ≡ n → Sits n s → Sits (n + 1) (s ++ x ∷ [])
unfolding slots ids
sits_more n x s free next h =
    let new : IsNew x.conn.0 (ids s) = subst (λ k. IsNew k (ids s)) (sym next) (next_is_new n s h) in
    let up : n ≤ n + 1 = omega arith in
    let less : x.conn.0 < n + 1 = omega arith in
    record {
      slots_apart = subst (λ ks. AreApart ks) (sym (slots_more s (x ∷ []))) (apart_more x.slot (slots s) h.slots_apart (new_if_free x.slot s free));
      ids_apart = subst (λ ks. AreApart ks) (sym (ids_more s (x ∷ []))) (apart_more x.conn.0 (ids s) h.ids_apart new);
      ids_below = subst (λ ks. AreBelow (n + 1) ks) (sym (ids_more s (x ∷ []))) (below_more (n + 1) x.conn.0 (ids s) (below_up n (n + 1) (ids s) up h.ids_below) less);
    }

-- the others have other slots and connections
pub slot_is_new : (n : ℕ) (x : ClientState) (f b : List ClientState) → Sits n (f ++ x ∷ b) → IsNew x.slot (slots f ++ slots b)
slot_is_new n x f b h = apart_at x.slot (slots f) (slots b) (subst (λ ks. AreApart ks) (slots_with x f b) h.slots_apart)

pub id_is_new : (n : ℕ) (x : ClientState) (f b : List ClientState) → Sits n (f ++ x ∷ b) → IsNew x.conn.0 (ids f ++ ids b)
id_is_new n x f b h = apart_at x.conn.0 (ids f) (ids b) (subst (λ ks. AreApart ks) (ids_with x f b) h.ids_apart)

-- each of the other connections has a number that was given
pub id_is_below : (n : ℕ) (x : ClientState) (f b : List ClientState) → Sits n (f ++ x ∷ b) → x.conn.0 < n
id_is_below n x f b h = below_at n x.conn.0 (ids f) (ids b) (subst (λ ks. AreBelow n ks) (ids_with x f b) h.ids_below)
