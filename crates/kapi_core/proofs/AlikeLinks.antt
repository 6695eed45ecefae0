-- Maps of connections that are alike.
use Rattle.std.proofs.Common.{◌≡◌, ℕ, suc, ◌+◌, Bool, true, false, cond, List, [], ◌∷◌, ◌++◌, length, Option, Some, None, refl, sym, ap, subst, arith, add-zero}
use Rattle.std.specs.Map.{lookup, set_value, remove_entry}
use Rattle.std.specs.Ordering.{nat_cmp, match_ordering}
use Rattle.std.specs.declared.cmp.Ordering.{Ordering}
use Rattle.std.specs.declared.cmp.Ordering.TheVariants.{Less, Equal, Greater}
use Rattle.std.specs.BTreeMap.{insert_entry}
use Rattle.kapi_answer.specs.Watch.{PlainWatching}
use Rattle.kapi_answer.specs.declared.watch.Watching.{Watching}
use Rattle.kapi_store.specs.Changes.{Follow}
use Rattle.kapi_store.specs.Plain.{Plain, PlainChange, RefinesPlain, written}
use Rattle.kapi_store.specs.State.{State}
use Rattle.kapi_watch.proofs.Runs.{stays}
use Rattle.kapi_core.specs.declared.connection.Connection.{Connection}
use Rattle.kapi_core.specs.Machine.{Link}
use Rattle.kapi_core.specs.Refines.{AreLinks, AreWatching, IsLink}

same : (x y : Connection) → Some x ≡ Some y → x ≡ y
same x y h = cc

-- a connection that changed and is no more
pub removed_set : {X : Type 0} (t : ℕ → Bool) (es : List (ℕ × X)) (c : X) → remove_entry t (set_value t es c) ≡ remove_entry t es
removed_set t [] c = refl
removed_set t (x ∷ es) c = by_test (removed_set t es c) (t x.0) refl
  where
    by_test : remove_entry t (set_value t es c) ≡ remove_entry t es → (b : Bool) → t x.0 ≡ b
        → remove_entry t (cond (t x.0) ((x.0, c) ∷ es) (x ∷ set_value t es c)) ≡ cond (t x.0) es (x ∷ remove_entry t es)
    by_test more true is = rw (is, is) refl
    by_test more false is = rw (is, is) (ap (λ r. x ∷ r) more)

-- over all changes ever, and what they made
module _ (history : List PlainChange) (state : Plain) where
  -- a connection that is there has its link
  pub link_there : (t : ℕ → Bool) (es : List (ℕ × Connection)) (ps : List (ℕ × Link)) (c : Connection)
      → AreLinks history state es ps → lookup t es ≡ Some c → (l : Link) × (lookup t ps ≡ Some l) × IsLink history state c l
  unfolding AreLinks
  link_there t [] [] c h e = absurd (cc e)
  link_there t [] (p ∷ ps) c h e = absurd h
  link_there t (x ∷ es) [] c h e = absurd h
  link_there t (x ∷ es) (p ∷ ps) c h e =
      let P : ℕ → Type 0 = λ k. (b : Bool) → t x.0 ≡ b → cond b (Some x.1) (lookup t es) ≡ Some c → (l : Link) × (cond (t k) (Some p.1) (lookup t ps) ≡ Some l) × IsLink history state c l in
      subst P h.0 (by_test (link_there t es ps c h.2)) (t x.0) refl e
    where
      by_test : (lookup t es ≡ Some c → (l : Link) × (lookup t ps ≡ Some l) × IsLink history state c l)
          → (b : Bool) → t x.0 ≡ b → cond b (Some x.1) (lookup t es) ≡ Some c → (l : Link) × (cond (t x.0) (Some p.1) (lookup t ps) ≡ Some l) × IsLink history state c l
      by_test more true is found = (p.1, rw is refl, (let Q : Connection → Type 0 = λ d. IsLink history state d p.1 in subst Q (same x.1 c found) h.1))
      by_test more false is found = let l = more found in (l.0, rw is l.1, l.2)

  -- a connection that is not there has no link
  pub link_missing : (t : ℕ → Bool) (es : List (ℕ × Connection)) (ps : List (ℕ × Link)) → AreLinks history state es ps → lookup t es ≡ None → lookup t ps ≡ None
  unfolding AreLinks
  link_missing t [] [] h e = refl
  link_missing t [] (p ∷ ps) h e = absurd h
  link_missing t (x ∷ es) [] h e = absurd h
  link_missing t (x ∷ es) (p ∷ ps) h e =
      let P : ℕ → Type 0 = λ k. (b : Bool) → t x.0 ≡ b → cond b (Some x.1) (lookup t es) ≡ None → cond (t k) (Some p.1) (lookup t ps) ≡ None in
      subst P h.0 (by_test (link_missing t es ps h.2)) (t x.0) refl e
    where
      by_test : (lookup t es ≡ None → lookup t ps ≡ None) → (b : Bool) → t x.0 ≡ b → cond b (Some x.1) (lookup t es) ≡ None → cond (t x.0) (Some p.1) (lookup t ps) ≡ None
      by_test more true is found = absurd (cc found)
      by_test more false is found = rw is (more found)

  -- a connection that changed
  pub links_set : (t : ℕ → Bool) (es : List (ℕ × Connection)) (ps : List (ℕ × Link)) (c : Connection) (l : Link)
      → AreLinks history state es ps → IsLink history state c l → AreLinks history state (set_value t es c) (set_value t ps l)
  unfolding AreLinks
  links_set t [] [] c l h k = h
  links_set t [] (p ∷ ps) c l h k = absurd h
  links_set t (x ∷ es) [] c l h k = absurd h
  links_set t (x ∷ es) (p ∷ ps) c l h k =
      let P : Bool → Type 0 = λ b. AreLinks history state (cond (t x.0) ((x.0, c) ∷ es) (x ∷ set_value t es c)) (cond b ((p.0, l) ∷ ps) (p ∷ set_value t ps l)) in
      subst P (ap t h.0) (by_test (links_set t es ps c l h.2 k) (t x.0))
    where
      by_test : AreLinks history state (set_value t es c) (set_value t ps l) → (b : Bool) → AreLinks history state (cond b ((x.0, c) ∷ es) (x ∷ set_value t es c)) (cond b ((p.0, l) ∷ ps) (p ∷ set_value t ps l))
      by_test more true = (h.0, k, h.2)
      by_test more false = (h.0, h.1, more)

  -- a connection that is no more
  pub links_removed : (t : ℕ → Bool) (es : List (ℕ × Connection)) (ps : List (ℕ × Link)) → AreLinks history state es ps → AreLinks history state (remove_entry t es) (remove_entry t ps)
  unfolding AreLinks
  links_removed t [] [] h = h
  links_removed t [] (p ∷ ps) h = absurd h
  links_removed t (x ∷ es) [] h = absurd h
  links_removed t (x ∷ es) (p ∷ ps) h =
      let P : Bool → Type 0 = λ b. AreLinks history state (cond (t x.0) es (x ∷ remove_entry t es)) (cond b ps (p ∷ remove_entry t ps)) in
      subst P (ap t h.0) (by_test (links_removed t es ps h.2) (t x.0))
    where
      by_test : AreLinks history state (remove_entry t es) (remove_entry t ps) → (b : Bool) → AreLinks history state (cond b es (x ∷ remove_entry t es)) (cond b ps (p ∷ remove_entry t ps))
      by_test more true = h.2
      by_test more false = (h.0, h.1, more)

  -- a connection more
  pub links_inserted : (es : List (ℕ × Connection)) (ps : List (ℕ × Link)) (k : ℕ) (c : Connection) (l : Link)
      → AreLinks history state es ps → IsLink history state c l → AreLinks history state (insert_entry nat_cmp es k c) (insert_entry nat_cmp ps k l)
  unfolding AreLinks
  links_inserted [] [] k c l h i = (refl, i, h)
  links_inserted [] (p ∷ ps) k c l h i = absurd h
  links_inserted (x ∷ es) [] k c l h i = absurd h
  links_inserted (x ∷ es) (p ∷ ps) k c l h i =
      let P : Ordering → Type 0 = λ o. AreLinks history state (match_ordering (nat_cmp k x.0) ((k, c) ∷ x ∷ es) ((x.0, c) ∷ es) (x ∷ insert_entry nat_cmp es k c))
      (match_ordering o ((k, l) ∷ p ∷ ps) ((p.0, l) ∷ ps) (p ∷ insert_entry nat_cmp ps k l)) in
      subst P (ap (nat_cmp k) h.0) (by_order (links_inserted es ps k c l h.2 i) (nat_cmp k x.0))
    where
      by_order : AreLinks history state (insert_entry nat_cmp es k c) (insert_entry nat_cmp ps k l) → (o : Ordering) → AreLinks history state (match_ordering o ((k, c) ∷ x ∷ es) ((x.0, c) ∷ es) (x ∷ insert_entry nat_cmp es k c))
          (match_ordering o ((k, l) ∷ p ∷ ps) ((p.0, l) ∷ ps) (p ∷ insert_entry nat_cmp ps k l))
      by_order more Less = (refl, i, h)
      by_order more Equal = (h.0, i, h.2)
      by_order more Greater = (h.0, h.1, more)

  -- as many connections as links
  pub links_counted : (es : List (ℕ × Connection)) (ps : List (ℕ × Link)) → AreLinks history state es ps → length es ≡ length ps
  unfolding AreLinks
  links_counted [] [] h = refl
  links_counted [] (p ∷ ps) h = absurd h
  links_counted (x ∷ es) [] h = absurd h
  links_counted (x ∷ es) (p ∷ ps) h = ap suc (links_counted es ps h.2)

  -- no connections refine no links
  pub links_none : (es : List (ℕ × Connection)) → length es ≡ 0 → AreLinks history state es []
  unfolding AreLinks
  links_none [] h = tt
  links_none (e ∷ es) h = absurd (omega (arith, h))

-- ---- writes

-- what follows a list is numbered behind it
follow_behind : {X : Type 0} (number : X → ℕ) (before : ℕ) (xs ys : List X) → Follow number before (xs ++ ys) → Follow number (before + length xs) ys
unfolding Follow
follow_behind number before [] ys h = rw (add-zero) h
follow_behind number before (x ∷ xs) ys h =
    let same : before + 1 + length xs ≡ before + suc (length xs) = omega arith in
    let P : ℕ → Type 0 = λ n. Follow number n ys in
    subst P same (follow_behind number (before + 1) xs ys h.1)

-- the changes that a store took are numbered behind its revision
pub changes_follow : (s t : State) (history changes : List PlainChange) (p : Plain) → RefinesPlain s history p → RefinesPlain t (history ++ changes) (written changes p)
    → Follow (λ c. c.revision) p.revision changes
changes_follow s t history changes p before after =
    let P : ℕ → Type 0 = λ n. Follow (λ (c : PlainChange). c.revision) n changes in
    subst P (sym before.counted) (follow_behind (λ c. c.revision) p.first history changes after.numbered)

-- over some changes the connections and their watches refine the same links
module _ (history changes : List PlainChange) (state : Plain) (follow : Follow (λ c. c.revision) state.revision changes) where
  watching_written : (r : Option Watching) (w : Option PlainWatching) → AreWatching history state r w → AreWatching (history ++ changes) (written changes state) r w
  watching_written None None h = h
  watching_written None (Some w) h = absurd h
  watching_written (Some r) None h = absurd h
  watching_written (Some r) (Some w) h = (stays r.watch history state w.watch changes follow h.0, h.1, h.2, h.3)

  pub link_written : (c : Connection) (l : Link) → IsLink history state c l → IsLink (history ++ changes) (written changes state) c l
  link_written c l h = record { identity = h.identity; kept = h.kept; goes_on = h.goes_on; watching = watching_written c.watching l.watching h.watching }

  pub links_written : (es : List (ℕ × Connection)) (ps : List (ℕ × Link)) → AreLinks history state es ps → AreLinks (history ++ changes) (written changes state) es ps
  unfolding AreLinks
  links_written [] [] h = h
  links_written [] (p ∷ ps) h = absurd h
  links_written (e ∷ es) [] h = absurd h
  links_written (e ∷ es) (p ∷ ps) h = (h.0, link_written e.1 p.1 h.1, links_written es ps h.2)
