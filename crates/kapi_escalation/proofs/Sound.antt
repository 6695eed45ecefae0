-- A write of the store leaves no role and no binding with faults where there was none.
use Rattle.std.proofs.Common.{◌≡◌, ◌∙◌, ℕ, ◌+◌, List, [], ◌∷◌, Bool, true, false, cond, Option, Some, None, Result, Ok, Err, IfOk, decimal, refl, sym, ap, subst, if◌then◌else◌, length}
use Rattle.std.specs.BTreeMap.{insert_entry}
use Rattle.std.specs.Map.{lookup, remove_entry}
use Rattle.std.specs.Ordering.{is_eq, match_ordering}
use Rattle.std.specs.declared.cmp.Ordering.{Ordering}
use Rattle.std.specs.declared.cmp.Ordering.TheVariants.{Less, Equal, Greater}
use Rattle.serde_json.specs.Data.{Data}
use Rattle.kapi_text.specs.ResultIs.{◌>>=◌}
use Rattle.kapi_model.specs.declared.row.ResourceRow.{ResourceRow}
use Rattle.kapi_object.specs.Object.{stamped_tree}
use Rattle.kapi_object.specs.Given.{given_of}
use Rattle.kapi_object.specs.Admission.{faults_on}
use Rattle.kapi_rbac_types.specs.Trees.{read_as}
use Rattle.kapi_store.proofs.Keys.{key_same}
use Rattle.kapi_store.specs.Changes.{placed, placed_all}
use Rattle.kapi_store.specs.Keys.{key_cmp, is_key}
use Rattle.kapi_store.specs.Plain.{Plain, PlainChange, creation, creation_at, creation_in_place, free_place, removable, removal, removals, replaceable, replaced, replacement, replacement_at, revisions_left, trees_left_by, written}
use Rattle.kapi_store.specs.Same.{same_tree}
use Rattle.kapi_store.specs.UidAndVersion.{created_tree, replaced_tree, uid_in, version_in, with_stamps_of, uid_of}
use Rattle.kapi_store.specs.declared.key.Key.{Key}
use Rattle.kapi_escalation.proofs.Admitted.{stamps_sound}
use Rattle.kapi_escalation.specs.Admitted.{AreSound, IsObjectOf, IsSoundAt, schema_of}
use Rattle.kapi_escalation.specs.Kind.{policy_kind}
use Rattle.kapi_escalation.specs.declared.kind.PolicyKind.{PolicyKind}

-- ---- what a change leaves at its key

stamped_sound : (o : Option PolicyKind) (uid version : List ℕ) (d : Data) → IsSoundAt o d → IsSoundAt o (stamped_tree uid version d)
stamped_sound None uid version d h = tt
stamped_sound (Some of) uid version d h = stamps_sound (schema_of of) uid version d h

at_same : (k l : Key) (d : Data) → k ≡ l → IsSoundAt (policy_kind k) d → IsSoundAt (policy_kind l) d
at_same k l d is h = let P : Key → Type 0 = λ m. IsSoundAt (policy_kind m) d in subst P is h

put_sound : (k : Key) (d : Data) (os : List (Key × Data)) → IsSoundAt (policy_kind k) d → AreSound os → AreSound (insert_entry key_cmp os k d)
unfolding AreSound
put_sound k d [] new h = (new, tt)
put_sound k d (e ∷ os) new h = by_case (key_cmp k e.0) refl (put_sound k d os new h.1)
  where
    by_case : (r : Ordering) → key_cmp k e.0 ≡ r → AreSound (insert_entry key_cmp os k d)
        → AreSound (match_ordering r ((k, d) ∷ e ∷ os) ((e.0, d) ∷ os) (e ∷ insert_entry key_cmp os k d))
    by_case Less at rest = (new, h)
    by_case Equal at rest = (at_same k e.0 d (key_same k e.0 at) new, h.1)
    by_case Greater at rest = (h.0, rest)

removed_sound : (k : Key) (os : List (Key × Data)) → AreSound os → AreSound (remove_entry (is_key k) os)
unfolding AreSound
removed_sound k [] h = tt
removed_sound k (e ∷ os) h = elim (is_key k e.0) as (λ b. AreSound (cond b os (e ∷ remove_entry (is_key k) os))) [ true ↦ h.1 | false ↦ (h.0, removed_sound k os h.1) ]

-- ---- writes

one_put : (s : Plain) (c : PlainChange) (d : Data) → c.new ≡ Some d → IsSoundAt (policy_kind c.key) d → AreSound s.objects → AreSound (written (c ∷ []) s).objects
unfolding placed placed_all
one_put s c d is new h =
    let P : Option Data → Type 0 = λ o. AreSound (placed c.key o s.objects) in subst P (sym is) (put_sound c.key d s.objects new h)

-- what holds behind a check that passed
pub then_holds : {A B F : Type 0} (r : Result A F) (f : A → Result B F) (P : B → Type 0) → ((x : A) → IfOk (f x) P) → IfOk (r >>= f) P
then_holds (Ok x) f P h = h x
then_holds (Err e) f P h = tt

-- the store after the changes has no role and no binding with faults
abbrev LeavesSound : Plain → List PlainChange → Type 0
LeavesSound s cs = AreSound (written cs s).objects

pub creation_sound : (s : Plain) (k : Key) (d : Data) → AreSound s.objects → IsSoundAt (policy_kind k) d → IfOk (creation s k d) (λ cs. AreSound (written cs s).objects)
creation_sound s k d h new =
    then_holds (free_place s k) (λ _. creation_in_place s k d) (LeavesSound s)
    (λ _. then_holds (revisions_left s 1) (λ _. Ok (creation_at k d (s.revision + 1) ∷ [])) (LeavesSound s)
    (λ _. one_put s (creation_at k d (s.revision + 1)) (created_tree (s.revision + 1) d) refl
    (stamped_sound (policy_kind k) (uid_of (s.revision + 1)) (decimal (s.revision + 1)) d new) h))

nothing_written : (s : Plain) → AreSound s.objects → LeavesSound s []
unfolding placed_all
nothing_written s h = h

pub either_holds : {B F : Type 0} (b : Bool) (r q : Result B F) (P : B → Type 0) → IfOk r P → IfOk q P → IfOk (if b then r else q) P
either_holds true r q P hr hq = hr
either_holds false r q P hr hq = hq

pub replacement_sound : (s : Plain) (k : Key) (d : Data) → AreSound s.objects → IsSoundAt (policy_kind k) d → IfOk (replacement s k d) (λ cs. AreSound (written cs s).objects)
replacement_sound s k d h new =
    then_holds (replaceable s k (given_of d).resource_version) (replaced s k d) (LeavesSound s)
    (λ old. either_holds (same_tree (with_stamps_of old d) old) (Ok []) (revisions_left s 1 >>= λ _. Ok (replacement_at k old d (s.revision + 1) ∷ [])) (LeavesSound s)
    (nothing_written s h)
    (then_holds (revisions_left s 1) (λ _. Ok (replacement_at k old d (s.revision + 1) ∷ [])) (LeavesSound s)
    (λ _. one_put s (replacement_at k old d (s.revision + 1)) (replaced_tree (s.revision + 1) old d) refl
    (stamped_sound (policy_kind k) (uid_in old) (decimal (s.revision + 1)) (with_stamps_of old d)
    (stamped_sound (policy_kind k) (uid_in old) (version_in old) d new)) h)))

all_removed : (all os : List (Key × Data)) (revision : ℕ) (ks : List Key) → AreSound os → AreSound (placed_all (trees_left_by (removals all revision ks)) os)
unfolding placed placed_all removals
all_removed all os revision [] h = h
all_removed all os revision (k ∷ ks) h = all_removed all (remove_entry (is_key k) os) (revision + 1) ks (removed_sound k os h)

pub removal_sound : (s : Plain) (ks : List Key) → AreSound s.objects → IfOk (removal s ks) (λ cs. AreSound (written cs s).objects)
removal_sound s ks h =
    then_holds (removable s ks) (λ _. revisions_left s (length ks) >>= λ _. Ok (removals s.objects s.revision ks)) (LeavesSound s)
    (λ _. then_holds (revisions_left s (length ks)) (λ _. Ok (removals s.objects s.revision ks)) (LeavesSound s)
    (λ _. all_removed s.objects s.objects s.revision ks h))

-- ---- what is stored is read

found_sound : (k : Key) (os : List (Key × Data)) (d : Data) → AreSound os → lookup (is_key k) os ≡ Some d → IsSoundAt (policy_kind k) d
unfolding AreSound
found_sound k [] d h is = absurd (cc is)
found_sound k (e ∷ os) d h is = by_case (key_cmp k e.0) refl (found_sound k os d h.1) is
  where
    by_case : (r : Ordering) → key_cmp k e.0 ≡ r → (lookup (is_key k) os ≡ Some d → IsSoundAt (policy_kind k) d)
        → cond (is_eq r) (Some e.1) (lookup (is_key k) os) ≡ Some d → IsSoundAt (policy_kind k) d
    by_case Less at later i = later i
    by_case Equal at later i =
        let it : e.1 ≡ d = cc i in
        let P : Data → Type 0 = λ x. IsSoundAt (policy_kind e.0) x in at_same e.0 k d (sym (key_same k e.0 at)) (subst P it h.0)
    by_case Greater at later i = later i

sound_reads : {X : Type 0} (f : Data → X) (of : PolicyKind) (d : Data) → faults_on (schema_of of) d ≡ [] → read_as (schema_of of) f d ≡ Ok (f d)
unfolding read_as
sound_reads f of d h = rw h refl

pub stored_reads : {X : Type 0} (f : Data → X) (os : List (Key × Data)) (k : Key) (of : PolicyKind) (d : Data) → AreSound os
    → lookup (is_key k) os ≡ Some d → policy_kind k ≡ Some of → read_as (schema_of of) f d ≡ Ok (f d)
stored_reads f os k of d h is at =
    let P : Option PolicyKind → Type 0 = λ o. IsSoundAt o d in sound_reads f of d (subst P at (found_sound k os d h is))

-- an object of a resource type has no faults if its kind is stored
pub object_sound : (row : ResourceRow) (of : PolicyKind) (d : Data) → row.schema ≡ schema_of of → IsObjectOf row d → IsSoundAt (Some of) d
object_sound row of d is h = ap (λ s. faults_on s d) (sym is) ∙ h.clean
