-- Roles and bindings after one namespace was put anew.
use Rattle.std.proofs.Common.{◌≡◌, ℕ, List, Option, Some, None, Result, Ok, Err, sym, ap, subst, string_bytes, ◌∙◌}
use Rattle.std.specs.BTreeMap.{insert_entry, is_at}
use Rattle.std.specs.Cmp.Lexicographic.{slice_cmp}
use Rattle.std.specs.Map.{lookup, remove_entry, set_value}
use Rattle.std.specs.Ordering.{nat_cmp}
use Rattle.std.specs.Prelude.{OnErr, OnOk}
use Rattle.kapi_model.specs.declared.binding.RoleBinding.{RoleBinding}
use Rattle.kapi_index.specs.Scopes.{Scoped}
use Rattle.std.specs.declared.string.String.{String}
use Rattle.std.specs.declared.alloc.Global.{Global}
use Rattle.kapi_policy.specs.Objects.{name_cmp, place_cmp}
use Rattle.kapi_index.proofs.Spread.{insert_text, lookup_text, named_at, none_taken, put_in_all, same_in_all, set_is_put, set_text, spread_put, taken_in_all}
use Rattle.kapi_index.specs.Contents.{AreDistinct, by_text, in_all, in_one}
use Rattle.kapi_index.specs.declared.spaces.Namespace.{Namespace}

abbrev pub Spaces : Type 0
Spaces = List (String Global × Namespace)

abbrev pub at_text : List ℕ → Spaces → Option Namespace
at_text ns spaces = lookup (is_at (λ k. slice_cmp nat_cmp ns (string_bytes k))) spaces

-- the namespace was put anew under its name
pub record IsPut (ns : List ℕ) (o : Option Namespace) (w : Namespace) (old new : Spaces) : Type 0 where
  pub spread : AreDistinct (by_text old)
  pub stood : o ≡ lookup (is_at (name_cmp ns)) (by_text old)
  pub put : by_text new ≡ insert_entry name_cmp (by_text old) ns w

pub was_set : (ns bs : List ℕ) (v w : Namespace) (old new : Spaces) → bs ≡ ns → AreDistinct (by_text old) → Some v ≡ at_text bs old
    → new ≡ set_value (is_at (λ k. slice_cmp nat_cmp bs (string_bytes k))) old w → IsPut ns (Some v) w old new
was_set ns bs v w old new same spread found set =
    subst (λ n. IsPut n (Some v) w old new) same (record {
      spread = spread;
      stood = found ∙ lookup_text bs old;
      put = ap by_text set ∙ set_text bs old w ∙ set_is_put bs v w (by_text old) spread.sorted (sym (found ∙ lookup_text bs old));
    })

pub was_made : (ns : List ℕ) (k : String Global) (w : Namespace) (old new : Spaces) → AreDistinct (by_text old) → lookup (is_at (name_cmp ns)) (by_text old) ≡ None
    → string_bytes k ≡ ns → new ≡ insert_entry (λ a b. slice_cmp nat_cmp (string_bytes a) (string_bytes b)) old k w → IsPut ns None w old new
was_made ns k w old new spread absent same made = record {
  spread = spread;
  stood = sym absent;
  put = ap by_text made ∙ insert_text old k w ∙ ap (λ n. insert_entry name_cmp (by_text old) n w) same;
}

pub spread_after : (ns : List ℕ) (o : Option Namespace) (w : Namespace) (old new : Spaces) → IsPut ns o w old new → w.bound.namespace ≡ ns → AreDistinct (by_text new)
spread_after ns o w old new is named = spread_put (by_text old) (by_text new) ns w is.spread named is.put

-- a stored namespace is under its name
pub stood_named : (ns : List ℕ) (v w : Namespace) (old new : Spaces) → IsPut ns (Some v) w old new → v.bound.namespace ≡ ns
stood_named ns v w old new is = named_at (by_text old) ns v is.spread.named (sym is.stood)

module _ {X : Type 0} (g : Namespace → List (List ℕ × X)) where
  pub put_after : (ns name : List ℕ) (x : X) (o : Option Namespace) (w : Namespace) (old new : Spaces) → IsPut ns o w old new
      → g w ≡ insert_entry name_cmp (in_one g o) name x → in_all g (by_text new) ≡ insert_entry place_cmp (in_all g (by_text old)) (record { namespace = ns; name = name }) x
  put_after ns name x o w old new is has =
      ap (in_all g) is.put ∙ put_in_all g ns name x w (by_text old) is.spread.sorted (has ∙ ap (λ s. insert_entry name_cmp (in_one g s) name x) is.stood)

  pub taken_after : (ns name : List ℕ) (o : Option Namespace) (w : Namespace) (old new : Spaces) → IsPut ns o w old new
      → g w ≡ remove_entry (is_at (name_cmp name)) (in_one g o) → in_all g (by_text new) ≡ remove_entry (is_at (place_cmp (record { namespace = ns; name = name }))) (in_all g (by_text old))
  taken_after ns name o w old new is has =
      ap (in_all g) is.put ∙ taken_in_all g ns name w (by_text old) is.spread.sorted (has ∙ ap (λ s. remove_entry (is_at (name_cmp name)) (in_one g s)) is.stood)

  pub same_after : (ns : List ℕ) (o : Option Namespace) (w : Namespace) (old new : Spaces) → IsPut ns o w old new → g w ≡ in_one g o → in_all g (by_text new) ≡ in_all g (by_text old)
  same_after ns o w old new is same = ap (in_all g) is.put ∙ same_in_all g ns w (by_text old) is.spread.sorted (same ∙ ap (in_one g) is.stood)

  pub nothing_after : (ns bs name : List ℕ) (old new : Spaces) → bs ≡ ns → new ≡ old → None ≡ at_text bs old
      → in_all g (by_text new) ≡ remove_entry (is_at (place_cmp (record { namespace = ns; name = name }))) (in_all g (by_text old))
  nothing_after ns bs name old new same stay none =
      ap (λ l. in_all g (by_text l)) stay ∙ none_taken g ns name (by_text old) (sym (none ∙ lookup_text bs old ∙ ap (λ n. lookup (is_at (name_cmp n)) (by_text old)) same))

pub absent_at : (ns bs : List ℕ) (old new : Spaces) → bs ≡ ns → new ≡ old → None ≡ at_text bs old → lookup (is_at (name_cmp ns)) (by_text new) ≡ None
absent_at ns bs old new same stay none =
    ap (λ l. lookup (is_at (name_cmp ns)) (by_text l)) stay ∙ sym (none ∙ lookup_text bs old ∙ ap (λ n. lookup (is_at (name_cmp n)) (by_text old)) same)

-- a put of a binding keeps the namespace of a scope
pub same_namespace : {T E : Type 0} (r : Result T E) (old new : Scoped) (bindings : List (List ℕ × RoleBinding))
    → OnOk r (new ≡ record old { bindings = bindings }) → OnErr r (new ≡ old) → new.namespace ≡ old.namespace
same_namespace (Ok x) old new bindings done kept = ap (λ (s : Scoped). s.namespace) done
same_namespace (Err e) old new bindings done kept = ap (λ (s : Scoped). s.namespace) kept
