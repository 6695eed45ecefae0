-- What stands under a text, once a number is put under one.
use Rattle.std.proofs.Common.{◌≡◌, ℕ, ◌==◌, Bool, true, false, ◌&&◌, ◌||◌, List, refl, ap, sym, ◌∙◌}
use Rattle.std.specs.BTreeMap.{BTreeMap}
use Rattle.std.specs.Str.{bytes_eq}
use denote.Ref.{Bor}
use Rattle.kapi_rules.proofs.Covers.{same}
use Rattle.kapi_text.proofs.Booleans.{or_false}
use Rattle.kapi_missing.specs.Private.Index.{has_at}
use Rattle.kapi_missing.specs.Private.Numbers.{has}
use Rattle.kapi_missing.specs.declared.numbers.Numbers.{Numbers}

pub put_under : (old new : BTreeMap (Bor (List ℕ)) Numbers) (key text : List ℕ) (number n : ℕ) (was grown : Numbers)
    → has was n ≡ has_at old key n → has grown n ≡ (has was n || (number == n)) → has_at new key n ≡ has grown n
    → (bytes_eq key text ≡ false → has_at new text n ≡ has_at old text n) → has_at new text n ≡ (has_at old text n || (bytes_eq key text && (number == n)))
put_under old new key text number n was grown stood more here others = by_case (bytes_eq key text) refl
  where
    by_case : (t : Bool) → bytes_eq key text ≡ t → has_at new text n ≡ (has_at old text n || (t && (number == n)))
    by_case true is = rw (sym (same key text is)) (here ∙ more ∙ ap (λ b. b || (number == n)) stood)
    by_case false is = others is ∙ sym (or_false (has_at old text n))
