use Rattle.std.proofs.Common.{◌≡◌, ℕ, List, Option, Some, None, MatchOption, nat_eq, drop, true, false, refl, ap, ◌∙◌}
use Rattle.std.specs.Borrow.{Bor}
use Rattle.std.specs.List.{starts_with}
use Rattle.std.specs.Option.{option_copied}
use Rattle.std.specs.Str.Pattern.{FindsTextPrefix, StripsPrefix}
use Rattle.std.proofs.lemmas.Bool.Decides.{Decides-eqb}
use Rattle.std.proofs.lemmas.Slice.Eq.{starts_is}
use Rattle.std.proofs.lemmas.Str.Pattern.{starts_text}
use Rattle.kapi_request_info.specs.Selector.{behind}
use Rattle.kapi_request_info.proofs.selector.behind.Goals as goal

stripped : (p s : List ℕ) (r : Option (Bor (List ℕ))) → MatchOption r (FindsTextPrefix p s None) (λ x. StripsPrefix (FindsTextPrefix p) s x.now)
    → option_copied r ≡ behind s p
stripped p s None h = rw (← starts_text false p s h)
stripped p s (Some x) h =
    let begins : starts_with nat_eq s p ≡ true = (starts_is Decides-eqb s p _ refl).1 _ h.1.1 in
    rw begins (ap Some (h.2 ∙ ap (λ n. drop n s) h.1.0))

pub returns : goal.returns
returns c = stripped c.args.prefix.now c.args.text.now c.strip_prefix.result c.strip_prefix.ensures.cases
