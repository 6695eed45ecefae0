use Rattle.std.proofs.Common.{◌≡◌, ◌∙◌, ◌++◌, ◌-◌, ◌^◌, ◌<◌, List, ℕ, [], false, codes, ap, rules}
use Rattle.std.specs.Fmt.{digits, padded_integral, format_spec}
use Rattle.kapi_store.specs.UidAndVersion.{uid_of}
use Rattle.kapi_store.proofs.Digits.{hex_padded}
use Rattle.kapi_store.proofs.uid_and_version.uid.Goals as goal

-- twelve digits behind the fixed ones
with_digits : (revision : ℕ) → revision < 2 ^ 48 → {text : List ℕ} → text ≡ codes "00000000-0000-4000-8000-" ++ padded_integral (format_spec 32 0 4 12 (2 ^ 64 - 1)) false [] (digits 16 false revision) → text ≡ uid_of revision
unfolding uid_of
with_digits revision small written = written ∙ ap (λ ds. codes "00000000-0000-4000-8000-" ++ ds) (hex_padded revision small)

pub returns : goal.returns
returns c = with_digits c.args.revision c.requires (search rules)
