use Rattle.std.proofs.Common.{◌∙◌, ap}
use Rattle.std.specs.List.{list_all}
use Rattle.kapi_store.specs.Private.Matching.{is_there, lets}
use Rattle.kapi_store.proofs.Matching.{made}
use Rattle.kapi_store.proofs.matcher.Matcher.of.Goals as goal

pub returns : goal.returns
returns c =
    made (record { needed = record { match_labels = c.in_ok-copy.field-0; match_expressions = c.new.result }; keys = c.in_ok-checks_of.field-0 })
    c.args.selector.now c.in_ok-keys.keys.keys c.in_ok-copy.ensures (c.new.ensures ∙ c.in_ok-presence.ensures)
    (λ at. c.in_ok-keys.ensures at ∙ ap (list_all (λ r. is_there r (at r.key))) c.as_slice-requirements.ensures)
    (λ k v. c.in_ok-checks_of.ensures k v ∙ ap (list_all (λ r. lets r k v)) c.as_slice-requirements.ensures)
