use Rattle.std.proofs.Common.{◌∙◌, ◌==◌, length, ap, sym}
use Rattle.std.proofs.lemmas.Result.{on_ok_weaker}
use Rattle.kapi_missing.proofs.Placing.{grown}
use Rattle.kapi_missing.specs.Private.Stoppers.{lists}
use Rattle.kapi_missing.proofs.index.place.Goals as goal

pub returns-clause-listed : goal.returns-clause-listed
returns-clause-listed c = on_ok_weaker c.add_if.result (λ last. λ all s is number old. record {
  verbs = λ text n. grown (λ s. lists s.rule.verbs text) all s c.args.this.number n _ _ _ number (old.verbs text n)
      (ap (λ xs. lists xs text) (c.as_slice.ensures ∙ ap (λ r. r.verbs) (sym is))) (c.in_ok-put_each.ensures text n);
  groups = λ text n. grown (λ s. lists s.rule.api_groups text) all s c.args.this.number n _ _ _ number (old.groups text n)
      (ap (λ xs. lists xs text) (c.as_slice-2.ensures ∙ ap (λ r. r.api_groups) (sym is))) (c.in_ok-put_each-2.ensures text n);
  resources = λ text n. grown (λ s. lists s.rule.resources text) all s c.args.this.number n _ _ _ number (old.resources text n)
      (ap (λ xs. lists xs text) (c.as_slice-3.ensures ∙ ap (λ r. r.resources) (sym is))) (c.in_ok-put_each-3.ensures text n);
  names = λ text n. grown (λ s. lists s.rule.resource_names text) all s c.args.this.number n _ _ _ number (old.names text n)
      (ap (λ xs. lists xs text) (c.as_slice-4.ensures ∙ ap (λ r. r.resource_names) (sym is))) (c.in_ok-put_each-4.ensures text n);
  urls = λ text n. grown (λ s. lists s.rule.non_resource_urls text) all s c.args.this.number n _ _ _ number (old.urls text n)
      (ap (λ xs. lists xs text) (c.as_slice-5.ensures ∙ ap (λ r. r.non_resource_urls) (sym is))) (c.in_ok-put_each-5.ensures text n);
  nameless = λ n. grown (λ s. length s.rule.resource_names == 0) all s c.args.this.number n _ _ _ number (old.nameless n)
      (c.is_empty.ensures ∙ ap (λ xs. length xs == 0) (c.as_slice-6.ensures ∙ ap (λ r. r.resource_names) (sym is))) (last n);
}) c.add_if.ensures
