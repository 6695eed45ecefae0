use Rattle.std.proofs.Common.{◌∙◌, ◌==◌, ◌&&◌, length, ap, sym}
use Rattle.std.specs.List.{list_any}
use Rattle.kapi_rules.specs.Entries.{star}
use Rattle.kapi_missing.proofs.Placing.{both_ok, grown, lengths_known}
use Rattle.kapi_missing.specs.Private.Index.{is_any_with, is_beginning}
use Rattle.kapi_missing.specs.Private.Stoppers.{held_one, lists}
use Rattle.kapi_missing.proofs.index.place_held.Goals as goal

pub returns-clause-covered : goal.returns-clause-covered
returns-clause-covered c = both_ok c.add_lengths.result (λ kept added all number old. record {
  any_verb = λ n. grown (λ s. s.is_held && lists s.rule.verbs star) all (held_one c.args.rule.now) c.args.this.number n _ _ _ number (old.any_verb n)
      (c.is_listed.ensures ∙ ap (λ xs. lists xs star) c.as_slice.ensures) (c.in_ok-add_if.ensures n);
  any_group = λ n. grown (λ s. s.is_held && lists s.rule.api_groups star) all (held_one c.args.rule.now) c.args.this.number n _ _ _ number (old.any_group n)
      (c.is_listed-2.ensures ∙ ap (λ xs. lists xs star) c.as_slice-2.ensures) (c.in_ok-add_if-2.ensures n);
  any_resource = λ n. grown (λ s. s.is_held && lists s.rule.resources star) all (held_one c.args.rule.now) c.args.this.number n _ _ _ number (old.any_resource n)
      (c.is_listed-3.ensures ∙ ap (λ xs. lists xs star) c.as_slice-3.ensures) (c.in_ok-add_if-3.ensures n);
  any_name = λ n. grown (λ s. s.is_held && (length s.rule.resource_names == 0)) all (held_one c.args.rule.now) c.args.this.number n _ _ _ number (old.any_name n)
      (c.is_empty.ensures ∙ ap (λ xs. length xs == 0) c.as_slice-4.ensures) (c.in_ok-add_if-4.ensures n);
  subresources = λ text n. grown (λ s. s.is_held && list_any (is_any_with text) s.rule.resources) all (held_one c.args.rule.now) c.args.this.number n _ _ _ number (old.subresources text n)
      (ap (list_any (is_any_with text)) c.as_slice-5.ensures) (c.in_ok-put_subresources.ensures text n);
  beginnings = λ text n. grown (λ s. s.is_held && list_any (is_beginning text) s.rule.non_resource_urls) all (held_one c.args.rule.now) c.args.this.number n _ _ _ number (old.beginnings text n)
      (ap (list_any (is_beginning text)) c.as_slice-6.ensures) (c.in_ok-put_beginnings.ensures text n);
  lengths = λ text n. lengths_known _ _ _ _ _ (c.in_ok-put_beginnings.ensures text n)
      (λ is. kept (length text) (old.lengths text n is)) (λ is. added text (ap (list_any (is_beginning text)) (c.as_slice-7.ensures ∙ sym c.as_slice-6.ensures) ∙ is));
}) c.add_lengths.ensures.kept c.add_lengths.ensures.added
