use Rattle.std.proofs.Common.{◌≡◌, ◌∙◌, false, codes, is_some, ap, sym, subst}
use Rattle.std.specs.Option.{option_and_then, unwrap_or}
use Rattle.serde_json.specs.Data.{Data, null}
use Rattle.serde_json.specs.Find.{as_str}
use Rattle.serde_json.specs.Written.{compact_text, has_float}
use Rattle.kapi_object.specs.Object.{tree_of}
use Rattle.kapi_object.specs.Contents.{aggregation_in}
use Rattle.kapi_object.specs.Tree.{in_metadata}
use Rattle.kapi_store.specs.Labels.{labels_of, told_by}
use Rattle.kapi_store.proofs.stored.StoredObject.kept.Goals as goal

pub invariant_of-result : goal.invariant_of-result
invariant_of-result c =
    let object = c.args.object.now in
    let text = c.in_ok-text_of.field-0 in
    let told : told_by text ≡ tree_of object = ap (λ o. unwrap_or o null) c.in_ok-text_of.ensures.reads in
    let P : Data → Type 0 = λ d. has_float d ≡ false in
    record {
      reads = ap is_some c.in_ok-text_of.ensures.reads;
      whole = subst P (sym told) object.whole;
      canonical = c.in_ok-text_of.ensures.text ∙ ap compact_text (sym told);
      labelled = c.in_ok-labels_of.ensures ∙ ap labels_of (c.as_tree.ensures ∙ sym told);
      aggregated = c.in_ok-read_aggregation.ensures ∙ ap aggregation_in (c.as_tree-2.ensures ∙ sym told);
      born = ap (λ d. option_and_then as_str (in_metadata (codes "uid") d)) told ∙ c.requires.born;
      versioned = ap (λ d. option_and_then as_str (in_metadata (codes "resourceVersion") d)) told ∙ c.requires.versioned;
      numbered = c.requires.numbered;
    }
