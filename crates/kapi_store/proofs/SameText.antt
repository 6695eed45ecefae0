-- Stored objects of one text are the same.
use Rattle.std.proofs.Common.{◌≡◌, ◌^◌, ◌<◌, true, false, Some, codes, sym, ap, ◌∙◌}
use Rattle.std.proofs.Props.{props}
use mathlib.Core.HLevel.{is_prop→PathP}
use Rattle.std.specs.Fmt.{decimal}
use Rattle.std.specs.Option.{is_some, option_and_then}
use Rattle.serde_json.specs.Find.{as_str}
use Rattle.serde_json.specs.Read.{read}
use Rattle.serde_json.specs.Written.{compact_text, has_float}
use Rattle.kapi_object.specs.Contents.{aggregation_in}
use Rattle.kapi_object.specs.Tree.{in_metadata}
use Rattle.kapi_store.specs.UidAndVersion.{uid_of}
use Rattle.kapi_store.specs.Labels.{labels_of, told_by}
use Rattle.kapi_store.specs.declared.stored.StoredObject.{StoredObject}

pub same_by_text : (s t : StoredObject) → s.revision ≡ t.revision → s.created ≡ t.created → s.text ≡ t.text → s ≡ t
same_by_text s t revision created text =
    let labels : s.labels ≡ t.labels = s.labelled ∙ ap (λ x. labels_of (told_by x)) text ∙ sym t.labelled in
    let rule : s.aggregation_rule ≡ t.aggregation_rule = s.aggregated ∙ ap (λ x. aggregation_in (told_by x)) text ∙ sym t.aggregated in
    λ i. record {
      text = text i;
      labels = labels i;
      aggregation_rule = rule i;
      created = created i;
      revision = revision i;
      reads = is_prop→PathP (λ j. is_some (read (text j)) ≡ true) (λ j. hlevel props) s.reads t.reads i;
      whole = is_prop→PathP (λ j. has_float (told_by (text j)) ≡ false) (λ j. hlevel props) s.whole t.whole i;
      canonical = is_prop→PathP (λ j. text j ≡ compact_text (told_by (text j))) (λ j. hlevel props) s.canonical t.canonical i;
      labelled = is_prop→PathP (λ j. labels j ≡ labels_of (told_by (text j))) (λ j. hlevel props) s.labelled t.labelled i;
      aggregated = is_prop→PathP (λ j. rule j ≡ aggregation_in (told_by (text j))) (λ j. hlevel props) s.aggregated t.aggregated i;
      born = is_prop→PathP (λ j. option_and_then as_str (in_metadata (codes "uid") (told_by (text j))) ≡ Some (uid_of (created j))) (λ j. hlevel props) s.born t.born i;
      versioned = is_prop→PathP (λ j. option_and_then as_str (in_metadata (codes "resourceVersion") (told_by (text j))) ≡ Some (decimal (revision j))) (λ j. hlevel props) s.versioned t.versioned i;
      numbered = is_prop→PathP (λ j. created j < 2 ^ 48) (λ j. hlevel props) s.numbered t.numbered i;
    }
