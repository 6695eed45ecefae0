use Rattle.std.proofs.Common.{◌∙◌, Bool, ◌&&◌, ◌||◌, nat_le, length, take, ap}
use Rattle.std.proofs.lemmas.Result.{on_ok_weaker}
use Rattle.kapi_rules.proofs.Parts.{any_same}
use Rattle.kapi_rules.specs.Atoms.{after_slash}
use Rattle.kapi_missing.proofs.Meets.{behind_same, group_row, name_row, resource_row, url_row, verb_row}
use Rattle.kapi_missing.specs.Private.Numbers.{some_has}
use Rattle.kapi_missing.proofs.rows.push_text.Goals as goal

pub returns-in-Groups : goal.returns-in-Groups
returns-in-Groups c =
    rw c.in-Groups.is (on_ok_weaker c.push_word.result (λ added. λ all index n. added n ∙ rw (index.1.any_group n, index.0.groups c.args.text.now n)
    (ap (λ (b : Bool). some_has c.args.row.now.items n || b) (group_row all c.args.text.now n))) c.push_word.ensures)

pub returns-in-Verbs : goal.returns-in-Verbs
returns-in-Verbs c =
    rw c.in-Verbs.is (on_ok_weaker c.push_word-in-Verbs.result (λ added. λ all index n. added n ∙ rw (index.1.any_verb n, index.0.verbs c.args.text.now n)
    (ap (λ (b : Bool). some_has c.args.row.now.items n || b) (verb_row all c.args.text.now n))) c.push_word-in-Verbs.ensures)

pub returns-in-Names : goal.returns-in-Names
returns-in-Names c =
    rw c.in-Names.is (on_ok_weaker c.push_word-in-Names.result (λ added. λ all index n. added n ∙ rw (index.1.any_name n, index.0.names c.args.text.now n)
    (ap (λ (b : Bool). some_has c.args.row.now.items n || b) (name_row all c.args.text.now n))) c.push_word-in-Names.ensures)

pub returns-in-Resources : goal.returns-in-Resources
returns-in-Resources c =
    rw c.in-Resources.is (on_ok_weaker c.push_resource.result (λ added. λ all index n. added n ∙ rw (
      index.1.any_resource n,
      index.0.resources c.args.text.now n,
      behind_same all c.args.rules.now.subresources n (after_slash c.args.text.now) (λ t. index.1.subresources t n),
    )
    (ap (λ (b : Bool). some_has c.args.row.now.items n || b) (resource_row all c.args.text.now n))) c.push_resource.ensures)

pub returns-in-Urls : goal.returns-in-Urls
returns-in-Urls c =
    rw c.in-Urls.is (on_ok_weaker c.push_url.result (λ added. λ all index n. added n ∙ rw (
      index.0.urls c.args.text.now n,
      any_same _ _ c.args.rules.now.lengths.items (λ m. ap (λ (b : Bool). nat_le m (length c.args.text.now) && b) (index.1.beginnings (take m c.args.text.now) n)),
    )
    (ap (λ (b : Bool). some_has c.args.row.now.items n || b) (url_row all c.args.text.now n c.args.rules.now.lengths.items (λ t is. index.1.lengths t n (index.1.beginnings t n ∙ is))))) c.push_url.ensures)
