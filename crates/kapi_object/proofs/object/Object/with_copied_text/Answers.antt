use Rattle.std.proofs.Common.{◌≡◌, Some, rules, sym}
use Rattle.serde_json.specs.Data.{Data, string}
use Rattle.serde_json.specs.View.{view}
use Rattle.kapi_object.proofs.SetTexts.{text_set_again}
use Rattle.kapi_object.specs.Tree.{in_metadata}
use Rattle.kapi_object.proofs.object.Object.with_copied_text.Goals as goal

pub returns-then-has_text : goal.returns-then-has_text
returns-then-has_text c =
    let tree : Data = view c.args.self.tree in
    let there : in_metadata c.args.key.now tree ≡ Some (string c.args.text.now) = search rules in
    sym (text_set_again c.args.key.now c.args.text.now tree c.args.self.ordered there)
