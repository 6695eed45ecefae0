-- Who can become whom, as it is printed.
use Rattle.std.specs.Prelude.{◌≡◌, ℕ, Bool, List, [], ◌++◌}
use Rattle.kapi_access.specs.Answers.{settled_line}
use Rattle.kapi_lines.specs.declared.form.Form.{Form}
use Rattle.kapi_lines.specs.declared.form.Form.TheVariants as form
use Rattle.kapi_paths.specs.Printed.{IsAnswer}
use Rattle.kapi_paths.specs.Rights.{rights_without}
use Rattle.kapi_policy.specs.All.{all_bindings}
use Rattle.kapi_engine.specs.declared.loaded_policy.LoadedPolicy.{LoadedPolicy}

-- as JSON the last line says whether the roles are settled
abbrev pub settled_end : Form → Bool → List ℕ
settled_end form.Json settled = settled_line form.Json settled
settled_end form.Table settled = []
settled_end form.Markdown settled = []

-- the text is that of paths by all bindings of the policy, and the line behind them
pub record IsPathsText (loaded : LoadedPolicy) (f : Form) (to : List ℕ) (without : List (List ℕ)) (text : List ℕ) : Type 0 where
  pub found : List ℕ
  pub answer : IsAnswer loaded.policy (all_bindings loaded.policy) (rights_without without) f to found
  pub text_is : text ≡ found ++ settled_end f loaded.settled
