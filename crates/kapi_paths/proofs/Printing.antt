-- Paths are written without floats, and what an answer is.
use Rattle.std.proofs.Common.{◌≡◌, ◌∙◌, ℕ, List, [], ◌∷◌, false, map, refl, subst}
use Rattle.serde_json.specs.View.{items_of}
use Rattle.serde_json.specs.Written.{has_float, items_have_float}
use Rattle.kapi_policy.specs.Decided.{Binding}
use Rattle.kapi_policy.specs.Objects.{PolicyObjects}
use Rattle.kapi_lines.specs.declared.form.Form.{Form}
use Rattle.kapi_paths.specs.Chains.{Has}
use Rattle.kapi_paths.specs.Gathered.{known_of}
use Rattle.kapi_paths.specs.Graphs.{AreApart, HasAll, IsPath, next_of}
use Rattle.kapi_paths.specs.Printed.{IsAnswer, path_tree, printed, step_tree}
use Rattle.kapi_paths.specs.Rights.{Row}
use Rattle.kapi_paths.specs.Sources.{sources}
use Rattle.kapi_paths.specs.declared.node.Node.{Node}
use Rattle.kapi_paths.specs.declared.path.Path.{Path}
use Rattle.kapi_paths.specs.declared.printed.Step.{Step}
use Rattle.kapi_paths.specs.declared.steps.Known.{Known}

steps_have_no_float : (steps : List Step) → items_have_float (items_of (map step_tree steps)) ≡ false
steps_have_no_float [] = refl
steps_have_no_float (s ∷ steps) = steps_have_no_float steps

pub path_has_no_float : (p : Path) (steps : List Step) → has_float (path_tree p steps) ≡ false
path_has_no_float p steps = rw (steps_have_no_float steps) refl

-- what is known of the bindings is what the answer says
pub answered : (objects : PolicyObjects) (bindings bound : List Binding) (known : Known) (rows rights : List Row) (f : Form) (to text : List ℕ) (paths : List Path)
    → bound ≡ bindings → known ≡ known_of bindings → rights ≡ rows → ((p : Path) → Has paths p → IsPath (next_of objects bound known rights) (sources bound) p) → AreApart paths
    → HasAll (next_of objects bound known rights) (sources bound) paths → text ≡ printed objects bound known rights f to paths → IsAnswer objects bindings rows f to text
answered objects bindings bound known rows rights f to text paths b k r each once listed is =
    let Steps : Type 0 = (Node → List Node) × List Node in
    let at : (next_of objects bound known rights, sources bound) ≡ (next_of objects bindings (known_of bindings) rows, sources bindings) = λ i. (next_of objects (b i) (k i) (r i), sources (b i)) in
    record {
      paths = paths;
      each = λ p h. let P : Steps → Type 0 = λ s. IsPath s.0 s.1 p in subst P at (each p h);
      once = once;
      listed = let P : Steps → Type 0 = λ s. HasAll s.0 s.1 paths in subst P at listed;
      printed_is = is ∙ (λ i. printed objects (b i) (k i) (r i) f to paths);
    }
