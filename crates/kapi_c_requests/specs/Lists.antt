-- Answers about a whole policy.
use Rattle.std.specs.Prelude.{◌≡◌, ℕ, ◌==◌, Bool, true, false, ◌&&◌, if◌then◌else◌, List, [], ◌∷◌, ◌++◌, length, Option, Some, None, Result, Ok, Err}
use Rattle.std.specs.List.{flat_map, list_all}
use Rattle.serde_json.specs.Written.{compact_text}
use Rattle.kapi_text.specs.ResultIs.{◌>>=◌}
use Rattle.kapi_model.specs.Kinds.{role_kind}
use Rattle.kapi_model.specs.declared.kinds.RoleKind.{RoleKind}
use Rattle.kapi_model.specs.declared.role_ref.RoleRef.{RoleRef}
use Rattle.kapi_rules.specs.declared.atom.Atom.{Atom}
use Rattle.kapi_rules.specs.declared.point.Point.{Point}
use Rattle.kapi_rules.specs.declared.point.Point.TheVariants as point
use Rattle.kapi_reply.specs.Status.{atom_list}
use Rattle.kapi_access.specs.Answers.{gains_text, settled_line, ways_text, who_text}
use Rattle.kapi_access.specs.Gained.{gained}
use Rattle.kapi_access.specs.Rights.{what_text}
use Rattle.kapi_access.specs.Risks.{risks}
use Rattle.kapi_lines.specs.declared.form.Form.{Form}
use Rattle.kapi_lines.specs.declared.form.Form.TheVariants as form
use Rattle.kapi_access.specs.declared.answer.Shown.TheVariants as shown
use Rattle.kapi_access.specs.declared.identities.Identities.TheVariants as whose
use Rattle.kapi_access.specs.declared.question.Scope.{Scope}
use Rattle.kapi_access.specs.declared.question.Scope.TheVariants as scope
use Rattle.kapi_loading.specs.Faults.{FileFault, bad_line}
use Rattle.kapi_loading.specs.declared.fault.StartError.{StartError}
use Rattle.kapi_loading.specs.declared.fault.StartError.TheVariants as start
use Rattle.kapi_paths.specs.Rights.{is_kind}
use Rattle.kapi_engine.specs.Decisions.{missing_of}
use Rattle.kapi_engine.specs.LoadedPolicies.{loaded_of}
use Rattle.kapi_engine.specs.Paths.{IsPathsText}
use Rattle.kapi_engine.specs.declared.loaded_policy.LoadedPolicy.{LoadedPolicy}
use Rattle.kapi_c_requests.specs.declared.fault.CallFault.{CallFault}
use Rattle.kapi_c_requests.specs.declared.fault.CallFault.TheVariants as fault
use Rattle.kapi_c_requests.specs.declared.passed.Call.{Call}
use Rattle.kapi_c_requests.specs.declared.passed.CQuestion.{CQuestion}
use Rattle.kapi_c_requests.specs.declared.reading.AccessQuestion.{AccessQuestion}
use Rattle.kapi_c_requests.specs.Given.{Given, bit}
use Rattle.kapi_c_requests.specs.Questions.{identity_of, question_of, text_of, texts_of}

-- a text, and whether the roles are settled
abbrev pub settled_with : LoadedPolicy → List ℕ → Given
settled_with loaded text = record { number = bit loaded.settled; text = text }

-- ---- who may do something

-- a path is asked about cluster-wide, a resource anywhere, in its namespace, or cluster-wide if that is empty
abbrev pub scope_of : Bool → List ℕ → Point → Scope
scope_of anywhere namespace (point.Url u) = scope.Cluster
scope_of anywhere namespace (point.Resource p) =
    if anywhere then scope.Everywhere else (if length namespace == 0 then scope.Cluster else scope.Namespace namespace)

-- who may do what is asked, whoever the user is
abbrev pub who_of : LoadedPolicy → Form → Bool → AccessQuestion → List ℕ
who_of loaded f anywhere asked =
    who_text f loaded.policy (record { scope = scope_of anywhere asked.namespace asked.point; point = asked.point })

unfoldable pub who_given : LoadedPolicy → Form → Bool → CQuestion → Result Given CallFault
who_given loaded f anywhere q = question_of q >>= λ asked. Ok (settled_with loaded (who_of loaded f anywhere asked))

-- ---- what somebody has

-- a namespace, unless it is empty
abbrev pub within : List ℕ → Option (List ℕ)
within namespace = if length namespace == 0 then None else Some namespace

-- what the user has in the namespace, or everywhere if that is empty
unfoldable pub what_given : LoadedPolicy → Form → CQuestion → Result Given CallFault
what_given loaded f q =
    identity_of q >>= λ identity. text_of q.namespace.now >>= λ namespace.
    Ok (settled_with loaded (what_text f loaded.policy (record { identity = identity; within = within namespace })))

-- ---- risks and paths

-- who may gain more than the policy gives
abbrev pub risks_given : LoadedPolicy → Form → Given
risks_given loaded f = settled_with loaded (ways_text f (risks loaded.policy) ++ settled_line f loaded.settled)

-- the form of a number
abbrev pub form_of : ℕ → Result Form CallFault
form_of number =
    if number == 0 then Ok form.Table
    else (if number == 1 then Ok form.Markdown
    else (if number == 2 then Ok form.Json
    else Err fault.Question))

-- the kinds of rights that are left out, if each is one
abbrev pub known_kinds : List (List ℕ) → Result (List (List ℕ)) CallFault
known_kinds words = if list_all is_kind words then Ok words else Err fault.Question

-- the kinds of rights that a call leaves out
unfoldable pub kinds_of : Call → Result (List (List ℕ)) CallFault
kinds_of call = texts_of call.without.now >>= known_kinds

-- some text of paths, if what is asked is texts and kinds
unfoldable pub paths_given : List ℕ → LoadedPolicy → Call → Result Given CallFault
paths_given paths loaded call =
    form_of call.form >>= λ f. text_of call.other.now >>= λ to. kinds_of call >>= λ without. Ok (settled_with loaded paths)

-- the text is that of paths, if the call has a form, a name and kinds
abbrev pub ArePaths : List ℕ → LoadedPolicy → Call → Type 0
ArePaths paths loaded call =
    (f : Form) (to : List ℕ) (without : List (List ℕ)) → form_of call.form ≡ Ok f → text_of call.other.now ≡ Ok to → kinds_of call ≡ Ok without
    → IsPathsText loaded f to without paths

-- ---- what somebody lacks

-- an atom as a JSON list on a line
abbrev pub atom_line : Atom → List ℕ
atom_line a = compact_text (atom_list a) ++ 10 ∷ []

-- whether nothing is missing, and the lines of what is
abbrev pub lacking_told : List Atom → Given
lacking_told atoms = record { number = bit (length atoms == 0); text = flat_map atom_line atoms }

-- a role of a kind and name
abbrev pub role_of_kind : Option RoleKind → List ℕ → Result RoleRef CallFault
role_of_kind (Some kind) name = Ok (record { kind = kind; name = name })
role_of_kind None name = Err fault.Question

-- the role that is meant
unfoldable pub role_in : CQuestion → Result RoleRef CallFault
role_in q = text_of q.resource.now >>= λ kind. text_of q.name.now >>= λ name. role_of_kind (role_kind kind) name

-- what is missing of a role, if there is one
abbrev pub missing_told : Option (List Atom) → Result Given CallFault
missing_told (Some atoms) = Ok (lacking_told atoms)
missing_told None = Err fault.Question

-- what the user lacks of the role
unfoldable pub missing_given : LoadedPolicy → CQuestion → Result Given CallFault
missing_given loaded q =
    identity_of q >>= λ identity. text_of q.namespace.now >>= λ namespace. role_in q >>= λ role.
    missing_told (missing_of loaded.policy identity namespace role)

-- ---- what other objects give

-- whether nobody gains and both policies are settled, and who gains what
abbrev pub gains_told : Form → LoadedPolicy → LoadedPolicy → Given
gains_told f before after = record {
  number = bit (length (gained whose.Any before.policy after.policy) == 0 && before.settled && after.settled);
  text = gains_text f shown.Rules (gained whose.Any before.policy after.policy);
}

-- the fault of objects that are not loaded
abbrev pub other_fault : StartError → CallFault
other_fault (start.Line number) = fault.Line number
other_fault start.Memory = fault.Memory

abbrev pub gains_over : LoadedPolicy → Form → Result LoadedPolicy FileFault → Result Given CallFault
gains_over loaded f (Ok after) = Ok (gains_told f loaded after)
gains_over loaded f (Err (bad_line number)) = Err (fault.Line number)

-- what the policy of the objects gives that this one does not
unfoldable pub gains_given : LoadedPolicy → Form → List ℕ → Result Given CallFault
gains_given loaded f objects = gains_over loaded f (loaded_of objects)

-- ---- by what is wanted

-- the text that is wanted in a form, of those but paths
abbrev pub listed_in : LoadedPolicy → Call → Form → Result Given CallFault
listed_in loaded call f =
    if call.wants == 3 then who_given loaded f false call.question
    else (if call.wants == 4 then who_given loaded f true call.question
    else (if call.wants == 5 then what_given loaded f call.question
    else (if call.wants == 6 then Ok (risks_given loaded f)
    else (if call.wants == 8 then missing_given loaded call.question
    else (if call.wants == 9 then gains_given loaded f call.other.now
    else Err fault.Question)))))

unfoldable pub listed : LoadedPolicy → Call → Result Given CallFault
listed loaded call = form_of call.form >>= λ f. listed_in loaded call f
