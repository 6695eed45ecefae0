-- Policies of manifests.
use Rattle.std.specs.Prelude.{◌≡◌, ℕ, ◌-◌, ◌==◌, Bool, false, List, length, Result, Ok, Err, unwrap_or}
use Rattle.std.specs.List.{slice_get}
use Rattle.kapi_core.specs.ProgramTable.{program_rows}
use Rattle.kapi_loading.specs.Faults.{bad_line}
use Rattle.kapi_manifests.specs.Written.{Loads, faults_in_all}
use Rattle.kapi_manifests.specs.declared.fault.Origin.{Origin}
use Rattle.kapi_manifests.specs.declared.prepared.Prepared.{Prepared}
use Rattle.kapi_manifests.specs.declared.sorted.Selection.TheVariants as scope
use Rattle.kapi_engine.specs.LoadedPolicies.{loaded_of}
use Rattle.kapi_engine.specs.declared.loaded_policy.LoadedPolicy.{LoadedPolicy}
use Rattle.kapi_engine.specs.declared.manifests.ManifestsFault.{ManifestsFault}
use Rattle.kapi_engine.specs.declared.manifests.ManifestsFault.TheVariants as fault

-- how many faults files have
abbrev pub faults_of : List ℕ → List (List ℕ) → ℕ
faults_of namespace texts = faults_in_all program_rows scope.Policy namespace texts

-- lines of the policy of files that have no fault
abbrev pub AreLinesOf : List ℕ → Bool → List (List ℕ) → Prepared → Type 0
AreLinesOf namespace defaults texts p = Loads program_rows scope.Policy namespace defaults texts p × (faults_of namespace texts ≡ 0)

-- where the object of a line begins
abbrev pub origin_of : List Origin → ℕ → Origin
origin_of origins number = unwrap_or (slice_get origins (number - 1)) (record { file = 0; line = 0 })

-- the loaded policy of the lines of files, the faults of the files, or the object that is not loaded
abbrev pub IsOfManifests : List ℕ → Bool → List (List ℕ) → Result LoadedPolicy ManifestsFault → Type 0
IsOfManifests namespace defaults texts (Ok loaded) =
    (p : Prepared) × AreLinesOf namespace defaults texts p × (loaded_of p.text.items ≡ Ok loaded)
IsOfManifests namespace defaults texts (Err (fault.Files list)) =
    (length list.items ≡ faults_of namespace texts) × ((length list.items == 0) ≡ false)
IsOfManifests namespace defaults texts (Err (fault.Object origin)) =
    (p : Prepared) × AreLinesOf namespace defaults texts p
    × (n : ℕ) × (loaded_of p.text.items ≡ Err (bad_line n)) × (origin ≡ origin_of p.origins.items n)
IsOfManifests namespace defaults texts (Err fault.Memory) = Unit {0}
