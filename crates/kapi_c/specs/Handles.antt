-- What a caller of the C library owns of a policy, and what a load hands over.
use Rattle.std.specs.Prelude.{◌≡◌, ℕ, zero, suc, Result, Ok, Err}
use Rattle.std.specs.Ptr.{Ptr, points_to}
use Rattle.libc.specs.Heap.{chunk}
use base.Fml.{Fml, ffalse, feq, fsep}
use denote.Memory.{lone}
use mir.Raw.{raw}
use Rattle.kapi_loading.specs.Faults.{FileFault, bad_line}
use Rattle.kapi_c_requests.specs.contracts.shared.Shared.{the_row}
use Rattle.kapi_engine.specs.declared.loaded_policy.LoadedPolicy.{LoadedPolicy}

-- the loaded policy lies at the handle, and the block there may be freed
abbrev pub holds_at : Ptr → LoadedPolicy → Fml
holds_at p loaded = fsep (points_to the_row p loaded) (chunk (raw (lone the_row.mir)) p)

-- a load with this status hands over the loaded policy of the objects at the new handle; at another status the handle is as before
abbrev pub handed : ℕ → Ptr → Ptr → Result LoadedPolicy FileFault → Fml
handed zero old new (Ok loaded) = holds_at new loaded
handed zero old new (Err fault) = ffalse
handed (suc status) old new made = feq Ptr new old

-- how a load ends
pub data LoadEnd : Type 0 where
  loaded : LoadEnd
  no_memory : LoadEnd
  refused : LoadEnd

-- its status
abbrev pub load_status : LoadEnd → ℕ
load_status loaded = 0
load_status no_memory = 1
load_status refused = 2

-- what stands for the line behind a load that ended so: the first that is not loaded, or what stood there before
abbrev pub IsLineOf : Result LoadedPolicy FileFault → ℕ → ℕ → LoadEnd → Type 0
IsLineOf made old new loaded = new ≡ old
IsLineOf made old new no_memory = new ≡ old
IsLineOf made old new refused = made ≡ Err (bad_line new)

-- the status says how a load ended, and the line is told
abbrev pub IsLoaded : Result LoadedPolicy FileFault → ℕ → ℕ → ℕ → Type 0
IsLoaded made old new status = (end : LoadEnd) × (status ≡ load_status end) × IsLineOf made old new end
