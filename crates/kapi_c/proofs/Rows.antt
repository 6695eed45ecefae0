-- The rows of an engine and of the allocator, as a call of a generic function passes them, and how an engine is let go.
use Rattle.std.proofs.Common.{[], ◌∷◌, refl}
use seplogic.Ra.Ura.{Ura}
use mir.Syntax.{Dict, impl, tcons, tnil, dnil, method}
use mir.Raw.{raw}
use denote.Exit.{no}
use denote.RattleType.{RattleType}
use denote.Param.{layout, arg, layouts}
use denote.Param.Laws.{Laws, arg_laws}
use denote.Param.Glue.{Met}
use denote.Triple.Carry.{AllWithin}
use denote.Triple.Clauses.{Lasts, lasts, at_exit}
use denote.Triple.Walked.{Fit}
use prog.Model.{Model}
use prog.Wired.{Wired}
use contract.Running.{Running}
use types.Logic.{Logic}
use borrow.Fn.World.{World}
use borrow.Fn.Glue.{glue_by, glue_ps}
use borrow.Fn.Impl.{via_longer, method_Known}
use borrow.Fn.Run.{Over}
use borrow.Fn.Kinds.{ended_of, stays, r_unit}
use Rattle.std.specs.contracts.alloc.Global as heap
use Rattle.std.proofs.alloc.Global.TheLaws as heap_laws
use Rattle.kapi_c_requests.specs.contracts.shared.Shared as engine
use Rattle.kapi_c_requests.proofs.shared.Shared.TheLaws as engine_laws
use Rattle.kapi_c.proofs.kapi_c_requests++shared++Shared+Destruct.drop.Kinds as kinds
use Rattle.kapi_c.proofs.kapi_c_requests++shared++Shared+Destruct.drop.Met as drop_met
use Rattle.kapi_c.proofs.kapi_c_requests++shared++Shared+Destruct.drop.Reads as reads
use Rattle.kapi_c.proofs.kapi_c_requests++shared++Shared+Destruct.drop.Symbol as symbol

abbrev pub E : RattleType
E = arg (raw (layout engine.the_row)) no engine.the_row

abbrev pub Z : RattleType
Z = arg (raw (layout heap.the_row)) no heap.the_row

pub E_laws : Laws E
E_laws = arg_laws (raw (layout engine.the_row)) no engine.the_row engine_laws.the_row_laws refl

pub Z_laws : Laws Z
Z_laws = arg_laws (raw (layout heap.the_row)) no heap.the_row heap_laws.the_row_laws refl

-- the allocator is let go by nothing
abbrev pub no_drop : Dict
no_drop = impl ("kapi_c::Destruct++none::drop" ∷ []) (tcons (layout Z) tnil) dnil

abbrev pub the_drop : Dict
the_drop = impl ("kapi_c::kapi_c_requests++shared++Shared+Destruct::drop" ∷ []) tnil dnil

pub drops : {M : Type 1} (𝓤 : Ura M) (𝓛 : Logic 𝓤) (𝓜 : Model 𝓤 𝓛.H) (𝓡 : Running 𝓤 𝓛.H 𝓜) → Wired 𝓡.env symbol.code → Met 𝓛 𝓜 𝓡 𝓡.env E the_drop
drops {M = M} 𝓤 𝓛 𝓜 𝓡 wired =
    let w : World = record { M = M; 𝓤 = 𝓤; 𝓛 = 𝓛; 𝓜 = 𝓜; 𝓡 = 𝓡 } in
    let T = ended_of 0 kinds.ps kinds.r in
    let at = method the_drop 0 (layouts [] tt) in
    glue_by E E_laws w the_drop 𝓡.env (λ κs a. Lasts T tt a) (λ κs a. lasts T tt a)
    (λ κs a x ws. Fit T (stays kinds.ps) tt a ws × reads.Learnt tt a x (at_exit T tt a ws))
    (λ κs a. AllWithin 1 (κs.0, tt) (E.lives, tt) × Unit {0}) 0 tt (λ κs a h. ((h, tt), tt))
    (via_longer 𝓛 (Over 𝓛 𝓜 𝓡 𝓡.env) 1 (glue_ps E E_laws) r_unit (λ κs a. Lasts T tt a) (λ κs a. lasts T tt a)
    (λ κs a x ws. Fit T (stays kinds.ps) tt a ws × reads.Learnt tt a x (at_exit T tt a ws))
    (λ κs a. AllWithin 1 (κs.0, tt) (E.lives, tt) × Unit {0}) at 0 tt (λ κs. tt) (λ κs a. reads.Asked tt a) (λ κs a p. (tt, tt))
    (λ κs bd within a vss qs. method_Known 0 kinds.ps kinds.r reads.requires reads.ensures reads.Asked reads.Learnt reads.known w symbol.name at
    (symbol.as_method 𝓡.env wired at refl) (drop_met.met 𝓤 𝓛 𝓜 𝓡 wired) ((tt, qs, tt, a, vss), tt)))
