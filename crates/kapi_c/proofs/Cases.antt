-- A result that has a box or a number is one of the two.
use Rattle.std.proofs.Common.{◌≡◌, ℕ, List, [], ◌∷◌, ◌++◌, refl, ap, ◌∙◌, w32, Ok, Err}
use seplogic.Ra.Ura.{Ura}
use mir.Val.{Val, vint, vcons, vnil, of_list}
use types.Logic.{Logic}
use types.Match.{live}
use types.Kit.{Item, Goal, Seq, ‵, ◌$◌, move, drop, rewrite, fsplit, fpick, feq_l}
use denote.RattleType.{RattleType}
use denote.Builtin.{u32}
use denote.Laws.{Is, shows}
use denote.Plain.{uint_Tells}
use denote.Steps.{peeks}
use denote.Struct.Members.{Lone}
use Rattle.std.specs.contracts.boxed.Box as box
use Rattle.std.proofs.boxed.Box.TheLaws as box_laws
use Rattle.std.specs.contracts.result.Result as result
use Rattle.std.proofs.result.Result.TheLaws as result_laws
use denote.Param.Laws.{Laws, of_field}
use denote.Param.Shared.{copy_shared}
use denote.Struct.Field.{u32-field}
use denote.Struct.Laws.{u32-laws, u32-copy}
use Rattle.std.specs.contracts.alloc.Global as heap
use Rattle.std.proofs.alloc.Global.TheLaws as heap_laws
use Rattle.std.specs.contracts.impls.GlobalAllocator.TheImpl as allocator
use Rattle.kapi_c_requests.specs.contracts.shared.Shared as engine
use Rattle.kapi_c_requests.proofs.shared.Shared.TheLaws as engine_laws

abbrev pub B : RattleType
B = box.the_row engine.the_row heap.the_row allocator.ghosts

abbrev pub Loaded : RattleType
Loaded = result.the_row B u32

pub loaded_laws : Laws Loaded
loaded_laws = result_laws.the_row_laws B u32 (box_laws.the_row_laws engine.the_row heap.the_row allocator.ghosts engine_laws.the_row_laws heap_laws.the_row_laws) (of_field u32-field u32-laws refl (copy_shared u32-field u32-copy))

one_value : (vs : List Val) → Lone vs → (v : Val) × (vs ≡ v ∷ [])
one_value [] lone = absurd lone
one_value (v ∷ []) lone = (v, refl)
one_value (v ∷ u ∷ vs) lone = absurd lone

module _ {M : Type 1} {𝓤 : Ura M} {𝓛 : Logic 𝓤} {K : Type 0} {Γ : List (Item 𝓤)} {G : Goal 𝓤 𝓛.H} where
  pub loaded_cases : K → (r : Loaded.Denot) (vs : List Val)
      → ((b : B.Denot) (v : Val) → r ≡ Ok b → vs ≡ live 0 (vcons v vnil) ∷ [] → Seq K 𝓛 (‵ (B.own_val b (v ∷ [])) ∷ Γ) G)
      → ((s : ℕ) → r ≡ Err s → vs ≡ live 1 (vcons (vint w32 s) vnil) ∷ [] → Seq K 𝓛 Γ G)
      → Seq K 𝓛 (‵ (Loaded.own_val r vs) ∷ Γ) G
  loaded_cases t (Ok b) vs k l =
      fpick t (λ us. fsplit t $ feq_l t (λ e. fpick t (λ vss. fsplit t $ feq_l t (λ e'. fsplit t $ move t (1 ∷ []) $ drop t $
      peeks t B (Is B) (shows 𝓛 B) b vss.0 (λ it.
      let one = one_value vss.0 ((box_laws.the_row_laws engine.the_row heap.the_row allocator.ghosts engine_laws.the_row_laws heap_laws.the_row_laws).single b vss.0 it) in
      rewrite t 0 (λ (ws : List Val). ‵ (B.own_val b ws)) one.1 refl $
      k b one.0 refl (e ∙ ap (λ (ws : List Val). live 0 (of_list ws) ∷ []) (e' ∙ ap (λ (ws : List Val). ws ++ []) one.1)))))))
  loaded_cases t (Err s) vs k l =
      fpick t (λ us. fsplit t $ feq_l t (λ e. fpick t (λ vss. fsplit t $ feq_l t (λ e'. fsplit t $ move t (1 ∷ []) $ drop t $
      peeks t u32 (Is u32) (shows 𝓛 u32) s vss.0 (λ it. drop t $
      l s refl (e ∙ ap (λ (ws : List Val). live 1 (of_list ws) ∷ []) (e' ∙ ap (λ (ws : List Val). ws ++ []) (uint_Tells w32 s vss.0 it))))))))
