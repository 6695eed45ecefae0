-- The box that was made goes out by its pointer, with the right to free it.
use Rattle.std.proofs.Common.{◌≡◌, ℕ, suc, List, [], ◌∷◌, ◌++◌, refl, sym, ap, subst, Result, Ok, MatchResult, w32}
use Rattle.std.proofs.raw_atomic.Walks.{proved, leaves}
use Rattle.core.proofs.alloc.Shapes.{after, head, arm_body}
use base.Fraction.{full_share}
use base.Logic.{SProp, emp, id⊢}
use base.Fml.{ftrue, flft}
use lib.Dec.{T}
use mir.Syntax.{Body, named}
use mir.Val.{Val, vint, has_ty, WT}
use contract.BorrowLft.{◌⊑◌}
use contract.Monad.{fact, fact_i}
use contract.Running.{tables}
use prog.Wp.{Wp, after_seq, at_return}
use types.Kit.{‵, raw, ◌⊛◌, some, later, at_ret, any_q, ◌$◌, ◌∵◌, !, qed, by, move, keep, drop, use0, use1, split, split3, join, fsplit, fsplit3, fjoin, feq_i, feq_l, pick, await, rewrite}
use types.Tokens.{lft_new}
use types.Match.{vrt, in_variant}
use types.Run.{enter, of_opd, addr, stop, fld, first, switches_on, exec, no_more, and_then, returns}
use types.ByLocal.{alloc_all, pass_all, free_all, look_at, get, get_in, get_tag, through, sets, sets_last, lands_as, lands_last, env}
use types.Part.{whole}
use denote.Builtin.{u8, u32, usize}
use denote.Exit.{left, yes}
use denote.Laws.{Is, shows}
use denote.Param.{layout}
use denote.Param.NoDrop as nothing_dropped
use denote.Plain.{uint_Lawful, uint_Makes}
use denote.RattleType.{owns}
use denote.RawPtr.{Ptr, RawPtr, rawptr_vals, rawptr_Lawful}
use denote.Ref.{mut_vals, mut_Tells}
use denote.Slice.{shr_slice_vals, shr_slice_Tells}
use denote.Signature.{Signature, plain, mut_ref_to, type_at, types_at}
use denote.Steps.{nothing, only, owned, heard, peeks}
use denote.Struct.Laws as struct_laws
use denote.Triple.Call.{calls_at, calls_at_last}
use denote.Triple.Clauses.{Lasts, lasts}
use denote.Triple.Spec.{triple_of}
use denote.Triple.Table.{framed}
use denote.Triple.Walked.{Stays, walk_of, Goes-ref}
use Rattle.std.specs.contracts.alloc.Global as heap
use Rattle.std.proofs.alloc.Global.TheLaws as heap_laws
use Rattle.std.specs.contracts.impls.GlobalAllocator.TheImpl as allocator
use Rattle.std.proofs.impls.GlobalAllocator.TheImpl.Met as allocator_met
use Rattle.std.proofs.boxed.Box.TheLaws as box_laws
use Rattle.std.specs.contracts.boxed.Box.into_raw as raws
use Rattle.std.proofs.boxed.Box.into_raw.Met as raws_met
use Rattle.kapi_c_requests.proofs.shared.Shared.TheLaws as engine_laws
use Rattle.kapi_c_requests.specs.contracts.shared.Shared as engine
use Rattle.kapi_engine.specs.LoadedPolicies.{loaded_of}
use Rattle.kapi_loading.specs.Faults.{FileFault}
use Rattle.kapi_c.specs.Handles.{IsLoaded, holds_at, handed}
use Rattle.kapi_c.specs.Statuses.{status_in}
use Rattle.kapi_c.proofs.Rows.{E, Z, E_laws, Z_laws, no_drop, the_drop, drops}
use Rattle.kapi_c.proofs.Cases.{B, Loaded, loaded_laws, loaded_cases}
use Rattle.kapi_c.proofs.Passed.{passed, passed_go}
use Rattle.kapi_c.specs.contracts.loading.make_engine as makes
use Rattle.kapi_c.proofs.loading.make_engine.Met as makes_met
use Rattle.kapi_c.specs.contracts.loading.put as puts
use Rattle.kapi_c.proofs.loading.put.Met as puts_met
use Rattle.kapi_c.specs.contracts.kapi_load as f
use Rattle.kapi_c.proofs.kapi_load.Statement.{statement}
use Rattle.kapi_c.proofs.kapi_load.Code as code
use Rattle.kapi_c.proofs.Destruct++none.drop.Code as destruct

abbrev P : Signature
P = f.signature

abbrev stayed : Stays P.params f.ended.kept
stayed = passed P.params f.ended.kept

pub kapi_load_spec : {M : Type 1} → statement M
unfolding destruct.code
kapi_load_spec {M = M} 𝓤 𝓛 𝓜 𝓡 wired =
    let H = 𝓛.H in let c = f.clauses 𝓛 𝓜.mem 𝓡.returns in let W = walk_of 𝓛 f.ended stayed c in let 𝓣 = tables 𝓤 H 𝓜 𝓡 𝓡.env in let fn = code.function in
    proved 𝓛 f.ended stayed c 𝓜 𝓡 (passed_go 𝓛 3 P.params f.ended.kept)
    f.Key.name fn (code.unfolded 𝓤 H 𝓜 𝓡 wired)
    (λ κs. ((λ x. struct_laws.val heap.the_type heap_laws.the_laws x ∷ []), (shr_slice_vals, (mut_vals, (mut_vals, tt)))))
    (λ κs. (struct_laws.tells heap.the_type heap_laws.the_laws, (shr_slice_Tells (named 0) κs.0 u8, (mut_Tells (named 1) κs.1.0 usize, (mut_Tells (named 2) κs.1.1.0 RawPtr, tt)))))
    (λ κs qs bounds a x are.
    let gv = struct_laws.val heap.the_type heap_laws.the_laws a.0 in
    let vss : List Val × (List Val × (List Val × (List Val × Unit {0}))) = (gv ∷ [], (shr_slice_vals a.1.0, (mut_vals a.1.1.0, (mut_vals a.1.1.1.0, tt)))) in
    let y : W.Ghost = ((κs, qs, bounds, a, vss), x) in
    let G = triple_of 𝓛 makes.signature (makes.spec 𝓛 𝓜.mem 𝓡.returns) in
    let z : G.Ghost = (((κs.0, (κs.1.0, tt)), (qs.0, (qs.1.0, tt)), tt, (a.0, (a.1.0, (a.1.1.0, tt))), (gv ∷ [], (shr_slice_vals a.1.0, (mut_vals a.1.1.0, tt)))), tt) in
    let room = a.1.1.1.0 in let objects = loaded_of a.1.0.now in
    let both = ‵ (flft κs.0 qs.0) ⊛ ‵ (flft κs.1.0 qs.1.0) ⊛ ‵ ftrue in
    let Made : Loaded.Denot → Type 0 = λ r. MatchResult r (λ b. objects ≡ Ok b.value) (λ st. (n : ℕ) × (st ≡ suc n)) in
    let IsStatusOf : ℕ → ℕ → Type 0 = λ new st. IsLoaded objects a.1.1.0.now new st in
    qed 𝓛 (((‵ (flft κs.0 qs.0) ⊛ ‵ (flft κs.1.0 qs.1.0) ⊛ ‵ (flft κs.1.1.0 qs.1.1.0) ⊛ ‵ ftrue) ⊛ ‵ (owns (types_at P.params κs) a vss)) ∷ ‵ ftrue ∷ []) ∵
    split ! $ split3 ! $ move ! (2 ∷ []) $ split ! $ move ! (4 ∷ []) $ fsplit ! $ move ! (1 ∷ []) $ fsplit ! $ move ! (1 ∷ []) $ fsplit ! $ move ! (1 ∷ []) $ fsplit ! $
    keep ! (0 ∷ 2 ∷ 3 ∷ 4 ∷ 5 ∷ 7 ∷ 8 ∷ []) $
    -- [the room for the handle; the line; the objects; the allocator; the room's token; the two other tokens]
    enter ! 𝓣.C 𝓣.Λ fn (gv ∷ (shr_slice_vals a.1.0 ++ (mut_vals a.1.1.0 ++ (mut_vals room ++ [])))) _ $ alloc_all ! (λ l.
    pass_all ! refl ((tt, ((tt, tt), tt)), ((tt, (tt, (record { fits = are.1.0.0.1.0 }, tt))), ((tt, tt), ((tt, tt), tt)))) $
    sets ! (addr ! (through ! refl (stop !))) refl (tt, tt) $
    nothing ! $ move ! (2 ∷ 0 ∷ []) $ fjoin ! $ move ! (2 ∷ 0 ∷ []) $ fjoin ! $ move ! (2 ∷ 0 ∷ []) $ fjoin ! $
    nothing ! $ move ! (5 ∷ 0 ∷ []) $ join ! $ move ! (4 ∷ 0 ∷ []) $ join ! $ join ! $ nothing ! $ move ! (1 ∷ 0 ∷ []) $ join ! $
    use1 𝓛 (raw (G.pre z)) (id⊢ 𝓤 _) $
    calls_at ! (framed 𝓤 H 𝓜 𝓣) G (makes_met.met 𝓤 𝓛 𝓜 𝓡 (code.calls-kapi_c::loading::make_engine 𝓡.env wired)) z (and_then ! (get ! refl) (and_then ! (get ! refl) (and_then ! (get ! refl) (no_more !)))) (λ v.
    use1 𝓛 (later (some (λ (r : Loaded.Denot). (both ⊛ ‵ (Loaded.own_val r (v ∷ []))) ⊛
    some (λ (ws : Lasts makes.ended z.0.0 z.0.3). ‵ (lasts makes.ended z.0.0 z.0.3 ws) ⊛ (raw (fact 𝓤 (Made r)) ⊛ raw (fact 𝓤 (IsStatusOf ws.1.1.0 (status_in r)))))))) (id⊢ 𝓤 (G.post z v)) $
    await ! tt $ pick ! (λ r. split ! $ split ! $ move ! (2 ∷ []) $ pick ! (λ ws. split ! $ move ! (1 ∷ []) $ split ! $ heard ! (Made r) (λ made. heard ! (IsStatusOf ws.1.1.0 (status_in r)) (λ told.
    fsplit3 ! $ drop ! $ drop ! $ fsplit ! $ move ! (1 ∷ []) $ drop ! $ move ! (2 ∷ []) $
    -- [what was made; what is said of the line; the two tokens; the room; its token; the locals]
    let Ev = env fn.locals l in let Post : Val → SProp 𝓤 = W.post y in let arms : Body = head (after 2 fn.body) in
    let Then = any_q (after_seq 𝓤 H (Wp 𝓤 H 𝓣.C 𝓣.Λ Ev (after 3 fn.body) (at_return 𝓤 H Ev Post)) (at_return 𝓤 H Ev Post)) in
    let Good : Val → Type 0 = λ u. T (has_ty (layout Loaded) u) × WT u in
    peeks ! Loaded (Is Loaded) (shows 𝓛 Loaded) r (v ∷ []) (λ it.
    let good : Good v = ((loaded_laws.lawful 𝓛).typed r _ it).0 in
    loaded_cases ! r (v ∷ [])
    (λ b u is e. peeks ! B (Is B) (shows 𝓛 B) b (u ∷ []) (λ itb. let held = ((box_laws.the_row_laws engine.the_row heap.the_row allocator.ghosts engine_laws.the_row_laws heap_laws.the_row_laws).lawful 𝓛).typed b _ itb in
    lands_as ! (ap only e) refl (subst Good (ap only e) good) $
    first ! $ switches_on ! (get_tag ! (vrt ! refl (fld ! refl (stop !))) (whole !)) $ exec ! 𝓣.C 𝓣.Λ Ev (arm_body 0 arms) Then $
    sets ! (of_opd ! (get_in ! (vrt ! refl (fld ! refl (stop !))) (in_variant ! 0 0 refl refl (whole !)))) refl held.0 $
    sets ! (addr ! (through ! refl (stop !))) refl (tt, tt) $
    sets ! (of_opd ! (get ! refl)) refl held.0 $
    lft_new ! tt (λ α. lft_new ! tt (λ β.
    let within = (α ∷ []) ⊑ E.lives in let within' = (β ∷ []) ⊑ Z.lives in
    let two = ‵ (flft (α ∷ []) full_share) ⊛ ‵ (flft (β ∷ []) full_share) ⊛ ‵ ftrue in
    let I = triple_of 𝓛 (raws.signature E Z allocator.ghosts allocator.dict no_drop the_drop) (raws.spec E Z allocator.ghosts allocator.dict no_drop the_drop 𝓛 𝓜.mem 𝓡.returns) in
    let zi : I.Ghost = (((α ∷ [], (β ∷ [], tt)), (full_share, (full_share, tt)), tt, (b, tt), (u ∷ [], tt)), tt) in
    use0 𝓛 (raw (fact 𝓤 within')) (fact_i 𝓤 within' (emp 𝓤) (heap_laws.the_within (β ∷ []))) $ nothing ! $ move ! (1 ∷ 0 ∷ []) $ join ! $
    use0 𝓛 (raw (fact 𝓤 within)) (fact_i 𝓤 within (emp 𝓤) (engine_laws.the_within (α ∷ []))) $ join ! $
    nothing ! $ move ! (2 ∷ 0 ∷ []) $ join ! $ move ! (2 ∷ 0 ∷ []) $ join ! $ nothing ! $ move ! (3 ∷ 0 ∷ []) $ fjoin ! $ move ! (1 ∷ 0 ∷ []) $ join ! $ join ! $
    use1 𝓛 (raw (I.pre zi)) (id⊢ 𝓤 _) $
    calls_at ! (framed 𝓤 H 𝓜 𝓣) I (raws_met.met 𝓤 𝓛 𝓜 𝓡 (code.calls-std::boxed::Box::into_raw 𝓡.env wired) E Z E_laws Z_laws allocator.ghosts allocator.dict no_drop the_drop
    (allocator_met.passed 𝓡.env (code.calls-std_heap::GlobalAllocator::allocate 𝓡.env wired) (code.calls-std_heap::GlobalAllocator::deallocate 𝓡.env wired) (code.calls-std_heap::GlobalAllocator::grow 𝓡.env wired) (code.calls-std_heap::GlobalAllocator::shrink 𝓡.env wired) M 𝓤 𝓛 𝓜 𝓡)
    (nothing_dropped.glues "kapi_c::Destruct++none::drop" 𝓡.env (code.calls-kapi_c::Destruct++none::drop 𝓡.env wired) Z Z_laws M 𝓤 𝓛 𝓜 𝓡)
    (drops 𝓤 𝓛 𝓜 𝓡 (code.calls-kapi_c::kapi_c_requests++shared++Shared+Destruct::drop 𝓡.env wired))) zi (and_then ! (get ! refl) (no_more !)) (λ w.
    use1 𝓛 (later (some (λ (p : Ptr). (two ⊛ ‵ (RawPtr.own_val p (w ∷ []))) ⊛ some (λ (ls : Lasts (raws.ended E Z allocator.ghosts allocator.dict no_drop the_drop) zi.0.0 zi.0.3). ‵ (lasts (raws.ended E Z allocator.ghosts allocator.dict no_drop the_drop) zi.0.0 zi.0.3 ls) ⊛ ‵ (holds_at p b.value))))) (id⊢ 𝓤 (I.post zi w)) $
    await ! tt $ pick ! (λ p. split ! $ split ! $ drop ! $ feq_l ! (λ ep. pick ! (λ ls. split ! $ drop ! $
    -- [the engine at its pointer; the token of the objects; the room; its token; the locals]
    let pointer = ((rawptr_Lawful 𝓛).typed p _ refl).0 in
    lands_as ! (ap only ep) refl pointer $
    let S = triple_of 𝓛 puts.signature (puts.spec 𝓛 𝓜.mem 𝓡.returns) in
    let zs : S.Ghost = (((κs.1.1.0, tt), (qs.1.1.0, tt), tt, (room, (p, tt)), (mut_vals room, (rawptr_vals p, tt))), tt) in
    nothing ! $ feq_i ! (List Val) (rawptr_vals p) (rawptr_vals p) refl $ fjoin ! $ move ! (4 ∷ 0 ∷ []) $ fjoin ! $ nothing ! $ move ! (5 ∷ 0 ∷ []) $ join ! $ join ! $ nothing ! $ move ! (1 ∷ 0 ∷ []) $ join ! $
    use1 𝓛 (raw (S.pre zs)) (id⊢ 𝓤 _) $
    calls_at_last ! (framed 𝓤 H 𝓜 𝓣) S (puts_met.met 𝓤 𝓛 𝓜 𝓡 (code.calls-kapi_c::loading::put 𝓡.env wired)) zs (and_then ! (get ! refl) (and_then ! (get ! refl) (no_more !))) (λ w'.
    use1 𝓛 (later (some (λ (st : ℕ). ((‵ (flft κs.1.1.0 qs.1.1.0) ⊛ ‵ ftrue) ⊛ ‵ (u32.own_val st (w' ∷ []))) ⊛
    some (λ (ls' : Lasts puts.ended zs.0.0 zs.0.3). ‵ (lasts puts.ended zs.0.0 zs.0.3 ls') ⊛ (raw (fact 𝓤 (ls'.0 ≡ p)) ⊛ raw (fact 𝓤 (st ≡ 0))))))) (id⊢ 𝓤 (S.post zs w')) $
    await ! tt $ pick ! (λ st. split ! $ split ! $ move ! (2 ∷ []) $ pick ! (λ ls'. split ! $ move ! (1 ∷ []) $ split ! $ heard ! (ls'.0 ≡ p) (λ same. heard ! (st ≡ 0) (λ none.
    -- [what is said of the room; its token; the status; the engine; the token of the objects; the locals]
    fsplit ! $ move ! (1 ∷ []) $ drop ! $ nothing ! $ move ! (1 ∷ 0 ∷ []) $ fjoin ! $ move ! (4 ∷ 0 ∷ []) $ fjoin ! $ nothing ! $ fjoin ! $ nothing ! $ fjoin ! $
    move ! (4 ∷ []) $ split3 ! $ move ! (1 ∷ 4 ∷ []) $ join ! $ move ! (1 ∷ 0 ∷ []) $ join ! $ move ! (1 ∷ []) $ drop ! $
    -- [the tokens; what is said of the parameters; the status; the engine; the locals]
    move ! (2 ∷ []) $ peeks ! u32 (Is u32) (shows 𝓛 u32) st (w' ∷ []) (λ its. let status = ((uint_Lawful 𝓛 w32).typed st _ its).0 in
    lands_last ! refl status $ exec ! 𝓣.C 𝓣.Λ Ev (after 3 fn.body) (at_ret Ev Post) $ sets ! (of_opd ! (get ! refl)) refl status $
    returns ! (look_at ! 0 refl) $ free_all ! refl $ move ! (3 ∷ []) $
    rewrite ! 0 (λ (m : Ptr). ‵ (holds_at m b.value)) (sym same) refl $
    rewrite ! 0 (λ (m : Result engine.the_row.Denot FileFault). ‵ (handed 0 room.now ls'.0 m)) (sym (subst Made is made)) refl $
    rewrite ! 0 (λ (m : ℕ). ‵ (handed m room.now ls'.0 objects)) (sym none) refl $
    let done : IsStatusOf ws.1.1.0 st = subst (IsStatusOf ws.1.1.0) (sym none) (subst (λ r'. IsStatusOf ws.1.1.0 (status_in r')) is told) in
    use0 𝓛 (raw (fact 𝓤 (IsStatusOf ws.1.1.0 st))) (fact_i 𝓤 (IsStatusOf ws.1.1.0 st) (emp 𝓤) done) $ move ! (1 ∷ 0 ∷ []) $ join ! $
    keep ! (2 ∷ 3 ∷ 1 ∷ 0 ∷ []) $ by ! (leaves 𝓛 f.ended stayed c y w' st (tt, (tt, (ws.1.1.0, (ls'.0, tt)))) (tt, (tt, (tt, (tt, tt)))))))))))))))))))
    (λ st is e.
    -- [what is said of the line; the two tokens; the room; its token; the locals]
    lands_as ! (ap only e) refl (subst Good (ap only e) good) $
    first ! $ switches_on ! (get_tag ! (vrt ! refl (fld ! refl (stop !))) (whole !)) $ exec ! 𝓣.C 𝓣.Λ Ev (arm_body 1 arms) Then $
    sets ! (of_opd ! (get_in ! (vrt ! refl (fld ! refl (stop !))) (in_variant ! 1 0 refl refl (whole !)))) refl (tt, (subst Good (ap only e) good).1.1.0) $
    sets_last ! (of_opd ! (get ! refl)) refl (tt, (subst Good (ap only e) good).1.1.0) $
    exec ! 𝓣.C 𝓣.Λ Ev (after 3 fn.body) (at_ret Ev Post) $ sets ! (of_opd ! (get ! refl)) refl (tt, (subst Good (ap only e) good).1.1.0) $
    let failed : (n : ℕ) × (st ≡ suc n) = subst Made is made in
    move ! (2 ∷ []) $ use1 𝓛 (later (‵ (left ((type_at (mut_ref_to {n = 3} (2 ∷ []) tt (plain (λ _. RawPtr))) κs).exit yes) room room.now))) (Goes-ref 𝓛 3 2 tt (plain (λ _. RawPtr)) κs room room.now (mut_vals room) tt) $ await ! tt $
    nothing ! $ move ! (1 ∷ 0 ∷ []) $ fjoin ! $ move ! (1 ∷ 0 ∷ []) $ fjoin ! $ nothing ! $ fjoin ! $ nothing ! $ fjoin ! $
    move ! (1 ∷ []) $ split3 ! $ nothing ! $ move ! (5 ∷ 0 ∷ []) $ join ! $ move ! (2 ∷ 0 ∷ []) $ join ! $ move ! (1 ∷ 0 ∷ []) $ join ! $ move ! (1 ∷ []) $ drop ! $
    -- [the tokens; what is said of the parameters; the locals]
    returns ! (look_at ! 0 refl) $ free_all ! refl $ owned ! u32 _ (uint_Makes 𝓛 w32) st _ (refl, (subst Good (ap only e) good).1.1.0.fits) $
    feq_i ! Ptr room.now room.now refl $ rewrite ! 0 (λ (m : ℕ). ‵ (handed m room.now room.now objects)) (sym failed.1) refl $
    let done : IsStatusOf ws.1.1.0 st = subst (λ r'. IsStatusOf ws.1.1.0 (status_in r')) is told in
    use0 𝓛 (raw (fact 𝓤 (IsStatusOf ws.1.1.0 st))) (fact_i 𝓤 (IsStatusOf ws.1.1.0 st) (emp 𝓤) done) $ move ! (1 ∷ 0 ∷ []) $ join ! $
    keep ! (2 ∷ 3 ∷ 1 ∷ 0 ∷ []) $ by ! (leaves 𝓛 f.ended stayed c y (vint w32 st) st (tt, (tt, (ws.1.1.0, (room.now, tt)))) (tt, (tt, (tt, (tt, tt))))))))))))))
