-- One more holder is made of the one that is lent for the call, and goes out by its pointer.
use Rattle.std.proofs.Common.{◌≡◌, ℕ, suc, List, [], ◌∷◌, ◌++◌, refl, sym, ap, subst, Result, Ok, MatchResult, w32}
use Rattle.std.proofs.raw_atomic.Walks.{proved, leaves}
use Rattle.core.proofs.alloc.Shapes.{after, head, arm_body}
use base.Fraction.{full_share}
use base.Logic.{SProp, emp, id⊢, fst∗, never}
use base.Fml.{ftrue, flft, Lft, Incl-refl, flent}
use lib.Dec.{T}
use mir.Syntax.{Body, named}
use mir.Val.{Val, vint, has_ty, WT, vptr}
use contract.BorrowLft.{◌⊑◌}
use contract.Monad.{fact, fact_i}
use contract.Running.{tables}
use prog.Wp.{Wp, after_seq, at_return, WpFn}
use types.Kit.{‵, raw, ◌⊛◌, some, later, at_ret, any_q, ◌$◌, ◌∵◌, !, qed, by, move, keep, drop, use0, use1, split, split3, join, fsplit, fsplit3, fjoin, feq_i, feq_l, pick, await, rewrite, prop, use2, regoal}
use types.Tokens.{lft_new, lft_end, lent_back}
use types.Match.{vrt, in_variant}
use types.Run.{enter, of_opd, addr, stop, fld, first, switches_on, exec, no_more, and_then, returns, from, hop}
use types.ByLocal.{alloc_all, pass_all, free_all, look_at, get, get_in, get_tag, through, sets, sets_last, lands_as, lands_last, env, look_in_at}
use types.Part.{whole, agg, sub}
use denote.Builtin.{u8, u32, usize}
use denote.Exit.{left, yes}
use denote.Laws.{Is, shows}
use denote.Param.{layout}
use denote.Plain.{uint_Lawful, uint_Makes}
use denote.RattleType.{owns}
use denote.RawPtr.{Ptr, RawPtr, rawptr_vals, rawptr_Lawful, block_ptr, null_ptr, in_a_block, rawptr_Tells}
use denote.Ref.{mut_vals, mut_Tells, Bor, ShrRef, shr_vals, shr_Tells}
use denote.Slice.{shr_slice_vals, shr_slice_Tells, mut_slice_vals, mut_slice_Tells}
use denote.Signature.{Signature, plain, mut_ref_to, type_at, types_at, named_lft}
use denote.Steps.{nothing, only, owned, heard, peeks}
use denote.Triple.Call.{calls_at, calls_at_last}
use denote.Triple.Clauses.{Lasts, lasts, at_exit}
use denote.Triple.Spec.{triple_of}
use denote.Triple.Table.{framed}
use denote.Triple.Walked.{Stays, walk_of, Goes-ref}
use Rattle.kapi_engine.specs.LoadedPolicies.{loaded_of}
use Rattle.kapi_c.specs.Handles.{IsLoaded, holds_at, handed}
use Rattle.kapi_c.specs.Statuses.{status_in}
use Rattle.kapi_c.proofs.Rows.{E, Z, E_laws, Z_laws, no_drop, the_drop, drops}
use Rattle.kapi_c.proofs.Cases.{B, Loaded, loaded_laws, loaded_cases}
use Rattle.kapi_c.proofs.Passed.{passed, passed_go}
use types.Logic.{sem}
use denote.Lend.{lends_shr}
use denote.Memory.{lone, part_at}
use mir.Raw.{raw as bare}
use Rattle.libc.specs.Heap.{chunk}
use denote.Triple.Entry.{alive}
use Rattle.kapi_c_requests.specs.Answers.{IsAnswered}
use Rattle.kapi_c.proofs.kapi_share.Statement.{statement}
use denote.Param.NoDrop as nothing_dropped
use denote.Struct.Laws as struct_laws
use Rattle.std.specs.contracts.alloc.Global as heap
use Rattle.std.proofs.alloc.Global.TheLaws as heap_laws
use Rattle.std.specs.contracts.impls.GlobalAllocator.TheImpl as allocator
use Rattle.std.proofs.impls.GlobalAllocator.TheImpl.Met as allocator_met
use Rattle.std.proofs.boxed.Box.TheLaws as box_laws
use Rattle.std.specs.contracts.boxed.Box.into_raw as raws
use Rattle.std.proofs.boxed.Box.into_raw.Met as raws_met
use Rattle.kapi_c_requests.proofs.shared.Shared.TheLaws as engine_laws
use Rattle.kapi_c_requests.specs.contracts.shared.Shared as engine
use Rattle.kapi_c.specs.contracts.loading.put as puts
use Rattle.kapi_c.proofs.loading.put.Met as puts_met
use Rattle.kapi_c.proofs.Destruct++none.drop.Code as destruct
use Rattle.kapi_c.specs.contracts.loading.make_another as makes
use Rattle.kapi_c.proofs.loading.make_another.Met as makes_met
use Rattle.kapi_c.specs.contracts.kapi_share as f
use Rattle.kapi_c.proofs.kapi_share.Code as code

abbrev P : Signature
P = f.signature

abbrev stayed : Stays P.params f.ended.kept
stayed = passed P.params f.ended.kept

pub kapi_share_spec : {M : Type 1} → statement M
unfolding destruct.code
kapi_share_spec {M = M} 𝓤 𝓛 𝓜 𝓡 wired =
    let H = 𝓛.H in let c = f.clauses 𝓛 𝓜.mem 𝓡.returns in let W = walk_of 𝓛 f.ended stayed c in let 𝓣 = tables 𝓤 H 𝓜 𝓡 𝓡.env in let fn = code.function in
    let R = engine.the_row in
    proved 𝓛 f.ended stayed c 𝓜 𝓡 (passed_go 𝓛 1 P.params f.ended.kept)
    f.Key.name fn (code.unfolded 𝓤 H 𝓜 𝓡 wired)
    (λ κs. ((λ x. struct_laws.val heap.the_type heap_laws.the_laws x ∷ []), (rawptr_vals, (mut_vals, tt))))
    (λ κs. (struct_laws.tells heap.the_type heap_laws.the_laws, (rawptr_Tells, (mut_Tells (named 0) κs.0 RawPtr, tt))))
    (λ κs qs bounds a x are.
    let gv = struct_laws.val heap.the_type heap_laws.the_laws a.0 in let room = a.1.1.0 in
    let rest : List Val × Unit {0} = (mut_vals room, tt) in
    let vs : Ptr → List Val = λ p. gv ∷ (rawptr_vals p ++ (mut_vals room ++ [])) in
    let y : Ptr → W.Ghost = λ p. ((κs, qs, bounds, (a.0, (p, a.1.1)), (gv ∷ [], (rawptr_vals p, rest))), x) in
    qed 𝓛 (((‵ (flft κs.0 qs.0) ⊛ ‵ ftrue) ⊛ ‵ (owns (types_at P.params κs) a (gv ∷ [], (rawptr_vals a.1.0, rest)))) ∷ ‵ (holds_at a.1.0 x) ∷ []) ∵
    move ! (1 ∷ []) $ in_a_block ! a.1.0 (λ p. holds_at p x) (fst∗ 𝓤 (never 𝓤) (sem 𝓛 (chunk (bare (lone R.mir)) null_ptr))) (λ b o e.
    regoal ! (λ p. prop (WpFn 𝓤 𝓛.H 𝓣.C 𝓣.Λ code.function (vs p) (W.post (y p)))) e refl $
    fsplit ! $ move ! (2 ∷ []) $ split ! $ move ! (1 ∷ []) $ fsplit ! $ move ! (1 ∷ []) $ fsplit ! $ drop ! $ fsplit ! $ move ! (1 ∷ []) $ drop ! $
    -- [the room for the handle; the allocator; the token; the engine; the right to free it]
    enter ! 𝓣.C 𝓣.Λ fn (vs (block_ptr b o)) _ $ alloc_all ! (λ l.
    pass_all ! refl ((tt, ((tt, tt), tt)), ((tt, tt), ((tt, tt), tt))) $
    sets ! (of_opd ! (get ! refl)) refl (tt, tt) $
    sets ! (addr ! (through ! refl (stop !))) refl (tt, tt) $
    lft_new ! tt (λ γ. let κ : Lft = γ ∷ [] in move ! (4 ∷ 0 ∷ []) $
    use2 𝓛 (later ((‵ ((ShrRef (named 0) κ R).own_val (record { ref_ptr = (b, o); now = x }) (vptr b o ∷ [])) ⊛ ‵ (flent κ (part_at R full_share x b o))) ⊛ ‵ (flft κ full_share)))
    (lends_shr 𝓛 R (named 0) κ full_share x b o R.lives (engine_laws.the_row_laws.shares 𝓛 x) ((κ, full_share) ∷ []) (engine_laws.the_within κ) (Incl-refl κ)) $ await ! tt $ split ! $ split ! $
    -- [the engine, lent; the right to it; its token; the room; the allocator; the token; the right to free it; the locals]
    let s : Bor R.Denot = record { ref_ptr = (b, o); now = x } in
    let G = triple_of 𝓛 makes.signature (makes.spec 𝓛 𝓜.mem 𝓡.returns) in
    let z : G.Ghost = (((κ, tt), (full_share, tt), tt, (a.0, (s, tt)), (gv ∷ [], (vptr b o ∷ [], tt))), tt) in
    let Made : Loaded.Denot → Type 0 = λ r. MatchResult r (λ b. b.value ≡ x) (λ st. st ≡ 1) in
    nothing ! $ move ! (1 ∷ 0 ∷ []) $ fjoin ! $ move ! (4 ∷ 0 ∷ []) $ fjoin ! $
    nothing ! $ move ! (3 ∷ 0 ∷ []) $ join ! $ join ! $ nothing ! $ move ! (1 ∷ 0 ∷ []) $ join ! $
    use1 𝓛 (raw (G.pre z)) (id⊢ 𝓤 _) $
    calls_at ! (framed 𝓤 H 𝓜 𝓣) G (makes_met.met 𝓤 𝓛 𝓜 𝓡 (code.calls-kapi_c::loading::make_another 𝓡.env wired)) z (and_then ! (get ! refl) (and_then ! (get ! refl) (no_more !))) (λ v.
    use1 𝓛 (later (some (λ (r : Loaded.Denot). ((‵ (flft κ full_share) ⊛ ‵ ftrue) ⊛ ‵ (Loaded.own_val r (v ∷ []))) ⊛
    some (λ (ws : Lasts makes.ended z.0.0 z.0.3). ‵ (lasts makes.ended z.0.0 z.0.3 ws) ⊛ raw (fact 𝓤 (Made r)))))) (id⊢ 𝓤 (G.post z v)) $
    await ! tt $ pick ! (λ r. split ! $ split ! $ move ! (2 ∷ []) $ pick ! (λ ws. split ! $ drop ! $ heard ! (Made r) (λ made.
    split ! $ move ! (1 ∷ []) $ drop ! $
    -- [the token; what was made; the right to the engine; the room; its token; the right to free it; the locals]
    lft_end ! tt $ move ! (0 ∷ 2 ∷ []) $ lent_back ! tt $ move ! (0 ∷ 4 ∷ []) $ fjoin ! $ move ! (1 ∷ []) $
    -- [what was made; the policy; the room; its token; the locals]
    let Ev = env fn.locals l in let Post : Val → SProp 𝓤 = W.post (y (block_ptr b o)) in let arms : Body = head (after 3 fn.body) in
    let Then = any_q (after_seq 𝓤 H (Wp 𝓤 H 𝓣.C 𝓣.Λ Ev (after 4 fn.body) (at_return 𝓤 H Ev Post)) (at_return 𝓤 H Ev Post)) in
    let Good : Val → Type 0 = λ u. T (has_ty (layout Loaded) u) × WT u in
    peeks ! Loaded (Is Loaded) (shows 𝓛 Loaded) r (v ∷ []) (λ it.
    let good : Good v = ((loaded_laws.lawful 𝓛).typed r _ it).0 in
    loaded_cases ! r (v ∷ [])
    (λ n u is e'. peeks ! B (Is B) (shows 𝓛 B) n (u ∷ []) (λ itb. let held = ((box_laws.the_row_laws engine.the_row heap.the_row allocator.ghosts engine_laws.the_row_laws heap_laws.the_row_laws).lawful 𝓛).typed n _ itb in
    lands_as ! (ap only e') refl (subst Good (ap only e') good) $
    first ! $ switches_on ! (get_tag ! (vrt ! refl (fld ! refl (stop !))) (whole !)) $ exec ! 𝓣.C 𝓣.Λ Ev (arm_body 0 arms) Then $
    sets ! (of_opd ! (get_in ! (vrt ! refl (fld ! refl (stop !))) (in_variant ! 0 0 refl refl (whole !)))) refl held.0 $
    sets ! (addr ! (through ! refl (stop !))) refl (tt, tt) $
    sets ! (of_opd ! (get ! refl)) refl held.0 $
    lft_new ! tt (λ α. lft_new ! tt (λ β.
    let within = (α ∷ []) ⊑ E.lives in let within' = (β ∷ []) ⊑ Z.lives in
    let two = ‵ (flft (α ∷ []) full_share) ⊛ ‵ (flft (β ∷ []) full_share) ⊛ ‵ ftrue in
    let I = triple_of 𝓛 (raws.signature E Z allocator.ghosts allocator.dict no_drop the_drop) (raws.spec E Z allocator.ghosts allocator.dict no_drop the_drop 𝓛 𝓜.mem 𝓡.returns) in
    let zi : I.Ghost = (((α ∷ [], (β ∷ [], tt)), (full_share, (full_share, tt)), tt, (n, tt), (u ∷ [], tt)), tt) in
    use0 𝓛 (raw (fact 𝓤 within')) (fact_i 𝓤 within' (emp 𝓤) (heap_laws.the_within (β ∷ []))) $ nothing ! $ move ! (1 ∷ 0 ∷ []) $ join ! $
    use0 𝓛 (raw (fact 𝓤 within)) (fact_i 𝓤 within (emp 𝓤) (engine_laws.the_within (α ∷ []))) $ join ! $
    nothing ! $ move ! (2 ∷ 0 ∷ []) $ join ! $ move ! (2 ∷ 0 ∷ []) $ join ! $ nothing ! $ move ! (3 ∷ 0 ∷ []) $ fjoin ! $ move ! (1 ∷ 0 ∷ []) $ join ! $ join ! $
    use1 𝓛 (raw (I.pre zi)) (id⊢ 𝓤 _) $
    calls_at ! (framed 𝓤 H 𝓜 𝓣) I (raws_met.met 𝓤 𝓛 𝓜 𝓡 (code.calls-std::boxed::Box::into_raw 𝓡.env wired) E Z E_laws Z_laws allocator.ghosts allocator.dict no_drop the_drop
    (allocator_met.passed 𝓡.env (code.calls-std_heap::GlobalAllocator::allocate 𝓡.env wired) (code.calls-std_heap::GlobalAllocator::deallocate 𝓡.env wired) (code.calls-std_heap::GlobalAllocator::grow 𝓡.env wired) (code.calls-std_heap::GlobalAllocator::shrink 𝓡.env wired) M 𝓤 𝓛 𝓜 𝓡)
    (nothing_dropped.glues "kapi_c::Destruct++none::drop" 𝓡.env (code.calls-kapi_c::Destruct++none::drop 𝓡.env wired) Z Z_laws M 𝓤 𝓛 𝓜 𝓡)
    (drops 𝓤 𝓛 𝓜 𝓡 (code.calls-kapi_c::kapi_c_requests++shared++Shared+Destruct::drop 𝓡.env wired))) zi (and_then ! (get ! refl) (no_more !)) (λ w.
    use1 𝓛 (later (some (λ (p : Ptr). (two ⊛ ‵ (RawPtr.own_val p (w ∷ []))) ⊛ some (λ (ls : Lasts (raws.ended E Z allocator.ghosts allocator.dict no_drop the_drop) zi.0.0 zi.0.3). ‵ (lasts (raws.ended E Z allocator.ghosts allocator.dict no_drop the_drop) zi.0.0 zi.0.3 ls) ⊛ ‵ (holds_at p n.value))))) (id⊢ 𝓤 (I.post zi w)) $
    await ! tt $ pick ! (λ p. split ! $ split ! $ drop ! $ feq_l ! (λ ep. pick ! (λ ls. split ! $ drop ! $
    -- [the new holder; the policy; the room; its token; the locals]
    let pointer = ((rawptr_Lawful 𝓛).typed p _ refl).0 in
    lands_as ! (ap only ep) refl pointer $
    let S = triple_of 𝓛 puts.signature (puts.spec 𝓛 𝓜.mem 𝓡.returns) in
    let zs : S.Ghost = (((κs.0, tt), (qs.0, tt), tt, (room, (p, tt)), (mut_vals room, (rawptr_vals p, tt))), tt) in
    nothing ! $ feq_i ! (List Val) (rawptr_vals p) (rawptr_vals p) refl $ fjoin ! $ move ! (3 ∷ 0 ∷ []) $ fjoin ! $ move ! (3 ∷ 0 ∷ []) $ join ! $ nothing ! $ move ! (1 ∷ 0 ∷ []) $ join ! $
    use1 𝓛 (raw (S.pre zs)) (id⊢ 𝓤 _) $
    calls_at_last ! (framed 𝓤 H 𝓜 𝓣) S (puts_met.met 𝓤 𝓛 𝓜 𝓡 (code.calls-kapi_c::loading::put 𝓡.env wired)) zs (and_then ! (get ! refl) (and_then ! (get ! refl) (no_more !))) (λ w'.
    use1 𝓛 (later (some (λ (st : ℕ). ((‵ (flft κs.0 qs.0) ⊛ ‵ ftrue) ⊛ ‵ (u32.own_val st (w' ∷ []))) ⊛
    some (λ (ls' : Lasts puts.ended zs.0.0 zs.0.3). ‵ (lasts puts.ended zs.0.0 zs.0.3 ls') ⊛ (raw (fact 𝓤 (ls'.0 ≡ p)) ⊛ raw (fact 𝓤 (st ≡ 0))))))) (id⊢ 𝓤 (S.post zs w')) $
    await ! tt $ pick ! (λ st. split ! $ split ! $ move ! (2 ∷ []) $ pick ! (λ ls'. split ! $ move ! (1 ∷ []) $ split ! $ heard ! (ls'.0 ≡ p) (λ same. heard ! (st ≡ 0) (λ none.
    -- [what is said of the room; its token; the status; the new holder; the policy; the locals]
    fsplit ! $ move ! (1 ∷ []) $ drop ! $ nothing ! $ move ! (1 ∷ 0 ∷ []) $ fjoin ! $ nothing ! $ fjoin ! $ nothing ! $ fjoin ! $ move ! (2 ∷ 1 ∷ []) $
    -- [the status; the token; what is said of the parameters; the new holder; the policy; the locals]
    peeks ! u32 (Is u32) (shows 𝓛 u32) st (w' ∷ []) (λ its. let status = ((uint_Lawful 𝓛 w32).typed st _ its).0 in
    lands_last ! refl status $ exec ! 𝓣.C 𝓣.Λ Ev (after 4 fn.body) (at_ret Ev Post) $ sets ! (of_opd ! (get ! refl)) refl status $
    returns ! (look_at ! 0 refl) $ free_all ! refl $ move ! (3 ∷ []) $
    rewrite ! 0 (λ (m : Ptr). ‵ (holds_at m n.value)) (sym same) refl $
    rewrite ! 0 (λ (m : R.Denot). ‵ (handed 0 room.now ls'.0 (Ok m))) (subst Made is made) refl $
    rewrite ! 0 (λ (m : ℕ). ‵ (handed m room.now ls'.0 (Ok x))) (sym none) refl $
    move ! (4 ∷ 0 ∷ []) $ join ! $
    keep ! (2 ∷ 3 ∷ 1 ∷ 0 ∷ []) $ by ! (leaves 𝓛 f.ended stayed c (y (block_ptr b o)) w' st (tt, (tt, (ls'.0, tt))) (tt, (tt, (tt, tt))))))))))))))))))
    (λ st is e'.
    -- [the policy; the room; its token; the locals]
    lands_as ! (ap only e') refl (subst Good (ap only e') good) $
    first ! $ switches_on ! (get_tag ! (vrt ! refl (fld ! refl (stop !))) (whole !)) $ exec ! 𝓣.C 𝓣.Λ Ev (arm_body 1 arms) Then $
    sets ! (of_opd ! (get_in ! (vrt ! refl (fld ! refl (stop !))) (in_variant ! 1 0 refl refl (whole !)))) refl (tt, (subst Good (ap only e') good).1.1.0) $
    sets_last ! (of_opd ! (get ! refl)) refl (tt, (subst Good (ap only e') good).1.1.0) $
    exec ! 𝓣.C 𝓣.Λ Ev (after 4 fn.body) (at_ret Ev Post) $ sets ! (of_opd ! (get ! refl)) refl (tt, (subst Good (ap only e') good).1.1.0) $
    let failed : st ≡ 1 = subst Made is made in
    move ! (1 ∷ []) $ use1 𝓛 (later (‵ (left ((type_at (mut_ref_to {n = 1} (0 ∷ []) tt (plain (λ _. RawPtr))) κs).exit yes) room room.now))) (Goes-ref 𝓛 1 0 tt (plain (λ _. RawPtr)) κs room room.now (mut_vals room) tt) $ await ! tt $
    nothing ! $ move ! (1 ∷ 0 ∷ []) $ fjoin ! $ nothing ! $ fjoin ! $ nothing ! $ fjoin ! $ move ! (2 ∷ []) $
    -- [the token; what is said of the parameters; the policy; the locals]
    returns ! (look_at ! 0 refl) $ free_all ! refl $ owned ! u32 _ (uint_Makes 𝓛 w32) st _ (refl, (subst Good (ap only e') good).1.1.0.fits) $
    feq_i ! Ptr room.now room.now refl $ rewrite ! 0 (λ (m : ℕ). ‵ (handed m room.now room.now (Ok x))) (sym failed) refl $
    move ! (4 ∷ 0 ∷ []) $ join ! $
    keep ! (2 ∷ 3 ∷ 1 ∷ 0 ∷ []) $ by ! (leaves 𝓛 f.ended stayed c (y (block_ptr b o)) (vint w32 st) st (tt, (tt, (room.now, tt))) (tt, (tt, (tt, tt))))))))))))))
