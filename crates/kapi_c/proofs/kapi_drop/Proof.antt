-- The box is made again, and dropped.
use Rattle.std.proofs.Common.{◌≡◌, List, [], ◌∷◌, refl, ap}
use Rattle.std.proofs.raw_atomic.Walks.{proved, leaves}
use base.Logic.{emp, id⊢}
use base.Fml.{ftrue, flft}
use base.Fraction.{full_share}
use contract.BorrowLft.{◌⊑◌}
use types.Tokens.{lft_new}
use mir.Val.{Val, vunit}
use contract.Monad.{fact, fact_i}
use contract.Running.{tables}
use types.Kit.{‵, raw, ◌⊛◌, some, later, ◌$◌, ◌∵◌, !, qed, by, move, keep, drop, use0, use1, split, join, fjoin, feq_i, feq_l, pick, await}
use types.Run.{enter, of_opd, unit_lit, no_more, and_then, returns}
use types.ByLocal.{alloc_all, pass_all, free_all, look_at, get, sets, lands_as}
use denote.Laws.{Is, shows}
use denote.RattleType.{owns}
use denote.RawPtr.{rawptr_vals, rawptr_Tells, rawptr_Lawful}
use denote.Param.NoDrop as nothing_dropped
use denote.Signature.{Signature, types_at}
use denote.Steps.{nothing, only, peeks}
use denote.Struct.Laws as struct_laws
use denote.Triple.Call.{calls_at}
use denote.Triple.Clauses.{Lasts, lasts}
use denote.Triple.Entry.{alive}
use denote.Triple.Spec.{triple_of}
use denote.Triple.Table.{framed}
use denote.Triple.Walked.{Stays, walk_of}
use Rattle.std.specs.contracts.alloc.Global as heap
use Rattle.std.proofs.alloc.Global.TheLaws as heap_laws
use Rattle.std.specs.contracts.impls.GlobalAllocator.TheImpl as allocator
use Rattle.std.proofs.impls.GlobalAllocator.TheImpl.Met as allocator_met
use Rattle.std.specs.contracts.boxed.Box as box
use Rattle.std.proofs.boxed.Box.TheLaws as box_laws
use Rattle.std.specs.contracts.boxed.Box.from_raw as g
use Rattle.std.proofs.boxed.Box.from_raw.Met as g_met
use Rattle.kapi_c_requests.specs.contracts.shared.Shared as engine
use Rattle.kapi_c_requests.proofs.shared.Shared.TheLaws as engine_laws
use Rattle.kapi_c.specs.Handles.{holds_at}
use Rattle.kapi_c.proofs.Rows.{E, Z, E_laws, Z_laws, no_drop}
use Rattle.kapi_c.proofs.Passed.{passed, passed_go}
use Rattle.kapi_c.specs.contracts.loading.let_go as h
use Rattle.kapi_c.proofs.loading.let_go.Met as h_met
use Rattle.kapi_c.specs.contracts.kapi_drop as f
use Rattle.kapi_c.proofs.kapi_drop.Statement.{statement}
use Rattle.kapi_c.proofs.kapi_drop.Code as code
use Rattle.kapi_c.proofs.Destruct++none.drop.Code as destruct
use denote.Builtin.{unit}

abbrev P : Signature
P = f.signature

abbrev stayed : Stays P.params f.ended.kept
stayed = passed P.params f.ended.kept

pub kapi_drop_spec : {M : Type 1} → statement M
unfolding destruct.code
kapi_drop_spec {M = M} 𝓤 𝓛 𝓜 𝓡 wired =
    let c = f.clauses 𝓛 𝓜.mem 𝓡.returns in let W = walk_of 𝓛 f.ended stayed c in let 𝓣 = tables 𝓤 𝓛.H 𝓜 𝓡 𝓡.env in
    proved 𝓛 f.ended stayed c 𝓜 𝓡 (passed_go 𝓛 0 P.params f.ended.kept)
    f.Key.name code.function (code.unfolded 𝓤 𝓛.H 𝓜 𝓡 wired)
    (λ κs. ((λ x. struct_laws.val heap.the_type heap_laws.the_laws x ∷ []), (rawptr_vals, tt)))
    (λ κs. (struct_laws.tells heap.the_type heap_laws.the_laws, (rawptr_Tells, tt)))
    (λ κs qs bounds a x are.
    let gv = struct_laws.val heap.the_type heap_laws.the_laws a.0 in
    let y : W.Ghost = ((κs, qs, bounds, a, (gv ∷ [], (rawptr_vals a.1.0, tt))), x) in
    let G = triple_of 𝓛 (g.signature E Z allocator.ghosts allocator.dict no_drop) (g.spec E Z allocator.ghosts allocator.dict no_drop 𝓛 𝓜.mem 𝓡.returns) in
    qed 𝓛 ((raw (alive 𝓛 P κs qs) ⊛ ‵ (owns (types_at P.params κs) a (gv ∷ [], (rawptr_vals a.1.0, tt)))) ∷ ‵ (holds_at a.1.0 x) ∷ []) ∵
    split ! $
    enter ! 𝓣.C 𝓣.Λ code.function (gv ∷ rawptr_vals a.1.0) _ $ alloc_all ! (λ l.
    pass_all ! refl ((tt, ((tt, tt), tt)), ((rawptr_Lawful 𝓛).typed a.1.0 _ refl)) $
    sets ! (of_opd ! (get ! refl)) refl (((rawptr_Lawful 𝓛).typed a.1.0 _ refl).0) $
    -- [the tokens; what the parameters own; the handle; the locals]
    lft_new ! tt (λ α. lft_new ! tt (λ β.
    let within = (α ∷ []) ⊑ E.lives in let within' = (β ∷ []) ⊑ Z.lives in
    let B = box.the_row engine.the_row heap.the_row allocator.ghosts in
    let z : G.Ghost = (((α ∷ [], (β ∷ [], tt)), (full_share, (full_share, tt)), tt, a, (gv ∷ [], (rawptr_vals a.1.0, tt))), x) in
    let toks = ‵ (flft (α ∷ []) full_share) ⊛ ‵ (flft (β ∷ []) full_share) ⊛ ‵ ftrue in
    -- [the two tokens; the function's own; what the parameters own; the handle; the locals]
    use0 𝓛 (raw (fact 𝓤 within')) (fact_i 𝓤 within' (emp 𝓤) (heap_laws.the_within (β ∷ []))) $ move ! (0 ∷ 5 ∷ []) $ join ! $
    use0 𝓛 (raw (fact 𝓤 within)) (fact_i 𝓤 within (emp 𝓤) (engine_laws.the_within (α ∷ []))) $ join ! $
    nothing ! $ move ! (2 ∷ 0 ∷ []) $ join ! $ move ! (2 ∷ 0 ∷ []) $ join ! $ move ! (0 ∷ 3 ∷ []) $ join ! $ join ! $
    use1 𝓛 (raw (G.pre z)) (id⊢ 𝓤 _) $
    calls_at ! (framed 𝓤 𝓛.H 𝓜 𝓣) G (g_met.met 𝓤 𝓛 𝓜 𝓡 (code.calls-std::boxed::Box::from_raw 𝓡.env wired) E Z E_laws Z_laws allocator.ghosts allocator.dict no_drop
    (allocator_met.passed 𝓡.env (code.calls-std_heap::GlobalAllocator::allocate 𝓡.env wired) (code.calls-std_heap::GlobalAllocator::deallocate 𝓡.env wired) (code.calls-std_heap::GlobalAllocator::grow 𝓡.env wired) (code.calls-std_heap::GlobalAllocator::shrink 𝓡.env wired) M 𝓤 𝓛 𝓜 𝓡)
    (nothing_dropped.glues "kapi_c::Destruct++none::drop" 𝓡.env (code.calls-kapi_c::Destruct++none::drop 𝓡.env wired) Z Z_laws M 𝓤 𝓛 𝓜 𝓡)) z
    (and_then ! (get ! refl) (and_then ! (get ! refl) (no_more !))) (λ v.
    use1 𝓛 (later (some (λ (r : B.Denot). (toks ⊛ ‵ (B.own_val r (v ∷ []))) ⊛ some (λ (ws : Lasts (g.ended E Z allocator.ghosts allocator.dict no_drop) z.0.0 z.0.3). ‵ (lasts (g.ended E Z allocator.ghosts allocator.dict no_drop) z.0.0 z.0.3 ws) ⊛ (raw (fact 𝓤 (r.value ≡ x)) ⊛ raw (fact 𝓤 (r.alloc ≡ a.0))))))) (id⊢ 𝓤 (G.post z v)) $
    await ! tt $ pick ! (λ r. split ! $ split ! $ drop ! $ move ! (0 ∷ 2 ∷ []) $
    -- [the box; the tokens; what is said of it; the locals]
    peeks ! B (Is B) (shows 𝓛 B) r (v ∷ []) (λ it. lands_as ! refl refl (((box_laws.the_row_laws engine.the_row heap.the_row allocator.ghosts engine_laws.the_row_laws heap_laws.the_row_laws).lawful 𝓛).typed r _ it).0 $
    let D = triple_of 𝓛 h.signature (h.spec 𝓛 𝓜.mem 𝓡.returns) in
    let z' : D.Ghost = ((κs, qs, bounds, (r, tt), (v ∷ [], tt)), tt) in
    nothing ! $ move ! (1 ∷ 0 ∷ []) $ fjoin ! $ move ! (1 ∷ 0 ∷ []) $ join ! $ nothing ! $ move ! (1 ∷ 0 ∷ []) $ join ! $
    use1 𝓛 (raw (D.pre z')) (id⊢ 𝓤 _) $
    calls_at ! (framed 𝓤 𝓛.H 𝓜 𝓣) D (h_met.met 𝓤 𝓛 𝓜 𝓡 (code.calls-kapi_c::loading::let_go 𝓡.env wired)) z' (and_then ! (get ! refl) (no_more !)) (λ w.
    use1 𝓛 (later (some (λ (u : Unit {0}). (raw (alive 𝓛 P κs qs) ⊛ ‵ (unit.own_val u (w ∷ []))) ⊛ some (λ (ws : Lasts h.ended z'.0.0 z'.0.3). ‵ (lasts h.ended z'.0.0 z'.0.3 ws) ⊛ ‵ ftrue)))) (id⊢ 𝓤 (D.post z' w)) $
    await ! tt $ pick ! (λ u. split ! $ split ! $ move ! (1 ∷ []) $ feq_l ! (λ is_unit. lands_as ! (ap only is_unit) refl (tt, tt) $
    sets ! (of_opd ! (unit_lit !)) refl (tt, tt) $ returns ! (look_at ! 0 refl) $ free_all ! refl $
    nothing ! $ nothing ! $ fjoin ! $ nothing ! $ fjoin ! $ feq_i ! (List Val) (vunit ∷ []) (vunit ∷ []) refl $ nothing ! $ keep ! (3 ∷ 2 ∷ 1 ∷ 0 ∷ []) $
    by ! (leaves 𝓛 f.ended stayed c y vunit tt (tt, (tt, tt)) (tt, (tt, tt)))))))))))))
