-- The engine is lent for the call, and the caller has it back.
use denote.Ref.{Bor}
use Rattle.std.proofs.Common.{ℕ, List, [], ◌∷◌, ◌++◌, refl, w32}
use Rattle.std.proofs.raw_atomic.Walks.{proved, leaves}
use base.Fraction.{full_share}
use base.Logic.{emp, fst∗, id⊢, never}
use base.Fml.{Lft, Incl-refl, flft, flent}
use mir.Syntax.{named}
use mir.Val.{Val, vptr}
use contract.Monad.{fact, fact_i}
use contract.Running.{tables}
use prog.Wp.{WpFn}
use types.Logic.{sem}
use types.Kit.{‵, raw, ◌⊛◌, some, later, prop, ◌$◌, ◌∵◌, !, qed, by, move, keep, drop, use0, use1, use2, split, join, fsplit, fjoin, pick, await, regoal}
use types.Tokens.{lft_new, lft_end, lent_back}
use types.Run.{enter, of_opd, addr, stop, from, fld, hop, no_more, and_then, returns}
use types.Part.{agg, sub, whole}
use types.ByLocal.{alloc_all, pass_all, free_all, look_at, look_in_at, get, get_in, through, sets, lands_as}
use denote.Builtin.{u8, u32}
use denote.Lend.{lends_shr}
use denote.Memory.{lone, part_at}
use mir.Raw.{raw as bare}
use Rattle.libc.specs.Heap.{chunk}
use Rattle.kapi_c.specs.Handles.{holds_at}
use denote.Laws.{Is, shows}
use denote.Plain.{uint_Lawful}
use denote.RattleType.{owns}
use denote.RawPtr.{Ptr, block_ptr, null_ptr, in_a_block, rawptr_vals, rawptr_Tells}
use denote.Ref.{ShrRef, shr_vals, shr_Tells, mut_vals, mut_Tells}
use denote.Slice.{mut_slice_vals, mut_slice_Tells}
use denote.Signature.{Signature, named_lft, types_at}
use denote.Steps.{nothing, heard, peeks}
use denote.Struct.Laws as struct_laws
use denote.Triple.Call.{calls_at}
use denote.Triple.Clauses.{Lasts, lasts, at_exit}
use denote.Triple.Entry.{alive}
use denote.Triple.Spec.{triple_of}
use denote.Triple.Walked.{Stays, walk_of}
use denote.Triple.Table.{framed}
use Rattle.std.specs.contracts.alloc.Global as heap
use Rattle.std.proofs.alloc.Global.TheLaws as heap_laws
use Rattle.kapi_c_requests.specs.contracts.Answer as answer
use Rattle.kapi_c_requests.specs.contracts.Call as call
use Rattle.kapi_c_requests.specs.contracts.shared.Shared as engine
use Rattle.kapi_c_requests.proofs.shared.Shared.TheLaws as engine_laws
use Rattle.kapi_c_requests.specs.Answers.{IsAnswered}
use Rattle.kapi_c.proofs.Passed.{passed, passed_go}
use Rattle.kapi_c_requests.specs.contracts.answer_shared as g
use Rattle.kapi_c_requests.proofs.answer_shared.Met.{met}
use Rattle.kapi_c.specs.contracts.kapi_ask as f
use Rattle.kapi_c.proofs.kapi_ask.Statement.{statement}
use Rattle.kapi_c.proofs.kapi_ask.Code as code

abbrev P : Signature
P = f.signature

abbrev stayed : Stays P.params f.ended.kept
stayed = passed P.params f.ended.kept

pub kapi_ask_spec : {M : Type 1} → statement M
kapi_ask_spec 𝓤 𝓛 𝓜 𝓡 wired =
    let c = f.clauses 𝓛 𝓜.mem 𝓡.returns in let W = walk_of 𝓛 f.ended stayed c in let 𝓣 = tables 𝓤 𝓛.H 𝓜 𝓡 𝓡.env in
    let E = engine.the_row in
    proved 𝓛 f.ended stayed c 𝓜 𝓡 (passed_go 𝓛 4 P.params f.ended.kept)
    f.Key.name code.function (code.unfolded 𝓤 𝓛.H 𝓜 𝓡 wired)
    (λ κs. ((λ x. struct_laws.val heap.the_type heap_laws.the_laws x ∷ []), (rawptr_vals, (shr_vals, (mut_vals, (mut_slice_vals, tt))))))
    (λ κs. (struct_laws.tells heap.the_type heap_laws.the_laws, (rawptr_Tells, (shr_Tells (named 0) κs.0 (call.the_row (named_lft 4 1 tt κs)), (mut_Tells (named 2) κs.1.1.0 answer.the_row, (mut_slice_Tells (named 3) κs.1.1.1.0 u8, tt))))))
    (λ κs qs bounds a x are.
    let gv = struct_laws.val heap.the_type heap_laws.the_laws a.0 in
    let rest : List Val × (List Val × (List Val × Unit {0})) = (shr_vals a.1.1.0, (mut_vals a.1.1.1.0, (mut_slice_vals a.1.1.1.1.0, tt))) in
    let vs : Ptr → List Val = λ p. gv ∷ (rawptr_vals p ++ (shr_vals a.1.1.0 ++ (mut_vals a.1.1.1.0 ++ (mut_slice_vals a.1.1.1.1.0 ++ [])))) in
    let y : Ptr → W.Ghost = λ p. ((κs, qs, bounds, (a.0, (p, a.1.1)), (gv ∷ [], (rawptr_vals p, rest))), x) in
    qed 𝓛 ((raw (alive 𝓛 P κs qs) ⊛ ‵ (owns (types_at P.params κs) a (gv ∷ [], (rawptr_vals a.1.0, rest)))) ∷ ‵ (holds_at a.1.0 x) ∷ []) ∵
    move ! (1 ∷ []) $ in_a_block ! a.1.0 (λ p. holds_at p x) (fst∗ 𝓤 (never 𝓤) (sem 𝓛 (chunk (bare (lone E.mir)) null_ptr))) (λ b o e.
    regoal ! (λ p. prop (WpFn 𝓤 𝓛.H 𝓣.C 𝓣.Λ code.function (vs p) (W.post (y p)))) e refl $
    fsplit ! $ move ! (2 ∷ []) $ split ! $ move ! (1 ∷ []) $ fsplit ! $ move ! (1 ∷ []) $ fsplit ! $ drop ! $
    -- [what the others own; the allocator; the tokens; the engine; the right to free it]
    enter ! 𝓣.C 𝓣.Λ code.function (vs (block_ptr b o)) _ $ alloc_all ! (λ l.
    pass_all ! refl ((tt, ((tt, tt), tt)), ((tt, tt), ((tt, tt), ((tt, tt), ((tt, (tt, (record { fits = are.1.1.1.1.0.0.1.0 }, tt))), tt))))) $
    sets ! (of_opd ! (get ! refl)) refl (tt, tt) $
    sets ! (addr ! (through ! refl (stop !))) refl (tt, tt) $
    sets ! (addr ! (through ! refl (stop !))) refl (tt, tt) $
    sets ! (addr ! (from ! (fld ! refl (hop ! (look_in_at ! 5 (sub ! 0 refl (whole !))) (stop !))))) refl (tt, tt) $
    sets ! (agg ! (and_then ! (get ! refl) (and_then ! (get_in ! (fld ! refl (stop !)) (sub ! 1 refl (whole !))) (no_more !)))) refl (tt, (tt, (record { fits = are.1.1.1.1.0.0.1.0 }, tt))) $
    lft_new ! tt (λ α. let κ : Lft = α ∷ [] in move ! (4 ∷ 0 ∷ []) $
    use2 𝓛 (later ((‵ ((ShrRef (named 0) κ E).own_val (record { ref_ptr = (b, o); now = x }) (vptr b o ∷ [])) ⊛ ‵ (flent κ (part_at E full_share x b o))) ⊛ ‵ (flft κ full_share)))
    (lends_shr 𝓛 E (named 0) κ full_share x b o E.lives (engine_laws.the_row_laws.shares 𝓛 x) ((κ, full_share) ∷ []) (engine_laws.the_within κ) (Incl-refl κ)) $ await ! tt $ split ! $ split ! $
    -- [the engine, lent; the right to it; its token; what the others own; the allocator; the tokens; the right to free it; the locals]
    let s : Bor E.Denot = record { ref_ptr = (b, o); now = x } in
    let G = triple_of 𝓛 g.signature (g.spec 𝓛 𝓜.mem 𝓡.returns) in
    let is_answered : ℕ → Lasts g.ended (κ, κs) (a.0, (s, a.1.1)) → Type 0 = λ r ws. IsAnswered x a.1.1.0.now a.1.1.1.0.now ws.1.1.1.0 a.1.1.1.1.0.now ws.1.1.1.1.0 r in
    let z : G.Ghost = (((κ, κs), (full_share, qs), bounds, (a.0, (s, a.1.1)), (gv ∷ [], (vptr b o ∷ [], rest))), tt) in
    move ! (0 ∷ 3 ∷ []) $ fjoin ! $ move ! (3 ∷ 0 ∷ []) $ fjoin ! $ move ! (2 ∷ 3 ∷ []) $ join ! $ join ! $ nothing ! $ move ! (1 ∷ 0 ∷ []) $ join ! $
    use1 𝓛 (raw (G.pre z)) (id⊢ 𝓤 _) $
    calls_at ! (framed 𝓤 𝓛.H 𝓜 𝓣) G (met 𝓤 𝓛 𝓜 𝓡 (code.calls-kapi_c_requests::answer_shared 𝓡.env wired)) z
    (and_then ! (get ! refl) (and_then ! (get ! refl) (and_then ! (get ! refl) (and_then ! (get ! refl) (and_then ! (get ! refl) (no_more !)))))) (λ v.
    use1 𝓛 (later (some (λ (r : ℕ). ((‵ (flft κ full_share) ⊛ raw (alive 𝓛 P κs qs)) ⊛ ‵ (u32.own_val r (v ∷ []))) ⊛
    some (λ (ws : Lasts g.ended z.0.0 z.0.3). ‵ (lasts g.ended z.0.0 z.0.3 ws) ⊛ raw ((g.clauses 𝓛 𝓜.mem 𝓡.returns z.0.0 z.0.3).ensures tt r (at_exit g.ended z.0.0 z.0.3 ws)))))) (id⊢ 𝓤 _) $
    await ! tt $ pick ! (λ r. split ! $ split ! $ split ! $
    -- [the token; the tokens; the result; the clauses; the right to the engine; the locals]
    lft_end ! tt $ move ! (0 ∷ 4 ∷ []) $ lent_back ! tt $
    -- [the engine; the tokens; the result; the clauses; the locals]
    move ! (3 ∷ []) $ pick ! (λ ws. split ! $ move ! (1 ∷ []) $
    use1 𝓛 (raw (fact 𝓤 (is_answered r ws))) (id⊢ 𝓤 _) $ heard ! _ (λ so.
    -- [what is said of the parameters; the engine; the tokens; the result; the locals]
    move ! (3 ∷ []) $ peeks ! u32 (Is u32) (shows 𝓛 u32) r (v ∷ []) (λ it. lands_as ! refl refl ((uint_Lawful 𝓛 w32).typed r _ it).0 $
    returns ! (look_at ! 0 refl) $ free_all ! refl $ use0 𝓛 (raw (fact 𝓤 (is_answered r ws))) (fact_i 𝓤 (is_answered r ws) (emp 𝓤) so) $
    move ! (3 ∷ 5 ∷ []) $ fjoin ! $ join ! $ keep ! (3 ∷ 2 ∷ 1 ∷ 0 ∷ []) $
    by ! (leaves 𝓛 f.ended stayed c (y (block_ptr b o)) v r ws (tt, (tt, (tt, (tt, (tt, tt)))))))))))))))
