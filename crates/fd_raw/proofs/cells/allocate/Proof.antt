-- `allocate` takes a block, all of it room, and keeps the right to free it. Assumes `Logic`.
use Rattle.std.proofs.Common.{◌≡◌, ◌+◌, ◌^◌, ◌<◌, List, [], ◌∷◌, refl, sym, subst, w64, lit<, IfOk, Ok, Err, zero-add}
use Rattle.std.proofs.alloc.Calls.{Answer-typed, Answered, answers}
use Rattle.std.proofs.alloc.Shapes.{head, arm_body}
use Rattle.std.proofs.raw_atomic.Walks.{proved}
use Rattle.std.proofs.RcSteps.{word, word-Good, first_Good}
use Rattle.std.proofs.ResultValues.{ok_of, err_of}
use Rattle.std.proofs.VecSteps.Shapes.{after}
use Rattle.std.proofs.impls.GlobalAllocator.allocate.Met.{met}
use Rattle.std.specs.contracts.alloc.Global as heap
use Rattle.std.specs.contracts.alloc.AllocError as AE
use Rattle.std.specs.contracts.impls.GlobalAllocator.TheImpl.{ghosts}
use Rattle.std.specs.contracts.result.Result as RS
use base.Fml.{ftrue, flft, froom}
use contract.Monad.{fact}
use contract.Running.{tables}
use denote.Builtin.{usize, RefOf}
use denote.Exit.{yes}
use denote.Laws.{Is}
use denote.Param.{layout}
use denote.Plain.{uint_vals, uint_Tells}
use denote.RattleType.{RattleType, Valss}
use denote.RawPtr.{Ptr, RawPtr, block_ptr, ptr_val}
use denote.Ref.{ShrRef, shr_vals, shr_Tells}
use denote.Signature.{plain}
use denote.Steps.{nothing, owned, heard}
use denote.Struct.Declared as Declared
use denote.Struct.Owning.{shape}
use denote.Struct.Struct.{Struct, Struct-Makes, within}
use denote.Triple.Call.{calls_at}
use denote.Triple.Table.{framed}
use denote.Triple.Walked.{Stays, walk_of, says, stay_dropped, Goes-dropped, ends_at}
use mathlib.Core.Bool.{true, false}
use mir.Syntax.{Body, named}
use mir.Val.{Val, vstruct, vcons, vnil}
use prog.Wp.{Wp, after_seq, at_return}
use types.ByLocal.{alloc_all, pass_all, free_all, look_at, get, get_in, get_tag, sets, sets_last, lands_as, env}
use types.Kit.{Post as After, any_q, Sq, prop, ‵, raw, ◌⊛◌, later, await, at_ret, ◌$◌, ◌∵◌, !, qed}
use types.Kit.{done, move, keep, use1, use2, split, join, fsplit, fjoin, fpack, feq_i, flt_i, rewrite, suffices, frame}
use types.Match.{live, vrt, in_variant}
use types.Part.{whole, agg}
use types.Run.{enter, of_opd, lit, stop, fld, and_then, no_more, first, exec, switches_on, returns}
use Rattle.fd_raw.specs.Ownership.{bytes_type}
use Rattle.fd_raw.specs.declared.cells.Cells.{Cells}
use Rattle.fd_raw.specs.contracts.cells.Cells.{the_row as R, the_type}
use Rattle.fd_raw.specs.contracts.cells.allocate as f
use Rattle.fd_raw.proofs.Blocks.{Z, Takes, at_takes, takes_goes, takes_back}
use Rattle.fd_raw.proofs.cells.allocate.Statement.{statement}
use Rattle.fd_raw.proofs.cells.allocate.Code as code

abbrev Out : RattleType
Out = RS.the_row R AE.the_row

abbrev stayed : Stays f.ended.signature.params f.ended.kept
stayed = (stay_dropped (RefOf (0 ∷ []) tt (plain (λ _. heap.the_row)) (λ _. tt)) yes, (stay_dropped _ yes, tt))

pub allocate_spec : {M : Type 1} → statement M
allocate_spec 𝓤 𝓛 𝓜 𝓡 wired =
    let c = f.clauses 𝓛 𝓜.mem 𝓡.returns in let W = walk_of 𝓛 f.ended stayed c in let 𝓣 = tables 𝓤 𝓛.H 𝓜 𝓡 𝓡.env in
    proved 𝓛 f.ended stayed c 𝓜 𝓡
    (Goes-dropped 𝓛 1 (RefOf (0 ∷ []) tt (plain (λ _. heap.the_row)) (λ _. tt)) yes (λ κs x w. refl), (Goes-dropped 𝓛 1 (plain (λ _. usize)) yes (λ κs x w. refl), tt))
    f.Key.name code.function (code.unfolded 𝓤 𝓛.H 𝓜 𝓡 wired)
    (λ κs. (shr_vals, (uint_vals w64, tt))) (λ κs. (shr_Tells (named 0) κs.0 heap.the_row, (uint_Tells w64, tt))) (λ κs qs bounds a _ are.
    let κ = κs.0 in let q = qs.0 in let p = a.0.ref_ptr in let len = a.1.0 in
    let y : W.Ghost = ((κs, qs, bounds, a, (shr_vals a.0, (uint_vals w64 len, tt))), tt) in
    let Asked : Type 0 = len < 2 ^ 63 in
    let out : (r : Out.Denot) (v : Val) → IfOk r (λ h. (h.bytes ≡ []) × (h.room ≡ len) × (h.alloc ≡ a.0.now))
    → Sq 𝓛 (‵ (Out.own_val r (v ∷ [])) ∷ ‵ (flft κ q) ∷ []) (prop (W.post y v)) = λ r v gives.
    suffices ! _ (ends_at 𝓛 f.ended stayed c y v r (tt, (tt, tt)) (tt, (tt, tt))) $ says ! gives $
    nothing ! $ nothing ! $ join ! $ nothing ! $ join ! $ join ! $ nothing ! $ move ! (2 ∷ 0 ∷ []) $ join ! $ frame ! $ done ! in
    qed 𝓛 (((‵ (flft κ q) ⊛ ‵ ftrue) ⊛ ‵ ((ShrRef (named 0) κ heap.the_row).own_val a.0 (shr_vals a.0)) ⊛ ‵ (usize.own_val len (uint_vals w64 len)) ⊛ ‵ ftrue) ∷ raw (fact 𝓤 Asked) ∷ []) ∵
    move ! (1 ∷ []) $ heard ! Asked (λ small. split ! $ split ! $ move ! (2 ∷ []) $ split ! $ fsplit ! $ keep ! (1 ∷ 3 ∷ []) $
    -- [the `&`; the token]
    enter ! _ _ _ _ _ $ alloc_all ! (λ l. pass_all ! refl ((tt, tt), ((tt, record { fits = are.1.0.1 }), tt)) $
    let En = env code.Mir.locals l in let arms : Body = head (after 1 (code.function).body) in
    let Then : After 𝓤 𝓛.H = any_q (after_seq 𝓤 𝓛.H (Wp 𝓤 𝓛.H 𝓣.C 𝓣.Λ En (after 2 (code.function).body) (at_return 𝓤 𝓛.H En (W.post y))) (at_return 𝓤 𝓛.H En (W.post y))) in
    let G = Takes 𝓛 𝓜.mem 𝓡.returns in let z : G.Ghost = at_takes 𝓛 𝓜.mem 𝓡.returns κ q p a.0.now len in
    use2 𝓛 (raw (G.pre z)) (takes_goes 𝓛 𝓜.mem 𝓡.returns κ q p a.0.now len small) $
    calls_at ! (framed 𝓤 𝓛.H 𝓜 𝓣) G (met 𝓤 𝓛 𝓜 𝓡 (code.calls-std::impls::GlobalAllocator::allocate 𝓡.env wired)) z
    (and_then ! (get ! refl) (and_then ! (get ! refl) (and_then ! (lit ! tt) (no_more !)))) (λ v.
    use1 𝓛 (later (raw (Answered Z 𝓛 𝓜.mem 𝓡.returns a.0.now (bytes_type len) v) ⊛ ‵ (flft κ q))) (takes_back 𝓛 𝓜.mem 𝓡.returns κ q p a.0.now len v) $ await ! tt $ split ! $
    answers Z ! 𝓜.mem 𝓡.returns a.0.now (bytes_type len) v
    (λ b o e.
    let at : Ptr = block_ptr b o in let h : Cells = record { ptr = at; bytes = []; room = len; alloc = a.0.now } in let made : Val = word at in
    let ok = first_Good (layout R) made (word-Good [] at) in
    lands_as ! e refl (Answer-typed true b o) $ first ! $ switches_on ! (get_tag ! (vrt ! refl (fld ! refl (stop !))) (whole !)) $ exec ! 𝓣.C 𝓣.Λ En (arm_body 0 arms) Then $
    sets ! (of_opd ! (get_in ! (vrt ! refl (fld ! refl (stop !))) (in_variant ! 0 0 refl refl (whole !)))) refl (tt, tt) $
    sets ! (agg ! (and_then ! (get ! refl) (no_more !))) refl (word-Good [] at) $
    sets_last ! (agg ! (and_then ! (lit ! tt) (and_then ! (get ! refl) (no_more !)))) refl ok $
    exec ! 𝓣.C 𝓣.Λ En (after 2 (code.function).body) (at_ret En (W.post y)) $ sets ! (of_opd ! (get ! refl)) refl ok $
    -- [the room; the right to free; the token]
    rewrite ! 0 (λ k. ‵ (froom (bytes_type len) b k)) (sym (zero-add o)) refl $ rewrite ! 1 (λ n. ‵ (ghosts.dealloc_token a.0.now (bytes_type n) at)) (sym (zero-add len)) refl $
    fjoin ! $ nothing ! $ fjoin ! $ flt_i ! (0 + len) (2 ^ 63) (subst (λ n. n < 2 ^ 63) (sym (zero-add len)) small) $ fjoin ! $
    nothing ! $ feq_i ! (List Val) (ptr_val at ∷ []) (ptr_val at ∷ []) refl $ fjoin ! $ feq_i ! (List Val) (made ∷ []) (made ∷ []) refl $ fjoin ! $
    fpack ! (Valss (RawPtr ∷ [])) (within (shape the_type) (at, tt) (made ∷ [])) (ptr_val at ∷ [], tt) $ fjoin ! $
    use1 𝓛 (‵ (Out.own_val (Ok h) (live 0 (vcons made vnil) ∷ []))) (ok_of 𝓛 R AE.the_row h made) $
    returns ! (look_at ! 0 refl) $ free_all ! refl $ keep ! (0 ∷ 1 ∷ []) $ out (Ok h) (live 0 (vcons made vnil)) (refl, refl, refl))
    (λ e.
    let Refusal : RattleType = Struct (Declared.shape AE.the_type) in let none : Val = live 1 (vcons (vstruct vnil) vnil) in
    lands_as ! e refl (Answer-typed false 0 0) $ first ! $ switches_on ! (get_tag ! (vrt ! refl (fld ! refl (stop !))) (whole !)) $ exec ! 𝓣.C 𝓣.Λ En (arm_body 1 arms) Then $
    sets ! (of_opd ! (get_in ! (vrt ! refl (fld ! refl (stop !))) (in_variant ! 1 0 refl refl (whole !)))) refl (tt, tt) $
    sets_last ! (agg ! (and_then ! (lit ! tt) (and_then ! (get ! refl) (no_more !)))) refl (tt, (record { fits = lit< tt }, (tt, tt))) $
    exec ! 𝓣.C 𝓣.Λ En (after 2 (code.function).body) (at_ret En (W.post y)) $ sets ! (of_opd ! (get ! refl)) refl (tt, (record { fits = lit< tt }, (tt, tt))) $
    owned ! Refusal (Is Refusal) (Struct-Makes 𝓛 (Declared.shape AE.the_type) tt) tt (vstruct vnil ∷ []) (tt, (refl, tt)) $
    use1 𝓛 (‵ (Out.own_val (Err (record {})) (none ∷ []))) (err_of 𝓛 R AE.the_row (record {}) (vstruct vnil)) $
    returns ! (look_at ! 0 refl) $ free_all ! refl $ keep ! (0 ∷ 1 ∷ []) $ out (Err (record {})) none tt)))))
