-- `deallocate` makes room of the bytes, and hands the block back with the right to free it. Assumes `Logic`.
use Rattle.std.proofs.Common.{◌≡◌, ℕ, ◌+◌, ◌^◌, ◌<◌, List, [], ◌∷◌, length, refl, sym, ap, subst, w64, Global}
use Rattle.std.proofs.alloc.Calls.{Goes-blank}
use Rattle.std.proofs.raw_atomic.Walks.{proved}
use Rattle.std.proofs.VecSteps.Shapes.{after}
use Rattle.std.proofs.impls.GlobalAllocator.deallocate.Met.{met}
use Rattle.std.specs.contracts.alloc.Global as heap
use Rattle.std.specs.contracts.impls.GlobalAllocator.TheImpl.{ghosts}
use base.Logic.{id⊢}
use base.Fml.{ftrue, flft, froom}
use contract.Monad.{fact}
use contract.Running.{tables}
use denote.Builtin.{usize, RefOf}
use denote.Exit.{yes}
use denote.Plain.{uint_vals, uint_Tells}
use denote.RawPtr.{block_ptr, in_a_block, ptr_val}
use denote.Ref.{ShrRef, shr_vals, shr_Tells}
use denote.Signature.{plain}
use denote.Steps.{nothing, heard}
use denote.Triple.Call.{calls_at_last}
use denote.Triple.Table.{framed}
use denote.Triple.Walked.{Stays, walk_of, stay_dropped, Goes-dropped, ends_at}
use lib.Dec.{T}
use mir.Syntax.{named, ty_unit}
use mir.Val.{Val, vunit, has_ty, WT}
use types.ByLocal.{alloc_all, pass_all, free_all, look_at, get, get_in, sets, is, env, lands_last}
use types.Kit.{‵, raw, ◌⊛◌, later, given, learn, await, at_ret, ◌$◌, ◌∵◌, !, qed, done, move, keep, use1, use2, split, join, fsplit, feq_i, flt_l, rewrite, suffices, group}
use types.Part.{whole, sub}
use Rattle.std.proofs.RcSteps.{word-Good}
use types.Run.{enter, of_opd, lit, unit_lit, stop, fld, and_then, no_more, first, blocks, exec, returns}
use Rattle.fd_raw.specs.Ownership.{bytes_type, cells_own}
use Rattle.fd_raw.specs.contracts.cells.Cells.{the_row as R}
use Rattle.fd_raw.specs.contracts.cells.deallocate as f
use Rattle.fd_raw.proofs.Blocks.{Gives, at_gives, gives_goes, gives_back}
use Rattle.fd_raw.proofs.Memory.{freed}
use Rattle.fd_raw.proofs.cells.Cells.TheLaws.{lowers}
use Rattle.fd_raw.proofs.cells.deallocate.Statement.{statement}
use Rattle.fd_raw.proofs.cells.deallocate.Code as code

abbrev stayed : Stays f.ended.signature.params f.ended.kept
stayed = (stay_dropped (RefOf (0 ∷ []) tt (plain (λ _. heap.the_row)) (λ _. tt)) yes, (stay_dropped _ yes, (stay_dropped (plain (λ _. R)) yes, tt)))

pub deallocate_spec : {M : Type 1} → statement M
deallocate_spec 𝓤 𝓛 𝓜 𝓡 wired =
    let c = f.clauses 𝓛 𝓜.mem 𝓡.returns in let W = walk_of 𝓛 f.ended stayed c in let 𝓣 = tables 𝓤 𝓛.H 𝓜 𝓡 𝓡.env in
    proved 𝓛 f.ended stayed c 𝓜 𝓡 (
      Goes-dropped 𝓛 1 (RefOf (0 ∷ []) tt (plain (λ _. heap.the_row)) (λ _. tt)) yes (λ κs x w. refl),
      (
        Goes-dropped 𝓛 1 (plain (λ _. usize)) yes (λ κs x w. refl),
        (Goes-blank 𝓛 1 (plain (λ _. R)) yes (λ κs x w. tt), tt),
      ),
    )
    f.Key.name code.function (code.unfolded 𝓤 𝓛.H 𝓜 𝓡 wired)
    (λ κs. (shr_vals, (uint_vals w64, ((λ h. lowers.lowered h ∷ []), tt)))) (λ κs. (shr_Tells (named 0) κs.0 heap.the_row, (uint_Tells w64, (lowers.val_is, tt)))) (λ κs qs bounds a _ are.
    let κ = κs.0 in let q = qs.0 in let p = a.0.ref_ptr in let len = a.1.0 in let h = a.1.1.0 in let vs = lowers.lowered h ∷ [] in
    let y : W.Ghost = ((κs, qs, bounds, a, (shr_vals a.0, (uint_vals w64 len, (vs, tt)))), tt) in
    let Asked : Type 0 = (length h.bytes + h.room ≡ len) × (h.alloc ≡ a.0.now) in
    qed 𝓛 (((‵ (flft κ q) ⊛ ‵ ftrue) ⊛ ‵ ((ShrRef (named 0) κ heap.the_row).own_val a.0 (shr_vals a.0))
    ⊛ ‵ (usize.own_val len (uint_vals w64 len)) ⊛ ‵ (R.own_val h vs) ⊛ ‵ ftrue) ∷ raw (fact 𝓤 Asked) ∷ []) ∵
    move ! (1 ∷ []) $ heard ! Asked (λ asked. split ! $ split ! $ move ! (2 ∷ []) $ split ! $ move ! (1 ∷ []) $ split ! $ move ! (1 ∷ []) $ split ! $
    move ! (3 ∷ []) $ fsplit ! $ keep ! (2 ∷ 1 ∷ 5 ∷ []) $ fsplit ! $ keep ! (1 ∷ 2 ∷ 3 ∷ []) $
    -- [the block; the `&`; the token]
    enter ! _ _ _ _ _ $ alloc_all ! (λ l. pass_all ! refl ((tt, tt), ((tt, record { fits = are.1.0.1 }), (word-Good [] h.ptr, tt))) $
    in_a_block ! h.ptr (λ p. cells_own h.alloc p h.bytes h.room) (id⊢ 𝓤 _) (λ b o e. fsplit ! $ flt_l ! (λ small. fsplit ! $ move ! (1 ∷ []) $ fsplit ! $ move ! (2 ∷ 0 ∷ []) $
    use2 𝓛 (‵ (froom (bytes_type (length h.bytes + h.room)) b o)) (freed 𝓛 b h.bytes h.room o (length h.bytes + o) refl) $
    rewrite ! 0 (λ n. ‵ (froom (bytes_type n) b o)) asked.0 refl $
    rewrite ! 1 (λ (d : Global × ℕ). ‵ (ghosts.dealloc_token d.0 (bytes_type d.1) (block_ptr b o))) (λ i. (asked.1 i, asked.0 i)) refl $ group ! 4 $
    let G = Gives 𝓛 𝓜.mem 𝓡.returns in let z : G.Ghost = at_gives 𝓛 𝓜.mem 𝓡.returns κ q p a.0.now len b o in
    use1 𝓛 (raw (G.pre z)) (gives_goes 𝓛 𝓜.mem 𝓡.returns κ q p a.0.now len b o (subst (λ n. n < 2 ^ 63) asked.0 small)) $
    sets ! (is ! (of_opd ! (get_in ! (fld ! refl (stop !)) (sub ! 0 refl (whole !)))) (ap ptr_val e)) refl (tt, tt) $ first ! $ blocks ! $
    calls_at_last ! (framed 𝓤 𝓛.H 𝓜 𝓣) G (met 𝓤 𝓛 𝓜 𝓡 (code.calls-std::impls::GlobalAllocator::deallocate 𝓡.env wired)) z
    (and_then ! (get ! refl) (and_then ! (get ! refl) (and_then ! (get ! refl) (and_then ! (lit ! tt) (no_more !))))) (λ v.
    use1 𝓛 (later (given (v ≡ vunit) (‵ (flft κ q)))) (gives_back 𝓛 𝓜.mem 𝓡.returns κ q p a.0.now len b o v) $ await ! tt $ learn ! (λ is_unit.
    lands_last ! refl (subst (λ (u : Val). T (has_ty ty_unit u) × WT u) (sym is_unit) (tt, tt)) $
    exec ! 𝓣.C 𝓣.Λ (env code.Mir.locals l) (after 2 (code.function).body) (at_ret _ (W.post y)) $
    sets ! (of_opd ! (unit_lit !)) refl (tt, tt) $ returns ! (look_at ! 0 refl) $ free_all ! refl $ keep ! (0 ∷ []) $
    suffices ! _ (ends_at 𝓛 f.ended stayed c y vunit tt (tt, (tt, (tt, tt))) (tt, (tt, (tt, tt)))) $
    nothing ! $ move ! (1 ∷ 0 ∷ []) $ join ! $ feq_i ! (List Val) (vunit ∷ []) (vunit ∷ []) refl $
    nothing ! $ nothing ! $ join ! $ nothing ! $ join ! $ nothing ! $ join ! $ join ! $ move ! (1 ∷ 0 ∷ []) $ join ! $ nothing ! $ move ! (1 ∷ 0 ∷ []) $ done !)))))))
