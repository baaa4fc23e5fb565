-- `bytes` lends the bytes to be read. Assumes `Logic`.
use Rattle.std.proofs.Common.{◌≡◌, ℕ, ◌+◌, ◌*◌, ◌^◌, ◌<◌, List, [], ◌∷◌, length, refl, ap, w64, arith}
use Rattle.std.proofs.raw_atomic.Walks.{proved}
use Rattle.std.proofs.VecSteps.Shapes.{after}
use Rattle.std.proofs.Words.{pointer_in, pointer_out}
use base.Logic.{never, id⊢}
use base.Fml.{ftrue, flft}
use contract.Monad.{fact}
use contract.Running.{tables}
use denote.Builtin.{usize, RefOf}
use denote.Exit.{yes}
use denote.Memory.{hidden_shr}
use denote.Opens.{shr_dup, unhide, hide}
use denote.Plain.{uint_vals, uint_Tells}
use denote.RawPtr.{Ptr, RawPtr, block_ptr, in_a_block, ptr_row_laws}
use denote.Ref.{Bor, ShrRef, shr_vals, shr_Tells}
use denote.Signature.{plain}
use denote.Slice.{slice_val}
use denote.Steps.{nothing, heard}
use denote.Triple.Walked.{Stays, walk_of, says, stay_dropped, Goes-dropped, ends_at}
use mir.Syntax.{named}
use mir.Val.{Val}
use types.ByLocal.{alloc_all, pass_all, free_all, look_at, get, through, sets, sets_last, is, env}
use types.Kit.{‵, raw, ◌⊛◌, at_ret, ◌$◌, ◌∵◌, !, qed, done, move, keep, split, join, fsplit, fjoin, feq_i, flt_l, flt_i, rewrite, suffices, frame}
use types.Part.{agg}
use types.Run.{enter, of_opd, load, look, stop, fld, and_then, no_more, first, blocks, exec, returns}
use Rattle.fd_raw.specs.Ownership.{cells_lent}
use Rattle.fd_raw.specs.contracts.cells.Cells.{the_row as R}
use Rattle.fd_raw.specs.contracts.cells.Cells.bytes as f
use Rattle.fd_raw.proofs.cells.Cells.bytes.Statement.{statement}
use Rattle.fd_raw.proofs.cells.Cells.bytes.Code as code

abbrev stayed : Stays f.ended.signature.params f.ended.kept
stayed = (stay_dropped (RefOf (0 ∷ []) tt (plain (λ _. R)) (λ _. tt)) yes, (stay_dropped _ yes, tt))

pub bytes_spec : {M : Type 1} → statement M
bytes_spec 𝓤 𝓛 𝓜 𝓡 wired =
    let c = f.clauses 𝓛 𝓜.mem 𝓡.returns in let W = walk_of 𝓛 f.ended stayed c in let 𝓣 = tables 𝓤 𝓛.H 𝓜 𝓡 𝓡.env in
    proved 𝓛 f.ended stayed c 𝓜 𝓡
    (Goes-dropped 𝓛 1 (RefOf (0 ∷ []) tt (plain (λ _. R)) (λ _. tt)) yes (λ κs x w. refl), (Goes-dropped 𝓛 1 (plain (λ _. usize)) yes (λ κs x w. refl), tt))
    f.Key.name code.function (code.unfolded 𝓤 𝓛.H 𝓜 𝓡 wired)
    (λ κs. (shr_vals, (uint_vals w64, tt))) (λ κs. (shr_Tells (named 0) κs.0 R, (uint_Tells w64, tt))) (λ κs qs bounds a _ are.
    let κ = κs.0 in let q = qs.0 in let b = a.0.ref_ptr.0 in let o = a.0.ref_ptr.1 in let h = a.0.now in let len = a.1.0 in
    let y : W.Ghost = ((κs, qs, bounds, a, (shr_vals a.0, (uint_vals w64 len, tt))), tt) in
    let Asked : Type 0 = len ≡ length h.bytes in
    let Seen = λ (p : Ptr). ‵ (hidden_shr RawPtr κ p b (o + 0)) in
    qed 𝓛 (((‵ (flft κ q) ⊛ ‵ ftrue) ⊛ ‵ ((ShrRef (named 0) κ R).own_val a.0 (shr_vals a.0)) ⊛ ‵ (usize.own_val len (uint_vals w64 len)) ⊛ ‵ ftrue) ∷ raw (fact 𝓤 Asked) ∷ []) ∵
    move ! (1 ∷ []) $ heard ! Asked (λ asked. split ! $ split ! $ move ! (2 ∷ []) $ split ! $ fsplit ! $ keep ! (1 ∷ 3 ∷ []) $
    -- [what the `&` shows; the token]
    enter ! _ _ _ _ _ $ alloc_all ! (λ l. pass_all ! refl ((tt, tt), ((tt, record { fits = are.1.0.1 }), tt)) $
    unhide ! $ fsplit ! $ fsplit ! $ fsplit ! $ hide ! $ move ! (3 ∷ []) $
    in_a_block ! h.ptr (λ p. cells_lent p h.bytes h.room κ) (id⊢ 𝓤 (never 𝓤)) (λ b' o' e. fsplit ! $ flt_l ! (λ small. hide ! $
    rewrite ! 1 Seen e refl $ move ! (1 ∷ 4 ∷ []) $
    -- [the pointer, seen; the token; the bytes, seen]
    first ! $ blocks ! $
    pointer_in ! tt (block_ptr b' o') tt b (o + 0) (qed 𝓛 (Seen (block_ptr b' o') ∷ []) ∵ shr_dup ! RawPtr ptr_row_laws (block_ptr b' o') b (o + 0) κ $ done !) (λ q'.
    sets ! (of_opd ! (load ! (through ! refl (fld ! refl (stop !))) (look ! 1 refl))) refl (tt, tt) $
    pointer_out ! tt (block_ptr b' o') tt b (o + 0) $
    let at : ℕ × ℕ = (b', o') in let count : length h.bytes < 2 ^ 64 = omega arith in
    sets_last ! (is ! (agg ! (and_then ! (get ! refl) (and_then ! (get ! refl) (no_more !)))) (ap (slice_val at) asked)) refl (tt, (tt, (record { fits = count }, tt))) $
    exec ! 𝓣.C 𝓣.Λ (env code.Mir.locals l) (after 1 (code.function).body) (at_ret _ (W.post y)) $
    sets ! (of_opd ! (get ! refl)) refl (tt, (tt, (record { fits = count }, tt))) $
    returns ! (look_at ! 0 refl) $ free_all ! refl $ keep ! (2 ∷ 0 ∷ []) $
    let r : Bor (List ℕ) = record { ref_ptr = at; now = h.bytes } in let v : Val = slice_val at (length h.bytes) in
    flt_i ! (length h.bytes * 1) (2 ^ 63) (omega arith) $ flt_i ! (length h.bytes) (2 ^ 64) count $ fjoin ! $ feq_i ! (List Val) (v ∷ []) (v ∷ []) refl $ fjoin ! $ fjoin ! $
    -- [the slice; the token]
    suffices ! _ (ends_at 𝓛 f.ended stayed c y v r (tt, (tt, tt)) (tt, (tt, tt))) $ says ! refl $
    nothing ! $ nothing ! $ join ! $ nothing ! $ join ! $ join ! $ nothing ! $ move ! (2 ∷ 0 ∷ []) $ join ! $ frame ! $ done !))))))
