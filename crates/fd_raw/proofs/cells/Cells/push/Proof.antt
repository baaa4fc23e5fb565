-- `push` makes the first byte of the room the last that is written. Assumes `Logic`.
use Rattle.std.proofs.Common.{◌≡◌, suc, ◌+◌, ◌-◌, ◌^◌, ◌<◌, List, [], ◌∷◌, ◌++◌, length, refl, sym, ap, ◌∙◌, w8, w64, arith, length-append, subst}
use Rattle.std.proofs.raw_atomic.Walks.{proved}
use base.Fraction.{full_share}
use base.Logic.{id⊢}
use base.Fml.{ftrue, flft, froom}
use mir.Syntax.{ty_int, named}
use mir.Val.{Val, vunit, vptr}
use contract.Monad.{fact}
use contract.Running.{tables}
use types.Kit.{‵, raw, ◌⊛◌, at_ret, ◌$◌, ◌∵◌, !, qed, done, move, keep, use1, use2, split, join, fsplit, fsplit3, fjoin, feq_i, flt_l, flt_i, rewrite, suffices, frame, group}
use types.Run.{enter, of_opd, bin, unit_lit, load, init, stop, fld, assigns_last, first, blocks, exec, returns}
use types.ByLocal.{alloc_all, pass_all, free_all, look_at, get, through, sets, is, env}
use types.Part.{whole, sub, look_in}
use types.SemTy.{cells}
use denote.Builtin.{u8, usize}
use denote.Exit.{yes}
use denote.Laws.{shows}
use denote.Memory.{mem, cell_at, part_at}
use denote.Plain.{uint_in, uint_vals, uint_Tells}
use denote.RawPtr.{Ptr, block_ptr, in_a_block}
use denote.Ref.{MutRef, mut_vals, mut_Tells}
use denote.Signature.{plain}
use denote.Steps.{nothing, opens, closes, peeks, heard}
use denote.Triple.Walked.{Stays, walk_of, says, stay_ref, stay_dropped, Goes-ref, Goes-dropped, ends_at}
use Rattle.std.proofs.VecSteps.Shapes.{after}
use Rattle.std.specs.contracts.impls.GlobalAllocator.TheImpl.{ghosts}
use Rattle.fd_raw.specs.Ownership.{bytes_type, cells_own}
use Rattle.fd_raw.specs.contracts.cells.Cells.{the_row as R}
use Rattle.fd_raw.specs.contracts.cells.Cells.push as f
use Rattle.fd_raw.proofs.Memory.{beside}
use Rattle.fd_raw.proofs.cells.Cells.TheLaws.{lowers}
use Rattle.fd_raw.proofs.cells.Cells.push.Statement.{statement}
use Rattle.fd_raw.proofs.cells.Cells.push.Code as code

abbrev stayed : Stays f.ended.signature.params f.ended.kept
stayed = (stay_ref (0 ∷ []) tt (plain (λ _. R)), (stay_dropped _ yes, (stay_dropped _ yes, tt)))

pub push_spec : {M : Type 1} → statement M
push_spec 𝓤 𝓛 𝓜 𝓡 wired =
    let c = f.clauses 𝓛 𝓜.mem 𝓡.returns in let W = walk_of 𝓛 f.ended stayed c in let 𝓣 = tables 𝓤 𝓛.H 𝓜 𝓡 𝓡.env in
    proved 𝓛 f.ended stayed c 𝓜 𝓡 (Goes-ref 𝓛 1 0 tt (plain (λ _. R)), (Goes-dropped 𝓛 1 (plain (λ _. usize)) yes (λ κs x w. refl), (Goes-dropped 𝓛 1 (plain (λ _. u8)) yes (λ κs x w. refl), tt)))
    f.Key.name code.function (code.unfolded 𝓤 𝓛.H 𝓜 𝓡 wired)
    (λ κs. (mut_vals, (uint_vals w64, (uint_vals w8, tt)))) (λ κs. (mut_Tells (named 0) κs.0 R, (uint_Tells w64, (uint_Tells w8, tt)))) (λ κs qs bounds a _ are.
    let b = a.0.ref_ptr.0 in let o = a.0.ref_ptr.1 in let h = a.0.now in let vs = mut_vals a.0 in let len = a.1.0 in let byte = a.1.1.0 in
    let y : W.Ghost = ((κs, qs, bounds, a, (vs, (uint_vals w64 len, (uint_vals w8 byte, tt)))), tt) in
    let new = record h { bytes = h.bytes ++ byte ∷ []; room = h.room - 1 } in
    let Asked : Type 0 = (len ≡ length h.bytes) × (0 < h.room) in
    qed 𝓛 (((‵ (flft κs.0 qs.0) ⊛ ‵ ftrue) ⊛ ‵ ((MutRef (named 0) κs.0 R).own_val a.0 vs)
    ⊛ ‵ (usize.own_val len (uint_vals w64 len)) ⊛ ‵ (u8.own_val byte (uint_vals w8 byte)) ⊛ ‵ ftrue) ∷ raw (fact 𝓤 Asked) ∷ []) ∵
    move ! (1 ∷ []) $ heard ! Asked (λ asked. split ! $ split ! $ move ! (2 ∷ []) $ split ! $ keep ! (0 ∷ 2 ∷ []) $
    -- [self; the token]
    enter ! _ _ _ _ _ $ alloc_all ! (λ l. pass_all ! refl ((tt, tt), ((tt, record { fits = are.1.0.1 }), ((tt, record { fits = are.1.1.0.1 }), tt))) $
    fsplit3 ! $ move ! (1 ∷ 2 ∷ 3 ∷ []) $ opens ! tt R b o (λ us.
    move ! (1 ∷ []) $ peeks ! R _ (shows 𝓛 R) h us (λ told. fsplit ! $ move ! (1 ∷ []) $
    in_a_block ! h.ptr (λ p. cells_own h.alloc p h.bytes h.room) (id⊢ 𝓤 _) (λ b' o' e. fsplit ! $ flt_l ! (λ small. fsplit ! $ move ! (1 ∷ []) $ fsplit ! $
    let at = length h.bytes + o' in let room = h.room - 1 in
    let word = lowers.val_is h us told ∙ ap (λ (p : Ptr). lowers.lowered (record h { ptr = p }) ∷ []) e in
    let Cell = λ (ws : List Val). ‵ (cell_at full_share R.mir ws b o) in
    let more : h.room ≡ suc room = omega (arith, asked.1) in
    let longer : at + 1 ≡ length new.bytes + o' = omega (arith, length-append h.bytes (byte ∷ [])) in
    let same : length h.bytes + h.room ≡ length new.bytes + room = omega (arith, length-append h.bytes (byte ∷ []), asked.1) in
    rewrite ! 0 (λ n. ‵ (froom (bytes_type n) b' at)) more refl $
    use1 𝓛 (‵ (froom (ty_int w8) b' at) ⊛ ‵ (froom (bytes_type room) b' (at + 1))) (𝓛.laws.room_uncons (ty_int w8) room b' at) $ split ! $
    rewrite ! 5 Cell word refl $
    -- [room for the byte; the other room; the right to free; the bytes; what the fields own; the struct's cell; the open borrow]
    first ! $ blocks ! $
    sets ! (of_opd ! (load ! (through ! refl (fld ! refl (stop !))) (look_in ! 5 (sub ! 0 refl (whole !))))) refl (tt, tt) $
    sets ! (is ! (bin ! (get ! refl) (get ! refl) tt) (ap (λ k. vptr b' (k + o')) asked.0)) refl (tt, tt) $
    assigns_last ! (of_opd ! (get ! refl)) (through ! refl (stop !)) (init ! 0 refl (tt, record { fits = are.1.1.0.1 })) $
    exec ! 𝓣.C 𝓣.Λ (env code.Mir.locals l) (after 1 (code.function).body) (at_ret _ (W.post y)) $
    sets ! (of_opd ! (unit_lit !)) refl (tt, tt) $
    use1 𝓛 (‵ (part_at u8 full_share byte b' at)) (uint_in 𝓛 full_share w8 byte b' at) $ nothing ! $ move ! (1 ∷ 0 ∷ []) $ fjoin ! $ move ! (3 ∷ 0 ∷ []) $
    use2 𝓛 (‵ (cells (mem u8) new.bytes b' o')) (beside 𝓛 b' h.bytes (byte ∷ []) o' at refl) $
    rewrite ! 1 (λ k. ‵ (froom (bytes_type room) b' k)) longer refl $
    rewrite ! 2 (λ k. ‵ (ghosts.dealloc_token h.alloc (bytes_type k) (block_ptr b' o'))) same refl $
    move ! (1 ∷ 2 ∷ []) $ fjoin ! $ move ! (1 ∷ 0 ∷ []) $ fjoin ! $
    flt_i ! (length new.bytes + room) (2 ^ 63) (subst (λ k. k < 2 ^ 63) same small) $ fjoin ! $
    rewrite ! 0 (λ p. ‵ (cells_own h.alloc p new.bytes room)) (sym e) refl $ rewrite ! 2 Cell (sym word) refl $
    move ! (1 ∷ 0 ∷ []) $ fjoin ! $ move ! (1 ∷ []) $ closes ! tt R new us b o $
    -- [two parts of self; the token; self's first part]
    returns ! (look_at ! 0 refl) $ free_all ! refl $ move ! (3 ∷ []) $
    suffices ! _ (ends_at 𝓛 f.ended stayed c y vunit tt (new, (tt, (tt, tt))) (tt, (tt, (tt, tt)))) $ says ! (refl, omega (arith, asked.1), refl) $
    group ! 3 $ nothing ! $ nothing ! $ join ! $ nothing ! $ join ! $ move ! (1 ∷ 0 ∷ []) $ join ! $ nothing ! $ move ! (2 ∷ 0 ∷ []) $ join ! $ frame ! $ frame ! $
    feq_i ! _ (vunit ∷ []) _ refl $ done !)))))))
