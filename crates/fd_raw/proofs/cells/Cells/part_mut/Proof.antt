-- `part_mut` lends some of the bytes, and the block follows them. Assumes `Logic`.
use Rattle.std.proofs.Common.{◌≡◌, ℕ, ◌+◌, ◌^◌, ◌<◌, ◌≤◌, List, [], ◌∷◌, ◌++◌, length, take}
use Rattle.std.proofs.Common.{drop, slice_range, refl, sym, ap, subst, ◌∙◌, w64, arith, take-append-drop, length-append, length-take, length-drop}
use Rattle.std.proofs.lemmas.List.Folds.{drop_split}
use Rattle.std.proofs.raw_atomic.Walks.{proved}
use Rattle.std.specs.List.{refill}
use seplogic.Ra.Ura.{Ura}
use base.Fraction.{full_share}
use base.Logic.{ent, sep, id⊢}
use base.Fml.{GName, Fml, ftrue, fsep, flft, froom}
use mir.Syntax.{named}
use mir.Val.{Val}
use contract.Monad.{fact}
use contract.Running.{tables}
use types.Logic.{Logic, sem}
use types.Kit.{‵, raw, ◌⊛◌, some, later, await, pick, at_ret, ◌$◌, ◌∵◌, !, qed, done, move, keep}
use types.Kit.{use1, use2, split, split3, join, fsplit, fsplit3, fjoin, fjoin3, fpack, flt_l, flt_i, rewrite, suffices, frame, group}
use types.Part.{whole, sub, look_in, agg}
use types.Run.{enter, of_opd, bin, load, stop, fld, and_then, no_more, first, blocks, exec, returns}
use types.ByLocal.{alloc_all, pass_all, free_all, look_at, get, through, sets, sets_last, is, env}
use types.SemTy.{cells}
use denote.Array.{Array}
use denote.Builtin.{u8, usize}
use denote.Exit.{yes, no}
use denote.Follow.{follows}
use denote.FollowSlice.{Elements, lends_Elements}
use denote.Laws.{shows}
use denote.Memory.{mem, cell_at, part_of}
use denote.Plain.{uint_vals, uint_Tells}
use denote.RawPtr.{Ptr, block_ptr, in_a_block}
use denote.Ref.{MutBor, MutRef, mut_vals, mut_Tells}
use denote.Signature.{plain, mut_ref_to}
use denote.Slice.{MutSlice, Room, slice_val}
use denote.Steps.{nothing, opens, peeks, heard}
use denote.Struct.Struct.{Struct}
use denote.Struct.Owning.{shape, to}
use denote.Triple.Walked.{Stays, walk_of, says, stay_dropped, Goes-dropped, Goes-spent_ref, ends_at}
use Rattle.std.proofs.VecSteps.Shapes.{after}
use Rattle.std.specs.contracts.impls.GlobalAllocator.TheImpl.{ghosts}
use Rattle.fd_raw.specs.Lends.{with_bytes}
use Rattle.fd_raw.specs.Written.{written}
use Rattle.fd_raw.specs.Ownership.{bytes_type, cells_own}
use Rattle.fd_raw.specs.declared.cells.Cells.{Cells}
use Rattle.fd_raw.specs.contracts.cells.Cells.{the_row as R, the_type}
use Rattle.fd_raw.specs.contracts.cells.Cells.part_mut as f
use Rattle.fd_raw.proofs.Memory.{cut, beside}
use Rattle.fd_raw.proofs.Written.{part-long, refilled}
use Rattle.fd_raw.proofs.cells.Cells.TheLaws.{lowers}
use Rattle.fd_raw.proofs.cells.Cells.part_mut.Statement.{statement}
use Rattle.fd_raw.proofs.cells.Cells.part_mut.Code as code

abbrev stayed : Stays f.ended.signature.params f.ended.kept
stayed = (stay_dropped (mut_ref_to (0 ∷ []) tt (plain (λ _. R))) no, (stay_dropped _ yes, (stay_dropped _ yes, tt)))

module _ {M : Type 1} {𝓤 : Ura M} (𝓛 : Logic 𝓤) (h : Cells) (us : List Val) (rb ro b o at len : ℕ) where
  abbrev part : List ℕ
  part = slice_range h.bytes at (at + len)

  abbrev new : List ℕ → Cells
  new ws = with_bytes h (written h.bytes at len ws)

  -- all but the part
  abbrev Rest : Fml
  Rest = fsep (fsep (cells (mem u8) (take at h.bytes) b o) (cells (mem u8) (drop (at + len) h.bytes) b (at + len + o)))
      (fsep (fsep (froom (bytes_type h.room) b (length h.bytes + o)) (ghosts.dealloc_token h.alloc (bytes_type (length h.bytes + h.room)) (block_ptr b o)))
      (fsep ((Struct (shape the_type)).own_val (to the_type h) us) (cell_at full_share R.mir us rb ro)))

  back : h.ptr ≡ block_ptr b o → at + len ≤ length h.bytes → length h.bytes + h.room < 2 ^ 63 → (ws : List ℕ) → length ws ≡ length part
      → ent 𝓤 (sep 𝓤 (sem 𝓛 (cells (mem u8) ws b (at + o))) (sem 𝓛 Rest)) (sem 𝓛 ((mem R).own_at (new ws) rb ro))
  unfolding part_of
  back e within small ws same =
      let xs = h.bytes in let front = take at xs in let rest = drop (at + len) xs in
      let long : length part ≡ len = part-long xs at len within in
      let refilled : ws ≡ refill len part ws = sym (refilled len part ws (same ∙ long)) in
      let count : length xs ≡ length (new ws).bytes =
      omega (arith, same, long, length-take at xs, length-drop (at + len) xs, length-append front (ws ++ rest), length-append ws rest) ∙ ap (λ l. length (front ++ (l ++ rest))) refilled in
      qed 𝓛 (‵ (cells (mem u8) ws b (at + o)) ∷ ‵ Rest ∷ []) ∵ move ! (1 ∷ []) $ fsplit ! $ fsplit ! $ move ! (3 ∷ 1 ∷ []) $
      use2 𝓛 (‵ (cells (mem u8) (ws ++ rest) b (at + o))) (beside 𝓛 b ws rest (at + o) (at + len + o) (omega (arith, same, long))) $ move ! (1 ∷ 0 ∷ []) $
      use2 𝓛 (‵ (cells (mem u8) (front ++ (ws ++ rest)) b o)) (beside 𝓛 b front (ws ++ rest) o (at + o) (omega (arith, length-take at xs, within))) $
      rewrite ! 0 (λ l. ‵ (cells (mem u8) (front ++ (l ++ rest)) b o)) refilled refl $
      -- [the bytes; the room, the right to free, the fields and the struct's cell]
      move ! (1 ∷ []) $ fsplit3 ! $
      rewrite ! 0 (λ (n : ℕ). ‵ (fsep (froom (bytes_type h.room) b (n + o)) (ghosts.dealloc_token h.alloc (bytes_type (n + h.room)) (block_ptr b o)))) count refl $
      move ! (3 ∷ 0 ∷ []) $ fjoin ! $ flt_i ! (length (new ws).bytes + h.room) (2 ^ 63) (subst (λ n. n + h.room < 2 ^ 63) count small) $ fjoin ! $
      rewrite ! 0 (λ (p : Ptr). ‵ (cells_own h.alloc p (new ws).bytes h.room)) (sym e) refl $ move ! (1 ∷ 0 ∷ []) $ fjoin ! $ move ! (1 ∷ 0 ∷ []) $ fjoin ! $
      fpack ! (List Val) (λ vs. fsep (cell_at full_share R.mir vs rb ro) (R.own_val (new ws) vs)) us $ done !

pub part_mut_spec : {M : Type 1} → statement M
part_mut_spec 𝓤 𝓛 𝓜 𝓡 wired =
    let c = f.clauses 𝓛 𝓜.mem 𝓡.returns in let W = walk_of 𝓛 f.ended stayed c in let 𝓣 = tables 𝓤 𝓛.H 𝓜 𝓡 𝓡.env in
    proved 𝓛 f.ended stayed c 𝓜 𝓡
    (Goes-spent_ref 𝓛 1 (0 ∷ []) tt (plain (λ _. R)), (Goes-dropped 𝓛 1 (plain (λ _. usize)) yes (λ κs x w. refl), (Goes-dropped 𝓛 1 (plain (λ _. usize)) yes (λ κs x w. refl), tt)))
    f.Key.name code.function (code.unfolded 𝓤 𝓛.H 𝓜 𝓡 wired)
    (λ κs. (mut_vals, (uint_vals w64, (uint_vals w64, tt)))) (λ κs. (mut_Tells (named 0) κs.0 R, (uint_Tells w64, (uint_Tells w64, tt)))) (λ κs qs bounds a _ are.
    let κ = κs.0 in let q = qs.0 in let b = a.0.ref_ptr.0 in let o = a.0.ref_ptr.1 in let γ = a.0.ghost_name in let h = a.0.now in let vs = mut_vals a.0 in let at = a.1.0 in let len = a.1.1.0 in
    let y : W.Ghost = ((κs, qs, bounds, a, (vs, (uint_vals w64 at, (uint_vals w64 len, tt)))), tt) in
    let Asked : Type 0 = at + len ≤ length h.bytes in
    qed 𝓛 (((‵ (flft κ q) ⊛ ‵ ftrue) ⊛ ‵ ((MutRef (named 0) κ R).own_val a.0 vs)
    ⊛ ‵ (usize.own_val at (uint_vals w64 at)) ⊛ ‵ (usize.own_val len (uint_vals w64 len)) ⊛ ‵ ftrue) ∷ raw (fact 𝓤 Asked) ∷ []) ∵
    move ! (1 ∷ []) $ heard ! Asked (λ within. split ! $ split ! $ move ! (2 ∷ []) $ split ! $ keep ! (0 ∷ 2 ∷ []) $
    -- [self; the token]
    enter ! _ _ _ _ _ $ alloc_all ! (λ l. pass_all ! refl ((tt, tt), ((tt, record { fits = are.1.0.1 }), ((tt, record { fits = are.1.1.0.1 }), tt))) $
    fsplit3 ! $ move ! (1 ∷ 2 ∷ 3 ∷ []) $ opens ! tt R b o (λ us.
    move ! (1 ∷ []) $ peeks ! R _ (shows 𝓛 R) h us (λ told. fsplit ! $ move ! (1 ∷ []) $
    in_a_block ! h.ptr (λ p. cells_own h.alloc p h.bytes h.room) (id⊢ 𝓤 _) (λ b' o' e. fsplit ! $ flt_l ! (λ small. fsplit ! $
    let word = lowers.val_is h us told ∙ ap (λ (p : Ptr). lowers.lowered (record h { ptr = p }) ∷ []) e in
    let Cell = λ (ws : List Val). ‵ (cell_at full_share R.mir ws b o) in
    let xs = h.bytes in let front = take at xs in let mid = part 𝓛 h us b o b' o' at len in let rest = drop (at + len) xs in
    let long : length mid ≡ len = part-long xs at len within in
    let fits : length mid < 2 ^ 64 = omega (arith, long, within) in let room : Room u8 (length mid) = (fits, omega (arith, long, within)) in
    rewrite ! 0 (λ l. ‵ (cells (mem u8) l b' o')) (sym (take-append-drop at xs) ∙ ap (λ l. front ++ l) (drop_split xs at (at + len) (omega arith))) refl $
    use1 𝓛 (‵ (cells (mem u8) front b' o') ⊛ ‵ (cells (mem u8) (mid ++ rest) b' (at + o'))) (cut 𝓛 b' front (mid ++ rest) o' (at + o') (omega (arith, length-take at xs, within))) $
    split ! $ move ! (1 ∷ []) $
    use1 𝓛 (‵ (cells (mem u8) mid b' (at + o')) ⊛ ‵ (cells (mem u8) rest b' (at + len + o'))) (cut 𝓛 b' mid rest (at + o') (at + len + o') (omega (arith, long))) $ split ! $
    rewrite ! 5 Cell word refl $
    -- [the part; the bytes behind it; those before it; the room and the right to free; what the fields own; the struct's cell; the open borrow, in three entries]
    first ! $ blocks ! $
    sets ! (of_opd ! (load ! (through ! refl (fld ! refl (stop !))) (look_in ! 5 (sub ! 0 refl (whole !))))) refl (tt, tt) $
    sets ! (bin ! (get ! refl) (get ! refl) tt) refl (tt, tt) $
    sets_last ! (is ! (agg ! (and_then ! (get ! refl) (and_then ! (get ! refl) (no_more !)))) (ap (slice_val (b', at + o')) (sym long))) refl (tt, (tt, (record { fits = fits }, tt))) $
    exec ! 𝓣.C 𝓣.Λ (env code.Mir.locals l) (after 1 (code.function).body) (at_ret _ (W.post y)) $
    sets ! (of_opd ! (get ! refl)) refl (tt, (tt, (record { fits = fits }, tt))) $
    rewrite ! 5 Cell (sym word) refl $ move ! (2 ∷ 1 ∷ []) $ fjoin ! $ move ! (2 ∷ 3 ∷ 4 ∷ []) $ fjoin3 ! $ move ! (1 ∷ 0 ∷ []) $ fjoin ! $ move ! (2 ∷ 3 ∷ 4 ∷ 1 ∷ 0 ∷ []) $ group ! 5 $
    let new' = new 𝓛 h us b o b' o' at len in let way = back 𝓛 h us b o b' o' at len e within small in let others = sem 𝓛 (Rest 𝓛 h us b o b' o' at len) in
    use1 𝓛 (later (some (λ (δ : GName). raw (Elements 𝓛 R u8 new' (named 0) κ q b o b' (at + o') γ mid room others way δ))))
    (lends_Elements 𝓛 R u8 new' (named 0) κ q b o b' (at + o') γ mid room others way (R.coded.code h) (R.coded.code h)) $ await ! tt $ pick ! (λ δ.
    let r : MutBor (List ℕ) = record { ref_ptr = (b', at + o'); ghost_name = δ; now = mid } in let v : Val = slice_val (b', at + o') (length mid) in
    returns ! (look_at ! 0 refl) $ free_all ! refl $ keep ! (0 ∷ []) $
    use1 𝓛 (‵ ((MutSlice (named 0) κ u8).own_val r (v ∷ [])) ⊛ ‵ (flft κ q) ⊛ ‵ (follows R (Array u8 0) γ δ new')) (id⊢ 𝓤 _) $ split3 ! $
    -- [the slice; the token; how the block follows it]
    suffices ! _ (ends_at 𝓛 f.ended stayed c y v r (tt, (tt, (tt, tt))) (tt, (tt, (tt, tt)))) $
    nothing ! $ nothing ! $ join ! $ nothing ! $ join ! $ nothing ! $ join ! $ join ! $ nothing ! $ move ! (2 ∷ 0 ∷ []) $ join ! $ join ! $ frame ! $ says ! refl $ done !))))))))
