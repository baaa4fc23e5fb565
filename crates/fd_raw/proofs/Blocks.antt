-- `Global`'s `allocate` and `deallocate` at a call, for a block of n bytes. Assumes `Logic`.
use Rattle.std.proofs.Common.{◌≡◌, ℕ, ◌^◌, ◌<◌, List, [], ◌∷◌, refl, ap, ◌∙◌, w64, arith, mul-one, Global, lit<}
use Rattle.std.proofs.alloc.Calls.{Al, Answer, Answered, Takes-gives}
use Rattle.std.proofs.alloc.Global.TheLaws as heap_laws
use Rattle.std.specs.Allocator.{HasLayout, block_if_ok}
use Rattle.std.specs.contracts.alloc.Global as heap
use Rattle.std.specs.contracts.impls.GlobalAllocator.TheImpl.{ghosts}
use Rattle.std.specs.contracts.impls.GlobalAllocator.allocate as AL
use Rattle.std.specs.contracts.impls.GlobalAllocator.deallocate as DE
use seplogic.Ra.Ura.{Ura}
use base.Logic.{SProp, ent, sep, emp, guard, id⊢}
use base.Fml.{Lft, Share, ftrue, fsep, froom, flft}
use base.Share
use contract.Monad.{Fun, fact, fact_i}
use denote.Builtin.{unit}
use denote.Memory.{hidden_shr}
use denote.RawPtr.{block_ptr}
use denote.Steps.{only, nothing}
use denote.Triple.Spec.{triple_of}
use denote.Triple.Statement.{Contract}
use mir.Syntax.{given}
use mir.Val.{Val, vunit, vint, vptr}
use prog.Capped.{capped_is}
use prog.Memory.{Memory, capped}
use prog.Routine.{Routine}
use types.Kit.{‵, raw, ◌⊛◌, some, later, await, pick, check, show, updating, now, ◌$◌, ◌∵◌, !, qed, done, move, keep, use0, use1, split, join, fjoin, feq_i, feq_l, flt_i, suffices, group, frame, mean}
use types.Logic.{Logic, sem}
use Rattle.fd_raw.specs.Ownership.{bytes_type}

-- `Global` as the lemmas on allocators take one: they read its row, and no dictionary
abbrev pub Z : Al
Z = record { row = heap.the_row; laws = heap_laws.the_row_laws; g = ghosts; d = given 0; drops = given 0 }

layout : (n : ℕ) → n < 2 ^ 63 → HasLayout (bytes_type n) n 1
layout n small = (ap capped (mul-one n) ∙ capped_is n (omega arith), refl)

module _ {M : Type 1} {𝓤 : Ura M} (𝓛 : Logic 𝓤) (at_mem : Memory → SProp 𝓤) (run : Routine → Fun 𝓤) where
  open 𝓛 use {H, A}

  abbrev pub Takes : Contract 𝓤
  Takes = triple_of 𝓛 AL.signature (AL.spec 𝓛 at_mem run)

  abbrev pub Gives : Contract 𝓤
  Gives = triple_of 𝓛 DE.signature (DE.spec 𝓛 at_mem run)

  module _ (κ : Lft) (q : Share) (p : ℕ × ℕ) (a : Global) (n : ℕ) where
    abbrev pub at_takes : Takes.Ghost
    at_takes = (((κ, tt), (q, tt), tt, (record { ref_ptr = p; now = a }, (n, (1, tt))), (vptr p.0 p.1 ∷ [], (vint w64 n ∷ [], (vint w64 1 ∷ [], tt)))), bytes_type n)

    pub takes_goes : n < 2 ^ 63 → ent 𝓤 (sep 𝓤 (sem 𝓛 (hidden_shr heap.the_row κ a p.0 p.1)) (A.lft κ q)) (Takes.pre at_takes)
    takes_goes small =
        let Asked = HasLayout (bytes_type n) n 1 in
        qed 𝓛 (‵ (hidden_shr heap.the_row κ a p.0 p.1) ∷ ‵ (flft κ q) ∷ []) ∵
        use0 𝓛 (raw (fact 𝓤 Asked)) (fact_i 𝓤 Asked (emp 𝓤) (layout n small)) $
        nothing ! $ flt_i ! 1 (2 ^ 64) (lit< tt) $ feq_i ! (List Val) (vint w64 1 ∷ []) (vint w64 1 ∷ []) refl $ fjoin ! $ fjoin ! $
        flt_i ! n (2 ^ 64) (omega arith) $ feq_i ! (List Val) (vint w64 n ∷ []) (vint w64 n ∷ []) refl $ fjoin ! $ fjoin ! $
        move ! (2 ∷ []) $ feq_i ! (List Val) (vptr p.0 p.1 ∷ []) (vptr p.0 p.1 ∷ []) refl $ fjoin ! $ move ! (0 ∷ 1 ∷ []) $ fjoin ! $
        -- [the arguments; the layout; the token]
        nothing ! $ move ! (3 ∷ 0 ∷ []) $ join ! $ move ! (0 ∷ 1 ∷ []) $ join ! $ join ! $ done !

    pub takes_back : (v : Val) → ent 𝓤 (Takes.post at_takes v) (H.⇛ (sep 𝓤 (Answered Z 𝓛 at_mem run a (bytes_type n) v) (A.lft κ q)))
    takes_back v =
        let Lasts = Unit {0} × (Unit {0} × (Unit {0} × Unit {0})) in
        let Given = λ (r : Answer.Denot) (ws : Lasts). ‵ (fsep ftrue (fsep ftrue (fsep ftrue ftrue))) ⊛ ‵ (block_if_ok (ghosts.dealloc_token a) (bytes_type n) r) in
        qed 𝓛 (raw (Takes.post at_takes v) ∷ []) ∵ suffices ! _ (Takes-gives Z 𝓛 at_mem run κ q p a n 1 (bytes_type n) v) $ updating ! $
        use1 𝓛 (later (some (λ (r : Answer.Denot). ((‵ (flft κ q) ⊛ ‵ ftrue) ⊛ ‵ (Answer.own_val r (v ∷ []))) ⊛ some (Given r)))) (id⊢ 𝓤 _) $ await ! tt $ pick ! (λ r.
        split ! $ move ! (1 ∷ []) $ pick ! (λ ws. split ! $ move ! (2 ∷ []) $ split ! $ split ! $
        use1 𝓛 (‵ (flft κ (Share.left q)) ⊛ ‵ (flft κ (Share.right q))) (𝓛.lfts.lft_split κ q) $ split ! $ group ! 3 $ join ! $
        -- [the tokens and the answer; what is left of the arguments; the block]
        now ! $ show ! (λ (r' : Answer.Denot). mean 𝓛 (((‵ (flft κ (Share.left q)) ⊛ ‵ (flft κ (Share.right q)) ⊛ ‵ ftrue) ⊛ ‵ (Answer.own_val r' (v ∷ []))) ⊛ some (Given r'))) r $
        frame ! $ show ! (λ (ws' : Lasts). mean 𝓛 (Given r ws')) ws $ done !))

    module _ (b o : ℕ) where
      abbrev pub at_gives : Gives.Ghost
      at_gives = (
        (
          (κ, tt),
          (q, tt),
          tt,
          (record { ref_ptr = p; now = a }, (block_ptr b o, (n, (1, tt)))),
          (vptr p.0 p.1 ∷ [], (vptr b o ∷ [], (vint w64 n ∷ [], (vint w64 1 ∷ [], tt)))),
        ),
        bytes_type n,
      )

      pub gives_goes : n < 2 ^ 63
          → ent 𝓤 (sep 𝓤 (H.room (bytes_type n) b o) (sep 𝓤 (sem 𝓛 (ghosts.dealloc_token a (bytes_type n) (block_ptr b o)))
          (sep 𝓤 (sem 𝓛 (hidden_shr heap.the_row κ a p.0 p.1)) (A.lft κ q)))) (Gives.pre at_gives)
      gives_goes small =
          let Asked = HasLayout (bytes_type n) n 1 in
          qed 𝓛 (‵ (froom (bytes_type n) b o) ∷ ‵ (ghosts.dealloc_token a (bytes_type n) (block_ptr b o)) ∷ ‵ (hidden_shr heap.the_row κ a p.0 p.1) ∷ ‵ (flft κ q) ∷ []) ∵ fjoin ! $
          use0 𝓛 (raw (fact 𝓤 Asked)) (fact_i 𝓤 Asked (emp 𝓤) (layout n small)) $ join ! $
          nothing ! $ flt_i ! 1 (2 ^ 64) (lit< tt) $ feq_i ! (List Val) (vint w64 1 ∷ []) (vint w64 1 ∷ []) refl $ fjoin ! $ fjoin ! $
          flt_i ! n (2 ^ 64) (omega arith) $ feq_i ! (List Val) (vint w64 n ∷ []) (vint w64 n ∷ []) refl $ fjoin ! $ fjoin ! $
          feq_i ! (List Val) (vptr b o ∷ []) (vptr b o ∷ []) refl $ fjoin ! $
          move ! (2 ∷ []) $ feq_i ! (List Val) (vptr p.0 p.1 ∷ []) (vptr p.0 p.1 ∷ []) refl $ fjoin ! $ move ! (0 ∷ 1 ∷ []) $ fjoin ! $
          -- [the arguments; the layout and the block; the token]
          nothing ! $ move ! (3 ∷ 0 ∷ []) $ join ! $ move ! (0 ∷ 1 ∷ []) $ join ! $ join ! $ done !

      pub gives_back : (v : Val) → ent 𝓤 (Gives.post at_gives v) (H.⇛ (guard 𝓤 (v ≡ vunit) (A.lft κ q)))
      gives_back v =
          qed 𝓛 (raw (Gives.post at_gives v) ∷ []) ∵ updating ! $
          use1 𝓛 (later (some (λ (r : Unit {0}). ((‵ (flft κ q) ⊛ ‵ ftrue) ⊛ ‵ (unit.own_val r (v ∷ [])))
          ⊛ some (λ (ws : Unit {0} × (Unit {0} × (Unit {0} × (Unit {0} × Unit {0})))). ‵ (fsep ftrue (fsep ftrue (fsep ftrue (fsep ftrue ftrue)))) ⊛ ‵ ftrue)))) (id⊢ 𝓤 _) $ await ! tt $ pick ! (λ r.
          split ! $ split ! $ move ! (1 ∷ []) $ feq_l ! (λ e. split ! $ now ! $ check ! (ap only e) $ keep ! (0 ∷ []) $ done !))
