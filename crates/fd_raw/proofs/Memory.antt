-- Bytes side by side in a block, and the room behind them. Assumes `Logic`.
use Rattle.std.proofs.Common.{◌≡◌, ℕ, suc, ◌+◌, List, [], ◌∷◌, ◌++◌, length, refl, sym, w8, arith, zero-add}
use seplogic.Ra.Ura.{Ura}
use base.Fraction.{full_share}
use base.Logic.{ent, sep}
use base.Fml.{ftrue, fat, froom}
use mir.Syntax.{ty_int}
use mir.Val.{vint}
use types.Logic.{Logic, sem}
use types.Kit.{‵, ◌⊛◌, ◌$◌, ◌∵◌, !, qed, move, drop, use1, use2, split, fsplit, fjoin, rewrite, done}
use types.SemTy.{cells}
use denote.Builtin.{u8}
use denote.Memory.{mem}
use denote.Param.Laws.{Laws, of_field}
use denote.Param.Shared.{copy_shared}
use denote.Plain.{uint_out}
use denote.Steps.{nothing}
use denote.Struct.Field.{u8-field}
use denote.Struct.Laws.{u8-laws, u8-copy}
use Rattle.fd_raw.specs.Ownership.{bytes_type}

abbrev pub byte_laws : Laws u8
byte_laws = of_field u8-field u8-laws refl (copy_shared u8-field u8-copy)

module _ {M : Type 1} {𝓤 : Ura M} (𝓛 : Logic 𝓤) (b : ℕ) where
  open 𝓛 use {H}

  -- bytes are cut in two, and put side by side
  pub cut : (xs ys : List ℕ) (o at : ℕ) → at ≡ length xs + o → ent 𝓤 (sem 𝓛 (cells (mem u8) (xs ++ ys) b o)) (sep 𝓤 (sem 𝓛 (cells (mem u8) xs b o)) (sem 𝓛 (cells (mem u8) ys b at)))
  cut [] ys o at e = qed 𝓛 (‵ (cells (mem u8) ys b o) ∷ []) ∵ rewrite ! 0 (λ k. ‵ (cells (mem u8) ys b k)) {x = at} (omega arith) refl $ nothing ! $ done !
  cut (x ∷ xs) ys o at e =
      qed 𝓛 (‵ (cells (mem u8) (x ∷ xs ++ ys) b o) ∷ []) ∵ fsplit ! $ move ! (1 ∷ []) $
      use1 𝓛 (‵ (cells (mem u8) xs b (o + 1)) ⊛ ‵ (cells (mem u8) ys b at)) (cut xs ys (o + 1) at (omega arith)) $ split ! $ move ! (2 ∷ 0 ∷ []) $ fjoin ! $ done !

  pub beside : (xs ys : List ℕ) (o at : ℕ) → at ≡ length xs + o → ent 𝓤 (sep 𝓤 (sem 𝓛 (cells (mem u8) xs b o)) (sem 𝓛 (cells (mem u8) ys b at))) (sem 𝓛 (cells (mem u8) (xs ++ ys) b o))
  beside [] ys o at e = qed 𝓛 (‵ ftrue ∷ ‵ (cells (mem u8) ys b at) ∷ []) ∵ drop ! $ rewrite ! 0 (λ k. ‵ (cells (mem u8) ys b k)) {x = o} (omega arith) refl $ done !
  beside (x ∷ xs) ys o at e =
      qed 𝓛 (‵ (cells (mem u8) (x ∷ xs) b o) ∷ ‵ (cells (mem u8) ys b at) ∷ []) ∵ fsplit ! $ move ! (1 ∷ 2 ∷ []) $
      use2 𝓛 (‵ (cells (mem u8) (xs ++ ys) b (o + 1))) (beside xs ys (o + 1) at (omega arith)) $ move ! (1 ∷ 0 ∷ []) $ fjoin ! $ done !

  -- bytes and the room behind them are room
  pub freed : (xs : List ℕ) (n o at : ℕ) → at ≡ length xs + o
      → ent 𝓤 (sep 𝓤 (sem 𝓛 (cells (mem u8) xs b o)) (H.room (bytes_type n) b at)) (H.room (bytes_type (length xs + n)) b o)
  freed [] n o at e =
      qed 𝓛 (‵ ftrue ∷ ‵ (froom (bytes_type n) b at) ∷ []) ∵ drop ! $ rewrite ! 0 (λ k. ‵ (froom (bytes_type n) b k)) {x = o} (omega arith) refl $
      rewrite ! 0 (λ k. ‵ (froom (bytes_type k) b o)) (sym (zero-add n)) refl $ done !
  freed (y ∷ ys) n o at e =
      qed 𝓛 (‵ (cells (mem u8) (y ∷ ys) b o) ∷ ‵ (froom (bytes_type n) b at) ∷ []) ∵ fsplit ! $ move ! (1 ∷ 2 ∷ []) $
      let counted : suc (length ys + n) ≡ suc (length ys) + n = omega arith in
      use2 𝓛 (‵ (froom (bytes_type (length ys + n)) b (o + 1))) (freed ys n (o + 1) at (omega arith)) $ move ! (1 ∷ []) $
      use1 𝓛 (‵ (fat full_share (ty_int w8) b o (vint w8 y))) (uint_out 𝓛 full_share w8 y b o) $
      use1 𝓛 (‵ (froom (ty_int w8) b o)) (𝓛.laws.at_room (ty_int w8) b o (vint w8 y)) $
      use2 𝓛 (‵ (froom (bytes_type (suc (length ys + n))) b o)) (𝓛.laws.room_cons (ty_int w8) (length ys + n) b o) $
      rewrite ! 0 (λ k. ‵ (froom (bytes_type k) b o)) counted refl $ done !
