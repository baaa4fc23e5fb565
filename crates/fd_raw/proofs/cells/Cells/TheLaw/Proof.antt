-- A `&` to a block reaches its bytes. Assumes `Logic`.
use Rattle.std.specs.Prelude.{ℕ, ◌+◌, ◌^◌, List, [], ◌∷◌, length}
use seplogic.Ra.Ura.{Ura}
use base.Fml.{Lft, ftrue, ffalse, fsep, flt, froom, Incl, Incl-refl}
use types.Logic.{Logic}
use types.SemTy.{cells}
use denote.Builtin.{u8}
use denote.Memory.{mem, part_at, shared_of}
use base.Fraction.{full_share}
use denote.RawPtr.{Ptr, block_ptr, null_ptr}
use denote.Sharing.{ShrLaws, said}
use denote.SharingLaws.{beside_shr_laws, said_shr_laws}
use denote.Shares.{Shares-less}
use denote.Slice.{elements_shared, elements_shr_laws}
use denote.Param.Shared.{copy_shared}
use denote.Struct.Laws.{RawPtr-copy}
use denote.Struct.Lending.{Lends, Lends-both, Lends-first, Lends-nothing, Lends-said, Lends-false, of_Lends}
use Rattle.std.specs.declared.alloc.Global.{Global}
use Rattle.std.specs.contracts.impls.GlobalAllocator.TheImpl.{ghosts}
use denote.Struct.Field.{RawPtr-field}
use Rattle.fd_raw.specs.Ownership.{bytes_type, cells_own, cells_lent}
use Rattle.fd_raw.specs.contracts.cells.Cells as C
use Rattle.fd_raw.proofs.Memory.{byte_laws}
use Rattle.fd_raw.proofs.cells.Cells.TheLaw.Statement.{statement}

lent_laws : (p : Ptr) (xs : List ℕ) (n : ℕ) → ShrLaws (cells_lent p xs n)
lent_laws (block_ptr b o) xs n = beside_shr_laws _ _ (said_shr_laws (flt (length xs + n) (2 ^ 63)) tt) (elements_shr_laws u8 byte_laws.shr_laws xs b o)
lent_laws null_ptr xs n = said_shr_laws ffalse tt

module _ {M : Type 1} {𝓤 : Ura M} (𝓛 : Logic 𝓤) (l : Lft) (inc : Incl l u8.lives) where
  Lends-bytes : (xs : List ℕ) (b o : ℕ) → Lends 𝓛 (cells (mem u8) xs b o) (elements_shared u8 xs b o) l
  Lends-bytes [] b o = Lends-nothing 𝓛 ftrue l
  Lends-bytes (x ∷ xs) b o =
      Lends-both 𝓛 (part_at u8 full_share x b o) (cells (mem u8) xs b (o + 1)) (shared_of u8 x b o) (elements_shared u8 xs b (o + 1)) l
      (λ κ ts. Shares-less 𝓛 u8 u8.lives l inc (byte_laws.shares 𝓛) x κ ts b o) (Lends-bytes xs b (o + 1))

  Lends-cells : (a : Global) (p : Ptr) (xs : List ℕ) (n : ℕ) → Lends 𝓛 (cells_own a p xs n) (cells_lent p xs n) l
  Lends-cells a (block_ptr b o) xs n =
      let small = flt (length xs + n) (2 ^ 63) in
      let held = fsep (froom (bytes_type n) b (length xs + o)) (ghosts.dealloc_token a (bytes_type (length xs + n)) (block_ptr b o)) in
      Lends-both 𝓛 small (fsep (cells (mem u8) xs b o) held) (said small) (elements_shared u8 xs b o) l (Lends-said 𝓛 small tt l)
      (Lends-first 𝓛 (cells (mem u8) xs b o) held (elements_shared u8 xs b o) l (Lends-bytes xs b o))
  Lends-cells a null_ptr xs n = Lends-false 𝓛 (said ffalse) l

pub shares : statement
shares = of_Lends C.struct C.the_codes C.the_heap C.the_lent (λ d p. lent_laws d.ptr d.bytes d.room)
    (copy_shared RawPtr-field RawPtr-copy, tt) (λ M 𝓤 𝓛 d p. Lends-cells 𝓛 C.the_row.lives (Incl-refl []) d.alloc d.ptr d.bytes d.room)
