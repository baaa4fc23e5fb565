-- What the owner of a block owns and lends.
use Rattle.std.specs.Prelude.{ℕ, ◌+◌, ◌^◌, List, length}
use Rattle.std.specs.declared.alloc.Global.{Global}
use Rattle.std.specs.contracts.impls.GlobalAllocator.TheImpl.{ghosts}
use base.Fml.{Lft, Fml, ffalse, fsep, flt, froom}
use mir.Syntax.{Ty, ty_int, w8, ty_array}
use types.SemTy.{cells}
use denote.Memory.{mem}
use denote.Builtin.{u8}
use denote.Slice.{elements_shared}
use denote.Sharing.{said, beside}
use denote.RawPtr.{Ptr, block_ptr, null_ptr}

-- the type that a block of n bytes is allocated for
abbrev pub bytes_type : ℕ → Ty
bytes_type n = ty_array (ty_int w8) n

-- at p the bytes xs, room for n more behind them, and the right to give the whole block back
abbrev pub cells_own : Global → Ptr → List ℕ → ℕ → Fml
cells_own a (block_ptr b o) xs n =
    fsep (flt (length xs + n) (2 ^ 63)) (fsep (cells (mem u8) xs b o)
    (fsep (froom (bytes_type n) b (length xs + o)) (ghosts.dealloc_token a (bytes_type (length xs + n)) (block_ptr b o))))
cells_own a null_ptr xs n = ffalse

-- what the holder of a `&` to it has
abbrev pub cells_lent : Ptr → List ℕ → ℕ → Lft → Fml
cells_lent (block_ptr b o) xs n = beside (said (flt (length xs + n) (2 ^ 63))) (elements_shared u8 xs b o)
cells_lent null_ptr xs n = said ffalse
