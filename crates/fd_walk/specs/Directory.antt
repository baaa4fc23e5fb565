-- The page directory of a minidump.
-- Source: sys/amd64/include/minidump.h, sys/arm64/include/minidump.h and sys/riscv/include/minidump.h, and the kernel's minidump_machdep.c.
use Rattle.std.specs.Prelude.{ℕ, Option, Some, None, List, ◌+◌, ◌*◌, ◌/◌, ◌%◌}
use Rattle.std.specs.List.{flat_map, range_with_len}
use Rattle.std.specs.Int.{w64, to_le_bytes}
use Rattle.fd_pte.specs.Entry.{bytes_under}
use Rattle.fd_walk.specs.PageTables.{PageTables, entry_at}
use Rattle.fd_walk.specs.Leaf.{MappedBy, leaf_at}

-- what a directory's entries are: of which height, and how a larger leaf is expanded
pub record DirectoryForm : Type 0 where
  pub height : ℕ
  pub expansion : ℕ → ℕ → ℕ → ℕ

-- these two as one
abbrev pub directory_form : ℕ → (ℕ → ℕ → ℕ → ℕ) → DirectoryForm
directory_form height expansion = record { height = height; expansion = expansion }

-- a larger leaf as the entry for the unit at an address, and 0 without a leaf
abbrev pub expanded_leaf : DirectoryForm → (va : ℕ) → Option MappedBy → ℕ
expanded_leaf form va None = 0
expanded_leaf form va (Some leaf) = form.expansion leaf.bits leaf.height (va % bytes_under leaf.height / bytes_under form.height)

-- the entry for an address as it is, or else what the leaf at the address is expanded to
abbrev pub entry_or_expanded : DirectoryForm → (va : ℕ) → Option ℕ → Option MappedBy → ℕ
entry_or_expanded form va (Some bits) leaf = bits
entry_or_expanded form va None leaf = expanded_leaf form va leaf

-- the directory's entry for the unit that begins at an address
abbrev pub directory_entry : PageTables → DirectoryForm → ℕ → ℕ
directory_entry t form va = entry_or_expanded form va (entry_at t form.height va) (leaf_at t va)

-- so many entries of the directory, in eight bytes each, the lowest first
unfoldable pub directory_bytes : PageTables → DirectoryForm → (first count : ℕ) → List ℕ
directory_bytes t form first count =
    flat_map (λ unit. to_le_bytes w64 (directory_entry t form (first + unit * bytes_under form.height))) (range_with_len 0 count)
