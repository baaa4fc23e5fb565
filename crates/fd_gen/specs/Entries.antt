-- The page table entries of a generated image. They are of the architectures' forms (AMD64 Architecture Programmer's
-- Manual, volume 2, section 5.3; Arm Architecture Reference Manual, VMSAv8-64 descriptors; RISC-V privileged
-- architecture, Sv39); which attributes they have is this project's own.
use Rattle.std.specs.Prelude.{ℕ, ◌+◌, ◌-◌, ◌*◌, ◌/◌, ◌%◌, ◌^◌, ◌==◌, ◌&&◌, not, nat_lt, if◌then◌else◌}
use Rattle.fd_bytes.specs.declared.arch.Arch.{Arch}
use Rattle.fd_bytes.specs.declared.arch.Arch.TheVariants.{Amd64, Arm64, Riscv}
use Rattle.fd_gen.specs.Layout.{upper_tables, last_tables, table_address, data_address, kernel_base}

-- the entry that names the table at a physical address
abbrev pub table_entry : Arch → ℕ → ℕ
table_entry Amd64 pa = pa + 3
table_entry Arm64 pa = pa + 3
table_entry Riscv pa = pa / 4 + 1

-- the entry that maps a page of data: pages of even number may be written and executed, those of odd number only read
abbrev pub even_page_entry : Arch → ℕ → ℕ
even_page_entry Amd64 pa = pa + 3
even_page_entry Arm64 pa = pa + 0x703
even_page_entry Riscv pa = pa / 4 + 0xcf

abbrev pub odd_page_entry : Arch → ℕ → ℕ
odd_page_entry Amd64 pa = pa + 1 + 2 ^ 63
odd_page_entry Arm64 pa = pa + 0x783 + 2 ^ 53
odd_page_entry Riscv pa = pa / 4 + 0x43

abbrev pub page_entry : Arch → (page pa : ℕ) → ℕ
page_entry arch page pa = if page % 2 == 0 then even_page_entry arch pa else odd_page_entry arch pa

-- the entry that maps 2 MiB
abbrev pub large_entry : Arch → ℕ → ℕ
large_entry Amd64 pa = pa + 0x83
large_entry Arm64 pa = pa + 0x701
large_entry Riscv pa = pa / 4 + 0xcf

-- the index of the kernel window's first address among the entries of a height
abbrev pub kernel_index : Arch → (height : ℕ) → ℕ
kernel_index arch height = kernel_base arch / 2 ^ (12 + 9 * height) % 512

-- a table above height 1 has one entry, which names the next table
abbrev pub upper_entry : Arch → (table index : ℕ) → ℕ
upper_entry arch table index =
    if index == kernel_index arch (upper_tables arch - table) then table_entry arch (table_address (table + 1)) else 0

-- the table of height 1 names all last-level tables, and its next entry maps the first 2 MiB of data once more
abbrev pub directory_entry : Arch → (pages index : ℕ) → ℕ
directory_entry arch pages index =
    if nat_lt index (last_tables pages) then table_entry arch (table_address (upper_tables arch + index))
    else if index == last_tables pages then large_entry arch 0x9000_0000
    else 0

-- the last-level tables map the pages of data in order, but leave out every third
abbrev pub last_entry : Arch → (pages page : ℕ) → ℕ
last_entry arch pages page =
    if nat_lt page pages && not (page % 3 == 2) then page_entry arch page (data_address pages page) else 0

-- each entry of each table
unfoldable pub entry_at : Arch → (pages table index : ℕ) → ℕ
entry_at arch pages table index =
    if nat_lt (table + 1) (upper_tables arch) then upper_entry arch table index
    else if table + 1 == upper_tables arch then directory_entry arch pages index
    else last_entry arch pages (512 * (table - upper_tables arch) + index)
