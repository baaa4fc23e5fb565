-- How many pages a generated image has, where they stand, and its windows of kernel addresses. All of it is this project's
-- own.
use Rattle.std.specs.Prelude.{ℕ, ◌+◌, ◌-◌, ◌*◌, ◌/◌, ◌%◌, ◌^◌, nat_lt, if◌then◌else◌}
use Rattle.fd_bytes.specs.declared.arch.Arch.{Arch}
use Rattle.fd_bytes.specs.declared.arch.Arch.TheVariants.{Amd64, Arm64, Riscv}
use Rattle.fd_bytes.specs.Profile.{profile_of}
use Rattle.fd_image.specs.declared.parts.Windows.{Windows}

-- the pages of data of the image of a number, and how many of them stand in the first of two segments
abbrev pub data_pages : ℕ → ℕ
data_pages number = 8 + number % 16384

abbrev pub first_pages : ℕ → ℕ
first_pages pages = pages / 2

-- the page tables: one of each height above 0, and last-level tables of 512 entries for all pages of data
abbrev pub upper_tables : Arch → ℕ
upper_tables arch = (profile_of arch).levels - 1

abbrev pub last_tables : ℕ → ℕ
last_tables pages = (pages + 511) / 512

-- the physical addresses of the page tables, and of the pages of data
abbrev pub table_address : ℕ → ℕ
table_address table = 0x8000_0000 + 4096 * table

abbrev pub data_address : (pages page : ℕ) → ℕ
data_address pages page =
    if nat_lt page (first_pages pages) then 0x9000_0000 + 4096 * page else 0xa000_0000 + 4096 * (page - first_pages pages)

-- the first address of the kernel window, and the bytes of the window: those of one last-level table more than there are,
-- or on AMD64 all that one table of the next height reaches
abbrev pub kernel_base : Arch → ℕ
kernel_base Amd64 = 0xffff_fe00_0000_0000
kernel_base Arm64 = 0xffff_0000_0000_0000
kernel_base Riscv = 0xffff_ffc0_0000_0000

abbrev pub kernel_span : Arch → ℕ → ℕ
kernel_span Amd64 pages = 2 ^ 30
kernel_span Arm64 pages = 2 ^ 21 * (last_tables pages + 1)
kernel_span Riscv pages = 2 ^ 21 * (last_tables pages + 1)

-- the direct map of 4 GiB from physical address 0 on, or of 1 GiB from the first table on
abbrev pub windows_of : Arch → ℕ → Windows
windows_of Amd64 pages = record {
  kernbase = kernel_base Amd64;
  kernspan = kernel_span Amd64 pages;
  dmapbase = 0xffff_f800_0000_0000;
  dmapend = 0xffff_f801_0000_0000;
  dmapphys = 0;
}
windows_of Arm64 pages = record {
  kernbase = kernel_base Arm64;
  kernspan = kernel_span Arm64 pages;
  dmapbase = 0xffff_a000_0000_0000;
  dmapend = 0xffff_a000_4000_0000;
  dmapphys = 0x8000_0000;
}
windows_of Riscv pages = record {
  kernbase = kernel_base Riscv;
  kernspan = kernel_span Riscv pages;
  dmapbase = 0xffff_ffd0_0000_0000;
  dmapend = 0xffff_ffd0_4000_0000;
  dmapphys = 0x8000_0000;
}
