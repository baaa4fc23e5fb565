-- What differs between the architectures, in one table: AMD64 long mode with four levels of tables, Arm's 4 KiB granule
-- with four levels, RISC-V Sv39 (the architectures' manuals); and their minidumps (sys/amd64/include, sys/arm64/include
-- and sys/riscv/include, minidump.h; lib/libkvm). The unit and the greatest size of a kernel window are this project's own.
use Rattle.std.specs.Prelude.{◌^◌, true, false}
use Rattle.fd_bytes.specs.declared.arch.Arch.{Arch}
use Rattle.fd_bytes.specs.declared.arch.Arch.TheVariants.{Amd64, Arm64, Riscv}
use Rattle.fd_bytes.specs.declared.profile.Profile.{Profile}

-- where physical addresses end and kernel addresses begin; the levels of page tables; the unit and the greatest size of a
-- kernel window; whether the direct map may begin at another physical address than 0; the current version of a minidump,
-- the height of the entries of its page directory, whether the last-level tables below it are dumped, and whether a reader
-- looks for an address in the kernel window first, and not in the direct map; the machine of its ELF files (EM_X86_64,
-- EM_AARCH64 and EM_RISCV of sys/elf_common.h)
abbrev pub profile_of : Arch → Profile
profile_of Amd64 = record {
  physical_end = 2 ^ 52;
  kernel_start = 0xffff_8000_0000_0000;
  levels = 4;
  window_unit = 2 ^ 30;
  window_limit = 2 ^ 41;
  shifts_direct_map = false;
  minidump_version = 3;
  directory_height = 1;
  dumps_last_tables = true;
  window_is_first = true;
  elf_machine = 62;
}
profile_of Arm64 = record {
  physical_end = 2 ^ 48;
  kernel_start = 0xffff_0000_0000_0000;
  levels = 4;
  window_unit = 2 ^ 21;
  window_limit = 2 ^ 36;
  shifts_direct_map = true;
  minidump_version = 3;
  directory_height = 0;
  dumps_last_tables = false;
  window_is_first = false;
  elf_machine = 183;
}
profile_of Riscv = record {
  physical_end = 2 ^ 56;
  kernel_start = 0xffff_ffc0_0000_0000;
  levels = 3;
  window_unit = 2 ^ 21;
  window_limit = 2 ^ 36;
  shifts_direct_map = true;
  minidump_version = 2;
  directory_height = 0;
  dumps_last_tables = false;
  window_is_first = false;
  elf_machine = 243;
}
