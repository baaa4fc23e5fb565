-- How many chunks the minidump of an image has.
use Rattle.std.proofs.Common.{◌^◌, ◌≤◌, arith}
use Rattle.fd_image.specs.Image.{MachineImage, IsValid}
use Rattle.fd_dump.specs.Minidump.{minidump_of}
use Rattle.fd_dump.proofs.Limits.{pages_few, small, window_divided}
use Rattle.fd_dump.proofs.SectionPlaces.{length-file}
use Rattle.fd_dump.proofs.Sizes.{dumped_few, length-avail, length-bits, length-memory, minidump_pages, minidump_some}
use Rattle.fd_netclient.specs.Datagram.{chunks}

pub chunks_few : (m : MachineImage) → IsValid m → chunks (minidump_of m) ≤ 2 ^ 30
chunks_few m valid =
    let limits = small m valid in
    let window = window_divided m valid in
    omega (arith, length-file m valid, length-memory m valid, dumped_few m valid, pages_few m valid, length-avail m.avail, length-bits m)

pub chunks_some : (m : MachineImage) → IsValid m → 1 ≤ chunks (minidump_of m)
chunks_some m valid = omega (arith, minidump_pages m valid, minidump_some m valid)
