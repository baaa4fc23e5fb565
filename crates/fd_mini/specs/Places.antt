-- Where the sections of a minidump begin: after the header page the message buffer, the ranges of available memory
-- (dump_avail), the bitmap, the page directory and the dumped pages.
use Rattle.std.specs.Prelude.{ℕ, ◌+◌, ◌*◌, ◌/◌}
use Rattle.fd_mini.specs.declared.header.MiniHeader.{MiniHeader}
use Rattle.fd_mini.specs.declared.places.Places.{Places}

-- the least multiple of 4096 that isn't below a size
abbrev pub rounded_up : ℕ → ℕ
rounded_up size = (size + 4095) / 4096 * 4096

-- each section begins where the one before ends, whose size is rounded up
abbrev pub places_of : MiniHeader → Places
places_of h =
    let avail = 4096 + rounded_up h.msgbufsize in
    let bitmap = avail + rounded_up h.dumpavailsize in
    let directory = bitmap + rounded_up h.bitmapsize in
    record {
      msgbuf = 4096;
      avail = avail;
      bitmap = bitmap;
      directory = directory;
      pages = directory + rounded_up h.pmapsize;
    }
