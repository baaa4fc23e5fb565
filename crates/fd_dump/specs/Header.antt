-- The dump header of a machine image (struct kerneldumpheader of sys/kerneldump.h).
use Rattle.std.specs.Prelude.{ℕ, length}
use Rattle.fd_bytes.specs.Arch.{name_of, header_version_of}
use Rattle.fd_bytes.specs.Label.{cut_text, cut_version_text}
use Rattle.fd_image.specs.Image.{MachineImage}
use Rattle.fd_kdh.specs.declared.header.Header.{Header}
use Rattle.fd_dump.specs.Minidump.{minidump_of}

-- the header of an image's dump on a device with such blocks: neither compressed nor encrypted, with texts as long as
-- their fields hold
abbrev pub header_of : MachineImage → (block : ℕ) → Header
header_of m block = record {
  architecture = name_of m.arch;
  architectureversion = header_version_of m.arch;
  dumplength = length (minidump_of m);
  dumptime = m.texts.time;
  dumpkeysize = 0;
  blocksize = block;
  hostname = cut_text 64 m.texts.host;
  versionstring = cut_version_text 192 m.texts.version;
  panicstring = cut_text 175 m.texts.panic;
  compression = 0;
  dumpextent = length (minidump_of m);
}
