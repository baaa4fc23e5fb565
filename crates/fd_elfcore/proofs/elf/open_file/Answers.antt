-- The file is too short, its header isn't taken, or its segments are read.
use Rattle.std.proofs.Common.{sym, ◌∙◌}
use Rattle.fd_site.specs.Contents.{file_of}
use Rattle.fd_elfcore.specs.ElfParts.{items_of}
use Rattle.fd_elfcore.proofs.Opened.{refused_header, taken_header, without_header}
use Rattle.fd_elfcore.proofs.elf.open_file.Goals as goal

pub returns-then-len-lt64-clause-opening : goal.returns-then-len-lt64-clause-opening
returns-then-len-lt64-clause-opening g c told is = without_header (file_of told c.args.name.now) c.args.len (c.requires.len told is) c.if-len-lt64.true

pub returns-in-Some-clause-opening : goal.returns-in-Some-clause-opening
returns-in-Some-clause-opening g c told is =
    refused_header (file_of told c.args.name.now) c.args.len c.read_file.new.out c.in-Some.place (c.requires.len told is) c.if-len-lt64.false
    (c.in_ok-read_file.ensures.bytes told is) (sym c.in-Some.ensures)

pub returns-in-None-clause-opening : goal.returns-in-None-clause-opening
returns-in-None-clause-opening g c told is =
    taken_header (file_of told c.args.name.now) c.args.len c.get_u16_le.result c.read_file.new.out (items_of c.open_segments.result)
    (c.requires.len told is) c.if-len-lt64.false (c.in_ok-read_file.ensures.bytes told is) (sym c.in-None.ensures) c.get_u16_le.ensures.value
    (c.open_segments.ensures.opening told (c.in_ok-read_file.ensures.untouched.told ∙ is))
