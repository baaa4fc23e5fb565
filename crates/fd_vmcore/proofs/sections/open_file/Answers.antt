-- The file is too short, its header page is refused, or its sections are read.
use Rattle.std.proofs.Common.{sym, ◌∙◌}
use Rattle.fd_site.specs.Contents.{file_of}
use Rattle.fd_vmcore.proofs.Openings.{without_page, refused_page, taken_page, bitmap_within}
use Rattle.fd_vmcore.proofs.sections.open_file.Goals as goal

pub returns-then-len-lt4096-clause-opening : goal.returns-then-len-lt4096-clause-opening
returns-then-len-lt4096-clause-opening g c told is = without_page (file_of told c.args.name.now) c.args.len (c.requires.len told is) c.if-len-lt4096.true

pub open_sections-requires-clause-limit : goal.open_sections-requires-clause-limit
open_sections-requires-clause-limit g c = bitmap_within c.read_file.new.out c.in-Ok.header (sym c.in-Ok.ensures)

pub returns-in-Ok-clause-opening : goal.returns-in-Ok-clause-opening
returns-in-Ok-clause-opening g c told is =
    taken_page (file_of told c.args.name.now) c.args.len c.read_file.new.out c.in-Ok.header c.open_sections.result
    (c.requires.len told is) c.if-len-lt4096.false (c.in_ok-read_file.ensures.bytes told is) (sym c.in-Ok.ensures)
    (c.open_sections.ensures.opening told (c.in_ok-read_file.ensures.untouched.told ∙ is))

pub returns-in-Err-clause-opening : goal.returns-in-Err-clause-opening
returns-in-Err-clause-opening g c told is =
    refused_page (file_of told c.args.name.now) c.args.len c.read_file.new.out c.in-Err.fault (c.requires.len told is) c.if-len-lt4096.false
    (c.in_ok-read_file.ensures.bytes told is) (sym c.in-Err.ensures)
