-- The file is too short, its header is refused, or its section headers are read.
use Rattle.std.proofs.Common.{sym, ◌∙◌}
use Rattle.fd_site.specs.Contents.{file_of}
use Rattle.fd_nlist.proofs.Openings.{without_header, refused_header, taken_header}
use Rattle.fd_nlist.proofs.symbols.open_file.Goals as goal

pub returns-then-len-clause-opening : goal.returns-then-len-clause-opening
returns-then-len-clause-opening g c told is = without_header (file_of told c.args.name.now) c.args.len (c.requires.len told is) c.if-len.true

pub returns-in-Ok-clause-opening : goal.returns-in-Ok-clause-opening
returns-in-Ok-clause-opening g c told is =
    taken_header (file_of told c.args.name.now) c.args.len c.read_file.new.out c.in-Ok.header c.open_sections.result
    (c.requires.len told is) c.if-len.false (c.in_ok-read_file.ensures.bytes told is) (sym c.in-Ok.ensures.header)
    (c.open_sections.ensures.opening told (c.in_ok-read_file.ensures.untouched.told ∙ is))

pub returns-in-Err-clause-opening : goal.returns-in-Err-clause-opening
returns-in-Err-clause-opening g c told is =
    refused_header (file_of told c.args.name.now) c.args.len c.read_file.new.out c.in-Err.place (c.requires.len told is) c.if-len.false
    (c.in_ok-read_file.ensures.bytes told is) (sym c.in-Err.ensures.header)
