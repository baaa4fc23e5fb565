-- The section headers were read and name the two tables.
use Rattle.std.proofs.Common.{◌∙◌}
use Rattle.fd_site.specs.Contents.{file_of}
use Rattle.fd_nlist.proofs.Openings.{read_tables}
use Rattle.fd_nlist.proofs.symbols.open_sections.Goals as goal

pub returns-in-Ok-clause-opening : goal.returns-in-Ok-clause-opening
returns-in-Ok-clause-opening g c told is f there =
    read_tables (file_of told c.args.name.now) f c.args.len c.sections_size-size.result c.args.header.now c.in_ok-headers.headers.items
    c.deref.result.now c.deref-2.result.now c.in-Some.symbols c.in-Ok.tables c.open_tables.result
    (c.requires.len told is) there c.sections_size-size.ensures.size c.if-len-need.false
    (c.in_ok-headers.ensures.bytes told is f there) c.deref.ensures.value c.deref-2.ensures.value
    c.in-Some.ensures.first c.in-Ok.ensures.tables
    (c.open_tables.ensures.opening told (c.in_ok-headers.ensures.untouched.told ∙ is) f there)
