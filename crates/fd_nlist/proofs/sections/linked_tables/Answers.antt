-- A field of the first three is refused, or one of the others, or none.
use Rattle.std.proofs.Common.{◌≡◌, None, sym, ◌∙◌}
use Rattle.fd_nlist.proofs.Refused.{symbols_refused, strings_refused, none_refused}
use Rattle.fd_elf.specs.Header.{first_refused}
use Rattle.fd_nlist.proofs.sections.linked_tables.Goals as goal

pub returns-in-Some-clause-tables : goal.returns-in-Some-clause-tables
returns-in-Some-clause-tables c =
    symbols_refused c.args.start c.args.headers.now c.args.symbols c.symbol_fields.result c.in-Some.place c.symbol_fields.ensures
    (sym c.first_refused.ensures ∙ c.in-Some.is)

pub returns-in-Some-first_refused-clause-tables : goal.returns-in-Some-first_refused-clause-tables
returns-in-Some-first_refused-clause-tables c =
    let none : first_refused c.symbol_fields.result ≡ None = sym c.first_refused.ensures ∙ c.in_default.is in
    strings_refused c.args.start c.args.headers.now c.args.symbols c.section_at-strings.result c.symbol_fields.result c.string_fields.result
    c.in-Some-first_refused.place c.symbol_fields.ensures none c.section_at-strings.ensures.header c.string_fields.ensures
    (sym c.first_refused-2.ensures ∙ c.in-Some-first_refused.is)

pub returns-in-None-clause-tables : goal.returns-in-None-clause-tables
returns-in-None-clause-tables c =
    let none : first_refused c.symbol_fields.result ≡ None = sym c.first_refused.ensures ∙ c.in_default.is in
    none_refused c.args.start c.args.headers.now c.args.symbols c.section_at-strings.result c.symbol_fields.result c.string_fields.result
    c.symbol_fields.ensures none c.section_at-strings.ensures.header c.string_fields.ensures (sym c.first_refused-2.ensures ∙ c.in-None.is)
