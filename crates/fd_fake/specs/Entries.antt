-- What the entries of a journal in memory mean.
use Rattle.std.specs.Prelude.{List, map}
use Rattle.std.specs.String.{string_bytes}
use Rattle.fd_site.specs.Contents.{whole_part}
use Rattle.fd_site.specs.Journal as journal
use Rattle.fd_fake.specs.declared.entry.Entry.{Entry}
use Rattle.fd_fake.specs.declared.entry.Entry.TheVariants.{Part, Create, Write, Sync}

abbrev pub meaning : Entry → journal.Entry
meaning (Part at bytes) = whole_part at bytes.items
meaning (Create name) = journal.Create (string_bytes name)
meaning (Write name at bytes) = journal.Write (string_bytes name) at bytes.items
meaning (Sync name) = journal.Sync (string_bytes name)

abbrev pub entries : List Entry → List journal.Entry
entries es = map meaning es
