-- What is found from here on is found in all.
use Rattle.std.proofs.Common.{◌≡◌, ◌/◌, length}
use Rattle.std.specs.Option.{option_map}
use Rattle.fd_nlist.proofs.Rest.{found_from}
use Rattle.fd_nlist.specs.Symbols.{entries_in, entry_at, first_symbol, is_named, symbol_of}
use Rattle.fd_nlist.proofs.symbol.first_symbol.Given as goal

abbrev pub invariant-loop-index : goal.invariant-loop-index
invariant-loop-index l =
    option_map symbol_of (found_from (is_named l.name) (entry_at l.symbols l.strings) l.index (length l.symbols / 24))
    ≡ first_symbol (entries_in l.symbols l.strings) l.name
