-- The symbol here is the first of those from here on, or it is among those behind.
use Rattle.std.proofs.Common.{◌/◌, Some, length, sym, ap, ◌∙◌}
use Rattle.std.specs.Option.{option_map}
use Rattle.fd_nlist.specs.Symbols.{entry_at, is_named, symbol_of}
use Rattle.fd_nlist.proofs.Rest.{found_here, found_later}
use Rattle.fd_nlist.proofs.symbol.first_symbol.Goals as goal

pub returns-then-is_named : goal.returns-then-is_named
returns-then-is_named c =
    let test = is_named c.args.name.now in
    let f = entry_at c.args.symbols.now c.args.strings.now in
    let here = found_here test f c.loop-index.index (length c.args.symbols.now / 24) c.loop-index-test.true (sym c.is_named.ensures ∙ c.if-is_named.true) in
    ap Some (c.symbol_at.ensures c.args.strings.now) ∙ (ap (option_map symbol_of) (sym here) ∙ c.loop-index.invariant)

pub loop-index-preserved : goal.loop-index-preserved
loop-index-preserved c =
    let test = is_named c.args.name.now in
    let f = entry_at c.args.symbols.now c.args.strings.now in
    let later = found_later test f c.loop-index.index (length c.args.symbols.now / 24) c.loop-index-test.true (sym c.is_named.ensures ∙ c.if-is_named.false) in
    ap (option_map symbol_of) (sym later) ∙ c.loop-index.invariant
