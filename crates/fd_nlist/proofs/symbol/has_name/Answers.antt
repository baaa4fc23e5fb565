-- The name is past the strings' end, goes on behind the other's length, or ends there.
use Rattle.std.proofs.Common.{◌≡◌, ◌+◌, length, get_or, refl, sym, ◌∙◌}
use Rattle.fd_nlist.proofs.Names.{name_past_end, name_goes_on, name_ends, nothing_past}
use Rattle.fd_nlist.proofs.symbol.has_name.Goals as goal
use Rattle.fd_nlist.proofs.symbol.has_name.Goals.{else-end-strings-via-then-end-strings+else-strings-end-ne0, else-end-strings-via-else-end-strings}

pub returns-then-strings-end : goal.returns-then-strings-end
returns-then-strings-end c =
    sym (name_past_end c.args.name.now c.args.strings.now c.args.place (c.args.place + length c.args.name.now) refl c.if-strings-end.true)

pub returns-then-strings-end-ne0 : goal.returns-then-strings-end-ne0
returns-then-strings-end-ne0 c =
    sym (name_goes_on c.args.name.now c.args.strings.now c.args.place (c.args.place + length c.args.name.now) refl c.if-strings-end-ne0.true)

pub returns : goal.returns
returns c =
    let end = c.args.place + length c.args.name.now in
    let ends : get_or c.args.strings.now end 0 ≡ 0 = elim c.else-end-strings.branch [
      | else-end-strings-via-then-end-strings+else-strings-end-ne0 w ↦ w.if-strings-end-ne0.false
      | else-end-strings-via-else-end-strings w ↦ nothing_past c.args.strings.now end w.if-end-strings.false
    ] in
    c.eq.ensures ∙ name_ends c.args.name.now c.args.strings.now c.args.place end c.requires.some c.requires.text refl c.if-strings-end.false ends
