use Rattle.std.proofs.Common.{◌≡◌, ◌<◌, ◌/◌, length, rules, refl}
use Rattle.fd_part.proofs.Progress.{stops_before, stops_within}
use Rattle.fd_part.proofs.writes.write_bytes.Goals as goal

pub returns-then-left-eq0-clause-stopped : goal.returns-then-left-eq0-clause-stopped
returns-then-left-eq0-clause-stopped g c =
    let none : c.args.left ≡ 0 = search rules in
    let short : c.args.left < length c.args.bytes.now / 512 = search rules in
    stops_before c.args.at c.args.bytes.now c.args.left _ _ none short refl

pub returns-clause-stopped : goal.returns-clause-stopped
returns-clause-stopped g c =
    let short : c.args.left < length c.args.bytes.now / 512 = search rules in
    stops_within c.args.at c.args.bytes.now c.args.left _ _ short c.in_ok-write_part-2.ensures.ok
