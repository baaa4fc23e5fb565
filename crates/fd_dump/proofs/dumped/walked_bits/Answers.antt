-- The bits are set of the wanted pages, then of the mapped ones, then of the tables.
use Rattle.std.proofs.Common.{◌≡◌, ◌∙◌, ℕ, List, Bool, false, ◌&&◌, length, replicate, ap}
use Rattle.std.specs.Prelude.{◌==◌}
use Rattle.std.specs.List.{list_any}
use Rattle.std.proofs.lemmas.List.{length-replicate}
use Rattle.fd_dump.specs.Dumped.{is_wanted, is_mapped, is_last_table, dumps_last_tables}
use Rattle.fd_dump.specs.Marks.{marked}
use Rattle.fd_dump.proofs.Limits.{direct_map_low}
use Rattle.fd_dump.proofs.Dumping.{marked_is_dumped}
use Rattle.fd_dump.proofs.dumped.walked_bits.Goals as goal

pub mark_wanted-requires-clause-low : goal.mark_wanted-requires-clause-low
mark_wanted-requires-clause-low g c = rw c.windows-windows.ensures.value (direct_map_low c.args.image.now c.windows-windows.ensures.valid)

-- no bit is set at first
fresh : (bits : ℕ) (pages : List ℕ) (map : List Bool) → bits ≡ length pages → map ≡ replicate bits false → map ≡ replicate (length pages) false
fresh bits pages map count clear = clear ∙ ap (λ n. replicate n false) count

pub mark_mapped-requires : goal.mark_mapped-requires
mark_mapped-requires g c =
    let new = fresh c.bits.result c.args.avail.now c.in_ok-map.map c.bits.ensures.count c.in_ok-map.ensures in
    record {
      serves = c.requires.serves;
      windows = c.windows-windows.ensures.value;
      low = rw c.windows-windows.ensures.value (direct_map_low c.args.image.now c.windows-windows.ensures.valid);
      bits = c.mark_wanted.ensures.bits ∙ ap length new ∙ length-replicate (length c.args.avail.now) false;
    }

pub mark_dumped_tables-requires : goal.mark_dumped_tables-requires
mark_dumped_tables-requires g c =
    let new = fresh c.bits.result c.args.avail.now c.in_ok-map.map c.bits.ensures.count c.in_ok-map.ensures in
    record {
      serves = c.requires.serves;
      windows = c.windows-windows.ensures.value;
      low = rw c.windows-windows.ensures.value (direct_map_low c.args.image.now c.windows-windows.ensures.valid);
      bits = c.mark_mapped.ensures.bits ∙ c.mark_wanted.ensures.bits ∙ ap length new ∙ length-replicate (length c.args.avail.now) false;
    }

pub returns : goal.returns
returns g c =
    let new = fresh c.bits.result c.args.avail.now c.in_ok-map.map c.bits.ensures.count c.in_ok-map.ensures in
    c.mark_dumped_tables.ensures.marks
    ∙ ap (marked c.windows-windows.result (λ page. dumps_last_tables c.args.image.now.arch && is_last_table c.args.image.now page) c.args.avail.now)
    (c.mark_mapped.ensures.marks
    ∙ ap (marked c.windows-windows.result (is_mapped c.args.image.now) c.args.avail.now)
    (c.mark_wanted.ensures.marks
    ∙ ap (λ wanted. marked c.windows-windows.result (λ address. list_any (λ page. page == address) wanted) c.args.avail.now c.in_ok-map.map) c.wanted.ensures.value
    ∙ ap (marked c.windows-windows.result (is_wanted c.args.image.now) c.args.avail.now) new))
    ∙ marked_is_dumped c.args.image.now c.windows-windows.result c.args.avail.now c.windows-windows.ensures.valid c.windows-windows.ensures.value c.requires.pages
