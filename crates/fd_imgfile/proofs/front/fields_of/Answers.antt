-- Fields that are kept spell the bytes, and are within their limits.
use Rattle.std.proofs.Common.{◌≡◌, ℕ, List, slice_range, sym, ◌∙◌, ap, arith, rules}
use Rattle.fd_imgfile.specs.Spelling.{number_of, u32}
use Rattle.fd_imgfile.proofs.Fields.{AreKept, fields_kept, fields_spelled, u32_is}
use Rattle.fd_imgfile.proofs.front.fields_of.Goals as goal

pub returns-clause-spelling : goal.returns-clause-spelling
returns-clause-spelling c =
    let f : List ℕ = c.args.bytes.now in
    let k : AreKept f = fields_kept f c.requires.kept in
    let arch : slice_range f 20 24 ≡ u32 (number_of c.arch_of-arch.result.0 c.arch_of-arch.result.1) = sym c.get_u32_le.ensures.spelling ∙ ap u32 (sym c.arch_of-arch.ensures.number) in
    fields_spelled f _ c.requires.len k.magic (u32_is f 16 1 (omega (arith, c.requires.len)) (λ i. search (rules, c.type_inv.bytes i)) k.version) arch (sym c.get_u32_le-2.ensures.spelling)
    (sym c.get_u32_le-3.ensures.spelling) (sym c.get_u32_le-4.ensures.spelling) (sym c.get_u32_le-5.ensures.spelling) (sym c.get_u32_le-6.ensures.spelling)
    (sym c.get_u32_le-7.ensures.spelling) (sym c.get_u32_le-8.ensures.spelling) (u32_is f 52 0 (omega (arith, c.requires.len)) (λ i. search (rules, c.type_inv.bytes i)) k.zero)
    (sym c.get_u64_le.ensures.spelling) c.windows_in.ensures (sym c.get_u64_le-2.ensures.spelling)

pub returns-clause-limits : goal.returns-clause-limits
returns-clause-limits c =
    let k : AreKept c.args.bytes.now = fields_kept c.args.bytes.now c.requires.kept in
    record {
      segs = omega (arith, k.segs, c.get_u32_le-2.ensures.value);
      avail = omega (arith, k.avail, c.get_u32_le-3.ensures.value);
      wanted = omega (arith, k.wanted, c.get_u32_le-4.ensures.value);
      host = omega (arith, k.host, c.get_u32_le-5.ensures.value);
      version = omega (arith, k.version_text, c.get_u32_le-6.ensures.value);
      panic = omega (arith, k.panic, c.get_u32_le-7.ensures.value);
      msgbuf = omega (arith, k.msgbuf, c.get_u32_le-8.ensures.value);
      paging = c.arch_of-arch.ensures.known;
    }
