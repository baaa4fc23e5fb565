use Rattle.std.proofs.Common.{◌≡◌, List, ℕ, ◌++◌, codes, refl, sym, ◌∙◌, ap}
use Rattle.std.proofs.lemmas.List.{append-nil}
use Rattle.std.specs.Fmt.{decimal}
use Rattle.fd_info.specs.Info.{escaped, info_text, word_digits}
use Rattle.fd_info.proofs.Lined.{next_line}
use Rattle.fd_info.proofs.printing.print_info.Goals as goal

pub returns : goal.returns
unfolding info_text
returns c =
    let h = c.args.header.now in
    let whole : List ℕ = info_text h c.args.device.now c.args.parity c.args.number in
    let s0 : c.new-text.result.items ++ whole ≡ whole = ap (λ (l : List ℕ). l ++ whole) c.new-text.ensures in
    let s1 = next_line _ _ (codes "Dump header from device: ") _ c.args.device.now _ whole c.put_line.ensures.items refl s0 in
    let s2 = next_line _ _ (codes "  Architecture: ") _ (escaped h.architecture) _ whole c.put_text.ensures.items (ap escaped c.bytes.ensures.bytes) s1 in
    let s3 = next_line _ _ (codes "  Architecture Version: ") _ (decimal h.architectureversion) _ whole c.put_number.ensures.items (ap decimal c.from.ensures) s2 in
    let s4 = next_line _ _ (codes "  Dump Length: ") _ (decimal h.dumplength) _ whole c.put_number-2.ensures.items refl s3 in
    let s5 = next_line _ _ (codes "  Blocksize: ") _ (decimal h.blocksize) _ whole c.put_number-3.ensures.items (ap decimal c.from-2.ensures) s4 in
    let s6 = next_line _ _ (codes "  Compression: ") _ (codes "none") _ whole c.put_line-2.ensures.items refl s5 in
    let s7 = next_line _ _ (codes "  Dumptime: ") _ (decimal h.dumptime) _ whole c.put_number-4.ensures.items refl s6 in
    let s8 = next_line _ _ (codes "  Hostname: ") _ (escaped h.hostname) _ whole c.put_text-2.ensures.items (ap escaped c.bytes-2.ensures.bytes) s7 in
    let s9 = next_line _ _ (codes "  Magic: ") _ (codes "FreeBSD Kernel Dump") _ whole c.put_line-3.ensures.items refl s8 in
    let s10 = next_line _ _ (codes "  Version String: ") _ (escaped h.versionstring) _ whole c.put_text-3.ensures.items (ap escaped c.bytes-3.ensures.bytes) s9 in
    let s11 = next_line _ _ (codes "  Panic String: ") _ (escaped h.panicstring) _ whole c.put_text-4.ensures.items (ap escaped c.bytes-4.ensures.bytes) s10 in
    let s12 = next_line _ _ (codes "  Dump Parity: 0x") _ (word_digits c.args.parity) _ whole c.put_word.ensures.items refl s11 in
    let s13 = next_line _ _ (codes "  Bounds: ") _ (decimal c.args.number) _ whole c.put_number-5.ensures.items (ap decimal c.from-3.ensures) s12 in
    let s14 = next_line _ _ (codes "  Dump Status: ") _ (codes "good") _ whole c.put_line-4.ensures.items refl s13 in
    sym (append-nil c.put_line-4.new.text.items) ∙ s14
