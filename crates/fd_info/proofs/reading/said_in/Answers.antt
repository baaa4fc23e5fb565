use Rattle.std.proofs.Common.{[], codes, refl, sym, ◌∙◌}
use Rattle.fd_info.specs.Info.{info_text, line}
use Rattle.fd_info.proofs.Escapes.{device_cut, printable_one_line}
use Rattle.fd_info.proofs.reading.said_in.Goals as goal

pub returns-clause-said : goal.returns-clause-said
unfolding info_text
returns-clause-said c info said typed is =
    let h = info.header in
    let s0 = c.new-lines.ensures ∙ sym is in
    let device = c.value.ensures.value info.device _ (printable_one_line info.device said.device.printable) s0 in
    let s1 = c.value.ensures.rest info.device _ (printable_one_line info.device said.device.printable) s0 in
    let architecture = c.text-architecture.ensures.text h.architecture _ typed.architecture s1 in
    let s2 = c.text-architecture.ensures.rest h.architecture _ typed.architecture s1 in
    let architectureversion = c.small_number-architectureversion.ensures.number h.architectureversion _ typed.architectureversion s2 in
    let s3 = c.small_number-architectureversion.ensures.rest h.architectureversion _ typed.architectureversion s2 in
    let dumplength = c.number-dumplength.ensures.number h.dumplength _ typed.dumplength s3 in
    let s4 = c.number-dumplength.ensures.rest h.dumplength _ typed.dumplength s3 in
    let blocksize = c.small_number-blocksize.ensures.number h.blocksize _ typed.blocksize s4 in
    let s5 = c.small_number-blocksize.ensures.rest h.blocksize _ typed.blocksize s4 in
    let s6 = c.value-none.ensures.rest (codes "none") _ refl s5 in
    let dumptime = c.number-dumptime.ensures.number h.dumptime _ typed.dumptime s6 in
    let s7 = c.number-dumptime.ensures.rest h.dumptime _ typed.dumptime s6 in
    let hostname = c.text-hostname.ensures.text h.hostname _ typed.hostname s7 in
    let s8 = c.text-hostname.ensures.rest h.hostname _ typed.hostname s7 in
    let s9 = c.value-magic.ensures.rest (codes "FreeBSD Kernel Dump") _ refl s8 in
    let versionstring = c.text-versionstring.ensures.text h.versionstring _ typed.versionstring s9 in
    let s10 = c.text-versionstring.ensures.rest h.versionstring _ typed.versionstring s9 in
    let panicstring = c.text-panicstring.ensures.text h.panicstring _ typed.panicstring s10 in
    let s11 = c.text-panicstring.ensures.rest h.panicstring _ typed.panicstring s10 in
    let parity = c.word-parity.ensures.word info.parity _ typed.parity s11 in
    let s12 = c.word-parity.ensures.rest info.parity _ typed.parity s11 in
    let number = c.small_number-number.ensures.number info.number (line (codes "  Dump Status: ") (codes "good") []) typed.number s12 in
    (λ i. record {
      header = record {
        architecture = architecture i;
        architectureversion = architectureversion i;
        dumplength = dumplength i;
        dumptime = dumptime i;
        dumpkeysize = sym said.plain.dumpkeysize i;
        blocksize = blocksize i;
        hostname = hostname i;
        versionstring = versionstring i;
        panicstring = panicstring i;
        compression = sym said.plain.compression i;
        dumpextent = (dumplength ∙ sym said.plain.dumpextent) i;
      };
      device = (c.cut-device.ensures ∙ device_cut c.value.result.now info.device device said.device) i;
      parity = parity i;
      number = number i;
    })
