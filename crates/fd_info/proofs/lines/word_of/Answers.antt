use Rattle.std.proofs.Common.{◌/◌, ◌%◌, ◌∙◌, arith}
use Rattle.fd_info.proofs.Escapes.{IsWord, word_joined, word_spelled}
use Rattle.fd_info.proofs.lines.word_of.Goals as goal

pub returns-in-len8 : goal.returns-in-len8
returns-in-len8 c word small is =
    let s : IsWord word c.args.digits.now = word_spelled word c.args.digits.now is in
    c.from_be_bytes.ensures
    ∙ word_joined word c.byte_of.result c.byte_of-in-len8.result c.byte_of-in-len8-2.result c.byte_of-in-len8-3.result small
    (c.byte_of.ensures (word / 16777216 % 256) (omega arith) s.h0 s.l0)
    (c.byte_of-in-len8.ensures (word / 65536 % 256) (omega arith) s.h1 s.l1)
    (c.byte_of-in-len8-2.ensures (word / 256 % 256) (omega arith) s.h2 s.l2)
    (c.byte_of-in-len8-3.ensures (word % 256) (omega arith) s.h3 s.l3)

pub returns-in_default : goal.returns-in_default
returns-in_default c word small is =
    let s : IsWord word c.args.digits.now = word_spelled word c.args.digits.now is in
    absurd (omega (arith, s.eight))

pub returns-in_default-2 : goal.returns-in_default-2
returns-in_default-2 c word small is =
    let s : IsWord word c.args.digits.now = word_spelled word c.args.digits.now is in
    absurd (omega (arith, s.eight))
