-- Four texts are read, one after another.
use Rattle.std.proofs.Common.{◌≡◌, ℕ, ◌+◌, List, Option, ◌∙◌, arith}
use Rattle.fd_site.specs.Contents.{file_of}
use Rattle.fd_imgfile.specs.declared.front.Front.{Front}
use Rattle.fd_imgfile.proofs.Segments.{read_to, texts_read}
use Rattle.fd_imgfile.proofs.read.read_texts.Goals as goal

pub returns-clause-texts : goal.returns-clause-texts
returns-clause-texts g c =
    let h : Front = c.args.front.now in
    let a : ℕ = c.args.at in
    let i : ℕ = a + h.host in
    let j : ℕ = i + h.version in
    let k : ℕ = j + h.panic in
    let end : ℕ = a + (h.host + h.version + h.panic + h.msgbuf) in
    let told-2 : (g.S.Site.seen c.read_bytes.new.site).told ≡ (g.S.Site.seen c.args.site.now).told = c.in_ok-read_bytes.ensures.untouched.told in
    let told-3 : (g.S.Site.seen c.read_bytes-2.new.site).told ≡ (g.S.Site.seen c.args.site.now).told = c.in_ok-read_bytes-2.ensures.untouched.told ∙ told-2 in
    let told-4 : (g.S.Site.seen c.read_bytes-3.new.site).told ≡ (g.S.Site.seen c.args.site.now).told = c.in_ok-read_bytes-3.ensures.untouched.told ∙ told-3 in
    λ w is.
    let file : Option (List ℕ) = file_of w c.args.name.now in
    texts_read file _ _ _ _ a i j k end (omega arith) (omega arith) (omega arith) (omega arith)
    (read_to file _ _ _ _ a i (c.in_ok-read_bytes.ensures.bytes w is) c.new.ensures (omega arith) (omega arith))
    (read_to file _ _ _ _ i j (c.in_ok-read_bytes-2.ensures.bytes w (told-2 ∙ is)) c.new-2.ensures (omega arith) (omega arith))
    (read_to file _ _ _ _ j k (c.in_ok-read_bytes-3.ensures.bytes w (told-3 ∙ is)) c.new-3.ensures (omega arith) (omega arith))
    (read_to file _ _ _ _ k end (c.in_ok-read_bytes-4.ensures.bytes w (told-4 ∙ is)) c.new-4.ensures (omega arith) (omega arith))
