-- The text of the bytes, or of the first address that has none.
use Rattle.std.proofs.Common.{◌≡◌, length, ◌∙◌, ap, arith}
use Rattle.std.proofs.lemmas.List.{take_at}
use Rattle.fd_way.specs.ReadText.{read_text}
use Rattle.fd_way.proofs.Printing.{fault_read, whole_text}
use Rattle.fd_way.proofs.print.read_lines.Goals as goal

pub returns-in-Ok-clause-text : goal.returns-in-Ok-clause-text
returns-in-Ok-clause-text g c =
    let long : length c.as_mut_slice.result.now ≡ c.args.length = c.as_mut_slice.ensures.len ∙ c.in_ok-bytes.ensures.len in
    let kept : length c.read.new.out ≡ c.in_ok-bytes.bytes.len = omega (arith, c.as_mut_slice.ensures.len) in
    whole_text _ _ c.args.va c.args.length c.as_mut_slice.result.now c.read.new.out c.in_ok-text-in-Ok.text.items tt long c.requires c.in-Ok.ensures.read
    (c.in_ok-text-in-Ok.ensures ∙ ap (read_text c.args.va) (c.as_slice.ensures.value ∙ take_at c.read.new.out _ c.in_ok-bytes.bytes.len kept))

pub returns-in-Err-Address-clause-text : goal.returns-in-Err-Address-clause-text
returns-in-Err-Address-clause-text g c =
    let long : length c.as_mut_slice.result.now ≡ c.args.length = c.as_mut_slice.ensures.len ∙ c.in_ok-bytes.ensures.len in
    fault_read _ _ c.args.va c.args.length c.as_mut_slice.result.now c.read.new.out c.in_ok-text-in-Err-Address.text.items c.in-Err-Address.field-0 c.in-Err-Address.fault long
    c.requires c.in-Err-Address.field-0-is c.in-Err-Address.ensures.read c.in_ok-text-in-Err-Address.ensures
