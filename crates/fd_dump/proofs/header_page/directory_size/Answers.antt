-- The kernel window has at most 2^24 entries.
use Rattle.std.proofs.Common.{◌≡◌, ◌∙◌, ◌/◌, ◌≤◌, ◌^◌, ap, arith}
use Rattle.fd_pte.specs.Architecture.{directory_height_of}
use Rattle.fd_pte.specs.Entry.{bytes_under}
use Rattle.fd_dump.specs.Minidump.{entry_count}
use Rattle.fd_dump.proofs.Limits.{window_divided}
use Rattle.fd_dump.proofs.header_page.directory_size.Goals as goal

pub overflow_cast-result : goal.overflow_cast-result
overflow_cast-result c =
    let is : c.windows.result.kernspan / c.entry_span.result ≡ entry_count c.args.image.now =
    ap (λ w. w.kernspan / c.entry_span.result) c.windows.ensures.value
    ∙ ap (λ unit. c.args.image.now.windows.kernspan / unit) (c.entry_span.ensures ∙ ap (λ arch. bytes_under (directory_height_of arch)) c.arch.ensures.value) in
    let few : entry_count c.args.image.now ≤ 2 ^ 24 = (window_divided c.args.image.now c.arch.ensures.valid).entries in
    omega arith

pub overflow_mul-result : goal.overflow_mul-result
overflow_mul-result c =
    let is : c.windows.result.kernspan / c.entry_span.result ≡ entry_count c.args.image.now =
    ap (λ w. w.kernspan / c.entry_span.result) c.windows.ensures.value
    ∙ ap (λ unit. c.args.image.now.windows.kernspan / unit) (c.entry_span.ensures ∙ ap (λ arch. bytes_under (directory_height_of arch)) c.arch.ensures.value) in
    let few : entry_count c.args.image.now ≤ 2 ^ 24 = (window_divided c.args.image.now c.arch.ensures.valid).entries in
    omega arith
