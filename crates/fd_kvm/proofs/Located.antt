-- Physical addresses of one page have their bytes one after another in the file.
use Rattle.std.proofs.Common.{◌≡◌, ℕ, ◌+◌, ◌-◌, ◌/◌, ◌%◌, ◌<◌, ◌==◌, min, List, slice_index, Some, None, Ok, Err, ap, sym, ◌∙◌, arith}
use Rattle.std.specs.Option.{option_and_then}
use Rattle.std.specs.List.{position}
use Rattle.fd_mini.specs.declared.address_fault.AddressFault.TheVariants.{NotDumped}
use Rattle.fd_vmcore.specs.Sections.{Sections, opened, page_offset, offset_of_bit}
use Rattle.fd_vmcore.proofs.Opened.{whole, page_inside}
use Rattle.fd_kvm.specs.Answer.{byte_in, by_physical, by_offset}
use Rattle.fd_kvm.specs.Place.{placed}
use Rattle.fd_kvm.specs.Runs.{IsSpan, IsRun}
use Rattle.fd_kvm.specs.declared.span.Span.{Span}
use Rattle.fd_kvm.proofs.Standing.{page_whole}

-- the page is found by its number
same_page : (s : Sections) (pa i : ℕ) → i < 4096 - pa % 4096 → page_offset s (pa + i) ≡ page_offset s pa
same_page s pa i within =
    let same : (pa + i) / 4096 ≡ pa / 4096 = omega arith in
    ap (λ n. option_and_then (offset_of_bit s) (position (λ page. page == n) s.pages)) same

pub undumped : (f : List ℕ) (s : Sections) (va : ℕ) (span : Span) → 0 < span.len → IsSpan (placed f s) va (Ok span) → page_offset s span.pa ≡ None → byte_in f s va ≡ Err (NotDumped va)
undumped f s va span some is none =
    let zero_va : va + 0 ≡ va = omega arith in
    let zero_pa : span.pa + 0 ≡ span.pa = omega arith in
    let here : placed f s va ≡ Ok span.pa = ap (placed f s) (sym zero_va) ∙ is 0 some ∙ ap (λ n. Ok n) zero_pa in
    ap (by_physical f s va) here ∙ ap (by_offset f va span.pa) none

next_byte :
    (f : List ℕ) (s : Sections) (va pa page i : ℕ) → placed f s (va + i) ≡ Ok (pa + i) → page_offset s pa ≡ Some page → i < 4096 - pa % 4096
    → byte_in f s (va + i) ≡ Ok (slice_index f (page + pa % 4096 + i))
next_byte f s va pa page i is found within =
    let place : page + (pa + i) % 4096 ≡ page + pa % 4096 + i = omega arith in
    ap (by_physical f s (va + i)) is ∙ ap (by_offset f (va + i) (pa + i)) (same_page s pa i within ∙ found) ∙ ap (λ n. Ok (slice_index f n)) place

pub dumped :
    (f : List ℕ) (s : Sections) (va : ℕ) (span : Span) (page : ℕ) → opened f ≡ Ok s → IsSpan (placed f s) va (Ok span) → page_offset s span.pa ≡ Some page
    → IsRun f (byte_in f s) va (record { place = page + span.pa % 4096; len = min span.len (4096 - span.pa % 4096) })
dumped f s va span page stands is found =
    let room = page_inside f s span.pa page (whole f s stands) found in
    let begins = page_whole s span.pa page found in
    record {
      inside = omega arith;
      bytes = λ i within. next_byte f s va span.pa page i (is i (omega arith)) found (omega arith);
    }
