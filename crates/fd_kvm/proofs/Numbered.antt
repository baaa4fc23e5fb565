-- The pages of a file have numbers, by their places in it.
use Rattle.std.proofs.Common.{◌≡◌, ℕ, ◌+◌, ◌*◌, Bool, true, false, if◌then◌else◌, Option, Some, None, take, refl, arith}
use Rattle.std.specs.Option.{option_and_then}
use Rattle.fd_bitmap.specs.Bits.{set_count}
use Rattle.fd_bitmap.specs.Pages.{bit_of}
use Rattle.fd_vmcore.specs.Sections.{Sections, page_offset, offset_of_bit, has_bit}
use Rattle.fd_vmcore.proofs.Opened.{one_more_set}
use Rattle.fd_kvm.specs.Parts.{HasNumber, first_place}
use Rattle.fd_kvm.specs.declared.page.Page.{Page}

numbered_if : (s : Sections) (found : Bool) (bit place : ℕ) (page : Page) → has_bit s.bits bit ≡ found →
    (if found then Some (first_place s + 4096 * set_count (take bit s.bits)) else None) ≡ Some place → page.offset ≡ place →
    HasNumber s page
numbered_if s false bit place page set is same = absurd (cc)
numbered_if s true bit place page set is same =
    let e : first_place s + 4096 * set_count (take bit s.bits) ≡ place = cc in
    record {
      number = set_count (take bit s.bits);
      place = omega arith;
      marked = let more = one_more_set s.bits bit set in omega arith;
    }

pub numbered_bit : (s : Sections) (bit place : ℕ) (page : Page) → offset_of_bit s bit ≡ Some place → page.offset ≡ place → HasNumber s page
numbered_bit s bit place page is same = numbered_if s (has_bit s.bits bit) bit place page refl is same

numbered_by : (s : Sections) (bit : Option ℕ) (place : ℕ) (page : Page) → option_and_then (offset_of_bit s) bit ≡ Some place → page.offset ≡ place → HasNumber s page
numbered_by s None place page is same = absurd (cc)
numbered_by s (Some bit) place page is same = numbered_bit s bit place page is same

pub numbered : (s : Sections) (pa place : ℕ) (page : Page) → page_offset s pa ≡ Some place → page.offset ≡ place → HasNumber s page
numbered s pa place page is same = numbered_by s (bit_of s.pages pa) place page is same
