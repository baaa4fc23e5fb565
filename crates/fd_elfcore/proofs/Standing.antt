-- What a file has for which an opened ELF core stands.
use Rattle.std.proofs.Common.{◌≡◌, ℕ, ◌+◌, ◌-◌, ◌<◌, ◌≤◌, List, length, Option, Some, None, IfSome, IsSomeAnd, Ok, sym, subst, arith}
use Rattle.fd_elfcore.specs.ElfAnswer.{has_address, segment_with}
use Rattle.fd_elfcore.specs.ElfParts.{HasAddress}
use Rattle.fd_elfcore.specs.Opening.{elf_opened}
use Rattle.fd_elfcore.specs.declared.segment.Segment.{Segment}
use Rattle.fd_elfcore.proofs.Found.{end_within}
use Rattle.fd_elfcore.proofs.Opened.{segments_inside}

-- the bytes of a segment from an address on
pub piece_inside :
    (file : Option (List ℕ)) (segments : List Segment) (segment : Segment) (va count : ℕ) → IsSomeAnd file (λ f. elf_opened f ≡ Ok segments)
    → Some segment ≡ segment_with segments va → HasAddress va segment → count ≤ segment.size - (va - segment.address)
    → IsSomeAnd file (λ f. segment.offset + (va - segment.address) + count ≤ length f)
piece_inside None segments segment va count stands found has few = stands
piece_inside (Some f) segments segment va count stands found has few =
    let ends = end_within (has_address va) segments segment (sym found) in
    let inside = segments_inside f segments stands in
    let from : segment.address ≤ va = has.from in
    let below : va < segment.address + segment.size = has.below in
    omega arith

-- and the whole segment
pub segment_inside :
    (file : Option (List ℕ)) (f : List ℕ) (segments : List Segment) (segment : Segment) (va : ℕ) → IsSomeAnd file (λ f. elf_opened f ≡ Ok segments) → file ≡ Some f
    → Some segment ≡ segment_with segments va → segment.offset + segment.size ≤ length f
segment_inside file f segments segment va stands there found =
    let opens : elf_opened f ≡ Ok segments = subst (λ o. IsSomeAnd o (λ f. elf_opened f ≡ Ok segments)) there stands in
    let ends = end_within (has_address va) segments segment (sym found) in
    let inside = segments_inside f segments opens in
    omega arith

pub of_file : (P : List ℕ → Type 0) (file : Option (List ℕ)) (f : List ℕ) → file ≡ Some f → IfSome file P → P f
of_file P file f there has = subst (λ o. IfSome o P) there has
