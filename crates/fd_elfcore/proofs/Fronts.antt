-- The bytes of some addresses, then those of the addresses behind them.
use Rattle.std.proofs.Common.{◌≡◌, ℕ, zero, suc, ◌+◌, ◌-◌, ◌^◌, ◌<◌, ◌≤◌, List, [], ◌∷◌, ◌++◌, length, get_or}
use Rattle.std.proofs.Common.{slice_index, take, drop, slice_range, Some, None, Result, Ok, Err, refl, sym, ap, ◌∙◌, arith}
use Rattle.std.proofs.lemmas.List.{append-nil, drop_all, drop_more, take_at, drop_at, length-take-le, length-drop, drop-drop}
use Rattle.std.proofs.Math.Seq.{take-add}
use Rattle.std.proofs.lemmas.Bool.Decides.{nat_tests}
use borrow.Rule.Slice.PartMut.{put_mid}
use Rattle.fd_mini.specs.Kernel.{KernelBytes, byte_before, bytes_from, kernel_bytes}
use Rattle.fd_mini.specs.declared.address_fault.AddressFault.{AddressFault}
use Rattle.fd_mini.specs.declared.address_fault.AddressFault.TheVariants as of_address
use Rattle.fd_elfcore.specs.Elf.{IsElfRead}
use Rattle.fd_elfcore.specs.ElfAnswer.{byte_of, elf_byte, segment_with}
use Rattle.fd_elfcore.specs.ElfParts.{HasAddress, IsElfFront, IsElfStep}
use Rattle.fd_elfcore.specs.declared.elf_fault.ElfReadFault.{ElfReadFault}
use Rattle.fd_elfcore.specs.declared.elf_fault.ElfReadFault.TheVariants.{Absent, PastTop, SiteFault}
use Rattle.fd_elfcore.specs.declared.segment.Segment.{Segment}

not_past : (byte_at : ℕ → Result ℕ AddressFault) (va count : ℕ) → va + count ≤ 2 ^ 64 → kernel_bytes byte_at va count ≡ bytes_from byte_at va count
not_past byte_at va count low = grind (arith, nat_tests)

-- bytes that follow one another in the file
pub bytes_of_run :
    (f : List ℕ) (byte_at : ℕ → Result ℕ AddressFault) (va place count : ℕ) → ((i : ℕ) → i < count → byte_at (va + i) ≡ Ok (slice_index f (place + i)))
    → place + count ≤ length f → bytes_from byte_at va count ≡ record { bytes = take count (drop place f); fault = None }
unfolding bytes_from
bytes_of_run f byte_at va place zero each inside = refl
bytes_of_run f byte_at va place (suc count) each inside =
    let zero_va : va + 0 ≡ va = omega arith in
    let zero_place : place + 0 ≡ place = omega arith in
    let first : byte_at va ≡ Ok (get_or f place 0) = ap byte_at (sym zero_va) ∙ each 0 (omega arith) ∙ ap (λ n. Ok (get_or f n 0)) zero_place in
    let later = bytes_of_run f byte_at (va + 1) (place + 1) count (λ i below.
    let next_va : va + 1 + i ≡ va + suc i = omega arith in
    let next_place : place + suc i ≡ place + 1 + i = omega arith in
    ap byte_at next_va ∙ each (suc i) (omega arith) ∙ ap (λ n. Ok (get_or f n 0)) next_place) (omega arith) in
    let front : KernelBytes = record { bytes = take count (drop (place + 1) f); fault = None } in
    ap (λ r. byte_before r (bytes_from byte_at (va + 1) count)) first
    ∙ ap (byte_before (Ok (get_or f place 0))) later
    ∙ ap (λ (l : List ℕ). record { bytes = take (suc count) l; fault = None }) (sym (drop_more f place 0 (omega arith)))

-- some bytes, then what the addresses behind them give
abbrev pub followed_by : List ℕ → KernelBytes → KernelBytes
followed_by bytes later = record { bytes = bytes ++ later.bytes; fault = later.fault }

followed-byte :
    (byte_at : Result ℕ AddressFault) (one both later : KernelBytes) (bytes : List ℕ) → byte_before byte_at one ≡ record { bytes = bytes; fault = None }
    → ((rest : List ℕ) → one ≡ record { bytes = rest; fault = None } → both ≡ followed_by rest later) → byte_before byte_at both ≡ followed_by bytes later
followed-byte (Err fault) one both later bytes is rest = absurd (let e : Some fault ≡ None = ap (λ (k : KernelBytes). k.fault) is in cc)
followed-byte (Ok byte) one both later bytes is rest =
    let none : one.fault ≡ None = ap (λ (k : KernelBytes). k.fault) is in
    let list : byte ∷ one.bytes ≡ bytes = ap (λ (k : KernelBytes). k.bytes) is in
    let same : one ≡ record { bytes = one.bytes; fault = None } = ap (λ o. record { bytes = one.bytes; fault = o }) none in
    ap (byte_before (Ok byte)) (rest one.bytes same) ∙ ap (λ l. followed_by l later) list

pub bytes_then :
    (byte_at : ℕ → Result ℕ AddressFault) (va count more : ℕ) (bytes : List ℕ) → bytes_from byte_at va count ≡ record { bytes = bytes; fault = None }
    → bytes_from byte_at va (count + more) ≡ followed_by bytes (bytes_from byte_at (va + count) more)
unfolding bytes_from
bytes_then byte_at va zero more bytes is =
    let none : [] ≡ bytes = ap (λ (k : KernelBytes). k.bytes) is in
    let zero_more : 0 + more ≡ more = omega arith in
    let zero_va : va ≡ va + 0 = omega arith in
    ap (bytes_from byte_at va) zero_more ∙ ap (λ a. bytes_from byte_at a more) zero_va ∙ ap (λ l. followed_by l (bytes_from byte_at (va + 0) more)) none
bytes_then byte_at va (suc count) more bytes is =
    let next : suc count + more ≡ suc (count + more) = omega arith in
    let next_va : va + 1 + count ≡ va + suc count = omega arith in
    ap (bytes_from byte_at va) next
    ∙ followed-byte (byte_at va) (bytes_from byte_at (va + 1) count) (bytes_from byte_at (va + 1) (count + more)) (bytes_from byte_at (va + suc count) more) bytes is (λ rest front.
    bytes_then byte_at (va + 1) count more rest front ∙ ap (λ a. followed_by rest (bytes_from byte_at a more)) next_va)

-- a fault of the first address
pub fault_first :
    (byte_at : ℕ → Result ℕ AddressFault) (va count : ℕ) (fault : AddressFault) → 0 < count → byte_at va ≡ Err fault
    → bytes_from byte_at va count ≡ record { bytes = []; fault = Some fault }
unfolding bytes_from
fault_first byte_at va zero fault some is = absurd (omega arith)
fault_first byte_at va (suc count) fault some is = ap (λ r. byte_before r (bytes_from byte_at (va + 1) count)) is

-- no bytes yet
pub front_none : (byte_at : ℕ → Result ℕ AddressFault) (va : ℕ) (old : List ℕ) → IsElfFront byte_at va old old 0
unfolding bytes_from
front_none byte_at va old = record { bytes = refl; rest = refl }

-- more bytes behind those at the front
pub front_more :
    (byte_at : ℕ → Result ℕ AddressFault) (va at count : ℕ) (old new rest : List ℕ) → IsElfFront byte_at va old new at → at ≤ length new
    → IsElfFront byte_at (va + at) (drop at new) rest count → IsElfFront byte_at va old (take at new ++ rest) (at + count)
front_more byte_at va at count old new rest front inside more =
    let whole : length (take at new) ≡ at = length-take-le at new inside in
    let split : take (at + count) (take at new ++ rest) ≡ take at new ++ take count rest =
    take-add at count (take at new ++ rest) ∙ ap (λ l. l ++ take count (drop at (take at new ++ rest))) (take_at (take at new) rest at whole)
    ∙ ap (λ l. take at new ++ take count l) (drop_at (take at new) rest at whole) in
    record {
      bytes =
          bytes_then byte_at va at count (take at new) front.bytes
          ∙ ap (followed_by (take at new)) more.bytes
          ∙ ap (λ (l : List ℕ). record { bytes = l; fault = None }) (sym split);
      rest =
          sym (drop-drop count at (take at new ++ rest))
          ∙ ap (drop count) (drop_at (take at new) rest at whole)
          ∙ more.rest
          ∙ ap (drop count) front.rest
          ∙ drop-drop count at old;
    }

-- what a write to the rest of a buffer leaves
pub rest_written : (out rest : List ℕ) (at : ℕ) → put_mid at (length out - at) out rest ≡ take at out ++ rest
rest_written out rest at =
    ap (λ (l : List ℕ). take at out ++ (rest ++ l)) (drop_all (length out - at) (drop at out) (omega (arith, length-drop at out))) ∙ ap (λ (l : List ℕ). take at out ++ l) (append-nil rest)

-- a read that ended at an address that no segment has, or at a fault of the site
pub ended_read :
    (byte_at : ℕ → Result ℕ AddressFault) (va at : ℕ) (old new rest : List ℕ) (fault : ElfReadFault) → IsElfFront byte_at va old new at → length new ≡ length old
    → at < length new → va + length old ≤ 2 ^ 64 → IsElfStep byte_at (va + at) (drop at new) rest (Err fault)
    → IsElfRead (kernel_bytes byte_at va (length old)) old (take at new ++ rest) (Err fault)
ended_read byte_at va at old new rest SiteFault front same inside low step = tt
ended_read byte_at va at old new rest PastTop front same inside low step = absurd step
ended_read byte_at va at old new rest (Absent absent) front same inside low step =
    let fault : AddressFault = of_address.Outside (va + at) in
    let count = length old - at in
    let split : length old ≡ at + count = omega arith in
    let whole : length (take at new ++ []) ≡ at = ap (λ (l : List ℕ). length l) (append-nil (take at new)) ∙ length-take-le at new (omega arith) in
    let all : kernel_bytes byte_at va (length old) ≡ record { bytes = take at new ++ []; fault = Some fault } =
    not_past byte_at va (length old) low ∙ ap (bytes_from byte_at va) split ∙ bytes_then byte_at va at count (take at new) front.bytes
    ∙ ap (followed_by (take at new)) (fault_first byte_at (va + at) count fault (omega arith) step.1) in
    let kept : take at new ++ rest ≡ (take at new ++ []) ++ drop (length (take at new ++ [])) old =
    ap (λ l. take at new ++ l) (step.2 ∙ front.rest) ∙ ap (λ l. l ++ drop at old) (sym (append-nil (take at new))) ∙ ap (λ n. (take at new ++ []) ++ drop n old) (sym whole) in
    (ap (λ (k : KernelBytes). k.fault) all ∙ ap (λ n. Some (of_address.Outside n)) (sym step.0), kept ∙ ap (λ (l : List ℕ). l ++ drop (length l) old) (sym (ap (λ (k : KernelBytes). k.bytes) all)))

-- a read that ended with all bytes
pub whole_read :
    (byte_at : ℕ → Result ℕ AddressFault) (va at : ℕ) (old new : List ℕ) → IsElfFront byte_at va old new at → length new ≡ length old → at ≤ length new → length new ≤ at
    → va + length old ≤ 2 ^ 64 → (let k : KernelBytes = kernel_bytes byte_at va (length old) in (k.fault ≡ None) × (new ≡ k.bytes))
whole_read byte_at va at old new front same inside past low =
    let end : length old ≡ at = omega arith in
    let full : take at new ≡ new = ap (λ n. take n new) (let e : at ≡ length new + 0 = omega arith in e) ∙ take_whole new in
    let all : kernel_bytes byte_at va (length old) ≡ record { bytes = take at new; fault = None } = not_past byte_at va (length old) low ∙ ap (bytes_from byte_at va) end ∙ front.bytes in
    (ap (λ (k : KernelBytes). k.fault) all, sym (ap (λ (k : KernelBytes). k.bytes) all ∙ full))
  where
    take_whole : (l : List ℕ) → take (length l + 0) l ≡ l
    take_whole [] = refl
    take_whole (x ∷ l) = let e : length (x ∷ l) + 0 ≡ suc (length l + 0) = omega arith in ap (λ n. take n (x ∷ l)) e ∙ ap (λ m. x ∷ m) (take_whole l)

-- a range that ends past 2^64
pub past_read : (byte_at : ℕ → Result ℕ AddressFault) (va : ℕ) (old : List ℕ) → 2 ^ 64 < va + length old → IsElfRead (kernel_bytes byte_at va (length old)) old old (Err PastTop)
past_read byte_at va old past =
    let all : kernel_bytes byte_at va (length old) ≡ record { bytes = []; fault = Some of_address.PastTop } = grind (arith, nat_tests) in
    (ap (λ (k : KernelBytes). k.fault) all, refl)

-- bytes of a segment that were read to the front of a buffer
pub front_read :
    (f old read : List ℕ) (segments : List Segment) (segment : Segment) (va count : ℕ) → Some segment ≡ segment_with segments va → HasAddress va segment
    → count ≤ segment.size - (va - segment.address) → count ≤ length old → segment.offset + segment.size ≤ length f
    → ((i : ℕ) → i < count → segment_with segments (va + i) ≡ Some segment)
    → read ≡ slice_range f (segment.offset + (va - segment.address)) (segment.offset + (va - segment.address) + length (take count old))
    → IsElfFront (elf_byte f segments) va old (read ++ drop count old) count
front_read f old read segments segment va count found has few room inside each bytes =
    let place = segment.offset + (va - segment.address) in
    let from : segment.address ≤ va = has.from in
    let below : va < segment.address + segment.size = has.below in
    let end : place + count ≤ length f = omega arith in
    let size : place + length (take count old) - place ≡ count = omega (arith, length-take-le count old room) in
    let same : read ≡ take count (drop place f) = bytes ∙ ap (λ n. take n (drop place f)) size in
    let whole : length read ≡ count = ap (λ (l : List ℕ). length l) same ∙ length-take-le count (drop place f) (omega (arith, length-drop place f)) in
    record {
      bytes = bytes_of_run f (elf_byte f segments) va place count (λ i less.
          ap (byte_of f (va + i)) (each i less) ∙ ap (λ n. Ok (get_or f n 0)) (let e : segment.offset + (va + i - segment.address) ≡ place + i = omega arith in e)) end
          ∙ ap (λ (l : List ℕ). record { bytes = l; fault = None }) (sym same ∙ sym (take_at read (drop count old) count whole));
      rest = drop_at read (drop count old) count whole;
    }
