-- The machine image and the fifteen rules of a valid one. Both are this project's own format.
use Rattle.std.specs.Prelude.{ℕ, suc, ◌+◌, ◌-◌, ◌%◌, ◌^◌, ◌<◌, ◌≡◌, min, max, Bool, true, false, not, ◌&&◌, ◌||◌, ◌==◌}
use Rattle.std.specs.Prelude.{nat_lt, nat_le, if◌then◌else◌, List, [], ◌∷◌, length, map, position, zip, sum_by, All, Option, Some, None}
use Rattle.std.specs.List.{list_any}
use Rattle.fd_bytes.specs.declared.arch.Arch.{Arch}
use Rattle.fd_bytes.specs.declared.arch.Arch.TheVariants.{Amd64, Arm64, Riscv}
use Rattle.fd_bytes.specs.Profile.{profile_of}
use Rattle.fd_image.specs.declared.rules.BadImage.{BadImage}
use Rattle.fd_image.specs.declared.parts.Parts.{Parts}
use Rattle.fd_image.specs.declared.parts.Seg.{Seg}
use Rattle.fd_image.specs.declared.parts.Texts.{Texts}
use Rattle.fd_image.specs.declared.parts.Windows.{Windows}

-- a machine image, valid or not
abbrev pub MachineImage : Type 0
MachineImage = Parts

-- the levels of the image's page tables, and the least address of its kernel window: in Sv48 (the RISC-V privileged
-- architecture) they are four, and the upper half of 48 bits; else they are the architecture's
abbrev pub levels_of : MachineImage → ℕ
levels_of m = if m.sv48 then 4 else (profile_of m.arch).levels

abbrev pub kernel_start_of : MachineImage → ℕ
kernel_start_of m = if m.sv48 then 0xffff_8000_0000_0000 else (profile_of m.arch).kernel_start

-- the first address past a segment, and past the kernel window
abbrev pub end_of : Seg → ℕ
end_of seg = seg.start + length seg.bytes

abbrev pub kernel_end : Windows → ℕ
kernel_end w = w.kernbase + w.kernspan

-- the first physical address past those that the direct map reaches
abbrev pub direct_map_end : Windows → ℕ
direct_map_end w = w.dmapphys + (w.dmapend - w.dmapbase)

abbrev pub is_multiple : ℕ → ℕ → Bool
is_multiple unit n = n % unit == 0

-- a multiple of the page size
abbrev pub is_page_aligned : ℕ → Bool
is_page_aligned n = is_multiple 4096 n

-- Where a rule is broken: the least place of a list, or 0.

-- the least place whose item fails the test
abbrev pub first_failing : {X : Type 0} → (X → Bool) → List X → Option ℕ
first_failing test xs = position (λ x. not (test x)) xs

-- each item beside the number that the item before gives, and the first beside 0
abbrev pub beside_the_one_before : {X : Type 0} → (X → ℕ) → List X → List (ℕ × X)
beside_the_one_before number xs = zip (0 ∷ map number xs) xs

-- place 0, unless the rule is kept
abbrev pub unless : Bool → Option ℕ
unless kept = if kept then None else Some 0

-- The rules, each by the least place that breaks it.

-- 1: there is at least one segment
abbrev pub missing_segment : List Seg → Option ℕ
missing_segment segs = unless (not (length segs == 0))

-- 2: each segment's start and length are multiples of 4096, and its length isn't 0
abbrev pub is_whole_pages : Seg → Bool
is_whole_pages seg = is_page_aligned seg.start && is_page_aligned (length seg.bytes) && not (length seg.bytes == 0)

abbrev pub ragged_segment : List Seg → Option ℕ
ragged_segment segs = first_failing is_whole_pages segs

-- 3: each segment begins at or after the end of the one before
abbrev pub begins_at_or_after : ℕ × Seg → Bool
begins_at_or_after p = nat_le p.0 p.1.start

abbrev pub segment_out_of_order : List Seg → Option ℕ
segment_out_of_order segs = first_failing begins_at_or_after (beside_the_one_before end_of segs)

-- 4: each segment ends at or below the end of physical addresses
abbrev pub segment_past_end : Arch → List Seg → Option ℕ
segment_past_end arch segs = first_failing (λ seg. nat_le (end_of seg) (profile_of arch).physical_end) segs

-- 5: the lengths of the segments add up to at most 2^30, and the counts and the lengths of the texts are within limits
abbrev pub has_texts_within_limits : Texts → Bool
has_texts_within_limits t =
    nat_le (length t.host) 255 && nat_le (length t.version) 1023 && nat_le (length t.panic) 1023 && nat_le (length t.msgbuf) 1048576

abbrev pub is_within_limits : MachineImage → Bool
is_within_limits m =
    nat_le (sum_by (λ seg. length seg.bytes) m.segs) (2 ^ 30) && nat_le (length m.segs) 64 && nat_le (length m.avail) 1024 && nat_le (length m.wanted) 262144 && has_texts_within_limits m.texts

-- 6: there is at least one pair of available memory, and each pair has multiples of 4096 with the start below the end
abbrev pub is_range_of_pages : ℕ × ℕ → Bool
is_range_of_pages p = is_page_aligned p.0 && is_page_aligned p.1 && nat_lt p.0 p.1

abbrev pub ragged_pair : List (ℕ × ℕ) → Option ℕ
ragged_pair avail = if length avail == 0 then Some 0 else first_failing is_range_of_pages avail

-- 7: each pair begins at or after the end of the one before
abbrev pub pair_end : ℕ × ℕ → ℕ
pair_end pair = pair.1

abbrev pub pair_begins_at_or_after : ℕ × (ℕ × ℕ) → Bool
pair_begins_at_or_after p = nat_le p.0 p.1.0

abbrev pub pair_out_of_order : List (ℕ × ℕ) → Option ℕ
pair_out_of_order avail = first_failing pair_begins_at_or_after (beside_the_one_before pair_end avail)

-- 8: each pair lies in one segment
abbrev pub lies_in_segment : List Seg → ℕ × ℕ → Bool
lies_in_segment segs p = list_any (λ seg. nat_le seg.start p.0 && nat_le p.1 (end_of seg)) segs

abbrev pub pair_outside : List Seg → List (ℕ × ℕ) → Option ℕ
pair_outside segs avail = first_failing (lies_in_segment segs) avail

-- 9: each wanted page is a multiple of 4096 and greater than the one before
abbrev pub next_address : ℕ → ℕ
next_address page = page + 1

abbrev pub is_page_at_or_after : ℕ × ℕ → Bool
is_page_at_or_after p = is_page_aligned p.1 && nat_le p.0 p.1

abbrev pub bad_wanted_page : List ℕ → Option ℕ
bad_wanted_page wanted = first_failing is_page_at_or_after (beside_the_one_before next_address wanted)

-- 10: the address of the top table is a multiple of 4096
abbrev pub bad_root : ℕ → Option ℕ
bad_root root = unless (is_page_aligned root)

-- 11: the kernel window begins at a multiple of the unit and has a multiple of it as its size, which isn't 0 and is
-- within its limit; the window ends at 2^64 or below
abbrev pub is_kernel_window : Arch → Windows → Bool
is_kernel_window arch w =
    is_multiple (profile_of arch).window_unit w.kernbase && is_multiple (profile_of arch).window_unit w.kernspan && not (w.kernspan == 0)
    && nat_le w.kernspan (profile_of arch).window_limit && nat_le (kernel_end w) (2 ^ 64)

-- 12: the kernel window begins at or after the first kernel address
abbrev pub is_in_kernel_space : MachineImage → Bool
is_in_kernel_space m = nat_le (kernel_start_of m) m.windows.kernbase

-- 13: the direct map has multiples of 4096, doesn't end before it begins, begins at physical address 0 where the
-- architecture says so, and reaches no physical address past their end
abbrev pub is_direct_map : Arch → Windows → Bool
is_direct_map arch w =
    is_page_aligned w.dmapbase && is_page_aligned w.dmapend && is_page_aligned w.dmapphys && nat_le w.dmapbase w.dmapend
    && ((profile_of arch).shifts_direct_map || (w.dmapphys == 0)) && nat_le (direct_map_end w) (profile_of arch).physical_end

-- 14: the kernel window and the direct map have no address in common: the later start isn't below the earlier end
abbrev pub are_apart : Windows → Bool
are_apart w = nat_le (min (kernel_end w) w.dmapend) (max w.kernbase w.dmapbase)

-- 15: Sv48 is on RISC-V alone
abbrev pub is_riscv : Arch → Bool
is_riscv Amd64 = false
is_riscv Arm64 = false
is_riscv Riscv = true

abbrev pub is_known_paging : Arch → Bool → Bool
is_known_paging arch sv48 = not sv48 || is_riscv arch

-- the least place that breaks each rule, in the order of the rules
unfoldable pub breaches : MachineImage → List (Option ℕ)
breaches m =
    missing_segment m.segs ∷ ragged_segment m.segs ∷ segment_out_of_order m.segs ∷ segment_past_end m.arch m.segs
    ∷ unless (is_within_limits m) ∷ ragged_pair m.avail ∷ pair_out_of_order m.avail ∷ pair_outside m.segs m.avail
    ∷ bad_wanted_page m.wanted ∷ bad_root m.root ∷ unless (is_kernel_window m.arch m.windows) ∷ unless (is_in_kernel_space m)
    ∷ unless (is_direct_map m.arch m.windows) ∷ unless (are_apart m.windows) ∷ unless (is_known_paging m.arch m.sv48) ∷ []

-- the first rule with a place, where the rules are numbered from this number on
abbrev pub first_breach : ℕ → List (Option ℕ) → Option BadImage
first_breach number [] = None
first_breach number (None ∷ later) = first_breach (suc number) later
first_breach number (Some least ∷ later) = Some (record { rule = number; place = least })

-- the first rule that an image breaks, and the least place that breaks it
unfoldable pub broken_rule : MachineImage → Option BadImage
unfolding breaches
broken_rule m = first_breach 1 (breaches m)

-- each number is within the type of its field
abbrev pub AreBytes : List ℕ → Type 0
AreBytes bytes = All (λ b. b < 2 ^ 8) bytes

pub record IsTyped (m : MachineImage) : Type 0 where
  pub segs : All (λ seg. (seg.start < 2 ^ 64) × AreBytes seg.bytes) m.segs
  pub avail : All (λ p. (p.0 < 2 ^ 64) × (p.1 < 2 ^ 64)) m.avail
  pub wanted : All (λ page. page < 2 ^ 64) m.wanted
  pub root : m.root < 2 ^ 64
  pub kernel_window : (m.windows.kernbase < 2 ^ 64) × (m.windows.kernspan < 2 ^ 64)
  pub direct_map : (m.windows.dmapbase < 2 ^ 64) × (m.windows.dmapend < 2 ^ 64) × (m.windows.dmapphys < 2 ^ 64)
  pub names : AreBytes m.texts.host × AreBytes m.texts.version × AreBytes m.texts.panic
  pub msgbuf : AreBytes m.texts.msgbuf
  pub time : m.texts.time < 2 ^ 64

-- a valid image: its numbers are within their types and it keeps the fifteen rules
pub record IsValid (m : MachineImage) : Type 0 where
  pub typed : IsTyped m
  pub unbroken : broken_rule m ≡ None
