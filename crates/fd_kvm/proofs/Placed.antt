-- Addresses that one entry of the directory maps, or the direct map, stand for physical addresses one after another.
use Rattle.std.proofs.Common.{◌≡◌, ℕ, ◌+◌, ◌-◌, ◌*◌, ◌/◌, ◌%◌, ◌<◌, ◌≤◌, true, false, not, ◌||◌, nat_le, nat_lt, min, inl, inr, List, Some, Result, Ok, Err, sym, ap, ◌∙◌, arith}
use Rattle.std.proofs.lemmas.Bool.{and_parts, and_from, and_cases, and_left, and_right, or_cases, or_left, or_right, or_parts, not-true, ltb-true}
use Rattle.std.proofs.lemmas.Bool.{ltb-false, leb-true, leb-false, lt-ltb, le-ltb, lt-leb, le-leb, cases_Bool, cases_lt, both_ways, or_from}
use Rattle.std.proofs.lemmas.Bool.Decides.{nat_tests}
use Rattle.std.proofs.lemmas.Nat.{pow_pos}
use Rattle.fd_bytes.specs.Field.{u64_le_at}
use Rattle.fd_bytes.specs.declared.arch.Arch.{Arch}
use Rattle.fd_pte.specs.Architecture.{kind_of}
use Rattle.fd_pte.specs.declared.entry.Kind.{Kind}
use Rattle.fd_pte.specs.declared.entry.Kind.TheVariants.{Leaf}
use Rattle.fd_mini.specs.declared.header.MiniHeader.{MiniHeader}
use Rattle.fd_mini.specs.declared.address_fault.AddressFault.{AddressFault}
use Rattle.fd_mini.specs.declared.address_fault.AddressFault.TheVariants.{Outside}
use Rattle.fd_mini.specs.Layout.{entry_height_of, unit_of}
use Rattle.fd_mini.specs.Places.{places_of}
use Rattle.fd_vmcore.specs.Sections.{Sections}
use Rattle.fd_kvm.specs.Place.{entry_index, is_in_kernel_window, is_in_direct_map, window_is_first, by_table_entry}
use Rattle.fd_kvm.specs.Place.{by_table, table_entry, by_entry, by_directory, by_direct_map, directory_entry, placed}
use Rattle.fd_kvm.specs.Runs.{IsSpan, is_by_window, unit_offset, up_to, window_limit}
use Rattle.fd_kvm.specs.declared.fault.ReadFault.{ReadFault}
use Rattle.fd_kvm.specs.declared.fault.ReadFault.TheVariants.{Address, SiteFault}
use Rattle.fd_kvm.proofs.Choice.{chosen_window, chosen_direct, chosen_none}
use Rattle.fd_kvm.proofs.Quotients.{same_quotient, next_remainder, quotient_grows}

-- what an address in the kernel window is
pub in_window : (h : MiniHeader) (va : ℕ) → is_in_kernel_window h va ≡ true → (h.kernbase ≤ va) × (entry_index h va < h.pmapsize / 8)
in_window h va is =
    let both = and_parts (nat_le h.kernbase va) (nat_lt (entry_index h va) (h.pmapsize / 8)) is in
    (leb-true h.kernbase va both.0, ltb-true (entry_index h va) (h.pmapsize / 8) both.1)

window_at : (h : MiniHeader) (va : ℕ) → h.kernbase ≤ va → entry_index h va < h.pmapsize / 8 → is_in_kernel_window h va ≡ true
window_at h va low below = and_from (nat_le h.kernbase va) (nat_lt (entry_index h va) (h.pmapsize / 8)) (le-leb h.kernbase va low) (lt-ltb (entry_index h va) (h.pmapsize / 8) below)

pub by_window_in : (h : MiniHeader) (va : ℕ) → is_by_window h va ≡ true → is_in_kernel_window h va ≡ true
by_window_in h va is = (and_parts (is_in_kernel_window h va) (window_is_first h || not (is_in_direct_map h va)) is).0

-- no address up to a bound is past it
below_bound : (va bound i : ℕ) → i < up_to va bound → va < bound → va + i < bound
below_bound va bound i within below = grind (arith, nat_tests)

below_min : (i a b : ℕ) → i < min a b → (i < a) × (i < b)
below_min i a b within = (omega arith, omega arith)

-- an address behind one that isn't in the direct map, and not past where that begins, isn't in it
out_of_direct : (h : MiniHeader) (va i : ℕ) → is_in_direct_map h va ≡ false → i < up_to va h.dmapbase → is_in_direct_map h (va + i) ≡ false
out_of_direct h va i out within =
    elim (and_cases (nat_le h.dmapbase va) (nat_lt va h.dmapend) out) [
      | inl low ↦ and_left (nat_le h.dmapbase (va + i)) (nat_lt (va + i) h.dmapend) (lt-leb h.dmapbase (va + i) (below_bound va h.dmapbase i within (leb-false h.dmapbase va low)))
      | inr high ↦ and_right (nat_le h.dmapbase (va + i)) (nat_lt (va + i) h.dmapend) (le-ltb (va + i) h.dmapend (let past = ltb-false va h.dmapend high in omega arith))
    ]

module _ (h : MiniHeader) (va i : ℕ) (low : h.kernbase ≤ va) (within : i < unit_of h - unit_offset h va) where
  step : va + i - h.kernbase ≡ va - h.kernbase + i
  step = omega arith

  in_unit : (va - h.kernbase) % unit_of h + i < unit_of h
  in_unit = omega arith

  pub same_index : entry_index h (va + i) ≡ entry_index h va
  same_index = ap (λ n. n / unit_of h) step ∙ same_quotient (va - h.kernbase) i (unit_of h) in_unit

  pub next_offset : (va + i - h.kernbase) % unit_of h ≡ unit_offset h va + i
  next_offset = ap (λ n. n % unit_of h) step ∙ next_remainder (va - h.kernbase) i (unit_of h) in_unit

-- the kernel window is asked for the later addresses too
still_by_window : (h : MiniHeader) (va i : ℕ) → is_by_window h va ≡ true → i < window_limit h va → is_by_window h (va + i) ≡ true
still_by_window h va i is within =
    let both = and_parts (is_in_kernel_window h va) (window_is_first h || not (is_in_direct_map h va)) is in
    let inside = in_window h va both.0 in
    let few = below_min i (unit_of h - unit_offset h va) (up_to va h.dmapbase) within in
    let same = same_index h va i inside.0 few.0 in
    let window = window_at h (va + i) (omega (arith, inside.0)) (omega (arith, inside.1, same)) in
    and_from (is_in_kernel_window h (va + i)) (window_is_first h || not (is_in_direct_map h (va + i))) window
    (elim (or_cases (window_is_first h) (not (is_in_direct_map h va)) both.1) [
      | inl first ↦ or_left (window_is_first h) (not (is_in_direct_map h (va + i))) first
      | inr out ↦ or_right (window_is_first h) (not (is_in_direct_map h (va + i))) (ap (λ b. not b) (out_of_direct h va i (not-true (is_in_direct_map h va) out) few.1))
    ])

-- an address is mapped by the directory's entry
pub by_window_here :
    (f : List ℕ) (s : Sections) (va : ℕ) (kind : Kind) → is_by_window s.header va ≡ true
    → kind ≡ kind_of s.header.arch (directory_entry f s.header va) (entry_height_of s.header) → placed f s va ≡ by_entry f s va kind
unfolding placed
by_window_here f s va kind is entry =
    chosen_window (window_is_first s.header) (is_in_kernel_window s.header va) (is_in_direct_map s.header va) (by_directory f s va) (by_direct_map s.header va) (Err (Outside va)) is
    ∙ ap (by_entry f s va) (sym entry)

-- and so are those behind it
pub by_window :
    (f : List ℕ) (s : Sections) (va i : ℕ) (kind : Kind) → is_by_window s.header va ≡ true
    → kind ≡ kind_of s.header.arch (directory_entry f s.header va) (entry_height_of s.header) → i < window_limit s.header va
    → placed f s (va + i) ≡ by_entry f s (va + i) kind
by_window f s va i kind is entry within =
    let h = s.header in
    let inside = in_window h va (by_window_in h va is) in
    let few = below_min i (unit_of h - unit_offset h va) (up_to va h.dmapbase) within in
    let same = same_index h va i inside.0 few.0 in
    by_window_here f s (va + i) kind (still_by_window h va i is within)
    (entry ∙ ap (λ n. kind_of h.arch (u64_le_at f ((places_of h).directory + 8 * n)) (entry_height_of h)) (sym same))

-- the addresses of a page that a table's entry maps
pub page_next :
    (f : List ℕ) (arch : Arch) (va i place address : ℕ) → kind_of arch (table_entry f place va) 0 ≡ Leaf address → i < 4096 - va % 4096
    → by_table f arch (va + i) (Some place) ≡ Ok (address + va % 4096 + i)
page_next f arch va i place address leaf within =
    let same : (va + i) / 4096 ≡ va / 4096 = omega arith in
    let next : address + (va + i) % 4096 ≡ address + va % 4096 + i = omega arith in
    ap (λ n. by_table_entry (va + i) (kind_of arch (u64_le_at f (place + 8 * (n % 512))) 0)) same ∙ ap (by_table_entry (va + i)) leaf ∙ ap (λ n. Ok n) next

-- an address before one in the kernel window is in it, if it isn't below where that begins
not_below : (va bound i : ℕ) → i < up_to va bound → bound ≤ va + i → bound ≤ va
not_below va bound i within low =
    elim (cases_lt va bound) [
      | inl below ↦ absurd (let e = below_bound va bound i within below in omega arith)
      | inr above ↦ above
    ]

earlier_in_window : (h : MiniHeader) (va i : ℕ) → is_in_kernel_window h (va + i) ≡ true → i < up_to va h.kernbase → is_in_kernel_window h va ≡ true
earlier_in_window h va i later within =
    let inside = in_window h (va + i) later in
    let low = not_below va h.kernbase i within inside.0 in
    let grows : entry_index h va ≤ entry_index h (va + i) = quotient_grows (va - h.kernbase) (va + i - h.kernbase) (unit_of h) (pow_pos (12 + 9 * entry_height_of h)) (omega arith) in
    window_at h va low (omega (arith, inside.1))

-- the kernel window isn't asked for the later addresses of the direct map either
not_asked : (h : MiniHeader) (va i : ℕ) → is_by_window h va ≡ false → is_in_direct_map h va ≡ true → is_in_direct_map h (va + i) ≡ true → i < up_to va h.kernbase → is_by_window h (va + i) ≡ false
not_asked h va i is direct next within =
    let first = window_is_first h in
    let out : not (is_in_direct_map h (va + i)) ≡ false = ap (λ b. not b) next in
    elim (cases_Bool (is_in_kernel_window h (va + i))) [
      | inr outside ↦ and_left (is_in_kernel_window h (va + i)) (first || not (is_in_direct_map h (va + i))) outside
      | inl inside ↦ elim (and_cases (is_in_kernel_window h va) (first || not (is_in_direct_map h va)) is) [
        | inl outside ↦ absurd (both_ways (is_in_kernel_window h va) outside (earlier_in_window h va i inside within))
        | inr neither ↦ and_right (is_in_kernel_window h (va + i)) (first || not (is_in_direct_map h (va + i)))
            (or_from first (not (is_in_direct_map h (va + i))) (or_parts first (not (is_in_direct_map h va)) neither).0 out)
      ]
    ]

still_direct : (h : MiniHeader) (va i : ℕ) → is_in_direct_map h va ≡ true → i < h.dmapend - va → is_in_direct_map h (va + i) ≡ true
still_direct h va i direct within =
    let both = and_parts (nat_le h.dmapbase va) (nat_lt va h.dmapend) direct in
    let low = leb-true h.dmapbase va both.0 in
    and_from (nat_le h.dmapbase (va + i)) (nat_lt (va + i) h.dmapend) (le-leb h.dmapbase (va + i) (omega arith)) (lt-ltb (va + i) h.dmapend (omega arith))

-- the addresses of the direct map
pub direct_next :
    (f : List ℕ) (s : Sections) (va i : ℕ) → is_by_window s.header va ≡ false → is_in_direct_map s.header va ≡ true
    → i < min (s.header.dmapend - va) (up_to va s.header.kernbase) → placed f s (va + i) ≡ Ok (va - s.header.dmapbase + s.header.dmapphys + i)
unfolding placed
direct_next f s va i is direct within =
    let h = s.header in
    let few = below_min i (h.dmapend - va) (up_to va h.kernbase) within in
    let next = still_direct h va i direct few.0 in
    let low = leb-true h.dmapbase va (and_parts (nat_le h.dmapbase va) (nat_lt va h.dmapend) direct).0 in
    let sum : va + i - h.dmapbase + h.dmapphys ≡ va - h.dmapbase + h.dmapphys + i = omega arith in
    chosen_direct (window_is_first h) (is_in_kernel_window h (va + i)) (is_in_direct_map h (va + i)) (by_directory f s (va + i)) (by_direct_map h (va + i))
    (Err (Outside (va + i))) (not_asked h va i is direct next few.1) next
    ∙ ap (λ n. Ok n) sum

-- an address in neither
pub outside : (f : List ℕ) (s : Sections) (va : ℕ) → is_by_window s.header va ≡ false → is_in_direct_map s.header va ≡ false → placed f s va ≡ Err (Outside va)
unfolding placed
outside f s va is direct =
    chosen_none (window_is_first s.header) (is_in_kernel_window s.header va) (is_in_direct_map s.header va) (by_directory f s va) (by_direct_map s.header va) (Err (Outside va)) is direct

-- The kind that was found is the kind of the directory's entry.
pub kind_found :
    (f : List ℕ) (s : Sections) (va : ℕ) (h : MiniHeader) (directory index bits height : ℕ) (kind : Kind) → h ≡ s.header
    → directory ≡ (places_of s.header).directory → index ≡ entry_index h va → bits ≡ u64_le_at f (directory + 8 * index) → height ≡ entry_height_of h
    → kind ≡ kind_of h.arch bits height → kind ≡ kind_of s.header.arch (directory_entry f s.header va) (entry_height_of s.header)
kind_found f s va h directory index bits height kind same_header same_directory same_index read low is =
    is
    ∙ ap (kind_of h.arch bits) low
    ∙ ap (λ (g : MiniHeader). kind_of g.arch bits (entry_height_of g)) same_header
    ∙ ap (λ b. kind_of s.header.arch b (entry_height_of s.header)) (read ∙ ap (λ n. u64_le_at f (n + 8 * index)) same_directory
    ∙ ap (λ n. u64_le_at f ((places_of s.header).directory + 8 * n)) (same_index ∙ ap (λ (g : MiniHeader). entry_index g va) same_header))

-- A fault of the entry is the address's fault.
pub fault_here : (placed_at by_kind : ℕ → Result ℕ AddressFault) (va : ℕ) (fault : ReadFault) → placed_at va ≡ by_kind va → IsSpan by_kind va (Err fault) → IsSpan placed_at va (Err fault)
fault_here placed_at by_kind va (Address fault) same is = same ∙ is
fault_here placed_at by_kind va SiteFault same is = tt
