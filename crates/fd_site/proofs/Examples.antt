-- Small cases of the disk model, computed.
use Rattle.std.proofs.Common.{◌≡◌, ℕ, true, false, List, [], ◌∷◌, ◌++◌, replicate, codes, Some, None, refl}
use Rattle.fd_site.specs.Journal.{Entry, Part, Create, Write, Sync, Spoiled, written, kept_sectors, file_after, stable_after}
use Rattle.fd_site.specs.Contents.{whole_part}
use Rattle.fd_site.specs.Cut.{part_cut, stable_at}
use Rattle.fd_site.specs.FileJournal.{file_writes}
use Rattle.fd_site.specs.Name.{is_good_name}

-- a file, two sectors of zeros, and two new ones
abbrev core : List ℕ
core = codes "vmcore.0"

abbrev zeros : List ℕ
zeros = replicate 1024 0

abbrev ones : List ℕ
ones = replicate 1024 1

-- a write that kept its second sector alone, and one whose list of kept sectors is short
second_kept : written zeros 0 ones (false ∷ true ∷ []) ≡ replicate 512 0 ++ replicate 512 1
second_kept = refl

short_list : written zeros 0 ones (true ∷ []) ≡ replicate 512 1 ++ replicate 512 0
short_list = refl

kept : kept_sectors (Create core ∷ Part 512 ones (true ∷ false ∷ []) ∷ []) ≡ record { at = 512; bytes = replicate 512 1 } ∷ []
kept = refl

-- a cut in a write that would have kept both sectors, and one behind it
cut_within : part_cut zeros (whole_part 0 ones ∷ []) 0 (false ∷ true ∷ []) ≡ replicate 512 0 ++ replicate 512 1
cut_within = refl

cut_behind : part_cut zeros (whole_part 0 ones ∷ Create core ∷ []) 1 (true ∷ []) ≡ ones
cut_behind = refl

-- a gap is filled with zeros, a new file is empty, and a spoiled one is what it then is
gap : file_after core None (Create core ∷ Write core 2 (7 ∷ []) ∷ []) ≡ Some (0 ∷ 0 ∷ 7 ∷ [])
gap = refl

made_anew : file_after core (Some (7 ∷ [])) (Create core ∷ []) ≡ Some []
made_anew = refl

spoiled : file_after core (Some (7 ∷ [])) (Write core 1 (8 ∷ []) ∷ Spoiled core None ∷ []) ≡ None
spoiled = refl

other_file : file_after core (Some (7 ∷ [])) (Create (codes "bounds") ∷ []) ≡ Some (7 ∷ [])
other_file = refl

-- a whole file in two pieces, and what it leaves
whole : List Entry
whole = Create core ∷ (file_writes core 0 ((7 ∷ 8 ∷ []) ∷ (9 ∷ []) ∷ []) ++ Sync core ∷ [])

whole_journal : whole ≡ Create core ∷ Write core 0 (7 ∷ 8 ∷ []) ∷ Write core 2 (9 ∷ []) ∷ Sync core ∷ []
unfolding whole
whole_journal = refl

whole_file : file_after core (Some (1 ∷ [])) whole ≡ Some (7 ∷ 8 ∷ 9 ∷ [])
unfolding whole
whole_file = refl

-- a file is stable that has no entry, or whose last one is a sync; a cut within the sync finds it unstable
untouched : stable_after core true (Create (codes "bounds") ∷ []) ≡ true
untouched = refl

synced : stable_after core true (Create core ∷ Write core 0 (7 ∷ []) ∷ Sync core ∷ []) ≡ true
synced = refl

written_again : stable_after core true (Create core ∷ Sync core ∷ Write core 0 (7 ∷ []) ∷ []) ≡ false
written_again = refl

cut_in_sync : stable_at core (Create core ∷ Sync core ∷ []) 1 ≡ false
cut_in_sync = refl

cut_after_sync : stable_at core (Create core ∷ Sync core ∷ []) 2 ≡ true
cut_after_sync = refl

-- names
good : is_good_name core ≡ true
good = refl

partition : is_good_name (codes "dumpdev") ≡ false
partition = refl

hidden : is_good_name (codes ".core") ≡ false
hidden = refl
