-- Wherever a machine stops while a dump is saved and cleared, the dump is on the partition or in its files.
use Rattle.std.proofs.Common.{◌≡◌, ◌≢◌, ◌⊎◌, inl, inr, ℕ, ◌+◌, ◌-◌, ◌≤◌, Bool, true, false, ◌&&◌, not, IsTrue, List}
use Rattle.std.proofs.Common.{[], ◌∷◌, ◌++◌, length, take, drop, Option, Some, None, is_none, All, Result, Ok, Err}
use Rattle.std.proofs.Common.{refl, sym, ◌∙◌, ap, subst, arith, length-append, length-drop, append_assoc}
use Rattle.std.proofs.lemmas.List.{drop-drop, drop-take, length-take-le, take-append-drop}
use Rattle.fd_site.specs.Begun.{IsBegun}
use Rattle.fd_site.specs.Contents.{Contents, file_of, part_of}
use Rattle.fd_site.specs.Cut.{Disk, IsCut, is_on_first, part_cut, stable_at}
use Rattle.fd_site.specs.Journal.{Entry, Part, file_after, is_on, stable_after}
use Rattle.fd_site.proofs.Cuts.{part_cut-append}
use Rattle.fd_site.proofs.FileJournals.{AllOnFile-whole}
use Rattle.fd_site.proofs.Told.{file_after-append, stable_after-append}
use Rattle.fd_kdh.specs.Header.{cleared_magic, decoded}
use Rattle.fd_kdh.specs.declared.header.Header.{Header}
use Rattle.fd_kdh.specs.declared.header.HeaderFault.{HeaderFault}
use Rattle.fd_info.specs.Bounds.{bounds_text}
use Rattle.fd_info.specs.Info.{info_text}
use Rattle.fd_info.specs.Name.{bounds_name, info_name, vmcore_name}
use Rattle.fd_info.specs.Saved.{IsSaved, IsStable}
use Rattle.fd_part.specs.Partition.{sector_at, trailing_place, trailing_sector}
use Rattle.fd_judge.specs.Verdict.{by_fields, by_header, by_leading, first_of, judged, reasons, taken}
use Rattle.fd_judge.specs.declared.verdict.Verdict.TheVariants as verdict
use Rattle.fd_judge.specs.declared.why.Why.{Why}
use Rattle.fd_save.specs.Crash.{IsSafe, IsSavedName, IsSavedOn, cleared_part}
use Rattle.fd_save.specs.Laws.{IsSavecore, then_adds}
use Rattle.fd_save.specs.Number.{IsFirstFree, IsNumberOf, is_free}
use Rattle.fd_save.specs.Saving.{IsSaveJournal, cleared_sector, clearing, device_name, parity_of}
use Rattle.fd_save.proofs.Places.{trailing_inside}
use Rattle.fd_save.proofs.Offs.{AllOff, AllOff-all, AllOff-append, AllOff-take, Settles, begun_off, drop_behind, file_after-off}
use Rattle.fd_save.proofs.Offs.{file_off, first_off, settles_behind, settles_then, settles_whole, stable_after-off, take_behind}
use Rattle.fd_save.proofs.Torn.{AllFiles, AllFiles-append, AllFiles-one, IsWritten, stays, with_bytes}

-- the sector of a dump that judging finds is the trailing block's first
sector_of_leading : (h h' : Header) (at at' : ℕ) (s s' : List ℕ) (o : Option ℕ) → by_leading h at s o ≡ verdict.Dump h' at' s' → s ≡ s'
sector_of_leading h h' at at' s s' None is = cc
sector_of_leading h h' at at' s s' (Some place) is = absurd (cc)

sector_of_fields : (part : List ℕ) (block : ℕ) (s seen : List ℕ) (h h' : Header) (at' : ℕ) (s' : List ℕ) (o : Option Why)
    → by_fields part block s seen h o ≡ verdict.Dump h' at' s' → s ≡ s'
sector_of_fields part block s seen h h' at' s' (Some why) is = absurd (cc)
sector_of_fields part block s seen h h' at' s' None is = sector_of_leading h h' _ at' s s' _ is

sector_of_header : (part : List ℕ) (block : ℕ) (s seen : List ℕ) (r : Result Header HeaderFault) (h' : Header) (at' : ℕ) (s' : List ℕ)
    → by_header part block s seen r ≡ verdict.Dump h' at' s' → s ≡ s'
sector_of_header part block s seen (Err e) h' at' s' is = absurd (cc)
sector_of_header part block s seen (Ok h) h' at' s' is = sector_of_fields part block s seen h h' at' s' (first_of (reasons h (length part) block)) is

sector_found : (part : List ℕ) (block : ℕ) (force : Bool) (h : Header) (at : ℕ) (sector : List ℕ) → judged part block force ≡ verdict.Dump h at sector
    → trailing_sector part block ≡ sector
sector_found part block force h at sector is =
    sector_of_header part block (trailing_sector part block) (taken force (trailing_sector part block)) (decoded (taken force (trailing_sector part block))) h at sector is

-- so clearing changes its first 20 bytes alone
cleared_is : (part : List ℕ) (at : ℕ) → with_bytes part at (cleared_sector (sector_at part at)) ≡ take at part ++ (cleared_magic ++ drop (at + 20) part)
cleared_is part at =
    let size : at + 512 - at ≡ 512 = omega arith in
    let old : List ℕ = drop at part in
    ap (λ n. take at part ++ ((cleared_magic ++ drop 20 (take n old)) ++ drop (at + 512) part)) size
    ∙ ap (λ (l : List ℕ). take at part ++ l) (append_assoc cleared_magic (drop 20 (take 512 old)) (drop (at + 512) part))
    ∙ ap (λ (l : List ℕ). take at part ++ (cleared_magic ++ (l ++ drop (at + 512) part))) (drop-take 20 492 old)
    ∙ ap (λ (l : List ℕ). take at part ++ (cleared_magic ++ (take 492 (drop 20 old) ++ l))) (sym (drop-drop 512 at part) ∙ sym (drop-drop 492 20 old))
    ∙ ap (λ (l : List ℕ). take at part ++ (cleared_magic ++ l)) (take-append-drop 492 (drop 20 old))
    ∙ ap (λ (l : List ℕ). take at part ++ (cleared_magic ++ l)) (drop-drop 20 at part)

length-cleared : (part : List ℕ) (at : ℕ) → at + 512 ≤ length part → length (cleared_sector (sector_at part at)) ≡ 512
length-cleared part at inside =
    let size : at + 512 - at ≡ 512 = omega arith in
    let sector : length (sector_at part at) ≡ 512 =
    ap (λ n. length (take n (drop at part))) size ∙ length-take-le 512 (drop at part) (omega (arith, length-drop at part)) in
    omega (arith, sector, length-append cleared_magic (drop 20 (sector_at part at)), length-drop 20 (sector_at part at))

-- the names of a saved dump's files are apart
first_byte : List ℕ → ℕ
first_byte [] = 0
first_byte (b ∷ bs) = b

apart : (a b : List ℕ) → first_byte a ≢ first_byte b → a ≢ b
apart a b other same = other (ap first_byte same)

vmcore_info : (n m : ℕ) → vmcore_name n ≢ info_name m
unfolding first_byte
vmcore_info n m = apart (vmcore_name n) (info_name m) (λ e. absurd (omega (arith, e)))

vmcore_bounds : (n : ℕ) → vmcore_name n ≢ bounds_name
unfolding first_byte
vmcore_bounds n = apart (vmcore_name n) bounds_name (λ e. absurd (omega (arith, e)))

info_bounds : (n : ℕ) → info_name n ≢ bounds_name
unfolding first_byte
info_bounds n = apart (info_name n) bounds_name (λ e. absurd (omega (arith, e)))

-- what a whole save settles
module _ (body : List ℕ) (h : Header) (parity n : ℕ) (journal : List Entry) (s : IsSaveJournal body h parity n journal) where
  settles_vmcore : Settles (vmcore_name n) body journal
  settles_vmcore =
      subst (Settles (vmcore_name n) body) (sym s.is)
      (settles_then (vmcore_name n) body s.vmcore (s.info ++ s.bounds) (settles_whole (vmcore_name n) body s.vmcore s.is_vmcore)
      (AllOff-append (vmcore_name n) s.info s.bounds (file_off (vmcore_name n) (info_name n) _ s.info (vmcore_info n n) s.is_info)
      (file_off (vmcore_name n) bounds_name _ s.bounds (vmcore_bounds n) s.is_bounds)))

  settles_info : Settles (info_name n) (info_text h device_name parity n) journal
  settles_info =
      subst (Settles (info_name n) (info_text h device_name parity n)) (sym s.is)
      (settles_behind (info_name n) (info_text h device_name parity n) s.vmcore (s.info ++ s.bounds)
      (settles_then (info_name n) (info_text h device_name parity n) s.info s.bounds (settles_whole (info_name n) (info_text h device_name parity n) s.info s.is_info)
      (file_off (info_name n) bounds_name _ s.bounds (info_bounds n) s.is_bounds)))

  settles_bounds : Settles bounds_name (bounds_text (n + 1)) journal
  settles_bounds =
      subst (Settles bounds_name (bounds_text (n + 1))) (sym s.is)
      (settles_behind bounds_name (bounds_text (n + 1)) s.vmcore (s.info ++ s.bounds)
      (settles_behind bounds_name (bounds_text (n + 1)) s.info s.bounds (settles_whole bounds_name (bounds_text (n + 1)) s.bounds s.is_bounds)))

  all_files : AllFiles journal
  all_files =
      subst AllFiles (sym s.is)
      (AllFiles-append s.vmcore (s.info ++ s.bounds) (AllFiles-one (vmcore_name n) s.vmcore (AllOnFile-whole (vmcore_name n) body s.vmcore s.is_vmcore))
      (AllFiles-append s.info s.bounds (AllFiles-one (info_name n) s.info (AllOnFile-whole (info_name n) _ s.info s.is_info))
      (AllFiles-one bounds_name s.bounds (AllOnFile-whole bounds_name _ s.bounds s.is_bounds))))

  others_off : (q : List ℕ) → q ≢ vmcore_name n → q ≢ info_name n → q ≢ bounds_name → AllOff q journal
  others_off q a b c =
      subst (AllOff q) (sym s.is)
      (AllOff-append q s.vmcore (s.info ++ s.bounds) (file_off q (vmcore_name n) body s.vmcore a s.is_vmcore)
      (AllOff-append q s.info s.bounds (file_off q (info_name n) _ s.info b s.is_info) (file_off q bounds_name _ s.bounds c s.is_bounds)))

-- a settled file stands on each disk that a machine leaves that stops behind
settled_on : (q file : List ℕ) (was : Contents) (files added : List Entry) (last : Entry) (k : ℕ) (these : List Bool) (disk : Disk) → Settles q file files
    → is_on q last ≡ false → added ≡ files ++ last ∷ [] → length was.journal + length files ≤ k → IsCut (then_adds was added) k these disk → disk.files q ≡ Some file
settled_on q file was files added last k these disk settles off is behind cut =
    let m : ℕ = k - (length was.journal + length files) in
    let all : List Entry = was.journal ++ added in
    let done : List Entry = was.journal ++ files in
    let joined : all ≡ done ++ last ∷ [] = ap (λ (l : List Entry). was.journal ++ l) is ∙ sym (append_assoc was.journal files (last ∷ [])) in
    let place : k ≡ length done + m = omega (arith, length-append was.journal files) in
    let taken_is : take k all ≡ done ++ take m (last ∷ []) = (λ i. take (place i) (joined i)) ∙ take_behind done (last ∷ []) m in
    let dropped_is : drop k all ≡ drop m (last ∷ []) = (λ i. drop (place i) (joined i)) ∙ drop_behind done (last ∷ []) m in
    let settled : Settles q file (done ++ take m (last ∷ [])) =
    settles_then q file done (take m (last ∷ [])) (settles_behind q file was.journal files settles) (AllOff-take q m (last ∷ []) (off, tt)) in
    let stable : stable_at q all k ≡ true =
    (λ i. stable_after q true (taken_is i) && not (is_on_first q (dropped_is i))) ∙ (λ i. settled.stable true i && not (first_off q m (last ∷ []) (off, tt) i)) in
    cut.directory q stable
    ∙ ap (λ l. file_after q (was.base_file q) l) taken_is
    ∙ settled.made (was.base_file q)

-- a file that was stable and has no entry is as it was
kept_on : (q file : List ℕ) (was : Contents) (added : List Entry) (k : ℕ) (these : List Bool) (disk : Disk) → AllOff q added → length was.journal ≤ k
    → IsTrue (stable_after q true was.journal) → file_of was q ≡ Some file → IsCut (then_adds was added) k these disk → disk.files q ≡ Some file
kept_on q file was added k these disk off behind stable there cut =
    let m : ℕ = k - length was.journal in
    let all : List Entry = was.journal ++ added in
    let place : k ≡ length was.journal + m = omega arith in
    let taken_is : take k all ≡ was.journal ++ take m added = ap (λ n. take n all) place ∙ take_behind was.journal added m in
    let dropped_is : drop k all ≡ drop m added = ap (λ n. drop n all) place ∙ drop_behind was.journal added m in
    let still : stable_after q true (was.journal ++ take m added) ≡ stable_after q true was.journal =
    stable_after-append q true was.journal (take m added) ∙ stable_after-off q (stable_after q true was.journal) (take m added) (AllOff-take q m added off) in
    let first : not (is_on_first q (drop m added)) ≡ true = ap not (first_off q m added off) in
    let tests : stable_at q all k ≡ (stable_after q true was.journal && true) =
    (λ i. stable_after q true (taken_is i) && not (is_on_first q (dropped_is i))) ∙ (λ i. still i && first i) in
    cut.directory q (tests ∙ and_true (stable_after q true was.journal) ∙ stable)
    ∙ ap (λ l. file_after q (was.base_file q) l) taken_is
    ∙ file_after-append q (was.base_file q) was.journal (take m added)
    ∙ file_after-off q (file_of was q) (take m added) (AllOff-take q m added off)
    ∙ there
  where
    and_true : (b : Bool) → (b && true) ≡ b
    and_true true = refl
    and_true false = refl

-- a free number names no file
none_there : (files : List ℕ → Option (List ℕ)) (n : ℕ) → is_free files n ≡ true → (is_none (files (vmcore_name n)) ≡ true) × (is_none (files (info_name n)) ≡ true)
none_there files n free = both (is_none (files (vmcore_name n))) (is_none (files (info_name n))) free
  where
    both : (a b : Bool) → (a && b) ≡ true → (a ≡ true) × (b ≡ true)
    both true b is = (refl, is)
    both false b is = absurd (cc)

not_none : (o : Option (List ℕ)) (file : List ℕ) → is_none o ≡ true → o ≡ Some file → ⊥
not_none None file none some = absurd (cc)
not_none (Some f) file none some = absurd (cc)

other_than : (files : List ℕ → Option (List ℕ)) (q name file : List ℕ) → is_none (files name) ≡ true → files q ≡ Some file → q ≢ name
other_than files q name file none there same = not_none (files name) file none (ap files (sym same) ∙ there)

saved_name_bounds : (q : List ℕ) → IsSavedName q → q ≢ bounds_name
saved_name_bounds q (n, inl is) same = vmcore_bounds n (sym is ∙ same)
saved_name_bounds q (n, inr is) same = info_bounds n (sym is ∙ same)

module _ (force : Bool) (max : Option ℕ) (block : ℕ) (was : Contents) (h : Header) (at : ℕ) (sector body : List ℕ) (number : ℕ) (planned added : List Entry)
    (saves : IsSavecore force max block was h at sector body number planned) (begun : IsBegun planned added) where
  saved_off : (q file : List ℕ) → max ≡ None → IsSavedName q → file_of was q ≡ Some file → AllOff q added
  saved_off q file none named there =
      let free : IsFirstFree (file_of was) _ number = subst (λ m. IsNumberOf (file_of was) m (Some number)) none saves.free in
      let clear = none_there (file_of was) number free.free in
      begun_off q planned added
      (subst (AllOff q) (sym saves.is)
      (AllOff-append q saves.journal (clearing (length (part_of was)) block sector)
      (others_off body h (parity_of sector) number saves.journal saves.is_save q (other_than (file_of was) q (vmcore_name number) file clear.0 there)
      (other_than (file_of was) q (info_name number) file clear.1 there) (saved_name_bounds q named)) (refl, tt))) begun

  pub no_entry : (q file : List ℕ) → max ≡ None → IsSavedName q → file_of was q ≡ Some file → All (λ e. is_on q e ≡ false) added
  no_entry q file none named there = AllOff-all q added (saved_off q file none named there)

  module _ (k : ℕ) (these : List Bool) (disk : Disk) (behind : length was.journal ≤ k) (cut : IsCut (then_adds was added) k these disk) where
    m : ℕ
    m = k - length was.journal

    part_is : disk.part ≡ part_cut (part_of was) added m these
    unfolding m
    part_is =
        let split : k ≡ length was.journal + (k - length was.journal) = omega arith in
        cut.partition ∙ ap (λ n. part_cut was.base_part (was.journal ++ added) n these) split
        ∙ part_cut-append was.base_part was.journal added (k - length was.journal) these

    sector_is : sector_at (part_of was) (trailing_place (length (part_of was)) block) ≡ sector
    sector_is = sector_found (part_of was) block force h at sector saves.found

    inside : trailing_place (length (part_of was)) block + 512 ≤ length (part_of was)
    inside = trailing_inside (length (part_of was)) block saves.good

    size : length (cleared_sector sector) ≡ 512
    size = ap (λ (l : List ℕ). length (cleared_sector l)) (sym sector_is) ∙ length-cleared (part_of was) (trailing_place (length (part_of was)) block) inside

    Dumps : Type 0
    Dumps = (disk.part ≡ part_of was) ⊎ ((disk.part ≡ cleared_part (part_of was) block) × IsSavedOn disk number body h (parity_of sector))

    on_disk : IsWritten (part_of was) (trailing_place (length (part_of was)) block) (cleared_sector sector) saves.journal added m these → Dumps
    unfolding m Dumps
    on_disk w =
        let far : length was.journal + length saves.journal ≤ k = omega (arith, w.behind) in
        let last : Entry = Part w.place w.piece w.kept in
        inr (
          part_is ∙ w.written
              ∙ ap (λ (l : List ℕ). with_bytes (part_of was) (trailing_place (length (part_of was)) block) (cleared_sector l)) (sym sector_is)
              ∙ cleared_is (part_of was) (trailing_place (length (part_of was)) block),
          record {
            vmcore = settled_on (vmcore_name number) body was saves.journal added last k these disk
                (settles_vmcore body h (parity_of sector) number saves.journal saves.is_save) refl w.is far cut;
            info = settled_on (info_name number) (info_text h device_name (parity_of sector) number) was saves.journal added last k these disk
                (settles_info body h (parity_of sector) number saves.journal saves.is_save) refl w.is far cut;
            bounds = settled_on bounds_name (bounds_text (number + 1)) was saves.journal added last k these disk
                (settles_bounds body h (parity_of sector) number saves.journal saves.is_save) refl w.is far cut;
          },
        )

    dumps : Dumps
    unfolding m Dumps
    dumps = elim (stays (part_of was) (trailing_place (length (part_of was)) block) (cleared_sector sector) saves.journal added m these size
        (all_files body h (parity_of sector) number saves.journal saves.is_save) (subst (λ l. IsBegun l added) saves.is begun)) [
          | inl still ↦ inl (part_is ∙ still)
          | inr w ↦ on_disk w
        ]

    pub safe : IsSafe max block number body h (parity_of sector) was disk
    unfolding m Dumps
    safe = record {
      dump = dumps;
      others = λ q file none named there stable. kept_on q file was added k these disk (saved_off q file none named there) behind stable there cut;
    }

-- after a whole save the files are saved
stable_there : (q file : List ℕ) (was : Contents) (journal more : List Entry) → Settles q file journal → AllOff q more → IsStable (then_adds was (journal ++ more)) q file
stable_there q file was journal more settles off =
    let s : Settles q file (was.journal ++ (journal ++ more)) = settles_behind q file was.journal (journal ++ more) (settles_then q file journal more settles off) in
    record { file = s.made (was.base_file q); stable = s.stable true }

pub saved_after : (was : Contents) (body : List ℕ) (h : Header) (parity number size block : ℕ) (sector : List ℕ) (journal : List Entry)
    → IsSaveJournal body h parity number journal → IsSaved (then_adds was (journal ++ clearing size block sector)) number body h device_name parity
saved_after was body h parity number size block sector journal s = record {
  vmcore = stable_there (vmcore_name number) body was journal (clearing size block sector) (settles_vmcore body h parity number journal s) (refl, tt);
  info = stable_there (info_name number) (info_text h device_name parity number) was journal (clearing size block sector) (settles_info body h parity number journal s) (refl, tt);
}
