-- What is saved of a dump, whole or cut, and read again.
use Rattle.std.proofs.Common.{◌≡◌, inl, inr, ℕ, ◌+◌, Bool, true, false, List, [], ◌++◌, length, slice_range, Some, refl, sym, ◌∙◌, ap, subst}
use Rattle.fd_site.specs.Contents.{Contents, file_of, part_of, with_entries}
use Rattle.fd_site.specs.Cut.{Disk}
use Rattle.fd_site.specs.Journal.{Entry, stable_after}
use Rattle.fd_site.specs.Seen.{Seen}
use Rattle.fd_site.proofs.Told.{file_after-append, stable_after-append}
use Rattle.fd_image.specs.Image.{IsValid, MachineImage}
use Rattle.fd_kdh.specs.Header.{dump_header}
use Rattle.fd_kdh.specs.declared.header.Header.{Header}
use Rattle.fd_dump.specs.Header.{header_of}
use Rattle.fd_dump.specs.Minidump.{minidump_of}
use Rattle.fd_part.specs.Partition.{dump_place}
use Rattle.fd_judge.specs.Crash.{IsRefused, IsThisDump}
use Rattle.fd_judge.specs.Verdict.{judged}
use Rattle.fd_judge.specs.declared.why.Why.{Why}
use Rattle.fd_judge.specs.declared.verdict.Verdict.TheVariants as verdict
use Rattle.fd_info.specs.Name.{info_name, vmcore_name}
use Rattle.fd_info.specs.Saved.{IsSaved, IsStable}
use Rattle.fd_save.specs.Laws.{then_adds}
use Rattle.fd_save.specs.Saving.{IsSaveJournal, clearing, device_name, parity_of}
use Rattle.fd_save.specs.declared.saved.Options.{Options}
use Rattle.fd_save.specs.declared.saved.Saved.{Saved}
use Rattle.fd_cli.specs.Crash.{IsRefusedOrNamed}
use Rattle.fd_cli.specs.Laws.{EachCutDumpIsSavedWhole, EachCutMarkedDumpIsSavedWhole, IsFoundAs, IsRefusedOrWhollySaved, IsSized, ListsWhatWasDumped, ReadsWhatWasDumped, after}
use Rattle.fd_cli.specs.Ending.{answer_status}
use Rattle.fd_cli.specs.Row.{Work}
use Rattle.fd_cli.specs.Rows.Dump.{Names, dump_row}
use Rattle.fd_cli.specs.Rows.Save.{Saves, clearing_unless, save_row}
use Rattle.fd_cli.specs.declared.answer.Answer.TheVariants as answer
use Rattle.fd_cli.specs.declared.refusal.Refusal.{Refusal}
use Rattle.fd_words.specs.declared.source.Source.{Source}
use Rattle.fd_cli.proofs.Cuts.{each_dump_is_safe, each_marked_dump_is_safe, whole_is_found}
use Rattle.fd_cli.proofs.Dumps.{image_of}
use Rattle.fd_cli.proofs.Images.{ReadingLaw, read_is_images}
use Rattle.fd_cli.proofs.Outcomes.{whole_of_zero}
use Rattle.fd_cli.proofs.Saves.{refused_or_saved}
use Rattle.fd_cli.proofs.Walks.{WalkingLaw, pages_are_images}

-- a dump that was found is the one that stands there
record IsSame (saved : Saved) (h : Header) (at : ℕ) (sector : List ℕ) : Type 0 where
  header : saved.header ≡ h
  at_is : saved.at ≡ at
  sector_is : saved.sector ≡ sector

same_dump : (saved : Saved) (h : Header) (at : ℕ) (sector : List ℕ) → verdict.Dump saved.header saved.at saved.sector ≡ verdict.Dump h at sector → IsSame saved h at sector
same_dump saved h at sector is = record { header = cc; at_is = cc; sector_is = cc }

-- over a partition that holds this dump, a save is of it, byte for byte
record IsSaveOf (saved : Saved) (body : List ℕ) (m : MachineImage) (block : ℕ) : Type 0 where
  header : saved.header ≡ header_of m block
  sector : saved.sector ≡ dump_header (header_of m block)
  body_is : body ≡ minidump_of m

save_of_this : (options : Options) (keep : Bool) (found : Seen) (w : Work) (c : Contents) (m : MachineImage) → found.told ≡ Some c → options.force ≡ false
    → (saves : Saves options keep found w) → IsThisDump (minidump_of m) (header_of m found.block) found.block (part_of c)
    → IsSaveOf saves.saved saves.body m found.block
save_of_this options keep found w c m told unforced saves this =
    let part : List ℕ = part_of c in
    let place : ℕ = dump_place (length part) found.block (length (minidump_of m)) in
    let finds : judged part found.block options.force ≡ verdict.Dump saves.saved.header saves.saved.at saves.saved.sector = saves.to_save.finds c told in
    let same : IsSame saves.saved (header_of m found.block) place (dump_header (header_of m found.block)) =
    same_dump saves.saved (header_of m found.block) place (dump_header (header_of m found.block))
    (sym finds ∙ ap (judged part found.block) unforced ∙ this.verdict) in
    record {
      header = same.header;
      sector = same.sector_is;
      body_is = saves.to_save.bytes c told
          ∙ (λ i. slice_range part (same.at_is i) (same.at_is i + (same.header i).dumplength)) ∙ this.bytes;
    }

-- what is known of the files after a whole save
abbrev pub SavedLaw : Type 0
SavedLaw =
    (was : Contents) (body : List ℕ) (h : Header) (parity number size block : ℕ) (sector : List ℕ) (journal : List Entry)
    → IsSaveJournal body h parity number journal → IsSaved (then_adds was (journal ++ clearing size block sector)) number body h device_name parity

-- a mark on the partition changes no file
module _ (c : Contents) (saving : List Entry) (size block : ℕ) (sector : List ℕ) where
  abbrev without : Contents
  without = then_adds c (saving ++ [])

  abbrev marked : Contents
  marked = then_adds c (saving ++ clearing size block sector)

  same_file : (q : List ℕ) → file_of without q ≡ file_of marked q
  same_file q =
      file_after-append q (c.base_file q) c.journal (saving ++ []) ∙ file_after-append q (file_of c q) saving []
      ∙ sym (file_after-append q (c.base_file q) c.journal (saving ++ clearing size block sector) ∙ file_after-append q (file_of c q) saving (clearing size block sector))

  same_stable : (q : List ℕ) → stable_after q true without.journal ≡ stable_after q true marked.journal
  same_stable q =
      stable_after-append q true c.journal (saving ++ []) ∙ stable_after-append q (stable_after q true c.journal) saving []
      ∙ sym (stable_after-append q true c.journal (saving ++ clearing size block sector) ∙ stable_after-append q (stable_after q true c.journal) saving (clearing size block sector))

  still : (q bytes : List ℕ) → IsStable marked q bytes → IsStable without q bytes
  still q bytes there = record { file = same_file q ∙ there.file; stable = same_stable q ∙ there.stable }

  saved_unless : (keep : Bool) (number : ℕ) (body : List ℕ) (h : Header) (parity : ℕ) → IsSaved marked number body h device_name parity
      → IsSaved (then_adds c (saving ++ clearing_unless keep size block sector)) number body h device_name parity
  saved_unless false number body h parity there = there
  saved_unless true number body h parity there = record { vmcore = still (vmcore_name number) body there.vmcore; info = still (info_name number) _ there.info }

-- after a savecore that saved, the dump is saved
saved_after : SavedLaw → (options : Options) (keep : Bool) (found : Seen) (w : Work) (c : Contents) (saves : Saves options keep found w)
    → IsSaved (then_adds c w.added.entries) saves.saved.number saves.body saves.saved.header device_name (parity_of saves.saved.sector)
saved_after law options keep found w c saves =
    let parity : ℕ = parity_of saves.saved.sector in
    subst (λ (l : List Entry). IsSaved (then_adds c l) saves.saved.number saves.body saves.saved.header device_name parity) (sym saves.entries.is)
    (saved_unless c saves.entries.saving found.size found.block saves.saved.sector keep saves.saved.number saves.body saves.saved.header parity
    (law c saves.body saves.saved.header parity saves.saved.number found.size found.block saves.saved.sector saves.entries.saving saves.entries.is_save))

-- the same of what the save is of
all_saved : {saved : Saved} {body : List ℕ} {m : MachineImage} {block : ℕ} (number : ℕ) (entries : List Entry) (c now : Contents) → IsSaveOf saved body m block
    → Some (then_adds c entries) ≡ Some now
    → IsSaved (then_adds c entries) number body saved.header device_name (parity_of saved.sector)
    → IsSaved now number (minidump_of m) (header_of m block) device_name (parity_of (dump_header (header_of m block)))
all_saved {saved = dump} {m = m} {block = block} number entries c now of is saved =
    let same : then_adds c entries ≡ now = cc in
    subst (λ (t : Contents). IsSaved t number (minidump_of m) (header_of m block) device_name (parity_of (dump_header (header_of m block)))) same
    (subst (λ (s : List ℕ). IsSaved (then_adds c entries) number (minidump_of m) (header_of m block) device_name (parity_of s)) of.sector
    (subst (λ (h : Header). IsSaved (then_adds c entries) number (minidump_of m) h device_name (parity_of dump.sector)) of.header
    (subst (λ (b : List ℕ). IsSaved (then_adds c entries) number b dump.header device_name (parity_of dump.sector)) of.body_is saved)))

-- a dump that was found where a save was refused
never : {R : Type 0} (h : Header) (at : ℕ) (sector : List ℕ) (why : Why) → verdict.Dump h at sector ≡ verdict.Refused why → R
never h at sector why is = absurd (cc)

-- over a partition that is refused, `savecore` is refused
refused_then : (options : Options) (keep : Bool) (later : Seen) (w : Work) (c : Contents) (was : Contents) (source : Source) → later.told ≡ Some c → options.force ≡ false
    → IsRefused later.block (part_of c) → (save_row options keep).Does later w → IsRefusedOrWhollySaved was source later w
refused_then options keep later w c was source told unforced refused does = elim (refused_or_saved options keep later w does) [
  | inl refusal ↦ inl refusal
  | inr saves ↦
      never saves.1.saved.header saves.1.saved.at saves.1.saved.sector refused.0
      (sym (saves.1.to_save.finds c told) ∙ ap (judged (part_of c) later.block) unforced ∙ refused.1)
]

-- over a partition that holds this dump, it is refused or saves it
saved_then : SavedLaw → (options : Options) (keep : Bool) (later : Seen) (w : Work) (c : Contents) (was : Contents) (source : Source) (m : MachineImage) → later.told ≡ Some c
    → options.force ≡ false → Names was source m → IsThisDump (minidump_of m) (header_of m later.block) later.block (part_of c)
    → (save_row options keep).Does later w → IsRefusedOrWhollySaved was source later w
saved_then law options keep later w c was source m told unforced names this does = elim (refused_or_saved options keep later w does) [
  | inl refusal ↦ inl refusal
  | inr saves ↦
      let of : IsSaveOf saves.1.saved saves.1.body m later.block = save_of_this options keep later w c m told unforced saves.1 this in
      inr (record {
        image = m;
        names = names;
        number = saves.1.saved.number;
        answer = saves.1.answer ∙ ap (λ (h : Header). answer.Saved saves.1.saved.number h.dumplength) of.header;
        files = λ now is_now. all_saved saves.1.saved.number w.added.entries c now of (sym (ap (λ t. with_entries t w.added.entries) told) ∙ is_now)
            (saved_after law options keep later w c saves.1);
      })
]

-- over a partition that a cut left, and that is refused or holds the dump, it is refused or saves it
saved_of_cut : SavedLaw → (options : Options) (keep : Bool) (found later : Seen) (was : Contents) (source : Source) (disk : Disk) (save : Work)
    → IsFoundAs disk found.size found.block later → options.force ≡ false → IsRefusedOrNamed was source found.block disk.part
    → (save_row options keep).Does later save → IsRefusedOrWhollySaved was source later save
saved_of_cut law options keep found later was source disk save stands unforced judged does =
    let block_is : found.block ≡ later.block = sym stands.block_is in
    let judged_cut : IsRefusedOrNamed was source later.block (part_of stands.contents) =
    subst (λ part. IsRefusedOrNamed was source later.block part) (sym stands.part)
    (subst (λ b. IsRefusedOrNamed was source b disk.part) block_is judged) in
    elim judged_cut [
      | inl refused ↦ refused_then options keep later save stands.contents was source stands.told unforced refused does
      | inr (m, names, this) ↦ saved_then law options keep later save stands.contents was source m stands.told unforced names this does
    ]

-- the headline's first sentence
pub each_cut_dump_is_saved_whole : SavedLaw → EachCutDumpIsSavedWhole
each_cut_dump_is_saved_whole law source options keep found later new was now save unforced sized left told_was told_now clear k these disk le cut stands does =
    saved_of_cut law options keep found later was source disk save stands unforced
    (each_dump_is_safe source found new sized left was now told_was told_now k these disk le cut clear) does

-- and the same of a dump that marks first: the partition is as it was, or that
pub each_cut_marked_dump_is_saved_whole : SavedLaw → EachCutMarkedDumpIsSavedWhole
each_cut_marked_dump_is_saved_whole law source options keep found later new was now save unforced sized left told_was told_now k these disk le cut stands does =
    elim (each_marked_dump_is_safe source found new sized left was now told_was told_now k these disk le cut) [
      | inl old ↦ inl old
      | inr judged ↦ inr (saved_of_cut law options keep found later was source disk save stands unforced judged does)
    ]

-- `savecore` that says that it saved under a number saved under that number
saved_under : (options : Options) (keep : Bool) (found : Seen) (w : Work) (number len : ℕ) → (save_row options keep).Does found w → w.answer ≡ answer.Saved number len
    → (saves : Saves options keep found w) × (saves.saved.number ≡ number)
saved_under options keep found w number len does is = elim (refused_or_saved options keep found w does) [
  | inl (refusal, refused) ↦ refused_and_saved refusal (sym (ap (λ x. x.answer) refused) ∙ is)
  | inr (good, saves) ↦ (saves, same_number saves.saved.number saves.saved.header.dumplength (sym saves.answer ∙ is))
]
  where
    refused_and_saved : {R : Type 0} (refusal : Refusal) → answer.Refused refusal ≡ answer.Saved number len → R
    refused_and_saved refusal is = absurd (cc)

    same_number : (n l : ℕ) → answer.Saved n l ≡ answer.Saved number len → n ≡ number
    same_number n l is = cc

-- a file that has exactly the minidump of a valid image that a source named
record IsFileOfImage (was : Contents) (source : Source) (later : Seen) (name : List ℕ) : Type 0 where
  image : MachineImage
  names : Names was source image
  valid : IsValid image
  now : Contents
  told : later.told ≡ Some now
  file : file_of now name ≡ Some (minidump_of image)

-- after a dump and a save, the saved file is such a one
file_of_image : SavedLaw → (mark : Bool) (source : Source) (options : Options) (keep : Bool) (found : Seen) (dump save : Work) (number len : ℕ)
    → options.force ≡ false → IsSized found → (dump_row mark source).Does found dump → answer_status dump.answer ≡ 0
    → (save_row options keep).Does (after found dump) save → save.answer ≡ answer.Saved number len
    → (c : Contents) → found.told ≡ Some c → IsFileOfImage c source (after (after found dump) save) (vmcore_name number)
file_of_image saved_law mark source options keep found dump save number len unforced sized does zero saves saved c told =
    let whole = whole_of_zero mark source found dump does zero in
    let image = image_of found source whole.image whole.given c told in
    let dumped : Contents = then_adds c dump.added.entries in
    let told_dumped : with_entries found.told dump.added.entries ≡ Some dumped = ap (λ t. with_entries t dump.added.entries) told in
    let this = whole_is_found mark found source dump (with_entries found.told dump.added.entries) sized whole refl c dumped told told_dumped in
    let under = saved_under options keep (after found dump) save number len saves saved in
    let of = save_of_this options keep (after found dump) save dumped whole.image told_dumped unforced under.0 this in
    let there = saved_after saved_law options keep (after found dump) save dumped under.0 in
    let now : Contents = then_adds dumped save.added.entries in
    record {
      image = whole.image;
      names = image.names;
      valid = image.valid;
      now = now;
      told = ap (λ t. with_entries t save.added.entries) told_dumped;
      file = ap (λ n. file_of now (vmcore_name n)) (sym under.1) ∙ there.vmcore.file ∙ ap (λ (b : List ℕ). Some b) of.body_is;
    }

-- what was dumped, saved and read is the image's
pub reads_what_was_dumped : SavedLaw → ReadingLaw → ReadsWhatWasDumped
reads_what_was_dumped saved_law law mark source options keep found dump save read number len va count unforced sized does zero saves saved reads c told =
    let of = file_of_image saved_law mark source options keep found dump save number len unforced sized does zero saves saved c told in
    let finer = read_is_images law (after (after found dump) save) (vmcore_name number) va count of.now of.image of.told of.valid of.file in
    (of.image, of.names, ap (λ x. x.answer) (finer.does read reads))

-- what was dumped, saved and listed is the image's
pub lists_what_was_dumped : SavedLaw → WalkingLaw → ListsWhatWasDumped
lists_what_was_dumped saved_law law mark source options keep found dump save pages number len unforced sized does zero saves saved lists c told =
    let of = file_of_image saved_law mark source options keep found dump save number len unforced sized does zero saves saved c told in
    (of.image, of.names, pages_are_images law (after (after found dump) save) (vmcore_name number) of.now of.image pages.answer of.told of.valid of.file lists.0)
