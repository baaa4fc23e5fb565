-- The way of a drill, by the answers of its steps.
use Rattle.std.proofs.Common.{◌≡◌, inl, inr, ℕ, false, List, [], ◌++◌, Option, Some, Result, Ok, Err, refl, sym, ◌∙◌, ap, subst}
use Rattle.std.proofs.lemmas.List.{append-nil}
use Rattle.fd_site.specs.Contents.{Contents, Told, file_of, part_of, with_entries}
use Rattle.fd_site.specs.Journal.{Entry}
use Rattle.fd_site.specs.Seen.{Frame, Seen, Watched}
use Rattle.fd_site.specs.Trace.{grown}
use Rattle.fd_site.proofs.Told.{grown-nil, with_entries-append, with_entries-nil}
use Rattle.fd_kdh.specs.declared.header.Header.{Header}
use Rattle.fd_dump.specs.Header.{header_of}
use Rattle.fd_dump.specs.Minidump.{minidump_of}
use Rattle.fd_part.specs.Outcome.{IsStoppedDump}
use Rattle.fd_judge.specs.Verdict.{judged}
use Rattle.fd_judge.specs.declared.verdict.Verdict.{Verdict}
use Rattle.fd_judge.specs.declared.why.Why.{Why}
use Rattle.fd_info.specs.Name.{vmcore_name}
use Rattle.fd_info.specs.Saved as info
use Rattle.fd_save.specs.Laws.{then_adds}
use Rattle.fd_save.specs.Outcome.{HasNoNumber}
use Rattle.fd_save.specs.Saving.{IsSaveJournal, clearing, device_name, parity_of}
use Rattle.fd_save.specs.declared.fault.SaveFault.{SaveFault}
use Rattle.fd_save.specs.declared.fault.SaveFault.TheVariants as no
use Rattle.fd_save.specs.declared.saved.Saved as save
use Rattle.fd_mini.specs.Kernel.{KernelBytes}
use Rattle.fd_mini.specs.declared.address_fault.AddressFault.{AddressFault}
use Rattle.fd_vmcore.specs.declared.open.OpenFault.{OpenFault}
use Rattle.fd_kvm.specs.Answer.{answer_of}
use Rattle.fd_way.specs.Drill.{Answers, Drill, Drills, Ended, EndsRefused, EndsSaved, IsDumped, IsOfFile, IsSavecore, Leaves, Outcome, Refused, Saved}
use Rattle.fd_way.specs.Drill.{after, no_options, refusal_text, saved_text}
use Rattle.fd_way.specs.Steps.{GivenBy, LacksNumber, PrintsFile, PrintsRefusal, Reads, RefusesWhole, Saves, SavesAndClears, Writes, WritesFirst}
use Rattle.fd_way.specs.declared.way_fault.Drilled.TheVariants as drilled
use Rattle.fd_way.specs.declared.way_fault.WayFault.{WayFault}
use Rattle.fd_way.specs.declared.way_fault.WayFault.TheVariants as way
use Rattle.fd_way.proofs.FileText.{answer_of-bytes}

-- what is known of the files after a whole save
abbrev pub SavedLaw : Type 0
SavedLaw =
    (was : Contents) (body : List ℕ) (h : Header) (parity number size block : ℕ) (sector : List ℕ) (journal : List Entry)
    → IsSaveJournal body h parity number journal → info.IsSaved (then_adds was (journal ++ clearing size block sector)) number body h device_name parity

-- the dump wasn't written
pub not_written : (d : Drill) (old new : Seen) (sink : Watched ℕ) (fault : WayFault) → WritesFirst d.image d.stop old new (Err fault)
    → Drills d old new sink sink (Err fault)
not_written d old new sink (way.NoRoom room) lacks = record { short = lacks.short; room_is = lacks.room_is; same = lacks.same; silent = refl }
not_written d old new sink way.SiteFault writes = record {
  added = writes.adds.0;
  early = [];
  leaves = inl (record { room = writes.room; begun = writes.adds.1; silent = refl });
  told = writes.adds.2;
  printed = grown-nil sink.told;
}
not_written d old new sink way.NoMemory same = record {
  added = [];
  early = [];
  leaves = inl (record { adds = refl; says = refl });
  told = ap (λ s. s.told) same ∙ with_entries-nil old.told;
  printed = grown-nil sink.told;
}
not_written d old new sink way.NoNumber writes = absurd writes
not_written d old new sink (way.Unread fault) writes = absurd writes
not_written d old new sink way.SinkFault writes = absurd writes

-- its first sectors were written
module _ (d : Drill) (old mid : Seen) (was : Watched ℕ)
    (writes : Writes (IsStoppedDump (minidump_of d.image) (header_of d.image old.block) old.size old.block d.stop) d.image old mid) (frame : Frame old mid) where
  abbrev dump : List Entry
  dump = writes.adds.0

  dumped : IsDumped d old dump
  dumped = record { room = writes.room; first = writes.adds.1 }

  told_mid : mid.told ≡ (after old dump).told
  told_mid = writes.adds.2

  -- what was found then is found after these entries
  judged_there : (v : Verdict) → Told mid.told (λ c. judged (part_of c) mid.block false ≡ v) → Told (after old dump).told (λ c. judged (part_of c) old.block false ≡ v)
  judged_there v found c told = subst (λ block. judged (part_of c) block false ≡ v) frame.block (found c (told_mid ∙ told))

  no_number_there : HasNoNumber no_options mid → HasNoNumber no_options (after old dump)
  no_number_there has = record {
    header = has.header;
    at = has.at;
    sector = has.sector;
    found = judged_there _ has.found;
    none = λ c told. has.none c (told_mid ∙ told);
  }

  savecore_there : (saved : save.Saved) (body : List ℕ) (planned : List Entry) → IsSavecore mid saved body planned → IsSavecore (after old dump) saved body planned
  savecore_there saved body planned s = record {
    finds = judged_there _ s.finds;
    number = λ c told. s.number c (told_mid ∙ told);
    bytes = λ c told. s.bytes c (told_mid ∙ told);
    saving = s.saving;
    is_save = s.is_save;
    is = s.is ∙ (λ i. s.saving ++ clearing (frame.size i) (frame.block i) saved.sector);
  }

  -- more was added behind the dump
  behind : (new : Seen) (more : List Entry) → new.told ≡ with_entries mid.told more → new.told ≡ with_entries old.told (dump ++ more)
  behind new more told = told ∙ ap (λ t. with_entries t more) told_mid ∙ with_entries-append old.told dump more

  unchanged : (new : Seen) → new.told ≡ mid.told → new.told ≡ with_entries old.told dump
  unchanged new same = same ∙ told_mid

  -- judging refused
  module _ (new : Seen) (now : Watched ℕ) (why : Why) (refuses : RefusesWhole mid new why) where
    abbrev refusal : Outcome
    refusal = Refused why

    refused_does : EndsRefused d old why dump
    refused_does = record { dumped = dumped; judged = judged_there _ refuses.judged }

    pub refused : now.told ≡ grown was.told (refusal_text why) → Answers d old new was now (Ok (drilled.Refused why))
    refused printed = record { outcome = refusal; added = dump; does = refused_does; told = unchanged new refuses.same; printed = printed; is = refl }

    pub refusal_unprinted : (fault : WayFault) → PrintsRefusal why was now (Err fault) → Drills d old new was now (Err fault)
    refusal_unprinted way.SinkFault some =
        record { outcome = refusal; added = dump; does = refused_does; told = unchanged new refuses.same; n = some.0; printed = some.1 }
    refusal_unprinted way.NoMemory same = record {
      added = dump;
      early = [];
      leaves = inr (inl (record { room = writes.room; begun = writes.adds.1.begun; silent = refl }));
      told = unchanged new refuses.same;
      printed = ap (λ s. s.told) same ∙ grown-nil was.told;
    }
    refusal_unprinted (way.NoRoom room) none = absurd none
    refusal_unprinted way.NoNumber none = absurd none
    refusal_unprinted (way.Unread fault) none = absurd none
    refusal_unprinted way.SiteFault none = absurd none

  -- no number was free
  pub unnumbered : (new : Seen) → LacksNumber mid new → Drills d old new was was (Err way.NoNumber)
  unnumbered new lacks = record {
    added = dump;
    unnumbered = record { dumped = dumped; none = no_number_there lacks.none };
    told = unchanged new lacks.same;
    silent = refl;
  }

  -- the site failed in that
  pub not_saved : (new : Seen) (fault : SaveFault) → fault ≡ no.SiteFault → SavesAndClears mid new (Err fault) → Ended (Leaves d old) old new was was
  not_saved new fault is saves = by_saving (subst (λ (f : SaveFault). SavesAndClears mid new (Err f)) is saves)
    where
      by_saving : SavesAndClears mid new (Err no.SiteFault) → Ended (Leaves d old) old new was was
      by_saving (inl same) = record {
        added = dump;
        early = [];
        leaves = inl (record { room = writes.room; begun = writes.adds.1.begun; silent = refl });
        told = unchanged new same;
        printed = grown-nil was.told;
      }
      by_saving (inr (saved, s)) = record {
        added = dump ++ s.adds.0;
        early = [];
        leaves = inr (inl (record {
          dump = dump;
          dumped = dumped;
          saved = saved;
          body = s.body;
          planned = s.planned;
          is_savecore = savecore_there saved s.body s.planned s.is_savecore;
          more = s.adds.0;
          begun = s.adds.1;
          is = refl;
          silent = refl;
        }));
        told = behind new s.adds.0 s.adds.2;
        printed = grown-nil was.told;
      }

  -- it was saved and cleared, and its file is read
  module _ (law : SavedLaw) (last new : Seen) (now : Watched ℕ) (saved : save.Saved) (saves : Saves (λ planned added. added ≡ planned) mid last saved) (same : new.told ≡ last.told) where
    abbrev all : List Entry
    all = dump ++ saves.planned

    abbrev len : ℕ
    len = saved.header.dumplength

    told_last : last.told ≡ with_entries old.told all
    told_last = behind last saves.planned (saves.adds.2 ∙ ap (λ (es : List Entry). with_entries mid.told es) saves.adds.1)

    told_new : new.told ≡ with_entries old.told all
    told_new = same ∙ told_last

    -- the file has the dump's bytes
    file_there : (c : Contents) → old.told ≡ Some c → file_of (then_adds (then_adds c dump) saves.planned) (vmcore_name saved.number) ≡ Some saves.body
    file_there c told =
        let s = saves.is_savecore in
        let there = law (then_adds c dump) saves.body saved.header (parity_of saved.sector) saved.number mid.size mid.block saved.sector s.saving s.is_save in
        ap (λ (es : List Entry). file_of (then_adds (then_adds c dump) es) (vmcore_name saved.number)) s.is ∙ there.vmcore.file

    told_files : (c : Contents) → old.told ≡ Some c → last.told ≡ Some (then_adds (then_adds c dump) saves.planned)
    told_files c told =
        told_last ∙ sym (with_entries-append old.told dump saves.planned) ∙ ap (λ t. with_entries (with_entries t dump) saves.planned) told

    given_there : (given : Result KernelBytes OpenFault) → GivenBy last.told saved.number d.va d.count given → Told old.told (λ c. given ≡ answer_of saves.body d.va d.count)
    given_there given is c told = is (then_adds (then_adds c dump) saves.planned) (told_files c told) saves.body (file_there c told)

    is_saved : (given : Result KernelBytes OpenFault) → IsOfFile given → Told old.told (λ c. given ≡ answer_of saves.body d.va d.count) → EndsSaved d old saved.number len given all
    is_saved given of is = record {
      dump = dump;
      dumped = dumped;
      saved = saved;
      body = saves.body;
      planned = saves.planned;
      is_savecore = savecore_there saved saves.body saves.planned saves.is_savecore;
      number_is = refl;
      len_is = refl;
      of_file = of;
      given_is = is;
      is = refl;
    }

    pub read : (fault : Option AddressFault) → PrintsFile last.told saved.number d.va d.count (saved_text saved.number len) was now fault
        → Answers d old new was now (Ok (drilled.Saved saved.number len fault))
    read fault p = record {
      outcome = Saved saved.number len (Ok p.given);
      added = all;
      does = is_saved (Ok p.given) tt (given_there (Ok p.given) p.is_given);
      told = told_new;
      printed = p.printed;
      is = ap (λ f. Ok (drilled.Saved saved.number len f)) p.fault_is;
    }

    has_saved : Leaves d old all (saved_text saved.number len)
    has_saved = inr (inr (record {
      number = saved.number;
      len = len;
      given = answer_of saves.body d.va d.count;
      is_saved = is_saved (answer_of saves.body d.va d.count) (answer_of-bytes saves.body d.va d.count) (λ c told. refl);
      said = refl;
    }))

    pub not_read : (fault : WayFault) → Reads last.told saved.number d.va d.count (saved_text saved.number len) was now (Err fault) → Drills d old new was now (Err fault)
    not_read (way.Unread fault) r = record {
      outcome = Saved saved.number len (Err fault);
      added = all;
      does = is_saved (Err fault) r.of_bytes (given_there (Err fault) r.is_given);
      told = told_new;
      printed = r.printed ∙ ap (grown was.told) (sym (append-nil (saved_text saved.number len)));
      is = refl;
    }
    not_read way.SinkFault r = record {
      outcome = Saved saved.number len r.given;
      added = all;
      does = is_saved r.given r.of_file (given_there r.given r.is_given);
      told = told_new;
      n = r.n;
      printed = r.printed;
    }
    not_read way.SiteFault r = record { added = all; early = saved_text saved.number len; leaves = has_saved; told = told_new; printed = r }
    not_read way.NoMemory r = record { added = all; early = saved_text saved.number len; leaves = inr has_saved; told = told_new; printed = r }
    not_read (way.NoRoom room) r = absurd r
    not_read way.NoNumber r = absurd r

-- judging refused, by the answer
pub refused_by : (old new : Seen) (fault : SaveFault) (why : Why) → fault ≡ no.Refused why → SavesAndClears old new (Err fault) → RefusesWhole old new why
refused_by old new fault why is saves = subst (λ (f : SaveFault). SavesAndClears old new (Err f)) is saves
