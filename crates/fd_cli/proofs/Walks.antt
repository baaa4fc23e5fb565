-- Walks of a file's pages that are printed.
use Rattle.std.proofs.Common.{◌≡◌, inl, inr, ℕ, ◌≤◌, List, [], take, Option, Some, None, Result, Ok, Err, IsSomeAnd, IsErrOf, refl, sym, ◌∙◌, ap, subst}
use Rattle.fd_site.specs.Contents.{Contents, Told, file_of}
use Rattle.fd_site.specs.Fault.{Rose}
use Rattle.fd_site.specs.Seen.{Seen, Untouched, Watched}
use Rattle.fd_site.proofs.Told.{with_entries-nil}
use Rattle.fd_image.specs.Image.{IsValid, MachineImage}
use Rattle.fd_dump.specs.Minidump.{minidump_of}
use Rattle.fd_vmcore.specs.Sections.{IsOpening, opened_file}
use Rattle.fd_vmcore.specs.declared.open.OpenFault.{OpenFault}
use Rattle.fd_vmcore.specs.declared.open.OpenFault.TheVariants as vmcore
use Rattle.fd_kvm.specs.Reader.{IsFileOf, Reader, StandsFor}
use Rattle.fd_kvm.specs.Walk.{walk_by_sections, walk_in, walk_of}
use Rattle.fd_kvm.specs.declared.page.Page.{Page}
use Rattle.fd_way.specs.ImageWalk.{image_walk}
use Rattle.fd_way.specs.PagesPrinted.{IsPagesPrinted}
use Rattle.fd_way.specs.PagesText.{pages_text}
use Rattle.fd_way.specs.declared.pages.PagesFault.{PagesFault}
use Rattle.fd_way.specs.declared.pages.PagesFault.TheVariants.{SinkFault, SiteFault}
use Rattle.fd_cli.specs.Ending.{CallOnSite}
use Rattle.fd_cli.specs.Reply.{WorksOnSite}
use Rattle.fd_cli.specs.Row.{nothing}
use Rattle.fd_cli.specs.Rows.Pages.{IsAnswerToWalk, IsPagesAnswer, IsWalkOf, file_walk, pages_answer, pages_row, pages_status}
use Rattle.fd_cli.specs.Rows.Read.{RefusesFile, RefusesFor}
use Rattle.fd_cli.specs.declared.answer.Answer.{Answer}
use Rattle.fd_cli.specs.declared.reply.Reply.{Reply}
use Rattle.fd_cli.specs.declared.reply.Trouble.{Trouble}
use Rattle.fd_cli.specs.declared.reply.Trouble.TheVariants as trouble
use Rattle.fd_cli.proofs.Reading.{framed, grew_untouched, kept_on_site, rose_after, untouched_after}

-- the pages that a reader walks, of the file that it stands for
abbrev pub AreWalked : Reader → Contents → List Page → Type 0
AreWalked reader c pages = (f : List ℕ) → file_of c reader.name ≡ Some f → pages ≡ walk_of f reader.sections

-- by the file that a reader stands for
by_file : (c : Contents) (reader : Reader) (pages : List Page) (file : Option (List ℕ)) → file_of c reader.name ≡ file
    → IsSomeAnd file (IsFileOf reader.sections reader.pages) → AreWalked reader c pages → Ok pages ≡ file_walk (file_of c reader.name)
by_file c reader pages None is found walked = absurd found
by_file c reader pages (Some f) is found walked =
    ap (λ (p : List Page). Ok p) (walked f is) ∙ sym (ap file_walk is ∙ ap (walk_by_sections f) found.opens)

-- what a reader that stands for the file walks is the file's walk
walk_is : (told : Option Contents) (reader : Reader) (pages : List Page) → Told told (StandsFor reader) → Told told (λ c. AreWalked reader c pages)
    → IsWalkOf told reader.name (Ok pages)
walk_is told reader pages stands walked c is = by_file c reader pages (file_of c reader.name) refl (stands c is) (walked c is)

-- a file that isn't opened has no walk
by_opening : (file : Option (List ℕ)) (fault : OpenFault) → opened_file file ≡ Err fault → Err fault ≡ file_walk file
by_opening None fault is = sym (ap (walk_by_sections []) is)
by_opening (Some f) fault is = sym (ap (walk_by_sections f) is)

answered : (told : Option Contents) (name : List ℕ) (fault : OpenFault) (answer : Answer)
    → Told told (λ c. opened_file (file_of c name) ≡ Err fault) → RefusesFor fault answer → IsPagesAnswer told name answer
answered told name fault answer opening is = (Err fault, (λ c told_is. by_opening (file_of c name) fault (opening c told_is)), is)

file_refused : (told : Option Contents) (name : List ℕ) (fault : OpenFault) (answer : Answer)
    → Told told (λ c. IsOpening (file_of c name) (Err fault)) → RefusesFor fault answer → IsPagesAnswer told name answer
file_refused told name vmcore.NoFile answer opening is = answered told name vmcore.NoFile answer opening is
file_refused told name (vmcore.Short need have) answer opening is = answered told name (vmcore.Short need have) answer opening is
file_refused told name (vmcore.Mini fault) answer opening is = answered told name (vmcore.Mini fault) answer opening is
file_refused told name (vmcore.BadAvail index) answer opening is = answered told name (vmcore.BadAvail index) answer opening is
file_refused told name vmcore.SiteFault answer opening is = absurd is
file_refused told name vmcore.NoMemory answer opening is = absurd is

-- the pages of a file that isn't opened
pub refused_pages : (old new : Seen) (name : List ℕ) (fault : OpenFault) (result : Result Reply Trouble)
    → Told old.told (λ c. IsOpening (file_of c name) (Err fault)) → Untouched old new → RefusesFile fault result
    → WorksOnSite (pages_row name) old new result
refused_pages old new name fault (Ok reply) opening untouched is = record {
  answer = is.0;
  entries = [];
  does = (file_refused old.told name fault is.0 opening is.1, refl);
  told = untouched.told ∙ with_entries-nil old.told;
  is = is.2;
}
refused_pages old new name fault (Err trouble.Fault) opening untouched is =
    record { entries = []; leaves = refl; told = untouched.told ∙ with_entries-nil old.told }
refused_pages old new name fault (Err trouble.NoMemory) opening untouched is =
    record { entries = []; starves = refl; told = untouched.told ∙ with_entries-nil old.told }

-- a walk by a reader of the file, however it was printed
pages_by : (old new : Seen) (sink printed : Watched ℕ) (name : List ℕ) (pages : List Page) (result : Result ℕ PagesFault)
    → IsWalkOf old.told name (Ok pages) → Untouched old new → sink.faults ≤ printed.faults
    → (IsErrOf result SiteFault → Rose old.faults new.faults) → (IsErrOf result SinkFault → Rose sink.faults printed.faults)
    → IsPagesPrinted pages sink.told printed.told result → CallOnSite (pages_row name) old new sink printed (pages_status result)
pages_by old new sink printed name pages (Ok count) walk untouched count_sink site_cause sink_cause prints link ports = record {
  ends = inl (record {
    work = record { answer = pages_answer pages; added = nothing };
    does = ((Ok pages, walk, refl), refl);
    grew = grew_untouched old new link ports untouched.told;
    printed = prints.1;
    status_is = refl;
  });
  kept = kept_on_site old new link ports (framed old new untouched);
  sink = count_sink;
}
pages_by old new sink printed name pages (Err SinkFault) walk untouched count_sink site_cause sink_cause prints link ports = record {
  ends = inr (inl (record {
    work = record { answer = pages_answer pages; added = nothing };
    does = ((Ok pages, walk, refl), refl);
    grew = grew_untouched old new link ports untouched.told;
    n = prints.0;
    printed = prints.1;
    status_is = refl;
    rose = sink_cause refl;
  }));
  kept = kept_on_site old new link ports (framed old new untouched);
  sink = count_sink;
}
pages_by old new sink printed name pages (Err SiteFault) walk untouched count_sink site_cause sink_cause prints link ports = record {
  ends = inr (inr (inl (record {
    added = nothing;
    leaves = refl;
    grew = grew_untouched old new link ports untouched.told;
    early = take prints.0 (pages_text pages);
    may_say = inr (pages, walk, (prints.0, refl));
    printed = prints.1;
    status_is = refl;
    rose = inl (refl, site_cause refl);
  })));
  kept = kept_on_site old new link ports (framed old new untouched);
  sink = count_sink;
}

-- the same behind opening the file
pub pages_opened : (old mid new : Seen) (sink printed : Watched ℕ) (reader : Reader) (name : List ℕ) (pages : List Page) (result : Result ℕ PagesFault)
    (status : ℕ) → status ≡ pages_status result → Untouched old mid → Told mid.told (StandsFor reader) → reader.name ≡ name → Untouched mid new
    → sink.faults ≤ printed.faults → (IsErrOf result SiteFault → Rose mid.faults new.faults) → (IsErrOf result SinkFault → Rose sink.faults printed.faults)
    → Told mid.told (λ c. AreWalked reader c pages) → IsPagesPrinted pages sink.told printed.told result
    → CallOnSite (pages_row name) old new sink printed status
pages_opened old mid new sink printed reader name pages result status is first stands named next count_sink site_cause sink_cause walked prints =
    subst (CallOnSite (pages_row name) old new sink printed) (sym is)
    (pages_by old new sink printed name pages result
    (subst (λ n. IsWalkOf old.told n (Ok pages)) named
    (subst (λ t. IsWalkOf t reader.name (Ok pages)) first.told (walk_is mid.told reader pages stands walked)))
    (untouched_after old mid new first next) count_sink (λ cause. rose_after old.faults mid.faults new.faults first.count (site_cause cause)) sink_cause prints)

-- that the walk of an image's minidump lists the image's pages
abbrev pub WalkingLaw : Type 0
WalkingLaw = (m : MachineImage) → IsValid m → walk_in (minidump_of m) ≡ Ok (image_walk m)

by_given : (given : Result (List Page) OpenFault) (pages : List Page) (answer : Answer) → given ≡ Ok pages → IsAnswerToWalk given answer
    → answer ≡ pages_answer pages
by_given given pages answer is_given is = subst (λ g. IsAnswerToWalk g answer) is_given is

-- over a file that is an image's minidump, `pages` lists the image's
pub pages_are_images : (law : WalkingLaw) (found : Seen) (name : List ℕ) (c : Contents) (m : MachineImage) (answer : Answer) → found.told ≡ Some c → IsValid m
    → file_of c name ≡ Some (minidump_of m) → IsPagesAnswer found.told name answer → answer ≡ pages_answer (image_walk m)
pages_are_images law found name c m answer told valid is answers =
    by_given answers.0 (image_walk m) answer (answers.1 c told ∙ ap file_walk is ∙ law m valid) answers.2
