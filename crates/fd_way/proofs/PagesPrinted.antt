-- What a printer printed of the pages that it was given, and of which walk they are.
use Rattle.std.proofs.Common.{◌≡◌, ℕ, ◌+◌, ◌^◌, ◌<◌, ◌≤◌, Bool, true, false, min, List, [], ◌∷◌, ◌++◌, length, take, Option, Some, None}
use Rattle.std.proofs.Common.{Result, Ok, Err, IsErr, OnErr, refl, sym, ap, subst, ◌∙◌, arith, append_assoc, append-nil, inl, inr}
use Rattle.std.specs.List.{flat_map}
use Rattle.std.proofs.Math.Seq.{take-append-add, take-length}
use Rattle.std.proofs.lemmas.Bool.{cases_lt}
use Rattle.std.proofs.lemmas.List.{take-append-le, take_all}
use Rattle.std.proofs.lemmas.List.Concat.{flat_map-append}
use Rattle.fd_site.specs.Contents.{Contents, Told, file_of}
use Rattle.fd_site.specs.Fault.{Rose}
use Rattle.fd_site.specs.Seen.{Watched}
use Rattle.fd_site.specs.Trace.{grown}
use Rattle.fd_site.proofs.Told.{grown-nil, grown-append}
use Rattle.fd_site.specs.declared.fault.SiteFault.{SiteFault}
use Rattle.fd_vmcore.specs.Sections.{Sections}
use Rattle.fd_kvm.specs.Visits.{AreFirst, AreOfWalk, IsWalk, Took, TookAll, TookUpTo}
use Rattle.fd_kvm.specs.Walk.{walk_of}
use Rattle.fd_kvm.specs.declared.page.Page.{Page}
use Rattle.fd_way.specs.PagesPrinted.{IsPagesPrinted, Prints, sink_of}
use Rattle.fd_way.specs.PagesText.{count_line, page_line, pages_text}
use Rattle.fd_way.specs.declared.pages.PagesFault.{PagesFault}
use Rattle.fd_way.specs.declared.pages.Printer.{Printer}

-- the lines of pages, and the first of them
abbrev pub lines : List Page → List ℕ
lines pages = flat_map page_line pages

pub record ArePrinted {O : Type 0} (seen : O → Watched ℕ) (old : Printer O) (pages : List Page) (new : Printer O) : Type 0 where
  pub told : (sink_of seen new).told ≡ grown (sink_of seen old).told (lines pages)
  pub faults : (sink_of seen old).faults ≤ (sink_of seen new).faults
  pub count : old.count + length pages < 2 ^ 64 → new.count ≡ old.count + length pages
  pub failed : new.failed ≡ old.failed
  pub same_reference : new.out.ghost_name ≡ old.out.ghost_name

pub record AreCut {O : Type 0} (seen : O → Watched ℕ) (old : Printer O) (pages : List Page) (new : Printer O) : Type 0 where
  pub size : ℕ
  pub told : (sink_of seen new).told ≡ grown (sink_of seen old).told (take size (lines pages))
  pub faults : (sink_of seen old).faults ≤ (sink_of seen new).faults
  pub cause : Rose (sink_of seen old).faults (sink_of seen new).faults
  pub failed : new.failed ≡ true
  pub same_reference : new.out.ghost_name ≡ old.out.ghost_name

-- the sink grew by the first bytes of a text, and then by those of what follows it
then_first : (told between : Option (List ℕ)) (front back : List ℕ) (size : ℕ) → between ≡ grown told front → grown between (take size back) ≡ grown told (take (length front + size) (front ++ back))
then_first told between front back size is =
    ap (λ o. grown o (take size back)) is ∙ grown-append told front (take size back) ∙ ap (grown told) (sym (take-append-add front back size))

module _ {O : Type 0} (seen : O → Watched ℕ) where
  pub printed : (old : Printer O) (pages : List Page) (new : Printer O) → TookAll (Prints seen) old pages new → ArePrinted seen old pages new
  printed old [] new same = record {
    told = ap (λ (p : Printer O). (sink_of seen p).told) same ∙ grown-nil (sink_of seen old).told;
    faults = (let e = ap (λ (p : Printer O). (sink_of seen p).faults) same in omega arith);
    count = λ few. ap (λ (p : Printer O). p.count) same ∙ omega arith;
    failed = ap (λ (p : Printer O). p.failed) same;
    same_reference = ap (λ (p : Printer O). p.out.ghost_name) same;
  }
  printed old (page ∷ pages) new took =
      let line = took.1.0 in
      let later = printed took.0 pages new took.1.1 in
      record {
        told = later.told ∙ ap (λ o. grown o (lines pages)) line.told ∙ grown-append (sink_of seen old).told (page_line page) (lines pages);
        faults = omega (arith, line.faults, later.faults);
        count = λ few. later.count (omega (arith, line.count)) ∙ omega (arith, line.count);
        failed = later.failed ∙ line.failed;
        same_reference = later.same_reference ∙ line.same_reference;
      }

  pub cut : (old : Printer O) (pages : List Page) (new : Printer O) → TookUpTo (Prints seen) old pages new → AreCut seen old pages new
  cut old pages new took =
      let front = printed old took.front took.between took.all in
      let last = took.ended in
      let none : page_line took.last ++ [] ≡ page_line took.last = append-nil (page_line took.last) in
      let all : lines pages ≡ lines took.front ++ page_line took.last = ap lines took.are ∙ flat_map-append page_line took.front (took.last ∷ []) ∙ ap (λ l. lines took.front ++ l) none in
      record {
        size = length (lines took.front) + last.size;
        told = last.told ∙ then_first (sink_of seen old).told (sink_of seen took.between).told (lines took.front) (page_line took.last) last.size front.told
            ∙ ap (λ l. grown (sink_of seen old).told (take (length (lines took.front) + last.size) l)) (sym all);
        faults = omega (arith, front.faults, last.faults);
        cause = omega (arith, front.faults, last.cause);
        failed = last.failed;
        same_reference = last.same_reference ∙ front.same_reference;
      }

take_min : (size : ℕ) (l : List ℕ) → take size l ≡ take (min size (length l)) l
take_min size l = elim (cases_lt (length l) size) [
  | inl many ↦ (let e : length l ≡ min size (length l) = omega arith in take_all size l (omega arith) ∙ sym (take_all (length l) l (omega arith)) ∙ ap (λ n. take n l) e)
  | inr few ↦ (let e : size ≡ min size (length l) = omega arith in ap (λ n. take n l) e)
]

-- the first pages' first bytes are the text's
pub first_bytes : (first all : List Page) (size : ℕ) → AreFirst first all → (more : ℕ) × (take size (lines first) ≡ take more (pages_text all))
unfolding pages_text
first_bytes first all size is =
    let text : pages_text all ≡ lines first ++ (lines is.0 ++ count_line (length all)) =
    ap (λ l. l ++ count_line (length all)) (ap lines (sym is.1) ∙ flat_map-append page_line first is.0) ∙ append_assoc (lines first) (lines is.0) (count_line (length all)) in (
      min size (length (lines first)),
      take_min size (lines first)
          ∙ sym (take-append-le (min size (length (lines first))) (lines first) (lines is.0 ++ count_line (length all))
          (omega arith)) ∙ ap (take (min size (length (lines first)))) (sym text),
    )

some_same : {A : Type 0} (x y : A) → Some x ≡ Some y → x ≡ y
some_same x y same = cc

file_same : (c d : Contents) (name : List ℕ) → Some c ≡ Some d → file_of c name ≡ file_of d name
file_same c d name same = ap (λ e. file_of e name) (some_same c d same)

chosen_file :
    (c : Contents) (file : Option (List ℕ)) (name : List ℕ) (s : Sections) (pages : List Page) → file_of c name ≡ file →
    Told (Some c) (λ d. (f : List ℕ) → file_of d name ≡ Some f → AreFirst pages (walk_of f s))
    → (walk : List Page) × ((Told (Some c) (λ d. (f : List ℕ) → file_of d name ≡ Some f → walk ≡ walk_of f s)) × AreFirst pages walk)
chosen_file c None name s pages is first = (pages, ((λ d same f there. absurd (let e = file_same c d name same in let n : None ≡ Some f = sym is ∙ e ∙ there in cc)), ([], append-nil pages)))
chosen_file c (Some g) name s pages is first =
    (walk_of g s, ((λ d same f there. (let e = file_same c d name same in let n : Some g ≡ Some f = sym is ∙ e ∙ there in ap (λ h. walk_of h s) (some_same g f n))), first c refl g is))

-- the pages of a walk, told or not, of which some are the first
pub walk_chosen :
    (told : Option Contents) (name : List ℕ) (s : Sections) (pages : List Page) → Told told (λ c. (f : List ℕ) → file_of c name ≡ Some f → AreFirst pages (walk_of f s))
    → (walk : List Page) × ((Told told (λ c. (f : List ℕ) → file_of c name ≡ Some f → walk ≡ walk_of f s)) × AreFirst pages walk)
walk_chosen None name s pages first = (pages, ((λ c is. absurd (cc)), ([], append-nil pages)))
walk_chosen (Some c) name s pages first = chosen_file c (file_of c name) name s pages refl first

went_on_at : (result : Result (Unit {0}) SiteFault) (went_on : Bool) (fault : SiteFault) → result ≡ Err fault → OnErr result (went_on ≡ true) → went_on ≡ true
went_on_at (Ok done) went_on fault is goes = absurd (cc)
went_on_at (Err other) went_on fault is goes = goes

first_at : (all pages : List Page) (went_on : Bool) (result : Result (Unit {0}) SiteFault) (fault : SiteFault) → result ≡ Err fault → AreOfWalk result all pages went_on → AreFirst pages all
first_at all pages went_on (Ok done) fault is are = absurd (cc)
first_at all pages went_on (Err other) fault is are = are

first_of : (all pages : List Page) (went_on : Bool) (result : Result (Unit {0}) SiteFault) → went_on ≡ false → AreOfWalk result all pages went_on → AreFirst pages all
first_of all pages true result is are = absurd (cc)
first_of all pages false (Ok done) is are = are
first_of all pages false (Err fault) is are = are

all_at : (all pages : List Page) (went_on : Bool) (result : Result (Unit {0}) SiteFault) (done : Unit {0}) → result ≡ Ok done → went_on ≡ true → AreOfWalk result all pages went_on → pages ≡ all
all_at all pages true (Ok other) done is on are = are
all_at all pages true (Err fault) done is on are = absurd (cc)
all_at all pages false result done is on are = absurd (cc)

failed_printed : (pages : List Page) (old new : Option (List ℕ)) (answer : Result ℕ PagesFault) → IsErr answer →
    (size : ℕ) × (new ≡ grown old (take size (pages_text pages))) → IsPagesPrinted pages old new answer
failed_printed pages old new (Ok count) failed part = absurd (cc)
failed_printed pages old new (Err fault) failed part = part

-- the last line behind the others, or some of it
pub last_line : (told between : Option (List ℕ)) (pages : List Page) (count : ℕ) (line : List ℕ) →
    between ≡ grown told (lines pages) → count ≡ length pages → line ≡ count_line count →
    grown between line ≡ grown told (pages_text pages)
unfolding pages_text
last_line told between pages count line is number text =
    ap (λ o. grown o line) is ∙ grown-append told (lines pages) line ∙ ap (λ l. grown told (lines pages ++ l)) (text ∙ ap count_line number)

pub last_cut : (told between : Option (List ℕ)) (pages : List Page) (count size : ℕ) (line : List ℕ) → between ≡ grown told (lines pages) → count ≡ length pages → line ≡ count_line count
    → grown between (take size line) ≡ grown told (take (length (lines pages) + size) (pages_text pages))
unfolding pages_text
last_cut told between pages count size line is number text =
    ap (λ l. grown between (take size l)) (text ∙ ap count_line number) ∙ then_first told between (lines pages) (count_line (length pages)) size is

module _ {O : Type 0} (seen : O → Watched ℕ) where
  pub took_faults : (old : Printer O) (pages : List Page) (went_on : Bool) (new : Printer O) → Took (Prints seen) old pages went_on new → (sink_of seen old).faults ≤ (sink_of seen new).faults
  took_faults old pages true new took = (printed seen old pages new took).faults
  took_faults old pages false new took = (cut seen old pages new took).faults

  pub took_reference : (old : Printer O) (pages : List Page) (went_on : Bool) (new : Printer O) → Took (Prints seen) old pages went_on new → new.out.ghost_name ≡ old.out.ghost_name
  took_reference old pages true new took = (printed seen old pages new took).same_reference
  took_reference old pages false new took = (cut seen old pages new took).same_reference

  -- a printer that hasn't failed took all pages, and one that has failed didn't
  pub took_cause :
      (old : Printer O) (pages : List Page) (went_on : Bool) (new : Printer O) → Took (Prints seen) old pages went_on new → old.failed ≡ false → new.failed ≡ true
      → Rose (sink_of seen old).faults (sink_of seen new).faults
  took_cause old pages true new took begun failed = absurd (let e = (printed seen old pages new took).failed in let f : true ≡ false = sym failed ∙ e ∙ begun in cc)
  took_cause old pages false new took begun failed = (cut seen old pages new took).cause

  took_on : (old : Printer O) (pages : List Page) (went_on : Bool) (new : Printer O) → Took (Prints seen) old pages went_on new → new.failed ≡ false → went_on ≡ true
  took_on old pages true new took fine = refl
  took_on old pages false new took fine = absurd (let e = (cut seen old pages new took).failed in let f : true ≡ false = sym e ∙ fine in cc)

  took_off : (old : Printer O) (pages : List Page) (went_on : Bool) (new : Printer O) → Took (Prints seen) old pages went_on new → old.failed ≡ false → new.failed ≡ true → went_on ≡ false
  took_off old pages true new took begun failed = absurd (let e = (printed seen old pages new took).failed in let f : true ≡ false = sym failed ∙ e ∙ begun in cc)
  took_off old pages false new took begun failed = refl

module _ {O : Type 0} (seen : O → Watched ℕ) (told : Option Contents) (name : List ℕ) (s : Sections) (old new : Printer O) (result : Result (Unit {0}) SiteFault) where
  -- the pages of the file's walk
  abbrev pub AreOf : List Page → Bool → Type 0
  AreOf pages went_on = Told told (λ c. (f : List ℕ) → file_of c name ≡ Some f → AreOfWalk result (walk_of f s) pages went_on)

  abbrev pub IsOfFile : List Page → Type 0
  IsOfFile walk = Told told (λ c. (f : List ℕ) → file_of c name ≡ Some f → walk ≡ walk_of f s)

  abbrev pub IsPart : Type 0
  IsPart = (walk : List Page) × (IsOfFile walk × ((size : ℕ) × ((sink_of seen new).told ≡ grown (sink_of seen old).told (take size (pages_text walk)))))

  from_first : (pages : List Page) (size : ℕ) → Told told (λ c. (f : List ℕ) → file_of c name ≡ Some f → AreFirst pages (walk_of f s))
      → (sink_of seen new).told ≡ grown (sink_of seen old).told (take size (lines pages)) → IsPart
  from_first pages size first is =
      let walk = walk_chosen told name s pages first in
      let bytes = first_bytes pages walk.0 size walk.1.1 in
      (walk.0, (walk.1.0, (bytes.0, is ∙ ap (grown (sink_of seen old).told) bytes.1)))

  -- the site failed
  pub ended_site :
      (fault : SiteFault) (answer : Result ℕ PagesFault) → IsWalk (Prints seen) old new result AreOf → result ≡ Err fault → IsErr answer
      → (walk : List Page) × (IsOfFile walk × IsPagesPrinted walk (sink_of seen old).told (sink_of seen new).told answer)
  ended_site fault answer walk is failed =
      let all = printed seen old walk.pages new (subst (λ b. Took (Prints seen) old walk.pages b new) (went_on_at result walk.went_on fault is walk.fault) walk.taken) in
      let whole : (sink_of seen new).told ≡ grown (sink_of seen old).told (take (length (lines walk.pages)) (lines walk.pages)) =
      all.told ∙ ap (grown (sink_of seen old).told) (sym (take-length (lines walk.pages))) in
      let part = from_first walk.pages (length (lines walk.pages)) (λ c same f there. first_at (walk_of f s) walk.pages walk.went_on result fault is (walk.are c same f there)) whole in
      (part.0, (part.1.0, failed_printed part.0 (sink_of seen old).told (sink_of seen new).told answer failed part.1.1))

  -- the sink failed at a page
  pub ended_cut : IsWalk (Prints seen) old new result AreOf → old.failed ≡ false → new.failed ≡ true → IsPart
  ended_cut walk begun failed =
      let off = took_off seen old walk.pages walk.went_on new walk.taken begun failed in
      let some = cut seen old walk.pages new (subst (λ b. Took (Prints seen) old walk.pages b new) off walk.taken) in
      from_first walk.pages some.size (λ c same f there. first_of (walk_of f s) walk.pages walk.went_on result off (walk.are c same f there)) some.told

  -- all lines were printed, and then the last one or some of it
  pub ended_lines : (done : Unit {0}) → IsWalk (Prints seen) old new result AreOf → result ≡ Ok done → old.count ≡ 0 → new.failed ≡ false
      → (walk : List Page) × (IsOfFile walk × ((new.count ≡ length walk) × ((sink_of seen new).told ≡ grown (sink_of seen old).told (lines walk))))
  ended_lines done walk is none fine =
      let on = took_on seen old walk.pages walk.went_on new walk.taken fine in
      let all = printed seen old walk.pages new (subst (λ b. Took (Prints seen) old walk.pages b new) on walk.taken) in (
        walk.pages,
        (
          (λ c same f there. all_at (walk_of f s) walk.pages walk.went_on result done is on (walk.are c same f there)),
          ((all.count (omega (arith, walk.few)) ∙ omega arith), all.told),
        ),
      )
