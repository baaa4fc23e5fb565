-- What a visitor took part by part, and which pages were marked.
use Rattle.std.proofs.Common.{◌≡◌, ℕ, zero, suc, ◌+◌, ◌-◌, ◌*◌, ◌<◌, ◌≤◌, Bool, true, false, ◌||◌, nat_eq, List, [], ◌∷◌, ◌++◌, length}
use Rattle.std.proofs.Common.{Option, Some, None, Result, Ok, Err, IsErr, refl, sym, ap, subst, ◌∙◌, arith, append_assoc, append-nil}
use Rattle.std.specs.List.{cons_option, filter_map, range_with_len}
use Rattle.std.proofs.lemmas.List.{length-append}
use Rattle.std.proofs.lemmas.List.Folds.{list_any-append}
use Rattle.std.proofs.lemmas.List.Elements.{filter_map-append}
use Rattle.fd_site.specs.declared.fault.SiteFault.{SiteFault}
use Rattle.fd_vmcore.specs.Sections.{Sections, has_bit}
use Rattle.fd_kvm.specs.Parts.{AreMarked, AreOfPart, IsPart, IsTaken, first_place, goes_on}
use Rattle.fd_kvm.specs.Visits.{AreFirst, AreGiven, Took, TookAll}
use Rattle.fd_kvm.specs.Walk.{has_page}
use Rattle.fd_kvm.specs.declared.page.Page.{Page}

all_then : {V : Type 0} (took : V → Page → Bool → V → Type 0) (front pages : List Page) (old between new : V) →
    TookAll took old front between → TookAll took between pages new → TookAll took old (front ++ pages) new
all_then {V} took [] pages old between new first more = let P : V → Type 0 = λ v. TookAll took v pages new in subst P first more
all_then took (page ∷ front) pages old between new first more = (first.0, (first.1.0, all_then took front pages first.0 between new first.1.1 more))

-- pages that were taken, and then others
pub took_then :
    {V : Type 0} (took : V → Page → Bool → V → Type 0) (front pages : List Page) (went_on : Bool) (old between new : V) → TookAll took old front between
    → Took took between pages went_on new → Took took old (front ++ pages) went_on new
took_then took front pages true old between new first more = all_then took front pages old between new first more
took_then took front pages false old between new first more = record {
  front = front ++ more.front;
  last = more.last;
  between = more.between;
  are = ap (λ l. front ++ l) more.are ∙ sym (append_assoc front more.front (more.last ∷ []));
  all = all_then took front more.front old between more.between first more.all;
  ended = more.ended;
}

pub took_one : {V : Type 0} (took : V → Page → Bool → V → Type 0) (page : Page) (answer : Bool) (old new : V) → took old page answer new → Took took old (page ∷ []) answer new
took_one took page true old new taken = (new, (taken, refl))
took_one took page false old new taken = record { front = []; last = page; between = old; are = refl; all = refl; ended = taken }

or_false : (b : Bool) → b ≡ (b || false)
or_false true = refl
or_false false = refl

or_assoc : (a b c : Bool) → ((a || b) || c) ≡ (a || (b || c))
or_assoc true b c = refl
or_assoc false b c = refl

pub marked_none : (s : Sections) (marks : List Bool) → AreMarked s [] marks marks
marked_none s marks = record { len = refl; marks = λ number within. or_false (has_bit marks number) }

pub marked_then : (s : Sections) (front pages : List Page) (old between new : List Bool) → AreMarked s front old between → AreMarked s pages between new → AreMarked s (front ++ pages) old new
marked_then s front pages old between new first more = record {
  len = more.len ∙ first.len;
  marks = λ number within.
      let place = first_place s + 4096 * number in
      more.marks number (omega (arith, first.len))
      ∙ ap (λ b. b || has_page pages place) (first.marks number within)
      ∙ or_assoc (has_bit old number) (has_page front place) (has_page pages place)
      ∙ ap (λ b. has_bit old number || b) (sym (list_any-append (λ (page : Page). nat_eq page.offset place) front pages));
}

module _ {V : Type 0} (took : V → Page → Bool → V → Type 0) (s : Sections) where
  -- nothing was given yet
  pub part_none : (v : V) (marks : List Bool) (Are : List Page → Type 0) → Are [] → IsPart took s v v marks marks true Are
  part_none v marks Are are = record { pages = []; taken = refl; marked = marked_none s marks; are = are }

  -- a part, and then the next one
  pub part_then :
      (old between new : V) (before middle after : List Bool) (went_on : Bool) (First Next Both : List Page → Type 0) → IsPart took s old between before middle true First
      → IsPart took s between new middle after went_on Next → ((front pages : List Page) → First front → Next pages → Both (front ++ pages)) → IsPart took s old new before after went_on Both
  part_then old between new before middle after went_on First Next Both first next both = record {
    pages = first.pages ++ next.pages;
    taken = took_then took first.pages next.pages went_on old between new first.taken next.taken;
    marked = marked_then s first.pages next.pages before middle after first.marked next.marked;
    are = both first.pages next.pages first.are next.are;
  }

  -- one page
  pub part_one : (old new : V) (before after : List Bool) (page : Page) (answer : Bool) → took old page answer new →
      AreMarked s (page ∷ []) before after → IsPart took s old new before after answer (λ pages. pages ≡ page ∷ [])
  part_one old new before after page answer taken marked = record {
    pages = page ∷ [];
    taken = took_one took page answer old new taken;
    marked = marked;
    are = refl;
  }

  -- of the same pages something else may be said
  pub part_as : (old new : V) (before after : List Bool) (went_on : Bool) (Are Other : List Page → Type 0) →
      IsPart took s old new before after went_on Are → ((pages : List Page) → Are pages → Other pages) →
      IsPart took s old new before after went_on Other
  part_as old new before after went_on Are Other part other = record {
    pages = part.pages;
    taken = part.taken;
    marked = part.marked;
    are = other part.pages part.are;
  }

-- a fault comes before any false answer
pub failed_goes : (result : Result Bool SiteFault) → IsErr result → goes_on result ≡ true
failed_goes (Ok went_on) failed = absurd (cc)
failed_goes (Err fault) failed = refl

pub failed_first : (all pages : List Page) (result : Result Bool SiteFault) → IsErr result → AreFirst pages all → AreOfPart all pages result
failed_first all pages (Ok went_on) failed first = absurd (cc)
failed_first all pages (Err fault) failed first = first

-- numbers, and then the next ones
pub range_more : (first count more : ℕ) → range_with_len first (count + more) ≡ range_with_len first count ++ range_with_len (first + count) more
range_more first zero more =
    let none : 0 + more ≡ more = omega arith in
    let same : first ≡ first + 0 = omega arith in
    ap (range_with_len first) none ∙ ap (λ n. range_with_len n more) same
range_more first (suc count) more =
    let next : suc count + more ≡ suc (count + more) = omega arith in
    let same : first + 1 + count ≡ first + suc count = omega arith in
    ap (range_with_len first) next ∙ ap (λ l. first ∷ l) (range_more (first + 1) count more ∙ ap (λ n. range_with_len (first + 1) count ++ range_with_len n more) same)

pub mapped_more : {X : Type 0} (h : ℕ → Option X) (first count more : ℕ) →
    filter_map h (range_with_len first (count + more)) ≡ filter_map h (range_with_len first count) ++ filter_map h
    (range_with_len (first + count) more)
mapped_more h first count more = ap (filter_map h) (range_more first count more) ∙ filter_map-append h (range_with_len first count) (range_with_len (first + count) more)

-- the same of each number
pub mapped_same : {X : Type 0} (h k : ℕ → Option X) (first count : ℕ) → ((n : ℕ) → first ≤ n → n < first + count → h n ≡ k n) →
    filter_map h (range_with_len first count) ≡ filter_map k (range_with_len first count)
mapped_same h k first zero same = refl
mapped_same h k first (suc count) same =
    ap (λ o. cons_option o (filter_map h (range_with_len (first + 1) count))) (same first (omega arith) (omega arith))
    ∙ ap (cons_option (k first)) (mapped_same h k (first + 1) count (λ n low high. same n (omega arith) (omega arith)))

pub mapped_none : {X : Type 0} (h : ℕ → Option X) (first count : ℕ) → ((n : ℕ) → h n ≡ None) → filter_map h (range_with_len first count) ≡ []
mapped_none h first zero none = refl
mapped_none h first (suc count) none = ap (λ o. cons_option o (filter_map h (range_with_len (first + 1) count))) (none first) ∙ mapped_none h (first + 1) count none

-- one number more that gives nothing, or an item
pub mapped_pass : {X : Type 0} (h : ℕ → Option X) (first count : ℕ) → h (first + count) ≡ None → filter_map h (range_with_len first (count + 1)) ≡ filter_map h (range_with_len first count)
mapped_pass h first count none =
    mapped_more h first count 1 ∙ ap (λ o. filter_map h (range_with_len first count) ++ cons_option o []) none ∙ append-nil (filter_map h (range_with_len first count))

pub mapped_item : {X : Type 0} (h : ℕ → Option X) (first count : ℕ) (item : X) → h (first + count) ≡ Some item →
    filter_map h (range_with_len first (count + 1)) ≡ filter_map h (range_with_len first count) ++ item ∷ []
mapped_item h first count item some = mapped_more h first count 1 ∙ ap (λ o. filter_map h (range_with_len first count) ++ cons_option o []) some

-- the pages up to one are the first pages
pub first_of_more : (all before one rest : List Page) → all ≡ (before ++ one) ++ rest → AreFirst (before ++ one) all
first_of_more all before one rest is = (rest, sym is)

-- what a visitor took of the items of numbers, one number further
module _ {V : Type 0} (took : V → Page → Bool → V → Type 0) (s : Sections) (h : ℕ → Option Page) (first count at : ℕ) (here : at ≡ first + count) where
  item_here : (item : Option Page) → h at ≡ item → h (first + count) ≡ item
  item_here item is = ap h (sym here) ∙ is

  pub part_pass :
      (old new : V) (before after : List Bool) (next : ℕ) → next ≡ count + 1 → h at ≡ None
      → IsPart took s old new before after true (λ pages. pages ≡ filter_map h (range_with_len first count))
      → IsPart took s old new before after true (λ pages. pages ≡ filter_map h (range_with_len first next))
  part_pass old new before after next follows none part =
      part_as took s old new before after true (λ pages. pages ≡ filter_map h (range_with_len first count)) (λ pages. pages ≡ filter_map h (range_with_len first next)) part
      (λ pages are. are ∙ sym (mapped_pass h first count (item_here None none)) ∙ ap (λ n. filter_map h (range_with_len first n)) (sym follows))

  pub part_item :
      (old between new : V) (before middle after : List Bool) (next : ℕ) (page : Page) → next ≡ count + 1 → h at ≡ Some page
      → IsPart took s old between before middle true (λ pages. pages ≡ filter_map h (range_with_len first count))
      → took between page true new → AreMarked s (page ∷ []) middle after
      → IsPart took s old new before after true (λ pages. pages ≡ filter_map h (range_with_len first next))
  part_item old between new before middle after next page follows some part taken marked =
      part_then took s old between new before middle after true (λ pages. pages ≡ filter_map h (range_with_len first count))
      (λ pages. pages ≡ page ∷ []) (λ pages. pages ≡ filter_map h (range_with_len first next))
      part (part_one took s between new middle after page true taken marked)
      (λ front pages are one. ap (λ l. l ++ pages) are ∙ ap (λ l. filter_map h (range_with_len first count) ++ l) one
      ∙ sym (mapped_item h first count page (item_here (Some page) some)) ∙ ap (λ n. filter_map h (range_with_len first n)) (sym follows))

  pub part_last :
      (old between new : V) (before middle after : List Bool) (total : ℕ) (page : Page) → count < total → h at ≡ Some page
      → IsPart took s old between before middle true (λ pages. pages ≡ filter_map h (range_with_len first count))
      → took between page false new → AreMarked s (page ∷ []) middle after
      → IsPart took s old new before after false (λ pages. AreFirst pages (filter_map h (range_with_len first total)))
  part_last old between new before middle after total page within some part taken marked =
      let more : total ≡ count + 1 + (total - (count + 1)) = omega arith in
      let given = filter_map h (range_with_len first count) in
      let rest = filter_map h (range_with_len (first + (count + 1)) (total - (count + 1))) in
      part_then took s old between new before middle after false (λ pages. pages ≡ given) (λ pages. pages ≡ page ∷ []) (λ pages. AreFirst pages (filter_map h (range_with_len first total)))
      part (part_one took s between new middle after page false taken marked)
      (λ front pages are one. (
        rest,
        ap (λ l. (l ++ pages) ++ rest) are ∙ ap (λ l. (given ++ l) ++ rest) one ∙ ap (λ l. l ++ rest) (sym (mapped_item h first count page (item_here (Some page) some)))
            ∙ sym (mapped_more h first (count + 1) (total - (count + 1))) ∙ ap (λ n. filter_map h (range_with_len first n)) (sym more),
      ))

-- the same without marks
module _ {V : Type 0} (took : V → Page → Bool → V → Type 0) (h : ℕ → Option Page) (at : ℕ) where
  pub taken_none : (v : V) → IsTaken took v v true (λ pages. pages ≡ filter_map h (range_with_len 0 0))
  taken_none v = record { pages = []; taken = refl; are = refl }

  pub taken_pass :
      (old new : V) → h at ≡ None → IsTaken took old new true (λ pages. pages ≡ filter_map h (range_with_len 0 at))
      → IsTaken took old new true (λ pages. pages ≡ filter_map h (range_with_len 0 (at + 1)))
  taken_pass old new none part =
      let here : h (0 + at) ≡ None = ap h (omega arith) ∙ none in
      record { pages = part.pages; taken = part.taken; are = part.are ∙ sym (mapped_pass h 0 at here) }

  pub taken_item :
      (old between new : V) (page : Page) → h at ≡ Some page → IsTaken took old between true (λ pages. pages ≡ filter_map h (range_with_len 0 at))
      → took between page true new → IsTaken took old new true (λ pages. pages ≡ filter_map h (range_with_len 0 (at + 1)))
  taken_item old between new page some part taken =
      let here : h (0 + at) ≡ Some page = ap h (omega arith) ∙ some in
      record {
        pages = part.pages ++ page ∷ [];
        taken = took_then took part.pages (page ∷ []) true old between new part.taken (took_one took page true between new taken);
        are = ap (λ l. l ++ page ∷ []) part.are ∙ sym (mapped_item h 0 at page here);
      }

  pub taken_last :
      (old between new : V) (total : ℕ) (page : Page) → at < total → h at ≡ Some page → IsTaken took old between true (λ pages. pages ≡ filter_map h (range_with_len 0 at))
      → took between page false new → IsTaken took old new false (λ pages. AreFirst pages (filter_map h (range_with_len 0 total)))
  taken_last old between new total page within some part taken =
      let here : h (0 + at) ≡ Some page = ap h (omega arith) ∙ some in
      let more : total ≡ at + 1 + (total - (at + 1)) = omega arith in
      let rest = filter_map h (range_with_len (0 + (at + 1)) (total - (at + 1))) in
      record {
        pages = part.pages ++ page ∷ [];
        taken = took_then took part.pages (page ∷ []) false old between new part.taken (took_one took page false between new taken);
        are = (
          rest,
          ap (λ l. (l ++ page ∷ []) ++ rest) part.are ∙ ap (λ l. l ++ rest) (sym (mapped_item h 0 at page here))
              ∙ sym (mapped_more h 0 (at + 1) (total - (at + 1))) ∙ ap (λ n. filter_map h (range_with_len 0 n)) (sym more),
        );
      }

-- there are no more items than numbers, and no more first items than items
length-some : {X : Type 0} (item : Option X) (items : List X) → length (cons_option item items) ≤ 1 + length items
length-some None items = omega arith
length-some (Some item) items = omega arith

pub mapped_few : {X : Type 0} (h : ℕ → Option X) (first count : ℕ) → length (filter_map h (range_with_len first count)) ≤ count
mapped_few h first zero = omega arith
mapped_few h first (suc count) = omega (arith, length-some (h first) (filter_map h (range_with_len (first + 1) count)), mapped_few h (first + 1) count)

pub given_few : (pages all : List Page) (went_on : Bool) → AreGiven pages all went_on → length pages ≤ length all
given_few pages all true given = (let e = ap (λ (l : List Page). length l) given in omega arith)
given_few pages all false given = (let e = ap (λ (l : List Page). length l) given.1 in omega (arith, length-append pages given.0))
