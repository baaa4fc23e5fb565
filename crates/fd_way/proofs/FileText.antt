-- What is printed of a file that is opened and read, behind some text.
use Rattle.std.proofs.Common.{◌≡◌, ℕ, ◌+◌, Bool, true, false, nat_lt, if◌then◌else◌, List, [], ◌++◌, length, min, take, Option, Some, None, Result, Ok, Err, refl, sym, ◌∙◌, ap, subst, arith}
use Rattle.std.proofs.Math.Seq.{take-append-add}
use Rattle.std.proofs.lemmas.List.{take-append-le, take_min}
use Rattle.fd_site.specs.Contents.{Contents, Told, file_of}
use Rattle.fd_site.specs.Seen.{Watched}
use Rattle.fd_site.specs.Trace.{grown}
use Rattle.fd_site.proofs.Told.{grown-append}
use Rattle.fd_info.specs.Name.{vmcore_name}
use Rattle.fd_mini.specs.Kernel.{KernelBytes}
use Rattle.fd_mini.specs.Read.{header_in}
use Rattle.fd_mini.specs.declared.header.MiniHeader.{MiniHeader}
use Rattle.fd_mini.specs.declared.mini_fault.MiniFault.{MiniFault}
use Rattle.fd_mini.specs.declared.address_fault.AddressFault.{AddressFault}
use Rattle.fd_vmcore.specs.Sections.{IsOpening, Sections, bad_range, bits_in, by_header, by_ranges, long_enough, opened, opened_file, pages_end}
use Rattle.fd_vmcore.specs.Ranges.{pages_in}
use Rattle.fd_mini.specs.Places.{places_of}
use Rattle.fd_vmcore.specs.declared.open.OpenFault.{OpenFault}
use Rattle.fd_vmcore.specs.declared.open.OpenFault.TheVariants.{NoFile, Short}
use Rattle.fd_kvm.specs.Answer.{answer_of, by_sections}
use Rattle.fd_way.specs.Drill.{IsOfBytes, IsOfFile, file_text}
use Rattle.fd_way.specs.Print as print
use Rattle.fd_way.specs.Steps.{GivenBy, PrintsFile, PrintsFirst, RefusesFile}
use Rattle.fd_way.proofs.Printing.{told_one}

-- a file that is there is opened or refused by its bytes
abbrev OfBytes : {A : Type 0} → Result A OpenFault → Type 0
OfBytes (Ok a) = Unit {0}
OfBytes (Err fault) = IsOfBytes fault

long_enough-bytes : (f : List ℕ) (need : ℕ) (answer : Result Sections OpenFault) → OfBytes answer → OfBytes (long_enough f need answer)
long_enough-bytes f need answer of = either (nat_lt (length f) need)
  where
    either : (short : Bool) → OfBytes (if short then Err (Short need (length f)) else answer)
    either true = tt
    either false = of

opened-bytes : (f : List ℕ) → OfBytes (opened f)
unfolding opened
opened-bytes f = long_enough-bytes f 4096 (by_header f (header_in (take 4096 f))) (by_page (header_in (take 4096 f)))
  where
    by_bad : (h : MiniHeader) (bad : Option ℕ) → OfBytes (by_ranges f h bad)
    by_bad h (Some index) = tt
    by_bad h None =
        let s : Sections = record { header = h; pages = pages_in f h; bits = bits_in f h } in long_enough-bytes f (pages_end s) (Ok s) tt

    by_page : (page : Result MiniHeader MiniFault) → OfBytes (by_header f page)
    by_page (Err fault) = tt
    by_page (Ok h) = long_enough-bytes f (places_of h).pages (by_ranges f h (bad_range f h)) (by_bad h (bad_range f h))

opened_is_there : (f : List ℕ) → opened f ≡ Err NoFile → ⊥
opened_is_there f is = subst (λ (r : Result Sections OpenFault). OfBytes r) is (opened-bytes f)

-- so a read gives something of it
pub answer_of-bytes : (f : List ℕ) (va count : ℕ) → IsOfFile (answer_of f va count)
answer_of-bytes f va count = by_opened (opened f) (opened-bytes f)
  where
    by_opened : (r : Result Sections OpenFault) → OfBytes r → IsOfFile (by_sections f va count r)
    by_opened (Ok s) of = tt
    by_opened (Err fault) of = of

-- a file that was taken away counts as an empty one
pub file_gone : (told : Option Contents) (name : List ℕ) (number va count : ℕ) (front : List ℕ) (was now : Watched ℕ) (fault : OpenFault) → fault ≡ NoFile
    → name ≡ vmcore_name number → Told told (λ c. IsOpening (file_of c name) (Err fault)) → now.told ≡ grown was.told front
    → RefusesFile told number va count front was now (Short 4096 0)
file_gone told name number va count front was now fault is name_is opening printed = record {
  is_given = λ c told_c f file.
      let none : opened_file (file_of c name) ≡ Err NoFile = subst (λ e. IsOpening (file_of c name) (Err e)) is (opening c told_c) in
      absurd (opened_is_there f (sym (ap opened_file (ap (file_of c) name_is ∙ file)) ∙ none));
  of_bytes = tt;
  printed = printed;
}

-- what reading a file gives behind some text
module _ (told seen : Option Contents) (name : List ℕ) (number va count : ℕ) (front : List ℕ) (was old new : Watched ℕ) (same : seen ≡ told) (name_is : name ≡ vmcore_name number)
    (before : old.told ≡ grown was.told front) where
  of_reader : (given : KernelBytes) → print.IsGivenBy seen name va count given → GivenBy told number va count (Ok given)
  of_reader given is c told_c f file = sym (is c (same ∙ told_c) f (ap (file_of c) name_is ∙ file))

  pub file_printed : (fault : Option AddressFault) → print.Prints seen name va count old new fault → PrintsFile told number va count front was new fault
  file_printed fault p = record {
    given = p.is_text.given;
    is_given = of_reader p.is_text.given p.is_text.is_given;
    fault_is = p.is_text.fault_is;
    printed = p.printed ∙ ap (λ t. grown t p.text) before ∙ grown-append was.told front p.text ∙ ap (λ (t : List ℕ). grown was.told (front ++ t)) p.is_text.text_is;
  }

  pub file_printed_first : print.PrintsFirst seen name va count old new → PrintsFirst told number va count front was new
  file_printed_first p = record {
    given = Ok p.is_text.given;
    of_file = tt;
    is_given = of_reader p.is_text.given p.is_text.is_given;
    n = length front + p.n;
    printed =
        p.printed ∙ ap (λ t. grown t (take p.n p.text)) before ∙ grown-append was.told front (take p.n p.text)
        ∙ ap (grown was.told) (sym (take-append-add front p.text p.n)) ∙ ap (λ (t : List ℕ). grown was.told (take (length front + p.n) (front ++ t))) p.is_text.text_is;
  }

-- what the file of a number gives, whatever is there
record SomeGiven (told : Option Contents) (number va count : ℕ) : Type 0 where
  given : Result KernelBytes OpenFault
  of_file : IsOfFile given
  is_given : GivenBy told number va count given

nothing : KernelBytes
nothing = record { bytes = []; fault = None }

given_of : (told : Option Contents) (number va count : ℕ) → SomeGiven told number va count
given_of None number va count = record { given = Ok nothing; of_file = tt; is_given = λ c is. absurd (cc) }
given_of (Some c) number va count = by_file (file_of c (vmcore_name number)) refl
  where
    by_file : (file : Option (List ℕ)) → file_of c (vmcore_name number) ≡ file → SomeGiven (Some c) number va count
    by_file None is = record {
      given = Ok nothing;
      of_file = tt;
      is_given = told_one c (λ d. (f : List ℕ) → file_of d (vmcore_name number) ≡ Some f → Ok nothing ≡ answer_of f va count) (λ f is_f. absurd (cc));
    }
    by_file (Some g) is = record {
      given = answer_of g va count;
      of_file = answer_of-bytes g va count;
      is_given =
          told_one c (λ d. (f : List ℕ) → file_of d (vmcore_name number) ≡ Some f → answer_of g va count ≡ answer_of f va count)
          (λ f is_f. let one : g ≡ f = cc in ap (λ x. answer_of x va count) one);
    }

-- the sink failed in the text before it
pub front_printed_first : (told : Option Contents) (number va count : ℕ) (front line : List ℕ) (was now : Watched ℕ) → line ≡ front
    → ((n : ℕ) × (now.told ≡ grown was.told (take n line))) → PrintsFirst told number va count front was now
front_printed_first told number va count front line was now is some =
    let given = given_of told number va count in
    let m : ℕ = min some.0 (length front) in
    record {
      given = given.given;
      of_file = given.of_file;
      is_given = given.is_given;
      n = m;
      printed =
          some.1 ∙ ap (λ t. grown was.told (take some.0 t)) is
          ∙ ap (grown was.told) (sym (take_min some.0 front) ∙ sym (take-append-le m front (file_text va given.given) (omega arith)));
    }
