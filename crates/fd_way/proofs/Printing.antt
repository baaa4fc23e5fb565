-- What a read of a saved minidump gives, and its text, by what the reader answers.
use Rattle.std.proofs.Common.{◌≡◌, ℕ, List, [], length, Option, Some, None, IsSomeAnd, Result, Ok, Err, refl, sym, ◌∙◌, ap, subst}
use Rattle.fd_site.specs.Contents.{Contents, Told, file_of}
use Rattle.fd_mini.specs.Kernel.{KernelBytes}
use Rattle.fd_mini.specs.declared.address_fault.AddressFault.{AddressFault}
use Rattle.fd_vmcore.specs.Sections.{Sections, opened}
use Rattle.fd_kvm.specs.Answer.{answer_of, by_sections, bytes_in}
use Rattle.fd_kvm.specs.Reader.{IsFileOf, IsRead, Reader, StandsFor}
use Rattle.fd_kvm.specs.declared.fault.ReadFault.{ReadFault}
use Rattle.fd_kvm.specs.declared.fault.ReadFault.TheVariants.{Address}
use Rattle.fd_way.specs.Print.{IsGivenBy, IsReadText, fault_text, text_by}
use Rattle.fd_way.specs.ReadText.{read_text}

-- what is told is one thing
pub told_one : (c : Contents) (P : Contents → Type 0) → P c → Told (Some c) P
told_one c P p d is = let same : c ≡ d = cc in subst P same p

-- a file that a reader stands for opens as its sections, by which every read is answered
opens : (s : Sections) (pages : List (ℕ × List ℕ)) (file : Option (List ℕ)) (f : List ℕ) → file ≡ Some f → IsSomeAnd file (IsFileOf s pages) → opened f ≡ Ok s
opens s pages None f is found = absurd found
opens s pages (Some g) f is found = let same : g ≡ f = cc in subst (λ x. opened x ≡ Ok s) same found.opens

answers_by : (c : Contents) (reader : Reader) (va count : ℕ) (f : List ℕ) → StandsFor reader c → file_of c reader.name ≡ Some f
    → answer_of f va count ≡ Ok (bytes_in f reader.sections va count)
answers_by c reader va count f stands is =
    ap (by_sections f va count) (opens reader.sections reader.pages (file_of c reader.name) f is stands)

-- what a reader of a file answered with this buffer
abbrev pub Answered : Option Contents → Reader → (va : ℕ) → (old new : List ℕ) → Result (Unit {0}) ReadFault → Type 0
Answered told reader va old new result =
    Told told (λ c. (f : List ℕ) → file_of c reader.name ≡ Some f → IsRead (bytes_in f reader.sections va (length old)) old new result)

-- all bytes were read
pub whole_text : (told : Option Contents) (reader : Reader) (va count : ℕ) (old new text : List ℕ) (done : Unit {0}) → length old ≡ count
    → Told told (StandsFor reader) → Answered told reader va old new (Ok done) → text ≡ read_text va new → IsReadText told reader.name va count None text
whole_text told reader va count old new text done long stands read is = record {
  given = record { bytes = new; fault = None };
  is_given = λ c told_c f file.
      let here : IsRead (bytes_in f reader.sections va count) old new (Ok done) = subst (λ n. IsRead (bytes_in f reader.sections va n) old new (Ok done)) long (read c told_c f file) in
      answers_by c reader va count f (stands c told_c) file ∙ (λ i. Ok (record { bytes = sym here.1 i; fault = here.0 i }));
  fault_is = refl;
  text_is = is;
}

-- an address had none: what came before it isn't printed, so it may be anything where nothing is told
fault_by : (told : Option Contents) (reader : Reader) (va count : ℕ) (old new : List ℕ) (fault : AddressFault) → length old ≡ count
    → Told told (StandsFor reader) → Answered told reader va old new (Err (Address fault))
    → (given : KernelBytes) × IsGivenBy told reader.name va count given × (given.fault ≡ Some fault)
fault_by None reader va count old new fault long stands read = (record { bytes = []; fault = Some fault }, (λ c is. absurd (cc)), refl)
fault_by (Some c) reader va count old new fault long stands read =
    by_file (file_of c reader.name) refl (stands c refl)
  where
    by_file : (file : Option (List ℕ)) → file_of c reader.name ≡ file → IsSomeAnd file (IsFileOf reader.sections reader.pages)
        → (given : KernelBytes) × IsGivenBy (Some c) reader.name va count given × (given.fault ≡ Some fault)
    by_file None is found = absurd found
    by_file (Some f) is found =
        let here : IsRead (bytes_in f reader.sections va count) old new (Err (Address fault)) =
        subst (λ n. IsRead (bytes_in f reader.sections va n) old new (Err (Address fault))) long (read c refl f is) in (
          bytes_in f reader.sections va count,
          told_one c (λ d. (g : List ℕ) → file_of d reader.name ≡ Some g → answer_of g va count ≡ Ok (bytes_in f reader.sections va count))
              (λ g is_g. let same : f ≡ g = cc in
              subst (λ x. answer_of x va count ≡ Ok (bytes_in f reader.sections va count)) same (answers_by c reader va count f (stands c refl) is)),
          here.0,
        )

pub fault_read : (told : Option Contents) (reader : Reader) (va count : ℕ) (old new text : List ℕ) (error : ReadFault) (fault : AddressFault) → length old ≡ count
    → Told told (StandsFor reader) → error ≡ Address fault → Answered told reader va old new (Err error) → text ≡ fault_text fault
    → IsReadText told reader.name va count (Some fault) text
fault_read told reader va count old new text error fault long stands error_is read is =
    let by = fault_by told reader va count old new fault long stands (subst (λ e. Answered told reader va old new (Err e)) error_is read) in
    record {
      given = by.0;
      is_given = by.1;
      fault_is = sym by.2;
      text_is = is ∙ ap (λ f. text_by va by.0.bytes f) (sym by.2);
    }
