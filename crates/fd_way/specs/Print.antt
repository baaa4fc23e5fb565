-- What printing a read of a saved minidump puts out.
use Rattle.std.specs.Prelude.{◌≡◌, ℕ, List, [], ◌∷◌, ◌++◌, take, Option, Some, None, Result, Ok, Err}
use Rattle.fd_bytes.specs.Printed.{refused_line}
use Rattle.fd_site.specs.Contents.{Contents, Told, file_of}
use Rattle.fd_site.specs.Seen.{Watched}
use Rattle.fd_site.specs.Trace.{grown}
use Rattle.fd_mini.specs.AddressFault.{address_number, address_text}
use Rattle.fd_mini.specs.Kernel.{KernelBytes}
use Rattle.fd_mini.specs.declared.address_fault.AddressFault.{AddressFault}
use Rattle.fd_kvm.specs.Answer.{answer_of}
use Rattle.fd_way.specs.ReadText.{read_text}
use Rattle.fd_way.specs.declared.print_fault.PrintFault.{PrintFault}
use Rattle.fd_way.specs.declared.print_fault.PrintFault.TheVariants.{NoMemory, SinkFault, SiteFault}

-- the refusal line of an address that has no byte
abbrev pub fault_text : AddressFault → List ℕ
fault_text fault = refused_line (address_number fault) (address_text fault) ++ 10 ∷ []

-- the text of a read: its bytes, or the refusal line of the first address that has none
abbrev pub text_by : (va : ℕ) → List ℕ → Option AddressFault → List ℕ
text_by va bytes None = read_text va bytes
text_by va bytes (Some fault) = fault_text fault

abbrev pub given_text : (va : ℕ) → KernelBytes → List ℕ
given_text va given = text_by va given.bytes given.fault

-- what a read of the file of this name gives, where files are told
abbrev pub IsGivenBy : Option Contents → (name : List ℕ) → (va count : ℕ) → KernelBytes → Type 0
IsGivenBy told name va count given = Told told (λ c. (f : List ℕ) → file_of c name ≡ Some f → answer_of f va count ≡ Ok given)

-- what is printed of such a read, and its fault
pub record IsReadText (told : Option Contents) (name : List ℕ) (va count : ℕ) (fault : Option AddressFault) (text : List ℕ) : Type 0 where
  pub given : KernelBytes
  pub is_given : IsGivenBy told name va count given
  pub fault_is : fault ≡ given.fault
  pub text_is : text ≡ given_text va given

-- the whole text was printed
pub record Prints (told : Option Contents) (name : List ℕ) (va count : ℕ) (old new : Watched ℕ) (fault : Option AddressFault) : Type 0 where
  pub text : List ℕ
  pub is_text : IsReadText told name va count fault text
  pub printed : new.told ≡ grown old.told text

-- some of the first bytes of it
pub record PrintsFirst (told : Option Contents) (name : List ℕ) (va count : ℕ) (old new : Watched ℕ) : Type 0 where
  pub fault : Option AddressFault
  pub text : List ℕ
  pub is_text : IsReadText told name va count fault text
  pub n : ℕ
  pub printed : new.told ≡ grown old.told (take n text)

-- what was printed, by the answer
abbrev pub PrintsRead : Option Contents → (name : List ℕ) → (va count : ℕ) → (old new : Watched ℕ) → Result (Option AddressFault) PrintFault → Type 0
PrintsRead told name va count old new (Ok fault) = Prints told name va count old new fault
PrintsRead told name va count old new (Err SinkFault) = PrintsFirst told name va count old new
PrintsRead told name va count old new (Err SiteFault) = new ≡ old
PrintsRead told name va count old new (Err NoMemory) = new ≡ old
