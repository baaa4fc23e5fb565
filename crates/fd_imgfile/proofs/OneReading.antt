-- A file is read in one way alone.
use Rattle.std.proofs.Common.{◌≡◌, ℕ, List, Option, Some, None, Result, Ok, Err, refl, sym, ◌∙◌, ap}
use Rattle.fd_image.specs.Image.{IsTyped, MachineImage, broken_rule}
use Rattle.fd_image.specs.declared.rules.BadImage as rules
use Rattle.fd_imgfile.specs.Reading.{IsReading, Spells, SpellsBroken, TellsOfFile, fault_place}
use Rattle.fd_imgfile.specs.Spelling.{FitsFields, spelling_of}
use Rattle.fd_imgfile.specs.declared.fault.ImageFault.{ImageFault}
use Rattle.fd_imgfile.specs.declared.fault.ImageFault.TheVariants.{NoFile, NotImage, BadImage, SiteFault, NoMemory}
use Rattle.fd_imgfile.proofs.OneSpelling.{one_spelling}
use Rattle.fd_imgfile.proofs.Unfaulted.{unfaulted, valid_fits}

-- an image that a file spells, and the first rule that it breaks, if there is one
record IsJudged (f : List ℕ) (m : MachineImage) (bad : Option rules.BadImage) : Type 0 where
  typed : IsTyped m
  fits : FitsFields m
  is : f ≡ spelling_of m
  no_fault : fault_place f ≡ None
  broken : broken_rule m ≡ bad

of_valid : (f : List ℕ) (m : MachineImage) → Spells f m → IsJudged f m None
of_valid f m spells = record {
  typed = spells.valid.typed;
  fits = valid_fits m spells.valid;
  is = spells.is;
  no_fault = ap fault_place spells.is ∙ unfaulted m spells.valid;
  broken = spells.valid.unbroken;
}

of_broken : (f : List ℕ) (bad : rules.BadImage) → (b : SpellsBroken f bad) → IsJudged f b.image (Some bad)
of_broken f bad b = record { typed = b.typed; fits = b.spelled.fits; is = b.spelled.is; no_fault = b.spelled.no_fault; broken = b.broken }

same_image : (f : List ℕ) (m n : MachineImage) (a b : Option rules.BadImage) → IsJudged f m a → IsJudged f n b → m ≡ n
same_image f m n a b left right = one_spelling m n left.typed right.typed left.fits right.fits (sym left.is ∙ right.is)

same_rule : (f : List ℕ) (m n : MachineImage) (a b : Option rules.BadImage) → IsJudged f m a → IsJudged f n b → a ≡ b
same_rule f m n a b left right = sym left.broken ∙ (ap broken_rule (same_image f m n a b left right) ∙ right.broken)

-- an image against what another reading says
against_image : (f : List ℕ) (m : MachineImage) → Spells f m → (s : Result MachineImage ImageFault) → IsReading (Some f) s → TellsOfFile s → Ok m ≡ s
against_image f m spells (Ok n) read tells = ap (λ (i : MachineImage). Ok i) (same_image f m n None None (of_valid f m spells) (of_valid f n read))
against_image f m spells (Err NoFile) read tells = absurd (cc)
against_image f m spells (Err (NotImage place)) read tells = let kept : fault_place f ≡ None = (of_valid f m spells).no_fault in absurd (cc (kept, read))
against_image f m spells (Err (BadImage bad)) read tells = let rule : None ≡ Some bad = same_rule f m read.image None (Some bad) (of_valid f m spells) (of_broken f bad read) in absurd (cc rule)
against_image f m spells (Err SiteFault) read tells = absurd tells
against_image f m spells (Err NoMemory) read tells = absurd tells

-- no image at a place
against_place : (f : List ℕ) (place : ℕ) → fault_place f ≡ Some place → (s : Result MachineImage ImageFault) → IsReading (Some f) s → TellsOfFile s → Err (NotImage place) ≡ s
against_place f place fault (Ok n) read tells = let kept : fault_place f ≡ None = (of_valid f n read).no_fault in absurd (cc (kept, fault))
against_place f place fault (Err NoFile) read tells = absurd (cc)
against_place f place fault (Err (NotImage other)) read tells = let same : Some place ≡ Some other = sym fault ∙ read in cc same
against_place f place fault (Err (BadImage bad)) read tells = let kept : fault_place f ≡ None = read.spelled.no_fault in absurd (cc (kept, fault))
against_place f place fault (Err SiteFault) read tells = absurd tells
against_place f place fault (Err NoMemory) read tells = absurd tells

-- a broken rule
against_rule : (f : List ℕ) (bad : rules.BadImage) → SpellsBroken f bad → (s : Result MachineImage ImageFault) → IsReading (Some f) s → TellsOfFile s → Err (BadImage bad) ≡ s
against_rule f bad broken (Ok n) read tells = let rule : Some bad ≡ None = same_rule f broken.image n (Some bad) None (of_broken f bad broken) (of_valid f n read) in absurd (cc rule)
against_rule f bad broken (Err NoFile) read tells = absurd (cc)
against_rule f bad broken (Err (NotImage place)) read tells = let kept : fault_place f ≡ None = broken.spelled.no_fault in absurd (cc (kept, read))
against_rule f bad broken (Err (BadImage other)) read tells = let rule : Some bad ≡ Some other = same_rule f broken.image read.image (Some bad) (Some other) (of_broken f bad broken)
    (of_broken f other read) in cc rule
against_rule f bad broken (Err SiteFault) read tells = absurd tells
against_rule f bad broken (Err NoMemory) read tells = absurd tells

-- no file
against_none : (s : Result MachineImage ImageFault) → IsReading None s → TellsOfFile s → Err NoFile ≡ s
against_none (Ok n) read tells = absurd read
against_none (Err NoFile) read tells = refl
against_none (Err (NotImage place)) read tells = absurd read
against_none (Err (BadImage bad)) read tells = absurd read
against_none (Err SiteFault) read tells = absurd tells
against_none (Err NoMemory) read tells = absurd tells

pub one_reading : (file : Option (List ℕ)) (r s : Result MachineImage ImageFault) → IsReading file r → IsReading file s → TellsOfFile r → TellsOfFile s → r ≡ s
one_reading None (Ok m) s read other tells tell = absurd read
one_reading None (Err NoFile) s read other tells tell = against_none s other tell
one_reading None (Err (NotImage place)) s read other tells tell = absurd read
one_reading None (Err (BadImage bad)) s read other tells tell = absurd read
one_reading None (Err SiteFault) s read other tells tell = absurd tells
one_reading None (Err NoMemory) s read other tells tell = absurd tells
one_reading (Some f) (Ok m) s read other tells tell = against_image f m read s other tell
one_reading (Some f) (Err NoFile) s read other tells tell = absurd (cc)
one_reading (Some f) (Err (NotImage place)) s read other tells tell = against_place f place read s other tell
one_reading (Some f) (Err (BadImage bad)) s read other tells tell = against_rule f bad read s other tell
one_reading (Some f) (Err SiteFault) s read other tells tell = absurd tells
one_reading (Some f) (Err NoMemory) s read other tells tell = absurd tells
