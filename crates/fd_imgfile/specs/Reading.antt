-- What a file says of an image: the image, or why it spells none, or the rule that the image which it spells breaks.
use Rattle.std.specs.Prelude.{◌≡◌, ℕ, ◌+◌, ◌*◌, Bool, ◌==◌, nat_lt, nat_le, min, if◌then◌else◌, List, [], ◌∷◌, length, map, take, Option, Some, None}
use Rattle.std.specs.Prelude.{IsSomeAnd, Result, Ok, Err}
use Rattle.std.specs.List.{range_with_len, sum}
use Rattle.std.specs.Str.{bytes_eq}
use Rattle.fd_bytes.specs.Field.{u32_le_at, u64_le_at}
use Rattle.fd_image.specs.Image.{MachineImage, IsTyped, IsValid, broken_rule}
use Rattle.fd_image.specs.declared.rules.BadImage as rules
use Rattle.fd_imgfile.specs.Spelling.{FitsFields, magic, spelling_of}
use Rattle.fd_imgfile.specs.declared.fault.ImageFault.{ImageFault}
use Rattle.fd_imgfile.specs.declared.fault.ImageFault.TheVariants.{NoFile, NotImage, BadImage, SiteFault, NoMemory}

-- A check of a file: whether it is kept, and the place that stands for it where it isn't.
abbrev pub first_broken : List (Bool × ℕ) → Option ℕ
first_broken [] = None
first_broken (check ∷ checks) = if check.0 then first_broken checks else Some check.1

-- a number at a place that may not be greater than a limit
abbrev pub within : List ℕ → ℕ → ℕ → Bool × ℕ
within f at limit = (nat_le (u32_le_at f at) limit, at)

-- the checks of the fields, in order: magic, version, architecture, counts and lengths within their limits, the zero
abbrev pub front_checks : List ℕ → List (Bool × ℕ)
front_checks f =
    (bytes_eq (take 16 f) magic, 0)
    ∷ (u32_le_at f 16 == 1, 16)
    ∷ (nat_lt 0 (u32_le_at f 20), 20)
    ∷ within f 20 4
    ∷ within f 24 64
    ∷ within f 28 1024
    ∷ within f 32 262144
    ∷ within f 36 255
    ∷ within f 40 1023
    ∷ within f 44 1023
    ∷ within f 48 1048576
    ∷ (u32_le_at f 52 == 0, 52)
    ∷ []

-- where the texts begin, behind 16 bytes for each segment and each pair and 8 for each wanted page
abbrev pub tables_end : List ℕ → ℕ
tables_end f = 112 + 16 * u32_le_at f 24 + 16 * u32_le_at f 28 + 8 * u32_le_at f 32

-- the length of each segment, as the tables have it
abbrev pub segment_lengths : List ℕ → List ℕ
segment_lengths f = map (λ i. u64_le_at f (120 + 16 * i)) (range_with_len 0 (u32_le_at f 24))

-- the length that the tables give the file
abbrev pub whole_length : List ℕ → ℕ
whole_length f =
    tables_end f + u32_le_at f 36 + u32_le_at f 40 + u32_le_at f 44 + u32_le_at f 48 + sum (segment_lengths f)

-- the file is shorter than its tables, or hasn't the length that they give it: the lesser of the two
abbrev pub by_length : List ℕ → Option ℕ
by_length f =
    if nat_lt (length f) (tables_end f) then Some (length f)
    else if length f == whole_length f then None
    else Some (min (length f) (whole_length f))

-- by the first check of the fields that isn't kept
abbrev pub by_front : List ℕ → Option ℕ → Option ℕ
by_front f None = by_length f
by_front f (Some place) = Some place

-- the place at which a file isn't an image, if it is none
unfoldable pub fault_place : List ℕ → Option ℕ
fault_place f = if nat_lt (length f) 112 then Some (length f) else by_front f (first_broken (front_checks f))

-- a file spells an image, valid or not
pub record SpellsImage (f : List ℕ) (m : MachineImage) : Type 0 where
  pub fits : FitsFields m
  pub is : f ≡ spelling_of m
  pub no_fault : fault_place f ≡ None

-- a file spells an image that breaks a rule
pub record SpellsBroken (f : List ℕ) (bad : rules.BadImage) : Type 0 where
  pub image : MachineImage
  pub typed : IsTyped image
  pub spelled : SpellsImage f image
  pub broken : broken_rule image ≡ Some bad

-- a file spells a valid image
pub record Spells (f : List ℕ) (m : MachineImage) : Type 0 where
  pub valid : IsValid m
  pub is : f ≡ spelling_of m

-- What reading a file may answer, by the file as it is: the image that it spells, or why there is none. A fault of the
-- site says nothing of the file; want of memory comes only of one that is an image by its fields and its length.
abbrev pub IsReading : Option (List ℕ) → Result MachineImage ImageFault → Type 0
IsReading file (Ok m) = IsSomeAnd file (λ f. Spells f m)
IsReading file (Err NoFile) = file ≡ None
IsReading file (Err (NotImage place)) = IsSomeAnd file (λ f. fault_place f ≡ Some place)
IsReading file (Err (BadImage bad)) = IsSomeAnd file (λ f. SpellsBroken f bad)
IsReading file (Err SiteFault) = Unit {0}
IsReading file (Err NoMemory) = IsSomeAnd file (λ f. fault_place f ≡ None)

-- P of the place where the file is no image; there is a file, and no rule was looked at
abbrev pub OnNotImage : {T : Type 0} → Result T ImageFault → (ℕ → Type 0) → Type 0
OnNotImage (Ok x) P = Unit {0}
OnNotImage (Err NoFile) P = ⊥
OnNotImage (Err (NotImage place)) P = P place
OnNotImage (Err (BadImage bad)) P = ⊥
OnNotImage (Err SiteFault) P = Unit {0}
OnNotImage (Err NoMemory) P = Unit {0}

-- the site may have failed, or memory have run out, but nothing is said of the file
abbrev pub SaysNothing : {T : Type 0} → Result T ImageFault → Type 0
SaysNothing result = OnNotImage result (λ place. ⊥)

-- an answer that depends on the file alone
abbrev pub TellsOfFile : Result MachineImage ImageFault → Type 0
TellsOfFile (Ok m) = Unit {0}
TellsOfFile (Err NoFile) = Unit {0}
TellsOfFile (Err (NotImage place)) = Unit {0}
TellsOfFile (Err (BadImage bad)) = Unit {0}
TellsOfFile (Err SiteFault) = ⊥
TellsOfFile (Err NoMemory) = ⊥
