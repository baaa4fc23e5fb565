-- What judging a partition answers.
use Rattle.std.specs.Prelude.{◌≡◌, ℕ, ◌%◌, Bool, ◌&&◌, ◌||◌, not, ◌==◌, nat_lt, List, [], ◌∷◌, ◌++◌, length, take, drop, if◌then◌else◌, Option, Some, None}
use Rattle.std.specs.Prelude.{is_none, position, Result, Ok, Err}
use Rattle.std.specs.List.{zip}
use Rattle.std.specs.Str.{bytes_eq}
use Rattle.fd_bytes.specs.Arch.{arch_of_header}
use Rattle.fd_kdh.specs.Header.{decoded, live_magic, cleared_magic}
use Rattle.fd_part.specs.Partition.{has_room, sector_at, trailing_sector, leading_place, dump_place}
use Rattle.fd_kdh.specs.declared.header.Header.{Header}
use Rattle.fd_kdh.specs.declared.header.HeaderFault.{HeaderFault}
use Rattle.fd_kdh.specs.declared.header.HeaderFault.TheVariants as fault
use Rattle.fd_judge.specs.declared.why.Why.{Why}
use Rattle.fd_judge.specs.declared.why.Why.TheVariants.{NoMagic, TextDump, Cleared, UnknownVersion, BadParity, Compressed, Encrypted, UnknownArch}
use Rattle.fd_judge.specs.declared.why.Why.TheVariants.{BadBlock, LengthDiffers, BadExtent, Disagree}
use Rattle.fd_judge.specs.declared.verdict.Verdict.{Verdict}
use Rattle.fd_judge.specs.declared.verdict.Verdict.TheVariants.{Dump, Refused}

-- the trailing sector as a judge takes it: by force, a cleared header stands for a live one
abbrev pub taken : Bool → List ℕ → List ℕ
taken force sector =
    if force && bytes_eq (take 20 sector) cleared_magic then live_magic ++ drop 20 sector else sector

-- what a header can be refused for, in order, each with its test
abbrev pub reasons : Header → ℕ → ℕ → List (Bool × Why)
reasons h size block =
    (not (h.compression == 0), Compressed h.compression)
    ∷ (not (h.dumpkeysize == 0), Encrypted h.dumpkeysize)
    ∷ (is_none (arch_of_header h.architecture h.architectureversion), UnknownArch)
    ∷ (not (h.blocksize == block), BadBlock h.blocksize)
    ∷ (not (h.dumplength == h.dumpextent), LengthDiffers h.dumplength h.dumpextent)
    ∷ (h.dumpextent == 0 || not (h.dumpextent % block == 0) || not (has_room size block h.dumpextent), BadExtent h.dumpextent)
    ∷ []

-- the first that applies
abbrev pub first_of : List (Bool × Why) → Option Why
first_of [] = None
first_of (r ∷ rs) = if r.0 then Some r.1 else first_of rs

-- the first place at which two lists differ
abbrev pub first_difference : List ℕ → List ℕ → Option ℕ
first_difference xs ys = position (λ p. not (p.0 == p.1)) (zip xs ys)

-- what a header's bytes that don't decode are refused for
abbrev pub reason_of : HeaderFault → Why
reason_of fault.NoMagic = NoMagic
reason_of fault.TextDump = TextDump
reason_of fault.Cleared = Cleared
reason_of (fault.UnknownVersion version) = UnknownVersion version
reason_of (fault.BadParity sum) = BadParity sum

-- by the first place at which the leading header differs
abbrev pub by_leading : Header → ℕ → List ℕ → Option ℕ → Verdict
by_leading h at sector None = Dump h at sector
by_leading h at sector (Some place) = Refused (Disagree place)

-- by the first reason against the header's fields
abbrev pub by_fields : List ℕ → ℕ → List ℕ → List ℕ → Header → Option Why → Verdict
by_fields part block sector seen h (Some why) = Refused why
by_fields part block sector seen h None =
    by_leading h (dump_place (length part) block h.dumpextent) sector
    (first_difference seen (sector_at part (leading_place (length part) block h.dumpextent)))

-- by what the trailing header decodes to
abbrev pub by_header : List ℕ → ℕ → List ℕ → List ℕ → Result Header HeaderFault → Verdict
by_header part block sector seen (Err e) = Refused (reason_of e)
by_header part block sector seen (Ok h) = by_fields part block sector seen h (first_of (reasons h (length part) block))

-- by the trailing sector, as it is and as it is taken
abbrev pub by_sectors : List ℕ → ℕ → List ℕ → List ℕ → Verdict
by_sectors part block sector seen = by_header part block sector seen (decoded seen)

-- The verdict on a partition's bytes. The trailing header stands in the first sector of the last block, the dump
-- before that block, and the leading header in the first sector of the block before the dump.
abbrev pub judged : List ℕ → ℕ → Bool → Verdict
judged part block force =
    by_sectors part block (trailing_sector part block) (taken force (trailing_sector part block))

-- nothing speaks against the header of a dump that is found, and the dump lies where the header says
pub record IsPlacedDump (h : Header) (at size block : ℕ) : Type 0 where
  pub sound : first_of (reasons h size block) ≡ None
  pub place : at ≡ dump_place size block h.dumpextent

abbrev pub IsPlaced : (size block : ℕ) → Verdict → Type 0
IsPlaced size block (Dump h at sector) = IsPlacedDump h at size block
IsPlaced size block (Refused why) = Unit {0}
