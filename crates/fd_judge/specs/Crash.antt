-- What judging answers after a dump, whole or cut by a crash.
use Rattle.std.specs.Prelude.{◌≡◌, ◌⊎◌, ℕ, ◌+◌, ◌%◌, ◌<◌, false, List, length, slice_range, Some}
use Rattle.fd_bytes.specs.Arch.{arch_of_header}
use Rattle.fd_bytes.specs.declared.arch.Arch.{Arch}
use Rattle.fd_kdh.specs.Header.{IsWithinFields, dump_header}
use Rattle.fd_kdh.specs.declared.header.Header.{Header}
use Rattle.fd_part.specs.Partition.{dump_place}
use Rattle.fd_judge.specs.Verdict.{judged}
use Rattle.fd_judge.specs.declared.why.Why.{Why}
use Rattle.fd_judge.specs.declared.verdict.Verdict.TheVariants.{Dump, Refused}

-- the header of a plain dump of this body, of whole pages and not empty, for a partition with such blocks
pub record IsHeaderFor (body : List ℕ) (block : ℕ) (h : Header) : Type 0 where
  pub within : IsWithinFields h
  pub arch : Arch
  pub architecture : arch_of_header h.architecture h.architectureversion ≡ Some arch
  pub blocksize : h.blocksize ≡ block
  pub compression : h.compression ≡ 0
  pub dumpkeysize : h.dumpkeysize ≡ 0
  pub dumplength : h.dumplength ≡ length body
  pub dumpextent : h.dumpextent ≡ length body
  pub pages : length body % 4096 ≡ 0
  pub some : 0 < length body

-- a partition is refused, without force
abbrev pub IsRefused : ℕ → List ℕ → Type 0
IsRefused block part = (why : Why) × (judged part block false ≡ Refused why)

-- it is judged a dump with this header, without force, and the bytes of the dump are this body
pub record IsThisDump (body : List ℕ) (h : Header) (block : ℕ) (part : List ℕ) : Type 0 where
  pub verdict : judged part block false ≡ Dump h (dump_place (length part) block (length body)) (dump_header h)
  pub bytes : slice_range part (dump_place (length part) block (length body)) (dump_place (length part) block (length body) + length body) ≡ body

-- refused, or this dump
abbrev pub IsRefusedOrThis : List ℕ → Header → ℕ → List ℕ → Type 0
IsRefusedOrThis body h block part = IsRefused block part ⊎ IsThisDump body h block part

-- as it was, refused, or this dump
abbrev pub IsOldOrRefusedOrThis : (old body : List ℕ) → Header → ℕ → List ℕ → Type 0
IsOldOrRefusedOrThis old body h block part = (part ≡ old) ⊎ IsRefusedOrThis body h block part
