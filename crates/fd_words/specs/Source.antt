-- Where a machine image comes from, and the word that says so.
use Rattle.std.specs.Prelude.{ℕ, ◌&&◌, ◌==◌, IsTrue, List, drop, slice_index, slice_range, codes, if◌then◌else◌, Option, Some, None}
use Rattle.std.specs.Str.{bytes_eq}
use Rattle.fd_bytes.specs.Number.{number_of}
use Rattle.fd_bytes.specs.declared.arch.Arch.{Arch}
use Rattle.fd_bytes.specs.declared.arch.Arch.TheVariants.{Amd64, Arm64, Riscv}
use Rattle.fd_site.specs.Name.{is_good_name}
use Rattle.fd_words.specs.declared.source.Source.{Source}
use Rattle.fd_words.specs.declared.source.Source.TheVariants.{File, Made}

-- the architecture that a word names
abbrev pub arch_of : List ℕ → Option Arch
arch_of word =
    if bytes_eq word (codes "amd64") then Some Amd64
    else if bytes_eq word (codes "arm64") then Some Arm64
    else if bytes_eq word (codes "riscv") then Some Riscv
    else None

-- the image of an architecture and a number, where there are both
abbrev pub made_by : Option Arch → Option ℕ → Option Source
made_by (Some arch) (Some number) = Some (Made arch number)
made_by (Some arch) None = None
made_by None number = None

-- `@`, the five bytes of an architecture's word, `:` and a number
abbrev pub made_of : List ℕ → Option Source
made_of word =
    if slice_index word 0 == 64 && slice_index word 6 == 58 then made_by (arch_of (slice_range word 1 6)) (number_of (drop 7 word)) else None

-- the file of this name, or the image that is made
abbrev pub source_of : List ℕ → Option Source
source_of word = if is_good_name word then Some (File word) else made_of word

-- a file's name is a good one
abbrev pub HasGoodName : Source → Type 0
HasGoodName (File name) = IsTrue (is_good_name name)
HasGoodName (Made arch number) = Unit {0}
