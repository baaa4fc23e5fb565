-- The text of a file info.N, which says of a saved dump what its header said (savecore(8)).
use Rattle.std.specs.Prelude.{◌≡◌, ℕ, ◌≤◌, ◌<◌, ◌^◌, Bool, true, ◌&&◌, not, ◌==◌, nat_le, if◌then◌else◌, List, [], ◌∷◌, ◌++◌, length, All, codes}
use Rattle.std.specs.Fmt.{decimal}
use Rattle.std.specs.Int.{w32, to_be_bytes}
use Rattle.std.specs.List.{flat_map}
use Rattle.fd_bytes.specs.Label.{IsByteText}
use Rattle.fd_bytes.specs.Printed.{hex}
use Rattle.fd_kdh.specs.declared.header.Header.{Header}
use Rattle.fd_info.specs.declared.info.Info.{Info}

-- a byte from 0x20 to 0x7e, which has a glyph
abbrev pub is_printable : ℕ → Bool
is_printable byte = nat_le 0x20 byte && nat_le byte 0x7e

-- a byte of a text: as it is where it has a glyph and isn't the backslash, else `\x` and two lower hexadecimal digits
abbrev pub escaped_byte : ℕ → List ℕ
escaped_byte byte = if is_printable byte && not (byte == 92) then byte ∷ [] else 92 ∷ 120 ∷ hex 2 byte

abbrev pub escaped : List ℕ → List ℕ
escaped text = flat_map escaped_byte text

-- the four bytes of a word, in hexadecimal digits
abbrev pub word_digits : ℕ → List ℕ
word_digits word = flat_map (hex 2) (to_be_bytes w32 word)

-- a line: its key, its value, a newline; and what stands behind it
abbrev pub line : (key value rest : List ℕ) → List ℕ
line key value rest = key ++ (value ++ 10 ∷ rest)

-- what is said of the dump of a header that was found on a device, with the parity word of its sector, saved under a number
unfoldable pub info_text : Header → (device : List ℕ) → (parity number : ℕ) → List ℕ
info_text h device parity number =
    line (codes "Dump header from device: ") device
    (line (codes "  Architecture: ") (escaped h.architecture)
    (line (codes "  Architecture Version: ") (decimal h.architectureversion)
    (line (codes "  Dump Length: ") (decimal h.dumplength)
    (line (codes "  Blocksize: ") (decimal h.blocksize)
    (line (codes "  Compression: ") (codes "none")
    (line (codes "  Dumptime: ") (decimal h.dumptime)
    (line (codes "  Hostname: ") (escaped h.hostname)
    (line (codes "  Magic: ") (codes "FreeBSD Kernel Dump")
    (line (codes "  Version String: ") (escaped h.versionstring)
    (line (codes "  Panic String: ") (escaped h.panicstring)
    (line (codes "  Dump Parity: 0x") (word_digits parity)
    (line (codes "  Bounds: ") (decimal number)
    (line (codes "  Dump Status: ") (codes "good") [])))))))))))))

-- a text of at most n bytes
pub record IsLabel (n : ℕ) (label : List ℕ) : Type 0 where
  pub text : IsByteText label
  pub short : length label ≤ n

-- a header of a plain dump: neither compressed nor encrypted, with no fill behind it
pub record IsPlain (h : Header) : Type 0 where
  pub compression : h.compression ≡ 0
  pub dumpkeysize : h.dumpkeysize ≡ 0
  pub dumpextent : h.dumpextent ≡ h.dumplength

-- a device's name: at most 16 printable bytes
pub record IsDevice (device : List ℕ) : Type 0 where
  pub short : length device ≤ 16
  pub printable : All (λ byte. is_printable byte ≡ true) device

-- what is said of a plain dump that was found on a device with such a name
pub record IsPlainInfo (info : Info) : Type 0 where
  pub plain : IsPlain info.header
  pub device : IsDevice info.device

-- each number and each label is of its field's type
pub record IsTyped (info : Info) : Type 0 where
  pub architecture : IsLabel 12 info.header.architecture
  pub architectureversion : info.header.architectureversion < 2 ^ 32
  pub dumplength : info.header.dumplength < 2 ^ 64
  pub dumptime : info.header.dumptime < 2 ^ 64
  pub blocksize : info.header.blocksize < 2 ^ 32
  pub hostname : IsLabel 64 info.header.hostname
  pub versionstring : IsLabel 192 info.header.versionstring
  pub panicstring : IsLabel 175 info.header.panicstring
  pub parity : info.parity < 2 ^ 32
  pub number : info.number < 2 ^ 32

-- the text that says it
abbrev pub text_of_info : Info → List ℕ
text_of_info info = info_text info.header info.device info.parity info.number
