-- The dump header of a valid image is one that its fields hold.
use Rattle.std.proofs.Common.{◌≡◌, ◌∙◌, ℕ, zero, suc, ◌-◌, ◌<◌, ◌≤◌, ◌^◌, Bool, true, false, ◌&&◌, cond, List, [], ◌∷◌, ◌++◌, length, take, refl, ap, arith, lit<, lit≤, length-append, length-take}
use Rattle.std.specs.Prelude.{◌==◌, nat_lt, All, if◌then◌else◌}
use Rattle.std.specs.List.{list_all}
use Rattle.std.proofs.lemmas.Bool.Decides.{nat_tests}
use Rattle.std.proofs.lemmas.List.Elements.{All-append, All-cons, All-nil, All-take}
use Rattle.fd_bytes.specs.declared.arch.Arch.{Arch}
use Rattle.fd_bytes.specs.declared.arch.Arch.TheVariants.{Amd64, Arm64, Riscv}
use Rattle.fd_bytes.specs.Arch.{name_of, header_version_of}
use Rattle.fd_bytes.specs.Label.{IsByteText, IsText, text_of, cut_text, cut_version_text}
use Rattle.fd_image.specs.Image.{MachineImage, IsValid, AreBytes}
use Rattle.fd_kdh.specs.Header.{IsWithinFields}
use Rattle.fd_dump.specs.Header.{header_of}
use Rattle.fd_dump.proofs.Sizes.{minidump_small}

-- a text keeps being one: what is before its first zero byte, and any beginning
text-text_of : (bytes : List ℕ) → IsText (text_of bytes)
text-text_of [] = refl
text-text_of (byte ∷ bytes) = here (byte == 0) refl (text-text_of bytes)
  where
    here : (b : Bool) → (byte == 0) ≡ b → IsText (text_of bytes) → text_of (cond b [] (byte ∷ text_of bytes)) ≡ cond b [] (byte ∷ text_of bytes)
    here true is later = refl
    here false is later = ap (λ b. cond b [] (byte ∷ text_of (text_of bytes))) is ∙ ap (λ bytes. byte ∷ bytes) later

text-head : (byte : ℕ) (bytes : List ℕ) → IsText (byte ∷ bytes) → ((byte == 0) ≡ false) × IsText bytes
text-head byte bytes text = here (byte == 0) refl text
  where
    here : (b : Bool) → (byte == 0) ≡ b → cond b [] (byte ∷ text_of bytes) ≡ byte ∷ bytes → ((byte == 0) ≡ false) × IsText bytes
    here true is whole = absurd cc
    here false is whole = (is, cc)

text-cons : (byte : ℕ) (bytes : List ℕ) → (byte == 0) ≡ false → IsText bytes → IsText (byte ∷ bytes)
text-cons byte bytes is text = ap (λ b. cond b [] (byte ∷ text_of bytes)) is ∙ ap (λ bytes. byte ∷ bytes) text

text-take : (count : ℕ) (bytes : List ℕ) → IsText bytes → IsText (take count bytes)
text-take zero bytes text = refl
text-take (suc count) [] text = refl
text-take (suc count) (byte ∷ bytes) text =
    let parts = text-head byte bytes text in
    text-cons byte (take count bytes) parts.0 (text-take count bytes parts.1)

text-append : (bytes more : List ℕ) → IsText bytes → IsText more → IsText (bytes ++ more)
text-append [] more text later = later
text-append (byte ∷ bytes) more text later =
    let parts = text-head byte bytes text in
    text-cons byte (bytes ++ more) parts.0 (text-append bytes more parts.1 later)

-- the text's bytes are among those before
all-text_of : (bytes : List ℕ) → All (λ byte. byte < 256) bytes → All (λ byte. byte < 256) (text_of bytes)
all-text_of [] all = all
all-text_of (byte ∷ bytes) all = here (byte == 0) (all 0 0 (omega arith)) (all-text_of bytes (λ k d h. all (suc k) d (omega arith)))
  where
    here : (b : Bool) → byte < 256 → All (λ byte. byte < 256) (text_of bytes) → All (λ byte. byte < 256) (cond b [] (byte ∷ text_of bytes))
    here true first later = All-nil (λ byte. byte < 256)
    here false first later = All-cons (λ byte. byte < 256) byte (text_of bytes) first later

cut_is_text : (n : ℕ) (bytes : List ℕ) → AreBytes bytes → IsByteText (cut_text n bytes)
cut_is_text n bytes are = record {
  no_zero = text-take (n - 1) (text_of bytes) (text-text_of bytes);
  bytes = All-take (λ byte. byte < 256) (n - 1) (text_of bytes) (all-text_of bytes are);
}

cut_fits : (n : ℕ) (bytes : List ℕ) → 0 < n → length (cut_text n bytes) < n
cut_fits n bytes some = omega (arith, length-take (n - 1) (text_of bytes))

newline : All (λ byte. byte < 256) (10 ∷ [])
newline = All-cons (λ byte. byte < 256) 10 [] (lit< tt) (All-nil (λ byte. byte < 256))

version_is_text : (n : ℕ) (bytes : List ℕ) → AreBytes bytes → IsByteText (cut_version_text n bytes)
version_is_text n bytes are = here (nat_lt (length (text_of bytes)) n)
  where
    text : IsText (text_of bytes)
    text = text-text_of bytes

    all : All (λ byte. byte < 256) (text_of bytes)
    all = all-text_of bytes are

    here : (short : Bool) → IsByteText (if short then text_of bytes else take (n - 2) (text_of bytes) ++ 10 ∷ [])
    here true = record { no_zero = text; bytes = all }
    here false = record {
      no_zero = text-append (take (n - 2) (text_of bytes)) (10 ∷ []) (text-take (n - 2) (text_of bytes) text) refl;
      bytes = All-append (λ byte. byte < 256) (take (n - 2) (text_of bytes)) (10 ∷ []) (All-take (λ byte. byte < 256) (n - 2) (text_of bytes) all) newline;
    }

version_fits : (n : ℕ) (bytes : List ℕ) → 2 ≤ n → length (cut_version_text n bytes) < n
version_fits n bytes some = here (nat_lt (length (text_of bytes)) n) refl
  where
    here : (short : Bool) → nat_lt (length (text_of bytes)) n ≡ short → length (if short then text_of bytes else take (n - 2) (text_of bytes) ++ 10 ∷ []) < n
    here true is = grind (arith, nat_tests)
    here false is = omega (arith, length-append (take (n - 2) (text_of bytes)) (10 ∷ []), length-take (n - 2) (text_of bytes))

-- a test that computes
are_bytes : (text : List ℕ) → list_all (λ byte. nat_lt byte 256) text ≡ true → All (λ byte. byte < 256) text
are_bytes [] test k d within = absurd (omega arith)
are_bytes (byte ∷ text) test zero d within = grind (arith, nat_tests)
are_bytes (byte ∷ text) test (suc k) d within = are_bytes text (later (nat_lt byte 256) test) k d (omega arith)
  where
    later : (b : Bool) → (b && list_all (λ byte. nat_lt byte 256) text) ≡ true → list_all (λ byte. nat_lt byte 256) text ≡ true
    later true is = is
    later false is = absurd cc

-- the name of an architecture
name_is_text : (arch : Arch) → IsByteText (name_of arch) × (length (name_of arch) < 12)
name_is_text Amd64 = (record { no_zero = refl; bytes = are_bytes (name_of Amd64) refl }, lit< tt)
name_is_text Arm64 = (record { no_zero = refl; bytes = are_bytes (name_of Arm64) refl }, lit< tt)
name_is_text Riscv = (record { no_zero = refl; bytes = are_bytes (name_of Riscv) refl }, lit< tt)

version_is_small : (arch : Arch) → header_version_of arch < 2 ^ 32
version_is_small Amd64 = lit< tt
version_is_small Arm64 = lit< tt
version_is_small Riscv = lit< tt

pub header_within_fields : (m : MachineImage) (block : ℕ) → IsValid m → block < 2 ^ 32 → IsWithinFields (header_of m block)
header_within_fields m block valid fits =
    let name = name_is_text m.arch in
    let small = minidump_small m valid in
    let names = valid.typed.names in
    record {
      fits = record {
        architecture = name.1;
        hostname = cut_fits 64 m.texts.host (lit< tt);
        versionstring = version_fits 192 m.texts.version (lit≤ tt);
        panicstring = cut_fits 175 m.texts.panic (lit< tt);
      };
      architecture = name.0;
      architectureversion = version_is_small m.arch;
      dumplength = omega arith;
      dumptime = valid.typed.time;
      dumpkeysize = lit< tt;
      blocksize = fits;
      hostname = cut_is_text 64 m.texts.host names.0;
      versionstring = version_is_text 192 m.texts.version names.1;
      panicstring = cut_is_text 175 m.texts.panic names.2;
      compression = lit< tt;
      dumpextent = omega arith;
    }
