-- A header page that was written is read back.
use Rattle.std.proofs.Common.{◌≡◌, ℕ, ◌%◌, ◌^◌, ◌<◌, ◌≤◌, Bool, true, false, nat_le, if◌then◌else◌, List, take, Option, Some, Ok, Err, IsTrue, refl, ap, sym, ◌∙◌, arith}
use Rattle.std.proofs.lemmas.Bool.Decides.{nat_tests}
use Rattle.fd_bytes.specs.Field.{u32_le_at}
use Rattle.fd_bytes.specs.declared.arch.Arch.{Arch}
use Rattle.fd_bytes.specs.declared.arch.Arch.TheVariants.{Amd64, Arm64, Riscv}
use Rattle.fd_bytes.proofs.Fields.{u32_le_at-spelled, u64_le_at-spelled}
use Rattle.fd_bytes.specs.Page.{filled}
use Rattle.fd_mini.specs.Layout.{has_version, layout_of, arch_of_magic}
use Rattle.fd_mini.specs.Page.{front_by, page_of, fields_by, fields_in}
use Rattle.fd_mini.specs.Read.{header_in, of_known_magic, of_known_version, within_limits}
use Rattle.fd_mini.specs.Readable.{IsReadable}
use Rattle.fd_mini.specs.declared.header.MiniHeader.{MiniHeader}
use Rattle.fd_mini.specs.declared.layout.Layout.{Layout}
use Rattle.fd_mini.specs.declared.mini_fault.MiniFault.TheVariants.{UnknownVersion}

-- the header of these fields
abbrev pub header_of : Arch → (v m b p k dp db de da f : ℕ) → MiniHeader
header_of arch v m b p k dp db de da f = record {
  arch = arch;
  version = v;
  msgbufsize = m;
  bitmapsize = b;
  pmapsize = p;
  kernbase = k;
  dmapphys = dp;
  dmapbase = db;
  dmapend = de;
  dumpavailsize = da;
  flags = f;
}

-- headers with the same fields are the same
same_header :
    (arch : Arch) {v m b p k dp db de da f v' m' b' p' k' dp' db' de' da' f' : ℕ}
    → v ≡ v' → m ≡ m' → b ≡ b' → p ≡ p' → k ≡ k' → dp ≡ dp' → db ≡ db' → de ≡ de' → da ≡ da' → f ≡ f'
    → header_of arch v m b p k dp db de da f ≡ header_of arch v' m' b' p' k' dp' db' de' da' f'
same_header arch ev em eb ep ek edp edb ede eda ef = rw (ev, em, eb, ep, ek, edp, edb, ede, eda, ef) refl

-- the version of arm64 that has flags has dumpavailsize
flags_behind : (v : ℕ) → nat_le 3 v ≡ true → nat_le 2 v ≡ true
flags_behind v has = grind (arith, nat_tests)

module _ (m b p k dp db de da f : ℕ) where
  -- the page begins with the architecture's magic
  magic_back : (arch : Arch) (v : ℕ) → arch_of_magic (take 24 (page_of (header_of arch v m b p k dp db de da f))) ≡ Some arch
  unfolding page_of
  magic_back Amd64 v = refl
  magic_back Arm64 v = refl
  magic_back Riscv v = refl

  -- and then come the version and the other fields
  version_back : (arch : Arch) (v : ℕ) → v < 2 ^ 32 → u32_le_at (page_of (header_of arch v m b p k dp db de da f)) 24 ≡ v
  unfolding page_of
  version_back Amd64 v fits = u32_le_at-spelled _ 24 v fits refl
  version_back Arm64 v fits = u32_le_at-spelled _ 24 v fits refl
  version_back Riscv v fits = u32_le_at-spelled _ 24 v fits refl

  -- a page of this layout
  abbrev laid_out : Arch → (v : ℕ) → Layout → List ℕ
  laid_out arch v layout = filled 4096 (front_by layout (header_of arch v m b p k dp db de da f))

  -- the fields that only some versions have
  amd64_avail : (v : ℕ) (a : Bool) → da < 2 ^ 32 → (a ≡ false → da ≡ 0)
      → (if a then u32_le_at (laid_out Amd64 v (record { has_dmapphys = false; has_dumpavailsize = a; has_flags = false })) 64 else 0) ≡ da
  amd64_avail v true fits absent = u32_le_at-spelled _ 64 da fits refl
  amd64_avail v false fits absent = sym (absent refl)

  arm64_avail : (v : ℕ) (a g : Bool) → da < 2 ^ 32 → (a ≡ false → da ≡ 0)
      → (if a then u32_le_at (laid_out Arm64 v (record { has_dmapphys = true; has_dumpavailsize = a; has_flags = g })) 72 else 0) ≡ da
  arm64_avail v true g fits absent = u32_le_at-spelled _ 72 da fits refl
  arm64_avail v false g fits absent = sym (absent refl)

  riscv_avail : (v : ℕ) (a : Bool) → da < 2 ^ 32 → (a ≡ false → da ≡ 0)
      → (if a then u32_le_at (laid_out Riscv v (record { has_dmapphys = true; has_dumpavailsize = a; has_flags = false })) 72 else 0) ≡ da
  riscv_avail v true fits absent = u32_le_at-spelled _ 72 da fits refl
  riscv_avail v false fits absent = sym (absent refl)

  -- flags stand behind dumpavailsize, which each version with flags has
  arm64_flags : (v : ℕ) (a g : Bool) → f < 2 ^ 32 → (g ≡ true → a ≡ true) → (g ≡ false → f ≡ 0)
      → (if g then u32_le_at (laid_out Arm64 v (record { has_dmapphys = true; has_dumpavailsize = a; has_flags = g })) 76 else 0) ≡ f
  arm64_flags v true true fits behind absent = u32_le_at-spelled _ 76 f fits refl
  arm64_flags v false true fits behind absent = absurd (let e : false ≡ true = behind refl in cc)
  arm64_flags v a false fits behind absent = sym (absent refl)

  -- the fields of a page that is laid out as the version that it is read to have
  read_by : (arch : Arch) (page : List ℕ) (v : ℕ) → u32_le_at page 24 ≡ v → fields_in arch page ≡ fields_by arch (layout_of arch v) page
  read_by arch page v read = ap (λ n. fields_by arch (layout_of arch n) page) read

  fields_back : (arch : Arch) (v : ℕ) → IsReadable (header_of arch v m b p k dp db de da f)
      → fields_in arch (page_of (header_of arch v m b p k dp db de da f)) ≡ header_of arch v m b p k dp db de da f
  unfolding page_of
  fields_back Amd64 v ok =
      let t = ok.typed in
      let version = version_back Amd64 v t.version in
      read_by Amd64 _ v version
      ∙ same_header Amd64
      version
      (u32_le_at-spelled _ 28 m t.msgbufsize refl)
      (u32_le_at-spelled _ 32 b t.bitmapsize refl)
      (u32_le_at-spelled _ 36 p t.pmapsize refl)
      (u64_le_at-spelled _ 40 k t.kernbase refl)
      (sym (ok.no_dmapphys refl))
      (u64_le_at-spelled _ 48 db t.dmapbase refl)
      (u64_le_at-spelled _ 56 de t.dmapend refl)
      (amd64_avail v (nat_le 3 v) t.dumpavailsize ok.no_dumpavailsize)
      (sym (ok.no_flags refl))
  fields_back Arm64 v ok =
      let t = ok.typed in
      let version = version_back Arm64 v t.version in
      read_by Arm64 _ v version
      ∙ same_header Arm64
      version
      (u32_le_at-spelled _ 28 m t.msgbufsize refl)
      (u32_le_at-spelled _ 32 b t.bitmapsize refl)
      (u32_le_at-spelled _ 36 p t.pmapsize refl)
      (u64_le_at-spelled _ 40 k t.kernbase refl)
      (u64_le_at-spelled _ 48 dp t.dmapphys refl)
      (u64_le_at-spelled _ 56 db t.dmapbase refl)
      (u64_le_at-spelled _ 64 de t.dmapend refl)
      (arm64_avail v (nat_le 2 v) (nat_le 3 v) t.dumpavailsize ok.no_dumpavailsize)
      (arm64_flags v (nat_le 2 v) (nat_le 3 v) t.flags (flags_behind v) ok.no_flags)
  fields_back Riscv v ok =
      let t = ok.typed in
      let version = version_back Riscv v t.version in
      read_by Riscv _ v version
      ∙ same_header Riscv
      version
      (u32_le_at-spelled _ 28 m t.msgbufsize refl)
      (u32_le_at-spelled _ 32 b t.bitmapsize refl)
      (u32_le_at-spelled _ 36 p t.pmapsize refl)
      (u64_le_at-spelled _ 40 k t.kernbase refl)
      (u64_le_at-spelled _ 48 dp t.dmapphys refl)
      (u64_le_at-spelled _ 56 db t.dmapbase refl)
      (u64_le_at-spelled _ 64 de t.dmapend refl)
      (riscv_avail v (nat_le 2 v) t.dumpavailsize ok.no_dumpavailsize)
      (sym (ok.no_flags refl))

-- a header within the limits is taken
limits_kept : (h : MiniHeader) → h.flags % 4 ≡ 0 → h.dumpavailsize ≤ 2 ^ 20 → h.bitmapsize ≤ 2 ^ 26 → within_limits h ≡ Ok h
limits_kept h granule avail bitmap = grind (arith, nat_tests)

-- a page of a version that is known
known_taken :
    (arch : Arch) (page : List ℕ) (v : ℕ) → u32_le_at page 24 ≡ v → IsTrue (has_version arch v)
    → of_known_version arch page ≡ within_limits (fields_in arch page)
known_taken arch page v read known =
    let tested : has_version arch (u32_le_at page 24) ≡ true = ap (has_version arch) read ∙ known in
    ap (λ (t : Bool). if t then within_limits (fields_in arch page) else Err (UnknownVersion (u32_le_at page 24))) tested

pub page_read_back : (h : MiniHeader) → IsReadable h → header_in (page_of h) ≡ Ok h
unfolding header_in
page_read_back h ok =
    let page = page_of h in
    let magic : arch_of_magic (take 24 page) ≡ Some h.arch =
    magic_back h.msgbufsize h.bitmapsize h.pmapsize h.kernbase h.dmapphys h.dmapbase h.dmapend h.dumpavailsize h.flags h.arch h.version in
    let version : u32_le_at page 24 ≡ h.version =
    version_back h.msgbufsize h.bitmapsize h.pmapsize h.kernbase h.dmapphys h.dmapbase h.dmapend h.dumpavailsize h.flags h.arch
    h.version ok.typed.version in
    let fields : fields_in h.arch page ≡ h =
    fields_back h.msgbufsize h.bitmapsize h.pmapsize h.kernbase h.dmapphys h.dmapbase h.dmapend h.dumpavailsize h.flags h.arch
    h.version ok in
    ap (λ (a : Option Arch). of_known_magic a page) magic
    ∙ (known_taken h.arch page h.version version ok.known
    ∙ (ap within_limits fields ∙ limits_kept h ok.small_granule ok.avail_within ok.bitmap_within))
