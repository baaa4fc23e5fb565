-- What opening answers, step by step, of a file of a known length.
use Rattle.std.proofs.Common.{◌≡◌, ℕ, ◌+◌, ◌*◌, ◌<◌, ◌≤◌, List, length, take, slice_range}
use Rattle.std.proofs.Common.{Option, Some, None, IfSome, Result, Ok, Err, IsOkAnd, refl, sym, ap, subst, ◌∙◌, arith}
use Rattle.std.proofs.lemmas.Bool.Decides.{nat_tests}
use Rattle.std.proofs.lemmas.Slice.{between_from_start}
use Rattle.fd_nlist.specs.Header.{header_in, sections_end}
use Rattle.fd_nlist.specs.Opening.{IsAnswer, IsOpening, HasSections, long_enough, by_header, by_symbols, by_tables, headers_in, opened, opened_file}
use Rattle.fd_nlist.specs.Parts.{HasLength}
use Rattle.fd_nlist.specs.Sections.{linked_tables, symbol_table}
use Rattle.fd_nlist.specs.Symbols.{SymbolTable}
use Rattle.fd_nlist.specs.declared.fault.KernelFault.{KernelFault}
use Rattle.fd_nlist.specs.declared.fault.KernelFault.TheVariants.{NoFile, Short, NotKernel, NoTable, SiteFault, NoMemory}
use Rattle.fd_nlist.specs.declared.header.KernelHeader.{KernelHeader}
use Rattle.fd_nlist.specs.declared.sections.SectionHeader.{SectionHeader}
use Rattle.fd_nlist.specs.declared.sections.Tables.{Tables}

too_short :
    (f : List ℕ) (need len : ℕ) (answer : Result SymbolTable KernelFault) → len ≡ length f → len < need
    → long_enough f need answer ≡ Err (Short need len)
too_short f need len answer has below = grind (arith, nat_tests)

long : (f : List ℕ) (need : ℕ) (answer : Result SymbolTable KernelFault) → need ≤ length f → long_enough f need answer ≡ answer
long f need answer enough = grind (arith, nat_tests)

some_length : (f : List ℕ) (len : ℕ) → HasLength (Some f) len → len ≡ length f
some_length f len has = cc

-- a file without a whole header
pub without_header :
    (file : Option (List ℕ)) (len : ℕ) → HasLength file len → len < 64 → opened_file file ≡ Err (Short 64 len)
unfolding opened
without_header None len has below = absurd (cc)
without_header (Some f) len has below =
    too_short f 64 len (by_header f (header_in (take 64 f))) (some_length f len has) below

-- a file whose header was read
with_header :
    (f : List ℕ) (len : ℕ) (header : List ℕ) → len ≡ length f → 64 ≤ len → header ≡ slice_range f 0 64
    → opened f ≡ by_header f (header_in header)
unfolding opened
with_header f len header has enough read =
    long f 64 (by_header f (header_in (take 64 f))) (omega arith)
    ∙ ap (λ (l : List ℕ). by_header f (header_in l)) (sym (read ∙ between_from_start f 64))

-- whose header is refused
pub refused_header :
    (file : Option (List ℕ)) (len : ℕ) (header : List ℕ) (place : ℕ)
    → HasLength file len → 64 ≤ len → IfSome file (λ f. header ≡ slice_range f 0 64) → header_in header ≡ Err place
    → opened_file file ≡ Err (NotKernel place)
refused_header None len header place has enough read refused = absurd (cc)
refused_header (Some f) len header place has enough read refused =
    with_header f len header (some_length f len has) enough read ∙ ap (by_header f) refused

-- where memory is taken in less cases, it is in the more
taken_too :
    (answer : Result SymbolTable KernelFault) {P Q : Type 0} (result : Result SymbolTable KernelFault)
    → (P → Q) → IsAnswer answer P result → IsAnswer answer Q result
taken_too answer (Ok s) too is = is
taken_too answer (Err NoFile) too is = is
taken_too answer (Err (Short need have)) too is = is
taken_too answer (Err (NotKernel place)) too is = is
taken_too answer (Err NoTable) too is = is
taken_too answer (Err SiteFault) too is = is
taken_too answer (Err NoMemory) too is = too is

-- whose header is taken
pub taken_header :
    (file : Option (List ℕ)) (len : ℕ) (header : List ℕ) (h : KernelHeader) (result : Result SymbolTable KernelFault)
    → HasLength file len → 64 ≤ len → IfSome file (λ f. header ≡ slice_range f 0 64) → header_in header ≡ Ok h
    → ((f : List ℕ) → file ≡ Some f → IsAnswer (by_header f (Ok h)) (sections_end h ≤ length f) result)
    → IsOpening file result
taken_header None len header h result has enough read taken behind = absurd (cc)
taken_header (Some f) len header h result has enough read taken behind =
    let on : opened f ≡ by_header f (Ok h) = with_header f len header (some_length f len has) enough read ∙ ap (by_header f) taken in
    let same : header_in (take 64 f) ≡ Ok h = ap header_in (sym (read ∙ between_from_start f 64)) ∙ taken in
    let P : Result KernelHeader ℕ → Type 0 = λ r. IsOkAnd r (λ h. sections_end h ≤ length f) in
    let has_sections : sections_end h ≤ length f → HasSections f = (λ inside. subst P (sym same) inside) in
    subst (λ answer. IsAnswer answer (HasSections f) result) (sym on)
    (taken_too (by_header f (Ok h)) result has_sections (behind f refl))

-- whose section headers were read and name the two tables
taken_tables :
    (f : List ℕ) (h : KernelHeader) (headers : List ℕ) (symbols : SectionHeader) (t : Tables) (result : Result SymbolTable KernelFault)
    → sections_end h ≤ length f → headers ≡ headers_in f h → symbol_table h.e_shoff headers ≡ Some symbols
    → linked_tables h.e_shoff headers symbols ≡ Ok t → IsAnswer (by_tables f h.e_machine (Ok t)) (Unit {0}) result
    → IsAnswer (by_header f (Ok h)) (sections_end h ≤ length f) result
taken_tables f h headers symbols t result inside read table tables behind =
    let on : by_header f (Ok h) ≡ by_tables f h.e_machine (Ok t) =
    long f (sections_end h) (by_symbols f h (symbol_table h.e_shoff (headers_in f h))) inside
    ∙ (ap (λ (l : List ℕ). by_symbols f h (symbol_table h.e_shoff l)) (sym read)
    ∙ (ap (by_symbols f h) table
    ∙ (ap (λ (l : List ℕ). by_tables f h.e_machine (linked_tables h.e_shoff l symbols)) (sym read)
    ∙ ap (by_tables f h.e_machine) tables))) in
    subst (λ answer. IsAnswer answer (sections_end h ≤ length f) result) (sym on)
    (taken_too (by_tables f h.e_machine (Ok t)) result (λ _. inside) behind)

-- the same by what was read
pub read_tables :
    (file : Option (List ℕ)) (f : List ℕ) (len size : ℕ) (h : KernelHeader) (items headers linked : List ℕ) (symbols : SectionHeader) (t : Tables)
    (result : Result SymbolTable KernelFault)
    → HasLength file len → file ≡ Some f → size ≡ 64 * h.e_shnum → h.e_shoff + size ≤ len
    → items ≡ slice_range f h.e_shoff (h.e_shoff + size) → headers ≡ items → linked ≡ items
    → Some symbols ≡ symbol_table h.e_shoff headers → Ok t ≡ linked_tables h.e_shoff linked symbols
    → IsAnswer (by_tables f h.e_machine (Ok t)) (Unit {0}) result
    → IsAnswer (by_header f (Ok h)) (sections_end h ≤ length f) result
read_tables file f len size h items headers linked symbols t result has there sized enough read same linked_same table tables behind =
    let known : len ≡ length f = some_length f len (subst (λ file. HasLength file len) there has) in
    let inside : h.e_shoff + 64 * h.e_shnum ≤ length f = omega arith in
    let whole : items ≡ headers_in f h = read ∙ ap (λ n. slice_range f h.e_shoff (h.e_shoff + n)) sized in
    taken_tables f h items symbols t result inside whole
    (ap (λ (l : List ℕ). symbol_table h.e_shoff l) (sym same) ∙ sym table)
    (ap (λ (l : List ℕ). linked_tables h.e_shoff l symbols) (sym linked_same) ∙ sym tables) behind
