-- What opening a kernel answers: its machine and its symbols, or the first reason to refuse it.
use Rattle.std.specs.Prelude.{◌≡◌, ℕ, ◌+◌, ◌≤◌, nat_lt, if◌then◌else◌, List, length, take, slice_range, Option, Some, None, IsSomeAnd, Result, Ok, Err, IsOkAnd}
use Rattle.fd_nlist.specs.Header.{header_in, sections_end}
use Rattle.fd_nlist.specs.Sections.{linked_tables, symbol_table, tables_end}
use Rattle.fd_nlist.specs.Symbols.{SymbolTable, entries_in}
use Rattle.fd_nlist.specs.declared.fault.KernelFault.{KernelFault}
use Rattle.fd_nlist.specs.declared.fault.KernelFault.TheVariants.{NoFile, Short, NotKernel, NoTable, SiteFault, NoMemory}
use Rattle.fd_nlist.specs.declared.header.KernelHeader.{KernelHeader}
use Rattle.fd_nlist.specs.declared.sections.SectionHeader.{SectionHeader}
use Rattle.fd_nlist.specs.declared.sections.Tables.{Tables}

-- an answer, unless the file ends before so many bytes
abbrev pub long_enough : {A : Type 0} → List ℕ → (need : ℕ) → Result A KernelFault → Result A KernelFault
long_enough f need answer = if nat_lt (length f) need then Err (Short need (length f)) else answer

-- the bytes of a section
abbrev pub bytes_of : List ℕ → SectionHeader → List ℕ
bytes_of f section = slice_range f section.sh_offset (section.sh_offset + section.sh_size)

-- the symbols of a file with these tables
abbrev pub symbols_in : List ℕ → (machine : ℕ) → Tables → SymbolTable
symbols_in f machine t = record { machine = machine; entries = entries_in (bytes_of f t.symbols) (bytes_of f t.strings) }

-- by the two tables
abbrev pub by_tables : List ℕ → (machine : ℕ) → Result Tables ℕ → Result SymbolTable KernelFault
by_tables f machine (Err place) = Err (NotKernel place)
by_tables f machine (Ok t) = long_enough f (tables_end t) (Ok (symbols_in f machine t))

-- the section headers' bytes
abbrev pub headers_in : List ℕ → KernelHeader → List ℕ
headers_in f h = slice_range f h.e_shoff (sections_end h)

-- by the symbol table
abbrev pub by_symbols : List ℕ → KernelHeader → Option SectionHeader → Result SymbolTable KernelFault
by_symbols f h None = Err NoTable
by_symbols f h (Some symbols) = by_tables f h.e_machine (linked_tables h.e_shoff (headers_in f h) symbols)

-- by the header
abbrev pub by_header : List ℕ → Result KernelHeader ℕ → Result SymbolTable KernelFault
by_header f (Err place) = Err (NotKernel place)
by_header f (Ok h) = long_enough f (sections_end h) (by_symbols f h (symbol_table h.e_shoff (headers_in f h)))

-- what opening a file's bytes answers
unfoldable pub opened : List ℕ → Result SymbolTable KernelFault
opened f = long_enough f 64 (by_header f (header_in (take 64 f)))

-- what opening a file answers, if there is the file
abbrev pub opened_file : Option (List ℕ) → Result SymbolTable KernelFault
opened_file None = Err NoFile
opened_file (Some f) = opened f

-- What a call may answer, by what it answers of the file: a fault of the site says nothing of the file, and want of memory
-- comes only where memory is taken.
abbrev pub IsAnswer : Result SymbolTable KernelFault → (memory_is_taken : Type 0) → Result SymbolTable KernelFault → Type 0
IsAnswer answer memory_is_taken (Err SiteFault) = Unit {0}
IsAnswer answer memory_is_taken (Err NoMemory) = memory_is_taken
IsAnswer answer memory_is_taken result = answer ≡ result

-- a file with a kernel's header, and with all its section headers
abbrev pub HasSections : List ℕ → Type 0
HasSections f = IsOkAnd (header_in (take 64 f)) (λ h. sections_end h ≤ length f)

-- what opening a file may answer: memory is taken only for a file that has its section headers
abbrev pub IsOpening : Option (List ℕ) → Result SymbolTable KernelFault → Type 0
IsOpening file result = IsAnswer (opened_file file) (IsSomeAnd file HasSections) result
