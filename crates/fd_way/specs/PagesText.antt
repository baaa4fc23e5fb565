-- The printed text of a walk of pages.
use Rattle.std.specs.Prelude.{ℕ, ◌/◌, ◌%◌, ◌==◌, if◌then◌else◌, List, [], ◌∷◌, ◌++◌, length, Option, Some, None, codes}
use Rattle.std.specs.Fmt.{decimal}
use Rattle.std.specs.List.{flat_map}
use Rattle.fd_bytes.specs.Printed.{hex}
use Rattle.fd_kvm.specs.declared.page.Page.{Page}

-- an address in 16 digits, or a dash where there is none
abbrev pub address_text : Option ℕ → List ℕ
address_text None = 45 ∷ []
address_text (Some address) = hex 16 address

-- the letter of an access that is allowed, or a dash
abbrev pub access_letter : (prot access letter : ℕ) → ℕ
access_letter prot access letter = if prot / access % 2 == 1 then letter else 45

-- reading, writing, executing
abbrev pub access_text : (prot : ℕ) → List ℕ
access_text prot = access_letter prot 1 114 ∷ access_letter prot 2 119 ∷ access_letter prot 4 120 ∷ []

-- a page's line: its physical address, its addresses in the kernel window and in the direct map, its protection, and its
-- place in the file
abbrev pub page_line : Page → List ℕ
page_line page =
    hex 16 page.pa ++ (32 ∷ []) ++ address_text page.kva ++ (32 ∷ []) ++ address_text page.dva ++ (32 ∷ []) ++ access_text page.prot ++ (32 ∷ [])
    ++ decimal page.offset ++ (10 ∷ [])

-- the last line
abbrev pub count_line : (count : ℕ) → List ℕ
count_line count = decimal count ++ codes " pages" ++ (10 ∷ [])

-- a line for each page, and how many they are
unfoldable pub pages_text : List Page → List ℕ
pages_text pages = flat_map page_line pages ++ count_line (length pages)
