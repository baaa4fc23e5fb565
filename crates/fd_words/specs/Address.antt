-- The word for an IPv4 address.
use Rattle.std.specs.Prelude.{ℕ, ◌+◌, ◌*◌, ◌^◌, Bool, ◌&&◌, ◌==◌, nat_le, if◌then◌else◌, List, length, Option, Some, None}
use Rattle.std.specs.List.{after_first, before_first, list_all}
use Rattle.fd_bytes.specs.Number.{number_of}

abbrev pub is_decimal : ℕ → Bool
is_decimal c = nat_le 48 c && nat_le c 57

abbrev pub at_most_255 : Option ℕ → Option ℕ
at_most_255 (Some n) = if nat_le n 255 then Some n else None
at_most_255 None = None

-- a number of one to three decimal digits, at most 255
abbrev pub octet_of : List ℕ → Option ℕ
octet_of text = if nat_le (length text) 3 && list_all is_decimal text then at_most_255 (number_of text) else None

abbrev pub is_dot : ℕ → Bool
is_dot byte = byte == 46

-- the first of the four numbers is the highest byte
abbrev pub joined : (first second third fourth : Option ℕ) → Option ℕ
joined (Some a) (Some b) (Some c) (Some d) = Some (a * 2 ^ 24 + b * 2 ^ 16 + c * 2 ^ 8 + d)
joined (Some a) (Some b) (Some c) None = None
joined (Some a) (Some b) None fourth = None
joined (Some a) None third fourth = None
joined None second third fourth = None

-- four numbers with a dot behind each of the first three; a text without a dot has nothing behind its dot
abbrev pub address_of : List ℕ → Option ℕ
address_of word =
    let behind = after_first is_dot in
    let before = before_first is_dot in
    joined (octet_of (before word)) (octet_of (before (behind word))) (octet_of (before (behind (behind word)))) (octet_of (behind (behind (behind word))))
