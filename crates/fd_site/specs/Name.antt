-- The names of files in a site's directory.
use Rattle.std.specs.Prelude.{ℕ, Bool, false, ◌&&◌, ◌||◌, not, ◌==◌, nat_le, List, [], ◌∷◌, length, codes}
use Rattle.std.specs.List.{list_all}
use Rattle.std.specs.Str.{bytes_eq}

-- an ASCII letter or digit
abbrev pub is_alphanumeric : ℕ → Bool
is_alphanumeric c = (nat_le 48 c && nat_le c 57) || (nat_le 65 c && nat_le c 90) || (nat_le 97 c && nat_le c 122)

-- what a name is made of: letters, digits, `.`, `-` and `_`
abbrev pub is_name_byte : ℕ → Bool
is_name_byte c = is_alphanumeric c || c == 46 || c == 45 || c == 95

-- a name may not begin with `.` or `-`
abbrev pub begins_well : List ℕ → Bool
begins_well [] = false
begins_well (c ∷ cs) = not (c == 46 || c == 45)

-- a file's name: 1 to 64 of these bytes, and not the partition's
abbrev pub is_good_name : List ℕ → Bool
is_good_name name = begins_well name && nat_le (length name) 64 && list_all is_name_byte name && not (bytes_eq name (codes "dumpdev"))
