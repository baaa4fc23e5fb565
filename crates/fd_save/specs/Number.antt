-- The number that a dump is saved under.
use Rattle.std.specs.Prelude.{◌≡◌, ℕ, ◌+◌, ◌%◌, ◌<◌, Bool, true, false, ◌&&◌, nat_lt, nat_le, if◌then◌else◌, List, length, Option, Some, None, is_none}
use Rattle.fd_info.specs.Bounds.{bounds_value}
use Rattle.fd_info.specs.Name.{bounds_name, info_name, vmcore_name}

-- neither file of this number is there
abbrev pub is_free : (List ℕ → Option (List ℕ)) → ℕ → Bool
is_free files number = is_none (files (vmcore_name number)) && is_none (files (info_name number))

-- what bounds counts as: 0 where it is missing, or has over 16 bytes
abbrev pub number_in : Option (List ℕ) → ℕ
number_in None = 0
number_in (Some text) = if nat_le (length text) 16 then bounds_value text else 0

-- the first free number in turn from one on, where 0 follows 65535
pub record IsFirstFree (files : List ℕ → Option (List ℕ)) (from number : ℕ) : Type 0 where
  pub tries : ℕ
  pub within : tries < 65536
  pub is : number ≡ (from + tries) % 65536
  pub free : is_free files number ≡ true
  pub taken : (earlier : ℕ) → earlier < tries → is_free files ((from + earlier) % 65536) ≡ false

-- none of the 65536 numbers is free
abbrev pub AllTaken : (List ℕ → Option (List ℕ)) → Type 0
AllTaken files = (number : ℕ) → number < 65536 → is_free files number ≡ false

-- this number is the first free one, or none is
abbrev pub IsFirstFreeOrNone : (List ℕ → Option (List ℕ)) → (from : ℕ) → Option ℕ → Type 0
IsFirstFreeOrNone files from (Some number) = IsFirstFree files from number
IsFirstFreeOrNone files from None = AllTaken files

-- The number that the next dump gets, if there is one: with a maximum, what bounds has, where it is below that, else 0;
-- without one, the first free number in turn from what bounds has.
abbrev pub IsNumberOf : (List ℕ → Option (List ℕ)) → (max number : Option ℕ) → Type 0
IsNumberOf files (Some max) number =
    number ≡ Some (if nat_lt (number_in (files bounds_name)) max then number_in (files bounds_name) else 0)
IsNumberOf files None number = IsFirstFreeOrNone files (number_in (files bounds_name)) number
