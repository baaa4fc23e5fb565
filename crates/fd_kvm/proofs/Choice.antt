-- Which of the kernel window and the direct map is asked.
use Rattle.std.proofs.Common.{◌≡◌, Bool, true, false, not, ◌&&◌, ◌||◌, if◌then◌else◌, refl}

abbrev pub choice : {A : Type 0} (first window direct : Bool) (by_window by_direct none : A) → A
choice first window direct by_window by_direct none =
    if first && window then by_window else if direct then by_direct else if window then by_window else none

abbrev pub asks_window : (first window direct : Bool) → Bool
asks_window first window direct = window && (first || not direct)

pub chosen_window : {A : Type 0} (first window direct : Bool) (x y z : A) → asks_window first window direct ≡ true → choice first window direct x y z ≡ x
chosen_window true true direct x y z asked = refl
chosen_window false true false x y z asked = refl
chosen_window false true true x y z asked = absurd (cc)
chosen_window true false direct x y z asked = absurd (cc)
chosen_window false false direct x y z asked = absurd (cc)

pub chosen_direct : {A : Type 0} (first window direct : Bool) (x y z : A) → asks_window first window direct ≡ false → direct ≡ true → choice first window direct x y z ≡ y
chosen_direct first window false x y z asked in_direct = absurd (cc)
chosen_direct true true true x y z asked in_direct = absurd (cc)
chosen_direct true false true x y z asked in_direct = refl
chosen_direct false window true x y z asked in_direct = refl

pub chosen_none : {A : Type 0} (first window direct : Bool) (x y z : A) → asks_window first window direct ≡ false → direct ≡ false → choice first window direct x y z ≡ z
chosen_none first window true x y z asked in_direct = absurd (cc)
chosen_none true true false x y z asked in_direct = absurd (cc)
chosen_none false true false x y z asked in_direct = absurd (cc)
chosen_none true false false x y z asked in_direct = refl
chosen_none false false false x y z asked in_direct = refl
