-- What a list is once a part of it is written anew.
use Rattle.std.proofs.Common.{◌≡◌, ℕ, ◌+◌, ◌-◌, ◌≤◌, List, [], ◌++◌, length, take, drop, slice_range}
use Rattle.std.proofs.Common.{replicate, refl, sym, ap, ◌∙◌, arith, take_at, length-append, length-take, length-drop, drop_of_length-le, append-nil, take-add}
use Rattle.std.proofs.lemmas.List.{length-replicate}
use Rattle.std.specs.List.{refill}
use Rattle.fd_raw.specs.Written.{written}

-- the part is as long as it is said to be
pub part-long : (xs : List ℕ) (at len : ℕ) → at + len ≤ length xs → length (slice_range xs at (at + len)) ≡ len
part-long xs at len within = omega (arith, within, length-take (at + len - at) (drop at xs), length-drop at xs)

-- as many bytes as there were take their place
pub refilled : (len : ℕ) (old ws : List ℕ) → length ws ≡ len → refill len old ws ≡ ws
refilled len old ws same = take_at ws (drop (length ws) old) len same

-- the zeros behind xs, written anew
pub written-behind : (xs : List ℕ) (n : ℕ) (ws : List ℕ) → length ws ≡ n → written (xs ++ replicate n 0) (length xs) n ws ≡ xs ++ ws
written-behind xs n ws same =
    let zeros = replicate n 0 in
    let front : take (length xs) (xs ++ zeros) ≡ xs = take_at xs zeros (length xs) refl in
    let none : drop (length xs + n) (xs ++ zeros) ≡ [] = drop_of_length-le (xs ++ zeros) (omega (arith, length-append xs zeros, length-replicate {A = ℕ} n 0)) in
    let middle = refilled n (slice_range (xs ++ zeros) (length xs) (length xs + n)) ws same in
    (λ i. front i ++ (middle i ++ none i)) ∙ ap (λ l. xs ++ l) (append-nil ws)

-- xs is the front of a list, and the next n of that list are written over the zeros behind it
pub front-grows : (all xs : List ℕ) (n : ℕ) (ws : List ℕ) → xs ≡ take (length xs) all → length xs + n ≤ length all → ws ≡ slice_range all (length xs) (length xs + n)
    → written (xs ++ replicate n 0) (length xs) n ws ≡ take (length xs + n) all
front-grows all xs n ws front within next =
    let same : length ws ≡ n = ap length next ∙ part-long all (length xs) n within in
    let count : length xs + n - length xs ≡ n = omega arith in
    written-behind xs n ws same ∙ (λ i. front i ++ (next ∙ ap (λ k. take k (drop (length xs) all)) count) i) ∙ sym (take-add (length xs) n all)
