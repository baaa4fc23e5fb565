-- The batches of a dump's numbers, one by one.
use Rattle.std.proofs.Common.{◌≡◌, ℕ, zero, suc, ◌+◌, ◌-◌, ◌*◌, ◌/◌, ◌<◌, ◌≤◌, min, List, [], ◌∷◌, ◌++◌, length, get_or, slice_get, map, Some, None}
use Rattle.std.proofs.Common.{refl, ◌∙◌, ap, arith, length-append}
use Rattle.std.proofs.lemmas.List.{get_or_append_left, get_or-append_right, get_or-map, length-map}
use Rattle.std.proofs.lemmas.Option.{slice_get-get_or, slice_get_past, slice_get_within}
use Rattle.fd_netclient.specs.Datagram.{numbers, batches, chunk_batch}

length-numbers : (first n : ℕ) → length (numbers first n) ≡ n
length-numbers first zero = refl
length-numbers first (suc n) = ap suc (length-numbers (first + 1) n)

get_or-numbers : (first n i : ℕ) → i < n → get_or (numbers first n) i 0 ≡ first + i
get_or-numbers first zero i below = absurd (omega arith)
get_or-numbers first (suc n) zero below = omega arith
get_or-numbers first (suc n) (suc i) below = get_or-numbers (first + 1) n i (omega arith) ∙ omega arith

behind : (x : List ℕ) (xs : List (List ℕ)) (i : ℕ) → 1 ≤ i → get_or (x ∷ xs) i [] ≡ get_or xs (i - 1) []
behind x xs zero some = absurd (omega arith)
behind x xs (suc i) some = ap (λ k. get_or xs k []) (omega arith)

module _ (count : ℕ) where
  abbrev of_data : List (List ℕ)
  of_data = map (chunk_batch count) (numbers 0 ((count + 63) / 64))

  abbrev at_end : List (List ℕ)
  at_end = ((count + 2) ∷ []) ∷ ((count + 3) ∷ []) ∷ []

  size : length of_data ≡ (count + 63) / 64
  size = length-map (numbers 0 ((count + 63) / 64)) (chunk_batch count) ∙ length-numbers 0 ((count + 63) / 64)

  length-batches : length (batches count) ≡ (count + 63) / 64 + 3
  length-batches = omega (arith, length-append of_data at_end, size)

  is_there : (batch : ℕ) (u : List ℕ) → batch < (count + 63) / 64 + 3 → get_or (batches count) batch [] ≡ u → slice_get (batches count) batch ≡ Some u
  is_there batch u within is = slice_get-get_or (batches count) batch [] (omega (arith, length-batches)) ∙ ap (λ l. Some l) is

  pub batch_of_data : (batch : ℕ) → 1 ≤ batch → batch ≤ (count + 63) / 64
      → slice_get (batches count) batch ≡ Some (numbers (2 + (batch - 1) * 64) (min (count - (batch - 1) * 64) 64))
  batch_of_data batch low high =
      is_there batch (numbers (2 + (batch - 1) * 64) (min (count - (batch - 1) * 64) 64)) (omega arith)
      (behind (1 ∷ []) (of_data ++ at_end) batch low
      ∙ get_or_append_left of_data at_end [] (batch - 1) (omega (arith, size))
      ∙ get_or-map (chunk_batch count) (numbers 0 ((count + 63) / 64)) (batch - 1) 0 [] (omega (arith, length-numbers 0 ((count + 63) / 64)))
      ∙ ap (chunk_batch count) (get_or-numbers 0 ((count + 63) / 64) (batch - 1) (omega arith))
      ∙ ap (λ k. numbers k (min 64 (count - 64 * (0 + (batch - 1))))) (omega arith)
      ∙ ap (numbers (2 + (batch - 1) * 64)) (omega arith))

  at_place : (batch k : ℕ) → batch ≡ (count + 63) / 64 + 1 + k → get_or (batches count) batch [] ≡ get_or at_end k []
  at_place batch k is =
      behind (1 ∷ []) (of_data ++ at_end) batch (omega arith)
      ∙ get_or-append_right of_data at_end ((count + 63) / 64) (batch - 1) [] size (omega arith)
      ∙ ap (λ n. get_or at_end n []) (omega arith)

  pub batch_of_header : (batch : ℕ) → batch ≡ (count + 63) / 64 + 1 → slice_get (batches count) batch ≡ Some (numbers (count + 2) 1)
  batch_of_header batch is = is_there batch (numbers (count + 2) 1) (omega arith) (at_place batch 0 (omega arith))

  pub batch_of_finished : (batch : ℕ) → batch ≡ (count + 63) / 64 + 2 → slice_get (batches count) batch ≡ Some (numbers (count + 3) 1)
  batch_of_finished batch is = is_there batch (numbers (count + 3) 1) (omega arith) (at_place batch 1 (omega arith))

  pub batch_past : (batch : ℕ) → (count + 63) / 64 + 3 ≤ batch → slice_get (batches count) batch ≡ None
  batch_past batch past = slice_get_past (batches count) batch (omega (arith, length-batches))

  pub batch_within : (batch : ℕ) (u : List ℕ) → slice_get (batches count) batch ≡ Some u → batch < (count + 63) / 64 + 3
  batch_within batch u is = let within = slice_get_within (batches count) batch u is in omega (arith, length-batches)
