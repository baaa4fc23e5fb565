-- When a partition is refused, and when it is judged a dump.
use Rattle.std.proofs.Common.{◌≡◌, ◌≢◌, ◌⊎◌, inl, inr, ℕ, ◌+◌, ◌%◌, ◌≤◌, true, false, not, ◌==◌, cond, IsTrue, List, [], ◌∷◌, length, take, None}
use Rattle.std.proofs.Common.{is_none, Result, Ok, Err, refl, sym, ◌∙◌, ap, subst, arith}
use Rattle.std.proofs.lemmas.Bool.Decides.{nat_tests}
use Rattle.std.specs.List.{zip, prefix_len}
use Rattle.fd_bytes.specs.Arch.{arch_of_header}
use Rattle.fd_kdh.specs.Header.{decoded, dump_header, live_magic}
use Rattle.fd_kdh.specs.declared.header.Header.{Header}
use Rattle.fd_kdh.specs.declared.header.HeaderFault.{HeaderFault}
use Rattle.fd_kdh.proofs.Headers.{decoded-dump_header, take-decoded}
use Rattle.fd_part.proofs.Blocks.{IsBlock-good}
use Rattle.fd_part.specs.Partition.{is_good, need_of, sector_at, trailing_sector, leading_place, dump_place, IsClear}
use Rattle.fd_judge.specs.Crash.{IsHeaderFor, IsRefused}
use Rattle.fd_judge.specs.Verdict.{judged, reasons, first_of, first_difference, reason_of, by_leading, by_fields, by_header}
use Rattle.fd_judge.specs.declared.verdict.Verdict.TheVariants.{Dump}

-- without the live magic a partition isn't judged a dump
by_decoded : (q : List ℕ) (block : ℕ) (r : Result Header HeaderFault) → decoded (trailing_sector q block) ≡ r → take 20 (trailing_sector q block) ≢ live_magic → IsRefused block q
by_decoded q block (Err e) is other = (reason_of e, ap (by_header q block (trailing_sector q block) (trailing_sector q block)) is)
by_decoded q block (Ok h) is other = absurd (other (take-decoded (trailing_sector q block) h is))

-- so where the trailing sector of a clear partition still stands, it is refused
pub refused : (part q : List ℕ) (block : ℕ) → IsClear part block → trailing_sector q block ≡ trailing_sector part block → IsRefused block q
refused part q block clear same =
    by_decoded q block (decoded (trailing_sector q block)) refl (λ live. clear (ap (λ (l : List ℕ). take 20 l) (sym same) ∙ live))

-- no reason stands against the header of a dump that has room
no_reason : (body : List ℕ) (h : Header) (size block : ℕ) → IsTrue (is_good size block) → need_of block (length body) ≤ size → IsHeaderFor body block h
    → first_of (reasons h size block) ≡ None
no_reason body h size block good room header =
    let known : is_none (arch_of_header h.architecture h.architectureversion) ≡ false = ap is_none header.architecture in
    let whole : h.dumpextent % block ≡ 0 = ap (λ n. n % block) header.dumpextent ∙ (IsBlock-good size block good).pages (length body) header.pages in
    grind (arith, nat_tests, header.compression, header.dumpkeysize, known, header.blocksize, header.dumplength, header.dumpextent, header.some, whole, room)

-- a list differs nowhere from itself
first_difference-same : (xs : List ℕ) → first_difference xs xs ≡ None
first_difference-same xs = grind (arith, nat_tests, all_same xs)
  where
    all_same : (xs : List ℕ) → prefix_len (λ p. not (not (p.0 == p.1))) (zip xs xs) ≡ length (zip xs xs)
    all_same [] = refl
    all_same (x ∷ xs) =
        let same : (x == x) ≡ true = grind (arith, nat_tests) in
        ap (λ t. cond (not (not t)) (1 + prefix_len (λ p. not (not (p.0 == p.1))) (zip xs xs)) 0) same ∙ omega (arith, all_same xs)

-- a partition with room is judged a dump where both headers stand
pub accepted : (q body : List ℕ) (h : Header) (block : ℕ) → IsTrue (is_good (length q) block) → need_of block (length body) ≤ length q → IsHeaderFor body block h
    → trailing_sector q block ≡ dump_header h → sector_at q (leading_place (length q) block (length body)) ≡ dump_header h
    → judged q block false ≡ Dump h (dump_place (length q) block (length body)) (dump_header h)
accepted q body h block good room header trailing leading =
    let sector = dump_header h in
    ap (λ (s : List ℕ). by_header q block s s (decoded s)) trailing
    ∙ ap (by_header q block sector sector) (decoded-dump_header h header.within)
    ∙ ap (by_fields q block sector sector h) (no_reason body h (length q) block good room header)
    ∙ ap (λ n. by_leading h (dump_place (length q) block n) sector (first_difference sector (sector_at q (leading_place (length q) block n)))) header.dumpextent
    ∙ ap (λ (l : List ℕ). by_leading h (dump_place (length q) block (length body)) sector (first_difference sector l)) leading
    ∙ ap (by_leading h (dump_place (length q) block (length body)) sector) (first_difference-same sector)
