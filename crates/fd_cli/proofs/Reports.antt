-- The lines of a server's sessions, one after another.
use Rattle.std.proofs.Common.{◌≡◌, ℕ, ◌+◌, ◌*◌, ◌<◌, ◌≤◌, List, [], ◌∷◌, ◌++◌, length, take, get_or, refl, sym, ◌∙◌, ap, append_assoc, arith}
use Rattle.std.proofs.lemmas.List.{append-nil, length-append, take_more}
use Rattle.fd_netserver.specs.declared.limits.Received.{Received}
use Rattle.fd_cli.specs.Received.{received_line, received_lines}

received_lines-append : (xs ys : List Received) → received_lines (xs ++ ys) ≡ received_lines xs ++ received_lines ys
received_lines-append [] ys = refl
received_lines-append (x ∷ xs) ys = ap (λ l. received_line x ++ l) (received_lines-append xs ys) ∙ sym (append_assoc (received_line x) (received_lines xs) (received_lines ys))

-- one session more
pub one_more : (xs : List Received) (i : ℕ) (d : Received) (bytes line : List ℕ) → i < length xs → bytes ≡ received_lines (take i xs)
    → line ≡ received_line (get_or xs i d) → bytes ++ line ≡ received_lines (take (i + 1) xs)
one_more xs i d bytes line below lines is =
    (λ k. lines k ++ is k) ∙ ap (λ l. received_lines (take i xs) ++ l) (sym (append-nil (received_line (get_or xs i d))))
    ∙ sym (received_lines-append (take i xs) (get_or xs i d ∷ [])) ∙ ap received_lines (sym (take_more xs i d below))

pub few_more : (i : ℕ) (bytes line more now : List ℕ) → now ≡ bytes ++ more → more ≡ line → length bytes ≤ 48 * i → length line ≤ 48 → length now ≤ 48 * (i + 1)
few_more i bytes line more now now_is more_is few short =
    omega (arith, few, short, ap length now_is, length-append bytes more, ap length more_is)
