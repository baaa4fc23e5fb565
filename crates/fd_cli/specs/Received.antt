-- What is printed of the sessions that a server finished.
use Rattle.std.specs.Prelude.{ℕ, List, [], ◌∷◌, ◌++◌, codes, Option, Some, None}
use Rattle.std.specs.Fmt.{decimal}
use Rattle.fd_info.specs.Name.{vmcore_name}
use Rattle.fd_netserver.specs.declared.limits.Received.{Received}
use Rattle.fd_cli.specs.Refusal.{line_of}
use Rattle.fd_cli.specs.declared.refusal.Refusal.TheVariants.{TurnsSpent}

-- one line a session, with its newline
abbrev pub received_line : Received → List ℕ
received_line r = codes "received " ++ (vmcore_name r.number ++ (codes " " ++ (decimal r.length ++ 10 ∷ [])))

abbrev pub received_lines : List Received → List ℕ
received_lines [] = []
received_lines (r ∷ rs) = received_line r ++ received_lines rs

-- the refusal's line where the turns were spent
abbrev pub spent_line : Option ℕ → List ℕ
spent_line None = []
spent_line (Some turns) = line_of (TurnsSpent turns) ++ 10 ∷ []

abbrev pub report_of : List Received → Option ℕ → List ℕ
report_of sessions spent = received_lines sessions ++ spent_line spent
