-- What several commands' rows say.
use Rattle.std.specs.Prelude.{◌≡◌, ℕ, true, false, List, []}
use Rattle.std.specs.Bool.{OnTrue, OnFalse}
use Rattle.fd_site.specs.Seen.{Seen}
use Rattle.fd_part.specs.Partition.{is_good}
use Rattle.fd_cli.specs.Row.{Added, Blamed, Row, Work, nothing}
use Rattle.fd_cli.specs.declared.answer.Answer.{Answer}
use Rattle.fd_cli.specs.declared.answer.Answer.TheVariants.{Refused}
use Rattle.fd_cli.specs.declared.refusal.Refusal.{Refusal}
use Rattle.fd_cli.specs.declared.refusal.Refusal.TheVariants.{Partition}

-- this answer, and nothing was added
abbrev pub Answers : Answer → Work → Type 0
Answers answer w = w ≡ record { answer = answer; added = nothing }

abbrev pub Refuses : Refusal → Work → Type 0
Refuses refusal w = Answers (Refused refusal) w

-- P of the work over a partition that is good; one that isn't is refused
abbrev pub OnGood : Seen → (Work → Type 0) → Work → Type 0
OnGood found P w =
    OnTrue (is_good found.size found.block) (P w)
    × OnFalse (is_good found.size found.block) (Refuses (Partition (record { size = found.size; block = found.block })) w)

abbrev pub AddsNothing : Seen → Added → Type 0
AddsNothing found added = added ≡ nothing

abbrev pub SaysNothing : Seen → Added → List ℕ → Type 0
SaysNothing found added text = text ≡ []

-- no fault ends it
abbrev pub no_fault : Blamed
no_fault = record { site = false; link = false; ports = false; spares = false }

-- a fault of the site may end it
abbrev pub the_site : Blamed
the_site = record { site = true; link = false; ports = false; spares = false }

-- a row's work, done with this answer, adds nothing
abbrev pub DoesOnly : Row → Seen → Answer → Type 0
DoesOnly row found answer = row.Does found (record { answer = answer; added = nothing })
