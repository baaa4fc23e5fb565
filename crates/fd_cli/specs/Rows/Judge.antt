-- `savecore -C [-f]`: is there a dump on the partition?
use Rattle.std.specs.Prelude.{◌≡◌, Bool}
use Rattle.fd_site.specs.Contents.{Told, part_of}
use Rattle.fd_site.specs.Seen.{Seen}
use Rattle.fd_judge.specs.Verdict.{judged}
use Rattle.fd_judge.specs.declared.verdict.Verdict.{Verdict}
use Rattle.fd_judge.specs.declared.verdict.Verdict.TheVariants as verdict
use Rattle.fd_cli.specs.Row.{Row, Work}
use Rattle.fd_cli.specs.Rows.Common.{AddsNothing, Answers, OnGood, SaysNothing, the_site}
use Rattle.fd_cli.specs.declared.answer.Answer.{Answer}
use Rattle.fd_cli.specs.declared.answer.Answer.TheVariants.{Dump, Refused}
use Rattle.fd_cli.specs.declared.refusal.Refusal.TheVariants.{Judged}

-- the answer, by the verdict
abbrev pub verdict_answer : Verdict → Answer
verdict_answer (verdict.Dump h at sector) = Dump h.dumplength
verdict_answer (verdict.Refused why) = Refused (Judged why)

-- a verdict that stands for the partition: where its bytes are told, theirs
abbrev pub IsVerdict : (force : Bool) → Seen → Verdict → Type 0
IsVerdict force found v = Told found.told (λ c. v ≡ judged (part_of c) found.block force)

-- what is done over a good partition
abbrev pub Judges : (force : Bool) → Seen → Work → Type 0
Judges force found w = (v : Verdict) × IsVerdict force found v × Answers (verdict_answer v) w

abbrev pub judge_row : (force : Bool) → Row
judge_row force = record {
  Does = λ found w. OnGood found (Judges force found) w;
  Leaves = AddsNothing;
  Starves = AddsNothing;
  Says = SaysNothing;
  blames = the_site;
}
