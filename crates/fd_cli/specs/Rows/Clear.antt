-- `savecore -c [-f]`: a partition's dump is marked as saved, though it wasn't.
use Rattle.std.specs.Prelude.{◌≡◌, ◌⊎◌, ℕ, Bool, IsTrue, List}
use Rattle.fd_site.specs.Begun.{IsBegun}
use Rattle.fd_site.specs.Seen.{Seen}
use Rattle.fd_kdh.specs.declared.header.Header.{Header}
use Rattle.fd_part.specs.Partition.{is_good}
use Rattle.fd_judge.specs.declared.why.Why.{Why}
use Rattle.fd_save.specs.Outcome as save
use Rattle.fd_save.specs.Saving.{clearing}
use Rattle.fd_cli.specs.Row.{Added, Row, Work, nothing, only}
use Rattle.fd_cli.specs.Rows.Common.{AddsNothing, OnGood, Refuses, SaysNothing, the_site}
use Rattle.fd_cli.specs.declared.answer.Answer.TheVariants.{Cleared}
use Rattle.fd_cli.specs.declared.refusal.Refusal.TheVariants.{Judged}

-- judging refuses the partition, and so does the command
pub record IsRefused (force : Bool) (found : Seen) (w : Work) : Type 0 where
  pub why : Why
  pub judged : save.Refuses force found why
  pub refuses : Refuses (Judged why) w

-- judging finds a dump, whose header is cleared
pub record Clears (force : Bool) (found : Seen) (w : Work) : Type 0 where
  pub header : Header
  pub at : ℕ
  pub sector : List ℕ
  pub finds : save.Finds force found header at sector
  pub is : w ≡ record { answer = Cleared; added = only (clearing found.size found.block sector) }

-- clearing was begun
pub record HasBegunToClear (force : Bool) (found : Seen) (added : Added) : Type 0 where
  pub good : IsTrue (is_good found.size found.block)
  pub header : Header
  pub at : ℕ
  pub sector : List ℕ
  pub finds : save.Finds force found header at sector
  pub begun : IsBegun (clearing found.size found.block sector) added.entries
  pub alone : added ≡ only added.entries

-- what is done over a good partition
abbrev pub ClearsJudged : (force : Bool) → Seen → Work → Type 0
ClearsJudged force found w = IsRefused force found w ⊎ Clears force found w

-- nothing was added, or clearing was begun
abbrev pub MayHaveBegunToClear : (force : Bool) → Seen → Added → Type 0
MayHaveBegunToClear force found added = (added ≡ nothing) ⊎ HasBegunToClear force found added

-- the row over a partition that is known to be good
abbrev pub judged_clear_row : (force : Bool) → Row
judged_clear_row force = record {
  Does = ClearsJudged force;
  Leaves = MayHaveBegunToClear force;
  Starves = AddsNothing;
  Says = SaysNothing;
  blames = the_site;
}

abbrev pub clear_row : (force : Bool) → Row
clear_row force = record {
  Does = λ found w. OnGood found (ClearsJudged force found) w;
  Leaves = MayHaveBegunToClear force;
  Starves = AddsNothing;
  Says = SaysNothing;
  blames = the_site;
}
