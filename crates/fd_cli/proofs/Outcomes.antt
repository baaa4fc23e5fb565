-- What each command's work comes to: it was refused, or did what it was asked for.
use Rattle.std.proofs.Common.{◌≡◌, ◌⊎◌, inl, inr, ℕ, Bool, ◌≤◌, true, IsTrue, length, Result, Ok, Err, sym, ◌∙◌, ap, arith}
use Rattle.std.proofs.lemmas.Bool.Decides.{nat_tests}
use Rattle.fd_site.specs.Seen.{Seen}
use Rattle.fd_image.specs.Image.{MachineImage}
use Rattle.fd_imgfile.specs.declared.fault.ImageFault.{ImageFault}
use Rattle.fd_imgfile.specs.declared.fault.ImageFault.TheVariants as image
use Rattle.fd_dump.specs.Minidump.{minidump_of}
use Rattle.fd_part.specs.Partition.{has_room, is_good, need_of}
use Rattle.fd_cli.specs.Ending.{answer_status}
use Rattle.fd_cli.specs.Refusal.{status_of}
use Rattle.fd_cli.specs.Row.{Work, nothing}
use Rattle.fd_cli.specs.Rows.Common.{OnGood, Refuses}
use Rattle.fd_cli.specs.Rows.Dump.{ByImage, Dumps, DumpsSource, IsGiven, dump_row}
use Rattle.fd_cli.specs.Rows.Judge.{Judges}
use Rattle.fd_cli.specs.declared.refusal.Refusal.{Refusal}
use Rattle.fd_cli.specs.declared.refusal.Refusal.TheVariants.{Judged, Address, NoFile, NotImage, BadImage, NoRoom, Partition, Mini, Short, BadAvail, NotCommand, NoNumber, NoAnswer, TurnsSpent}
use Rattle.fd_words.specs.declared.source.Source.{Source}
use Rattle.fd_cli.proofs.Good.{either}

-- what is refused adds nothing
pub refused_adds_nothing : (refusal : Refusal) (w : Work) → Refuses refusal w → w.added ≡ nothing
refused_adds_nothing refusal w is = ap (λ x. x.added) is

-- and doesn't end with 0
not_zero : (refusal : Refusal) → status_of refusal ≡ 0 → ⊥
not_zero (Judged why) zero = cc
not_zero (Address fault) zero = cc
not_zero (NoAnswer number) zero = cc
not_zero NoFile zero = cc
not_zero (NotImage place) zero = cc
not_zero (BadImage bad) zero = cc
not_zero (NoRoom room) zero = cc
not_zero (Partition bad) zero = cc
not_zero (Mini fault) zero = cc
not_zero (Short need have) zero = cc
not_zero (BadAvail index) zero = cc
not_zero NotCommand zero = cc
not_zero (TurnsSpent turns) zero = cc
not_zero NoNumber zero = cc

pub refused_not_zero : (refusal : Refusal) (w : Work) → Refuses refusal w → answer_status w.answer ≡ 0 → ⊥
refused_not_zero refusal w is zero = not_zero refusal (sym (ap (λ x. answer_status x.answer) is) ∙ zero)

-- a judge adds nothing
pub judge_adds_nothing : (force : Bool) (found : Seen) (w : Work) → OnGood found (Judges force found) w → w.added ≡ nothing
judge_adds_nothing force found w does =
    either (is_good found.size found.block) (Judges force found w) _ (w.added ≡ nothing) does (λ good judges. ap (λ x. x.added) judges.2)
    (λ bad refused. refused_adds_nothing _ w refused)

-- a whole dump was written, with room
pub record IsWhole (mark : Bool) (source : Source) (found : Seen) (w : Work) : Type 0 where
  pub image : MachineImage
  pub given : IsGiven source found (Ok image)
  pub good : IsTrue (is_good found.size found.block)
  pub room : need_of found.block (length (minidump_of image)) ≤ found.size
  pub dumps : Dumps mark found.told found.size found.block image w

-- `dump` was refused, or wrote the whole dump
abbrev pub IsRefusedOrWhole : (mark : Bool) → Source → Seen → Work → Type 0
IsRefusedOrWhole mark source found w = ((refusal : Refusal) × Refuses refusal w) ⊎ IsWhole mark source found w

has_bytes : (found : Seen) (len : ℕ) → has_room found.size found.block len ≡ true → need_of found.block len ≤ found.size
has_bytes found len room = grind (arith, nat_tests, room)

by_image : (mark : Bool) (source : Source) (found : Seen) (w : Work) (given : Result MachineImage ImageFault) → IsTrue (is_good found.size found.block)
    → IsGiven source found given → ByImage mark found given w → IsRefusedOrWhole mark source found w
by_image mark source found w (Ok m) good given does =
    either (has_room found.size found.block (length (minidump_of m))) (Dumps mark found.told found.size found.block m w) _ (IsRefusedOrWhole mark source found w) does
    (λ room dumps. inr (record { image = m; given = given; good = good; room = has_bytes found _ room; dumps = dumps }))
    (λ short refused. inl (_, refused))
by_image mark source found w (Err image.NoFile) good given does = inl (NoFile, does)
by_image mark source found w (Err (image.NotImage place)) good given does = inl (NotImage place, does)
by_image mark source found w (Err (image.BadImage bad)) good given does = inl (BadImage bad, does)
by_image mark source found w (Err image.SiteFault) good given does = absurd does
by_image mark source found w (Err image.NoMemory) good given does = absurd does

pub refused_or_whole : (mark : Bool) (source : Source) (found : Seen) (w : Work) → (dump_row mark source).Does found w → IsRefusedOrWhole mark source found w
refused_or_whole mark source found w does =
    either (is_good found.size found.block) (DumpsSource mark source found w) _ (IsRefusedOrWhole mark source found w) does
    (λ good d. by_image mark source found w d.0 good d.1 d.2) (λ bad refused. inl (_, refused))

-- `dump` that ended with 0 wrote the whole dump
pub whole_of_zero : (mark : Bool) (source : Source) (found : Seen) (w : Work) → (dump_row mark source).Does found w → answer_status w.answer ≡ 0
    → IsWhole mark source found w
whole_of_zero mark source found w does zero = elim (refused_or_whole mark source found w does) [
  | inl refused ↦ absurd (refused_not_zero refused.0 w refused.1 zero)
  | inr whole ↦ whole
]
