-- What a command replies: its answer as a text and a status, or why there is none.
use Rattle.std.specs.Prelude.{◌≡◌, ℕ, List, Result, Ok, Err, IsErrOf}
use Rattle.fd_site.specs.Contents.{with_entries}
use Rattle.fd_site.specs.Journal.{Entry}
use Rattle.fd_site.specs.Seen.{Seen}
use Rattle.fd_cli.specs.Ending.{answer_status, answer_text}
use Rattle.fd_cli.specs.Row.{Added, FaultRose, Grew, Kept, Reach, Row, Work, only}
use Rattle.fd_cli.specs.declared.answer.Answer.{Answer}
use Rattle.fd_cli.specs.declared.reply.Reply.{Reply}
use Rattle.fd_cli.specs.declared.reply.Trouble.{Trouble}
use Rattle.fd_cli.specs.declared.reply.Trouble.TheVariants.{Fault, NoMemory}
use Rattle.fd_cli.specs.declared.text.Text.{Text}
use Rattle.fd_cli.specs.declared.text.Text.TheVariants.{Line, Lines, Report}

-- what is printed, as its bytes
abbrev pub text_bytes : Text → List ℕ
text_bytes (Lines lines) = lines.items
text_bytes (Line line) = line.bytes
text_bytes (Report report) = report.bytes

-- the text and the status of an answer
pub record IsReplyOf (answer : Answer) (reply : Reply) : Type 0 where
  pub status : reply.status ≡ answer_status answer
  pub text : text_bytes reply.text ≡ answer_text answer

-- the status where there is none
abbrev pub trouble_status : Trouble → ℕ
trouble_status Fault = 74
trouble_status NoMemory = 71

-- a row's work was done, and the reply has its answer
pub record Replies (row : Row) (old new : Reach) (reply : Reply) : Type 0 where
  pub work : Work
  pub does : row.Does old.site work
  pub grew : Grew old new work.added
  pub is : IsReplyOf work.answer reply

-- a fault ended it
pub record Leaves (row : Row) (old new : Reach) : Type 0 where
  pub added : Added
  pub leaves : row.Leaves old.site added
  pub grew : Grew old new added

-- no memory was found
pub record Starves (row : Row) (old new : Reach) : Type 0 where
  pub added : Added
  pub starves : row.Starves old.site added
  pub grew : Grew old new added

-- a row's work, done or ended
abbrev pub Works : Row → (old new : Reach) → Result Reply Trouble → Type 0
Works row old new (Ok reply) = Replies row old new reply
Works row old new (Err Fault) = Leaves row old new
Works row old new (Err NoMemory) = Starves row old new

-- how a row's work went: what it came to, what it kept, and that a fault is one of what the row blames
pub record Worked (row : Row) (old new : Reach) (result : Result Reply Trouble) : Type 0 where
  pub works : Works row old new result
  pub kept : Kept row.blames old new
  pub cause : IsErrOf result Fault → FaultRose row.blames old new

-- the same of a row's work on the site alone, by the entries that it adds
pub record SiteReplies (row : Row) (old new : Seen) (reply : Reply) : Type 0 where
  pub answer : Answer
  pub entries : List Entry
  pub does : row.Does old (record { answer = answer; added = only entries })
  pub told : new.told ≡ with_entries old.told entries
  pub is : IsReplyOf answer reply

pub record SiteLeaves (row : Row) (old new : Seen) : Type 0 where
  pub entries : List Entry
  pub leaves : row.Leaves old (only entries)
  pub told : new.told ≡ with_entries old.told entries

pub record SiteStarves (row : Row) (old new : Seen) : Type 0 where
  pub entries : List Entry
  pub starves : row.Starves old (only entries)
  pub told : new.told ≡ with_entries old.told entries

abbrev pub WorksOnSite : Row → (old new : Seen) → Result Reply Trouble → Type 0
WorksOnSite row old new (Ok reply) = SiteReplies row old new reply
WorksOnSite row old new (Err Fault) = SiteLeaves row old new
WorksOnSite row old new (Err NoMemory) = SiteStarves row old new
