-- The row of each command.
use Rattle.std.specs.Prelude.{Option, Some, None}
use Rattle.fd_cli.specs.Row.{Row}
use Rattle.fd_cli.specs.Rows.Clear.{clear_row}
use Rattle.fd_cli.specs.Rows.Common.{AddsNothing, Refuses, SaysNothing, no_fault}
use Rattle.fd_cli.specs.Rows.Drill.{drill_row}
use Rattle.fd_cli.specs.Rows.Dump.{dump_row}
use Rattle.fd_cli.specs.Rows.Image.{image_row}
use Rattle.fd_cli.specs.Rows.Judge.{judge_row}
use Rattle.fd_cli.specs.Rows.Netdump.{netdump_row}
use Rattle.fd_cli.specs.Rows.Netdumpd.{netdumpd_row}
use Rattle.fd_cli.specs.Rows.Pages.{pages_row}
use Rattle.fd_cli.specs.Rows.Read.{read_row}
use Rattle.fd_cli.specs.Rows.Save.{save_row}
use Rattle.fd_words.specs.declared.command.Command.{Command}
use Rattle.fd_words.specs.declared.command.Command.TheVariants as command
use Rattle.fd_cli.specs.declared.refusal.Refusal.TheVariants.{NotCommand}
pub mod Clear
pub mod Common
pub mod Drill
pub mod Dump
pub mod Image
pub mod ImageRead
pub mod Judge
pub mod Netdump
pub mod Netdumpd
pub mod Pages
pub mod Read
pub mod Save

-- words that are no command
abbrev pub no_command_row : Row
no_command_row = record {
  Does = λ found w. Refuses NotCommand w;
  Leaves = AddsNothing;
  Starves = AddsNothing;
  Says = SaysNothing;
  blames = no_fault;
}

abbrev pub row_of : Option Command → Row
row_of None = no_command_row
row_of (Some (command.Image arch number file)) = image_row arch number file
row_of (Some (command.Judge force)) = judge_row force
row_of (Some (command.Clear force)) = clear_row force
row_of (Some (command.Save options keep)) = save_row options keep
row_of (Some (command.Dump mark source)) = dump_row mark source
row_of (Some (command.Netdump source server)) = netdump_row source server
row_of (Some (command.Netdumpd dumps)) = netdumpd_row dumps
row_of (Some (command.Read name va count)) = read_row name va count
row_of (Some (command.Pages name)) = pages_row name
row_of (Some (command.Drill source stop va count)) = drill_row source stop va count
