use Rattle.std.proofs.Common.{◌≡◌, ◌∙◌, ap, ap₂, sym, true, false, length, ◌==◌}
use Rattle.std.proofs.lemmas.List.{map-id}
use Rattle.clap.specs.Words.{fault_of, is_simple, is_simple_and_free, kind_of, matches_of}
use Rattle.clap.specs.declared.error.kind.ErrorKind.TheVariants.{OutOfMemory}
use Rattle.fd_words.specs.CommandLine.{command_line, is_command_line, matches_in}
use Rattle.fd_words.proofs.Refusals.{is_simple_line, is_free_line, other_kind}
use Rattle.fd_words.proofs.line.Line.read.Goals as goal

pub returns-in-Ok-clause-command : goal.returns-in-Ok-clause-command
unfolding is_command_line
returns-in-Ok-clause-command c =
    let app_is = c.in_ok-command.ensures in
    let none = sym (ap₂ fault_of app_is (map-id c.args.words.now)) ∙ c.in-Ok.ensures.kinds (ap is_simple_and_free app_is ∙ is_free_line) in
    ap (λ kinds. length kinds == 0) (sym none)

pub returns-in-Ok-clause-matches : goal.returns-in-Ok-clause-matches
unfolding matches_in
returns-in-Ok-clause-matches c =
    let app_is = c.in_ok-command.ensures in
    (c.in-Ok.ensures.matches (ap is_simple app_is ∙ is_simple_line)).0 ∙ ap₂ matches_of app_is (map-id c.args.words.now)

pub returns : goal.returns
unfolding is_command_line
returns c =
    let app_is = c.in_ok-command.ensures in
    let kinds = c.in-Err.ensures.kinds (ap is_simple_and_free app_is ∙ is_free_line) in
    record {
      command = other_kind (kind_of c.in-Err.error) OutOfMemory _ (λ e. c.in_default.not-OutOfMemory (c.kind.ensures ∙ e)) kinds
          ∙ ap (λ ks. length ks == 0) (ap₂ fault_of app_is (map-id c.args.words.now));
      matches = tt;
    }
