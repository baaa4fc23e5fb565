use Rattle.std.proofs.Common.{inr, sym, ◌∙◌, subst}
use Rattle.fd_site.specs.Contents.{file_of}
use Rattle.fd_save.specs.Number.{IsNumberOf}
use Rattle.fd_save.specs.Outcome.{Copies}
use Rattle.fd_save.specs.Saving.{IsBegunSave, IsSaveJournal, parity_of}
use Rattle.fd_save.proofs.saving.save.Goals as goal

pub returns-clause-saved : goal.returns-clause-saved
returns-clause-saved g c = record {
  found = λ told is. sym (c.in_ok-header.ensures.verdict told is) ∙ c.in-Dump.is;
  number = λ told is. subst (IsNumberOf (file_of told) c.args.options.max) c.in-Some.is (c.in_ok-number.ensures.number told (c.in_ok-header.ensures.untouched.told ∙ is));
  files =
      subst (λ o. Copies (λ body. IsSaveJournal body c.in-Dump.header (parity_of c.in-Dump.sector) c.in-Some.number)
      c.in-Dump.at c.in-Dump.header.dumplength o (g.S.Site.seen c.save_files.new.site).told)
      (c.in_ok-number.ensures.untouched.told ∙ c.in_ok-header.ensures.untouched.told) c.in_ok-save_files.ensures.ok;
}

pub returns-in_err-save_files-clause-fault : goal.returns-in_err-save_files-clause-fault
returns-in_err-save_files-clause-fault g c _ =
    inr (record {
      saved = record { number = c.in-Some.number; at = c.in-Dump.at; header = c.in-Dump.header; sector = c.in-Dump.sector };
      found = λ told is. sym (c.in_ok-header.ensures.verdict told is) ∙ c.in-Dump.is;
      number = λ told is. subst (IsNumberOf (file_of told) c.args.options.max) c.in-Some.is (c.in_ok-number.ensures.number told (c.in_ok-header.ensures.untouched.told ∙ is));
      files =
          subst (λ o. Copies (λ body. IsBegunSave body c.in-Dump.header (parity_of c.in-Dump.sector) c.in-Some.number)
          c.in-Dump.at c.in-Dump.header.dumplength o (g.S.Site.seen c.save_files.new.site).told)
          (c.in_ok-number.ensures.untouched.told ∙ c.in_ok-header.ensures.untouched.told) c.in_err-save_files.ensures.err;
    })

pub returns-in-Refused-clause-refused : goal.returns-in-Refused-clause-refused
returns-in-Refused-clause-refused g c told is = sym (c.in_ok-header.ensures.verdict told is) ∙ c.in-Refused.is

pub returns-in-None-clause-no_number : goal.returns-in-None-clause-no_number
returns-in-None-clause-no_number g c _ = record {
  header = c.in-Dump.header;
  at = c.in-Dump.at;
  sector = c.in-Dump.sector;
  found = λ told is. sym (c.in_ok-header.ensures.verdict told is) ∙ c.in-Dump.is;
  none = λ told is. subst (IsNumberOf (file_of told) c.args.options.max) c.in-None.is (c.in_ok-number.ensures.number told (c.in_ok-header.ensures.untouched.told ∙ is));
}
