use Rattle.std.proofs.Common.{◌≡◌, List, ℕ, ◌∙◌, ap, subst}
use Rattle.fd_site.specs.FileJournal.{IsBegunFile, IsFileJournal}
use Rattle.fd_info.specs.Info.{info_text}
use Rattle.fd_info.specs.Name.{bounds_name, info_name, vmcore_name}
use Rattle.fd_save.specs.Outcome.{Copies}
use Rattle.fd_save.specs.Saving.{device_name, parity_of}
use Rattle.fd_save.proofs.Copying.{map_err, map_ok, on_err}
use Rattle.fd_save.proofs.Places.{device_named, dump_at}
use Rattle.fd_save.proofs.Steps.{copies_begun_bounds, copies_begun_info, copies_begun_vmcore, copies_saved, renamed}
use Rattle.fd_save.proofs.saving.save_files.Goals as goal

pub copy_part-requires-clause-start : goal.copy_part-requires-clause-start
copy_part-requires-clause-start g c = (dump_at c.args.saved.now.header c.args.saved.now.at _ _ c.requires.good c.requires.placed).start

pub copy_part-requires-clause-sectors : goal.copy_part-requires-clause-sectors
copy_part-requires-clause-sectors g c = (dump_at c.args.saved.now.header c.args.saved.now.at _ _ c.requires.good c.requires.placed).sectors

pub copy_part-requires-clause-inside : goal.copy_part-requires-clause-inside
copy_part-requires-clause-inside g c = (dump_at c.args.saved.now.header c.args.saved.now.at _ _ c.requires.good c.requires.placed).inside

pub print_info-text-requires : goal.print_info-text-requires
print_info-text-requires g c = record {
  plain = (dump_at c.args.saved.now.header c.args.saved.now.at _ _ c.requires.good c.requires.placed).plain;
  device = device_named;
}

pub returns-in_err-copy_part-clause-err : goal.returns-in_err-copy_part-clause-err
returns-in_err-copy_part-clause-err g c =
    let saved = c.args.saved.now in
    let named : c.as_str.result.now ≡ vmcore_name saved.number = c.as_str.ensures.value ∙ c.vmcore_name-vmcore.ensures.name in
    on_err c.from_residual.result
    (copies_begun_vmcore saved.header (parity_of saved.sector) saved.number saved.at saved.header.dumplength _ (g.S.Site.seen c.args.site.now).told (g.S.Site.seen c.args.site.now).told _
    (subst (λ (l : List ℕ). Copies (IsBegunFile l) saved.at saved.header.dumplength (g.S.Site.seen c.args.site.now).told
    (g.S.Site.seen c.copy_part.new.site).told) named c.in_err-copy_part.ensures.err))

pub returns-in_err-make_file-clause-err : goal.returns-in_err-make_file-clause-err
returns-in_err-make_file-clause-err g c =
    let saved = c.args.saved.now in
    let named : c.as_str.result.now ≡ vmcore_name saved.number = c.as_str.ensures.value ∙ c.vmcore_name-vmcore.ensures.name in
    let info_named : c.as_str-2.result.now ≡ info_name saved.number = c.as_str-2.ensures.value ∙ c.info_name-info.ensures.name in
    let text : c.as_slice.result.now ≡ info_text saved.header device_name (parity_of saved.sector) saved.number =
    c.as_slice.ensures.value ∙ c.print_info-text.ensures ∙ ap (λ p. info_text saved.header device_name p saved.number) c.get_u32_be-parity.ensures.value in
    on_err c.from_residual-in_err-make_file.result
    (copies_begun_info saved.header (parity_of saved.sector) saved.number saved.at saved.header.dumplength _ _ (g.S.Site.seen c.args.site.now).told _
    (subst (λ (l : List ℕ). Copies (IsFileJournal l) saved.at saved.header.dumplength (g.S.Site.seen c.args.site.now).told
    (g.S.Site.seen c.copy_part.new.site).told) named c.in_ok-copy_part.ensures.ok)
    (renamed IsBegunFile _ _ _ _ _ _ info_named text c.in_err-make_file.ensures.err))

pub returns-clause-ok : goal.returns-clause-ok
returns-clause-ok g c =
    let saved = c.args.saved.now in
    let named : c.as_str.result.now ≡ vmcore_name saved.number = c.as_str.ensures.value ∙ c.vmcore_name-vmcore.ensures.name in
    let info_named : c.as_str-2.result.now ≡ info_name saved.number = c.as_str-2.ensures.value ∙ c.info_name-info.ensures.name in
    let text : c.as_slice.result.now ≡ info_text saved.header device_name (parity_of saved.sector) saved.number =
    c.as_slice.ensures.value ∙ c.print_info-text.ensures ∙ ap (λ p. info_text saved.header device_name p saved.number) c.get_u32_be-parity.ensures.value in
    map_ok c.make_file-2.result
    (λ bounds. copies_saved saved.header (parity_of saved.sector) saved.number saved.at saved.header.dumplength _ _ _ _
    (subst (λ (l : List ℕ). Copies (IsFileJournal l) saved.at saved.header.dumplength (g.S.Site.seen c.args.site.now).told
    (g.S.Site.seen c.copy_part.new.site).told) named c.in_ok-copy_part.ensures.ok)
    (renamed IsFileJournal _ _ _ _ _ _ info_named text c.in_ok-make_file.ensures.ok)
    (renamed IsFileJournal _ _ _ _ _ _ (λ i. bounds_name) (c.as_slice-2.ensures.value ∙ c.print_bounds-next.ensures) bounds))
    c.make_file-2.ensures.ok

pub returns-clause-err : goal.returns-clause-err
returns-clause-err g c =
    let saved = c.args.saved.now in
    let named : c.as_str.result.now ≡ vmcore_name saved.number = c.as_str.ensures.value ∙ c.vmcore_name-vmcore.ensures.name in
    let info_named : c.as_str-2.result.now ≡ info_name saved.number = c.as_str-2.ensures.value ∙ c.info_name-info.ensures.name in
    let text : c.as_slice.result.now ≡ info_text saved.header device_name (parity_of saved.sector) saved.number =
    c.as_slice.ensures.value ∙ c.print_info-text.ensures ∙ ap (λ p. info_text saved.header device_name p saved.number) c.get_u32_be-parity.ensures.value in
    map_err c.make_file-2.result
    (λ bounds. copies_begun_bounds saved.header (parity_of saved.sector) saved.number saved.at saved.header.dumplength _ _ _ _
    (subst (λ (l : List ℕ). Copies (IsFileJournal l) saved.at saved.header.dumplength (g.S.Site.seen c.args.site.now).told
    (g.S.Site.seen c.copy_part.new.site).told) named c.in_ok-copy_part.ensures.ok)
    (renamed IsFileJournal _ _ _ _ _ _ info_named text c.in_ok-make_file.ensures.ok)
    (renamed IsBegunFile _ _ _ _ _ _ (λ i. bounds_name) (c.as_slice-2.ensures.value ∙ c.print_bounds-next.ensures) bounds))
    c.make_file-2.ensures.err
