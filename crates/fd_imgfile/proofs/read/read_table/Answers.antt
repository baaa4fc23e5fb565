-- The length of the file against the length that the table of segments gives it.
use Rattle.std.proofs.Common.{◌≡◌, ◌*◌, ◌+◌, ◌<◌, ℕ, List, Some, None, min, slice_range, sym, subst, ◌∙◌, ap, arith}
use Rattle.fd_site.specs.Contents.{file_of}
use Rattle.fd_imgfile.specs.File.{OfFile}
use Rattle.fd_imgfile.specs.Front.{IsFront, tables_length}
use Rattle.fd_imgfile.specs.Reading.{fault_place}
use Rattle.fd_imgfile.specs.declared.front.Front.{Front}
use Rattle.fd_imgfile.proofs.Files.{IsFileAnd-more, OfFile-from_and}
use Rattle.fd_imgfile.proofs.Lengths.{of_table, tables_fault, whole_fault, whole_kept}
use Rattle.fd_imgfile.proofs.read.read_table.Goals as goal

pub returns-then-len-tables_length-clause-refused : goal.returns-then-len-tables_length-clause-refused
returns-then-len-tables_length-clause-refused g c =
    let h : Front = c.args.front.now in
    let short : c.args.len < 112 + tables_length h = omega arith in
    OfFile-from_and _ _ (λ file. fault_place file ≡ Some c.args.len)
    (IsFileAnd-more _ _ c.args.len (λ file. IsFront file h) (λ file. fault_place file ≡ Some c.args.len) c.requires.length c.requires.front
    (λ f is front. tables_fault f h c.args.len front is short))

pub returns-then-from-whole-clause-refused : goal.returns-then-from-whole-clause-refused
returns-then-from-whole-clause-refused g c =
    let h : Front = c.args.front.now in
    let len : ℕ = c.args.len in
    let whole : ℕ = c.whole_length-whole.result in
    let table : List ℕ = c.read_file.new.out in
    let place : c.min.result ≡ min len whole = omega arith in
    let differ : ¬ (len ≡ whole) = λ e. c.if-from-whole.true (c.from.ensures ∙ e) in
    let read : OfFile (g.S.Site.seen c.args.site.now).told c.args.name.now (λ file. table ≡ slice_range file 112 (112 + 16 * h.segs)) =
    subst (λ n. OfFile (g.S.Site.seen c.args.site.now).told c.args.name.now (λ file. table ≡ slice_range file 112 (112 + n))) c.requires.room c.in_ok-read_file.ensures.bytes in
    λ k is. of_table (file_of k c.args.name.now) len table h (Some c.min.result) (omega arith) (c.requires.length k is) (c.requires.front k is) (read k is)
    (λ f has t. whole_fault f table h len whole t has c.whole_length-whole.ensures differ ∙ ap Some (sym place))

pub returns-clause-no_fault : goal.returns-clause-no_fault
returns-clause-no_fault g c =
    let h : Front = c.args.front.now in
    let len : ℕ = c.args.len in
    let table : List ℕ = c.read_file.new.out in
    let read : OfFile (g.S.Site.seen c.args.site.now).told c.args.name.now (λ file. table ≡ slice_range file 112 (112 + 16 * h.segs)) =
    subst (λ n. OfFile (g.S.Site.seen c.args.site.now).told c.args.name.now (λ file. table ≡ slice_range file 112 (112 + n))) c.requires.room c.in_ok-read_file.ensures.bytes in
    λ k is. of_table (file_of k c.args.name.now) len table h None (omega arith) (c.requires.length k is) (c.requires.front k is) (read k is)
    (λ f has t. whole_kept f table h len t has (sym c.from.ensures ∙ (c.if-from-whole.false ∙ c.whole_length-whole.ensures)))
