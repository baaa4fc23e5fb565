-- The first 112 bytes of the file are its fields.
use Rattle.std.proofs.Common.{◌≡◌, ℕ, List, Some, slice_range, arith}
use Rattle.fd_imgfile.specs.Front.{IsFront}
use Rattle.fd_imgfile.specs.Reading.{fault_place}
use Rattle.fd_imgfile.proofs.Files.{IsFileAnd-length, IsFileAnd-more, OfFile-from_and}
use Rattle.fd_imgfile.proofs.Fronts.{field_fault, front_is, short_fault}
use Rattle.fd_imgfile.proofs.read.read_front.Goals as goal

pub returns-then-len-lt112-clause-refused : goal.returns-then-len-lt112-clause-refused
returns-then-len-lt112-clause-refused g c =
    OfFile-from_and _ _ _ (IsFileAnd-length _ _ c.args.len (λ file. fault_place file ≡ Some c.args.len) c.requires.length (λ f is. short_fault f c.args.len is (omega arith)))

pub returns-in-Ok-clause-front : goal.returns-in-Ok-clause-front
returns-in-Ok-clause-front g c =
    let bytes : List ℕ = c.read_file.new.out in
    OfFile-from_and _ _ _ (IsFileAnd-more _ _ c.args.len (λ file. bytes ≡ slice_range file 0 112) (λ file. IsFront file c.in-Ok.front) c.requires.length c.in_ok-read_file.ensures.bytes
    (λ f is read. front_is f bytes c.in-Ok.front c.args.len is (omega arith) read c.in-Ok.ensures.kept c.in-Ok.ensures.spelling c.in-Ok.ensures.counts))

pub returns-in-Err-clause-refused : goal.returns-in-Err-clause-refused
returns-in-Err-clause-refused g c =
    let bytes : List ℕ = c.read_file.new.out in
    OfFile-from_and _ _ _ (IsFileAnd-more _ _ c.args.len (λ file. bytes ≡ slice_range file 0 112)
    (λ file. fault_place file ≡ Some c.in-Err.place) c.requires.length c.in_ok-read_file.ensures.bytes
    (λ f is read. field_fault f bytes c.args.len c.in-Err.place is (omega arith) read c.in-Err.ensures.broken))
