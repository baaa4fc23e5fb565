-- Which bytes are a message, and why other bytes are none.
use Rattle.std.proofs.Common.{◌≡◌, ℕ, ◌-◌, ◌<◌, ◌≤◌, Bool, true, false, cond, nat_le, ◌==◌, ◌&&◌, List, length, take, drop}
use Rattle.std.proofs.Common.{Some, None, sym, ◌∙◌, ap, arith, length-drop}
use Rattle.std.proofs.Math.Seq.{take-length}
use Rattle.std.proofs.lemmas.Bool.Decides.{nat_tests}
use Rattle.fd_bytes.specs.Field.{u32_be_at}
use Rattle.fd_netmsg.specs.Message.{message_of, fields_of}

-- the test on how many bytes there are, their type and their length field
test : (size kind len : ℕ) → Bool
test size kind len = nat_le 24 size && (nat_le 1 kind && (nat_le kind 5 && (len == size - 24 && nat_le (size - 24) 4096)))

-- why bytes are no message
pub data IsNone (size kind len : ℕ) : Type 0 where
  Short : size < 24 → IsNone size kind len
  KindBelow : kind < 1 → IsNone size kind len
  KindAbove : 5 < kind → IsNone size kind len
  OtherLength : (len ≡ size - 24 → ⊥) → IsNone size kind len
  Long : 4096 < size - 24 → IsNone size kind len

test-none : (size kind len : ℕ) → IsNone size kind len → test size kind len ≡ false
unfolding test
test-none size kind len (Short why) = grind (arith, nat_tests)
test-none size kind len (KindBelow why) = grind (arith, nat_tests)
test-none size kind len (KindAbove why) = grind (arith, nat_tests)
test-none size kind len (OtherLength why) = grind (arith, nat_tests)
test-none size kind len (Long why) = grind (arith, nat_tests)

test-some : (size kind len : ℕ) → 24 ≤ size → 1 ≤ kind → kind ≤ 5 → len ≡ size - 24 → size - 24 ≤ 4096 → test size kind len ≡ true
unfolding test
test-some size kind len whole least most same short = grind (arith, nat_tests)

pub message_of-none : (bytes : List ℕ) → IsNone (length bytes) (u32_be_at bytes 0) (u32_be_at bytes 16) → message_of bytes ≡ None
unfolding message_of test
message_of-none bytes why =
    ap (λ (b : Bool). cond b (Some (fields_of bytes)) None) (test-none (length bytes) (u32_be_at bytes 0) (u32_be_at bytes 16) why)

pub message_of-some : (bytes : List ℕ) → 24 ≤ length bytes → 1 ≤ u32_be_at bytes 0 → u32_be_at bytes 0 ≤ 5
    → u32_be_at bytes 16 ≡ length bytes - 24 → length bytes - 24 ≤ 4096 → message_of bytes ≡ Some (fields_of bytes)
unfolding message_of test
message_of-some bytes whole least most same short =
    ap (λ (t : Bool). cond t (Some (fields_of bytes)) None) (test-some (length bytes) (u32_be_at bytes 0) (u32_be_at bytes 16) whole least most same short)

-- the bytes behind the fields, as the code takes them
pub body_is : (bytes : List ℕ) → take (length bytes - 24) (drop 24 bytes) ≡ drop 24 bytes
body_is bytes = ap (λ n. take n (drop 24 bytes)) (sym (length-drop 24 bytes)) ∙ take-length (drop 24 bytes)

pub length-body : (bytes : List ℕ) → length (take (length bytes - 24) (drop 24 bytes)) ≡ length bytes - 24
length-body bytes = ap length (body_is bytes) ∙ length-drop 24 bytes
