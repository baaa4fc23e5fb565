-- What `{:02x}`, `{:08x}` and `{:016x}` write.
use Rattle.std.proofs.Common.{◌≡◌, ℕ, ◌-◌, ◌^◌, false, [], refl}
use Rattle.std.specs.Fmt.{digits, format_spec, padded_integral}
use Rattle.std.proofs.Padding.{padded_integral_zeros}
use Rattle.fd_bytes.specs.Printed.{hex}

-- hexadecimal digits of a width
pub padded_hex : (width n : ℕ) → padded_integral (format_spec 32 0 4 width (2 ^ 64 - 1)) false [] (digits 16 false n) ≡ hex width n
padded_hex width n = padded_integral_zeros (format_spec 32 0 4 width (2 ^ 64 - 1)) (digits 16 false n) refl refl
