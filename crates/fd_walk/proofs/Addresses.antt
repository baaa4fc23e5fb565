-- Addresses and the sizes that entries map.
use Rattle.std.proofs.Common.{◌≡◌, ◌∙◌, ℕ, ◌+◌, ◌-◌, ◌*◌, ◌/◌, ◌%◌, ◌^◌, ◌<◌, ◌≤◌, ap, sym, subst, arith}
use Rattle.std.proofs.lemmas.Nat.{pow_pos, pow-add, field_of, mod-pow-add, mod_below, div-add-mod'}
use Rattle.std.proofs.Math.Pow.{mod-mod-pow}
use Rattle.std.proofs.Math.Nat.{mod-eq_of_lt}
use Rattle.fd_pte.specs.Entry.{bytes_under}
use Rattle.fd_walk.specs.PageTables.{index_at}

-- an entry maps 512 times what one right below it maps
pub bytes_under-above : (height : ℕ) → bytes_under (height + 1) ≡ 512 * bytes_under height
bytes_under-above height = ap (λ e. 2 ^ e) (let e : 12 + 9 * (height + 1) ≡ 9 + (12 + 9 * height) = omega arith in e) ∙ pow-add 2 9 (12 + 9 * height)

-- an address within 512 entries: the start of the larger entry, the index, and the place in the smaller one
pub split_address : (height low : ℕ)
    → low % bytes_under (height + 1) ≡ low / bytes_under height % 512 * bytes_under height + low % bytes_under height
split_address height low =
    ap (λ e. low % 2 ^ e) (let e : 12 + 9 * (height + 1) ≡ 9 + (12 + 9 * height) = omega arith in e) ∙ mod-pow-add low 9 (12 + 9 * height)

-- what the tables see of an address has the address's indices
pub index_at-seen : (levels height va : ℕ) → height < levels → index_at height (va % bytes_under levels) ≡ index_at height va
index_at-seen levels height va within =
    let more : ℕ = 9 * (levels - 1 - height) in
    let e : 12 + 9 * levels ≡ (more + 9) + (12 + 9 * height) = omega arith in
    ap (λ n. va % 2 ^ n / bytes_under height % 512) e
    ∙ ap (λ n. n % 512) (field_of va (more + 9) (12 + 9 * height))
    ∙ mod-mod-pow (va / bytes_under height) more 9

-- where an address stands in the table of its entry of this height
pub record IsPlaceIn (levels height va : ℕ) : Type 0 where
  pub entry : va % bytes_under levels - va % bytes_under levels % bytes_under height
      ≡ va % bytes_under levels - va % bytes_under levels % bytes_under (height + 1) + index_at height va * bytes_under height
  pub from : va % bytes_under levels - va % bytes_under levels % bytes_under height ≤ va % bytes_under levels
  pub to : va % bytes_under levels < va % bytes_under levels - va % bytes_under levels % bytes_under height + bytes_under height

pub place_of : (levels height va : ℕ) → height < levels → IsPlaceIn levels height va
place_of levels height va within =
    let low = va % bytes_under levels in
    let split = split_address height low in
    let same = ap (λ index. index * bytes_under height) (index_at-seen levels height va within) in
    let rest = mod_below low (bytes_under height) (pow_pos (12 + 9 * height)) in
    let whole : low % bytes_under (height + 1) ≤ low = omega (arith, div-add-mod' low (bytes_under (height + 1))) in
    record { entry = omega (arith, split, same, whole); from = omega arith; to = omega (arith, rest, div-add-mod' low (bytes_under height)) }

-- the addresses of the topmost table begin at 0
pub place_of-top : (levels height va : ℕ) → height + 1 ≡ levels → va % bytes_under levels - va % bytes_under levels % bytes_under (height + 1) ≡ 0
place_of-top levels height va top =
    let low = va % bytes_under levels in
    let below : low < bytes_under (height + 1) = subst (λ n. low < bytes_under n) (sym top) (mod_below va (bytes_under levels) (pow_pos (12 + 9 * levels))) in
    let all : low % bytes_under (height + 1) ≡ low = mod-eq_of_lt below in omega arith
