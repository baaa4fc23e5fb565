-- What follows where a record stands for a session.
use Rattle.std.proofs.Common.{◌≡◌, inl, inr, ◌⊎◌, ◌==◌, ℕ, zero, suc, ◌+◌, ◌-◌, ◌<◌, ◌≤◌, Bool, true, false, nat_le, nat_lt, ◌&&◌, ◌||◌, ◌↔◌}
use Rattle.std.proofs.Common.{cond, List, [], ◌∷◌, length, Option, Some, None, Ok, Err, IsTrue, is_some, eqb-true, refl, sym, ◌∙◌, ap, arith}
use Rattle.std.proofs.lemmas.Bool.{and_parts, cases_lt, leb-true, ltb-true}
use Rattle.std.proofs.lemmas.Bool.Decides.{nat_tests}
use Rattle.fd_cover.specs.Intervals.{has, IsWhole, IsNone}
use Rattle.fd_netmsg.specs.Each.{Each}
use Rattle.fd_netserver.specs.declared.record.Record.{Record}
use Rattle.fd_netserver.specs.Session.{Piece, Session, Phase, Open, Done, Broken, is_in, covers, each_below, all_within, is_whole, accepted, if_plain, is_plain}
use Rattle.fd_netserver.specs.Table.{Skips, Ends, is_empty, ending, end_row}
use Rattle.fd_netserver.specs.declared.reply.Skip.TheVariants as skip
use Rattle.fd_bytes.specs.Arch.{arch_of_header}
use Rattle.fd_info.specs.Info.{IsPlain}
use Rattle.fd_netserver.specs.Files.{parity_of}
use Rattle.fd_kdh.specs.Header.{decoded}
use Rattle.fd_kdh.specs.declared.header.Header.{Header}
use Rattle.fd_kdh.specs.declared.header.HeaderFault.{HeaderFault}
use Rattle.fd_netserver.specs.Stands.{Holds, StandsIn}

-- the cover of pieces
first_in : (at : ℕ) (bytes : List ℕ) → (bytes ≡ [] → ⊥) → is_in (record { at = at; bytes = bytes }) at ≡ true
first_in at [] some = absurd (some refl)
first_in at (b ∷ bs) some = first at (length bs)
  where
    first : (a n : ℕ) → (nat_le a a && nat_lt a (a + suc n)) ≡ true
    first a n = grind (arith, nat_tests)

last_in : (at : ℕ) (bytes : List ℕ) → (bytes ≡ [] → ⊥) → is_in (record { at = at; bytes = bytes }) (at + length bytes - 1) ≡ true
last_in at [] some = absurd (some refl)
last_in at (b ∷ bs) some = last at (length bs)
  where
    last : (a n : ℕ) → (nat_le a (a + suc n - 1) && nat_lt (a + suc n - 1) (a + suc n)) ≡ true
    last a n = grind (arith, nat_tests)

or_left : (a b : Bool) → a ≡ true → (a || b) ≡ true
or_left a b e = cc

or_right : (a b : Bool) → b ≡ true → (a || b) ≡ true
or_right true b e = refl
or_right false b e = e

and_both : (a b : Bool) → a ≡ true → b ≡ true → (a && b) ≡ true
and_both a b x y = cc

abbrev pub HaveBytes : List Piece → Type 0
HaveBytes ps = Each (λ p. p.bytes ≡ [] → ⊥) ps

no_cover : (ps : List Piece) → HaveBytes ps → ((i : ℕ) → covers ps i ≡ false) → ps ≡ []
no_cover [] some none = refl
no_cover (p ∷ ps) some none = let e = sym (or_left (is_in p p.at) (covers ps p.at) (first_in p.at p.bytes some.0)) ∙ none p.at in absurd (cc)

within : (ps : List Piece) (len : ℕ) → HaveBytes ps → ((i : ℕ) → covers ps i ≡ true → i < len) → all_within ps len ≡ true
within [] len some below = refl
within (p ∷ ps) len some below =
    let last = below (p.at + length p.bytes - 1) (or_left _ (covers ps (p.at + length p.bytes - 1)) (last_in p.at p.bytes some.0)) in
    and_both _ _ (fits (p.at + length p.bytes) len last) (within ps len some.1 (λ i is. below i (or_right (is_in p i) (covers ps i) is)))
  where
    fits : (n len : ℕ) → n - 1 < len → nat_le n len ≡ true
    fits n len lt = grind (arith, nat_tests)

each : (f : ℕ → Bool) (n : ℕ) → ((i : ℕ) → i < n → f i ≡ true) → each_below f n ≡ true
each f zero all = refl
each f (suc n) all = and_both (f n) (each_below f n) (all n (omega arith)) (each f n (λ i lt. all i (omega arith)))

each_is : (f : ℕ → Bool) (n i : ℕ) → each_below f n ≡ true → i < n → f i ≡ true
each_is f zero i all below = absurd (omega arith)
each_is f (suc n) i all below =
    let parts = and_parts (f n) (each_below f n) all in
    elim (cases_lt i n) [ inl less ↦ each_is f n i parts.1 less | inr last ↦ ap f (omega arith) ∙ parts.0 ]

beyond : (ps : List Piece) (len i : ℕ) → all_within ps len ≡ true → len ≤ i → covers ps i ≡ false
beyond [] len i all le = refl
beyond (p ∷ ps) len i all le =
    let parts = and_parts (nat_le (p.at + length p.bytes) len) (all_within ps len) all in
    let first : is_in p i ≡ false = past p.at (p.at + length p.bytes) (leb-true (p.at + length p.bytes) len parts.0) in
    ap (λ (b : Bool). b || covers ps i) first ∙ beyond ps len i parts.1 le
  where
    past : (a n : ℕ) → n ≤ len → (nat_le a i && nat_lt i n) ≡ false
    past a n fits = grind (arith, nat_tests)

pub whole_of : (ps : List Piece) (len : ℕ) → HaveBytes ps → ((i : ℕ) → covers ps i ≡ nat_lt i len) → is_whole ps len ≡ true
unfolding is_whole
whole_of ps len some all =
    and_both _ _ (within ps len some (λ i is. ltb-true i len (sym (all i) ∙ is))) (each (covers ps) len (λ i lt. all i ∙ below i len lt))
  where
    below : (i n : ℕ) → i < n → nat_lt i n ≡ true
    below i n lt = grind (arith, nat_tests)

pub of_whole : (ps : List Piece) (len : ℕ) → is_whole ps len ≡ true → (i : ℕ) → covers ps i ≡ nat_lt i len
unfolding is_whole
of_whole ps len whole i =
    let parts = and_parts (all_within ps len) (each_below (covers ps) len) whole in
    elim (cases_lt i len) [
      | inl less ↦ each_is (covers ps) len i parts.1 less ∙ sym (below i len less)
      | inr more ↦ beyond ps len i parts.0 more ∙ sym (above i len more)
    ]
  where
    below : (i n : ℕ) → i < n → nat_lt i n ≡ true
    below i n lt = grind (arith, nat_tests)

    above : (i n : ℕ) → n ≤ i → nat_lt i n ≡ false
    above i n lt = grind (arith, nat_tests)

same_truth : (a b : Bool) → (a ≡ true → b ≡ true) → (b ≡ true → a ≡ true) → a ≡ b
same_truth true b f g = sym (f refl)
same_truth false true f g = g refl
same_truth false false f g = refl

-- a session that isn't broken is whole where its record's cover is
pub whole_same : (r : Record) (s : Session) (len : ℕ) (b : Bool) → Holds r s → IsTrue b ↔ IsWhole (has r.cover) len → is_whole s.taken len ≡ b
whole_same r s len b holds is =
    same_truth (is_whole s.taken len) b
    (λ whole. is.1 (λ i. holds.cover i ∙ of_whole s.taken len whole i))
    (λ t. whole_of s.taken len holds.pieces (λ i. sym (holds.cover i) ∙ is.0 t i))

open_live : (s : Session) → s.phase ≡ Open → s.phase ≡ Broken → ⊥
open_live s is broken = let e = sym is ∙ broken in cc

done_live : (s : Session) → s.phase ≡ Done → s.phase ≡ Broken → ⊥
done_live s is broken = let e = sym is ∙ broken in cc

pub live_of : (r : Record) (s : Session) → StandsIn r s → r.phase ≡ Open → Holds r s
live_of r s stands is = stands.holds (open_live s (sym stands.phase ∙ is))

-- a session that is open and empty
fresh_of : (phase : Phase) (taken : List Piece) (header : Option (List ℕ)) (b : Bool) → phase ≡ Open → header ≡ None →
    (b ≡ true → taken ≡ []) → (taken ≡ [] → b ≡ true) → b ≡ is_empty phase taken header
fresh_of Open [] None b is none f g = g refl
fresh_of Open (p ∷ ps) None b is none f g = same_truth b false (λ t. absurd (taken_none p ps (f t))) (λ t. absurd (cc))
  where
    taken_none : (p : Piece) (ps : List Piece) → p ∷ ps ≡ [] → ⊥
    taken_none p ps e = cc
fresh_of Open taken (Some x) b is none f g = absurd (cc)
fresh_of Done taken header b is none f g = absurd (cc)
fresh_of Broken taken header b is none f g = absurd (cc)

covers_none : (ps : List Piece) → ps ≡ [] → (i : ℕ) → covers ps i ≡ false
covers_none [] none i = refl
covers_none (p ∷ ps) none i = absurd (cc)

pub fresh : (r : Record) (s : Session) (b : Bool) → StandsIn r s → r.phase ≡ Open → r.header ≡ None → IsTrue b ↔ IsNone (has r.cover) → b ≡ is_empty s.phase s.taken s.header
fresh r s b stands open_ none is =
    let holds = live_of r s stands open_ in
    fresh_of s.phase s.taken s.header b (sym stands.phase ∙ open_) (sym holds.header ∙ none)
    (λ t. no_cover s.taken holds.pieces (λ i. sym (holds.cover i) ∙ is.0 t i))
    (λ e. is.1 (λ i. holds.cover i ∙ covers_none s.taken e i))

stale_of : (phase : Phase) (taken : List Piece) (header : Option (List ℕ)) → ((phase ≡ Open → ⊥) ⊎ ((x : List ℕ) × (header ≡ Some x))) → false ≡ is_empty phase taken header
stale_of Open taken header (inl not) = absurd (not refl)
stale_of Open taken None (inr some) = let e = some.1 in absurd (cc)
stale_of Open [] (Some x) (inr some) = refl
stale_of Open (p ∷ ps) (Some x) (inr some) = refl
stale_of Done taken header why = refl
stale_of Broken taken header why = refl

pub stale_phase : (r : Record) (s : Session) → StandsIn r s → (r.phase ≡ Open → ⊥) → false ≡ is_empty s.phase s.taken s.header
stale_phase r s stands not = stale_of s.phase s.taken s.header (inl (λ e. not (stands.phase ∙ e)))

pub stale_header : (r : Record) (s : Session) (x : List ℕ) → StandsIn r s → r.phase ≡ Open → r.header ≡ Some x → false ≡ is_empty s.phase s.taken s.header
stale_header r s x stands open_ some = stale_of s.phase s.taken s.header (inr (x, sym (live_of r s stands open_).header ∙ some))

-- a header that a server takes
pub accepted-ok : (bytes : List ℕ) (h : Header) → length bytes ≡ 512 → decoded bytes ≡ Ok h → accepted bytes ≡ cond (is_plain h) (Some h) None
unfolding accepted
accepted-ok bytes h len is = ap (λ (b : Bool). cond b (if_plain (decoded bytes)) None) (equal_512 (length bytes) len) ∙ ap if_plain is
  where
    equal_512 : (n : ℕ) → n ≡ 512 → (n == 512) ≡ true
    equal_512 n e = grind (arith, nat_tests)

pub accepted-err : (bytes : List ℕ) (e : HeaderFault) → length bytes ≡ 512 → decoded bytes ≡ Err e → accepted bytes ≡ None
unfolding accepted
accepted-err bytes e len is = ap (λ (b : Bool). cond b (if_plain (decoded bytes)) None) (equal_512 (length bytes) len) ∙ ap if_plain is
  where
    equal_512 : (n : ℕ) → n ≡ 512 → (n == 512) ≡ true
    equal_512 n e = grind (arith, nat_tests)

pub accepted-other : (bytes : List ℕ) → (length bytes ≡ 512 → ⊥) → accepted bytes ≡ None
unfolding accepted
accepted-other bytes len = ap (λ (b : Bool). cond b (if_plain (decoded bytes)) None) (not_512 (length bytes) len)
  where
    not_512 : (n : ℕ) → (n ≡ 512 → ⊥) → (n == 512) ≡ false
    not_512 n e = grind (arith, nat_tests)

-- the end of a session
pub end_is : (slot seqno : ℕ) (s : Session) (bytes : List ℕ) (header : Header) (b : Bool) → Some header ≡ accepted bytes → is_whole s.taken header.dumplength ≡ b
    → end_row slot seqno s (Some bytes) ≡ cond b (Ends slot seqno s.number header (parity_of bytes)) (Skips skip.NotWhole)
end_is slot seqno s bytes header b is whole =
    ap (λ (found : Option Header). ending slot seqno s bytes found) (sym is)
    ∙ ap (λ (t : Bool). cond t (Ends slot seqno s.number header (parity_of bytes)) (Skips skip.NotWhole)) whole

-- a header that a server takes is that of a plain dump
pub plain_is : (h : Header) → is_plain h ≡ true → IsPlain h
plain_is h is =
    let first = and_parts (h.compression == 0) _ is in
    let second = and_parts (h.dumpkeysize == 0) _ first.1 in
    let third = and_parts (is_some (arch_of_header h.architecture h.architectureversion)) _ second.1 in
    let fourth = and_parts (h.dumplength == h.dumpextent) _ third.1 in
    record {
      compression = eqb-true h.compression 0 first.0;
      dumpkeysize = eqb-true h.dumpkeysize 0 second.0;
      dumpextent = sym (eqb-true h.dumplength h.dumpextent fourth.0);
    }
