-- How long a server serves.
use Rattle.std.proofs.Common.{◌≡◌, inl, inr, ℕ, zero, suc, ◌+◌, ◌-◌, ◌<◌, ◌≤◌, min, Bool, true, false, List, [], ◌∷◌, ◌++◌}
use Rattle.std.proofs.Common.{length, take, Option, Some, None, refl, sym, ◌∙◌, ap, subst, arith, append_assoc, length-append}
use Rattle.std.proofs.lemmas.List.{append-nil}
use Rattle.std.proofs.lemmas.Bool.{cases_lt}
use Rattle.fd_netserver.specs.Serving.{AreFew, IsGoing, IsLingering, IsOver, IsServing, IsSpent, IsWaiting, finished_by, finished_in}
use Rattle.fd_netserver.specs.Turning.{IsPaced, IsPacedBy}
use Rattle.fd_netserver.specs.Session.{Turn}
use Rattle.fd_netserver.specs.declared.limits.Received.{Received}
use Rattle.fd_netserver.specs.declared.limits.ServeLimits.{ServeLimits}
use Rattle.fd_netserver.specs.declared.pace.Pace.{Pace}
use Rattle.fd_netserver.specs.declared.reply.Reply.{Reply}
use Rattle.fd_netserver.specs.declared.reply.Reply.TheVariants.{Opened, Ack, Finished, Ignored}

-- what is finished, turn by turn
pub finished_in-append : (hs gs : List (Option Turn)) → finished_in (hs ++ gs) ≡ finished_in hs ++ finished_in gs
finished_in-append [] gs = refl
finished_in-append (None ∷ hs) gs = finished_in-append hs gs
finished_in-append (Some t ∷ hs) gs =
    ap (λ l. finished_by t.reply ++ l) (finished_in-append hs gs) ∙ sym (append_assoc (finished_by t.reply) (finished_in hs) (finished_in gs))

one_by : (reply : Reply) → length (finished_by reply) ≤ 1
one_by (Opened slot seqno number) = omega arith
one_by (Ack slot seqno) = omega arith
one_by (Finished seqno slot number size) = omega arith
one_by (Ignored why) = omega arith

one_more : (hs : List (Option Turn)) (h : Option Turn) → length (finished_in (hs ++ h ∷ [])) ≤ length (finished_in hs) + 1
one_more hs None = omega (arith, ap length (finished_in-append hs (None ∷ [])), length-append (finished_in hs) (finished_in (None ∷ [])))
one_more hs (Some t) =
    omega (arith, ap length (finished_in-append hs (Some t ∷ [])), length-append (finished_in hs) (finished_by t.reply ++ []), length-append {A = Received} (finished_by t.reply) [], one_by t.reply)

take_front : {A : Type 0} (k : ℕ) (xs ys : List A) → k < length xs → take k (xs ++ ys) ≡ take k xs
take_front zero xs ys within = refl
take_front (suc k) [] ys within = absurd (omega arith)
take_front (suc k) (x ∷ xs) ys within = ap (λ l. x ∷ l) (take_front k xs ys (omega arith))

take_front_all : {A : Type 0} (k : ℕ) (xs ys : List A) → k ≡ length xs → take k (xs ++ ys) ≡ xs
take_front_all zero [] ys is = refl
take_front_all zero (x ∷ xs) ys is = absurd (omega arith)
take_front_all (suc k) [] ys is = absurd (omega arith)
take_front_all (suc k) (x ∷ xs) ys is = ap (λ l. x ∷ l) (take_front_all k xs ys (omega arith))

few_more : (dumps : ℕ) (hs : List (Option Turn)) (h : Option Turn) → AreFew dumps hs → length (finished_in hs) < dumps → AreFew dumps (hs ++ h ∷ [])
few_more dumps hs h few fewer k within =
    elim (cases_lt k (length hs)) [
      | inl front ↦ subst (λ (l : List (Option Turn)). length (finished_in l) < dumps) (sym (take_front k hs (h ∷ []) front)) (few k front)
      | inr last ↦ subst (λ (l : List (Option Turn)). length (finished_in l) < dumps) (sym (take_front_all k hs (h ∷ []) (omega (arith, length-append hs (h ∷ []))))) fewer
    ]

module _ (limits : ServeLimits) where
  pub paced_start : IsServing limits → IsWaiting limits limits.turns []
  paced_start serving = record { few = λ k within. absurd (omega arith); fewer = omega (arith, serving.some); turns = omega arith }

  module _ (left : ℕ) (hs : List (Option Turn)) (h : Option Turn) (more : 0 < left) where
    pub waits_on : IsWaiting limits left hs → length (finished_in (hs ++ h ∷ [])) < limits.dumps → IsWaiting limits (left - 1) (hs ++ h ∷ [])
    waits_on w fewer = record {
      few = few_more limits.dumps hs h w.few w.fewer;
      fewer = fewer;
      turns = omega (arith, length-append hs (h ∷ []), w.turns);
    }

    pub begins_to_linger : IsWaiting limits left hs → limits.dumps ≤ length (finished_in (hs ++ h ∷ [])) → IsLingering limits (min (left - 1) limits.linger) (hs ++ h ∷ [])
    begins_to_linger w all = record {
      first = hs ++ h ∷ [];
      linger = [];
      is = sym (append-nil (hs ++ h ∷ []));
      few = few_more limits.dumps hs h w.few w.fewer;
      finished = omega (arith, one_more hs h, w.fewer);
      within = omega (arith, length-append hs (h ∷ []), w.turns);
      turns = omega (arith, length-append hs (h ∷ []), w.turns);
    }

    pub lingers_on : IsLingering limits left hs → IsLingering limits (left - 1) (hs ++ h ∷ [])
    lingers_on l = record {
      first = l.first;
      linger = l.linger ++ h ∷ [];
      is = ap (λ (t : List (Option Turn)). t ++ h ∷ []) l.is ∙ append_assoc l.first l.linger (h ∷ []);
      few = l.few;
      finished = l.finished;
      within = l.within;
      turns = omega (arith, length-append l.linger (h ∷ []), l.turns);
    }

  pub over : (left : ℕ) (hs : List (Option Turn)) → left ≡ 0 → IsLingering limits left hs → IsOver limits hs
  over left hs none l = record { first = l.first; linger = l.linger; is = l.is; few = l.few; finished = l.finished; within = l.within; lingered = omega (arith, l.turns) }

  pub spent : (left : ℕ) (hs : List (Option Turn)) → left ≡ 0 → IsWaiting limits left hs → IsSpent limits hs
  spent left hs none w = record { all = omega (arith, w.turns); few = w.fewer }

  -- where no turn is left
  spent_by : (waits : Bool) (left : ℕ) (hs : List (Option Turn)) → left ≡ 0 → waits ≡ true → IsPacedBy limits waits left hs → IsSpent limits hs
  spent_by true left hs none is paced = spent left hs none paced
  spent_by false left hs none is paced = absurd (cc)

  over_by : (waits : Bool) (left : ℕ) (hs : List (Option Turn)) → left ≡ 0 → waits ≡ false → IsPacedBy limits waits left hs → IsOver limits hs
  over_by true left hs none is paced = absurd (cc)
  over_by false left hs none is paced = over left hs none paced

  pub spent_paced : (pace : Pace) (hs : List (Option Turn)) → pace.left ≡ 0 → pace.waits ≡ true → IsPaced limits pace hs → IsSpent limits hs
  spent_paced pace hs none is paced = spent_by pace.waits pace.left hs none is paced

  pub over_paced : (pace : Pace) (hs : List (Option Turn)) → pace.left ≡ 0 → pace.waits ≡ false → IsPaced limits pace hs → IsOver limits hs
  over_paced pace hs none is paced = over_by pace.waits pace.left hs none is paced

  -- where turns are left
  going_by : (waits : Bool) (left : ℕ) (hs : List (Option Turn)) → 0 < left → IsPacedBy limits waits left hs → IsGoing limits hs
  going_by true left hs more paced = record { left = left; some = more; goes = inl paced }
  going_by false left hs more paced = record { left = left; some = more; goes = inr paced }

  pub going_paced : (pace : Pace) (hs : List (Option Turn)) → 0 < pace.left → IsPaced limits pace hs → IsGoing limits hs
  going_paced pace hs more paced = going_by pace.waits pace.left hs more paced

  -- the next turn
  pub waits_next : (waits : Bool) (left : ℕ) (hs : List (Option Turn)) (h : Option Turn) (finished : ℕ) → 0 < left → waits ≡ true → IsPacedBy limits waits left hs
      → finished ≡ length (finished_in (hs ++ h ∷ [])) → finished < limits.dumps → IsWaiting limits (left - 1) (hs ++ h ∷ [])
  waits_next true left hs h finished more is paced count fewer = waits_on left hs h more paced (omega (arith, count))
  waits_next false left hs h finished more is paced count fewer = absurd (cc)

  pub lingers_first : (waits : Bool) (left : ℕ) (hs : List (Option Turn)) (h : Option Turn) (finished : ℕ) → 0 < left → waits ≡ true → IsPacedBy limits waits left hs
      → finished ≡ length (finished_in (hs ++ h ∷ [])) → limits.dumps ≤ finished → IsLingering limits (min (left - 1) limits.linger) (hs ++ h ∷ [])
  lingers_first true left hs h finished more is paced count all = begins_to_linger left hs h more paced (omega (arith, count))
  lingers_first false left hs h finished more is paced count all = absurd (cc)

  pub lingers_next : (waits : Bool) (left : ℕ) (hs : List (Option Turn)) (h : Option Turn) → 0 < left → waits ≡ false → IsPacedBy limits waits left hs → IsLingering limits (left - 1) (hs ++ h ∷ [])
  lingers_next true left hs h more is paced = absurd (cc)
  lingers_next false left hs h more is paced = lingers_on left hs h more paced
