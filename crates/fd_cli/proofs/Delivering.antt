-- What the servers have after a `netdump` that ended with 0.
use Rattle.std.proofs.Common.{◌≡◌, inl, inr, ℕ, ◌^◌, ◌≤◌, List, ◌++◌, length, Result, Ok, Err, refl, sym, ◌∙◌, ap, arith}
use Rattle.fd_site.specs.Contents.{Contents, Told}
use Rattle.fd_site.specs.Seen.{Seen}
use Rattle.fd_site.specs.Trace.{LinkEvent, grown}
use Rattle.fd_image.specs.Image.{MachineImage, IsValid}
use Rattle.fd_imgfile.specs.declared.fault.ImageFault.{ImageFault}
use Rattle.fd_imgfile.specs.declared.fault.ImageFault.TheVariants as image
use Rattle.fd_dump.specs.Header.{header_of}
use Rattle.fd_dump.specs.Minidump.{minidump_of}
use Rattle.fd_dump.proofs.Headers.{header_within_fields}
use Rattle.fd_dump.proofs.Limits.{pages_few, small, window_divided}
use Rattle.fd_dump.proofs.SectionPlaces.{length-file}
use Rattle.fd_dump.proofs.Sizes.{dumped_few, length-avail, length-bits, length-memory}
use Rattle.fd_netclient.specs.Trace.{Done, IsComplete, Patience}
use Rattle.fd_netserver.specs.Files.{files_after}
use Rattle.fd_netserver.specs.History.{AreServerRuns, all_turns, entries_in}
use Rattle.fd_netserver.specs.Session.{Turn}
use Rattle.fd_networld.specs.Delivery.{IsCarried, IsDelivered, IsSendable}
use Rattle.fd_site.specs.Journal.{Entry}
use Rattle.fd_site.specs.declared.ports.Peer.{Peer}
use Rattle.fd_kdh.specs.declared.header.Header.{Header}
use Rattle.fd_cli.specs.Delivered.{IsDeliveredTo, IsImageKept}
use Rattle.fd_cli.specs.Ending.{Call, answer_status}
use Rattle.fd_cli.specs.Laws.{EachNetdumpIsDelivered}
use Rattle.fd_cli.specs.Row.{Outside, Work}
use Rattle.fd_cli.specs.Rows.Dump.{IsGiven, OnImage}
use Rattle.fd_cli.specs.Rows.Netdump.{Sends, netdump_row, sent_to}
use Rattle.fd_cli.specs.declared.refusal.Refusal.TheVariants.{BadImage, NoFile, NotImage}
use Rattle.fd_words.specs.declared.source.Source.{Source}
use Rattle.fd_cli.proofs.Cuts.{answered_zero}
use Rattle.fd_cli.proofs.Dumps.{image_of}
use Rattle.fd_cli.proofs.Outcomes.{refused_not_zero}

-- that a client that is done was served
abbrev pub DeliveryLaw : Type 0
DeliveryLaw =
    (dump : List ℕ) (h : Header) (patience : Patience) (trace : List LinkEvent) (peer : Peer) (c : Contents) (before : List Entry) (runs : List (List Turn))
    → IsSendable dump h → IsComplete dump h patience trace Done → AreServerRuns (files_after c.base_file before) runs
    → c.journal ≡ before ++ entries_in (all_turns runs) → IsCarried peer trace (all_turns runs) → IsDelivered dump h peer c before (all_turns runs)

-- the minidump of an image can be sent
few_bytes : (m : MachineImage) → IsValid m → length (minidump_of m) ≤ 2 ^ 42
few_bytes m valid =
    let limits = small m valid in
    let window = window_divided m valid in
    omega (arith, length-file m valid, length-memory m valid, dumped_few m valid, pages_few m valid, length-avail m.avail, length-bits m)

sendable : (m : MachineImage) → IsValid m → IsSendable (minidump_of m) (header_of m 512)
sendable m valid = record { within = header_within_fields m 512 valid (omega arith); dumplength = refl; most = few_bytes m valid }

-- a dump whose datagrams were all acknowledged
kept_of : (law : DeliveryLaw) (source : Source) (found : Seen) (m : MachineImage) (trace : List LinkEvent) (patience : Patience) → IsGiven source found (Ok m)
    → IsComplete (minidump_of m) (header_of m 512) patience trace Done → Told found.told (λ c. IsImageKept c source trace)
kept_of law source found m trace patience given whole c told =
    let is_image = image_of found source m given c told in
    record {
      image = m;
      names = is_image.names;
      kept = λ peer d before runs are journal carried.
          law (minidump_of m) (header_of m 512) patience trace peer d before runs (sendable m is_image.valid) whole are journal carried;
    }

-- the answer that a number wasn't acknowledged has another status
not_one : (status : ℕ) → status ≡ 1 → status ≡ 0 → ⊥
not_one status one zero = omega (arith, one, zero)

by_sending : (law : DeliveryLaw) (source : Source) (server : ℕ) (found : Seen) (w : Work) (m : MachineImage) → IsGiven source found (Ok m) → Sends server m w
    → answer_status w.answer ≡ 0 → (trace : List LinkEvent) × (w.added ≡ sent_to server trace) × Told found.told (λ c. IsImageKept c source trace)
by_sending law source server found w m given (inl sent) zero =
    (sent.trace, ap (λ x. x.added) sent.is, kept_of law source found m sent.trace _ given sent.whole)
by_sending law source server found w m given (inr unanswered) zero = absurd (not_one _ (ap (λ x. answer_status x.answer) unanswered.is) zero)

by_given : (law : DeliveryLaw) (source : Source) (server : ℕ) (found : Seen) (w : Work) (given : Result MachineImage ImageFault) → IsGiven source found given
    → OnImage (Sends server) given w → answer_status w.answer ≡ 0
    → (trace : List LinkEvent) × (w.added ≡ sent_to server trace) × Told found.told (λ c. IsImageKept c source trace)
by_given law source server found w (Ok m) given does zero = by_sending law source server found w m given does zero
by_given law source server found w (Err image.NoFile) given does zero = absurd (refused_not_zero NoFile w does zero)
by_given law source server found w (Err (image.NotImage place)) given does zero = absurd (refused_not_zero (NotImage place) w does zero)
by_given law source server found w (Err (image.BadImage bad)) given does zero = absurd (refused_not_zero (BadImage bad) w does zero)
by_given law source server found w (Err image.SiteFault) given does zero = absurd does
by_given law source server found w (Err image.NoMemory) given does zero = absurd does

pub each_netdump_is_delivered : (law : DeliveryLaw) → EachNetdumpIsDelivered
each_netdump_is_delivered law source server found w does zero = by_given law source server found w does.0 does.1 does.2 zero

-- the same of a call
pub delivered_of_call : (law : EachNetdumpIsDelivered) (old new : Outside) (source : Source) (server status : ℕ) → Call (netdump_row source server) old new status
    → status ≡ 0 → IsDeliveredTo source server old.reach.site old.reach.link.told new.reach.link.told
delivered_of_call law old new source server status call zero =
    let done = answered_zero (netdump_row source server) old new status call.ends zero in
    let kept = law source server old.reach.site done.work done.does (sym done.status_is ∙ zero) in
    (kept.0, done.grew.link ∙ ap (λ a. grown old.reach.link.told a.trace) kept.1, kept.2)
