-- What a client sends, as a server reads it.
use Rattle.std.proofs.Common.{◌≡◌, inl, inr, ℕ, ◌+◌, ◌-◌, ◌*◌, ◌<◌, ◌≤◌, ◌^◌, min, ◌==◌, nat_lt, List, [], ◌∷◌, length, take, drop, Some, refl, sym, ◌∙◌, ap, subst, arith, length-drop}
use Rattle.std.proofs.lemmas.Bool.{cond_both, eqb-true, eqb-false, ltb-true, ltb-false}
use Rattle.std.proofs.lemmas.List.{length-take, take_min}
use Rattle.fd_site.specs.Trace.{LinkEvent, Opening, Sent, Got, Silent}
use Rattle.fd_site.specs.declared.ports.Peer.{Peer}
use Rattle.fd_kdh.specs.Header.{dump_header}
use Rattle.fd_kdh.specs.declared.header.Header.{Header}
use Rattle.fd_kdh.proofs.Headers.{length-dump_header}
use Rattle.fd_netmsg.specs.Each.{Each, OneOf}
use Rattle.fd_netmsg.specs.Message.{Message, IsMessage, herald, finished, vmcore, kdh, message_of}
use Rattle.fd_netmsg.proofs.Messages.{message_of-spelled}
use Rattle.fd_netclient.specs.Datagram.{chunks, chunk_at, content}
use Rattle.fd_netclient.specs.Heard.{IsNumber, IsSaid}
use Rattle.fd_netserver.specs.Session.{Input}
use Rattle.fd_netserver.proofs.Covered.{IsPieceOf}
use Rattle.fd_netserver.proofs.Finish.{SaysOnly}
use Rattle.fd_networld.specs.Delivery.{IsSendable, IsSending}

module _ (dump : List ℕ) (h : Header) (sendable : IsSendable dump h) where
  -- the four kinds of datagrams
  abbrev of_chunk : ℕ → Message
  of_chunk s = record { kind = vmcore; seqno = s; offset = 4096 * (s - 2); aux = 0; body = chunk_at dump (4096 * (s - 2)) }

  pub cases : (s : ℕ) (P : Message → Type 0)
      → (s ≡ 1 → P (record { kind = herald; seqno = s; offset = 0; aux = 0; body = [] }))
      → ((s ≡ 1 → ⊥) → s < chunks dump + 2 → P (of_chunk s))
      → (s ≡ chunks dump + 2 → P (record { kind = kdh; seqno = s; offset = 0; aux = 0; body = dump_header h }))
      → (chunks dump + 2 ≤ s → (s ≡ chunks dump + 2 → ⊥) → P (record { kind = finished; seqno = s; offset = 0; aux = 0; body = [] }))
      → P (content dump h s)
  cases s P one chunk header end =
      cond_both (s == 1) _ _ P (λ is. one (eqb-true s 1 is))
      (λ isnt. cond_both (nat_lt s (chunks dump + 2)) _ _ P (λ below. chunk (eqb-false s 1 isnt) (ltb-true s (chunks dump + 2) below))
      (λ above. cond_both (s == chunks dump + 2) _ _ P (λ is. header (eqb-true s (chunks dump + 2) is))
      (λ isnt_header. end (ltb-false s (chunks dump + 2) above) (eqb-false s (chunks dump + 2) isnt_header))))

  length-chunk : (at : ℕ) → length (chunk_at dump at) ≡ min 4096 (length dump - at)
  length-chunk at = omega (arith, length-take 4096 (drop at dump), length-drop at dump)

  is_piece : (at : ℕ) → at ≤ length dump → IsPieceOf dump (record { at = at; bytes = chunk_at dump at })
  is_piece at inside = record {
    inside = omega (arith, length-chunk at);
    is = sym (ap (λ n. take n (drop at dump)) (length-take 4096 (drop at dump)) ∙ take_min 4096 (drop at dump));
  }

  chunk_inside : (s : ℕ) → 1 ≤ s → (s ≡ 1 → ⊥) → s < chunks dump + 2 → 4096 * (s - 2) ≤ length dump
  chunk_inside s least isnt below = omega arith

  is_message : (s : ℕ) → IsNumber (chunks dump) s → IsMessage (content dump h s)
  is_message s is =
      let most : length dump ≤ 2 ^ 42 = sendable.most in
      let fits : s < 2 ^ 32 = omega (arith, is.most) in
      cases s IsMessage
      (λ one. record { kind = record { least = omega arith; most = omega arith }; seqno = fits; offset = omega arith; aux = omega arith; body = omega arith })
      (λ isnt below. record {
        kind = record { least = omega arith; most = omega arith };
        seqno = fits;
        offset = omega (arith, chunk_inside s is.least isnt below);
        aux = omega arith;
        body =
            omega (arith, length-chunk (4096 * (s - 2)));
      })
      (λ header. record {
        kind = record { least = omega arith; most = omega arith };
        seqno = fits;
        offset = omega arith;
        aux = omega arith;
        body = omega (arith, length-dump_header h sendable.within.fits);
      })
      (λ above isnt. record { kind = record { least = omega arith; most = omega arith }; seqno = fits; offset = omega arith; aux = omega arith; body = omega arith })

  -- a datagram that was sent
  pub record IsOurs (input : Input) : Type 0 where
    pub s : ℕ
    pub number : IsNumber (chunks dump) s
    pub is_read : message_of input.bytes ≡ Some (content dump h s)

  pub ours : (input : Input) (trace : List LinkEvent) → Each (IsSaid dump h) trace → OneOf (IsSending input.bytes) trace → IsOurs input
  ours input [] said one = absurd one
  ours input (Sent port bytes ∷ trace) said one =
      elim one [
        | inl here ↦ let first = said.0 in record { s = first.0; number = first.1; is_read = ap message_of (here ∙ first.2) ∙ message_of-spelled (content dump h first.0) (is_message first.0 first.1) }
        | inr later ↦ ours input trace said.1 later
      ]
  ours input (Got port bytes ∷ trace) said one = elim one [ inl here ↦ absurd here | inr later ↦ ours input trace said.1 later ]
  ours input (Opening server ∷ trace) said one = elim one [ inl here ↦ absurd here | inr later ↦ ours input trace said.1 later ]
  ours input (Silent ∷ trace) said one = elim one [ inl here ↦ absurd here | inr later ↦ ours input trace said.1 later ]

  abbrev TakesPiece : Message → Type 0
  TakesPiece m = m.kind ≡ vmcore → IsPieceOf dump (record { at = m.offset; bytes = m.body })

  abbrev TakesHeader : Message → Type 0
  TakesHeader m = m.kind ≡ kdh → m.body ≡ dump_header h

  differs : (a b : ℕ) → a ≡ b → (a ≡ b → ⊥) → {P : Type 0} → P
  differs a b e other = absurd (other e)

  says_piece : (s : ℕ) → IsNumber (chunks dump) s → TakesPiece (content dump h s)
  says_piece s is = cases s TakesPiece (λ one e. absurd (omega arith))
      (λ isnt below e. is_piece (4096 * (s - 2)) (chunk_inside s is.least isnt below)) (λ header e. absurd (omega arith))
      (λ above isnt e. absurd (omega arith))

  says_header : (s : ℕ) → TakesHeader (content dump h s)
  says_header s = cases s TakesHeader (λ one e. absurd (omega arith)) (λ isnt below e. absurd (omega arith)) (λ header e. refl) (λ above isnt e. absurd (omega arith))

  pub says : (peer : Peer) (input : Input) (trace : List LinkEvent) → Each (IsSaid dump h) trace → OneOf (IsSending input.bytes) trace → SaysOnly dump (dump_header h) peer input
  says peer input trace said one =
      let it = ours input trace said one in
      record {
        pieces = λ m is_read. subst TakesPiece (by_some (sym it.is_read ∙ is_read)) (says_piece it.s it.number);
        headers = λ m is_read. subst TakesHeader (by_some (sym it.is_read ∙ is_read)) (says_header it.s);
      }
    where
      by_some : {a b : Message} → Some a ≡ Some b → a ≡ b
      by_some e = cc
