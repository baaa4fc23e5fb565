use Rattle.std.proofs.Common.{◌++◌, ◌+◌, length, [], ◌∷◌, sym, ◌∙◌, ap, subst}
use Rattle.fd_netserver.specs.Session.{opened, Open, Broken}
use Rattle.fd_site.specs.Contents.{file_of}
use Rattle.fd_netserver.specs.Files.{free_number}
use Rattle.fd_netserver.specs.Table.{numbered}
use Rattle.fd_netserver.specs.Stands.{StandsFor, dones, done_of}
use Rattle.fd_netserver.proofs.Places.{stands_more, dones-append}
use Rattle.fd_netserver.proofs.Heralds.{begun_turn}
use Rattle.fd_netserver.proofs.server.Server.open.Goals as goal

pub returns-in-Ok-Some-clause-stands : goal.returns-in-Ok-Some-clause-stands
returns-in-Ok-Some-clause-stands g c ss bytes stands =
    subst (λ l. StandsFor l (ss ++ opened c.args.peer c.in-Ok-Some.number Open ∷ []))
    (sym (c.push_reserved.ensures.items ∙ ap (λ l. l ++ c.new.result ∷ []) (c.reserve.ensures.items ∙ c.self.view_is)))
    (stands_more c.args.self.now ss c.new.result _ stands c.new.ensures)

pub returns-in-Err-clause-turn : goal.returns-in-Err-clause-turn
returns-in-Err-clause-turn g c input =
    let adds = c.in-Err.ensures.err in
    begun_turn (λ d. numbered (free_number (file_of d)) (length c.args.self.now + 1) c.args.seqno) _ _ input (adds.0, (λ d is. adds.1 d is (length c.args.self.now + 1) c.args.seqno), adds.2)

pub returns-in-Err-clause-stands : goal.returns-in-Err-clause-stands
returns-in-Err-clause-stands g c ss bytes stands =
    subst (λ l. StandsFor l (ss ++ opened c.args.peer 0 Broken ∷ [])) (sym (c.push_reserved-in-Err.ensures.items ∙ ap (λ l. l ++ c.new-in-Err.result ∷ []) (c.reserve.ensures.items ∙ c.self.view_is)))
    (stands_more c.args.self.now ss c.new-in-Err.result _ stands c.new-in-Err.ensures)

pub returns-in-Ok-Some-clause-done : goal.returns-in-Ok-Some-clause-done
returns-in-Ok-Some-clause-done g c =
    ap dones (c.push_reserved.ensures.items ∙ ap (λ l. l ++ c.new.result ∷ []) (c.reserve.ensures.items ∙ c.self.view_is)) ∙ dones-append c.args.self.now c.new.result
    ∙ ap (λ p. dones c.args.self.now + done_of p) c.new.ensures.phase

pub returns-in-Err-clause-done : goal.returns-in-Err-clause-done
returns-in-Err-clause-done g c =
    ap dones (c.push_reserved-in-Err.ensures.items ∙ ap (λ l. l ++ c.new-in-Err.result ∷ []) (c.reserve.ensures.items ∙ c.self.view_is)) ∙ dones-append c.args.self.now c.new-in-Err.result
    ∙ ap (λ p. dones c.args.self.now + done_of p) c.new-in-Err.ensures.phase
