-- The request that is dropped is the next item.
use Rattle.std.proofs.Common.{◌∙◌, ap, sym, subst}
use Rattle.std.specs.Prelude.{IfSome}
use Rattle.cds_http.specs.Stream.{Stream, request_in, dropped, AddsRequest}
use Rattle.cds_http.specs.Inside.{stream_of}
use Rattle.cds_http.proofs.MessageLemmas.{done_adds}
use Rattle.cds_http.proofs.messages.Messages.done.Goals as goal

pub returns-clause-items : goal.returns-clause-items
returns-clause-items c =
    let r = c.unwrap-request.result in
    let after = c.drop_front.ensures ∙ ap (λ (s : Stream). dropped s r) (sym c.self.view_is) in
    subst (λ (s : Stream). IfSome (request_in s.last) (λ q. AddsRequest s q c.drop_front.new.self)) c.self.view_is
    (done_adds (stream_of c.self.inside) c.drop_front.new.self c.self.inside.known r c.self.invariant.told (sym c.request_in.ensures ∙ c.unwrap-request.ensures) after)
