-- What was known of the bytes stays known with further bytes.
use Rattle.std.proofs.Common.{ap, arith, length, drop, length-drop}
use Rattle.cds_http.specs.Stream.{Stream}
use Rattle.cds_http.specs.Inside.{bytes_held}
use Rattle.cds_http.proofs.MessageLemmas.{Knows-stays, told_kept}
use Rattle.cds_http.proofs.messages.Messages.feed.Goals as goal

pub invariant_of-self : goal.invariant_of-self
invariant_of-self c =
    let i = c.self.inside in
    let fed = c.take_in-self-inside in
    record {
      start = fed.ensures.start;
      length = omega (arith, fed.new.held.ok.0);
      total = fed.ensures.total;
      capacity = fed.ensures.capacity;
      counted = omega (arith, fed.ensures.len, ap (λ (s : Stream). s.place) c.self.view_is, ap (λ (s : Stream). length s.bytes) c.self.view_is, length-drop i.start i.held.items);
      known = rw fed.ensures.bytes (Knows-stays i.place (bytes_held i) c.args.piece.now i.known c.self.invariant.known);
      told = rw c.kept_answer-self-inside.ensures (told_kept i.place (drop fed.result fed.new.held.items) i.continued i.known i.last);
    }
