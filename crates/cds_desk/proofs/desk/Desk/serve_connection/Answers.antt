use Rattle.std.proofs.Common.{◌≡◌, ◌∙◌, ◌<◌, false, [], length, refl, ap, inl, inr, rules, arith}
use Rattle.cds_http.specs.Items.{continue, fault}
use Rattle.cds_http.specs.Stream.{Stream, fault_in, request_in, dropped, AddsRequest}
use Rattle.cds_http.proofs.SizeLemmas.{request_some}
use Rattle.cds_respond.specs.Fixed.{fault_text}
use Rattle.cds_respond.specs.Response.{continue_text}
use Rattle.cds_desk.proofs.ServingLaws.{so_far_nothing, so_far_end, so_far_read, done_at_end, refused_at, unread_at, broken_at, broken_at_end, item_written, item_broken, more_step, continue_step, request_step, close_step, broken_step, after_read, ends_by, after_request, bounded_by, measure_less, of_some, finds_then}
use Rattle.cds_desk.proofs.desk.Desk.serve_connection.Goals as goal

pub loop-source-init : goal.loop-source-init
loop-source-init g c = record {
  so_far = rw c.in-Ok.ensures (so_far_nothing _ _);
  finds = λ name. record { more = λ was. was; exactly = λ _ _ was. was };
  opened = c.requires;
  no_fault = rw c.in-Ok.ensures refl;
  not_closed = rw c.in-Ok.ensures refl;
  piece = c.in-Ok-new_piece.ensures;
  total = rw c.in-Ok.ensures (omega arith);
  bounded = rw c.in-Ok.ensures (λ some. absurd (omega (arith, some)));
  source_kept = refl;
  sink_kept = refl;
  keeper_counts = omega arith;
}

pub returns-in-Ok-eq0-clause-ends : goal.returns-in-Ok-eq0-clause-ends
returns-in-Ok-eq0-clause-ends g c =
    let more = more_step _ _ _ _ _ _ c.in-More.ensures.after c.loop-source.invariant.so_far in
    let none : c.in-Ok-eq0.field-0 ≡ 0 = search rules in
    let last = so_far_end _ _ _ _ _ _ _ _ more c.in-Ok-eq0.ensures.read none in
    let whole = (c.in-Ok-eq0.ensures.read.ended none).1 in
    ends_by _ _ _ _ _
    (λ is. let all = c.finish.ensures.done is in rw all.1 (done_at_end _ _ _ _ _ last all.0 whole))
    (λ is. let all = c.finish.ensures.refused is in refused_at _ _ _ _ _ _ _ all.0 all.1 (λ _. whole) last (item_written _ (fault all.0) (fault_text all.0) _ refl all.2))
    (λ is. let all = c.finish.ensures.broken is in broken_at_end _ _ _ _ _ _ all.0 all.1 whole last (item_broken _ (fault all.0) (fault_text all.0) _ refl all.2))
    c.finish.ensures.either

pub loop-source-preserved-in-Ok-ask : goal.loop-source-preserved-in-Ok-ask
loop-source-preserved-in-Ok-ask g c =
    let i = c.loop-source.invariant in
    let some : 0 < c.in-Ok-ask.field-0 = search rules in
    let after = c.in-More.ensures.after in
    let more = more_step _ _ _ _ _ _ after i.so_far in
    let stands = after_read _ _ _ _ _ c.in-Ok-ask.ensures.read some (ap (λ (s : Stream). s.last) after) in
    let place = ap (λ (s : Stream). s.place) after in
    let bytes = ap (λ (s : Stream). length s.bytes) after in
    record {
      so_far = so_far_read _ _ _ _ _ _ _ _ more c.in-Ok-ask.ensures.read some;
      finds = i.finds;
      opened = i.opened;
      no_fault = stands.3;
      not_closed = stands.2 ∙ ap (λ (s : Stream). s.closed) after ∙ i.not_closed;
      piece = c.in-Ok-ask.ensures.piece ∙ i.piece;
      total = omega (arith, i.total, c.in-Ok-ask.ensures.nears, stands.0, stands.1, place, bytes);
      bounded = λ _. bounded_by _ _ _ i.total c.in-Ok-ask.ensures.bounded i.bounded;
      source_kept = c.in-Ok-ask.ensures.kept ∙ i.source_kept;
      sink_kept = i.sink_kept;
      keeper_counts = i.keeper_counts;
    }

pub returns-in-Err-clause-ends : goal.returns-in-Err-clause-ends
returns-in-Err-clause-ends g c =
    rw (c.in-Err.ensures.given_stays, c.in-Err.ensures.left_stays) (unread_at _ _ _ _ _ c.loop-source.invariant.so_far (c.in-More.ensures.item c.loop-source.invariant.no_fault))

pub loop-source-preserved-in-Ok-send_fixed : goal.loop-source-preserved-in-Ok-send_fixed
loop-source-preserved-in-Ok-send_fixed g c =
    let i = c.loop-source.invariant in
    let after = c.in-Continue.ensures.after in
    let place = ap (λ (s : Stream). s.place) after in
    let bytes = ap (λ (s : Stream). length s.bytes) after in
    record {
      so_far = continue_step _ _ _ _ _ _ _ after (c.in-Continue.ensures.item i.no_fault) (c.in-Continue.ensures.items i.no_fault) i.so_far (item_written _ continue continue_text _ refl c.in-Ok-send_fixed.ensures.whole);
      finds = i.finds;
      opened = i.opened;
      no_fault = ap (λ (s : Stream). fault_in s.last) after;
      not_closed = ap (λ (s : Stream). s.closed) after ∙ i.not_closed;
      piece = i.piece;
      total = omega (arith, i.total, place, bytes);
      bounded = λ some. i.bounded (omega (arith, some, place, bytes));
      source_kept = i.source_kept;
      sink_kept = c.in-Ok-send_fixed.ensures.kept ∙ i.sink_kept;
      keeper_counts = i.keeper_counts;
    }

pub returns-in-Err-send_fixed-clause-ends : goal.returns-in-Err-send_fixed-clause-ends
returns-in-Err-send_fixed-clause-ends g c =
    let i = c.loop-source.invariant in
    broken_at _ _ _ _ _ _ continue (c.in-Continue.ensures.item i.no_fault) i.so_far (item_broken _ continue continue_text _ refl c.in-Err-send_fixed.ensures.prefix)

pub returns-in-Err-serve-clause-ends : goal.returns-in-Err-serve-clause-ends
returns-in-Err-serve-clause-ends g c =
    let i = c.loop-source.invariant in
    broken_step _ _ _ _ _ c.loop-source.messages c.next.new.self c.in-Request.request c.in-Request.ensures.after (c.in-Request.ensures.item i.no_fault) i.so_far c.in-Err-serve.ensures.broken

pub returns-then-request-clause-ends : goal.returns-then-request-clause-ends
returns-then-request-clause-ends g c =
    let i = c.loop-source.invariant in
    let after = c.in-Request.ensures.after in
    let asked = ap (λ (s : Stream). request_in s.last) after in
    let drops = of_some _ c.in-Request.request (λ r. c.done.new.self ≡ dropped c.next.new.self r) asked c.done.ensures.after in
    let adds = of_some _ c.in-Request.request (λ r. AddsRequest c.next.new.self r c.done.new.self) asked c.done.ensures.items in
    close_step _ _ _ _ _ c.loop-source.messages c.next.new.self c.done.new.self c.in-Request.request after drops adds c.if-request.true i.so_far c.in-Ok-serve.ensures.served

pub loop-source-smaller : goal.loop-source-smaller
loop-source-smaller g c =
    let i = c.loop-source.invariant in
    let after = c.in-Request.ensures.after in
    let drops = of_some _ c.in-Request.request (λ r. c.done.new.self ≡ dropped c.next.new.self r) (ap (λ (s : Stream). request_in s.last) after) c.done.ensures.after in
    let stands = after_request c.loop-source.messages c.next.new.self c.done.new.self c.in-Request.request after drops c.in-Request.ensures.request.body_in_range in
    measure_less (g.S.Source.told c.loop-source.source).bound (length c.loop-source.messages.bytes) (length c.done.new.self.bytes) c.loop-source.messages.continued c.done.new.self.continued (omega (arith, stands.1, request_some c.loop-source.messages c.in-Request.request (c.in-Request.ensures.item i.no_fault)))

pub loop-source-preserved : goal.loop-source-preserved
loop-source-preserved g c =
    let i = c.loop-source.invariant in
    let after = c.in-Request.ensures.after in
    let asked = ap (λ (s : Stream). request_in s.last) after in
    let drops = of_some _ c.in-Request.request (λ r. c.done.new.self ≡ dropped c.next.new.self r) asked c.done.ensures.after in
    let adds = of_some _ c.in-Request.request (λ r. AddsRequest c.next.new.self r c.done.new.self) asked c.done.ensures.items in
    let fits = c.in-Request.ensures.request.body_in_range in
    let stands = after_request c.loop-source.messages c.next.new.self c.done.new.self c.in-Request.request after drops fits in
    record {
      so_far = request_step _ _ _ _ _ c.loop-source.messages c.next.new.self c.done.new.self c.in-Request.request after drops adds c.if-request.false fits (c.in-Request.ensures.item i.no_fault) i.so_far c.in-Ok-serve.ensures.served;
      finds = λ name. finds_then _ _ _ _ _ _ i.keeper_counts c.in-Ok-serve.ensures.keeper_counts (i.finds name) (c.in-Ok-serve.ensures.finds name);
      opened = c.in-Ok-serve.ensures.stays_open;
      no_fault = stands.3;
      not_closed = stands.2 ∙ c.if-request.false;
      piece = i.piece;
      total = omega (arith, i.total, stands.0, stands.1);
      bounded = λ some. i.bounded (omega (arith, some, stands.0, stands.1));
      source_kept = i.source_kept;
      sink_kept = c.in-Ok-serve.ensures.kept ∙ i.sink_kept;
      keeper_counts = omega (arith, i.keeper_counts, c.in-Ok-serve.ensures.keeper_counts);
    }

pub returns-in-Fault-clause-ends : goal.returns-in-Fault-clause-ends
returns-in-Fault-clause-ends g c =
    let i = c.loop-source.invariant in
    let f = c.in-Fault.fault in
    let last = c.in-Fault.ensures.items i.no_fault [] false in
    ends_by _ _ _ _ _
    (λ is. absurd (elim c.refuse.ensures.either [ inl e ↦ cc | inr e ↦ cc ]))
    (λ is. refused_at _ _ _ _ _ _ false f last (λ e. absurd (cc)) i.so_far (item_written _ (fault f) (fault_text f) _ refl (c.refuse.ensures.refused is)))
    (λ is. broken_at _ _ _ _ _ _ (fault f) (c.in-Fault.ensures.item i.no_fault) i.so_far (item_broken _ (fault f) (fault_text f) _ refl (c.refuse.ensures.broken is).0))
    (inr c.refuse.ensures.either)
