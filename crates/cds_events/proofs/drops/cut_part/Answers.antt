use Rattle.std.proofs.Common.{◌≡◌, ◌∙◌, ℕ, ◌+◌, List, [], ◌∷◌, take, get_or, arith, ap, sym}
use Rattle.std.proofs.lemmas.List.Sums.{fold_more}
use Rattle.std.proofs.lemmas.List.Elements.{All-cons, All-nil}
use Rattle.cds_base.specs.declared.cluster.Part.{Part}
use Rattle.cds_events.specs.declared.segments.Segment.{Segment}
use Rattle.cds_events.specs.Drops.{cut_all, cut_each}
use Rattle.cds_events.specs.Segments.{cut_each_by, IsMark}
use Rattle.cds_events.proofs.SegmentLaws.{mark-low, mark-high}
use Rattle.cds_events.proofs.CutLaws.{IsMarked, cut_each_by-signal, cut_each_by-marked}
use Rattle.cds_events.proofs.drops.cut_part.Goals as goal

pub loop-at-init : goal.loop-at-init
loop-at-init g c =
    let part : Part = c.args.part in
    let segments : List Segment = c.in_ok-segments.segments.items in
    let covers = c.in_ok-segments.ensures.covers in
    let marked : IsMarked segments part.start part.end part = record {
      low = omega arith;
      order = c.requires.order;
      high = omega arith;
      from = mark-low c.args.trace.now part.start segments part.end part.start (omega arith) covers;
      to = mark-high c.args.trace.now part.start segments part.end part.end (omega arith) covers;
    } in
    let P : Part → Type 0 = IsMarked segments part.start part.end in
    record {
      value = c.in_ok-pieces.ensures.items;
      marked = rw c.in_ok-pieces.ensures.items (All-cons P part [] marked (All-nil P));
    }

pub loop-at-preserved : goal.loop-at-preserved
loop-at-preserved g c =
    let part : Part = c.args.part in
    let segments : List Segment = c.in_ok-segments.segments.items in
    let drops : List ℕ = c.args.drops.now in
    let i : ℕ = c.loop-at.at-index in
    let at : ℕ = get_or drops i 0 in
    let before : List Part = c.loop-at.pieces.items in
    let kept = c.loop-at.invariant in
    let covers = c.in_ok-segments.ensures.covers in
    let mark : IsMark segments at = c.in_ok-segments.ensures.marks i 0 c.loop-at-test.true in
    let made : c.in_ok-pieces-2.pieces.items ≡ cut_each_by segments before at =
    rw (c.deref.ensures.value, c.deref-in-loop-at.ensures.value) at c.in_ok-pieces-2.ensures in
    let same : cut_each_by segments before at ≡ cut_each c.args.trace.now before at =
    cut_each_by-signal c.args.trace.now segments part.start part.end before at covers kept.marked mark in
    let step : cut_all c.args.trace.now (part ∷ []) (take (i + 1) drops) ≡ cut_each c.args.trace.now
    (cut_all c.args.trace.now (part ∷ []) (take i drops)) at =
    fold_more (cut_each c.args.trace.now) (part ∷ []) drops i 0 c.loop-at-test.true in
    record {
      value = made ∙ same ∙ ap (λ pieces. cut_each c.args.trace.now pieces at) kept.value ∙ sym step;
      marked = rw made (cut_each_by-marked segments part.start part.end before at mark kept.marked);
    }
