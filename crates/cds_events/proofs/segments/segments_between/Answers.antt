use Rattle.std.proofs.Common.{◌≡◌, ℕ, List, ◌++◌, [], ◌∷◌, get_or, arith}
use Rattle.std.specs.Prelude.{All}
use Rattle.std.proofs.lemmas.List.Elements.{All-push}
use Rattle.cds_events.specs.declared.segments.Segment.{Segment}
use Rattle.cds_events.specs.Segments.{Covers, IsOutside}
use Rattle.cds_events.proofs.SegmentLaws.{Covers-push}
use Rattle.cds_events.proofs.segments.segments_between.Goals as goal

pub loop-from-preserved : goal.loop-from-preserved
loop-from-preserved g c =
    let kept = c.loop-from.invariant in
    let told = c.segment_between.ensures in
    let segment : Segment = c.segment_between.result in
    let before : List Segment = c.loop-from.segments.items in
    let items : c.push.new.self.items ≡ before ++ segment ∷ [] = c.in_ok-push.ensures.items in
    let covers : Covers c.args.trace.now c.args.start before segment.from = rw told.from kept.covers in
    let longer : Covers c.args.trace.now c.args.start (before ++ segment ∷ []) segment.to =
    Covers-push c.args.trace.now c.args.start before segment covers told.value in
    record {
      within = c.next_line-to.ensures.before;
      covers = rw (items, ← told.to) longer;
      marks = λ k d l.
          let at : ℕ = get_or c.args.drops.now k d in
          let clear : IsOutside segment.from segment.to at =
          rw (told.from, told.to) (c.next_line-to.ensures.clear k d l) in
          let all : All (λ s. IsOutside s.from s.to at) (before ++ segment ∷ []) =
          All-push (λ s. IsOutside s.from s.to at) before segment (kept.marks k d l) clear in
          rw items all;
      least = omega (arith, kept.least, told.counted);
      most = omega (arith, kept.most, told.counted, told.from, c.next_line-to.ensures.behind);
    }
