use Rattle.std.proofs.Common.{◌≡◌, ◌+◌, ◌<◌, ◌∷◌, ◌++◌, [], take, get_or, length, sym, ap, arith, rules}
use Rattle.std.proofs.lemmas.List.{take_more, length-take-le}
use Rattle.std.proofs.lemmas.List.Sums.{sum_by_more, sum_by_more_le}
use Rattle.std.proofs.lemmas.List.Elements.{All-append}
use Rattle.cds_rules.specs.Fields.{fields_of}
use Rattle.cds_integrate.specs.Peaks.{Found, IsPeak, component_of}
use Rattle.cds_integrate.specs.Row.{IsSound}
use Rattle.cds_integrate.proofs.RowLaws.{one-all}
use Rattle.cds_integrate.proofs.FoundLaws.{width_of}
use Rattle.cds_integrate.proofs.PeakLaws.{peaks-on}
use Rattle.cds_integrate.proofs.peaks.peaks_of.Goals as goal

pub returns-in_err-push-clause-most : goal.returns-in_err-push-clause-most
returns-in_err-push-clause-most g c =
    omega (
      arith,
      c.loop-place.invariant.most,
      c.peak_of.ensures.most,
      sum_by_more_le width_of c.args.found.now c.loop-place.place c.index-found-place.result c.loop-place-test.true,
      ap width_of c.index-found-place.is,
    )

pub loop-place-preserved : goal.loop-place-preserved
loop-place-preserved g c =
    let signal = c.args.trace.now in
    let fields = fields_of c.args.method.now in
    let naming = c.args.names.now in
    let found = c.args.found.now in
    let place = c.loop-place.place in
    let kept = c.loop-place.invariant in
    let item : Found = c.index-found-place.result in
    let below : place < length found = c.loop-place-test.true in
    let pushed : c.push.new.self.items ≡ c.loop-place.peaks.items ++ c.peak_of.result ∷ [] = search rules in
    let component : c.component_of-component.result ≡ component_of naming (place + 1) = search rules in
    let at : 1 + length (take place found) ≡ place + 1 =
    omega (arith, length-take-le place found (omega (arith, below))) in
    let is : IsPeak signal fields (component_of naming (1 + length (take place found)))
    (get_or found place item) c.peak_of.result =
    rw (at, sym component, sym c.index-found-place.is) c.peak_of.ensures.value in
    record {
      peaks = rw (pushed, take_more found place item below) (peaks-on signal fields naming 1
          (take place found) c.loop-place.peaks.items (get_or found place item) c.peak_of.result kept.peaks is);
      sound = rw pushed (All-append IsSound c.loop-place.peaks.items (c.peak_of.result ∷ []) kept.sound
          (one-all IsSound c.peak_of.result c.peak_of.ensures.sound));
      least = omega (arith, kept.least, c.peak_of.ensures.least);
      most = omega (
        arith,
        kept.most,
        c.peak_of.ensures.most,
        sum_by_more width_of found place item below,
        ap width_of c.index-found-place.is,
      );
    }
