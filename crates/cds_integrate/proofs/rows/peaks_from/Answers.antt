use Rattle.std.proofs.Common.{◌≡◌, List, map, length, ◌∙◌, ap, arith}
use Rattle.std.specs.List.{flat_map}
use Rattle.cds_base.specs.declared.cluster.Cluster.{Cluster}
use Rattle.cds_base.specs.declared.event.Event.{Event}
use Rattle.cds_base.specs.declared.peak.RawPeak.{RawPeak}
use Rattle.cds_events.specs.Arrangement.{clusters_under}
use Rattle.cds_rules.specs.Fields.{fields_of, row_events}
use Rattle.cds_integrate.specs.Row.{found_in, found_of, windows_of}
use Rattle.cds_integrate.specs.Peaks.{Found, time_of}
use Rattle.cds_integrate.proofs.FoundLaws.{found-count}
use Rattle.cds_integrate.proofs.PeakLaws.{peaks-count}
use Rattle.cds_integrate.proofs.rows.peaks_from.Goals as goal

pub returns-clause-value : goal.returns-clause-value
returns-clause-value g c =
    let signal = c.args.trace.now in
    let fields = fields_of c.args.method.now in
    let manual : List Event = c.args.manual.now in
    let f : Cluster → List Found = found_in signal fields (row_events fields manual) in
    let arranged : List RawPeak → List Cluster = clusters_under signal fields manual in
    let clusters = c.as_slice-clusters.ensures ∙ (c.in_ok-arranged.ensures.value ∙ ap arranged c.requires.raw) in
    let found : c.as_slice-found.result.now ≡ found_of signal fields manual =
    c.as_slice-found.ensures.value ∙ (c.in_ok-parts.ensures.value ∙ ap (flat_map f) clusters) in
    let windows : c.as_slice-windows.result.now ≡ windows_of fields =
    c.as_slice-windows.ensures.value ∙ c.in_ok-sought.ensures.value in
    let times : c.as_slice-times.result.now ≡ map (time_of signal fields) (found_of signal fields manual) =
    c.as_slice-times.ensures.value ∙ (c.in_ok-taken.ensures.value ∙ ap (map (time_of signal fields)) found) in
    record {
      naming = c.in_ok-names.names;
      unblocked = rw (windows, times) at c.in_ok-names.ensures.unblocked;
      peaks_are = rw found at c.in_ok-peaks.ensures.value;
    }

pub name_peaks-requires-clause-few_times : goal.name_peaks-requires-clause-few_times
name_peaks-requires-clause-few_times g c =
    let many = found-count c.args.trace.now (fields_of c.args.method.now) c.in_ok-parts.parts.items
    c.in_ok-parts.ensures.kept in
    let size : length c.as_slice-found.result.now ≡ length c.in_ok-parts.parts.items =
    ap length c.as_slice-found.ensures.value in
    let times : length c.as_slice-times.result.now ≡ length c.as_slice-found.result.now =
    c.as_slice-times.ensures.len ∙ c.in_ok-taken.ensures.len in
    omega (arith, many, size, times, c.in_ok-parts.ensures.wide, c.len-samples.ensures.trace.few)

pub peaks_of-requires-clause-few : goal.peaks_of-requires-clause-few
peaks_of-requires-clause-few g c =
    let many = found-count c.args.trace.now (fields_of c.args.method.now) c.in_ok-parts.parts.items
    c.in_ok-parts.ensures.kept in
    let size : length c.as_slice-found.result.now ≡ length c.in_ok-parts.parts.items =
    ap length c.as_slice-found.ensures.value in
    omega (arith, many, size, c.in_ok-parts.ensures.wide, c.len-samples.ensures.trace.few)

pub returns-clause-few : goal.returns-clause-few
returns-clause-few g c =
    let many = found-count c.args.trace.now (fields_of c.args.method.now) c.in_ok-parts.parts.items
    c.in_ok-parts.ensures.kept in
    let size : length c.as_slice-found.result.now ≡ length c.in_ok-parts.parts.items =
    ap length c.as_slice-found.ensures.value in
    let same = peaks-count c.args.trace.now (fields_of c.args.method.now) c.in_ok-names.names 1
    c.as_slice-found.result.now c.in_ok-peaks.peaks.items c.in_ok-peaks.ensures.value in
    omega (arith, many, size, same, c.in_ok-parts.ensures.wide)

pub returns-in_err-taken-clause-most : goal.returns-in_err-taken-clause-most
returns-in_err-taken-clause-most g c =
    let many = found-count c.args.trace.now (fields_of c.args.method.now) c.in_ok-parts.parts.items
    c.in_ok-parts.ensures.kept in
    let same : c.as_slice-found.result.now ≡ c.in_ok-parts.parts.items = c.as_slice-found.ensures.value in
    omega (
      arith,
      many,
      rw same at c.times_of.ensures.most,
      c.in_ok-parts.ensures.wide,
      c.found_of.ensures.most,
      c.arrange.ensures.most,
    )

pub returns-in_err-names-clause-most : goal.returns-in_err-names-clause-most
returns-in_err-names-clause-most g c =
    let many = found-count c.args.trace.now (fields_of c.args.method.now) c.in_ok-parts.parts.items
    c.in_ok-parts.ensures.kept in
    let same : c.as_slice-found.result.now ≡ c.in_ok-parts.parts.items = c.as_slice-found.ensures.value in
    omega (
      arith,
      many,
      rw same at c.times_of.ensures.most,
      c.in_ok-parts.ensures.wide,
      c.found_of.ensures.most,
      c.arrange.ensures.most,
    )

pub returns-in_err-peaks-clause-most : goal.returns-in_err-peaks-clause-most
returns-in_err-peaks-clause-most g c =
    let many = found-count c.args.trace.now (fields_of c.args.method.now) c.in_ok-parts.parts.items
    c.in_ok-parts.ensures.kept in
    let same : c.as_slice-found.result.now ≡ c.in_ok-parts.parts.items = c.as_slice-found.ensures.value in
    omega (
      arith,
      many,
      rw same at c.times_of.ensures.most,
      c.in_ok-parts.ensures.wide,
      c.found_of.ensures.most,
      c.arrange.ensures.most,
      rw same at c.peaks_of.ensures.most,
    )

pub returns-clause-most : goal.returns-clause-most
returns-clause-most g c =
    let many = found-count c.args.trace.now (fields_of c.args.method.now) c.in_ok-parts.parts.items
    c.in_ok-parts.ensures.kept in
    let same : c.as_slice-found.result.now ≡ c.in_ok-parts.parts.items = c.as_slice-found.ensures.value in
    omega (
      arith,
      many,
      rw same at c.times_of.ensures.most,
      c.in_ok-parts.ensures.wide,
      c.found_of.ensures.most,
      c.arrange.ensures.most,
      rw same at c.peaks_of.ensures.most,
    )
