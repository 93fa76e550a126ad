use Rattle.std.proofs.Common.{◌≡◌, ◌↔◌, Contains, slice_get, Some, sym, subst, arith}
use Rattle.std.proofs.lemmas.List.Sorted.{Contains-permutation, IsPermutation-sym}
use Rattle.std.proofs.lemmas.Option.{slice_get-get_or}
use Rattle.cds_names.specs.Wanting.{PeakTime}
use Rattle.cds_names.proofs.Wants.{wanted_more, below_all, IsInOrder-sorted}
use Rattle.cds_names.proofs.wanted.wanted_pairs.Goals as goal

pub loop-component-preserved : goal.loop-component-preserved
loop-component-preserved c =
    let i = c.loop-component.component in
    let times = c.args.times.now in
    let listed = subst (λ peaks. (x : PeakTime) → Contains peaks x ↔ (slice_get times x.peak ≡ Some x.time)) (sym c.deref.ensures.value) c.in_ok-peaks.ensures.each in
    wanted_more c.args.windows.now times c.deref.result.now c.near_times-near.result.now _ i c.loop-component.pairs.items c.push_pairs.new.pairs.items (slice_get-get_or c.args.windows.now i _ (omega arith)) listed c.near_times-near.ensures c.loop-component.invariant c.in_ok-push_pairs.ensures

pub returns-clause-pairs : goal.returns-clause-pairs
returns-clause-pairs c q =
    let old = c.loop-component.pairs.items in
    let new = c.sort_unstable.new.self.items in
    let known = c.loop-component.invariant q in (
      λ found. (known.0 (Contains-permutation new old q (IsPermutation-sym old new c.sort_unstable.ensures.permutation) found)).0,
      λ wanted. Contains-permutation old new q c.sort_unstable.ensures.permutation (known.1 (wanted, below_all c.args.windows.now c.args.times.now q c.loop-component.component wanted (omega arith))),
    )

pub returns-clause-in_order : goal.returns-clause-in_order
returns-clause-in_order c = IsInOrder-sorted _ c.sort_unstable.ensures.sorted
