use Rattle.std.proofs.Common.{◌≡◌, ◌↔◌, ◌+◌, length, replicate, false, None, Contains, ap, ap₂, subst, subst₂, sym, ◌∙◌, rules, arith}
use Rattle.std.proofs.lemmas.List.{length-replicate}
use Rattle.cds_names.specs.Naming.{Pair, IsWanted}
use Rattle.cds_names.specs.Giving.{peaks_with, taken_with}
use Rattle.cds_names.proofs.GivingSteps.{Given, Given-none, Given-more, IsUnblocked-counted, no_pair, pair_at, pair_within, written_back, IsNumbered-naming}
use Rattle.cds_names.proofs.OneNaming.{same_naming}
use Rattle.cds_names.proofs.Wants.{same_default}
use Rattle.cds_names.proofs.names.name_peaks.Goals as goal

pub loop-pair-init : goal.loop-pair-init
loop-pair-init c =
    let windows = c.args.windows.now in
    let times = c.args.times.now in
    let nameless : c.in_ok-peaks.peaks.items ≡ replicate (length windows) None = c.in_ok-peaks.ensures.items_if_clones_equal (λ y h. search rules) in
    let untaken : c.in_ok-taken.taken.items ≡ replicate (length times) false = c.in_ok-taken.ensures.items_if_clones_equal (λ y h. h) in
    record {
      one_each = ap length nameless ∙ length-replicate (length windows) None;
      one_mark_each = ap length untaken ∙ length-replicate (length times) false;
      given = subst₂ (Given c.deref-pair-items.result.now 0) (sym nameless) (sym untaken) (Given-none c.deref-pair-items.result.now (length windows) (length times));
    }

pub give-requires-clause-component : goal.give-requires-clause-component
give-requires-clause-component c =
    let pairs = c.deref-pair-items.result.now in
    let listed = subst (λ ps. (q : Pair) → Contains ps q ↔ IsWanted c.args.windows.now c.args.times.now q) (sym c.deref-pair-items.ensures.value) c.in_ok-pairs.ensures.pairs in
    let within = pair_within c.args.windows.now c.args.times.now pairs c.loop-pair.pair-index listed c.loop-pair-test.true in
    let n = c.loop-pair.pair-index in
    let is : c.pair-item.result ≡ pair_at pairs n = c.pair-item.is ∙ same_default pairs n c.pair-item.result no_pair c.loop-pair-test.true in
    omega (arith, within.0, c.loop-pair.invariant.one_each, ap length c.deref_mut.ensures.value, ap (λ (p : Pair). p.component) is)

pub give-requires-clause-peak : goal.give-requires-clause-peak
give-requires-clause-peak c =
    let pairs = c.deref-pair-items.result.now in
    let listed = subst (λ ps. (q : Pair) → Contains ps q ↔ IsWanted c.args.windows.now c.args.times.now q) (sym c.deref-pair-items.ensures.value) c.in_ok-pairs.ensures.pairs in
    let within = pair_within c.args.windows.now c.args.times.now pairs c.loop-pair.pair-index listed c.loop-pair-test.true in
    let n = c.loop-pair.pair-index in
    let is : c.pair-item.result ≡ pair_at pairs n = c.pair-item.is ∙ same_default pairs n c.pair-item.result no_pair c.loop-pair-test.true in
    omega (arith, within.1, c.loop-pair.invariant.one_mark_each, ap length c.deref_mut-in-loop-pair.ensures.value, ap (λ (p : Pair). p.peak) is)

pub loop-pair-preserved : goal.loop-pair-preserved
loop-pair-preserved c =
    let pairs = c.deref-pair-items.result.now in
    let n = c.loop-pair.pair-index in
    let peaks = c.loop-pair.peaks.items in
    let taken = c.loop-pair.taken.items in
    let listed = subst (λ ps. (q : Pair) → Contains ps q ↔ IsWanted c.args.windows.now c.args.times.now q) (sym c.deref-pair-items.ensures.value) c.in_ok-pairs.ensures.pairs in
    let within = pair_within c.args.windows.now c.args.times.now pairs n listed c.loop-pair-test.true in
    let is : c.pair-item.result ≡ pair_at pairs n = c.pair-item.is ∙ same_default pairs n c.pair-item.result no_pair c.loop-pair-test.true in
    let peaks_back = written_back c.loop-pair.peaks.len (length c.give.new.peaks) c.give.new.peaks peaks (c.give.auto.peaks ∙ c.deref_mut.ensures.len) in
    let taken_back = written_back c.loop-pair.taken.len (length c.give.new.taken) c.give.new.taken taken (c.give.auto.taken ∙ c.deref_mut-in-loop-pair.ensures.len) in
    let peaks_is = peaks_back ∙ c.give.ensures.peaks ∙ ap₂ (λ x y. peaks_with x y c.pair-item.result) c.deref_mut.ensures.value c.deref_mut-in-loop-pair.ensures.value ∙ ap (peaks_with peaks taken) is in
    let taken_is = taken_back ∙ c.give.ensures.taken ∙ ap₂ (λ x y. taken_with x y c.pair-item.result) c.deref_mut.ensures.value c.deref_mut-in-loop-pair.ensures.value ∙ ap (taken_with peaks taken) is in
    record {
      one_each = ap length peaks_back ∙ c.give.auto.peaks ∙ ap length c.deref_mut.ensures.value ∙ c.loop-pair.invariant.one_each;
      one_mark_each = ap length taken_back ∙ c.give.auto.taken ∙ ap length c.deref_mut-in-loop-pair.ensures.value ∙ c.loop-pair.invariant.one_mark_each;
      given = subst₂ (Given pairs (n + 1)) (sym peaks_is) (sym taken_is)
          (Given-more pairs n peaks taken c.loop-pair.invariant.given (omega (arith, within.0, c.loop-pair.invariant.one_each)) (omega (arith, within.1, c.loop-pair.invariant.one_mark_each)));
    }

pub returns-clause-unblocked : goal.returns-clause-unblocked
returns-clause-unblocked c =
    IsUnblocked-counted c.args.windows.now c.args.times.now _ c.deref-pair-items.result.now c.loop-pair.pair-index c.loop-pair.peaks.items c.loop-pair.taken.items c.deref-pair-items.ensures.value (omega arith) c.in_ok-pairs.ensures.pairs c.in_ok-pairs.ensures.in_order c.loop-pair.invariant.one_each c.loop-pair.invariant.given

pub returns-clause-only_one : goal.returns-clause-only_one
returns-clause-only_one c other is =
    same_naming c.args.windows.now c.args.times.now other c.loop-pair.peaks.items is
    (IsUnblocked-counted c.args.windows.now c.args.times.now _ c.deref-pair-items.result.now c.loop-pair.pair-index c.loop-pair.peaks.items c.loop-pair.taken.items c.deref-pair-items.ensures.value (omega arith) c.in_ok-pairs.ensures.pairs c.in_ok-pairs.ensures.in_order c.loop-pair.invariant.one_each c.loop-pair.invariant.given)

pub invariant_of-result : goal.invariant_of-result
invariant_of-result c =
    let unblocked = IsUnblocked-counted c.args.windows.now c.args.times.now _ c.deref-pair-items.result.now c.loop-pair.pair-index c.loop-pair.peaks.items c.loop-pair.taken.items c.deref-pair-items.ensures.value (omega arith) c.in_ok-pairs.ensures.pairs c.in_ok-pairs.ensures.in_order c.loop-pair.invariant.one_each c.loop-pair.invariant.given in
    IsNumbered-naming c.args.windows.now c.args.times.now c.loop-pair.peaks.items c.requires.few_windows c.requires.few_times unblocked.is_naming
