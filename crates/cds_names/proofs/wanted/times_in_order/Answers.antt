use Rattle.std.proofs.Common.{◌≡◌, ◌++◌, ◌∷◌, [], length, map, Contains, sym, subst, ap, ◌∙◌, rules, arith}
use Rattle.std.specs.List.{range_with_len}
use Rattle.std.proofs.lemmas.List.FromFn.{map-range_with_len_more}
use Rattle.std.proofs.lemmas.List.Sorted.{Contains-permutation, IsPermutation-sym, IsNonDecreasingBy-from_sort_by_key}
use Rattle.cds_names.proofs.Listing.{time_at, Contains-listed}
use Rattle.cds_names.proofs.wanted.times_in_order.Goals as goal

pub loop-peak-preserved : goal.loop-peak-preserved
loop-peak-preserved c =
    let i = c.loop-peak.peak in
    c.in_ok-push.ensures.items ∙ ap (λ l. l ++ time_at c.args.times.now i ∷ []) c.loop-peak.invariant ∙ sym (map-range_with_len_more (time_at c.args.times.now) 0 i i (omega arith))

pub returns-clause-each : goal.returns-clause-each
returns-clause-each c x =
    let times = c.args.times.now in
    let old = c.loop-peak.peaks.items in
    let new = c.sort_unstable_by_key.new.self.items in
    let all : c.loop-peak.peak ≡ length times = omega arith in
    let is : old ≡ map (time_at times) (range_with_len 0 (length times)) = c.loop-peak.invariant ∙ ap (λ n. map (time_at times) (range_with_len 0 n)) all in
    let listed = Contains-listed times x in (
      λ found. listed.0 (subst (λ l. Contains l x) is (Contains-permutation new old x (IsPermutation-sym old new c.sort_unstable_by_key.ensures.permutation) found)),
      λ known. Contains-permutation old new x c.sort_unstable_by_key.ensures.permutation (subst (λ l. Contains l x) (sym is) (listed.1 known)),
    )

pub returns-clause-in_order : goal.returns-clause-in_order
returns-clause-in_order c = IsNonDecreasingBy-from_sort_by_key (λ x. x.time) _ c.sort_unstable_by_key.ensures.sorted (λ a r q k. search rules)
