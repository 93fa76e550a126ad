use Rattle.std.proofs.Common.{ltb, ◌-◌, rules, arith}
use Rattle.std.proofs.lemmas.Bool.{ltb-true, ltb-false}
use Rattle.std.proofs.lemmas.List.Sorted.{IsPartitionPoint-from_clause}
use Rattle.cds_names.proofs.Listing.{starts_parted}
use Rattle.cds_names.proofs.wanted.window_start.Goals as goal

pub returns-clause-before : goal.returns-clause-before
returns-clause-before c =
    let w = c.args.window.now in
    let point = IsPartitionPoint-from_clause (λ x. ltb w.width_us (w.time_us - x.time)) _ _ c.partition_point.ensures.partitioned (starts_parted w c.args.peaks.now c.requires) (λ a r q k. search rules) in
    λ k d low below. ltb-true _ _ (point.0 k d low below)

pub returns-clause-from : goal.returns-clause-from
returns-clause-from c =
    let w = c.args.window.now in
    let point = IsPartitionPoint-from_clause (λ x. ltb w.width_us (w.time_us - x.time)) _ _ c.partition_point.ensures.partitioned (starts_parted w c.args.peaks.now c.requires) (λ a r q k. search rules) in
    λ k d low below early. omega (arith, ltb-false _ _ (point.1 k d low below))
