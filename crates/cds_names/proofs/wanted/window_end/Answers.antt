use Rattle.std.proofs.Common.{leb, ◌-◌, rules, arith}
use Rattle.std.proofs.lemmas.Bool.{leb-true, leb-false}
use Rattle.std.proofs.lemmas.List.Sorted.{IsPartitionPoint-from_clause}
use Rattle.cds_names.proofs.Listing.{ends_parted}
use Rattle.cds_names.proofs.wanted.window_end.Goals as goal

pub returns-clause-before : goal.returns-clause-before
returns-clause-before c =
    let w = c.args.window.now in
    let point = IsPartitionPoint-from_clause (λ x. leb (x.time - w.time_us) w.width_us) _ _ c.partition_point.ensures.partitioned (ends_parted w c.args.peaks.now c.requires) (λ a r q k. search rules) in
    λ k d low below late. omega (arith, leb-true _ _ (point.0 k d low below))

pub returns-clause-from : goal.returns-clause-from
returns-clause-from c =
    let w = c.args.window.now in
    let point = IsPartitionPoint-from_clause (λ x. leb (x.time - w.time_us) w.width_us) _ _ c.partition_point.ensures.partitioned (ends_parted w c.args.peaks.now c.requires) (λ a r q k. search rules) in
    λ k d low below. leb-false _ _ (point.1 k d low below)
