use Rattle.std.proofs.Common.{◌≤◌, arith}
use Rattle.cds_names.proofs.Listing.{start_le_end, Contains-between}
use Rattle.cds_names.proofs.wanted.near_times.Goals as goal

pub split_at-requires-2 : goal.split_at-requires-2
split_at-requires-2 c =
    let first = c.window_start-first in
    let end = c.window_end-end in
    let le : first.result ≤ end.result = start_le_end c.args.window.now c.args.peaks.now first.result end.result first.ensures.bound first.ensures.before end.ensures.from in
    omega (arith, c.split_at.ensures.front_len)

pub returns : goal.returns
returns c =
    let first = c.window_start-first in
    let end = c.window_end-end in
    let le : first.result ≤ end.result = start_le_end c.args.window.now c.args.peaks.now first.result end.result first.ensures.bound first.ensures.before end.ensures.from in
    rw (c.split_at-2.ensures.back, c.split_at.ensures.front)
    (Contains-between c.args.window.now c.args.peaks.now first.result end.result le end.ensures.bound first.ensures.before first.ensures.from end.ensures.before end.ensures.from)
