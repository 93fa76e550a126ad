use Rattle.std.proofs.Common.{◌+◌, ◌≤◌, get_or, arith, false, refl, ap}
use Rattle.std.proofs.lemmas.List.Elements.{All-get_or}
use Rattle.cds_sign.specs.declared.limits.TheConstants.{MOST_BASIS}
use Rattle.cds_book.specs.Held.{HeldSequence, sequence_shown}
use Rattle.cds_book.specs.Tables.{NamedSequence}
use Rattle.cds_book.proofs.RaiseLaws.{read_old, raise_step}
use Rattle.cds_book.proofs.raise.raise.Goals as goal

pub overflow_add-index_mut : goal.overflow_add-index_mut
overflow_add-index_mut c =
    let r = c.index_mut.result.now in
    let old = c.args.list.now.entries.items in
    let inv = c.loop-place.invariant in
    let same = ap (λ (e : NamedSequence). e.sequence.basis) (read_old c.args.rises.now c.loop-place.list.entries.items old c.loop-place.place false false r inv.shown c.loop-place-test.true c.requires.many c.index_mut.ensures.value) in
    let most = All-get_or (λ (e : HeldSequence). e.value.sequence.basis ≤ MOST_BASIS) old c.loop-place.place r (omega (arith, c.loop-place-test.true, c.requires.many)) c.requires.few in
    omega (arith, same, most, c.one_if.ensures.few)

pub loop-place-preserved : goal.loop-place-preserved
loop-place-preserved c =
    let r = c.index_mut.result.now in
    let inv = c.loop-place.invariant in
    record {
      shown = raise_step c.args.rises.now c.loop-place.list.entries.items c.args.list.now.entries.items c.loop-place.place (get_or c.args.rises.now c.loop-place.place false) false r inv.shown c.loop-place-test.true c.requires.many c.index_mut.ensures.value _ refl
          (ap (λ n. record (sequence_shown r) { sequence = record r.value.sequence { basis = r.value.sequence.basis + n } }) c.one_if.ensures.value);
      len = inv.len;
      capacity = inv.capacity;
    }
