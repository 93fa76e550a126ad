use Rattle.std.proofs.Common.{◌∙◌, map, refl, sym, subst, ap}
use Rattle.cds_base.specs.Named.{IsPlaceOf}
use Rattle.cds_base.proofs.NamedLaws.{map-placed}
use Rattle.cds_book.specs.Held.{HeldSequence, held_name, sequence_shown}
use Rattle.cds_book.proofs.RaiseLaws.{set_at, signed_at, signed_gap, placed_with}
use Rattle.cds_book.proofs.SequenceLaws.{sequence_name}
use Rattle.cds_book.proofs.raise.put_under.Goals as goal

pub returns-in-At : goal.returns-in-At
returns-in-At c =
    let hs = c.args.list.now.entries.items in
    let r = c.index_mut.result.now in
    let stands = subst (IsPlaceOf held_name hs c.args.name) c.in-At.is c.place.ensures in
    let e : HeldSequence = record { name = r.name; value = record { sequence = c.args.made; signed = r.value.signed } } in
    set_at hs c.args.name c.in-At.at r e stands c.index_mut.ensures.value refl ∙ placed_with hs c.args.name c.args.made _ _ (signed_at hs c.args.name c.in-At.at r stands c.index_mut.ensures.value)

pub returns-in-Gap : goal.returns-in-Gap
returns-in-Gap c =
    let hs = c.args.list.now.entries.items in
    let gap = subst (IsPlaceOf held_name hs c.args.name) c.in-Gap.is c.place.ensures in
    let e : HeldSequence = record { name = c.args.name; value = record { sequence = c.args.made; signed = c.new-signed.result } } in
    ap (map sequence_shown) c.put.ensures.value ∙ map-placed sequence_shown sequence_name hs e
    ∙ placed_with hs c.args.name c.args.made _ _ (c.new-signed.ensures.items ∙ sym (signed_gap hs c.args.name c.in-Gap.at gap))
