use Rattle.std.proofs.Common.{◌∙◌, refl, ap, Some, arith}
use Rattle.std.specs.Vec.{with_item}
use Rattle.cds_book.specs.Held.{HeldSequence}
use Rattle.cds_book.specs.Tables.{TablesValue}
use Rattle.cds_book.specs.declared.room.Taken.TheVariants.{Sign}
use Rattle.cds_book.specs.declared.tables.Tables.TheInside.{Inside}
use Rattle.cds_book.proofs.LookLaws.{rising_sequences}
use Rattle.cds_book.proofs.RoomLaws.{no_room, no_sequence_gap, state-HoldsSame, IsHeld-HoldsSame, same_sequences, room_for_signature, HoldsSame-sequences}
use Rattle.cds_book.proofs.tables.Tables.reserve_signed.Goals as goal

-- the names rise
pub place-requires : goal.place-requires
place-requires c = rising_sequences c.self.inside c.self.invariant

-- the sequence is there
pub unreachable-requires : goal.unreachable-requires
unreachable-requires c = no_sequence_gap c.self.inside _ c.args.sequence _ c.self.view_is c.in_default.ensures c.requires.there

-- memory was wanting
pub invariant_of-self : goal.invariant_of-self
invariant_of-self c =
    let r = c.index_mut.result.now in
    let e : HeldSequence = record { name = r.name; value = record { sequence = r.value.sequence; signed = c.reserve.new.self } } in
    let b : Inside = record c.self.inside { sequences = record { entries = with_item c.self.inside.sequences.entries c.in-At.at e } } in
    let same = HoldsSame-sequences c.self.inside b (same_sequences _ c.in-At.at r e c.index_mut.ensures.value refl refl c.reserve.ensures.items) refl refl refl refl refl in
    IsHeld-HoldsSame c.self.inside b same c.self.invariant (no_room c.self.inside b _ c.self.view_is c.requires.none refl)

pub returns-in_err-reserve-clause-state : goal.returns-in_err-reserve-clause-state
returns-in_err-reserve-clause-state c =
    let r = c.index_mut.result.now in
    let e : HeldSequence = record { name = r.name; value = record { sequence = r.value.sequence; signed = c.reserve.new.self } } in
    let b : Inside = record c.self.inside { sequences = record { entries = with_item c.self.inside.sequences.entries c.in-At.at e } } in
    let same = HoldsSame-sequences c.self.inside b (same_sequences _ c.in-At.at r e c.index_mut.ensures.value refl refl c.reserve.ensures.items) refl refl refl refl refl in
    state-HoldsSame c.self.inside b same ∙ ap (λ (v : TablesValue). v.state) c.self.view_is

-- the signatures have room for one more
pub invariant_of-self-2 : goal.invariant_of-self-2
invariant_of-self-2 c =
    let r = c.index_mut.result.now in
    let e : HeldSequence = record { name = r.name; value = record { sequence = r.value.sequence; signed = c.reserve.new.self } } in
    let room = Some (Sign c.args.sequence c.in-At.at c.args.signed) in
    let b : Inside = record c.self.inside { sequences = record { entries = with_item c.self.inside.sequences.entries c.in-At.at e }; room = room } in
    let same = HoldsSame-sequences c.self.inside b (same_sequences _ c.in-At.at r e c.index_mut.ensures.value refl refl c.reserve.ensures.items) refl refl refl refl refl in
    IsHeld-HoldsSame c.self.inside b same c.self.invariant
    (room_for_signature _ c.in-At.at r e c.index_mut.ensures.value refl refl c.reserve.ensures.items c.args.sequence c.in-At.ensures (omega (arith, c.in_ok-reserve.ensures.ok)))

pub returns-clause-state : goal.returns-clause-state
returns-clause-state c =
    let r = c.index_mut.result.now in
    let e : HeldSequence = record { name = r.name; value = record { sequence = r.value.sequence; signed = c.reserve.new.self } } in
    let room = Some (Sign c.args.sequence c.in-At.at c.args.signed) in
    let b : Inside = record c.self.inside { sequences = record { entries = with_item c.self.inside.sequences.entries c.in-At.at e }; room = room } in
    let same = HoldsSame-sequences c.self.inside b (same_sequences _ c.in-At.at r e c.index_mut.ensures.value refl refl c.reserve.ensures.items) refl refl refl refl refl in
    state-HoldsSame c.self.inside b same ∙ ap (λ (v : TablesValue). v.state) c.self.view_is
