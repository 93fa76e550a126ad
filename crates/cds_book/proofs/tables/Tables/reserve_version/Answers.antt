use Rattle.std.proofs.Common.{◌∙◌, refl, ap, sym, subst, Some, arith}
use Rattle.std.specs.Vec.{with_item}
use Rattle.cds_base.specs.Named.{IsPlaceOf}
use Rattle.cds_book.specs.Held.{HeldTraces, held_name, IsTraceAt}
use Rattle.cds_book.specs.Tables.{TablesValue}
use Rattle.cds_book.specs.declared.room.Taken.TheVariants.{Version}
use Rattle.cds_book.specs.declared.tables.Tables.TheInside.{Inside}
use Rattle.cds_book.proofs.LookLaws.{rising_traces}
use Rattle.cds_book.proofs.RoomLaws.{no_room, state-HoldsSame, IsHeld-HoldsSame, HoldsSame-read, room_for_version}
use Rattle.cds_book.proofs.tables.Tables.reserve_version.Goals as goal

-- the names rise
pub reserve-requires : goal.reserve-requires
reserve-requires c = rising_traces c.self.inside c.self.invariant

-- memory was wanting
pub invariant_of-self-in_err-reserve-in-At : goal.invariant_of-self-in_err-reserve-in-At
invariant_of-self-in_err-reserve-in-At c =
    let r = c.index_mut.result.now in
    let e : HeldTraces = record { name = r.name; value = c.reserve-in-At.new.self } in
    let b : Inside = record c.self.inside { traces = record { entries = with_item c.reserve.new.self.entries c.in-At.at e } } in
    let same = HoldsSame-read c.self.inside b _ c.in-At.at r e c.reserve.ensures.stay c.index_mut.ensures.value refl c.reserve-in-At.ensures.items refl refl refl refl refl refl in
    IsHeld-HoldsSame c.self.inside b same c.self.invariant (no_room c.self.inside b _ c.self.view_is c.requires refl)

pub returns-in_err-reserve-in-At-clause-state : goal.returns-in_err-reserve-in-At-clause-state
returns-in_err-reserve-in-At-clause-state c =
    let r = c.index_mut.result.now in
    let e : HeldTraces = record { name = r.name; value = c.reserve-in-At.new.self } in
    let b : Inside = record c.self.inside { traces = record { entries = with_item c.reserve.new.self.entries c.in-At.at e } } in
    let same = HoldsSame-read c.self.inside b _ c.in-At.at r e c.reserve.ensures.stay c.index_mut.ensures.value refl c.reserve-in-At.ensures.items refl refl refl refl refl refl in
    state-HoldsSame c.self.inside b same ∙ ap (λ (v : TablesValue). v.state) c.self.view_is

-- the versions have room for one more
pub invariant_of-self-in-At : goal.invariant_of-self-in-At
invariant_of-self-in-At c =
    let r = c.index_mut.result.now in
    let e : HeldTraces = record { name = r.name; value = c.reserve-in-At.new.self } in
    let room = Some (Version c.args.name c.in-At.at c.args.rises) in
    let b : Inside = record c.self.inside { traces = record { entries = with_item c.reserve.new.self.entries c.in-At.at e }; room = room } in
    let same = HoldsSame-read c.self.inside b _ c.in-At.at r e c.reserve.ensures.stay c.index_mut.ensures.value refl c.reserve-in-At.ensures.items refl refl refl refl refl refl in
    let stands = subst (λ es. IsTraceAt es c.args.name c.in-At.at) (sym c.reserve.ensures.stay) (subst (IsPlaceOf held_name c.self.inside.traces.entries.items c.args.name) c.in-At.is c.in_ok-at.ensures.place) in
    IsHeld-HoldsSame c.self.inside b same c.self.invariant
    (room_for_version _ c.in-At.at r e c.index_mut.ensures.value refl c.reserve-in-At.ensures.items c.args.name stands (omega (arith, c.in_ok-reserve-in-At.ensures.ok)))

pub returns-in_ok-reserve-in-At-clause-state : goal.returns-in_ok-reserve-in-At-clause-state
returns-in_ok-reserve-in-At-clause-state c =
    let r = c.index_mut.result.now in
    let e : HeldTraces = record { name = r.name; value = c.reserve-in-At.new.self } in
    let room = Some (Version c.args.name c.in-At.at c.args.rises) in
    let b : Inside = record c.self.inside { traces = record { entries = with_item c.reserve.new.self.entries c.in-At.at e }; room = room } in
    let same = HoldsSame-read c.self.inside b _ c.in-At.at r e c.reserve.ensures.stay c.index_mut.ensures.value refl c.reserve-in-At.ensures.items refl refl refl refl refl refl in
    state-HoldsSame c.self.inside b same ∙ ap (λ (v : TablesValue). v.state) c.self.view_is
