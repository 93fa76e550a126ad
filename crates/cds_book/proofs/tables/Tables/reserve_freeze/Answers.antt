use Rattle.std.proofs.Common.{◌∙◌, refl, ap, Some, arith}
use Rattle.std.specs.Vec.{with_item}
use Rattle.cds_book.specs.Held.{HeldMethod}
use Rattle.cds_book.specs.Tables.{TablesValue}
use Rattle.cds_book.specs.declared.room.Taken.TheVariants.{Freeze}
use Rattle.cds_book.specs.declared.tables.Tables.TheInside.{Inside}
use Rattle.cds_book.proofs.LookLaws.{rising_methods}
use Rattle.cds_book.proofs.RoomLaws.{no_room, no_gap, state-HoldsSame, IsHeld-HoldsSame, same_methods, room_for_text, HoldsSame-methods}
use Rattle.cds_book.proofs.tables.Tables.reserve_freeze.Goals as goal

-- the names rise
pub place-requires : goal.place-requires
place-requires c = rising_methods c.self.inside c.self.invariant

-- the method has a draft
pub unreachable-requires : goal.unreachable-requires
unreachable-requires c = no_gap c.self.inside _ c.args.name _ c.self.view_is c.in_default.ensures c.requires.method

-- memory was wanting
pub invariant_of-self-in_err-reserve : goal.invariant_of-self-in_err-reserve
invariant_of-self-in_err-reserve c =
    let r = c.index_mut.result.now in
    let e : HeldMethod = record { name = r.name; value = record { draft = r.value.draft; versions = c.reserve.new.self } } in
    let b : Inside = record c.self.inside { methods = record { entries = with_item c.self.inside.methods.entries c.in-At.at e } } in
    let same = HoldsSame-methods c.self.inside b (same_methods _ c.in-At.at r e c.index_mut.ensures.value refl refl c.reserve.ensures.items) refl refl refl refl refl in
    IsHeld-HoldsSame c.self.inside b same c.self.invariant (no_room c.self.inside b _ c.self.view_is c.requires.none refl)

pub returns-in_err-reserve-clause-state : goal.returns-in_err-reserve-clause-state
returns-in_err-reserve-clause-state c =
    let r = c.index_mut.result.now in
    let e : HeldMethod = record { name = r.name; value = record { draft = r.value.draft; versions = c.reserve.new.self } } in
    let b : Inside = record c.self.inside { methods = record { entries = with_item c.self.inside.methods.entries c.in-At.at e } } in
    let same = HoldsSame-methods c.self.inside b (same_methods _ c.in-At.at r e c.index_mut.ensures.value refl refl c.reserve.ensures.items) refl refl refl refl refl in
    state-HoldsSame c.self.inside b same ∙ ap (λ (v : TablesValue). v.state) c.self.view_is

-- the versions have room for one more, and the text is the draft
pub invariant_of-self-2 : goal.invariant_of-self-2
invariant_of-self-2 c =
    let r = c.index_mut.result.now in
    let e : HeldMethod = record { name = r.name; value = record { draft = r.value.draft; versions = c.reserve.new.self } } in
    let room = Some (Freeze c.args.name c.in-At.at c.from_vec.result c.args.rises) in
    let b : Inside = record c.self.inside { methods = record { entries = with_item c.self.inside.methods.entries c.in-At.at e }; room = room } in
    let same = HoldsSame-methods c.self.inside b (same_methods _ c.in-At.at r e c.index_mut.ensures.value refl refl c.reserve.ensures.items) refl refl refl refl refl in
    let copied = c.from_vec.ensures ∙ c.in_ok-text.ensures.items ∙ c.as_slice.ensures in
    IsHeld-HoldsSame c.self.inside b same c.self.invariant
    (room_for_text _ c.in-At.at r e c.index_mut.ensures.value refl refl c.reserve.ensures.items c.args.name c.from_vec.result c.in-At.ensures copied (omega (arith, c.in_ok-reserve.ensures.ok)))

pub returns-clause-state : goal.returns-clause-state
returns-clause-state c =
    let r = c.index_mut.result.now in
    let e : HeldMethod = record { name = r.name; value = record { draft = r.value.draft; versions = c.reserve.new.self } } in
    let room = Some (Freeze c.args.name c.in-At.at c.from_vec.result c.args.rises) in
    let b : Inside = record c.self.inside { methods = record { entries = with_item c.self.inside.methods.entries c.in-At.at e }; room = room } in
    let same = HoldsSame-methods c.self.inside b (same_methods _ c.in-At.at r e c.index_mut.ensures.value refl refl c.reserve.ensures.items) refl refl refl refl refl in
    state-HoldsSame c.self.inside b same ∙ ap (λ (v : TablesValue). v.state) c.self.view_is
