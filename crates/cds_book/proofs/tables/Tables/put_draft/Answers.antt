use Rattle.std.proofs.Common.{refl, sym, arith}
use Rattle.std.specs.Vec.{with_item}
use Rattle.cds_book.specs.Held.{HeldMethod, state_held}
use Rattle.cds_book.specs.Tables.{texts_of}
use Rattle.cds_sign.specs.declared.command.Change.TheVariants as change
use Rattle.cds_book.specs.declared.tables.Tables.TheInside.{Inside}
use Rattle.cds_book.proofs.HeldLaws.{room-draft, room-method, PutsMethod, PutsMethod-new, puts_entry, texts_of-read, view-PutsMethod, IsHeld-PutsMethod, Accepts-held}
use Rattle.cds_book.proofs.AppliedLaws.{applied-draft, IsTables-applied_draft}
use Rattle.cds_book.proofs.tables.Tables.put_draft.Goals as goal

-- the method is there: its draft is replaced
with_draft : goal.Joined-take-3 → Inside
with_draft c = record c.self.inside {
  methods = record { entries = with_item c.self.inside.methods.entries c.in-Some-Draft.at (record { name = c.index_mut.result.now.name; value = record { draft = c.args.text; versions = c.index_mut.result.now.value.versions } }) };
  room = c.take.new.self;
}

puts_there : (c : goal.Joined-take-3) → PutsMethod c.self.inside (with_draft c) c.args.name c.args.text (texts_of (state_held c.self.inside) c.args.name) 0
unfolding with_draft
puts_there c =
    let r = c.index_mut.result.now in
    let e : HeldMethod = record { name = r.name; value = record { draft = c.args.text; versions = r.value.versions } } in
    let at = room-draft c.self.inside c.args.self.now c.args.name _ _ _ c.self.view_is c.self.invariant c.requires.room c.in-Some-Draft.ensures.value c.in-Some-Draft.field-0-is in
    let texts = texts_of-read c.self.inside c.args.name c.in-Some-Draft.at r at c.index_mut.ensures.value in
    record {
      methods = puts_entry c.self.inside c.args.name c.in-Some-Draft.at e r c.args.text (texts_of (state_held c.self.inside) c.args.name) at c.index_mut.ensures.value refl refl (sym texts);
      grown = omega arith;
      method_versions = omega arith;
      traces = refl;
      trace_versions = refl;
      samples = refl;
      room = c.take.ensures.after;
    }

pub invariant_of-self : goal.invariant_of-self
unfolding with_draft
invariant_of-self c =
    let t = state_held c.self.inside in
    IsHeld-PutsMethod c.self.inside (with_draft c) _ c.self.view_is c.args.name c.args.text (texts_of t c.args.name) 0 (puts_there c) (change.Draft c.args.name c.args.text) t.sequences refl (applied-draft t c.args.name c.args.text) c.self.invariant
    (IsTables-applied_draft t c.args.name c.args.text c.self.invariant.tables (Accepts-held c.self.inside _ _ c.self.view_is c.requires.accepted))

pub returns-in-Some-Draft : goal.returns-in-Some-Draft
unfolding with_draft
returns-in-Some-Draft c =
    let t = state_held c.self.inside in
    view-PutsMethod c.self.inside (with_draft c) _ c.self.view_is c.args.name c.args.text (texts_of t c.args.name) 0 (puts_there c) (change.Draft c.args.name c.args.text) t.sequences refl (applied-draft t c.args.name c.args.text)

-- the method is new: it has no versions
pub invariant_of-self-in-Some-Method : goal.invariant_of-self-in-Some-Method
invariant_of-self-in-Some-Method c =
    let a = c.self.inside in
    let b : Inside = record a { methods = c.put.new.self; room = c.take.new.self } in
    let t = state_held a in
    let gap = room-method a c.args.self.now c.args.name _ _ _ c.self.view_is c.self.invariant c.requires.room c.in-Some-Method.ensures.value c.in-Some-Method.field-0-is in
    let puts = PutsMethod-new a b c.args.name _ (record { draft = c.args.text; versions = c.new.result }) c.args.text gap refl c.new.ensures.items c.put.ensures.value refl refl refl refl c.take.ensures.after in
    IsHeld-PutsMethod a b _ c.self.view_is c.args.name c.args.text (texts_of t c.args.name) 0 puts (change.Draft c.args.name c.args.text) t.sequences refl (applied-draft t c.args.name c.args.text) c.self.invariant
    (IsTables-applied_draft t c.args.name c.args.text c.self.invariant.tables (Accepts-held a _ _ c.self.view_is c.requires.accepted))

pub returns-in-Some-Method : goal.returns-in-Some-Method
returns-in-Some-Method c =
    let a = c.self.inside in
    let b : Inside = record a { methods = c.put.new.self; room = c.take.new.self } in
    let t = state_held a in
    let gap = room-method a c.args.self.now c.args.name _ _ _ c.self.view_is c.self.invariant c.requires.room c.in-Some-Method.ensures.value c.in-Some-Method.field-0-is in
    let puts = PutsMethod-new a b c.args.name _ (record { draft = c.args.text; versions = c.new.result }) c.args.text gap refl c.new.ensures.items c.put.ensures.value refl refl refl refl c.take.ensures.after in
    view-PutsMethod a b _ c.self.view_is c.args.name c.args.text (texts_of t c.args.name) 0 puts (change.Draft c.args.name c.args.text) t.sequences refl (applied-draft t c.args.name c.args.text)
