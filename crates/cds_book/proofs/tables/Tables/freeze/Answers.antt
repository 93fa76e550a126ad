use Rattle.std.proofs.Common.{◌≡◌, ◌∙◌, ◌+◌, ◌∷◌, ◌++◌, [], Some, map, refl, sym, ap, ap₂}
use Rattle.std.specs.Vec.{with_item}
use Rattle.std.proofs.lemmas.List.{length-append}
use Rattle.cds_book.specs.Held.{HeldMethod, sequence_shown, state_held}
use Rattle.cds_book.specs.Tables.{texts_of, draft_of}
use Rattle.cds_sign.specs.declared.command.Change.TheVariants as change
use Rattle.cds_book.specs.declared.tables.Tables.TheInside.{Inside}
use Rattle.cds_book.proofs.HeldLaws.{raised_all, raised-each, room-freeze, PutsMethod, puts_entry, texts_of-read, draft_of-read, view-PutsMethod, IsHeld-PutsMethod, Accepts-held}
use Rattle.cds_book.proofs.KeptLaws.{few-held}
use Rattle.cds_book.proofs.AppliedLaws.{applied-freeze, IsTables-applied_freeze}
use Rattle.cds_book.proofs.tables.Tables.freeze.Goals as goal

-- the copy of the draft goes behind the versions
with_version : goal.After-drop-rises → Inside
with_version c = record c.self.inside {
  methods = record { entries = with_item c.self.inside.methods.entries c.in-Some-Freeze.at (record { name = c.index_mut.result.now.name; value = record { draft = c.index_mut.result.now.value.draft; versions = c.push.new.self } }) };
  method_versions = c.self.inside.method_versions + 1;
  sequences = c.raise.new.list;
  room = c.take.new.self;
}

-- the bases are few
pub raise-requires-clause-few : goal.raise-requires-clause-few
raise-requires-clause-few c = few-held c.self.inside c.self.invariant

-- the draft of the method, as the tables show it
shown_draft : (c : goal.After-drop-rises) → draft_of (state_held c.self.inside) c.args.name ≡ Some c.index_mut.result.now.value.draft
shown_draft c =
    let r = c.index_mut.result.now in
    let room = room-freeze c.self.inside c.args.self.now c.args.name _ _ _ _ _ _ c.self.view_is c.self.invariant c.requires.room c.in-Some-Freeze.ensures.value c.in-Some-Freeze.field-0-is in
    draft_of-read c.self.inside c.args.name c.in-Some-Freeze.at r room.0 c.index_mut.ensures.value

puts_frozen : (c : goal.After-drop-rises) → PutsMethod c.self.inside (with_version c) c.args.name c.index_mut.result.now.value.draft (texts_of (state_held c.self.inside) c.args.name ++ c.index_mut.result.now.value.draft ∷ []) 1
unfolding with_version
puts_frozen c =
    let r = c.index_mut.result.now in
    let e : HeldMethod = record { name = r.name; value = record { draft = r.value.draft; versions = c.push.new.self } } in
    let room = room-freeze c.self.inside c.args.self.now c.args.name _ _ _ _ _ _ c.self.view_is c.self.invariant c.requires.room c.in-Some-Freeze.ensures.value c.in-Some-Freeze.field-0-is in
    let texts = texts_of-read c.self.inside c.args.name c.in-Some-Freeze.at r room.0 c.index_mut.ensures.value in
    let copy : c.in-Some-Freeze.text ≡ r.value.draft = sym (ap (λ (x : HeldMethod). x.value.draft) c.index_mut.ensures.value ∙ room.1 r) in
    record {
      methods = puts_entry c.self.inside c.args.name c.in-Some-Freeze.at e r r.value.draft (texts_of (state_held c.self.inside) c.args.name ++ r.value.draft ∷ []) room.0 c.index_mut.ensures.value refl refl
          (c.in-Ok.ensures.items ∙ ap₂ (λ ts t. ts ++ t ∷ []) (sym texts) copy);
      grown = length-append (texts_of (state_held c.self.inside) c.args.name) (r.value.draft ∷ []);
      method_versions = refl;
      traces = refl;
      trace_versions = refl;
      samples = refl;
      room = c.take.ensures.after;
    }

-- the bases of those whose inputs become others are raised
rises : (c : goal.After-drop-rises) → map sequence_shown c.raise.new.list.entries.items ≡ raised_all (state_held c.self.inside) (change.Freeze c.args.name c.args.version)
rises c =
    let room = room-freeze c.self.inside c.args.self.now c.args.name _ _ _ _ _ _ c.self.view_is c.self.invariant c.requires.room c.in-Some-Freeze.ensures.value c.in-Some-Freeze.field-0-is in
    c.raise.ensures.shown ∙ raised-each c.self.inside _ c.self.view_is (change.Freeze c.args.name c.args.version) _ (c.as_slice.ensures.value ∙ room.2)

pub invariant_of-self : goal.invariant_of-self
unfolding with_version
invariant_of-self c =
    let t = state_held c.self.inside in
    let draft = c.index_mut.result.now.value.draft in
    let f = change.Freeze c.args.name c.args.version in
    IsHeld-PutsMethod c.self.inside (with_version c) _ c.self.view_is c.args.name draft (texts_of t c.args.name ++ draft ∷ []) 1 (puts_frozen c) f (raised_all t f) (rises c) (applied-freeze t c.args.name c.args.version draft (shown_draft c)) c.self.invariant
    (IsTables-applied_freeze t c.args.name c.args.version c.self.invariant.tables (Accepts-held c.self.inside _ _ c.self.view_is c.requires.accepted))

pub returns : goal.returns
unfolding with_version
returns c =
    let t = state_held c.self.inside in
    let draft = c.index_mut.result.now.value.draft in
    let f = change.Freeze c.args.name c.args.version in
    view-PutsMethod c.self.inside (with_version c) _ c.self.view_is c.args.name draft (texts_of t c.args.name ++ draft ∷ []) 1 (puts_frozen c) f (raised_all t f) (rises c) (applied-freeze t c.args.name c.args.version draft (shown_draft c))
