use Rattle.std.proofs.Common.{rules, ◌∙◌, Bool, List, length, map, refl, ap}
use Rattle.cds_book.specs.Held.{sequence_shown, state_held}
use Rattle.cds_book.specs.Raising.{raised_by}
use Rattle.cds_book.proofs.AcceptedLaws.{MakesSequence-accepted}
use Rattle.cds_book.proofs.HeldLaws.{Accepts-held}
use Rattle.cds_book.specs.declared.tables.Tables.TheInside.{Inside}
use Rattle.cds_book.proofs.KeptLaws.{few-held}
use Rattle.cds_book.proofs.PutLaws.{TookSequence, took-sequence, many-rises, room-held, rising-raised, sequences-put, PutsSequences, PutsSequences-made, view-PutsSequences, IsHeld-PutsSequences}
use Rattle.cds_book.proofs.tables.Tables.put_made.Goals as goal

-- room was taken for a sequence
pub unreachable-requires : goal.unreachable-requires
unreachable-requires c =
    let m = MakesSequence-accepted (state_held c.self.inside) c.self.invariant.tables c.args.change c.args.name c.requires.makes (Accepts-held c.self.inside _ c.args.change c.self.view_is c.requires.accepted) in
    let room = room-held c.self.inside _ c.self.view_is c.args.change c.take.result _ c.requires.room c.take.ensures.value m.room_is in
    search rules

took : (c : goal.After-as_slice) → TookSequence c.self.inside c.args.change c.args.name c.in-Some-Sequence.made c.in-Some-Sequence.rises.items
took c = took-sequence c.self.inside _ c.self.view_is c.self.invariant c.args.change c.args.name c.requires.accepted c.requires.room c.requires.makes _ _ _ _ c.in-Some-Sequence.ensures.value c.in-Some-Sequence.field-0-is

pub raise-requires-clause-many : goal.raise-requires-clause-many
raise-requires-clause-many c = ap length c.as_slice.ensures.value ∙ many-rises c.self.inside c.args.change _ (took c).rises_are

pub raise-requires-clause-few : goal.raise-requires-clause-few
raise-requires-clause-few c = few-held c.self.inside c.self.invariant

pub put_under-requires-clause-rising : goal.put_under-requires-clause-rising
put_under-requires-clause-rising c = rising-raised c.self.inside c.self.invariant _ _ c.raise.ensures.shown

-- the tables with the sequence
after : goal.Joined-change → Inside
after c = record c.self.inside { sequences = c.put_under.new.list; room = c.take.new.self }

puts : (c : goal.Joined-change) → PutsSequences c.self.inside (after c) c.args.change
unfolding after
puts c =
    let room = took-sequence c.self.inside _ c.self.view_is c.self.invariant c.args.change c.args.name c.requires.accepted c.requires.room c.requires.makes _ _ _ _ c.in-Some-Sequence.ensures.value c.in-Some-Sequence.field-0-is in
    let shown = c.raise.ensures.shown ∙ ap (λ (bs : List Bool). raised_by bs (map sequence_shown c.self.inside.sequences.entries.items)) c.as_slice.ensures.value in
    PutsSequences-made c.self.inside (after c) c.args.change c.args.name room.makes
    (sequences-put c.self.inside c.args.change c.args.name _ _ room c.raise.new.list.entries.items _ shown c.put_under.ensures) refl refl refl refl refl c.take.ensures.after

pub invariant_of-self : goal.invariant_of-self
unfolding after
invariant_of-self c = IsHeld-PutsSequences c.self.inside (after c) _ c.self.view_is c.args.change (puts c) c.self.invariant c.requires.accepted

pub returns : goal.returns
unfolding after
returns c = view-PutsSequences c.self.inside (after c) _ c.self.view_is c.args.change (puts c)
