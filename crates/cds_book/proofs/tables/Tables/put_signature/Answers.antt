use Rattle.std.proofs.Common.{rules, refl}
use Rattle.cds_book.specs.Held.{state_held}
use Rattle.cds_book.specs.declared.tables.Tables.TheInside.{Inside}
use Rattle.cds_book.proofs.AcceptedLaws.{MakesSignature-accepted}
use Rattle.cds_book.proofs.HeldLaws.{Accepts-held}
use Rattle.cds_book.proofs.PutLaws.{took-signature, room-held, PutsSequences, PutsSequences-signed, view-PutsSequences, IsHeld-PutsSequences}
use Rattle.cds_book.proofs.tables.Tables.put_signature.Goals as goal

-- room was taken for a signature
pub unreachable-requires : goal.unreachable-requires
unreachable-requires c =
    let m = MakesSignature-accepted (state_held c.self.inside) c.args.change c.args.sequence c.requires.signs (Accepts-held c.self.inside _ c.args.change c.self.view_is c.requires.accepted) in
    let room = room-held c.self.inside _ c.self.view_is c.args.change c.take.result _ c.requires.room c.take.ensures.value m.room_is in
    search rules

-- the sequence stands where it stood
pub sign_at-requires-clause-stands : goal.sign_at-requires-clause-stands
sign_at-requires-clause-stands c = (took-signature c.self.inside _ c.self.view_is c.self.invariant c.args.change c.args.sequence c.requires.accepted c.requires.room c.requires.signs _ _ _ _ c.in-Some-Sign.ensures.value c.in-Some-Sign.field-0-is).0

-- the tables with the signature
after : goal.Joined-change → Inside
after c = record c.self.inside { sequences = c.sign_at.new.list; room = c.take.new.self }

puts : (c : goal.Joined-change) → PutsSequences c.self.inside (after c) c.args.change
unfolding after
puts c =
    let took = took-signature c.self.inside _ c.self.view_is c.self.invariant c.args.change c.args.sequence c.requires.accepted c.requires.room c.requires.signs _ _ _ _ c.in-Some-Sign.ensures.value c.in-Some-Sign.field-0-is in
    let m = MakesSignature-accepted (state_held c.self.inside) c.args.change c.args.sequence c.requires.signs (Accepts-held c.self.inside _ c.args.change c.self.view_is c.requires.accepted) in
    PutsSequences-signed c.self.inside (after c) c.args.change c.args.sequence m _ took.1 c.sign_at.ensures refl refl refl refl refl c.take.ensures.after

pub invariant_of-self : goal.invariant_of-self
unfolding after
invariant_of-self c = IsHeld-PutsSequences c.self.inside (after c) _ c.self.view_is c.args.change (puts c) c.self.invariant c.requires.accepted

pub returns : goal.returns
unfolding after
returns c = view-PutsSequences c.self.inside (after c) _ c.self.view_is c.args.change (puts c)
