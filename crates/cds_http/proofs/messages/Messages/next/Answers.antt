-- What the answer of the bytes says of the room, the ranges and the items.
use Rattle.cds_http.proofs.MessageLemmas.{first_item, next_room, next_in, next_adds}
use Rattle.cds_http.proofs.messages.Messages.next.Goals as goal

pub returns-clause-room : goal.returns-clause-room
returns-clause-room c = next_room c.args.self.now c.decide.new.self c.decide.result c.decide.ensures.answer c.decide.ensures.after

pub returns-clause-request : goal.returns-clause-request
returns-clause-request c = next_in c.args.self.now c.decide.new.self c.decide.result c.decide.ensures.answer c.decide.ensures.after

pub returns-clause-items : goal.returns-clause-items
returns-clause-items c = λ none. next_adds c.args.self.now c.decide.new.self c.decide.result c.decide.ensures.answer c.decide.ensures.after

pub returns-clause-item : goal.returns-clause-item
returns-clause-item c = λ none. first_item c.args.self.now c.decide.result c.decide.ensures.answer
