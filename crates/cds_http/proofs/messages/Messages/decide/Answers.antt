-- The bytes held are looked at, and their front answers.
use Rattle.std.proofs.Common.{◌≡◌, ◌-◌, ◌∙◌, ℕ, List, Bool, ◌||◌, Some, ap, sym, subst, length, take, drop}
use Rattle.std.proofs.lemmas.List.{take_rest}
use Rattle.cds_http.specs.Stream.{Stream, Decides}
use Rattle.cds_http.specs.Known.{KnowsAll, AnswersFront}
use Rattle.cds_http.specs.Inside.{bytes_held, stream_of, WasTold}
use Rattle.cds_http.proofs.MessageLemmas.{answer_decides, told_answer, Knows-from_all}
use Rattle.cds_http.proofs.messages.Messages.decide.Goals as goal
use Rattle.cds_http.proofs.messages.Messages.decide.Goals.{After-is_continue}

held : (c : After-is_continue) → take (length c.deref.result.now - c.self.inside.start) (drop c.self.inside.start c.deref.result.now) ≡ bytes_held c.self.inside
held c = take_rest c.deref.result.now c.self.inside.start ∙ ap (drop c.self.inside.start) c.deref.ensures.value

knows : (c : After-is_continue) → KnowsAll c.self.inside.place (bytes_held c.self.inside) c.look-self-inside.result
knows c = subst (λ (b : List ℕ). KnowsAll c.self.inside.place b c.look-self-inside.result) (held c) c.look-self-inside.ensures

decides : (c : After-is_continue) → Decides (stream_of c.self.inside) c.answer-next.result
decides c =
    answer_decides (stream_of c.self.inside) c.look-self-inside.result c.answer-next.result (knows c)
    (subst (λ (b : List ℕ). AnswersFront c.look-self-inside.result (length b) c.self.inside.continued c.answer-next.result) (held c) c.answer-next.ensures)

pub invariant_of-self : goal.invariant_of-self
invariant_of-self c =
    let s = (goal.at.invariant_of-self c).After-is_continue in
    let i = c.self.inside in
    let kept = c.self.invariant in
    record {
      start = kept.start;
      length = kept.length;
      total = kept.total;
      capacity = kept.capacity;
      counted = kept.counted;
      known = Knows-from_all i.place (bytes_held i) c.look-self-inside.result (knows s);
      told = subst (λ (b : Bool). WasTold i.place (bytes_held i) (i.continued || b) c.look-self-inside.result (Some c.answer-next.result)) (sym c.is_continue.ensures)
          (told_answer (stream_of i) c.look-self-inside.result c.answer-next.result (knows s) (decides s));
    }

pub returns-clause-answer : goal.returns-clause-answer
returns-clause-answer c = subst (λ (s : Stream). Decides s c.answer-next.result) c.self.view_is (decides (goal.at.returns-clause-answer c).After-is_continue)
