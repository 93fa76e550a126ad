-- Where only empty lines are left, no item is, and else the fault.
use Rattle.std.proofs.Common.{◌≡◌, ◌∙◌, ◌-◌, ap, subst, arith, length, length-drop, None, Some, cond, [], ◌∷◌, true}
use Rattle.cds_http.specs.declared.next.Fault.TheVariants.{Truncated}
use Rattle.cds_http.specs.Items.{is_only_empty_lines, fault}
use Rattle.cds_http.specs.Stream.{Stream, ItemsFrom}
use Rattle.cds_http.specs.Inside.{stream_of, bytes_held}
use Rattle.cds_http.proofs.MessageLemmas.{end_cut_answer, end_cut_items}
use Rattle.cds_http.proofs.messages.Messages.end.Goals as goal

pub returns-clause-answer : goal.returns-clause-answer
returns-clause-answer c =
    let i = c.self.inside in
    let all : c.len.result - i.start ≡ length (bytes_held i) = omega (arith, c.len.ensures, c.self.invariant.length, length-drop i.start i.held.items) in
    let asked = ap (λ (s : Stream). s.last) c.self.view_is ∙ c.requires.asked in
    subst (λ (s : Stream). Some (Truncated i.place) ≡ cond (is_only_empty_lines s.bytes) None (Some (Truncated s.place))) c.self.view_is
    (end_cut_answer (stream_of i) i.known (c.len.result - i.start) all asked c.self.invariant.told c.if-is_blank.ensures)

pub returns-clause-items : goal.returns-clause-items
returns-clause-items c =
    let i = c.self.inside in
    let all : c.len.result - i.start ≡ length (bytes_held i) = omega (arith, c.len.ensures, c.self.invariant.length, length-drop i.start i.held.items) in
    let asked = ap (λ (s : Stream). s.last) c.self.view_is ∙ c.requires.asked in
    subst (λ (s : Stream). ItemsFrom s [] true (fault (Truncated i.place) ∷ [])) c.self.view_is
    (end_cut_items (stream_of i) i.known (c.len.result - i.start) all asked c.self.invariant.told c.if-is_blank.ensures)
