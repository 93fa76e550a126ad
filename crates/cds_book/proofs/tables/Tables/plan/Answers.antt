use Rattle.std.proofs.Common.{subst}
use Rattle.cds_book.specs.Plan.{planned, IsCommand}
use Rattle.cds_sign.specs.declared.command.Command.TheVariants as command
use Rattle.cds_book.proofs.PlanLaws.{AnswersAccepted-planned}
use Rattle.cds_book.proofs.ContentLaws.{PlansContent-planned}
use Rattle.cds_book.proofs.tables.Tables.plan.Goals as goal

pub returns-in-Trace-clause-accepted : goal.returns-in-Trace-clause-accepted
unfolding planned
returns-in-Trace-clause-accepted c = AnswersAccepted-planned _ (command.Trace c.in-Trace.name c.in-Trace.trace) _ (subst IsCommand c.in-Trace.is c.requires) c.plan_trace.ensures

pub returns-in-Trace-clause-content : goal.returns-in-Trace-clause-content
unfolding planned
returns-in-Trace-clause-content c = PlansContent-planned _ c.rules.ensures (command.Trace c.in-Trace.name c.in-Trace.trace) _ (subst IsCommand c.in-Trace.is c.requires) c.plan_trace.ensures

pub returns-in-Draft-clause-accepted : goal.returns-in-Draft-clause-accepted
unfolding planned
returns-in-Draft-clause-accepted c = AnswersAccepted-planned _ (command.Draft c.in-Draft.name c.in-Draft.text) _ (subst IsCommand c.in-Draft.is c.requires) c.plan_draft.ensures

pub returns-in-Draft-clause-content : goal.returns-in-Draft-clause-content
unfolding planned
returns-in-Draft-clause-content c = PlansContent-planned _ c.rules.ensures (command.Draft c.in-Draft.name c.in-Draft.text) _ (subst IsCommand c.in-Draft.is c.requires) c.plan_draft.ensures

pub returns-in-Freeze-clause-accepted : goal.returns-in-Freeze-clause-accepted
unfolding planned
returns-in-Freeze-clause-accepted c = AnswersAccepted-planned _ (command.Freeze c.in-Freeze.name c.in-Freeze.version) _ (subst IsCommand c.in-Freeze.is c.requires) c.plan_freeze.ensures

pub returns-in-Freeze-clause-content : goal.returns-in-Freeze-clause-content
unfolding planned
returns-in-Freeze-clause-content c = PlansContent-planned _ c.rules.ensures (command.Freeze c.in-Freeze.name c.in-Freeze.version) _ (subst IsCommand c.in-Freeze.is c.requires) c.plan_freeze.ensures

pub returns-in-Sequence-clause-accepted : goal.returns-in-Sequence-clause-accepted
unfolding planned
returns-in-Sequence-clause-accepted c = AnswersAccepted-planned _ (command.Sequence c.in-Sequence.name c.in-Sequence.edition c.in-Sequence.method c.in-Sequence.version c.in-Sequence.standards c.in-Sequence.rows) _ (subst IsCommand c.in-Sequence.is c.requires) c.plan_sequence.ensures

pub returns-in-Sequence-clause-content : goal.returns-in-Sequence-clause-content
unfolding planned
returns-in-Sequence-clause-content c = PlansContent-planned _ c.rules.ensures (command.Sequence c.in-Sequence.name c.in-Sequence.edition c.in-Sequence.method c.in-Sequence.version c.in-Sequence.standards c.in-Sequence.rows) _ (subst IsCommand c.in-Sequence.is c.requires) c.plan_sequence.ensures

pub returns-in-Sequence-clause-value : goal.returns-in-Sequence-clause-value
unfolding planned
returns-in-Sequence-clause-value c = rw c.in-Sequence.is c.plan_sequence.ensures

pub returns-in-Events-clause-accepted : goal.returns-in-Events-clause-accepted
unfolding planned
returns-in-Events-clause-accepted c = AnswersAccepted-planned _ (command.Events c.in-Events.name c.in-Events.edition c.in-Events.row c.in-Events.events) _ (subst IsCommand c.in-Events.is c.requires) c.plan_events.ensures

pub returns-in-Events-clause-content : goal.returns-in-Events-clause-content
unfolding planned
returns-in-Events-clause-content c = PlansContent-planned _ c.rules.ensures (command.Events c.in-Events.name c.in-Events.edition c.in-Events.row c.in-Events.events) _ (subst IsCommand c.in-Events.is c.requires) c.plan_events.ensures

pub returns-in-Events-clause-value : goal.returns-in-Events-clause-value
unfolding planned
returns-in-Events-clause-value c = rw c.in-Events.is c.plan_events.ensures

pub returns-in-Rebind-clause-accepted : goal.returns-in-Rebind-clause-accepted
unfolding planned
returns-in-Rebind-clause-accepted c = AnswersAccepted-planned _ (command.Rebind c.in-Rebind.name c.in-Rebind.edition c.in-Rebind.version) _ (subst IsCommand c.in-Rebind.is c.requires) c.plan_rebind.ensures

pub returns-in-Rebind-clause-content : goal.returns-in-Rebind-clause-content
unfolding planned
returns-in-Rebind-clause-content c = PlansContent-planned _ c.rules.ensures (command.Rebind c.in-Rebind.name c.in-Rebind.edition c.in-Rebind.version) _ (subst IsCommand c.in-Rebind.is c.requires) c.plan_rebind.ensures

pub returns-in-Rebind-clause-value : goal.returns-in-Rebind-clause-value
unfolding planned
returns-in-Rebind-clause-value c = rw c.in-Rebind.is c.plan_rebind.ensures

pub returns-in-Sign-clause-accepted : goal.returns-in-Sign-clause-accepted
unfolding planned
returns-in-Sign-clause-accepted c = AnswersAccepted-planned _ (command.Sign c.in-Sign.sequence c.in-Sign.number c.in-Sign.basis c.in-Sign.moment c.in-Sign.name c.in-Sign.meaning c.in-Sign.text) _ (subst IsCommand c.in-Sign.is c.requires) c.plan_sign.ensures

pub returns-in-Sign-clause-content : goal.returns-in-Sign-clause-content
unfolding planned
returns-in-Sign-clause-content c = PlansContent-planned _ c.rules.ensures (command.Sign c.in-Sign.sequence c.in-Sign.number c.in-Sign.basis c.in-Sign.moment c.in-Sign.name c.in-Sign.meaning c.in-Sign.text) _ (subst IsCommand c.in-Sign.is c.requires) c.plan_sign.ensures

pub returns-in-Sign-clause-value : goal.returns-in-Sign-clause-value
unfolding planned
returns-in-Sign-clause-value c = rw c.in-Sign.is c.plan_sign.ensures
