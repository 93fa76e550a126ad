use Rattle.cds_desk.proofs.BodyLaws.{sequence_stated}
use Rattle.cds_desk.proofs.sequences.put_sequence.Goals as goal

pub decide-requires-clause-command : goal.decide-requires-clause-command
decide-requires-clause-command c =
    (sequence_stated c.args.name c.args.body.now c.in-Ok.command c.in-Ok.ensures.value).ranged c.in-Ok.ensures.ranges

pub decide-requires-clause-brief : goal.decide-requires-clause-brief
decide-requires-clause-brief c = (sequence_stated c.args.name c.args.body.now c.in-Ok.command c.in-Ok.ensures.value).brief
