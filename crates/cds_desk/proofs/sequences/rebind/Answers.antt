use Rattle.cds_desk.proofs.BodyLaws.{reprocess_stated}
use Rattle.cds_desk.proofs.sequences.rebind.Goals as goal

pub decide-requires-clause-command : goal.decide-requires-clause-command
decide-requires-clause-command c =
    (reprocess_stated c.args.name c.args.body.now c.in-Ok.command c.in-Ok.ensures.value).ranged c.in-Ok.ensures.ranges

pub decide-requires-clause-brief : goal.decide-requires-clause-brief
decide-requires-clause-brief c = (reprocess_stated c.args.name c.args.body.now c.in-Ok.command c.in-Ok.ensures.value).brief
