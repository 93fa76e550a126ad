use Rattle.cds_desk.proofs.judge.judge_target.Goals as goal

pub returns-in-PostSignature-clause-accepted : goal.returns-in-PostSignature-clause-accepted
returns-in-PostSignature-clause-accepted c = c.signature.ensures.accepted c.args.state.now.held
