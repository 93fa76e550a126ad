use Rattle.std.proofs.Common.{length}
use Rattle.cds_respond.proofs.sending.+send_parts.Given as goal

abbrev pub decreases-send_parts : goal.decreases-send_parts
decreases-send_parts g l = length l.parts.now
