use Rattle.std.proofs.Common.{sym, ap, Result}
use Rattle.std.specs.Result.{result_unwrap_or}
use Rattle.cds_rules.specs.Fields.{Fields}
use Rattle.cds_rules.specs.declared.error.MethodError.{MethodError}
use Rattle.cds_graph.specs.Recorded.{fields_stated, no_method}
use Rattle.cds_graph.proofs.method.MethodNode.read.Goals as goal

pub returns-clause-value : goal.returns-clause-value
unfolding fields_stated
returns-clause-value c = sym (ap (λ (r : Result Fields MethodError). result_unwrap_or r no_method) c.in-Ok.ensures)
