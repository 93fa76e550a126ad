use Rattle.cds_http.specs.Scan.{IsScanned}
use Rattle.cds_http.proofs.lines.look_on.Given as goal

-- every byte before `at` was looked at
abbrev pub invariant-loop-at : goal.invariant-loop-at
invariant-loop-at l = IsScanned l.bytes (record { line = l.line; looked = l.at; count = l.count })
