-- How sequences are held. No public clause names this.
use Rattle.std.specs.Prelude.{All, map}
use Rattle.cds_rules.specs.Fields.{fields_of}
use Rattle.cds_integrate.specs.Seen.{seen}
use Rattle.cds_graph.specs.Found.{FoundRow, FoundStandard, FoundListed, FoundSequence}
use Rattle.cds_graph.specs.Ranges.{AreAmounts}
use Rattle.cds_graph.specs.Results.{Results}
use Rattle.cds_graph.specs.declared.found.FoundRow.{FoundRow as HeldRow}
use Rattle.cds_graph.specs.declared.found.FoundStandard.{FoundStandard as HeldStandard}
use Rattle.cds_graph.specs.declared.found.FoundListed.{FoundListed as HeldListed}
use Rattle.cds_graph.specs.declared.found.FoundSequence.{FoundSequence as HeldSequence}
use Rattle.cds_graph.specs.declared.sequence.SequenceNode.{SequenceNode}

-- what a row of a sequence is seen as
abbrev pub row_shown : HeldRow → FoundRow
row_shown held =
    record { row = held.row; period = held.node.value.period; found = seen held.node.value.part }

-- what a standard row is seen as
abbrev pub standard_shown : HeldStandard → FoundStandard
standard_shown held = record { row = held.row; found = seen held.node.value.part }

-- what a listed sequence is seen as
abbrev pub listed_shown : HeldListed → FoundListed
listed_shown held =
    record { fields = fields_of held.method.value.method; rows = map standard_shown held.rows.items }

-- the standards of a listed sequence state amounts
abbrev pub HoldAmounts : HeldListed → Type 0
HoldAmounts held = All (λ (standard : HeldStandard). AreAmounts standard.row.amounts) held.rows.items

-- what a sequence whose rows are found is seen as
abbrev pub found_shown : HeldSequence → FoundSequence
found_shown held = record {
  fields = fields_of held.method.value.method;
  rows = map row_shown held.rows.items;
  standards = map listed_shown held.standards.items;
  noise = held.noise;
}

-- the results that a sequence is held with
abbrev pub results_shown : SequenceNode → Results
results_shown node = record {
  rows = map (λ (held : HeldRow). seen held.node.value.part) node.found.rows.items;
  periods = map (λ (held : HeldRow). held.node.value.period) node.found.rows.items;
  calibrations = node.calibrations.items;
  amounts = node.amounts.items;
  noise = node.found.noise;
  checks = node.checks.items;
  verdict = node.verdict;
}
