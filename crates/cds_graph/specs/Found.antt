-- A sequence as its rows were found: points, lines, amounts, checks and the verdict are computed from this alone. Of a
-- signal it holds no more than what is found in it, its period, and the noise of the blank. This project's own.
use Rattle.std.specs.Prelude.{ℕ, List, map, Result}
use Rattle.cds_base.specs.declared.peak.Missing.{Missing}
use Rattle.cds_rules.specs.Fields.{Fields}
use Rattle.cds_sign.specs.declared.inputs.ListedRow.{ListedRow}
use Rattle.cds_sign.specs.declared.row.Row.{Row}
use Rattle.cds_integrate.specs.Seen.{RowSeen}
use Rattle.cds_graph.specs.Noise.{noise_in}
use Rattle.cds_graph.specs.Recorded.{RecordedSequence, RecordedRow, RecordedStandard, RecordedListed}
use Rattle.cds_graph.specs.Rows.{found_in}

-- a row of the sequence, the period of its trace in microseconds, and what is found in it
pub record FoundRow : Type 0 where
  pub row : Row
  pub period : ℕ
  pub found : RowSeen

-- a standard row of a listed sequence, and what is found in it
pub record FoundStandard : Type 0 where
  pub row : ListedRow
  pub found : RowSeen

-- a listed sequence: what its own method states, and its standard rows in their order
pub record FoundListed : Type 0 where
  pub fields : Fields
  pub rows : List FoundStandard

-- a sequence: what its method states, its rows, the sequences that it lists, and the noise of its first blank row
pub record FoundSequence : Type 0 where
  pub fields : Fields
  pub rows : List FoundRow
  pub standards : List FoundListed
  pub noise : Result ℕ Missing

-- a row as it is found under the method of its sequence
abbrev pub row_found : Fields → RecordedRow → FoundRow
row_found fields recorded = record {
  row = recorded.row;
  period = recorded.signal.period;
  found = found_in recorded.signal fields recorded.row.events;
}

-- a standard row as it is found under the method of the listed sequence
abbrev pub standard_found : Fields → RecordedStandard → FoundStandard
standard_found fields standard =
    record { row = standard.row; found = found_in standard.signal fields standard.row.events }

-- a listed sequence as its standard rows are found
abbrev pub listed_found : RecordedListed → FoundListed
listed_found listed =
    record { fields = listed.fields; rows = map (standard_found listed.fields) listed.rows }

-- a sequence as its rows are found
abbrev pub found_of : RecordedSequence → FoundSequence
found_of sequence = record {
  fields = sequence.fields;
  rows = map (row_found sequence.fields) sequence.rows;
  standards = map listed_found sequence.standards;
  noise = noise_in sequence;
}
