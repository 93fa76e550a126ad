-- What a graph keeps, and when it stands for tables: it then has each row, each noise and each method that the
-- sequences
-- of the tables need, once and under its key, and the results of each sequence. This project's own.
use Rattle.std.specs.Prelude.{◌≡◌, List, [], map}
use Rattle.cds_book.specs.Tables.{TablesState}
use Rattle.cds_graph.specs.Keys.{row_keys, noise_keys, method_keys}
use Rattle.cds_graph.specs.Kept.{KeptRow, KeptNoise, KeptMethod, KeptSequence}
use Rattle.cds_graph.specs.Kept.{row_under, noise_under, method_under, sequence_under}

-- what a graph keeps: rows, noises and methods, each under its key, and sequences in byte order of their names
pub record Kept : Type 0 where
  pub methods : List KeptMethod
  pub rows : List KeptRow
  pub noises : List KeptNoise
  pub sequences : List KeptSequence

-- what the graph keeps that stands for these tables
unfoldable pub graph_of : TablesState → Kept
graph_of tables = record {
  methods = map (method_under tables) (method_keys tables);
  rows = map (row_under tables) (row_keys tables);
  noises = map (noise_under tables) (noise_keys tables);
  sequences = map (sequence_under tables) tables.sequences;
}

-- a graph stands for tables: each row, noise and method that it keeps is what its key names in them, every key of the
-- tables has one, and the results of each sequence are those that its inputs have in the tables
abbrev pub StandsFor : TablesState → Kept → Type 0
StandsFor tables graph = graph ≡ graph_of tables

-- the graph that keeps nothing
abbrev pub empty_graph : Kept
empty_graph = record { methods = []; rows = []; noises = []; sequences = [] }
