-- How a graph is held. No public clause names this.
use Rattle.std.specs.Prelude.{List, map}
use Rattle.std.specs.declared.alloc.Global.{Global}
use Rattle.std.specs.declared.rc.Rc.{Rc}
use Rattle.cds_rules.specs.Fields.{fields_of}
use Rattle.cds_integrate.specs.Seen.{seen}
use Rattle.cds_graph.specs.Graph.{Kept}
use Rattle.cds_graph.specs.Held.{found_shown, results_shown}
use Rattle.cds_graph.specs.Kept.{KeptRow, KeptNoise, KeptMethod, KeptSequence}
use Rattle.cds_graph.specs.Keys.{NoiseKey}
use Rattle.cds_graph.specs.declared.found.RowNode.{RowNode}
use Rattle.cds_graph.specs.declared.graph.Graph.TheInside.{Inside}
use Rattle.cds_graph.specs.declared.method.MethodKey.{MethodKey}
use Rattle.cds_graph.specs.declared.method.MethodNode.{MethodNode}
use Rattle.cds_graph.specs.declared.noises.HeldKey.{HeldKey}
use Rattle.cds_graph.specs.declared.noises.NoiseNode.{NoiseNode}
use Rattle.cds_graph.specs.declared.entry.Entry.{Entry}

-- the key of a held method
abbrev pub method_node_key : MethodNode → MethodKey
method_node_key node = record { name = node.name; version = node.version }

-- what a held method is seen as
abbrev pub method_node_shown : MethodNode → KeptMethod
method_node_shown node = record { key = method_node_key node; fields = fields_of node.method }

-- what a held row is seen as
abbrev pub row_node_shown : RowNode → KeptRow
row_node_shown node = record { key = node.key; period = node.period; found = seen node.part }

-- what the key of a held noise is seen as
abbrev pub noise_key_shown : HeldKey → NoiseKey
noise_key_shown key = record {
  trace = key.trace;
  version = key.version;
  window = record { from_ms = key.from_ms; to_ms = key.to_ms };
}

-- what a held noise is seen as
abbrev pub noise_node_shown : NoiseNode → KeptNoise
noise_node_shown node = record { key = noise_key_shown node.key; noise = node.noise }

-- what a held sequence is seen as
abbrev pub entry_shown : Entry → KeptSequence
entry_shown entry = record {
  name = entry.name;
  inputs = entry.inputs;
  found = found_shown entry.node.found;
  results = results_shown entry.node;
}

-- what lists of held methods, rows, noises and sequences are seen as
abbrev pub methods_shown : List (Rc MethodNode Global) → List KeptMethod
methods_shown held = map (λ (node : Rc MethodNode Global). method_node_shown node.value) held

abbrev pub rows_shown : List (Rc RowNode Global) → List KeptRow
rows_shown held = map (λ (node : Rc RowNode Global). row_node_shown node.value) held

abbrev pub noises_shown : List NoiseNode → List KeptNoise
noises_shown held = map noise_node_shown held

abbrev pub sequences_shown : List (Rc Entry Global) → List KeptSequence
sequences_shown held = map (λ (entry : Rc Entry Global). entry_shown entry.value) held

-- what a graph is seen as
abbrev pub graph_shown : Inside → Kept
graph_shown graph = record {
  methods = methods_shown graph.nodes.methods.items;
  rows = rows_shown graph.nodes.rows.items;
  noises = noises_shown graph.nodes.noises.items;
  sequences = sequences_shown graph.sequences.items;
}
