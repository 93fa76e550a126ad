-- What is looked up in a graph by the name of a sequence. This project's own.
use Rattle.std.specs.Prelude.{List, Option, option_map, ℕ}
use Rattle.std.specs.Option.{option_and_then}
use Rattle.cds_base.specs.Named.{named}
use Rattle.cds_rules.specs.Fields.{Fields}
use Rattle.cds_sign.specs.declared.inputs.Inputs.{Inputs}
use Rattle.cds_graph.specs.Graph.{Kept}
use Rattle.cds_graph.specs.Kept.{KeptSequence}
use Rattle.cds_graph.specs.Results.{Results}

-- what is kept of the sequence of a name
abbrev pub kept_named : Kept → List ℕ → Option KeptSequence
kept_named graph name = named (λ (kept : KeptSequence). kept.name) graph.sequences name

-- what the results of the sequence of a name rest on
abbrev pub inputs_named : Kept → List ℕ → Option Inputs
inputs_named graph name = option_map (λ (kept : KeptSequence). kept.inputs) (kept_named graph name)

-- what the method of the sequence of a name states
abbrev pub fields_named : Kept → List ℕ → Option Fields
fields_named graph name = option_map (λ (kept : KeptSequence). kept.found.fields) (kept_named graph name)

-- the results of the sequence of a name
abbrev pub results_named : Kept → List ℕ → Option Results
results_named graph name = option_map (λ (kept : KeptSequence). kept.results) (kept_named graph name)

-- what is looked up in the results of the sequence of a name; nothing where there is no such sequence
abbrev pub looked_up : {A : Type 0} → Kept → List ℕ → (Results → Option A) → Option A
looked_up graph name look = option_and_then look (results_named graph name)
