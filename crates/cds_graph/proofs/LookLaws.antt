-- What is looked up in a graph, as it is held, and where the graph stands for tables.
use Rattle.std.proofs.Common.{◌≡◌, ◌∙◌, ℕ, List, map, Option, Some, None, option_map, find, refl, sym, ap}
use Rattle.std.specs.Str.{bytes_eq}
use Rattle.std.specs.declared.alloc.Global.{Global}
use Rattle.std.specs.declared.rc.Rc.{Rc}
use Rattle.cds_base.specs.Named.{named}
use Rattle.cds_book.specs.Inputs.{bindings_of, inputs_in, inputs_by, inputs_of}
use Rattle.cds_book.specs.Tables.{TablesState, NamedSequence, sequence_of, sequence_named}
use Rattle.cds_graph.specs.declared.entry.Entry.{Entry}
use Rattle.cds_graph.specs.Graph.{graph_of}
use Rattle.cds_graph.specs.GraphLooks.{kept_named, inputs_named, fields_named, results_named}
use Rattle.cds_graph.specs.HeldGraph.{entry_shown, sequences_shown}
use Rattle.cds_graph.specs.Kept.{KeptSequence, sequence_under}
use Rattle.cds_graph.specs.Recorded.{fields_bound}
use Rattle.cds_graph.specs.Results.{eval, results_of}
use Rattle.cds_graph.proofs.FoundLaws.{find-seen}

-- the sequence of a name
pub entry-found : (held : List (Rc Entry Global)) (name : List ℕ) →
    option_map (λ (e : Rc Entry Global). entry_shown e.value)
    (find (λ (e : Rc Entry Global). bytes_eq e.value.name name) held)
    ≡ named (λ (kept : KeptSequence). kept.name) (sequences_shown held) name
entry-found held name =
    sym (find-seen (λ (kept : KeptSequence). bytes_eq kept.name name) (λ (e : Rc Entry Global). entry_shown e.value)
    held)

-- what is kept of the sequence of a name, where the graph stands for the tables
module _ (t : TablesState) (name : List ℕ) where
  kept-found : kept_named (graph_of t) name ≡ option_map (sequence_under t) (sequence_named t name)
  unfolding graph_of sequence_under
  kept-found = find-seen (λ (kept : KeptSequence). bytes_eq kept.name name) (sequence_under t) t.sequences

  -- its inputs
  pub inputs-looked : inputs_named (graph_of t) name ≡ inputs_of t name
  unfolding sequence_under inputs_by bindings_of sequence_of
  inputs-looked = ap (option_map (λ (kept : KeptSequence). kept.inputs)) kept-found ∙ by_found (sequence_named t name)
    where
      by_found : (found : Option NamedSequence) →
          option_map (λ (kept : KeptSequence). kept.inputs) (option_map (sequence_under t) found)
          ≡ option_map (inputs_in (bindings_of t)) (option_map (λ (e : NamedSequence). e.sequence) found)
      by_found None = refl
      by_found (Some e) = refl

  -- what its method states
  pub fields-looked : fields_named (graph_of t) name ≡ option_map (fields_bound t) (inputs_of t name)
  unfolding sequence_under inputs_by bindings_of sequence_of
  fields-looked =
      ap (option_map (λ (kept : KeptSequence). kept.found.fields)) kept-found ∙ by_found (sequence_named t name)
    where
      by_found : (found : Option NamedSequence) →
          option_map (λ (kept : KeptSequence). kept.found.fields) (option_map (sequence_under t) found)
          ≡ option_map (fields_bound t)
          (option_map (inputs_in (bindings_of t)) (option_map (λ (e : NamedSequence). e.sequence) found))
      by_found None = refl
      by_found (Some e) = refl

  -- and its results
  pub results-looked : results_named (graph_of t) name ≡ results_of t name
  unfolding sequence_under inputs_by bindings_of sequence_of
  results-looked =
      ap (option_map (λ (kept : KeptSequence). kept.results)) kept-found ∙ by_found (sequence_named t name)
    where
      by_found : (found : Option NamedSequence) →
          option_map (λ (kept : KeptSequence). kept.results) (option_map (sequence_under t) found)
          ≡ option_map (eval t)
          (option_map (inputs_in (bindings_of t)) (option_map (λ (e : NamedSequence). e.sequence) found))
      by_found None = refl
      by_found (Some e) = refl
