-- How what is reported is held. No public clause names this.
use Rattle.std.specs.Prelude.{ℕ, List, [], Option, option_map, unwrap_or, Err}
use Rattle.std.specs.List.{filter_map}
use Rattle.cds_base.specs.declared.peak.Missing.TheVariants.{NoBlank}
use Rattle.cds_graph.specs.Graph.{Kept}
use Rattle.cds_graph.specs.GraphLooks.{inputs_named, results_named}
use Rattle.cds_graph.specs.Results.{Results}
use Rattle.cds_rules.specs.Fields.{fields_of}
use Rattle.cds_suit.specs.declared.verdict.Verdict.TheVariants.{Pass}
use Rattle.cds_report.specs.Reported.{Reported, ListedReport}
use Rattle.cds_report.specs.declared.report.Report.{Report}

-- results in which nothing is found
unfoldable pub no_results : Results
no_results = record {
  rows = [];
  periods = [];
  calibrations = [];
  amounts = [];
  noise = Err NoBlank;
  checks = [];
  verdict = Pass;
}

-- the results that a graph keeps of the sequence of a name
unfoldable pub kept_results : Kept → List ℕ → Results
kept_results graph name = unwrap_or (results_named graph name) no_results

-- the sequence of a name, with the inputs that a graph keeps of it
abbrev pub listed_named : Kept → List ℕ → Option ListedReport
listed_named graph name = option_map (λ inputs. record { name = name; inputs = inputs }) (inputs_named graph name)

-- the sequences of these names, with the inputs that a graph keeps of them
abbrev pub listed_kept : Kept → List (List ℕ) → List ListedReport
listed_kept graph names = filter_map (listed_named graph) names

-- what a report is seen as
abbrev pub report_shown : Report → Reported
report_shown report = record {
  name = report.name;
  edition = report.sequence.now.edition;
  basis = report.sequence.now.basis;
  inputs = report.inputs.now;
  listed = listed_kept report.graph.now report.sequence.now.standards;
  fields = fields_of report.method.now;
  results = kept_results report.graph.now report.name;
}
