use Rattle.std.proofs.Common.{◌∙◌, List, Some, ap, find, option_map}
use Rattle.std.specs.Str.{bytes_eq}
use Rattle.std.specs.declared.alloc.Global.{Global}
use Rattle.std.specs.declared.rc.Rc.{Rc}
use Rattle.cds_graph.specs.declared.entry.Entry.{Entry}
use Rattle.cds_graph.specs.Graph.{Kept}
use Rattle.cds_graph.specs.GraphLooks.{kept_named}
use Rattle.cds_graph.specs.HeldGraph.{entry_shown}
use Rattle.cds_graph.proofs.LookLaws.{entry-found}
use Rattle.cds_graph.proofs.graph.Graph.entry.Goals as goal

pub returns-in-Some : goal.returns-in-Some
returns-in-Some c =
    let name = c.args.sequence in
    let test = λ (e : Rc Entry Global). bytes_eq e.value.name name in
    ap (λ (e : Entry). Some (entry_shown e)) c.as_ref.ensures
    ∙ ap (option_map (λ (e : Rc Entry Global). entry_shown e.value))
    (c.in-Some.ensures ∙ ap (λ (es : List (Rc Entry Global)). find test es) c.deref.ensures.value)
    ∙ entry-found c.self.inside.sequences.items name
    ∙ ap (λ (graph : Kept). kept_named graph name) c.self.view_is

pub returns-in-None : goal.returns-in-None
returns-in-None c =
    let name = c.args.sequence in
    let test = λ (e : Rc Entry Global). bytes_eq e.value.name name in
    ap (option_map (λ (e : Rc Entry Global). entry_shown e.value))
    (c.in-None.ensures ∙ ap (λ (es : List (Rc Entry Global)). find test es) c.deref.ensures.value)
    ∙ entry-found c.self.inside.sequences.items name
    ∙ ap (λ (graph : Kept). kept_named graph name) c.self.view_is
