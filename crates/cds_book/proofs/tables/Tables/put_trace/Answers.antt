use Rattle.std.proofs.Common.{◌∙◌, ◌∷◌, ◌++◌, [], ◌+◌, refl, ap}
use Rattle.std.specs.Vec.{with_item}
use Rattle.cds_book.specs.declared.tables.Tables.TheInside.{Inside}
use Rattle.cds_book.proofs.HeldLaws.{raised-applied, room-version, room-traces, PutsTrace, PutsTrace-new, puts_version, view-PutsTrace, IsHeld-PutsTrace}
use Rattle.cds_book.proofs.KeptLaws.{few-held}
use Rattle.cds_sign.specs.declared.command.Change.TheVariants as change
use Rattle.cds_book.proofs.tables.Tables.put_trace.Goals as goal

-- the name is there: the trace goes behind its versions
with_version : goal.After-drop-rises → Inside
with_version c = record c.self.inside {
  traces = record { entries = with_item c.self.inside.traces.entries c.in-Some-Version.at (record { name = c.index_mut.result.now.name; value = c.push.new.self }) };
  trace_versions = c.self.inside.trace_versions + 1;
  samples = c.self.inside.samples + c.from.result;
  sequences = c.raise.new.list;
  room = c.take.new.self;
}

-- the bases are few
pub raise-requires-clause-few : goal.raise-requires-clause-few
raise-requires-clause-few c = few-held c.self.inside c.self.invariant

pub raise-requires-in-Some-Traces-clause-few : goal.raise-requires-in-Some-Traces-clause-few
raise-requires-in-Some-Traces-clause-few c = few-held c.self.inside c.self.invariant

puts_there : (c : goal.After-drop-rises) → PutsTrace c.self.inside (with_version c) c.args.name c.args.trace
unfolding with_version
puts_there c =
    let at = room-version c.self.inside c.args.self.now c.args.name _ _ _ _ _ c.self.view_is c.self.invariant c.requires.room c.in-Some-Version.ensures.value c.in-Some-Version.field-0-is in
    record {
      traces = puts_version c.self.inside c.args.name _ c.args.trace _ c.index_mut.result.now at.0 c.index_mut.ensures.value refl c.in-Ok.ensures.items;
      trace_versions = refl;
      samples = ap (λ n. c.self.inside.samples + n) (c.from.ensures ∙ c.len.ensures.value);
      methods = refl;
      method_versions = refl;
      sequences = c.raise.ensures.shown ∙ raised-applied c.self.inside _ c.self.view_is (change.Trace c.args.name c.args.trace) refl _ (c.as_slice.ensures.value ∙ at.1);
      room = c.take.ensures.after;
    }

pub invariant_of-self : goal.invariant_of-self
unfolding with_version
invariant_of-self c = IsHeld-PutsTrace _ (with_version c) _ _ _ c.self.view_is c.self.invariant (puts_there c) c.requires.accepted

pub returns-in-Ok : goal.returns-in-Ok
unfolding with_version
returns-in-Ok c = view-PutsTrace _ (with_version c) _ _ _ c.self.view_is c.self.invariant (puts_there c)

-- the name is new: the trace is its first version
pub invariant_of-self-in-Traces-1 : goal.invariant_of-self-in-Traces-1
invariant_of-self-in-Traces-1 c =
    let a = c.self.inside in
    let b : Inside = record a { traces = c.put.new.self; sequences = c.raise-in-Some-Traces.new.list; trace_versions = a.trace_versions + 1; samples = a.samples + c.from.result; room = c.take.new.self } in
    let room = room-traces a c.args.self.now c.args.name _ _ _ _ _ _ c.self.view_is c.self.invariant c.requires.room c.in-Some-Traces.ensures.value c.in-Some-Traces.field-0-is in
    let others = c.raise-in-Some-Traces.ensures.shown ∙ raised-applied a _ c.self.view_is (change.Trace c.args.name c.args.trace) refl _ (c.as_slice-in-Some-Traces.ensures.value ∙ room.2) in
    let puts = PutsTrace-new a b c.args.name _ c.args.trace c.push-in-Some-Traces.new.self room.0 (c.in-Ok-push.ensures.items ∙ ap (λ vs. vs ++ c.args.trace ∷ []) room.1) c.put.ensures.value refl (ap (λ n. a.samples + n) (c.from.ensures ∙ c.len.ensures.value)) refl refl others c.take.ensures.after in
    IsHeld-PutsTrace _ b _ _ _ c.self.view_is c.self.invariant puts c.requires.accepted

pub returns-in-Ok-push : goal.returns-in-Ok-push
returns-in-Ok-push c =
    let a = c.self.inside in
    let b : Inside = record a { traces = c.put.new.self; sequences = c.raise-in-Some-Traces.new.list; trace_versions = a.trace_versions + 1; samples = a.samples + c.from.result; room = c.take.new.self } in
    let room = room-traces a c.args.self.now c.args.name _ _ _ _ _ _ c.self.view_is c.self.invariant c.requires.room c.in-Some-Traces.ensures.value c.in-Some-Traces.field-0-is in
    let others = c.raise-in-Some-Traces.ensures.shown ∙ raised-applied a _ c.self.view_is (change.Trace c.args.name c.args.trace) refl _ (c.as_slice-in-Some-Traces.ensures.value ∙ room.2) in
    let puts = PutsTrace-new a b c.args.name _ c.args.trace c.push-in-Some-Traces.new.self room.0 (c.in-Ok-push.ensures.items ∙ ap (λ vs. vs ++ c.args.trace ∷ []) room.1) c.put.ensures.value refl (ap (λ n. a.samples + n) (c.from.ensures ∙ c.len.ensures.value)) refl refl others c.take.ensures.after in
    view-PutsTrace _ b _ _ _ c.self.view_is c.self.invariant puts
