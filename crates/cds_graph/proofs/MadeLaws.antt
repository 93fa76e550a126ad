-- What is made of a trace and a method that are there is what its key names.
use Rattle.std.proofs.Common.{◌≡◌, ◌∙◌, ℕ, ◌+◌, ◌*◌, ◌≤◌, Bool, true, false, List, [], ◌∷◌, length, map, Option}
use Rattle.std.proofs.Common.{Some, None}
use Rattle.std.proofs.Common.{Result, Ok, Err, option_map, option_copied, is_none, is_some, find, refl, sym, ap}
use Rattle.std.proofs.Common.{ap₂, arith}
use Rattle.std.proofs.Common.{not, true≢false}
use Rattle.std.specs.Prelude.{IfOk, IfSome, IsSome, unwrap_or}
use Rattle.cds_figures.specs.Noise.{noise_of}
use Rattle.cds_integrate.specs.Seen.{seen}
use Rattle.cds_rules.specs.Fields.{Fields, fields_of}
use Rattle.cds_trace.specs.Signal.{Signal}
use Rattle.cds_book.specs.Tables.{TablesState, trace_of, method_of}
use Rattle.cds_graph.specs.declared.found.RowNode.{RowNode}
use Rattle.cds_graph.specs.declared.key.RowKey.{RowKey}
use Rattle.cds_graph.specs.declared.method.MethodKey.{MethodKey}
use Rattle.cds_graph.specs.declared.method.MethodNode.{MethodNode}
use Rattle.cds_graph.specs.declared.limits.TheConstants.{NOISE_STEPS, ROW_STEPS}
use Rattle.cds_graph.specs.HeldGraph.{method_node_shown, row_node_shown}
use Rattle.cds_graph.specs.Kept.{KeptMethod, KeptRow, KeptNoise, method_under, row_under, noise_under}
use Rattle.cds_graph.specs.Keys.{NoiseKey, row_steps, noise_steps}
use Rattle.cds_graph.specs.Recorded.{signal_in, fields_in, fields_stated, no_signal, no_method}
use Rattle.cds_graph.specs.Rows.{found_in}

-- the signal of a trace that is there
signal-there : (t : TablesState) (trace : List ℕ) (version : ℕ) (signal : Signal) →
    Some signal ≡ trace_of t trace version → signal_in t trace version ≡ signal
unfolding signal_in
signal-there t trace version signal is = ap (λ (o : Option Signal). unwrap_or o no_signal) (sym is)

-- what the text of a method that is there states
fields-there : (t : TablesState) (method : List ℕ) (version : ℕ) (text : List ℕ) →
    Some text ≡ method_of t method version → fields_in t method version ≡ fields_stated text
unfolding fields_in
fields-there t method version text is =
    ap (λ (o : Option (List ℕ)). unwrap_or (option_map fields_stated o) no_method) (sym is)

-- a noise that is found in the trace of its key
pub noise-made : (t : TablesState) (key : NoiseKey) (signal : Signal) (noise : Option ℕ) →
    Some signal ≡ trace_of t key.trace key.version →
    noise ≡ noise_of signal key.window.from_ms key.window.to_ms →
    record { key = key; noise = noise } ≡ noise_under t key
unfolding noise_under
noise-made t key signal noise there is =
    rw (signal-there t key.trace key.version signal there, is) refl

-- its steps
pub noise-made_steps : (t : TablesState) (key : NoiseKey) (signal : Signal) (before later : ℕ) →
    Some signal ≡ trace_of t key.trace key.version → later ≤ before + length signal.samples →
    later ≤ before + noise_steps t key
noise-made_steps t key signal before later there most =
    rw (signal-there t key.trace key.version signal there) (omega (arith, most))

-- a row that is integrated of the trace of its key under the key's method
pub row-made : {E : Type 0} (t : TablesState) (key : RowKey) (signal : Signal) (fields : Fields)
    (made : Result RowNode E) → Some signal ≡ trace_of t key.trace key.version →
    fields ≡ fields_in t key.method key.method_version → IfOk made (λ node. node.key ≡ key) →
    IfOk made (λ node. node.period ≡ signal.period) →
    IfOk made (λ node. seen node.part ≡ found_in signal fields key.events) →
    IfOk made (λ node. row_node_shown node ≡ row_under t key)
unfolding row_under
row-made t key signal fields (Err e) there stated keyed period found = tt
row-made t key signal fields (Ok node) there stated keyed period found =
    rw (signal-there t key.trace key.version signal there, ← stated, keyed, period, found) refl

-- its steps
pub row-made_steps : (t : TablesState) (key : RowKey) (signal : Signal) (before later : ℕ) →
    Some signal ≡ trace_of t key.trace key.version → later ≤ before + ROW_STEPS * length signal.samples →
    later ≤ before + row_steps t key
row-made_steps t key signal before later there most =
    rw (signal-there t key.trace key.version signal there) most

-- a method that is read from the text of its key
pub method-made : (t : TablesState) (key : MethodKey) (text : List ℕ) (node : MethodNode) →
    Some text ≡ method_of t key.name key.version → node.name ≡ key.name → node.version ≡ key.version →
    fields_of node.method ≡ fields_stated text → method_node_shown node ≡ method_under t key
unfolding method_under
method-made t key text node there name version stated =
    rw (fields-there t key.name key.version text there, name, version, stated) refl

-- the fields of a method are those of its key
pub method-fields : (t : TablesState) (key : MethodKey) (node : MethodNode) →
    method_node_shown node ≡ method_under t key → fields_of node.method ≡ fields_in t key.name key.version
unfolding method_under
method-fields t key node is = ap (λ (m : KeptMethod). m.fields) is

-- what isn't there isn't found
pub none-found : {A : Type 0} (o : Option A) → None ≡ o → is_some o ≡ true → ⊥
none-found o none some = true≢false (sym some ∙ ap is_some (sym none))

-- whether there is something stays where it is seen otherwise
pub some-tested : {A B : Type 0} (f : A → B) (r : Option A) (o : Option B) (t b : Bool) → option_map f r ≡ o →
    t ≡ is_some r → t ≡ b → is_some o ≡ b
some-tested f None o t b same is told = sym (ap is_some same) ∙ sym is ∙ told
some-tested f (Some x) o t b same is told = sym (ap is_some same) ∙ sym is ∙ told

pub none-tested : {A B : Type 0} (f : A → B) (r : Option A) (t b : Bool) → is_some r ≡ not t → t ≡ b →
    is_none (option_map f r) ≡ b
none-tested f None true b is told = told
none-tested f None false b is told = cc
none-tested f (Some x) true b is told = cc
none-tested f (Some x) false b is told = told
