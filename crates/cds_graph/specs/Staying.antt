-- When the results of inputs stay: where the versions that the inputs name are the same. This project's own.
use Rattle.std.specs.Prelude.{◌≡◌, ℕ, List, [], ◌∷◌, Some, All, IsSome}
use Rattle.cds_sign.specs.declared.command.Change.{Change}
use Rattle.cds_sign.specs.declared.inputs.Inputs.{Inputs}
use Rattle.cds_sign.specs.declared.inputs.Listed.{Listed}
use Rattle.cds_sign.specs.declared.inputs.ListedRow.{ListedRow}
use Rattle.cds_sign.specs.declared.row.Row.{Row}
use Rattle.cds_trace.specs.Signal.{Signal}
use Rattle.cds_book.specs.Plan.{applied}
use Rattle.cds_book.specs.Tables.{TablesState, trace_of, method_of}
-- what sequences bind is there, which is a rule of the tables
pub use Rattle.cds_book.specs.Kept.{Resolves, IsBound, AreBound}

-- two tables have the same under a version of a trace: the same signal, or neither has one
abbrev pub AgreeOnTrace : TablesState → TablesState → List ℕ → ℕ → Type 0
AgreeOnTrace one other trace version = trace_of one trace version ≡ trace_of other trace version

-- two tables have the same under a version of a method
abbrev pub AgreeOnMethod : TablesState → TablesState → List ℕ → ℕ → Type 0
AgreeOnMethod one other method version = method_of one method version ≡ method_of other method version

-- two tables have the same of what a listed sequence names
pub record AgreeOnListed (one other : TablesState) (listed : Listed) : Type 0 where
  pub method : AgreeOnMethod one other listed.method listed.version
  pub rows : All (λ (row : ListedRow). AgreeOnTrace one other row.trace row.version) listed.rows

-- two tables have the same under each version that inputs name
pub record AgreeOn (one other : TablesState) (inputs : Inputs) : Type 0 where
  pub method : AgreeOnMethod one other inputs.method inputs.version
  pub rows : All (λ (row : Row). AgreeOnTrace one other row.trace row.version) inputs.rows
  pub standards : All (AgreeOnListed one other) inputs.standards

-- the tables have what a listed sequence names
pub record HoldsListed (tables : TablesState) (listed : Listed) : Type 0 where
  pub method : IsSome (method_of tables listed.method listed.version)
  pub rows : All (λ (row : ListedRow). IsSome (trace_of tables row.trace row.version)) listed.rows

-- the tables have each version that inputs name
pub record HoldsInputs (tables : TablesState) (inputs : Inputs) : Type 0 where
  pub method : IsSome (method_of tables inputs.method inputs.version)
  pub rows : All (λ (row : Row). IsSome (trace_of tables row.trace row.version)) inputs.rows
  pub standards : All (HoldsListed tables) inputs.standards

-- the tables after have each version of a trace and of a method that the tables before have
pub record KeepsVersions (before after : TablesState) : Type 0 where
  pub traces : (name : List ℕ) (version : ℕ) (signal : Signal)
      → trace_of before name version ≡ Some signal → trace_of after name version ≡ Some signal
  pub methods : (name : List ℕ) (version : ℕ) (text : List ℕ)
      → method_of before name version ≡ Some text → method_of after name version ≡ Some text

-- the tables after these changes, one after the other
abbrev pub all_applied : TablesState → List Change → TablesState
all_applied tables [] = tables
all_applied tables (change ∷ later) = all_applied (applied tables change) later
