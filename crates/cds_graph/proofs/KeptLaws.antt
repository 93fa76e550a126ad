-- What keys name in tables, and that it stays whatever is changed.
use Rattle.std.proofs.Common.{◌≡◌, ◌∙◌, ℕ, List, [], ◌∷◌, map, Option, Some, None, refl, sym, ap, ap₂}
use Rattle.std.specs.Prelude.{IsSome, is_some}
use Rattle.cds_sign.specs.declared.inputs.Inputs.{Inputs}
use Rattle.cds_sign.specs.declared.row.Row.{Row}
use Rattle.cds_book.specs.Tables.{TablesState, trace_of, method_of}
use Rattle.cds_graph.specs.Found.{FoundRow, row_found, found_of}
use Rattle.cds_graph.specs.Keys.{row_key}
use Rattle.cds_graph.specs.Kept.{row_under}
use Rattle.cds_graph.specs.Recorded.{fields_in, recorded_in}
use Rattle.cds_graph.specs.Results.{evaluated, eval}

-- the rows of results are those that their keys name
rows-keyed : (tables : TablesState) (inputs : Inputs) (rows : List Row) →
    map (λ (r : FoundRow). r.found)
    (map (row_found (fields_in tables inputs.method inputs.version)) (map (recorded_in tables) rows))
    ≡ map (λ (row : Row). (row_under tables (row_key inputs row)).found) rows
unfolding row_under
rows-keyed tables inputs [] = refl
rows-keyed tables inputs (row ∷ rows) =
    ap (λ found. (row_under tables (row_key inputs row)).found ∷ found) (rows-keyed tables inputs rows)

pub eval-rows : (tables : TablesState) (inputs : Inputs) →
    (eval tables inputs).rows ≡ map (λ (row : Row). (row_under tables (row_key inputs row)).found) inputs.rows
unfolding eval evaluated
eval-rows tables inputs = rows-keyed tables inputs inputs.rows
