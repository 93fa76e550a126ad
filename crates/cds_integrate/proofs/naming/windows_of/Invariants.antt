use Rattle.std.proofs.Common.{◌≡◌, map, take, vec_len}
use Rattle.cds_integrate.specs.Row.{window_of}
use Rattle.cds_integrate.proofs.naming.windows_of.Given as goal

abbrev pub invariant-loop-component : goal.invariant-loop-component
invariant-loop-component l =
    (l.windows.items ≡ map window_of (take l.component-index l.components)) × (vec_len l.windows ≡ l.component-index)
