use Rattle.std.proofs.Common.{◌≡◌, ◌+◌, ◌-◌}
use Rattle.cds_names.specs.Naming.{number_of}
use Rattle.cds_figures.specs.Crossings.{first_passing}
use Rattle.cds_integrate.specs.Peaks.{gives}
use Rattle.cds_integrate.proofs.naming.component_of.Given as goal

abbrev pub invariant-loop-component : goal.invariant-loop-component
invariant-loop-component l =
    first_passing (λ component. gives l.number (number_of l.names component)) l.component (l.count + 1 - l.component)
    ≡ first_passing (λ component. gives l.number (number_of l.names component)) 1 l.count
