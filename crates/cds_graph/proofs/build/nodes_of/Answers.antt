use Rattle.std.proofs.Common.{◌≡◌, ◌∙◌, refl, sym, ap}
use Rattle.std.proofs.Common.{◌+◌, ◌≤◌, arith}
use Rattle.cds_graph.specs.Building.{after}
use Rattle.cds_graph.specs.Graph.{Kept}
use Rattle.cds_graph.specs.Keys.{method_keys, noise_keys, row_keys}
use Rattle.cds_graph.proofs.ReadyLaws.{methods-known, methods-there, noises-there, rows-there}
use Rattle.cds_graph.proofs.build.nodes_of.Goals as goal

pub kept_methods-requires-clause-there : goal.kept_methods-requires-clause-there
kept_methods-requires-clause-there g c = rw (c.deref-2.ensures.value, c.in_ok-of_methods.ensures, c.requires.all)
    (methods-there (after c.args.source.now) c.requires.ready)

pub kept_rows-requires-clause-methods : goal.kept_rows-requires-clause-methods
unfolding method_keys
kept_rows-requires-clause-methods g c = rw c.deref-4.ensures.value (rw (
  c.deref-2.ensures.value,
  c.in_ok-of_methods.ensures,
  c.requires.all,
) at c.in_ok-methods.ensures)

pub kept_rows-requires-clause-there : goal.kept_rows-requires-clause-there
kept_rows-requires-clause-there g c = rw (c.deref-5.ensures.value, c.in_ok-of_rows.ensures, c.requires.all)
    (rows-there (after c.args.source.now) c.requires.ready)

pub returns-in_err-rows-clause-most : goal.returns-in_err-rows-clause-most
unfolding row_keys
returns-in_err-rows-clause-most g c = omega (
  arith,
  (rw (
    c.deref-5.ensures.value,
    c.in_ok-of_rows.ensures,
    c.requires.all,
  ) at (rw (c.deref-3.ensures.value, ap (λ (k : Kept). k.rows) c.before-2.view_is) at
      c.kept_rows.ensures.most)),
)

pub noise_keys-requires-clause-methods : goal.noise_keys-requires-clause-methods
unfolding method_keys
noise_keys-requires-clause-methods g c = rw c.deref-6.ensures.value (rw (
  c.deref-2.ensures.value,
  c.in_ok-of_methods.ensures,
  c.requires.all,
) at c.in_ok-methods.ensures)

pub noise_keys-requires-clause-known : goal.noise_keys-requires-clause-known
noise_keys-requires-clause-known g c = rw c.requires.all (methods-known (after c.args.source.now))

pub returns-in_err-of_noises-clause-most : goal.returns-in_err-of_noises-clause-most
unfolding row_keys
returns-in_err-of_noises-clause-most g c = omega (
  arith,
  (rw (
    c.deref-5.ensures.value,
    c.in_ok-of_rows.ensures,
    c.requires.all,
  ) at (rw (c.deref-3.ensures.value, ap (λ (k : Kept). k.rows) c.before-2.view_is) at
      c.kept_rows.ensures.most)),
)

pub kept_noises-requires-clause-there : goal.kept_noises-requires-clause-there
kept_noises-requires-clause-there g c = rw (c.deref-8.ensures.value, c.in_ok-of_noises.ensures, c.requires.all)
    (noises-there (after c.args.source.now) c.requires.ready)

pub returns-in_err-noises-clause-most : goal.returns-in_err-noises-clause-most
unfolding row_keys noise_keys
returns-in_err-noises-clause-most g c =
    omega (
      arith,
      (rw (c.deref-5.ensures.value, c.in_ok-of_rows.ensures, c.requires.all) at (rw (
        c.deref-3.ensures.value,
        ap (λ
            (k : Kept). k.rows) c.before-2.view_is,
      ) at c.kept_rows.ensures.most)),
      (rw (c.deref-8.ensures.value, c.in_ok-of_noises.ensures, c.requires.all) at (rw (
        c.deref-7.ensures.value,
        ap
            (λ (k : Kept). k.noises) c.before-2.view_is,
      ) at c.kept_noises.ensures.most)),
    )

pub returns-clause-methods : goal.returns-clause-methods
unfolding method_keys
returns-clause-methods g c = rw (c.deref-2.ensures.value, c.in_ok-of_methods.ensures, c.requires.all) at
    c.in_ok-methods.ensures

pub returns-clause-rows : goal.returns-clause-rows
unfolding row_keys
returns-clause-rows g c = rw (c.deref-5.ensures.value, c.in_ok-of_rows.ensures, c.requires.all) at
    c.in_ok-rows.ensures.value

pub returns-clause-noises : goal.returns-clause-noises
unfolding noise_keys
returns-clause-noises g c = rw (c.deref-8.ensures.value, c.in_ok-of_noises.ensures, c.requires.all) at
    c.in_ok-noises.ensures.value

pub returns-clause-most : goal.returns-clause-most
unfolding row_keys noise_keys
returns-clause-most g c =
    omega (
      arith,
      (rw (c.deref-5.ensures.value, c.in_ok-of_rows.ensures, c.requires.all) at (rw (
        c.deref-3.ensures.value,
        ap (λ
            (k : Kept). k.rows) c.before-2.view_is,
      ) at c.kept_rows.ensures.most)),
      (rw (c.deref-8.ensures.value, c.in_ok-of_noises.ensures, c.requires.all) at (rw (
        c.deref-7.ensures.value,
        ap
            (λ (k : Kept). k.noises) c.before-2.view_is,
      ) at c.kept_noises.ensures.most)),
    )
