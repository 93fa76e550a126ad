-- What is told over several calls.
use Rattle.std.proofs.Common.{◌≡◌, ℕ, List, ◌++◌, Option, Some, None, refl, ap, sym, append_assoc}
use Rattle.cds_base.specs.Told.{then_more, more_before}

-- more behind, and again more behind
pub then_more_twice : (known : Option (List ℕ)) (a b : List ℕ) → then_more (then_more known a) b ≡ then_more known (a ++ b)
then_more_twice None a b = refl
then_more_twice (Some bytes) a b = ap Some (append_assoc bytes a b)

-- more in front, and again more in front
pub more_before_twice : (known : Option (List ℕ)) (a b : List ℕ) → more_before a (more_before b known) ≡ more_before (a ++ b) known
more_before_twice None a b = refl
more_before_twice (Some bytes) a b = ap Some (sym (append_assoc a b bytes))
