-- Names of components.
use Rattle.std.proofs.Common.{◌≡◌, ℕ, ◌<◌, zero, suc, false, List, [], ◌∷◌, length, get_or, ◌∙◌, sym, arith}
use Rattle.std.specs.List.{list_any}
use Rattle.std.specs.Str.{bytes_eq}
use Rattle.std.proofs.lemmas.Bool.{or_parts, false≢true}
use Rattle.std.proofs.lemmas.Slice.Eq.{bytes_eq-Decides}
use Rattle.cds_rules.specs.declared.component.Component.{Component}

-- where no component has a name, each has another one
pub other_names : (components : List Component) (name : List ℕ) → list_any (λ c. bytes_eq c.name name) components ≡ false
    → (k : ℕ) (d : Component) → k < length components → (get_or components k d).name ≡ name → ⊥
other_names [] name none k d within same = omega arith
other_names (c ∷ cs) name none zero d within same =
    false≢true (sym (or_parts _ _ none).0 ∙ (bytes_eq-Decides c.name name).1 same)
other_names (c ∷ cs) name none (suc k) d within same = other_names cs name (or_parts _ _ none).1 k d (omega arith) same
