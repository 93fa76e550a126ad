use Rattle.std.proofs.Common.{◌≡◌, ◌∙◌, ◌∷◌, ◌++◌, [], Some, List, refl, sym, ap}
use Rattle.cds_sign.specs.declared.signed.Signed.{Signed}
use Rattle.cds_book.specs.Held.{HeldSequence}
use Rattle.cds_book.specs.Tables.{NamedSequence}
use Rattle.std.specs.Prelude.{option_map}
use Rattle.cds_book.proofs.RaiseLaws.{seen_at, set_at, signed_at, placed_as}
use Rattle.cds_book.proofs.raise.sign_at.Goals as goal

pub returns : goal.returns
returns c s there =
    let hs = c.args.list.now.entries.items in
    let r = c.index_mut.result.now in
    let e : HeldSequence = record { name = r.name; value = record { sequence = r.value.sequence; signed = c.push.new.self } } in
    let same : Some r.value.sequence ≡ Some s = sym (ap (option_map (λ (e : NamedSequence). e.sequence)) (seen_at hs c.args.name c.args.at r c.requires.stands c.index_mut.ensures.value)) ∙ there in
    let one : r.value.sequence ≡ s = cc in
    set_at hs c.args.name c.args.at r e c.requires.stands c.index_mut.ensures.value refl
    ∙ placed_as hs c.args.name _ _ _ _ one (c.in-Ok.ensures.items ∙ ap (λ (xs : List Signed). xs ++ c.args.signed ∷ []) (signed_at hs c.args.name c.args.at r c.requires.stands c.index_mut.ensures.value))
