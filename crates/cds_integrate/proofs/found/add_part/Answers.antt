use Rattle.std.proofs.Common.{◌≡◌, ◌++◌, ◌∷◌, [], false, sym, ap, ◌∙◌, rules}
use Rattle.std.proofs.lemmas.List.Elements.{All-append}
use Rattle.cds_rules.specs.Fields.{fields_of}
use Rattle.cds_integrate.specs.Measures.{is_rejected}
use Rattle.cds_integrate.specs.Peaks.{Found}
use Rattle.cds_integrate.specs.Standing.{IsFound}
use Rattle.cds_integrate.proofs.RowLaws.{one-all}
use Rattle.cds_integrate.proofs.found.add_part.Goals as goal

pub returns-clause-kept : goal.returns-clause-kept
returns-clause-kept c =
    let signal = c.args.trace.now in
    let fields = fields_of c.args.method.now in
    let pushed : c.push.new.self.items ≡ c.args.found.now.items ++ c.args.one ∷ [] = search rules in
    let part : c.one.inside.part ≡ c.args.one.part = ap (λ (f : Found). f.part) c.one.view_is in
    let kept : is_rejected signal fields c.args.one.part ≡ false =
    rw part at (sym c.is_rejected.ensures ∙ c.if-is_rejected.false) in
    rw pushed (All-append (IsFound signal fields) c.args.found.now.items (c.args.one ∷ []) c.requires.kept
    (one-all (IsFound signal fields) c.args.one (record {
      part = c.requires.part;
      before = c.requires.before;
      kept =
          kept;
    })))
