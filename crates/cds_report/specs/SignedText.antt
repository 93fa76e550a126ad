-- The text that is signed: who signed what and when, and the results and the suitability as they were then. This
-- project's own format.
use Rattle.std.specs.Prelude.{ℕ, List, [], ◌∷◌, ◌++◌, codes, decimal}
use Rattle.cds_report.specs.Dates.{date_of}
use Rattle.cds_report.specs.Lines.{line}
use Rattle.cds_report.specs.Reported.{Reported}
use Rattle.cds_report.specs.SequenceText.{sequence_text}
use Rattle.cds_report.specs.SuitabilityText.{suitability_text}

-- what a signature says: its number, the name of the one who signs, what the signature means, and the moment in seconds
-- since the beginning of 1970
pub record Signature : Type 0 where
  pub number : ℕ
  pub name : List ℕ
  pub meaning : List ℕ
  pub moment : ℕ

-- what is signed: the number of the signature, and the sequence with its basis
abbrev pub signed_line : ℕ → Reported → List ℕ
signed_line number report =
    line (codes "signed") (decimal number ∷ report.name ∷ codes "basis" ∷ decimal report.basis ∷ [])

-- the lines of a signature
abbrev pub signature_lines : Signature → Reported → List ℕ
signature_lines signature report =
    signed_line signature.number report
    ++ (line (codes "by") (signature.name ∷ [])
    ++ (line (codes "meaning") (signature.meaning ∷ []) ++ line (codes "at") (date_of signature.moment ∷ [])))

-- the text that is signed
unfoldable pub signed_text : Signature → Reported → List ℕ
signed_text signature report =
    signature_lines signature report ++ (sequence_text report ++ suitability_text report)
