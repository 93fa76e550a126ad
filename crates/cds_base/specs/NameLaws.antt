-- A name as it is held is given back by its bytes.
use Rattle.std.specs.Prelude.{◌≡◌, ℕ, List, take, length}
use Rattle.std.proofs.Common.{arith}
use Rattle.std.proofs.lemmas.List.{take-append-drop, length-take}
use Rattle.cds_base.specs.NameText.{NameBytes, padded_name}
use Rattle.cds_base.specs.declared.name.Name.TheInside.{Inside}

pub length-name : (bytes : List ℕ) (len : ℕ) → NameBytes bytes len → length (take len bytes) ≡ len
length-name bytes len h = omega (arith, length-take len bytes, h.fits, h.whole)

pub padded_name-take : (bytes : List ℕ) (len : ℕ) → NameBytes bytes len → let a : Inside = record { bytes = padded_name (take len bytes); len = length (take len bytes) } in let b : Inside = record { bytes = bytes; len = len } in a ≡ b
padded_name-take bytes len h =
    let same : padded_name (take len bytes) ≡ bytes = rw (length-name bytes len h, ← h.zeros) (take-append-drop len bytes) in
    let count : length (take len bytes) ≡ len = length-name bytes len h in
    cc
