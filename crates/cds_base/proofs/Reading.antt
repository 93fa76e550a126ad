-- What a source in memory has given and what is left, as it reads on.
use Rattle.std.proofs.Common.{◌≡◌, ℕ, ◌+◌, ◌-◌, List, ◌++◌, take, drop, replicate, sym}
use Rattle.std.proofs.lemmas.List.{take-append-drop, drop-drop, drop-replicate}
use Rattle.std.proofs.Math.Seq.{take-add}

-- given before and given now make all that was given
pub take_read : (bytes : List ℕ) (at n : ℕ) (front : List ℕ) → front ≡ take n (drop at bytes) → take (at + n) bytes ≡ take at bytes ++ front
take_read bytes at n front e = rw e (take-add at n bytes)

-- given now and left after make what was left
pub left_read : (bytes : List ℕ) (at n : ℕ) (front : List ℕ) → front ≡ take n (drop at bytes) → drop at bytes ≡ front ++ drop (at + n) bytes
left_read bytes at n front e = rw (e, ← drop-drop n at bytes) (sym (take-append-drop n (drop at bytes)))

-- what stays of 64 zeros behind the first ones
pub drop_zeros : (k n : ℕ) → drop {A = ℕ} k (replicate {A = ℕ} n 0) ≡ replicate {A = ℕ} (n - k) 0
drop_zeros k n = drop-replicate k n 0
