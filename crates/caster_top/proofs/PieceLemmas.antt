-- A text that is written piece by piece.
use Rattle.std.proofs.Common.{ℕ, ◌+◌, ◌≤◌, List, length, take, drop, Option, sym, subst, arith, length-take, length-drop}
use Rattle.std.proofs.Math.Seq.{take-add}
use Rattle.std.proofs.lemmas.List.{take-take}
use Rattle.std.specs.Io.KnownBytes.{Appends}
use Rattle.cast_io.specs.Pieces.{AppendsPrefix}
use Rattle.cast_io.proofs.PieceLemmas.{Appends-append}

-- one more piece
pub piece_written : (a b c : Option (List ℕ)) (text : List ℕ) (at n : ℕ) → Appends a b (take at text)
    → Appends b c (take n (drop at text)) → Appends a c (take (at + n) text)
piece_written a b c text at n p q =
    subst (λ (l : List ℕ). Appends a c l) (sym (take-add at n text)) (Appends-append a b c _ _ p q)

-- a first part of one more piece
pub piece_torn : (a b c : Option (List ℕ)) (text : List ℕ) (at n : ℕ) → at ≤ length text
    → Appends a b (take at text) → AppendsPrefix b c (take n (drop at text)) → AppendsPrefix a c text
piece_torn a b c text at n within p torn =
    let size = length-take n (drop at text) in
    let rest = length-drop at text in
    let first : torn.0 ≤ n = omega (arith, torn.1, size) in
    let total : at + torn.0 ≤ length text = omega (arith, torn.1, size, rest, within) in (
      at + torn.0,
      total,
      piece_written a b c text at torn.0 p
          (subst (λ (l : List ℕ). Appends b c l) (take-take torn.0 n (drop at text) first) torn.2),
    )
