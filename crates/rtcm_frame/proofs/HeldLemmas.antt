-- The bytes that a cutter's buffer holds from a place on.
use Rattle.std.proofs.Common.{◌≡◌, ℕ, zero, suc, ◌+◌, ◌-◌, ◌≤◌, ◌<◌, List, [], ◌∷◌, ◌++◌, length, take, drop, set, replicate, ap, ap₂, ◌∙◌, sym, subst, arith, length-drop, length-take-le}
use Rattle.std.proofs.lemmas.List.{drop-drop, drop-take, drop-set-add, take_more_set}
use Rattle.std.proofs.Math.Seq.{take-add}
use Rattle.rtcm_frame.specs.declared.stream.Cutter.TheInside.{Inside}
use Rattle.rtcm_frame.specs.Sums.{AreSums}
use Rattle.rtcm_frame.specs.Held.{IsHeld}
use Rattle.rtcm_frame.proofs.SumLemmas.{chained_none}

-- they are as many as are held
pub held_length : (buffer : List ℕ) (start len : ℕ) → start + len ≤ length buffer
    → length (take len (drop start buffer)) ≡ len
held_length buffer start len within =
    length-take-le len (drop start buffer) (omega (arith, length-drop start buffer))

-- a byte is written behind them
pub written_behind : (buffer : List ℕ) (start count byte : ℕ) → start + count < length buffer
    → take (count + 1) (drop start (set buffer (start + count) byte)) ≡ take count (drop start buffer) ++ byte ∷ []
written_behind buffer start count byte room =
    let behind : count < length (drop start buffer) = omega (arith, length-drop start buffer) in
    ap (λ (xs : List ℕ). take (count + 1) xs) (drop-set-add start buffer count byte)
    ∙ take_more_set (drop start buffer) count byte behind

-- bytes are written behind them: the buffer is as it was up to their end, and then has these
pub put_behind : (old new : List ℕ) (start count more : ℕ) → take (start + count) new ≡ take (start + count) old
    → take (count + more) (drop start new) ≡ take count (drop start old) ++ take more (drop (start + count) new)
put_behind old new start count more front =
    take-add count more (drop start new)
    ∙ ap₂ (λ (xs ys : List ℕ). xs ++ take more ys) (part new ∙ ap (λ (xs : List ℕ). drop start xs) front
    ∙ sym (part old)) (drop-drop count start new)
  where
    part : (xs : List ℕ) → take count (drop start xs) ≡ drop start (take (start + count) xs)
    part xs = sym (drop-take start count xs)

-- some in front of them are passed over
pub passed_over : (buffer : List ℕ) (start len count : ℕ) → count ≤ len
    → take (len - count) (drop (start + count) buffer) ≡ drop count (take len (drop start buffer))
passed_over buffer start len count within =
    let whole : count + (len - count) ≡ len = omega arith in
    ap (λ (xs : List ℕ). take (len - count) xs) (sym (drop-drop count start buffer))
    ∙ sym (drop-take count (len - count) (drop start buffer))
    ∙ ap (λ (n : ℕ). drop count (take n (drop start buffer))) whole

-- zeros are sums
zeros_fit : (n : ℕ) → AreSums (replicate n 0)
zeros_fit zero k = omega arith
zeros_fit (suc n) zero = omega arith
zeros_fit (suc n) (suc k) = zeros_fit n k

-- a cutter that holds nothing
pub held_none : (f : Inside) (n : ℕ) → f.sums ≡ replicate n 0 → f.start ≡ 0 → f.len ≡ 0 → f.summed ≡ 0 → IsHeld f
held_none f n zeros start len summed = record {
  within = omega (arith, start, len);
  reached = omega (arith, start, len, summed);
  fits = subst AreSums (sym zeros) (zeros_fit n);
  chained = chained_none f.buffer f.sums f.start f.summed (omega (arith, start, summed));
}
