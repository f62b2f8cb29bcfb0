-- A link in memory goes on by whole steps and within a step of bytes.
use Rattle.std.proofs.Common.{◌≡◌, ◌<◌, ℕ, zero, suc, ◌+◌, ◌&&◌, min, List, [], ◌∷◌, length, take, drop, true, false, IsTrue, refl, sym, ap, ◌∙◌, arith, drop-drop, length-drop}
use Rattle.std.specs.List.{list_all}
use Rattle.std.proofs.lemmas.List.{drop_all}
use Rattle.cast_io.specs.declared.steps.LinkStep.{LinkStep}
use Rattle.cast_io.specs.declared.steps.LinkStep.TheVariants.{Bytes, Idle, End}
use Rattle.cast_io.specs.declared.link.Got.TheVariants as got
use Rattle.cast_io.specs.Links.{TakesStep, ahead}
use Rattle.cast_io.specs.FakeLinks.{has_bytes, is_within, without}

and_left : (a b : _) → (a && b) ≡ true → a ≡ true
and_left true b p = refl
and_left false b p = p

and_right : (a b : _) → (a && b) ≡ true → b ≡ true
and_right true b p = p
and_right false b p = grind arith

first_within : (xs : List LinkStep) → IsTrue (list_all has_bytes xs) → IsTrue (is_within xs 0)
first_within [] p = refl
first_within (Bytes bytes ∷ xs) p = and_left _ _ p
first_within (Idle ∷ xs) p = refl
first_within (End ∷ xs) p = refl

-- with any step the next one begins
pub next_in : (xs : List LinkStep) (n : ℕ) → IsTrue (list_all has_bytes xs)
    → IsTrue (is_within (drop n xs) 0)
next_in xs zero p = first_within xs p
next_in [] (suc n) p = refl
next_in (x ∷ xs) (suc n) p = next_in xs n (and_right (has_bytes x) _ p)

-- nothing of the first step is done
pub none_done : (xs : List LinkStep) → without 0 xs ≡ xs
none_done [] = refl
none_done (Bytes bytes ∷ xs) = refl
none_done (Idle ∷ xs) = refl
none_done (End ∷ xs) = refl

ahead_some : (bytes : List ℕ) (more : List LinkStep) → 0 < length bytes
    → ahead bytes more ≡ Bytes bytes ∷ more
ahead_some [] more some = grind arith
ahead_some (x ∷ bytes) more some = refl

-- a read that came to the end of its step
pub takes_whole : (old new more : List LinkStep) (offset n : ℕ) (bytes buf : List ℕ)
    → old ≡ without offset (Bytes bytes ∷ more) → new ≡ without 0 more
    → n ≡ min (length (drop offset bytes)) (length buf) → take n buf ≡ take n (drop offset bytes)
    → offset + n ≡ length bytes
    → TakesStep (got.Bytes n) buf old new
takes_whole old new more offset n bytes buf before after count front whole =
    let nothing : drop n (drop offset bytes) ≡ [] =
    drop_all n (drop offset bytes) (omega (arith, whole, length-drop offset bytes)) in (
      drop offset bytes,
      more,
      before,
      count,
      front,
      after ∙ none_done more ∙ sym (ap (λ rest. ahead rest more) nothing),
    )

-- a read that filled the buffer within its step
pub takes_part : (old new more : List LinkStep) (offset n : ℕ) (bytes buf : List ℕ)
    → old ≡ without offset (Bytes bytes ∷ more) → new ≡ without (offset + n) (Bytes bytes ∷ more)
    → n ≡ min (length (drop offset bytes)) (length buf) → take n buf ≡ take n (drop offset bytes)
    → offset + n < length bytes
    → TakesStep (got.Bytes n) buf old new
takes_part old new more offset n bytes buf before after count front part =
    let some : 0 < length (drop n (drop offset bytes)) =
    omega (arith, part, length-drop n (drop offset bytes), length-drop offset bytes) in (
      drop offset bytes,
      more,
      before,
      count,
      front,
      after ∙ ap (λ rest. Bytes rest ∷ more) (sym (drop-drop n offset bytes))
          ∙ sym (ahead_some _ more some),
    )
