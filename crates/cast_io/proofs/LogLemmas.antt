-- What reads gave, one after the other.
use Rattle.std.proofs.Common.{◌≡◌, ◌<◌, ◌++◌, ◌==◌, ℕ, false, arith, List, [], ◌∷◌, take, Ok, refl, sym, ap, subst, ◌∙◌, append-nil, append_assoc}
use Rattle.std.proofs.lemmas.Bool.Decides.{nat_tests}
use Rattle.std.proofs.lemmas.List.{map-append}
use Rattle.std.proofs.lemmas.List.Folds.{concat-append}
use Rattle.cast_io.specs.declared.steps.SourceStep.{SourceStep}
use Rattle.cast_io.specs.declared.steps.SourceStep.TheVariants as steps
use Rattle.cast_io.specs.Told.{Grew}
use Rattle.cast_io.specs.Logs.{Log, GaveFile, GaveFirst, GaveThen, GoesOn, pieces_given, step_of_read}
use Rattle.cast_io.proofs.ToldLemmas.{grew_both}

-- and then another step
pub gave_then : (a b c : Log) (bytes : List ℕ) (step : SourceStep (List ℕ)) → GaveFirst a b bytes
    → Grew b c (step ∷ []) → GaveThen a c bytes (step ∷ [])
gave_then a b c bytes step gave grew = (
  gave.0,
  gave.1,
  subst (λ all. Grew a c (all ++ step ∷ [])) (append-nil (pieces_given gave.0))
      (grew_both a b c (pieces_given gave.0 ++ []) (step ∷ []) gave.2 grew),
)

-- any steps after those
pub gave_on : (a b c : Log) (bytes : List ℕ) (step : SourceStep (List ℕ)) → GaveFirst a b bytes
    → Grew b c (step ∷ []) → GoesOn a c
gave_on a b c bytes step gave grew =
    let all = gave_then a b c bytes step gave grew in
    (pieces_given all.0 ++ step ∷ [], all.2)

-- one more piece
gave_more : (a b c : Log) (bytes piece : List ℕ) → GaveFirst a b bytes
    → Grew b c (steps.Bytes piece ∷ []) → GaveFirst a c (bytes ++ piece)
gave_more a b c bytes piece gave grew =
    let all = gave_then a b c bytes (steps.Bytes piece) gave grew in
    let pieces = all.0 ++ piece ∷ [] in
    let given : pieces_given pieces ++ [] ≡ pieces_given all.0 ++ steps.Bytes piece ∷ [] =
    append-nil (pieces_given pieces)
    ∙ map-append (λ (p : List ℕ). steps.Bytes p) all.0 (piece ∷ []) in (
      pieces,
      concat-append all.0 (piece ∷ []) ∙ ap (λ l. l ++ (piece ++ [])) all.1
          ∙ ap (λ l. bytes ++ l) (append-nil piece),
      subst (Grew a c) (sym given) all.2,
    )

-- what a read gave that gave a byte
pub gave_read : (a b c : Log) (bytes buf : List ℕ) (n : ℕ) → GaveFirst a b bytes → 0 < n
    → Grew b c (step_of_read (Ok n) buf ∷ []) → GaveFirst a c (bytes ++ take n buf)
gave_read a b c bytes buf n gave some grew =
    let e : (n == 0) ≡ false = grind (arith, nat_tests, some) in
    let is : step_of_read (Ok n) buf ≡ steps.Bytes (take n buf) = rw e refl in
    gave_more a b c bytes (take n buf) gave
    (subst (λ (step : SourceStep (List ℕ)). Grew b c (step ∷ [])) is grew)

-- ---- in which calls

pub goes_both : (a b c : Log) → GoesOn a b → GoesOn b c → GoesOn a c
goes_both a b c first second =
    (first.0 ++ second.0, grew_both a b c first.0 second.0 first.1 second.1)

-- the file was opened and read
pub gave_file : (path : List ℕ) (a b c : Log) (bytes : List ℕ)
    → Grew a b (steps.Opened path ∷ []) → GaveThen b c bytes (steps.End ∷ [])
    → GaveFile path a c bytes
gave_file path a b c bytes opened gave = (
  [],
  [],
  gave.0,
  gave.1,
  grew_both a b c (steps.Opened path ∷ []) (pieces_given gave.0 ++ steps.End ∷ []) opened gave.2,
)

-- and other steps were taken before that, or after it
pub gave_file_later : (path : List ℕ) (a b c : Log) (bytes : List ℕ) → GoesOn a b
    → GaveFile path b c bytes → GaveFile path a c bytes
gave_file_later path a b c bytes on is =
    let more = steps.Opened path ∷ (pieces_given is.2 ++ steps.End ∷ is.1) in (
      on.0 ++ is.0,
      is.1,
      is.2,
      is.3,
      subst (Grew a c) (sym (append_assoc on.0 is.0 more))
          (grew_both a b c on.0 (is.0 ++ more) on.1 is.4),
    )

pub gave_file_before : (path : List ℕ) (a b c : Log) (bytes : List ℕ) → GaveFile path a b bytes
    → GoesOn b c → GaveFile path a c bytes
gave_file_before path a b c bytes is on =
    let given = pieces_given is.2 in
    let whole = is.0 ++ (steps.Opened path ∷ (given ++ steps.End ∷ is.1)) in
    let same : whole ++ on.0
    ≡ is.0 ++ (steps.Opened path ∷ (given ++ steps.End ∷ (is.1 ++ on.0))) =
    append_assoc is.0 (steps.Opened path ∷ (given ++ steps.End ∷ is.1)) on.0
    ∙ ap (λ l. is.0 ++ (steps.Opened path ∷ l)) (append_assoc given (steps.End ∷ is.1) on.0) in (
      is.0,
      is.1 ++ on.0,
      is.2,
      is.3,
      subst (Grew a c) same (grew_both a b c whole on.0 is.4 on.1),
    )
