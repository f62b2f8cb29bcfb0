-- What was read is what input and files gave.
use Rattle.std.proofs.Common.{◌≡◌, ℕ, ◌<◌, ◌≤◌, List, [], ◌∷◌, ◌++◌, length, Option, None, Some, Result, Ok, Err, IfOk, inl, inr, refl, ap, sym, subst, ◌∙◌, append_assoc, arith, length-append}
use Rattle.std.proofs.lemmas.List.{append-nil}
use Rattle.std.specs.List.{concat}
use Rattle.std.specs.Io.KnownBytes.{Consumes, IsAtEnd}
use Rattle.cast_io.specs.declared.steps.SourceStep.TheVariants as steps
use Rattle.cast_io.specs.Logs.{Log, GaveFirst, GoesOn, pieces_given}
use Rattle.cast_io.specs.ReadAll.{HasLost, IsReadWhole}
use Rattle.cast_io.specs.declared.reading.ReadAllFault.TheVariants as reads
use Rattle.cast_io.specs.Stores.{IsOpen}
use Rattle.cast_io.specs.Told.{Grew}
use Rattle.cast_io.proofs.LogLemmas.{gave_file, gave_file_before, gave_file_later}
use Rattle.cast_io.proofs.ToldLemmas.{grew_both}
use Rattle.caster_top.specs.Given.{FileCame, FileGave, GaveTooMuchOf, InputCame, InputGave}
use Rattle.caster_top.specs.Told.{FilesTold, Holds, Tells}

longer : (told came rest : List ℕ) → told ≡ came ++ rest → 8388608 < length came → 8388608 < length told
longer told came rest e long = omega (arith, long, ap (λ l. length l) e, length-append came rest)

-- ---- the input

-- what was read to the end is what the input told
read_is_told : (left new : Option (List ℕ)) (bytes : List ℕ) → Consumes left new bytes → IsAtEnd new
    → Tells left bytes
read_is_told None new bytes consumed ended = tt
read_is_told (Some told) None bytes consumed ended = absurd consumed
read_is_told (Some told) (Some rest) bytes consumed ended =
    consumed ∙ ap (λ l. bytes ++ l) ended ∙ append-nil bytes

told_bytes : (left : Option (List ℕ)) (bytes told : List ℕ) → Tells left bytes → left ≡ Some told → told ≡ bytes
told_bytes None bytes told h e = absurd cc
told_bytes (Some xs) bytes told h e = cc

-- what it told is what came
pub told_only : (left : Option (List ℕ)) (bytes : List ℕ) → left ≡ Some bytes → (came : List ℕ) → Tells left came
    → bytes ≡ came
told_only left bytes is came tells = told_bytes left came bytes tells is

-- all of it was read
pub input_all : (limit : ℕ) (left new : Option (List ℕ)) (a b : Log) (bytes : List ℕ)
    → IsReadWhole limit left new a b bytes → InputCame left a b bytes
input_all limit left new a b bytes read = (read_is_told left new bytes read.whole read.ended, inl read.gave)

-- and too much
pub input_long : (left new : Option (List ℕ)) (a b : Log)
    → HasLost reads.Long 8388608 left new a b
    → (bytes : List ℕ) × InputCame left a b bytes × (8388608 < length bytes)
input_long None new a b (came, long, consumed, gave) =
    (came, (tt, inr (came, (long, [], sym (append-nil came)), gave)), long)
input_long (Some told) None a b (came, long, consumed, gave) = absurd consumed
input_long (Some told) (Some rest) a b (came, long, consumed, gave) =
    (told, (refl, inr (came, (long, rest, consumed), gave)), longer told came rest consumed long)

-- ---- a file

-- what was read to the end is what the file holds
file_read : (path : List ℕ) (files : FilesTold) (left new : Option (List ℕ)) (bytes : List ℕ)
    → IsOpen path files left → Consumes left new bytes → IsAtEnd new → Holds files path bytes
file_read path None left new bytes open_ consumed ended = tt
file_read path (Some list) left new bytes open_ consumed ended =
    let found = open_ list refl in
    found.1 ∙ ap Some (told_bytes left bytes found.0 (read_is_told left new bytes consumed ended) found.2)

-- all of it was read
file_all : (path : List ℕ) (files : FilesTold) (limit : ℕ) (left new : Option (List ℕ)) (a b c : Log)
    (bytes : List ℕ) → IsOpen path files left → Grew a b (steps.Opened path ∷ [])
    → IsReadWhole limit left new b c bytes → FileCame files a c path bytes
file_all path files limit left new a b c bytes open_ opened read = (
  file_read path files left new bytes open_ read.whole read.ended,
  inl (gave_file path a b c bytes opened read.gave),
)

-- and so it is where that was an answer
pub file_whole : {T E : Type 0} (items : T → List ℕ) (result : Result T E) (path : List ℕ) (files : FilesTold)
    (limit : ℕ) (left new : Option (List ℕ)) (a b c : Log) → IsOpen path files left
    → Grew a b (steps.Opened path ∷ []) → IfOk result (λ v. IsReadWhole limit left new b c (items v))
    → IfOk result (λ v. FileCame files a c path (items v))
file_whole items (Ok v) path files limit left new a b c open_ opened read =
    file_all path files limit left new a b c (items v) open_ opened read
file_whole items (Err fault) path files limit left new a b c open_ opened read = tt

-- the bytes of a file that is longer than these
long_bytes : (path : List ℕ) (files : FilesTold) (left new : Option (List ℕ)) (came : List ℕ) → IsOpen path files left
    → 8388608 < length came → Consumes left new came
    → (rest : List ℕ) × Holds files path (came ++ rest) × (8388608 < length (came ++ rest))
long_bytes path None left new came open_ long consumed =
    ([], tt, longer (came ++ []) came [] refl long)
long_bytes path (Some list) None new came open_ long consumed =
    let found = open_ list refl in absurd (let e = found.2 in cc)
long_bytes path (Some list) (Some told) None came open_ long consumed = absurd consumed
long_bytes path (Some list) (Some told) (Some rest) came open_ long consumed =
    let found = open_ list refl in
    let same : told ≡ found.0 = let e = found.2 in cc in
    (rest, found.1 ∙ ap Some (sym same ∙ consumed), longer (came ++ rest) came rest refl long)

too_much : (path : List ℕ) (a b c : Log) (came rest : List ℕ) → 8388608 < length came
    → Grew a b (steps.Opened path ∷ []) → GaveFirst b c came → GaveTooMuchOf path a c (came ++ rest)
too_much path a b c came rest long opened gave = (
  [],
  [],
  gave.0,
  (
    subst (λ (l : List ℕ). 8388608 < length l) (sym gave.1) long,
    rest,
    ap (λ (l : List ℕ). l ++ rest) (sym gave.1),
  ),
  grew_both a b c (steps.Opened path ∷ []) (pieces_given gave.0 ++ []) opened gave.2,
)

-- and too much
pub file_long : (path : List ℕ) (files : FilesTold) (left new : Option (List ℕ)) (a b c : Log)
    → IsOpen path files left → Grew a b (steps.Opened path ∷ [])
    → HasLost reads.Long 8388608 left new b c
    → (bytes : List ℕ) × FileCame files a c path bytes × (8388608 < length bytes)
file_long path files left new a b c open_ opened (came, long, consumed, gave) =
    let whole = long_bytes path files left new came open_ long consumed in
    (came ++ whole.0, (whole.1, inr (too_much path a b c came whole.0 long opened gave)), whole.2)

-- ---- with other steps before and after

too_much_later : (path : List ℕ) (a b c : Log) (bytes : List ℕ) → GoesOn a b → GaveTooMuchOf path b c bytes
    → GaveTooMuchOf path a c bytes
too_much_later path a b c bytes on is =
    let more = steps.Opened path ∷ (pieces_given is.2 ++ is.1) in (
      on.0 ++ is.0,
      is.1,
      is.2,
      is.3,
      subst (Grew a c) (sym (append_assoc on.0 is.0 more))
          (grew_both a b c on.0 (is.0 ++ more) on.1 is.4),
    )

too_much_before : (path : List ℕ) (a b c : Log) (bytes : List ℕ) → GaveTooMuchOf path a b bytes → GoesOn b c
    → GaveTooMuchOf path a c bytes
too_much_before path a b c bytes is on =
    let given = pieces_given is.2 in
    let whole = is.0 ++ (steps.Opened path ∷ (given ++ is.1)) in
    let same : whole ++ on.0 ≡ is.0 ++ (steps.Opened path ∷ (given ++ (is.1 ++ on.0))) =
    append_assoc is.0 (steps.Opened path ∷ (given ++ is.1)) on.0
    ∙ ap (λ l. is.0 ++ (steps.Opened path ∷ l)) (append_assoc given is.1 on.0) in (
      is.0,
      is.1 ++ on.0,
      is.2,
      is.3,
      subst (Grew a c) same (grew_both a b c whole on.0 is.4 on.1),
    )

pub file_later : (path : List ℕ) (files : FilesTold) (a b c : Log) (bytes : List ℕ) → GoesOn a b
    → FileCame files b c path bytes → FileCame files a c path bytes
file_later path files a b c bytes on (holds, inl gave) = (holds, inl (gave_file_later path a b c bytes on gave))
file_later path files a b c bytes on (holds, inr much) = (holds, inr (too_much_later path a b c bytes on much))

pub file_before : (path : List ℕ) (files : FilesTold) (a b c : Log) (bytes : List ℕ)
    → FileCame files a b path bytes → GoesOn b c → FileCame files a c path bytes
file_before path files a b c bytes (holds, inl gave) on = (holds, inl (gave_file_before path a b c bytes gave on))
file_before path files a b c bytes (holds, inr much) on = (holds, inr (too_much_before path a b c bytes much on))

-- the files stay as they are
pub files_same : (files same : FilesTold) (a b : Log) (path bytes : List ℕ) → files ≡ same
    → FileCame files a b path bytes → FileCame same a b path bytes
files_same files same a b path bytes is came = subst (λ (f : FilesTold). FileCame f a b path bytes) is came

-- ---- of bytes that are not too many

pub input_short : (left : Option (List ℕ)) (a b : Log) (bytes : List ℕ) → length bytes ≤ 8388608
    → InputCame left a b bytes → InputGave left a b bytes
input_short left a b bytes short (tells, inl gave) = (tells, gave)
input_short left a b bytes short (tells, inr much) =
    let long = longer bytes much.0 much.1.1 much.1.2 much.1.0 in absurd (omega (arith, short, long))

pub file_short : (files : FilesTold) (a b : Log) (path bytes : List ℕ) → length bytes ≤ 8388608
    → FileCame files a b path bytes → FileGave files a b path bytes
file_short files a b path bytes short (holds, inl gave) = (holds, gave)
file_short files a b path bytes short (holds, inr much) =
    let long = longer bytes (concat much.2) much.3.1 much.3.2 much.3.0 in absurd (omega (arith, short, long))
