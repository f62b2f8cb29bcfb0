-- What reads and writes note is what a stream gave and took, where the stream tells that.
use Rattle.std.specs.Prelude.{ℕ, ◌≡◌, ◌<◌, ◌≤◌, ◌++◌, ◌⊎◌, ◌==◌, if◌then◌else◌, List, length, take, Option, Result, Ok, Err, is_ok, IsTrue, IsErrAnd}
use Rattle.std.specs.Io.KnownBytes.{Appends, Consumes, Keeps, IsAtEnd}
use Rattle.std.specs.IoError.{error_kind}
use Rattle.std.specs.declared.io.Error.{Error}
use Rattle.std.specs.declared.io.ErrorKind.{ErrorKind}
use Rattle.std.specs.declared.io.ErrorKind.TheVariants as kinds
use Rattle.cast_io.specs.declared.fault.Failed.{Failed}
use Rattle.cast_io.specs.declared.link.Got.{Got}
use Rattle.cast_io.specs.declared.link.Got.TheVariants as got

-- the call would have to wait, or was interrupted before it did anything
abbrev pub WouldWait : ErrorKind → Type 0
WouldWait kind = (kind ≡ kinds.WouldBlock) ⊎ (kind ≡ kinds.Interrupted)

-- What an answer of a stream means: so many bytes, above 0, the end at 0, nothing yet where it
-- would have to wait, and a failure at any other error.
abbrev pub Means : Result ℕ Error → Got → Type 0
Means answer (got.Bytes n) = (answer ≡ Ok n) × (0 < n)
Means answer got.End = answer ≡ Ok 0
Means answer got.Idle = IsErrAnd answer (λ fault. WouldWait (error_kind fault))
Means answer got.Failed = IsErrAnd answer (λ fault. WouldWait (error_kind fault) → ⊥)

-- The bytes that a read gave, at the front of its buffer, are the next ones of the stream, which
-- has lost them and no others. At its end the stream has none left.
abbrev pub IsHonestRead : Option (List ℕ) → Option (List ℕ) → Got → List ℕ → Type 0
IsHonestRead old new (got.Bytes n) buf = Consumes old new (take n buf)
IsHonestRead old new got.End buf = IsAtEnd old × IsAtEnd new
IsHonestRead old new got.Idle buf = Keeps old new
IsHonestRead old new got.Failed buf = Keeps old new

-- what a read of a source came to, as that of a link: the end at 0 bytes
abbrev pub got_of_read : Result ℕ Failed → Got
got_of_read (Ok n) = if n == 0 then got.End else got.Bytes n
got_of_read (Err fault) = got.Failed

-- these bytes were taken by the stream behind all others, and noted behind all others
abbrev pub BothTake : Option (List ℕ) → Option (List ℕ) → List ℕ → List ℕ → List ℕ → Type 0
BothTake old new before now bytes = Appends old new bytes × (now ≡ before ++ bytes)

-- so many first bytes of the piece were taken by the stream, and just these were noted: all of
-- them where the write did not fail
abbrev pub IsHonestWrite : {T E : Type 0} → Option (List ℕ) → Option (List ℕ) → List ℕ → List ℕ
    → Result T E → List ℕ → Type 0
IsHonestWrite old new before now result piece = (n : ℕ) × (n ≤ length piece)
    × (IsTrue (is_ok result) → n ≡ length piece) × BothTake old new before now (take n piece)
