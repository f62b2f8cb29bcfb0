-- What a read of a link gave.
use Rattle.std.specs.Prelude.{◌≡◌, ◌≤◌, ⊤, ℕ, nat_lt, Bool, true, false, List, length, take}
use Rattle.std.specs.List.{list_all}
use Rattle.cast_io.specs.declared.link.Got.{Got}
use Rattle.cast_io.specs.declared.link.Got.TheVariants as got
use Rattle.cast_io.specs.declared.steps.Step.{Step}
use Rattle.cast_io.specs.declared.steps.Step.TheVariants as took
use Rattle.cast_io.specs.Told.{LinkTold}
use Rattle.cast_io.specs.Links.{HasRead}
use Rattle.caster_record.specs.declared.hearing.GotText.{GotText}
use Rattle.caster_record.specs.declared.hearing.GotText.TheVariants as heard

-- as a step that the link took
abbrev pub step_heard : GotText → Step
step_heard (heard.Bytes bytes) = took.Bytes bytes
step_heard heard.Idle = took.Idle
step_heard heard.End = took.End
step_heard heard.Failed = took.ReadFailed

-- there was nothing yet
abbrev pub is_idle : GotText → Bool
is_idle heard.Idle = true
is_idle _ = false

-- the bytes are 1 to 4,096
abbrev pub IsPiece : GotText → Type 0
IsPiece (heard.Bytes bytes) =
    (1 ≤ length bytes) × (length bytes ≤ 4096) × (list_all (λ b. nat_lt b 256) bytes ≡ true)
IsPiece heard.Idle = ⊤
IsPiece heard.End = ⊤
IsPiece heard.Failed = ⊤

-- the answer of a read is this
abbrev pub Answers : Got → List ℕ → GotText → Type 0
Answers (got.Bytes n) buf (heard.Bytes bytes) = bytes ≡ take n buf
Answers got.Idle buf heard.Idle = ⊤
Answers got.End buf heard.End = ⊤
Answers got.Failed buf heard.Failed = ⊤
Answers (got.Bytes n) buf heard.Idle = ⊥
Answers (got.Bytes n) buf heard.End = ⊥
Answers (got.Bytes n) buf heard.Failed = ⊥
Answers got.Idle buf (heard.Bytes bytes) = ⊥
Answers got.Idle buf heard.End = ⊥
Answers got.Idle buf heard.Failed = ⊥
Answers got.End buf (heard.Bytes bytes) = ⊥
Answers got.End buf heard.Idle = ⊥
Answers got.End buf heard.Failed = ⊥
Answers got.Failed buf (heard.Bytes bytes) = ⊥
Answers got.Failed buf heard.Idle = ⊥
Answers got.Failed buf heard.End = ⊥

-- a read with a buffer of 4,096 bytes gave this
pub record HasHeard (old new : LinkTold) (answer : GotText) : Type 0 where
  pub piece : IsPiece answer
  pub got : Got
  pub buf : List ℕ
  pub size : length buf ≡ 4096
  pub is : Answers got buf answer
  pub read : HasRead old new got buf
