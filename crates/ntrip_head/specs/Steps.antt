-- What the buffer of a head says of its bytes.
use Rattle.std.specs.Prelude.{ℕ, List}
use Rattle.ntrip_head.specs.declared.buffer.HeadStep.{HeadStep}
use Rattle.ntrip_head.specs.declared.buffer.HeadStep.TheVariants.{More, Done, Long}
use Rattle.ntrip_head.specs.Head.{IsOpen, IsHead, IsLong}

-- the head goes on, ended with the last of these bytes, or is too long
abbrev pub IsStep : List ℕ → HeadStep → Type 0
IsStep head More = IsOpen head
IsStep head Done = IsHead head
IsStep head Long = IsLong head
