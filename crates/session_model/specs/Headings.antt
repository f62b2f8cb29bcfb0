-- What the head of a connection is, as plain data: it does not hang on a configuration. A client
-- sends the head of a request (RTCM 10410.0; RTCM 10410.1 over RFC 9112, section 2.1), and another
-- caster, which a relay asked, that of an answer.
use Rattle.std.specs.Prelude.{◌≤◌, ℕ, List, length, take, Result}
use Rattle.ntrip_head.specs.declared.fault.HeadFault.{HeadFault}
use Rattle.ntrip_head.specs.declared.request.Request.{Request}
use Rattle.ntrip_head.specs.Head.{IsOpen, IsHead, IsLong}
use Rattle.ntrip_head.specs.Answer.{HeadAnswer}
use Rattle.ntrip_client.specs.Answer.{Said, HasHead, HeadGoesOn, IsTooLong}

pub data Heading : Type 0 where
  -- no head is whole yet, or none is awaited
  incomplete : Heading
  -- it has no end within 8,192 bytes
  too_long : Heading
  -- whole after so many bytes, with what the request is
  whole : ℕ → Result Request HeadFault → Heading
  -- whole after so many bytes, with what the answer says
  answered : ℕ → Said → Heading

-- what all bytes of a client so far say of its head
abbrev pub IsHeading : List ℕ → Heading → Type 0
IsHeading bytes incomplete = IsOpen bytes
IsHeading bytes too_long = (8192 ≤ length bytes) × IsLong (take 8192 bytes)
IsHeading bytes (whole at answer) =
    (at ≤ length bytes) × IsHead (take at bytes) × HeadAnswer (take at bytes) answer
IsHeading bytes (answered at said) = ⊥

-- and those of another caster
abbrev pub IsAnswering : List ℕ → Heading → Type 0
IsAnswering bytes incomplete = HeadGoesOn bytes
IsAnswering bytes too_long = IsTooLong bytes
IsAnswering bytes (whole at answer) = ⊥
IsAnswering bytes (answered at said) = HasHead bytes at said
