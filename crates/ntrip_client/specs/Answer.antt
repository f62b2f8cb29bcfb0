-- What a caster answers to a client that asked for frames, said of all bytes that came so far: at
-- first nothing, then for good that a body follows from some place on, or that none does.
use Rattle.std.specs.Prelude.{◌≡◌, ◌<◌, ◌≤◌, ◌⊎◌, ℕ, ◌==◌, if◌then◌else◌, Bool, false, List, [], ◌∷◌, ◌++◌, length, take, Option, None, Some, Result, Ok, Err}
use Rattle.ntrip_head.specs.declared.fault.HeadFault.{HeadFault}
use Rattle.ntrip_head.specs.declared.fault.HeadFault.TheVariants as faults
use Rattle.ntrip_head.specs.declared.upstream.Upstream.{Upstream}
use Rattle.ntrip_head.specs.Head.{IsOpen, IsHead, IsLong}
use Rattle.ntrip_head.specs.Upstream.{UpstreamAnswer}
use Rattle.ntrip_client.specs.declared.answer.Answer.{Answer}
use Rattle.ntrip_client.specs.declared.answer.Answer.TheVariants.{Open, Accepted, Refused}
use Rattle.ntrip_client.specs.declared.answer.Refusal.{Refusal}
use Rattle.ntrip_client.specs.declared.answer.Refusal.TheVariants.{BadHead, LongHead, Coding, Table, Status}
use Rattle.ntrip_client.specs.declared.first_line.FirstLine.{FirstLine}
use Rattle.ntrip_client.specs.declared.first_line.FirstLine.TheVariants as lines
use Rattle.ntrip_client.specs.FirstLine.{has_line, kind_of, SpeaksHttp}

-- what a whole head says: a body follows, in chunks or not; or why none does
abbrev pub Said : Type 0
Said = Result Bool Refusal

-- what a first line says by itself; that of HTTP needs the whole head
abbrev pub said_by_line : FirstLine → Option Said
said_by_line lines.Icy = Some (Ok false)
said_by_line lines.Table = Some (Err Table)
said_by_line lines.Http = None
said_by_line lines.Other = Some (Err BadHead)

-- what the head of an HTTP response says: with status 200 (RFC 9110, section 15.3.1) a body follows
abbrev pub said_by_response : Result Upstream HeadFault → Said
said_by_response (Ok upstream) =
    if upstream.status == 200 then Ok upstream.chunked else Err (Status upstream.status)
said_by_response (Err faults.Bad) = Err BadHead
said_by_response (Err faults.Method) = Err BadHead
said_by_response (Err faults.Coding) = Err Coding

-- the head is its first line and the LF (10) behind it, and the line says this by itself
pub record IsLineHead (head : List ℕ) (said : Said) : Type 0 where
  pub line : List ℕ
  pub head_is : head ≡ line ++ 10 ∷ []
  pub free : has_line line ≡ false
  pub within : length head ≤ 8192
  pub says : said_by_line (kind_of line) ≡ Some said

-- the head is that of an HTTP response, up to its empty line, and says this
pub record IsResponse (head : List ℕ) (said : Said) : Type 0 where
  pub http : SpeaksHttp head
  pub head_is : IsHead head
  pub answer : Result Upstream HeadFault
  pub reads : UpstreamAnswer head answer
  pub says : said ≡ said_by_response answer

-- the answer's head has so many bytes, and says this
abbrev pub HasHead : List ℕ → ℕ → Said → Type 0
HasHead bytes at said =
    (at ≤ length bytes) × (IsLineHead (take at bytes) said ⊎ IsResponse (take at bytes) said)

-- the head goes on: its first line does, in fewer than 8,192 bytes, or the head of HTTP behind it
abbrev pub HeadGoesOn : List ℕ → Type 0
HeadGoesOn bytes =
    ((has_line bytes ≡ false) × (length bytes < 8192)) ⊎ (SpeaksHttp bytes × IsOpen bytes)

-- 8,192 bytes came, and neither the first line has ended in them nor a head of HTTP
abbrev pub IsTooLong : List ℕ → Type 0
IsTooLong bytes =
    (8192 ≤ length bytes)
    × ((has_line (take 8192 bytes) ≡ false) ⊎ (SpeaksHttp bytes × IsLong (take 8192 bytes)))

-- why no body follows
abbrev pub IsRefused : List ℕ → Refusal → Type 0
IsRefused bytes LongHead = IsTooLong bytes
IsRefused bytes BadHead = (at : ℕ) × HasHead bytes at (Err BadHead)
IsRefused bytes Coding = (at : ℕ) × HasHead bytes at (Err Coding)
IsRefused bytes Table = (at : ℕ) × HasHead bytes at (Err Table)
IsRefused bytes (Status status) = (at : ℕ) × HasHead bytes at (Err (Status status))

-- what the bytes so far say
abbrev pub IsAnswer : List ℕ → Answer → Type 0
IsAnswer bytes Open = HeadGoesOn bytes
IsAnswer bytes (Accepted at chunked) = HasHead bytes at (Ok chunked)
IsAnswer bytes (Refused why) = IsRefused bytes why
