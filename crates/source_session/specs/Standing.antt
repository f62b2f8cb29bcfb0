-- Where a source's session stands with the body that it was fed so far.
use Rattle.std.specs.Prelude.{◌≡◌, ℕ, ◌+◌, ⊤, Bool, List, [], ◌++◌, Option, None, Some, is_some, true, false}
use Rattle.rtcm_frame.specs.Cut.{cut}
use Rattle.rtcm_frame.specs.Pending.{Pending}
use Rattle.chunk_body.specs.Machine.{Reading, read}
use Rattle.chunk_body.specs.Text.{IsOpen, HasEnded, IsBadAt}
use Rattle.source_session.specs.declared.fault.SourceHalt.{SourceHalt}
use Rattle.source_session.specs.declared.fault.SourceHalt.TheVariants.{Done, BadChunk, Worn, Memory}
use Rattle.source_session.specs.declared.session.SourceSession.{SourceSession}
use Rattle.source_session.specs.Body.{payload}

-- a cutter that took these bytes, and gave each frame of theirs
abbrev pub cutter_at : List ℕ → Pending
cutter_at bytes = record { bytes = (cut bytes).rest; junk = (cut bytes).junk }

-- the body goes on: one that is not chunked always does, and a chunked one is read so far and open
abbrev pub GoesOnAt : Option Reading → List ℕ → Type 0
GoesOnAt None body = ⊤
GoesOnAt (Some reading) body = (reading ≡ read body) × IsOpen body

-- the chunked body has ended
abbrev pub EndsAt : Option Reading → List ℕ → Type 0
EndsAt None body = ⊥
EndsAt (Some reading) body = HasEnded body

-- the byte at this place of the chunked body is its fault
abbrev pub BreaksAt : Option Reading → List ℕ → ℕ → Type 0
BreaksAt None body place = ⊥
BreaksAt (Some reading) body place = IsBadAt body place

-- every frame that the body holds was given, and what waits and the junk are those of its cut
abbrev pub IsCutUp : Option Reading → Pending → List ℕ → Type 0
IsCutUp chunks cutter body = cutter ≡ cutter_at (payload (is_some chunks) body)

-- a turn was refused in the midst of the body: behind this front of it nothing was taken, and the
-- junk is that of the front, but for what still waited
pub record IsCutShort (chunked : Bool) (cutter : Pending) (body : List ℕ) : Type 0 where
  pub front : List ℕ
  pub behind : List ℕ
  pub split : body ≡ front ++ behind
  pub junk : cutter.junk + (cut cutter.bytes).junk ≡ (cut (payload chunked front)).junk

-- by how the session was halted: not yet, at the end of the body, at its fault, or by a turn that
-- was refused
abbrev pub StandsBy : Option SourceHalt → Option Reading → Pending → List ℕ → Type 0
StandsBy None chunks cutter body = GoesOnAt chunks body × IsCutUp chunks cutter body
StandsBy (Some Done) chunks cutter body = EndsAt chunks body × IsCutUp chunks cutter body
StandsBy (Some (BadChunk place)) chunks cutter body =
    BreaksAt chunks body place × IsCutUp chunks cutter body
StandsBy (Some (Worn turns)) chunks cutter body = IsCutShort (is_some chunks) cutter body
StandsBy (Some Memory) chunks cutter body = IsCutShort (is_some chunks) cutter body

-- the session stands where this body, fed so far, leaves it
abbrev pub StandsFor : SourceSession → List ℕ → Type 0
StandsFor session body = StandsBy session.halt session.chunks session.cutter.value body

-- whether the body that the session is fed is in the chunked transfer coding
abbrev pub is_chunked : SourceSession → Bool
is_chunked session = is_some session.chunks

-- a session that was fed nothing yet
pub record IsUnfed (session : SourceSession) (me : ℕ) (chunked : Bool) : Type 0 where
  -- it stands at the beginning of a body
  pub stands : StandsFor session []
  pub goes_on : session.halt ≡ None
  -- whose calls it makes
  pub caller : session.me ≡ me
  -- how the body will come
  pub coded : is_chunked session ≡ chunked

-- whether a turn was refused in the midst of the body
abbrev pub is_cut_short : Option SourceHalt → Bool
is_cut_short None = false
is_cut_short (Some Done) = false
is_cut_short (Some (BadChunk place)) = false
is_cut_short (Some (Worn turns)) = true
is_cut_short (Some Memory) = true

-- how many bytes the session tells as junk
abbrev pub junk_of : SourceSession → ℕ
junk_of session = session.cutter.value.junk
