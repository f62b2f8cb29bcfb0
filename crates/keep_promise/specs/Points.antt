-- What holds of a rover while it is open: at any point of a mountpoint's history, so also where the
-- porter joins there to tell how things stand.
use Rattle.std.specs.Prelude.{◌≡◌, ℕ, ◌+◌, ⊤, List, [], ◌∷◌, ◌++◌, length, Option, Some}
use Rattle.std.specs.List.{All}
use Rattle.turn_log.specs.History.{History}
use Rattle.mount_ring.specs.declared.call.RingCall.{RingCall}
use Rattle.mount_ring.specs.declared.call.RingCall.TheVariants.{Join, Look}
use Rattle.mount_ring.specs.declared.cursor.Cursor.{Cursor}
use Rattle.mount_ring.specs.History.{live_claim, permits_at, state_of}
use Rattle.rover_cursor.specs.declared.segment.Segment.{Segment}
use Rattle.rover_cursor.specs.Sound.{IsSound}
use Rattle.rover_cursor.specs.Told.{published_in, segments_told}
use Rattle.session_calls.specs.Rings.{history_at, shape_at}
use Rattle.cast_config.specs.declared.config.Config.{Config}
use Rattle.session_model.specs.Setting.{shapes}
use Rattle.keep_porter.specs.declared.found.Found.{Found}
use Rattle.keep_porter.specs.Porters.{Answer}

-- By this beginning of the history of a mountpoint the segments that the answers to this caller
-- gave there are sound over the frames that were published by then: what its rovers were sent of
-- each, and what is counted as overrun, are together all permitted frames from its Join to its last
-- Read so far.
abbrev pub AreSoundBy : Config → ℕ → ℕ → History RingCall → Type 0
AreSoundBy c mount me before = All (λ (segment : Segment). (segment.mount ≡ mount)
    × IsSound (permits_at (shape_at (shapes c) mount) segment.cursor.filter)
    (shape_at (shapes c) mount).capacity (published_in before) segment)
    (segments_told (shape_at (shapes c) mount) mount me before)

-- so they are by each beginning of it
abbrev pub AreSoundThroughout : Config → ℕ → ℕ → History RingCall → Type 0
AreSoundThroughout c mount me history =
    (before after : History RingCall) → history ≡ before ++ after → AreSoundBy c mount me before

-- ---- how things stand

-- What an answer of the porter says of a mountpoint is so at two points of its history, those of
-- its own Look and Join there: the claim under which it was held, and how many frames had been
-- published.
pub record IsShown (me : ℕ) (history : History RingCall) (found : Found) : Type 0 where
  pub held : (claim : Option ℕ) → found.looked ≡ Some claim → (before after : History RingCall)
      × (history ≡ before ++ (me, Look) ∷ after) × (claim ≡ live_claim (state_of before).holder)
  pub published : (cursor : Cursor) → found.joined ≡ Some cursor → (before after : History RingCall)
      × (history ≡ before ++ (me, Join 0) ∷ after) × (cursor.next ≡ length (published_in before))

-- of mountpoints that are numbered from this number on
abbrev pub AreShown : ℕ → List (History RingCall) → ℕ → List Found → Type 0
AreShown me histories n [] = ⊤
AreShown me histories n (found ∷ more) =
    IsShown me (history_at histories n) found × AreShown me histories (n + 1) more

-- so it is of these answers
abbrev pub AllShown : ℕ → List (History RingCall) → List Answer → Type 0
AllShown me histories given = All (λ (answer : Answer). AreShown me histories 0 answer.found) given
