-- In which order a recording caster serves its links: round after round.
use Rattle.std.specs.Prelude.{◌≡◌, ℕ, zero, suc, ◌+◌, ◌<◌, ◌≤◌, ◌⊎◌, Bool, true, false, List, [], ◌∷◌, ◌++◌, length}
use Rattle.std.specs.List.{flat_map}
use Rattle.cast_io.specs.declared.steps.Step.{Step}
use Rattle.session_script.specs.declared.Event.{Event}
use Rattle.session_script.specs.declared.Event.TheVariants as events
use Rattle.session_script.specs.Writing.{lines_text}
use Rattle.cast_config.specs.declared.config.Config.{Config}
use Rattle.caster_replay.specs.Going.{GoesOn}
use Rattle.caster_record.specs.Moves.{Move, came, nobody, served, Served, has_torn}

-- the lines of these events have at most 8,370,000 bytes
abbrev pub HasRoom : List Event → Type 0
HasRoom script = length (lines_text script) ≤ 8370000

-- all moves of these rounds, in order
abbrev pub moves_of : List (List Move) → List Move
moves_of rounds = flat_map (λ round. round) rounds

-- ---- a link in its place

-- The link of this number is passed over: its connection does not go on, a write to it failed in
-- one of these moves, or the record is at its limit.
abbrev pub IsPassed : Config → List Move → ℕ → List Event → Type 0
IsPassed c earlier k script =
    GoesOn c script k false ⊎ ((has_torn k earlier ≡ true) ⊎ (8370000 < length (lines_text script)))

-- Or it is served: no write to it failed in these moves, the record has room, and this is what
-- happened.
pub record IsServedNext (c : Config) (earlier : List Move) (k : ℕ) (move : Move)
    (before after : List Event) : Type 0 where
  pub answer : Step
  pub torn : Bool
  pub move_is : move ≡ served k answer torn
  pub whole : has_torn k earlier ≡ false
  pub room : HasRoom before
  pub happened : Served c k answer torn before after

-- behind these earlier ones, and those of this round in front of it, it is passed over or served
abbrev pub HasItsPlace : Config → List Move → ℕ → List Move → List Move → List Event → List Event
    → Type 0
HasItsPlace c earlier k front moves before after =
    (IsPassed c (earlier ++ front) k before × (moves ≡ front) × (after ≡ before))
    ⊎ ((move : Move) × (moves ≡ front ++ move ∷ [])
    × IsServedNext c (earlier ++ front) k move before after)

-- so each of the links from 1 to this number has its place, in increasing order
abbrev pub HaveTheirPlaces : Config → List Move → ℕ → List Move → List Event → List Event → Type 0
HaveTheirPlaces c earlier zero moves before after = (moves ≡ []) × (after ≡ before)
HaveTheirPlaces c earlier (suc n) moves before after =
    (front : List Move) × (between : List Event) × HaveTheirPlaces c earlier n front before between
    × HasItsPlace c earlier (suc n) front moves between after

-- ---- a round

-- A link may come: these few that came are fewer than may, and the record has room.
abbrev pub MayAsk : ℕ → ℕ → List Event → Type 0
MayAsk limit few script = (few < limit) × HasRoom script

-- None may.
abbrev pub IsFull : ℕ → ℕ → List Event → Type 0
IsFull limit few script = (limit ≤ few) ⊎ (8370000 < length (lines_text script))

-- The door was asked and nobody came; or one link did, and its connection opened under the number
-- that is next behind these few.
abbrev pub HasAnswered : ℕ → List Move → List Event → List Event → ℕ → Type 0
HasAnswered few moves before after count =
    ((moves ≡ nobody ∷ []) × (after ≡ before) × (count ≡ few))
    ⊎ ((moves ≡ came (few + 1) ∷ []) × (after ≡ before ++ events.Open (few + 1) ∷ [])
    × (count ≡ few + 1))

-- The door was asked once where a link may come, and not at all where none may.
abbrev pub HasBegun : ℕ → ℕ → List Move → List Event → List Event → ℕ → Type 0
HasBegun limit few moves before after count =
    (IsFull limit few before × (moves ≡ []) × (after ≡ before) × (count ≡ few))
    ⊎ (MayAsk limit few before × HasAnswered few moves before after count)

-- A round, up to the link of number n: the door was asked, or not, and then each link had its
-- place.
pub record IsRound (c : Config) (limit : ℕ) (earlier : List Move) (few n : ℕ) (round : List Move)
    (before after : List Event) (count : ℕ) : Type 0 where
  pub first : List Move
  pub between : List Event
  pub begun : HasBegun limit few first before between count
  pub others : List Move
  pub is : round ≡ first ++ others
  pub places : HaveTheirPlaces c (earlier ++ first) n others between after

-- these rounds, one after the other: so many links had come before them, and so many then
abbrev pub AreRounds : Config → ℕ → List (List Move) → List Move → ℕ → List Event → ℕ → List Event
    → Type 0
AreRounds c limit [] earlier few before count after = (count ≡ few) × (after ≡ before)
AreRounds c limit (round ∷ rounds) earlier few before count after =
    (some : ℕ) × (between : List Event) × IsRound c limit earlier few some round before between some
    × AreRounds c limit rounds (earlier ++ round) some between count after
