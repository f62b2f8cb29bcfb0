-- Frames that were fetched from targets, by the logs of the links that were dialled.
use Rattle.std.specs.Prelude.{◌≡◌, ◌≢◌, ◌-◌, ℕ, ⊤, List, [], ◌∷◌, ◌++◌, length, map, take, Option, None, Some}
use Rattle.std.specs.List.{concat, flat_map}
use Rattle.cast_io.specs.Links.{bytes_in}
use Rattle.cast_io.specs.Logged.{LinkLog, StreetLog, link_logged}
use Rattle.ntrip_client.specs.declared.answer.Answer.{Answer}
use Rattle.ntrip_client.specs.Answer.{IsAnswer}
use Rattle.ntrip_fetch.specs.declared.left.Left.TheVariants.{Enough, Dial}
use Rattle.ntrip_fetch.specs.declared.left.Try.{Try}
use Rattle.ntrip_fetch.specs.declared.target.Target.{Target}
use Rattle.ntrip_fetch.specs.Answered.{answered}
use Rattle.ntrip_fetch.specs.Fetched.{IsLeft}
use Rattle.ntrip_fetch.specs.Request.{target_request}
use Rattle.ntrip_fetch.specs.Steps.{AreNeeded, IsSent}
use Rattle.ntrip_fetch.specs.Tries.{dial_of}
use Rattle.caster_top.specs.Fetching.{TriedEnd}

-- a try, the frames that it wrote, and the link as it logged itself, where one was dialled
pub record RunLog : Type 0 where
  pub tried : Try
  pub frames : List (List ℕ)
  pub link : Option LinkLog

-- a link that was just dialled: it took nothing and was given nothing
abbrev pub unused : LinkLog
unused = record { taken = []; bytes = []; faults = 0 }

-- The link was sent the request for the target, and no step was taken that was not needed. By all
-- bytes that its reads gave, these are the first of the frames that its answer brings, as many as
-- were wanted; and for this it was left.
pub record HasFetched (target : Target) (most : ℕ) (link : LinkLog) (frames : List (List ℕ))
    (tried : Try) : Type 0 where
  pub answer : Answer
  pub needed : AreNeeded most [] link.taken
  pub request : IsSent (target_request target) link.taken link.bytes
  pub says : IsAnswer (bytes_in link.taken) answer
  pub first : frames ≡ take most (answered answer (bytes_in link.taken))
  pub count : tried.frames ≡ length frames
  pub left : IsLeft most (link_logged unused) (link_logged link) link.taken answer tried.frames
      tried.left

-- without a link the dial failed
abbrev pub HasTried : Target → ℕ → Option LinkLog → List (List ℕ) → Try → Type 0
HasTried target most None frames tried =
    (tried ≡ record { frames = 0; left = Dial }) × (frames ≡ [])
HasTried target most (Some link) frames tried = HasFetched target most link frames tried

-- these targets were tried in order, each once, with so many frames wanted, until these were
-- written or all were tried
abbrev pub AreTried : ℕ → List Target → List RunLog → Type 0
AreTried most [] [] = ⊤
AreTried most [] (run ∷ runs) = ⊥
AreTried most (target ∷ targets) [] = ⊥
AreTried most (target ∷ targets) (run ∷ runs) =
    HasTried target most run.link run.frames run.tried
    × (run.tried.left ≡ Enough → runs ≡ [])
    × (run.tried.left ≢ Enough → AreTried (most - run.tried.frames) targets runs)

abbrev pub links_of : Option LinkLog → List LinkLog
links_of None = []
links_of (Some link) = link ∷ []

-- The street was asked for one dial of each of the first so many targets, in order, and each link
-- that was dialled came back to it. All that was written are the frames of these tries, and the
-- status is 0 where these are all that were wanted, and 9 where fewer came of all targets.
pub record HasFetchedAll (most : ℕ) (targets : List Target) (old new : StreetLog)
    (start now : List ℕ) (status : ℕ) : Type 0 where
  pub runs : List RunLog
  pub are : AreTried most targets runs
  pub asked : new.asked ≡ old.asked ++ map dial_of (take (length runs) targets)
  pub doors : new.doors ≡ old.doors
  pub links : new.links ≡ old.links ++ flat_map (λ (run : RunLog). links_of run.link) runs
  pub wrote : now ≡ start ++ concat (flat_map (λ (run : RunLog). run.frames) runs)
  pub ends : TriedEnd most targets (map (λ (run : RunLog). run.tried) runs) status
