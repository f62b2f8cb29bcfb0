-- The porter: a caller that waits at a console until nothing is wanted there any more, and that
-- puts lines which say how things stand each time that this is wanted.
use Rattle.std.specs.Prelude.{◌≡◌, ℕ, ◌+◌, ◌^◌, ◌≤◌, ◌⊎◌, Bool, true, false, IsTrue, List, [], ◌∷◌, ◌++◌, length, map, get_or, Option, None, Some}
use Rattle.std.specs.List.{All, flat_map, list_any}
use Rattle.mount_ring.specs.declared.cursor.Cursor.{Cursor}
use Rattle.mount_ring.specs.declared.call.RingCall.TheVariants as calls
use Rattle.mount_ring.specs.declared.call.RingAnswer.TheVariants as answers
use Rattle.session_calls.specs.Steps.{Step, at_ring}
use Rattle.session_calls.specs.Rings.{Went}
use Rattle.cast_config.specs.declared.config.Config.{Config}
use Rattle.session_model.specs.Run.{Histories}
use Rattle.session_model.specs.Setting.{shapes}
use Rattle.keep_lines.specs.Lines.{now_end_line, now_mount_line, now_workers_line}
use Rattle.cast_console.specs.Consoles.{ConsoleTold}
use Rattle.keep_porter.specs.declared.found.Found.{Found}

-- ---- at the mountpoints

-- whether it is held: the call at the mountpoint of this number that found so, with its answer
abbrev pub looks_at : ℕ → Option (Option ℕ) → List Step
looks_at mount None = []
looks_at mount (Some claim) = at_ring mount calls.Look (answers.Looked claim) ∷ []

-- and where one stands who joins there by the filter of the first group
abbrev pub joins_at : ℕ → Option Cursor → List Step
joins_at mount None = []
joins_at mount (Some cursor) = at_ring mount (calls.Join 0) (answers.Joined cursor) ∷ []

abbrev pub steps_at : ℕ → Found → List Step
steps_at mount found = looks_at mount found.looked ++ joins_at mount found.joined

-- at mountpoints that are numbered from this number on, in order
abbrev pub steps_from : ℕ → List Found → List Step
steps_from n [] = []
steps_from n (found ∷ more) = steps_at n found ++ steps_from (n + 1) more

-- a turn may be refused: one of the places was asked for 2^62 turns or more, or may lack memory
abbrev pub MayShut : (lacks : Bool) → List ℕ → Type 0
MayShut lacks worn = ((place : ℕ) × (2 ^ 62 ≤ get_or worn place 0)) ⊎ IsTrue lacks

-- one of these may lack memory
abbrev pub any_lacks : (lacks : List Bool) → Bool
any_lacks lacks = list_any (λ (one : Bool). one) lacks

-- a call was refused only where turns may be
pub record IsFound (lacks : Bool) (worn : List ℕ) (found : Found) : Type 0 where
  pub looked : found.looked ≡ None → MayShut lacks worn
  pub joined : found.joined ≡ None → MayShut lacks worn

-- ---- what is said

-- how many frames were published at a mountpoint, where that is known
abbrev pub published_of : Option Cursor → Option ℕ
published_of None = None
published_of (Some cursor) = Some cursor.next

-- the claim under which it is held, where it is, and that is known
abbrev pub claim_of : Option (Option ℕ) → Option ℕ
claim_of None = None
claim_of (Some claim) = claim

abbrev pub mount_line : Config → ℕ → Found → List ℕ
mount_line c mount found =
    now_mount_line c mount (published_of found.joined) (claim_of found.looked)

-- of mountpoints that are numbered from this number on, in order
abbrev pub mount_lines : Config → ℕ → List Found → List (List ℕ)
mount_lines c n [] = []
mount_lines c n (found ∷ more) = mount_line c n found ∷ mount_lines c (n + 1) more

-- One answer: how many workers were busy, as the console told when it was wanted, and what was
-- found then at the mountpoints, in their order.
pub record Answer : Type 0 where
  pub busy : ℕ
  pub found : List Found

abbrev pub busy_of : Answer → ℕ
busy_of answer = answer.busy

-- its calls, in order
abbrev pub steps_of : Answer → List Step
steps_of answer = steps_from 0 answer.found

-- the lines behind those of the mountpoints
abbrev pub last_lines : Config → ℕ → List (List ℕ)
last_lines c busy = now_workers_line c busy ∷ now_end_line ∷ []

-- its lines, in order
abbrev pub answer_lines : Config → Answer → List (List ℕ)
answer_lines c answer = mount_lines c 0 answer.found ++ last_lines c answer.busy

-- it is of every mountpoint
abbrev pub IsOfAll : Config → Answer → Type 0
IsOfAll c answer = length answer.found ≡ length c.mount

-- each call of it was answered, but where turns may be refused
abbrev pub AreFound : (lacks : Bool) → List ℕ → Answer → Type 0
AreFound lacks worn answer = All (IsFound lacks worn) answer.found

-- ---- all of it

-- The porter of this number waited at its console until nothing was wanted there any more. It gave
-- these answers, each of every mountpoint: one each time that the console told that it is wanted how
-- things stand, with the number of busy workers that the console told then. At the mountpoints it
-- made the calls of these answers and no others, each answered at its own point, and refused only
-- where one of its places was worn by so many turns, or may lack memory; in the book it called
-- nothing. The texts are all lines of all of its answers, in order.
pub record HasAnswered (c : Config) (me : ℕ) (lacks : Bool) (worn : List ℕ)
    (start now : Histories) (before after : ConsoleTold) (given : List Answer)
    (texts : List (List ℕ)) : Type 0 where
  pub told : after.busy ≡ before.busy ++ map busy_of given
  pub went : Went (shapes c) false start.rings now.rings me (flat_map steps_of given)
  pub book : now.book ≡ start.book
  pub found : All (AreFound lacks worn) given
  pub whole : All (IsOfAll c) given
  pub said : texts ≡ flat_map (answer_lines c) given
  pub over : after.over ≡ true
