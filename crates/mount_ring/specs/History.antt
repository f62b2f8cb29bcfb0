-- The history of a mountpoint: a list of entries, each a caller's number and the call that it made.
-- Who holds the mountpoint, how many claims were given and which frames were published follow from
-- it, and so does the answer of each call at its own point.
use Rattle.std.specs.Prelude.{ℕ, ◌+◌, ◌==◌, nat_le, nat_lt, Bool, true, false, cond, ◌&&◌, List, [], ◌∷◌, ◌++◌, length, map, take, Option, None, Some, unwrap_or, slice_get, fold}
use Rattle.std.specs.List.{count_by}
use Rattle.turn_log.specs.History.{History}
use Rattle.turn_log.specs.Heard.{told}
use Rattle.mount_ring.specs.declared.cursor.Cursor.{Cursor}
use Rattle.mount_ring.specs.declared.call.RingCall.{RingCall}
use Rattle.mount_ring.specs.declared.call.RingCall.TheVariants.{Claim, Release, Publish, Join, Look, Read}
use Rattle.mount_ring.specs.declared.call.RingAnswer.{RingAnswer}
use Rattle.mount_ring.specs.declared.call.RingAnswer.TheVariants as answers
use Rattle.mount_ring.specs.declared.call.Holder.{Holder}
use Rattle.mount_ring.specs.Reads.{read_report, read_frames}

-- what no call changes: how many frames the ring keeps, and the test of each filter by its number
pub record Shape : Type 0 where
  pub capacity : ℕ
  pub filters : List (List ℕ → Bool)

-- the test of the filter of this number; a number without a filter permits nothing
abbrev pub permits_at : Shape → ℕ → List ℕ → Bool
permits_at shape number = unwrap_or (slice_get shape.filters number) (λ _. false)

-- who holds the mountpoint, how many claims were given, and every published frame in order
pub record State : Type 0 where
  pub holder : Option Holder
  pub claims : ℕ
  pub published : List (List ℕ)

-- before the first call
abbrev pub start : State
start = record { holder = None; claims = 0; published = [] }

-- a claim is given where nobody holds the mountpoint, with the next number; else nothing changes
abbrev pub after_claim : State → ℕ → Option Holder → State
after_claim state me None =
    record state {
      holder = Some (record { caller = me; claim = state.claims + 1 });
      claims = state.claims + 1;
    }
after_claim state me (Some holder) = state

-- the state after one call
abbrev pub after_call : State → ℕ → RingCall → State
after_call state me Claim = after_claim state me state.holder
after_call state me (Release claim) = record state { holder = None }
after_call state me (Publish claim frame) =
    record state { published = state.published ++ frame ∷ [] }
after_call state me (Join filter) = state
after_call state me Look = state
after_call state me (Read cursor budget) = state

-- the state after one entry
abbrev pub after : State → (ℕ × RingCall) → State
after state entry = after_call state entry.0 entry.1

-- the state after all entries of a history
abbrev pub state_of : List (ℕ × RingCall) → State
state_of history = fold after start history

-- whether this is the holder, under this claim
abbrev pub is_holder : Option Holder → ℕ → ℕ → Bool
is_holder None me claim = false
is_holder (Some holder) me claim = (holder.caller == me) && (holder.claim == claim)

-- whether a read from this cursor may be made: it stands within what was published, its filter is
-- known, and it counts the permitted frames before it
abbrev pub is_readable : Shape → State → Cursor → Bool
is_readable shape state cursor =
    nat_le cursor.next (length state.published)
    && (nat_lt cursor.filter (length shape.filters)
    && (cursor.passed
    == count_by (permits_at shape cursor.filter) (take cursor.next state.published)))

-- whether a caller may make this call now
abbrev pub fits : Shape → State → ℕ → RingCall → Bool
fits shape state me Claim = true
fits shape state me (Release claim) = is_holder state.holder me claim
fits shape state me (Publish claim frame) = is_holder state.holder me claim
fits shape state me (Join filter) = nat_lt filter (length shape.filters)
fits shape state me Look = true
fits shape state me (Read cursor budget) = is_readable shape state cursor

-- a claim is given with the next number where nobody holds the mountpoint, else it names the holder
abbrev pub claim_answer : State → Option Holder → RingAnswer
claim_answer state None = answers.Given (state.claims + 1)
claim_answer state (Some holder) = answers.Taken holder.caller holder.claim

-- the claim under which a mountpoint is held, if it is held
abbrev pub live_claim : Option Holder → Option ℕ
live_claim None = None
live_claim (Some holder) = Some holder.claim

-- the cursor of one who joins: at the end of what was published
abbrev pub joined : Shape → State → ℕ → Cursor
joined shape state filter = record {
  next = length state.published;
  passed = count_by (permits_at shape filter) state.published;
  filter = filter;
}

-- the answer of a call that is made in this state
abbrev pub answer : Shape → State → RingCall → RingAnswer
answer shape state Claim = claim_answer state state.holder
answer shape state (Release claim) = answers.Released
answer shape state (Publish claim frame) = answers.At (length state.published)
answer shape state (Join filter) = answers.Joined (joined shape state filter)
answer shape state Look = answers.Looked (live_claim state.holder)
answer shape state (Read cursor budget) =
    answers.Read
    (read_report (permits_at shape cursor.filter) shape.capacity state.published cursor budget)

-- the frames that the reader's room holds after a call: those that a read took; other calls leave
-- it as it was
abbrev pub filled : Shape → State → RingCall → List (List ℕ) → List (List ℕ)
filled shape state Claim room = room
filled shape state (Release claim) room = room
filled shape state (Publish claim frame) room = room
filled shape state (Join filter) room = room
filled shape state Look room = room
filled shape state (Read cursor budget) room =
    read_frames (permits_at shape cursor.filter) shape.capacity state.published cursor budget

-- the answers to one caller's calls among more entries that follow a history, each at its own point
abbrev pub answers_since : Shape → ℕ → History RingCall → History RingCall → List RingAnswer
answers_since shape me before more =
    map (λ pair. pair.1)
    (told (λ history by call. answer shape (state_of history) call) me before more)

-- the answers to one caller's calls in a history
abbrev pub own_answers : Shape → ℕ → History RingCall → List RingAnswer
own_answers shape me history = answers_since shape me [] history

-- whether none of these entries is a call of this caller
abbrev pub has_none_of : ℕ → List (ℕ × RingCall) → Bool
has_none_of me [] = true
has_none_of me (entry ∷ entries) = cond (entry.0 == me) false (has_none_of me entries)
