-- What a connection adds to the histories of its places, and when a place refuses.
use Rattle.std.specs.Prelude.{ℕ, ◌^◌, ◌≤◌, ⊤, ◌&&◌, Bool, true, false, List, map, Contains}
use Rattle.turn_log.specs.History.{History, GoesOn}
use Rattle.turn_log.specs.Heard.{Heard}
use Rattle.mount_ring.specs.declared.call.RingCall.{RingCall}
use Rattle.caster_accounts.specs.declared.call.BookCall.{BookCall}
use Rattle.caster_accounts.specs.declared.call.BookAnswer.{BookAnswer}
use Rattle.caster_accounts.specs.History as books
use Rattle.session_calls.specs.Steps.{Step, on_book}
use Rattle.session_calls.specs.Rings.{Went, WentOn, all_alone}
use Rattle.cast_config.specs.declared.config.Config.{Config}
use Rattle.session_model.specs.declared.ending.Ending.{Ending}
use Rattle.session_model.specs.declared.ending.Ending.TheVariants.{Worn, Memory}
use Rattle.session_model.specs.Setting.{shapes, caps}
use Rattle.session_model.specs.Run.{Histories}

-- what places have seen, the rings in the order of their mountpoints
abbrev pub seen_at : {P B : Type 0} → (P → History RingCall) → (B → History BookCall) → List P → B
    → Histories
seen_at by_ring by_book rings book = record { rings = map by_ring rings; book = by_book book }

-- nobody but the callers of these places takes turns at any of them
abbrev pub alone_at : {P B : Type 0} → (P → Bool) → (B → Bool) → List P → B → Bool
alone_at ring_alone book_alone rings book = all_alone ring_alone rings && book_alone book

-- what a call on the book is answered
abbrev pub book_answer : Config → History BookCall → ℕ → BookCall → BookAnswer
book_answer c history me call = books.answer (caps c) history call

-- The histories went on, and these steps are all the calls that the caller made since, each with
-- the answer at its own point. Where all places are alone, nobody else called.
pub record Called (c : Config) (alone : Bool) (old now : Histories) (me : ℕ) (steps : List Step)
    : Type 0 where
  pub rings : Went (shapes c) alone old.rings now.rings me steps
  pub book : Heard alone (book_answer c) old.book now.book me (on_book steps)

-- between two calls of a session other callers may have gone on, and the session's caller did not
pub record OthersCalled (old now : Histories) (me : ℕ) : Type 0 where
  pub rings : WentOn old.rings now.rings me
  pub book : GoesOn me old.book now.book

-- an ending is one that a place or want of memory gives
abbrev pub is_halt : Ending → Bool
is_halt (Worn turns) = true
is_halt Memory = true
is_halt _ = false

-- Worn tells by how many turns one of these places is worn; want of memory may come at any time
abbrev pub IsCause : List ℕ → Ending → Type 0
IsCause worn (Worn turns) = Contains worn turns × (2 ^ 62 ≤ turns)
IsCause worn _ = ⊤
