-- A recorded run: what each connection sent and called, and the histories of all mountpoints and
-- of the book, as they follow from a list of events.
use Rattle.std.specs.Prelude.{ℕ, ◌==◌, ◌&&◌, nat_lt, Bool, true, false, List, [], ◌∷◌, ◌++◌, map, fold, set, Option, None, Some}
use Rattle.std.specs.List.{list_any}
use Rattle.turn_log.specs.History.{History}
use Rattle.mount_ring.specs.declared.call.RingCall.{RingCall}
use Rattle.caster_accounts.specs.declared.call.BookCall.{BookCall}
use Rattle.caster_accounts.specs.History as books
use Rattle.session_script.specs.declared.Event.{Event}
use Rattle.session_script.specs.declared.Event.TheVariants as events
use Rattle.session_calls.specs.Steps.{Ask, to_ring, to_book, Step, at_ring, at_book, ask_of, answer_of}
use Rattle.session_calls.specs.Plans.{Plan, done, asks}
use Rattle.session_calls.specs.Rings.{history_at, answer_at}
use Rattle.cast_config.specs.declared.config.Config.{Config}
use Rattle.cast_config.specs.declared.config.Mount.{Mount}
use Rattle.session_model.specs.declared.ending.Ending.{Ending}
use Rattle.session_model.specs.declared.ending.Last.{Last}
use Rattle.session_model.specs.declared.ending.Last.TheVariants as lasts
use Rattle.session_model.specs.Setting.{shapes, caps}
use Rattle.session_model.specs.Headings.{Heading}
use Rattle.session_model.specs.Judged.{Opening, sends_head, relays, bare_source, bare_rover, Judged, judged}
use Rattle.session_model.specs.Owed.{came_to, Happening, arrives, takes_turn, ends, closing, owed}
use Rattle.session_model.specs.Endings.{ended_by, goes_on}

-- ---- what was called

-- of each mountpoint, by its number, and of the book
pub record Histories : Type 0 where
  pub rings : List (History RingCall)
  pub book : History BookCall

-- before the first call
abbrev pub nothing_called : Config → Histories
nothing_called c = record { rings = map (λ (mount : Mount). []) c.mount; book = [] }

-- after one more call of this caller
abbrev pub with_call : ℕ → Histories → Ask → Histories
with_call me h (to_ring mount call) = record {
  rings = set h.rings mount (history_at h.rings mount ++ (me, call) ∷ []);
  book = h.book;
}
with_call me h (to_book call) = record { rings = h.rings; book = h.book ++ (me, call) ∷ [] }

abbrev pub with_calls : ℕ → Histories → List Step → Histories
with_calls me h steps = fold (λ h (step : Step). with_call me h (ask_of step)) h steps

-- a call with its answer at this point
abbrev pub step_at : Config → ℕ → Histories → Ask → Step
step_at c me h (to_ring mount call) =
    at_ring mount call (answer_at (shapes c) mount (history_at h.rings mount) me call)
step_at c me h (to_book call) = at_book call (books.answer (caps c) h.book call)

-- a whole plan, where nobody else calls in between
abbrev pub made : Config → ℕ → Histories → Plan → List Step
made c me h done = []
made c me h (asks ask next) =
    let step = step_at c me h ask in
    step ∷ made c me (with_call me h ask) (next (answer_of step))

-- ---- connections

-- its number, which is that of its caller too; how it opened; all bytes that came in on it while it
-- went on; all that it called, in order; and how it was closed, if it was
pub record Connected : Type 0 where
  pub number : ℕ
  pub opening : Opening
  pub text : List ℕ
  pub steps : List Step
  pub closed : Option Last

-- the connections that were opened, in increasing order of number, and what was called
pub record World : Type 0 where
  pub connections : List Connected
  pub histories : Histories

-- a connection with the histories that its calls left
pub record Moved : Type 0 where
  pub connection : Connected
  pub histories : Histories

abbrev pub judged_of : Config → Heading → Connected → Judged
judged_of c heading d = judged c d.opening heading d.text

-- it makes a plan
abbrev pub makes : Config → Histories → Connected → Plan → Moved
makes c h d plan =
    let steps = made c d.number h plan in
    record {
      connection = record {
        number = d.number;
        opening = d.opening;
        text = d.text;
        steps = d.steps ++ steps;
        closed = d.closed;
      };
      histories = with_calls d.number h steps;
    }

-- a connection that ended by itself is closed at once
abbrev pub closed_if : Option Ending → Config → Judged → Moved → Moved
closed_if None c judged moved = moved
closed_if (Some end) c judged moved =
    makes c moved.histories moved.connection (closing judged moved.connection.steps)

-- it makes what it owes for what happened, and with it is what it is now
abbrev pub goes_to : Config → Heading → Histories → Connected → Plan → Moved
goes_to c heading h now plan =
    let moved = makes c h now plan in
    let judged = judged_of c heading now in
    closed_if (ended_by (came_to judged moved.connection.steps)) c judged moved

abbrev pub with_text : Connected → List ℕ → Connected
with_text d text = record {
  number = d.number;
  opening = d.opening;
  text = text;
  steps = d.steps;
  closed = d.closed;
}

abbrev pub with_last : Connected → Last → Connected
with_last d last = record {
  number = d.number;
  opening = d.opening;
  text = d.text;
  steps = d.steps;
  closed = Some last;
}

abbrev pub moved : Config → Heading → Histories → Connected → Happening → Moved
moved c heading h d (arrives more) =
    goes_to c heading h (with_text d (d.text ++ more))
    (owed c d.opening heading d.text d.steps (arrives more))
moved c heading h d (takes_turn budget) =
    makes c h d (owed c d.opening heading d.text d.steps (takes_turn budget))
moved c heading h d (ends last) =
    makes c h (with_last d last) (owed c d.opening heading d.text d.steps (ends last))

abbrev pub moved_if : (concerned : Bool) → Config → Heading → Histories → Connected → Happening
    → Moved
moved_if true c heading h d what = moved c heading h d what
moved_if false c heading h d what = record { connection = d; histories = h }

-- ---- the run

-- whether what happens to this number concerns the connection: it is the one, and it goes on
abbrev pub is_concerned : Config → Heading → ℕ → Connected → Bool
is_concerned c heading number d =
    (d.number == number) && goes_on (judged_of c heading d) d.steps d.closed

-- one connection after the other
abbrev pub happens_in : Config → (ℕ → Heading) → ℕ → Happening → Histories → List Connected → World
happens_in c headings number what h [] = record { connections = []; histories = h }
happens_in c headings number what h (d ∷ more) =
    let first = moved_if (is_concerned c (headings d.number) number d) c
    (headings d.number) h d what in
    let rest = happens_in c headings number what first.histories more in
    record { connections = first.connection ∷ rest.connections; histories = rest.histories }

abbrev pub happens : Config → (ℕ → Heading) → World → ℕ → Happening → World
happens c headings w number what = happens_in c headings number what w.histories w.connections

-- a connection among others, in increasing order of number
abbrev pub placed_if : (same_number : Bool) → Connected → Connected → List Connected
    → List Connected
    → List Connected
placed_if true d e more behind = e ∷ behind
placed_if false d e more behind = d ∷ e ∷ more

abbrev pub placed : Connected → List Connected → List Connected
placed d [] = d ∷ []
placed d (e ∷ more) = placed_if (nat_lt e.number d.number) d e more (placed d more)

-- whether a connection of this number was opened
abbrev pub is_opened : ℕ → List Connected → Bool
is_opened number connections = list_any (λ (d : Connected). d.number == number) connections

abbrev pub opened_if : (opened : Bool) → World → Moved → World
opened_if true w first = w
opened_if false w first = record {
  connections = placed first.connection w.connections;
  histories = first.histories;
}

-- a connection that was just opened
abbrev pub fresh : ℕ → Opening → Connected
fresh number opening =
    record { number = number; opening = opening; text = []; steps = []; closed = None }

-- a connection opens; a number that was opened before changes nothing
abbrev pub opens : Config → (ℕ → Heading) → World → ℕ → Opening → World
opens c headings w number opening =
    opened_if (is_opened number w.connections) w
    (moved c (headings number) w.histories (fresh number opening) (arrives []))

-- the run after one more event
abbrev pub after_event : Config → (ℕ → Heading) → World → Event → World
after_event c headings w (events.Source number mount) = opens c headings w number
    (bare_source mount)
after_event c headings w (events.Rover number mount) = opens c headings w number (bare_rover mount)
after_event c headings w (events.Open number) = opens c headings w number sends_head
after_event c headings w (events.Relay number relay) = opens c headings w number (relays relay)
after_event c headings w (events.In number bytes) = happens c headings w number (arrives bytes)
after_event c headings w (events.Turn number budget) = happens c headings w number
    (takes_turn budget)
after_event c headings w (events.Break number) = happens c headings w number (ends lasts.ReadFault)
after_event c headings w (events.End number) = happens c headings w number (ends lasts.End)

-- the run after all these events
abbrev pub after_events : Config → (ℕ → Heading) → List Event → World
after_events c headings events =
    fold (after_event c headings) (record { connections = []; histories = nothing_called c }) events

-- the connections of these numbers come to their end, one after the other
abbrev pub closes : Config → (ℕ → Heading) → World → List ℕ → World
closes c headings w numbers =
    fold (λ w number. happens c headings w number (ends lasts.End)) w numbers

-- the whole run: after the last event, the connections that are open come to their end in
-- increasing order of number
abbrev pub world : Config → (ℕ → Heading) → List Event → World
world c headings events =
    let w = after_events c headings events in
    closes c headings w (map (λ (d : Connected). d.number) w.connections)
