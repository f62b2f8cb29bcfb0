-- In every run all segments of its connections are sound, and frames alone were published.
use Rattle.std.proofs.Common.{◌≡◌, ◌++◌, ℕ, zero, suc, Bool, true, false, IsTrue, List, [], ◌∷◌, map, fold, All, Option, None, Some, refl, sym, subst}
use Rattle.std.specs.Prelude.{nat_lt}
use Rattle.std.proofs.lemmas.List.Sums.{fold-append}
use Rattle.std.proofs.lemmas.List.Elements.{All-head, All-tail, All-cons, All-nil}
use Rattle.rtcm_frame.specs.Transport.{is_frame}
use Rattle.turn_log.specs.History.{History}
use Rattle.mount_ring.specs.declared.call.RingCall.{RingCall}
use Rattle.rover_cursor.specs.declared.segment.Segment.{Segment}
use Rattle.rover_cursor.specs.Told.{published_in}
use Rattle.session_script.specs.declared.Event.{Event}
use Rattle.session_script.specs.declared.Event.TheVariants as events
use Rattle.session_calls.specs.Steps.{Step}
use Rattle.session_calls.specs.Plans.{Plan, left}
use Rattle.session_calls.specs.Rings.{history_at}
use Rattle.rover_session.specs.Made.{after_step, segments_after, owed_among}
use Rattle.cast_config.specs.declared.config.Config.{Config}
use Rattle.cast_config.specs.declared.config.Mount.{Mount}
use Rattle.session_model.specs.declared.ending.Ending.{Ending}
use Rattle.session_model.specs.declared.ending.Last.TheVariants as lasts
use Rattle.session_model.specs.Headings.{Heading}
use Rattle.session_model.specs.Judged.{Opening, sends_head, relays, bare_source, bare_rover, Judged, judged}
use Rattle.session_model.specs.Owed.{came_to, plan_of, closing, Happening, arrives, takes_turn, ends, owed}
use Rattle.session_model.specs.Run.{Histories, Connected, World, Moved, nothing_called, made, with_calls, judged_of, makes, closed_if, with_text, with_last, moved, moved_if, is_concerned, happens_in, happens, placed_if, placed, is_opened, opened_if, fresh, opens, after_event, after_events, closes, world}
use Rattle.session_model.proofs.GoodLemmas.{IsGood, good_left, good_plan, good_closing}
use Rattle.session_model.proofs.KeepLemmas.{Later, later_same, later_both, AllSound, all_later, AreFrames, Kept, plan_keeps, turn_keeps}

-- ---- one connection

abbrev pub IsSoundOf : Config → List (History RingCall) → Connected → Type 0
IsSoundOf c h d = AllSound c h (segments_after [] d.steps)

pub record Moves (c : Config) (old : Histories) (m : Moved) : Type 0 where
  pub later : Later old.rings m.histories.rings
  pub frames : AreFrames m.histories.rings
  pub sound : IsSoundOf c m.histories.rings m.connection

-- more steps, and what they make of the segments
more_steps : (c : Config) (old now : Histories) (d : Connected) (steps : List Step)
    → Kept c old now (segments_after (segments_after [] d.steps) steps)
    → Kept c old now (segments_after [] (d.steps ++ steps))
more_steps c old now d steps kept =
    subst (λ (segments : List Segment). Kept c old now segments) (sym (fold-append after_step [] d.steps steps)) kept

by_kept : (c : Config) (h : Histories) (d : Connected) (plan : Plan)
    → Kept c h (with_calls d.number h (made c d.number h plan)) (segments_after (segments_after [] d.steps)
    (made c d.number h plan))
    → Moves c h (makes c h d plan)
by_kept c h d plan kept =
    let all = more_steps c h (with_calls d.number h (made c d.number h plan)) d (made c d.number h plan) kept in
    record { later = all.later; frames = all.frames; sound = all.sound }

pub makes_moves : (c : Config) (h : Histories) (d : Connected) (plan : Plan) → IsGood plan → AreFrames h.rings
    → IsSoundOf c h.rings d → Moves c h (makes c h d plan)
makes_moves c h d plan good frames sound =
    by_kept c h d plan (plan_keeps c d.number h (segments_after [] d.steps) plan good frames sound)

pub closing_good : (j : Judged) (steps : List Step) → IsGood (closing j steps)
closing_good j steps = good_closing (came_to j steps) (segments_after [] steps)

closed_moves : (end : Option Ending) (c : Config) (j : Judged) (old : Histories) (m : Moved) → Moves c old m
    → Moves c old (closed_if end c j m)
closed_moves None c j old m moves = moves
closed_moves (Some end) c j old m moves =
    let more = makes_moves c m.histories m.connection (closing j m.connection.steps)
    (closing_good j m.connection.steps) moves.frames moves.sound in
    record {
      later = later_both old.rings m.histories.rings _ moves.later more.later;
      frames = more.frames;
      sound = more.sound;
    }

pub moved_moves : (c : Config) (heading : Heading) (h : Histories) (d : Connected) (what : Happening)
    → AreFrames h.rings
    → IsSoundOf c h.rings d → Moves c h (moved c heading h d what)
moved_moves c heading h d (arrives more) frames sound =
    let now = with_text d (d.text ++ more) in
    let plan = plan_of c (judged c d.opening heading (d.text ++ more)) in
    closed_moves _ c (judged_of c heading now) h (makes c h now (left plan (owed_among d.steps)))
    (makes_moves c h now (left plan (owed_among d.steps))
    (good_left plan (owed_among d.steps) (good_plan c (judged c d.opening heading (d.text ++ more)))) frames sound)
moved_moves c heading h d (takes_turn budget) frames sound =
    by_kept c h d (owed c d.opening heading d.text d.steps (takes_turn budget))
    (turn_keeps c d.number h (segments_after [] d.steps) budget frames sound)
moved_moves c heading h d (ends last) frames sound =
    makes_moves c h (with_last d last) (closing (judged c d.opening heading d.text) d.steps)
    (closing_good (judged c d.opening heading d.text) d.steps) frames sound

moved_if_moves : (concerned : Bool) (c : Config) (heading : Heading) (h : Histories) (d : Connected) (what : Happening)
    → AreFrames h.rings → IsSoundOf c h.rings d → Moves c h (moved_if concerned c heading h d what)
moved_if_moves true c heading h d what frames sound = moved_moves c heading h d what frames sound
moved_if_moves false c heading h d what frames sound =
    record { later = later_same h.rings; frames = frames; sound = sound }

-- ---- all of them

abbrev pub AreSound : Config → List (History RingCall) → List Connected → Type 0
AreSound c h ds = All (IsSoundOf c h) ds

are_later : (c : Config) (old now : List (History RingCall)) (ds : List Connected) → Later old now
    → AreSound c old ds → AreSound c now ds
are_later c old now [] later all = All-nil (IsSoundOf c now)
are_later c old now (d ∷ ds) later all =
    All-cons (IsSoundOf c now) d ds
    (all_later c old now (segments_after [] d.steps) later (All-head (IsSoundOf c old) d ds all))
    (are_later c old now ds later (All-tail (IsSoundOf c old) d ds all))

record IsWellAfter (c : Config) (old : Histories) (w : World) : Type 0 where
  later : Later old.rings w.histories.rings
  frames : AreFrames w.histories.rings
  sound : AreSound c w.histories.rings w.connections

happens_well : (c : Config) (headings : ℕ → Heading) (number : ℕ) (what : Happening) (h : Histories)
    (ds : List Connected)
    → AreFrames h.rings → AreSound c h.rings ds → IsWellAfter c h (happens_in c headings number what h ds)
happens_well c headings number what h [] frames all =
    record { later = later_same h.rings; frames = frames; sound = All-nil (IsSoundOf c h.rings) }
happens_well c headings number what h (d ∷ ds) frames all =
    let m = moved_if (is_concerned c (headings d.number) number d) c (headings d.number) h d what in
    let first = moved_if_moves (is_concerned c (headings d.number) number d) c (headings d.number) h d what frames
    (All-head (IsSoundOf c h.rings) d ds all) in
    let rest = happens_well c headings number what m.histories ds first.frames
    (are_later c h.rings m.histories.rings ds first.later (All-tail (IsSoundOf c h.rings) d ds all)) in
    let w = happens_in c headings number what m.histories ds in
    record {
      later = later_both h.rings m.histories.rings w.histories.rings first.later rest.later;
      frames = rest.frames;
      sound = All-cons (IsSoundOf c w.histories.rings) m.connection w.connections
          (all_later c m.histories.rings w.histories.rings (segments_after [] m.connection.steps) rest.later
          first.sound)
          rest.sound;
    }

-- ---- the run

pub record IsWell (c : Config) (w : World) : Type 0 where
  pub frames : AreFrames w.histories.rings
  pub sound : AreSound c w.histories.rings w.connections

pub happens_stays : (c : Config) (headings : ℕ → Heading) (w : World) (number : ℕ) (what : Happening) → IsWell c w
    → IsWell c (happens c headings w number what)
happens_stays c headings w number what well =
    let now = happens_well c headings number what w.histories w.connections well.frames well.sound in
    record { frames = now.frames; sound = now.sound }

placed_well : (c : Config) (h : List (History RingCall)) (d : Connected) (ds : List Connected) → IsSoundOf c h d
    → AreSound c h ds → AreSound c h (placed d ds)
placed_well c h d [] one all = All-cons (IsSoundOf c h) d [] one all
placed_well c h d (e ∷ more) one all =
    let behind = placed_well c h d more one (All-tail (IsSoundOf c h) e more all) in
    elim (nat_lt e.number d.number) as (λ b. AreSound c h (placed_if b d e more (placed d more))) [
      | true ↦ All-cons (IsSoundOf c h) e (placed d more) (All-head (IsSoundOf c h) e more all) behind
      | false ↦ All-cons (IsSoundOf c h) d (e ∷ more) one all
    ]

opened_well : (c : Config) (known : Bool) (w : World) (m : Moved) → IsWell c w → Moves c w.histories m
    → IsWell c (opened_if known w m)
opened_well c true w m well moves = well
opened_well c false w m well moves = record {
  frames = moves.frames;
  sound = placed_well c m.histories.rings m.connection w.connections moves.sound
      (are_later c w.histories.rings m.histories.rings w.connections moves.later well.sound);
}

pub opens_stays : (c : Config) (headings : ℕ → Heading) (w : World) (number : ℕ) (opening : Opening) → IsWell c w
    → IsWell c (opens c headings w number opening)
opens_stays c headings w number opening well =
    opened_well c (is_opened number w.connections) w (moved c (headings number) w.histories (fresh number opening)
    (arrives []))
    well (moved_moves c (headings number) w.histories (fresh number opening) (arrives []) well.frames (All-nil _))

pub event_stays : (c : Config) (headings : ℕ → Heading) (w : World) (event : Event) → IsWell c w
    → IsWell c (after_event c headings w event)
event_stays c headings w (events.Source number mount) well = opens_stays c headings w number (bare_source mount) well
event_stays c headings w (events.Rover number mount) well = opens_stays c headings w number (bare_rover mount) well
event_stays c headings w (events.Open number) well = opens_stays c headings w number sends_head well
event_stays c headings w (events.Relay number relay) well = opens_stays c headings w number (relays relay) well
event_stays c headings w (events.In number bytes) well = happens_stays c headings w number (arrives bytes) well
event_stays c headings w (events.Turn number budget) well = happens_stays c headings w number (takes_turn budget) well
event_stays c headings w (events.Break number) well = happens_stays c headings w number (ends lasts.ReadFault) well
event_stays c headings w (events.End number) well = happens_stays c headings w number (ends lasts.End) well

all_events : (c : Config) (headings : ℕ → Heading) (w : World) (list : List Event) → IsWell c w
    → IsWell c (fold (after_event c headings) w list)
all_events c headings w [] well = well
all_events c headings w (event ∷ more) well =
    all_events c headings (after_event c headings w event) more (event_stays c headings w event well)

all_closed : (c : Config) (headings : ℕ → Heading) (w : World) (numbers : List ℕ) → IsWell c w
    → IsWell c (closes c headings w numbers)
all_closed c headings w [] well = well
all_closed c headings w (number ∷ more) well =
    all_closed c headings (happens c headings w number (ends lasts.End)) more
    (happens_stays c headings w number (ends lasts.End) well)

-- before the first call nothing was published
abbrev nothing : Mount → History RingCall
nothing mount = []

none_called : (mounts : List Mount) (at : ℕ) → history_at (map nothing mounts) at ≡ []
none_called [] at = refl
none_called (mount ∷ mounts) zero = refl
none_called (mount ∷ mounts) (suc at) = none_called mounts at

pub events_well : (c : Config) (headings : ℕ → Heading) (list : List Event) → IsWell c (after_events c headings list)
events_well c headings list =
    all_events c headings (record { connections = []; histories = nothing_called c }) list
    (record {
      frames = λ mount. subst (λ (h : History RingCall). All (λ frame. IsTrue (is_frame frame)) (published_in h))
          (sym (none_called c.mount mount)) (All-nil _);
      sound = All-nil _;
    })

pub world_well : (c : Config) (headings : ℕ → Heading) (list : List Event) → IsWell c (world c headings list)
world_well c headings list =
    all_closed c headings (after_events c headings list)
    (map (λ (d : Connected). d.number) (after_events c headings list).connections)
    (events_well c headings list)
