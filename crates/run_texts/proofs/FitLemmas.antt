-- The report of every run fits its configuration: there is a total for each mountpoint and a sum
-- for each named account.
use Rattle.std.proofs.Common.{◌≡◌, ◌∙◌, ◌++◌, ℕ, Bool, true, false, List, [], ◌∷◌, length, map, fold, refl, sym, subst, Option, None, Some}
use Rattle.std.proofs.lemmas.List.{length-map, length-set}
use Rattle.session_script.specs.declared.Event.{Event}
use Rattle.session_script.specs.declared.Event.TheVariants as events
use Rattle.session_calls.specs.Steps.{Ask, to_ring, to_book, Step, ask_of}
use Rattle.session_calls.specs.Plans.{Plan}
use Rattle.session_calls.specs.Rings.{history_at}
use Rattle.cast_config.specs.declared.config.Config.{Config}
use Rattle.cast_config.specs.declared.config.Mount.{Mount}
use Rattle.session_model.specs.declared.ending.Ending.{Ending}
use Rattle.session_model.specs.declared.ending.Last.TheVariants as lasts
use Rattle.session_model.specs.declared.report.Report.{Report}
use Rattle.session_model.specs.Headings.{Heading}
use Rattle.session_model.specs.Judged.{Opening, sends_head, relays, bare_source, bare_rover, Judged}
use Rattle.session_model.specs.Owed.{came_to, closing, Happening, arrives, takes_turn, ends, owed}
use Rattle.session_model.specs.Endings.{ended_by}
use Rattle.session_model.proofs.ReportSums.{sums_long}
use Rattle.session_model.specs.Reports.{IsReport, report, mount_total}
use Rattle.caster_warm.specs.Warm.{IsWarmReport, warm_report}
use Rattle.session_model.specs.Run.{Histories, Connected, World, Moved, nothing_called, with_call, with_calls, made, judged_of, makes, closed_if, with_text, with_last, moved, moved_if, is_concerned, happens_in, happens, is_opened, opened_if, fresh, opens, after_event, after_events, closes, world}

-- ---- the rings stay as many

call_long : (me : ℕ) (h : Histories) (ask : Ask) → length (with_call me h ask).rings ≡ length h.rings
call_long me h (to_ring mount call) = length-set h.rings mount (history_at h.rings mount ++ (me, call) ∷ [])
call_long me h (to_book call) = refl

calls_long : (me : ℕ) (steps : List Step) (h : Histories) → length (with_calls me h steps).rings ≡ length h.rings
calls_long me [] h = refl
calls_long me (step ∷ steps) h =
    calls_long me steps (with_call me h (ask_of step)) ∙ call_long me h (ask_of step)

-- as many rings as before
abbrev IsLong : Histories → Moved → Type 0
IsLong old m = length m.histories.rings ≡ length old.rings

makes_long : (c : Config) (h : Histories) (d : Connected) (plan : Plan) → IsLong h (makes c h d plan)
makes_long c h d plan = calls_long d.number (made c d.number h plan) h

closed_long : (end : Option Ending) (c : Config) (j : Judged) (old : Histories) (m : Moved) → IsLong old m
    → IsLong old (closed_if end c j m)
closed_long None c j old m long = long
closed_long (Some end) c j old m long =
    makes_long c m.histories m.connection (closing j m.connection.steps) ∙ long

moved_long : (c : Config) (heading : Heading) (h : Histories) (d : Connected) (what : Happening)
    → IsLong h (moved c heading h d what)
moved_long c heading h d (arrives more) =
    let now = with_text d (d.text ++ more) in
    let plan = owed c d.opening heading d.text d.steps (arrives more) in
    let judged = judged_of c heading now in
    closed_long (ended_by (came_to judged (makes c h now plan).connection.steps)) c judged h (makes c h now plan)
    (makes_long c h now plan)
moved_long c heading h d (takes_turn budget) =
    makes_long c h d (owed c d.opening heading d.text d.steps (takes_turn budget))
moved_long c heading h d (ends last) =
    makes_long c h (with_last d last) (owed c d.opening heading d.text d.steps (ends last))

moved_if_long : (concerned : Bool) (c : Config) (heading : Heading) (h : Histories) (d : Connected) (what : Happening)
    → IsLong h (moved_if concerned c heading h d what)
moved_if_long true c heading h d what = moved_long c heading h d what
moved_if_long false c heading h d what = refl

happens_long : (c : Config) (headings : ℕ → Heading) (number : ℕ) (what : Happening) (h : Histories)
    (ds : List Connected) → length (happens_in c headings number what h ds).histories.rings ≡ length h.rings
happens_long c headings number what h [] = refl
happens_long c headings number what h (d ∷ ds) =
    let m = moved_if (is_concerned c (headings d.number) number d) c (headings d.number) h d what in
    happens_long c headings number what m.histories ds
    ∙ moved_if_long (is_concerned c (headings d.number) number d) c (headings d.number) h d what

-- ---- the run

-- a run has so many rings
abbrev HasRings : ℕ → World → Type 0
HasRings n w = length w.histories.rings ≡ n

happens_stays : (c : Config) (headings : ℕ → Heading) (n : ℕ) (w : World) (number : ℕ) (what : Happening)
    → HasRings n w → HasRings n (happens c headings w number what)
happens_stays c headings n w number what long =
    happens_long c headings number what w.histories w.connections ∙ long

opened_long : (n : ℕ) (known : Bool) (w : World) (m : Moved) → HasRings n w → IsLong w.histories m
    → HasRings n (opened_if known w m)
opened_long n true w m long moves = long
opened_long n false w m long moves = moves ∙ long

opens_stays : (c : Config) (headings : ℕ → Heading) (n : ℕ) (w : World) (number : ℕ) (opening : Opening)
    → HasRings n w → HasRings n (opens c headings w number opening)
opens_stays c headings n w number opening long =
    let first = moved c (headings number) w.histories (fresh number opening) (arrives []) in
    opened_long n (is_opened number w.connections) w first long
    (moved_long c (headings number) w.histories (fresh number opening) (arrives []))

event_stays : (c : Config) (headings : ℕ → Heading) (n : ℕ) (w : World) (event : Event) → HasRings n w
    → HasRings n (after_event c headings w event)
event_stays c headings n w (events.Source number mount) long =
    opens_stays c headings n w number (bare_source mount) long
event_stays c headings n w (events.Rover number mount) long = opens_stays c headings n w number (bare_rover mount) long
event_stays c headings n w (events.Open number) long = opens_stays c headings n w number sends_head long
event_stays c headings n w (events.Relay number relay) long = opens_stays c headings n w number (relays relay) long
event_stays c headings n w (events.In number bytes) long = happens_stays c headings n w number (arrives bytes) long
event_stays c headings n w (events.Turn number budget) long =
    happens_stays c headings n w number (takes_turn budget) long
event_stays c headings n w (events.Break number) long =
    happens_stays c headings n w number (ends lasts.ReadFault) long
event_stays c headings n w (events.End number) long = happens_stays c headings n w number (ends lasts.End) long

all_events : (c : Config) (headings : ℕ → Heading) (n : ℕ) (w : World) (list : List Event) → HasRings n w
    → HasRings n (fold (after_event c headings) w list)
all_events c headings n w [] long = long
all_events c headings n w (event ∷ more) long =
    all_events c headings n (after_event c headings w event) more (event_stays c headings n w event long)

all_closed : (c : Config) (headings : ℕ → Heading) (n : ℕ) (w : World) (numbers : List ℕ) → HasRings n w
    → HasRings n (closes c headings w numbers)
all_closed c headings n w [] long = long
all_closed c headings n w (number ∷ more) long =
    all_closed c headings n (happens c headings w number (ends lasts.End)) more
    (happens_stays c headings n w number (ends lasts.End) long)

world_long : (c : Config) (headings : ℕ → Heading) (list : List Event)
    → HasRings (length c.mount) (world c headings list)
world_long c headings list =
    all_closed c headings (length c.mount) (after_events c headings list)
    (map (λ (d : Connected). d.number) (after_events c headings list).connections)
    (all_events c headings (length c.mount) (record { connections = []; histories = nothing_called c }) list
    (length-map c.mount (λ (mount : Mount). [])))

-- ---- the report

-- what a report's text asks of it
pub record Fits (c : Config) (r : Report) : Type 0 where
  pub mounts : length r.closed.mounts ≡ length c.mount
  pub accounts : length r.closed.accounts ≡ length c.account

report_fits : (c : Config) (headings : ℕ → Heading) (script : List Event) → Fits c (report c headings script)
report_fits c headings script =
    let w = world c headings script in
    record {
      mounts = length-map w.histories.rings mount_total ∙ world_long c headings script;
      accounts = sums_long 1 w.histories c.account;
    }

pub fits : (c : Config) (script : List Event) (r : Report) → IsReport c script r → Fits c r
fits c script r is = subst (Fits c) (sym is.2) (report_fits c is.0 script)

-- greetings leave what the mountpoints and the accounts came to
warm_fits : (c : Config) (headings : ℕ → Heading) (script : List Event) → Fits c (warm_report c headings script)
warm_fits c headings script =
    let plain = report_fits c headings script in
    record { mounts = plain.mounts; accounts = plain.accounts }

pub fits_greeted : (c : Config) (script : List Event) (r : Report) → IsWarmReport c script r → Fits c r
fits_greeted c script r is = subst (Fits c) (sym is.2) (warm_fits c is.0 script)
