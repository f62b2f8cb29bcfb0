-- What is told of a recorded run: of each connection its receipt and its bytes, and what the
-- mountpoints and accounts came to.
use Rattle.std.specs.Prelude.{◌≡◌, ℕ, ◌+◌, ◌==◌, Bool, true, false, if◌then◌else◌, List, [], ◌∷◌, ◌++◌, length, map, reverse, Option, None, Some, unwrap_or}
use Rattle.rtcm_frame.specs.Cut.{cut}
use Rattle.mount_ring.specs.declared.call.RingCall.{RingCall}
use Rattle.mount_ring.specs.History.{state_of}
use Rattle.turn_log.specs.History.{History}
use Rattle.caster_accounts.specs.declared.account.Sum.{Sum}
use Rattle.caster_accounts.specs.Sums.{total}
use Rattle.rover_cursor.specs.declared.segment.Segment.{Segment}
use Rattle.session_script.specs.declared.Event.{Event}
use Rattle.session_script.specs.declared.Event.TheVariants as events
use Rattle.source_session.specs.Body.{payload}
use Rattle.rover_session.specs.Made.{segments_after, sent_in, overrun_in}
use Rattle.cast_config.specs.declared.config.Config.{Config}
use Rattle.cast_config.specs.declared.config.Account.{Account}
use Rattle.session_model.specs.declared.ending.Last.{Last}
use Rattle.session_model.specs.declared.ending.Last.TheVariants as lasts
use Rattle.session_calls.specs.Steps.{Step}
use Rattle.session_model.specs.declared.report.Receipt.{Receipt}
use Rattle.session_model.specs.declared.report.MountTotal.{MountTotal}
use Rattle.session_model.specs.declared.report.Closed.{Closed}
use Rattle.session_model.specs.declared.report.Connection.{Connection}
use Rattle.session_model.specs.declared.report.Report.{Report}
use Rattle.session_model.specs.Headings.{Heading, incomplete, IsHeading, IsAnswering}
use Rattle.session_model.specs.Judged.{Opening, sends_head, relays, bare_source, bare_rover, Judged, judged}
use Rattle.session_model.specs.Owed.{Came, holding, inside, came_to}
use Rattle.session_model.specs.Endings.{ending_of}
use Rattle.session_model.specs.Replies.{sent_by}
use Rattle.session_model.specs.Run.{Histories, Connected, World, judged_of, world}

-- ---- of one connection

-- the junk of the payload of a source that was given its claim
abbrev pub junk_of : Came → ℕ
junk_of (holding terms body claim) = (cut (payload terms.chunked body)).junk
junk_of _ = 0

abbrev pub is_entered : Came → Bool
is_entered (inside terms) = true
is_entered _ = false

-- the receipt of a connection that was closed for this reason, with every closing turn taken
abbrev pub receipt_of : Judged → List Step → Last → Receipt
receipt_of judged steps last =
    let segments : List Segment = segments_after [] steps in
    record {
      ending = ending_of judged steps last;
      segments = reverse segments;
      sent = sent_in segments;
      overrun = overrun_in segments;
      junk = junk_of (came_to judged steps);
      entered = is_entered (came_to judged steps);
      settled = true;
    }

abbrev pub told_of : Config → (ℕ → Heading) → Histories → Connected → Connection
told_of c headings h d =
    let judged = judged_of c (headings d.number) d in
    let receipt = receipt_of judged d.steps (unwrap_or d.closed lasts.End) in
    record {
      number = d.number;
      receipt = receipt;
      bytes = sent_by c h.rings d.opening (came_to judged d.steps) receipt.segments;
    }

-- ---- of the caster

abbrev pub mount_total : History RingCall → MountTotal
mount_total history =
    record { published = length (state_of history).published; claims = (state_of history).claims }

-- the sums of the named accounts, numbered from this number on
abbrev pub sums_from : ℕ → Histories → List Account → List Sum
sums_from n h [] = []
sums_from n h (account ∷ more) = total n h.book ∷ sums_from (n + 1) h more

abbrev pub added : Sum → List Sum → Sum
added sum [] = sum
added sum (next ∷ more) = added (record {
  sessions = sum.sessions + next.sessions;
  sent = sum.sent + next.sent;
  overrun = sum.overrun + next.overrun;
}) more

abbrev pub closed_of : Config → Histories → Closed
closed_of c h =
    let accounts : List Sum = sums_from 1 h c.account in
    record {
      mounts = map mount_total h.rings;
      accounts = accounts;
      total = added (total 0 h.book) accounts;
    }

-- ---- of the run

abbrev pub world_report : Config → (ℕ → Heading) → World → Report
world_report c headings w = record {
  connections = map (told_of c headings w.histories) w.connections;
  closed = closed_of c w.histories;
}

-- the report of these events, where the connections have these headings by number
abbrev pub report : Config → (ℕ → Heading) → List Event → Report
report c headings events = world_report c headings (world c headings events)

-- bare connections send no heads
abbrev pub no_heads : ℕ → Heading
no_heads number = incomplete

-- ---- which headings a script has

abbrev pub opened_if : (opens : Bool) → Opening → Option Opening → Option Opening
opened_if true opening later = Some opening
opened_if false opening later = later

-- how the connection of this number opens
abbrev pub opened_as : ℕ → List Event → Option Opening
opened_as n [] = None
opened_as n (events.Open k ∷ later) = opened_if (k == n) sends_head (opened_as n later)
opened_as n (events.Source k mount ∷ later) = opened_if (k == n) (bare_source mount)
    (opened_as n later)
opened_as n (events.Rover k mount ∷ later) = opened_if (k == n) (bare_rover mount)
    (opened_as n later)
opened_as n (events.Relay k relay ∷ later) = opened_if (k == n) (relays relay) (opened_as n later)
opened_as n (events.In k bytes ∷ later) = opened_as n later
opened_as n (events.Turn k budget ∷ later) = opened_as n later
opened_as n (events.Break k ∷ later) = opened_as n later
opened_as n (events.End k ∷ later) = opened_as n later

-- all bytes that come in on it until it is closed
abbrev pub bytes_to : ℕ → List Event → List ℕ
bytes_to n [] = []
bytes_to n (events.Open k ∷ later) = bytes_to n later
bytes_to n (events.Source k mount ∷ later) = bytes_to n later
bytes_to n (events.Rover k mount ∷ later) = bytes_to n later
bytes_to n (events.Relay k relay ∷ later) = bytes_to n later
bytes_to n (events.In k bytes ∷ later) =
    if k == n then bytes ++ bytes_to n later else bytes_to n later
bytes_to n (events.Turn k budget ∷ later) = bytes_to n later
bytes_to n (events.Break k ∷ later) = if k == n then [] else bytes_to n later
bytes_to n (events.End k ∷ later) = if k == n then [] else bytes_to n later

-- what is said of the head of a connection that opened so: bare ones have none
abbrev pub IsHeadingOf : Option Opening → List ℕ → Heading → Type 0
IsHeadingOf None bytes heading = heading ≡ incomplete
IsHeadingOf (Some sends_head) bytes heading = IsHeading bytes heading
IsHeadingOf (Some (relays n)) bytes heading = IsAnswering bytes heading
IsHeadingOf (Some (bare_source mount)) bytes heading = heading ≡ incomplete
IsHeadingOf (Some (bare_rover mount)) bytes heading = heading ≡ incomplete

-- these are the headings of the connections of a script, by number
abbrev pub AreHeadings : List Event → (ℕ → Heading) → Type 0
AreHeadings script headings =
    (n : ℕ) → IsHeadingOf (opened_as n script) (bytes_to n script) (headings n)

-- the report of a recorded run
abbrev pub IsReport : Config → List Event → Report → Type 0
IsReport c script r =
    (headings : ℕ → Heading) × AreHeadings script headings × (r ≡ report c headings script)
