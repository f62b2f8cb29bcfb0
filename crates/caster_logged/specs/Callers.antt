-- What is promised of all links that a caster served, by the logs of its doors and links, by one
-- history for each mountpoint and one of the book of accounts.
use Rattle.std.specs.Prelude.{◌≡◌, ℕ, ◌+◌, ◌<◌, ⊤, IsTrue, List, [], ◌∷◌, ◌++◌, length, map, fold, Ok}
use Rattle.std.specs.List.{All, flat_map, list_all}
use Rattle.cast_io.specs.Links.{bytes_in}
use Rattle.cast_io.specs.Logged.{LinkLog, DoorLog, StreetLog, link_logged, door_logged, street_logged}
use Rattle.turn_log.specs.History.{History, GoesOn}
use Rattle.mount_ring.specs.declared.call.RingCall.{RingCall}
use Rattle.caster_accounts.specs.declared.account.Sum.{Sum}
use Rattle.caster_accounts.specs.declared.call.BookCall.{BookCall}
use Rattle.caster_accounts.specs.Sums.{nothing}
use Rattle.session_calls.specs.Rings.{history_at}
use Rattle.cast_config.specs.declared.config.Config.{Config}
use Rattle.session_model.specs.declared.ending.Last.{Last}
use Rattle.session_model.specs.declared.report.Closed.{Closed}
use Rattle.session_model.specs.declared.report.Receipt.{Receipt}
use Rattle.session_model.specs.Judged.{Opening, sends_head, relays}
use Rattle.session_model.specs.Reports.{added, closed_of}
use Rattle.session_model.specs.Run.{Histories, nothing_called}
use Rattle.session_core.specs.declared.held.Held.{Held}
use Rattle.caster_serve.specs.Endpoints.{EndpointTold, at_door, over_link, asked_of, kind_of, kinds}
use Rattle.caster_link.specs.Links.{IsCausedBy}
use Rattle.caster_link.specs.Wear.{only_worn, IsRefusedBy}
use Rattle.caster_serve.specs.Works.{tallied}
use Rattle.caster_serve.specs.Callers.{Caller, calls_in, is_whole}
use Rattle.caster_serve.specs.Caster.{HasServed}
use Rattle.serve_promise.specs.Accounts.{AreCapped, Bill, IsBilled, sums_by}
use Rattle.serve_promise.specs.Links.{AllFrames, IsLinkKept}

-- ---- the links of one caller

-- a link as it logged itself when it came back, the receipt of its connection, and what that held
-- before it was closed
pub record LoggedLink : Type 0 where
  pub link : LinkLog
  pub receipt : Receipt
  pub held : Held

abbrev pub bill_of : LoggedLink → Bill
bill_of entry = record { held = entry.held; receipt = entry.receipt }

-- The connection of the link kept what is promised, by the bytes that its reads gave and those that
-- its writes took, at the mountpoints and in the book. A fault of the link is told only where it
-- counts one. A place told that it was worn, or a closing turn was refused, only where one of the
-- histories has 2^62 calls or more.
pub record IsKept (c : Config) (opening : Opening) (me : ℕ) (start now histories : Histories)
    (entry : LoggedLink) : Type 0 where
  pub last : Last
  pub caused : IsCausedBy last 0 entry.link.faults
  pub refused : IsRefusedBy (only_worn (calls_in histories)) entry.receipt
  pub kept : IsLinkKept c opening me start.rings now.rings histories.rings
      (bytes_in entry.link.taken) entry.link.bytes last entry.receipt
  pub billed : IsBilled c opening me (bytes_in entry.link.taken) start.book now.book
      (bill_of entry)

-- the connections of these links kept it, each from the histories that the one before it left
abbrev pub AreKept : Config → Opening → ℕ → Histories → List LoggedLink → Histories → Histories
    → Type 0
AreKept c opening me histories [] start now = now ≡ start
AreKept c opening me histories (entry ∷ entries) start now =
    (between : Histories) × IsKept c opening me start between histories entry
    × AreKept c opening me histories entries between now

-- ---- a caller

-- over what it served: a worker's door, or the link of the relay of this number
pub data EndpointLog : Type 0 where
  door : DoorLog → EndpointLog
  link : ℕ → LinkLog → EndpointLog

-- the same, as it is told
abbrev pub end_logged : EndpointLog → EndpointTold
end_logged (door log) = at_door (door_logged log)
end_logged (link number log) = over_link number (link_logged log)

-- how its links open
abbrev pub opening_at : EndpointLog → Opening
opening_at (door log) = sends_head
opening_at (link number log) = relays number

-- what it has seen of the histories, what its rovers add up to, how many connections it served,
-- over what, and their links
pub record CallerLog : Type 0 where
  pub seen : Histories
  pub tally : Sum
  pub served : ℕ
  pub end : EndpointLog
  pub links : List LoggedLink

abbrev pub caller_logged : CallerLog → Caller
caller_logged caller = record {
  seen = caller.seen;
  tally = caller.tally;
  served = caller.served;
  end = end_logged caller.end;
}

-- what each of its links held, and its receipt
abbrev pub bills_by : CallerLog → List Bill
bills_by caller = map bill_of caller.links

-- the links that came back to a worker's door, as many as it served, in order; and the one link of
-- a relay
abbrev pub AreLinksAt : EndpointLog → ℕ → List LoggedLink → Type 0
AreLinksAt (door log) count entries =
    (log.back ≡ map (λ (entry : LoggedLink). entry.link) entries) × (length entries ≡ count)
AreLinksAt (link number log) count entries =
    map (λ (entry : LoggedLink). entry.link) entries ≡ log ∷ []

-- The caller of this number served these links, from the first call on, and called nothing else,
-- neither at a mountpoint nor in the book; its tally counts the receipts of the rovers among them.
pub record IsCallerKept (c : Config) (histories : Histories) (me : ℕ) (caller : CallerLog) : Type 0
  where
    pub links_are : AreLinksAt caller.end caller.served caller.links
    pub in_turn : AreKept c (opening_at caller.end) me histories caller.links (nothing_called c)
        caller.seen
    pub nothing_else : (mount : ℕ)
        → GoesOn me (history_at caller.seen.rings mount) (history_at histories.rings mount)
    pub nothing_booked : GoesOn me caller.seen.book histories.book
    pub tally : caller.tally
        ≡ fold tallied nothing (map (λ (entry : LoggedLink). entry.receipt) caller.links)

-- these callers served their links so, numbered from this number on
abbrev pub AreCallersKept : Config → Histories → ℕ → List CallerLog → Type 0
AreCallersKept c histories n [] = ⊤
AreCallersKept c histories n (caller ∷ callers) =
    IsCallerKept c histories n caller × AreCallersKept c histories (n + 1) callers

-- ---- all of them

abbrev pub doors_among : List EndpointLog → List DoorLog
doors_among [] = []
doors_among (door log ∷ more) = log ∷ doors_among more
doors_among (link number log ∷ more) = doors_among more

abbrev pub links_among : List EndpointLog → List LinkLog
links_among [] = []
links_among (door log ∷ more) = links_among more
links_among (link number log ∷ more) = log ∷ links_among more

abbrev pub ends_of : List CallerLog → List EndpointLog
ends_of callers = map (λ (caller : CallerLog). caller.end) callers

-- A caster served to its end. The street was asked for a door for each worker at one address, and
-- then for the peer of each relay. The callers are these workers and then the relays, and their
-- doors and links came back to the street, in order. Each caller kept what is promised, each worker
-- of as many links as it was to serve, by these histories, one for each mountpoint and one of the
-- book; nobody else called there, whole frames alone were published, and no account had more open
-- sessions than its cap. The totals are what these histories come to; each account's is the sum of
-- the receipts of its rovers, and all accounts together are the sum of the callers' tallies. All
-- that `serve` says of itself is so by these logs: each turn that a link's steps gave was taken,
-- and made its Read.
pub record HasServedAll (c : Config) (addr : List ℕ) (limit : ℕ) (old new : StreetLog)
    (closed : Closed) : Type 0 where
  pub asked : new.asked ≡ old.asked ++ asked_of c addr
  pub callers : List CallerLog
  pub kinds_are : map (λ (end : EndpointLog). kind_of (end_logged end)) (ends_of callers) ≡ kinds c
  pub doors : new.doors ≡ old.doors ++ doors_among (ends_of callers)
  pub links : new.links ≡ old.links ++ links_among (ends_of callers)
  pub histories : Histories
  pub one_each : length histories.rings ≡ length c.mount
  pub frames : AllFrames histories.rings
  pub kept : AreCallersKept c histories 0 callers
  pub nothing_else : (mount : ℕ) → All (λ (entry : ℕ × RingCall). entry.0 < length callers)
      (history_at histories.rings mount)
  pub book_callers : All (λ (entry : ℕ × BookCall). entry.0 < length callers) histories.book
  pub capped : AreCapped c histories.book
  pub whole : IsTrue (list_all (λ caller. is_whole limit (caller_logged caller)) callers)
  pub closed_is : closed ≡ closed_of c histories
  pub accounts : closed.accounts ≡ sums_by 1 (flat_map bills_by callers) c.account
  pub total : closed.total ≡ added nothing (map (λ (caller : CallerLog). caller.tally) callers)
  pub served : HasServed c addr limit (street_logged old) (street_logged new) (Ok closed)
