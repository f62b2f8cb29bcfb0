-- What is promised of all links that a caster served, by one history for each mountpoint and one of
-- the book of accounts.
use Rattle.std.specs.Prelude.{◌≡◌, ℕ, ◌+◌, ◌<◌, ⊤, IsTrue, List, [], ◌∷◌, length, map, fold}
use Rattle.std.specs.List.{All, flat_map, list_all}
use Rattle.cast_io.specs.declared.steps.Step.{Step}
use Rattle.cast_io.specs.Links.{bytes_in}
use Rattle.cast_io.specs.Told.{StreetTold}
use Rattle.turn_log.specs.History.{History, GoesOn}
use Rattle.mount_ring.specs.declared.call.RingCall.{RingCall}
use Rattle.caster_accounts.specs.declared.call.BookCall.{BookCall}
use Rattle.caster_accounts.specs.Sums.{nothing}
use Rattle.session_calls.specs.Rings.{history_at}
use Rattle.cast_config.specs.declared.config.Config.{Config}
use Rattle.session_model.specs.declared.ending.Last.{Last}
use Rattle.session_model.specs.declared.report.Closed.{Closed}
use Rattle.session_model.specs.Judged.{Opening, sends_head, relays}
use Rattle.session_model.specs.Reports.{added, closed_of}
use Rattle.session_model.specs.Run.{Histories, nothing_called}
use Rattle.session_core.specs.declared.held.Held.{Held}
use Rattle.caster_serve.specs.Endpoints.{EndpointTold, at_door, over_link, kind_of, kinds}
use Rattle.caster_link.specs.Links.{IsCausedBy}
use Rattle.caster_link.specs.Wear.{only_worn, IsRefusedBy}
use Rattle.caster_serve.specs.Works.{Record, IsTold, links_of, receipts_of, tallied}
use Rattle.caster_serve.specs.Callers.{Caller, calls_in, ends_of, is_whole}
use Rattle.caster_serve.specs.Caster.{HasGivenBack}
use Rattle.serve_promise.specs.Accounts.{AreCapped, Bill, IsBilled, sums_by}
use Rattle.serve_promise.specs.Links.{AllFrames, IsLinkKept}

-- ---- the links of one caller

-- The link took these steps and was given these bytes, where it tells them, and its connection kept
-- what is promised. A fault of the link is told only where it counts one. A place told that it was
-- worn, or a closing turn was refused, only where one of the histories has 2^62 calls or more.
pub record IsEntryKept (c : Config) (opening : Opening) (me : ℕ)
    (start now : List (History RingCall)) (histories : Histories) (entry : Record) : Type 0 where
  pub taken : List Step
  pub written : List ℕ
  pub taken_is : IsTold entry.link.taken taken
  pub bytes_is : IsTold entry.link.bytes written
  pub last : Last
  pub caused : IsCausedBy last 0 entry.link.faults
  pub refused : IsRefusedBy (only_worn (calls_in histories)) entry.receipt
  pub kept : IsLinkKept c opening me start now histories.rings (bytes_in taken) written last
      entry.receipt

-- a link that was served: what it told when it came back and the receipt of its connection, and
-- what that held before it was closed
pub record Served : Type 0 where
  pub entry : Record
  pub held : Held

abbrev pub bill_of : Served → Bill
bill_of served = record { held = served.held; receipt = served.entry.receipt }

abbrev pub records_of : List Served → List Record
records_of links = map (λ (served : Served). served.entry) links

-- Its connection kept what is promised, by these histories: of its bytes, its receipt and its calls
-- at the mountpoints, and of its calls in the book.
pub record IsKept (c : Config) (opening : Opening) (me : ℕ) (start now histories : Histories)
    (served : Served) : Type 0 where
  pub entry : IsEntryKept c opening me start.rings now.rings histories served.entry
  pub billed : IsBilled c opening me (bytes_in entry.taken) start.book now.book (bill_of served)

-- the connections of these links kept it, each from the histories that the one before it left
abbrev pub AreKeptInTurn : Config → Opening → ℕ → Histories → List Served → Histories → Histories
    → Type 0
AreKeptInTurn c opening me histories [] start now = now ≡ start
AreKeptInTurn c opening me histories (served ∷ links) start now =
    (between : Histories) × IsKept c opening me start between histories served
    × AreKeptInTurn c opening me histories links between now

-- how the links of a worker open, and that of a relay
abbrev pub opening_at : EndpointTold → Opening
opening_at (at_door door) = sends_head
opening_at (over_link number link) = relays number

-- so many links of a worker, which came back to its door in this order, where it tells them; and
-- the one link of a relay
abbrev pub AreLinksAt : EndpointTold → ℕ → List Record → Type 0
AreLinksAt (at_door door) count entries =
    IsTold door.back (links_of entries) × (length entries ≡ count)
AreLinksAt (over_link number link) count entries = links_of entries ≡ link ∷ []

-- a caller, and the links that it served, in order
pub record CallerLinks : Type 0 where
  pub caller : Caller
  pub links : List Served

abbrev pub caller_in : CallerLinks → Caller
caller_in one = one.caller

abbrev pub bills_by : CallerLinks → List Bill
bills_by one = map bill_of one.links

-- The caller of this number served these links, from the first call on, and called nothing else,
-- neither at a mountpoint nor in the book; its tally counts the receipts of the rovers among them.
pub record IsCallerKept (c : Config) (histories : Histories) (me : ℕ) (one : CallerLinks) : Type 0
  where
    pub links_are : AreLinksAt one.caller.end one.caller.served (records_of one.links)
    pub in_turn : AreKeptInTurn c (opening_at one.caller.end) me histories one.links
        (nothing_called c) one.caller.seen
    pub nothing_else : (mount : ℕ)
        → GoesOn me (history_at one.caller.seen.rings mount) (history_at histories.rings mount)
    pub nothing_booked : GoesOn me one.caller.seen.book histories.book
    pub tally : one.caller.tally ≡ fold tallied nothing (receipts_of (records_of one.links))

-- these callers served their links so, numbered from this number on
abbrev pub AreCallersKept : Config → Histories → ℕ → List CallerLinks → Type 0
AreCallersKept c histories n [] = ⊤
AreCallersKept c histories n (one ∷ more) =
    IsCallerKept c histories n one × AreCallersKept c histories (n + 1) more

-- ---- the whole

-- The callers are the workers and then the relays of the configuration, each of which kept what is
-- promised by these histories, one for each mountpoint and one of the book. Nobody else called
-- there, whole frames alone were published, and no account had more open sessions than its cap. The
-- street tells each door and each link as it came back.
pub record AllKept (c : Config) (old new : StreetTold) (callers : List Caller)
    (histories : Histories) : Type 0 where
  pub kinds_are : map kind_of (ends_of callers) ≡ kinds c
  pub given_back : HasGivenBack (ends_of callers) old new
  pub one_each : length histories.rings ≡ length c.mount
  pub frames : AllFrames histories.rings
  pub all : List CallerLinks
  pub callers_are : map caller_in all ≡ callers
  pub kept : AreCallersKept c histories 0 all
  pub nothing_else : (mount : ℕ) → All (λ (entry : ℕ × RingCall). entry.0 < length callers)
      (history_at histories.rings mount)
  pub book_callers : All (λ (entry : ℕ × BookCall). entry.0 < length callers) histories.book
  pub capped : AreCapped c histories.book

-- A caster that served to its end, each worker as many links as it was to. Its totals are what its
-- histories come to; each account's is the sum of the receipts of its rovers, and all accounts
-- together are the sum of the callers' tallies.
pub record AllPromised (c : Config) (limit : ℕ) (old new : StreetTold) (closed : Closed) : Type 0
  where
    pub callers : List Caller
    pub histories : Histories
    pub kept : AllKept c old new callers histories
    pub whole : IsTrue (list_all (is_whole limit) callers)
    pub closed_is : closed ≡ closed_of c histories
    pub accounts : closed.accounts ≡ sums_by 1 (flat_map bills_by kept.all) c.account
    pub total : closed.total ≡ added nothing (map (λ (caller : Caller). caller.tally) callers)
