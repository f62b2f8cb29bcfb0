-- What is promised of a caster that kept serving until it ended, by the logs of its gates and of
-- its links, by the bytes that its place for lines took, and by one history for each mountpoint,
-- one of the book of accounts and one of lines.
use Rattle.std.specs.Prelude.{◌≡◌, ◌≢◌, ◌⊎◌, ℕ, ◌+◌, ◌<◌, ⊤, Bool, true, false, List, [], ◌∷◌, ◌++◌, length, map, fold, Option, Some, IsTrue}
use Rattle.std.specs.List.{All, flat_map}
use Rattle.cast_io.specs.declared.yard_asked.YardAsked.{YardAsked}
use Rattle.cast_io.specs.Causes.{Rose}
use Rattle.cast_io.specs.Doors.{IsNewDoor}
use Rattle.cast_io.specs.Links.{bytes_in}
use Rattle.cast_io.specs.Logged.{LinkLog, DoorLog, link_logged, door_logged}
use Rattle.cast_io.specs.Yards.{GateTold, NotesTold, YardTold}
use Rattle.cast_console.specs.Consoles.{ConsoleTold}
use Rattle.turn_log.specs.History.{History, GoesOn, own}
use Rattle.mount_ring.specs.declared.call.RingCall.{RingCall}
use Rattle.caster_accounts.specs.declared.call.BookCall.{BookCall}
use Rattle.caster_accounts.specs.Sums.{nothing}
use Rattle.session_calls.specs.Rings.{history_at}
use Rattle.cast_config.specs.declared.config.Config.{Config}
use Rattle.session_model.specs.declared.ending.Last.{Last}
use Rattle.session_model.specs.declared.report.Receipt.{Receipt}
use Rattle.session_model.specs.Reports.{closed_of}
use Rattle.session_model.specs.Run.{Histories, nothing_called}
use Rattle.session_model.specs.Text.{closed_text}
use Rattle.session_core.specs.declared.asked.Asked.{Asked}
use Rattle.session_core.specs.declared.held.Held.{Held}
use Rattle.caster_press.specs.declared.line.Line.{Line}
use Rattle.caster_press.specs.Lines.{text_in, text_of}
use Rattle.caster_link.specs.declared.role.Role.{Role}
use Rattle.caster_link.specs.Links.{IsCausedBy, opening_of}
use Rattle.caster_link.specs.Wear.{only_worn, IsRefusedBy}
use Rattle.caster_serve.specs.Callers.{calls_in}
use Rattle.caster_serve.specs.Works.{tallied}
use Rattle.keep_porter.specs.Porters.{answer_lines}
use Rattle.caster_keep.specs.declared.stop.Stop.{Stop}
use Rattle.caster_keep.specs.declared.stop.Stop.TheVariants as stops
use Rattle.caster_keep.specs.declared.whole.Outcome.{Outcome}
use Rattle.caster_keep.specs.Gates.{asked_of, roles_of}
use Rattle.caster_keep.specs.Links.{Kept, lines_from}
use Rattle.caster_keep.specs.Keeping.{IsPorter, PorterTold, first_stop}
use Rattle.serve_promise.specs.Accounts.{AreCapped, Bill, IsBilled, sums_by}
use Rattle.serve_promise.specs.Links.{AllFrames, IsLinkKept}
use Rattle.keep_promise.specs.Links.{IsAsked, IsItsClaim}
use Rattle.keep_promise.specs.Points.{AllShown, AreSoundThroughout}
use Rattle.caster_top.specs.Keeping.{KeptEnd}
use Rattle.caster_top.specs.Told.{Files, IsConfigFrom}

-- ---- the links of one keeper

-- a link as it logged itself when it came back, the receipt of its connection, what its head asked
-- and as what it was let in, and its peer as the gate told it
pub record KeptLog : Type 0 where
  pub link : LinkLog
  pub receipt : Receipt
  pub asked : Option Asked
  pub held : Held
  pub peer : List ℕ

-- the same, as it is told
abbrev pub kept_logged : KeptLog → Kept
kept_logged kept = record {
  entry = record { link = link_logged kept.link; receipt = kept.receipt };
  asked = kept.asked;
  held = kept.held;
  peer = kept.peer;
}

-- what it held before it was closed, and its receipt
abbrev pub bill_of : KeptLog → Bill
bill_of kept = record { held = kept.held; receipt = kept.receipt }

-- The connection of the link kept what is promised, by the bytes that its reads gave and those that
-- its writes took, at the mountpoints and in the book. What its lines say that it asked is what its
-- head asks, and a claim that they name is the one that it was given.
-- A fault of the link is told only where it counts one, and a worn place only where one of the
-- histories has 2^62 calls or more.
pub record IsKept (c : Config) (role : Role) (me : ℕ) (start now histories : Histories)
    (kept : KeptLog) : Type 0 where
  pub last : Last
  pub caused : IsCausedBy last 0 kept.link.faults
  pub refused : IsRefusedBy (only_worn (calls_in histories)) kept.receipt
  pub kept_is : IsLinkKept c (opening_of role) me start.rings now.rings histories.rings
      (bytes_in kept.link.taken) kept.link.bytes last kept.receipt
  pub billed : IsBilled c (opening_of role) me (bytes_in kept.link.taken) start.book now.book
      (bill_of kept)
  pub asked_is : IsAsked (opening_of role) (bytes_in kept.link.taken) kept.receipt kept.asked
  pub claim : IsItsClaim c me start now kept.held

-- the connections of these links kept it, each from the histories that the one before it left
abbrev pub AreKept : Config → Role → ℕ → Histories → List KeptLog → Histories → Histories → Type 0
AreKept c role me histories [] start now = now ≡ start
AreKept c role me histories (kept ∷ links) start now =
    (between : Histories) × IsKept c role me start between histories kept
    × AreKept c role me histories links between now

-- ---- a keeper

-- its role, its gate's log and whether that was over when it came back, its links, what it has seen
-- of the histories, and why it stopped
pub record KeeperLog : Type 0 where
  pub role : Role
  pub door : DoorLog
  pub over : Bool
  pub links : List KeptLog
  pub seen : Histories
  pub stop : Stop

-- its gate, as it came back
abbrev pub gate_back : KeeperLog → GateTold
gate_back keeper = record { door = door_logged keeper.door; over = keeper.over }

abbrev pub receipts_by : KeeperLog → List Receipt
receipts_by keeper = map (λ (kept : KeptLog). kept.receipt) keeper.links

abbrev pub bills_by : KeeperLog → List Bill
bills_by keeper = map bill_of keeper.links

-- why it stopped: its gate was over, or its gate counted a fault
abbrev pub IsWhy : Stop → KeeperLog → Type 0
IsWhy stops.Over keeper = IsTrue keeper.over
IsWhy stops.Failed keeper = (before : ℕ) × Rose before keeper.door.faults

-- The keeper of this number served these links, all that came back to its gate, in order, from the
-- first call on, and called nothing else. Of the history of lines its own are exactly the lines of
-- these links.
pub record IsKeeperKept (c : Config) (histories : Histories) (lines : History Line) (me : ℕ)
    (keeper : KeeperLog) : Type 0 where
  pub back : keeper.door.back ≡ map (λ (kept : KeptLog). kept.link) keeper.links
  pub in_turn : AreKept c keeper.role me histories keeper.links (nothing_called c) keeper.seen
  pub nothing_else : (mount : ℕ)
      → GoesOn me (history_at keeper.seen.rings mount) (history_at histories.rings mount)
  pub nothing_booked : GoesOn me keeper.seen.book histories.book
  pub sound_throughout : (mount : ℕ)
      → AreSoundThroughout c mount me (history_at histories.rings mount)
  pub lines_are : map text_of (own me lines)
      ≡ lines_from c me keeper.role 1 (map kept_logged keeper.links)
  pub why : IsWhy keeper.stop keeper

-- these keepers served so, numbered from this number on
abbrev pub AreKeepersKept : Config → Histories → History Line → ℕ → List KeeperLog → Type 0
AreKeepersKept c histories lines n [] = ⊤
AreKeepersKept c histories lines n (keeper ∷ keepers) =
    IsKeeperKept c histories lines n keeper × AreKeepersKept c histories lines (n + 1) keepers

-- ---- all of it

-- what a yard was asked, and the gates and the places for lines that came back, as they were then
pub record YardList : Type 0 where
  pub asked : List YardAsked
  pub gates : List GateTold
  pub notes : List NotesTold

-- the same with counts of faults, as it is told
abbrev pub yard_told : YardList → ℕ → ℕ → YardTold
yard_told yard faults note_faults = record {
  asked = Some yard.asked;
  gates = Some yard.gates;
  notes = Some yard.notes;
  faults = faults;
  note_faults = note_faults;
}

-- The whole text was taken, and no write failed. Or a write failed, and some first bytes of it
-- were.
abbrev pub WasTaken : (torn : Bool) → List ℕ → ℕ → List ℕ → Type 0
WasTaken false bytes faults text = (bytes ≡ text) × (faults ≡ 0)
WasTaken true bytes faults text = (rest : List ℕ) × (text ≡ bytes ++ rest) × Rose 0 faults

-- A caster kept serving until it ended. The yard was asked for a gate for each worker at one
-- address, for one to the peer of each relay, and for a place for lines; all of these came back,
-- and so did the porter's console. The keepers are the workers and then the relays. Each kept what
-- is promised, by these histories, one for each mountpoint; but for the porter's looks and joins
-- nobody else called there, and whole frames alone were published. The text is that of the history
-- of lines, in which each keeper's own are those of its links and the porter's those of its
-- answers, and behind it stand the totals; these are what the histories come to, and all accounts
-- together are the sum of all receipts.
pub record HasKeptAll (c : Config) (addr : List ℕ) (quiet : ℕ) (old new : YardList)
    (back_before back_now : List ConsoleTold) (outcome : Outcome) : Type 0 where
  pub asked : new.asked ≡ old.asked ++ asked_of c addr quiet
  pub keepers : List KeeperLog
  pub porter : PorterTold
  pub histories : Histories
  pub lines : History Line
  pub bytes : List ℕ
  pub faults : ℕ
  pub roles_are : map (λ (keeper : KeeperLog). keeper.role) keepers ≡ roles_of c
  pub gates : new.gates ≡ old.gates ++ map gate_back keepers
  pub notes : new.notes ≡ old.notes ++ record { taken = Some bytes; faults = faults } ∷ []
  pub console : back_now ≡ back_before ++ porter.console ∷ []
  pub one_each : length histories.rings ≡ length c.mount
  pub frames : AllFrames histories.rings
  pub kept : AreKeepersKept c histories lines 0 keepers
  pub porter_is : IsPorter c (calls_in histories) (length keepers) porter
  pub porter_else : (mount : ℕ) → GoesOn (length keepers) (history_at porter.seen.rings mount)
      (history_at histories.rings mount)
  pub porter_lines : map text_of (own (length keepers) lines)
      ≡ flat_map (answer_lines c) porter.given
  pub nothing_else : (mount : ℕ) → All (λ (entry : ℕ × RingCall). entry.0 < length keepers + 1)
      (history_at histories.rings mount)
  pub shown : AllShown (length keepers) histories.rings porter.given
  pub capped : AreCapped c histories.book
  pub book_callers : All (λ (entry : ℕ × BookCall). entry.0 < length keepers) histories.book
  pub no_other_line : All (λ (entry : ℕ × Line). entry.0 < length keepers + 1) lines
  pub text : WasTaken outcome.is_torn bytes faults (text_in lines ++ closed_text c outcome.closed)
  pub closed_is : outcome.closed ≡ closed_of c histories
  pub accounts : outcome.closed.accounts ≡ sums_by 1 (flat_map bills_by keepers) c.account
  pub total : outcome.closed.total ≡ fold tallied nothing (flat_map receipts_by keepers)
  pub stop_is : outcome.stop ≡ first_stop (map (λ (keeper : KeeperLog). keeper.stop) keepers)

-- ---- how the program ended

-- There was a caster over the configuration in the file of this path; it kept serving until it
-- ended, and with this status the program said how: 0 where all gates were over and all of its text
-- was taken, 5 where that is torn, and the line of a network that failed where a gate failed.
pub record WasKeptAll (files : Files) (config addr : List ℕ) (quiet : ℕ) (old new : YardList)
    (back_before back_now : List ConsoleTold) (written now_written : List ℕ)
    (faults now status : ℕ) : Type 0 where
  pub c : Config
  pub config_is : IsConfigFrom files config c
  pub outcome : Outcome
  pub all : HasKeptAll c addr quiet old new back_before back_now outcome
  pub ends : KeptEnd outcome.is_torn outcome.stop (Some written) (Some now_written) faults now
      status

-- Nobody served: no gate that came back had given a link, and the status is another than 0.
pub record NobodyServed (old new : YardList) (status : ℕ) : Type 0 where
  pub fault : status ≢ 0
  pub gates : List GateTold
  pub back : new.gates ≡ old.gates ++ gates
  pub unused : All (λ (gate : GateTold). IsNewDoor gate.door) gates

-- one of these two
abbrev pub HasEndedAll : Files → List ℕ → List ℕ → ℕ → YardList → YardList → List ConsoleTold
    → List ConsoleTold → List ℕ → List ℕ → ℕ → ℕ → ℕ → Type 0
HasEndedAll files config addr quiet old new back_before back_now written now_written faults now
    status =
    WasKeptAll files config addr quiet old new back_before back_now written now_written faults now
    status
    ⊎ NobodyServed old new status

-- With 0 the caster over the configuration in the file of this path kept serving until all of its
-- gates were over, all of its text was taken, and the output took nothing.
pub record WasKeptWhole (files : Files) (config addr : List ℕ) (quiet : ℕ) (old new : YardList)
    (back_before back_now : List ConsoleTold) (written now_written : List ℕ) : Type 0 where
  pub c : Config
  pub config_is : IsConfigFrom files config c
  pub outcome : Outcome
  pub all : HasKeptAll c addr quiet old new back_before back_now outcome
  pub stop_is : outcome.stop ≡ stops.Over
  pub whole : outcome.is_torn ≡ false
  pub nothing_more : now_written ≡ written
