-- What is promised of a caster that kept serving, by one history for each mountpoint, one of the
-- book and one of lines: of each link of each keeper, of the lines that were written, and of the
-- totals.
use Rattle.std.specs.Prelude.{◌≡◌, ℕ, ◌+◌, ◌<◌, ⊤, Bool, List, [], ◌∷◌, fold, length, map, Option}
use Rattle.std.specs.List.{All, flat_map}
use Rattle.cast_io.specs.declared.yard_asked.YardAsked.{YardAsked}
use Rattle.cast_io.specs.Told.{DoorTold}
use Rattle.cast_io.specs.Yards.{YardTold}
use Rattle.cast_console.specs.Consoles.{ConsoleTold}
use Rattle.turn_log.specs.History.{History, GoesOn, own}
use Rattle.mount_ring.specs.declared.call.RingCall.{RingCall}
use Rattle.caster_accounts.specs.declared.call.BookCall.{BookCall}
use Rattle.caster_accounts.specs.Sums.{nothing}
use Rattle.session_calls.specs.Rings.{history_at}
use Rattle.cast_config.specs.declared.config.Config.{Config}
use Rattle.session_model.specs.Run.{Histories, nothing_called}
use Rattle.caster_press.specs.declared.line.Line.{Line}
use Rattle.caster_press.specs.Lines.{text_of}
use Rattle.caster_link.specs.declared.role.Role.{Role}
use Rattle.caster_serve.specs.Works.{IsTold, links_of, receipts_of, tallied}
use Rattle.caster_keep.specs.declared.whole.Outcome.{Outcome}
use Rattle.caster_keep.specs.Links.{Kept, lines_from, records_of}
use Rattle.caster_keep.specs.Keeping.{KeeperTold, HasEnded}
use Rattle.serve_promise.specs.Accounts.{AreCapped, Bill, sums_by}
use Rattle.serve_promise.specs.Links.{AllFrames}
use Rattle.keep_promise.specs.Links.{IsKept, bill_of}
use Rattle.keep_promise.specs.Points.{AllShown, AreSoundThroughout}

-- ---- one keeper

-- the connections of these links kept it, each from the histories that the one before it left
abbrev pub AreKeptOn : Config → Role → ℕ → Histories → List Kept → Histories → Histories → Type 0
AreKeptOn c role me histories [] start now = now ≡ start
AreKeptOn c role me histories (kept ∷ links) start now =
    (between : Histories) × IsKept c role me start between histories kept
    × AreKeptOn c role me histories links between now

-- whether a gate is over, and what it tells as a door
module _ {G : Type 0} (told : G → DoorTold) where
  -- The keeper of this number served these links, from its first call on, and called nothing else;
  -- they are all links that came back to its gate, in order, where it tells them. Its tally counts
  -- their receipts. Of the history of lines its own are exactly the lines of these links, numbered
  -- from 1. At each point of a mountpoint's history the segments of its rovers, also of one that is
  -- open then, are sound by then.
  pub record IsKeeperKept (c : Config) (histories : Histories) (lines : History Line) (me : ℕ)
      (keeper : KeeperTold G) : Type 0 where
    pub back : IsTold (told keeper.gate).back (links_of (records_of keeper.links))
    pub in_turn : AreKeptOn c keeper.role me histories keeper.links (nothing_called c) keeper.seen
    pub nothing_else : (mount : ℕ)
        → GoesOn me (history_at keeper.seen.rings mount) (history_at histories.rings mount)
    pub nothing_booked : GoesOn me keeper.seen.book histories.book
    pub sound_throughout : (mount : ℕ)
        → AreSoundThroughout c mount me (history_at histories.rings mount)
    pub lines_are : map text_of (own me lines) ≡ lines_from c me keeper.role 1 keeper.links
    pub tally : keeper.tally ≡ fold tallied nothing (receipts_of (records_of keeper.links))

  -- these keepers served so, numbered from this number on
  abbrev pub AreKeepersKept : Config → Histories → History Line → ℕ → List (KeeperTold G) → Type 0
  AreKeepersKept c histories lines n [] = ⊤
  AreKeepersKept c histories lines n (keeper ∷ keepers) =
      IsKeeperKept c histories lines n keeper
      × AreKeepersKept c histories lines (n + 1) keepers

-- what each of its links held, and its receipt
abbrev pub bills_by : {G : Type 0} → KeeperTold G → List Bill
bills_by keeper = map bill_of keeper.links

-- ---- the whole

-- how gates are seen, what notes told of their bytes and their faults, and which consoles had come
-- back before and have come back now
module _ {G O : Type 0} (told : G → DoorTold) (over : G → Bool) (peer : G → List ℕ)
    (origin : G → YardAsked) (taken : O → Option (List ℕ)) (faults_of : O → ℕ)
    (back_before back_now : List ConsoleTold) where
  -- A caster that ended so, whatever it stopped for and whether its text is torn. There is one
  -- history for each mountpoint. Each keeper kept what is promised by these, nobody but the keepers
  -- and the porter called there, and whole frames alone were published.
  pub record IsPromised (c : Config) (made : List YardAsked) (old new : YardTold)
      (outcome : Outcome)
      (ended : HasEnded told over peer origin taken faults_of back_before back_now c made old new
      outcome) : Type 0 where
    pub one_each : length ended.histories.rings ≡ length c.mount
    pub frames : AllFrames ended.histories.rings
    pub kept : AreKeepersKept told c ended.histories ended.lines 0 ended.keepers
    pub nothing_else : (mount : ℕ)
        → All (λ (entry : ℕ × RingCall). entry.0 < length ended.keepers + 1)
        (history_at ended.histories.rings mount)
    -- the porter called there what `ended.all.porter_is` says, and in the book nothing
    pub porter_else : (mount : ℕ) → GoesOn (length ended.keepers)
        (history_at ended.porter.seen.rings mount) (history_at ended.histories.rings mount)
    -- what the porter's answers say is so at points of these histories
    pub shown : AllShown (length ended.keepers) ended.histories.rings ended.porter.given
    -- each account's total is that of the receipts of its rovers
    pub accounts : outcome.closed.accounts ≡ sums_by 1 (flat_map bills_by ended.keepers) c.account
    -- and no account has more open sessions than its cap, at any point of the book's history
    pub capped : AreCapped c ended.histories.book
    pub book_callers : All (λ (entry : ℕ × BookCall). entry.0 < length ended.keepers)
        ended.histories.book
