-- One link of a caster that keeps serving: the lines that tell of it, by what it came to.
use Rattle.std.specs.Prelude.{◌≡◌, ℕ, ◌+◌, List, [], ◌∷◌, ◌++◌, codes, map, slice_get, Option, None, Some}
use Rattle.turn_log.specs.History.{History}
use Rattle.cast_io.specs.Told.{LinkTold, DoorTold}
use Rattle.cast_io.specs.Doors.{HasHungUp}
use Rattle.caster_accounts.specs.declared.account.Sum.{Sum}
use Rattle.cast_config.specs.declared.config.Config.{Config}
use Rattle.cast_config.specs.declared.config.Relay.{Relay}
use Rattle.session_model.specs.declared.report.Receipt.{Receipt}
use Rattle.session_model.specs.Judged.{mount_fed}
use Rattle.session_model.specs.declared.ending.Ending.{Ending}
use Rattle.session_model.specs.Courses.{Event, happened, steps_of, text_of}
use Rattle.session_model.specs.Headings.{Heading}
use Rattle.session_model.specs.Reports.{IsHeadingOf}
use Rattle.session_model.specs.Owed.{came_to}
use Rattle.session_model.specs.Run.{Histories}
use Rattle.session_core.specs.declared.held.Held.{Held}
use Rattle.session_core.specs.declared.held.Held.TheVariants as holds
use Rattle.session_core.specs.Holding.{HoldsAs}
use Rattle.session_core.specs.declared.asked.Asked.{Asked}
use Rattle.session_core.specs.declared.asked.Asked.TheVariants as asks
use Rattle.session_core.specs.Asking.{IsAsking, asked_in}
use Rattle.caster_press.specs.declared.line.Line.{Line}
use Rattle.keep_lines.specs.declared.told.LinkNumber.{LinkNumber}
use Rattle.keep_lines.specs.declared.told.Entered.{Entered}
use Rattle.keep_lines.specs.declared.told.Entered.TheVariants as entries
use Rattle.keep_lines.specs.declared.told.Who.{Who}
use Rattle.keep_lines.specs.declared.told.Who.TheVariants as whos
use Rattle.keep_lines.specs.Words.{dash, shown}
use Rattle.keep_lines.specs.Lines.{entered_line, line_with, receipt_lines, user_shown, version_word}
use Rattle.keep_lines.specs.Puts.{HasTold}
use Rattle.caster_link.specs.declared.role.Role.{Role}
use Rattle.caster_link.specs.declared.role.Role.TheVariants as roles
use Rattle.caster_link.specs.Links.{opening_of}
use Rattle.caster_link.specs.Wear.{Wear}
use Rattle.caster_serve.specs.Works.{Record, RecordGoes, LinkCounted}

-- ---- its lines

-- its number: that of its caller, and which of the caller's links it is, from 1
abbrev pub number_of : ℕ → ℕ → LinkNumber
number_of me count = record { caller = me; count = count }

-- the address that a relay dials
abbrev pub address_of : Option Relay → List ℕ
address_of None = dash
address_of (Some relay) = relay.address

-- a client's link came from this peer; a relay's link was dialled at the address of the relay
abbrev pub first_words : Config → Role → List ℕ → List (List ℕ)
first_words c roles.Caller peer = codes "from" ∷ shown peer ∷ []
first_words c (roles.Relay number) peer =
    codes "to" ∷ shown (address_of (slice_get c.relay number)) ∷ []

abbrev pub first_line : Config → LinkNumber → Role → List ℕ → List ℕ
first_line c link role peer = line_with link (first_words c role peer)

-- the user that credentials name, if they name one
abbrev pub named_user : Option (List ℕ) → List ℕ
named_user None = dash
named_user (Some user) = user_shown user

-- what a head asks: in which version, what, of which mountpoint, and as which user
abbrev pub asked_words : Asked → List (List ℕ)
asked_words (asks.Table version) = version_word version ∷ codes "table" ∷ dash ∷ dash ∷ []
asked_words (asks.Rover version mount user) =
    version_word version ∷ codes "rover" ∷ mount ∷ named_user user ∷ []
asked_words (asks.Source version mount) =
    version_word version ∷ codes "source" ∷ mount ∷ dash ∷ []

abbrev pub asked_line : LinkNumber → Asked → List ℕ
asked_line link asked = line_with link (codes "asks" ∷ asked_words asked)

-- the line that says so, if something is told of what the head asks
abbrev pub asked_lines : LinkNumber → Option Asked → List (List ℕ)
asked_lines link None = []
asked_lines link (Some asked) = asked_line link asked ∷ []

-- as what a link was let in that holds this, if it was let in
abbrev pub entered_of : Held → Option Entered
entered_of holds.Nothing = None
entered_of (holds.Rover account) = Some (entries.Rover account)
entered_of (holds.Source mount claim) = Some (entries.Source mount claim)
entered_of (holds.Relay mount None) = None
entered_of (holds.Relay mount (Some claim)) = Some (entries.Relay mount claim)

-- the line that says so, if there is one
abbrev pub lines_of_entered : Config → LinkNumber → Option Entered → List (List ℕ)
lines_of_entered c link None = []
lines_of_entered c link (Some entered) = entered_line c link entered ∷ []

abbrev pub entered_lines : Config → LinkNumber → Held → List (List ℕ)
entered_lines c link held = lines_of_entered c link (entered_of held)

-- what the head of a link asks, and as what it was let in
abbrev pub told_lines : Config → LinkNumber → Option Asked → Held → List (List ℕ)
told_lines c link asked held = asked_lines link asked ++ entered_lines c link held

-- who holds this
abbrev pub who_of : Held → Who
who_of holds.Nothing = whos.Nobody
who_of (holds.Rover account) = whos.Rover account
who_of (holds.Source mount claim) = whos.Source mount
who_of (holds.Relay mount claim) = whos.Relay mount

-- whose receipt it is: a client's by what it held, and a relay's that of the mountpoint that it
-- feeds, even where there was no memory for its session
abbrev pub whose : Config → Role → Held → Who
whose c roles.Caller held = who_of held
whose c (roles.Relay number) held = whos.Relay (mount_fed (slice_get c.relay number))

-- All lines of a link that asked and held this before it was closed, in order: who is at its other
-- end, what its head asks, as what it was let in, and its receipt.
abbrev pub link_lines : Config → LinkNumber → Role → List ℕ → Option Asked → Held → Receipt
    → List (List ℕ)
link_lines c link role peer asked held receipt =
    first_line c link role peer
    ∷ (told_lines c link asked held ++ receipt_lines c link (whose c role held) receipt)

-- ---- a kept link

-- what a link told when it came back and the receipt of its connection, what that asked, if
-- something is told of it, and held before it was closed, and the peer of the link as the gate told
-- it when it gave the link
pub record Kept : Type 0 where
  pub entry : Record
  pub asked : Option Asked
  pub held : Held
  pub peer : List ℕ

-- the lines of a kept link, which is the one of this number
abbrev pub lines_of : Config → ℕ → Role → ℕ → Kept → List (List ℕ)
lines_of c me role count kept =
    link_lines c (number_of me count) role kept.peer kept.asked kept.held kept.entry.receipt

-- the lines of kept links that are numbered from this number on: those of each, all together,
-- behind those of the link before it
abbrev pub lines_from : Config → ℕ → Role → ℕ → List Kept → List (List ℕ)
lines_from c me role n [] = []
lines_from c me role n (kept ∷ more) =
    lines_of c me role n kept ++ lines_from c me role (n + 1) more

abbrev pub records_of : List Kept → List Record
records_of links = map (λ (kept : Kept). kept.entry) links

-- This is told of what a connection of these events asked that ended so: what their bytes ask, and
-- nothing where they ask nothing; or nothing, of one that want of memory ended.
abbrev pub AsksAs : Role → List Event → Option Ending → Option Asked → Type 0
AsksAs role events ended told = (heading : Heading)
    → IsHeadingOf (Some (opening_of role)) (text_of (happened events)) heading
    → IsAsking told ended (asked_in heading)

-- The connection of a kept link opened so and went from these histories to those, what it held is
-- what it came to, and what is told that it asked is what its bytes ask.
pub record KeptGoes (c : Config) (role : Role) (me : ℕ) (wear : Wear) (kept : Kept)
    (start now : Histories) : Type 0 where
  pub goes : RecordGoes c (opening_of role) me wear kept.entry start now
  pub held_is : HoldsAs c (opening_of role) (came_to goes.goes.j (steps_of goes.goes.events))
      kept.held
  pub asked_is : AsksAs role goes.goes.events goes.goes.ended kept.asked

-- the connections of these links went so, each from the histories that the one before it left
abbrev pub Follow : Config → Role → ℕ → Wear → List Kept → Histories → Histories → Type 0
Follow c role me wear [] start now = now ≡ start
Follow c role me wear (kept ∷ links) start now = (between : Histories)
    × KeptGoes c role me wear kept start between × Follow c role me wear links between now

-- ---- one link is kept

-- A link that its gate had given came back to it behind its connection, which was served to its
-- receipt, asked what is told of it, and held this before it was closed; the tally counts the
-- receipt. The link is the one of this number, its peer was told so, and all of its lines were put.
pub record LinkKept (c : Config) (role : Role) (me count : ℕ) (wear : Wear) (start now : Histories)
    (given : LinkTold) (peer : List ℕ) (before after : DoorTold) (old new : Sum)
    (by : ℕ) (sheet later : History Line) : Type 0 where
  pub link : LinkTold
  pub same : link.given ≡ given.given
  pub hung_up : HasHungUp link before after
  pub served : LinkCounted c (opening_of role) me wear start now link old new
  pub held : Held
  pub held_is : HoldsAs c (opening_of role)
      (came_to served.goes.goes.j (steps_of served.goes.goes.events)) held
  pub asked : Option Asked
  pub asked_is : AsksAs role served.goes.goes.events served.goes.goes.ended asked
  pub put : HasTold by
      (link_lines c (number_of me count) role peer asked held served.receipt) sheet later
