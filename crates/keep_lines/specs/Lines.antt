-- The lines of a link, each as the bytes of its text. Its words stand one space apart, and a
-- newline ends it.
use Rattle.std.specs.Prelude.{◌≡◌, ℕ, ◌-◌, ◌==◌, if◌then◌else◌, Bool, true, false, List, [], ◌∷◌, ◌++◌, codes, map, slice_get, Option, None, Some}
use Rattle.std.specs.List.{flat_map}
use Rattle.std.specs.Fmt.{decimal}
use Rattle.mount_ring.specs.declared.cursor.Lap.{Lap}
use Rattle.rover_cursor.specs.declared.segment.Segment.{Segment}
use Rattle.cast_text.specs.Name.{is_name}
use Rattle.cast_config.specs.declared.config.Config.{Config}
use Rattle.cast_config.specs.declared.config.Mount.{Mount}
use Rattle.cast_config.specs.declared.config.Account.{Account}
use Rattle.ntrip_head.specs.declared.request.Version.{Version}
use Rattle.ntrip_head.specs.declared.request.Version.TheVariants.{One, Two}
use Rattle.session_model.specs.declared.report.Receipt.{Receipt}
use Rattle.session_model.specs.Text.{ending_words, line}
use Rattle.keep_lines.specs.Words.{dash, shown}
use Rattle.keep_lines.specs.declared.told.LinkNumber.{LinkNumber}
use Rattle.keep_lines.specs.declared.told.Peer.{Peer}
use Rattle.keep_lines.specs.declared.told.Peer.TheVariants as peers
use Rattle.keep_lines.specs.declared.told.Wants.{Wants}
use Rattle.keep_lines.specs.declared.told.Wants.TheVariants as wanted
use Rattle.keep_lines.specs.declared.told.Asks.{Asks}
use Rattle.keep_lines.specs.declared.told.Entered.{Entered}
use Rattle.keep_lines.specs.declared.told.Entered.TheVariants as entries
use Rattle.keep_lines.specs.declared.told.Who.{Who}
use Rattle.keep_lines.specs.declared.told.Who.TheVariants as whose

-- ---- words

-- the number of a link: that of its caller, a dot (46), and which of the caller's links it is
abbrev pub link_word : LinkNumber → List ℕ
link_word link = decimal link.caller ++ 46 ∷ decimal link.count

-- the line of a link that says these words
abbrev pub line_with : LinkNumber → List (List ℕ) → List ℕ
line_with link words = line (link_word link ∷ words)

-- the text begins with the number of this link and a space
abbrev pub IsLineOf : LinkNumber → List ℕ → Type 0
IsLineOf link text = (rest : List ℕ) × (text ≡ link_word link ++ 32 ∷ rest)

-- the text is a line of this link that says `end`
abbrev pub IsEndOf : LinkNumber → List ℕ → Type 0
IsEndOf link text = (words : List (List ℕ)) × (text ≡ line_with link (codes "end" ∷ words))

-- the name of a mountpoint by its number
abbrev pub mount_or_dash : Option Mount → List ℕ
mount_or_dash None = dash
mount_or_dash (Some mount) = mount.name

abbrev pub mount_word : Config → ℕ → List ℕ
mount_word c mount = mount_or_dash (slice_get c.mount mount)

-- the user of an account: they are numbered from 1, and 0 stands for no credentials
abbrev pub user_or_dash : Option Account → List ℕ
user_or_dash None = dash
user_or_dash (Some account) = account.user

abbrev pub user_word : Config → ℕ → List ℕ
user_word c account =
    if account == 0 then dash else user_or_dash (slice_get c.account (account - 1))

-- ---- where a link came from

-- it was accepted from there, or it was dialled
abbrev pub peer_words : Peer → List (List ℕ)
peer_words (peers.From address) = codes "from" ∷ shown address.now ∷ []
peer_words peers.Unknown = codes "from" ∷ dash ∷ []
peer_words (peers.To address) = codes "to" ∷ shown address.now ∷ []

abbrev pub link_line : LinkNumber → Peer → List ℕ
link_line link peer = line_with link (peer_words peer)

-- ---- what it asks for

abbrev pub version_word : Version → List ℕ
version_word One = codes "1"
version_word Two = codes "2"

abbrev pub kind_word : Wants → List ℕ
kind_word (wanted.Rover mount) = codes "rover"
kind_word (wanted.Source mount) = codes "source"
kind_word wanted.Table = codes "table"

abbrev pub target_word : Wants → List ℕ
target_word (wanted.Rover mount) = mount.now
target_word (wanted.Source mount) = mount.now
target_word wanted.Table = dash

-- a user that no account can have is not shown: its bytes may be any
abbrev pub user_shown : List ℕ → List ℕ
user_shown user = if is_name user then user else dash

abbrev pub asks_line : LinkNumber → Asks → List ℕ
asks_line link asks =
    line_with link (codes "asks" ∷ version_word asks.version ∷ kind_word asks.wants
    ∷ target_word asks.wants ∷ user_shown asks.user.now ∷ [])

-- ---- as what it was let in

abbrev pub entered_words : Config → Entered → List (List ℕ)
entered_words c (entries.Rover account) = codes "rover" ∷ user_word c account ∷ []
entered_words c (entries.Source mount claim) =
    codes "source" ∷ mount_word c mount ∷ decimal claim ∷ []
entered_words c (entries.Relay mount claim) =
    codes "relay" ∷ mount_word c mount ∷ decimal claim ∷ []

abbrev pub entered_line : Config → LinkNumber → Entered → List ℕ
entered_line c link entered = line_with link (entered_words c entered)

-- ---- its receipt

abbrev pub segment_line : Config → LinkNumber → Segment → List ℕ
segment_line c link segment =
    line_with link (codes "segment" ∷ mount_word c segment.mount ∷ decimal segment.from
    ∷ decimal segment.to ∷ decimal segment.sent ∷ decimal segment.overrun ∷ [])

abbrev pub lap_line : LinkNumber → Lap → List ℕ
lap_line link lap =
    line_with link (codes "lap" ∷ decimal lap.from ∷ decimal lap.to ∷ decimal lap.published
    ∷ decimal lap.overrun ∷ [])

-- a kind and a name are one word: names hold no `:`
abbrev pub rover_word : Config → ℕ → List ℕ
rover_word c account =
    if account == 0 then codes "anonymous" else codes "rover:" ++ user_word c account

abbrev pub who_word : Config → Who → List ℕ
who_word c (whose.Rover account) = rover_word c account
who_word c (whose.Source mount) = codes "source:" ++ mount_word c mount
who_word c (whose.Relay mount) = codes "relay:" ++ mount_word c mount
who_word c whose.Nobody = dash

-- what a link held could not be given back
abbrev pub settled_words : (settled : Bool) → List (List ℕ)
settled_words true = []
settled_words false = codes "unsettled" ∷ []

abbrev pub end_words : Config → Who → Receipt → List (List ℕ)
end_words c who receipt =
    codes "end" ∷ who_word c who ∷ decimal receipt.sent ∷ decimal receipt.overrun
    ∷ decimal receipt.junk ∷ (ending_words receipt.ending ++ settled_words receipt.settled)

abbrev pub end_line : Config → LinkNumber → Who → Receipt → List ℕ
end_line c link who receipt = line_with link (end_words c who receipt)

-- a segment's line, and those of its laps
abbrev pub segment_lines : Config → LinkNumber → Segment → List (List ℕ)
segment_lines c link segment = segment_line c link segment ∷ map (lap_line link) segment.laps

-- the segments in order, and then the last line
abbrev pub receipt_lines : Config → LinkNumber → Who → Receipt → List (List ℕ)
receipt_lines c link who receipt =
    flat_map (segment_lines c link) receipt.segments ++ end_line c link who receipt ∷ []

-- ---- how things stand

-- a line that says how things stand begins with `now`, which is the number of no link
abbrev pub now_line : List (List ℕ) → List ℕ
now_line words = line (codes "now" ∷ words)

-- a number that is not there is a dash
abbrev pub number_or_dash : Option ℕ → List ℕ
number_or_dash None = dash
number_or_dash (Some number) = decimal number

-- how many frames were published at a mountpoint, and the claim under which it is held
abbrev pub now_mount_line : Config → ℕ → Option ℕ → Option ℕ → List ℕ
now_mount_line c mount published claim =
    now_line (codes "mount" ∷ mount_word c mount ∷ number_or_dash published
    ∷ number_or_dash claim ∷ [])

-- how many workers serve a link, and how many there are
abbrev pub now_workers_line : Config → ℕ → List ℕ
now_workers_line c busy =
    now_line (codes "workers" ∷ decimal busy ∷ decimal c.workers ∷ [])

-- the line that ends those of how things stand
abbrev pub now_end_line : List ℕ
now_end_line = now_line (codes "end" ∷ [])
