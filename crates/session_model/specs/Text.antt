-- The text of a report. Every line ends with LF, and its words stand one space apart.
use Rattle.std.specs.Prelude.{ℕ, List, [], ◌∷◌, ◌++◌, codes, slice_get, Option, None, Some}
use Rattle.std.specs.List.{flat_map, join_with_byte, zip}
use Rattle.std.specs.Fmt.{decimal}
use Rattle.hex.specs.Hex.{encode_lower}
use Rattle.mount_ring.specs.declared.cursor.Lap.{Lap}
use Rattle.caster_accounts.specs.declared.account.Sum.{Sum}
use Rattle.rover_cursor.specs.declared.segment.Segment.{Segment}
use Rattle.cast_config.specs.declared.config.Config.{Config}
use Rattle.cast_config.specs.declared.config.Mount.{Mount}
use Rattle.cast_config.specs.declared.config.Account.{Account}
use Rattle.session_model.specs.declared.ending.Ending.{Ending}
use Rattle.session_model.specs.declared.ending.Ending.TheVariants.{SourceEnd, RoverEnd, TableSent, NoHead, BadHead, LongHead, Method, Coding, NoMount, NoAccount, Password, SourcePassword, Denied, Taken, Full, BadChunk, UpstreamTable, Upstream, ReadFault, WriteFault, Worn, Memory}
use Rattle.session_model.specs.declared.report.MountTotal.{MountTotal}
use Rattle.session_model.specs.declared.report.Closed.{Closed}
use Rattle.session_model.specs.declared.report.Connection.{Connection}
use Rattle.session_model.specs.declared.report.Report.{Report}

-- one line
abbrev pub line : List (List ℕ) → List ℕ
line words = join_with_byte 32 words ++ 10 ∷ []

-- numbers, each with a space (32) before it
abbrev pub spaced : List ℕ → List ℕ
spaced numbers = flat_map (λ number. 32 ∷ decimal number) numbers

-- ---- a connection

abbrev pub ending_words : Ending → List (List ℕ)
ending_words (SourceEnd claim) = codes "source-end" ∷ decimal claim ∷ []
ending_words RoverEnd = codes "rover-end" ∷ []
ending_words TableSent = codes "table-sent" ∷ []
ending_words NoHead = codes "no-head" ∷ []
ending_words BadHead = codes "bad-head" ∷ []
ending_words LongHead = codes "long-head" ∷ []
ending_words Method = codes "method" ∷ []
ending_words Coding = codes "coding" ∷ []
ending_words NoMount = codes "no-mount" ∷ []
ending_words NoAccount = codes "no-account" ∷ []
ending_words (Password account) = codes "password" ∷ decimal account ∷ []
ending_words SourcePassword = codes "source-password" ∷ []
ending_words (Denied group) = codes "denied" ∷ decimal group ∷ []
ending_words (Taken caller claim) = codes "taken" ∷ decimal caller ∷ decimal claim ∷ []
ending_words (Full busy cap) = codes "full" ∷ decimal busy ∷ decimal cap ∷ []
ending_words (BadChunk place) = codes "bad-chunk" ∷ decimal place ∷ []
ending_words UpstreamTable = codes "upstream-table" ∷ []
ending_words (Upstream status) = codes "upstream" ∷ decimal status ∷ []
ending_words ReadFault = codes "read-fault" ∷ []
ending_words WriteFault = codes "write-fault" ∷ []
ending_words (Worn turns) = codes "worn" ∷ decimal turns ∷ []
ending_words Memory = codes "memory" ∷ []

abbrev pub lap_line : Lap → List ℕ
lap_line lap =
    line (codes "lap" ∷ decimal lap.from ∷ decimal lap.to ∷ decimal lap.published
    ∷ decimal lap.overrun ∷ [])

-- a segment's line, with the name of its mountpoint, and those of its laps
abbrev pub name_of : Option Mount → List ℕ
name_of None = []
name_of (Some mount) = mount.name

abbrev pub segment_lines : Config → Segment → List ℕ
segment_lines c segment =
    line (codes "segment" ∷ name_of (slice_get c.mount segment.mount) ∷ decimal segment.from
    ∷ decimal segment.to ∷ decimal segment.sent ∷ decimal segment.overrun ∷ [])
    ++ flat_map lap_line segment.laps

-- bytes as digits in lower case, or a dash where there are none
abbrev pub hex_or_dash : List ℕ → List ℕ
hex_or_dash [] = codes "-"
hex_or_dash (b ∷ bytes) = encode_lower (b ∷ bytes)

unfoldable pub connection_lines : Config → Connection → List ℕ
connection_lines c told =
    line (codes "connection" ∷ decimal told.number ∷ ending_words told.receipt.ending)
    ++ line (codes "junk" ∷ decimal told.receipt.junk ∷ [])
    ++ flat_map (segment_lines c) told.receipt.segments
    ++ line (codes "bytes" ∷ hex_or_dash told.bytes ∷ [])

-- ---- the caster

abbrev pub mount_line : Mount × MountTotal → List ℕ
mount_line (mount, total) =
    line (codes "mount" ∷ mount.name ∷ decimal total.published ∷ decimal total.claims ∷ [])

abbrev pub sum_words : Sum → List (List ℕ)
sum_words sum = decimal sum.sessions ∷ decimal sum.sent ∷ decimal sum.overrun ∷ []

abbrev pub account_line : Account × Sum → List ℕ
account_line (account, sum) = line (codes "account" ∷ account.user ∷ sum_words sum)

-- a line for each mountpoint, one for each named account, and one for all of them
unfoldable pub closed_text : Config → Closed → List ℕ
closed_text c closed =
    flat_map mount_line (zip c.mount closed.mounts)
    ++ flat_map account_line (zip c.account closed.accounts)
    ++ line (codes "total" ∷ sum_words closed.total)

-- ---- both

abbrev pub report_text : Config → Report → List ℕ
report_text c report =
    flat_map (connection_lines c) report.connections ++ closed_text c report.closed
