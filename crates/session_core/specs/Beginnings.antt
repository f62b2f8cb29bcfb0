-- What a connection is told and how it ended where its first call was refused.
use Rattle.std.specs.Prelude.{◌≡◌, ℕ, ⊤, Bool, IfSome, List, [], ◌∷◌, ◌++◌, map, Option, None, Some}
use Rattle.base_select.specs.Measure.{IsOnEarth}
use Rattle.turn_log.specs.History.{History}
use Rattle.turn_log.specs.declared.place.TurnFault.{TurnFault}
use Rattle.turn_log.specs.declared.place.TurnFault.TheVariants as turns
use Rattle.mount_ring.specs.declared.call.RingCall.{RingCall}
use Rattle.caster_accounts.specs.declared.call.BookCall.{BookCall}
use Rattle.rover_cursor.specs.declared.fault.SegFault.{SegFault}
use Rattle.rover_cursor.specs.declared.fault.SegFault.TheVariants as segments
use Rattle.source_session.specs.declared.fault.ClaimFault.{ClaimFault}
use Rattle.source_session.specs.declared.fault.ClaimFault.TheVariants as claims
use Rattle.ntrip_head.specs.declared.request.Version.{Version}
use Rattle.ntrip_head.specs.declared.request.Request.{Request}
use Rattle.ntrip_head.specs.declared.request.Request.TheVariants as requests
use Rattle.ntrip_reply.specs.declared.kind.Reply.TheVariants as replies
use Rattle.session_model.specs.declared.ending.Ending.{Ending}
use Rattle.session_model.specs.declared.ending.Ending.TheVariants as endings
use Rattle.cast_config.specs.declared.config.Config.{Config}
use Rattle.session_core.specs.declared.ending.Bare.{Bare}
use Rattle.session_core.specs.declared.ending.Bare.TheVariants.{Source, Rover}
use Rattle.session_model.specs.Setting as setting
use Rattle.session_model.specs.Judged.{Opening, bare_source, bare_rover}
use Rattle.session_model.specs.Replies.{text_if}
use Rattle.session_model.specs.Run.{Histories}

-- the histories of all mountpoints and of the book
abbrev pub histories_of : List (History RingCall) → History BookCall → Histories
histories_of rings book = record { rings = rings; book = book }

-- by how many turns each place is worn, that at the book the last
abbrev pub worn_at : {P B : Type 0} → (P → ℕ) → (B → ℕ) → List P → B → List ℕ
worn_at ring_worn book_worn rings book = map ring_worn rings ++ book_worn book ∷ []

-- which of the places may lack memory, that at the book the last
abbrev pub lacks_at : {P B : Type 0} → (P → Bool) → (B → Bool) → List P → B → List Bool
lacks_at ring_lacks book_lacks rings book = map ring_lacks rings ++ book_lacks book ∷ []

-- a source that is not given its claim
abbrev pub end_unclaimed : ClaimFault → Ending
end_unclaimed (claims.Taken caller claim) = endings.Taken caller claim
end_unclaimed (claims.Worn given) = endings.Worn given
end_unclaimed claims.Memory = endings.Memory

abbrev pub text_unclaimed : Option Version → ClaimFault → List ℕ
text_unclaimed version (claims.Taken caller claim) = text_if version replies.Taken []
text_unclaimed version (claims.Worn given) = []
text_unclaimed version claims.Memory = []

-- a rover whose entry was refused
abbrev pub end_unentered : TurnFault → Ending
end_unentered (turns.Worn given) = endings.Worn given
end_unentered turns.Memory = endings.Memory

-- a rover that entered, and was refused a turn as it joined
abbrev pub end_unjoined : SegFault → Ending
end_unjoined (segments.Worn given) = endings.Worn given
end_unjoined segments.Memory = endings.Memory

abbrev pub ended_joining : Option SegFault → Option Ending
ended_joining None = None
ended_joining (Some fault) = Some (end_unjoined fault)

-- the report that a rover's head brings is a position on the earth
abbrev pub IsRequestOnEarth : Request → Type 0
IsRequestOnEarth (requests.Table version) = ⊤
IsRequestOnEarth (requests.Rover version mount auth first) = IfSome first IsOnEarth
IsRequestOnEarth (requests.Source version mount password chunked) = ⊤

-- the sourcetable that is at hand where a connection is replied to in this version, if it is
abbrev pub IsTableFor : Option Version → List ℕ → Config → Type 0
IsTableFor None table c = ⊤
IsTableFor (Some version) table c = table ≡ setting.table c

-- how a connection without head and reply opens, with the name of its mountpoint
abbrev pub bare_opening : Bare → List ℕ → Opening
bare_opening Source mount = bare_source mount
bare_opening Rover mount = bare_rover mount
