-- What a connection asked, by what its head is.
use Rattle.std.specs.Prelude.{◌≡◌, ◌⊎◌, ℕ, ⊤, List, ◌++◌, Option, None, Some, IfSome, Result, Ok, Err}
use Rattle.ntrip_head.specs.declared.fault.HeadFault.{HeadFault}
use Rattle.ntrip_head.specs.declared.request.Auth.{Auth}
use Rattle.ntrip_head.specs.declared.request.Auth.TheVariants as auths
use Rattle.ntrip_head.specs.declared.request.Request.{Request}
use Rattle.ntrip_head.specs.declared.request.Request.TheVariants as requests
use Rattle.ntrip_head.specs.Head.{IsOpen}
use Rattle.session_model.specs.declared.ending.Ending.{Ending}
use Rattle.session_model.specs.declared.ending.Ending.TheVariants.{Memory}
use Rattle.session_model.specs.Headings.{Heading, whole}
use Rattle.session_model.specs.Judged.{Opening, sends_head}
use Rattle.session_model.specs.Reports.{IsHeadingOf}
use Rattle.session_core.specs.declared.asked.Asked.{Asked}
use Rattle.session_core.specs.declared.asked.Asked.TheVariants.{Table, Rover, Source}
use Rattle.session_core.specs.declared.session.Session.{Session}
use Rattle.session_core.specs.declared.session_stage.SessionStage.{SessionStage}
use Rattle.session_core.specs.declared.session_stage.SessionStage.TheVariants.{Head}
use Rattle.session_core.specs.Holding.{HoldsOn}
use Rattle.session_core.specs.States.{session_holding}

-- ---- by the head

-- the user of these credentials, if they name one
abbrev pub user_of : Auth → Option (List ℕ)
user_of auths.None = None
user_of (auths.Basic user password) = Some user
user_of auths.Unread = None

-- what a request asks, without its password
abbrev pub asked_of : Request → Asked
asked_of (requests.Table version) = Table version
asked_of (requests.Rover version mount auth first) = Rover version mount (user_of auth)
asked_of (requests.Source version mount password chunked) = Source version mount

-- what a whole head asks that is no fault
abbrev pub asked_by : Result Request HeadFault → Option Asked
asked_by (Ok request) = Some (asked_of request)
asked_by (Err fault) = None

-- only the head of a client asks something, and only once it is whole
abbrev pub asked_in : Heading → Option Asked
asked_in (whole at answer) = asked_by answer
asked_in _ = None

-- ---- what is told of a connection

-- Told is what was asked; or nothing, of a connection that want of memory ended.
abbrev pub IsAsking : Option Asked → Option Ending → Option Asked → Type 0
IsAsking told ended asked = (told ≡ asked) ⊎ ((told ≡ None) × (ended ≡ Some Memory))

-- Of a connection to which these bytes came, told is what they ask, whatever bytes follow.
abbrev pub TellsBehind : Opening → List ℕ → Option Asked → Option Ending → Type 0
TellsBehind opening text told ended =
    (more : List ℕ) (heading : Heading) → IsHeadingOf (Some opening) (text ++ more) heading
    → IsAsking told ended (asked_in heading)

-- While the head of a connection is awaited, nothing is told of it.
abbrev pub TellsAt : Opening → List ℕ → Option Asked → Option Ending → SessionStage → Type 0
TellsAt opening text told ended (Head head) =
    (opening ≡ sends_head) × (head ≡ text) × IsOpen head × (told ≡ None)
TellsAt opening text told ended _ = TellsBehind opening text told ended

-- the session of a connection that opened so and to which these bytes came tells what it asked
abbrev pub TellsAsked : Opening → List ℕ → Session → Type 0
TellsAsked opening text session = TellsAt opening text session.asked session.ended session.stage

-- what is told is told to the end
abbrev pub AsksOn : Option Asked → Option Asked → Type 0
AsksOn told later = IfSome told (λ asked. later ≡ Some asked)

-- ---- over a call

-- what a session told of what its head asked stays once the head is behind it
abbrev pub AsksStill : SessionStage → Option Asked → Option Asked → Type 0
AsksStill (Head head) told later = ⊤
AsksStill _ told later = later ≡ told

-- What stays of a session over a call: its caller, an account or a claim that it holds, and what it
-- told of what its head asked.
pub record StaysItself (old new : Session) : Type 0 where
  pub me : new.me ≡ old.me
  pub holds : HoldsOn (session_holding old) (session_holding new)
  pub asks : AsksStill old.stage old.asked new.asked
