-- What a connection is to this caster, by its head and its bytes so far.
use Rattle.std.specs.Prelude.{ℕ, nat_le, Bool, true, false, List, drop, length, slice_get, Option, None, Some, Result, Ok, Err}
use Rattle.gga_read.specs.declared.Position.{Position}
use Rattle.ntrip_head.specs.declared.fault.HeadFault.{HeadFault}
use Rattle.ntrip_head.specs.declared.fault.HeadFault.TheVariants as heads
use Rattle.ntrip_head.specs.declared.request.Version.{Version}
use Rattle.ntrip_head.specs.declared.request.Version.TheVariants.{One}
use Rattle.ntrip_head.specs.declared.request.Auth.TheVariants as auths
use Rattle.ntrip_head.specs.declared.request.Request.{Request}
use Rattle.ntrip_head.specs.declared.request.Request.TheVariants as requests
use Rattle.ntrip_reply.specs.declared.kind.Reply.{Reply}
use Rattle.ntrip_reply.specs.declared.kind.Reply.TheVariants as replies
use Rattle.ntrip_client.specs.declared.answer.Refusal.{Refusal}
use Rattle.ntrip_client.specs.declared.answer.Refusal.TheVariants as refusals
use Rattle.ntrip_client.specs.Answer.{Said}
use Rattle.cast_config.specs.declared.config.Config.{Config}
use Rattle.cast_config.specs.declared.config.Relay.{Relay}
use Rattle.cast_config.specs.Names.{mount_names, place_of}
use Rattle.access_groups.specs.declared.admission.Admission.{Admission}
use Rattle.access_groups.specs.declared.admission.Denial.{Denial}
use Rattle.access_groups.specs.declared.admission.Denial.TheVariants as denials
use Rattle.access_groups.specs.declared.admission.SourceDenial.{SourceDenial}
use Rattle.access_groups.specs.declared.admission.SourceDenial.TheVariants as sources
use Rattle.access_groups.specs.Admission.{admission, source_admission}
use Rattle.session_model.specs.declared.ending.Ending.{Ending}
use Rattle.session_model.specs.declared.ending.Ending.TheVariants as endings
use Rattle.session_model.specs.Headings.{Heading, incomplete, too_long, whole, answered}

-- how a connection opens: with a head, as the relay of this number, or as a bare source or rover of
-- the mountpoint of this name
pub data Opening : Type 0 where
  sends_head : Opening
  relays : ℕ → Opening
  bare_source : List ℕ → Opening
  bare_rover : List ℕ → Opening

-- a source that was let in: the version of NTRIP in which it is replied to, if it is, the number
-- of its mountpoint, and whether its body comes in chunks
pub record SourceTerms : Type 0 where
  pub version : Option Version
  pub mount : ℕ
  pub chunked : Bool

-- a rover that was let in: the version, its account, group and bases, and the report of its head
pub record RoverTerms : Type 0 where
  pub version : Option Version
  pub admission : Admission
  pub first : Option Position

-- the reply that is made in this version of NTRIP; none is made without a version
abbrev pub replied : Option Version → Reply → Option (Version × Reply)
replied None reply = None
replied (Some version) reply = Some (version, reply)

pub data Judged : Type 0 where
  -- nothing can be said yet
  waiting : Judged
  -- it is sent this reply, if one is made, and ends so
  finished : Option (Version × Reply) → Ending → Judged
  -- with all bytes behind the head
  source : SourceTerms → List ℕ → Judged
  rover : RoverTerms → List ℕ → Judged

-- ---- who is let in, with the reply and the ending of each refusal

abbrev pub source_judged : Option Version → (chunked : Bool) → List ℕ → Result ℕ SourceDenial
    → Judged
source_judged version chunked body (Ok mount) =
    source (record { version = version; mount = mount; chunked = chunked }) body
source_judged version chunked body (Err sources.NoMount) =
    finished (replied version replies.SourceNoMount) endings.NoMount
source_judged version chunked body (Err sources.Password) =
    finished (replied version replies.SourcePassword) endings.SourcePassword

abbrev pub rover_judged : Option Version → Option Position → List ℕ → Result Admission Denial
    → Judged
rover_judged version first tail (Ok admission) =
    rover (record { version = version; admission = admission; first = first }) tail
rover_judged version first tail (Err denials.NoMount) =
    finished (replied version replies.RoverNoMount) endings.NoMount
rover_judged version first tail (Err denials.NoAccount) =
    finished (replied version replies.Unauthorized) endings.NoAccount
rover_judged version first tail (Err (denials.Password account)) =
    finished (replied version replies.Unauthorized) (endings.Password account)
rover_judged version first tail (Err (denials.Group group)) =
    finished (replied version replies.Denied) (endings.Denied group)

-- ---- what a head asks for

abbrev pub fault_judged : HeadFault → Judged
fault_judged heads.Bad = finished (Some (One, replies.BadHead)) endings.BadHead
fault_judged heads.Method = finished (Some (One, replies.Method)) endings.Method
fault_judged heads.Coding = finished (Some (One, replies.Coding)) endings.Coding

abbrev pub request_judged : Config → List ℕ → Result Request HeadFault → Judged
request_judged c body (Err fault) = fault_judged fault
request_judged c body (Ok (requests.Table version)) =
    finished (Some (version, replies.Table)) endings.TableSent
request_judged c body (Ok (requests.Rover version mount auth first)) =
    rover_judged (Some version) first body (admission c auth mount)
request_judged c body (Ok (requests.Source version mount password chunked)) =
    source_judged (Some version) chunked body (source_admission c mount password)

-- ---- all bytes so far

-- nothing is said of fewer bytes than a head has
abbrev pub once : (whole : Bool) → Judged → Judged
once true judged = judged
once false judged = waiting

abbrev pub heading_judged : Config → Heading → List ℕ → Judged
heading_judged c incomplete text = waiting
heading_judged c too_long text =
    once (nat_le 8192 (length text)) (finished (Some (One, replies.BadHead)) endings.LongHead)
heading_judged c (whole at answer) text =
    once (nat_le at (length text)) (request_judged c (drop at text) answer)
heading_judged c (answered at said) text = waiting

-- ---- what another caster answers

abbrev pub ending_by_answer : Refusal → Ending
ending_by_answer refusals.BadHead = endings.BadHead
ending_by_answer refusals.LongHead = endings.LongHead
ending_by_answer refusals.Coding = endings.Coding
ending_by_answer refusals.Table = endings.UpstreamTable
ending_by_answer (refusals.Status status) = endings.Upstream status

-- the caster's frames are those of a source of the mountpoint that the relay feeds; no reply is
-- sent to a caster
abbrev pub said_judged : ℕ → List ℕ → Said → Judged
said_judged mount body (Ok chunked) =
    source (record { version = None; mount = mount; chunked = chunked }) body
said_judged mount body (Err refusal) = finished None (ending_by_answer refusal)

abbrev pub relay_judged : ℕ → Heading → List ℕ → Judged
relay_judged mount incomplete text = waiting
relay_judged mount too_long text =
    once (nat_le 8192 (length text)) (finished None endings.LongHead)
relay_judged mount (whole at answer) text = waiting
relay_judged mount (answered at said) text =
    once (nat_le at (length text)) (said_judged mount (drop at text) said)

-- the mountpoint that it feeds
abbrev pub mount_fed : Option Relay → ℕ
mount_fed None = 0
mount_fed (Some relay) = relay.mount

-- ---- all of them

-- a bare source is judged by its mountpoint's name alone: it has no head that could give a password
abbrev pub named : Option ℕ → Result ℕ SourceDenial
named None = Err sources.NoMount
named (Some mount) = Ok mount

abbrev pub bare_admission : Config → List ℕ → Result ℕ SourceDenial
bare_admission c mount = named (place_of (mount_names c.mount) mount)

-- a bare rover gives no credentials; neither is replied to
abbrev pub judged : Config → Opening → Heading → List ℕ → Judged
judged c sends_head heading text = heading_judged c heading text
judged c (relays n) heading text = relay_judged (mount_fed (slice_get c.relay n)) heading text
judged c (bare_source mount) heading text =
    source_judged None false text (bare_admission c mount)
judged c (bare_rover mount) heading text =
    rover_judged None None text (admission c auths.None mount)
