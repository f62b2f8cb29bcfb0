-- A connection that is served over its link, step by step.
use Rattle.std.specs.Prelude.{◌≡◌, ℕ, ◌+◌, ◌^◌, ◌<◌, ◌≤◌, ◌⊎◌, true, false, IsTrue, [], ◌∷◌, length, is_some, Option, None, Some}
use Rattle.cast_io.specs.declared.steps.Step.{Step as LinkTook}
use Rattle.cast_io.specs.declared.steps.Step.TheVariants as took
use Rattle.cast_io.specs.Told.{LinkTold}
use Rattle.cast_config.specs.declared.config.Config.{Config}
use Rattle.session_model.specs.declared.ending.Ending.TheVariants.{Memory}
use Rattle.session_model.specs.declared.ending.Last.{Last}
use Rattle.session_model.specs.declared.ending.Last.TheVariants as lasts
use Rattle.session_model.specs.declared.report.Receipt.{Receipt}
use Rattle.session_model.specs.Judged.{Opening}
use Rattle.session_model.specs.Owed.{came_to}
use Rattle.session_model.specs.Courses.{happened, steps_of, text_of}
use Rattle.session_model.specs.Headings.{Heading}
use Rattle.session_model.specs.Reports.{IsHeadingOf}
use Rattle.session_model.specs.Run.{Histories}
use Rattle.session_core.specs.declared.held.Held.{Held}
use Rattle.session_core.specs.declared.held.Held.TheVariants.{Nothing}
use Rattle.session_core.specs.States.{session_holding}
use Rattle.session_core.specs.Holding.{HoldsAs, HoldsOn, IsHolding}
use Rattle.session_core.specs.declared.asked.Asked.{Asked}
use Rattle.session_core.specs.Asking.{AsksOn, IsAsking, asked_in}
use Rattle.caster_places.specs.Known.{Known, Fit}
use Rattle.caster_link.specs.declared.service.Service.{Service}
use Rattle.caster_link.specs.Links.{LinkGrew, closes_by}
use Rattle.caster_link.specs.Resting.{rests_behind}
use Rattle.caster_link.specs.Sending.{HasSent, HasTorn}
use Rattle.caster_link.specs.Served.{Serving, Came, LinkServed}

-- ---- the end

-- The link was served to this receipt. Before its connection was closed it held this: what the
-- events came to of which the receipt tells; and this was told of it: what the bytes among them
-- ask.
pub record HasClosed (c : Config) (opening : Opening) (me : ℕ) (start now : Histories)
    (before after : LinkTold) (holding : Held) (told : Option Asked) (receipt : Receipt)
    : Type 0 where
  pub served : LinkServed c opening me start now before after receipt
  pub held : HoldsAs c opening (came_to served.goes.j (steps_of served.goes.events)) holding
  pub asked : (heading : Heading)
      → IsHeadingOf (Some opening) (text_of (happened served.goes.events)) heading
      → IsAsking told served.goes.ended (asked_in heading)

-- ---- between two steps

-- The connection opened so at the first of these histories, where its link told the first of this.
-- All that the link gave since happened to the session, and the last bytes that were made for it
-- are to be written.
pub record IsServed (c : Config) (opening : Opening) (me : ℕ) (start now : Histories)
    (before after : LinkTold) (service : Service) : Type 0 where
  pub serving : Serving c opening me start now service.session before after service.out.items
      service.given
  -- before its last read it was given fewer than 2^62 bytes
  pub few : service.given < 2 ^ 62 + 4096
  -- a read takes at most so many bytes
  pub size : length service.piece ≡ 4096

-- It was opened just now, whatever the histories are and its link tells: it goes on, and its link
-- does not rest before the first read.
pub record IsOpened (c : Config) (opening : Opening) (me : ℕ) (service : Service) : Type 0 where
  pub goes_on : service.session.ended ≡ None
  pub restless : service.may_rest ≡ false
  pub served : (histories : Histories) (told : LinkTold)
      → IsServed c opening me histories histories told told service

-- The receipt of a connection for whose session there was no memory: nothing happened to it, and it
-- held and asked nothing, whatever the histories were and its link told.
pub record IsUnopened (c : Config) (opening : Opening) (me : ℕ) (receipt : Receipt) : Type 0 where
  pub ending : receipt.ending ≡ Memory
  pub settled : receipt.settled ≡ true
  pub closed : (histories : Histories) (told : LinkTold)
      → HasClosed c opening me histories histories told told Nothing None receipt

-- ---- a step

-- its link is to be read: it has not ended by itself, and was given fewer than 2^62 bytes
pub record IsToRead (service : Service) : Type 0 where
  pub goes_on : service.session.ended ≡ None
  pub few : service.given < 2 ^ 62

-- The step went on: the link was to be read, all that was to be written was written, and then one
-- read gave bytes, or found nothing there. The link rests before the next read only where this one
-- found nothing and no frame is left for a rover.
pub record HasStepped (c : Config) (now later : Histories) (before after : LinkTold)
    (service next : Service) : Type 0 where
  pub was : IsToRead service
  pub took : LinkTook
  pub no_end : closes_by took ≡ None
  pub link : LinkGrew before after (took ∷ []) service.out.items
  pub rests : next.may_rest ≡ rests_behind took service.session next.session
  -- what the session held it holds
  pub holds : HoldsOn (session_holding service.session) (session_holding next.session)
  -- from whatever beginning the connection was served so far, it is served on from here
  pub served : (opening : Opening) (me : ℕ) (start : Histories) (first : LinkTold)
      → IsServed c opening me start now first before service
      → IsServed c opening me start later first after next
  -- what is told already of what it asked is told on
  pub asks : (opening : Opening) (me : ℕ) (start : Histories) (first : LinkTold)
      → IsServed c opening me start now first before service
      → AsksOn service.session.asked next.session.asked
  -- and once the session holds something it stays, told or not
  pub asks_still : IsHolding (session_holding service.session)
      → next.session.asked ≡ service.session.asked

-- The step stopped so. A write of what was to be written failed; or all was written, and then the
-- read of a link that was to be read failed, or met its end; or there was no read to make.
abbrev pub HasStopped : LinkTold → LinkTold → Service → Last → Type 0
HasStopped before after service lasts.WriteFault = HasTorn before after service.out.items
HasStopped before after service lasts.ReadFault =
    IsToRead service × LinkGrew before after (took.ReadFailed ∷ []) service.out.items
HasStopped before after service lasts.End =
    (IsToRead service × LinkGrew before after (took.End ∷ []) service.out.items)
    ⊎ (HasSent before after service.out.items
    × (IsTrue (is_some service.session.ended) ⊎ (2 ^ 62 ≤ service.given)))

-- The step stopped, and the session is as it was. From whatever beginning the connection was
-- served so far, it is to be closed for this reason.
pub record ComesTo (c : Config) (now later : Histories) (before after : LinkTold)
    (service next : Service) (last : Last) : Type 0 where
  pub stopped : HasStopped before after service last
  pub still : next.session ≡ service.session
  pub came : (opening : Opening) (me : ℕ) (start : Histories) (first : LinkTold)
      → IsServed c opening me start now first before service
      → Came c opening me start later next.session first after last

-- ---- how it is closed

-- The connection, served from some beginning at places that fit its caller, is to be closed for
-- this reason.
pub record IsToClose (now : Histories) (known : Known) (service : Service) (last : Last)
    : Type 0 where
  pub config : Config
  pub opening : Opening
  pub me : ℕ
  pub start : Histories
  pub before : LinkTold
  pub after : LinkTold
  pub fit : Fit config me known
  pub came : Came config opening me start now service.session before after last

-- From whatever beginning it is to be closed for this reason, its link was served to this receipt.
-- This is what the session held and asked.
abbrev pub IsClosedFrom : Histories → Histories → Known → Service → Last → Receipt → Type 0
IsClosedFrom now later known service last receipt =
    (c : Config) (opening : Opening) (me : ℕ) (start : Histories) (before after : LinkTold)
    → Fit c me known → Came c opening me start now service.session before after last
    → HasClosed c opening me start later before after (session_holding service.session)
    service.session.asked receipt
