-- What is promised of one link of a caster that keeps serving: what is promised of each link that
-- is served, and that what its lines say of its head and of its claim is so.
use Rattle.std.specs.Prelude.{◌≡◌, ℕ, ◌⊎◌, ⊤, false, List, ◌∷◌, Option, None, Some}
use Rattle.cast_io.specs.Links.{bytes_in}
use Rattle.turn_log.specs.Heard.{Heard}
use Rattle.mount_ring.specs.declared.call.RingCall.{RingCall}
use Rattle.mount_ring.specs.declared.call.RingCall.TheVariants.{Claim}
use Rattle.mount_ring.specs.declared.call.RingAnswer.{RingAnswer}
use Rattle.mount_ring.specs.declared.call.RingAnswer.TheVariants.{Given}
use Rattle.session_calls.specs.Rings.{answer_at, history_at}
use Rattle.cast_config.specs.declared.config.Config.{Config}
use Rattle.session_model.specs.declared.ending.Ending.TheVariants.{Memory}
use Rattle.session_model.specs.declared.report.Receipt.{Receipt}
use Rattle.session_model.specs.Headings.{Heading}
use Rattle.session_model.specs.Judged.{Opening}
use Rattle.session_model.specs.Reports.{IsHeadingOf}
use Rattle.session_model.specs.Run.{Histories}
use Rattle.session_model.specs.Setting.{shapes}
use Rattle.session_core.specs.declared.asked.Asked.{Asked}
use Rattle.session_core.specs.declared.held.Held.{Held}
use Rattle.session_core.specs.declared.held.Held.TheVariants as holds
use Rattle.session_core.specs.Asking.{asked_in}
use Rattle.caster_link.specs.declared.role.Role.{Role}
use Rattle.caster_link.specs.Links.{opening_of}
use Rattle.caster_keep.specs.Links.{Kept}
use Rattle.serve_promise.specs.Accounts.{Bill, IsBilled}
use Rattle.serve_promise.specs.Callers.{IsEntryKept}

-- ---- what it asked

-- what its lines say that it asked is what its head asks; or want of memory ended it
abbrev pub IsAsked : Opening → List ℕ → Receipt → Option Asked → Type 0
IsAsked opening given receipt told = (heading : Heading)
    → IsHeadingOf (Some opening) given heading
    → (told ≡ asked_in heading) ⊎ ((told ≡ None) × (receipt.ending ≡ Memory))

-- ---- its claim

-- of all calls that its caller made for it at this mountpoint, each answered at its own point, the
-- first is a Claim, and it was given this one
abbrev pub WasGiven : Config → ℕ → Histories → Histories → ℕ → ℕ → Type 0
WasGiven c me start now mount claim = (rest : List (RingCall × RingAnswer))
    × Heard false (answer_at (shapes c) mount) (history_at start.rings mount)
    (history_at now.rings mount) me ((Claim, Given claim) ∷ rest)

-- the claim that its lines name is the one that it was given
abbrev pub IsItsClaim : Config → ℕ → Histories → Histories → Held → Type 0
IsItsClaim c me start now holds.Nothing = ⊤
IsItsClaim c me start now (holds.Rover account) = ⊤
IsItsClaim c me start now (holds.Source mount claim) = WasGiven c me start now mount claim
IsItsClaim c me start now (holds.Relay mount None) = ⊤
IsItsClaim c me start now (holds.Relay mount (Some claim)) = WasGiven c me start now mount claim

-- ---- all of it

-- what it held before it was closed, and its receipt
abbrev pub bill_of : Kept → Bill
bill_of kept = record { held = kept.held; receipt = kept.entry.receipt }

-- Its connection kept what is promised of each link that is served, by these histories: of its
-- bytes, its receipt and its calls. What its lines say that it asked is what its head asks, and the
-- claim that they name is the one that it was given.
pub record IsKept (c : Config) (role : Role) (me : ℕ) (start now histories : Histories)
    (kept : Kept) : Type 0 where
  pub entry : IsEntryKept c (opening_of role) me start.rings now.rings histories kept.entry
  pub billed : IsBilled c (opening_of role) me (bytes_in entry.taken) start.book now.book
      (bill_of kept)
  pub asked : IsAsked (opening_of role) (bytes_in entry.taken) kept.entry.receipt kept.asked
  pub claim : IsItsClaim c me start now kept.held
