-- As what a link was let in: by the bytes that it gave, and by its receipt.
use Rattle.std.specs.Prelude.{◌≡◌, ℕ, true, false, List, None, Some}
use Rattle.rtcm_frame.specs.Cut.{cut}
use Rattle.source_session.specs.Body.{payload}
use Rattle.cast_config.specs.declared.config.Config.{Config}
use Rattle.session_model.specs.declared.report.Receipt.{Receipt}
use Rattle.session_model.specs.Called.{is_halt}
use Rattle.session_model.specs.Headings.{Heading}
use Rattle.session_model.specs.Judged.{Opening, SourceTerms, RoverTerms, Judged, source, rover, judged}
use Rattle.session_model.specs.Reports.{IsHeadingOf}
use Rattle.session_core.specs.declared.held.Held.{Held}
use Rattle.session_core.specs.declared.held.Held.TheVariants as holds

-- these bytes of a connection that opened so say that it is this
abbrev pub AreJudged : Config → Opening → List ℕ → Judged → Type 0
AreJudged c opening given j = (heading : Heading) × IsHeadingOf (Some opening) given heading
    × (j ≡ judged c opening heading given)

-- By its bytes it was judged a source of this mountpoint. Its receipt counts the junk of what its
-- body carries, unless it was halted, and enters no account.
abbrev pub IsSourceOf : Config → Opening → List ℕ → Receipt → ℕ → Type 0
IsSourceOf c opening given receipt mount =
    (terms : SourceTerms) × (body : List ℕ) × AreJudged c opening given (source terms body)
    × (terms.mount ≡ mount) × (receipt.entered ≡ false)
    × (is_halt receipt.ending ≡ false → receipt.junk ≡ (cut (payload terms.chunked body)).junk)

-- it was let in as nothing
abbrev pub IsOutside : Receipt → Type 0
IsOutside receipt = (receipt.entered ≡ false) × (receipt.junk ≡ 0)

-- What it held before it was closed is what its bytes say that it is: a rover by the account that
-- its head names, a source or a relay at its mountpoint; or nothing.
abbrev pub IsLetIn : Config → Opening → List ℕ → Receipt → Held → Type 0
IsLetIn c opening given receipt holds.Nothing = IsOutside receipt
IsLetIn c opening given receipt (holds.Rover account) =
    (terms : RoverTerms) × (tail : List ℕ) × AreJudged c opening given (rover terms tail)
    × (terms.admission.account ≡ account) × (receipt.entered ≡ true) × (receipt.junk ≡ 0)
IsLetIn c opening given receipt (holds.Source mount claim) =
    IsSourceOf c opening given receipt mount
IsLetIn c opening given receipt (holds.Relay mount None) = IsOutside receipt
IsLetIn c opening given receipt (holds.Relay mount (Some claim)) =
    IsSourceOf c opening given receipt mount
