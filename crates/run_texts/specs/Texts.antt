-- The texts of recorded runs: the report of a script, and what a session that is made of a number
-- comes to.
use Rattle.std.specs.Prelude.{◌≡◌, ℕ, List, [], ◌∷◌, ◌++◌, length, codes}
use Rattle.std.specs.List.{sum_by}
use Rattle.std.specs.Fmt.{decimal}
use Rattle.rover_cursor.specs.declared.segment.Segment.{Segment}
use Rattle.session_script.specs.declared.Event.{Event}
use Rattle.session_make.specs.Rounds.{events_of}
use Rattle.cast_config.specs.declared.config.Config.{Config}
use Rattle.cast_config.specs.Bare.{bare}
use Rattle.session_model.specs.declared.report.Connection.{Connection}
use Rattle.session_model.specs.declared.report.Report.{Report}
use Rattle.session_model.specs.Reports as reports
use Rattle.session_model.specs.Reports.{IsReport, no_heads}
use Rattle.session_model.specs.Text.{line, closed_text, report_text}
use Rattle.caster_warm.specs.Warm.{IsWarmReport}

-- the text is that of the report of a recorded run of these events
pub record IsRunText (c : Config) (events : List Event) (text : List ℕ) : Type 0 where
  pub report : Report
  pub is : IsReport c events report
  pub text_is : text ≡ report_text c report

-- the text is that of the report of a recorded run of these events in which rovers are greeted
pub record IsWarmText (c : Config) (events : List Event) (text : List ℕ) : Type 0 where
  pub report : Report
  pub is : IsWarmReport c events report
  pub text_is : text ≡ report_text c report

-- ---- of bare connections

-- the report of a run of bare connections: none of them sends a head
abbrev pub bare_report : Config → List Event → Report
bare_report c events = reports.report c no_heads events

-- its text
unfoldable pub bare_report_text : Config → List Event → List ℕ
bare_report_text c events = report_text c (bare_report c events)

-- ---- of a session that is made of a number

-- the laps of all segments of a connection
abbrev pub laps_of : Connection → ℕ
laps_of told = sum_by (λ (segment : Segment). length segment.laps) told.receipt.segments

-- how many laps there were, and then what the mountpoints and the accounts came to
abbrev pub summary : Config → Report → List ℕ
summary c report =
    line (codes "laps" ∷ decimal (sum_by laps_of report.connections) ∷ [])
    ++ closed_text c report.closed

-- that of the session of this seed with so many frames and rovers, over a ring of 64 frames
unfoldable pub made_text : ℕ → ℕ → ℕ → List ℕ
made_text seed frames rovers =
    summary (bare 64) (bare_report (bare 64) (events_of seed frames rovers))
