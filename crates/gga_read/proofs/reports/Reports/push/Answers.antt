use Rattle.std.proofs.Common.{◌≡◌, ℕ, List, [], ◌∷◌, ◌++◌, option_to_list, ◌∙◌, ap, subst, sym}
use Rattle.std.specs.Prelude.{filter_map, if◌then◌else◌}
use Rattle.cast_text.specs.Lines.{LineState, StandsFor}
use Rattle.gga_read.specs.Report.{fix_of}
use Rattle.gga_read.proofs.ReportLemmas.{of_one, reports_more}
use Rattle.gga_read.proofs.reports.Reports.push.Goals as goal
use Rattle.gga_read.proofs.reports.Reports.push.Goals.{then-push, else-push}

pub returns-clause-reports : goal.returns-clause-reports
returns-clause-reports c bytes stands =
    let stood : StandsFor c.self.inside.lines bytes =
    subst (λ (s : LineState). StandsFor s bytes) (sym c.self.view_is) stands in
    let line = c.push.new.self.line in
    let given : List (List ℕ) = if c.push.result then line ∷ [] else [] in
    let reported : filter_map fix_of given ≡ option_to_list c.if-push.result =
    elim c.if-push.branch [
      | then-push w ↦
          rw w.if-push.true (of_one line c.if-push.result
          (w.result-is ∙ w.parse_gga.ensures.value ∙ ap fix_of w.line.ensures))
      | else-push w ↦ rw w.if-push.false (sym (ap option_to_list w.result-is))
    ] in
    reports_more c.self.inside.lines.limit bytes (bytes ++ c.args.byte ∷ []) given c.if-push.result c.self.invariant
    (c.push.ensures.lines bytes stood) reported
