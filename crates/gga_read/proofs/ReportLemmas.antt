-- Reports of more lines.
use Rattle.std.proofs.Common.{◌≡◌, ℕ, List, [], ◌∷◌, ◌++◌, Option, Some, None, option_to_list, sym, ap, subst, ◌∙◌}
use Rattle.std.specs.Prelude.{filter_map}
use Rattle.std.specs.List.{cons_option}
use Rattle.std.proofs.lemmas.List.Elements.{filter_map-append}
use Rattle.cast_text.specs.Lines.{whole_lines}
use Rattle.gga_read.specs.declared.Position.{Position}
use Rattle.gga_read.specs.Report.{fix_of, reports}

of_option : (read report : Option Position) → report ≡ read → cons_option read [] ≡ option_to_list report
of_option None report e = sym (ap option_to_list e)
of_option (Some at) report e = sym (ap option_to_list e)

-- the reports of one line
pub of_one : (line : List ℕ) (report : Option Position) → report ≡ fix_of line
    → filter_map fix_of (line ∷ []) ≡ option_to_list report
of_one line report e = of_option (fix_of line) report e

-- one line more or none
pub reports_more : (limit : ℕ) (bytes more : List ℕ) (lines : List (List ℕ)) (report : Option Position) → limit ≡ 128
    → whole_lines limit more ≡ whole_lines limit bytes ++ lines → filter_map fix_of lines ≡ option_to_list report
    → reports more ≡ reports bytes ++ option_to_list report
reports_more limit bytes more lines report at_limit e r =
    let whole : whole_lines 128 more ≡ whole_lines 128 bytes ++ lines =
    subst (λ (n : ℕ). whole_lines n more ≡ whole_lines n bytes ++ lines) at_limit e in
    ap (λ (ls : List (List ℕ)). filter_map fix_of ls) whole
    ∙ filter_map-append fix_of (whole_lines 128 bytes) lines
    ∙ ap (λ (ps : List Position). reports bytes ++ ps) r
