use Rattle.std.proofs.Common.{◌∙◌, ◌++◌, ℕ, List, [], ◌∷◌, ap}
use Rattle.std.specs.Prelude.{codes}
use Rattle.std.specs.List.{flat_map}
use Rattle.std.specs.Fmt.{decimal}
use Rattle.rover_cursor.specs.declared.segment.Segment.{Segment}
use Rattle.session_model.specs.Text.{connection_lines, ending_words, hex_or_dash, line, segment_lines}
use Rattle.session_text.proofs.TextLemmas.{three_pieces}
use Rattle.session_text.proofs.report_lines.push_connection.Goals as goal

pub returns-clause-ok : goal.returns-clause-ok
unfolding connection_lines
returns-clause-ok c =
    let told = c.args.told.now in
    let front = line (codes "connection" ∷ decimal told.number ∷ ending_words told.receipt.ending)
    ++ line (codes "junk" ∷ decimal told.receipt.junk ∷ []) in
    three_pieces c.args.out.now.items c.push_front.new.out.items c.push_segments.new.out.items
    c.push_bytes.new.out.items front (flat_map (segment_lines c.args.config.now) c.as_slice.result.now)
    (line (codes "bytes" ∷ hex_or_dash c.bytes.result.now ∷ []))
    c.in_ok-push_front.ensures.ok c.in_ok-push_segments.ensures.ok c.in_ok-push_bytes.ensures.ok
    ∙ ap (λ (segments : List Segment). c.args.out.now.items
    ++ ((front ++ flat_map (segment_lines c.args.config.now) segments)
    ++ line (codes "bytes" ∷ hex_or_dash c.bytes.result.now ∷ []))) c.as_slice.ensures
    ∙ ap (λ (bytes : List ℕ). c.args.out.now.items
    ++ ((front ++ flat_map (segment_lines c.args.config.now) told.receipt.segments)
    ++ line (codes "bytes" ∷ hex_or_dash bytes ∷ []))) c.bytes.ensures

pub returns-clause-begins : goal.returns-clause-begins
returns-clause-begins c = (connection_lines c.args.config.now c.args.told.now, returns-clause-ok c)
