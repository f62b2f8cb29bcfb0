use Rattle.std.proofs.Common.{◌≡◌, ◌+◌, ◌∷◌, [], ◌++◌, List, ℕ, Option, None, option_to_list, sym, ap, ◌∙◌, subst, take, get_or}
use Rattle.std.specs.List.{last_or}
use Rattle.std.proofs.lemmas.List.{take_more}
use Rattle.cast_text.specs.Lines.{StandsFor}
use Rattle.gga_read.specs.declared.Position.{Position}
use Rattle.gga_read.specs.Report.{reports}
use Rattle.examples.proofs.PositionLemmas.{last_one, last_same}
use Rattle.examples.proofs.positions.last_position.Goals as goal
use Rattle.examples.proofs.positions.last_position.Goals.{in-Some, in_default}

pub loop-byte-preserved : goal.loop-byte-preserved
loop-byte-preserved c =
    let bytes = c.args.bytes.now in
    let i = c.loop-byte.byte-index in
    let so_far = take i bytes in
    let before = c.loop-byte.invariant in
    let next : so_far ++ get_or bytes i 0 ∷ [] ≡ take (i + 1) bytes = sym (take_more bytes i 0 c.loop-byte-test.true) in
    let more = c.push.ensures.reports so_far before.stands in
    let last : c.match-push.last ≡ last_or None (reports so_far ++ option_to_list c.push.result) =
    elim c.match-push.branch [
      | in-Some w ↦ w.last-is
          ∙ sym (last_one None (reports so_far) w.in-Some.at)
          ∙ ap (λ (r : Option Position). last_or None (reports so_far ++ option_to_list r)) (sym w.in-Some.is)
      | in_default w ↦ w.last-is
          ∙ before.last
          ∙ sym (last_same None (reports so_far))
          ∙ ap (λ (r : Option Position). last_or None (reports so_far ++ option_to_list r)) (sym w.in_default.is)
    ] in
    record {
      stands = subst (λ (l : List ℕ). StandsFor c.push.new.self l) next (c.push.ensures.stands so_far before.stands);
      last = last
          ∙ ap (λ (l : List Position). last_or None l) (sym more)
          ∙ ap (λ (l : List ℕ). last_or None (reports l)) next;
    }
