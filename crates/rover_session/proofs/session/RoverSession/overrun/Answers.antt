use Rattle.std.proofs.Common.{◌≡◌, ℕ, ◌-◌, ◌^◌, List, length, min, take, ap, ◌∙◌, arith}
use Rattle.std.specs.Prelude.{reverse}
use Rattle.std.specs.List.{sum_by}
use Rattle.rover_cursor.specs.declared.segment.Segment.{Segment}
use Rattle.rover_session.specs.Made.{overrun_in}
use Rattle.rover_session.specs.Standing.{Rover}
use Rattle.rover_session.proofs.LawLemmas.{sum_all}
use Rattle.rover_session.proofs.session.RoverSession.overrun.Goals as goal

pub returns : goal.returns
returns c =
    let items : List Segment = c.deref-segment-items.result.now in
    let each : Segment → ℕ = λ segment. segment.overrun in
    let whole : c.loop-segment.segment-index ≡ length items = omega arith in
    c.loop-segment.invariant
    ∙ ap (λ (n : ℕ). min (sum_by each (take n items)) (2 ^ 64 - 1)) whole
    ∙ sum_all each items (2 ^ 64 - 1)
    ∙ ap (λ (l : List Segment). overrun_in (reverse l)) c.deref-segment-items.ensures.value
    ∙ ap (λ (r : Rover). overrun_in r.segments) c.self.view_is
