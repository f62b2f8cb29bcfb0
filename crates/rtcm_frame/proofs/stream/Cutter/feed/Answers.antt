use Rattle.std.proofs.Common.{◌++◌, take, ap, ap₂, ◌∙◌, sym, subst}
use Rattle.rtcm_frame.specs.Pending.{Pending, Gave}
use Rattle.rtcm_frame.proofs.HeldLemmas.{put_behind}
use Rattle.rtcm_frame.proofs.PendingLemmas.{gave_more, pending_of}
use Rattle.rtcm_frame.proofs.stream.Cutter.feed.Goals as goal

pub returns-clause-behind : goal.returns-clause-behind
returns-clause-behind c =
    let place = c.with_room-place.result.start in
    let count = c.put_from-count.result in
    let held = c.self.inside in
    let bytes = put_behind c.with_room-place.new.buffer c.put_from-count.new.buffer place held.len count
    c.put_from-count.ensures.front
    ∙ ap₂ ◌++◌ c.with_room-place.ensures.bytes c.put_from-count.ensures.bytes
    ∙ ap (λ (p : Pending). p.bytes ++ take count c.args.bytes.now) c.self.view_is
    in
    ap₂ pending_of bytes (ap (λ (p : Pending). p.junk) c.self.view_is)

pub returns-clause-stands : goal.returns-clause-stands
returns-clause-stands c = λ given all gave.
    let place = c.with_room-place.result.start in
    let count = c.put_from-count.result in
    let held = c.self.inside in
    let more = take count c.args.bytes.now in
    let bytes = put_behind c.with_room-place.new.buffer c.put_from-count.new.buffer place held.len count
    c.put_from-count.ensures.front
    ∙ ap₂ ◌++◌ c.with_room-place.ensures.bytes c.put_from-count.ensures.bytes
    ∙ ap (λ (p : Pending). p.bytes ++ more) c.self.view_is
    in
    let junk = ap (λ (p : Pending). p.junk) c.self.view_is in
    subst (Gave given (all ++ more)) (sym (ap₂ pending_of bytes junk)) (gave_more given all c.args.self.now more gave)
