use Rattle.std.proofs.Common.{ℕ, ◌+◌, ◌<◌, List, [], ◌∷◌, ◌++◌, length, ap, ap₂, ◌∙◌, sym, subst, arith}
use Rattle.rtcm_frame.specs.Pending.{Pending, Gave}
use Rattle.rtcm_frame.proofs.HeldLemmas.{held_length, written_behind}
use Rattle.rtcm_frame.proofs.PendingLemmas.{gave_more, pending_of, waiting_fits}
use Rattle.rtcm_frame.proofs.stream.Cutter.push.Goals as goal

pub returns-clause-behind : goal.returns-clause-behind
returns-clause-behind c =
    let byte = c.args.byte in
    let place = c.with_room-place.result.start in
    let held = c.self.inside in
    let buffer = c.with_room-place.new.buffer in
    let same = ap (λ (p : Pending). length p.bytes) c.self.view_is in
    let few : held.len < length buffer =
    omega (
      arith,
      waiting_fits c.args.self.now.bytes c.requires,
      c.self.told.0,
      c.with_room-place.auto.buffer,
      same,
      held_length held.buffer held.start held.len (omega (arith, c.self.invariant.within, c.self.told.0)),
    )
    in
    let room : place + held.len < length buffer = c.with_room-place.ensures.room few in
    ap₂ pending_of (
    written_behind buffer place held.len byte room
    ∙ ap (λ (xs : List ℕ). xs ++ byte ∷ []) c.with_room-place.ensures.bytes
    ∙ ap (λ (p : Pending). p.bytes ++ byte ∷ []) c.self.view_is) (
    ap (λ (p : Pending). p.junk) c.self.view_is)

pub returns-clause-stands : goal.returns-clause-stands
returns-clause-stands c = λ given all gave.
    let byte = c.args.byte in
    let place = c.with_room-place.result.start in
    let held = c.self.inside in
    let buffer = c.with_room-place.new.buffer in
    let same = ap (λ (p : Pending). length p.bytes) c.self.view_is in
    let few : held.len < length buffer =
    omega (
      arith,
      waiting_fits c.args.self.now.bytes c.requires,
      c.self.told.0,
      c.with_room-place.auto.buffer,
      same,
      held_length held.buffer held.start held.len (omega (arith, c.self.invariant.within, c.self.told.0)),
    )
    in
    let room : place + held.len < length buffer = c.with_room-place.ensures.room few in
    let bytes = written_behind buffer place held.len byte room
    ∙ ap (λ (xs : List ℕ). xs ++ byte ∷ []) c.with_room-place.ensures.bytes
    ∙ ap (λ (p : Pending). p.bytes ++ byte ∷ []) c.self.view_is
    in
    let junk = ap (λ (p : Pending). p.junk) c.self.view_is in
    subst (Gave given (all ++ byte ∷ [])) (sym (ap₂ pending_of bytes junk))
    (gave_more given all c.args.self.now (byte ∷ []) gave)
