-- All gates are asked for, and then all keepers serve.
use Rattle.std.proofs.Common.{Err, ap, arith}
use Rattle.caster_keep.specs.Gates.{asked_of}
use Rattle.caster_keep.proofs.WholeLemmas.{kept_all, kept_refused, nobody_asked, none_used}
use Rattle.caster_keep.proofs.whole.keep.Goals as goal

pub returns-in_default-clause-kept : goal.returns-in_default-clause-kept
returns-in_default-clause-kept g c = record {
  later = omega arith;
  answered = (nobody_asked (asked_of c.args.config.now c.args.addr.now c.args.quiet) _, none_used _);
}

pub returns-in-Ok-ask_gates-clause-kept : goal.returns-in-Ok-ask_gates-clause-kept
returns-in-Ok-ask_gates-clause-kept g c =
    let asked = c.in-Ok-ask_gates.ensures.asked in
    kept_all g.Y.Gate.Door.told g.Y.Gate.Gate.over g.Y.Gate.Gate.peer g.Y.Gate.Gate.origin g.Y.Notes.Sink.taken
    g.Y.Notes.Sink.faults _ _ c.args.config.now c.args.addr.now c.args.quiet asked.0 _ _ _ _ c.keep_given.result asked.1
    asked.2 c.in-Ok-ask_gates.ensures.made c.keep_given.ensures.later c.keep_given.ensures.answered

pub returns-in-Err-clause-kept : goal.returns-in-Err-clause-kept
returns-in-Err-clause-kept g c =
    let asked = c.in-Err.ensures.asked in
    kept_refused g.Y.Gate.Door.told g.Y.Gate.Gate.over g.Y.Gate.Gate.peer g.Y.Gate.Gate.origin g.Y.Notes.Sink.taken
    g.Y.Notes.Sink.faults _ _ c.args.config.now c.args.addr.now c.args.quiet asked.0 _ _ _ _ c.in-Err.fault _
    (ap Err c.from.ensures) asked.1 c.in-Err.ensures.unused c.give_back.ensures.back (none_used _)
    (λ failed. c.in-Err.ensures.cause (ap Err failed))
