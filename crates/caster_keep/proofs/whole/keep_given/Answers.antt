-- What is asked for is a place for lines.
use Rattle.std.proofs.Common.{◌<◌, ◌+◌, ◌^◌, [], ◌∷◌, Err, length, refl, rules, ap, subst, arith}
use Rattle.cast_io.proofs.ToldLemmas.{grew_none}
use Rattle.cast_config.proofs.KeptLemmas.{within}
use Rattle.cast_io.specs.declared.yard_asked.YardAsked.TheVariants as asked
use Rattle.caster_keep.specs.Keeping.{Answered}
use Rattle.caster_keep.proofs.FitLemmas.{as_many}
use Rattle.caster_keep.proofs.GateLemmas.{asked_one, made_for}
use Rattle.caster_serve.proofs.WholeLemmas.{some_ends}
use Rattle.caster_keep.proofs.WholeLemmas.{answered_refused, asked_before, nobody_served, none_used}
use Rattle.caster_keep.proofs.whole.keep_given.Goals as goal

pub overflow_cast-len : goal.overflow_cast-len
overflow_cast-len g c =
    let so_many = as_many c.args.config.now c.args.keepers.items c.requires.roles in
    let few : length c.args.keepers.items < 2 ^ 32 =
    (some_ends _ c.args.config.now _ c.requires.kept.1 so_many).1 in
    search rules

pub overflow_add-len : goal.overflow_add-len
overflow_add-len g c =
    let so_many = as_many c.args.config.now c.args.keepers.items c.requires.roles in
    let kept = c.requires.kept.1 in
    let few : c.len.result + 1 < 2 ^ 32 =
    omega (
      arith,
      c.len.ensures,
      c.args.keepers.ok.0,
      so_many,
      (within 1 256 c.args.config.now.workers kept.workers).1,
      kept.few_relays,
    ) in
    search rules

pub keep_ready-requires-clause-some_keeper : goal.keep_ready-requires-clause-some_keeper
keep_ready-requires-clause-some_keeper g c κs fresh =
    (some_ends _ c.args.config.now _ c.requires.kept.1
    (as_many c.args.config.now c.args.keepers.items c.requires.roles)).0

pub prepare-requires-clause-some_caller : goal.prepare-requires-clause-some_caller
prepare-requires-clause-some_caller g c =
    let so_many = as_many c.args.config.now c.args.keepers.items c.requires.roles in
    let some : 0 < length c.args.keepers.items =
    (some_ends _ c.args.config.now _ c.requires.kept.1 so_many).0 in
    search rules

pub keep_ready-requires-clause-few : goal.keep_ready-requires-clause-few
keep_ready-requires-clause-few g c κs fresh =
    let so_many = as_many c.args.config.now c.args.keepers.items c.requires.roles in
    let kept = c.requires.kept.1 in
    omega (arith, so_many, (within 1 256 c.args.config.now.workers kept.workers).1, kept.few_relays)

pub returns-in_default-clause-answered : goal.returns-in_default-clause-answered
returns-in_default-clause-answered g c = (
  nobody_served g.Y.Gate.Door.told g.Y.Gate.Gate.over (asked.Notes ∷ []) 0 _ _ _ _ _ (grew_none _) refl refl refl
      c.requires.unused c.give_back.ensures.back,
  none_used _,
)

pub returns-in-Ok-notes-clause-answered : goal.returns-in-Ok-notes-clause-answered
returns-in-Ok-notes-clause-answered g c =
    subst (λ config. Answered g.Y.Gate.Door.told g.Y.Gate.Gate.over g.Y.Gate.Gate.peer g.Y.Gate.Gate.origin
    g.Y.Notes.Sink.taken g.Y.Notes.Sink.faults (g.Z.Lodge.back c.args.lodge.now)
    (g.Z.Lodge.back c.keep_ready.new.lodge) config (made_for g.Y.Gate.Gate.origin c.args.keepers.items)
    (asked.Notes ∷ []) (g.Y.Yard.kept c.args.yard.now)
    (g.Y.Yard.kept c.keep_ready.new.yard) c.keep_ready.result) c.in-Ok.ensures.config
    (asked_before g.Y.Gate.Door.told g.Y.Gate.Gate.over g.Y.Gate.Gate.peer g.Y.Gate.Gate.origin g.Y.Notes.Sink.taken
    g.Y.Notes.Sink.faults _ _ (asked.Notes ∷ []) (made_for g.Y.Gate.Gate.origin c.args.keepers.items) [] _ _ _ _
    c.keep_ready.result
    (asked_one asked.Notes _ _ c.in-Ok-notes.ensures.wanted) c.keep_ready.ensures.later c.keep_ready.ensures.answered)

pub returns-in-Err-clause-answered : goal.returns-in-Err-clause-answered
returns-in-Err-clause-answered g c =
    let wanted = c.in-Err.ensures.wanted in
    let back = c.give_back-in-Err.ensures.back in
    answered_refused g.Y.Gate.Door.told g.Y.Gate.Gate.over g.Y.Gate.Gate.peer g.Y.Gate.Gate.origin
    g.Y.Notes.Sink.taken g.Y.Notes.Sink.faults _ _ c.args.config.now
    (made_for g.Y.Gate.Gate.origin c.args.keepers.items) (asked.Notes ∷ []) _ _ c.in-Err.fault _
    (ap Err c.from.ensures)
    (nobody_served g.Y.Gate.Door.told g.Y.Gate.Gate.over (asked.Notes ∷ []) 1 _ _ _ _ _ wanted.asked wanted.gates
    wanted.notes refl c.requires.unused back) (none_used _)
    (λ failed. omega (arith, c.in-Err.ensures.answered.failed (ap Err failed), back.later))
