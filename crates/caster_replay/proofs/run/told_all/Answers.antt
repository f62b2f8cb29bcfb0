use Rattle.std.proofs.Common.{◌∙◌, ◌++◌, List, [], ◌∷◌, sym, ap, subst, append_assoc}
use Rattle.caster_replay.specs.declared.run_connection.RunConnection.{RunConnection}
use Rattle.caster_replay.specs.Lives.{AreTold, lives_in}
use Rattle.caster_replay.proofs.ReplayLemmas.{over_at, told_next}
use Rattle.caster_replay.proofs.run.told_all.Goals as goal

pub outcome_of-requires : goal.outcome_of-requires
outcome_of-requires c = record {
  over = over_at c.loop-entry.yielded c.in-Some.entry c.next.new.self.rest.items c.args.entries.items
      (ap (λ (l : List RunConnection). c.loop-entry.yielded ++ l) (sym c.in-Some.ensures.steps.0) ∙ c.loop-entry.invariant.3)
      c.requires.over;
}

pub loop-entry-preserved : goal.loop-entry-preserved
loop-entry-preserved c = (
  tt,
  tt,
  subst (AreTold (lives_in (c.loop-entry.yielded ++ c.in-Some.entry ∷ []))) (sym c.in_ok-push.ensures.items)
      (told_next c.loop-entry.yielded c.loop-entry.list.items c.in-Some.entry c.outcome_of.result c.loop-entry.invariant.2
      c.outcome_of.ensures),
  append_assoc c.loop-entry.yielded (c.in-Some.entry ∷ []) c.next.new.self.rest.items
      ∙ ap (λ (l : List RunConnection). c.loop-entry.yielded ++ l) (sym c.in-Some.ensures.steps.0) ∙ c.loop-entry.invariant.3,
)
