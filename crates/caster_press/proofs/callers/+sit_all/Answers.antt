-- The last sits down behind the others.
use Rattle.std.proofs.Common.{◌∙◌, ℕ, [], length, refl, sym, ap, arith, append-nil}
use Rattle.turn_log.specs.History.{own}
use Rattle.caster_press.specs.Callers.{IsNew}
use Rattle.caster_press.proofs.CallerLemmas.{none_left, seated_more}
use Rattle.caster_press.proofs.PlaceLemmas.{at_number}
use Rattle.caster_press.proofs.ListLemmas.{each_front, each_last}
use Rattle.caster_press.proofs.callers.+sit_all.Goals as goal

pub returns-in_default-clause-callers : goal.returns-in_default-clause-callers
returns-in_default-clause-callers g t c = (
  [],
  sym (append-nil c.args.callers.now.items),
  tt,
  none_left c.args.works.now.items c.args.passes.items c.requires.size
      (λ less. c.in_default.ensures.variant.1 (omega (arith, less, c.args.passes.ok.0))),
)

pub sit_all-requires-clause-passes : goal.sit_all-requires-clause-passes
sit_all-requires-clause-passes g t c κs within =
    each_front (λ (i : ℕ) (p : _). IsNew i p c.args.press.now) _ c.pop.new.self.items c.in-Some.pass
    c.in-Some.ensures.items c.requires.passes

pub sit-requires-clause-pass : goal.sit-requires-clause-pass
sit-requires-clause-pass g t c κs within =
    (each_last (λ (i : ℕ) (p : _). IsNew i p c.args.press.now) _ c.pop.new.self.items c.in-Some.pass
    c.in-Some.ensures.items c.requires.passes).here

pub returns-clause-callers : goal.returns-clause-callers
returns-clause-callers g t c =
    let so_far = c.sit_all.ensures.callers in
    let fresh = each_last (λ (i : ℕ) (p : _). IsNew i p c.args.press.now) _ c.pop.new.self.items c.in-Some.pass
    c.in-Some.ensures.items c.requires.passes in
    seated_more _ (λ (caller : _). caller.work) c.args.works.now.items _ c.in-Some-pop.work c.args.callers.now.items _ _
    so_far.0 _ (length c.pop.new.self.items) _ c.in-Some-pop.ensures.items refl so_far.1 so_far.2 so_far.3
    c.push_reserved.ensures.items
    (omega (arith, c.sit_all.ensures.count, c.sit_all.new.callers.ok.0, c.args.callers.now.ok.0)) (record {
      numbered = omega (arith, c.len-number.ensures, c.pop.new.self.ok.0);
      at = at_number _ _ _ _ fresh.numbered c.sit.ensures.at;
    }) (ap (own _) (c.sit.ensures.seen ∙ fresh.unseen))
