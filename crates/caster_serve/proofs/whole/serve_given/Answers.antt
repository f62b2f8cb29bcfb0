-- All served, or nobody did.
use Rattle.std.proofs.Common.{◌∙◌, sym}
use Rattle.caster_serve.proofs.WholeLemmas.{closed_whole, ended_early, none_served, passes_are, unused_still}
use Rattle.caster_serve.proofs.whole.serve_given.Goals as goal

pub returns-in_default-clause-ended : goal.returns-in_default-clause-ended
returns-in_default-clause-ended g c =
    none_served _ _ _ (unused_still _ _ _ c.in_default.ensures.kept c.requires.unused) c.give_back.ensures

pub close-closed-requires-clause-opened : goal.close-closed-requires-clause-opened
close-closed-requires-clause-opened g c =
    let so_many = passes_are _ _ _ c.args.tasks.items _ _ _ c.requires.kinds c.in-Ok.ensures.called in record {
      rings = λ k d less. c.requires.prepared.opened.rings k d less ∙ sym so_many;
      book = c.requires.prepared.opened.book ∙ sym so_many;
    }

pub returns-then-is_whole-clause-ended : goal.returns-then-is_whole-clause-ended
returns-then-is_whole-clause-ended g c =
    closed_whole c.args.ready.shared _ _ _ _ _ _ _ c.in-Ok.ensures.called c.close-closed.ensures c.give_back.ensures
    c.if-is_whole.true

pub returns-else-is_whole-clause-ended : goal.returns-else-is_whole-clause-ended
returns-else-is_whole-clause-ended g c =
    ended_early c.args.ready.shared _ _ _ _ _ _ c.close-closed.result c.in-Ok.ensures.called c.close-closed.ensures
    c.give_back.ensures c.if-is_whole.false
