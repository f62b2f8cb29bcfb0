-- All kept serving, or nobody did.
use Rattle.std.proofs.Common.{◌∙◌, ◌++◌, ◌∷◌, List, [], length, map, refl, sym, ap, subst}
use Rattle.caster_seats.specs.Sharing.{AreOpenFor}
use Rattle.cast_io.proofs.ToldLemmas.{grew_none}
use Rattle.caster_keep.specs.declared.porter.Porter.{Porter}
use Rattle.caster_keep.specs.Keeping.{first_stop}
use Rattle.caster_keep.specs.Together.{stop_at}
use Rattle.caster_keep.proofs.WholeLemmas.{nobody_served, one_unused, passes_are, sizes_are, went_ready, when_err, when_ok}
use Rattle.caster_keep.proofs.whole.keep_ready.Goals as goal

pub returns-in_default-clause-answered : goal.returns-in_default-clause-answered
returns-in_default-clause-answered g c =
    let kept = when_err c.keep_at_locks-written.result.0 _ c.in_default.is c.keep_at_locks-written.ensures.kept in
    let unsaid = when_err c.keep_at_locks-written.result.0 _ c.in_default.is c.keep_at_locks-written.ensures.unsaid in (
      nobody_served g.Y.Gate.Door.told g.Y.Gate.Gate.over [] 0 _ _ _ _ _ (grew_none _) refl refl kept c.requires.unused
          c.give_back.ensures.back,
      one_unused (g.Z.Lodge.back c.args.lodge.now) _ _ (g.Z.Console.Console.told c.console.result)
          (c.take_console.ensures
          ∙ ap (λ (l : List _). l ++ g.Z.Console.Console.told c.keep_at_locks-written.result.1.console ∷ []) c.console.ensures.same)
          (ap (λ (p : Porter _). g.Z.Console.Console.told p.console) unsaid)
          c.console.ensures.fresh,
    )

pub close-closed-requires-clause-opened : goal.close-closed-requires-clause-opened
close-closed-requires-clause-opened g c =
    let worked = when_ok _ c.keep_at_locks-written.result.0 c.in-Ok.pressed c.in-Ok.is
    c.keep_at_locks-written.ensures.worked in
    subst (λ n. AreOpenFor n c.args.ready.shared)
    (sym (passes_are c.args.ready.shared _ _ _ _ c.args.keepers.items _ _ _ _ worked c.requires.roles))
    c.requires.prepared.opened

pub write_totals-notes-requires-clause-mounts : goal.write_totals-notes-requires-clause-mounts
write_totals-notes-requires-clause-mounts g c =
    let worked = when_ok _ c.keep_at_locks-written.result.0 c.in-Ok.pressed c.in-Ok.is
    c.keep_at_locks-written.ensures.worked in
    (sizes_are c.args.ready.shared _ _ _ _ _ _ _ _ c.close-closed.result worked c.close-closed.ensures).0
    ∙ ap (λ config. length config.now.mount) (sym c.config-config.ensures)

pub write_totals-notes-requires-clause-accounts : goal.write_totals-notes-requires-clause-accounts
write_totals-notes-requires-clause-accounts g c =
    let worked = when_ok _ c.keep_at_locks-written.result.0 c.in-Ok.pressed c.in-Ok.is
    c.keep_at_locks-written.ensures.worked in
    (sizes_are c.args.ready.shared _ _ _ _ _ _ _ _ c.close-closed.result worked c.close-closed.ensures).1
    ∙ ap (λ config. length config.now.account) (sym c.config-config.ensures)

pub returns-clause-answered : goal.returns-clause-answered
returns-clause-answered g c =
    let worked = when_ok _ c.keep_at_locks-written.result.0 c.in-Ok.pressed c.in-Ok.is
    c.keep_at_locks-written.ensures.worked in
    let back = c.take_console.ensures
    ∙ ap (λ (l : List _). l ++ g.Z.Console.Console.told c.keep_at_locks-written.result.1.console ∷ []) c.console.ensures.same in
    went_ready g.Y.Gate.Door.told g.Y.Gate.Gate.over g.Y.Gate.Gate.peer g.Y.Gate.Gate.origin g.Y.Notes.Sink.taken
    g.Y.Notes.Sink.faults (g.Z.Lodge.back c.args.lodge.now) (g.Z.Lodge.back c.take_console.new.self)
    g.Z.Console.Console.told c.console.result c.keep_at_locks-written.result.1 c.args.ready.shared
    c.config-config.result.now c.args.notes _ _ _ _ c.args.keepers.items _ _ c.close-closed.result
    c.first_stop-stop.result _ _ _ (ap (λ config. config.now) c.config-config.ensures) c.requires.untaken worked
    c.give_back.ensures.back c.close-closed.ensures c.write_totals-notes.ensures c.take_notes.ensures.taken back
    (c.first_stop-stop.ensures ∙ ap (λ l. first_stop (map stop_at l)) c.deref.ensures.value)
