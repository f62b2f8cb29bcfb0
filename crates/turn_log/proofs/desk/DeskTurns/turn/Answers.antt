use Rattle.std.proofs.Common.{ℕ, ◌≡◌, ◌<◌, ◌^◌, [], ◌∷◌, ◌++◌, length, sym, ap, subst, arith, length-append}
use Rattle.turn_log.specs.History.{History}
use Rattle.turn_log.specs.Past.{so_far}
use Rattle.turn_log.proofs.HistoryLaws.{legal_next}
use Rattle.turn_log.proofs.desk.DeskTurns.turn.Goals as goal

-- the object stands for the history with its new entry, and that entry fitted
pub invariant_of-self : goal.invariant_of-self
invariant_of-self g c =
    let desk = c.args.self.now in
    let old : History g.row.V-Call.Denot = so_far desk.past in
    let entry : ℕ × g.row.V-Call.Denot = (c.args.me, c.args.call) in
    let seen : so_far c.and_then.result ≡ old ++ entry ∷ [] =
    subst (λ past. so_far c.and_then.result ≡ so_far past ++ entry ∷ []) c.take.ensures.value c.and_then.ensures in
    let few : length old < 2 ^ 63 = omega (arith, desk.counted, c.if-self-ge-MAX_TURNS.false) in
    let played = c.play-answer.ensures.played old desk.stands few c.requires in
    record {
      counted = omega (arith, desk.counted, ap length seen, length-append old (entry ∷ []));
      stands = subst (g.V.Played.stands c.play-answer.new.self) (sym seen) played.0;
      legal = legal_next g.V.Played.fits (g.V.Played.shape desk.value) (g.V.Played.shape c.play-answer.new.self)
          old (so_far c.and_then.result) c.args.me c.args.call c.play-answer.ensures.shape seen desk.legal c.requires;
    }
