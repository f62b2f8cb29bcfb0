-- The object is lent for the ticket, played, and given back.
use Rattle.std.proofs.Common.{◌≡◌, ℕ, List, [], ◌∷◌, ◌∙◌, ap, arith}
use Rattle.turn_log.specs.declared.lock.rule.Held.{Held}
use Rattle.atomic_table.specs.Table.{rest}
use Rattle.turn_log.proofs.LockTurns.{lent, Served, to_play, to_advance, lent_alone, turn_taken}
use Rattle.turn_log.proofs.LockSteps.{advances_allowed}
use Rattle.turn_log.proofs.lock.parts.Turn.take_turn.Given.{Over}
use Rattle.turn_log.proofs.lock.parts.Turn.take_turn.Goals.{After-slot_mut}
use Rattle.turn_log.proofs.lock.parts.Turn.take_turn.Goals as goal

pub slot_mut-requires : goal.slot_mut-requires
slot_mut-requires g c = (
  c.wait.ensures.same.0 ∙ c.in_ok-ticket.ensures.same.0 ∙ c.requires.here,
  lent g.V.Played.stands g.V.Played.shape g.V.Played.fits c.draw.new.token.me _ _ c.wait.ensures.took,
)

-- the token drew a ticket and was served
served : (g : Over) (c : After-slot_mut g)
    → Served g.V.Played.stands g.V.Played.shape g.V.Played.fits g.V.Played.answer g.V.Played.filled
    c.args.token.now.me.0
    c.draw.new.token.me c.wait.new.token.me c.in_ok-ticket.ticket c.args.me c.args.call
served g c = record {
  drawn = c.in_ok-ticket.ensures.ok;
  was_served = c.wait.ensures.took;
  idle = c.requires.idle;
  none_brought = c.requires.none_brought;
  speaks = c.requires.speaks;
  about = c.requires.about;
  fitting = c.requires.fits;
}

pub play_held-answer-requires : goal.play_held-answer-requires
play_held-answer-requires g c =
    let s = served g (goal.at.play_held-answer-requires g c).After-slot_mut in
    to_play g.V.Played.stands g.V.Played.shape g.V.Played.fits g.V.Played.answer g.V.Played.filled
    g.met.V.Played.still_fits
    _ _ _ _ _ _ s _ c.slot_mut.ensures.value

pub fetch_add-requires : goal.fetch_add-requires
fetch_add-requires g c =
    let key = c.args.self.now.table.shared.key in
    let s = served g (goal.at.fetch_add-requires g c).After-slot_mut in
    let play = c.play_held-answer.ensures in (
      c.wait.ensures.same.0 ∙ c.in_ok-ticket.ensures.same.0 ∙ c.requires.here,
      omega (arith, c.args.self.now.sized.0),
      advances_allowed key.passes g.V.Played.stands g.V.Played.shape g.V.Played.fits (g.V.Played.shape key.value.value)
          _ _ _ _ _ _ _
          (to_advance g.V.Played.stands g.V.Played.shape g.V.Played.fits g.V.Played.answer g.V.Played.filled
          g.met.V.Played.still_fits
          _ _ _ _ _ _ s _ _ _ _ _ _ _ c.slot_mut.ensures.value play.shape play.last play.played),
    )

-- the object was all that was lent
alone : (g : Over) (c : After-slot_mut g) (played : Held g.row.V.Denot g.row.V-Call.Denot)
    → ◌≡◌ {A = List (ℕ × Held g.row.V.Denot g.row.V-Call.Denot)} ((0, played) ∷ rest c.wait.new.token.me.1)
    ((0, played) ∷ [])
alone g c played =
    lent_alone g.V.Played.stands g.V.Played.shape g.V.Played.fits g.V.Played.answer g.V.Played.filled
    g.met.V.Played.still_fits
    _ _ _ _ _ _ (served g c) played

pub returns-clause-same : goal.returns-clause-same
returns-clause-same g c =
    let d = (goal.at.returns-clause-same g c).After-slot_mut in (
      c.fetch_add.ensures.0 ∙ c.wait.ensures.same.0 ∙ c.in_ok-ticket.ensures.same.0,
      ap (λ me. me.1) (c.fetch_add.ensures.2 c.play_held-answer.new.held c.args.me c.args.call
          (alone g d c.play_held-answer.new.held) c.play_held-answer.ensures.last),
    )

pub returns-clause-ok : goal.returns-clause-ok
returns-clause-ok g c =
    let d = (goal.at.returns-clause-ok g c).After-slot_mut in
    let play = c.play_held-answer.ensures in
    turn_taken g.V.Played.stands g.V.Played.shape g.V.Played.fits g.V.Played.answer g.V.Played.filled
    g.met.V.Played.still_fits
    _ _ _ _ _ _ (served g d) _ c.play_held-answer.new.held _ _ _ _ c.slot_mut.ensures.value play.played
    (c.fetch_add.ensures.2 c.play_held-answer.new.held c.args.me c.args.call
    (alone g d c.play_held-answer.new.held) play.last)
