use Rattle.std.proofs.Common.{rules, ◌≡◌, ◌*◌, ◌≤◌, List, ◌++◌, ap₂, subst, sym, ◌∙◌, arith}
use Rattle.std.specs.Prelude.{sum_by}
use Rattle.session_script.specs.declared.Event.{Event}
use Rattle.session_script.specs.declared.ScriptKind.TheVariants.{Bare}
use Rattle.session_script.specs.Script.{IsSession, input_length}
use Rattle.session_make.specs.Rounds.{round, opening, events_of}
use Rattle.session_make.proofs.RoundLemmas.{rounds_more, starts_at, starts_next, events_whole}
use Rattle.session_make.proofs.SessionLemmas.{made_is_session}
use Rattle.session_make.proofs.SizeLemmas.{input_within}
use Rattle.session_make.proofs.making.make.Goals as goal

pub loop-init : goal.loop-init
loop-init c = record { events = search rules; state = starts_at c.args.seed }

pub loop-preserved : goal.loop-preserved
loop-preserved c = record {
  events = c.in_ok-push_round.ensures.events
      ∙ ap₂ (λ xs s. xs ++ round c.args.rovers s) c.loop.invariant.events c.loop.invariant.state
      ∙ rounds_more c.args.seed c.loop.counter c.args.rovers (opening c.args.rovers);
  state = starts_next c.args.seed c.loop.counter c.loop.draws.state c.push_round.new.draws.state
      c.loop.invariant.state c.in_ok-push_round.ensures.state;
}

made : (c : goal.In_ok-push_last_turns)
    → c.push_last_turns.new.events.items ≡ events_of c.args.seed c.args.frames c.args.rovers
made c =
    events_whole c.args.seed c.args.frames c.loop.counter c.args.rovers c.loop.events.items
    c.push_last_turns.new.events.items c.loop.invariant.events c.in_ok-push_last_turns.ensures
    (omega (arith, c.loop-test.false, c.loop.auto.counter-end))

pub returns-clause-events : goal.returns-clause-events
returns-clause-events c = made c

pub returns-clause-session : goal.returns-clause-session
returns-clause-session c =
    subst (λ (events : List Event). IsSession Bare events) (sym (made c))
    (made_is_session c.args.seed c.args.frames c.args.rovers c.requires.rovers.0 c.requires.rovers.1)

pub returns-clause-input : goal.returns-clause-input
returns-clause-input c =
    subst (λ (events : List Event). sum_by input_length events ≤ 106 * c.args.frames) (sym (made c))
    (input_within c.args.seed c.args.frames c.args.rovers c.requires.rovers.1)
