-- A relay opens.
use Rattle.std.proofs.Common.{◌≡◌, ◌∙◌, ◌<◌, ◌++◌, ℕ, [], length, IsTrue, refl, sym, ap, subst, inl, inr, Option, None, Some, leb-true}
use Rattle.std.specs.Prelude.{slice_get, is_none}
use Rattle.std.proofs.lemmas.List.{append-nil}
use Rattle.std.specs.Option.{option_map}
use Rattle.session_calls.specs.Plans.{done}
use Rattle.session_calls.specs.Rings.{history_at}
use Rattle.source_session.specs.declared.fault.SourceHalt.{SourceHalt}
use Rattle.source_session.specs.Standing.{is_cut_short}
use Rattle.upstream_relay.specs.Called.{IsHoldingBy}
use Rattle.upstream_relay.specs.Halts.{halt_of_source}
use Rattle.upstream_relay.specs.Standing as relay_standing
use Rattle.upstream_relay.specs.declared.body.RelayStage.{RelayStage}
use Rattle.upstream_relay.specs.declared.body.RelayStage.TheVariants as relay_stages
use Rattle.upstream_relay.specs.declared.session.RelaySession.{RelaySession}
use Rattle.cast_config.specs.declared.config.Config.{Config}
use Rattle.cast_config.specs.declared.config.Relay.{Relay as RelayValue}
use Rattle.cast_config.specs.Kept.{KeepsRelay}
use Rattle.session_core.specs.declared.session.Session.{Session}
use Rattle.session_core.specs.declared.session_stage.SessionStage.{SessionStage}
use Rattle.session_core.specs.declared.session_stage.SessionStage.TheVariants.{Head, Over, Source, Relay, Rover}
use Rattle.session_model.specs.Headings.{incomplete}
use Rattle.session_model.specs.Judged.{relays, mount_fed, judged}
use Rattle.session_model.specs.Replies.{opening_text, sent_by}
use Rattle.session_model.specs.Run.{Histories}
use Rattle.session_core.specs.Standing.{StandsFor, IsNewRelay, IsMadeBy, IsSentBy, IsAtStage, EndsAt, is_halted, is_halted_uncalled}
use Rattle.session_model.specs.Owed.{nothing}

-- a relay that nothing halts was refused no turn
short_halts : (stage : RelayStage) → relay_standing.halt_at stage ≡ None → IsTrue (relay_standing.is_short_at stage) → ⊥
short_halts (relay_stages.Head head cutter) is short = absurd cc
short_halts (relay_stages.Halted halt) is short = absurd cc
short_halts (relay_stages.Body inner) is short = no_halt inner.halt is short where
  no_halt : (halt : Option SourceHalt) → option_map halt_of_source halt ≡ None → IsTrue (is_cut_short halt) → ⊥
  no_halt None none short = cc
  no_halt (Some why) none short = cc

not_short : (inner : RelaySession) → relay_standing.halt_at inner.stage ≡ None
    → IsTrue (relay_standing.is_short_at inner.stage) → ⊥
not_short inner is short = short_halts inner.stage is short

pub relay_opens : (c : Config) (session : Session) (n : ℕ) (relay : RelayValue) (h : Histories)
    → slice_get c.relay n ≡ Some relay → KeepsRelay (length c.mount) relay → session.ended ≡ None
    → IsNewRelay session.me relay.mount session.stage → StandsFor c session (relays n) [] [] h (opening_text c
    (relays n))
relay_opens c session n relay h here kept unended new = by_stage session.stage refl new where
  by_stage : (stage : SessionStage) → session.stage ≡ stage → IsNewRelay session.me relay.mount stage
      → StandsFor c session (relays n) [] [] h (opening_text c (relays n))
  by_stage (Head head) is new = absurd new
  by_stage Over is new = absurd new
  by_stage (Source at inner) is new = absurd new
  by_stage (Rover account inner) is new = absurd new
  by_stage (Relay at inner) is new = inl (record {
    heading = incomplete;
    is_heading = inl (refl, leb-true _ _ refl);
    owes = subst (λ ended. IsMadeBy (is_halted ended) done []) (sym unended) refl;
    ends = inr unended;
    stage = subst (λ stage. IsAtStage c session.me h (relays n) (judged c (relays n) incomplete []) [] [] stage)
        (sym is) (record {
          number = n;
          opens = refl;
          mount_is = ap mount_fed here ∙ sym new.0;
          within = subst (λ m. m < length c.mount) (sym new.0) kept.mount;
          caller = new.1;
          stands = subst (λ m. relay_standing.StandsFor m inner [] []) (sym new.0) new.4;
          segments = refl;
          holds = subst (λ claim. IsHoldingBy session.me claim (history_at h.rings at)) (sym new.2) tt;
        });
    halts = subst (λ stage. EndsAt stage session.ended) (sym is) (record {
      goes = λ e. ap is_none new.3;
      refused = λ short. absurd (not_short inner new.3 short);
    });
    sent_is = subst (λ ended. IsSentBy (is_halted_uncalled ended []) (opening_text c (relays n)) (sent_by c h.rings
        (relays n) nothing [])) (sym unended)
        (sym (append-nil (opening_text c (relays n) ++ []) ∙ append-nil (opening_text c (relays n))));
  })
