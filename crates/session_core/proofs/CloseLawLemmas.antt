-- A connection is closed.
use Rattle.std.proofs.Common.{◌≡◌, ◌∙◌, ◌++◌, ◌∷◌, ℕ, Bool, true, false, List, [], length, refl, sym, ap, subst, inl, inr, Option, None, Some, Result, Ok, Err}
use Rattle.std.specs.Prelude.{reverse, unwrap_or, Contains, IfErr, OnOk, OnErr, is_ok}
use Rattle.turn_log.specs.Faults.{IsFault}
use Rattle.turn_log.specs.declared.place.TurnFault.{TurnFault}
use Rattle.turn_log.specs.declared.place.TurnFault.TheVariants as turns
use Rattle.mount_ring.specs.declared.shape.RingShape.{RingShape}
use Rattle.session_calls.specs.Steps.{Step}
use Rattle.session_calls.specs.Plans.{Plan, IsMade}
use Rattle.rover_session.specs.Made.{segments_after, sent_in, overrun_in}
use Rattle.cast_config.specs.declared.config.Config.{Config}
use Rattle.session_model.specs.declared.ending.Ending.{Ending}
use Rattle.session_model.specs.declared.ending.Last.{Last}
use Rattle.session_model.specs.declared.report.Receipt.{Receipt}
use Rattle.session_core.specs.declared.session.Session.{Session}
use Rattle.session_core.specs.declared.session_stage.SessionStage.{SessionStage}
use Rattle.session_model.specs.Setting.{caps, shapes}
use Rattle.session_model.specs.Headings.{Heading}
use Rattle.session_model.specs.Judged.{Opening, Judged, judged}
use Rattle.session_model.specs.Owed.{came_to, closing}
use Rattle.session_model.specs.Endings.{ended_by, ended_last}
use Rattle.session_model.specs.Reports.{IsHeadingOf, junk_of}
use Rattle.session_model.specs.Run.{Histories}
use Rattle.session_model.specs.Called.{Called, OthersCalled}
use Rattle.session_core.specs.Refusals.{IsTurnRefused, MayRefuse}
use Rattle.session_core.specs.Standing.{IsFree, IsLost, StandsFor, Follows, IsAtStage, EndsAs}
use Rattle.session_core.specs.Closed.{IsSettled, IsReceipt, IsClosed}
use Rattle.session_core.specs.Closing.{closing_at, end_at, segments_at, IsJunkAt, IsHeldBy, Makes}
use Rattle.session_core.specs.Turned.{is_rover}
use Rattle.session_model.proofs.LawLemmas.{one_of}
use Rattle.session_core.proofs.HeldLemmas.{held_at, length_shapes}
use Rattle.session_core.proofs.CloseLemmas.{called_none}
use Rattle.session_core.proofs.EnteredLemmas.{contains_left, contains_last}
use Rattle.session_core.proofs.ClosingLemmas.{free_closed, free_junk, free_out, uncalled_free}
use Rattle.session_core.proofs.ReceiptLemmas.{closing_is, ending_is, receipt_is, IsTold, no_junk}

-- ---- what it holds

held_if : (c : Config) (session : Session) (o : Opening) (text : List ℕ) (steps : List Step) (h now : Histories)
    (sent : List ℕ) → length now.rings ≡ length c.mount → StandsFor c session o text steps h sent
    → OthersCalled h now session.me → IsHeldBy (caps c) session.me now session.stage
held_if c session o text steps h now sent long (inl stands) others =
    held_at c session.me h now o (judged c o stands.heading text) text steps session.stage stands.stage long others
held_if c session o text steps h now sent long (inr lost) others =
    subst (IsHeldBy (caps c) session.me now) (sym lost.stage) tt

pub held_by : (c : Config) (session : Session) (now : Histories) (given : List RingShape) (caps_given : List ℕ)
    → length now.rings ≡ length given → given ≡ shapes c → caps_given ≡ caps c → Follows c session now 0
    → IsHeldBy caps_given session.me now session.stage
held_by c session now given caps_given long shaped capped (o, text, steps, h, sent, stands, others, few) =
    subst (λ (l : List ℕ). IsHeldBy l session.me now session.stage) (sym capped)
    (held_if c session o text steps h now sent (long ∙ ap length shaped ∙ length_shapes c) stands others)

-- ---- its turn

is_closed : (c : Config) (alone : Bool) (old now : Histories) (me : ℕ) (ended : Option Ending) (j : Judged)
    (steps : List Step)
    (plan : Plan) (last : Last) (receipt : Receipt) (settled : Result (Unit {0}) TurnFault)
    → closing j steps ≡ plan → receipt.settled ≡ is_ok settled
    → OnOk settled (Makes c alone old now me plan) → OnErr settled (now ≡ old)
    → IsReceipt ended j steps last receipt → IsClosed c alone old now me ended j steps last receipt
is_closed c alone old now me ended j steps plan last receipt (Ok x) due settled makes same told = record {
  more = makes.more;
  called = makes.called;
  settled = subst (λ (b : Bool). IsSettled b (closing j steps) makes.more) (sym settled)
      (subst (λ (p : Plan). IsMade p makes.more) (sym due) makes.made);
  receipt_is = told;
}
is_closed c alone old now me ended j steps plan last receipt (Err fault) due settled makes same told = record {
  more = [];
  called = subst (λ (h : Histories). Called c alone old h me []) (sym same) (called_none c alone old me);
  settled = subst (λ (b : Bool). IsSettled b (closing j steps) []) (sym settled) refl;
  receipt_is = told;
}

-- all that was called is what gives back what was held, or nothing where its turn was refused
pub called_either : (c : Config) (alone : Bool) (old now : Histories) (me : ℕ) (plan : Plan)
    (settled : Result (Unit {0}) TurnFault) (told : Bool) → told ≡ is_ok settled
    → OnOk settled (Makes c alone old now me plan) → OnErr settled (now ≡ old)
    → (more : List Step) × Called c alone old now me more × IsSettled told plan more
called_either c alone old now me plan (Ok x) told is makes same =
    (makes.more, makes.called, subst (λ (b : Bool). IsSettled b plan makes.more) (sym is) makes.made)
called_either c alone old now me plan (Err fault) told is makes same = (
  [],
  subst (λ (h : Histories). Called c alone old h me []) (sym same) (called_none c alone old me),
  subst (λ (b : Bool). IsSettled b plan []) (sym is) refl,
)

-- ---- why its turn was refused

pub refused_ring : (lacks : List Bool) (lack : Bool) (worn : List ℕ) (book : ℕ) (fault : TurnFault)
    → IsTurnRefused lacks worn fault → IsTurnRefused (lacks ++ lack ∷ []) (worn ++ book ∷ []) fault
refused_ring lacks lack worn book (turns.Worn given) is = (contains_left worn (book ∷ []) given is.0, is.1)
refused_ring lacks lack worn book turns.Memory is = contains_left lacks (lack ∷ []) true is

pub refused_book : (lacks : List Bool) (lack : Bool) (worn : List ℕ) (book : ℕ) (fault : TurnFault)
    → IsFault lack book fault → IsTurnRefused (lacks ++ lack ∷ []) (worn ++ book ∷ []) fault
refused_book lacks lack worn book (turns.Worn given) is =
    (subst (λ (n : ℕ). Contains (worn ++ book ∷ []) n) is.0 (contains_last worn book), is.1)
refused_book lacks lack worn book turns.Memory is =
    subst (λ (b : Bool). Contains (lacks ++ lack ∷ []) b) is (contains_last lacks lack)

pub unsettled_by : (settled : Result (Unit {0}) TurnFault) (told : Bool) (lacks : List Bool) (worn : List ℕ)
    → told ≡ is_ok settled → IfErr settled (IsTurnRefused lacks worn) → told ≡ false → MayRefuse lacks worn
unsettled_by (Ok x) told lacks worn is refused unsettled = absurd cc
unsettled_by (Err fault) told lacks worn is refused unsettled = (fault, refused)

-- ---- what is told

lost_told : (c : Config) (session : Session) (o : Opening) (j : Judged) (steps : List Step) (sent : List ℕ)
    (last : Last) (receipt : Receipt)
    → IsLost c session o steps sent
    → receipt.ending ≡ unwrap_or session.ended (ended_last last (end_at session.stage))
    → receipt.segments ≡ reverse (segments_at session.stage)
    → receipt.sent ≡ sent_in (segments_at session.stage) → receipt.overrun ≡ overrun_in (segments_at session.stage)
    → IsJunkAt session.stage receipt.junk → receipt.entered ≡ is_rover session.stage
    → IsReceipt session.ended j steps last receipt
lost_told c session o j steps sent last receipt lost ending segments sent_is overrun junk inside =
    let none : segments_at session.stage ≡ segments_after [] steps =
    ap segments_at lost.stage ∙ ap (segments_after []) (sym lost.uncalled) in
    let free : IsFree (came_to j steps) = uncalled_free steps lost.uncalled j in
    let told : IsTold session.ended receipt.junk (junk_of (came_to j steps)) =
    no_junk session.ended receipt.junk (junk_of (came_to j steps))
    (subst (λ (stage : SessionStage). IsJunkAt stage receipt.junk) lost.stage junk) (free_junk (came_to j steps) free) in
    record {
      ending = ending_is session.ended last (came_to j steps) (end_at session.stage) receipt.ending
          (λ unended. absurd (not_both (sym lost.ended ∙ unended))) ending;
      segments = segments ∙ ap reverse none;
      sent = sent_is ∙ ap sent_in none;
      overrun = overrun ∙ ap overrun_in none;
      junk = told.0;
      at_most = told.1;
      entered = inside ∙ ap is_rover lost.stage ∙ sym (free_out (came_to j steps) free);
    } where
      not_both : {end : Ending} → Some end ≡ None → ⊥
      not_both e = cc

-- ---- the whole

pub closed_by : (c : Config) (alone : Bool) (now after : Histories) (session : Session) (o : Opening)
    (heading : Heading) (text : List ℕ)
    (steps : List Step) (h : Histories) (sent : List ℕ) (last : Last) (receipt : Receipt) (settled : Result
    (Unit {0}) TurnFault)
    → IsHeadingOf (Some o) text heading → StandsFor c session o text steps h sent
    → OnOk settled (Makes c alone now after session.me (closing_at session.stage)) → OnErr settled (after ≡ now)
    → receipt.settled ≡ is_ok settled
    → receipt.ending ≡ unwrap_or session.ended (ended_last last (end_at session.stage))
    → receipt.segments ≡ reverse (segments_at session.stage)
    → receipt.sent ≡ sent_in (segments_at session.stage) → receipt.overrun ≡ overrun_in (segments_at session.stage)
    → IsJunkAt session.stage receipt.junk → receipt.entered ≡ is_rover session.stage
    → IsClosed c alone now after session.me session.ended (judged c o heading text) steps last receipt
closed_by c alone now after session o heading text steps h sent last receipt settled is
    (inl stands) makes same settled_is ending segments sent_is overrun junk inside =
    let same_heading : stands.heading ≡ heading = one_of (Some o) text stands.heading heading stands.is_heading is in
    let at : IsAtStage c session.me h o (judged c o heading text) text steps session.stage =
    subst (λ (other : Heading). IsAtStage c session.me h o (judged c o other text) text steps session.stage)
    same_heading stands.stage in
    is_closed c alone now after session.me session.ended (judged c o heading text) steps
    (closing_at session.stage) last receipt settled
    (closing_is c session.me h o heading text steps session.stage is at) settled_is makes same
    (receipt_is c session.me h session.ended o heading text steps session.stage last receipt is at stands.halts
    (subst (λ (other : Heading). EndsAs session.ended (ended_by (came_to (judged c o other text) steps))) same_heading
    stands.ends) ending segments sent_is overrun junk inside)
closed_by c alone now after session o heading text steps h sent last receipt settled is
    (inr lost) makes same settled_is ending segments sent_is overrun junk inside =
    is_closed c alone now after session.me session.ended (judged c o heading text) steps
    (closing_at session.stage) last receipt settled
    (free_closed _ (segments_after [] steps) (uncalled_free steps lost.uncalled (judged c o heading text))
    ∙ sym (ap closing_at lost.stage)) settled_is makes same
    (lost_told c session o (judged c o heading text) steps sent last receipt lost ending segments sent_is overrun junk
    inside)

-- by a stage that its turn left as it was
pub closed_at : (c : Config) (alone : Bool) (now after : Histories) (session : Session) (stage : SessionStage) (o : Opening)
    (heading : Heading)
    (text : List ℕ) (steps : List Step) (h : Histories) (sent : List ℕ) (last : Last) (receipt : Receipt)
    (settled : Result (Unit {0}) TurnFault)
    → stage ≡ session.stage → IsHeadingOf (Some o) text heading → StandsFor c session o text steps h sent
    → OnOk settled (Makes c alone now after session.me (closing_at session.stage)) → OnErr settled (after ≡ now)
    → receipt.settled ≡ is_ok settled
    → receipt.ending ≡ unwrap_or session.ended (ended_last last (end_at stage))
    → receipt.segments ≡ reverse (segments_at stage)
    → receipt.sent ≡ sent_in (segments_at stage) → receipt.overrun ≡ overrun_in (segments_at stage)
    → IsJunkAt stage receipt.junk → receipt.entered ≡ is_rover stage
    → IsClosed c alone now after session.me session.ended (judged c o heading text) steps last receipt
closed_at c alone now after session stage o heading text steps h sent last receipt settled still is stands makes same
    settled_is
    ending segments sent_is overrun junk inside =
    closed_by c alone now after session o heading text steps h sent last receipt settled is stands makes same settled_is
    (subst (λ (s : SessionStage). receipt.ending ≡ unwrap_or session.ended (ended_last last (end_at s))) still ending)
    (subst (λ (s : SessionStage). receipt.segments ≡ reverse (segments_at s)) still segments)
    (subst (λ (s : SessionStage). receipt.sent ≡ sent_in (segments_at s)) still sent_is)
    (subst (λ (s : SessionStage). receipt.overrun ≡ overrun_in (segments_at s)) still overrun)
    (subst (λ (s : SessionStage). IsJunkAt s receipt.junk) still junk)
    (subst (λ (s : SessionStage). receipt.entered ≡ is_rover s) still inside)
