-- A source takes more of its body.
use Rattle.std.proofs.Common.{◌≡◌, ◌≢◌, ◌∙◌, ℕ, Bool, true, false, IsTrue, List, [], ◌∷◌, ◌++◌, reverse, refl, sym, ap, subst, arith, Option, None, Some}
use Rattle.std.specs.Prelude.{is_none}
use Rattle.std.specs.Option.{option_map}
use Rattle.turn_log.specs.History.{History}
use Rattle.turn_log.specs.Heard.{Heard}
use Rattle.turn_log.proofs.HeardLaws.{heard_none}
use Rattle.mount_ring.specs.declared.call.RingCall.{RingCall}
use Rattle.mount_ring.specs.declared.call.RingCall.TheVariants.{Claim}
use Rattle.mount_ring.specs.declared.call.RingAnswer.TheVariants as answers
use Rattle.caster_accounts.specs.declared.call.BookCall.{BookCall}
use Rattle.caster_accounts.specs.declared.call.BookAnswer.{BookAnswer}
use Rattle.rover_cursor.specs.declared.segment.Segment.{Segment}
use Rattle.session_calls.specs.Steps.{to_ring, Answer, of_ring, Step, at_ring, at_book, ask_of, answer_of}
use Rattle.session_calls.specs.Plans.{IsMade}
use Rattle.session_calls.specs.Rings.{Went, history_at}
use Rattle.source_session.specs.declared.fault.SourceHalt.{SourceHalt}
use Rattle.source_session.specs.declared.fault.SourceHalt.TheVariants as halts
use Rattle.source_session.specs.declared.session.SourceSession.{SourceSession}
use Rattle.source_session.specs.Body.{completed}
use Rattle.source_session.specs.Calls.{IsHolding}
use Rattle.source_session.specs.Standing as source_standing
use Rattle.ntrip_client.specs.declared.Answer.TheVariants as heads
use Rattle.upstream_relay.specs.Owed.{publishing, owed, IsDone}
use Rattle.upstream_relay.specs.Standing.{IsClaimed}
use Rattle.upstream_relay.proofs.OwedLemmas.{body_on}
use Rattle.rover_session.specs.Made.{segments_after, owed_among}
use Rattle.rover_session.proofs.MadeLemmas.{owed_both, segments-append}
use Rattle.cast_config.specs.declared.config.Config.{Config}
use Rattle.session_model.specs.declared.ending.Ending.{Ending}
use Rattle.session_core.specs.declared.session.Session.{Session}
use Rattle.session_core.specs.declared.session_stage.SessionStage.{SessionStage}
use Rattle.session_core.specs.declared.session_stage.SessionStage.TheVariants.{Source}
use Rattle.session_model.specs.Setting.{shapes}
use Rattle.session_model.specs.Headings.{Heading}
use Rattle.session_model.specs.Judged.{Opening, SourceTerms, Judged, waiting, source, judged}
use Rattle.session_model.specs.Owed.{came_by, came_to, first_answer, source_plan, plan_of}
use Rattle.session_model.specs.Endings.{ended_by, claimed_ending}
use Rattle.session_model.specs.Replies.{sent_by}
use Rattle.session_model.specs.Run.{Histories}
use Rattle.session_model.specs.Called.{Called, book_answer}
use Rattle.session_core.proofs.Published.{Published}
use Rattle.session_core.specs.Feeding.{end_of_source, FedOn}
use Rattle.session_core.specs.Standing.{IsMadeBy, IsSentBy, EndsAs, EndsAt, IsSource, IsAtStage, Stands, is_halted, is_halted_uncalled}
use Rattle.session_core.proofs.BeginLemmas.{sent_all}
use Rattle.session_model.proofs.MoreLemmas.{with_more, judged_more, heading_goes}
use Rattle.session_model.proofs.QuietLemmas.{AreSource, source_owed, source_off, quiet_on}
use Rattle.session_core.proofs.FeedRelayLemmas.{source_ends}

-- ---- steps that publish

published_source : (short : Bool) (mount claim : ℕ) (frames : List (List ℕ)) (steps : List Step)
    → IsDone short (publishing mount claim frames) steps → AreSource steps
published_source false mount claim [] steps made = subst AreSource (sym made) tt
published_source true mount claim [] [] begun = tt
published_source true mount claim [] (step ∷ steps) begun = absurd begun
published_source false mount claim (frame ∷ frames) [] made = absurd made
published_source true mount claim (frame ∷ frames) [] begun = tt
published_source false mount claim (frame ∷ frames) (step ∷ steps) made =
    (rw made.0 refl, published_source false mount claim frames steps made.1)
published_source true mount claim (frame ∷ frames) (step ∷ steps) begun =
    (rw begun.0 refl, published_source true mount claim frames steps begun.1)

-- ---- the first of its steps

claimed_step : (mount claim : ℕ) (step : Step) → ask_of step ≡ to_ring mount Claim
    → Some (answer_of step) ≡ Some (of_ring (answers.Given claim)) → step ≡ at_ring mount Claim (answers.Given claim)
claimed_step mount claim (at_ring at call answer) asked is = cc
claimed_step mount claim (at_book call answer) asked is = absurd cc

made_claimed : (terms : SourceTerms) (body : List ℕ) (mount claim : ℕ) (steps : List Step) → terms.mount ≡ mount
    → IsMade (source_plan terms body) steps → first_answer steps ≡ Some (of_ring (answers.Given claim))
    → IsClaimed mount claim steps
made_claimed terms body mount claim [] same made is = absurd cc
made_claimed terms body mount claim (step ∷ steps) same made is =
    claimed_step mount claim step (made.0 ∙ ap (λ (m : ℕ). to_ring m Claim) same) is

pub received_more : (steps more : List Step) (answer : Answer) → first_answer steps ≡ Some answer
    → first_answer (steps ++ more) ≡ Some answer
received_more [] more answer is = absurd cc
received_more (step ∷ steps) more answer is = is

-- ---- halts

short_halted : (claim : ℕ) (halt : Option SourceHalt)
    → is_halted (option_map (end_of_source claim) halt) ≡ source_standing.is_cut_short halt
short_halted claim None = refl
short_halted claim (Some halts.Done) = refl
short_halted claim (Some (halts.BadChunk place)) = refl
short_halted claim (Some (halts.Worn turns)) = refl
short_halted claim (Some halts.Memory) = refl

goes_halted : (claim : ℕ) (halt : Option SourceHalt) → option_map (end_of_source claim) halt ≡ None
    → IsTrue (is_none halt)
goes_halted claim None none = refl
goes_halted claim (Some halt) none = absurd cc

-- ---- all of it

-- the body goes on in a plan that was made
plan_on : (c : Config) (short : Bool) (terms : SourceTerms) (body bytes : List ℕ) (mount claim : ℕ)
    (steps more : List Step) → terms.mount ≡ mount → IsMade (source_plan terms body) steps
    → first_answer steps ≡ Some (of_ring (answers.Given claim))
    → IsDone short (publishing mount claim (completed terms.chunked body bytes)) more
    → IsMadeBy short (plan_of c (source terms (body ++ bytes))) (steps ++ more)
plan_on c short terms body bytes mount claim steps more same made is published =
    subst (λ (m : ℕ). IsDone short (owed m (heads.Accepted 0 terms.chunked) (body ++ bytes)) (steps ++ more))
    (sym same)
    (body_on short mount claim 0 terms.chunked body bytes steps more (omega arith)
    (made_claimed terms body mount claim steps same made is)
    (subst (λ (m : ℕ). IsMade (owed m (heads.Accepted 0 terms.chunked) body) steps) same made) published)

-- a source's session in place of the one before
abbrev SourceOn : Config → Session → Session → ℕ → SourceSession → SourceSession → Type 0
SourceOn c session new mount inner fed =
    (session.stage ≡ Source mount inner) × (session.ended ≡ None) × (new.me ≡ session.me)
    × (new.stage ≡ Source mount fed) × (new.ended ≡ option_map (end_of_source fed.claim) fed.halt)
    × (fed.me ≡ inner.me) × (fed.claim ≡ inner.claim)
    × (source_standing.is_chunked fed ≡ source_standing.is_chunked inner)

not_waiting : (j : Judged) (terms : SourceTerms) (body : List ℕ) → j ≡ source terms body → j ≢ waiting
not_waiting j terms body is waits = cc

called_publishing : (c : Config) (alone : Bool) (old now : Histories) (me : ℕ) (more : List Step)
    → Went (shapes c) alone old.rings now.rings me more → AreSource more → now.book ≡ old.book
    → Called c alone old now me more
called_publishing c alone old now me more went are same = record {
  rings = went;
  book = subst (λ (pairs : List (BookCall × BookAnswer)). Heard alone (book_answer c) old.book now.book me pairs)
      (sym (source_off more are))
      (subst (λ (h : History BookCall). Heard alone (book_answer c) old.book h me []) (sym same)
      (heard_none alone (book_answer c) old.book me));
}

source_sent : (c : Config) (then now : List (History RingCall)) (opening : Opening) (terms : SourceTerms)
    (body after : List ℕ) (claim : ℕ) (by later : Option Answer) (segments newer : List Segment)
    → segments ≡ [] → newer ≡ [] → by ≡ Some (of_ring (answers.Given claim)) → later ≡ by
    → sent_by c then opening (came_by (source terms body) by) (reverse segments)
    ≡ sent_by c now opening (came_by (source terms after) later) (reverse newer)
source_sent c then now opening terms body after claim by later segments newer none still given same =
    rw none (rw still (rw same (rw given refl)))

pub source_fed_on : (c : Config) (alone : Bool) (old now histories : Histories) (session new : Session)
    (opening : Opening) (text bytes : List ℕ) (steps : List Step) (sent : List ℕ) (mount : ℕ)
    (inner fed : SourceSession) → SourceOn c session new mount inner fed
    → Stands c session opening text steps histories sent
    → ((body : List ℕ) → source_standing.StandsFor inner body → source_standing.StandsFor fed (body ++ bytes))
    → ((body : List ℕ) → source_standing.StandsFor inner body
    → Published (shapes c) alone old.rings now.rings inner.me mount inner.claim (source_standing.is_cut_short fed.halt)
    (completed (source_standing.is_chunked inner) body bytes))
    → IsHolding inner.me inner.claim (history_at now.rings mount) → now.book ≡ old.book
    → FedOn c alone old now new opening (text ++ bytes) steps sent
source_fed_on c alone old now histories session new opening text bytes steps sent mount inner fed
    (at_stage, unended, me, new_stage, ended, fed_me, claim, chunked) stands goes published holds book =
    let heading : Heading = stands.heading in
    let j : Judged = judged c opening heading text in
    let at : IsSource c session.me histories j steps mount inner =
    subst (IsAtStage c session.me histories opening j text steps) at_stage stands.stage in
    let not : j ≢ waiting = not_waiting j at.terms at.body at.judged_is in
    let later : Judged = judged c opening heading (text ++ bytes) in
    let is_later : later ≡ source at.terms (at.body ++ bytes) =
    judged_more c opening heading text bytes not ∙ ap (λ (x : Judged). with_more x bytes) at.judged_is in
    let p = published at.body at.stands in
    let more : List Step = p.more in
    let are : AreSource more = published_source (source_standing.is_cut_short fed.halt) mount inner.claim
    (completed (source_standing.is_chunked inner) at.body bytes) more p.made in
    let no_read : owed_among (steps ++ more) ≡ steps ++ more =
    owed_both steps more at.no_read (source_owed more are) in
    let halted : is_halted new.ended ≡ source_standing.is_cut_short fed.halt =
    ap is_halted ended ∙ short_halted fed.claim fed.halt in
    let given : Answer = of_ring (answers.Given inner.claim) in
    let received_is : first_answer (steps ++ more) ≡ Some given = received_more steps more given at.claim in
    let quiet : segments_after [] (steps ++ more) ≡ [] =
    segments-append [] steps more ∙ ap (λ (s : List Segment). segments_after s more) at.segments
    ∙ quiet_on (shapes c) alone old.rings now.rings inner.me more [] p.went are in
    let made : IsMade (source_plan at.terms at.body) steps =
    subst (λ (l : List Step). IsMade (source_plan at.terms at.body) l) at.no_read
    (subst (λ (x : Judged). IsMade (plan_of c x) (owed_among steps)) at.judged_is
    (subst (λ (e : Option Ending). IsMadeBy (is_halted e) (plan_of c j) (owed_among steps)) unended stands.owes)) in
    record {
      more = more;
      called = called_publishing c alone old now new.me more
          (subst (λ (m : ℕ). Went (shapes c) alone old.rings now.rings m more) (at.caller ∙ sym me) p.went) are book;
      no_read = source_owed more are;
      stands = record {
        heading = heading;
        is_heading = heading_goes c opening heading text bytes not stands.is_heading;
        owes = subst (λ (l : List Step). IsMadeBy (is_halted new.ended) (plan_of c later) l) (sym no_read)
            (subst (λ (x : Judged). IsMadeBy (is_halted new.ended) (plan_of c x) (steps ++ more)) (sym is_later)
            (subst (λ (b : Bool). IsMadeBy b (plan_of c (source at.terms (at.body ++ bytes))) (steps ++ more))
            (sym halted)
            (plan_on c (source_standing.is_cut_short fed.halt) at.terms at.body bytes mount inner.claim steps more
            at.mount_is made at.claim
            (subst (λ (b : Bool). IsDone (source_standing.is_cut_short fed.halt) (publishing mount inner.claim
            (completed b at.body bytes)) more) at.chunked p.made))));
        ends = subst (λ (x : Judged). EndsAs new.ended (ended_by (came_to x (steps ++ more)))) (sym is_later)
            (subst (λ (by : Option Answer). EndsAs new.ended (ended_by (came_by (source at.terms (at.body ++ bytes)) by)))
            (sym received_is)
            (subst (λ (e : Option Ending). EndsAs e (claimed_ending at.terms.chunked inner.claim (at.body ++ bytes)))
            (sym ended)
            (subst (λ (b : Bool). EndsAs (option_map (end_of_source fed.claim) fed.halt)
            (claimed_ending b inner.claim (at.body ++ bytes))) (chunked ∙ at.chunked)
            (subst (λ (k : ℕ). EndsAs (option_map (end_of_source fed.claim) fed.halt)
            (claimed_ending (source_standing.is_chunked fed) k (at.body ++ bytes))) claim
            (source_ends fed.claim fed (at.body ++ bytes) (goes at.body at.stands))))));
        stage = subst (IsAtStage c new.me now opening later (text ++ bytes) (steps ++ more)) (sym new_stage)
            (record {
              terms = at.terms;
              body = at.body ++ bytes;
              judged_is = is_later;
              mount_is = at.mount_is;
              within = at.within;
              caller = fed_me ∙ at.caller ∙ sym me;
              stands = goes at.body at.stands;
              chunked = chunked ∙ at.chunked;
              claim = received_is ∙ ap (λ (n : ℕ). Some (of_ring (answers.Given n))) (sym claim);
              holds = subst (λ (k : ℕ). IsHolding new.me k (history_at now.rings mount)) (sym claim)
                  (subst (λ (m : ℕ). IsHolding m inner.claim (history_at now.rings mount)) (at.caller ∙ sym me) holds);
              no_read = no_read;
              segments = quiet;
            });
        halts = subst (λ (s : SessionStage). EndsAt s new.ended) (sym new_stage) (record {
          goes = λ none. goes_halted fed.claim fed.halt (sym ended ∙ none);
          refused = λ short. halted ∙ short;
        });
        sent_is = sent_all (is_halted_uncalled new.ended (steps ++ more)) sent _
            (subst (λ (e : Option Ending). IsSentBy (is_halted_uncalled e steps) sent
            (sent_by c histories.rings opening (came_to j steps) (reverse (segments_after [] steps)))) unended stands.sent_is
            ∙ ap (λ (x : Judged). sent_by c histories.rings opening (came_to x steps)
            (reverse (segments_after [] steps))) at.judged_is
            ∙ source_sent c histories.rings now.rings opening at.terms at.body (at.body ++ bytes) inner.claim
            (first_answer steps) (first_answer (steps ++ more)) (segments_after [] steps)
            (segments_after [] (steps ++ more)) at.segments quiet at.claim
            (received_is ∙ sym at.claim)
            ∙ ap (λ (x : Judged). sent_by c now.rings opening (came_to x (steps ++ more))
            (reverse (segments_after [] (steps ++ more)))) (sym is_later));
      };
    }
