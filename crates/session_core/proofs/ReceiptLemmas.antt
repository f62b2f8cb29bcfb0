-- The turn that closes a connection, and its receipt, by its stage.
use Rattle.std.proofs.Common.{◌≡◌, ◌∙◌, ◌≤◌, ◌⊎◌, ℕ, Bool, false, IsTrue, List, [], refl, sym, ap, subst, inl, inr, arith, Option, None, Some}
use Rattle.std.specs.Prelude.{reverse, IfSome, IfNone, unwrap_or}
use Rattle.caster_accounts.specs.declared.call.BookCall.TheVariants.{Leave}
use Rattle.rover_cursor.specs.declared.segment.Segment.{Segment}
use Rattle.session_calls.specs.Steps.{Step, to_book}
use Rattle.session_calls.specs.Plans.{done, asks}
use Rattle.rtcm_frame.specs.Cut.{cut}
use Rattle.source_session.specs.declared.session.SourceSession.{SourceSession}
use Rattle.source_session.specs.Body.{payload}
use Rattle.source_session.specs.Standing as source_standing
use Rattle.upstream_relay.specs.declared.session.RelaySession.{RelaySession}
use Rattle.upstream_relay.specs.Junk.{IsJunk, IsAtMostJunk}
use Rattle.upstream_relay.specs.Standing.{claim_at}
use Rattle.upstream_relay.specs.Standing as relay_standing
use Rattle.rover_session.specs.declared.session.RoverSession.{RoverSession}
use Rattle.rover_session.specs.Made.{segments_after, sent_in, overrun_in}
use Rattle.cast_config.specs.declared.config.Config.{Config}
use Rattle.session_model.specs.declared.ending.Ending.{Ending}
use Rattle.session_model.specs.declared.ending.Last.{Last}
use Rattle.session_model.specs.declared.report.Receipt.{Receipt}
use Rattle.session_core.specs.declared.session_stage.SessionStage.{SessionStage}
use Rattle.session_core.specs.declared.session_stage.SessionStage.TheVariants.{Head, Over, Source, Relay, Rover}
use Rattle.session_model.specs.Headings.{Heading}
use Rattle.session_model.specs.Judged.{Opening, Judged, judged, rover, source, relay_judged, SourceTerms}
use Rattle.session_model.specs.Owed.{Came, holding, inside, came_by, came_to, closing, closing_by}
use Rattle.session_model.specs.Endings.{ended_by, at_end, ended_last}
use Rattle.session_model.specs.Reports.{IsHeadingOf, junk_of, is_entered}
use Rattle.session_model.specs.Run.{Histories}
use Rattle.session_core.specs.Standing.{IsSource, IsRelay, IsRover, IsAtStage, EndsAs, EndsAt, is_halted}
use Rattle.session_core.specs.Closed.{IsReceipt, ending_by}
use Rattle.session_core.specs.Closing.{closing_at, releasing, end_claimed, end_at, segments_at, IsJunkAt, IsSourceJunk}
use Rattle.session_core.specs.Turned.{is_rover}
use Rattle.session_core.proofs.ClosingLemmas.{free_closed, free_junk, free_out, free_unended, uncalled_free, IsCameBy, relay_came}

-- ---- what it came to

pub source_holds : (c : Config) (me : ℕ) (h : Histories) (j : Judged) (steps : List Step) (mount : ℕ)
    (session : SourceSession) (at : IsSource c me h j steps mount session)
    → came_to j steps ≡ holding at.terms at.body session.claim
source_holds c me h j steps mount session at =
    ap (λ (x : Judged). came_to x steps) at.judged_is ∙ ap (came_by (source at.terms at.body)) at.claim

pub rover_inside : (c : Config) (me : ℕ) (h : Histories) (j : Judged) (steps : List Step) (account : ℕ)
    (session : RoverSession) (at : IsRover c me h j steps account session) → came_to j steps ≡ inside at.terms
rover_inside c me h j steps account session at =
    ap (λ (x : Judged). came_to x steps) at.judged_is ∙ ap (came_to (rover at.terms at.tail)) at.steps_are

pub relay_at : (c : Config) (me : ℕ) (h : Histories) (o : Opening) (heading : Heading) (text : List ℕ)
    (steps : List Step) (mount : ℕ) (session : RelaySession) → IsHeadingOf (Some o) text heading
    → IsRelay c me h o text steps mount session
    → IsCameBy mount text (claim_at session.stage) (came_to (judged c o heading text) steps)
relay_at c me h o heading text steps mount session is at =
    subst (λ (j : Judged). IsCameBy mount text (claim_at session.stage) (came_to j steps))
    (sym (ap (λ (opening : Opening). judged c opening heading text) at.opens
    ∙ ap (λ (m : ℕ). relay_judged m heading text) at.mount_is))
    (relay_came mount session.me heading session.stage text steps
    (subst (λ (opening : Opening). IsHeadingOf (Some opening) text heading) at.opens is) at.stands)

-- ---- the turn that closes it

relay_closes : (mount : ℕ) (text : List ℕ) (claim : Option ℕ) (came : Came) (segments : List Segment)
    → IsCameBy mount text claim came → closing_by came segments ≡ releasing mount claim
relay_closes mount text None came segments is = free_closed came segments is
relay_closes mount text (Some claim) came segments is = ap (λ (x : Came). closing_by x segments) is.3

pub closing_is : (c : Config) (me : ℕ) (h : Histories) (o : Opening) (heading : Heading) (text : List ℕ)
    (steps : List Step) (stage : SessionStage) → IsHeadingOf (Some o) text heading
    → IsAtStage c me h o (judged c o heading text) text steps stage
    → closing (judged c o heading text) steps ≡ closing_at stage
closing_is c me h o heading text steps (Head head) is at =
    free_closed _ (segments_after [] steps) (uncalled_free steps at.2 (judged c o heading text))
closing_is c me h o heading text steps Over is at = free_closed _ (segments_after [] steps) at.free
closing_is c me h o heading text steps (Source mount session) is at =
    ap (λ (x : Came). closing_by x (segments_after [] steps))
    (source_holds c me h (judged c o heading text) steps mount session at)
    ∙ ap (λ (m : ℕ). releasing m (Some session.claim)) at.mount_is
closing_is c me h o heading text steps (Relay mount session) is at =
    relay_closes mount text (claim_at session.stage) _ (segments_after [] steps)
    (relay_at c me h o heading text steps mount session is at)
closing_is c me h o heading text steps (Rover account session) is at =
    ap (λ (x : Came). closing_by x (segments_after [] steps))
    (rover_inside c me h (judged c o heading text) steps account session at)
    ∙ ap (λ (a : ℕ). asks (to_book (Leave a (sent_in (segments_after [] steps)) (overrun_in
    (segments_after [] steps)))) (λ answer. done)) at.account_is
    ∙ ap (λ (l : List Segment). asks (to_book (Leave account (sent_in l) (overrun_in l))) (λ answer. done))
    (ap (segments_after []) at.steps_are ∙ sym at.stands.segments)

-- ---- what is told

pub segments_is : (c : Config) (me : ℕ) (h : Histories) (o : Opening) (j : Judged) (text : List ℕ)
    (steps : List Step) (stage : SessionStage) → IsAtStage c me h o j text steps stage
    → segments_at stage ≡ segments_after [] steps
segments_is c me h o j text steps (Head head) at = ap (segments_after []) (sym at.2)
segments_is c me h o j text steps Over at = sym at.segments
segments_is c me h o j text steps (Source mount session) at = sym at.segments
segments_is c me h o j text steps (Relay mount session) at = sym at.segments
segments_is c me h o j text steps (Rover account session) at =
    at.stands.segments ∙ ap (segments_after []) (sym at.steps_are)

relay_out : (mount : ℕ) (text : List ℕ) (claim : Option ℕ) (came : Came) → IsCameBy mount text claim came
    → false ≡ is_entered came
relay_out mount text None came is = sym (free_out came is)
relay_out mount text (Some claim) came is = sym (ap is_entered is.3)

pub entered_is : (c : Config) (me : ℕ) (h : Histories) (o : Opening) (heading : Heading) (text : List ℕ)
    (steps : List Step) (stage : SessionStage) → IsHeadingOf (Some o) text heading
    → IsAtStage c me h o (judged c o heading text) text steps stage
    → is_rover stage ≡ is_entered (came_to (judged c o heading text) steps)
entered_is c me h o heading text steps (Head head) is at =
    sym (free_out _ (uncalled_free steps at.2 (judged c o heading text)))
entered_is c me h o heading text steps Over is at = sym (free_out _ at.free)
entered_is c me h o heading text steps (Source mount session) is at =
    sym (ap is_entered (source_holds c me h (judged c o heading text) steps mount session at))
entered_is c me h o heading text steps (Relay mount session) is at =
    relay_out mount text (claim_at session.stage) _ (relay_at c me h o heading text steps mount session is at)
entered_is c me h o heading text steps (Rover account session) is at =
    sym (ap is_entered (rover_inside c me h (judged c o heading text) steps account session at))

-- of one that has not ended
relay_end : (mount : ℕ) (text : List ℕ) (claim : Option ℕ) (came : Came) → ended_by came ≡ None
    → IsCameBy mount text claim came → end_claimed claim ≡ at_end came
relay_end mount text None came unended is = sym (free_unended came is unended)
relay_end mount text (Some claim) came unended is = sym (ap at_end is.3)

end_is : (c : Config) (me : ℕ) (h : Histories) (o : Opening) (heading : Heading) (text : List ℕ)
    (steps : List Step) (stage : SessionStage) → IsHeadingOf (Some o) text heading
    → IsAtStage c me h o (judged c o heading text) text steps stage
    → ended_by (came_to (judged c o heading text) steps) ≡ None
    → end_at stage ≡ at_end (came_to (judged c o heading text) steps)
end_is c me h o heading text steps (Head head) is at unended =
    sym (free_unended _ (uncalled_free steps at.2 (judged c o heading text)) unended)
end_is c me h o heading text steps Over is at unended = sym (free_unended _ at.free unended)
end_is c me h o heading text steps (Source mount session) is at unended =
    sym (ap at_end (source_holds c me h (judged c o heading text) steps mount session at))
end_is c me h o heading text steps (Relay mount session) is at unended =
    relay_end mount text (claim_at session.stage) _ unended (relay_at c me h o heading text steps mount session is at)
end_is c me h o heading text steps (Rover account session) is at unended =
    sym (ap at_end (rover_inside c me h (judged c o heading text) steps account session at))

-- ---- junk

abbrev pub IsTold : Option Ending → ℕ → ℕ → Type 0
IsTold ended junk due = (IsTrue (is_halted ended) ⊎ (junk ≡ due)) × (junk ≤ due)

pub no_junk : (ended : Option Ending) (junk due : ℕ) → junk ≡ 0 → due ≡ 0 → IsTold ended junk due
no_junk ended junk due none nothing = (inr (none ∙ sym nothing), omega (arith, none, nothing))

source_junk : (ended : Option Ending) (came : Came) (terms : SourceTerms) (body : List ℕ)
    (session : SourceSession) (junk : ℕ) → came ≡ holding terms body session.claim
    → source_standing.StandsFor session body → source_standing.is_chunked session ≡ terms.chunked
    → (IsTrue (source_standing.is_cut_short session.halt) → IsTrue (is_halted ended))
    → IsSourceJunk session junk → IsTold ended junk (junk_of came)
source_junk ended came terms body session junk is stands chunked short told =
    subst (IsTold ended junk) (sym (ap junk_of is))
    (subst (λ (b : Bool). IsTold ended junk (cut (payload b body)).junk) chunked (
      elim (told.exact body stands) [ inl cut_short ↦ inl (short cut_short) | inr exact ↦ inr exact ],
      told.at_most
          body stands,
    ))

relay_junk : (ended : Option Ending) (mount : ℕ) (text : List ℕ) (steps : List Step) (session : RelaySession)
    (junk : ℕ) (claim : Option ℕ) (came : Came) → relay_standing.StandsFor mount session text steps
    → (IsTrue (relay_standing.is_short_at session.stage) → IsTrue (is_halted ended))
    → IfNone claim (junk ≡ 0) → IfSome claim (λ n. IsJunk session junk) → IfSome claim (λ n. IsAtMostJunk session junk)
    → IsCameBy mount text claim came → IsTold ended junk (junk_of came)
relay_junk ended mount text steps session junk None came stands short none exact at_most is =
    no_junk ended junk (junk_of came) none (free_junk came is)
relay_junk ended mount text steps session junk (Some claim) came stands short none exact at_most is =
    subst (IsTold ended junk) (sym (ap junk_of is.3)) (
      elim (exact mount text steps is.0 is.1 stands is.2) [
        | inl cut_short ↦ inl
            (short cut_short)
        | inr same ↦ inr same
      ],
      at_most mount text steps is.0 is.1 stands is.2,
    )

pub junk_is : (c : Config) (me : ℕ) (h : Histories) (ended : Option Ending) (o : Opening) (heading : Heading)
    (text : List ℕ)
    (steps : List Step) (stage : SessionStage) (junk : ℕ) → IsHeadingOf (Some o) text heading
    → IsAtStage c me h o (judged c o heading text) text steps stage → EndsAt stage ended → IsJunkAt stage junk
    → IsTold ended junk (junk_of (came_to (judged c o heading text) steps))
junk_is c me h ended o heading text steps (Head head) junk is at ends told =
    no_junk ended junk _ told (free_junk _ (uncalled_free steps at.2 (judged c o heading text)))
junk_is c me h ended o heading text steps Over junk is at ends told =
    no_junk ended junk _ told (free_junk _ at.free)
junk_is c me h ended o heading text steps (Source mount session) junk is at ends told =
    source_junk ended _ at.terms at.body session junk
    (source_holds c me h (judged c o heading text) steps mount session at) at.stands at.chunked ends.refused told
junk_is c me h ended o heading text steps (Relay mount session) junk is at ends told =
    relay_junk ended mount text steps session junk (claim_at session.stage) _ at.stands ends.refused told.unclaimed
    told.exact told.at_most (relay_at c me h o heading text steps mount session is at)
junk_is c me h ended o heading text steps (Rover account session) junk is at ends told =
    no_junk ended junk _ told (ap junk_of (rover_inside c me h (judged c o heading text) steps account session at))

-- ---- the whole receipt

pub ending_is : (ended : Option Ending) (last : Last) (came : Came) (end given : Ending)
    → (ended ≡ None → end ≡ at_end came)
    → given ≡ unwrap_or ended (ended_last last end) → given ≡ ending_by ended last came
ending_is None last came end given same is = is ∙ ap (ended_last last) (same refl)
ending_is (Some other) last came end given same is = is

pub unended_by : (ended by : Option Ending) → EndsAs ended by → ended ≡ None → by ≡ None
unended_by ended by (inl halted) none = let clash : IsTrue (is_halted None) = subst (λ (e : Option Ending). IsTrue
    (is_halted e)) none halted in absurd cc
unended_by ended by (inr same) none = sym same ∙ none

pub receipt_is : (c : Config) (me : ℕ) (h : Histories) (ended : Option Ending) (o : Opening) (heading : Heading)
    (text : List ℕ)
    (steps : List Step) (stage : SessionStage) (last : Last) (receipt : Receipt) → IsHeadingOf (Some o) text heading
    → IsAtStage c me h o (judged c o heading text) text steps stage → EndsAt stage ended
    → EndsAs ended (ended_by (came_to (judged c o heading text) steps))
    → receipt.ending ≡ unwrap_or ended (ended_last last (end_at stage))
    → receipt.segments ≡ reverse (segments_at stage)
    → receipt.sent ≡ sent_in (segments_at stage) → receipt.overrun ≡ overrun_in (segments_at stage)
    → IsJunkAt stage receipt.junk → receipt.entered ≡ is_rover stage
    → IsReceipt ended (judged c o heading text) steps last receipt
receipt_is c me h ended o heading text steps stage last receipt is at halts ends ending segments sent overrun junk
    entered =
    let j = judged c o heading text in
    let all = segments_is c me h o j text steps stage at in
    let told = junk_is c me h ended o heading text steps stage receipt.junk is at halts junk in
    record {
      ending = ending_is ended last (came_to j steps) (end_at stage) receipt.ending
          (λ none. end_is c me h o heading text steps stage is at (unended_by ended _ ends none)) ending;
      segments = segments ∙ ap reverse all;
      sent = sent ∙ ap sent_in all;
      overrun = overrun ∙ ap overrun_in all;
      junk = told.0;
      at_most = told.1;
      entered = entered ∙ entered_is c me h o heading text steps stage is at;
    }
