-- How a source begins.
use Rattle.std.proofs.Common.{◌≡◌, ◌∙◌, ◌<◌, ℕ, Bool, true, false, IsTrue, List, [], ◌∷◌, ◌++◌, length, refl, sym, ap, subst, inl, inr, Option, None, Some, Err}
use Rattle.std.specs.Prelude.{is_none}
use Rattle.std.proofs.lemmas.List.{append-nil}
use Rattle.access_groups.specs.declared.admission.Denial.{Denial}
use Rattle.access_groups.specs.declared.admission.Denial.TheVariants as denials
use Rattle.access_groups.specs.declared.admission.SourceDenial.{SourceDenial}
use Rattle.access_groups.specs.declared.admission.SourceDenial.TheVariants as sources
use Rattle.ntrip_head.specs.declared.fault.HeadFault.{HeadFault}
use Rattle.ntrip_head.specs.declared.fault.HeadFault.TheVariants as heads
use Rattle.ntrip_head.specs.declared.request.Version.{Version}
use Rattle.ntrip_reply.specs.declared.kind.Reply.{Reply}
use Rattle.ntrip_reply.specs.declared.kind.Reply.TheVariants as replies
use Rattle.turn_log.specs.History.{History}
use Rattle.turn_log.proofs.HeardLaws.{heard_none}
use Rattle.mount_ring.specs.declared.call.RingCall.{RingCall}
use Rattle.mount_ring.specs.declared.call.RingCall.TheVariants.{Claim}
use Rattle.mount_ring.specs.declared.call.RingAnswer.TheVariants.{Given}
use Rattle.mount_ring.specs.declared.shape.RingShape.{RingShape}
use Rattle.caster_accounts.specs.declared.call.BookCall.{BookCall}
use Rattle.session_calls.specs.Steps.{Step, at_ring}
use Rattle.session_calls.specs.Plans.{IsMade}
use Rattle.session_calls.specs.Rings.{Went, history_at}
use Rattle.session_calls.proofs.WentLemmas.{went_less}
use Rattle.source_session.specs.declared.fault.ClaimFault.{ClaimFault}
use Rattle.source_session.specs.declared.fault.ClaimFault.TheVariants as claims
use Rattle.source_session.specs.declared.session.SourceSession.{SourceSession}
use Rattle.source_session.specs.Calls.{IsHolding}
use Rattle.source_session.specs.Body.{frames_of}
use Rattle.source_session.specs.Standing as source_standing
use Rattle.upstream_relay.specs.Owed.{publishing}
use Rattle.cast_config.specs.declared.config.Config.{Config}
use Rattle.session_core.proofs.BeginLemmas.{over_ends, over_starts, taken_untabled}
use Rattle.session_model.specs.declared.ending.Ending.{Ending}
use Rattle.session_model.specs.declared.ending.Ending.TheVariants as endings
use Rattle.session_core.specs.declared.session_stage.SessionStage.{SessionStage}
use Rattle.session_core.specs.declared.session_stage.SessionStage.TheVariants.{Over, Source}
use Rattle.session_model.specs.Setting.{shapes}
use Rattle.session_model.specs.Setting as setting
use Rattle.rtcm_frame.specs.Cut as frames
use Rattle.chunk_body.specs.Answer as bodies
use Rattle.chunk_body.specs.Machine as machine
use Rattle.session_model.specs.Endings.{claimed_ending}
use Rattle.session_model.specs.Judged.{SourceTerms, source, finished, rover_judged, source_judged, fault_judged}
use Rattle.session_model.specs.Replies.{text_if}
use Rattle.session_core.proofs.Published.{steps_unclaimed}
use Rattle.session_model.specs.Called.{book_answer, IsCause}
use Rattle.session_core.specs.Beginnings.{histories_of, end_unclaimed, text_unclaimed}
use Rattle.session_core.specs.Begun.{BeginsFor}

-- ---- the rings alone were called

pub went_as : (c : Config) (shapes_now : List RingShape) (less alone : Bool) (old now : List (History RingCall))
    (me : ℕ)
    (steps : List Step) → shapes_now ≡ shapes c → (IsTrue less → IsTrue alone)
    → Went shapes_now alone old now me steps → Went (shapes c) less old now me steps
went_as c shapes_now less alone old now me steps same from went =
    subst (λ (s : List RingShape). Went s less old now me steps) same
    (went_less shapes_now alone less old now me steps from went)

-- ---- a claim that was given

none_published : (chunked : Bool) (mount claim : ℕ) → IsMade (publishing mount claim (frames_of chunked [])) []
unfolding frames.cut frames.cut_after bodies.plain_of
none_published false mount claim = refl
none_published true mount claim = refl

none_ended : (chunked : Bool) (claim : ℕ) → None ≡ claimed_ending chunked claim []
unfolding machine.read
none_ended false claim = refl
none_ended true claim = refl

not_true : false ≡ true → ⊥
not_true e = cc

pub begins_claimed : (c : Config) (alone : Bool) (old now : List (History RingCall)) (book : History BookCall)
    (me mount : ℕ)
    (version : Option Version) (chunked : Bool) (session : SourceSession) (before after : List ℕ)
    → mount < length c.mount
    → Went (shapes c) alone old now me (at_ring mount Claim (Given session.claim) ∷ [])
    → IsHolding me session.claim (history_at now mount)
    → source_standing.StandsFor session [] → session.halt ≡ None → session.me ≡ me
    → source_standing.is_chunked session ≡ chunked
    → after ≡ before ++ text_if version replies.SourceOk []
    → BeginsFor c alone (histories_of old book) (histories_of now book) me
    (source (record { version = version; mount = mount; chunked = chunked }) [])
    (Source mount session) None before after
begins_claimed c alone old now book me mount version chunked session before after within went holds stands going is_me
    is_chunked out =
    let terms : SourceTerms = record { version = version; mount = mount; chunked = chunked } in
    inl (record {
      more = at_ring mount Claim (Given session.claim) ∷ [];
      added = text_if version replies.SourceOk [];
      out = out;
      called = record { rings = went; book = heard_none alone (book_answer c) book me };
      no_read = refl;
      owes = (refl, none_published chunked mount session.claim);
      ends = inr (none_ended chunked session.claim);
      stage_is = λ opening text. record {
        terms = terms;
        body = [];
        judged_is = refl;
        mount_is = refl;
        within = within;
        caller = is_me;
        stands = stands;
        chunked = is_chunked;
        claim = refl;
        holds = holds;
        no_read = refl;
        segments = refl;
      };
      halts = record {
        goes = λ none. ap is_none going;
        refused = λ short. absurd (not_true (sym (ap source_standing.is_cut_short going) ∙ short));
      };
      starts = refl;
      sent_is = sym (append-nil (text_if version replies.SourceOk []));
    })

-- ---- and one that was not

pub begins_unclaimed : (c : Config) (alone : Bool) (old now : List (History RingCall)) (book : History BookCall)
    (me mount : ℕ)
    (version : Option Version) (chunked : Bool) (fault : ClaimFault) (stage : SessionStage) (ended : Option Ending)
    (before after : List ℕ)
    → Went (shapes c) alone old now me (steps_unclaimed mount fault)
    → stage ≡ Over → ended ≡ Some (end_unclaimed fault) → after ≡ before ++ text_unclaimed version fault
    → BeginsFor c alone (histories_of old book) (histories_of now book) me
    (source (record { version = version; mount = mount; chunked = chunked }) []) stage ended before after
begins_unclaimed c alone old now book me mount version chunked (claims.Taken caller claim) stage ended before after
    went over end out =
    rw end (inl (record {
      more = steps_unclaimed mount (claims.Taken caller claim);
      added = text_if version replies.Taken [];
      out = out;
      called = record { rings = went; book = heard_none alone (book_answer c) book me };
      no_read = refl;
      owes = (refl, refl);
      ends = inr refl;
      stage_is = λ opening text.
          rw over (record { known = λ e. cc; free = tt; segments = refl; no_read = refl });
      halts = over_ends stage _ _ over refl;
      starts = over_starts stage _ over;
      sent_is = taken_untabled version (setting.table c) ∙ sym (append-nil (text_if version replies.Taken (setting.table c)));
    }))
begins_unclaimed c alone old now book me mount version chunked (claims.Worn given) stage ended before after went over
    end out =
    rw end (inl (record {
      more = [];
      added = [];
      out = out;
      called = record { rings = went; book = heard_none alone (book_answer c) book me };
      no_read = refl;
      owes = tt;
      ends = inl refl;
      stage_is = λ opening text.
          rw over (record { known = λ e. cc; free = tt; segments = refl; no_read = refl });
      halts = over_ends stage _ _ over refl;
      starts = over_starts stage _ over;
      sent_is = ([], refl);
    }))
begins_unclaimed c alone old now book me mount version chunked claims.Memory stage ended before after went over end
    out =
    rw end (inl (record {
      more = [];
      added = [];
      out = out;
      called = record { rings = went; book = heard_none alone (book_answer c) book me };
      no_read = refl;
      owes = tt;
      ends = inl refl;
      stage_is = λ opening text.
          rw over (record { known = λ e. cc; free = tt; segments = refl; no_read = refl });
      halts = over_ends stage _ _ over refl;
      starts = over_starts stage _ over;
      sent_is = ([], refl);
    }))

-- ---- who is denied, or refused by its head, is not ended by a place

pub denied_cause : (worn : List ℕ) (denial : Denial) (reply : Option (Version × Reply)) (end : Ending)
    → finished reply end ≡ rover_judged None None [] (Err denial) → IsCause worn end
denied_cause worn denials.NoMount reply end is = let e : end ≡ endings.NoMount = cc in rw e tt
denied_cause worn denials.NoAccount reply end is = let e : end ≡ endings.NoAccount = cc in rw e tt
denied_cause worn (denials.Password account) reply end is = let e : end ≡ endings.Password account = cc in rw e tt
denied_cause worn (denials.Group group) reply end is = let e : end ≡ endings.Denied group = cc in rw e tt

pub denied_source_cause : (worn : List ℕ) (denial : SourceDenial) (reply : Option (Version × Reply)) (end : Ending)
    → finished reply end ≡ source_judged None false [] (Err denial) → IsCause worn end
denied_source_cause worn sources.NoMount reply end is = let e : end ≡ endings.NoMount = cc in rw e tt
denied_source_cause worn sources.Password reply end is = let e : end ≡ endings.SourcePassword = cc in rw e tt

pub refused_head_cause : (worn : List ℕ) (fault : HeadFault) (reply : Option (Version × Reply)) (end : Ending)
    → finished reply end ≡ fault_judged fault → IsCause worn end
refused_head_cause worn heads.Bad reply end is = let e : end ≡ endings.BadHead = cc in rw e tt
refused_head_cause worn heads.Method reply end is = let e : end ≡ endings.Method = cc in rw e tt
refused_head_cause worn heads.Coding reply end is = let e : end ≡ endings.Coding = cc in rw e tt
