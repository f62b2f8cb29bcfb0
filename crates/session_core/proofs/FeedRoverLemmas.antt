-- A rover that sends more bytes.
use Rattle.std.proofs.Common.{◌≡◌, ◌≢◌, ◌∙◌, ℕ, Bool, IsTrue, List, [], ◌∷◌, ◌++◌, reverse, sym, ap, subst, Option, None}
use Rattle.std.specs.Prelude.{unwrap_or}
use Rattle.std.proofs.lemmas.List.Concat.{flat_map-append}
use Rattle.gga_read.specs.declared.Position.{Position}
use Rattle.ntrip_head.specs.declared.request.Version.TheVariants.{One}
use Rattle.turn_log.specs.History.{History}
use Rattle.turn_log.specs.Heard.{Heard}
use Rattle.turn_log.proofs.HeardLaws.{heard_none}
use Rattle.mount_ring.specs.declared.call.RingCall.{RingCall}
use Rattle.caster_accounts.specs.declared.call.BookCall.{BookCall}
use Rattle.caster_accounts.specs.declared.call.BookCall.TheVariants.{Enter}
use Rattle.caster_accounts.specs.declared.call.BookAnswer.{BookAnswer}
use Rattle.caster_accounts.specs.declared.call.BookAnswer.TheVariants.{Entered}
use Rattle.caster_accounts.specs.History.{may_leave}
use Rattle.rover_cursor.specs.declared.segment.Segment.{Segment}
use Rattle.rover_cursor.specs.declared.fault.SegFault.{SegFault}
use Rattle.session_calls.specs.Steps.{Step, at_book, book_part, on_book}
use Rattle.session_calls.specs.Rings.{Went, WentOn}
use Rattle.rover_session.specs.declared.session.RoverSession.{RoverSession}
use Rattle.rover_session.specs.Owed.{Terms, rover_plan}
use Rattle.rover_session.specs.Made.{segments_after, owed_among, IsMadeUntil}
use Rattle.rover_session.specs.Body.{body_of}
use Rattle.rover_session.specs.Standing.{Told, IsResumable, SameAdmission, frames_sent}
use Rattle.rover_session.specs.Standing as rover_standing
use Rattle.rover_session.proofs.MadeLemmas.{owed-append}
use Rattle.rover_session.proofs.SegmentLemmas.{Extends, all_sound, sent_later}
use Rattle.cast_config.specs.declared.config.Config.{Config}
use Rattle.session_model.specs.declared.ending.Ending.{Ending}
use Rattle.session_core.specs.declared.session.Session.{Session}
use Rattle.session_core.specs.declared.session_stage.SessionStage.{SessionStage}
use Rattle.session_core.specs.declared.session_stage.SessionStage.TheVariants as stages
use Rattle.session_model.specs.Setting.{shapes, caps}
use Rattle.session_model.specs.Headings.{Heading}
use Rattle.session_model.specs.Judged.{Opening, RoverTerms, Judged, waiting, rover, judged}
use Rattle.session_model.specs.Owed.{came_to, terms_of, entering_plan, plan_of}
use Rattle.session_model.specs.Endings.{ended_by}
use Rattle.session_model.specs.Replies.{opening_text, reply_of, kept_frames, sent_by}
use Rattle.session_model.specs.Run.{Histories}
use Rattle.session_model.specs.Called.{Called, OthersCalled, book_answer}
use Rattle.session_core.specs.Beginnings.{ended_joining}
use Rattle.session_core.specs.Standing.{Stands, IsAtStage, IsRover, IsMadeBy, IsSentBy, EndsAs, EndsAt, is_halted, is_halted_uncalled}
use Rattle.session_core.specs.Feeding.{FedOn}
use Rattle.session_core.proofs.BeginLemmas.{sent_all}
use Rattle.session_model.proofs.MoreLemmas.{with_more, judged_more, heading_goes}
use Rattle.session_core.proofs.HeldLemmas.{inside_on}
use Rattle.session_core.proofs.EnteredLemmas.{plan_asks, begun_off_book, until_begun, sent_kept, made_joining, ends_joining, joined_goes}

-- ---- its calls are at rings

nothing_behind : {X : Type 0} (xs ys : List X) → xs ++ ys ≡ [] → ys ≡ []
nothing_behind [] ys none = none
nothing_behind (x ∷ xs) ys none = absurd cc

-- what it calls for reports is no call at the book
off_book : (halt : Option SegFault) (terms : Terms) (first : Option Position) (tail : List ℕ)
    (behind more : List Step)
    → IsMadeUntil halt (rover_plan terms first tail) (owed_among (behind ++ more)) → owed_among more ≡ more
    → on_book more ≡ []
off_book halt terms first tail behind more made no_read =
    let all : on_book (owed_among (behind ++ more)) ≡ [] =
    begun_off_book (rover_plan terms first tail) (owed_among (behind ++ more))
    (plan_asks terms.near terms _)
    (until_begun halt (rover_plan terms first tail) (owed_among (behind ++ more)) made) in
    nothing_behind (on_book (owed_among behind)) (on_book more)
    (sym (flat_map-append book_part (owed_among behind) more)
    ∙ ap (λ (l : List Step). on_book (owed_among behind ++ l)) (sym no_read)
    ∙ ap on_book (sym (owed-append behind more))
    ∙ all)

called_rings : (c : Config) (alone : Bool) (old now : Histories) (me : ℕ) (more : List Step)
    → Went (shapes c) alone old.rings now.rings me more → on_book more ≡ [] → now.book ≡ old.book
    → Called c alone old now me more
called_rings c alone old now me more went off same = record {
  rings = went;
  book = subst (λ (l : List (BookCall × BookAnswer)). Heard alone (book_answer c) old.book now.book me l) (sym off)
      (subst (λ (h : History BookCall). Heard alone (book_answer c) old.book h me []) (sym same)
      (heard_none alone (book_answer c) old.book me));
}

-- ---- what others publish changes nothing that was sent

extends_on : (old now : List (History RingCall)) (me : ℕ) → WentOn old now me → Extends old now
extends_on old now me on mount = ((on.rings mount).0, (on.rings mount).1)

sent_still : (c : Config) (me : ℕ) (histories old now : List (History RingCall)) (before after : List Segment)
    (behind later : List Step) → WentOn histories old me → IsResumable (shapes c) me histories before
    → before ≡ segments_after [] behind → after ≡ segments_after [] later
    → frames_sent (shapes c) now after ≡ frames_sent (shapes c) old before
    → kept_frames c now (reverse (segments_after [] later))
    ≡ kept_frames c histories (reverse (segments_after [] behind))
sent_still c me histories old now before after behind later on resumes were are same =
    sent_kept c now (segments_after [] later)
    ∙ ap (λ (s : List Segment). frames_sent (shapes c) now s) (sym are)
    ∙ same
    ∙ sent_later (shapes c) histories old before (extends_on histories old me on)
    (all_sound (shapes c) me histories before resumes)
    ∙ ap (λ (s : List Segment). frames_sent (shapes c) histories s) were
    ∙ sym (sent_kept c histories (segments_after [] behind))

-- ---- a rover is judged, and remains so

is_judged : (j : Judged) (terms : RoverTerms) (tail : List ℕ) → j ≡ rover terms tail → j ≢ waiting
is_judged j terms tail is waits = let clash : rover terms tail ≡ waiting = sym is ∙ waits in absurd cc

-- these steps, behind the one with which it entered
abbrev entering : ℕ → List Step → List Step
entering account behind = at_book (Enter account) Entered ∷ behind

-- ---- what it stands for

-- it stands as a rover, with more bytes and more steps
still_rover : (c : Config) (me : ℕ) (old now : Histories) (j later : Judged) (steps more : List Step) (account : ℕ)
    (inner fed : RoverSession) (bytes : List ℕ) (at : IsRover c me old j steps account inner)
    → later ≡ rover at.terms (at.tail ++ bytes) → SameAdmission inner fed
    → rover_standing.Stands fed at.terms.first (at.tail ++ bytes) (at.behind ++ more)
    → IsResumable (shapes c) me now.rings fed.segments
    → IsTrue (may_leave (caps c) now.book me account)
    → IsRover c me now later (steps ++ more) account fed
still_rover c me old now j later steps more account inner fed bytes at is same stands resumes inside = record {
  terms = at.terms;
  tail = at.tail ++ bytes;
  behind = at.behind ++ more;
  judged_is = is;
  account_is = at.account_is;
  steps_are = ap (λ (l : List Step). l ++ more) at.steps_are;
  caller = same.1 ∙ at.caller;
  admitted = same.2 ∙ at.admitted;
  version = same.0 ∙ at.version;
  stands = stands;
  resumes = resumes;
  inside = inside;
}

-- all that it owes is made, or the first of it
owes_still : (c : Config) (j : Judged) (terms : RoverTerms) (tail : List ℕ) (account : ℕ) (steps behind : List Step)
    (halt : Option SegFault) (ended : Option Ending) → j ≡ rover terms tail → terms.admission.account ≡ account
    → steps ≡ entering account behind → ended ≡ ended_joining halt
    → IsMadeUntil halt (rover_plan (terms_of c terms.admission) terms.first tail) (owed_among behind)
    → IsMadeBy (is_halted ended) (plan_of c j) (owed_among steps)
owes_still c j terms tail account steps behind halt ended is same are by made =
    subst (λ (e : Option Ending). IsMadeBy (is_halted e) (plan_of c j) (owed_among steps)) (sym by)
    (subst (λ (x : Judged). IsMadeBy (is_halted (ended_joining halt)) (plan_of c x) (owed_among steps)) (sym is)
    (subst (λ (l : List Step). IsMadeBy (is_halted (ended_joining halt)) (entering_plan c terms tail) (owed_among l))
    (sym (are ∙ ap (λ (a : ℕ). entering a behind) (sym same)))
    (made_joining halt c terms tail (owed_among behind) made)))

ends_still : (j : Judged) (terms : RoverTerms) (tail : List ℕ) (account : ℕ) (steps behind : List Step)
    (halt : Option SegFault) (ended : Option Ending) → j ≡ rover terms tail → steps ≡ entering account behind
    → ended ≡ ended_joining halt → EndsAs ended (ended_by (came_to j steps))
ends_still j terms tail account steps behind halt ended is are by =
    subst (λ (e : Option Ending). EndsAs e (ended_by (came_to j steps))) (sym by)
    (subst (λ (e : Option Ending). EndsAs (ended_joining halt) e)
    (sym (ap (λ (x : Judged). ended_by (came_to x steps)) is
    ∙ ap (λ (l : List Step). ended_by (came_to (rover terms tail) l)) are))
    (ends_joining halt))

-- what is sent of it, where these are its frames
abbrev rover_text : Config → Opening → RoverTerms → List (List ℕ) → List ℕ
rover_text c opening terms frames =
    opening_text c opening ++ reply_of c (came_to (rover terms []) (entering 0 []))
    ++ body_of (unwrap_or terms.version One) frames

text_of : (c : Config) (h : List (History RingCall)) (opening : Opening) (j : Judged) (terms : RoverTerms)
    (tail : List ℕ) (account : ℕ) (steps behind : List Step) → j ≡ rover terms tail
    → steps ≡ entering account behind
    → sent_by c h opening (came_to j steps) (reverse (segments_after [] steps))
    ≡ rover_text c opening terms (kept_frames c h (reverse (segments_after [] behind)))
text_of c h opening j terms tail account steps behind is are =
    ap (λ (x : Judged). sent_by c h opening (came_to x steps) (reverse (segments_after [] steps))) is
    ∙ ap (λ (l : List Step). sent_by c h opening (came_to (rover terms tail) l) (reverse (segments_after [] l))) are

halts_still : (stage : SessionStage) (account : ℕ) (fed : RoverSession) (ended : Option Ending)
    → stage ≡ stages.Rover account fed → ended ≡ ended_joining fed.halt → EndsAt stage ended
halts_still stage account fed ended is by =
    subst (λ (s : SessionStage). EndsAt s ended) (sym is)
    (record { goes = λ none. joined_goes fed.halt (sym by ∙ none); refused = λ short. absurd cc })

-- ---- more bytes

pub rover_fed_on : (c : Config) (alone : Bool) (old now histories : Histories) (session new : Session)
    (opening : Opening) (text bytes : List ℕ) (steps : List Step) (sent : List ℕ) (account : ℕ)
    (inner fed : RoverSession)
    → session.stage ≡ stages.Rover account inner → session.ended ≡ None → new.me ≡ session.me
    → new.stage ≡ stages.Rover account fed → new.ended ≡ ended_joining fed.halt
    → Stands c session opening text steps histories sent → OthersCalled histories old session.me
    → SameAdmission inner fed
    → ((first : Option Position) (before : List ℕ) (ss : List Step)
    → rover_standing.Stands inner first before ss
    → Told (shapes c) alone old.rings now.rings fed first (before ++ bytes) ss)
    → IsResumable (shapes c) inner.me now.rings fed.segments
    → frames_sent (shapes c) now.rings fed.segments
    ≡ frames_sent (shapes c) old.rings inner.segments
    → now.book ≡ old.book
    → FedOn c alone old now new opening (text ++ bytes) steps sent
rover_fed_on c alone old now histories session new opening text bytes steps sent account inner fed was going me_is
    stage_is ended_is stood others same tell resumes unsent same_book =
    let heading : Heading = stood.heading in
    let j : Judged = judged c opening heading text in
    let later : Judged = judged c opening heading (text ++ bytes) in
    let at : IsRover c session.me histories j steps account inner =
    subst (λ (s : SessionStage). IsAtStage c session.me histories opening j text steps s) was stood.stage in
    let halt : Option SegFault = fed.halt in
    let known : j ≢ waiting = is_judged j at.terms at.tail at.judged_is in
    let is : later ≡ rover at.terms (at.tail ++ bytes) =
    judged_more c opening heading text bytes known ∙ ap (λ (x : Judged). with_more x bytes) at.judged_is in
    let told : Told (shapes c) alone old.rings now.rings fed at.terms.first (at.tail ++ bytes) at.behind =
    tell at.terms.first at.tail at.behind at.stands in
    let more : List Step = told.more in
    let are : steps ++ more ≡ entering account (at.behind ++ more) =
    ap (λ (l : List Step). l ++ more) at.steps_are in
    let caller : fed.me ≡ session.me = same.1 ∙ at.caller in
    let made : IsMadeUntil halt (rover_plan (terms_of c at.terms.admission) at.terms.first (at.tail ++ bytes))
    (owed_among (at.behind ++ more)) =
    subst (λ (t : Terms). IsMadeUntil halt (rover_plan t at.terms.first (at.tail ++ bytes))
    (owed_among (at.behind ++ more))) (same.2 ∙ at.admitted) told.stands.owed in
    let went : Went (shapes c) alone old.rings now.rings session.me more =
    subst (λ (m : ℕ). Went (shapes c) alone old.rings now.rings m more) caller told.went in
    let called : Called c alone old now session.me more =
    called_rings c alone old now session.me more went
    (off_book halt (terms_of c at.terms.admission) at.terms.first (at.tail ++ bytes) at.behind more made told.no_read)
    same_book in
    let inside : IsTrue (may_leave (caps c) now.book session.me account) =
    subst (λ (h : History BookCall). IsTrue (may_leave (caps c) h session.me account)) (sym same_book)
    (inside_on (caps c) histories.book old.book session.me account at.inside others.book) in
    let still : IsRover c session.me now later (steps ++ more) account fed =
    still_rover c session.me histories now j later steps more account inner fed bytes at is same told.stands
    (subst (λ (m : ℕ). IsResumable (shapes c) m now.rings fed.segments) at.caller resumes) inside in
    let frames : kept_frames c now.rings (reverse (segments_after [] (at.behind ++ more)))
    ≡ kept_frames c histories.rings (reverse (segments_after [] at.behind)) =
    sent_still c session.me histories.rings old.rings now.rings inner.segments fed.segments
    at.behind (at.behind ++ more) others.rings at.resumes at.stands.segments told.stands.segments unsent in
    let before : sent ≡ sent_by c histories.rings opening (came_to j steps) (reverse (segments_after [] steps)) =
    subst (λ (e : Option Ending). IsSentBy (is_halted_uncalled e steps) sent
    (sent_by c histories.rings opening (came_to j steps) (reverse (segments_after [] steps)))) going stood.sent_is in
    record {
      more = more;
      called = subst (λ (m : ℕ). Called c alone old now m more) (sym me_is) called;
      no_read = told.no_read;
      stands = record {
        heading = heading;
        is_heading = heading_goes c opening heading text bytes known stood.is_heading;
        owes = owes_still c later at.terms (at.tail ++ bytes) account (steps ++ more) (at.behind ++ more) halt
            new.ended is at.account_is are ended_is made;
        ends = ends_still later at.terms (at.tail ++ bytes) account (steps ++ more) (at.behind ++ more) halt
            new.ended is are ended_is;
        stage = subst (λ (m : ℕ). IsAtStage c m now opening later (text ++ bytes) (steps ++ more) new.stage)
            (sym me_is)
            (subst (λ (s : SessionStage). IsAtStage c session.me now opening later (text ++ bytes) (steps ++ more) s)
            (sym stage_is) still);
        halts = halts_still new.stage account fed new.ended stage_is ended_is;
        sent_is = sent_all (is_halted_uncalled new.ended (steps ++ more)) sent _
            (before
            ∙ text_of c histories.rings opening j at.terms at.tail account steps at.behind at.judged_is at.steps_are
            ∙ ap (rover_text c opening at.terms) (sym frames)
            ∙ sym (text_of c now.rings opening later at.terms (at.tail ++ bytes) account (steps ++ more)
            (at.behind ++ more) is are));
      };
    }
