-- More bytes change nothing of a connection that is over, or of a rover that was halted.
use Rattle.std.proofs.Common.{◌≡◌, ◌≢◌, ◌∙◌, ℕ, Bool, true, false, List, [], ◌∷◌, ◌++◌, reverse, refl, sym, ap, subst, inl, Option, None, Some}
use Rattle.mount_ring.specs.declared.call.RingAnswer.TheVariants as answers
use Rattle.caster_accounts.specs.declared.call.BookAnswer.TheVariants as books
use Rattle.rover_cursor.specs.declared.fault.SegFault.{SegFault}
use Rattle.rover_cursor.specs.declared.fault.SegFault.TheVariants as seg_faults
use Rattle.gga_read.specs.declared.Position.{Position}
use Rattle.session_calls.specs.Steps.{Answer, of_ring, of_book, Step, answer_of}
use Rattle.session_calls.specs.Plans.{Plan, IsMade, Begins}
use Rattle.session_calls.proofs.PlanLemmas.{begun_longer}
use Rattle.source_session.specs.Body.{frames_of}
use Rattle.upstream_relay.specs.Owed.{after_claim}
use Rattle.rover_session.specs.declared.session.RoverSession.{RoverSession}
use Rattle.rover_session.specs.Owed.{rover_plan}
use Rattle.rover_session.specs.Made.{segments_after, owed_among, IsMadeUntil}
use Rattle.rover_session.specs.Standing.{Rover as RoverValue}
use Rattle.rover_session.specs.Standing as rover_standing
use Rattle.rover_session.proofs.FollowLemmas.{rover_begins}
use Rattle.cast_config.specs.declared.config.Config.{Config}
use Rattle.session_model.specs.declared.ending.Ending.{Ending}
use Rattle.session_core.specs.declared.session.Session.{Session}
use Rattle.session_core.specs.declared.session_stage.SessionStage.{SessionStage}
use Rattle.session_core.specs.declared.session_stage.SessionStage.TheVariants.{Head, Over, Source, Relay, Rover}
use Rattle.session_model.specs.Judged.{Opening, SourceTerms, RoverTerms, Judged, waiting, finished, source, rover, judged}
use Rattle.session_model.specs.Owed.{Came, source_came, rover_came, came_by, first_answer, came_to, is_let_in, if_entered, terms_of, plan_of}
use Rattle.session_model.specs.Endings.{ended_by}
use Rattle.session_model.specs.Replies.{sent_by}
use Rattle.session_model.specs.Run.{Histories}
use Rattle.session_core.specs.Beginnings.{ended_joining}
use Rattle.session_core.specs.Standing.{IsMadeBy, IsSentBy, EndsAs, IsFree, IsOver, IsRover, IsAtStage, Stands, is_halted, is_halted_uncalled}
use Rattle.session_core.specs.Begun.{StartsAs}
use Rattle.session_model.proofs.GrowLemmas.{plan_grows}
use Rattle.session_model.proofs.CameLemmas.{rover_same}
use Rattle.session_model.proofs.MoreLemmas.{with_more, judged_more, heading_goes}

-- ---- what does not hang on the bytes behind a head

source_free : (terms : SourceTerms) (body other : List ℕ) (answer : Answer) → IsFree (source_came terms body answer)
    → source_came terms other answer ≡ source_came terms body answer
source_free terms body other (of_ring (answers.Given claim)) free = absurd free
source_free terms body other (of_ring (answers.Taken caller claim)) free = refl
source_free terms body other (of_ring answers.Released) free = refl
source_free terms body other (of_ring (answers.At place)) free = refl
source_free terms body other (of_ring (answers.Joined cursor)) free = refl
source_free terms body other (of_ring (answers.Looked live)) free = refl
source_free terms body other (of_ring (answers.Read report)) free = refl
source_free terms body other (of_book answer) free = refl

free_more : (j : Judged) (rest : List ℕ) (first : Option Answer) → IsFree (came_by j first)
    → came_by (with_more j rest) first ≡ came_by j first
free_more waiting rest first free = refl
free_more (finished reply end) rest first free = refl
free_more (source terms body) rest None free = refl
free_more (source terms body) rest (Some answer) free = source_free terms body (body ++ rest) answer free
free_more (rover terms tail) rest first free = rover_same terms tail (tail ++ rest) first

known_more : (j : Judged) (rest : List ℕ) → j ≢ waiting → with_more j rest ≢ waiting
known_more waiting rest known is = known refl
known_more (finished reply end) rest known is = cc
known_more (source terms body) rest known is = cc
known_more (rover terms tail) rest known is = cc

-- ---- what is owed

unclaimed_after : (terms : SourceTerms) (body : List ℕ) (frames more : List (List ℕ)) (answer : Answer)
    (steps : List Step) → IsFree (source_came terms body answer)
    → IsMade (after_claim terms.mount frames answer) steps → IsMade (after_claim terms.mount more answer) steps
unclaimed_after terms body frames more (of_ring (answers.Given claim)) steps free made = absurd free
unclaimed_after terms body frames more (of_ring (answers.Taken caller claim)) steps free made = made
unclaimed_after terms body frames more (of_ring answers.Released) steps free made = made
unclaimed_after terms body frames more (of_ring (answers.At place)) steps free made = made
unclaimed_after terms body frames more (of_ring (answers.Joined cursor)) steps free made = made
unclaimed_after terms body frames more (of_ring (answers.Looked live)) steps free made = made
unclaimed_after terms body frames more (of_ring (answers.Read report)) steps free made = made
unclaimed_after terms body frames more (of_book answer) steps free made = made

unentered_after : (terms : RoverTerms) (answer : Answer) (plan later : Plan) (steps : List Step)
    → IsFree (rover_came terms answer)
    → IsMade (if_entered (is_let_in answer) plan) steps → IsMade (if_entered (is_let_in answer) later) steps
unentered_after terms (of_ring answer) plan later steps free made = made
unentered_after terms (of_book books.Entered) plan later steps free made = absurd free
unentered_after terms (of_book (books.Full busy cap)) plan later steps free made = made
unentered_after terms (of_book books.Left) plan later steps free made = made

made_over : (c : Config) (j : Judged) (rest : List ℕ) (steps : List Step) → IsFree (came_to j steps)
    → IsMade (plan_of c j) steps → IsMade (plan_of c (with_more j rest)) steps
made_over c waiting rest steps free made = made
made_over c (finished reply end) rest steps free made = made
made_over c (source terms body) rest [] free made = absurd made
made_over c (source terms body) rest (step ∷ steps) free made = (
  made.0,
  unclaimed_after terms body (frames_of terms.chunked body) (frames_of terms.chunked (body ++ rest)) (answer_of step)
      steps free made.1,
)
made_over c (rover terms tail) rest [] free made = absurd made
made_over c (rover terms tail) rest (step ∷ steps) free made = (
  made.0,
  unentered_after terms (answer_of step) (rover_plan (terms_of c terms.admission) terms.first tail)
      (rover_plan (terms_of c terms.admission) terms.first (tail ++ rest)) steps free made.1,
)

owes_over : (c : Config) (halted : Bool) (j : Judged) (rest : List ℕ) (steps : List Step) → IsFree (came_to j steps)
    → Begins (plan_of c j) (plan_of c (with_more j rest)) → IsMadeBy halted (plan_of c j) steps
    → IsMadeBy halted (plan_of c (with_more j rest)) steps
owes_over c false j rest steps free grows made = made_over c j rest steps free made
owes_over c true j rest steps free grows begun =
    begun_longer (plan_of c j) (plan_of c (with_more j rest)) steps grows begun

-- ---- a connection of which nothing is left to be closed

over_more : (c : Config) (session : Session) (opening : Opening) (text rest : List ℕ) (steps : List Step)
    (h : Histories)
    (sent : List ℕ) → session.stage ≡ Over → Stands c session opening text steps h sent
    → Stands c session opening (text ++ rest) steps h sent
over_more c session opening text rest steps h sent is s =
    let j : Judged = judged c opening s.heading text in
    let at : IsOver j steps = subst (IsAtStage c session.me h opening j text steps) is s.stage in
    let more : judged c opening s.heading (text ++ rest) ≡ with_more j rest =
    judged_more c opening s.heading text rest at.known in
    let same : came_to (with_more j rest) steps ≡ came_to j steps = free_more j rest (first_answer steps) at.free in
    let still : came_to j steps ≡ came_to (judged c opening s.heading (text ++ rest)) steps =
    sym (ap (λ (x : Judged). came_to x steps) more ∙ same) in
    let halted : Bool = is_halted session.ended in
    let cut : Bool = is_halted_uncalled session.ended steps in
    let grows : Begins (plan_of c j) (plan_of c (with_more j rest)) =
    subst (λ (x : Judged). Begins (plan_of c j) (plan_of c x)) more (plan_grows c opening s.heading text rest) in
    record {
      heading = s.heading;
      is_heading = heading_goes c opening s.heading text rest at.known s.is_heading;
      owes = subst (λ (l : List Step). IsMadeBy halted (plan_of c (judged c opening s.heading (text ++ rest))) l)
          (sym at.no_read)
          (subst (λ (x : Judged). IsMadeBy halted (plan_of c x) steps) (sym more)
          (owes_over c halted j rest steps at.free grows
          (subst (λ (l : List Step). IsMadeBy halted (plan_of c j) l) at.no_read s.owes)));
      ends = subst (λ (x : Came). EndsAs session.ended (ended_by x)) still s.ends;
      stage = subst (λ (x : Judged). IsAtStage c session.me h opening x (text ++ rest) steps session.stage) (sym more)
          (subst (IsAtStage c session.me h opening (with_more j rest) (text ++ rest) steps) (sym is) (record {
            known = known_more j rest at.known;
            free = subst IsFree (sym same) at.free;
            segments = at.segments;
            no_read = at.no_read;
          }));
      halts = s.halts;
      sent_is = subst (λ (x : Came). IsSentBy cut sent (sent_by c h.rings opening x
          (reverse (segments_after [] steps)))) still s.sent_is;
    }

-- ---- a rover that was halted as it joined

joined_halted : (halt : Option SegFault) (ended : Option Ending) (end : Ending) → ended ≡ ended_joining halt
    → ended ≡ Some end → (fault : SegFault) × (halt ≡ Some fault) × (is_halted ended ≡ true)
joined_halted None ended end is some = let clash : Some end ≡ None = sym some ∙ is in absurd cc
joined_halted (Some seg_faults.Memory) ended end is some = (seg_faults.Memory, refl, ap is_halted is)
joined_halted (Some (seg_faults.Worn turns)) ended end is some = (seg_faults.Worn turns, refl, ap is_halted is)

halted_stands : (held : RoverValue) (fault : SegFault) (first : Option Position) (before bytes : List ℕ)
    (steps : List Step) → held.halt ≡ Some fault → rover_standing.Stands held first before steps
    → rover_standing.Stands held first (before ++ bytes) steps
halted_stands held fault first before bytes steps halted stands =
    let plan : Plan = rover_plan held.terms first before in
    let later : Plan = rover_plan held.terms first (before ++ bytes) in
    record {
      line = λ none. let clash : Some fault ≡ None = sym halted ∙ none in absurd cc;
      owed = subst (λ (e : Option SegFault). IsMadeUntil e later (owed_among steps)) (sym halted)
          (begun_longer plan later (owed_among steps) (rover_begins held.terms first before bytes)
          (subst (λ (e : Option SegFault). IsMadeUntil e plan (owed_among steps)) halted stands.owed));
      base = stands.base;
      segments = stands.segments;
      mounts = stands.mounts;
    }

rover_known : (j : Judged) (terms : RoverTerms) (tail : List ℕ) → j ≡ rover terms tail → j ≢ waiting
rover_known j terms tail is waits = cc

rover_more : (c : Config) (session : Session) (opening : Opening) (text rest : List ℕ) (steps : List Step)
    (h : Histories) (sent : List ℕ) (end : Ending) (account : ℕ) (inner : RoverSession)
    → session.stage ≡ Rover account inner → session.ended ≡ Some end
    → session.ended ≡ ended_joining inner.halt → Stands c session opening text steps h sent
    → Stands c session opening (text ++ rest) steps h sent
rover_more c session opening text rest steps h sent end account inner is ended joined s =
    let j : Judged = judged c opening s.heading text in
    let at : IsRover c session.me h j steps account inner =
    subst (IsAtStage c session.me h opening j text steps) is s.stage in
    let cut : Bool = is_halted_uncalled session.ended steps in
    let known : j ≢ waiting = rover_known j at.terms at.tail at.judged_is in
    let later : Judged = judged c opening s.heading (text ++ rest) in
    let more : later ≡ with_more j rest = judged_more c opening s.heading text rest known in
    let is_later : later ≡ rover at.terms (at.tail ++ rest) =
    more ∙ ap (λ (x : Judged). with_more x rest) at.judged_is in
    let still : came_to j steps ≡ came_to later steps =
    sym (ap (λ (x : Judged). came_to x steps) is_later
    ∙ rover_same at.terms at.tail (at.tail ++ rest) (first_answer steps)
    ∙ ap (λ (x : Judged). came_to x steps) (sym at.judged_is)) in
    let fault = joined_halted inner.halt session.ended end joined ended in
    record {
      heading = s.heading;
      is_heading = heading_goes c opening s.heading text rest known s.is_heading;
      owes = subst (λ (b : Bool). IsMadeBy b (plan_of c later) (owed_among steps)) (sym fault.2)
          (begun_longer (plan_of c j) (plan_of c later) (owed_among steps) (plan_grows c opening s.heading text rest)
          (subst (λ (b : Bool). IsMadeBy b (plan_of c j) (owed_among steps)) fault.2 s.owes));
      ends = inl fault.2;
      stage = subst (IsAtStage c session.me h opening later (text ++ rest) steps) (sym is) (record {
        terms = at.terms;
        tail = at.tail ++ rest;
        behind = at.behind;
        judged_is = is_later;
        account_is = at.account_is;
        steps_are = at.steps_are;
        caller = at.caller;
        admitted = at.admitted;
        version = at.version;
        stands = halted_stands inner fault.0 at.terms.first at.tail rest at.behind fault.1 at.stands;
        resumes = at.resumes;
        inside = at.inside;
      });
      halts = s.halts;
      sent_is = subst (λ (x : Came). IsSentBy cut sent (sent_by c h.rings opening x
          (reverse (segments_after [] steps)))) still s.sent_is;
    }

-- ---- one that ended as it began

ended_not : (ended : Option Ending) (end : Ending) → ended ≡ None → ended ≡ Some end → ⊥
ended_not ended end none some = let clash : Some end ≡ None = sym some ∙ none in cc

pub ended_more : (c : Config) (session : Session) (opening : Opening) (text rest : List ℕ) (steps : List Step)
    (h : Histories) (sent : List ℕ) (end : Ending) → session.ended ≡ Some end
    → StartsAs session.stage session.ended → Stands c session opening text steps h sent
    → Stands c session opening (text ++ rest) steps h sent
ended_more c session opening text rest steps h sent end ended starts s = by session.stage refl starts where
  by : (stage : SessionStage) → session.stage ≡ stage → StartsAs stage session.ended
      → Stands c session opening (text ++ rest) steps h sent
  by (Head head) is starts = absurd (ended_not session.ended end starts ended)
  by Over is starts = over_more c session opening text rest steps h sent is s
  by (Source mount inner) is starts = absurd (ended_not session.ended end starts ended)
  by (Relay mount inner) is starts = absurd (ended_not session.ended end starts ended)
  by (Rover account inner) is starts =
      rover_more c session opening text rest steps h sent end account inner is ended starts s
