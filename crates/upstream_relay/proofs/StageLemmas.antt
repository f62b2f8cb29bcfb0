-- Where a relay stands after more bytes.
use Rattle.std.proofs.Common.{◌≡◌, ◌≢◌, ◌≤◌, ℕ, Bool, true, false, List, [], ◌∷◌, ◌++◌, drop, length, refl, sym, ap, subst, ◌∙◌, inl, inr, arith, Option, None, Some}
use Rattle.std.specs.Prelude.{IfSome}
use Rattle.std.proofs.lemmas.Bool.{cases_Bool}
use Rattle.std.proofs.lemmas.List.{drop-append-le, append-nil, drop_all}
use Rattle.turn_log.specs.History.{History}
use Rattle.turn_log.specs.Heard.{Heard, HeardFirst}
use Rattle.turn_log.proofs.HeardLaws.{heard_none, heard_both}
use Rattle.mount_ring.specs.declared.RingCall.{RingCall}
use Rattle.mount_ring.specs.declared.RingCall.TheVariants.{Claim}
use Rattle.mount_ring.specs.declared.RingAnswer.{RingAnswer}
use Rattle.mount_ring.specs.declared.RingAnswer.TheVariants as answers
use Rattle.session_calls.specs.Steps.{Step, at_ring, on_ring}
use Rattle.session_calls.specs.Plans.{IsMade, IsBegun}
use Rattle.source_session.specs.declared.fault.ClaimFault.{ClaimFault}
use Rattle.source_session.specs.declared.fault.ClaimFault.TheVariants as claims
use Rattle.source_session.specs.declared.fault.SourceHalt.{SourceHalt}
use Rattle.source_session.specs.declared.fault.SourceHalt.TheVariants as sources
use Rattle.source_session.specs.declared.session.SourceSession.{SourceSession}
use Rattle.source_session.specs.Body.{frames_of, completed}
use Rattle.source_session.specs.Calls.{publishes, HeardAll, HeardBy, IsUnclaimed}
use Rattle.source_session.specs.Standing.{is_chunked, is_cut_short}
use Rattle.source_session.specs.Standing as source
use Rattle.source_session.proofs.BodyLemmas.{completed_first, completed_none}
use Rattle.ntrip_client.specs.declared.Answer.{Answer}
use Rattle.ntrip_client.specs.declared.Answer.TheVariants.{Open, Accepted, Refused}
use Rattle.ntrip_client.specs.declared.answer.Refusal.{Refusal}
use Rattle.ntrip_client.specs.declared.answer.Refusal.TheVariants as refusals
use Rattle.ntrip_client.specs.Answer.{IsAnswer}
use Rattle.ntrip_client.proofs.OnceLemmas.{answer_stays, one_answer}
use Rattle.upstream_relay.specs.declared.fault.RelayHalt.{RelayHalt}
use Rattle.upstream_relay.specs.declared.fault.RelayHalt.TheVariants.{BadHead, LongHead, Coding, Table, Status, Taken, Done, BadChunk, Worn, Memory}
use Rattle.upstream_relay.specs.declared.body.RelayStage.{RelayStage}
use Rattle.upstream_relay.specs.declared.body.RelayStage.TheVariants.{Head, Body, Halted}
use Rattle.upstream_relay.specs.Halts.{halt_of_refusal, halt_of_claim, is_refused_turn}
use Rattle.upstream_relay.specs.Owed.{publishing, owed, IsDone}
use Rattle.upstream_relay.specs.Standing.{IsAccepted, IsClaimed, IsHaltedBy, HasBody, StandsAt}
use Rattle.upstream_relay.specs.Called.{Adds}
use Rattle.upstream_relay.proofs.StepLemmas.{steps_of, on_ring_of, one_on_ring, pairs_made, pairs_begun}
use Rattle.upstream_relay.proofs.OwedLemmas.{claim_made, body_on, halted_body_on}

-- ---- an answer that is there

accepted_said : (answer : Answer) (at : ℕ) (chunked : Bool) → answer ≡ Accepted at chunked → answer ≢ Open
accepted_said answer at chunked is open_ = absurd cc

accepted_not_open : (answer : Answer) → IsAccepted answer → answer ≢ Open
accepted_not_open answer accepted open_ = absurd (subst IsAccepted open_ accepted)

refused_said : (answer : Answer) (why : Refusal) → answer ≡ Refused why → answer ≢ Open
refused_said answer why is open_ = absurd cc

halted_said : (mount : ℕ) (answer : Answer) (steps : List Step) (halt : RelayHalt)
    → IsHaltedBy mount answer steps halt → answer ≢ Open
halted_said mount answer steps BadHead x = refused_said answer refusals.BadHead x
halted_said mount answer steps LongHead x = refused_said answer refusals.LongHead x
halted_said mount answer steps Coding x = refused_said answer refusals.Coding x
halted_said mount answer steps Table x = refused_said answer refusals.Table x
halted_said mount answer steps (Status status) x = refused_said answer (refusals.Status status) x
halted_said mount answer steps (Taken caller claim) x = accepted_not_open answer x.0
halted_said mount answer steps Done x = absurd x
halted_said mount answer steps (BadChunk place) x = absurd x
halted_said mount answer steps (Worn turns) x = accepted_not_open answer x.0
halted_said mount answer steps Memory x = accepted_not_open answer x.0

-- ---- before a body

-- a refused answer owes nothing
refused_made : (mount : ℕ) (answer : Answer) (before more : List ℕ) (steps : List Step) (why : Refusal)
    → answer ≡ Refused why → IsMade (owed mount answer before) steps → IsMade (owed mount answer more) steps
refused_made mount answer before more steps why is made =
    subst (λ (a : Answer). IsMade (owed mount a more) steps) (sym is)
    (subst (λ (a : Answer). IsMade (owed mount a before) steps) is made)

-- nor one whose mountpoint is held any more than Claim
taken_made : (mount caller claim : ℕ) (answer : Answer) (bytes : List ℕ) (steps : List Step) → IsAccepted answer
    → steps ≡ at_ring mount Claim (answers.Taken caller claim) ∷ [] → IsMade (owed mount answer bytes) steps
taken_made mount caller claim Open bytes steps accepted is = absurd accepted
taken_made mount caller claim (Accepted at chunked) bytes steps accepted is =
    subst (λ (l : List Step). IsMade (owed mount (Accepted at chunked) bytes) l) (sym is) (refl, refl)
taken_made mount caller claim (Refused why) bytes steps accepted is = absurd accepted

nothing_begun : (mount : ℕ) (answer : Answer) (bytes : List ℕ) (steps : List Step) → steps ≡ []
    → IsBegun (owed mount answer bytes) steps
nothing_begun mount answer bytes steps is =
    subst (λ (l : List Step). IsBegun (owed mount answer bytes) l) (sym is) tt

halted_made : (mount : ℕ) (answer : Answer) (before more : List ℕ) (steps : List Step) (halt : RelayHalt)
    → IsHaltedBy mount answer steps halt → IsDone (is_refused_turn halt) (owed mount answer before) steps
    → IsDone (is_refused_turn halt) (owed mount answer more) steps
halted_made mount answer before more steps BadHead x made =
    refused_made mount answer before more steps refusals.BadHead x made
halted_made mount answer before more steps LongHead x made =
    refused_made mount answer before more steps refusals.LongHead x made
halted_made mount answer before more steps Coding x made =
    refused_made mount answer before more steps refusals.Coding x made
halted_made mount answer before more steps Table x made =
    refused_made mount answer before more steps refusals.Table x made
halted_made mount answer before more steps (Status status) x made =
    refused_made mount answer before more steps (refusals.Status status) x made
halted_made mount answer before more steps (Taken caller claim) x made =
    taken_made mount caller claim answer more steps x.0 x.1
halted_made mount answer before more steps Done x made = absurd x
halted_made mount answer before more steps (BadChunk place) x made = absurd x
halted_made mount answer before more steps (Worn turns) x made = nothing_begun mount answer more steps x.1
halted_made mount answer before more steps Memory x made = nothing_begun mount answer more steps x.1

pub halted_stays : (mount me : ℕ) (halt : RelayHalt) (before more : List ℕ) (steps : List Step)
    → StandsAt mount me (Halted halt) before steps → StandsAt mount me (Halted halt) (before ++ more) (steps ++ [])
halted_stays mount me halt before more steps x =
    subst (StandsAt mount me (Halted halt) (before ++ more)) (sym (append-nil steps)) (record {
      answer = x.answer;
      says = answer_stays before more x.answer (halted_said mount x.answer steps halt x.at_stage) x.says;
      made = halted_made mount x.answer before (before ++ more) steps halt x.at_stage x.made;
      at_stage = x.at_stage;
    })

-- an answer without a body
pub refused_stands : (mount me : ℕ) (why : Refusal) (bytes : List ℕ) → IsAnswer bytes (Refused why)
    → StandsAt mount me (Halted (halt_of_refusal why)) bytes []
refused_stands mount me refusals.BadHead bytes says =
    record { answer = Refused refusals.BadHead; says = says; made = refl; at_stage = refl }
refused_stands mount me refusals.LongHead bytes says =
    record { answer = Refused refusals.LongHead; says = says; made = refl; at_stage = refl }
refused_stands mount me refusals.Coding bytes says =
    record { answer = Refused refusals.Coding; says = says; made = refl; at_stage = refl }
refused_stands mount me refusals.Table bytes says =
    record { answer = Refused refusals.Table; says = says; made = refl; at_stage = refl }
refused_stands mount me (refusals.Status status) bytes says =
    record { answer = Refused (refusals.Status status); says = says; made = refl; at_stage = refl }

-- where more bytes came behind it
pub refused_on : (mount me : ℕ) (why : Refusal) (halt : RelayHalt) (front rest bytes : List ℕ)
    → halt ≡ halt_of_refusal why → front ++ rest ≡ bytes → IsAnswer front (Refused why)
    → StandsAt mount me (Halted halt) bytes []
refused_on mount me why halt front rest bytes is all says =
    subst (λ (h : RelayHalt). StandsAt mount me (Halted h) bytes []) (sym is)
    (subst (λ (l : List ℕ). StandsAt mount me (Halted (halt_of_refusal why)) l []) all
    (refused_stands mount me why (front ++ rest)
    (answer_stays front rest (Refused why) (refused_said (Refused why) why refl) says)))

-- a head that goes on, of which these bytes came
pub open_stands : (mount me : ℕ) (head : List ℕ) (cutter : _) (bytes : List ℕ) → head ≡ bytes → IsAnswer head Open
    → StandsAt mount me (Head head cutter) bytes []
open_stands mount me head cutter bytes is says =
    record { answer = Open; says = subst (λ (l : List ℕ). IsAnswer l Open) is says; made = refl; at_stage = (is, refl) }

-- before the head ended nothing was called
pub open_steps : (mount me : ℕ) (head : List ℕ) (cutter : _) (before : List ℕ) (steps : List Step)
    → StandsAt mount me (Head head cutter) before steps → steps ≡ []
open_steps mount me head cutter before steps x =
    subst (λ (a : Answer). IsMade (owed mount a before) steps) x.at_stage.1 x.made

-- ---- a body

claimed_more : (mount claim : ℕ) (steps later : List Step) → IsClaimed mount claim steps
    → IsClaimed mount claim (steps ++ later)
claimed_more mount claim [] later x = absurd x
claimed_more mount claim (step ∷ steps) later x = x

-- how many bytes the head has
within : (mount me : ℕ) (s : SourceSession) (answer : Answer) (bytes : List ℕ) (steps : List Step)
    → IsAnswer bytes answer → (x : HasBody mount me s answer bytes steps) → x.at ≤ length bytes
within mount me s answer bytes steps says x = (subst (IsAnswer bytes) x.accepted says).0

-- the same of the session's own caller
pub body_of : (mount me : ℕ) (s : SourceSession) (bytes : List ℕ) (steps : List Step)
    → StandsAt mount me (Body s) bytes steps → StandsAt mount s.me (Body s) bytes steps
body_of mount me s bytes steps x =
    subst (λ (m : ℕ). StandsAt mount m (Body s) bytes steps) (sym x.at_stage.caller) x

-- where the body begins, and how it comes, by what the answer says
pub body_said : (mount me : ℕ) (s : SourceSession) (bytes : List ℕ) (steps : List Step) (at : ℕ) (chunked : Bool)
    → StandsAt mount me (Body s) bytes steps → IsAnswer bytes (Accepted at chunked)
    → source.StandsFor s (drop at bytes) × (is_chunked s ≡ chunked)
body_said mount me s bytes steps at chunked x says =
    let body = x.at_stage in
    let same : Accepted body.at (is_chunked s) ≡ Accepted at chunked =
    sym body.accepted ∙ one_answer bytes x.answer (Accepted at chunked) x.says says in
    let place : body.at ≡ at = cc in
    (subst (λ (n : ℕ). source.StandsFor s (drop n bytes)) place body.stands, cc)

-- a source's session that was fed more of the body, by the calls that it made
pub body_grown : (mount me : ℕ) (refused : Bool) (s t : SourceSession) (before more : List ℕ) (steps later : List Step)
    → (x : StandsAt mount me (Body s) before steps) → is_cut_short s.halt ≡ false → is_cut_short t.halt ≡ refused
    → t.me ≡ s.me → t.claim ≡ s.claim → is_chunked t ≡ is_chunked s
    → source.StandsFor t (drop x.at_stage.at before ++ more)
    → IsDone refused (publishing mount s.claim (completed (is_chunked s) (drop x.at_stage.at before) more)) later
    → StandsAt mount me (Body t) (before ++ more) (steps ++ later)
body_grown mount me refused s t before more steps later x goes short same_me same_claim same_chunked stands follows =
    let body = x.at_stage in
    let some : body.at ≤ length before = within mount me s x.answer before steps x.says body in
    let made : IsMade (owed mount x.answer before) steps =
    subst (λ (r : Bool). IsDone r (owed mount x.answer before) steps) goes x.made in
    let all : IsDone refused (owed mount x.answer (before ++ more)) (steps ++ later) =
    subst (λ (a : Answer). IsDone refused (owed mount a (before ++ more)) (steps ++ later)) (sym body.accepted)
    (body_on refused mount s.claim body.at (is_chunked s) before more steps later some body.claimed
    (subst (λ (a : Answer). IsMade (owed mount a before) steps) body.accepted made) follows) in
    record {
      answer = x.answer;
      says = answer_stays before more x.answer (accepted_said x.answer body.at (is_chunked s) body.accepted) x.says;
      made = subst (λ (r : Bool). IsDone r (owed mount x.answer (before ++ more)) (steps ++ later)) (sym short) all;
      at_stage = record {
        at = body.at;
        accepted = body.accepted ∙ ap (λ (c : Bool). Accepted body.at c) (sym same_chunked);
        caller = same_me ∙ body.caller;
        stands = subst (source.StandsFor t) (sym (drop-append-le body.at before more some)) stands;
        claimed = subst (λ (k : ℕ). IsClaimed mount k (steps ++ later)) (sym same_claim)
            (claimed_more mount s.claim steps later body.claimed);
      };
    }

-- one that a refused turn had halted before
pub body_halted : (mount me : ℕ) (s : SourceSession) (before more : List ℕ) (steps : List Step)
    → (x : StandsAt mount me (Body s) before steps) → is_cut_short s.halt ≡ true
    → source.StandsFor s (drop x.at_stage.at before ++ more)
    → StandsAt mount me (Body s) (before ++ more) (steps ++ [])
body_halted mount me s before more steps x short stands =
    let body = x.at_stage in
    let some : body.at ≤ length before = within mount me s x.answer before steps x.says body in
    let begun : IsDone true (owed mount (Accepted body.at (is_chunked s)) before) steps =
    subst (λ (a : Answer). IsDone true (owed mount a before) steps) body.accepted
    (subst (λ (r : Bool). IsDone r (owed mount x.answer before) steps) short x.made) in
    let all : IsDone true (owed mount x.answer (before ++ more)) steps =
    subst (λ (a : Answer). IsDone true (owed mount a (before ++ more)) steps) (sym body.accepted)
    (halted_body_on true mount s.claim body.at (is_chunked s) before more steps some body.claimed begun
    (λ (no_ : true ≡ false). absurd cc)) in
    subst (StandsAt mount me (Body s) (before ++ more)) (sym (append-nil steps)) (record {
      answer = x.answer;
      says = answer_stays before more x.answer (accepted_said x.answer body.at (is_chunked s) body.accepted) x.says;
      made = subst (λ (r : Bool). IsDone r (owed mount x.answer (before ++ more)) steps) (sym short) all;
      at_stage = record {
        at = body.at;
        accepted = body.accepted;
        caller = body.caller;
        stands = subst (source.StandsFor s) (sym (drop-append-le body.at before more some)) stands;
        claimed = body.claimed;
      };
    })

-- a claim that was given just now
no_frames : (chunked : Bool) → frames_of chunked [] ≡ []
no_frames chunked = sym (completed_first chunked []) ∙ completed_none chunked [] [] refl

pub claim_stands : (mount me : ℕ) (chunked : Bool) (s : SourceSession) (head : List ℕ)
    → IsAnswer head (Accepted (length head) chunked) → source.IsUnfed s me chunked
    → StandsAt mount me (Body s) head (at_ring mount Claim (answers.Given s.claim) ∷ [])
claim_stands mount me chunked s head says begins =
    let nothing : drop (length head) head ≡ [] = drop_all (length head) head (omega arith) in
    let made : IsDone false (owed mount (Accepted (length head) chunked) head)
    (at_ring mount Claim (answers.Given s.claim) ∷ []) =
    claim_made mount s.claim chunked head (ap (frames_of chunked) nothing ∙ no_frames chunked) in
    record {
      answer = Accepted (length head) chunked;
      says = says;
      made = subst (λ (o : Option SourceHalt). IsDone (is_cut_short o)
          (owed mount (Accepted (length head) chunked) head)
          (at_ring mount Claim (answers.Given s.claim) ∷ [])) (sym begins.goes_on) made;
      at_stage = record {
        at = length head;
        accepted = ap (λ (c : Bool). Accepted (length head) c) (sym begins.coded);
        caller = begins.caller;
        stands = subst (source.StandsFor s) (sym nothing) begins.stands;
        claimed = refl;
      };
    }

-- ---- what is added to the history

module _ (alone : Bool) (said : History RingCall → ℕ → RingCall → RingAnswer) (me mount : ℕ) where
  pub adds_none : (h : History RingCall) (Holds : List Step → Type 0) → Holds []
      → Adds alone said h h me mount Holds
  adds_none h Holds holds = ([], heard_none alone said h me, holds)

  pub adds_pairs : (old now : History RingCall) (pairs : List (RingCall × RingAnswer)) (Holds : List Step → Type 0)
      → Heard alone said old now me pairs → Holds (steps_of mount pairs) → Adds alone said old now me mount Holds
  adds_pairs old now pairs Holds heard holds = (
    steps_of mount pairs,
    subst (λ (l : List (RingCall × RingAnswer)). Heard alone said old now me l) (sym (on_ring_of mount pairs)) heard,
    holds,
  )

  -- one call, and then others
  pub adds_behind : (old mid now : History RingCall) (call : RingCall) (answer : RingAnswer)
      (Holds : List Step → Type 0)
      → Heard alone said old mid me ((call, answer) ∷ [])
      → Adds alone said mid now me mount (λ steps. Holds (at_ring mount call answer ∷ steps))
      → Adds alone said old now me mount Holds
  adds_behind old mid now call answer Holds first later = (
    at_ring mount call answer ∷ later.0,
    subst (λ (l : List (RingCall × RingAnswer)). Heard alone said old now me l)
        (sym (ap (λ (l : List (RingCall × RingAnswer)). l ++ on_ring mount later.0) (one_on_ring mount call answer)))
        (heard_both alone said old mid now me ((call, answer) ∷ []) (on_ring mount later.0) first later.1),
    later.2,
  )

  -- the claim is not given
  pub adds_unclaimed : (fault : ClaimFault) (chunked : Bool) (head body : List ℕ) (old now : History RingCall)
      → IsAnswer head (Accepted (length head) chunked) → IsUnclaimed fault alone said old now me
      → Adds alone said old now me mount (StandsAt mount me (Halted (halt_of_claim fault)) (head ++ body))
  adds_unclaimed (claims.Taken caller claim) chunked head body old now says heard =
      adds_pairs old now ((Claim, answers.Taken caller claim) ∷ []) _ heard (record {
        answer = Accepted (length head) chunked;
        says = answer_stays head body (Accepted (length head) chunked)
            (accepted_said (Accepted (length head) chunked) (length head) chunked refl) says;
        made = (refl, refl);
        at_stage = (tt, refl);
      })
  adds_unclaimed (claims.Worn turns) chunked head body old now says same =
      subst (λ (h : History RingCall). Adds alone said old h me mount
      (StandsAt mount me (Halted (Worn turns)) (head ++ body))) (sym same)
      (adds_none old _ (record {
        answer = Accepted (length head) chunked;
        says = answer_stays head body (Accepted (length head) chunked)
            (accepted_said (Accepted (length head) chunked) (length head) chunked refl) says;
        made = tt;
        at_stage = (tt, refl);
      }))
  adds_unclaimed claims.Memory chunked head body old now says same =
      subst (λ (h : History RingCall). Adds alone said old h me mount
      (StandsAt mount me (Halted Memory) (head ++ body))) (sym same)
      (adds_none old _ (record {
        answer = Accepted (length head) chunked;
        says = answer_stays head body (Accepted (length head) chunked)
            (accepted_said (Accepted (length head) chunked) (length head) chunked refl) says;
        made = tt;
        at_stage = (tt, refl);
      }))

  pub adds_unclaimed_as : (fault : ClaimFault) (halt : RelayHalt) (chunked : Bool) (head body : List ℕ)
      (old now : History RingCall) → halt ≡ halt_of_claim fault
      → IsAnswer head (Accepted (length head) chunked) → IsUnclaimed fault alone said old now me
      → Adds alone said old now me mount (StandsAt mount me (Halted halt) (head ++ body))
  adds_unclaimed_as fault halt chunked head body old now is says heard =
      subst (λ (h : RelayHalt). Adds alone said old now me mount (StandsAt mount me (Halted h) (head ++ body))) (sym is)
      (adds_unclaimed fault chunked head body old now says heard)

  -- the same of equal things
  pub adds_again : (still : Bool) (says : History RingCall → ℕ → RingCall → RingAnswer) (other : ℕ)
      (old now : History RingCall) (Holds : ℕ → List Step → Type 0) → still ≡ alone → says ≡ said → other ≡ me
      → Adds still says old now other mount (Holds other) → Adds alone said old now me mount (Holds me)
  adds_again still says other old now Holds as_alone as_said as_me x =
      subst (λ (b : Bool). Adds b said old now me mount (Holds me)) as_alone
      (subst (λ (f : History RingCall → ℕ → RingCall → RingAnswer). Adds still f old now me mount (Holds me)) as_said
      (subst (λ (m : ℕ). Adds still says old now m mount (Holds m)) as_me x))

  -- where nothing was called before
  pub adds_first : (stage : RelayStage) (head before more : List ℕ) (steps : List Step) (old now : History RingCall)
      → head ≡ before → steps ≡ []
      → Adds alone said old now me mount (StandsAt mount me stage (head ++ more))
      → Adds alone said old now me mount (λ later. StandsAt mount me stage (before ++ more) (steps ++ later))
  adds_first stage head before more steps old now is none x =
      subst (λ (l : List Step). Adds alone said old now me mount
      (λ later. StandsAt mount me stage (before ++ more) (l ++ later))) (sym none)
      (subst (λ (l : List ℕ). Adds alone said old now me mount (StandsAt mount me stage (l ++ more))) is x)

  -- ---- a source's session is fed

  module _ (Same : Type 0) (s t : SourceSession) (before more : List ℕ) (steps : List Step)
      (old now : History RingCall) (still : Same → now ≡ old)
      (halted : IfSome s.halt (λ (halt : SourceHalt). (t ≡ s) × Same))
      (same_me : t.me ≡ s.me) (same_claim : t.claim ≡ s.claim) (same_chunked : is_chunked t ≡ is_chunked s)
      (stands : (body : List ℕ) → source.StandsFor s body → source.StandsFor t (body ++ more))
      (x : StandsAt mount me (Body s) before steps) where
    abbrev Fed : Type 0
    Fed = Adds alone said old now me mount (λ later. StandsAt mount me (Body t) (before ++ more) (steps ++ later))

    stands_now : source.StandsFor t (drop x.at_stage.at before ++ more)
    stands_now = stands (drop x.at_stage.at before) x.at_stage.stands

    -- a turn had been refused before
    was_halted : (halt : Option SourceHalt) → is_cut_short halt ≡ true
        → IfSome halt (λ (h : SourceHalt). (t ≡ s) × Same)
        → (t ≡ s) × Same
    was_halted None short same = absurd cc
    was_halted (Some sources.Done) short same = absurd cc
    was_halted (Some (sources.BadChunk place)) short same = absurd cc
    was_halted (Some (sources.Worn turns)) short same = same
    was_halted (Some sources.Memory) short same = same

    fed_short : is_cut_short s.halt ≡ true → Fed
    fed_short short =
        let same = was_halted s.halt short halted in
        subst (λ (h : History RingCall). Adds alone said old h me mount
        (λ later. StandsAt mount me (Body t) (before ++ more) (steps ++ later))) (sym (still same.1))
        (adds_none old _
        (subst (λ (z : SourceSession). StandsAt mount me (Body z) (before ++ more) (steps ++ [])) (sym same.0)
        (body_halted mount me s before more steps x short
        (subst (λ (z : SourceSession). source.StandsFor z (drop x.at_stage.at before ++ more)) same.0 stands_now))))

    fed_all : is_cut_short s.halt ≡ false → is_cut_short t.halt ≡ false
        → HeardAll alone said old now me (publishes s.claim (completed (is_chunked s) (drop x.at_stage.at before) more))
        → Fed
    fed_all goes short heard =
        adds_pairs old now heard.pairs _ heard.heard
        (body_grown mount me false s t before more steps (steps_of mount heard.pairs) x goes short same_me same_claim
        same_chunked stands_now
        (pairs_made mount s.claim (completed (is_chunked s) (drop x.at_stage.at before) more) heard.pairs heard.made))

    fed_first : is_cut_short s.halt ≡ false → is_cut_short t.halt ≡ true
        → HeardFirst alone said old now me (publishes s.claim (completed (is_chunked s) (drop x.at_stage.at before)
        more))
        → Fed
    fed_first goes short heard =
        adds_pairs old now heard.pairs _ heard.heard
        (body_grown mount me true s t before more steps (steps_of mount heard.pairs) x goes short same_me same_claim
        same_chunked stands_now
        (pairs_begun mount s.claim (completed (is_chunked s) (drop x.at_stage.at before) more) heard.pairs heard.unmade
        heard.split))

    fed_by : (halt : Option SourceHalt) → t.halt ≡ halt → is_cut_short s.halt ≡ false
        → HeardBy halt alone said old now me
        (publishes s.claim (completed (is_chunked s) (drop x.at_stage.at before) more))
        → Fed
    fed_by None is goes heard = fed_all goes (ap is_cut_short is) heard
    fed_by (Some sources.Done) is goes heard = fed_all goes (ap is_cut_short is) heard
    fed_by (Some (sources.BadChunk place)) is goes heard = fed_all goes (ap is_cut_short is) heard
    fed_by (Some (sources.Worn turns)) is goes heard = fed_first goes (ap is_cut_short is) heard
    fed_by (Some sources.Memory) is goes heard = fed_first goes (ap is_cut_short is) heard

    pub body_fed : (halt : Option SourceHalt) → t.halt ≡ halt → ((body : List ℕ) → source.StandsFor s body
        → HeardBy halt alone said old now me (publishes s.claim (completed (is_chunked s) body more))) → Fed
    body_fed halt is heard =
        elim (cases_Bool (is_cut_short s.halt)) [
          | inl short ↦ fed_short short
          | inr goes ↦ fed_by halt is goes (heard (drop x.at_stage.at before) x.at_stage.stands)
        ]
