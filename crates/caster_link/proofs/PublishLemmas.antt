-- A source publishes the frames of its body, and nothing else.
use Rattle.std.proofs.Common.{◌≡◌, ◌∙◌, ◌⊎◌, ◌++◌, ℕ, Bool, true, false, List, [], ◌∷◌, map, refl, sym, ap, subst, inl, inr, Option, Some, append_assoc}
use Rattle.std.specs.Prelude.{eqb, cond, get_or}
use Rattle.std.specs.List.{filter}
use Rattle.std.proofs.lemmas.Bool.{eq-eqb}
use Rattle.std.proofs.lemmas.List.Elements.{filter-append}
use Rattle.turn_log.specs.History.{History, own}
use Rattle.turn_log.specs.Heard.{told, calls_in}
use Rattle.turn_log.proofs.HistoryLaws.{own-append}
use Rattle.turn_log.proofs.HeardLaws.{calls_told}
use Rattle.mount_ring.specs.declared.call.RingCall.{RingCall}
use Rattle.mount_ring.specs.declared.call.RingCall.TheVariants as calls
use Rattle.mount_ring.specs.declared.call.RingAnswer.{RingAnswer}
use Rattle.mount_ring.specs.declared.call.RingAnswer.TheVariants as rings
use Rattle.rover_cursor.specs.declared.segment.Segment.{Segment}
use Rattle.session_calls.specs.Steps.{to_ring, Answer, of_ring, Step, at_ring, at_book, on_ring}
use Rattle.session_calls.specs.Plans.{done, asks, IsMade, IsBegun}
use Rattle.session_calls.specs.Rings.{history_at, answer_at}
use Rattle.source_session.specs.Body.{frames_of}
use Rattle.upstream_relay.specs.Owed.{publishing, after_claim}
use Rattle.rover_session.specs.Made.{owed_among, is_call_owed, segments_after}
use Rattle.cast_config.specs.declared.config.Config.{Config}
use Rattle.session_model.specs.declared.ending.Last.{Last}
use Rattle.session_model.specs.declared.report.Receipt.{Receipt}
use Rattle.session_model.specs.Judged.{Opening, Judged, SourceTerms, source}
use Rattle.session_model.specs.Owed.{holding, came_by, first_answer, came_to, source_plan, plan_of, closing_by}
use Rattle.session_model.proofs.CameLemmas.{holding_parts}
use Rattle.session_model.specs.Run.{Histories}
use Rattle.session_model.specs.Called.{Called}
use Rattle.session_model.specs.Setting.{shapes}
use Rattle.session_core.specs.Standing.{IsMadeBy, is_halted}
use Rattle.session_core.specs.Closed.{IsSettled}
use Rattle.cast_io.specs.declared.steps.Step.{Step as LinkTook}
use Rattle.session_model.specs.Courses.{steps_of}
use Rattle.caster_link.specs.Served.{LinkGoes}
use Rattle.caster_link.specs.Publishes.{AreDue, HasPublished}

-- the calls of these steps at one mountpoint
abbrev calls_at : ℕ → List Step → List RingCall
calls_at mount steps = calls_in (on_ring mount steps)

-- ---- reads set aside

reads_aside : (mount : ℕ) (steps : List Step)
    → filter is_call_owed (calls_at mount steps) ≡ calls_at mount (owed_among steps)
reads_aside mount [] = refl
reads_aside mount (at_ring asked calls.Claim answer ∷ steps) =
    elim (eqb asked mount) as (λ t. filter is_call_owed (calls_in (cond t ((calls.Claim, answer) ∷ []) [] ++ on_ring
    mount steps))
    ≡ calls_in (cond t ((calls.Claim, answer) ∷ []) [] ++ on_ring mount (owed_among steps))) [
      | true ↦ ap (λ l. calls.Claim ∷ l) (reads_aside mount steps)
      | false ↦ reads_aside mount steps
    ]
reads_aside mount (at_ring asked (calls.Release claim) answer ∷ steps) =
    elim (eqb asked mount) as (λ t. filter is_call_owed (calls_in (cond t ((calls.Release claim, answer) ∷ []) [] ++
    on_ring mount steps))
    ≡ calls_in (cond t ((calls.Release claim, answer) ∷ []) [] ++ on_ring mount (owed_among steps))) [
      | true ↦ ap (λ l. calls.Release claim ∷ l) (reads_aside mount steps)
      | false ↦ reads_aside mount steps
    ]
reads_aside mount (at_ring asked (calls.Publish claim frame) answer ∷ steps) =
    elim (eqb asked mount) as (λ t. filter is_call_owed (calls_in (cond t ((calls.Publish claim frame, answer) ∷ []) []
    ++ on_ring mount steps))
    ≡ calls_in (cond t ((calls.Publish claim frame, answer) ∷ []) [] ++ on_ring mount (owed_among steps))) [
      | true ↦ ap (λ l. calls.Publish claim frame ∷ l) (reads_aside mount steps)
      | false ↦ reads_aside mount steps
    ]
reads_aside mount (at_ring asked (calls.Join number) answer ∷ steps) =
    elim (eqb asked mount) as (λ t. filter is_call_owed (calls_in (cond t ((calls.Join number, answer) ∷ []) [] ++
    on_ring mount steps))
    ≡ calls_in (cond t ((calls.Join number, answer) ∷ []) [] ++ on_ring mount (owed_among steps))) [
      | true ↦ ap (λ l. calls.Join number ∷ l) (reads_aside mount steps)
      | false ↦ reads_aside mount steps
    ]
reads_aside mount (at_ring asked calls.Look answer ∷ steps) =
    elim (eqb asked mount) as (λ t. filter is_call_owed (calls_in (cond t ((calls.Look, answer) ∷ []) [] ++ on_ring
    mount steps))
    ≡ calls_in (cond t ((calls.Look, answer) ∷ []) [] ++ on_ring mount (owed_among steps))) [
      | true ↦ ap (λ l. calls.Look ∷ l) (reads_aside mount steps)
      | false ↦ reads_aside mount steps
    ]
reads_aside mount (at_ring asked (calls.Read cursor budget) answer ∷ steps) =
    elim (eqb asked mount) as (λ t. filter is_call_owed (calls_in (cond t ((calls.Read cursor budget, answer) ∷ []) []
    ++ on_ring mount steps))
    ≡ calls_at mount (owed_among steps)) [
      | true ↦ reads_aside mount steps
      | false ↦ reads_aside mount steps
    ]
reads_aside mount (at_book call answer ∷ steps) = reads_aside mount steps

-- ---- a plan of publishing

-- a step that was made for such a call is that call
one_call : (mount asked : ℕ) (call wanted : RingCall) (answer : RingAnswer) (steps : List Step)
    → to_ring asked call ≡ to_ring mount wanted
    → calls_at mount (at_ring asked call answer ∷ steps) ≡ wanted ∷ calls_at mount steps
one_call mount asked call wanted answer steps is =
    let there : asked ≡ mount = cc in
    let same : call ≡ wanted = cc in
    ap (λ (t : Bool). calls_in (cond t ((call, answer) ∷ []) [] ++ on_ring mount steps)) (eq-eqb asked mount there)
    ∙ ap (λ (x : RingCall). x ∷ calls_at mount steps) same

made_frames : (mount claim : ℕ) (frames : List (List ℕ)) (steps : List Step)
    → IsMade (publishing mount claim frames) steps → calls_at mount steps ≡ map (calls.Publish claim) frames
made_frames mount claim [] steps made = ap (calls_at mount) made
made_frames mount claim (frame ∷ frames) [] made = absurd made
made_frames mount claim (frame ∷ frames) (at_ring asked call answer ∷ steps) made =
    one_call mount asked call (calls.Publish claim frame) answer steps made.0
    ∙ ap (λ l. calls.Publish claim frame ∷ l) (made_frames mount claim frames steps made.1)
made_frames mount claim (frame ∷ frames) (at_book call answer ∷ steps) made = let clash = made.0 in absurd cc

begun_frames : (mount claim : ℕ) (frames : List (List ℕ)) (steps : List Step)
    → IsBegun (publishing mount claim frames) steps
    → (first : List (List ℕ)) × (rest : List (List ℕ)) × (frames ≡ first ++ rest)
    × (calls_at mount steps ≡ map (calls.Publish claim) first)
begun_frames mount claim frames [] begun = ([], frames, refl, refl)
begun_frames mount claim [] (step ∷ steps) begun = absurd begun
begun_frames mount claim (frame ∷ frames) (at_ring asked call answer ∷ steps) begun =
    let more = begun_frames mount claim frames steps begun.1 in (
      frame ∷ more.0,
      more.1,
      ap (λ l. frame ∷ l) more.2,
      one_call mount asked call (calls.Publish claim frame) answer steps begun.0
          ∙ ap (λ l. calls.Publish claim frame ∷ l) more.3,
    )
begun_frames mount claim (frame ∷ frames) (at_book call answer ∷ steps) begun =
    let clash = begun.0 in absurd cc

-- ---- a source that was given its claim

-- these frames were published under it
abbrev Published : Bool → ℕ → ℕ → List (List ℕ) → List Step → Type 0
Published halted mount claim due owed =
    (frames : List (List ℕ)) × AreDue halted frames due
    × (calls_at mount owed ≡ calls.Claim ∷ map (calls.Publish claim) frames)

given_is : (answer : RingAnswer) (claim : ℕ) → Some (of_ring answer) ≡ Some (of_ring (rings.Given claim))
    → answer ≡ rings.Given claim
given_is answer claim is = cc

source_made : (halted : Bool) (terms : SourceTerms) (body : List ℕ) (owed : List Step) (claim : ℕ)
    → first_answer owed ≡ Some (of_ring (rings.Given claim)) → IsMadeBy halted (source_plan terms body) owed
    → Published halted terms.mount claim (frames_of terms.chunked body) owed
source_made halted terms body [] claim is made = absurd cc
source_made false terms body (at_ring asked call answer ∷ owed) claim is made =
    let frames : List (List ℕ) = frames_of terms.chunked body in
    let rest : IsMade (publishing terms.mount claim frames) owed =
    subst (λ (a : RingAnswer). IsMade (after_claim terms.mount frames (of_ring a)) owed) (given_is answer claim is)
    made.1 in (
      frames,
      refl,
      one_call terms.mount asked call calls.Claim answer owed made.0
          ∙ ap (λ l. calls.Claim ∷ l) (made_frames terms.mount claim frames owed rest),
    )
source_made true terms body (at_ring asked call answer ∷ owed) claim is begun =
    let frames : List (List ℕ) = frames_of terms.chunked body in
    let rest : IsBegun (publishing terms.mount claim frames) owed =
    subst (λ (a : RingAnswer). IsBegun (after_claim terms.mount frames (of_ring a)) owed) (given_is answer claim is)
    begun.1 in
    let first = begun_frames terms.mount claim frames owed rest in (
      first.0,
      (first.1, first.2),
      one_call terms.mount asked call calls.Claim answer owed begun.0 ∙ ap (λ l. calls.Claim ∷ l) first.3,
    )
source_made false terms body (at_book call answer ∷ owed) claim is made = let clash = made.0 in absurd cc
source_made true terms body (at_book call answer ∷ owed) claim is begun = let clash = begun.0 in absurd cc

-- ---- the first call is no read

by_first : {C A : Type 0} (answer : History C → ℕ → C → A) (me : ℕ) (before : History C) (e : ℕ × C)
    (rest : List (C × A)) (call : C) (reply : A) (pairs : List (C × A))
    → (rest ≡ (call, reply) ∷ pairs → (h : History C) × (reply ≡ answer h me call))
    → (b : Bool) → cond b ((e.1, answer before me e.1) ∷ rest) rest ≡ (call, reply) ∷ pairs
    → (h : History C) × (reply ≡ answer h me call)
by_first {C} {A} answer me before e rest call reply pairs later true is =
    let same : e.1 ≡ call = ap (λ (l : List (C × A)). (get_or l 0 (call, reply)).0) is in
    let told_is : answer before me e.1 ≡ reply = ap (λ (l : List (C × A)). (get_or l 0 (call, reply)).1) is in
    (before, sym told_is ∙ ap (answer before me) same)
by_first answer me before e rest call reply pairs later false is = later is

-- what a caller was told first is the answer at some point
head_answer : {C A : Type 0} (answer : History C → ℕ → C → A) (me : ℕ) (before more : History C) (call : C) (reply : A)
    (pairs : List (C × A)) → told answer me before more ≡ (call, reply) ∷ pairs
    → (h : History C) × (reply ≡ answer h me call)
head_answer answer me before [] call reply pairs is = absurd cc
head_answer {C} {A} answer me before (e ∷ more) call reply pairs is =
    let later : told answer me (before ++ e ∷ []) more ≡ (call, reply) ∷ pairs
    → (h : History C) × (reply ≡ answer h me call) =
    λ also. head_answer answer me (before ++ e ∷ []) more call reply pairs also in
    by_first answer me before e (told answer me (before ++ e ∷ []) more) call reply pairs later (eqb e.0 me) is

pub claim_owed : (c : Config) (old now : Histories) (me claim : ℕ) (steps : List Step)
    → Called c false old now me steps → first_answer steps ≡ Some (of_ring (rings.Given claim))
    → first_answer (owed_among steps) ≡ Some (of_ring (rings.Given claim))
claim_owed c old now me claim [] called is = is
claim_owed c old now me claim (at_ring asked calls.Claim answer ∷ steps) called is = is
claim_owed c old now me claim (at_ring asked (calls.Release k) answer ∷ steps) called is = is
claim_owed c old now me claim (at_ring asked (calls.Publish k frame) answer ∷ steps) called is = is
claim_owed c old now me claim (at_ring asked (calls.Join number) answer ∷ steps) called is = is
claim_owed c old now me claim (at_ring asked calls.Look answer ∷ steps) called is = is
claim_owed c old now me claim (at_ring asked (calls.Read cursor budget) answer ∷ steps) called is =
    let heard = called.rings.rings asked in
    let first : told (answer_at (shapes c) asked) me (history_at old.rings asked) heard.more
    ≡ (calls.Read cursor budget, answer) ∷ on_ring asked steps =
    heard.mine ∙ ap (λ (t : Bool). cond t ((calls.Read cursor budget, answer) ∷ []) [] ++ on_ring asked steps)
    (eq-eqb asked asked refl) in
    let at = head_answer (answer_at (shapes c) asked) me (history_at old.rings asked) heard.more
    (calls.Read cursor budget) answer (on_ring asked steps) first in
    let clash = sym (ap (λ (a : RingAnswer). Some (of_ring a)) at.1) ∙ is in absurd cc
claim_owed c old now me claim (at_book call answer ∷ steps) called is = is

-- ---- the closing

released : (terms : SourceTerms) (claim : ℕ) (more : List Step)
    → IsMade (asks (to_ring terms.mount (calls.Release claim)) (λ answer. done)) more
    → calls_at terms.mount more ≡ calls.Release claim ∷ []
released terms claim [] made = absurd made
released terms claim (at_ring asked call answer ∷ more) made =
    one_call terms.mount asked call (calls.Release claim) answer more made.0
    ∙ ap (λ (s : List Step). calls.Release claim ∷ calls_at terms.mount s) made.1
released terms claim (at_book call answer ∷ more) made = let clash = made.0 in absurd cc

closes_claim : (settled : Bool) (terms : SourceTerms) (body : List ℕ) (claim : ℕ) (more : List Step)
    (by : Option Answer) (segments : List Segment) → by ≡ Some (of_ring (rings.Given claim))
    → IsSettled settled (closing_by (came_by (source terms body) by) segments) more
    → (calls_at terms.mount more ≡ []) ⊎ (calls_at terms.mount more ≡ calls.Release claim ∷ [])
closes_claim false terms body claim more by segments is none = inl (ap (calls_at terms.mount) none)
closes_claim true terms body claim more by segments is made =
    inr (released terms claim more
    (subst (λ (r : Option Answer). IsMade (closing_by (came_by (source terms body) r) segments) more) is made))

-- none of these is a read
all_owed : (list : List RingCall) (claim : ℕ) → (list ≡ []) ⊎ (list ≡ calls.Release claim ∷ [])
    → filter is_call_owed list ≡ list
all_owed list claim (inl none) = ap (filter is_call_owed) none ∙ sym none
all_owed list claim (inr one) = ap (filter is_call_owed) one ∙ sym one

-- what a caller called at a mountpoint
ring_calls : (c : Config) (old now : Histories) (me : ℕ) (steps : List Step) (mount : ℕ)
    (called : Called c false old now me steps) → own me (called.rings.rings mount).more ≡ calls_at mount steps
ring_calls c old now me steps mount called =
    let heard = called.rings.rings mount in
    sym (calls_told (answer_at (shapes c) mount) me (history_at old.rings mount) heard.more)
    ∙ ap calls_in heard.mine

-- ---- the whole

pub source_published : (c : Config) (opening : Opening) (me : ℕ) (start now : Histories) (took : List LinkTook)
    (written : List ℕ) (last : Last) (receipt : Receipt)
    (goes : LinkGoes c opening me start now took written last receipt) (terms : SourceTerms) (body : List ℕ)
    (claim : ℕ) → came_to goes.j (steps_of goes.events) ≡ holding terms body claim
    → (frames : List (List ℕ)) × AreDue (is_halted goes.ended) frames (frames_of terms.chunked body)
    × HasPublished me claim (history_at start.rings terms.mount) (history_at now.rings terms.mount) frames
source_published c opening me start now took written last receipt goes terms body claim holds =
    let parts = holding_parts goes.j (first_answer (steps_of goes.events)) terms body claim holds in
    let j : goes.j ≡ source terms body = parts.0 in
    let is : first_answer (steps_of goes.events) ≡ Some (of_ring (rings.Given claim)) = parts.1 in
    let mount : ℕ = terms.mount in
    let steps : List Step = steps_of goes.events in
    let first = goes.called.rings.rings mount in
    let second = goes.closed.rings.rings mount in
    let made = source_made (is_halted goes.ended) terms body (owed_among steps) claim
    (claim_owed c start goes.between me claim steps goes.called is)
    (subst (λ (x : Judged). IsMadeBy (is_halted goes.ended) (plan_of c x) (owed_among steps)) j goes.owes) in
    let closes = closes_claim receipt.settled terms body claim goes.closed_by (first_answer steps)
    (segments_after [] steps) is
    (subst (λ (x : Judged). IsSettled receipt.settled (closing_by (came_to x steps) (segments_after [] steps))
    goes.closed_by) j goes.settled) in (
      made.0,
      made.1,
      record {
        more = first.more ++ second.more;
        on = second.seen ∙ ap (λ (h : History RingCall). h ++ second.more) first.seen
            ∙ append_assoc (history_at start.rings mount) first.more second.more;
        released = calls_at mount goes.closed_by;
        mine = ap (filter is_call_owed) (own-append me first.more second.more)
            ∙ filter-append is_call_owed (own me first.more) (own me second.more)
            ∙ ap (λ (l : List RingCall). l ++ filter is_call_owed (own me second.more))
            (ap (filter is_call_owed) (ring_calls c start goes.between me steps mount goes.called)
            ∙ reads_aside mount steps ∙ made.2)
            ∙ ap (λ (l : List RingCall). calls.Claim ∷ map (calls.Publish claim) made.0 ++ l)
            (ap (filter is_call_owed) (ring_calls c goes.between now me goes.closed_by mount goes.closed)
            ∙ all_owed (calls_at mount goes.closed_by) claim closes);
        last = closes;
      },
    )
