-- A source that has not ended by the events so far has given nothing back.
use Rattle.std.proofs.Common.{◌≡◌, ◌∙◌, ◌⊎◌, ◌++◌, ℕ, Bool, true, false, cond, IsTrue, List, [], ◌∷◌, length, drop, length-append, All, Option, None, Some, Result, Ok, Err, inl, inr, refl, sym, ap, subst, arith, append_assoc, eqb}
use Rattle.std.specs.Prelude.{⊤, ◌&&◌, ◌||◌, ◌==◌, nat_le, is_none, slice_get}
use Rattle.std.proofs.lemmas.Bool.{cases_eq, and_parts, cases_lt, lt-leb, le-leb, ne_eqb, eq-eqb, false≢true}
use Rattle.std.proofs.lemmas.List.{append-nil, drop-append-le}
use Rattle.std.proofs.lemmas.List.Elements.{All-head, All-tail, All-cons, All-nil}
use Rattle.chunk_body.specs.Text.{BodyText, IsOpen}
use Rattle.chunk_body.specs.declared.phase.Phase.{Phase}
use Rattle.chunk_body.specs.Machine.{read, is_ended, is_broken}
use Rattle.chunk_body.proofs.ReadingLemmas.{in_body, behind_body, behind_fault, known}
use Rattle.gga_read.specs.declared.Position.{Position}
use Rattle.turn_log.specs.History.{History}
use Rattle.turn_log.specs.Heard.{told}
use Rattle.mount_ring.specs.declared.call.RingCall.{RingCall}
use Rattle.mount_ring.specs.declared.call.RingCall.TheVariants.{Claim, Release, Publish, Join, Look, Read}
use Rattle.mount_ring.specs.declared.call.RingAnswer.{RingAnswer}
use Rattle.mount_ring.specs.declared.call.RingAnswer.TheVariants as rings
use Rattle.session_script.specs.declared.Event.{Event}
use Rattle.session_calls.specs.Steps.{Ask, to_ring, to_book, Answer, of_ring, of_book, Step, at_ring, at_book, ask_of, answer_of, on_ring}
use Rattle.session_calls.specs.Plans.{Plan, done, asks, IsMade}
use Rattle.session_calls.specs.Rings.{history_at, answer_at}
use Rattle.source_session.specs.Body.{frames_of}
use Rattle.upstream_relay.specs.Owed.{publishing, after_claim}
use Rattle.rover_session.specs.Made.{segments_after, owed_among}
use Rattle.ntrip_head.specs.declared.fault.HeadFault.{HeadFault}
use Rattle.ntrip_head.specs.declared.fault.HeadFault.TheVariants as heads
use Rattle.ntrip_head.specs.declared.request.Version.{Version}
use Rattle.ntrip_head.specs.declared.request.Auth.TheVariants as auths
use Rattle.ntrip_head.specs.declared.request.Request.{Request}
use Rattle.ntrip_head.specs.declared.request.Request.TheVariants as requests
use Rattle.ntrip_client.specs.Answer.{Said}
use Rattle.cast_config.specs.declared.config.Config.{Config}
use Rattle.access_groups.specs.declared.admission.Admission.{Admission}
use Rattle.access_groups.specs.declared.admission.Denial.{Denial}
use Rattle.access_groups.specs.declared.admission.Denial.TheVariants as denials
use Rattle.access_groups.specs.declared.admission.SourceDenial.{SourceDenial}
use Rattle.access_groups.specs.declared.admission.SourceDenial.TheVariants as sources
use Rattle.access_groups.specs.Admission.{admission, source_admission}
use Rattle.session_model.specs.Setting.{shapes}
use Rattle.session_model.specs.Headings.{Heading, incomplete, too_long, whole, answered}
use Rattle.session_model.specs.Judged.{Opening, sends_head, relays, bare_source, bare_rover, SourceTerms, Judged, waiting, source, once, source_judged, rover_judged, request_judged, said_judged, mount_fed, bare_admission, judged}
use Rattle.session_model.specs.Owed.{came_by, first_answer, came_to, plan_of, closing, closing_by}
use Rattle.session_model.specs.Endings.{ended_by, body_ending, claimed_ending, goes_on}
use Rattle.session_model.specs.Reports.{opened_as, bytes_to}
use Rattle.session_model.specs.Run.{Histories, Connected, World, nothing_called, judged_of, is_opened}
use Rattle.caster_replay.specs.Runs.{is_cut, IsKnown, AreKnown}
use Rattle.run_promise.specs.Promised.{is_release, GoesOn}
use Rattle.run_promise.proofs.MadeLemmas.{AreAnswered, StepsOn}
use Rattle.run_promise.proofs.CallLemmas.{same_at, all_calls}
use Rattle.run_promise.proofs.StoodLemmas.{Stood}
use Rattle.run_promise.proofs.SourceLemmas.{source_made}
use Rattle.run_promise.proofs.OwedLemmas.{answered_front, answered_owed, on_front, received_owed}
use Rattle.run_promise.proofs.AccountLemmas.{over_if}
use Rattle.run_promise.proofs.RunLemmas.{IsStood, nothing_at}

-- ---- what a source was by fewer bytes

-- nothing yet, or a source with the same terms and fewer bytes of its body
abbrev pub WasBefore : Judged → SourceTerms → List ℕ → List ℕ → Type 0
WasBefore j terms all more = (j ≡ waiting) ⊎ ((body : List ℕ) × (j ≡ source terms body) × (all ≡ body ++ more))

same_terms : (s t : SourceTerms) (x y : List ℕ) → source s x ≡ source t y → s ≡ t
same_terms s t x y e = cc

same_body : (s t : SourceTerms) (x y : List ℕ) → source s x ≡ source t y → x ≡ y
same_body s t x y e = cc

from_source : (s terms : SourceTerms) (body more all : List ℕ) → source s (body ++ more) ≡ source terms all
    → WasBefore (source s body) terms all more
from_source s terms body more all is =
    inr (
      body,
      ap (λ (t : SourceTerms). source t body) (same_terms s terms (body ++ more) all is),
      sym (same_body s terms (body ++ more) all is),
    )

source_before : (version : Option Version) (chunked : Bool) (body more all : List ℕ) (r : Result ℕ SourceDenial)
    (terms : SourceTerms) → source_judged version chunked (body ++ more) r ≡ source terms all
    → WasBefore (source_judged version chunked body r) terms all more
source_before version chunked body more all (Ok mount) terms is =
    from_source (record { version = version; mount = mount; chunked = chunked }) terms body more all is
source_before version chunked body more all (Err sources.NoMount) terms is = absurd cc
source_before version chunked body more all (Err sources.Password) terms is = absurd cc

rover_never : (version : Option Version) (first : Option Position) (tail all : List ℕ) (r : Result Admission Denial)
    (terms : SourceTerms) → rover_judged version first tail r ≡ source terms all → ⊥
rover_never version first tail all (Ok a) terms is = absurd cc
rover_never version first tail all (Err denials.NoMount) terms is = absurd cc
rover_never version first tail all (Err denials.NoAccount) terms is = absurd cc
rover_never version first tail all (Err (denials.Password account)) terms is = absurd cc
rover_never version first tail all (Err (denials.Group group)) terms is = absurd cc

request_before : (c : Config) (body more all : List ℕ) (r : Result Request HeadFault) (terms : SourceTerms)
    → request_judged c (body ++ more) r ≡ source terms all → WasBefore (request_judged c body r) terms all more
request_before c body more all (Err heads.Bad) terms is = absurd cc
request_before c body more all (Err heads.Method) terms is = absurd cc
request_before c body more all (Err heads.Coding) terms is = absurd cc
request_before c body more all (Ok (requests.Table version)) terms is = absurd cc
request_before c body more all (Ok (requests.Rover version mount auth first)) terms is =
    absurd (rover_never (Some version) first (body ++ more) all (admission c auth mount) terms is)
request_before c body more all (Ok (requests.Source version mount password chunked)) terms is =
    source_before (Some version) chunked body more all (source_admission c mount password) terms is

said_before : (mount : ℕ) (body more all : List ℕ) (said : Said) (terms : SourceTerms)
    → said_judged mount (body ++ more) said ≡ source terms all → WasBefore (said_judged mount body said) terms all more
said_before mount body more all (Ok chunked) terms is =
    from_source (record { version = None; mount = mount; chunked = chunked }) terms body more all is
said_before mount body more all (Err refusal) terms is = absurd cc

once_before : (at : ℕ) (text more all : List ℕ) (said : List ℕ → Judged) (terms : SourceTerms)
    → ((body : List ℕ) → said (body ++ more) ≡ source terms all → WasBefore (said body) terms all more)
    → once (nat_le at (length (text ++ more))) (said (drop at (text ++ more))) ≡ source terms all
    → WasBefore (once (nat_le at (length text)) (said (drop at text))) terms all more
once_before at text more all said terms before is = elim (cases_lt (length text) at) [
  | inl short ↦ inl (ap (λ (b : Bool). once b (said (drop at text))) (lt-leb at (length text) short))
  | inr behind ↦
      let long : nat_le at (length (text ++ more)) ≡ true =
      le-leb at (length (text ++ more)) (omega (arith, behind, length-append text more)) in
      let so : said (drop at text ++ more) ≡ source terms all =
      ap said (sym (drop-append-le at text more behind))
      ∙ ap (λ (b : Bool). once b (said (drop at (text ++ more)))) (sym long) ∙ is in
      subst (λ (b : Bool). WasBefore (once b (said (drop at text))) terms all more)
      (sym (le-leb at (length text) behind)) (before (drop at text) so)
]

never_once : (b : Bool) (j : Judged) (terms : SourceTerms) (all : List ℕ) → (j ≡ source terms all → ⊥)
    → once b j ≡ source terms all → ⊥
never_once true j terms all never is = never is
never_once false j terms all never is = absurd cc

judged_before : (c : Config) (o : Opening) (h : Heading) (text more all : List ℕ) (terms : SourceTerms)
    → judged c o h (text ++ more) ≡ source terms all → WasBefore (judged c o h text) terms all more
judged_before c sends_head incomplete text more all terms is = absurd cc
judged_before c sends_head too_long text more all terms is =
    absurd (never_once (nat_le 8192 (length (text ++ more))) _ terms all (λ e. absurd cc) is)
judged_before c sends_head (whole at answer) text more all terms is =
    once_before at text more all (λ body. request_judged c body answer) terms
    (λ body. request_before c body more all answer terms) is
judged_before c sends_head (answered at said) text more all terms is = absurd cc
judged_before c (relays n) incomplete text more all terms is = absurd cc
judged_before c (relays n) too_long text more all terms is =
    absurd (never_once (nat_le 8192 (length (text ++ more))) _ terms all (λ e. absurd cc) is)
judged_before c (relays n) (whole at answer) text more all terms is = absurd cc
judged_before c (relays n) (answered at said) text more all terms is =
    once_before at text more all (λ body. said_judged (mount_fed (slice_get c.relay n)) body said) terms
    (λ body. said_before (mount_fed (slice_get c.relay n)) body more all said terms) is
judged_before c (bare_source mount) h text more all terms is =
    source_before None false text more all (bare_admission c mount) terms is
judged_before c (bare_rover mount) h text more all terms is =
    absurd (rover_never None None (text ++ more) all (admission c auths.None mount) terms is)

-- the front of an open body is open
front_open : (front more : List ℕ) → IsOpen (front ++ more) → IsOpen front
front_open front more is =
    let live = is.live in record {
      live = (more ++ live.0, live.1, subst (λ (t : List ℕ). BodyText t live.1) (append_assoc front more live.0) live.2);
      going = λ ended. is.going (
        ended.0,
        ended.1 ++ more,
        ended.2,
        ap (λ (t : List ℕ). t ++ more) ended.3 ∙ append_assoc ended.0 ended.1 more,
        ended.4,
      );
    }

-- ---- plans and steps in which nothing is given back

abbrev KeepsAsk : Ask → Type 0
KeepsAsk (to_ring mount call) = is_release call ≡ false
KeepsAsk (to_book call) = ⊤

abbrev KeepsPlan : Plan → Type 0
KeepsPlan done = ⊤
KeepsPlan (asks ask next) = KeepsAsk ask × ((answer : _) → KeepsPlan (next answer))

abbrev KeepsSteps : List Step → Type 0
KeepsSteps [] = ⊤
KeepsSteps (step ∷ steps) = KeepsAsk (ask_of step) × KeepsSteps steps

made_keeps : (plan : Plan) (steps : List Step) → KeepsPlan plan → IsMade plan steps → KeepsSteps steps
made_keeps done [] keeps made = tt
made_keeps done (step ∷ steps) keeps made = absurd cc
made_keeps (asks ask next) [] keeps made = absurd made
made_keeps (asks ask next) (step ∷ steps) keeps made = (
  subst KeepsAsk (sym made.0) keeps.0,
  made_keeps (next (answer_of step)) steps (keeps.1 (answer_of step)) made.1,
)

publishing_keeps : (mount claim : ℕ) (frames : List (List ℕ)) → KeepsPlan (publishing mount claim frames)
publishing_keeps mount claim [] = tt
publishing_keeps mount claim (frame ∷ frames) = (refl, λ answer. publishing_keeps mount claim frames)

from_owed : (steps : List Step) → KeepsSteps (owed_among steps) → KeepsSteps steps
from_owed [] keeps = tt
from_owed (at_ring mount Claim answer ∷ steps) keeps = (keeps.0, from_owed steps keeps.1)
from_owed (at_ring mount (Release claim) answer ∷ steps) keeps = (keeps.0, from_owed steps keeps.1)
from_owed (at_ring mount (Publish claim frame) answer ∷ steps) keeps = (keeps.0, from_owed steps keeps.1)
from_owed (at_ring mount (Join filter) answer ∷ steps) keeps = (keeps.0, from_owed steps keeps.1)
from_owed (at_ring mount Look answer ∷ steps) keeps = (keeps.0, from_owed steps keeps.1)
from_owed (at_ring mount (Read cursor budget) answer ∷ steps) keeps = (refl, from_owed steps keeps)
from_owed (at_book call answer ∷ steps) keeps = (tt, from_owed steps keeps.1)

keeps-append : (first last : List Step) → KeepsSteps first → last ≡ [] → KeepsSteps (first ++ last)
keeps-append first last keeps none =
    subst KeepsSteps (sym (ap (λ (l : List Step). first ++ l) none ∙ append-nil first)) keeps

abbrev IsKeptCall : RingCall × RingAnswer → Type 0
IsKeptCall pair = is_release pair.0 ≡ false

kept_if : (here : Bool) (call : RingCall) (answer : RingAnswer) (more : List (RingCall × RingAnswer))
    → is_release call ≡ false → All IsKeptCall more → All IsKeptCall (cond here ((call, answer) ∷ []) [] ++ more)
kept_if true call answer more keeps all = All-cons IsKeptCall (call, answer) more keeps all
kept_if false call answer more keeps all = all

ring_keeps : (mount : ℕ) (steps : List Step) → KeepsSteps steps → All IsKeptCall (on_ring mount steps)
ring_keeps mount [] keeps = All-nil IsKeptCall
ring_keeps mount (at_ring asked call answer ∷ steps) keeps =
    kept_if (asked == mount) call answer (on_ring mount steps) keeps.0 (ring_keeps mount steps keeps.1)
ring_keeps mount (at_book call answer ∷ steps) keeps = ring_keeps mount steps keeps.1

-- ---- and so its history has nothing that it gave back

abbrev pub IsKeptBy : ℕ → ℕ × RingCall → Type 0
IsKeptBy n entry = entry.0 ≡ n → is_release entry.1 ≡ false

module _ (answer : History RingCall → ℕ → RingCall → RingAnswer) (me : ℕ) where
  told_if : (mine : Bool) (before : History RingCall) (e : ℕ × RingCall) (more : History RingCall)
      → eqb e.0 me ≡ mine
      → All IsKeptCall (cond mine ((e.1, answer before me e.1) ∷ told answer me (before ++ e ∷ []) more)
      (told answer me (before ++ e ∷ []) more))
      → (All IsKeptCall (told answer me (before ++ e ∷ []) more) → All (IsKeptBy me) more)
      → All (IsKeptBy me) (e ∷ more)
  told_if true before e more mine all later =
      All-cons (IsKeptBy me) e more (λ same. All-head IsKeptCall (e.1, answer before me e.1) _ all)
      (later (All-tail IsKeptCall (e.1, answer before me e.1) _ all))
  told_if false before e more mine all later =
      All-cons (IsKeptBy me) e more
      (λ same. absurd (false≢true (sym mine ∙ eq-eqb e.0 me same))) (later all)

  told_keeps : (before h : History RingCall) → All IsKeptCall (told answer me before h) → All (IsKeptBy me) h
  told_keeps before [] all = All-nil (IsKeptBy me)
  told_keeps before (e ∷ more) all =
      told_if (eqb e.0 me) before e more refl all (told_keeps (before ++ e ∷ []) more)

-- ---- of a connection of a run

received_front : (first last : List Step) (one : Step) (more : List Step) → owed_among first ≡ one ∷ more
    → first_answer (first ++ last) ≡ first_answer first
received_front [] last one more are = absurd cc
received_front (step ∷ first) last one more are = refl

second_false : (a b : Bool) → a ≡ true → (a && b) ≡ false → b ≡ false
second_false true b is none = none
second_false false b is none = absurd cc

claim_keeps : (mount : ℕ) (frames : List (List ℕ)) (answer : Answer) → KeepsPlan (after_claim mount frames answer)
claim_keeps mount frames (of_ring (rings.Given claim)) = publishing_keeps mount claim frames
claim_keeps mount frames (of_ring (rings.Taken caller claim)) = tt
claim_keeps mount frames (of_ring rings.Released) = tt
claim_keeps mount frames (of_ring (rings.At place)) = tt
claim_keeps mount frames (of_ring (rings.Joined cursor)) = tt
claim_keeps mount frames (of_ring (rings.Looked live)) = tt
claim_keeps mount frames (of_ring (rings.Read report)) = tt
claim_keeps mount frames (of_book answer) = tt

module _ (c : Config) (headings : ℕ → Heading) (list : List Event) (h : Histories) (d : Connected)
    (s : Stood c (headings d.number) h d) (k : IsKnown c headings list d) (g : GoesOn c headings list d.number) where
  abbrev j : Judged
  j = judged_of c (headings d.number) d

  -- one that called nothing
  waiting_keeps : j ≡ waiting → KeepsSteps d.steps
  waiting_keeps is =
      let first : owed_among s.first ≡ [] = subst (λ (x : Judged). IsMade (plan_of c x) (owed_among s.first)) is s.made_is in
      let last : s.last ≡ [] = elim s.ends [
        | inl (none, goes) ↦ none
        | inr (over, closed) ↦ subst (λ (x : Judged). IsMade (closing x s.first) s.last) is closed
      ] in
      subst KeepsSteps (sym s.split)
      (keeps-append s.first s.last (from_owed s.first (subst KeepsSteps (sym first) tt)) last)

  same_opening : g.opening ≡ d.opening
  same_opening = let both : Some g.opening ≡ Some d.opening = sym g.opened ∙ k.opened in cc

  judged_all : judged c d.opening (headings d.number) (d.text ++ k.rest) ≡ source g.terms g.body
  judged_all =
      ap (λ (o : Opening). judged c o (headings d.number) (d.text ++ k.rest)) (sym same_opening)
      ∙ ap (λ (t : List ℕ). judged c g.opening (headings d.number) t) (sym k.begins) ∙ g.is_source

  -- it was not closed
  uncut_is : (there : Bool) → is_none d.closed ≡ there → there ≡ true
  uncut_is true is = refl
  uncut_is false is = absurd (false≢true (sym g.uncut ∙ k.closed is))

  first_is : first_answer (owed_among s.first) ≡ first_answer s.first
  first_is = received_owed s.first (on_front [] s.first s.last
      (subst (λ (l : List Step). StepsOn [] l) s.split s.walked.on))

  received_all : (one : Step) (more : List Step) → owed_among s.first ≡ one ∷ more
      → first_answer d.steps ≡ first_answer s.first
  received_all one more are = ap first_answer s.split ∙ received_front s.first s.last one more are

  -- a source that has not ended by itself either
  source_last : (body : List ℕ) → j ≡ source g.terms body → g.body ≡ body ++ k.rest
      → goes_on j d.steps d.closed ≡ false → IsMade (closing j s.first) s.last → s.last ≡ []
  source_last body is all over closed =
      let frames : List (List ℕ) = frames_of g.terms.chunked body in
      let made : IsMade (plan_of c (source g.terms body)) (owed_among s.first) =
      subst (λ (x : Judged). IsMade (plan_of c x) (owed_among s.first)) is s.made_is in
      let answered = answered_owed c s.first (answered_front c s.first s.last
      (subst (AreAnswered c) s.split s.walked.answered)) in
      let shut : IsMade (closing (source g.terms body) s.first) s.last =
      subst (λ (x : Judged). IsMade (closing x s.first) s.last) is closed in
      elim (source_made c g.terms.mount frames (owed_among s.first) answered made) [
        | inl given ↦
            let by : first_answer d.steps ≡ Some (of_ring (rings.Given given.claim)) =
            received_all _ _ given.steps_are ∙ sym first_is ∙ ap first_answer given.steps_are in
            let ended : is_none (claimed_ending g.terms.chunked given.claim body) ≡ false =
            ap (λ (r : Option Answer). is_none (ended_by (came_by (source g.terms body) r))) (sym by)
            ∙ ap (λ (x : Judged). is_none (ended_by (came_to x d.steps))) (sym is)
            ∙ second_false (is_none d.closed) _ (uncut_is (is_none d.closed) refl) over in
            let broken = over_if g.terms.chunked given.claim body ended in
            absurd (broken.1 (front_open body k.rest (subst IsOpen all (g.still broken.0))))
        | inr other ↦
            let by : first_answer s.first ≡ Some (of_ring (rings.Taken other.caller other.claim)) =
            sym first_is ∙ ap first_answer other.steps_are in
            subst (λ (r : Option Answer). IsMade (closing_by (came_by (source g.terms body) r) (segments_after [] s.first)) s.last)
            by shut
      ]

  source_keeps : (body : List ℕ) → j ≡ source g.terms body → g.body ≡ body ++ k.rest → KeepsSteps d.steps
  source_keeps body is all =
      let made : IsMade (plan_of c (source g.terms body)) (owed_among s.first) =
      subst (λ (x : Judged). IsMade (plan_of c x) (owed_among s.first)) is s.made_is in
      let keeps : KeepsSteps (owed_among s.first) =
      made_keeps (plan_of c (source g.terms body)) (owed_among s.first)
      (refl, claim_keeps g.terms.mount (frames_of g.terms.chunked body)) made in
      let last : s.last ≡ [] = elim s.ends [
        | inl (none, goes) ↦ none
        | inr (over, closed) ↦ source_last body is all over closed
      ] in
      subst KeepsSteps (sym s.split) (keeps-append s.first s.last (from_owed s.first keeps) last)

  steps_keep : KeepsSteps d.steps
  steps_keep = elim (judged_before c d.opening (headings d.number) d.text k.rest g.body g.terms judged_all) [
    | inl is ↦ waiting_keeps is
    | inr before ↦ source_keeps before.0 before.1 before.2
  ]

  history_keeps : (mount : ℕ) → All (IsKeptBy d.number) (history_at h.rings mount)
  history_keeps mount =
      told_keeps (answer_at (shapes c) mount) d.number [] (history_at h.rings mount)
      (subst (All IsKeptCall)
      (sym (all_calls c (nothing_called c).rings h.rings d.number d.steps (nothing_at c) s.walked.went mount
      ∙ same_at mount d.steps))
      (ring_keeps mount d.steps steps_keep))

-- ---- of all of them

one_keeps : (c : Config) (headings : ℕ → Heading) (list : List Event) (h : Histories) (ds : List Connected) (n : ℕ)
    (mount : ℕ) → All (IsStood c headings h) ds → All (IsKnown c headings list) ds → is_opened n ds ≡ true
    → GoesOn c headings list n → All (IsKeptBy n) (history_at h.rings mount)
one_keeps c headings list h [] n mount stood known there goes = absurd cc
one_keeps c headings list h (d ∷ ds) n mount stood known there goes = elim (cases_eq d.number n) [
  | inl same ↦
      subst (λ (i : ℕ). All (IsKeptBy i) (history_at h.rings mount)) same
      (history_keeps c headings list h d (All-head (IsStood c headings h) d ds stood)
      (All-head (IsKnown c headings list) d ds known)
      (subst (GoesOn c headings list) (sym same) goes) mount)
  | inr apart ↦
      one_keeps c headings list h ds n mount (All-tail (IsStood c headings h) d ds stood)
      (All-tail (IsKnown c headings list) d ds known)
      (ap (λ (b : Bool). b || is_opened n ds) (sym (ne_eqb d.number n apart)) ∙ there) goes
]

from_each : (P : ℕ → Type 0) (h : History RingCall) → ((n : ℕ) → P n → All (IsKeptBy n) h)
    → All (λ (entry : ℕ × RingCall). IsTrue (is_release entry.1) → P entry.0 → ⊥) h
from_each P [] each = All-nil (λ (entry : ℕ × RingCall). IsTrue (is_release entry.1) → P entry.0 → ⊥)
from_each P (e ∷ h) each =
    All-cons (λ (entry : ℕ × RingCall). IsTrue (is_release entry.1) → P entry.0 → ⊥) e h
    (λ back p. false≢true (sym (All-head (IsKeptBy e.0) e h (each e.0 p) refl) ∙ back))
    (from_each P h (λ n p. All-tail (IsKeptBy n) e h (each n p)))

opened_there : (list : List Event) (n : ℕ) (o : Opening) (there : Bool) → (there ≡ false → opened_as n list ≡ None)
    → opened_as n list ≡ Some o → there ≡ true
opened_there list n o true none opened = refl
opened_there list n o false none opened =
    let clash : None ≡ Some o = sym (none refl) ∙ opened in absurd cc

-- nothing was given back by a source that has not ended
pub none_back : (c : Config) (headings : ℕ → Heading) (list : List Event) (w : World)
    → All (IsStood c headings w.histories) w.connections → AreKnown c headings list w → (mount : ℕ)
    → All (λ (entry : ℕ × RingCall). IsTrue (is_release entry.1) → GoesOn c headings list entry.0 → ⊥)
    (history_at w.histories.rings mount)
none_back c headings list w stood known mount =
    from_each (GoesOn c headings list) (history_at w.histories.rings mount)
    (λ n goes. one_keeps c headings list w.histories w.connections n mount stood known.each
    (opened_there list n goes.opening (is_opened n w.connections) (known.none n) goes.opened) goes)

-- ---- who has a claim to give back

-- one that goes on is not closed, and its text is all its bytes
pub record IsSaid (list : List Event) (d : Connected) : Type 0 where
  pub uncut : is_cut d.number list ≡ false
  pub opened : opened_as d.number list ≡ Some d.opening
  pub bytes : bytes_to d.number list ≡ d.text

pub said_so : (c : Config) (headings : ℕ → Heading) (list : List Event) (d : Connected) → IsKnown c headings list d
    → goes_on (judged_of c (headings d.number) d) d.steps d.closed ≡ true → IsSaid list d
said_so c headings list d known goes =
    let now = known.going goes in record {
      uncut = now.1;
      opened = known.opened;
      bytes = known.begins ∙ ap (λ (l : List ℕ). d.text ++ l) now.0 ∙ append-nil d.text;
    }

still_open : (body : List ℕ) (claim : ℕ) → is_none (claimed_ending true claim body) ≡ true → IsOpen body
still_open body claim none = elim (known body) [
  | in_body is phase count ↦ is
  | behind_body phase ended ↦
      let clash : true ≡ false =
      sym none ∙ ap (λ (p : Phase). is_none (body_ending claim (is_ended p) (is_broken p) (read body).taken)) phase in
      absurd cc
  | behind_fault phase bad ↦
      let clash : true ≡ false =
      sym none ∙ ap (λ (p : Phase). is_none (body_ending claim (is_ended p) (is_broken p) (read body).taken)) phase in
      absurd cc
]

still_chunked : (chunked : Bool) (body : List ℕ) (claim : ℕ) → is_none (claimed_ending chunked claim body) ≡ true
    → chunked ≡ true → IsOpen body
still_chunked true body claim none is = still_open body claim none
still_chunked false body claim none is = absurd cc

-- a source that was given its claim and goes on
pub goes_so : (c : Config) (headings : ℕ → Heading) (list : List Event) (d : Connected) → IsSaid list d
    → goes_on (judged_of c (headings d.number) d) d.steps d.closed ≡ true → (terms : SourceTerms) (body : List ℕ)
    (claim : ℕ) → judged_of c (headings d.number) d ≡ source terms body → first_answer d.steps ≡ Some (of_ring (rings.Given claim))
    → GoesOn c headings list d.number
goes_so c headings list d said goes terms body claim is by = record {
  uncut = said.uncut;
  opening = d.opening;
  opened = said.opened;
  terms = terms;
  body = body;
  is_source = ap (λ (t : List ℕ). judged c d.opening (headings d.number) t) said.bytes ∙ is;
  still = still_chunked terms.chunked body claim
      (ap (λ (x : Judged). is_none (ended_by (came_by x (Some (of_ring (rings.Given claim)))))) (sym is)
      ∙ ap (λ (r : Option Answer). is_none (ended_by (came_by (judged_of c (headings d.number) d) r))) (sym by)
      ∙ (and_parts (is_none d.closed) _ goes).1);
}
