-- What a connection is judged to be does not change once it is judged, and only a rover that
-- entered its account has segments.
use Rattle.std.proofs.Common.{◌≡◌, ◌∙◌, ◌⊎◌, ◌++◌, ℕ, Bool, true, false, List, [], ◌∷◌, length, drop, Option, None, Some, Result, Ok, Err, inl, inr, refl, sym, ap, subst, arith, option_to_list, length-append}
use Rattle.std.specs.Prelude.{nat_le, ◌&&◌, is_none, slice_get}
use Rattle.std.proofs.lemmas.Bool.{cases_lt, lt-leb, le-leb, false≢true}
use Rattle.std.proofs.lemmas.List.{drop-append-le}
use Rattle.std.proofs.lemmas.List.Elements.{All-nil}
use Rattle.gga_read.specs.declared.Position.{Position}
use Rattle.gga_read.specs.Report.{reports}
use Rattle.ntrip_head.specs.declared.fault.HeadFault.{HeadFault}
use Rattle.ntrip_head.specs.declared.fault.HeadFault.TheVariants as heads
use Rattle.ntrip_head.specs.declared.request.Auth.TheVariants as auths
use Rattle.ntrip_head.specs.declared.request.Version.{Version}
use Rattle.ntrip_head.specs.declared.request.Version.TheVariants.{One}
use Rattle.ntrip_reply.specs.declared.kind.Reply.TheVariants as replies
use Rattle.ntrip_head.specs.declared.request.Request.{Request}
use Rattle.ntrip_head.specs.declared.request.Request.TheVariants as requests
use Rattle.ntrip_client.specs.Answer.{Said}
use Rattle.access_groups.specs.declared.admission.Admission.{Admission}
use Rattle.access_groups.specs.declared.admission.Denial.{Denial}
use Rattle.access_groups.specs.declared.admission.Denial.TheVariants as denials
use Rattle.access_groups.specs.declared.admission.SourceDenial.{SourceDenial}
use Rattle.access_groups.specs.declared.admission.SourceDenial.TheVariants as sources
use Rattle.access_groups.specs.Admission.{admission, source_admission}
use Rattle.caster_accounts.specs.declared.call.BookCall.TheVariants.{Enter}
use Rattle.mount_ring.specs.declared.call.RingAnswer.TheVariants.{Given, Taken, Released, At, Joined, Looked, Read}
use Rattle.caster_accounts.specs.declared.call.BookAnswer.TheVariants.{Entered}
use Rattle.session_calls.specs.Steps.{Answer, of_ring, of_book, Step, to_book}
use Rattle.session_calls.specs.Plans.{Plan, asks, IsMade}
use Rattle.rover_session.specs.Owed.{plan_by}
use Rattle.rover_session.specs.Made.{segments_after, owed_among}
use Rattle.rover_session.proofs.MadeLemmas.{owed-append}
use Rattle.cast_config.specs.declared.config.Config.{Config}
use Rattle.session_model.specs.declared.ending.Ending.TheVariants as endings
use Rattle.session_model.specs.declared.ending.Last.{Last}
use Rattle.session_model.specs.Headings.{Heading, incomplete, too_long, whole, answered}
use Rattle.session_model.specs.Judged.{Opening, sends_head, relays, bare_source, bare_rover, SourceTerms, RoverTerms, Judged, waiting, finished, source, rover, source_judged, rover_judged, request_judged, once, heading_judged, said_judged, relay_judged, mount_fed, bare_admission, judged}
use Rattle.session_model.specs.Owed.{came_by, first_answer, came_to, is_let_in, if_entered, terms_of, plan_of, closing}
use Rattle.session_model.proofs.CameLemmas.{entered_parts, rover_same as came_same}
use Rattle.session_model.specs.Endings.{goes_on}
use Rattle.session_model.specs.Replies.{reply_of, version_of}
use Rattle.session_model.specs.Reports.{is_entered}
use Rattle.session_model.specs.Run.{Histories, Connected, judged_of}
use Rattle.run_promise.proofs.MadeLemmas.{AreAnswered}
use Rattle.run_promise.proofs.WalkLemmas.{IsNever, AreJoins, joins-append, HasSuch, walk_keeps, none_such}
use Rattle.run_promise.proofs.OwedLemmas.{answered_front, answered_owed, received_owed, last_such, closing_such}
use Rattle.run_promise.proofs.StoodLemmas.{Stood}
use Rattle.run_promise.proofs.AccountLemmas.{entry_made, source_joins}
use Rattle.warm_promise.specs.Greeted.{joins_by_bytes}

-- ---- whether it joins by bytes

abbrev pub near_of : Judged → Bool
near_of waiting = true
near_of (finished reply end) = true
near_of (source terms body) = true
near_of (rover terms tail) = terms.admission.near

abbrev pub by_bytes : Opening → Judged → Bool
by_bytes sends_head j = true
by_bytes (relays n) j = true
by_bytes (bare_source mount) j = true
by_bytes (bare_rover mount) j = near_of j

pub by_terms : (o : Opening) (terms : RoverTerms) (tail : List ℕ)
    → by_bytes o (rover terms tail) ≡ joins_by_bytes o terms
by_terms sends_head terms tail = refl
by_terms (relays n) terms tail = refl
by_terms (bare_source mount) terms tail = refl
by_terms (bare_rover mount) terms tail = refl

pub all_by : (o : Opening) (j : Judged) → near_of j ≡ true → by_bytes o j ≡ true
all_by sends_head j is = refl
all_by (relays n) j is = refl
all_by (bare_source mount) j is = refl
all_by (bare_rover mount) j is = is

by_same : (o : Opening) (j k : Judged) → near_of k ≡ near_of j → by_bytes o k ≡ by_bytes o j
by_same sends_head j k is = refl
by_same (relays n) j k is = refl
by_same (bare_source mount) j k is = refl
by_same (bare_rover mount) j k is = is

far_near : (o : Opening) (j : Judged) → by_bytes o j ≡ false → near_of j ≡ false
far_near sends_head j is = absurd cc
far_near (relays n) j is = absurd cc
far_near (bare_source mount) j is = absurd cc
far_near (bare_rover mount) j is = is

-- ---- with more bytes

-- it is replied to as before, and one that does not join by bytes owes no more
pub record Same (c : Config) (o : Opening) (j k : Judged) : Type 0 where
  pub version : (by : Option Answer) → version_of (came_by k by) ≡ version_of (came_by j by)
  pub reply : (by : Option Answer) → reply_of c (came_by k by) ≡ reply_of c (came_by j by)
  pub bytes : by_bytes o k ≡ by_bytes o j
  pub far : by_bytes o j ≡ false → plan_of c k ≡ plan_of c j

-- or nothing was said of it before
abbrev pub Grows : Config → Opening → Judged → Judged → Type 0
Grows c o j k = ((j ≡ waiting) × (by_bytes o k ≡ true)) ⊎ Same c o j k

pub same_self : (c : Config) (o : Opening) (j : Judged) → Same c o j j
same_self c o j = record { version = λ by. refl; reply = λ by. refl; bytes = refl; far = λ is. refl }

far_plan : (near : Bool) (terms : _) (one two : List Position) → near ≡ false
    → plan_by near terms one ≡ plan_by near terms two
far_plan false terms one two is = refl
far_plan true terms one two is = absurd cc

rover_same : (c : Config) (o : Opening) (terms : RoverTerms) (tail more : List ℕ)
    → Same c o (rover terms tail) (rover terms more)
rover_same c o terms tail more = record {
  version = λ by. ap version_of (came_same terms tail more by);
  reply = λ by. ap (reply_of c) (came_same terms tail more by);
  bytes = by_same o (rover terms tail) (rover terms more) refl;
  far = λ is. ap (λ (p : Plan). asks (to_book (Enter terms.admission.account))
      (λ answer. if_entered (is_let_in answer) p))
      (far_plan terms.admission.near (terms_of c terms.admission) (option_to_list terms.first ++ reports more)
      (option_to_list terms.first ++ reports tail) (far_near o (rover terms tail) is));
}

source_alike : (c : Config) (terms : SourceTerms) (body other : List ℕ) (by : Option Answer)
    → (version_of (came_by (source terms other) by) ≡ version_of (came_by (source terms body) by))
    × (reply_of c (came_by (source terms other) by) ≡ reply_of c (came_by (source terms body) by))
source_alike c terms body other None = (refl, refl)
source_alike c terms body other (Some (of_ring (Given claim))) = (refl, refl)
source_alike c terms body other (Some (of_ring (Taken caller claim))) = (refl, refl)
source_alike c terms body other (Some (of_ring Released)) = (refl, refl)
source_alike c terms body other (Some (of_ring (At place))) = (refl, refl)
source_alike c terms body other (Some (of_ring (Joined cursor))) = (refl, refl)
source_alike c terms body other (Some (of_ring (Looked live))) = (refl, refl)
source_alike c terms body other (Some (of_ring (Read report))) = (refl, refl)
source_alike c terms body other (Some (of_book answer)) = (refl, refl)

source_grows : (c : Config) (o : Opening) (version : Option Version) (chunked : Bool) (body more : List ℕ)
    (r : Result ℕ SourceDenial)
    → Grows c o (source_judged version chunked body r) (source_judged version chunked (body ++ more) r)
source_grows c o version chunked body more (Ok mount) = inr (record {
  version = λ by. (source_alike c _ body (body ++ more) by).0;
  reply = λ by. (source_alike c _ body (body ++ more) by).1;
  bytes = by_same o (source_judged version chunked body (Ok mount)) (source_judged version chunked (body ++ more)
      (Ok mount)) refl;
  far = λ is. absurd (false≢true
      (sym (far_near o (source_judged version chunked body (Ok mount)) is)));
})
source_grows c o version chunked body more (Err sources.NoMount) = inr (same_self c o _)
source_grows c o version chunked body more (Err sources.Password) = inr (same_self c o _)

rover_grows : (c : Config) (o : Opening) (version : Option Version) (first : Option Position) (tail more : List ℕ)
    (r : Result Admission Denial)
    → Grows c o (rover_judged version first tail r) (rover_judged version first (tail ++ more) r)
rover_grows c o version first tail more (Ok a) =
    inr (rover_same c o (record { version = version; admission = a; first = first }) tail (tail ++ more))
rover_grows c o version first tail more (Err denials.NoMount) = inr (same_self c o _)
rover_grows c o version first tail more (Err denials.NoAccount) = inr (same_self c o _)
rover_grows c o version first tail more (Err (denials.Password account)) = inr (same_self c o _)
rover_grows c o version first tail more (Err (denials.Group group)) = inr (same_self c o _)

request_grows : (c : Config) (o : Opening) (body more : List ℕ) (r : Result Request HeadFault)
    → Grows c o (request_judged c body r) (request_judged c (body ++ more) r)
request_grows c o body more (Err heads.Bad) = inr (same_self c o _)
request_grows c o body more (Err heads.Method) = inr (same_self c o _)
request_grows c o body more (Err heads.Coding) = inr (same_self c o _)
request_grows c o body more (Ok (requests.Table version)) = inr (same_self c o _)
request_grows c o body more (Ok (requests.Rover version mount auth first)) =
    rover_grows c o (Some version) first body more (admission c auth mount)
request_grows c o body more (Ok (requests.Source version mount password chunked)) =
    source_grows c o (Some version) chunked body more (source_admission c mount password)

said_grows : (c : Config) (o : Opening) (mount : ℕ) (body more : List ℕ) (said : Said)
    → Grows c o (said_judged mount body said) (said_judged mount (body ++ more) said)
said_grows c o mount body more (Ok chunked) = source_grows c o None chunked body more (Ok mount)
said_grows c o mount body more (Err refusal) = inr (same_self c o _)

once_grows : (c : Config) (o : Opening) (at : ℕ) (text more : List ℕ) (said : List ℕ → Judged)
    → ((j : Judged) → by_bytes o j ≡ true) → ((body : List ℕ) → Grows c o (said body) (said (body ++ more)))
    → Grows c o (once (nat_le at (length text)) (said (drop at text)))
    (once (nat_le at (length (text ++ more))) (said (drop at (text ++ more))))
once_grows c o at text more said bytes grows = elim (cases_lt (length text) at) [
  | inl before ↦ rw (lt-leb at (length text) before) (inl (refl, bytes _))
  | inr behind ↦
      let rest : Grows c o (said (drop at text)) (said (drop at (text ++ more))) =
      subst (λ (body : List ℕ). Grows c o (said (drop at text)) (said body))
      (sym (drop-append-le at text more behind)) (grows (drop at text)) in
      rw (le-leb at (length text) behind)
      (rw (le-leb at (length (text ++ more)) (omega (arith, behind, length-append text more))) rest)
]

heading_grows : (c : Config) (h : Heading) (text more : List ℕ)
    → Grows c sends_head (heading_judged c h text) (heading_judged c h (text ++ more))
heading_grows c incomplete text more = inl (refl, refl)
heading_grows c too_long text more =
    once_grows c sends_head 8192 text more (λ body. finished (Some (One, replies.BadHead)) endings.LongHead) (λ j. refl)
    (λ body. inr (same_self c sends_head _))
heading_grows c (whole at answer) text more =
    once_grows c sends_head at text more (λ body. request_judged c body answer) (λ j. refl)
    (λ body. request_grows c sends_head body more answer)
heading_grows c (answered at said) text more = inl (refl, refl)

relay_grows : (c : Config) (n mount : ℕ) (h : Heading) (text more : List ℕ)
    → Grows c (relays n) (relay_judged mount h text) (relay_judged mount h (text ++ more))
relay_grows c n mount incomplete text more = inl (refl, refl)
relay_grows c n mount too_long text more =
    once_grows c (relays n) 8192 text more (λ body. finished None endings.LongHead) (λ j. refl)
    (λ body. inr (same_self c (relays n) _))
relay_grows c n mount (whole at answer) text more = inl (refl, refl)
relay_grows c n mount (answered at said) text more =
    once_grows c (relays n) at text more (λ body. said_judged mount body said) (λ j. refl)
    (λ body. said_grows c (relays n) mount body more said)

pub judged_grows : (c : Config) (o : Opening) (h : Heading) (text more : List ℕ)
    → Grows c o (judged c o h text) (judged c o h (text ++ more))
judged_grows c sends_head h text more = heading_grows c h text more
judged_grows c (relays n) h text more = relay_grows c n (mount_fed (slice_get c.relay n)) h text more
judged_grows c (bare_source mount) h text more =
    source_grows c (bare_source mount) None false text more (bare_admission c mount)
judged_grows c (bare_rover mount) h text more =
    rover_grows c (bare_rover mount) None None text more (admission c auths.None mount)

-- ---- one that goes on

-- it waits, or it called something
abbrev pub IsSome : List Step → Type 0
IsSome steps = (step : Step) × (rest : List Step) × (steps ≡ step ∷ rest)

none_goes : (b : Bool) → (b && false) ≡ true → ⊥
none_goes true is = absurd cc
none_goes false is = absurd cc

pub going_called : (c : Config) (j : Judged) (steps : List Step) (closed : Option Last)
    → goes_on j steps closed ≡ true → IsMade (plan_of c j) (owed_among steps) → (j ≡ waiting) ⊎ IsSome steps
going_called c waiting steps closed goes made = inl refl
going_called c (finished reply end) steps closed goes made = absurd (none_goes (is_none closed) goes)
going_called c (source terms body) [] closed goes made = absurd made
going_called c (source terms body) (step ∷ steps) closed goes made = inr (step, steps, refl)
going_called c (rover terms tail) [] closed goes made = absurd made
going_called c (rover terms tail) (step ∷ steps) closed goes made = inr (step, steps, refl)

pub received_some : (steps more : List Step) → IsSome steps → first_answer (steps ++ more) ≡ first_answer steps
received_some steps more (step, rest, is) =
    ap (λ (l : List Step). first_answer (l ++ more)) is ∙ sym (ap first_answer is)

-- ---- who has segments

-- no segments, or a rover that entered
abbrev pub IsOne : Judged → List Step → Type 0
IsOne j steps =
    (segments_after [] steps ≡ [])
    ⊎ ((terms : RoverTerms) × (tail : List ℕ) × (j ≡ rover terms tail)
    × (first_answer steps ≡ Some (of_book Entered)))

module _ (c : Config) (heading : Heading) (h : Histories) (d : Connected) (s : Stood c heading h d) where
  owed_is : owed_among d.steps ≡ owed_among s.first ++ owed_among s.last
  owed_is = ap owed_among s.split ∙ owed-append s.first s.last

  last_never : AreJoins IsNever (owed_among s.last)
  last_never = elim s.ends [
    | inl (none, goes) ↦ subst (λ (l : List Step). AreJoins IsNever (owed_among l)) (sym none) tt
    | inr (over, made) ↦
        last_such IsNever (closing (judged_of c heading d) s.first) s.last
        (closing_such IsNever (came_to (judged_of c heading d) s.first) (segments_after [] s.first)) made
  ]

  pub no_segments : AreJoins IsNever (owed_among s.first) → segments_after [] d.steps ≡ []
  no_segments never =
      none_such (segments_after [] d.steps)
      (walk_keeps IsNever c [] d.steps s.walked.answered s.walked.on
      (subst (AreJoins IsNever) (sym owed_is)
      (joins-append IsNever (owed_among s.first) (owed_among s.last) never last_never))
      (All-nil (HasSuch IsNever)))

  first_answered : AreAnswered c (owed_among s.first)
  first_answered = answered_owed c s.first (answered_front c s.first s.last
      (subst (AreAnswered c) s.split s.walked.answered))

  one_by : (j : Judged) → IsMade (plan_of c j) (owed_among s.first) → IsOne j d.steps
  one_by waiting made = inl (no_segments (subst (AreJoins IsNever) (sym made) tt))
  one_by (finished reply end) made = inl (no_segments (subst (AreJoins IsNever) (sym made) tt))
  one_by (source terms body) made = inl (no_segments (source_joins c terms body (owed_among s.first) made))
  one_by (rover terms tail) made = elim (entry_made c terms tail (owed_among s.first) first_answered made) [
    | inl entry ↦ inr (
      terms,
      tail,
      refl,
      sym (received_owed d.steps s.walked.on) ∙ ap first_answer (owed_is
          ∙ ap (λ (l : List Step). l ++ owed_among s.last) entry.steps_are),
    )
    | inr other ↦ inl (no_segments (subst (AreJoins IsNever) (sym other.steps_are) (tt, tt)))
  ]

  pub is_one : IsOne (judged_of c heading d) d.steps
  is_one = one_by (judged_of c heading d) s.made_is

  -- ---- who entered

  abbrev IsEntered : Judged → Type 0
  IsEntered j =
      (terms : RoverTerms) × (tail : List ℕ) × (j ≡ rover terms tail)
      × (first_answer d.steps ≡ Some (of_book Entered))

  pub has_entered : is_entered (came_to (judged_of c heading d) d.steps) ≡ true → IsEntered (judged_of c heading d)
  has_entered is = entered_parts (judged_of c heading d) (first_answer d.steps) is
