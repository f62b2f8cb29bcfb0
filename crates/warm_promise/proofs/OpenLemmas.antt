-- A connection that just opened was sent what it is sent without greetings.
use Rattle.std.proofs.Common.{◌≡◌, ◌∙◌, ℕ, zero, suc, Bool, true, false, List, [], ◌∷◌, length, take, drop, reverse, None, Some, Result, Ok, Err, inl, inr, refl, sym, ap, subst, arith}
use Rattle.std.specs.Prelude.{nat_le, slice_get}
use Rattle.rover_cursor.specs.declared.segment.Segment.{Segment}
use Rattle.ntrip_head.specs.Head.{IsHead}
use Rattle.ntrip_head.specs.declared.request.Auth.TheVariants as auths
use Rattle.ntrip_client.specs.Answer.{Said}
use Rattle.access_groups.specs.declared.admission.Admission.{Admission}
use Rattle.access_groups.specs.declared.admission.Denial.{Denial}
use Rattle.access_groups.specs.declared.admission.Denial.TheVariants as denials
use Rattle.access_groups.specs.declared.admission.SourceDenial.{SourceDenial}
use Rattle.access_groups.specs.declared.admission.SourceDenial.TheVariants as sources
use Rattle.access_groups.specs.Admission.{admission}
use Rattle.session_calls.specs.Plans.{Plan, left}
use Rattle.rover_session.specs.Owed.{plan_by, Terms}
use Rattle.cast_config.specs.declared.config.Config.{Config}
use Rattle.cast_config.specs.Kept.{KeepsRules}
use Rattle.session_model.specs.Headings.{Heading, incomplete, too_long, whole, answered}
use Rattle.session_model.specs.Judged.{Opening, sends_head, relays, bare_source, bare_rover, RoverTerms, Judged, waiting, finished, rover, source_judged, rover_judged, once, said_judged, relay_judged, mount_fed, bare_admission, judged}
use Rattle.session_model.specs.Owed.{came_to, is_let_in, if_entered, terms_of, plan_of, arrives}
use Rattle.session_model.specs.Endings.{ended_by}
use Rattle.session_model.specs.Replies.{kept_frames}
use Rattle.session_model.specs.Reports.{IsHeadingOf}
use Rattle.session_model.specs.Run.{Histories, Moved, judged_of, makes, with_text, moved, fresh}
use Rattle.session_model.proofs.GoodLemmas.{good_left, good_plan}
use Rattle.session_model.proofs.GrowLemmas.{heading_before}
use Rattle.turn_log.specs.History.{History}
use Rattle.mount_ring.specs.declared.call.RingCall.{RingCall}
use Rattle.run_promise.proofs.MadeLemmas.{IsWithin}
use Rattle.run_promise.proofs.WalkLemmas.{IsNever, JoinsSuch}
use Rattle.run_promise.proofs.WithinLemmas.{plan_within, left_within, judged_fed}
use Rattle.run_promise.proofs.StoodLemmas.{Walked, fresh_moves}
use Rattle.warm_promise.proofs.JudgedLemmas.{near_of, by_bytes, IsOne, is_one}
use Rattle.warm_promise.proofs.SentLemmas.{AreSentBack}
use Rattle.warm_promise.proofs.MoveLemmas.{segments_of, SentOf, plain_of, Came, came_if, came_first}

-- ---- what is judged of no bytes

-- no head is empty
no_head : (bytes : List ℕ) → IsHead (take 0 bytes) → ⊥
no_head [] head = let ends = head.ends in absurd cc
no_head (x ∷ bytes) head = let ends = head.ends in absurd cc

pub none_judged : (c : Config) (bytes : List ℕ) (heading : Heading) → IsHeadingOf (Some sends_head) bytes heading
    → judged c sends_head heading [] ≡ waiting
none_judged c bytes incomplete is = refl
none_judged c bytes too_long is = refl
none_judged c bytes (whole zero answer) is = absurd (no_head bytes is.1)
none_judged c bytes (whole (suc at) answer) is = heading_before c (whole (suc at) answer) [] (omega arith)
none_judged c bytes (answered at said) is = refl

once_no_rover : (b : Bool) (j : Judged) (terms : RoverTerms) (tail : List ℕ) → (j ≡ rover terms tail → ⊥)
    → once b j ≡ rover terms tail → ⊥
once_no_rover true j terms tail never is = never is
once_no_rover false j terms tail never is = cc

source_no_rover : (terms : RoverTerms) (tail : List ℕ) (version : _) (chunked : Bool) (body : List ℕ)
    (r : Result ℕ SourceDenial) → source_judged version chunked body r ≡ rover terms tail → ⊥
source_no_rover terms tail version chunked body (Ok mount) is = cc
source_no_rover terms tail version chunked body (Err sources.NoMount) is = cc
source_no_rover terms tail version chunked body (Err sources.Password) is = cc

said_no_rover : (terms : RoverTerms) (tail : List ℕ) (mount : ℕ) (body : List ℕ) (said : Said)
    → said_judged mount body said ≡ rover terms tail → ⊥
said_no_rover terms tail mount body (Ok chunked) is = cc
said_no_rover terms tail mount body (Err refusal) is = cc

relay_no_rover : (terms : RoverTerms) (tail : List ℕ) (mount : ℕ) (heading : Heading) (text : List ℕ)
    → relay_judged mount heading text ≡ rover terms tail → ⊥
relay_no_rover terms tail mount incomplete text is = cc
relay_no_rover terms tail mount too_long text is =
    once_no_rover (nat_le 8192 (length text)) _ terms tail (λ so. finished_no so) is
  where
    finished_no : {end : _} → finished None end ≡ rover terms tail → ⊥
    finished_no so = cc
relay_no_rover terms tail mount (whole at answer) text is = cc
relay_no_rover terms tail mount (answered at said) text is =
    once_no_rover (nat_le at (length text)) (said_judged mount (drop at text) said) terms tail
    (said_no_rover terms tail mount (drop at text) said) is

-- a bare rover that joins by bytes joins by none
entered_never : (let_in : Bool) (plan : Plan) → JoinsSuch IsNever plan → JoinsSuch IsNever (if_entered let_in plan)
entered_never true plan never = never
entered_never false plan never = tt

near_never : (near : Bool) (terms : Terms) → near ≡ true → JoinsSuch IsNever (plan_by near terms [])
near_never true terms is = tt
near_never false terms is = absurd cc

-- ---- one that opens

back_if : (joins : Bool) (c : Config) (h : List (History RingCall)) (segments : List Segment)
    → (joins ≡ true → segments ≡ []) → AreSentBack joins c h segments (kept_frames c h (reverse segments))
back_if true c h segments none =
    subst (λ (l : List Segment). AreSentBack true c h l (kept_frames c h (reverse l))) (sym (none refl)) refl
back_if false c h segments none = refl

rover_never : (c : Config) (r : Result Admission Denial) → near_of (rover_judged None None [] r) ≡ true
    → JoinsSuch IsNever (left (plan_of c (rover_judged None None [] r)) [])
rover_never c (Ok a) is =
    (tt, λ answer. entered_never (is_let_in answer) _ (near_never a.near (terms_of c a) is))
rover_never c (Err denials.NoMount) is = tt
rover_never c (Err denials.NoAccount) is = tt
rover_never c (Err (denials.Password account)) is = tt
rover_never c (Err (denials.Group group)) is = tt

module _ (c : Config) (cap : ℕ) (heading : Heading) (h : Histories) (number : ℕ) (o : Opening)
    (kept : KeepsRules cap c) (walked : Walked c h number [])
    (waits : o ≡ sends_head → judged c o heading [] ≡ waiting) where
  abbrev k : Judged
  k = judged c o heading []

  abbrev plan : Plan
  plan = left (plan_of c k) []

  abbrev m : Moved
  m = moved c heading h (fresh number o) (arrives [])

  came : Came c h (fresh number o) (with_text (fresh number o) []) plan m
  came =
      came_if (ended_by (came_to k (makes c h (with_text (fresh number o) []) plan).connection.steps)) c h
      (fresh number o) (with_text (fresh number o) []) plan k (makes c h (with_text (fresh number o) []) plan)
      (came_first c h (fresh number o) (with_text (fresh number o) []) plan refl
      (good_left (plan_of c k) [] (good_plan c k))
      (subst (λ (n : ℕ). IsWithin n plan) (sym walked.size)
      (left_within (length c.mount) (plan_of c k) [] (plan_within c k (judged_fed c cap o heading [] kept)))))

  judged_now : judged_of c heading m.connection ≡ k
  judged_now =
      ap (λ (x : Opening). judged c x heading m.connection.text) came.opening
      ∙ ap (λ (t : List ℕ). judged c o heading t) came.text

  one_now : IsOne k m.connection.steps
  one_now = subst (λ (x : Judged). IsOne x m.connection.steps) judged_now
      (is_one c heading m.histories m.connection (fresh_moves c cap heading h number o kept walked).stood)

  none_by : (x : Opening) → o ≡ x → by_bytes x k ≡ true → IsOne k m.connection.steps → segments_of m.connection ≡ []
  none_by x is joins (inl none) = none
  none_by sends_head is joins (inr (terms, tail, rover_is, in_it)) = absurd (no_rover (sym (waits is) ∙ rover_is))
    where
      no_rover : waiting ≡ rover terms tail → ⊥
      no_rover so = cc
  none_by (relays n) is joins (inr (terms, tail, rover_is, in_it)) =
      absurd (relay_no_rover terms tail (mount_fed (slice_get c.relay n)) heading []
      (ap (λ (y : Opening). judged c y heading []) (sym is) ∙ rover_is))
  none_by (bare_source mount) is joins (inr (terms, tail, rover_is, in_it)) =
      absurd (source_no_rover terms tail None false [] (bare_admission c mount)
      (ap (λ (y : Opening). judged c y heading []) (sym is) ∙ rover_is))
  none_by (bare_rover mount) is joins (inr (terms, tail, rover_is, in_it)) =
      let same : k ≡ judged c (bare_rover mount) heading [] = ap (λ (y : Opening). judged c y heading []) is in
      (came.quiet (subst (λ (y : Judged). JoinsSuch IsNever (left (plan_of c y) [])) (sym same)
      (rover_never c (admission c auths.None mount) (ap near_of (sym same) ∙ joins)))).all

  pub opened_sent : SentOf c heading m.histories m.connection (plain_of c heading m.histories m.connection)
  opened_sent = record {
    frames = kept_frames c m.histories.rings (reverse (segments_of m.connection));
    bytes_are = refl;
    sent = back_if (by_bytes m.connection.opening (judged_of c heading m.connection)) c m.histories.rings
        (segments_of m.connection)
        (λ joins. none_by o refl
        (ap (λ (y : Judged). by_bytes o y) (sym judged_now)
        ∙ ap (λ (x : Opening). by_bytes x (judged_of c heading m.connection)) (sym came.opening) ∙ joins) one_now);
  }
