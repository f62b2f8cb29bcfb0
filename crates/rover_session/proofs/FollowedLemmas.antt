-- What a rover called for some reports, and then for some more.
use Rattle.std.proofs.Common.{◌≡◌, ℕ, ◌<◌, Bool, true, false, List, [], ◌∷◌, ◌++◌, length, Option, None, Some, option_to_list, Result, Err, refl, sym, ap, subst, ◌∙◌}
use Rattle.std.specs.Result.{result_err}
use Rattle.std.specs.Prelude.{reverse}
use Rattle.std.proofs.lemmas.List.{reverse-append}
use Rattle.turn_log.specs.History.{History}
use Rattle.gga_read.specs.declared.Position.{Position}
use Rattle.base_select.specs.declared.Base.{Base}
use Rattle.mount_ring.specs.declared.call.RingCall.{RingCall}
use Rattle.mount_ring.specs.declared.call.RingCall.TheVariants.{Join}
use Rattle.mount_ring.specs.declared.call.RingAnswer.TheVariants.{Joined}
use Rattle.mount_ring.specs.declared.shape.RingShape.{RingShape}
use Rattle.rover_cursor.specs.declared.segment.Segment.{Segment}
use Rattle.rover_cursor.specs.declared.fault.SegFault.{SegFault}
use Rattle.rover_cursor.specs.Segments.{begun}
use Rattle.rover_cursor.specs.Told.{IsSegment}
use Rattle.session_calls.specs.Steps.{Step, at_ring}
use Rattle.session_calls.specs.Plans.{Plan, done, IsMade, IsBegun}
use Rattle.session_calls.specs.Rings.{history_at, shape_at, Went}
use Rattle.session_calls.proofs.PlanLemmas.{begun_longer}
use Rattle.session_calls.proofs.WentLemmas.{went_none, went_both}
use Rattle.rover_session.specs.Owed.{Terms, chooses, changed, joins, follows, heeds, looks}
use Rattle.rover_session.specs.Made.{base_after, bases_joined, mounts_of, present_base, segments_after, IsMadeUntil}
use Rattle.rover_session.specs.Standing.{looked, AskedEach, AskedFirst, IsResumable, SentSoFar, KeepsSegments, frames_sent, Followed}
use Rattle.rover_session.proofs.FollowLemmas.{heeds_begin, heeds_left}
use Rattle.rover_session.proofs.MadeLemmas.{base-append, segments-append, owed_both, until_both, owed_looked, base_looked, joined_looked, mounts_both, segments_looked, looks_until, looks_cut}
use Rattle.rover_session.proofs.SegmentLemmas.{went_extends, all_sound, resumable_stays, looks_resume, resumable_joined, sent_later, sent_begun}

-- segments that were kept, and then kept again
pub keeps_both : (shapes : List RingShape) (me : ℕ) (old mid now : List (History RingCall)) (a b c : List Segment)
    → KeepsSegments shapes me old mid a b → KeepsSegments shapes me mid now b c → KeepsSegments shapes me old now a c
keeps_both shapes me old mid now a b c x y is =
    let first : SentSoFar shapes me mid b (frames_sent shapes old a) = x is in
    let second : SentSoFar shapes me now c (frames_sent shapes mid b) = y first.resumable in
    record { resumable = second.resumable; sent = second.sent ∙ first.sent }

-- looks keep them
keeps_looks : (shapes : List RingShape) (alone : Bool) (old now : List (History RingCall)) (me : ℕ)
    (lives : List (Base × Option ℕ)) (segments : List Segment) → Went shapes alone old now me (looked lives)
    → KeepsSegments shapes me old now segments segments
keeps_looks shapes alone old now me lives segments went is = record {
  resumable = resumable_stays shapes me old now (looks_resume shapes alone old now me lives went) segments is;
  sent = sent_later shapes old now segments (went_extends shapes alone old now me (looked lives) went)
      (all_sound shapes me old segments is);
}

-- nothing was called
pub followed_none : (shapes : List RingShape) (alone : Bool) (histories : List (History RingCall)) (me : ℕ)
    (plan : Plan) (refused : Option SegFault) (segments : List Segment) → IsMadeUntil refused plan []
    → Followed shapes alone histories histories me plan refused segments segments
followed_none shapes alone histories me plan refused segments made = record {
  steps = [];
  went = went_none shapes alone histories me;
  made = made;
  no_read = refl;
  base = refl;
  segments = refl;
  mounts = refl;
  keeps = λ is. record { resumable = is; sent = refl };
}

-- the same of histories and segments that are known by equations
pub followed_same : (shapes : List RingShape) (alone : Bool) (old now : List (History RingCall)) (me : ℕ)
    (plan : Plan) (refused : Option SegFault) (before after : List Segment) → IsMadeUntil refused plan []
    → now ≡ old → after ≡ before → Followed shapes alone old now me plan refused before after
followed_same shapes alone old now me plan refused before after made same segments =
    subst (λ (h : List (History RingCall)). Followed shapes alone old h me plan refused before after) (sym same)
    (subst (λ (s : List Segment). Followed shapes alone old old me plan refused before s) (sym segments)
    (followed_none shapes alone old me plan refused before made))

-- a join
pub followed_joined : (shapes : List RingShape) (alone : Bool) (old now : List (History RingCall)) (me mount filter : ℕ)
    (segment : Segment) (before after : List Segment) → mount < length shapes
    → Went shapes alone old now me (at_ring mount (Join filter) (Joined segment.cursor) ∷ [])
    → segment ≡ begun mount segment.cursor
    → IsSegment (shape_at shapes mount) me (history_at now mount) segment → after ≡ segment ∷ before
    → Followed shapes alone old now me (joins filter (Some mount) done) None before after
followed_joined shapes alone old now me mount filter segment before after within went begins is added =
    let here : segment.mount ≡ mount = ap (λ (s : Segment). s.mount) begins in
    let step : Step = at_ring mount (Join filter) (Joined segment.cursor) in record {
      steps = step ∷ [];
      went = went;
      made = (refl, refl);
      no_read = refl;
      base = ap Some (sym here) ∙ ap present_base (sym added);
      segments = added ∙ ap (λ (s : Segment). s ∷ before) begins;
      mounts = ap mounts_of added ∙ ap (λ (m : ℕ). m ∷ mounts_of before) here;
      keeps = λ resumable. record {
        resumable = subst (IsResumable shapes me now) (sym added)
            (resumable_joined shapes me old now before segment (went_extends shapes alone old now me (step ∷ []) went)
            (subst (λ m. m < length shapes) (sym here) within)
            (subst (λ m. IsSegment (shape_at shapes m) me (history_at now m) segment) (sym here) is) resumable);
        sent = ap (frames_sent shapes now) (added ∙ ap (λ (s : Segment). s ∷ before) begins)
            ∙ sent_begun shapes now mount segment.cursor before
            ∙ sent_later shapes old now before (went_extends shapes alone old now me (step ∷ []) went)
            (all_sound shapes me old before resumable);
      };
    }

mounts_looked : (lives : List (Base × Option ℕ)) (mounts : List ℕ)
    → mounts ≡ reverse (bases_joined (looked lives)) ++ mounts
mounts_looked lives mounts = ap (λ (l : List ℕ). reverse l ++ mounts) (sym (joined_looked lives))

-- looks, and then what follows from those that are held
pub followed_after : (shapes : List RingShape) (alone : Bool) (old mid now : List (History RingCall)) (me : ℕ)
    (terms : Terms) (present : Option ℕ) (rover : Position) (held : List Base) (refused : Option SegFault)
    (before after : List Segment) → AskedEach shapes alone old mid me terms.bases held
    → Followed shapes alone mid now me
    (joins terms.filter (changed present (chooses terms.hysteresis present rover held)) done) refused before after
    → Followed shapes alone old now me (follows terms present (rover ∷ [])) refused before after
followed_after shapes alone old mid now me terms present rover held refused before after asked x =
    let next : List Base → Plan = λ all. joins terms.filter (changed present
    (chooses terms.hysteresis present rover all)) done in
    let looks_made : List Step = looked asked.lives in record {
      steps = looks_made ++ x.steps;
      went = went_both shapes alone old mid now me looks_made x.steps asked.went x.went;
      made = subst (λ (bases : List Base). IsMadeUntil refused (looks bases [] next) (looks_made ++ x.steps))
          (sym asked.asked)
          (looks_until refused asked.lives next x.steps
          (subst (λ (all : List Base). IsMadeUntil refused (next all) x.steps) asked.held_are x.made));
      no_read = owed_both looks_made x.steps (owed_looked asked.lives) x.no_read;
      base = base-append (present_base before) looks_made x.steps
          ∙ ap (λ (base : Option ℕ). base_after base x.steps) (base_looked (present_base before) asked.lives)
          ∙ x.base;
      segments = x.segments
          ∙ ap (λ (s : List Segment). segments_after s x.steps) (sym (segments_looked before asked.lives))
          ∙ sym (segments-append before looks_made x.steps);
      mounts = mounts_both looks_made x.steps (mounts_of before) (mounts_of before) (mounts_of after)
          (mounts_looked asked.lives (mounts_of before)) x.mounts;
      keeps = keeps_both shapes me old mid now before before after
          (keeps_looks shapes alone old mid me asked.lives before asked.went) x.keeps;
    }

-- looks that were broken off
pub followed_first : (shapes : List RingShape) (alone : Bool) (old now : List (History RingCall)) (me : ℕ)
    (terms : Terms) (present : Option ℕ) (rover : Position) (fault : SegFault) (before : List Segment)
    → AskedFirst shapes alone old now me terms.bases
    → Followed shapes alone old now me (follows terms present (rover ∷ [])) (Some fault) before before
followed_first shapes alone old now me terms present rover fault before (first, rest, held, split, asked) =
    let next : List Base → Plan = λ all. joins terms.filter (changed present
    (chooses terms.hysteresis present rover all)) done in record {
      steps = looked asked.lives;
      went = asked.went;
      made = subst (λ (bases : List Base). IsBegun (looks bases [] next) (looked asked.lives))
          (ap (λ (bases : List Base). bases ++ rest) (sym asked.asked) ∙ sym split)
          (looks_cut asked.lives rest [] next);
      no_read = owed_looked asked.lives;
      base = base_looked (present_base before) asked.lives;
      segments = sym (segments_looked before asked.lives);
      mounts = mounts_looked asked.lives (mounts_of before);
      keeps = keeps_looks shapes alone old now me asked.lives before asked.went;
    }

-- some reports, and then some more
pub followed_both : (shapes : List RingShape) (alone : Bool) (old mid now : List (History RingCall)) (me : ℕ)
    (near : Bool) (terms : Terms) (told new : List Position) (refused : Option SegFault) (a b c : List Segment)
    → Followed shapes alone old mid me (heeds near terms (present_base a) told) None a b
    → Followed shapes alone mid now me (heeds near terms (present_base b) new) refused b c
    → Followed shapes alone old now me (heeds near terms (present_base a) (told ++ new)) refused a c
followed_both shapes alone old mid now me near terms told new refused a b c x y = record {
  steps = x.steps ++ y.steps;
  went = went_both shapes alone old mid now me x.steps y.steps x.went y.went;
  made = until_both refused (heeds near terms (present_base a) told) (heeds near terms (present_base a) (told ++ new))
      (heeds near terms (present_base b) new) x.steps y.steps (heeds_begin near terms (present_base a) told new) x.made
      (heeds_left near terms (present_base a) told new x.steps x.made
      ∙ ap (λ (base : Option ℕ). heeds near terms base new) x.base) y.made;
  no_read = owed_both x.steps y.steps x.no_read y.no_read;
  base = base-append (present_base a) x.steps y.steps
      ∙ ap (λ (base : Option ℕ). base_after base y.steps) x.base
      ∙ y.base;
  segments = y.segments
      ∙ ap (λ (s : List Segment). segments_after s y.steps) x.segments
      ∙ sym (segments-append a x.steps y.steps);
  mounts = mounts_both x.steps y.steps (mounts_of a) (mounts_of b) (mounts_of c) x.mounts y.mounts;
  keeps = keeps_both shapes me old mid now a b c x.keeps y.keeps;
}

-- what was broken off at some reports is broken off at more
pub followed_longer : (shapes : List RingShape) (alone : Bool) (old now : List (History RingCall)) (me : ℕ)
    (near : Bool) (terms : Terms) (told new : List Position) (fault : SegFault) (a b : List Segment)
    → Followed shapes alone old now me (heeds near terms (present_base a) told) (Some fault) a b
    → Followed shapes alone old now me (heeds near terms (present_base a) (told ++ new)) (Some fault) a b
followed_longer shapes alone old now me near terms told new fault a b x = record {
  steps = x.steps;
  went = x.went;
  made = begun_longer (heeds near terms (present_base a) told) (heeds near terms (present_base a) (told ++ new)) x.steps
      (heeds_begin near terms (present_base a) told new) x.made;
  no_read = x.no_read;
  base = x.base;
  segments = x.segments;
  mounts = x.mounts;
  keeps = x.keeps;
}

-- the same by other names of equal things
pub followed_as : (shapes shapes_too : List RingShape) (alone alone_too : Bool) (old now : List (History RingCall))
    (me : ℕ) (plan : Plan) (refused : Option SegFault) (before after : List Segment) → shapes_too ≡ shapes
    → alone_too ≡ alone → Followed shapes_too alone_too old now me plan refused before after
    → Followed shapes alone old now me plan refused before after
followed_as shapes shapes_too alone alone_too old now me plan refused before after same_shapes same_alone x =
    subst (λ (s : List RingShape). Followed s alone old now me plan refused before after) same_shapes
    (subst (λ (a : Bool). Followed shapes_too a old now me plan refused before after) same_alone x)

-- a rover that heeds no report
pub heeds_none : (near : Bool) (terms : Terms) (present : Option ℕ) → heeds near terms present [] ≡ done
heeds_none false terms present = refl
heeds_none true terms present = refl

-- ---- small steps of the code

-- what holds of a refusal holds of the result that hands it on
pub err_at : {T : Type 0} (P : Option SegFault → Type 0) (r : Result T SegFault) (fault : SegFault) → r ≡ Err fault
    → P (Some fault) → P (result_err r)
err_at P r fault is such = subst P (sym (ap result_err is)) such

-- a segment at the end of the list stands in front of the newest ones
pub pushed : (old mid new : List Segment) (segment : Segment) → mid ≡ old → new ≡ mid ++ segment ∷ []
    → reverse new ≡ segment ∷ reverse old
pushed old mid new segment same is =
    ap reverse (is ∙ ap (λ (l : List Segment). l ++ segment ∷ []) same) ∙ reverse-append old (segment ∷ [])

-- the mountpoint that is to be joined, by other names of equal things
pub changed_named : (h : ℕ) (to present also : Option ℕ) (rover : Position) (held list : List Base)
    → to ≡ changed also (chooses h also rover list) → also ≡ present → list ≡ held
    → changed present (chooses h present rover held) ≡ to
changed_named h to present also rover held list is same_present same_held =
    sym (is
    ∙ ap (λ (o : Option ℕ). changed o (chooses h o rover list)) same_present
    ∙ ap (λ (l : List Base). changed present (chooses h present rover l)) same_held)

-- a rover that heeds no report makes nothing
pub heeds_far : (near : Bool) (terms : Terms) (present : Option ℕ) (told : List Position) → near ≡ false
    → IsMade (heeds near terms present told) []
heeds_far near terms present told far =
    subst (λ (b : Bool). IsMade (heeds b terms present told) []) (sym far) refl

pub heeds_nothing : (near : Bool) (terms : Terms) (present : Option ℕ) (report : Option Position) → report ≡ None
    → IsMade (heeds near terms present (option_to_list report)) []
heeds_nothing near terms present report none =
    subst (λ (plan : Plan). IsMade plan [])
    (sym (ap (λ (o : Option Position). heeds near terms present (option_to_list o)) none
    ∙ heeds_none near terms present))
    refl
