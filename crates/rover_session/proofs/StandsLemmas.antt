-- What a session stands for, after each of its calls.
use Rattle.std.proofs.Common.{◌≡◌, ℕ, zero, suc, ◌+◌, ◌<◌, Bool, List, [], ◌∷◌, ◌++◌, length, get_or, set, Option, None, Some, Result, Ok, Err, refl, sym, ap, subst, ◌∙◌, arith}
use Rattle.std.specs.Prelude.{reverse, OnOk}
use Rattle.std.specs.Result.{result_err}
use Rattle.std.proofs.lemmas.List.{append-nil, reverse-append}
use Rattle.cast_text.specs.Lines.{LineState}
use Rattle.cast_text.specs.Lines as lines
use Rattle.turn_log.specs.History.{History}
use Rattle.gga_read.specs.declared.Position.{Position}
use Rattle.gga_read.specs.Report.{reports}
use Rattle.mount_ring.specs.declared.call.RingCall.{RingCall}
use Rattle.mount_ring.specs.declared.call.RingCall.TheVariants as calls
use Rattle.mount_ring.specs.declared.call.RingAnswer.TheVariants as answers
use Rattle.mount_ring.specs.declared.cursor.ReadReport.{ReadReport}
use Rattle.mount_ring.specs.declared.shape.RingShape.{RingShape}
use Rattle.rover_cursor.specs.declared.segment.Segment.{Segment}
use Rattle.rover_cursor.specs.declared.fault.SegFault.{SegFault}
use Rattle.rover_cursor.specs.Segments.{read_on}
use Rattle.rover_cursor.specs.Told.{IsSegment}
use Rattle.session_calls.specs.Steps.{Step, at_ring}
use Rattle.session_calls.specs.Plans.{Plan, IsMade, IsBegun}
use Rattle.session_calls.specs.Rings.{history_at, shape_at, Went}
use Rattle.session_calls.proofs.PlanLemmas.{begun_longer}
use Rattle.session_calls.proofs.WentLemmas.{went_none}
use Rattle.rover_session.specs.Owed.{rover_plan, heeds, reads}
use Rattle.rover_session.specs.Made.{base_after, bases_joined, mounts_of, present_base, segments_after, owed_among, IsMadeUntil}
use Rattle.rover_session.specs.Standing.{Rover, IsResumable, Followed, Stands, Told, ReadOn}
use Rattle.rover_session.proofs.FollowLemmas.{rover_begins, rover_left}
use Rattle.rover_session.proofs.MadeLemmas.{base-append, joined-append, segments-append, owed-append, until_both, mounts_both}
use Rattle.rover_session.proofs.SegmentLemmas.{went_extends, all_later}

-- ---- told more

pub told_fed : (shapes : List RingShape) (alone : Bool) (old now : List (History RingCall)) (rover : Rover)
    (line : LineState) (after : List Segment) (halt : Option SegFault) (first : Option Position)
    (before bytes : List ℕ) (steps : List Step) (new : List Position) → rover.halt ≡ None
    → (halt ≡ None → lines.StandsFor line (before ++ bytes)) → reports (before ++ bytes) ≡ reports before ++ new
    → Followed shapes alone old now rover.me (heeds rover.terms.near rover.terms (present_base rover.segments) new) halt
    rover.segments after
    → Stands rover first before steps
    → Told shapes alone old now (record rover { line = line; segments = after; halt = halt }) first (before ++ bytes)
    steps
told_fed shapes alone old now rover line after halt first before bytes steps new going line_stands more x stands =
    let plan : Plan = rover_plan rover.terms first before in
    let later : Plan = rover_plan rover.terms first (before ++ bytes) in
    let next : Option ℕ → Plan = λ base. heeds rover.terms.near rover.terms base new in
    let made : IsMade plan (owed_among steps) =
    subst (λ (h : Option SegFault). IsMadeUntil h plan (owed_among steps)) going stands.owed in
    let all : owed_among (steps ++ x.steps) ≡ owed_among steps ++ x.steps =
    owed-append steps x.steps ∙ ap (λ (l : List Step). owed_among steps ++ l) x.no_read in record {
      more = x.steps;
      went = x.went;
      no_read = x.no_read;
      stands = record {
        line = line_stands;
        owed = subst (λ (l : List Step). IsMadeUntil halt later l) (sym all)
            (until_both halt plan later (next (present_base rover.segments)) (owed_among steps) x.steps
            (rover_begins rover.terms first before bytes) made
            (rover_left rover.terms first before bytes new (owed_among steps) more made ∙ ap next stands.base) x.made);
        base = ap (base_after None) all
            ∙ base-append None (owed_among steps) x.steps
            ∙ ap (λ (base : Option ℕ). base_after base x.steps) stands.base
            ∙ x.base;
        segments = x.segments
            ∙ ap (λ (s : List Segment). segments_after s x.steps) stands.segments
            ∙ sym (segments-append [] steps x.steps);
        mounts = mounts_both steps x.steps [] (mounts_of rover.segments) (mounts_of after)
            (stands.mounts ∙ sym (append-nil (reverse (bases_joined steps)))) x.mounts
            ∙ append-nil (reverse (bases_joined (steps ++ x.steps)));
      };
    }

-- a session that was halted before calls nothing
pub told_halted : (shapes : List RingShape) (alone : Bool) (histories : List (History RingCall)) (rover : Rover)
    (fault : SegFault) (first : Option Position) (before bytes : List ℕ) (steps : List Step)
    → rover.halt ≡ Some fault → Stands rover first before steps
    → Told shapes alone histories histories rover first (before ++ bytes) steps
told_halted shapes alone histories rover fault first before bytes steps halted stands =
    let plan : Plan = rover_plan rover.terms first before in
    let later : Plan = rover_plan rover.terms first (before ++ bytes) in
    let begun : IsBegun plan (owed_among steps) =
    subst (λ (h : Option SegFault). IsMadeUntil h plan (owed_among steps)) halted stands.owed in
    let longer : IsMadeUntil rover.halt later (owed_among steps) =
    subst (λ (h : Option SegFault). IsMadeUntil h later (owed_among steps)) (sym halted)
    (begun_longer plan later (owed_among steps) (rover_begins rover.terms first before bytes) begun) in
    let so_far : Stands rover first (before ++ bytes) steps = record {
      line = λ none. let clash : Some fault ≡ None = sym halted ∙ none in absurd cc;
      owed = longer;
      base = stands.base;
      segments = stands.segments;
      mounts = stands.mounts;
    } in record {
      more = [];
      went = went_none shapes alone histories rover.me;
      no_read = refl;
      stands = subst (λ (l : List Step). Stands rover first (before ++ bytes) l) (sym (append-nil steps)) so_far;
    }

-- ---- a turn

-- without a segment nothing is called
pub read_none : (shapes : List RingShape) (alone : Bool) (histories : List (History RingCall)) (budget : ℕ)
    (rover : Rover) (first : Option Position) (bytes : List ℕ) (steps : List Step) → rover.segments ≡ []
    → Stands rover first bytes steps
    → ReadOn shapes alone histories histories budget rover.segments rover first bytes steps
read_none shapes alone histories budget rover first bytes steps none stands = record {
  more = [];
  went = went_none shapes alone histories rover.me;
  read = subst (λ (s : List Segment). IsMade (reads budget s) []) (sym none) refl;
  stands = subst (λ (l : List Step). Stands rover first bytes l) (sym (append-nil steps)) stands;
}

-- else the newest segment is read on
pub read_newest : (shapes : List RingShape) (alone : Bool) (old now : List (History RingCall)) (budget : ℕ)
    (rover : Rover) (segment : Segment) (older : List Segment) (report : ReadReport) (first : Option Position)
    (bytes : List ℕ) (steps : List Step) → rover.segments ≡ segment ∷ older
    → Went shapes alone old now rover.me
    (at_ring segment.mount (calls.Read segment.cursor budget) (answers.Read report) ∷ [])
    → Stands rover first bytes steps
    → ReadOn shapes alone old now budget rover.segments (record rover { segments = read_on report segment ∷ older })
    first bytes steps
read_newest shapes alone old now budget rover segment older report first bytes steps is went stands =
    let step : Step = at_ring segment.mount (calls.Read segment.cursor budget) (answers.Read report) in
    let owed : owed_among (steps ++ step ∷ []) ≡ owed_among steps =
    owed-append steps (step ∷ []) ∙ append-nil (owed_among steps) in record {
      more = step ∷ [];
      went = went;
      read = subst (λ (s : List Segment). IsMade (reads budget s) (step ∷ [])) (sym is) (refl, refl);
      stands = record {
        line = stands.line;
        owed = subst (λ (l : List Step). IsMadeUntil rover.halt (rover_plan rover.terms first bytes) l) (sym owed)
            stands.owed;
        base = ap (base_after None) owed ∙ stands.base ∙ ap present_base is;
        segments = ap (λ (s : List Segment). segments_after s (step ∷ [])) (sym is ∙ stands.segments)
            ∙ sym (segments-append [] steps (step ∷ []));
        mounts = ap mounts_of (sym is)
            ∙ stands.mounts
            ∙ ap reverse (sym (append-nil (bases_joined steps)) ∙ sym (joined-append steps (step ∷ [])));
      };
    }

-- the newest segment was read on, and those before it stay sound
pub resumable_read : (shapes : List RingShape) (alone : Bool) (me : ℕ) (old now : List (History RingCall))
    (steps : List Step) (segment next : Segment) (older : List Segment) → Went shapes alone old now me steps
    → next.mount ≡ segment.mount
    → IsSegment (shape_at shapes segment.mount) me (history_at now segment.mount) next
    → IsResumable shapes me old (segment ∷ older) → IsResumable shapes me now (next ∷ older)
resumable_read shapes alone me old now steps segment next older went same is before = (
  subst (λ m. m < length shapes) (sym same) before.0,
  subst (λ m. IsSegment (shape_at shapes m) me (history_at now m) next) (sym same) is,
  all_later shapes old now older (went_extends shapes alone old now me steps went) before.2,
)

-- the newest segment is the last one
pub newest_is : (items : List Segment) (n : ℕ) (d : Segment) → length items ≡ n + 1
    → (older : List Segment) × (reverse items ≡ get_or items n d ∷ older)
    × ((new : Segment) → reverse (set items n new) ≡ new ∷ older)
newest_is [] n d long = absurd (omega arith)
newest_is (x ∷ []) zero d long = ([], refl, λ new. refl)
newest_is (x ∷ []) (suc n) d long = absurd (omega arith)
newest_is (x ∷ y ∷ more) zero d long = absurd (omega arith)
newest_is (x ∷ y ∷ more) (suc n) d long =
    let rest = newest_is (y ∷ more) n d (omega arith) in (
      rest.0 ++ x ∷ [],
      reverse-append (x ∷ []) (y ∷ more) ∙ ap (λ (l : List Segment). l ++ x ∷ []) rest.1,
      λ new. reverse-append (x ∷ []) (set (y ∷ more) n new) ∙ ap (λ (l : List Segment). l ++ x ∷ []) (rest.2 new),
    )

-- ---- results

pub none_of_err : {T : Type 0} (P : Type 0) (r : Result T SegFault) (halt : Option SegFault) → halt ≡ result_err r
    → OnOk r P → halt ≡ None → P
none_of_err P (Ok x) halt is holds none = holds
none_of_err P (Err fault) halt is holds none = let clash : Some fault ≡ None = sym is ∙ none in absurd cc
