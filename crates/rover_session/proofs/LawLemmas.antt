-- What follows for a rover: a Join is made only where the base changes, and its body reads as the
-- frames that it was sent.
use Rattle.std.proofs.Common.{◌≡◌, ◌≢◌, ℕ, ◌≤◌, Bool, true, false, List, [], ◌∷◌, ◌++◌, ◌+◌, ◌<◌, length, map, take, get_or, min, cond, Option, None, Some, option_to_list, refl, sym, ap, subst, ◌∙◌, arith}
use Rattle.std.specs.Prelude.{◌==◌, reverse}
use Rattle.std.specs.List.{concat, All, sum_by}
use Rattle.std.proofs.Math.Seq.{take-length}
use Rattle.std.proofs.lemmas.List.Sorted.{sum_by-IsPermutation, IsPermutation-reverse}
use Rattle.std.proofs.lemmas.Bool.{eqb-true, eqb-false}
use Rattle.std.proofs.lemmas.List.{append-nil, length-map, length-reverse, take_more}
use Rattle.std.proofs.lemmas.List.Elements.{All-nil, All-cons, All-head, All-tail, All-append}
use Rattle.std.proofs.lemmas.List.Concat.{flat_map-append}
use Rattle.gga_read.specs.declared.Position.{Position}
use Rattle.gga_read.specs.Report.{reports}
use Rattle.base_select.specs.declared.Base.{Base}
use Rattle.mount_ring.specs.declared.call.RingCall.TheVariants.{Claim, Release, Publish, Join, Look, Read}
use Rattle.ntrip_head.specs.declared.request.Version.{Version}
use Rattle.ntrip_head.specs.declared.request.Version.TheVariants.{One}
use Rattle.rover_cursor.specs.declared.fault.SegFault.{SegFault}
use Rattle.rover_cursor.specs.declared.segment.Segment.{Segment}
use Rattle.session_calls.specs.Steps.{Step, Ask, to_ring, at_ring, at_book, ask_of, answer_of}
use Rattle.session_calls.specs.Plans.{Plan, IsMade, IsBegun}
use Rattle.session_calls.proofs.PlanLemmas.{made_begun}
use Rattle.rover_session.specs.Owed.{Terms, if_held, looks, chooses, changed, joins, follows, joins_each, plan_by, rover_plan}
use Rattle.rover_session.specs.Made.{after_ask, bases_joined, Changes, owed_among, IsMadeUntil}
use Rattle.rover_session.specs.Body.{frame_sent, body_of}
use Rattle.rover_session.specs.Standing.{Rover, Stands}
use Rattle.rover_session.proofs.FollowLemmas.{choice_stays}

-- ---- joins

-- what a step joins is told by its call
joined_by_ask : (step : Step) (ask : Ask) (steps : List Step) → ask_of step ≡ ask
    → bases_joined (step ∷ steps) ≡ option_to_list (after_ask None ask) ++ bases_joined steps
joined_by_ask step ask steps is =
    ap (λ (a : Ask). option_to_list (after_ask None a) ++ bases_joined steps) is

-- each Join of this plan, as far as it is made, is at another base than the one before
abbrev MovesOn : Option ℕ → Plan → Type 0
MovesOn present plan = (steps : List Step) → IsBegun plan steps → Changes present (bases_joined steps)

looks_move : (present : Option ℕ) (bases held : List Base) (next : List Base → Plan)
    → ((all : List Base) → MovesOn present (next all)) → MovesOn present (looks bases held next)
looks_move present [] held next each steps begun = each held steps begun
looks_move present (base ∷ bases) held next each [] begun = tt
looks_move present (base ∷ bases) held next each (step ∷ steps) begun =
    subst (Changes present) (sym (joined_by_ask step (to_ring base.mount Look) steps begun.0))
    (looks_move present bases (held ++ if_held base (answer_of step)) next each steps begun.1)

join_moves : (present : Option ℕ) (filter mount : ℕ) (plan : Plan) → present ≢ Some mount
    → MovesOn (Some mount) plan → MovesOn present (joins filter (Some mount) plan)
join_moves present filter mount plan other moves [] begun = tt
join_moves present filter mount plan other moves (step ∷ steps) begun =
    subst (Changes present) (sym (joined_by_ask step (to_ring mount (Join filter)) steps begun.0))
    (other, moves steps begun.1)

unless_moves : (base filter mount : ℕ) (same : Bool) (plan : Plan) → (same ≡ true → base ≡ mount)
    → (same ≡ false → base ≢ mount) → MovesOn (Some mount) plan
    → MovesOn (Some base) (joins filter (cond same None (Some mount)) plan)
unless_moves base filter mount true plan is other moves =
    subst (λ (m : ℕ). MovesOn (Some m) plan) (sym (is refl)) moves
unless_moves base filter mount false plan is other moves =
    join_moves (Some base) filter mount plan
    (λ (e : Some base ≡ Some mount). let same : base ≡ mount = cc in other refl same) moves

joins_move : (present chosen : Option ℕ) (filter : ℕ) (plan : Plan) → (chosen ≡ None → present ≡ None)
    → MovesOn chosen plan → MovesOn present (joins filter (changed present chosen) plan)
joins_move None None filter plan stays moves = moves
joins_move (Some base) None filter plan stays moves =
    let none : Some base ≡ None = stays refl in absurd cc
joins_move None (Some mount) filter plan stays moves =
    join_moves None filter mount plan (λ (e : None ≡ Some mount). absurd cc) moves
joins_move (Some base) (Some mount) filter plan stays moves =
    unless_moves base filter mount (base == mount) plan (eqb-true base mount) (eqb-false base mount) moves

follows_move : (terms : Terms) (present : Option ℕ) (told : List Position)
    → MovesOn present (follows terms present told)
follows_move terms present [] [] begun = tt
follows_move terms present [] (step ∷ steps) begun = absurd begun
follows_move terms present (rover ∷ told) steps begun =
    let choice : List Base → Option ℕ = λ held. chooses terms.hysteresis present rover held in
    looks_move present terms.bases []
    (λ held. joins terms.filter (changed present (choice held)) (follows terms (choice held) told))
    (λ held. joins_move present (choice held) terms.filter (follows terms (choice held) told)
    (choice_stays terms.hysteresis present rover held) (follows_move terms (choice held) told))
    steps begun

-- reads join nothing
joined_owed : (steps : List Step) → bases_joined (owed_among steps) ≡ bases_joined steps
joined_owed [] = refl
joined_owed (at_ring mount Claim answer ∷ steps) = joined_owed steps
joined_owed (at_ring mount (Release claim) answer ∷ steps) = joined_owed steps
joined_owed (at_ring mount (Publish claim frame) answer ∷ steps) = joined_owed steps
joined_owed (at_ring mount (Join filter) answer ∷ steps) = ap (λ (l : List ℕ). mount ∷ l) (joined_owed steps)
joined_owed (at_ring mount Look answer ∷ steps) = joined_owed steps
joined_owed (at_ring mount (Read cursor budget) answer ∷ steps) = joined_owed steps
joined_owed (at_book call answer ∷ steps) = joined_owed steps

begun_of : (halt : Option SegFault) (plan : Plan) (steps : List Step) → IsMadeUntil halt plan steps → IsBegun plan steps
begun_of None plan steps made = made_begun plan steps made
begun_of (Some fault) plan steps begun = begun

pub joins_change : (rover : Rover) (first : Option Position) (bytes : List ℕ) (steps : List Step)
    → Stands rover first bytes steps → rover.terms.near ≡ true → Changes None (bases_joined steps)
joins_change rover first bytes steps stands near =
    let told : List Position = option_to_list first ++ reports bytes in
    subst (Changes None) (joined_owed steps)
    (follows_move rover.terms None told (owed_among steps)
    (subst (λ (b : Bool). IsBegun (plan_by b rover.terms told) (owed_among steps)) near
    (begun_of rover.halt (rover_plan rover.terms first bytes) (owed_among steps) stands.owed)))

-- as many segments as Joins
pub segments_count : (rover : Rover) (first : Option Position) (bytes : List ℕ) (steps : List Step)
    → Stands rover first bytes steps → length rover.segments ≡ length (bases_joined steps)
segments_count rover first bytes steps stands =
    sym (length-map rover.segments (λ (segment : Segment). segment.mount))
    ∙ ap length stands.mounts
    ∙ length-reverse (bases_joined steps)

one_at_most : (base : ℕ) (joined : List ℕ) → Changes None joined → All (λ mount. mount ≡ base) joined
    → length joined ≤ 1
one_at_most base [] changes all = omega arith
one_at_most base (mount ∷ []) changes all = omega arith
one_at_most base (mount ∷ next ∷ later) changes all =
    let first : mount ≡ base = All-head (λ (m : ℕ). m ≡ base) mount (next ∷ later) all in
    let second : next ≡ base =
    All-head (λ (m : ℕ). m ≡ base) next later (All-tail (λ (m : ℕ). m ≡ base) mount (next ∷ later) all) in
    absurd (changes.1.0 (ap Some (first ∙ sym second)))

pub one_segment : (rover : Rover) (first : Option Position) (bytes : List ℕ) (steps : List Step) (base : ℕ)
    → Stands rover first bytes steps → rover.terms.near ≡ true → All (λ mount. mount ≡ base) (bases_joined steps)
    → length rover.segments ≤ 1
one_segment rover first bytes steps base stands near all =
    omega (
      arith,
      segments_count rover first bytes steps stands,
      one_at_most base (bases_joined steps) (joins_change rover first bytes steps stands near) all,
    )

each_joined : (filter : ℕ) (bases : List Base) (steps : List Step) → IsMade (joins_each filter bases) steps
    → bases_joined steps ≡ map (λ (base : Base). base.mount) bases
each_joined filter [] steps made = ap bases_joined made
each_joined filter (base ∷ bases) [] made = absurd made
each_joined filter (base ∷ bases) (step ∷ steps) made =
    joined_by_ask step (to_ring base.mount (Join filter)) steps made.0
    ∙ ap (λ (l : List ℕ). base.mount ∷ l) (each_joined filter bases steps made.1)

-- a rover that is not near joins its bases once
pub far_joins : (rover : Rover) (first : Option Position) (bytes : List ℕ) (steps : List Step)
    → Stands rover first bytes steps → rover.halt ≡ None → rover.terms.near ≡ false
    → bases_joined steps ≡ map (λ (base : Base). base.mount) rover.terms.bases
far_joins rover first bytes steps stands going far =
    let told : List Position = option_to_list first ++ reports bytes in
    let plan : Plan = rover_plan rover.terms first bytes in
    let made : IsMade plan (owed_among steps) =
    subst (λ (h : Option SegFault). IsMadeUntil h plan (owed_among steps)) going stands.owed in
    sym (joined_owed steps)
    ∙ each_joined rover.terms.filter rover.terms.bases (owed_among steps)
    (subst (λ (b : Bool). IsMade (plan_by b rover.terms told) (owed_among steps)) far made)

-- ---- the body

pub body_plain : (frames : List (List ℕ)) → body_of One frames ≡ concat frames
body_plain [] = refl
body_plain (frame ∷ frames) = ap (λ (l : List ℕ). frame ++ l) (body_plain frames)

pub body-append : (version : Version) (first second : List (List ℕ))
    → body_of version (first ++ second) ≡ body_of version first ++ body_of version second
body-append version first second = flat_map-append (frame_sent version) first second

-- ---- sums

pub sum_reversed : (f : Segment → ℕ) (segments : List Segment)
    → sum_by f (reverse segments) ≡ sum_by f segments
sum_reversed f segments =
    sum_by-IsPermutation f segments (reverse segments) (IsPermutation-reverse segments)

pub sum_all : (f : Segment → ℕ) (segments : List Segment) (most : ℕ)
    → min (sum_by f (take (length segments) segments)) most ≡ min (sum_by f (reverse segments)) most
sum_all f segments most =
    ap (λ (l : List Segment). min (sum_by f l) most) (take-length segments)
    ∙ ap (λ (n : ℕ). min n most) (sym (sum_reversed f segments))

-- ---- one frame more

pub body_more : (version : Version) (frames : List (List ℕ)) (i : ℕ) (frame : List ℕ) → i < length frames
    → frame ≡ get_or frames i frame
    → body_of version (take (i + 1) frames) ≡ body_of version (take i frames) ++ frame_sent version frame
body_more version frames i frame within is =
    ap (body_of version) (take_more frames i frame within
    ∙ ap (λ (f : List ℕ). take i frames ++ f ∷ []) (sym is))
    ∙ body-append version (take i frames) (frame ∷ [])
    ∙ ap (λ (l : List ℕ). body_of version (take i frames) ++ l) (append-nil (frame_sent version frame))

pub all_more : {X : Type 0} (P : X → Type 0) (xs : List X) (i : ℕ) (x : X) → i < length xs → x ≡ get_or xs i x
    → All P (take i xs) → P x → All P (take (i + 1) xs)
all_more P xs i x within is all here =
    subst (All P) (sym (take_more xs i x within))
    (All-append P (take i xs) (get_or xs i x ∷ []) all (All-cons P (get_or xs i x) [] (subst P is here) (All-nil P)))
