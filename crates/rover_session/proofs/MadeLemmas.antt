-- What steps make of a plan, of the present base and of the segments.
use Rattle.std.proofs.Common.{◌≡◌, ℕ, List, [], ◌∷◌, ◌++◌, map, Option, None, Some, refl, sym, ap, subst, ◌∙◌, append_assoc}
use Rattle.std.specs.Prelude.{reverse}
use Rattle.std.proofs.lemmas.List.{append-nil, map-append, reverse-append}
use Rattle.std.proofs.lemmas.List.Concat.{flat_map-append}
use Rattle.std.proofs.lemmas.List.Elements.{filter-append}
use Rattle.std.proofs.lemmas.List.Sums.{fold-append}
use Rattle.base_select.specs.declared.Base.{Base}
use Rattle.mount_ring.specs.declared.call.RingCall.TheVariants.{Look}
use Rattle.mount_ring.specs.declared.call.RingAnswer.TheVariants.{Looked}
use Rattle.rover_cursor.specs.declared.segment.Segment.{Segment}
use Rattle.rover_cursor.specs.declared.fault.SegFault.{SegFault}
use Rattle.session_calls.specs.Steps.{Step, at_ring, ask_of}
use Rattle.session_calls.specs.Plans.{Plan, left, IsMade, IsBegun, Begins}
use Rattle.session_calls.proofs.PlanLemmas.{made_both, begun_both}
use Rattle.rover_session.specs.Owed.{if_live, looks}
use Rattle.rover_session.specs.Made.{after_ask, base_after, joined_in, bases_joined, after_step, segments_after, is_owed, owed_among, IsMadeUntil}
use Rattle.rover_session.specs.Standing.{looked, held_in}

-- ---- steps and further steps

pub base-append : (present : Option ℕ) (first second : List Step)
    → base_after present (first ++ second) ≡ base_after (base_after present first) second
base-append present [] second = refl
base-append present (step ∷ first) second = base-append (after_ask present (ask_of step)) first second

pub segments-append : (segments : List Segment) (first second : List Step)
    → segments_after segments (first ++ second) ≡ segments_after (segments_after segments first) second
segments-append segments first second = fold-append after_step segments first second

pub owed-append : (first second : List Step) → owed_among (first ++ second) ≡ owed_among first ++ owed_among second
owed-append first second = filter-append is_owed first second

pub joined-append : (first second : List Step)
    → bases_joined (first ++ second) ≡ bases_joined first ++ bases_joined second
joined-append first second = flat_map-append joined_in first second

-- one segment more for each Join, and then for each further one
pub mounts_both : (first second : List Step) (a b c : List ℕ) → b ≡ reverse (bases_joined first) ++ a
    → c ≡ reverse (bases_joined second) ++ b → c ≡ reverse (bases_joined (first ++ second)) ++ a
mounts_both first second a b c one two =
    let x : List ℕ = bases_joined first in
    let y : List ℕ = bases_joined second in
    two
    ∙ ap (λ (l : List ℕ). reverse y ++ l) one
    ∙ sym (append_assoc (reverse y) (reverse x) a)
    ∙ ap (λ (l : List ℕ). l ++ a) (sym (reverse-append x y) ∙ ap reverse (sym (joined-append first second)))

-- no reads, and then no reads
pub owed_both : (first second : List Step) → owed_among first ≡ first → owed_among second ≡ second
    → owed_among (first ++ second) ≡ first ++ second
owed_both first second one two =
    owed-append first second ∙ ap (λ (l : List Step). l ++ owed_among second) one
    ∙ ap (λ (l : List Step). first ++ l) two

-- what was made of a plan, and then of what is left of one that goes on with it, or the first of it
pub until_both : (refused : Option SegFault) (plan later next : Plan) (first second : List Step) → Begins plan later
    → IsMade plan first → left later first ≡ next → IsMadeUntil refused next second
    → IsMadeUntil refused later (first ++ second)
until_both None plan later next first second begins made is rest =
    made_both plan later first second begins made (subst (λ p. IsMade p second) (sym is) rest)
until_both (Some fault) plan later next first second begins made is rest =
    begun_both plan later first second begins made (subst (λ p. IsBegun p second) (sym is) rest)

-- ---- looks

pub looked-append : (first second : List (Base × Option ℕ)) → looked (first ++ second) ≡ looked first ++ looked second
looked-append first second =
    map-append (λ (live : Base × Option ℕ). at_ring live.0.mount Look (Looked live.1)) first second

pub held-append : (first second : List (Base × Option ℕ)) → held_in (first ++ second) ≡ held_in first ++ held_in second
held-append first second = flat_map-append (λ (live : Base × Option ℕ). if_live live.0 live.1) first second

pub owed_looked : (lives : List (Base × Option ℕ)) → owed_among (looked lives) ≡ looked lives
owed_looked [] = refl
owed_looked (live ∷ lives) =
    ap (λ (l : List Step). at_ring live.0.mount Look (Looked live.1) ∷ l) (owed_looked lives)

pub base_looked : (present : Option ℕ) (lives : List (Base × Option ℕ)) → base_after present (looked lives) ≡ present
base_looked present [] = refl
base_looked present (live ∷ lives) = base_looked present lives

pub joined_looked : (lives : List (Base × Option ℕ)) → bases_joined (looked lives) ≡ []
joined_looked [] = refl
joined_looked (live ∷ lives) = joined_looked lives

pub segments_looked : (segments : List Segment) (lives : List (Base × Option ℕ))
    → segments_after segments (looked lives) ≡ segments
segments_looked segments [] = refl
segments_looked segments (live ∷ lives) = segments_looked segments lives

-- the bases of some looks
abbrev pub bases_in : List (Base × Option ℕ) → List Base
bases_in lives = map (λ (live : Base × Option ℕ). live.0) lives

-- each look, and then what follows from those that are held
pub looks_made : (lives : List (Base × Option ℕ)) (held : List Base) (next : List Base → Plan) (rest : List Step)
    → IsMade (next (held ++ held_in lives)) rest → IsMade (looks (bases_in lives) held next) (looked lives ++ rest)
looks_made [] held next rest made = subst (λ (all : List Base). IsMade (next all) rest) (append-nil held) made
looks_made (live ∷ lives) held next rest made = (
  refl,
  looks_made lives (held ++ if_live live.0 live.1) next rest
      (subst (λ (all : List Base). IsMade (next all) rest)
      (sym (append_assoc held (if_live live.0 live.1) (held_in lives))) made),
)

pub looks_begun : (lives : List (Base × Option ℕ)) (held : List Base) (next : List Base → Plan) (rest : List Step)
    → IsBegun (next (held ++ held_in lives)) rest → IsBegun (looks (bases_in lives) held next) (looked lives ++ rest)
looks_begun [] held next rest begun = subst (λ (all : List Base). IsBegun (next all) rest) (append-nil held) begun
looks_begun (live ∷ lives) held next rest begun = (
  refl,
  looks_begun lives (held ++ if_live live.0 live.1) next rest
      (subst (λ (all : List Base). IsBegun (next all) rest)
      (sym (append_assoc held (if_live live.0 live.1) (held_in lives))) begun),
)

pub looks_until : (refused : Option SegFault) (lives : List (Base × Option ℕ)) (next : List Base → Plan)
    (rest : List Step) → IsMadeUntil refused (next (held_in lives)) rest
    → IsMadeUntil refused (looks (bases_in lives) [] next) (looked lives ++ rest)
looks_until None lives next rest made = looks_made lives [] next rest made
looks_until (Some fault) lives next rest begun = looks_begun lives [] next rest begun

-- the first of the looks
pub looks_cut : (lives : List (Base × Option ℕ)) (others held : List Base) (next : List Base → Plan)
    → IsBegun (looks (bases_in lives ++ others) held next) (looked lives)
looks_cut [] others held next = tt
looks_cut (live ∷ lives) others held next =
    (refl, looks_cut lives others (held ++ if_live live.0 live.1) next)
