-- What an event sends each connection of a run.
use Rattle.std.proofs.Common.{◌≡◌, ◌≢◌, ◌∙◌, ◌<◌, ℕ, Bool, true, false, List, [], ◌∷◌, map, All, Option, None, inl, inr, refl, sym, ap, subst, arith, eq-eqb, cond}
use Rattle.std.specs.Prelude.{◌==◌, ◌&&◌, ◌||◌, nat_lt}
use Rattle.std.proofs.lemmas.Bool.{cases_eq, ne_eqb, le-ltb, lt-ltb}
use Rattle.std.proofs.lemmas.List.Elements.{All-head, All-tail, All-cons, All-nil}
use Rattle.cast_config.specs.declared.config.Config.{Config}
use Rattle.cast_config.specs.Kept.{KeepsRules}
use Rattle.session_core.specs.declared.rover_state.RoverState.{RoverState}
use Rattle.session_model.specs.Headings.{Heading}
use Rattle.session_model.specs.Owed.{first_answer, Happening, arrives, takes_turn, ends}
use Rattle.session_model.specs.Endings.{goes_on}
use Rattle.session_model.specs.Reports.{told_of}
use Rattle.session_model.specs.Run.{Histories, Connected, World, Moved, judged_of, moved, moved_if, happens_in, is_opened}
use Rattle.session_model.proofs.KeepLemmas.{AreFrames}
use Rattle.session_model.proofs.WellLemmas.{IsSoundOf}
use Rattle.caster_replay.specs.Going.{rover_among, rover_of}
use Rattle.caster_replay.specs.Runs.{AreAbove, IsIncreasing}
use Rattle.caster_replay.specs.Sends.{told_sent}
use Rattle.caster_replay.proofs.WorldListLemmas.{none_above, moved_by, apart_moved, happens_nowhere, onto}
use Rattle.caster_warm.specs.Warm.{greeting_for}
use Rattle.run_promise.proofs.StoodLemmas.{Stood}
use Rattle.warm_promise.proofs.SentLemmas.{version_in, none_more, sent_greeting}
use Rattle.warm_promise.proofs.MoveLemmas.{segments_of, SentOf, plain_of, greeting_to, with_more, bytes_sent, turn_sent, end_plain, end_sent}

-- ---- all of some connections

pub all_both : (P Q : Connected → Type 0) (ds : List Connected) → All P ds → All Q ds → All (λ d. P d × Q d) ds
all_both P Q [] one two = All-nil (λ d. P d × Q d)
all_both P Q (d ∷ ds) one two =
    All-cons (λ d. P d × Q d) d ds (All-head P d ds one, All-head Q d ds two)
    (all_both P Q ds (All-tail P d ds one) (All-tail Q d ds two))

pub all_from : (P Q : Connected → Type 0) (ds : List Connected) → ((d : Connected) → P d → Q d) → All P ds → All Q ds
all_from P Q [] from all = All-nil Q
all_from P Q (d ∷ ds) from all =
    All-cons Q d ds (from d (All-head P d ds all)) (all_from P Q ds from (All-tail P d ds all))

-- of those of another number
all_apart : (number : ℕ) (P Q : Connected → Type 0) (ds : List Connected) → AreAbove number ds
    → ((d : Connected) → d.number ≢ number → P d → Q d) → All P ds → All Q ds
all_apart number P Q [] above from all = All-nil Q
all_apart number P Q (d ∷ ds) above from all =
    All-cons Q d ds (from d (λ same. absurd (omega (arith, same, above.0))) (All-head P d ds all))
    (all_apart number P Q ds above.1 from (All-tail P d ds all))

-- ---- by its number

module _ (c : Config) (headings : ℕ → Heading) (h : Histories) where
  abbrev pub told_at : ℕ → List Connected → List ℕ
  told_at n ds = told_sent n (map (told_of c headings h) ds)

  abbrev if_first : Bool → Bool → List ℕ → List ℕ → List ℕ
  if_first past here bytes rest = cond past rest (cond here bytes [])

  pub told_none : (n : ℕ) (ds : List Connected) → is_opened n ds ≡ false → told_at n ds ≡ []
  told_none n [] none = refl
  told_none n (d ∷ ds) none =
      let parts = or_both (d.number == n) (is_opened n ds) none in
      ap (λ (b : Bool). if_first (nat_lt d.number n) b (plain_of c (headings d.number) h d) (told_at n ds)) parts.0
      ∙ ap (λ (l : List ℕ). if_first (nat_lt d.number n) false (plain_of c (headings d.number) h d) l)
      (told_none n ds parts.1)
      ∙ either (nat_lt d.number n)
    where
      or_both : (a b : Bool) → (a || b) ≡ false → (a ≡ false) × (b ≡ false)
      or_both false b is = (refl, is)
      or_both true b is = absurd cc

      either : (b : Bool) → cond {A = List ℕ} b [] [] ≡ []
      either true = refl
      either false = refl

  -- what stands of one of these
  abbrev pub IsTold : List Connected → Connected → Type 0
  IsTold all d = told_at d.number all ≡ plain_of c (headings d.number) h d

  later_told : (first : Connected) (ds : List Connected) (d : Connected) → first.number < d.number → IsTold ds d
      → IsTold (first ∷ ds) d
  later_told first ds d below is =
      ap (λ (b : Bool). if_first b (first.number == d.number) (plain_of c (headings first.number) h first)
      (told_at d.number ds)) (lt-ltb first.number d.number below) ∙ is

  all_later_told : (first : Connected) (all ds : List Connected) → AreAbove first.number ds → All (IsTold all) ds
      → All (IsTold (first ∷ all)) ds
  all_later_told first all [] above told = All-nil (IsTold (first ∷ all))
  all_later_told first all (d ∷ ds) above told =
      All-cons (IsTold (first ∷ all)) d ds (later_told first all d above.0 (All-head (IsTold all) d ds told))
      (all_later_told first all ds above.1 (All-tail (IsTold all) d ds told))

  pub told_each : (ds : List Connected) → IsIncreasing ds → All (IsTold ds) ds
  told_each [] order = All-nil (IsTold [])
  told_each (d ∷ ds) order =
      All-cons (IsTold (d ∷ ds)) d ds
      (ap (λ (b : Bool). if_first b (d.number == d.number) (plain_of c (headings d.number) h d) (told_at d.number ds))
      (le-ltb d.number d.number (omega arith))
      ∙ ap (λ (b : Bool). if_first false b (plain_of c (headings d.number) h d) (told_at d.number ds))
      (eq-eqb d.number d.number refl))
      (all_later_told d ds ds order.0 (told_each ds order.1))

-- the greeting of one of these
module _ (c : Config) (headings : ℕ → Heading) (old now : Histories) where
  abbrev pub greeting_at : ℕ → List Connected → List ℕ
  greeting_at n ds = greeting_for c old now (rover_among c headings n ds)

  -- where another stands first
  apart_rover : (n : ℕ) (d : Connected) (ds : List Connected) → d.number ≢ n
      → rover_among c headings n (d ∷ ds) ≡ rover_among c headings n ds
  apart_rover n d ds apart =
      ap (λ (b : Bool). cond (b && goes_on (judged_of c (headings d.number) d) d.steps d.closed)
      (rover_of c (headings d.number) d) (rover_among c headings n ds)) (ne_eqb d.number n apart)

  pub greets_none : (n : ℕ) (ds : List Connected) → is_opened n ds ≡ false → rover_among c headings n ds ≡ None
  greets_none n [] none = refl
  greets_none n (d ∷ ds) none = elim (cases_eq d.number n) [
    | inl same ↦ absurd (first_not (d.number == n) (is_opened n ds) none (eq-eqb d.number n same))
    | inr apart ↦
        apart_rover n d ds apart
        ∙ greets_none n ds (rest_not (d.number == n) (is_opened n ds) none)
  ]
    where
      first_not : (a b : Bool) → (a || b) ≡ false → a ≡ true → ⊥
      first_not true b none is = absurd cc
      first_not false b none is = absurd cc

      rest_not : (a b : Bool) → (a || b) ≡ false → b ≡ false
      rest_not true b none = absurd cc
      rest_not false b none = none

  abbrev pub IsGreetedAt : List Connected → Connected → Type 0
  IsGreetedAt all d = greeting_at d.number all ≡ greeting_to c (headings d.number) old now d

  all_later_greeted : (first : Connected) (all ds : List Connected) → AreAbove first.number ds
      → All (IsGreetedAt all) ds → All (IsGreetedAt (first ∷ all)) ds
  all_later_greeted first all [] above greeted = All-nil (IsGreetedAt (first ∷ all))
  all_later_greeted first all (d ∷ ds) above greeted =
      All-cons (IsGreetedAt (first ∷ all)) d ds
      (ap (greeting_for c old now) (apart_rover d.number first all (λ same. absurd (omega (arith, same, above.0))))
      ∙ All-head (IsGreetedAt all) d ds greeted)
      (all_later_greeted first all ds above.1 (All-tail (IsGreetedAt all) d ds greeted))

  pub greeted_each : (ds : List Connected) → IsIncreasing ds → All (IsGreetedAt ds) ds
  greeted_each [] order = All-nil (IsGreetedAt [])
  greeted_each (d ∷ ds) order =
      let goes = goes_on (judged_of c (headings d.number) d) d.steps d.closed in
      All-cons (IsGreetedAt (d ∷ ds)) d ds
      (ap (λ (b : Bool). greeting_for c old now (cond (b && goes) (rover_of c (headings d.number) d)
      (rover_among c headings d.number ds))) (eq-eqb d.number d.number refl)
      ∙ ap (λ (r : Option RoverState). greeting_for c old now (cond goes (rover_of c (headings d.number) d) r))
      (greets_none d.number ds (none_above d.number ds order.0))
      ∙ by_goes goes d)
      (all_later_greeted d ds ds order.0 (greeted_each ds order.1))
    where
      by_goes : (goes : Bool) (d : Connected)
          → greeting_for c old now (cond goes (rover_of c (headings d.number) d) None)
          ≡ sent_greeting goes c old now (version_in (judged_of c (headings d.number) d) (first_answer d.steps)) (segments_of d)
      by_goes true d = refl
      by_goes false d = refl

-- ---- one changes, and the others stay

pub each_happens : (c : Config) (headings : ℕ → Heading) (number : ℕ) (what : Happening) (h : Histories)
    (P Q : Connected → Type 0) (ds : List Connected) → IsIncreasing ds → All P ds
    → ((d : Connected) → d.number ≡ number → P d
    → (happens_in c headings number what h ds).histories ≡ (moved_by c headings number what h d).histories
    → Q (moved_by c headings number what h d).connection)
    → ((d : Connected) → d.number ≢ number → P d → Q d)
    → All Q (happens_in c headings number what h ds).connections
each_happens c headings number what h P Q [] order all own others = All-nil Q
each_happens c headings number what h P Q (d ∷ ds) order all own others = elim (cases_eq d.number number) [
  | inl same ↦
      let m = moved_by c headings number what h d in
      let none : is_opened number ds ≡ false =
      subst (λ (n : ℕ). is_opened n ds ≡ false) same (none_above d.number ds order.0) in
      let is : happens_in c headings number what h (d ∷ ds)
      ≡ onto m.connection (record { connections = ds; histories = m.histories }) =
      ap (onto m.connection) (happens_nowhere c headings number what m.histories ds none) in
      subst (λ (w : World). All Q w.connections) (sym is)
      (All-cons Q m.connection ds
      (own d same (All-head P d ds all) (ap (λ (w : World). w.histories) is))
      (all_apart d.number P Q ds order.0 (λ e apart one. others e (λ x. apart (x ∙ sym same)) one)
      (All-tail P d ds all)))
  | inr apart ↦
      let w = happens_in c headings number what h ds in
      let is : happens_in c headings number what h (d ∷ ds) ≡ onto d w =
      ap (λ (m : Moved). onto m.connection (happens_in c headings number what m.histories ds))
      (apart_moved c headings number what h d apart) in
      subst (λ (w : World). All Q w.connections) (sym is)
      (All-cons Q d w.connections (others d apart (All-head P d ds all))
      (each_happens c headings number what h P Q ds order.1 (All-tail P d ds all)
      (λ e same one histories. own e same one (ap (λ (w : World). w.histories) is ∙ histories)) others))
]

-- ---- its own event

abbrev IsSentMore : Config → Heading → Histories → Connected → List ℕ → List ℕ → Moved → Type 0
IsSentMore c heading h d bytes extra m =
    SentOf c heading m.histories m.connection
    (with_more bytes (plain_of c heading h d) (plain_of c heading m.histories m.connection) extra)

-- what an event sends more than without greetings
abbrev pub IsExtra : Happening → List ℕ → List ℕ → Type 0
IsExtra (arrives more) extra greeting = extra ≡ greeting
IsExtra (takes_turn budget) extra greeting = extra ≡ []
IsExtra (ends last) extra greeting = extra ≡ []

module _ (c : Config) (cap : ℕ) (heading : Heading) (h : Histories) (d : Connected) (bytes extra : List ℕ)
    (kept : KeepsRules cap c) (s : Stood c heading h d)
    (frames : AreFrames h.rings) (sound : IsSoundOf c h.rings d) (sent : SentOf c heading h d bytes) where
  own_sent : (what : Happening) → goes_on (judged_of c heading d) d.steps d.closed ≡ true
      → IsExtra what extra (greeting_to c heading h (moved c heading h d what).histories
      (moved c heading h d what).connection)
      → IsSentMore c heading h d bytes extra (moved c heading h d what)
  own_sent (arrives more) goes is =
      let m = moved c heading h d (arrives more) in
      subst (λ (l : List ℕ). IsSentMore c heading h d bytes l m) (sym is)
      (bytes_sent c cap heading h d more kept s goes frames sound bytes sent)
  own_sent (takes_turn budget) goes is =
      let m = moved c heading h d (takes_turn budget) in
      subst (λ (l : List ℕ). IsSentMore c heading h d bytes l m) (sym is)
      (turn_sent c heading h d budget bytes frames sound sent)
  own_sent (ends last) goes is =
      let m = moved c heading h d (ends last) in
      subst (λ (l : List ℕ). IsSentMore c heading h d bytes l m) (sym is)
      (subst (SentOf c heading m.histories m.connection)
      (sym (none_more bytes (plain_of c heading h d) (plain_of c heading m.histories m.connection)
      (end_plain c heading h d last frames sound)))
      (end_sent c heading h d last frames sound bytes sent))

  over_extra : (what : Happening) → goes_on (judged_of c heading d) d.steps d.closed ≡ false
      → IsExtra what extra (greeting_to c heading h h d) → extra ≡ []
  over_extra (arrives more) over is =
      is ∙ ap (λ (b : Bool). sent_greeting b c h h (version_in (judged_of c heading d) (first_answer d.steps)) (segments_of d)) over
  over_extra (takes_turn budget) over is = is
  over_extra (ends last) over is = is

  pub own_if : (concerned : Bool) (what : Happening)
      → concerned ≡ goes_on (judged_of c heading d) d.steps d.closed
      → IsExtra what extra (greeting_to c heading h (moved_if concerned c heading h d what).histories
      (moved_if concerned c heading h d what).connection)
      → IsSentMore c heading h d bytes extra (moved_if concerned c heading h d what)
  own_if true what same is = own_sent what (sym same) is
  own_if false what same is =
      subst (λ (l : List ℕ). IsSentMore c heading h d bytes l (record { connection = d; histories = h }))
      (sym (over_extra what (sym same) is))
      (subst (SentOf c heading h d) (sym (none_more bytes (plain_of c heading h d) (plain_of c heading h d) refl)) sent)
