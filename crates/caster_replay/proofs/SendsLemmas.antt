-- What each connection was sent, where what is kept of one of them changes.
use Rattle.std.proofs.Common.{◌≡◌, ◌≢◌, ◌∙◌, ◌<◌, ◌≤◌, ◌++◌, ◌+◌, ℕ, zero, suc, Bool, true, false, cond, List, [], ◌∷◌, length, get_or, set, refl, sym, ap, subst, inl, inr, arith}
use Rattle.std.specs.Prelude.{nat_lt, ◌==◌, if◌then◌else◌, insert}
use Rattle.std.proofs.lemmas.Bool.{cases_Bool, eq-eqb, eqb-true, eqb-false, ne_eqb, ltb-true, ltb-false, le-ltb}
use Rattle.std.proofs.lemmas.List.{append-nil}
use Rattle.session_script.specs.declared.Event.{Event}
use Rattle.session_script.specs.declared.Event.TheVariants as events
use Rattle.session_model.specs.declared.ending.Last.{Last}
use Rattle.session_model.specs.declared.report.Connection.{Connection}
use Rattle.session_model.specs.Judged.{Opening}
use Rattle.caster_replay.specs.declared.run_connection.State.{State}
use Rattle.caster_replay.specs.declared.run_connection.State.TheVariants.{Open, Closed}
use Rattle.caster_replay.specs.RunConnections.{IsUnsent}
use Rattle.caster_replay.specs.Lives.{Live, place_of, IsToldBy, AreTold}
use Rattle.caster_replay.specs.Scripts.{Begins, Ends}
use Rattle.caster_replay.specs.Sends.{sent_in, told_sent, IsSilent, SendsTo, Sends}
use Rattle.caster_replay.proofs.WorldRunnerLemmas.{IsAbsent}

-- what a number that stands first was sent
abbrev first_sent : ℕ → List ℕ → ℕ → List ℕ → List ℕ
first_sent k bytes n rest = if nat_lt k n then rest else if k == n then bytes else []

first_own : (k n : ℕ) (bytes rest : List ℕ) → k ≡ n → first_sent k bytes n rest ≡ bytes
first_own k n bytes rest same = rw (le-ltb k n (omega (arith, same)), eq-eqb k n same) refl

first_apart : (k n : ℕ) (bytes other rest : List ℕ) → k ≢ n → first_sent k bytes n rest ≡ first_sent k other n rest
first_apart k n bytes other rest apart = rw (ne_eqb k n apart) refl

first_past : (k n : ℕ) (bytes rest : List ℕ) → nat_lt k n ≡ true → first_sent k bytes n rest ≡ rest
first_past k n bytes rest past = rw past refl

first_none : (k n : ℕ) (bytes rest : List ℕ) → n < k → first_sent k bytes n rest ≡ []
first_none k n bytes rest above =
    rw (le-ltb k n (omega (arith, above)), ne_eqb k n (λ e. absurd (omega (arith, e, above)))) refl

one_more : (n : ℕ) → suc n ≡ 1 + n
one_more n = omega arith

-- ---- where it stands

here_by : (number : ℕ) (live : Live) (lives : List Live) (y : Live) (test : Bool) → nat_lt live.number number ≡ test
    → cond test (1 + place_of number lives) 0 < suc (length lives)
    → (get_or (live ∷ lives) (cond test (1 + place_of number lives) 0) y).number ≡ number
    → (place_of number lives < length lives → (get_or lives (place_of number lives) y).number ≡ number
    → sent_in number lives ≡ (get_or lives (place_of number lives) y).bytes)
    → sent_in number (live ∷ lives) ≡ (get_or (live ∷ lives) (cond test (1 + place_of number lives) 0) y).bytes
here_by number live lives y true is within here rest =
    let place : ℕ = place_of number lives in
    first_past live.number number live.bytes (sent_in number lives) is
    ∙ rest (omega (arith, within)) (ap (λ (n : ℕ). (get_or (live ∷ lives) n y).number) (one_more place) ∙ here)
    ∙ ap (λ (n : ℕ). (get_or (live ∷ lives) n y).bytes) (one_more place)
here_by number live lives y false is within here rest =
    first_own live.number number live.bytes (sent_in number lives) here

pub sent_here : (number : ℕ) (lives : List Live) (y : Live) → place_of number lives < length lives
    → (get_or lives (place_of number lives) y).number ≡ number
    → sent_in number lives ≡ (get_or lives (place_of number lives) y).bytes
sent_here number [] y within here = absurd (omega (arith, within))
sent_here number (live ∷ lives) y within here =
    here_by number live lives y (nat_lt live.number number) refl within here (sent_here number lives y)

absent_by : (number : ℕ) (live : Live) (lives : List Live) (y : Live) (test : Bool) → nat_lt live.number number ≡ test
    → (cond test (1 + place_of number lives) 0 < suc (length lives)
    → (get_or (live ∷ lives) (cond test (1 + place_of number lives) 0) y).number ≢ number)
    → ((place_of number lives < length lives → (get_or lives (place_of number lives) y).number ≢ number)
    → sent_in number lives ≡ [])
    → sent_in number (live ∷ lives) ≡ []
absent_by number live lives y true is missing rest =
    let place : ℕ = place_of number lives in
    first_past live.number number live.bytes (sent_in number lives) is
    ∙ rest (λ within here. missing (omega (arith, within))
    (ap (λ (n : ℕ). (get_or (live ∷ lives) n y).number) (sym (one_more place)) ∙ here))
absent_by number live lives y false is missing rest =
    rw is (ap (λ (b : Bool). cond b live.bytes []) (ne_eqb live.number number (missing (omega arith))))

-- a number that stands nowhere was sent nothing
pub sent_absent : (number : ℕ) (lives : List Live) (y : Live)
    → (place_of number lives < length lives → (get_or lives (place_of number lives) y).number ≢ number)
    → sent_in number lives ≡ []
sent_absent number [] y missing = refl
sent_absent number (live ∷ lives) y missing =
    absent_by number live lives y (nat_lt live.number number) refl missing (sent_absent number lives y)

-- ---- another in its place

pub set_other : (n at : ℕ) (lives : List Live) (y new : Live) → at < length lives
    → (get_or lives at y).number ≡ new.number → n ≢ new.number → sent_in n (set lives at new) ≡ sent_in n lives
set_other n at [] y new within here apart = absurd (omega (arith, within))
set_other n zero (live ∷ lives) y new within here apart =
    first_apart new.number n new.bytes live.bytes (sent_in n lives) (λ e. apart (sym e))
    ∙ ap (λ (k : ℕ). first_sent k live.bytes n (sent_in n lives)) (sym here)
set_other n (suc at) (live ∷ lives) y new within here apart =
    ap (first_sent live.number live.bytes n) (set_other n at lives y new (omega (arith, within)) here apart)

pub set_silent : (n at : ℕ) (lives : List Live) (y new : Live) → at < length lives
    → (get_or lives at y).number ≡ new.number → (get_or lives at y).bytes ≡ new.bytes
    → sent_in n (set lives at new) ≡ sent_in n lives
set_silent n at [] y new within here same = absurd (omega (arith, within))
set_silent n zero (live ∷ lives) y new within here same =
    ap (λ (b : List ℕ). first_sent new.number b n (sent_in n lives)) (sym same)
    ∙ ap (λ (k : ℕ). first_sent k live.bytes n (sent_in n lives)) (sym here)
set_silent n (suc at) (live ∷ lives) y new within here same =
    ap (first_sent live.number live.bytes n) (set_silent n at lives y new (omega (arith, within)) here same)

own_by : (number : ℕ) (live : Live) (lives : List Live) (new : Live) (test : Bool) → nat_lt live.number number ≡ test
    → new.number ≡ number → cond test (1 + place_of number lives) 0 < suc (length lives)
    → (place_of number lives < length lives → sent_in number (set lives (place_of number lives) new) ≡ new.bytes)
    → sent_in number (set (live ∷ lives) (cond test (1 + place_of number lives) 0) new) ≡ new.bytes
own_by number live lives new true is own within rest =
    let place : ℕ = place_of number lives in
    ap (λ (n : ℕ). sent_in number (set (live ∷ lives) n new)) (sym (one_more place))
    ∙ first_past live.number number live.bytes (sent_in number (set lives place new)) is
    ∙ rest (omega (arith, within))
own_by number live lives new false is own within rest = first_own new.number number new.bytes (sent_in number lives) own

pub set_own : (number : ℕ) (lives : List Live) (new : Live) → new.number ≡ number
    → place_of number lives < length lives → sent_in number (set lives (place_of number lives) new) ≡ new.bytes
set_own number [] new own within = absurd (omega (arith, within))
set_own number (live ∷ lives) new own within =
    own_by number live lives new (nat_lt live.number number) refl own within (set_own number lives new own)

-- the connection of the number was sent this
pub sends_set : (number at : ℕ) (lives : List Live) (y new : Live) (more : List ℕ) → at ≡ place_of number lives
    → at < length lives → (get_or lives at y).number ≡ number → new.number ≡ number
    → new.bytes ≡ (get_or lives at y).bytes ++ more → SendsTo number lives (set lives at new)
sends_set number at lives y new more is within here own bytes =
    let inside : place_of number lives < length lives = omega (arith, is, within) in
    let found : (get_or lives (place_of number lives) y).number ≡ number =
    subst (λ (n : ℕ). (get_or lives n y).number ≡ number) is here in
    record {
      others = λ n apart. set_other n at lives y new within (here ∙ sym own) (λ e. apart (e ∙ own));
      more = more;
      own = ap (λ (n : ℕ). sent_in number (set lives n new)) is ∙ set_own number lives new own inside ∙ bytes
          ∙ ap (λ (n : ℕ). (get_or lives n y).bytes ++ more) is
          ∙ ap (λ (l : List ℕ). l ++ more) (sym (sent_here number lives y inside found));
    }

-- ---- one more

insert_other_by : (number n : ℕ) (live : Live) (lives : List Live) (new : Live) (test : Bool)
    → nat_lt live.number number ≡ test → new.number ≡ number → n ≢ number
    → sent_in n (insert lives (place_of number lives) new) ≡ sent_in n lives
    → sent_in n (insert (live ∷ lives) (cond test (1 + place_of number lives) 0) new) ≡ sent_in n (live ∷ lives)
insert_other_by number n live lives new true is own apart rest =
    let place : ℕ = place_of number lives in
    ap (λ (k : ℕ). sent_in n (insert (live ∷ lives) k new)) (sym (one_more place))
    ∙ ap (first_sent live.number live.bytes n) rest
insert_other_by number n live lives new false is own apart rest =
    let above : number ≤ live.number = ltb-false live.number number is in
    elim (cases_Bool (nat_lt new.number n)) [
      | inl past ↦ first_past new.number n new.bytes (sent_in n (live ∷ lives)) past
      | inr not_past ↦
          let least : n ≤ new.number = ltb-false new.number n not_past in
          let less : n < number = le_lt n number (omega (arith, least, own)) apart in
          first_none new.number n new.bytes (sent_in n (live ∷ lives)) (omega (arith, less, own))
          ∙ sym (first_none live.number n live.bytes (sent_in n lives) (omega (arith, less, above)))
    ]
  where
    le_lt : (a b : ℕ) → a ≤ b → a ≢ b → a < b
    le_lt a b le ne = elim (cases_Bool (nat_lt a b)) [
      | inl is ↦ ltb-true a b is
      | inr not ↦ absurd (ne (omega (arith, le, ltb-false a b not)))
    ]

first_alone : (k n : ℕ) (bytes : List ℕ) → k ≢ n → first_sent k bytes n [] ≡ []
first_alone k n bytes apart =
    elim (cases_Bool (nat_lt k n)) [
      | inl past ↦ first_past k n bytes [] past
      | inr not ↦ rw (not, ne_eqb k n apart) refl
    ]

pub insert_other : (number n : ℕ) (lives : List Live) (new : Live) → new.number ≡ number → n ≢ number
    → sent_in n (insert lives (place_of number lives) new) ≡ sent_in n lives
insert_other number n [] new own apart = first_alone new.number n new.bytes (λ e. apart (sym e ∙ own))
insert_other number n (live ∷ lives) new own apart =
    insert_other_by number n live lives new (nat_lt live.number number) refl own apart
    (insert_other number n lives new own apart)

insert_own_by : (number : ℕ) (live : Live) (lives : List Live) (new : Live) (test : Bool)
    → nat_lt live.number number ≡ test → new.number ≡ number
    → sent_in number (insert lives (place_of number lives) new) ≡ new.bytes
    → sent_in number (insert (live ∷ lives) (cond test (1 + place_of number lives) 0) new) ≡ new.bytes
insert_own_by number live lives new true is own rest =
    let place : ℕ = place_of number lives in
    ap (λ (k : ℕ). sent_in number (insert (live ∷ lives) k new)) (sym (one_more place))
    ∙ first_past live.number number live.bytes (sent_in number (insert lives place new)) is ∙ rest
insert_own_by number live lives new false is own rest =
    first_own new.number number new.bytes (sent_in number (live ∷ lives)) own

pub insert_own : (number : ℕ) (lives : List Live) (new : Live) → new.number ≡ number
    → sent_in number (insert lives (place_of number lives) new) ≡ new.bytes
insert_own number [] new own = first_own new.number number new.bytes [] own
insert_own number (live ∷ lives) new own =
    insert_own_by number live lives new (nat_lt live.number number) refl own (insert_own number lives new own)

silent_opened : (number n : ℕ) (lives : List Live) (y new : Live) → IsAbsent number lives y → new.number ≡ number
    → new.bytes ≡ [] → sent_in n (insert lives (place_of number lives) new) ≡ sent_in n lives
silent_opened number n lives y new absent own none =
    elim (cases_Bool (n == number)) [
      | inl same ↦
          subst (λ (k : ℕ). sent_in k (insert lives (place_of number lives) new) ≡ sent_in k lives)
          (sym (eqb-true n number same))
          (insert_own number lives new own ∙ none ∙ sym (sent_absent number lives y absent))
      | inr other ↦ insert_other number n lives new own (eqb-false n number other)
    ]

-- what is sent as a connection opens
pub sends_opened : (event : Event) (number : ℕ) (o : Opening) (lives : List Live) (y new : Live)
    → Begins event number o → IsAbsent number lives y → new.number ≡ number → IsUnsent o new.bytes
    → Sends event lives (insert lives (place_of number lives) new)
sends_opened (events.Open k) number o lives y new begins absent own unsent =
    λ n. silent_opened number n lives y new absent own
    (subst (λ (x : Opening). IsUnsent x new.bytes) begins.1 unsent)
sends_opened (events.Source k mount) number o lives y new begins absent own unsent =
    λ n. silent_opened number n lives y new absent own
    (subst (λ (x : Opening). IsUnsent x new.bytes) begins.1 unsent)
sends_opened (events.Rover k mount) number o lives y new begins absent own unsent =
    λ n. silent_opened number n lives y new absent own
    (subst (λ (x : Opening). IsUnsent x new.bytes) begins.1 unsent)
sends_opened (events.Relay k relay) number o lives y new begins absent own unsent =
    subst (λ (m : ℕ). SendsTo m lives (insert lives (place_of number lives) new)) (sym begins.0) (record {
      others = λ n apart. insert_other number n lives new own apart;
      more = new.bytes;
      own = insert_own number lives new own
          ∙ ap (λ (l : List ℕ). l ++ new.bytes) (sym (sent_absent number lives y absent));
    })
sends_opened (events.In k bytes) number o lives y new begins absent own unsent = absurd begins
sends_opened (events.Turn k budget) number o lives y new begins absent own unsent = absurd begins
sends_opened (events.Break k) number o lives y new begins absent own unsent = absurd begins
sends_opened (events.End k) number o lives y new begins absent own unsent = absurd begins

-- ---- nothing changes

pub sends_nothing : (number : ℕ) (lives : List Live) → SendsTo number lives lives
sends_nothing number lives = record {
  others = λ n apart. refl;
  more = [];
  own = sym (append-nil (sent_in number lives));
}

pub sends_none : (event : Event) (lives : List Live) → Sends event lives lives
sends_none (events.Open k) lives = λ n. refl
sends_none (events.Source k mount) lives = λ n. refl
sends_none (events.Rover k mount) lives = λ n. refl
sends_none (events.Relay k relay) lives = sends_nothing k lives
sends_none (events.In k bytes) lives = sends_nothing k lives
sends_none (events.Turn k budget) lives = sends_nothing k lives
sends_none (events.Break k) lives = λ n. refl
sends_none (events.End k) lives = λ n. refl

-- nobody is sent more as a connection is closed
pub sends_silent : (event : Event) (number : ℕ) (last : Last) (before after : List Live) → Ends event number last
    → IsSilent before after → Sends event before after
sends_silent (events.Open k) number last before after is silent = absurd is
sends_silent (events.Source k mount) number last before after is silent = absurd is
sends_silent (events.Rover k mount) number last before after is silent = absurd is
sends_silent (events.Relay k relay) number last before after is silent = absurd is
sends_silent (events.In k bytes) number last before after is silent = absurd is
sends_silent (events.Turn k budget) number last before after is silent = absurd is
sends_silent (events.Break k) number last before after is silent = silent
sends_silent (events.End k) number last before after is silent = silent

-- ---- what is told at the end

told_one : (state : State) (number : ℕ) (bytes : List ℕ) (told : Connection) → IsToldBy state number bytes told
    → (told.number ≡ number) × (told.bytes ≡ bytes)
told_one (Open session) number bytes told so = absurd so
told_one (Closed receipt) number bytes told so =
    (ap (λ (t : Connection). t.number) so, ap (λ (t : Connection). t.bytes) so)

pub told_sends : (n : ℕ) (lives : List Live) (told : List Connection) → AreTold lives told
    → told_sent n told ≡ sent_in n lives
told_sends n [] [] so = refl
told_sends n [] (told ∷ more) so = absurd so
told_sends n (live ∷ lives) [] so = absurd so
told_sends n (live ∷ lives) (told ∷ more) so =
    let one = told_one live.state live.number live.bytes told so.0 in
    ap (first_sent told.number told.bytes n) (told_sends n lives more so.1)
    ∙ ap (λ (k : ℕ). first_sent k told.bytes n (sent_in n lives)) one.0
    ∙ ap (λ (b : List ℕ). first_sent live.number b n (sent_in n lives)) one.1
