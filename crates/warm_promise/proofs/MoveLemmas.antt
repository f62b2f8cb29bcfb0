-- What happens to one connection sends it what it is sent without greetings, and its greeting.
use Rattle.std.proofs.Common.{◌≡◌, ◌∙◌, ◌⊎◌, ◌++◌, ℕ, Bool, true, false, List, [], ◌∷◌, length, drop, Option, None, Some, inl, inr, refl, sym, ap, subst, append_assoc}
use Rattle.std.specs.Prelude.{◌&&◌, is_none}
use Rattle.std.proofs.lemmas.Bool.{false≢true, and_parts}
use Rattle.std.proofs.lemmas.List.{append-nil}
use Rattle.std.proofs.lemmas.List.Elements.{All-head, All-nil}
use Rattle.mount_ring.specs.Reads.{read_report, read_frames}
use Rattle.rover_cursor.specs.declared.segment.Segment.{Segment}
use Rattle.rover_cursor.specs.Segments.{read_on}
use Rattle.rover_cursor.proofs.SoundLemmas.{kept-read, IsSound-read}
use Rattle.session_calls.specs.Steps.{Answer, Step, answer_of}
use Rattle.session_calls.specs.Plans.{Plan, done, asks, left, IsMade}
use Rattle.session_calls.specs.Rings.{shape_at}
use Rattle.rover_session.specs.Owed.{reads}
use Rattle.rover_session.specs.Body.{body_of}
use Rattle.rover_session.specs.Made.{segments_after, owed_among}
use Rattle.rover_session.proofs.MadeLemmas.{segments-append}
use Rattle.cast_config.specs.declared.config.Config.{Config}
use Rattle.cast_config.specs.Kept.{KeepsRules}
use Rattle.session_model.specs.declared.ending.Ending.{Ending}
use Rattle.session_model.specs.declared.ending.Last.{Last}
use Rattle.session_model.specs.Setting.{shapes}
use Rattle.session_model.specs.Headings.{Heading}
use Rattle.session_model.specs.Judged.{Opening, RoverTerms, Judged, waiting, rover, judged}
use Rattle.session_model.specs.Owed.{came_by, first_answer, came_to, plan_of, closing, arrives, takes_turn, ends}
use Rattle.session_model.specs.Endings.{ended_by, goes_on}
use Rattle.session_model.specs.Promises.{permits_of, published_at, IsSoundIn}
use Rattle.session_model.specs.Run.{Histories, Connected, Moved, with_calls, made, judged_of, makes, closed_if, with_text, moved}
use Rattle.session_model.proofs.GoodLemmas.{IsGood, good_left, good_plan}
use Rattle.session_model.proofs.KeepLemmas.{Later, AllSound, AreFrames, turn_keeps}
use Rattle.session_model.proofs.WellLemmas.{IsSoundOf, closing_good}
use Rattle.session_model.proofs.WellLemmas as well
use Rattle.caster_replay.proofs.WorldClosedLemmas.{received_closed}
use Rattle.run_promise.proofs.MadeLemmas.{IsWithin, made_is}
use Rattle.run_promise.proofs.WalkLemmas.{IsNever, JoinsSuch}
use Rattle.run_promise.proofs.OwedLemmas.{closing_such}
use Rattle.run_promise.proofs.WithinLemmas.{plan_within, left_within, judged_fed}
use Rattle.run_promise.proofs.StoodLemmas.{Stood, still_made, moved_moves}
use Rattle.warm_promise.proofs.BackLemmas.{IsNew, kept_on}
use Rattle.warm_promise.proofs.WalkLemmas.{Walk, walk_start, SomeWalk, plan_walks, never_plan}
use Rattle.warm_promise.proofs.JudgedLemmas.{by_bytes, Same, same_self, Grows, judged_grows, IsSome, going_called, received_some, IsOne, is_one, all_by}
use Rattle.warm_promise.proofs.SentLemmas.{version_in, plain, Sent, none_more, new_greeting, sent_greeting, greets_new, plain_same, more_same, more_judged, stays_sent, read_sent}

abbrev pub segments_of : Connected → List Segment
segments_of d = segments_after [] d.steps

-- with greetings it was sent these bytes, and without greetings those
abbrev pub SentOf : Config → Heading → Histories → Connected → List ℕ → Type 0
SentOf c heading h d bytes =
    Sent c h.rings d.opening (judged_of c heading d) (first_answer d.steps) (segments_of d) bytes

abbrev pub plain_of : Config → Heading → Histories → Connected → List ℕ
plain_of c heading h d =
    plain c h.rings d.opening (judged_of c heading d) (first_answer d.steps) (segments_of d)

-- its greeting by what led from the old histories to these
abbrev pub greeting_to : Config → Heading → Histories → Histories → Connected → List ℕ
greeting_to c heading old now d =
    sent_greeting (goes_on (judged_of c heading d) d.steps d.closed) c old now (version_in (judged_of c heading d) (first_answer d.steps))
    (segments_of d)

-- what it was sent before, what it is sent without greetings, and its greeting
abbrev pub with_more : List ℕ → List ℕ → List ℕ → List ℕ → List ℕ
with_more bytes before after greeting = bytes ++ (drop (length before) after ++ greeting)

-- ---- others' calls

pub stays_so : (c : Config) (heading : Heading) (old now : Histories) (d : Connected) → Later old.rings now.rings
    → IsSoundOf c old.rings d → plain_of c heading now d ≡ plain_of c heading old d
stays_so c heading old now d later sound =
    plain_same c old.rings now.rings d.opening (judged_of c heading d) (judged_of c heading d) (first_answer d.steps) []
    (segments_of d) (same_self c d.opening (judged_of c heading d)) later sound (All-nil (IsNew c now.rings))

pub sent_on : (c : Config) (heading : Heading) (old now : Histories) (d : Connected) (bytes : List ℕ)
    → Later old.rings now.rings → IsSoundOf c old.rings d → SentOf c heading old d bytes
    → SentOf c heading now d bytes
sent_on c heading old now d bytes later sound sent =
    stays_sent c old.rings now.rings d.opening (judged_of c heading d) (first_answer d.steps) (segments_of d) bytes later
    sound sent

-- ---- bytes came in

-- what becomes of it by a plan that its bytes owe
pub record Came (c : Config) (h : Histories) (d now : Connected) (plan : Plan) (m : Moved) : Type 0 where
  pub opening : m.connection.opening ≡ now.opening
  pub text : m.connection.text ≡ now.text
  pub closed : m.connection.closed ≡ now.closed
  pub more : List Step
  pub steps : m.connection.steps ≡ now.steps ++ more
  pub walk : SomeWalk c h m.histories (segments_of d) (segments_of m.connection)
  pub quiet : JoinsSuch IsNever plan → Walk c h m.histories (segments_of d) [] (segments_of m.connection)

-- closed at once it is sent no more
walk_closing : (c : Config) (old : Histories) (m : Moved) (j : Judged) (before news : List Segment)
    → Walk c old m.histories before news (segments_of m.connection)
    → Walk c old (makes c m.histories m.connection (closing j m.connection.steps)).histories before news
    (segments_of (makes c m.histories m.connection (closing j m.connection.steps)).connection)
walk_closing c old m j before news walk =
    let steps = m.connection.steps in
    let me = m.connection.number in
    let last = made c me m.histories (closing j steps) in
    subst (Walk c old (with_calls me m.histories last) before news) (sym (segments-append [] steps last))
    (never_plan c old m.histories me (closing j steps) before news (segments_after [] steps) (closing_good j steps)
    (closing_such IsNever (came_to j steps) (segments_after [] steps)) walk)

module _ (c : Config) (h : Histories) (d now : Connected) (plan : Plan) (same : now.steps ≡ d.steps)
    (good : IsGood plan) (within : IsWithin (length h.rings) plan) where
  abbrev added : List Step
  added = made c now.number h plan

  segments_are : segments_after (segments_of d) added ≡ segments_after [] (now.steps ++ added)
  segments_are =
      ap (λ (l : List Step). segments_after (segments_after [] l) added) (sym same)
      ∙ sym (segments-append [] now.steps added)

  pub came_first : Came c h d now plan (makes c h now plan)
  came_first =
      let all = plan_walks c h h now.number plan (segments_of d) [] (segments_of d) good within
      (walk_start c h (segments_of d)) in
      record {
        opening = refl;
        text = refl;
        closed = refl;
        more = added;
        steps = refl;
        walk = (
          all.0,
          subst (Walk c h (with_calls now.number h added) (segments_of d) all.0) segments_are all.1,
        );
        quiet = λ never. subst (Walk c h (with_calls now.number h added) (segments_of d) []) segments_are
            (never_plan c h h now.number plan (segments_of d) [] (segments_of d) good never
            (walk_start c h (segments_of d)));
      }

-- the whole plan was made, so nothing is left of it
left_made : (plan : Plan) (steps : List Step) → IsMade plan steps → left plan steps ≡ done
left_made done steps made = refl
left_made (asks ask next) [] made = absurd made
left_made (asks ask next) (step ∷ steps) made = left_made (next (answer_of step)) steps made.1

pub came_if : (end : Option Ending) (c : Config) (h : Histories) (d now : Connected) (plan : Plan) (j : Judged) (m : Moved)
    → Came c h d now plan m → Came c h d now plan (closed_if end c j m)
came_if None c h d now plan j m came = came
came_if (Some end) c h d now plan j m came =
    let last = made c m.connection.number m.histories (closing j m.connection.steps) in
    record {
      opening = came.opening;
      text = came.text;
      closed = came.closed;
      more = came.more ++ last;
      steps = ap (λ (l : List Step). l ++ last) came.steps ∙ append_assoc now.steps came.more last;
      walk = (came.walk.0, walk_closing c h m j (segments_of d) came.walk.0 came.walk.1);
      quiet = λ never. walk_closing c h m j (segments_of d) [] (came.quiet never);
    }

-- ---- of one that goes on

module _ (c : Config) (cap : ℕ) (heading : Heading) (h : Histories) (d : Connected) (text : List ℕ)
    (kept : KeepsRules cap c) (s : Stood c heading h d)
    (goes : goes_on (judged_of c heading d) d.steps d.closed ≡ true) (frames : AreFrames h.rings)
    (sound : IsSoundOf c h.rings d) where
  abbrev o : Opening
  o = d.opening

  abbrev j : Judged
  j = judged_of c heading d

  abbrev k : Judged
  k = judged c d.opening heading (d.text ++ text)

  abbrev plan : Plan
  plan = left (plan_of c k) (owed_among d.steps)

  abbrev now : Connected
  now = with_text d (d.text ++ text)

  abbrev m : Moved
  m = moved c heading h d (arrives text)

  came : Came c h d now plan m
  came =
      came_if (ended_by (came_to k (makes c h now plan).connection.steps)) c h d now plan k (makes c h now plan)
      (came_first c h d now plan refl (good_left (plan_of c k) (owed_among d.steps) (good_plan c k))
      (subst (λ (n : ℕ). IsWithin n plan) (sym s.walked.size)
      (left_within (length c.mount) (plan_of c k) (owed_among d.steps)
      (plan_within c k (judged_fed c cap d.opening heading (d.text ++ text) kept)))))

  abbrev by : Option Answer
  by = first_answer m.connection.steps

  uncut : is_none m.connection.closed ≡ true
  uncut = ap is_none came.closed ∙ (and_parts (is_none d.closed) (is_none (ended_by (came_to j d.steps))) goes).0

  later : Later h.rings m.histories.rings
  later = (well.moved_moves c heading h d (arrives text) frames sound).later

  judged_now : judged_of c heading m.connection ≡ k
  judged_now =
      ap (λ (x : Opening). judged c x heading m.connection.text) came.opening
      ∙ ap (λ (t : List ℕ). judged c d.opening heading t) came.text

  abbrev goes_now : Bool
  goes_now = goes_on k m.connection.steps m.connection.closed

  -- one that does not go on has no segments
  one_now : IsOne k m.connection.steps
  one_now = subst (λ (x : Judged). IsOne x m.connection.steps) judged_now
      (is_one c heading m.histories m.connection (moved_moves c cap heading h d (arrives text) kept s goes).stood)

  none_new : (news : List Segment) → Walk c h m.histories (segments_of d) news (segments_of m.connection)
      → goes_now ≡ false → news ≡ []
  none_new news walk stops = elim one_now [
    | inl none ↦ first_none news (segments_of d) (sym walk.all ∙ none)
    | inr (terms, tail, is, in_it) ↦
        absurd (false≢true (sym stops
        ∙ ap (λ (x : Judged). goes_on x m.connection.steps m.connection.closed) is
        ∙ ap (λ (r : Option Answer). is_none m.connection.closed && is_none (ended_by (came_by (rover terms tail) r))) in_it
        ∙ ap (λ (b : Bool). b && true) uncut))
  ]
    where
      first_none : (first second : List Segment) → first ++ second ≡ [] → first ≡ []
      first_none [] second is = refl
      first_none (x ∷ first) second is = absurd cc

  -- the new segments, and none where it does not join by bytes
  record Chosen (news : List Segment) : Type 0 where
    walk : Walk c h m.histories (segments_of d) news (segments_of m.connection)
    none : by_bytes o j ≡ false → news ≡ []

  chosen : (joins : Bool) → by_bytes o j ≡ joins → Same c o j k → (news : List Segment) × Chosen news
  chosen true is same = (
    came.walk.0,
    record { walk = came.walk.1; none = λ far. absurd (false≢true (sym far ∙ is)) },
  )
  chosen false is same = (
    [],
    record {
      walk = came.quiet (subst (JoinsSuch IsNever) (sym (nothing_left is)) tt);
      none = λ far. refl;
    },
  )
    where
      nothing_left : by_bytes o j ≡ false → plan ≡ done
      nothing_left far =
          ap (λ (p : Plan). left p (owed_among d.steps)) (same.far far)
          ∙ left_made (plan_of c j) (owed_among d.steps) (still_made c heading h d s goes)

  -- with its greeting, by what it is judged to be now
  abbrev IsSentNow : List ℕ → Option Answer → List Segment → Type 0
  IsSentNow bytes r segments =
      Sent c m.histories.rings o k r segments
      (with_more bytes (plain_of c heading h d) (plain c m.histories.rings o k r segments)
      (sent_greeting goes_now c h m.histories (version_in k r) segments))

  by_news : (bytes : List ℕ) (r : Option Answer) (news : List Segment)
      → (walk : Walk c h m.histories (segments_of d) news (segments_of m.connection))
      → Sent c m.histories.rings o k r (news ++ segments_of d)
      (with_more bytes (plain_of c heading h d) (plain c m.histories.rings o k r (news ++ segments_of d))
      (body_of (version_in k r) (new_greeting c m.histories.rings news)))
      → IsSentNow bytes r (segments_of m.connection)
  by_news bytes r news walk sent =
      let segments = segments_of m.connection in
      let text_is = greets_new goes_now c h m.histories (version_in k r) (segments_of d) news segments walk
      (none_new news walk) in
      subst (λ (l : List ℕ). Sent c m.histories.rings o k r segments
      (with_more bytes (plain_of c heading h d) (plain c m.histories.rings o k r segments) l)) (sym text_is)
      (subst (λ (l : List Segment). Sent c m.histories.rings o k r l
      (with_more bytes (plain_of c heading h d) (plain c m.histories.rings o k r l)
      (body_of (version_in k r) (new_greeting c m.histories.rings news)))) (sym walk.all) sent)

  came_same : (bytes : List ℕ) → Same c o j k → IsSome d.steps → SentOf c heading h d bytes
      → IsSentNow bytes by (segments_of m.connection)
  came_same bytes same some sent =
      let choice = chosen (by_bytes o j) refl same in
      let as_before : by ≡ first_answer d.steps =
      ap first_answer came.steps ∙ received_some d.steps came.more some in
      subst (λ (r : Option Answer). IsSentNow bytes r (segments_of m.connection)) (sym as_before)
      (by_news bytes (first_answer d.steps) choice.0 choice.1.walk
      (more_same c h.rings m.histories.rings o j k (first_answer d.steps) choice.0 (segments_of d) bytes same later sound
      choice.1.walk.each choice.1.none sent))

  came_judged : (bytes : List ℕ) → j ≡ waiting → by_bytes o k ≡ true → SentOf c heading h d bytes
      → IsSentNow bytes by (segments_of m.connection)
  came_judged bytes waits joins sent =
      let none : segments_of d ≡ [] = elim (is_one c heading h d s) [
        | inl none ↦ none
        | inr (terms, tail, is, in_it) ↦ absurd (not_both terms tail (sym waits ∙ is))
      ] in
      let news = came.walk.0 in
      let walk = came.walk.1 in
      by_news bytes by news walk
      (subst (λ (l : List Segment). Sent c m.histories.rings o k by (news ++ l)
      (with_more bytes (plain c h.rings o j (first_answer d.steps) l) (plain c m.histories.rings o k by (news ++ l))
      (body_of (version_in k by) (new_greeting c m.histories.rings news)))) (sym none)
      (subst (λ (x : Judged). Sent c m.histories.rings o k by (news ++ [])
      (with_more bytes (plain c h.rings o x (first_answer d.steps) []) (plain c m.histories.rings o k by (news ++ []))
      (body_of (version_in k by) (new_greeting c m.histories.rings news)))) (sym waits)
      (more_judged c h.rings m.histories.rings o k (first_answer d.steps) by news bytes walk.each joins
      (subst (λ (x : Judged). Sent c h.rings o x (first_answer d.steps) [] bytes) waits
      (subst (λ (l : List Segment). Sent c h.rings o j (first_answer d.steps) l bytes) none sent)))))
    where
      not_both : (terms : RoverTerms) (tail : List ℕ) → waiting ≡ rover terms tail → ⊥
      not_both terms tail is = cc

  by_kind : (bytes : List ℕ) → SentOf c heading h d bytes → Grows c o j k → (j ≡ waiting) ⊎ IsSome d.steps
      → IsSentNow bytes by (segments_of m.connection)
  by_kind bytes sent (inl (waits, joins)) some = came_judged bytes waits joins sent
  by_kind bytes sent (inr same) (inl waits) =
      came_judged bytes waits (same.bytes ∙ ap (by_bytes o) waits ∙ all_by o waiting refl) sent
  by_kind bytes sent (inr same) (inr some) = came_same bytes same some sent

  abbrev IsSentAs : List ℕ → Opening → Judged → Type 0
  IsSentAs bytes x y =
      Sent c m.histories.rings x y by (segments_of m.connection)
      (with_more bytes (plain_of c heading h d) (plain c m.histories.rings x y by (segments_of m.connection))
      (sent_greeting (goes_on y m.connection.steps m.connection.closed) c h m.histories (version_in y by)
      (segments_of m.connection)))

  pub bytes_sent : (bytes : List ℕ) → SentOf c heading h d bytes
      → SentOf c heading m.histories m.connection
      (with_more bytes (plain_of c heading h d) (plain_of c heading m.histories m.connection)
      (greeting_to c heading h m.histories m.connection))
  bytes_sent bytes sent =
      subst (λ (x : Opening). IsSentAs bytes x (judged_of c heading m.connection)) (sym came.opening)
      (subst (λ (x : Judged). IsSentAs bytes o x) (sym judged_now)
      (by_kind bytes sent (judged_grows c o heading d.text text)
      (going_called c j d.steps d.closed goes (still_made c heading h d s goes))))

-- ---- a turn

module _ (c : Config) (heading : Heading) (h : Histories) (d : Connected) (budget : ℕ) (bytes : List ℕ)
    (frames : AreFrames h.rings) where
  abbrev turn : List Segment → Moved
  turn segments = makes c h d (reads budget segments)

  abbrev IsTurned : Moved → Type 0
  IsTurned next =
      SentOf c heading next.histories next.connection
      (with_more bytes (plain_of c heading h d) (plain_of c heading next.histories next.connection) [])

  some_steps : (steps : List Step) (segment : Segment) (older : List Segment)
      → segments_after [] steps ≡ segment ∷ older → IsSome steps
  some_steps [] segment older is = absurd cc
  some_steps (step ∷ steps) segment older is = (step, steps, refl)

  abbrev IsSteps : Histories → Option Answer → List Segment → Type 0
  IsSteps now r segments =
      Sent c now.rings d.opening (judged_of c heading d) r segments
      (with_more bytes (plain_of c heading h d) (plain c now.rings d.opening (judged_of c heading d) r segments) [])

  turned : (segments : List Segment) → segments_of d ≡ segments → AllSound c h.rings segments
      → SentOf c heading h d bytes → IsTurned (turn segments)
  turned [] is sound sent =
      subst (λ (l : List Step). IsSteps h (first_answer l) (segments_after [] l)) (sym (append-nil d.steps))
      (subst (SentOf c heading h d) (sym (none_more bytes (plain_of c heading h d) (plain_of c heading h d) refl)) sent)
  turned (segment ∷ older) is sound sent =
      let steps = made c d.number h (reads budget (segment ∷ older)) in
      let now = with_calls d.number h steps in
      let published = published_at h.rings segment in
      let capacity = (shape_at (shapes c) segment.mount).capacity in
      let permits = permits_of c segment in
      let read : Segment = read_on (read_report permits capacity published segment.cursor budget) segment in
      let more = read_frames permits capacity published segment.cursor budget in
      let later = (turn_keeps c d.number h (segment ∷ older) budget frames sound).later in
      let sound_one = All-head (IsSoundIn c h.rings) segment older sound in
      let segments_are : segments_after [] (d.steps ++ steps) ≡ read ∷ older =
      segments-append [] d.steps steps ∙ ap (λ (l : List Segment). segments_after l steps) is in
      let by_is : first_answer (d.steps ++ steps) ≡ first_answer d.steps =
      received_some d.steps steps (some_steps d.steps segment older is) in
      subst (λ (r : Option Answer). IsSteps now r (segments_after [] (d.steps ++ steps))) (sym by_is)
      (subst (λ (l : List Segment). IsSteps now (first_answer d.steps) l) (sym segments_are)
      (subst (λ (l : List Segment). Sent c now.rings d.opening (judged_of c heading d) (first_answer d.steps) (read ∷ older)
      (with_more bytes (plain c h.rings d.opening (judged_of c heading d) (first_answer d.steps) l)
      (plain c now.rings d.opening (judged_of c heading d) (first_answer d.steps) (read ∷ older)) [])) (sym is)
      (read_sent c h.rings now.rings segment read older more later sound refl
      (kept_on c h.rings now.rings read later (IsSound-read permits capacity published segment budget sound_one)
      ∙ kept-read permits capacity published segment budget sound_one)
      (kept_on c h.rings now.rings segment later sound_one) d.opening (judged_of c heading d) (first_answer d.steps) bytes
      (subst (λ (l : List Segment). Sent c h.rings d.opening (judged_of c heading d) (first_answer d.steps) l bytes) is
      sent))))

  pub turn_sent : IsSoundOf c h.rings d → SentOf c heading h d bytes
      → IsTurned (moved c heading h d (takes_turn budget))
  turn_sent sound sent = turned (segments_of d) refl sound sent

-- ---- its end

module _ (c : Config) (heading : Heading) (h : Histories) (d : Connected) (last : Last)
    (frames : AreFrames h.rings) (sound : IsSoundOf c h.rings d) where
  abbrev over : Moved
  over = moved c heading h d (ends last)

  over_later : Later h.rings over.histories.rings
  over_later = (well.moved_moves c heading h d (ends last) frames sound).later

  abbrev last_steps : List Step
  last_steps = made c d.number h (closing (judged_of c heading d) d.steps)

  over_segments : segments_of over.connection ≡ segments_of d
  over_segments =
      let walk = never_plan c h h d.number (closing (judged_of c heading d) d.steps) (segments_of d) [] (segments_of d)
      (closing_good (judged_of c heading d) d.steps)
      (closing_such IsNever (came_to (judged_of c heading d) d.steps) (segments_of d)) (walk_start c h (segments_of d))
      in segments-append [] d.steps last_steps ∙ walk.all

  over_received : first_answer over.connection.steps ≡ first_answer d.steps
  over_received = received_closed (judged_of c heading d) d.steps last_steps
      (made_is c d.number h (closing (judged_of c heading d) d.steps))

  pub end_plain : plain_of c heading over.histories over.connection ≡ plain_of c heading h d
  end_plain =
      ap (λ (r : Option Answer). plain c over.histories.rings d.opening (judged_of c heading d) r
      (segments_of over.connection)) over_received
      ∙ ap (plain c over.histories.rings d.opening (judged_of c heading d) (first_answer d.steps)) over_segments
      ∙ stays_so c heading h over.histories d over_later sound

  pub end_sent : (bytes : List ℕ) → SentOf c heading h d bytes
      → SentOf c heading over.histories over.connection bytes
  end_sent bytes sent =
      subst (λ (r : Option Answer). Sent c over.histories.rings d.opening (judged_of c heading d) r
      (segments_of over.connection) bytes) (sym over_received)
      (subst (λ (l : List Segment). Sent c over.histories.rings d.opening (judged_of c heading d) (first_answer d.steps) l
      bytes) (sym over_segments)
      (sent_on c heading h over.histories d bytes over_later sound sent))
