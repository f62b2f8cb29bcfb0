-- Round after round: a link that came, each link in its place, the end of a round.
use Rattle.std.proofs.Common.{◌≡◌, ◌∙◌, ◌<◌, ◌≤◌, ◌⊎◌, ◌+◌, ℕ, zero, suc, Bool, true, false, List, [], ◌∷◌, ◌++◌, length, length-append, get_or, set, refl, sym, ap, subst, inl, inr, arith, append_assoc}
use Rattle.std.proofs.lemmas.List.{append-nil, length-set}
use Rattle.std.proofs.lemmas.List.Concat.{flat_map-append}
use Rattle.cast_io.specs.Told.{LinkTold, DoorTold, StillTold}
use Rattle.cast_io.specs.declared.door.Arrived.TheVariants as arrived
use Rattle.cast_io.specs.Doors.{HasAccepted}
use Rattle.cast_io.specs.Links.{IsNewLink}
use Rattle.session_script.specs.declared.Event.{Event}
use Rattle.session_script.specs.declared.Event.TheVariants as events
use Rattle.cast_config.specs.declared.config.Config.{Config}
use Rattle.caster_replay.specs.Kept.{lives_of}
use Rattle.caster_replay.specs.Sends.{IsSilent}
use Rattle.caster_record.specs.declared.recorder.Recorder.{Recorder}
use Rattle.caster_record.specs.Keeping.{Keeps, RestsAfter, IsWithin}
use Rattle.caster_record.specs.Moves.{Move, came, nobody, served, AskAll, has_torn}
use Rattle.caster_record.specs.Recording.{Records, events_in}
use Rattle.caster_record.specs.Rounds.{moves_of, IsFull, IsPassed, IsServedNext, IsRound, AreRounds}
use Rattle.caster_record.specs.Steps.{IsServed}
use Rattle.caster_record.proofs.ArriveLemmas.{asked_more, asked_served, asked_link, asked_nobody}
use Rattle.caster_record.proofs.KeepLemmas.{keep_came, keep_nobody, keep_served}

-- ---- marks

-- what stands there does not hang on what would stand elsewhere
pub mark_is : (marks : List Bool) (at : ℕ) (mark : Bool) → at < length marks → mark ≡ get_or marks at mark
    → get_or marks at true ≡ mark
mark_is [] at mark within is = absurd (omega (arith, within))
mark_is (first ∷ marks) zero mark within is = sym is
mark_is (first ∷ marks) (suc at) mark within is = mark_is marks at mark (omega (arith, within)) is

-- ---- rounds

rounds_more : (c : Config) (limit : ℕ) (rounds : List (List Move)) (round earlier : List Move) (few some count : ℕ)
    (before between after : List Event) → AreRounds c limit rounds earlier few before some between
    → IsRound c limit (earlier ++ moves_of rounds) some count round between after count
    → AreRounds c limit (rounds ++ round ∷ []) earlier few before count after
rounds_more c limit [] round earlier few some count before between after are is = (
  count,
  after,
  subst (λ (n : ℕ). IsRound c limit earlier n count round before after count) are.0
      (subst (λ (l : List Event). IsRound c limit earlier some count round l after count) are.1
      (subst (λ (m : List Move). IsRound c limit m some count round between after count) (append-nil earlier) is)),
  (refl, refl),
)
rounds_more c limit (first ∷ rounds) round earlier few some count before between after are is = (
  are.0,
  are.1,
  are.2,
  rounds_more c limit rounds round (earlier ++ first) are.0 some count are.1 between after are.3
      (subst (λ (m : List Move). IsRound c limit m some count round between after count)
      (sym (append_assoc earlier first (moves_of rounds))) is),
)

moves_more : (rounds : List (List Move)) (round : List Move) → moves_of
    (rounds ++ round ∷ []) ≡ moves_of rounds ++ round
moves_more rounds round =
    flat_map-append (λ (r : List Move). r) rounds (round ∷ [])
    ∙ ap (λ (l : List Move). moves_of rounds ++ l) (append-nil round)

-- ---- a round begins

-- with room for one more link it is as it was
pub rests_same : {L : Type 0} (told : L → LinkTold) (c : Config) (limit : ℕ) (before door : DoorTold)
    (recorder : Recorder) (links after : List L) (torn marks : List Bool) → after ≡ links → marks ≡ torn
    → RestsAfter told c limit before door recorder links torn
    → RestsAfter told c limit before door recorder after marks
rests_same told c limit before door recorder links after torn marks same same_marks r =
    subst (RestsAfter told c limit before door recorder after) (sym same_marks)
    (subst (λ l. RestsAfter told c limit before door recorder l torn) (sym same) r)

is_full : (c : Config) (limit count : ℕ) (recorder : Recorder) → Records c recorder
    → (limit ≤ count) ⊎ (8370000 < recorder.tape.size) → IsFull limit count (events_in recorder)
is_full c limit count recorder records (inl most) = inl most
is_full c limit count recorder records (inr long) = inr (omega (arith, long, records.size))

-- none may come, and the door is not asked
pub begins_full : {L : Type 0} (told : L → LinkTold) (c : Config) (limit : ℕ) (before door : DoorTold)
    (recorder : Recorder) (links : List L) (torn : List Bool) (count : ℕ) → count ≡ length links
    → (limit ≤ count) ⊎ (8370000 < recorder.tape.size)
    → RestsAfter told c limit before door recorder links torn
    → IsWithin told c limit 0 before door recorder links torn
begins_full told c limit before door recorder links torn count numbered full r = record {
  rounds = r.rounds;
  few = length links;
  first = events_in recorder;
  are = r.are;
  round = [];
  is = record {
    first = [];
    between = events_in recorder;
    begun = inl (
      is_full c limit (length links) recorder r.keeps.records
          (subst (λ (n : ℕ). (limit ≤ n) ⊎ (8370000 < recorder.tape.size)) numbered full),
      refl,
      refl,
      refl,
    );
    others = [];
    is = refl;
    places = (refl, refl);
  };
  asked = subst (λ (m : List Move). StillTold (AskAll m) before.left door.left) (sym (append-nil (moves_of r.rounds)))
      r.asked;
  calm = r.calm;
  keeps = subst (Keeps told c recorder links torn) (sym (append-nil (moves_of r.rounds))) r.keeps;
}

-- nobody came
pub begins_without : {L : Type 0} (told : L → LinkTold) (c : Config) (limit : ℕ) (before door later : DoorTold)
    (recorder : Recorder) (links : List L) (torn : List Bool) → length links < limit
    → recorder.tape.size ≤ 8370000 → HasAccepted told door later arrived.Idle
    → RestsAfter told c limit before door recorder links torn
    → IsWithin told c limit 0 before later recorder links torn
begins_without told c limit before door later recorder links torn fewer room accepted r = record {
  rounds = r.rounds;
  few = length links;
  first = events_in recorder;
  are = r.are;
  round = nobody ∷ [];
  is = record {
    first = nobody ∷ [];
    between = events_in recorder;
    begun = inr ((fewer, omega (arith, room, r.keeps.records.size)), inl (refl, refl, refl));
    others = [];
    is = refl;
    places = (refl, refl);
  };
  asked = asked_more (moves_of r.rounds) nobody before.left door.left later.left r.asked
      (asked_nobody told door later accepted);
  calm = accepted.unharmed refl ∙ r.calm;
  keeps = keep_nobody told c recorder links torn (moves_of r.rounds) r.keeps;
}

one_asked : {L : Type 0} (told : L → LinkTold) (c : Config) (limit : ℕ) (before door later : DoorTold)
    (old new : Recorder) (links : List L) (torn : List Bool) (link : L)
    → RestsAfter told c limit before door old links torn → HasAccepted told door later (arrived.Link link)
    → IsNewLink (told link) → length links < limit → limit ≤ 256 → old.tape.size ≤ 8370000 → Records c new
    → events_in new ≡ events_in old ++ events.Open (length links + 1) ∷ []
    → IsSilent (lives_of old.run) (lives_of new.run) → new.tape.size ≤ 8378380
    → IsWithin told c limit 0 before later new (links ++ link ∷ []) (torn ++ false ∷ [])
one_asked told c limit before door later old new links torn link r accepted fresh fewer most room records all silent =
    λ bound. record {
      rounds = r.rounds;
      few = length links;
      first = events_in old;
      are = r.are;
      round = came (length links + 1) ∷ [];
      is = record {
        first = came (length links + 1) ∷ [];
        between = events_in new;
        begun = inr (
          (fewer, omega (arith, room, r.keeps.records.size)),
          inr (refl, all, length-append links (link ∷ [])),
        );
        others = [];
        is = refl;
        places = (refl, refl);
      };
      asked = asked_more (moves_of r.rounds) (came (length links + 1)) before.left door.left later.left r.asked
          (asked_link told link (length links + 1) door later accepted);
      calm = accepted.unharmed refl ∙ r.calm;
      keeps = keep_came told c old new links torn (moves_of r.rounds) link r.keeps fresh (omega (arith, fewer, most))
          records all silent bound;
    }

-- one came, and its connection opened under the next number
pub begins_with : {L : Type 0} (told : L → LinkTold) (c : Config) (limit number : ℕ) (before door later : DoorTold)
    (old new : Recorder) (links after : List L) (torn marks : List Bool) (link : L)
    → RestsAfter told c limit before door old links torn → HasAccepted told door later (arrived.Link link)
    → IsNewLink (told link) → length links < limit → limit ≤ 256 → old.tape.size ≤ 8370000 → Records c new
    → after ≡ links ++ link ∷ [] → marks ≡ torn ++ false ∷ [] → number ≡ length after
    → events_in new ≡ events_in old ++ events.Open number ∷ []
    → IsSilent (lives_of old.run) (lives_of new.run) → new.tape.size ≤ 8378380
    → IsWithin told c limit 0 before later new after marks
begins_with told c limit number before door later old new links after torn marks link r accepted fresh fewer most room
    records pushed marked numbered all silent bound =
    subst (IsWithin told c limit 0 before later new after) (sym marked)
    (subst (λ l. IsWithin told c limit 0 before later new l (torn ++ false ∷ [])) (sym pushed)
    (one_asked told c limit before door later old new links torn link r accepted fresh fewer most room records
    (all ∙ ap (λ (n : ℕ). events_in old ++ events.Open n ∷ [])
    (numbered ∙ ap length pushed ∙ length-append links (link ∷ []))) silent bound))

-- ---- a link in its place

-- the moves before it are those before the round, and those of the round
so_far : (c : Config) (limit n : ℕ) (earlier round : List Move) (few count : ℕ) (before after : List Event)
    → (r : IsRound c limit earlier few n round before after count) → earlier ++ round ≡ (earlier ++ r.first) ++ r.others
so_far c limit n earlier round few count before after r =
    ap (λ (l : List Move). earlier ++ l) r.is ∙ sym (append_assoc earlier r.first r.others)

passed_more : (c : Config) (limit n : ℕ) (earlier round : List Move) (few count : ℕ) (before after : List Event)
    → IsRound c limit earlier few n round before after count → IsPassed c (earlier ++ round) (suc n) after
    → IsRound c limit earlier few (suc n) round before after count
passed_more c limit n earlier round few count before after r passed = record {
  first = r.first;
  between = r.between;
  begun = r.begun;
  others = r.others;
  is = r.is;
  places = (
    r.others,
    after,
    r.places,
    inl (
      subst (λ (l : List Move). IsPassed c l (suc n) after) (so_far c limit n earlier round few count before after r)
          passed,
      refl,
      refl,
    ),
  );
}

served_more : (c : Config) (limit n : ℕ) (earlier round : List Move) (few count : ℕ) (move : Move)
    (before between after : List Event)
    → IsRound c limit earlier few n round before between count
    → IsServedNext c (earlier ++ round) (suc n) move between after
    → IsRound c limit earlier few (suc n) (round ++ move ∷ []) before after count
served_more c limit n earlier round few count move before between after r next = record {
  first = r.first;
  between = r.between;
  begun = r.begun;
  others = r.others ++ move ∷ [];
  is = ap (λ (l : List Move). l ++ move ∷ []) r.is ∙ append_assoc r.first r.others (move ∷ []);
  places = (
    r.others,
    between,
    r.places,
    inr (
      move,
      refl,
      subst (λ (l : List Move). IsServedNext c l (suc n) move between after)
          (so_far c limit n earlier round few count before between r) next,
    ),
  );
}

pub within_passed : {L : Type 0} (told : L → LinkTold) (c : Config) (limit at number : ℕ) (before door : DoorTold)
    (recorder : Recorder) (links : List L) (torn : List Bool)
    → IsWithin told c limit at before door recorder links torn → number ≡ at + 1 → at < length links
    → ((earlier : List Move) → get_or torn at true ≡ has_torn number earlier
    → IsPassed c earlier number (events_in recorder))
    → IsWithin told c limit (at + 1) before door recorder links torn
within_passed told c limit at number before door recorder links torn w place within passed = record {
  rounds = w.rounds;
  few = w.few;
  first = w.first;
  are = w.are;
  round = w.round;
  is = subst (λ (n : ℕ). IsRound c limit earlier w.few n w.round w.first (events_in recorder) (length links))
      (omega arith)
      (passed_more c limit at earlier w.round w.few (length links) w.first (events_in recorder) w.is
      (subst (λ (n : ℕ). IsPassed c (earlier ++ w.round) n (events_in recorder)) next
      (passed (earlier ++ w.round)
      (w.keeps.marks at within ∙ ap (λ (n : ℕ). has_torn n (earlier ++ w.round)) (omega (arith, place))))));
  asked = w.asked;
  calm = w.calm;
  keeps = w.keeps;
}
  where
    earlier : List Move
    earlier = moves_of w.rounds

    next : number ≡ suc at
    next = omega (arith, place)

pub within_served : {L : Type 0} (told : L → LinkTold) (c : Config) (limit at number : ℕ) (before door : DoorTold)
    (old new : Recorder) (links : List L) (torn : List Bool) (link after : L) (now : Bool)
    → IsWithin told c limit at before door old links torn → number ≡ at + 1 → at < length links → link ≡ get_or links at link → get_or torn at true ≡ false
    → old.tape.size ≤ 8370000
    → IsServed c number (told link) (told after) old new now → Records c new → new.tape.size ≤ 8378380
    → IsWithin told c limit (at + 1) before door new (set links at after) (set torn at now)
within_served told c limit at number before door old new links torn link after now w place within here clear room s =
    λ records bound. record {
      rounds = w.rounds;
      few = w.few;
      first = w.first;
      are = w.are;
      round = w.round ++ move ∷ [];
      is = subst (λ (n : ℕ). IsRound c limit earlier w.few (at + 1) (w.round ++ move ∷ []) w.first (events_in new) n)
          (sym (length-set links at after))
          (subst (λ (n : ℕ). IsRound c limit earlier w.few n (w.round ++ move ∷ []) w.first (events_in new)
          (length links)) (omega arith)
          (served_more c limit at earlier w.round w.few (length links) move w.first (events_in old) (events_in new) w.is
          (subst (λ (n : ℕ). IsServedNext c (earlier ++ w.round) n move (events_in old) (events_in new)) next (record {
            answer = s.answer;
            torn = now;
            move_is = refl;
            whole = sym (w.keeps.marks at within
                ∙ ap (λ (n : ℕ). has_torn n (earlier ++ w.round)) (omega (arith, place)))
                ∙ clear;
            room = omega (arith, room, w.keeps.records.size);
            happened = s.is_served;
          }))));
      asked = subst (λ (m : List Move). StillTold (AskAll m) before.left door.left)
          (append_assoc earlier w.round (move ∷ []))
          (asked_served (earlier ++ w.round) number s.answer now before.left door.left w.asked);
      calm = w.calm;
      keeps = subst (Keeps told c new (set links at after) (set torn at now)) (append_assoc earlier w.round (move ∷ []))
          (keep_served told c old new links torn (earlier ++ w.round) at number link after now w.keeps
          (omega (arith, place)) within here clear s records bound);
    }
  where
    earlier : List Move
    earlier = moves_of w.rounds

    move : Move
    move = served number s.answer now

    next : number ≡ suc at
    next = omega (arith, place)

-- ---- a round ends

pub rests_again : {L : Type 0} (told : L → LinkTold) (c : Config) (limit n : ℕ) (before door : DoorTold)
    (recorder : Recorder) (links : List L) (torn : List Bool)
    → IsWithin told c limit n before door recorder links torn → n ≡ length links
    → RestsAfter told c limit before door recorder links torn
rests_again told c limit n before door recorder links torn w all = record {
  rounds = w.rounds ++ w.round ∷ [];
  are = rounds_more c limit w.rounds w.round [] 0 w.few (length links) [] w.first (events_in recorder) w.are
      (subst (λ (m : ℕ). IsRound c limit (moves_of w.rounds) w.few m w.round w.first (events_in recorder)
      (length links)) all w.is);
  asked = subst (λ (m : List Move). StillTold (AskAll m) before.left door.left) (sym (moves_more w.rounds w.round))
      w.asked;
  calm = w.calm;
  keeps = subst (Keeps told c recorder links torn) (sym (moves_more w.rounds w.round)) w.keeps;
}
