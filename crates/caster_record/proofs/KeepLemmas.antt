-- What stands while a session is recorded, where a link came or nobody, and where one was served.
use Rattle.std.proofs.Common.{◌≡◌, ◌≢◌, ◌∙◌, ◌<◌, ◌≤◌, ◌+◌, ℕ, Bool, true, false, List, [], ◌∷◌, ◌++◌, length, length-append, map, get_or, set, refl, sym, ap, subst, inl, inr, arith}
use Rattle.std.specs.Prelude.{◌==◌, ◌&&◌, nat_lt}
use Rattle.std.specs.List.{list_any}
use Rattle.std.proofs.lemmas.Bool.{cases_Bool, eqb-true, eqb-false, ne_eqb, ltb-true, ltb-false}
use Rattle.std.proofs.lemmas.List.{map-set, map-append, length-set, get_or-map, get_or-set_other, get_or_append_left, length-map}
use Rattle.std.proofs.lemmas.List.Folds.{list_any-append}
use Rattle.std.proofs.lemmas.Grind.{get_or-set_at}
use Rattle.cast_io.specs.declared.steps.Step.{Step}
use Rattle.cast_io.specs.Told.{LinkTold}
use Rattle.cast_io.specs.Links.{IsNewLink}
use Rattle.session_script.specs.declared.Event.{Event}
use Rattle.session_script.specs.declared.Event.TheVariants as events
use Rattle.session_script.specs.Numbers.{Numbers, no_numbers}
use Rattle.session_script.specs.Script as scripts
use Rattle.cast_config.specs.declared.config.Config.{Config}
use Rattle.caster_replay.specs.Going.{numbers_from}
use Rattle.caster_replay.specs.Kept.{lives_of, sent_by_run}
use Rattle.caster_replay.specs.Sends.{IsSilent}
use Rattle.caster_record.specs.declared.recorder.Recorder.{Recorder}
use Rattle.caster_record.specs.Keeping.{AreUpTo, Keeps}
use Rattle.caster_record.specs.Moves.{Move, came, nobody, served, Served, taken_in, has_torn, is_torn, torn_step, heard_by, turn_if, break_if}
use Rattle.cast_io.specs.declared.steps.Step.TheVariants as took
use Rattle.caster_record.specs.Peers.{IsPeer, ArePeers}
use Rattle.caster_record.specs.Recording.{Records, events_in}
use Rattle.caster_record.specs.Steps.{IsServed}
use Rattle.caster_record.proofs.MoveLemmas.{made_more, taken_came, taken_nobody, taken_own, taken_apart}
use Rattle.caster_record.proofs.PeerLemmas.{peers_same, peers_push, peers_at, peers_set, peer_new}

-- ---- the numbers that were opened

numbers_more : (numbers : Numbers) (a b : List Event)
    → numbers_from numbers (a ++ b) ≡ numbers_from (numbers_from numbers a) b
numbers_more numbers [] b = refl
numbers_more numbers (event ∷ a) b = numbers_more (scripts.after_event numbers event) a b

-- after these events, which open nothing
abbrev Opens : List Event → Type 0
Opens script = (numbers : Numbers) → (numbers_from numbers script).opened ≡ numbers.opened

heard_opens : (k : ℕ) (answer : Step) → Opens (heard_by k answer)
heard_opens k (took.Bytes bytes) numbers = refl
heard_opens k took.Idle numbers = refl
heard_opens k took.End numbers = refl
heard_opens k took.ReadFailed numbers = refl
heard_opens k took.WriteFailed numbers = refl

turn_opens : (k : ℕ) (behind : Bool) → Opens (turn_if k behind)
turn_opens k true numbers = refl
turn_opens k false numbers = refl

break_opens : (k : ℕ) (b : Bool) → Opens (break_if k b)
break_opens k true numbers = refl
break_opens k false numbers = refl

opens_both : (before more : List Event) → Opens more
    → (numbers_from no_numbers (before ++ more)).opened ≡ (numbers_from no_numbers before).opened
opens_both before more so =
    ap (λ (n : Numbers). n.opened) (numbers_more no_numbers before more) ∙ so (numbers_from no_numbers before)

served_opens : (c : Config) (k : ℕ) (answer : Step) (torn : Bool) (before after : List Event)
    → Served c k answer torn before after
    → (numbers_from no_numbers after).opened ≡ (numbers_from no_numbers before).opened
served_opens c k answer torn before after s =
    ap (λ (l : List Event). (numbers_from no_numbers l).opened) s.events
    ∙ opens_both ((before ++ heard_by k answer) ++ turn_if k s.behind) (break_if k (torn && s.going))
    (break_opens k (torn && s.going))
    ∙ opens_both (before ++ heard_by k answer) (turn_if k s.behind) (turn_opens k s.behind)
    ∙ opens_both before (heard_by k answer) (heard_opens k answer)

up_more : (count : ℕ) (numbers : List ℕ) → AreUpTo count numbers → AreUpTo (count + 1) (numbers ++ (count + 1) ∷ [])
up_more count numbers up = record {
  size = length-append numbers ((count + 1) ∷ []) ∙ ap (λ (n : ℕ). n + 1) up.size;
  least = λ n above.
      list_any-append (λ (m : ℕ). m == n) numbers ((count + 1) ∷ [])
      ∙ rw (up.least n (omega (arith, above)), ne_eqb (count + 1) n (λ same. absurd (omega (arith, above, same)))) refl;
}

-- ---- a link that came

last_mark : (torn : List Bool) → get_or (torn ++ false ∷ []) (length torn) true ≡ false
last_mark [] = refl
last_mark (b ∷ torn) = last_mark torn

marks_push : {L : Type 0} (links : List L) (torn : List Bool) (moves : List Move) (at : ℕ) → length torn ≡ length links
    → ((n : ℕ) → n < length links → get_or torn n true ≡ has_torn (1 + n) moves)
    → ((n : ℕ) → length links < n → taken_in n moves ≡ []) → at < length links + 1
    → get_or (torn ++ false ∷ []) at true ≡ has_torn (1 + at) moves
marks_push links torn moves at size marks unread within =
    elim (cases_Bool (nat_lt at (length torn))) [
      | inl below ↦
          get_or_append_left torn (false ∷ []) true at (ltb-true at (length torn) below)
          ∙ marks at (omega (arith, ltb-true at (length torn) below, size))
      | inr above ↦
          let same : at ≡ length torn = omega (arith, ltb-false at (length torn) above, size, within) in
          ap (λ (n : ℕ). get_or (torn ++ false ∷ []) n true) same ∙ last_mark torn
          ∙ sym (ap (list_any is_torn) (unread (1 + at) (omega (arith, same, size))))
    ]

pub keep_came : {L : Type 0} (told : L → LinkTold) (c : Config) (old new : Recorder) (links : List L) (torn : List Bool)
    (moves : List Move) (link : L) → Keeps told c old links torn moves → IsNewLink (told link) → length links < 256
    → Records c new → events_in new ≡ events_in old ++ events.Open (length links + 1) ∷ []
    → IsSilent (lives_of old.run) (lives_of new.run) → new.tape.size ≤ 8378380
    → Keeps told c new (links ++ link ∷ []) (torn ++ false ∷ []) (moves ++ came (length links + 1) ∷ [])
keep_came told c old new links torn moves link k fresh fewer records all silent bound = record {
  records = records;
  made = made_more c moves (came (length links + 1)) [] (events_in old) (events_in new) k.made all;
  peers = subst (ArePeers 1 next (sent_by_run new.run)) (sym (map-append told links (link ∷ [])))
      (peers_push 1 next (sent_by_run new.run) (map told links) (told link)
      (peers_same 1 moves next (sent_by_run old.run) (sent_by_run new.run) (map told links)
      (λ n least. taken_came n (length links + 1) moves) (λ n least. silent n) k.peers)
      (subst (λ (l : List ℕ). IsPeer (1 + length (map told links)) next l (told link))
      (sym (silent place ∙ k.unsent place above))
      (peer_new place next (told link) fresh (taken_came place (length links + 1) moves ∙ k.unread place above))));
  size = length-append torn (false ∷ []) ∙ ap (λ (n : ℕ). n + 1) k.size ∙ sym longer;
  few = omega (arith, longer, fewer);
  marks = λ at within.
      marks_push links torn moves at k.size k.marks k.unread (omega (arith, within, longer))
      ∙ sym (ap (list_any is_torn) (taken_came (1 + at) (length links + 1) moves));
  unread = λ n least. taken_came n (length links + 1) moves ∙ k.unread n (omega (arith, longer, least));
  unsent = λ n least. silent n ∙ k.unsent n (omega (arith, longer, least));
  opened = subst (λ (n : ℕ). AreUpTo n (numbers_from no_numbers (events_in new)).opened) (sym longer)
      (subst (AreUpTo (length links + 1))
      (sym (ap (λ (l : List Event). (numbers_from no_numbers l).opened) all
      ∙ ap (λ (n : Numbers). n.opened) (numbers_more no_numbers (events_in old) (events.Open (length links + 1) ∷ []))))
      (up_more (length links) (numbers_from no_numbers (events_in old)).opened k.opened));
  bound = bound;
}
  where
    next : List Move
    next = moves ++ came (length links + 1) ∷ []

    longer : length (links ++ link ∷ []) ≡ length links + 1
    longer = length-append links (link ∷ [])

    place : ℕ
    place = 1 + length (map told links)

    above : length links < 1 + length (map told links)
    above = omega (arith, length-map links told)

-- ---- nobody came

pub keep_nobody : {L : Type 0} (told : L → LinkTold) (c : Config) (recorder : Recorder) (links : List L)
    (torn : List Bool) (moves : List Move) → Keeps told c recorder links torn moves
    → Keeps told c recorder links torn (moves ++ nobody ∷ [])
keep_nobody told c recorder links torn moves k = record {
  records = k.records;
  made = made_more c moves nobody [] (events_in recorder) (events_in recorder) k.made refl;
  peers = peers_same 1 moves (moves ++ nobody ∷ []) (sent_by_run recorder.run) (sent_by_run recorder.run)
      (map told links) (λ n least. taken_nobody n moves) (λ n least. refl) k.peers;
  size = k.size;
  few = k.few;
  marks = λ at within. k.marks at within ∙ sym (ap (list_any is_torn) (taken_nobody (1 + at) moves));
  unread = λ n least. taken_nobody n moves ∙ k.unread n least;
  unsent = k.unsent;
  opened = k.opened;
  bound = k.bound;
}

-- ---- a link that was served

torn_now : (now : Bool) → list_any is_torn (torn_step now) ≡ now
torn_now true = refl
torn_now false = refl

own_mark : (before : List Step) (answer : Step) (now : Bool) → list_any is_torn before ≡ false → is_torn answer ≡ false
    → list_any is_torn (before ++ answer ∷ torn_step now) ≡ now
own_mark before answer now none calm =
    list_any-append is_torn before (answer ∷ torn_step now) ∙ rw (none, calm) (torn_now now)

marks_set : {L : Type 0} (links : List L) (torn : List Bool) (moves : List Move) (at n k : ℕ) (answer : Step)
    (now : Bool)
    → k ≡ 1 + at → at < length links → length torn ≡ length links → is_torn answer ≡ false
    → ((m : ℕ) → m < length links → get_or torn m true ≡ has_torn (1 + m) moves) → get_or torn at true ≡ false
    → n < length links
    → get_or (set torn at now) n true ≡ has_torn (1 + n) (moves ++ served k answer now ∷ [])
marks_set links torn moves at n k answer now place within size calm marks clear below =
    elim (cases_Bool (n == at)) [
      | inl same ↦ own (eqb-true n at same)
      | inr apart ↦ other (eqb-false n at apart)
    ]
  where
    other : n ≢ at → get_or (set torn at now) n true ≡ has_torn (1 + n) (moves ++ served k answer now ∷ [])
    other apart =
        get_or-set_other torn at n now true apart ∙ marks n below
        ∙ sym (ap (list_any is_torn) (taken_apart (1 + n) k moves answer now (λ e. apart (omega (arith, e, place)))))

    own : n ≡ at → get_or (set torn at now) n true ≡ has_torn (1 + n) (moves ++ served k answer now ∷ [])
    own same =
        get_or-set_at torn at n now true same (omega (arith, within, size))
        ∙ sym (ap (list_any is_torn) (taken_own (1 + n) k moves answer now (omega (arith, same, place)))
        ∙ own_mark (taken_in (1 + n) moves) answer now
        (sym (marks n below) ∙ ap (λ (m : ℕ). get_or torn m true) same ∙ clear) calm)

pub keep_served : {L : Type 0} (told : L → LinkTold) (c : Config) (old new : Recorder) (links : List L)
    (torn : List Bool) (moves : List Move) (at number : ℕ) (link after : L) (now : Bool)
    → Keeps told c old links torn moves → number ≡ 1 + at → at < length links → link ≡ get_or links at link
    → get_or torn at true ≡ false
    → (s : IsServed c number (told link) (told after) old new now) → Records c new → new.tape.size ≤ 8378380
    → Keeps told c new (set links at after) (set torn at now) (moves ++ served number s.answer now ∷ [])
keep_served told c old new links torn moves at number link after now k place within here clear s records most = record {
  records = records;
  made = made_more c moves (served number s.answer now) [] (events_in old) (events_in new) k.made s.is_served;
  peers = subst (ArePeers 1 next (sent_by_run new.run)) (sym (map-set told links at after))
      (peers_set 1 moves next (sent_by_run old.run) (sent_by_run new.run) (map told links) at (told after) k.peers
      (omega (arith, within, length-map links told))
      (λ n apart. taken_apart n number moves s.answer now (λ e. apart (omega (arith, e, place))))
      (λ n apart. s.others n (λ e. apart (omega (arith, e, place))))
      (subst (λ (n : ℕ). IsPeer n next (sent_by_run new.run n) (told after)) place (s.peer moves mine clean)));
  size = length-set torn at now ∙ k.size ∙ sym (length-set links at after);
  few = omega (arith, k.few, length-set links at after);
  marks = λ n below.
      marks_set links torn moves at n number s.answer now place within k.size s.calm k.marks clear
      (omega (arith, below, length-set links at after));
  unread = λ n least.
      taken_apart n number moves s.answer now
      (λ e. absurd (omega (arith, e, place, least, within, length-set links at after)))
      ∙ k.unread n (omega (arith, least, length-set links at after));
  unsent = λ n least.
      s.others n (λ e. absurd (omega (arith, e, place, least, within, length-set links at after)))
      ∙ k.unsent n (omega (arith, least, length-set links at after));
  opened = subst (λ (n : ℕ). AreUpTo n (numbers_from no_numbers (events_in new)).opened)
      (sym (length-set links at after))
      (subst (AreUpTo (length links))
      (sym (served_opens c number s.answer now (events_in old) (events_in new) s.is_served))
      k.opened);
  bound = most;
}
  where
    next : List Move
    next = moves ++ served number s.answer now ∷ []

    clean : has_torn number moves ≡ false
    clean = ap (λ (n : ℕ). has_torn n moves) place ∙ sym (k.marks at within) ∙ clear

    mine : IsPeer number moves (sent_by_run old.run number) (told link)
    mine =
        subst (λ (n : ℕ). IsPeer n moves (sent_by_run old.run n) (told link)) (sym place)
        (subst (IsPeer (1 + at) moves (sent_by_run old.run (1 + at)))
        (get_or-map told links at link (told link) within ∙ ap told (sym here))
        (peers_at 1 moves (sent_by_run old.run) (map told links) at (told link) k.peers
        (omega (arith, within, length-map links told))))
