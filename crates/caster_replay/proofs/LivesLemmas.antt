-- What becomes of the connections of a run by one event, from what its calls ensure.
use Rattle.std.proofs.Common.{◌≡◌, ◌∙◌, ◌<◌, ◌≤◌, ◌++◌, ℕ, zero, suc, Bool, true, false, List, [], ◌∷◌, length, get_or, set, sym, ap, subst, arith}
use Rattle.std.specs.Prelude.{nat_lt, insert, ◌↔◌, IsTrue}
use Rattle.std.specs.List.Sorted.{IsNonDecreasingBy, IsPartitionPoint}
use Rattle.std.proofs.lemmas.List.{length-map}
use Rattle.std.proofs.lemmas.List.Sums.{prefix_len_is}
use Rattle.session_script.specs.declared.Event.{Event}
use Rattle.cast_config.specs.declared.config.Config.{Config}
use Rattle.session_model.specs.declared.ending.Last.{Last}
use Rattle.session_model.specs.Headings.{Heading}
use Rattle.session_model.specs.Judged.{Opening}
use Rattle.session_model.specs.Owed.{Happening, arrives, takes_turn, ends}
use Rattle.session_model.specs.Run.{Histories, Connected, after_events}
use Rattle.caster_replay.specs.declared.run_connection.Act.{Act}
use Rattle.caster_replay.specs.declared.run_connection.Act.TheVariants as acts
use Rattle.caster_replay.specs.declared.run_connection.RunConnection.{RunConnection}
use Rattle.caster_replay.specs.Caster.{DesksValue, SamePlaces}
use Rattle.caster_replay.specs.RunConnections.{ActedAt, IsClosedAt, IsUnsent, HasOpened, SettledAt}
use Rattle.caster_replay.specs.Lives.{Live, live_of, live_in, lives_in, place_of, IsLive}
use Rattle.caster_replay.specs.Runs.{Runs, LivesStandAt, AreAbove, IsIncreasing, Pairs}
use Rattle.caster_replay.specs.Scripts.{Acts, Begins, Plays, Stands}
use Rattle.caster_replay.specs.Sends.{sent_in, IsSilent, SendsTo, Sends}
use Rattle.caster_replay.proofs.SendsLemmas.{sends_set, set_silent, sends_opened, sends_silent}
use Rattle.caster_replay.proofs.WorldRunnerLemmas.{IsAbout, IsAbsent, about_in, about_turn, headings_now, are_now}
use Rattle.caster_replay.specs.RunConnections as looks
use Rattle.caster_replay.proofs.EntryLemmas.{no_live, number_at, within_lives, absent_at, placed_at, found_at, missing_at, lives_set, lives_insert, about_of, opening_by, is_clean}
use Rattle.caster_replay.proofs.PlayLemmas.{fed_more, turned_more, play_absent, play_again, play_opened}
use Rattle.caster_replay.proofs.ReplayLemmas.{entry_at, live_get, places_stay}

-- ---- the order

above_lives : (c : Config) (headings : ℕ → Heading) (now : Histories) (n : ℕ) (ds : List Connected) (lives : List Live)
    → AreAbove n ds → Pairs (IsLive c headings now) ds lives → (j : ℕ) (y : Live) → j < length lives
    → n < (get_or lives j y).number
above_lives c headings now n [] [] above pairs j y within = absurd (omega (arith, within))
above_lives c headings now n [] (live ∷ lives) above pairs j y within = absurd pairs
above_lives c headings now n (d ∷ ds) [] above pairs j y within = absurd pairs
above_lives c headings now n (d ∷ ds) (live ∷ lives) above pairs zero y within = omega (arith, above.0, pairs.0.0)
above_lives c headings now n (d ∷ ds) (live ∷ lives) above pairs (suc j) y within =
    above_lives c headings now n ds lives above.1 pairs.1 j y (omega (arith, within))

rising : (c : Config) (headings : ℕ → Heading) (now : Histories) (ds : List Connected) (lives : List Live)
    → IsIncreasing ds → Pairs (IsLive c headings now) ds lives → (i j : ℕ) (y : Live) → i ≤ j → j < length lives
    → (get_or lives i y).number ≤ (get_or lives j y).number
rising c headings now [] [] order pairs i j y before within = absurd (omega (arith, within))
rising c headings now [] (live ∷ lives) order pairs i j y before within = absurd pairs
rising c headings now (d ∷ ds) [] order pairs i j y before within = absurd pairs
rising c headings now (d ∷ ds) (live ∷ lives) order pairs zero zero y before within = omega arith
rising c headings now (d ∷ ds) (live ∷ lives) order pairs zero (suc j) y before within =
    omega (
      arith,
      pairs.0.0,
      above_lives c headings now d.number ds lives order.0 pairs.1 j y (omega (arith, within)),
    )
rising c headings now (d ∷ ds) (live ∷ lives) order pairs (suc i) zero y before within = absurd (omega (arith, before))
rising c headings now (d ∷ ds) (live ∷ lives) order pairs (suc i) (suc j) y before within =
    rising c headings now ds lives order.1 pairs.1 i j y (omega (arith, before)) (omega (arith, within))

-- the connections stand in the order of their numbers
pub in_order : (c : Config) (script : List Event) (entries slice : List RunConnection) (now : Histories)
    → Runs c script (lives_in entries) now → slice ≡ entries
    → IsNonDecreasingBy (λ (entry : RunConnection). entry.number) slice
in_order c script entries slice now run same =
    subst (IsNonDecreasingBy (λ (entry : RunConnection). entry.number)) (sym same) (λ i j d before within.
    let headings = headings_now script run.has in
    let at : LivesStandAt c headings (after_events c headings script) (lives_in entries) now =
    run.stands [] headings (are_now script run.has) in
    omega (
      arith,
      rising c headings now (after_events c headings script).connections (lives_in entries) at.order
          at.each i j no_live before (omega (arith, within, length-map entries live_in)),
      number_at entries i no_live d (omega (arith, before, within)),
      number_at entries j no_live d within,
    ))

-- where a search over that order ends
pub point_is : (entries : List RunConnection) (number i : ℕ) → i ≤ length entries
    → IsPartitionPoint (λ (entry : RunConnection). nat_lt entry.number number ≡ true)
    (λ (entry : RunConnection). nat_lt entry.number number ≡ false) entries i
    → i ≡ place_of number (lives_in entries)
point_is entries number i within point =
    sym (prefix_len_is (λ (live : Live). nat_lt live.number number) (lives_in entries) i no_live
    (omega (arith, within, length-map entries live_in))
    (λ k below. let inside : k < length entries = omega (arith, below, within) in
    ap (λ (n : ℕ). nat_lt n number) (sym (number_at entries k no_live (entry_at entries k inside) inside))
    ∙ point.0 k (entry_at entries k inside) (omega arith) below)
    (λ below. let inside : i < length entries = omega (arith, below, length-map entries live_in) in
    ap (λ (n : ℕ). nat_lt n number) (sym (number_at entries i no_live (entry_at entries i inside) inside))
    ∙ point.1 i (entry_at entries i inside) (omega arith) inside))

-- ---- what a look for a number finds

pub record Looked (entries : List RunConnection) (number place : ℕ) (answer : Bool) : Type 0 where
  pub here : answer ≡ true → looks.HasNumberAt entries place number
  pub place_is : place ≡ place_of number (lives_in entries)
  pub absent : answer ≡ false → IsAbsent number (lives_in entries) no_live

pub looked : (first second entries : List RunConnection) (number place : ℕ) (answer : Bool) → first ≡ entries
    → second ≡ entries → place ≡ place_of number (lives_in first)
    → (IsTrue answer ↔ looks.HasNumberAt second place number) → Looked entries number place answer
looked first second entries number place answer same same_too is test =
    let placed = placed_at first entries place number same is in
    record {
      here = found_at second entries place number answer same_too test;
      place_is = placed;
      absent = λ none. absent_at entries place number placed (missing_at second entries place number answer same_too
          test none);
    }

-- the event is about the number
pub about_act : (event : Event) (number : ℕ) (act : Act) → Acts event number act
    → (what : Happening) × IsAbout event number what
about_act event number (acts.In text) so =
    (arrives text.now, subst (λ (e : Event). IsAbout e number (arrives text.now)) (sym so) (about_in number text.now))
about_act event number (acts.Turn budget) so =
    (takes_turn budget, subst (λ (e : Event). IsAbout e number (takes_turn budget)) (sym so) (about_turn number budget))
about_act event number (acts.Close last) so = (ends last, about_of event number last so)

-- nobody has the number
pub stands_absent : (c : Config) (script : List Event) (event : Event) (entries : List RunConnection) (desks : DesksValue)
    (number : ℕ) (what : Happening) → IsAbout event number what → Plays c script event entries desks
    → IsAbsent number (lives_in entries) no_live → Stands c (script ++ event ∷ []) entries desks
stands_absent c script event entries desks number what about plays absent = record {
  places = plays.places;
  runs = play_absent c script event (lives_in entries) desks.seen number what no_live about plays.runs absent;
}

-- the number was opened before
pub stands_again : (c : Config) (script : List Event) (event : Event) (entries : List RunConnection) (desks : DesksValue)
    (number place : ℕ) (o : Opening) → Begins event number o → Plays c script event entries desks
    → looks.HasNumberAt entries place number → Stands c (script ++ event ∷ []) entries desks
stands_again c script event entries desks number place o begins plays there =
    let d : RunConnection = entry_at entries place there.0 in
    let entry : RunConnection = get_or entries place d in
    let is : get_or (lives_in entries) place (live_in d) ≡ live_of number entry.state entry.bytes.items =
    live_get entries place d there.0
    ∙ ap (λ (n : ℕ). live_of n entry.state entry.bytes.items) (there.1 d) in
    record {
      places = plays.places;
      runs = play_again c script (lives_in entries) desks.seen number place (live_in d) entry.bytes.items plays.runs
          (within_lives entries place there.0) event o entry.state (opening_by event number o begins) is;
    }

-- ---- another in its place

pub runs_put : (c : Config) (script : List Event) (entries : List RunConnection) (place number : ℕ) (new : RunConnection)
    (now : Histories) → new.number ≡ number
    → Runs c script (set (lives_in entries) place (live_of number new.state new.bytes.items)) now
    → Runs c script (lives_in (set entries place new)) now
runs_put c script entries place number new now same run =
    subst (λ (l : List Live). Runs c script l now)
    (ap (λ (n : ℕ). set (lives_in entries) place (live_of n new.state new.bytes.items)) (sym same)
    ∙ sym (lives_set entries place new)) run

-- ---- one more

pub stands_opened : (c : Config) (script : List Event) (event : Event) (entries : List RunConnection) (old mid now : DesksValue)
    (number place : ℕ) (o : Opening) (entry next : RunConnection) → Begins event number o → Plays c script event entries old
    → IsAbsent number (lives_in entries) no_live → place ≡ place_of number (lives_in entries)
    → SamePlaces old mid → SamePlaces mid now → entry.number ≡ number → next.number ≡ entry.number
    → next.bytes.items ≡ entry.bytes.items
    → HasOpened c old.seen mid.seen number o entry.state entry.bytes.items
    → SettledAt c mid.seen now.seen entry.state next.state
    → Stands c (script ++ event ∷ []) (insert entries place next) now
stands_opened c script event entries old mid now number place o entry next begins plays absent is same same_too own
    next_own bytes opened settled =
    let live_is : live_of number next.state entry.bytes.items ≡ live_in next =
    ap (λ (n : ℕ). live_of n next.state entry.bytes.items) (sym (next_own ∙ own))
    ∙ ap (live_of next.number next.state) (sym bytes) in
    record {
      places = places_stay c mid now same_too (places_stay c old mid same plays.places);
      runs = subst (λ (l : List Live). Runs c (script ++ event ∷ []) l now.seen)
          (ap (insert (lives_in entries) (place_of number (lives_in entries))) live_is
          ∙ ap (λ (n : ℕ). insert (lives_in entries) n (live_in next)) (sym is) ∙ sym (lives_insert entries place next))
          (play_opened c script event (lives_in entries) old.seen mid.seen now.seen number o no_live entry.state
          next.state
          entry.bytes.items (opening_by event number o begins) plays.runs absent
          (is_clean c script event entries old plays number) opened settled);
    }

-- ---- what they were sent

-- the connection at this place was sent more
pub sends_at : (entries : List RunConnection) (place number : ℕ) (entry : RunConnection) (new : Live) (after : List Live)
    → looks.HasNumberAt entries place number → place ≡ place_of number (lives_in entries)
    → get_or (lives_in entries) place (live_in entry) ≡ live_of number entry.state entry.bytes.items
    → new.number ≡ number → (more : List ℕ) × (new.bytes ≡ entry.bytes.items ++ more)
    → after ≡ set (lives_in entries) place new → SendsTo number (lives_in entries) after
sends_at entries place number entry new after there is here own more changed =
    subst (SendsTo number (lives_in entries)) (sym changed)
    (sends_set number place (lives_in entries) (live_in entry) new more.0 is (within_lives entries place there.0)
    (ap (λ (l : Live). l.number) here) own
    (more.1 ∙ ap (λ (b : List ℕ). b ++ more.0) (sym (ap (λ (l : Live). l.bytes) here))))

-- something happened to the connection at this place
pub sends_applied : (c : Config) (script : List Event) (event : Event) (act : Act) (entries : List RunConnection)
    (old now : Histories) (place number : ℕ) (entry new : RunConnection) → Acts event number act
    → Runs c script (lives_in entries) old → looks.HasNumberAt entries place number
    → place ≡ place_of number (lives_in entries)
    → get_or (lives_in entries) place (live_in entry) ≡ live_of number entry.state entry.bytes.items
    → new.number ≡ number → ActedAt c old now act entry.state new.state entry.bytes.items new.bytes.items
    → Sends event (lives_in entries) (lives_in (set entries place new))
sends_applied c script event (acts.In text) entries old now place number entry new so run there is here own acted =
    subst (λ (e : Event). Sends e (lives_in entries) (lives_in (set entries place new))) (sym so)
    (sends_at entries place number entry (live_in new) (lives_in (set entries place new)) there is here own
    (fed_more c script (lives_in entries) old number place (live_in entry) entry.bytes.items run
    (within_lives entries place there.0) acted.mid entry.state acted.between text.now new.bytes.items here acted.fed)
    (lives_set entries place new))
sends_applied c script event (acts.Turn budget) entries old now place number entry new so run there is here own acted =
    subst (λ (e : Event). Sends e (lives_in entries) (lives_in (set entries place new))) (sym so)
    (sends_at entries place number entry (live_in new) (lives_in (set entries place new)) there is here own
    (turned_more c script (lives_in entries) old number place (live_in entry) entry.bytes.items run
    (within_lives entries place there.0) now entry.state new.state budget new.bytes.items here acted)
    (lives_set entries place new))
sends_applied c script event (acts.Close last) entries old now place number entry new so run there is here own acted =
    sends_silent event number last (lives_in entries) (lives_in (set entries place new)) so
    (λ n. ap (sent_in n) (lives_set entries place new)
    ∙ set_silent n place (lives_in entries) (live_in entry) (live_in new) (within_lives entries place there.0)
    (ap (λ (l : Live). l.number) here ∙ sym own) (ap (λ (l : Live). l.bytes) here ∙ sym acted.1))

-- the connection at this place was closed
pub silent_closed : (c : Config) (old now : Histories) (last : Last) (place : ℕ) (entries after : List RunConnection)
    (d : RunConnection) → place < length entries
    → IsClosedAt c old now last place (get_or entries place d) entries after
    → IsSilent (lives_in entries) (lives_in after)
silent_closed c old now last place entries after d within closed =
    let entry : RunConnection = get_or entries place d in
    λ n. ap (sent_in n) closed.2
    ∙ set_silent n place (lives_in entries) (live_in d) (live_of entry.number closed.0 entry.bytes.items)
    (within_lives entries place within) (ap (λ (l : Live). l.number) (live_get entries place d within))
    (ap (λ (l : Live). l.bytes) (live_get entries place d within))

-- one more opened
pub sends_placed : (event : Event) (number place : ℕ) (o : Opening) (entries : List RunConnection) (next : RunConnection)
    → Begins event number o → IsAbsent number (lives_in entries) no_live
    → place ≡ place_of number (lives_in entries) → next.number ≡ number → IsUnsent o next.bytes.items
    → Sends event (lives_in entries) (lives_in (insert entries place next))
sends_placed event number place o entries next begins absent is own unsent =
    subst (Sends event (lives_in entries))
    (ap (λ (n : ℕ). insert (lives_in entries) n (live_in next)) (sym is) ∙ sym (lives_insert entries place next))
    (sends_opened event number o (lives_in entries) no_live (live_in next) begins absent own unsent)
