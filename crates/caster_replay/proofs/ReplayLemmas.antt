-- What the loops of a recorded run keep: over its events, over the connections that are closed at
-- its end, and over what is told of them.
use Rattle.std.proofs.Common.{◌≡◌, ◌∙◌, ◌<◌, ◌++◌, ◌+◌, ℕ, zero, suc, List, [], ◌∷◌, length, map, take, drop, get_or, set, refl, sym, ap, subst, arith}
use Rattle.std.proofs.lemmas.List.{take_more_set, get_or-map, length-map, length-set, map-append}
use Rattle.std.proofs.lemmas.List.Elements.{All-nil, All-cons, All-head, All-tail, All-append}
use Rattle.std.proofs.lemmas.List.Sums.{sum_by-append, sum_by-cons}
use Rattle.session_script.specs.declared.Event.{Event}
use Rattle.session_script.specs.declared.Event.TheVariants as events
use Rattle.session_script.specs.Script.{input_length}
use Rattle.cast_config.specs.declared.config.Config.{Config}
use Rattle.session_model.specs.declared.ending.Last.{Last}
use Rattle.session_model.specs.declared.ending.Last.TheVariants as lasts
use Rattle.session_model.specs.declared.report.Connection.{Connection}
use Rattle.session_model.specs.Reports.{closed_of, IsReport}
use Rattle.session_model.specs.Run.{Histories}
use Rattle.caster_replay.specs.declared.run_connection.RunConnection.{RunConnection}
use Rattle.caster_replay.specs.declared.run_connection.State.{State}
use Rattle.caster_replay.specs.declared.run_connection.State.TheVariants.{Open, Closed}
use Rattle.caster_replay.specs.Caster.{DesksValue, ArePlaces, SamePlaces}
use Rattle.caster_replay.specs.RunConnections.{MayBeClosed, ClosedAt, IsClosedAt, IsOverAt, AreOver}
use Rattle.caster_replay.specs.Lives.{Live, live_of, live_in, lives_in, end_of, IsTold, AreTold}
use Rattle.caster_replay.specs.Runs.{Runs}
use Rattle.caster_replay.specs.Scripts.{IsShort, Stands}
use Rattle.caster_replay.proofs.WorldRunnerLemmas.{about_end}
use Rattle.caster_replay.proofs.WorldReportLemmas.{run_report, ends_next}
use Rattle.caster_replay.proofs.PlayLemmas.{run_of, may_close, play_closed}

-- ---- the same places

pub same_places : (desks : DesksValue) → SamePlaces desks desks
same_places desks = record { rings = refl; book = refl; homes = refl }

pub same_twice : (old mid now : DesksValue) → SamePlaces old mid → SamePlaces mid now → SamePlaces old now
same_twice old mid now first second = record {
  rings = second.rings ∙ first.rings;
  book = second.book ∙ first.book;
  homes = second.homes ∙ first.homes;
}

pub places_stay : (c : Config) (old now : DesksValue) → SamePlaces old now → ArePlaces c old → ArePlaces c now
places_stay c old now same places = record {
  rings = same.rings ∙ places.rings;
  book = same.book ∙ places.book;
}

-- ---- over the events

pub split_at : (list : List Event) (i : ℕ) (event : Event) → i < length list → event ≡ get_or list i event
    → take i list ++ event ∷ drop (suc i) list ≡ list
split_at [] i event within is = absurd (omega (arith, within))
split_at (first ∷ list) zero event within is = ap (λ (e : Event). e ∷ list) is
split_at (first ∷ list) (suc i) event within is =
    ap (λ (l : List Event). first ∷ l) (split_at list i event (omega (arith, within)) is)

-- ---- over the connections

-- the first of them were closed
pub record Closes (c : Config) (script : List Event) (at : ℕ) (entries : List RunConnection) (desks : DesksValue)
    : Type 0 where
  pub stands : Stands c (script ++ map end_of (take at (lives_in entries))) entries desks
  pub short : IsShort (script ++ map end_of (take at (lives_in entries)))

-- an entry of a list that has one there
pub entry_at : (entries : List RunConnection) (place : ℕ) → place < length entries → RunConnection
entry_at [] place within = absurd (omega (arith, within))
entry_at (entry ∷ entries) place within = entry

pub live_get : (entries : List RunConnection) (place : ℕ) (d : RunConnection) → place < length entries
    → get_or (lives_in entries) place (live_in d) ≡ live_in (get_or entries place d)
live_get entries place d within = get_or-map live_in entries place d (live_in d) within

pub may_close_at : (c : Config) (script : List Event) (entries : List RunConnection) (desks : DesksValue) (place : ℕ)
    (d : RunConnection)
    → place < length entries → IsShort script → Stands c script entries desks
    → MayBeClosed c desks.seen (get_or entries place d).state
may_close_at c script entries desks place d within short stands =
    let entry = get_or entries place d in
    may_close c script (lives_in entries) desks.seen entry.number place (live_in d) entry.bytes.items stands.runs
    (omega (arith, within, length-map entries live_in)) entry.state (live_get entries place d within) short

is_over : (c : Config) (old now : Histories) (last : Last) (before after : State)
    → ClosedAt c old now last before after → IsOverAt after
is_over c old now last (Open session) after closed = subst IsOverAt (sym closed.1) tt
is_over c old now last (Closed receipt) after closed = subst IsOverAt (sym closed.0) tt

module _ (c : Config) (script : List Event) (entries after : List RunConnection) (desks now : DesksValue) (place : ℕ)
    (d : RunConnection)
    (within : place < length entries)
    (closed : IsClosedAt c desks.seen now.seen lasts.End place (get_or entries place d) entries after) where
  abbrev entry : RunConnection
  entry = get_or entries place d

  abbrev new : Live
  new = live_of entry.number closed.0 entry.bytes.items

  inside : place < length (lives_in entries)
  inside = omega (arith, within, length-map entries live_in)

  pub same_count : length after ≡ length entries
  same_count =
      sym (length-map after live_in) ∙ ap length closed.2 ∙ length-set (lives_in entries) place new
      ∙ length-map entries live_in

  pub over_next : AreOver (take place (lives_in entries)) → AreOver (take (place + 1) (lives_in after))
  over_next over =
      subst AreOver (sym (ap (take (place + 1)) closed.2 ∙ take_more_set (lives_in entries) place new inside))
      (All-append (λ (live : Live). IsOverAt live.state) (take place (lives_in entries)) (new ∷ []) over
      (All-cons (λ (live : Live). IsOverAt live.state) new []
      (is_over c desks.seen now.seen lasts.End entry.state closed.0 closed.1)
      (All-nil (λ (live : Live). IsOverAt live.state))))

  pub closes_next : SamePlaces desks now → Closes c script place entries desks → Closes c script (place + 1) after now
  closes_next same before =
      let so_far : List Event = script ++ map end_of (take place (lives_in entries)) in
      let event : Event = events.End entry.number in
      let longer : so_far ++ event ∷ [] ≡ script ++ map end_of (take (place + 1) (lives_in after)) =
      ends_next script (lives_in entries) place new inside
      ∙ ap (λ (l : List Live). script ++ map end_of (take (place + 1) l)) (sym closed.2) in
      let run : Runs c (so_far ++ event ∷ []) (set (lives_in entries) place new) now.seen =
      play_closed c so_far (lives_in entries) desks.seen entry.number place (live_in d) entry.bytes.items
      before.stands.runs inside event lasts.End now.seen entry.state closed.0 (about_end entry.number)
      (live_get entries place d within) closed.1 in
      record {
        stands = record {
          places = places_stay c desks now same before.stands.places;
          runs = subst (λ (l : List Event). Runs c l (lives_in after) now.seen) longer
              (subst (λ (l : List Live). Runs c (so_far ++ event ∷ []) l now.seen) (sym closed.2) run);
        };
        short = subst IsShort longer (omega (
          arith,
          before.short,
          sum_by-append input_length so_far (event ∷ []),
          sum_by-cons input_length event [],
        ));
      }

-- ---- what is told of them

pub told_more : (lives : List Live) (told : List Connection) (live : Live) (one : Connection) → AreTold lives told
    → IsTold live one → AreTold (lives ++ live ∷ []) (told ++ one ∷ [])
told_more [] [] live one so is = (is, tt)
told_more [] (first ∷ told) live one so is = absurd so
told_more (first ∷ lives) [] live one so is = absurd so
told_more (first ∷ lives) (two ∷ told) live one so is = (so.0, told_more lives told live one so.1 is)

pub told_next : (entries : List RunConnection) (told : List Connection) (entry : RunConnection) (one : Connection)
    → AreTold (lives_in entries) told → IsTold (live_in entry) one
    → AreTold (lives_in (entries ++ entry ∷ [])) (told ++ one ∷ [])
told_next entries told entry one so is =
    subst (λ (l : List Live). AreTold l (told ++ one ∷ [])) (sym (map-append live_in entries (entry ∷ [])))
    (told_more (lives_in entries) told (live_in entry) one so is)

over_mid : (before : List RunConnection) (entry : RunConnection) (rest : List RunConnection) → AreOver (lives_in (before ++ entry ∷ rest))
    → IsOverAt entry.state
over_mid [] entry rest over = All-head (λ (live : Live). IsOverAt live.state) (live_in entry) (lives_in rest) over
over_mid (first ∷ before) entry rest over =
    over_mid before entry rest
    (All-tail (λ (live : Live). IsOverAt live.state) (live_in first) (lives_in (before ++ entry ∷ rest)) over)

pub over_at : (before : List RunConnection) (entry : RunConnection) (rest all : List RunConnection) → before ++ entry ∷ rest ≡ all
    → AreOver (lives_in all) → IsOverAt entry.state
over_at before entry rest all same over =
    over_mid before entry rest (subst (λ (l : List RunConnection). AreOver (lives_in l)) (sym same) over)

pub report_is : (c : Config) (script : List Event) (entries : List RunConnection) (desks : DesksValue) (told : List Connection)
    → Stands c (script ++ map end_of (lives_in entries)) entries desks → AreTold (lives_in entries) told
    → IsReport c script (record { connections = told; closed = closed_of c desks.seen })
report_is c script entries desks told stands so =
    run_report c script (lives_in entries) desks.seen told
    (run_of c (script ++ map end_of (lives_in entries)) (lives_in entries) desks.seen stands.runs) so
