-- Places of a run with greetings, as they are cleared, and the greetings that they keep.
use Rattle.std.proofs.Common.{◌≡◌, ◌∙◌, ◌<◌, ◌++◌, ◌+◌, ℕ, zero, suc, List, [], ◌∷◌, length, map, take, drop, get_or, set, refl, sym, ap, subst, arith}
use Rattle.std.specs.Coded.{coded_ℕ}
use base.Stored.{Gv}
use Rattle.std.proofs.lemmas.List.{get_or-map, length-map}
use Rattle.turn_log.specs.History.{History}
use Rattle.mount_ring.specs.declared.call.RingCall.{RingCall}
use Rattle.mount_ring.specs.declared.shape.RingShape.{RingShape}
use Rattle.mount_ring.specs.Shapes.{shape_of}
use Rattle.last_frames.specs.Greeted.{greeted_since}
use Rattle.session_script.specs.declared.Event.{Event}
use Rattle.cast_config.specs.declared.config.Config.{Config}
use Rattle.session_calls.specs.Rings.{history_at}
use Rattle.session_model.specs.Run.{Histories}
use Rattle.caster_replay.specs.declared.run.Run.{Run}
use Rattle.caster_replay.specs.Kept.{SameButRings, StandsFor, lives_of, seen_of}
use Rattle.caster_replay.specs.Lives.{Live}
use Rattle.caster_replay.specs.Runs.{Runs}
use Rattle.caster_warm.specs.declared.place.GreetingPlace.{GreetingPlace}
use Rattle.caster_warm.specs.Places.{place_seen, place_shape, place_home, cleared_home, greeting_at, greeting_since, homes_at, WasClearedAt}

one_next : (n : ℕ) → suc n ≡ n + 1
one_next n = omega arith

-- ---- a list that is gone over, where one value of each element changes

-- the first so many elements have the later value, and the others are as they were
pub record IsOver {P Q : Type 0} (before after : P → Q) (i : ℕ) (xs ys : List P) : Type 0 where
  pub done : map before ys ≡ map after (take i xs) ++ map before (drop i xs)
  pub rest : drop i ys ≡ drop i xs

over_suc : {P Q : Type 0} (before after : P → Q) (i : ℕ) (xs ys : List P) (x new : P) → i < length xs
    → i < length ys → IsOver before after i xs ys → x ≡ get_or ys i x → before new ≡ after x
    → IsOver before after (suc i) xs (set ys i new)
over_suc before after i [] ys x new within inside over is made = absurd (omega (arith, within))
over_suc before after i (first ∷ xs) [] x new within inside over is made = absurd (omega (arith, inside))
over_suc before after zero (first ∷ xs) (y ∷ ys) x new within inside over is made =
    let rest : y ∷ ys ≡ first ∷ xs = over.rest in
    let later : ys ≡ xs = cc in
    let same : x ≡ first = cc in
    record {
      done = ap (λ (q : _). q ∷ map before ys) (made ∙ ap after same) ∙ ap (λ (l : List _). after first ∷ map before l)
          later;
      rest = later;
    }
over_suc before after (suc i) (first ∷ xs) (y ∷ ys) x new within inside over is made =
    let head : before y ≡ after first = cc in
    let tail : map before ys ≡ map after (take i xs) ++ map before (drop i xs) = cc in
    let next = over_suc before after i xs ys x new (omega (arith, within)) (omega (arith, inside))
    (record { done = tail; rest = over.rest }) is made in
    record {
      done = ap (λ (q : _). q ∷ map before (set ys i new)) head ∙ ap (λ (l : List _). after first ∷ l) next.done;
      rest = next.rest;
    }

-- ---- a run that is cleared

cleared_again : (places : List GreetingPlace) → map cleared_home places ≡ homes_at (map place_seen places)
cleared_again [] = refl
cleared_again (place ∷ places) =
    ap (λ (l : List Gv). cleared_home place ∷ l) (cleared_again places)

pub over_next : {P Q : Type 0} (before after : P → Q) (i : ℕ) (xs ys : List P) (x new : P) → i < length xs
    → i < length ys → IsOver before after i xs ys → x ≡ get_or ys i x → before new ≡ after x
    → IsOver before after (i + 1) xs (set ys i new)
over_next before after i xs ys x new within inside over is made =
    subst (λ (n : ℕ). IsOver before after n xs (set ys i new)) (one_next i)
    (over_suc before after i xs ys x new within inside over is made)

-- its places were taken out, these were cleared, and they were put in again
module _ (run mid next : Run GreetingPlace) (places cleared : List GreetingPlace)
    (was_shapes : map place_shape places ≡ run.desks.rings) (was_seen : map place_seen places ≡ run.desks.seen.rings)
    (is_shapes : map place_shape cleared ≡ next.desks.rings) (is_seen : map place_seen cleared ≡ next.desks.seen.rings)
    (shapes : map place_shape cleared ≡ map place_shape places)
    (seen : map place_seen cleared ≡ map place_seen places)
    (out : SameButRings run mid) (back : SameButRings mid next) where
  same_rings : next.desks.rings ≡ run.desks.rings
  same_rings = sym is_shapes ∙ shapes ∙ was_shapes

  same_seen : next.desks.seen ≡ run.desks.seen
  same_seen =
      ap (λ (l : List (History RingCall)). record { rings = l; book = next.desks.seen.book })
      (sym is_seen ∙ seen ∙ was_seen)
      ∙ ap (λ h. record { rings = run.desks.seen.rings; book = h }) (back.book.seen ∙ out.book.seen)

  pub stands_cleared : (c : Config) (script : List Event) → StandsFor c script run → StandsFor c script next
  stands_cleared c script stands = record {
    table = back.table ∙ out.table ∙ stands.table;
    stands = record {
      places = record {
        rings = same_rings ∙ stands.stands.places.rings;
        book = back.book.book ∙ out.book.book ∙ stands.stands.places.book;
      };
      runs = subst (λ (l : List Live). Runs c script l next.desks.seen) (sym (back.lives ∙ out.lives))
          (subst (Runs c script (lives_of run)) (sym same_seen) stands.stands.runs);
    };
  }

  pub was_cleared : map place_home cleared ≡ next.desks.homes → map place_home cleared ≡ map cleared_home places
      → WasClearedAt (seen_of run) next
  was_cleared is_homes homes = sym is_homes ∙ homes ∙ cleared_again places ∙ ap homes_at was_seen

-- ---- the greeting at a mountpoint

module _ (old : Histories) (run : Run GreetingPlace) (places : List GreetingPlace) (mount : ℕ)
    (shapes : map place_shape places ≡ run.desks.rings) (homes : map place_home places ≡ run.desks.homes)
    (seen : map place_seen places ≡ run.desks.seen.rings) (was : WasClearedAt old run) where
  same_count : length old.rings ≡ length places
  same_count =
      sym (length-map old.rings (λ (h : History RingCall). coded_ℕ.code (length h)))
      ∙ ap length (sym was ∙ sym homes) ∙ length-map places place_home

  -- the place there was cleared at its old history
  since_is : (place : GreetingPlace) → mount < length places → place ≡ get_or places mount place
      → place.place.since ≡ length (history_at old.rings mount)
  since_is place within is =
      coded_ℕ.inj place.place.since (length (history_at old.rings mount))
      (ap place_home is
      ∙ sym (get_or-map place_home places mount place (place_home place) within)
      ∙ ap (λ (l : List Gv). get_or l mount (place_home place)) (homes ∙ was)
      ∙ get_or-map (λ (h : History RingCall). coded_ℕ.code (length h)) old.rings mount [] (place_home place)
      (omega (arith, within, same_count)))

  pub greeting_there : (place : GreetingPlace) → mount < length places → place ≡ get_or places mount place
      → greeting_since old run mount ≡ greeting_at place
  greeting_there place within is =
      let no_shape : RingShape = record { capacity = 0; filters = [] } in
      let shape_is : get_or run.desks.rings mount no_shape ≡ place_shape place =
      ap (λ (l : List RingShape). get_or l mount no_shape) (sym shapes)
      ∙ get_or-map place_shape places mount place no_shape within ∙ ap place_shape (sym is) in
      let seen_is : history_at run.desks.seen.rings mount ≡ place_seen place =
      ap (λ (l : List (History RingCall)). history_at l mount) (sym seen)
      ∙ get_or-map place_seen places mount place [] within ∙ ap place_seen (sym is) in
      ap (λ (s : RingShape). greeted_since (shape_of s) (length (history_at old.rings mount))
      (history_at run.desks.seen.rings mount)) shape_is
      ∙ ap (greeted_since (shape_of (place_shape place)) (length (history_at old.rings mount))) seen_is
      ∙ ap (λ (count : ℕ). greeted_since (shape_of (place_shape place)) count (place_seen place))
      (sym (since_is place within is))
