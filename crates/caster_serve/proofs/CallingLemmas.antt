-- All callers of a caster served, and left.
use Rattle.std.proofs.Common.{◌≡◌, ◌∙◌, ◌+◌, ◌<◌, ◌^◌, ◌++◌, ℕ, List, [], ◌∷◌, length, map, refl, sym, ap, subst, arith}
use Rattle.std.specs.Prelude.{Bool}
use Rattle.std.specs.List.{All, list_all}
use Rattle.std.proofs.lemmas.List.{length-map}
use Rattle.cast_io.specs.Told.{LinkTold, DoorTold}
use Rattle.caster_serve.specs.declared.caller_task.CallerTask.{CallerTask}
use Rattle.caster_serve.specs.Endpoints.{EndpointTold, IsUnserved, IsUnused, end_told, kind_of, kinds}
use Rattle.caster_places.specs.Piles.{AreMatched}
use Rattle.caster_places.specs.Rows.{ArePiles, AreWornWithin, RingLocks, BookLock}
use Rattle.caster_places.specs.declared.pass_piles.PassPiles.{PassPiles}
use Rattle.caster_seats.specs.declared.shared.Shared.{Shared}
use Rattle.caster_seats.specs.Sharing.{IsReady}
use Rattle.caster_serve.specs.Callers.{ends_of, is_whole, seen_of}
use Rattle.caster_seats.specs.SeatedCallers.{SeatedTold, with_work}
use Rattle.caster_seats.specs.Seated.{AreAllAt, AreBelow, AreLegal, AreSeated, HaveLeft, HavePlaces, rows_of, works_of}
use Rattle.caster_serve.specs.Serving.{CallerServed, HaveCalled, MayServe, TaskTold, caller_of, task_told}
use Rattle.caster_serve.proofs.CallersLemmas.{HaveServed, callers_of, fit_ends, have_places, have_served, legal_rows, may_serve_with, new_task, new_tasks, whole_are}

-- ---- callers whose work is told as a task

module _ {W Y : Type 0} (task : W → TaskTold) (told : Y → SeatedTold W) where
  abbrev pub server : Y → SeatedTold TaskTold
  server hand = with_work task (told hand)

  pub seated_servers : (shared : Shared) (n : ℕ) (works : List W) (hands : List Y)
      → AreSeated shared n works (map told hands) → AreSeated shared n (map task works) (map server hands)
  seated_servers shared n [] [] seated = tt
  seated_servers shared n [] (hand ∷ hands) seated = absurd seated
  seated_servers shared n (work ∷ works) [] seated = absurd seated
  seated_servers shared n (work ∷ works) (hand ∷ hands) seated = (
    record {
      numbered = seated.0.numbered;
      fit = seated.0.fit;
      at = seated.0.at;
      full = seated.0.full;
      uncalled = seated.0.uncalled;
      work_is = ap task seated.0.work_is;
    },
    seated_servers shared (n + 1) works hands seated.1,
  )

  all_at : (n : ℕ) (hands : List Y) (rings : RingLocks) (book : BookLock) → AreAllAt n (map server hands) rings book
      → AreAllAt n (map told hands) rings book
  all_at n [] rings book at = tt
  all_at n (hand ∷ hands) rings book at = (at.0, all_at (n + 1) hands rings book at.1)

  places_at : (mounts : ℕ) (hands : List Y) → HavePlaces mounts (map server hands)
      → HavePlaces mounts (map told hands)
  places_at mounts [] places = tt
  places_at mounts (hand ∷ hands) places = (places.0, places_at mounts hands places.1)

  all_legal : (hands : List Y) → AreLegal (map told hands) → AreLegal (map server hands)
  all_legal [] legal = tt
  all_legal (hand ∷ hands) legal = (legal.0, all_legal hands legal.1)

  all_below : (worn : List ℕ) (hands : List Y) → AreBelow worn (map told hands) → AreBelow worn (map server hands)
  all_below worn [] below = tt
  all_below worn (hand ∷ hands) below = (below.0, all_below worn hands below.1)

  rows_are : (hands : List Y) → rows_of (map told hands) ≡ seen_of (callers_of (map server hands))
  rows_are [] = refl
  rows_are (hand ∷ hands) = ap (λ l. (told hand).seen ∷ l) (rows_are hands)

  ends_are : (hands : List Y)
      → map (λ w. (task w).end) (works_of (map told hands)) ≡ ends_of (callers_of (map server hands))
  ends_are [] = refl
  ends_are (hand ∷ hands) = ap (λ l. (task (told hand).work).end ∷ l) (ends_are hands)

  -- ---- they served, and left

  pub have_room : (mounts : ℕ) (shared : Shared) (limit : ℕ) (ends : List EndpointTold) (hands : List Y)
      → mounts ≡ length shared.rings.items → HaveServed shared limit 0 ends (map server hands)
      → HavePlaces mounts (map told hands)
  have_room mounts shared limit ends hands many served =
      places_at mounts hands (have_places mounts 0 (map server hands) shared.rings.items shared.book (sym many) served.at)

  pub have_called : (shared : Shared) (limit : ℕ) (ends : List EndpointTold) (none after : List W) (hands : List Y)
      (old new : PassPiles) (whole : Bool) → IsReady shared → none ≡ [] → map kind_of ends ≡ kinds shared.config.now
      → HaveServed shared limit 0 ends (map server hands) → after ≡ none ++ works_of (map told hands)
      → whole ≡ list_all (λ hand. is_whole limit (caller_of (server hand))) hands
      → HaveLeft (map told hands) old new
      → ((mounts : List ℕ) (book : ℕ) → AreWornWithin mounts book new
      → AreWornWithin mounts book old × AreBelow (mounts ++ book ∷ []) (map told hands))
      → AreLegal (map told hands)
      → ArePiles [] old shared.rings.items shared.book → old.book.items ≡ []
      → length new.book.items ≡ length old.book.items + length hands
      → HaveCalled shared limit (map (λ w. (task w).end) after) new whole
  have_called shared limit ends none after hands old new whole ready empty kinds_are served after_is whole_is left worn
      legal piles no_pass passes =
      let list = map server hands in
      let ends_now : map (λ w. (task w).end) after ≡ ends_of (callers_of list) =
      ap (map (λ w. (task w).end)) (after_is ∙ ap (λ l. l ++ works_of (map told hands)) empty) ∙ ends_are hands in record {
        callers = callers_of list;
        ends_are = ends_now;
        kinds_are = ap (map kind_of) ends_now ∙ served.kinds_kept ∙ kinds_are;
        served = λ mounts book within.
            served.served (mounts ++ book ∷ []) (all_below (mounts ++ book ∷ []) hands (worn mounts book within).1);
        whole_is = whole_is ∙ whole_are limit server hands;
        piles_are = subst (λ rows. ArePiles rows new shared.rings.items shared.book) (rows_are hands)
            (left [] shared.rings.items shared.book (all_at 0 hands shared.rings.items shared.book served.at) piles);
        legal = legal_rows shared.config.now 0 list shared.rings.items shared.book ready.caps_are served.at
            (all_legal hands legal);
        passes = omega (arith, passes, ap length no_pass, length-map hands server, length-map list caller_of);
      }

-- ---- callers with new tasks

module _ {D L Y : Type 0} (f : D → DoorTold) (g : L → LinkTold) (told : Y → SeatedTold (CallerTask D L)) where
  pub seated_new : (shared : Shared) (tasks : List (CallerTask D L)) (hands : List Y) → All IsUnserved tasks
      → AreSeated shared 0 tasks (map told hands)
      → AreSeated shared 0 (map new_task (map (end_told f g) tasks)) (map (server (task_told f g) told) hands)
  seated_new shared tasks hands fresh seated =
      subst (λ l. AreSeated shared 0 l (map (server (task_told f g) told) hands)) (new_tasks f g tasks fresh)
      (seated_servers (task_told f g) told shared 0 tasks hands seated)

  pub may_serve : (shared : Shared) (table : List ℕ) (limit : ℕ) (tasks : List (CallerTask D L)) (hands : List Y)
      → table ≡ shared.table.items → IsReady shared → limit < 2 ^ 64
      → map kind_of (map (end_told f g) tasks) ≡ kinds shared.config.now → All IsUnused (map (end_told f g) tasks)
      → All IsUnserved tasks → AreSeated shared 0 tasks (map told hands)
      → All (MayServe shared.config.now table limit) (map (server (task_told f g) told) hands)
  may_serve shared table limit tasks hands is ready small kinds_are unused fresh seated =
      may_serve_with shared table limit (map (end_told f g) tasks) (map (server (task_told f g) told) hands) is ready
      small (fit_ends shared.config.now (map (end_told f g) tasks) kinds_are unused)
      (seated_new shared tasks hands fresh seated)

  pub new_served : (shared : Shared) (limit : ℕ) (tasks : List (CallerTask D L)) (olds news : List Y)
      → All IsUnused (map (end_told f g) tasks) → All IsUnserved tasks → AreSeated shared 0 tasks (map told olds)
      → AreMatched (CallerServed shared.config.now limit) (map (server (task_told f g) told) olds)
      (map (server (task_told f g) told) news)
      → HaveServed shared limit 0 (map (end_told f g) tasks) (map (server (task_told f g) told) news)
  new_served shared limit tasks olds news unused fresh seated served =
      have_served shared limit 0 (map (end_told f g) tasks) (map (server (task_told f g) told) olds)
      (map (server (task_told f g) told) news) unused (seated_new shared tasks olds fresh seated) served
