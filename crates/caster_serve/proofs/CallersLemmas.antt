-- Callers that served.
use Rattle.std.proofs.Common.{◌≡◌, ◌∙◌, take, drop, ◌+◌, ◌<◌, ◌≤◌, ◌^◌, ◌++◌, ◌⊎◌, ℕ, zero, suc, List, [], ◌∷◌, length, map, replicate, inl, inr, refl, sym, ap, subst, arith}
use Rattle.std.specs.Prelude.{⊤, ◌&&◌, Bool, true, false, IsTrue, slice_index_or}
use Rattle.std.specs.List.{All, list_all, list_any}
use Rattle.std.proofs.lemmas.Bool.{and_cases, or_left, or_right, eq-eqb, lt-ltb}
use Rattle.std.proofs.lemmas.List.{length-map}
use Rattle.std.proofs.lemmas.List.Elements.{All-nil, All-cons, All-append, All-head, All-tail}
use Rattle.turn_log.specs.History.{IsLegal, own}
use Rattle.turn_log.specs.Lock.{turn_value, turn_home}
use Rattle.cast_io.specs.Causes.{Rose}
use Rattle.cast_io.specs.Told.{LinkTold, DoorTold}
use Rattle.caster_accounts.specs.History.{fits}
use Rattle.caster_accounts.specs.Kept.{caps_of}
use Rattle.caster_accounts.specs.Sums.{nothing}
use Rattle.caster_accounts.specs.declared.account.Sum.{Sum}
use Rattle.cast_config.specs.declared.config.Config.{Config}
use Rattle.cast_config.specs.declared.config.Relay.{Relay}
use Rattle.session_calls.specs.Rings.{AllLater}
use Rattle.session_model.specs.Judged as judged
use Rattle.session_model.specs.Run.{Histories}
use Rattle.session_model.specs.Setting.{caps}
use Rattle.caster_serve.specs.Endpoints.{EndpointTold, at_door, over_link, Kind, a_worker, a_relay, IsUnserved, IsUnused, door_failed, end_told, kind_of, kinds, relays_from}
use Rattle.caster_places.specs.Known.{Fit}
use Rattle.caster_places.specs.Leaves.{Leaves, left_in}
use Rattle.caster_places.specs.Piles.{AreMatched}
use Rattle.caster_places.specs.Rows.{AreAt, RingLocks, BookLock, left_by}
use Rattle.caster_seats.specs.declared.shared.Shared.{Shared}
use Rattle.caster_seats.specs.Sharing.{IsReady}
use Rattle.caster_link.specs.Wear.{Wear, lacks_in, only_worn}
use Rattle.caster_serve.specs.Works.{IsWithin}
use Rattle.caster_serve.specs.Callers.{Caller, Served, ServedOver, IsServed, AreServed, ends_of, is_whole, is_whole_at, seen_of, uncalled}
use Rattle.caster_seats.specs.SeatedCallers.{SeatedTold}
use Rattle.caster_seats.specs.Seated.{AreAllAt, AreBelow, AreLegal, AreSeated, HavePlaces, IsSeated}
use Rattle.caster_serve.specs.Serving.{TaskTold, CallerServed, FitsEndpoint, MayServe, caller_of, task_told}
use Rattle.caster_serve.specs.declared.caller_task.CallerTask.{CallerTask}
use Rattle.caster_serve.proofs.WorkLemmas.{counted_on, worked_on}
use Rattle.caster_link.proofs.WornLemmas.{WearsOn, later_none}
use Rattle.turn_log.proofs.LockLists.{as_it_is}

-- what each hand tells of its caller
abbrev pub callers_of : List (SeatedTold TaskTold) → List Caller
callers_of hands = map caller_of hands

-- a task over this end, of which nothing was done
abbrev pub new_task : EndpointTold → TaskTold
new_task end = record { end = end; tally = nothing; served = 0 }

-- so are these, of which nothing was done
pub new_tasks : {D L : Type 0} (f : D → DoorTold) (g : L → LinkTold) (tasks : List (CallerTask D L))
    → All IsUnserved tasks → map (task_told f g) tasks ≡ map new_task (map (end_told f g) tasks)
new_tasks f g [] fresh = refl
new_tasks f g (task ∷ tasks) fresh =
    ap (λ t. t ∷ map (task_told f g) tasks) (ap (task_told f g) (All-head IsUnserved task tasks fresh))
    ∙ ap (λ l. new_task (end_told f g task) ∷ l) (new_tasks f g tasks (All-tail IsUnserved task tasks fresh))

-- ---- before they serve

unmap : {X Y : Type 0} (P : Y → Type 0) (f : X → Y) (xs : List X) → All P (map f xs) → All (λ x. P (f x)) xs
unmap P f [] all = All-nil (λ x. P (f x))
unmap P f (x ∷ xs) all =
    All-cons (λ x. P (f x)) x xs (All-head P (f x) (map f xs) all) (unmap P f xs (All-tail P (f x) (map f xs) all))

pub slice_may : {X : Type 0} (P : SeatedTold TaskTold → Type 0) (told : X → SeatedTold TaskTold) (slice olds : List X) → slice ≡ olds
    → All P (map told olds) → All (λ x. P (told x)) slice
slice_may P told slice olds is all = subst (All (λ x. P (told x))) (sym is) (unmap P told olds all)

-- a relay is one of the configuration
abbrev KindFits : Config → Kind → Type 0
KindFits c a_worker = ⊤
KindFits c (a_relay n) = n < length c.relay

workers_fit : (c : Config) (n : ℕ) → All (KindFits c) (replicate n a_worker)
workers_fit c zero = All-nil (KindFits c)
workers_fit c (suc n) = All-cons (KindFits c) a_worker (replicate n a_worker) tt (workers_fit c n)

relays_fit : (c : Config) (n : ℕ) (relays : List Relay) → n + length relays ≤ length c.relay
    → All (KindFits c) (relays_from n relays)
relays_fit c n [] few = All-nil (KindFits c)
relays_fit c n (relay ∷ relays) few =
    All-cons (KindFits c) (a_relay n) (relays_from (n + 1) relays) (omega (arith, few))
    (relays_fit c (n + 1) relays (omega (arith, few)))

kinds_fit : (c : Config) → All (KindFits c) (kinds c)
kinds_fit c =
    All-append (KindFits c) (replicate c.workers a_worker) (relays_from 0 c.relay) (workers_fit c c.workers)
    (relays_fit c 0 c.relay (omega arith))

fits_one : (c : Config) (end : EndpointTold) → KindFits c (kind_of end) → IsUnused end → FitsEndpoint c end
fits_one c (at_door door) fit unused = tt
fits_one c (over_link number link) fit unused = (fit, unused)

fits_each : (c : Config) (ends : List EndpointTold) → All (KindFits c) (map kind_of ends) → All IsUnused ends
    → All (FitsEndpoint c) ends
fits_each c [] fit unused = All-nil (FitsEndpoint c)
fits_each c (end ∷ ends) fit unused =
    All-cons (FitsEndpoint c) end ends
    (fits_one c end (All-head (KindFits c) (kind_of end) (map kind_of ends) fit) (All-head IsUnused end ends unused))
    (fits_each c ends (All-tail (KindFits c) (kind_of end) (map kind_of ends) fit) (All-tail IsUnused end ends unused))

pub fit_ends : (c : Config) (ends : List EndpointTold) → map kind_of ends ≡ kinds c → All IsUnused ends
    → All (FitsEndpoint c) ends
fit_ends c ends kinds_are unused = fits_each c ends (subst (All (KindFits c)) (sym kinds_are) (kinds_fit c)) unused

-- with such a task it is a caller before its first call
is_uncalled : (shared : Shared) (n : ℕ) (end : EndpointTold) (hand : SeatedTold TaskTold)
    → IsSeated shared n (new_task end) hand → caller_of hand ≡ uncalled shared.config.now end
is_uncalled shared n end hand seated =
    ap (λ (task : TaskTold). caller_of (record {
      number = hand.number;
      known = hand.known;
      seen = hand.seen;
      worn = hand.worn;
      work = task;
    })) seated.work_is
    ∙ ap (λ (seen : Histories). record { seen = seen; tally = nothing; served = 0; end = end }) seated.uncalled

may_one : (shared : Shared) (limit n : ℕ) (end : EndpointTold) (hand : SeatedTold TaskTold) → IsReady shared → limit < 2 ^ 64
    → FitsEndpoint shared.config.now end → IsSeated shared n (new_task end) hand
    → MayServe shared.config.now shared.table.items limit hand
may_one shared limit n end hand ready small fit seated = record {
  kept = ready.kept;
  table_is = ready.table_is;
  fit = subst (λ (k : ℕ). Fit shared.config.now k hand.known) (sym seated.numbered) seated.fit;
  few = subst (λ (task : TaskTold). task.tally.sessions + limit < 2 ^ 64) (sym seated.work_is) (omega (arith, small));
  room = subst (λ (task : TaskTold). task.tally.sessions + 1 < 2 ^ 64) (sym seated.work_is) (omega arith);
  within = subst (λ (task : TaskTold). IsWithin task.tally) (sym seated.work_is) (omega arith, omega arith);
  end = subst (λ (task : TaskTold). FitsEndpoint shared.config.now task.end) (sym seated.work_is) fit;
}

pub may_serve : (shared : Shared) (limit n : ℕ) (ends : List EndpointTold) (hands : List (SeatedTold TaskTold)) → IsReady shared
    → limit < 2 ^ 64 → All (FitsEndpoint shared.config.now) ends → AreSeated shared n (map new_task ends) hands
    → All (MayServe shared.config.now shared.table.items limit) hands
may_serve shared limit n [] [] ready small fit seated = All-nil (MayServe shared.config.now shared.table.items limit)
may_serve shared limit n [] (hand ∷ hands) ready small fit seated = absurd seated
may_serve shared limit n (end ∷ ends) [] ready small fit seated = absurd seated
may_serve shared limit n (end ∷ ends) (hand ∷ hands) ready small fit seated =
    All-cons (MayServe shared.config.now shared.table.items limit) hand hands
    (may_one shared limit n end hand ready small (All-head (FitsEndpoint shared.config.now) end ends fit) seated.0)
    (may_serve shared limit (n + 1) ends hands ready small (All-tail (FitsEndpoint shared.config.now) end ends fit) seated.1)

pub may_serve_with : (shared : Shared) (table : List ℕ) (limit : ℕ) (ends : List EndpointTold) (hands : List (SeatedTold TaskTold))
    → table ≡ shared.table.items → IsReady shared → limit < 2 ^ 64 → All (FitsEndpoint shared.config.now) ends
    → AreSeated shared 0 (map new_task ends) hands → All (MayServe shared.config.now table limit) hands
may_serve_with shared table limit ends hands is ready small fit seated =
    subst (λ (t : List ℕ). All (MayServe shared.config.now t limit) hands) (sym is)
    (may_serve shared limit 0 ends hands ready small fit seated)

-- ---- when they served

-- each served, by its place in the list
pub served_each : {X : Type 0} (c : Config) (limit : ℕ) (told : X → SeatedTold TaskTold) (olds news : List X)
    → length news ≡ length olds
    → ((k : ℕ) (d : X) → k < length olds → CallerServed c limit (told (slice_index_or olds k d))
    (told (slice_index_or news k d)))
    → AreMatched (CallerServed c limit) (map told olds) (map told news)
served_each c limit told [] [] same each = tt
served_each c limit told [] (y ∷ news) same each = absurd (omega (arith, same))
served_each c limit told (x ∷ olds) [] same each = absurd (omega (arith, same))
served_each c limit told (x ∷ olds) (y ∷ news) same each = (
  each 0 x (omega arith),
  served_each c limit told olds news (omega (arith, same))
      (λ k d less. each (suc k) d (omega (arith, less))),
)

pub slice_served : {X : Type 0} (c : Config) (limit : ℕ) (told : X → SeatedTold TaskTold) (olds slice news : List X) (len : ℕ)
    → slice ≡ olds → len ≡ length olds → length news ≡ length slice
    → ((k : ℕ) (d : X) → k < length slice → CallerServed c limit (told (slice_index_or slice k d))
    (told (slice_index_or news k d)))
    → AreMatched (CallerServed c limit) (map told olds) (map told (take len (news ++ drop (length news) olds)))
slice_served c limit told olds slice news len is long same each =
    subst (λ l. AreMatched (CallerServed c limit) (map told olds) (map told l))
    (sym (as_it_is olds news len long (same ∙ ap length is)))
    (subst (λ l. AreMatched (CallerServed c limit) (map told l) (map told news)) is
    (served_each c limit told slice news same each))

-- what was refused by the places as they were worn then, was by the same places as they are now
served_on : (c : Config) (limit me : ℕ) (wear later : Wear) (before after : EndpointTold) (old new : Caller)
    → WearsOn wear later → ServedOver c limit me wear before after old new
    → ServedOver c limit me later before after old new
served_on c limit me wear later (at_door before) (at_door after) old new on served =
    worked_on c me wear later old.seen new.seen before after old.tally new.tally limit new.served on served
served_on c limit me wear later (at_door before) (over_link number after) old new on served = absurd served
served_on c limit me wear later (over_link number before) (at_door after) old new on served = absurd served
served_on c limit me wear later (over_link number before) (over_link now after) old new on served =
    (served.0, counted_on c (judged.relays number) me wear later old.seen new.seen after old.tally new.tally on served.1)

abbrev served_one : (shared : Shared) (limit n : ℕ) (worn : List ℕ) (end : EndpointTold) (old new : SeatedTold TaskTold)
    → IsUnused end → IsSeated shared n (new_task end) old → CallerServed shared.config.now limit old new
    → AllLater new.worn worn → IsServed shared.config.now limit worn n (caller_of new)
served_one shared limit n worn end old new unused seated served below = record {
  end = end;
  unused = unused;
  served = served_on shared.config.now limit n (only_worn new.worn) (only_worn worn) end new.work.end
      (uncalled shared.config.now end) (caller_of new) (record { same = refl; later = below })
      (subst (λ (caller : Caller). Served shared.config.now limit n (only_worn new.worn) caller (caller_of new))
      (is_uncalled shared n end old seated)
      (subst (λ (k : ℕ). Served shared.config.now limit k (only_worn new.worn) (caller_of old) (caller_of new)) seated.numbered
      (subst (λ (lacks : Bool). Served shared.config.now limit old.number (record {
        may_lack = lacks;
        turns = new.worn;
      }) (caller_of old) (caller_of new)) (ap lacks_in served.known ∙ seated.full) served.served)));
}

kind_kept : (c : Config) (limit me : ℕ) (wear : Wear) (before after : EndpointTold) (old new : Caller)
    → ServedOver c limit me wear before after old new → kind_of after ≡ kind_of before
kind_kept c limit me wear (at_door before) (at_door after) old new served = refl
kind_kept c limit me wear (at_door before) (over_link number after) old new served = absurd served
kind_kept c limit me wear (over_link number before) (at_door after) old new served = absurd served
kind_kept c limit me wear (over_link number before) (over_link now after) old new served = ap a_relay served.0

-- what is known when they served
pub record HaveServed (shared : Shared) (limit n : ℕ) (ends : List EndpointTold) (hands : List (SeatedTold TaskTold)) : Type 0 where
  pub served : (worn : List ℕ) → AreBelow worn hands
      → AreServed shared.config.now limit worn n (callers_of hands)
  pub kinds_kept : map kind_of (ends_of (callers_of hands)) ≡ map kind_of ends
  pub at : AreAllAt n hands shared.rings.items shared.book

pub have_served : (shared : Shared) (limit n : ℕ) (ends : List EndpointTold) (olds news : List (SeatedTold TaskTold))
    → All IsUnused ends → AreSeated shared n (map new_task ends) olds → AreMatched (CallerServed shared.config.now limit) olds news
    → HaveServed shared limit n ends news
have_served shared limit n [] [] [] unused seated served =
    record { served = λ worn below. tt; kinds_kept = refl; at = tt }
have_served shared limit n [] [] (new ∷ news) unused seated served = absurd served
have_served shared limit n [] (old ∷ olds) news unused seated served = absurd seated
have_served shared limit n (end ∷ ends) [] news unused seated served = absurd seated
have_served shared limit n (end ∷ ends) (old ∷ olds) [] unused seated served = absurd served
have_served shared limit n (end ∷ ends) (old ∷ olds) (new ∷ news) unused seated served =
    let later = have_served shared limit (n + 1) ends olds news (All-tail IsUnused end ends unused) seated.1 served.1 in
    let free = All-head IsUnused end ends unused in
    let one = served_one shared limit n new.worn end old new free seated.0 served.0 (later_none new.worn) in
    record {
      served = λ worn below. (
        served_one shared limit n worn end old new free seated.0 served.0 below.0,
        later.served worn below.1,
      );
      kinds_kept = ap (λ k. k ∷ map kind_of (ends_of (callers_of news)))
          (kind_kept shared.config.now limit n (only_worn new.worn) one.end new.work.end (uncalled shared.config.now one.end) (caller_of new)
          one.served)
          ∙ ap (λ l. kind_of end ∷ l) later.kinds_kept;
      at = (subst (λ known. AreAt n known shared.rings.items shared.book) (sym served.0.known) seated.0.at, later.at);
    }

-- ---- when they leave

pub have_places : (mounts n : ℕ) (hands : List (SeatedTold TaskTold)) (rings : RingLocks) (book : BookLock) → length rings ≡ mounts
    → AreAllAt n hands rings book → HavePlaces mounts hands
have_places mounts n [] rings book long at = tt
have_places mounts n (hand ∷ hands) rings book long at =
    (ap length at.0.homes ∙ length-map rings turn_home ∙ long, have_places mounts (n + 1) hands rings book long at.1)

pub legal_rows : (c : Config) (n : ℕ) (hands : List (SeatedTold TaskTold)) (rings : RingLocks) (book : BookLock)
    → caps_of (turn_value book) ≡ caps c → AreAllAt n hands rings book → AreLegal hands
    → All (λ (row : Histories). IsLegal (fits (caps c)) row.book) (seen_of (callers_of hands))
legal_rows c n [] rings book caps_are at legal = All-nil (λ (row : Histories). IsLegal (fits (caps c)) row.book)
legal_rows c n (hand ∷ hands) rings book caps_are at legal =
    All-cons (λ (row : Histories). IsLegal (fits (caps c)) row.book) hand.seen (seen_of (callers_of hands))
    (subst (λ (list : List ℕ). IsLegal (fits list) hand.seen.book) (at.0.caps ∙ caps_are) legal.0)
    (legal_rows c (n + 1) hands rings book caps_are at.1 legal.1)

pub whole_are : {X : Type 0} (limit : ℕ) (told : X → SeatedTold TaskTold) (xs : List X)
    → list_all (λ x. is_whole limit (caller_of (told x))) xs ≡ list_all (is_whole limit) (callers_of (map told xs))
whole_are limit told [] = refl
whole_are limit told (x ∷ xs) = ap (λ b. is_whole limit (caller_of (told x)) && b) (whole_are limit told xs)

-- ---- what they add up to

leaves_over : (c : Config) (limit n : ℕ) (wear : Wear) (before after : EndpointTold) (start now : Caller)
    → ServedOver c limit n wear before after start now
    → Leaves n start.seen.book now.seen.book start.tally now.tally
leaves_over c limit n wear (at_door before) (at_door after) start now served = served.works.leaves
leaves_over c limit n wear (at_door before) (over_link number after) start now served = absurd served
leaves_over c limit n wear (over_link number before) (at_door after) start now served = absurd served
leaves_over c limit n wear (over_link number before) (over_link same after) start now served = served.1.leaves

pub tallies_are : (c : Config) (limit : ℕ) (worn : List ℕ) (n : ℕ) (callers : List Caller)
    → AreServed c limit worn n callers
    → left_by n (seen_of callers) ≡ map (λ (caller : Caller). caller.tally) callers
tallies_are c limit worn n [] served = refl
tallies_are c limit worn n (caller ∷ callers) served =
    let one = served.0 in
    let leaves = leaves_over c limit n (only_worn worn) one.end caller.end (uncalled c one.end) caller one.served in
    let next : n + 1 ≡ suc n = omega arith in
    ap (λ (s : Sum). s ∷ left_by (suc n) (seen_of callers))
    (ap (λ h. left_in nothing (own n h)) leaves.on ∙ sym leaves.sums)
    ∙ ap (λ l. caller.tally ∷ l)
    (tallies_are c limit worn (suc n) callers (subst (λ (k : ℕ). AreServed c limit worn k callers) next served.1))

-- ---- a door that failed

failed_over : (c : Config) (limit n : ℕ) (wear : Wear) (before after : EndpointTold) (start now : Caller)
    → IsUnused before → ServedOver c limit n wear before after start now → is_whole_at limit now.served after ≡ false
    → door_failed after ≡ true
failed_over c limit n wear (at_door before) (at_door after) start now unused served short = by_done served.done
  where
    by_done : (now.served ≡ limit) ⊎ Rose before.faults after.faults → door_failed (at_door after) ≡ true
    by_done (inl all) = absurd (let clash : true ≡ false = sym (eq-eqb now.served limit all) ∙ short in cc)
    by_done (inr rose) = lt-ltb 0 after.faults (omega (arith, rose, unused.faults))
failed_over c limit n wear (at_door before) (over_link number after) start now unused served short = absurd served
failed_over c limit n wear (over_link number before) (at_door after) start now unused served short = absurd served
failed_over c limit n wear (over_link number before) (over_link same after) start now unused served short = absurd cc

pub some_failed : (c : Config) (limit : ℕ) (worn : List ℕ) (n : ℕ) (callers : List Caller)
    → AreServed c limit worn n callers
    → list_all (is_whole limit) callers ≡ false → IsTrue (list_any door_failed (ends_of callers))
some_failed c limit worn n [] served short = absurd cc
some_failed c limit worn n (caller ∷ callers) served short =
    from (some_failed c limit worn (n + 1) callers served.1)
    (and_cases (is_whole limit caller) (list_all (is_whole limit) callers) short)
  where
    from : (list_all (is_whole limit) callers ≡ false → IsTrue (list_any door_failed (ends_of callers)))
        → (is_whole limit caller ≡ false) ⊎ (list_all (is_whole limit) callers ≡ false)
        → IsTrue (list_any door_failed (ends_of (caller ∷ callers)))
    from later (inl here) = or_left (door_failed caller.end) (list_any door_failed (ends_of callers))
        (failed_over c limit n (only_worn worn) served.0.end caller.end (uncalled c served.0.end) caller
        served.0.unused served.0.served here)
    from later (inr there) = or_right (door_failed caller.end) (list_any door_failed (ends_of callers)) (later there)
