-- What a ring keeps over the calls that change it, and what it reads of that.
use Rattle.std.proofs.Common.{◌≡◌, ℕ, suc, ◌+◌, ◌-◌, ◌^◌, ◌<◌, ◌≤◌, min, Bool, true, false, List, [], ◌∷◌, ◌++◌, length, map, take, drop, get_or, refl, ap, ◌∙◌, sym, arith, length-append, length-drop, Option, None, Some}
use Rattle.std.specs.Prelude.{◌==◌, ◌&&◌, if◌then◌else◌, nat_le, nat_lt, slice_get, unwrap_or, IsTrue, fold, option_map}
use Rattle.std.specs.Option.{option_to_list}
use Rattle.std.specs.List.{filter as permitted_of, count_by}
use borrow.Author.Tests.{ltb-true, ltb-false}
use Rattle.std.proofs.lemmas.Bool.{and_parts, leb-true, eqb-true}
use Rattle.std.proofs.lemmas.Option.{slice_get-map, slice_get_read}
use Rattle.std.proofs.lemmas.List.{length-map, drop-drop, drop-append-le, take-append-le, take_more, length-take}
use Rattle.std.proofs.lemmas.List.Sums.{length-filter, count_by-le-length}
use Rattle.std.proofs.Math.Seq.{drop-cons, take-add, take-nil}
use Rattle.circular_buffer.specs.Buffer.{keep_last}
use Rattle.type_filter.specs.Permitted.{FilterValue, permits, count}
use Rattle.mount_ring.specs.declared.cursor.Cursor.{Cursor}
use Rattle.mount_ring.specs.declared.cursor.Lap.{Lap}
use Rattle.mount_ring.specs.declared.cursor.ReadReport.{ReadReport}
use Rattle.mount_ring.specs.declared.reading.ReadStart.{ReadStart}
use Rattle.mount_ring.specs.declared.watch.Watch.{Watch}
use Rattle.mount_ring.specs.declared.ring.Ring.{Ring}
use Rattle.mount_ring.specs.declared.call.RingCall.{RingCall}
use Rattle.mount_ring.specs.declared.call.RingCall.TheVariants.{Claim, Release, Publish, Join, Look, Read}
use Rattle.mount_ring.specs.declared.call.Holder.{Holder}
use Rattle.mount_ring.specs.Reads.{oldest, read_start, read_end, read_frames, read_lap, read_report, looked}
use Rattle.mount_ring.specs.History.{Shape, State, start, state_of, after, after_call, after_claim, is_readable, permits_at}
use Rattle.mount_ring.specs.Shapes.{shape_of}
use Rattle.mount_ring.specs.Watches.{unseen, counted, capped, watch_of}
use Rattle.mount_ring.specs.Starts.{start_found}
use Rattle.mount_ring.specs.Kept.{Keeps, filters_of, ring_shape}
use Rattle.mount_ring.proofs.ReadLemmas.{count_by-append, filter-looked, read_ends}
use Rattle.mount_ring.proofs.HistoryLemmas.{published_by, frames_of, published-entries}

-- ---- a new ring

pub filters_of-unseen : (filters : List FilterValue) → filters_of (map unseen filters) ≡ filters
filters_of-unseen [] = refl
filters_of-unseen (filter ∷ filters) = ap (λ (xs : List FilterValue). filter ∷ xs) (filters_of-unseen filters)

abbrev make_watch : FilterValue → ℕ → ℕ → Watch
make_watch filter permitted dropped = record { filter = filter; permitted = permitted; dropped = dropped }

unseen_watch : (capacity : ℕ) (filter : FilterValue) → unseen filter ≡ watch_of capacity [] filter
unseen_watch capacity filter = ap (λ (xs : List (List ℕ)). make_watch filter 0 (count filter xs))
    (sym (take-nil (oldest capacity [])))

unseen_watches : (capacity : ℕ) (filters : List FilterValue) → map unseen filters ≡ map (watch_of capacity []) filters
unseen_watches capacity [] = refl
unseen_watches capacity (filter ∷ filters) =
    ap (λ (w : Watch). w ∷ map unseen filters) (unseen_watch capacity filter)
    ∙ ap (λ (ws : List Watch). watch_of capacity [] filter ∷ ws) (unseen_watches capacity filters)

pub new_watches : (capacity : ℕ) (watches : List Watch) (filters : List FilterValue) → watches ≡ map unseen filters →
    watches ≡ map (watch_of capacity []) (filters_of watches)
new_watches capacity watches filters made =
    made ∙ unseen_watches capacity filters
    ∙ ap (map (watch_of capacity [])) (sym (ap filters_of made ∙ filters_of-unseen filters))

-- ---- the counts of one filter

-- the filter of the counts at an index is the one of this number
pub permits_watched : (capacity : ℕ) (watches : List Watch) (index : ℕ) (watch : Watch) → index < length watches →
    watch ≡ get_or watches index watch →
    permits_at (shape_of (record { capacity = capacity; filters = filters_of watches })) index ≡ permits watch.filter
permits_watched capacity watches index watch inside here =
    let found : slice_get watches index
    ≡ Some watch = slice_get_read watches (length watches) index watch refl inside here in
    let filter_found : slice_get (filters_of watches) index ≡ Some watch.filter =
    slice_get-map (λ (w : Watch). w.filter) watches index ∙ ap (option_map (λ (w : Watch). w.filter)) found in
    let test_found : slice_get (map permits (filters_of watches)) index ≡ Some (permits watch.filter) =
    slice_get-map permits (filters_of watches) index ∙ ap (option_map permits) filter_found in
    ap (λ (o : Option (List ℕ → Bool)). unwrap_or o (λ (frame : List ℕ). false)) test_found

-- they are what the published frames say
pub watch_kept : (capacity : ℕ) (published : List (List ℕ)) (watches : List Watch) (index : ℕ) (watch : Watch) →
    watches ≡ map (watch_of capacity published) (filters_of watches) → index < length watches →
    watch ≡ get_or watches index watch → watch ≡ watch_of capacity published watch.filter
watch_kept capacity published watches index watch kept inside here =
    let found : slice_get watches index
    ≡ Some watch = slice_get_read watches (length watches) index watch refl inside here in
    let filter_found : slice_get (filters_of watches) index ≡ Some watch.filter =
    slice_get-map (λ (w : Watch). w.filter) watches index ∙ ap (option_map (λ (w : Watch). w.filter)) found in
    let again : slice_get watches index ≡ Some (watch_of capacity published watch.filter) =
    ap (λ (ws : List Watch). slice_get ws index) kept
    ∙ slice_get-map (watch_of capacity published) (filters_of watches) index
    ∙ ap (option_map (watch_of capacity published)) filter_found in
    let same : Some watch ≡ Some (watch_of capacity published watch.filter) = sym found ∙ again in
    cc

-- ---- a publish

-- a full list that drops its first item for a new one keeps the last ones
pub keep_last_push : (n : ℕ) (xs : List (List ℕ)) (x : List ℕ) → 1 ≤ n →
    keep_last n (keep_last n xs ++ x ∷ []) ≡ keep_last n (xs ++ x ∷ [])
keep_last_push n xs x some =
    let kept : List (List ℕ) = drop (length xs - n) xs in
    let size : length kept ≡ length xs - (length xs - n) = length-drop (length xs - n) xs in
    let longer : length (kept ++ x ∷ []) ≡ length kept + 1 = length-append kept (x ∷ []) in
    let whole : length (xs ++ x ∷ []) ≡ length xs + 1 = length-append xs (x ∷ []) in
    let inner : length (kept ++ x ∷ []) - n ≤ length kept = omega arith in
    let outer : length (xs ++ x ∷ []) - n ≤ length xs = omega arith in
    let places : (length xs - n) + (length (kept ++ x ∷ []) - n) ≡ length (xs ++ x ∷ []) - n = omega arith in
    drop-append-le (length (kept ++ x ∷ []) - n) kept (x ∷ []) inner
    ∙ ap (λ (l : List (List ℕ)). l ++ x ∷ []) (drop-drop (length (kept ++ x ∷ []) - n) (length xs - n) xs
    ∙ ap (λ (k : ℕ). drop k xs) places)
    ∙ sym (drop-append-le (length (xs ++ x ∷ []) - n) xs (x ∷ []) outer)

-- what such a list gives out when it takes one more item
abbrev pub given_out : ℕ → List (List ℕ) → List ℕ → Option (List ℕ)
given_out n kept x = if nat_lt (length kept) n then None else slice_get (kept ++ x ∷ []) 0

given_by : (n : ℕ) (xs : List (List ℕ)) (x : List ℕ) (test : Bool) → 1 ≤ n → nat_lt (length (keep_last n xs)) n ≡ test →
    take (oldest n (xs ++ x ∷ [])) (xs ++ x ∷ [])
    ≡ take (oldest n xs) xs ++ option_to_list (if test then None else slice_get (keep_last n xs ++ x ∷ []) 0)
given_by n xs x true some is =
    let few : length (keep_last n xs) < n = omega (arith, ltb-true, is) in
    let size : length (keep_last n xs) ≡ length xs - (length xs - n) = length-drop (length xs - n) xs in
    let before : oldest n xs ≡ 0 = omega arith in
    let later : oldest n (xs ++ x ∷ []) ≡ 0 = omega (arith, length-append xs (x ∷ [])) in
    ap (λ (k : ℕ). take k (xs ++ x ∷ [])) later ∙ sym (ap (λ (k : ℕ). take k xs ++ []) before)
given_by n xs x false some is =
    let many : n ≤ length (keep_last n xs) = omega (arith, ltb-false, is) in
    let size : length (keep_last n xs) ≡ length xs - (length xs - n) = length-drop (length xs - n) xs in
    let inside : oldest n xs < length xs = omega arith in
    let later : oldest n (xs ++ x ∷ []) ≡ oldest n xs + 1 = omega (arith, length-append xs (x ∷ [])) in
    let first : keep_last n xs ≡ get_or xs (oldest n xs) x ∷ drop (suc (oldest n xs)) xs =
    drop-cons xs (oldest n xs) x inside in
    ap (λ (k : ℕ). take k (xs ++ x ∷ [])) later
    ∙ take-append-le (oldest n xs + 1) xs (x ∷ []) (omega arith)
    ∙ take_more xs (oldest n xs) x inside
    ∙ sym (ap (λ (l : List (List ℕ)). take (oldest n xs) xs ++ option_to_list (slice_get (l ++ x ∷ []) 0)) first)

-- it is the one that is no longer kept
pub given_out_is : (n : ℕ) (xs : List (List ℕ)) (x : List ℕ) → 1 ≤ n →
    take (oldest n (xs ++ x ∷ [])) (xs ++ x ∷ [])
    ≡ take (oldest n xs) xs ++ option_to_list (given_out n (keep_last n xs) x)
given_out_is n xs x some = given_by n xs x (nat_lt (length (keep_last n xs)) n) some refl

count-append : (filter : FilterValue) (xs ys : List (List ℕ))
    → count filter (xs ++ ys) ≡ count filter xs + count filter ys
count-append filter xs ys = count_by-append (permits filter) xs ys

capped_count : (filter : FilterValue) (xs ys all : List (List ℕ)) → all ≡ xs ++ ys → length all < 2 ^ 64 →
    capped (count filter xs + count filter ys) ≡ count filter all
capped_count filter xs ys all split few =
    let sum : count filter all ≡ count filter xs + count filter ys = ap (count filter) split
    ∙ count-append filter xs ys in
    omega (arith, sum, count_by-le-length (permits filter) all, few)

counted_watch : (n : ℕ) (xs : List (List ℕ)) (x : List ℕ) (filter : FilterValue) → 1 ≤ n → length xs < 2 ^ 63 →
    counted x (given_out n (keep_last n xs) x) (watch_of n xs filter) ≡ watch_of n (xs ++ x ∷ []) filter
counted_watch n xs x filter some few =
    let size : length (xs ++ x ∷ []) < 2 ^ 64 = omega (arith, length-append xs (x ∷ []), few) in
    let front : length (take (oldest n (xs ++ x ∷ [])) (xs ++ x ∷ [])) < 2 ^ 64 =
    omega (arith, length-take (oldest n (xs ++ x ∷ [])) (xs ++ x ∷ []), size) in
    let permitted : capped (count filter xs + count filter (x ∷ [])) ≡ count filter (xs ++ x ∷ []) =
    capped_count filter xs (x ∷ []) (xs ++ x ∷ []) refl size in
    let dropped : capped
    (count filter (take (oldest n xs) xs) + count filter (option_to_list (given_out n (keep_last n xs) x)))
    ≡ count filter (take (oldest n (xs ++ x ∷ [])) (xs ++ x ∷ [])) =
    capped_count filter (take (oldest n xs) xs) (option_to_list (given_out n (keep_last n xs) x)) _
    (given_out_is n xs x some) front in
    ap (λ (k : ℕ). make_watch filter k
    (capped (count filter (take (oldest n xs) xs) + count filter (option_to_list (given_out n (keep_last n xs) x)))))
    permitted
    ∙ ap (make_watch filter (count filter (xs ++ x ∷ []))) dropped

counted_watches : (n : ℕ) (xs : List (List ℕ)) (x : List ℕ) (filters : List FilterValue) → 1 ≤ n → length xs < 2 ^ 63 →
    map (counted x (given_out n (keep_last n xs) x)) (map (watch_of n xs) filters)
    ≡ map (watch_of n (xs ++ x ∷ [])) filters
counted_watches n xs x [] some few = refl
counted_watches n xs x (filter ∷ filters) some few =
    ap (λ (w : Watch). w ∷ map (counted x (given_out n (keep_last n xs) x)) (map (watch_of n xs) filters))
    (counted_watch n xs x filter some few)
    ∙ ap (λ (ws : List Watch). watch_of n (xs ++ x ∷ []) filter ∷ ws) (counted_watches n xs x filters some few)

pub filters_of-counted : (x : List ℕ) (fallen : Option (List ℕ)) (watches : List Watch) →
    filters_of (map (counted x fallen) watches) ≡ filters_of watches
filters_of-counted x fallen [] = refl
filters_of-counted x fallen (watch ∷ watches) = ap (λ (xs : List FilterValue). watch.filter ∷ xs)
    (filters_of-counted x fallen watches)

-- the counts after a publish
pub published_watches : (n : ℕ) (xs : List (List ℕ)) (x : List ℕ) (fallen : Option (List ℕ)) (kept : List (List ℕ))
    (watches later : List Watch) →
    1 ≤ n → length xs < 2 ^ 63 → kept ≡ keep_last n xs → fallen ≡ given_out n kept x →
    watches ≡ map (watch_of n xs) (filters_of watches) → later ≡ map (counted x fallen) watches →
    later ≡ map (watch_of n (xs ++ x ∷ [])) (filters_of later)
published_watches n xs x fallen kept watches later some few kept_is fallen_is watches_are later_is =
    let gone : fallen ≡ given_out n (keep_last n xs) x = fallen_is
    ∙ ap (λ (l : List (List ℕ)). given_out n l x) kept_is in
    later_is
    ∙ ap (λ (o : Option (List ℕ)). map (counted x o) watches) gone
    ∙ ap (map (counted x (given_out n (keep_last n xs) x))) watches_are
    ∙ counted_watches n xs x (filters_of watches) some few
    ∙ ap (map (watch_of n (xs ++ x ∷ []))) (sym (ap filters_of later_is ∙ filters_of-counted x fallen watches))

-- ---- histories are as long as their frames and claims are many

frames_few : (call : RingCall) → length (frames_of call) ≤ 1
frames_few Claim = omega arith
frames_few (Release claim) = omega arith
frames_few (Publish claim frame) = omega arith
frames_few (Join filter) = omega arith
frames_few Look = omega arith
frames_few (Read cursor budget) = omega arith

published_by_few : (h : List (ℕ × RingCall)) → length (published_by h) ≤ length h
published_by_few [] = omega arith
published_by_few (entry ∷ h) =
    omega (arith, length-append (frames_of entry.1) (published_by h), frames_few entry.1, published_by_few h)

pub published_few : (h : List (ℕ × RingCall)) → length (state_of h).published ≤ length h
published_few h = omega (arith, ap length (published-entries start h), published_by_few h)

claims_claim : (state : State) (me : ℕ) (holder : Option Holder)
    → (after_claim state me holder).claims ≤ state.claims + 1
claims_claim state me None = omega arith
claims_claim state me (Some holder) = omega arith

claims_call : (state : State) (me : ℕ) (call : RingCall) → (after_call state me call).claims ≤ state.claims + 1
claims_call state me Claim = claims_claim state me state.holder
claims_call state me (Release claim) = omega arith
claims_call state me (Publish claim frame) = omega arith
claims_call state me (Join filter) = omega arith
claims_call state me Look = omega arith
claims_call state me (Read cursor budget) = omega arith

claims_entries : (state : State) (h : List (ℕ × RingCall)) → (fold after state h).claims ≤ state.claims + length h
claims_entries state [] = omega arith
claims_entries state (entry ∷ h) =
    omega (arith, claims_entries (after state entry) h, claims_call state entry.0 entry.1)

pub claims_few : (h : List (ℕ × RingCall)) → (state_of h).claims ≤ length h
claims_few h = omega (arith, claims_entries start h)

-- ---- a read

-- what a read knows before it looks at a frame
pub record ReadGiven (ring : Ring) (state : State) (cursor : Cursor) (watch : Watch) : Type 0 where
  pub test : permits_at (shape_of (ring_shape ring)) cursor.filter ≡ permits watch.filter
  pub within : cursor.next ≤ length state.published
  pub passed : cursor.passed ≡ count watch.filter (take cursor.next state.published)
  pub dropped : watch.dropped ≡ count watch.filter (take (oldest ring.frames.capacity state.published) state.published)
  pub kept_from : ring.published - length ring.frames.items ≡ oldest ring.frames.capacity state.published

pub read_given : (ring : Ring) (state : State) (cursor : Cursor) (watch : Watch) → Keeps ring state →
    IsTrue (is_readable (shape_of (ring_shape ring)) state cursor)
    → watch ≡ get_or ring.watches.items cursor.filter watch →
    ReadGiven ring state cursor watch
read_given ring state cursor watch keeps may here =
    let shape : Shape = shape_of (ring_shape ring) in
    let first : (nat_le cursor.next (length state.published) ≡ true) × ((nat_lt cursor.filter (length shape.filters)
    && (cursor.passed == count_by (permits_at shape cursor.filter) (take cursor.next state.published))) ≡ true) =
    and_parts _ _ may in
    let second : (nat_lt cursor.filter (length shape.filters) ≡ true)
    × ((cursor.passed == count_by (permits_at shape cursor.filter) (take cursor.next state.published)) ≡ true) =
    and_parts _ _ first.1 in
    let known : cursor.filter < length shape.filters = omega (arith, ltb-true, second.0) in
    let inside : cursor.filter < length ring.watches.items =
    omega (
      arith,
      known,
      length-map (filters_of ring.watches.items) permits,
      length-map ring.watches.items
          (λ (w : Watch). w.filter),
    ) in
    let test : permits_at shape cursor.filter ≡ permits watch.filter =
    permits_watched ring.frames.capacity ring.watches.items cursor.filter watch inside here in
    let counts : watch ≡ watch_of ring.frames.capacity state.published watch.filter =
    watch_kept ring.frames.capacity state.published ring.watches.items cursor.filter watch keeps.watches inside here in
    record {
      test = test;
      within = leb-true cursor.next (length state.published) first.0;
      passed = eqb-true cursor.passed _ second.1
          ∙ ap (λ (p : List ℕ → Bool). count_by p (take cursor.next state.published)) test;
      dropped = ap (λ (w : Watch). w.dropped) counts;
      kept_from =
          omega (
            arith,
            keeps.published,
            ap length keeps.frames,
            length-drop
                (oldest ring.frames.capacity state.published) state.published,
          );
    }

-- permitted frames are counted part by part
pub count_parts : (filter : FilterValue) (xs : List (List ℕ)) (a b : ℕ) → a ≤ b →
    count filter (take b xs) ≡ count filter (take a xs) + count filter (take (b - a) (drop a xs))
count_parts filter xs a b ordered =
    let whole : a + (b - a) ≡ b = omega arith in
    ap (λ (n : ℕ). count filter (take n xs)) (sym whole) ∙ ap (count filter) (take-add a (b - a) xs)
    ∙ count-append filter (take a xs) (take (b - a) (drop a xs))

-- what a read found: each part of its report
pub record ReadFound (filter : FilterValue) (capacity : ℕ) (published : List (List ℕ)) (cursor : Cursor) (budget : ℕ)
    (begin : ReadStart) (looks : ℕ) (taken : List (List ℕ)) : Type 0 where
  pub next : begin.place + looks ≡ read_end (permits filter) capacity published cursor budget
  pub passed : begin.passed + length taken
      ≡ count filter (take (read_end (permits filter) capacity published cursor budget) published)
  pub lapped : begin.lapped ≡ read_lap (permits filter) capacity published cursor
  pub frames : taken ≡ read_frames (permits filter) capacity published cursor budget

-- where a read begins, as the ring finds it
record Started (filter : FilterValue) (capacity : ℕ) (published : List (List ℕ)) (cursor : Cursor)
    (begin : ReadStart) : Type 0 where
  place : begin.place ≡ read_start capacity published cursor
  passed : begin.passed ≡ count filter (take (read_start capacity published cursor) published)
  lapped : begin.lapped ≡ read_lap (permits filter) capacity published cursor

abbrev start_by : Bool → Cursor → ℕ → ℕ → ℕ → ReadStart
start_by test cursor dropped kept_from published = record {
  place = if test then kept_from else cursor.next;
  passed = if test then dropped else cursor.passed;
  lapped = if test
      then Some (record {
        from = cursor.next;
        to = kept_from;
        published = published;
        overrun =
            dropped - cursor.passed;
      })
      else None;
}

abbrev lap_by : Bool → (List ℕ → Bool) → ℕ → List (List ℕ) → Cursor → Option Lap
lap_by test permits capacity published cursor =
    if test
    then Some (record {
      from = cursor.next;
      to = oldest capacity published;
      published = length published;
      overrun = count_by permits (take (oldest capacity published - cursor.next) (drop cursor.next published));
    })
    else None

abbrev lap_with : Cursor → ℕ → ℕ → ℕ → Option Lap
lap_with cursor to published overrun =
    Some (record { from = cursor.next; to = to; published = published; overrun = overrun })

started_by : (filter : FilterValue) (capacity : ℕ) (published : List (List ℕ)) (cursor : Cursor) (dropped : ℕ)
    (test : Bool) →
    nat_lt cursor.next (oldest capacity published) ≡ test →
    cursor.passed ≡ count filter (take cursor.next published)
    → dropped ≡ count filter (take (oldest capacity published) published) →
    ((start_by test cursor dropped (oldest capacity published) (length published)).place
    ≡ read_start capacity published cursor)
    × ((start_by test cursor dropped (oldest capacity published) (length published)).passed
    ≡ count filter (take (read_start capacity published cursor) published))
    × ((start_by test cursor dropped (oldest capacity published) (length published)).lapped
    ≡ lap_by test (permits filter) capacity published cursor)
started_by filter capacity published cursor dropped true is passed_is dropped_is =
    let below : cursor.next < oldest capacity published = omega (arith, ltb-true, is) in
    let place : oldest capacity published ≡ read_start capacity published cursor = omega arith in
    let overrun : dropped - cursor.passed
    ≡ count filter (take (oldest capacity published - cursor.next) (drop cursor.next published)) =
    omega (
      arith,
      dropped_is,
      passed_is,
      count_parts filter published cursor.next (oldest capacity published)
          (omega (arith, below)),
    ) in (
      place,
      dropped_is ∙ ap (λ (n : ℕ). count filter (take n published)) place,
      ap (lap_with cursor (oldest capacity published) (length published)) overrun,
    )
started_by filter capacity published cursor dropped false is passed_is dropped_is =
    let above : oldest capacity published ≤ cursor.next = omega (arith, ltb-false, is) in
    let place : cursor.next ≡ read_start capacity published cursor = omega arith in
    (place, passed_is ∙ ap (λ (n : ℕ). count filter (take n published)) place, refl)

started : (filter : FilterValue) (capacity : ℕ) (published : List (List ℕ)) (cursor : Cursor) (dropped kept_from : ℕ)
    (begin : ReadStart) →
    kept_from ≡ oldest capacity published → cursor.passed ≡ count filter (take cursor.next published) →
    dropped ≡ count filter (take (oldest capacity published) published)
    → begin ≡ start_found cursor dropped kept_from (length published) →
    Started filter capacity published cursor begin
started filter capacity published cursor dropped kept_from begin kept_is passed_is dropped_is begin_is =
    let at : begin ≡ start_found cursor dropped (oldest capacity published) (length published) =
    begin_is ∙ ap (λ (n : ℕ). start_found cursor dropped n (length published)) kept_is in
    let parts = started_by filter capacity published cursor dropped (nat_lt cursor.next (oldest capacity published))
    refl passed_is dropped_is in
    record {
      place = ap (λ (b : ReadStart). b.place) at ∙ parts.0;
      passed = ap (λ (b : ReadStart). b.passed) at ∙ parts.1;
      lapped = ap (λ (b : ReadStart). b.lapped) at ∙ parts.2;
    }

pub read_found : (filter : FilterValue) (capacity : ℕ) (published : List (List ℕ)) (cursor : Cursor)
    (budget dropped kept_from most looks : ℕ)
    (begin : ReadStart) (kept taken : List (List ℕ)) →
    cursor.passed ≡ count filter (take cursor.next published)
    → dropped ≡ count filter (take (oldest capacity published) published) →
    kept_from ≡ oldest capacity published → kept ≡ keep_last capacity published →
    begin ≡ start_found cursor dropped kept_from (length published) → most ≡ min budget 16 →
    looks ≡ looked (permits filter) most (drop (begin.place - kept_from) kept) →
    taken ≡ take most (permitted_of (permits filter) (drop (begin.place - kept_from) kept)) →
    ReadFound filter capacity published cursor budget begin looks taken
read_found filter capacity published cursor budget dropped kept_from most looks begin kept taken passed_is dropped_is
    kept_is frames_are begin_is most_is looks_is taken_is =
    let from : ℕ = read_start capacity published cursor in
    let s : Started filter capacity published cursor begin =
    started filter capacity published cursor dropped kept_from begin kept_is passed_is dropped_is begin_is in
    let places : oldest capacity published + (begin.place - kept_from) ≡ from = omega (arith, s.place, kept_is) in
    let behind : drop (begin.place - kept_from) kept ≡ drop from published =
    ap (drop (begin.place - kept_from)) frames_are
    ∙ drop-drop (begin.place - kept_from) (oldest capacity published) published
    ∙ ap (λ (n : ℕ). drop n published) places in
    let looks_at : looks ≡ looked (permits filter) (min budget 16) (drop from published) =
    looks_is ∙ ap (λ (n : ℕ). looked (permits filter) n (drop (begin.place - kept_from) kept)) most_is
    ∙ ap (looked (permits filter) (min budget 16)) behind in
    let takes : taken ≡ read_frames (permits filter) capacity published cursor budget =
    taken_is ∙ ap (λ (n : ℕ). take n (permitted_of (permits filter) (drop (begin.place - kept_from) kept))) most_is
    ∙ ap (λ (xs : List (List ℕ)). take (min budget 16) (permitted_of (permits filter) xs)) behind in
    let next : begin.place + looks ≡ read_end (permits filter) capacity published cursor budget =
    omega (arith, s.place, looks_at) in
    let looked_at : List (List ℕ) = take looks (drop from published) in
    let counted_now : length taken ≡ count filter looked_at =
    ap length (takes ∙ sym (filter-looked (permits filter) (min budget 16) (drop from published))
    ∙ ap (λ (n : ℕ). permitted_of (permits filter) (take n (drop from published))) (sym looks_at))
    ∙ length-filter (permits filter) looked_at in
    let further : count filter (take (from + looks) published)
    ≡ count filter (take from published) + count filter looked_at =
    ap (count filter) (take-add from looks published) ∙ count-append filter (take from published) looked_at in
    record {
      next = next;
      passed = omega (arith, s.passed, counted_now, further)
          ∙ ap (λ (n : ℕ). count filter (take n published)) (ap (λ (n : ℕ). n + looks) (sym s.place) ∙ next);
      lapped = s.lapped;
      frames = takes;
    }

abbrev make_report : ℕ → ℕ → ℕ → Option Lap → ℕ → ReadReport
make_report filter next passed lapped taken =
    record { cursor = record { next = next; passed = passed; filter = filter }; lapped = lapped; taken = taken }

-- and so the report
pub report_found : (filter : FilterValue) (test : List ℕ → Bool) (capacity : ℕ) (published : List (List ℕ))
    (cursor : Cursor) (budget : ℕ)
    (begin : ReadStart) (looks : ℕ) (taken : List (List ℕ)) (next passed count_taken : ℕ) (lapped : Option Lap) →
    test ≡ permits filter → ReadFound filter capacity published cursor budget begin looks taken →
    next ≡ begin.place + looks → passed ≡ begin.passed + length taken → lapped ≡ begin.lapped
    → count_taken ≡ length taken →
    make_report cursor.filter next passed lapped count_taken ≡ read_report test capacity published cursor budget
report_found filter test capacity published cursor budget begin looks taken next passed count_taken lapped same found
    next_is passed_is lapped_is taken_is =
    let end : ℕ = read_end (permits filter) capacity published cursor budget in
    ap (λ (n : ℕ). make_report cursor.filter n passed lapped count_taken) (next_is ∙ found.next)
    ∙ ap (λ (n : ℕ). make_report cursor.filter end n lapped count_taken) (passed_is ∙ found.passed)
    ∙ ap (λ (l : Option Lap). make_report cursor.filter end (count filter (take end published)) l count_taken)
    (lapped_is ∙ found.lapped)
    ∙ ap (make_report cursor.filter end (count filter (take end published))
    (read_lap (permits filter) capacity published cursor)) (taken_is ∙ ap length found.frames)
    ∙ ap (λ (p : List ℕ → Bool). read_report p capacity published cursor budget) (sym same)

-- its numbers are no larger than the number of published frames
pub found_few : (filter : FilterValue) (capacity : ℕ) (published : List (List ℕ)) (cursor : Cursor) (budget : ℕ)
    (begin : ReadStart) (looks : ℕ) (taken : List (List ℕ)) → cursor.next ≤ length published →
    ReadFound filter capacity published cursor budget begin looks taken →
    (begin.place + looks ≤ length published) × (begin.passed + length taken ≤ length published)
found_few filter capacity published cursor budget begin looks taken within found =
    let end : ℕ = read_end (permits filter) capacity published cursor budget in (
      omega (arith, found.next, (read_ends (permits filter) capacity published cursor budget within).1),
      omega (arith, found.passed, count_by-le-length (permits filter) (take end published), length-take end published),
    )

-- the same, of a ring that keeps what a state says
pub ring_read : (ring : Ring) (s : State) (cursor : Cursor) (budget kept_count most looks : ℕ) (watch : Watch)
    (begin : ReadStart) (taken : List (List ℕ)) →
    Keeps ring s → IsTrue (is_readable (shape_of (ring_shape ring)) s cursor)
    → watch ≡ get_or ring.watches.items cursor.filter watch →
    kept_count ≡ length ring.frames.items
    → begin ≡ start_found cursor watch.dropped (ring.published - kept_count) ring.published →
    most ≡ min budget 16 →
    looks ≡ looked (permits watch.filter) most (drop (begin.place - (ring.published - kept_count)) ring.frames.items) →
    taken ≡ take most
    (permitted_of (permits watch.filter) (drop (begin.place - (ring.published - kept_count)) ring.frames.items)) →
    ReadFound watch.filter ring.frames.capacity s.published cursor budget begin looks taken
ring_read ring s cursor budget kept_count most looks watch begin taken keeps may here count_is begin_is most_is
    looks_is taken_is =
    let given : ReadGiven ring s cursor watch = read_given ring s cursor watch keeps may here in
    let kept_from : ring.published - kept_count ≡ oldest ring.frames.capacity s.published =
    ap (λ (n : ℕ). ring.published - n) count_is ∙ given.kept_from in
    read_found watch.filter ring.frames.capacity s.published cursor budget watch.dropped (ring.published - kept_count)
    most looks
    begin ring.frames.items taken given.passed given.dropped kept_from keeps.frames
    (begin_is ∙ ap (start_found cursor watch.dropped (ring.published - kept_count)) keeps.published)
    most_is looks_is taken_is
