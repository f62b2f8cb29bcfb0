-- What is looked back at, as a sum.
use Rattle.std.proofs.Common.{◌≡◌, ℕ, ◌+◌, ◌-◌, ◌/◌, ◌<◌, ◌≤◌, ◌^◌, max, min, sum, List, [], ◌∷◌, length, take, replicate, if◌then◌else◌, inl, inr, refl, ap, subst, sym, ◌∙◌, arith, length-append, length-take, suc}
use Rattle.std.specs.Prelude.{nat_lt, slice_index}
use Rattle.std.proofs.lemmas.Bool.{cases_lt, lt-ltb, le-ltb}
use Rattle.std.proofs.lemmas.List.{take-take, take-append-le, take-replicate, length-replicate, length-set}
use Rattle.std.proofs.lemmas.List.Sums.{sum_by-append, sum_by-cons, sum_by-take-le}
use Rattle.std.proofs.lemmas.List.Folds.{sum_by-replicate}
use Rattle.std.proofs.Math.Seq.{take-append-add}
use Rattle.send_room.specs.declared.flow.Flow.{Flow}
use Rattle.send_room.specs.Flows.{lately, later, new_flow, with_more, with_taken}
use Rattle.send_room.specs.Windows.{InOrder, Part, behind, recent, size_of}

-- nothing was taken in so many half seconds
zeroes : (n : ℕ) → sum (replicate n 0) ≡ 0
zeroes n = omega (arith, sum_by-replicate (λ x. x) n 0)

-- what is left of the eight so many half seconds later
later_sum : (halves : ℕ) (taken : List ℕ) → sum (later halves taken) ≡ sum (take (8 - halves) taken)
later_sum halves taken = omega (
  arith,
  zeroes (min halves 8),
  sum_by-append (λ x. x) (replicate (min halves 8) 0) (take (8 - halves) taken),
)

-- and of so many first ones of these, where all of them went by
take_later_past : (k halves : ℕ) (taken : List ℕ) → k ≤ min halves 8
    → sum (take k (later halves taken)) ≡ sum (take (k - halves) taken)
take_later_past k halves taken past =
    let zeros : List ℕ = replicate (min halves 8) 0 in
    let size : k ≤ length zeros = omega (arith, length-replicate {A = ℕ} (min halves 8) 0) in
    let front = take-append-le k zeros (take (8 - halves) taken) size in
    let front_zeros = take-replicate {X = ℕ} k (min halves 8) 0 past in
    let none : k - halves ≡ 0 = omega arith in
    ap sum front ∙ ap sum front_zeros ∙ zeroes k ∙ sym (ap (λ n. sum (take n taken)) none)

-- of more first ones than went by
take_later_within : (k halves : ℕ) (taken : List ℕ) → k ≤ 8 → halves ≤ k
    → sum (take k (later halves taken)) ≡ sum (take (k - halves) taken)
take_later_within k halves taken within among =
    let zeros : List ℕ = replicate (min halves 8) 0 in
    let size : length zeros + (k - halves) ≡ k =
    omega (arith, length-replicate {A = ℕ} (min halves 8) 0) in
    let split = take-append-add zeros (take (8 - halves) taken) (k - halves) in
    let fits : k - halves ≤ 8 - halves = omega arith in
    let twice = take-take (k - halves) (8 - halves) taken fits in
    sym (ap (λ n. sum (take n (later halves taken))) size) ∙ ap sum split
    ∙ omega (
      arith,
      zeroes (min halves 8),
      ap sum twice,
      sum_by-append (λ x. x) zeros (take (k - halves) (take (8 - halves) taken)),
    )

-- in both cases
take_later : (k halves : ℕ) (taken : List ℕ) → k ≤ 8
    → sum (take k (later halves taken)) ≡ sum (take (k - halves) taken)
take_later k halves taken within = elim (cases_lt halves k) [
  | inl lt ↦ take_later_within k halves taken within (omega arith)
  | inr le ↦ take_later_past k halves taken (omega arith)
]

-- of these with so many bytes more in the latest
sum_more : (count : ℕ) (taken : List ℕ) → 0 < length taken
    → slice_index taken 0 + count < 2 ^ 32 → sum (with_more count taken) ≡ count + sum taken
sum_more count [] some fits = absurd (omega arith)
sum_more count (x ∷ xs) some fits =
    let least : min (x + count) (2 ^ 32 - 1) ≡ x + count = omega arith in
    omega (
      arith,
      least,
      sum_by-cons (λ x. x) (min (x + count) (2 ^ 32 - 1)) xs,
      sum_by-cons (λ x. x) x xs,
    )

-- of the first ones
take_more : (k count : ℕ) (taken : List ℕ) → 0 < length taken
    → slice_index taken 0 + count < 2 ^ 32
    → sum (take (suc k) (with_more count taken)) ≡ count + sum (take (suc k) taken)
take_more k count [] some fits = absurd (omega arith)
take_more k count (x ∷ xs) some fits =
    let least : min (x + count) (2 ^ 32 - 1) ≡ x + count = omega arith in
    omega (
      arith,
      least,
      sum_by-cons (λ x. x) (min (x + count) (2 ^ 32 - 1)) (take k xs),
      sum_by-cons (λ x. x) x (take k xs),
    )

-- the latest is a part of the sum
latest_le : (taken : List ℕ) → slice_index taken 0 ≤ sum taken
latest_le [] = omega arith
latest_le (x ∷ xs) = omega (arith, sum_by-cons (λ x. x) x xs)

-- there are always eight
length_later : (halves : ℕ) (taken : List ℕ) → length taken ≡ 8
    → length (later halves taken) ≡ 8
length_later halves taken size =
    omega (
      arith,
      length-append (replicate (min halves 8) 0) (take (8 - halves) taken),
      length-replicate {A = ℕ} (min halves 8) 0,
      length-take (8 - halves) taken,
    )

-- and what is left is no more
later_le : (halves : ℕ) (taken : List ℕ) → sum (later halves taken) ≤ sum taken
later_le halves taken =
    omega (arith, later_sum halves taken, sum_by-take-le (λ x. x) taken (8 - halves))

-- of the first ones so many half seconds later, with so many bytes more in the latest before them
sum_step : (k later_still halves count : ℕ) (taken : List ℕ) → k ≤ 8 → length taken ≡ 8
    → slice_index (later halves taken) 0 + count < 2 ^ 32
    → sum (take k (later later_still (with_more count (later halves taken))))
    ≡ (if nat_lt later_still k then count else 0)
    + sum (take k (later (later_still + halves) taken))
sum_step k p halves count taken eight size fits = elim (cases_lt p k) [
  | inl lt ↦
      let v = later halves taken in
      let some : 0 < length v = omega (arith, length_later halves taken size) in
      let one : suc (k - p - 1) ≡ k - p = omega arith in
      let more = take_more (k - p - 1) count v some fits in
      let first = take_later k p (with_more count v) eight in
      let second = take_later (k - p) halves taken (omega arith) in
      let third = take_later k (p + halves) taken eight in
      let same : k - p - halves ≡ k - (p + halves) = omega arith in
      let counts = ap (λ b. if b then count else 0) (lt-ltb p k lt) in
      omega (
        arith,
        first,
        second,
        third,
        more,
        counts,
        ap (λ n. sum (take n (with_more count v))) one,
        ap (λ n. sum (take n v)) one,
        ap (λ n. sum (take n taken)) same,
      )
  | inr le ↦
      let v = with_more count (later halves taken) in
      let none : k - p ≡ 0 = omega arith in
      let none_too : k - (p + halves) ≡ 0 = omega arith in
      let counts = ap (λ b. if b then count else 0) (le-ltb p k le) in
      omega (
        arith,
        take_later k p v eight,
        take_later k (p + halves) taken eight,
        counts,
        ap (λ n. sum (take n v)) none,
        ap (λ n. sum (take n taken)) none_too,
      )
]

-- parts that come in order end no later than they began
in_order_le : (first : ℕ) (parts : List Part) (last : ℕ) → InOrder first parts last → first ≤ last
in_order_le first [] last order = order
in_order_le first (part ∷ more) last order =
    omega (arith, order.0, in_order_le (part.at / 500) more last order.1)

-- a part is late enough
same_test : (k now at count : ℕ) → at ≤ now → (if nat_lt (now - at) k then count else 0)
    ≡ (if nat_lt now (at + k) then count else 0)
same_test k now at count past = elim (cases_lt now (at + k)) [
  | inl lt ↦ ap (λ b. if b then count else 0)
      (lt-ltb (now - at) k (omega arith) ∙ sym (lt-ltb now (at + k) lt))
  | inr le ↦ ap (λ b. if b then count else 0)
      (le-ltb (now - at) k (omega arith) ∙ sym (le-ltb now (at + k) le))
]

-- behind any flow, what is looked back at is what was and what of the parts is late enough
behind_flow : (k : ℕ) (parts : List Part) (now : ℕ) (flow : Flow) → k ≤ 8
    → length flow.taken ≡ 8 → InOrder flow.half parts (now / 500)
    → sum flow.taken + size_of parts < 2 ^ 32
    → sum (take k (lately now (behind parts flow)))
    ≡ recent k now parts + sum (take k (lately now flow))
behind_flow k [] now flow eight size order fits = omega arith
behind_flow k (part ∷ more) now flow eight size order fits =
    let at = part.at / 500 in
    let count = part.count in
    let gone = at - flow.half in
    let v = later gone flow.taken in
    let told = with_taken part.at count flow in
    let all = sum_by-cons (λ (p : Part). p.count) part more in
    let low = later_le gone flow.taken in
    let room : slice_index v 0 + count < 2 ^ 32 = omega (arith, latest_le v, all, low) in
    let some : 0 < length v = omega (arith, length_later gone flow.taken size) in
    let half : max flow.half at ≡ at = omega (arith, order.0) in
    let order' : InOrder told.half more (now / 500) =
    subst (λ (h : ℕ). InOrder h more (now / 500)) (sym half) order.1 in
    let size' : length told.taken ≡ 8 =
    omega (
      arith,
      length-set v 0 (min (slice_index v 0 + count) (2 ^ 32 - 1)),
      length_later gone flow.taken size,
    ) in
    let fits' : sum told.taken + size_of more < 2 ^ 32 =
    omega (arith, sum_more count v some room, all, low) in
    let rest = behind_flow k more now told eight size' order' fits' in
    let step = sum_step k (now / 500 - at) gone count flow.taken eight size room in
    let end = in_order_le at more (now / 500) order.1 in
    let back : now / 500 - at + gone ≡ now / 500 - flow.half = omega (arith, order.0, end) in
    let first = ap (λ (h : ℕ). sum (take k (later (now / 500 - h) told.taken))) half in
    let last = ap (λ (h : ℕ). sum (take k (later h flow.taken))) back in
    let same = same_test k (now / 500) at count end in
    let counts = sum_by-cons
    (λ (p : Part). if nat_lt (now / 500) (p.at / 500 + k) then p.count else 0) part more in
    omega (arith, rest, first, step, last, same, counts)

-- behind one that begins, what is looked back at is what of the parts is late enough
pub behind_new : (parts : List Part) (now k : ℕ) → k ≤ 8 → InOrder 0 parts (now / 500)
    → size_of parts < 2 ^ 32 → sum (take k (lately now (behind parts new_flow))) ≡ recent k now parts
behind_new parts now k eight order fits =
    let none : sum (replicate 8 0) ≡ 0 = zeroes 8 in
    let before = later_le (now / 500 - 0) (replicate 8 0) in
    let first = sum_by-take-le (λ x. x) (later (now / 500 - 0) (replicate 8 0)) k in
    omega (
      arith,
      none,
      before,
      first,
      behind_flow k parts now new_flow eight refl order (omega (arith, none, fits)),
    )
