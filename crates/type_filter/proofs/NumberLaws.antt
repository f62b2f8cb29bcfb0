-- Laws of lists of message numbers.
use Rattle.std.proofs.Common.{◌≡◌, ℕ, ◌<◌, ◌≤◌, ◌↔◌, ◌&&◌, ◌||◌, ◌∙◌, Bool, true, false, IsTrue, cond, List, [], ◌∷◌, map, length, get_or, Option, Some, None, Result, Ok, Err, Ordering, Less, Equal, Greater, inl, inr, is_ok, All, Contains, IsSorted, IsPermutation, position, not, T, refl, sym, ap, subst, arith, eqb, leb, ltb, eq-eqb}
use Rattle.std.specs.Cmp.{nat_cmp_total, Equal-is, both_ways, tied_itself}
use Rattle.std.specs.BTreeSet.{insert_key}
use Rattle.std.specs.FinMap.{nat_cmp-IsAntisymmetric}
use Rattle.std.specs.FinMap.Entries.{below_all, is_sorted, find, same_entries}
use Rattle.std.specs.List.{AllByRecursion, list_any, position_or_len, dedup}
use Rattle.std.specs.List.Retain.{IsFiltered, DiffersFromLast}
use Rattle.std.specs.List.Sorted.{IsStrictlyIncreasing, IsStrictlySortedBy, IsBinarySearchResult}
use Rattle.std.specs.Ordering.{eq_by_cmp, is_lt, match_ordering, ordering_reverse, nat_cmp}
use Rattle.std.proofs.lemmas.List.{get_or_default}
use Rattle.std.proofs.lemmas.Bool.{cases_lt, eqb-true, leb-true, ltb-false, and_parts}
use Rattle.std.proofs.lemmas.List.Elements.{All-contains, Contains-get_or}
use Rattle.std.proofs.lemmas.List.Filters.{dedup_is}
use Rattle.std.proofs.lemmas.List.Folds.{Any-from_list_any, list_any-from_Any}
use Rattle.std.proofs.lemmas.List.Kept.{Contains-dedup_nat, Contains-from_dedup}
use Rattle.std.proofs.lemmas.List.Sorted.{Contains-permutation, IsPermutation-sym, length_permutation, searched}
use Rattle.std.proofs.lemmas.List.Sums.{prefix_len_passes}
use Rattle.std.proofs.lemmas.Map.Keys.{IsStrictlyIncreasing-dedup, IsStrictlyIncreasing-from_sorted, sorted_from_strictly_increasing, sorted_head, sorted_tail, non_decreasing_from_sorted}
use Rattle.rtcm_frame.specs.Transport.{number_of}
use Rattle.type_filter.specs.Permitted.{Listed, permits, is_listed}
use Rattle.type_filter.specs.Numbers.{IsNumberList, in_order, is_good_count, is_too_high}

-- tests

not_true : (b : Bool) → not b ≡ true → b ≡ false
not_true true fails = absurd cc
not_true false fails = refl

no_place : (within : Bool) (place : ℕ) → cond within (Some place) None ≡ None → within ≡ false
no_place true place none = absurd cc
no_place false place none = refl

-- a test that finds no place fails at each
pub position_none : (test : ℕ → Bool) (xs : List ℕ) → position test xs ≡ None → All (λ x. test x ≡ false) xs
position_none test xs none k d within =
    let past = no_place (ltb (position_or_len test xs) (length xs)) (position_or_len test xs) none in
    let end = ltb-false (position_or_len test xs) (length xs) past in
    let before : k < position_or_len test xs = omega arith in
    not_true (test (get_or xs k d)) (prefix_len_passes (λ x. not (test x)) xs k d before)

-- what a list contains

pub any-contains : (xs : List ℕ) (x : ℕ) → list_any (λ y. eqb y x) xs ≡ true → Contains xs x
any-contains xs x found =
    let at = Any-from_list_any (λ y. eqb y x) xs found in
    (at.0, at.2, subst (λ (z : ℕ). get_or xs at.0 z ≡ z) (eqb-true at.1 x at.4) at.3)

pub contains-any : (xs : List ℕ) (x : ℕ) → Contains xs x → list_any (λ y. eqb y x) xs ≡ true
contains-any xs x at = list_any-from_Any (λ y. eqb y x) xs (at.0, x, at.1, at.2, eq-eqb x x refl)

-- lists that contain the same numbers list the same
pub any_same : (xs ys : List ℕ) (x : ℕ) → (Contains xs x → Contains ys x) → (Contains ys x → Contains xs x)
    → list_any (λ y. eqb y x) xs ≡ list_any (λ y. eqb y x) ys
any_same xs ys x there back =
    both_ways (list_any (λ y. eqb y x) xs) (list_any (λ y. eqb y x) ys)
    (λ found. contains-any ys x (there (any-contains xs x found)))
    (λ found. contains-any xs x (back (any-contains ys x found)))

-- numbers that are put in order

repeated : (b c : Bool) → (b || c) ≡ (b || (b || c))
repeated true c = refl
repeated false c = refl

swapped : (a b c : Bool) → (a || (b || c)) ≡ (b || (a || c))
swapped true true c = refl
swapped true false c = refl
swapped false b c = refl

-- a list after one more number, by how that compares with the first
abbrev placed : ℕ → ℕ → List ℕ → Ordering → List ℕ
placed x y ys r = match_ordering r (x ∷ y ∷ ys) (y ∷ ys) (y ∷ insert_key nat_cmp ys x)

-- what was put there is listed beside the others
listed_put : (x q : ℕ) (xs : List ℕ)
    → list_any (λ y. eqb y q) (insert_key nat_cmp xs x) ≡ (eqb x q || list_any (λ y. eqb y q) xs)
listed_put x q [] = refl
listed_put x q (y ∷ ys) =
    elim (nat_cmp x y) as (λ r. nat_cmp x y ≡ r → list_any (λ z. eqb z q) (placed x y ys r)
    ≡ (eqb x q || (eqb y q || list_any (λ z. eqb z q) ys))) [
      | Less ↦ λ is. refl
      | Equal ↦ λ is. subst
          (λ z. (eqb y q || list_any (λ z. eqb z q) ys) ≡ (eqb z q || (eqb y q || list_any (λ z. eqb z q) ys)))
          (sym (nat_cmp-IsAntisymmetric x y is)) (repeated (eqb y q) (list_any (λ z. eqb z q) ys))
      | Greater ↦ λ is. ap (λ b. eqb y q || b) (listed_put x q ys)
          ∙ swapped (eqb y q) (eqb x q) (list_any (λ z. eqb z q) ys)
    ] refl

pub listed_in_order : (given : List ℕ) (q : ℕ)
    → list_any (λ y. eqb y q) (in_order given) ≡ list_any (λ y. eqb y q) given
listed_in_order [] q = refl
listed_in_order (x ∷ given) q =
    listed_put x q (in_order given) ∙ ap (λ b. eqb x q || b) (listed_in_order given q)

above_put : (least x : ℕ) (xs : List ℕ) → nat_cmp least x ≡ Less → AllByRecursion (λ y. nat_cmp least y ≡ Less) xs
    → AllByRecursion (λ y. nat_cmp least y ≡ Less) (insert_key nat_cmp xs x)
above_put least x [] one all = (one, tt)
above_put least x (y ∷ ys) one all =
    elim (nat_cmp x y) as (λ r. AllByRecursion (λ y. nat_cmp least y ≡ Less)
    (placed x y ys r)) [
      | Less ↦ (one, all)
      | Equal ↦ all
      | Greater ↦ (all.0, above_put least x ys one all.1)
    ]

lower : (a b c : ℕ) → nat_cmp a b ≡ Less → nat_cmp b c ≡ Less → nat_cmp a c ≡ Less
lower a b c ab bc = nat_cmp_total.trans a b c ab bc

all_lower : (a b : ℕ) (xs : List ℕ) → nat_cmp a b ≡ Less → AllByRecursion (λ y. nat_cmp b y ≡ Less) xs
    → AllByRecursion (λ y. nat_cmp a y ≡ Less) xs
all_lower a b [] ab all = tt
all_lower a b (y ∷ ys) ab all = (lower a b y ab all.0, all_lower a b ys ab all.1)

sorted_put : (x : ℕ) (xs : List ℕ) → IsStrictlySortedBy nat_cmp xs
    → IsStrictlySortedBy nat_cmp (insert_key nat_cmp xs x)
unfolding IsStrictlySortedBy
sorted_put x [] sorted = (tt, tt)
sorted_put x (y ∷ ys) sorted =
    elim (nat_cmp x y) as (λ r. nat_cmp x y ≡ r
    → IsStrictlySortedBy nat_cmp (placed x y ys r)) [
      | Less ↦ λ is. ((is, all_lower x y ys is sorted.0), sorted)
      | Equal ↦ λ is. sorted
      | Greater ↦ λ is.
          (above_put y x ys (nat_cmp_total.antisymm y x ∙ ap ordering_reverse is) sorted.0, sorted_put x ys sorted.1)
    ] refl

in_order_sorted : (given : List ℕ) → IsStrictlySortedBy nat_cmp (in_order given)
unfolding IsStrictlySortedBy
in_order_sorted [] = tt
in_order_sorted (x ∷ given) = sorted_put x (in_order given) (in_order_sorted given)

pub in_order_rises : (given : List ℕ) → IsStrictlyIncreasing (in_order given)
in_order_rises given = IsStrictlyIncreasing-from_sorted (in_order given) (in_order_sorted given)

-- a list is the one rising list of its numbers

-- each number of a list, with nothing beside it
abbrev pairs : List ℕ → List (ℕ × Unit {0})
pairs xs = map (λ x. (x, tt)) xs

first_of_pairs : (xs : List ℕ) → map (λ (e : ℕ × Unit {0}). e.0) (pairs xs) ≡ xs
first_of_pairs [] = refl
first_of_pairs (x ∷ xs) = ap (λ ys. x ∷ ys) (first_of_pairs xs)

both_T : (a b : Bool) → T a → T b → T (a && b)
both_T true b left right = right
both_T false b left right = absurd left

below_there : (x : ℕ) (xs : List ℕ) → AllByRecursion (λ y. nat_cmp x y ≡ Less) xs → T (below_all nat_cmp x (pairs xs))
below_there x [] all = tt
below_there x (y ∷ ys) all =
    both_T (is_lt (nat_cmp x y)) (below_all nat_cmp x (pairs ys))
    (subst (λ r. T (is_lt r)) (sym all.0) tt) (below_there x ys all.1)

sorted_there : (xs : List ℕ) → IsStrictlySortedBy nat_cmp xs → T (is_sorted nat_cmp (pairs xs))
sorted_there [] sorted = tt
sorted_there (x ∷ xs) sorted =
    both_T (below_all nat_cmp x (pairs xs)) (is_sorted nat_cmp (pairs xs))
    (below_there x xs (sorted_head nat_cmp x xs sorted)) (sorted_there xs (sorted_tail nat_cmp x xs sorted))

-- a number ties with those equal to it
tie : (q x : ℕ) → eq_by_cmp nat_cmp q x ≡ eqb x q
tie q x = both_ways (eq_by_cmp nat_cmp q x) (eqb x q)
    (λ ties. eq-eqb x q (sym (nat_cmp-IsAntisymmetric q x ((Equal-is (nat_cmp q x)).0 ties))))
    (λ equal. (Equal-is (nat_cmp q x)).1
    (subst (λ y. nat_cmp q y ≡ Equal) (sym (eqb-true x q equal)) (tied_itself nat_cmp_total q)))

find_pairs : (q : ℕ) (xs : List ℕ)
    → find nat_cmp q (pairs xs) ≡ cond (list_any (λ y. eqb y q) xs) (Some tt) None
find_pairs q [] = refl
find_pairs q (x ∷ xs) =
    ap (λ b. cond b (Some tt) (find nat_cmp q (pairs xs))) (tie q x)
    ∙ elim (eqb x q) as (λ b. cond b (Some tt) (find nat_cmp q (pairs xs))
    ≡ cond (b || list_any (λ y. eqb y q) xs) (Some tt) None) [
      | true ↦ refl
      | false ↦ find_pairs q xs
    ]

pub listed_once : (given kept : List ℕ) → IsStrictlyIncreasing kept
    → ((x : ℕ) → list_any (λ y. eqb y x) kept ≡ list_any (λ y. eqb y x) given) → in_order given ≡ kept
listed_once given kept rises same =
    sym (first_of_pairs (in_order given))
    ∙ ap (λ es. map (λ (e : ℕ × Unit {0}). e.0) es)
    (same_entries nat_cmp nat_cmp_total nat_cmp-IsAntisymmetric (pairs (in_order given)) (pairs kept)
    (sorted_there (in_order given) (in_order_sorted given))
    (sorted_there kept (sorted_from_strictly_increasing kept rises))
    (λ q. find_pairs q (in_order given)
    ∙ ap (λ b. cond b (Some tt) None) (listed_in_order given q ∙ sym (same q)) ∙ sym (find_pairs q kept)))
    ∙ first_of_pairs kept

pub in_order_stays : (given : List ℕ) → IsStrictlyIncreasing given → in_order given ≡ given
in_order_stays given rises = listed_once given given rises (λ x. refl)

pub in_order_again : (given : List ℕ) → in_order (in_order given) ≡ in_order given
in_order_again given = in_order_stays (in_order given) (in_order_rises given)

pub in_order_same : (given : List ℕ) (x : ℕ) → Contains (in_order given) x ↔ Contains given x
in_order_same given x = (
  (λ at. any-contains given x (sym (listed_in_order given x) ∙ contains-any (in_order given) x at)),
  (λ at. any-contains (in_order given) x (listed_in_order given x ∙ contains-any given x at)),
)

-- a list permits the frames whose number was given
pub permits_in_order : (given frame : List ℕ) → permits (Listed (in_order given)) frame ≡ permits (Listed given) frame
permits_in_order given frame = listed_same (number_of frame) where
  listed_same : (number : Option ℕ) → is_listed (in_order given) number ≡ is_listed given number
  listed_same None = refl
  listed_same (Some number) = listed_in_order given number

-- a rising list is searched

not_here : (v k i x : ℕ) → (k < i → v < x) → (i ≤ k → x < v) → v ≡ x → ⊥
not_here v k i x before past is = elim (cases_lt k i) [
  | inl low ↦ let below = before low in omega arith
  | inr high ↦ let above = past high in omega arith
]

rising_below : (xs : List ℕ) → IsStrictlyIncreasing xs
    → (i j : ℕ) → i ≤ j → j < length xs → get_or xs i 0 ≤ get_or xs j 0
rising_below xs rises i j before within =
    non_decreasing_from_sorted xs (sorted_from_strictly_increasing xs rises) i j 0 before within

pub searched_list : (xs : List ℕ) (x : ℕ) (r : Result ℕ ℕ) → IsStrictlyIncreasing xs
    → IsBinarySearchResult (λ y. nat_cmp y x) xs r → is_ok r ≡ is_listed xs (Some x)
searched_list xs x (Ok i) rises is =
    let found = searched xs x (Ok i) is (rising_below xs rises) in
    sym (contains-any xs x (subst (λ y. Contains xs y) found.1 (Contains-get_or xs i 0 found.0)))
searched_list xs x (Err i) rises is =
    let absent = searched xs x (Err i) is (rising_below xs rises) in
    both_ways false (list_any (λ y. eqb y x) xs) (λ no. absurd cc)
    (λ found. let at = any-contains xs x found in
    absurd (not_here (get_or xs at.0 0) at.0 i x (absent.1 at.0) (λ past. absent.2 at.0 past at.1)
    (get_or_default xs at.0 0 x at.1 ∙ at.2)))

-- numbers that were sorted and rid of repeats

pub good_count : (xs : List ℕ) → IsTrue (is_good_count xs) → (1 ≤ length xs) × (length xs ≤ 64)
good_count xs good =
    let both = and_parts (leb 1 (length xs)) (leb (length xs) 64) good in
    (leb-true 1 (length xs) both.0, leb-true (length xs) 64 both.1)

pub list_in_order : (given moved kept : List ℕ)
    → IsTrue (is_good_count given) → position is_too_high given ≡ None
    → IsPermutation given moved → IsSorted nat_cmp moved
    → IsFiltered (DiffersFromLast eqb) [] moved kept → length kept ≤ length moved
    → IsNumberList kept × (kept ≡ in_order given)
list_in_order given moved kept good low perm sorted filtered shorter =
    let is : kept ≡ dedup eqb moved = dedup_is eqb moved kept filtered in
    let count = good_count given good in
    let keeps : (number : ℕ) → Contains given number → Contains kept number =
    λ number at. subst (λ l. Contains l number) (sym is)
    (Contains-dedup_nat moved number (Contains-permutation given moved number perm at)) in
    let adds_none : (number : ℕ) → Contains kept number → Contains given number =
    λ number at. Contains-permutation moved given number (IsPermutation-sym given moved perm)
    (Contains-from_dedup eqb moved number (subst (λ l. Contains l number) is at)) in
    let first = keeps (get_or given 0 0) (Contains-get_or given 0 0 (omega arith)) in
    let first_within = first.1 in
    let same_length = length_permutation given moved perm in
    let rises : IsStrictlyIncreasing kept =
    subst IsStrictlyIncreasing (sym is) (IsStrictlyIncreasing-dedup moved sorted) in
    let valid : IsNumberList kept = record {
      some = omega arith;
      few = omega arith;
      low = λ k d within. ltb-false 4095 (get_or kept k d)
          (All-contains (λ x. is_too_high x ≡ false) given (get_or kept k d)
          (position_none is_too_high given low)
          (adds_none (get_or kept k d) (Contains-get_or kept k d within)));
      ordered = rises;
    } in
    (valid, sym (listed_once given kept rises (λ x. any_same kept given x (adds_none x) (keeps x))))
