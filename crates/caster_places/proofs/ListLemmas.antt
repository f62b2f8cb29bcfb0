-- Lists that go together, from their ends and by index.
use Rattle.std.proofs.Common.{◌≡◌, ◌∙◌, ◌<◌, ℕ, zero, suc, List, [], ◌∷◌, ◌++◌, length, map, refl, sym, ap, subst, append_assoc, arith, All}
use Rattle.std.proofs.lemmas.List.Elements.{All-nil, All-cons, All-head, All-tail}
use mathlib.Core.Option.{some, some-injective, some-ne-none}
use lib.ListN.{get_elem?}
use Rattle.caster_places.specs.Piles.{AreMatched, AreThree}

-- ---- two lists

pub matched-length : {X Y : Type 0} (Fits : X → Y → Type 0) (xs : List X) (ys : List Y) → AreMatched Fits xs ys
    → length xs ≡ length ys
matched-length Fits [] [] m = refl
matched-length Fits [] (y ∷ ys) m = absurd m
matched-length Fits (x ∷ xs) [] m = absurd m
matched-length Fits (x ∷ xs) (y ∷ ys) m = ap suc (matched-length Fits xs ys m.1)

pub matched-snoc : {X Y : Type 0} (Fits : X → Y → Type 0) (xs : List X) (ys : List Y) (x : X) (y : Y)
    → AreMatched Fits xs ys → Fits x y → AreMatched Fits (xs ++ x ∷ []) (ys ++ y ∷ [])
matched-snoc Fits [] [] x y m fits = (fits, tt)
matched-snoc Fits [] (z ∷ ys) x y m fits = absurd m
matched-snoc Fits (w ∷ xs) [] x y m fits = absurd m
matched-snoc Fits (w ∷ xs) (z ∷ ys) x y m fits = (m.0, matched-snoc Fits xs ys x y m.1 fits)

-- the first ones go together, and so do those behind them
pub matched_next : {X Y : Type 0} (Fits : X → Y → Type 0) (xs more : List X) (ys later : List Y) (x : X) (y : Y)
    → xs ≡ x ∷ more → ys ≡ y ∷ later → AreMatched Fits xs ys → Fits x y × AreMatched Fits more later
matched_next Fits xs more ys later x y is is_too all =
    subst (λ l. AreMatched Fits l (y ∷ later)) is (subst (AreMatched Fits xs) is_too all)

-- where all go together with these and any that go with the rest, they do so with one more of these
pub matched_behind : {X Y : Type 0} (Fits : X → Y → Type 0) (all xs more : List X) (front : List Y) (x : X) (y : Y)
    → xs ≡ x ∷ more → Fits x y
    → ((rest : List Y) → AreMatched Fits xs rest → AreMatched Fits all (front ++ rest))
    → (rest : List Y) → AreMatched Fits more rest → AreMatched Fits all ((front ++ y ∷ []) ++ rest)
matched_behind Fits all xs more front x y is fits behind rest m =
    subst (AreMatched Fits all) (sym (append_assoc front (y ∷ []) rest))
    (behind (y ∷ rest) (subst (λ l. AreMatched Fits l (y ∷ rest)) (sym is) (fits, m)))

-- what goes with the item at this place
pub matched_at : {X Y : Type 0} (Fits : X → Y → Type 0) (xs : List X) (ys : List Y) (i : ℕ) (y : Y)
    → AreMatched Fits xs ys → get_elem? ys i ≡ some y → (x : X) × (get_elem? xs i ≡ some x) × Fits x y
matched_at Fits [] [] i y m at = absurd (some-ne-none y (sym at))
matched_at Fits [] (z ∷ ys) i y m at = absurd m
matched_at Fits (x ∷ xs) [] i y m at = absurd m
matched_at Fits (x ∷ xs) (z ∷ ys) zero y m at = (x, refl, subst (Fits x) (some-injective z y at) m.0)
matched_at Fits (x ∷ xs) (z ∷ ys) (suc i) y m at = matched_at Fits xs ys i y m.1 at

-- each two at the same place go together
pub matched_by : {X Y : Type 0} (Fits : X → Y → Type 0) (xs : List X) (ys : List Y) → length xs ≡ length ys
    → ((i : ℕ) (x : X) (y : Y) → get_elem? xs i ≡ some x → get_elem? ys i ≡ some y → Fits x y)
    → AreMatched Fits xs ys
matched_by Fits [] [] long each = tt
matched_by Fits [] (y ∷ ys) long each = absurd (omega (arith, long))
matched_by Fits (x ∷ xs) [] long each = absurd (omega (arith, long))
matched_by Fits (x ∷ xs) (y ∷ ys) long each = (
  each 0 x y refl refl,
  matched_by Fits xs ys (omega (arith, long)) (λ i a b here there. each (suc i) a b here there),
)

-- ---- three lists

pub three-snoc : {X Y Z : Type 0} (Fits : X → Y → Z → Type 0) (xs : List X) (ys : List Y) (zs : List Z) (x : X) (y : Y)
    (z : Z) → AreThree Fits xs ys zs → Fits x y z → AreThree Fits (xs ++ x ∷ []) (ys ++ y ∷ []) (zs ++ z ∷ [])
three-snoc Fits [] [] [] x y z m fits = (fits, tt)
three-snoc Fits [] [] (c ∷ zs) x y z m fits = absurd m
three-snoc Fits [] (b ∷ ys) zs x y z m fits = absurd m
three-snoc Fits (a ∷ xs) [] zs x y z m fits = absurd m
three-snoc Fits (a ∷ xs) (b ∷ ys) [] x y z m fits = absurd m
three-snoc Fits (a ∷ xs) (b ∷ ys) (c ∷ zs) x y z m fits = (m.0, three-snoc Fits xs ys zs x y z m.1 fits)

-- the same where the lists are known by equations
pub three_more : {X Y Z : Type 0} (Fits : X → Y → Z → Type 0) (all xs : List X) (all_too ys : List Y)
    (all_three zs : List Z) (x : X) (y : Y) (z : Z) → all ≡ xs ++ x ∷ [] → all_too ≡ ys ++ y ∷ []
    → all_three ≡ zs ++ z ∷ [] → AreThree Fits xs ys zs → Fits x y z → AreThree Fits all all_too all_three
three_more Fits all xs all_too ys all_three zs x y z is is_too is_three m fits =
    subst (λ l. AreThree Fits l all_too all_three) (sym is)
    (subst (λ l. AreThree Fits (xs ++ x ∷ []) l all_three) (sym is_too)
    (subst (AreThree Fits (xs ++ x ∷ []) (ys ++ y ∷ [])) (sym is_three)
    (three-snoc Fits xs ys zs x y z m fits)))

pub three-length : {X Y Z : Type 0} (Fits : X → Y → Z → Type 0) (xs : List X) (ys : List Y) (zs : List Z)
    → AreThree Fits xs ys zs → length zs ≡ length ys
three-length Fits [] [] [] m = refl
three-length Fits [] [] (z ∷ zs) m = absurd m
three-length Fits [] (y ∷ ys) zs m = absurd m
three-length Fits (x ∷ xs) [] zs m = absurd m
three-length Fits (x ∷ xs) (y ∷ ys) [] m = absurd m
three-length Fits (x ∷ xs) (y ∷ ys) (z ∷ zs) m = ap suc (three-length Fits xs ys zs m.1)

-- what stands at one place of three lists
pub record At {X Y Z : Type 0} (Fits : X → Y → Z → Type 0) (xs : List X) (ys : List Y) (i : ℕ) (z : Z) : Type 0 where
  pub first : X
  pub second : Y
  pub at_first : get_elem? xs i ≡ some first
  pub at_second : get_elem? ys i ≡ some second
  pub fits : Fits first second z

pub three_at : {X Y Z : Type 0} (Fits : X → Y → Z → Type 0) (xs : List X) (ys : List Y) (zs : List Z) (i : ℕ) (z : Z)
    → AreThree Fits xs ys zs → get_elem? zs i ≡ some z → At Fits xs ys i z
three_at Fits [] [] [] i z m at = absurd (some-ne-none z (sym at))
three_at Fits [] [] (c ∷ zs) i z m at = absurd m
three_at Fits [] (b ∷ ys) zs i z m at = absurd m
three_at Fits (a ∷ xs) [] zs i z m at = absurd m
three_at Fits (a ∷ xs) (b ∷ ys) [] i z m at = absurd m
three_at Fits (a ∷ xs) (b ∷ ys) (c ∷ zs) zero z m at = record {
  first = a;
  second = b;
  at_first = refl;
  at_second = refl;
  fits = subst (Fits a b) (some-injective c z at) m.0;
}
three_at Fits (a ∷ xs) (b ∷ ys) (c ∷ zs) (suc i) z m at =
    let rest = three_at Fits xs ys zs i z m.1 at in record {
      first = rest.first;
      second = rest.second;
      at_first = rest.at_first;
      at_second = rest.at_second;
      fits = rest.fits;
    }

-- ---- by index

pub map_at : {X Y : Type 0} (f : X → Y) (xs : List X) (i : ℕ) (x : X) → get_elem? xs i ≡ some x
    → get_elem? (map f xs) i ≡ some (f x)
map_at f [] i x at = absurd (some-ne-none x (sym at))
map_at f (y ∷ xs) zero x at = ap (λ z. some (f z)) (some-injective y x at)
map_at f (y ∷ xs) (suc i) x at = map_at f xs i x at

-- two lists that are told the same by are told the same by at each place
pub same_at : {X Y Z : Type 0} (f : X → Z) (h : Y → Z) (xs : List X) (ys : List Y) (i : ℕ) (x : X) (y : Y)
    → map f xs ≡ map h ys → get_elem? xs i ≡ some x → get_elem? ys i ≡ some y → f x ≡ h y
same_at f h xs ys i x y same here there =
    some-injective (f x) (h y) (sym (map_at f xs i x here) ∙ ap (λ l. get_elem? l i) same ∙ map_at h ys i y there)

pub all_at : {X : Type 0} (P : X → Type 0) (xs : List X) (i : ℕ) (x : X) → All P xs → get_elem? xs i ≡ some x → P x
all_at P [] i x all at = absurd (some-ne-none x (sym at))
all_at P (y ∷ xs) zero x all at = subst P (some-injective y x at) (All-head P y xs all)
all_at P (y ∷ xs) (suc i) x all at = all_at P xs i x (All-tail P y xs all) at

-- there is one at each place within the list
pub within : {X : Type 0} (xs : List X) (i : ℕ) → i < length xs → (x : X) × (get_elem? xs i ≡ some x)
within [] i less = absurd (omega (arith, less))
within (x ∷ xs) zero less = (x, refl)
within (x ∷ xs) (suc i) less = within xs i (omega (arith, less))

-- of a list and one more item
pub at_front : {X : Type 0} (l : List X) (a b : X) (i : ℕ) → get_elem? l i ≡ some b → get_elem? (l ++ a ∷ []) i ≡ some b
at_front [] a b i e = absurd (some-ne-none b (sym e))
at_front (x ∷ l) a b zero e = e
at_front (x ∷ l) a b (suc i) e = at_front l a b i e

pub at_back : {X : Type 0} (l : List X) (a : X) → get_elem? (l ++ a ∷ []) (length l) ≡ some a
at_back [] a = refl
at_back (x ∷ l) a = at_back l a

-- ---- facts of each

-- of those before the last, and of the last
pub all_front : {X : Type 0} (P : X → Type 0) (xs : List X) (x : X) → All P (xs ++ x ∷ []) → All P xs
all_front P [] x all = All-nil P
all_front P (y ∷ ys) x all =
    All-cons P y ys (All-head P y (ys ++ x ∷ []) all) (all_front P ys x (All-tail P y (ys ++ x ∷ []) all))

pub all_last : {X : Type 0} (P : X → Type 0) (xs : List X) (x : X) → All P (xs ++ x ∷ []) → P x
all_last P [] x all = All-head P x [] all
all_last P (y ∷ ys) x all = all_last P ys x (All-tail P y (ys ++ x ∷ []) all)
