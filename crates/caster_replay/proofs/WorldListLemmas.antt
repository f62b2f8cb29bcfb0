-- What happens to one connection among others, which stand in increasing order of number, each with
-- what a run keeps of it.
use Rattle.std.proofs.Common.{◌≡◌, ◌≢◌, ◌∙◌, ◌<◌, ◌≤◌, ◌+◌, ℕ, zero, suc, Bool, true, false, cond, List, [], ◌∷◌, length, get_or, set, refl, sym, ap, subst, arith}
use Rattle.std.specs.Prelude.{nat_lt, ◌==◌, ◌||◌, insert}
use Rattle.std.specs.List.{prefix_len}
use Rattle.std.proofs.lemmas.Bool.{eq-eqb, ne_eqb, ltb-true, ltb-false, or_parts}
use Rattle.cast_config.specs.declared.config.Config.{Config}
use Rattle.session_model.specs.Headings.{Heading}
use Rattle.session_model.specs.Owed.{Happening}
use Rattle.session_model.specs.Run.{Histories, Connected, World, Moved, moved_if, is_concerned, happens_in, placed_if, placed, is_opened}
use Rattle.caster_replay.specs.Runs.{AreAbove, IsIncreasing, Pairs}

-- ---- in increasing order of number

pub above_less : (less number : ℕ) (ds : List Connected) → less ≤ number → AreAbove number ds → AreAbove less ds
above_less less number [] below above = tt
above_less less number (d ∷ ds) below above =
    (omega (arith, below, above.0), above_less less number ds below above.1)

-- a greater number stands at this place
pub above_at : (number : ℕ) (ds : List Connected) (at : ℕ) (x : Connected) → AreAbove number ds → at < length ds
    → number < (get_or ds at x).number
above_at number [] at x above within = absurd (omega (arith, within))
above_at number (d ∷ ds) zero x above within = above.0
above_at number (d ∷ ds) (suc at) x above within = above_at number ds at x above.1 (omega (arith, within))

pub none_above : (number : ℕ) (ds : List Connected) → AreAbove number ds → is_opened number ds ≡ false
none_above number [] above = refl
none_above number (d ∷ ds) above =
    ap (λ (b : Bool). b || is_opened number ds) (ne_eqb d.number number (λ e. absurd (omega (arith, e, above.0))))
    ∙ none_above number ds above.1

first_no : (a b : Bool) → (a || b) ≡ false → a ≡ true → ⊥
first_no true b none is = absurd cc
first_no false b none is = absurd cc

-- the first of several connections has another number than one that was not opened
pub apart_first : (number : ℕ) (d : Connected) (ds : List Connected) → is_opened number (d ∷ ds) ≡ false
    → d.number ≢ number
apart_first number d ds none e = first_no (d.number == number) (is_opened number ds) none (eq-eqb d.number number e)

pub none_later : (number : ℕ) (d : Connected) (ds : List Connected) → is_opened number (d ∷ ds) ≡ false
    → is_opened number ds ≡ false
none_later number d ds none = (or_parts (d.number == number) (is_opened number ds) none).1

-- ---- what happens to a number

-- what becomes of a connection
abbrev pub moved_by : Config → (ℕ → Heading) → ℕ → Happening → Histories → Connected → Moved
moved_by c headings number what h d =
    moved_if (is_concerned c (headings d.number) number d) c (headings d.number) h d what

abbrev pub onto : Connected → World → World
onto d w = record { connections = d ∷ w.connections; histories = w.histories }

abbrev behind : Config → (ℕ → Heading) → ℕ → Happening → Moved → List Connected → World
behind c headings number what m ds = onto m.connection (happens_in c headings number what m.histories ds)

-- another connection is what it was
pub apart_moved : (c : Config) (headings : ℕ → Heading) (number : ℕ) (what : Happening) (h : Histories) (d : Connected)
    → d.number ≢ number → moved_by c headings number what h d ≡ record { connection = d; histories = h }
apart_moved c headings number what h d apart = rw (ne_eqb d.number number apart) refl

-- none of these is concerned
pub happens_nowhere : (c : Config) (headings : ℕ → Heading) (number : ℕ) (what : Happening) (h : Histories)
    (ds : List Connected) → is_opened number ds ≡ false
    → happens_in c headings number what h ds ≡ record { connections = ds; histories = h }
happens_nowhere c headings number what h [] none = refl
happens_nowhere c headings number what h (d ∷ ds) none =
    ap (λ (m : Moved). behind c headings number what m ds)
    (apart_moved c headings number what h d (apart_first number d ds none))
    ∙ ap (onto d) (happens_nowhere c headings number what h ds (none_later number d ds none))

-- the one of this number, at its place, is what becomes of it, and the others are what they were
pub happens_at : (c : Config) (headings : ℕ → Heading) (number : ℕ) (what : Happening) (h : Histories)
    (ds : List Connected) (at : ℕ) (x : Connected) → IsIncreasing ds → at < length ds → (get_or ds at x).number ≡ number
    → happens_in c headings number what h ds ≡ record {
      connections = set ds at (moved_by c headings number what h (get_or ds at x)).connection;
      histories = (moved_by c headings number what h (get_or ds at x)).histories;
    }
happens_at c headings number what h [] at x order within here = absurd (omega (arith, within))
happens_at c headings number what h (d ∷ ds) zero x order within here =
    let m = moved_by c headings number what h d in
    ap (onto m.connection)
    (happens_nowhere c headings number what m.histories ds
    (subst (λ (n : ℕ). is_opened n ds ≡ false) here (none_above d.number ds order.0)))
happens_at c headings number what h (d ∷ ds) (suc at) x order within here =
    let below : d.number < (get_or ds at x).number = above_at d.number ds at x order.0 (omega (arith, within)) in
    ap (λ (m : Moved). behind c headings number what m ds)
    (apart_moved c headings number what h d (λ e. absurd (omega (arith, below, here, e))))
    ∙ ap (onto d) (happens_at c headings number what h ds at x order.1 (omega (arith, within)) here)

-- ---- places

-- those that stand before a number
abbrev pub before : ℕ → Connected → Bool
before number d = nat_lt d.number number

one_more : (n : ℕ) → suc n ≡ 1 + n
one_more n = omega arith

pub placed_insert : (d : Connected) (ds : List Connected) → placed d ds ≡ insert ds (prefix_len (before d.number) ds) d
placed_insert d [] = refl
placed_insert d (e ∷ ds) =
    elim (nat_lt e.number d.number) as (λ b. placed_if b d e ds (placed d ds)
    ≡ insert (e ∷ ds) (cond b (1 + prefix_len (before d.number) ds) 0) d) [
      | true ↦
          ap (λ (l : List Connected). e ∷ l) (placed_insert d ds)
          ∙ ap (λ (n : ℕ). insert (e ∷ ds) n d) (one_more (prefix_len (before d.number) ds))
      | false ↦ refl
    ]

not_opened_by : (number : ℕ) (d : Connected) (ds : List Connected) (x : Connected) (test : Bool)
    → nat_lt d.number number ≡ test → IsIncreasing (d ∷ ds)
    → (cond test (1 + prefix_len (before number) ds) 0 < suc (length ds)
    → (get_or (d ∷ ds) (cond test (1 + prefix_len (before number) ds) 0) x).number ≢ number)
    → ((prefix_len (before number) ds < length ds → (get_or ds (prefix_len (before number) ds) x).number ≢ number)
    → is_opened number ds ≡ false)
    → is_opened number (d ∷ ds) ≡ false
not_opened_by number d ds x true is order missing others =
    let place : ℕ = prefix_len (before number) ds in
    let below : d.number < number = ltb-true d.number number is in
    let rest : is_opened number ds ≡ false =
    others (λ within here. missing (omega (arith, within))
    (ap (λ (n : ℕ). (get_or (d ∷ ds) n x).number) (sym (one_more place)) ∙ here)) in
    ap (λ (b : Bool). b || is_opened number ds) (ne_eqb d.number number (λ e. absurd (omega (arith, below, e)))) ∙ rest
not_opened_by number d ds x false is order missing others =
    let above : number ≤ d.number = ltb-false d.number number is in
    ap (λ (b : Bool). b || is_opened number ds) (ne_eqb d.number number (missing (omega arith)))
    ∙ none_above number ds (above_less number d.number ds above order.0)

-- a number that does not stand at its place was not opened
pub not_opened : (number : ℕ) (ds : List Connected) (x : Connected) → IsIncreasing ds
    → (prefix_len (before number) ds < length ds → (get_or ds (prefix_len (before number) ds) x).number ≢ number)
    → is_opened number ds ≡ false
not_opened number [] x order missing = refl
not_opened number (d ∷ ds) x order missing =
    not_opened_by number d ds x (nat_lt d.number number) refl order missing (not_opened number ds x order.1)

-- and one that does, was
pub was_opened : (number : ℕ) (ds : List Connected) (at : ℕ) (x : Connected) → at < length ds
    → (get_or ds at x).number ≡ number → is_opened number ds ≡ true
was_opened number [] at x within here = absurd (omega (arith, within))
was_opened number (d ∷ ds) zero x within here =
    ap (λ (b : Bool). b || is_opened number ds) (eq-eqb d.number number here)
was_opened number (d ∷ ds) (suc at) x within here =
    or_later (d.number == number) (is_opened number ds) (was_opened number ds at x (omega (arith, within)) here)
  where
    or_later : (a b : Bool) → b ≡ true → (a || b) ≡ true
    or_later true b is = refl
    or_later false b is = is

-- ---- what a run keeps of each

pub pairs_length : {L : Type 0} (R : Connected → L → Type 0) (ds : List Connected) (kept : List L) → Pairs R ds kept
    → length kept ≡ length ds
pairs_length R [] [] all = refl
pairs_length R [] (kept ∷ more) all = absurd all
pairs_length R (d ∷ ds) [] all = absurd all
pairs_length R (d ∷ ds) (kept ∷ more) all = ap suc (pairs_length R ds more all.1)

pub pairs_at : {L : Type 0} (R : Connected → L → Type 0) (ds : List Connected) (kept : List L) (at : ℕ) (x : Connected)
    (y : L) → Pairs R ds kept → at < length kept → R (get_or ds at x) (get_or kept at y)
pairs_at R [] [] at x y all within = absurd (omega (arith, within))
pairs_at R [] (kept ∷ more) at x y all within = absurd all
pairs_at R (d ∷ ds) [] at x y all within = absurd all
pairs_at R (d ∷ ds) (kept ∷ more) zero x y all within = all.0
pairs_at R (d ∷ ds) (kept ∷ more) (suc at) x y all within = pairs_at R ds more at x y all.1 (omega (arith, within))

-- where the number of each is kept, its place can be found there
pub pairs_place : {L : Type 0} (R : Connected → L → Type 0) (number_of : L → ℕ) (number : ℕ)
    (ds : List Connected) (kept : List L) → ((d : Connected) (l : L) → R d l → number_of l ≡ d.number)
    → Pairs R ds kept → prefix_len (λ (l : L). nat_lt (number_of l) number) kept ≡ prefix_len (before number) ds
pairs_place R number_of number [] [] same all = refl
pairs_place R number_of number [] (kept ∷ more) same all = absurd all
pairs_place R number_of number (d ∷ ds) [] same all = absurd all
pairs_place {L} R number_of number (d ∷ ds) (kept ∷ more) same all =
    ap (λ (n : ℕ). cond (nat_lt n number) (1 + prefix_len (λ (l : L). nat_lt (number_of l) number) more) 0)
    (same d kept all.0)
    ∙ ap (λ (n : ℕ). cond (nat_lt d.number number) (1 + n) 0) (pairs_place R number_of number ds more same all.1)

-- what is kept of all but one number may be known otherwise
pub pairs_other : {L : Type 0} (R S : Connected → L → Type 0) (number : ℕ) (ds : List Connected) (kept : List L)
    → ((d : Connected) (l : L) → d.number ≢ number → R d l → S d l) → is_opened number ds ≡ false
    → Pairs R ds kept → Pairs S ds kept
pairs_other R S number [] [] each none all = tt
pairs_other R S number [] (kept ∷ more) each none all = absurd all
pairs_other R S number (d ∷ ds) [] each none all = absurd all
pairs_other R S number (d ∷ ds) (kept ∷ more) each none all = (
  each d kept (apart_first number d ds none) all.0,
  pairs_other R S number ds more each (none_later number d ds none) all.1,
)

-- one is changed, with what is kept of it
pub pairs_set : {L : Type 0} (R S : Connected → L → Type 0) (number : ℕ) (ds : List Connected) (kept : List L) (at : ℕ)
    (x new : Connected) (now : L) → ((d : Connected) (l : L) → d.number ≢ number → R d l → S d l)
    → IsIncreasing ds → at < length ds → (get_or ds at x).number ≡ number → S new now
    → Pairs R ds kept → Pairs S (set ds at new) (set kept at now)
pairs_set R S number [] kept at x new now each order within here is all = absurd (omega (arith, within))
pairs_set R S number (d ∷ ds) [] at x new now each order within here is all = absurd all
pairs_set R S number (d ∷ ds) (kept ∷ more) zero x new now each order within here is all = (
  is,
  pairs_other R S number ds more each
      (subst (λ (n : ℕ). is_opened n ds ≡ false) here (none_above d.number ds order.0)) all.1,
)
pairs_set R S number (d ∷ ds) (kept ∷ more) (suc at) x new now each order within here is all =
    let below : d.number < (get_or ds at x).number = above_at d.number ds at x order.0 (omega (arith, within)) in (
      each d kept (λ e. absurd (omega (arith, below, here, e))) all.0,
      pairs_set R S number ds more at x new now each order.1 (omega (arith, within)) here is all.1,
    )

-- one is placed among them, with what is kept of it
pub pairs_insert : {L : Type 0} (R S : Connected → L → Type 0) (number : ℕ) (ds : List Connected) (kept : List L)
    (at : ℕ)
    (new : Connected) (now : L) → ((d : Connected) (l : L) → d.number ≢ number → R d l → S d l)
    → is_opened number ds ≡ false → S new now
    → Pairs R ds kept → Pairs S (insert ds at new) (insert kept at now)
pairs_insert R S number [] [] zero new now each none is all = (is, tt)
pairs_insert R S number [] [] (suc at) new now each none is all = (is, tt)
pairs_insert R S number [] (kept ∷ more) at new now each none is all = absurd all
pairs_insert R S number (d ∷ ds) [] at new now each none is all = absurd all
pairs_insert R S number (d ∷ ds) (kept ∷ more) zero new now each none is all =
    (is, pairs_other R S number (d ∷ ds) (kept ∷ more) each none all)
pairs_insert R S number (d ∷ ds) (kept ∷ more) (suc at) new now each none is all = (
  each d kept (apart_first number d ds none) all.0,
  pairs_insert R S number ds more at new now each (none_later number d ds none) is all.1,
)
