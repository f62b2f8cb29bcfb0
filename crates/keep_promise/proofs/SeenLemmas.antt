-- What the callers of a caster have seen: each published whole frames alone, and each history goes
-- on from what each has seen.
use Rattle.std.proofs.Common.{◌≡◌, ◌≤◌, ◌<◌, ◌∙◌, ◌++◌, ◌+◌, ℕ, zero, suc, Bool, false, List, [], ◌∷◌, length, All, Option, None, Some, inl, inr, refl, sym, ap, subst, arith}
use Rattle.std.specs.Prelude.{⊤}
use Rattle.std.specs.List.{flat_map}
use Rattle.std.proofs.lemmas.Bool.{cases_lt}
use Rattle.std.proofs.lemmas.List.{append-nil, get_or_past, length-map}
use Rattle.std.proofs.lemmas.List.Elements.{All-nil}
use mathlib.Core.Option.{some}
use lib.ListN.{get_elem?}
use Rattle.cast_io.specs.Told.{DoorTold}
use Rattle.turn_log.specs.History.{History, own, GoesOn}
use Rattle.turn_log.specs.Heard.{calls_in}
use Rattle.turn_log.proofs.HeardLaws.{calls_told}
use Rattle.mount_ring.specs.declared.cursor.Cursor.{Cursor}
use Rattle.mount_ring.specs.declared.call.RingCall.{RingCall}
use Rattle.mount_ring.proofs.HistoryLemmas.{published-append}
use Rattle.session_calls.specs.Steps.{Step}
use Rattle.session_calls.specs.Rings.{Went, history_at, answer_at}
use Rattle.cast_config.specs.declared.config.Config.{Config}
use Rattle.cast_config.specs.declared.config.Mount.{Mount}
use Rattle.session_model.specs.Setting.{shapes}
use Rattle.session_model.specs.Run.{Histories, nothing_called}
use Rattle.caster_link.specs.Wear.{only_worn}
use Rattle.caster_places.specs.Rows.{AreWhole, seen_of}
use Rattle.keep_porter.specs.declared.found.Found.{Found}
use Rattle.keep_porter.specs.Porters.{Answer, looks_at, joins_at, steps_at, steps_from, steps_of}
use Rattle.caster_keep.specs.Keeping.{AreKeepers, IsPorter, KeeperTold, PorterTold, seen_by_all}
use Rattle.serve_promise.specs.Links.{AllFrames}
use Rattle.serve_promise.proofs.CallerLemmas.{IsOne, IsFit, AreFit, IsBelow, FitsOn, fit_calls, own_fit, all_fit}
use Rattle.keep_promise.proofs.LinkLemmas.{follow_fits}

-- ---- the porter publishes nothing

fit_append : (first second : List Step) → AreFit first → AreFit second → AreFit (first ++ second)
fit_append [] second one two = two
fit_append (step ∷ first) second one two = (one.0, fit_append first second one.1 two)

fit_looks : (mount : ℕ) (looked : Option (Option ℕ)) → AreFit (looks_at mount looked)
fit_looks mount None = tt
fit_looks mount (Some claim) = (All-nil IsOne, tt)

fit_joins : (mount : ℕ) (joined : Option Cursor) → AreFit (joins_at mount joined)
fit_joins mount None = tt
fit_joins mount (Some cursor) = (All-nil IsOne, tt)

fit_from : (n : ℕ) (found : List Found) → AreFit (steps_from n found)
fit_from n [] = tt
fit_from n (one ∷ more) =
    fit_append (steps_at n one) (steps_from (n + 1) more)
    (fit_append (looks_at n one.looked) (joins_at n one.joined) (fit_looks n one.looked) (fit_joins n one.joined))
    (fit_from (n + 1) more)

fit_answers : (given : List Answer) → AreFit (flat_map steps_of given)
fit_answers [] = tt
fit_answers (answer ∷ given) =
    fit_append (steps_of answer) (flat_map steps_of given) (fit_from 0 answer.found) (fit_answers given)

went_fits : (c : Config) (old now : List (History RingCall)) (me : ℕ) (steps : List Step)
    → Went (shapes c) false old now me steps → AreFit steps → FitsOn me old now
went_fits c old now me steps went fit = record {
  size = went.size;
  rings = λ mount.
      let heard = went.rings mount in (
        heard.more,
        heard.seen,
        subst (All IsFit)
            (sym (sym (calls_told (answer_at (shapes c) mount) me (history_at old mount) heard.more)
            ∙ ap calls_in heard.mine)) (fit_calls mount steps fit),
      );
}

-- ---- all that was seen

-- from the first call on these callers, numbered from this number on, published whole frames alone
abbrev pub AllFit : Config → ℕ → List Histories → Type 0
AllFit c n [] = ⊤
AllFit c n (row ∷ rows) = FitsOn n (nothing_called c).rings row.rings × AllFit c (n + 1) rows

module _ {G : Type 0} (told : G → DoorTold) (over : G → Bool) (peer : G → List ℕ) where
  pub rows_fit : (c : Config) (worn : List ℕ) (n me : ℕ) (keepers : List (KeeperTold G)) (porter : PorterTold)
      → me ≡ n + length keepers → AreKeepers told over peer c worn n keepers → IsPorter c worn me porter
      → AllFit c n (seen_by_all keepers porter)
  rows_fit c worn n me [] porter same are is =
      let here : me ≡ n = omega (arith, same) in (
        subst (λ (k : ℕ). FitsOn k (nothing_called c).rings porter.seen.rings) here
            (went_fits c (nothing_called c).rings porter.seen.rings me (flat_map steps_of porter.given)
            is.answered.went (fit_answers porter.given)),
        tt,
      )
  rows_fit c worn n me (keeper ∷ keepers) porter same are is = (
    follow_fits c keeper.role n (only_worn worn) keeper.links (nothing_called c) keeper.seen are.0.kept.followed,
    rows_fit c worn (n + 1) me keepers porter (further n (length keepers) me same) are.1 is,
  ) where
    further : (a b k : ℕ) → k ≡ a + suc b → k ≡ (a + 1) + b
    further a b k is = omega (arith, is)

-- what they have seen of one mountpoint goes on to its one history, with no call of theirs
abbrev pub AreSeen : ℕ → List Histories → ℕ → History RingCall → Type 0
AreSeen n rows mount whole =
    (k me : ℕ) (seen : History RingCall) → me ≡ n + k → get_elem? (seen_of rows mount) k ≡ some seen
    → GoesOn me seen whole

pub seen_next : (n : ℕ) (row : Histories) (rows : List Histories) (mount : ℕ) (whole : History RingCall)
    → AreSeen n (row ∷ rows) mount whole → AreSeen (n + 1) rows mount whole
seen_next n row rows mount whole all k me seen is here = all (suc k) me seen (omega (arith, is)) here

pub seen_first : (n : ℕ) (row : Histories) (rows : List Histories) (mount : ℕ) (whole : History RingCall)
    → AreSeen n (row ∷ rows) mount whole → GoesOn n (history_at row.rings mount) whole
seen_first n row rows mount whole all = all zero n (history_at row.rings mount) (omega arith) refl

each_fit : (c : Config) (n : ℕ) (rows : List Histories) (mount : ℕ) (whole : History RingCall) → AllFit c n rows
    → AreSeen n rows mount whole → (k me : ℕ) → me ≡ n + k → k < length rows → All IsFit (own me whole)
each_fit c n [] mount whole fit seen k me is below = let no : ⊥ = omega (arith, below) in absurd no
each_fit c n (row ∷ rows) mount whole fit seen zero me is below =
    let here : n ≡ me = omega (arith, is) in
    subst (λ (m : ℕ). All IsFit (own m whole)) here
    (own_fit c n mount row.rings whole fit.0 (seen_first n row rows mount whole seen))
each_fit c n (row ∷ rows) mount whole fit seen (suc k) me is below =
    each_fit c (n + 1) rows mount whole fit.1 (seen_next n row rows mount whole seen) k me (omega (arith, is))
    (omega (arith, below))

-- of what each has seen there are as many histories as mountpoints
past_seen : (c : Config) (n : ℕ) (rows : List Histories) (mount : ℕ) → AllFit c n rows → length c.mount ≤ mount
    → AreSeen n rows mount []
past_seen c n [] mount fit past k me seen is here = absurd cc
past_seen c n (row ∷ rows) mount fit past zero me seen is here =
    let empty : Mount → History RingCall = λ m. [] in
    let size : length row.rings ≡ length c.mount = fit.0.size ∙ length-map c.mount empty in
    let none : history_at row.rings mount ≡ [] = get_or_past row.rings mount [] (omega (arith, size, past)) in
    let same : history_at row.rings mount ≡ seen = cc in
    ([], sym (append-nil seen ∙ sym same ∙ none), refl)
past_seen c n (row ∷ rows) mount fit past (suc k) me seen is here =
    past_seen c (n + 1) rows mount fit.1 past k me seen (omega (arith, is)) here

-- ---- the one history of a mountpoint

pub at_mount : (c : Config) (rows : List Histories) (histories : Histories) → AllFit c 0 rows
    → AreWhole rows histories (length c.mount) → (mount : ℕ)
    → All (IsBelow (length rows)) (history_at histories.rings mount)
    × AreSeen 0 rows mount (history_at histories.rings mount)
at_mount c rows histories fit whole mount = elim (cases_lt mount (length histories.rings)) [
  | inl there ↦
      let is = whole.rings mount there in (
        subst (λ (count : ℕ). All (IsBelow count) (history_at histories.rings mount))
            (length-map rows (λ (row : Histories). history_at row.rings mount)) is.numbers,
        λ k me seen same here. subst (λ (m : ℕ). GoesOn m seen (history_at histories.rings mount))
            (let e : k ≡ me = omega (arith, same) in e) (is.each k seen here),
      )
  | inr past ↦
      let none : history_at histories.rings mount ≡ [] =
      get_or_past histories.rings mount [] (omega (arith, past)) in (
        subst (All (IsBelow (length rows))) (sym none) (All-nil (IsBelow (length rows))),
        subst (AreSeen 0 rows mount) (sym none) (past_seen c 0 rows mount fit (omega (arith, past, whole.size))),
      )
]

-- whole frames alone were published
pub all_frames : (c : Config) (rows : List Histories) (histories : Histories) → AllFit c 0 rows
    → AreWhole rows histories (length c.mount) → AllFrames histories.rings
all_frames c rows histories fit whole mount =
    let at = at_mount c rows histories fit whole mount in
    subst (All IsOne) (sym (published-append [] (history_at histories.rings mount)))
    (all_fit (length rows) (history_at histories.rings mount) at.0
    (λ me below. each_fit c 0 rows mount (history_at histories.rings mount) fit at.1 me me (omega arith) below))
