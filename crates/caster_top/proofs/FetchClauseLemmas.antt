-- What the words of a fetch and its end say of a status and of what was written.
use Rattle.std.proofs.Common.{◌≡◌, ℕ, ◌<◌, ◌⊎◌, ◌==◌, ◌||◌, Bool, true, false, List, [], length, Option, None, Some, inl, inr, refl, ap, sym, subst, ◌∙◌, arith}
use Rattle.std.specs.List.{concat}
use Rattle.cast_io.specs.Causes.{Rose}
use Rattle.cast_io.specs.Told.{StreetTold}
use Rattle.cast_io.proofs.ToldLemmas.{grew_none}
use Rattle.ntrip_fetch.specs.declared.left.FetchFault.TheVariants as faults
use Rattle.ntrip_fetch.specs.declared.target.Target.{Target}
use Rattle.ntrip_fetch.specs.Tries.{HasStopped, frames_of_all}
use Rattle.caster_top.specs.declared.answers.Answer.{Answer}
use Rattle.caster_top.specs.declared.answers.Answer.TheVariants.{Done, Valid, NoConfig, NoSession, Usage, Long, ReadFault, NetworkFault, Memory}
use Rattle.caster_top.specs.Command.{Form, bare, over, replay, made, casting, keeping, fetching, AreFetch, AreOf, form_of}
use Rattle.caster_top.specs.Outcome.{Exit, Came}
use Rattle.caster_top.specs.Told.{Files, FilesTold, Input, IsAsked, FollowsOutcome}
use Rattle.caster_top.specs.Answers.{exit_of, Writes}
use Rattle.caster_top.specs.Fetching.{HasFetched, HasFetching, TriedEnd, frames_in}
use Rattle.caster_top.specs.Casting.{IsUnserved}
use Rattle.caster_top.proofs.WordLemmas.{form_of-form}
use Rattle.caster_top.proofs.AnswerLemmas.{outcome_of_read}
use Rattle.caster_top.proofs.AskedLemmas.{asked_so}
use Rattle.caster_top.proofs.ClauseLemmas.{one_form}
use Rattle.caster_top.proofs.FetchingLemmas.{runs_counted}

-- ---- the words

abbrev pub is_fetch : Form → Bool
is_fetch (bare capacity) = false
is_fetch (over aim config) = false
is_fetch (replay start config session) = false
is_fetch (made seed frames rovers) = false
is_fetch (casting task config addr limit) = false
is_fetch (keeping config addr quiet) = false
is_fetch (fetching frames targets) = true

abbrev is_read_fetch : Option Form → Bool
is_read_fetch None = false
is_read_fetch (Some form) = is_fetch form

-- words of a fetch have no other form
pub fetch_alone : {P : Type 0} (words : List (List ℕ)) (frames : ℕ) (targets : List Target) (form : Form)
    → AreFetch words frames targets → AreOf words form → is_fetch form ≡ false → P
fetch_alone words frames targets form fetch are other =
    let same : true ≡ is_fetch form = ap is_read_fetch (one_form words (fetching frames targets) form fetch are) in
    absurd cc

fetch_is : (frames most : ℕ) (targets others : List Target)
    → Some (fetching frames targets) ≡ Some (fetching most others) → (frames ≡ most) × (targets ≡ others)
fetch_is frames most targets others e = (cc, cc)

-- what is said of the fetch that was read is said of the one that the words ask for
pub fetch_of_words : (words : List (List ℕ)) (frames most : ℕ) (targets others : List Target)
    (before after : StreetTold) (old new : Option (List ℕ)) (first now status : ℕ) → AreFetch words frames targets
    → AreFetch words most others → HasFetching frames targets before after old new first now status
    → HasFetching most others before after old new first now status
fetch_of_words words frames most targets others before after old new first now status read are all =
    let same = fetch_is frames most targets others
    (one_form words (fetching frames targets) (fetching most others) read are) in
    subst (λ (n : ℕ). HasFetching n others before after old new first now status) same.0
    (subst (λ (ts : List Target). HasFetching frames ts before after old new first now status) same.1 all)

-- no file is asked for
pub fetch_asked : (words : List (List ℕ)) (frames : ℕ) (targets : List Target) (files : FilesTold)
    (told : Option (List (List ℕ))) → AreFetch words frames targets → IsAsked (form_of words) files told told
fetch_asked words frames targets files told are =
    asked_so words (Some (fetching frames targets)) files told told
    (form_of-form words (fetching frames targets) are) ([], refl, grew_none told)

-- ---- the status

abbrev pub is_fetch_status : ℕ → Bool
is_fetch_status n = n == 0 || n == 5 || n == 7 || n == 9

never : {P : Type 0} (n m status : ℕ) → status ≡ n → status ≡ m → is_fetch_status m ≡ true
    → is_fetch_status n ≡ false → P
never n m status is other meets fails =
    let same : is_fetch_status n ≡ is_fetch_status m = ap is_fetch_status (sym is ∙ other) in
    absurd cc

-- a fetch ends with no other status than 0, 5, 7 and 9
pub fetch_never : {P : Type 0} (n most : ℕ) (targets : List Target) (before after : StreetTold)
    (old new : Option (List ℕ)) (first now status : ℕ)
    → HasFetching most targets before after old new first now status → status ≡ n → is_fetch_status n ≡ false → P
fetch_never n most targets before after old new first now status all is fails = elim all.ends [
  | inl fetched ↦ elim fetched.ends [
    | inl enough ↦ never n 0 status is enough.0 refl fails
    | inr fewer ↦ never n 9 status is fewer.0 refl fails
  ]
  | inr (inl torn) ↦ never n 5 status is torn.0 refl fails
  | inr (inr wanting) ↦ never n 7 status is wanting.0 refl fails
]

pub fetch_unserved : {P : Type 0} (most : ℕ) (targets : List Target) (before after : StreetTold)
    (old new : Option (List ℕ)) (first now status : ℕ)
    → HasFetching most targets before after old new first now status → IsUnserved status → P
fetch_unserved most targets before after old new first now status all (inl is) =
    fetch_never 1 most targets before after old new first now status all is refl
fetch_unserved most targets before after old new first now status all (inr (inl is)) =
    fetch_never 2 most targets before after old new first now status all is refl
fetch_unserved most targets before after old new first now status all (inr (inr (inl is))) =
    fetch_never 4 most targets before after old new first now status all is refl
fetch_unserved most targets before after old new first now status all (inr (inr (inr is))) =
    fetch_never 8 most targets before after old new first now status all is refl

-- with 5 the count rose
pub fetch_rose : (most : ℕ) (targets : List Target) (before after : StreetTold) (old new : Option (List ℕ))
    (first now status : ℕ) → HasFetching most targets before after old new first now status → status ≡ 5
    → Rose first now
fetch_rose most targets before after old new first now status all five = elim all.ends [
  | inl fetched ↦ elim fetched.ends [
    | inl enough ↦ absurd (omega (arith, five, enough.0))
    | inr fewer ↦ absurd (omega (arith, five, fewer.0))
  ]
  | inr (inl torn) ↦ torn.1
  | inr (inr wanting) ↦ absurd (omega (arith, five, wanting.0))
]

-- ---- what was written

fetched_at : (most : ℕ) (targets : List Target) (before after : StreetTold) (old new : Option (List ℕ))
    (first now status : ℕ) → HasFetching most targets before after old new first now status
    → (status ≡ 5 → ⊥) → (status ≡ 7 → ⊥) → HasFetched most targets before after old new status
fetched_at most targets before after old new first now status all torn wanting = elim all.ends [
  | inl fetched ↦ fetched
  | inr (inl five) ↦ absurd (torn five.0)
  | inr (inr seven) ↦ absurd (wanting seven.0)
]

pub fetched_run : (most : ℕ) (targets : List Target) (before after : StreetTold) (old new : Option (List ℕ))
    (first now status : ℕ) → HasFetching most targets before after old new first now status
    → (status ≡ 0) ⊎ (status ≡ 9) → HasFetched most targets before after old new status
fetched_run most targets before after old new first now status all (inl zero) =
    fetched_at most targets before after old new first now status all (λ e. omega (arith, zero, e))
    (λ e. omega (arith, zero, e))
fetched_run most targets before after old new first now status all (inr nine) =
    fetched_at most targets before after old new first now status all (λ e. omega (arith, nine, e))
    (λ e. omega (arith, nine, e))

pub torn_run : (most : ℕ) (targets : List Target) (before after : StreetTold) (old new : Option (List ℕ))
    (first now status : ℕ) → HasFetching most targets before after old new first now status → status ≡ 5
    → HasStopped most targets before after old new faults.Sink
torn_run most targets before after old new first now status all five = elim all.ends [
  | inl fetched ↦ elim fetched.ends [
    | inl enough ↦ absurd (omega (arith, five, enough.0))
    | inr fewer ↦ absurd (omega (arith, five, fewer.0))
  ]
  | inr (inl torn) ↦ torn.2
  | inr (inr wanting) ↦ absurd (omega (arith, five, wanting.0))
]

pub wanting_run : (most : ℕ) (targets : List Target) (before after : StreetTold) (old new : Option (List ℕ))
    (first now status : ℕ) → HasFetching most targets before after old new first now status → status ≡ 7
    → HasStopped most targets before after old new faults.Memory
wanting_run most targets before after old new first now status all seven = elim all.ends [
  | inl fetched ↦ elim fetched.ends [
    | inl enough ↦ absurd (omega (arith, seven, enough.0))
    | inr fewer ↦ absurd (omega (arith, seven, fewer.0))
  ]
  | inr (inl torn) ↦ absurd (omega (arith, seven, torn.0))
  | inr (inr wanting) ↦ wanting.1
]

-- ---- the outcome

abbrev fetch_came : Bool → Came
fetch_came failed = record { script = []; config = []; failed = failed }

tries_follow : (words : List (List ℕ)) (input : Input) (files : Files) (most : ℕ) (targets : List Target)
    (before after : StreetTold) (old new : Option (List ℕ)) (status : ℕ) → AreFetch words most targets
    → (fetched : HasFetched most targets before after old new status) → TriedEnd most targets fetched.tries status
    → FollowsOutcome words input files status old new
tries_follow words input files most targets before after old new status are fetched (inl enough) =
    let frames = frames_of_all fetched.tried.runs in
    let end : Exit = record { status = 0; text = concat frames } in
    let count : length frames ≡ most =
    runs_counted fetched.tried.are ∙ ap frames_in (sym fetched.tried.tries_are) ∙ enough.1 in (
      end,
      outcome_of_read words input files (Some (fetching most targets)) (fetch_came false) end
          (form_of-form words (fetching most targets) are) tt (refl, frames, refl, count),
      (enough.0, fetched.tried.wrote),
    )
tries_follow words input files most targets before after old new status are fetched (inr fewer) =
    let frames = frames_of_all fetched.tried.runs in
    let end : Exit = record { status = 9; text = concat frames } in
    let count : length frames ≡ frames_in fetched.tries =
    runs_counted fetched.tried.are ∙ ap frames_in (sym fetched.tried.tries_are) in
    let less = fewer.1 in
    let within : length frames < most = omega (arith, count, less) in (
      end,
      outcome_of_read words input files (Some (fetching most targets)) (fetch_came true) end
          (form_of-form words (fetching most targets) are) tt (refl, frames, refl, within),
      (fewer.0, fetched.tried.wrote),
    )

-- without a fault of writing or want of memory, it is the outcome of the words
pub fetch_follows : (words : List (List ℕ)) (input : Input) (files : Files) (most : ℕ)
    (targets : List Target) (before after : StreetTold) (old new : Option (List ℕ)) (first now status : ℕ)
    → AreFetch words most targets → HasFetching most targets before after old new first now status
    → (status ≡ 5 → ⊥) → (status ≡ 7 → ⊥) → FollowsOutcome words input files status old new
fetch_follows words input files most targets before after old new first now status are all torn wanting =
    let fetched = fetched_at most targets before after old new first now status all torn wanting in
    tries_follow words input files most targets before after old new status are fetched fetched.ends

-- ---- another command

-- it does not end with 9
pub never_nine : {P : Type 0} (answer : Answer) (old new : Option (List ℕ)) (before now status : ℕ)
    → Writes (exit_of answer) old new before now status → status ≡ 9 → P
never_nine answer old new before now status (inr torn) nine = absurd (omega (arith, torn.0, nine))
never_nine Memory old new before now status (inl written) nine = absurd (omega (arith, written.0, nine))
never_nine ReadFault old new before now status (inl written) nine = absurd (omega (arith, written.0, nine))
never_nine (Done text) old new before now status (inl written) nine = absurd (omega (arith, written.0, nine))
never_nine Valid old new before now status (inl written) nine = absurd (omega (arith, written.0, nine))
never_nine (NoConfig text) old new before now status (inl written) nine = absurd (omega (arith, written.0, nine))
never_nine (NoSession text) old new before now status (inl written) nine = absurd (omega (arith, written.0, nine))
never_nine Usage old new before now status (inl written) nine = absurd (omega (arith, written.0, nine))
never_nine Long old new before now status (inl written) nine = absurd (omega (arith, written.0, nine))
never_nine NetworkFault old new before now status (inl written) nine = absurd (omega (arith, written.0, nine))
