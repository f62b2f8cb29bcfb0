-- Targets that were tried one after the other.
use Rattle.std.proofs.Common.{◌≡◌, ◌≢◌, ◌≤◌, ◌<◌, ◌+◌, ◌-◌, ◌⊎◌, ℕ, suc, List, [], ◌∷◌, ◌++◌, map, length, take, Option, None, Some, Result, Ok, Err, refl, ap, sym, subst, ◌∙◌, inl, inr, arith, length-take}
use Rattle.std.specs.Prelude.{IfOk, IfErr, IsErrOf, sum_by}
use Rattle.std.specs.List.{concat}
use Rattle.std.proofs.lemmas.List.{append-nil, length-map}
use Rattle.std.proofs.lemmas.List.Folds.{concat-append}
use Rattle.std.proofs.lemmas.List.Sums.{sum_by-cons}
use Rattle.std.specs.Io.KnownBytes.{Appends}
use Rattle.cast_io.specs.declared.steps.Asked.TheVariants as asked
use Rattle.cast_io.specs.Causes.{Rose}
use Rattle.cast_io.specs.Pieces.{AppendsPrefix}
use Rattle.cast_io.specs.Told.{LinkTold, StreetTold, Grew}
use Rattle.cast_io.specs.Links.{IsNewLink, bytes_in}
use Rattle.cast_io.specs.Streets as streets
use Rattle.cast_io.proofs.ToldLemmas.{grew_none, grew_both}
use Rattle.ntrip_fetch.specs.declared.target.Target.{Target}
use Rattle.ntrip_fetch.specs.declared.left.FetchFault.{FetchFault}
use Rattle.ntrip_fetch.specs.declared.left.FetchFault.TheVariants as faults
use Rattle.ntrip_fetch.specs.declared.left.Left.TheVariants.{Enough, Dial, LinkFault}
use Rattle.ntrip_fetch.specs.declared.left.Try.{Try}
use Rattle.ntrip_fetch.specs.Answered.{answered}
use Rattle.ntrip_fetch.specs.Fetched.{Fetched, LinkFetched, LinkBroken, IsLeft}
use Rattle.ntrip_fetch.specs.Tries.{dial_of, Went, HasDialled, Run, AreRuns, none_left, enough, another, tries_of, frames_of_all, HasTried, Stopped, at_first, here, behind, IsWrittenBy, HasStopped, RunEnded, RunStopped}
use Rattle.std.proofs.lemmas.Bool.{cases_lt}
use Rattle.ntrip_fetch.proofs.WritingLemmas.{appends_none, appends_both, prefix_behind}
use Rattle.ntrip_fetch.proofs.LawLemmas.{enough_exact}

-- ---- one target

-- it was dialled, and its link came back
pub dialled : (target : Target) (addr : List ℕ) (a b c : StreetTold) (link : LinkTold) → addr ≡ target.address
    → streets.HasAsked (asked.Dial addr) a b → streets.HasLeft link b c → HasDialled target a c (Some link)
dialled target addr a b c link is first second = record {
  asked = subst (λ told. Grew a.asked told (dial_of target ∷ [])) (sym second.asked)
      (subst (λ l. Grew a.asked b.asked (asked.Dial l ∷ [])) is first.asked);
  links = subst (λ told. Grew told c.links (link ∷ [])) first.links second.links;
  doors = second.doors ∙ first.doors;
  faults = omega (arith, first.later, second.faults);
  link_faults = omega (arith, first.link_faults, second.link_faults.later);
}

-- no link came
pub undialled : (target : Target) (addr : List ℕ) (a b : StreetTold) → addr ≡ target.address
    → streets.HasAsked (asked.Dial addr) a b → HasDialled target a b None
undialled target addr a b is first = record {
  asked = subst (λ l. Grew a.asked b.asked (asked.Dial l ∷ [])) is first.asked;
  links = subst (λ told. Grew a.links told []) (sym first.links) (grew_none a.links);
  doors = first.doors;
  faults = first.later;
  link_faults = omega (arith, first.link_faults);
}

-- a link that was left for a fault has one
fault_counted : (target : Target) (most : ℕ) (first link : LinkTold) (frames : List (List ℕ)) (tried : Try)
    → IsNewLink first → Fetched target most first link frames tried → tried.left ≡ LinkFault → 0 < link.faults
fault_counted target most first link frames tried fresh x is =
    let why = subst (IsLeft most first link x.taken x.answer tried.frames) is x.left in
    omega (arith, why.3, fresh.faults)

pub run_ended : (target : Target) (most : ℕ) (addr : List ℕ) (a b c : StreetTold) (first link : LinkTold)
    (start now : Option (List ℕ)) (result : Result Try FetchFault) → addr ≡ target.address
    → streets.HasAsked (asked.Dial addr) a b → IsNewLink first → streets.HasLeft link b c
    → IfOk result (LinkFetched target most first link start now)
    → IfOk result (RunEnded target most a c start now)
run_ended target most addr a b c first link start now (Ok tried) is dial fresh left x = (
  x.0,
  Some link,
  record {
    street = dialled target addr a b c link is dial left;
    went = (
      first,
      fresh,
      x.1,
      λ failed.
          let counted = fault_counted target most first link x.0 tried fresh x.1 failed in
          (counted, rose counted),
    );
  },
  x.2,
)
  where
    rose : 0 < link.faults → Rose a.link_faults c.link_faults
    rose counted = omega (arith, left.link_faults.rose counted, dial.link_faults)
run_ended target most addr a b c first link start now (Err fault) is dial fresh left x = tt

pub run_stopped : (target : Target) (most : ℕ) (addr : List ℕ) (a b c : StreetTold) (first link : LinkTold)
    (start now : Option (List ℕ)) (result : Result Try FetchFault) → addr ≡ target.address
    → streets.HasAsked (asked.Dial addr) a b → IsNewLink first → streets.HasLeft link b c
    → (IsErrOf result faults.Sink → LinkBroken target most first link start now)
    → (IsErrOf result faults.Memory → (link ≡ first) × (now ≡ start))
    → IfErr result (RunStopped target most a c start now)
run_stopped target most addr a b c first link start now (Ok tried) is dial fresh left broken none = tt
run_stopped target most addr a b c first link start now (Err faults.Sink) is dial fresh left broken none =
    let x = broken refl in
    (x.0, Some link, dialled target addr a b c link is dial left, (first, fresh, x.1), x.2)
run_stopped target most addr a b c first link start now (Err faults.Memory) is dial fresh left broken none =
    let x = none refl in (
      [],
      Some link,
      dialled target addr a b c link is dial left,
      (subst IsNewLink (sym x.0) fresh, refl),
      subst (λ l. Appends start l []) (sym x.1) (appends_none start),
    )

-- its dial failed
pub dial_failed : (target : Target) (most : ℕ) (addr : List ℕ) (a b : StreetTold) (start : Option (List ℕ))
    → addr ≡ target.address → streets.HasAsked (asked.Dial addr) a b → Rose a.faults b.faults
    → RunEnded target most a b start start (record { frames = 0; left = Dial })
dial_failed target most addr a b start is dial rose = (
  [],
  None,
  record { street = undialled target addr a b is dial; went = (refl, refl, rose) },
  appends_none start,
)

-- there was no memory for it
pub dial_stopped : (target : Target) (most : ℕ) (addr : List ℕ) (a b : StreetTold) (start : Option (List ℕ))
    → addr ≡ target.address → streets.HasAsked (asked.Dial addr) a b
    → RunStopped target most a b start start faults.Memory
dial_stopped target most addr a b start is dial =
    ([], None, undialled target addr a b is dial, refl, appends_none start)

-- ---- all of them

pub tried_none : (most : ℕ) (told : StreetTold) (start : Option (List ℕ)) → HasTried most [] told told start start []
tried_none most told start =
    record { runs = []; are = none_left most told; tries_are = refl; wrote = appends_none start }

-- the last one, with which enough were written
pub tried_last : (most : ℕ) (target : Target) (later targets : List Target) (a b : StreetTold)
    (start now : Option (List ℕ)) (tried : Try) → targets ≡ target ∷ later → tried.left ≡ Enough
    → RunEnded target most a b start now tried → HasTried most targets a b start now (tried ∷ [])
tried_last most target later targets a b start now tried is full x =
    let run : Run = record { tried = tried; frames = x.0; link = x.1 } in record {
      runs = run ∷ [];
      are = subst (λ l. AreRuns most l a b (run ∷ [])) (sym is) (enough most target later a b run x.2 full);
      tries_are = refl;
      wrote = subst (λ l. Appends start now (concat l)) (sym (append-nil x.0)) x.3;
    }

-- one, and then those behind it
pub tried_more : (most : ℕ) (target : Target) (later targets : List Target) (a b c : StreetTold)
    (start mid now : Option (List ℕ)) (tried : Try) (tries : List Try) → targets ≡ target ∷ later
    → tried.left ≢ Enough → RunEnded target most a b start mid tried
    → HasTried (most - tried.frames) later b c mid now tries → HasTried most targets a c start now (tried ∷ tries)
tried_more most target later targets a b c start mid now tried tries is open_ x more =
    let run : Run = record { tried = tried; frames = x.0; link = x.1 } in record {
      runs = run ∷ more.runs;
      are = subst (λ l. AreRuns most l a c (run ∷ more.runs)) (sym is)
          (another most target later a b c run more.runs x.2 open_ more.are);
      tries_are = ap (λ l. tried ∷ l) more.tries_are;
      wrote = subst (Appends start now) (sym (concat-append x.0 (frames_of_all more.runs)))
          (appends_both start mid now (concat x.0) (concat (frames_of_all more.runs)) x.3 more.wrote);
    }

pub stopped_first : (most : ℕ) (targets : List Target) (told : StreetTold) (start : Option (List ℕ))
    → HasStopped most targets told told start start faults.Memory
stopped_first most targets told start =
    record { frames = []; stopped = at_first most targets told; wrote = appends_none start }

pub stopped_here : (most : ℕ) (target : Target) (later targets : List Target) (a b : StreetTold)
    (start now : Option (List ℕ)) (fault : FetchFault) → targets ≡ target ∷ later
    → RunStopped target most a b start now fault → HasStopped most targets a b start now fault
stopped_here most target later targets a b start now fault is x = record {
  frames = x.0;
  stopped = subst (λ l. Stopped most l a b x.0 fault) (sym is) (here most target later a b x.1 x.0 fault x.2 x.3);
  wrote = x.4;
}

written_behind : (start mid now : Option (List ℕ)) (first more : List (List ℕ)) (fault : FetchFault)
    → Appends start mid (concat first) → IsWrittenBy mid now more fault → IsWrittenBy start now (first ++ more) fault
written_behind start mid now first more faults.Sink a b =
    let whole : concat first ++ (concat more ++ []) ≡ concat (first ++ more) =
    ap (λ l. concat first ++ l) (append-nil (concat more)) ∙ sym (concat-append first more) in
    subst (AppendsPrefix start now) whole (prefix_behind start mid now (concat first) (concat more) [] a b)
written_behind start mid now first more faults.Memory a b =
    subst (Appends start now) (sym (concat-append first more))
    (appends_both start mid now (concat first) (concat more) a b)

pub stopped_behind : (most : ℕ) (target : Target) (later targets : List Target) (a b c : StreetTold)
    (start mid now : Option (List ℕ)) (tried : Try) (fault : FetchFault) → targets ≡ target ∷ later
    → tried.left ≢ Enough → RunEnded target most a b start mid tried
    → HasStopped (most - tried.frames) later b c mid now fault → HasStopped most targets a c start now fault
stopped_behind most target later targets a b c start mid now tried fault is open_ x more =
    let run : Run = record { tried = tried; frames = x.0; link = x.1 } in record {
      frames = x.0 ++ more.frames;
      stopped = subst (λ l. Stopped most l a c (x.0 ++ more.frames) fault) (sym is)
          (behind most target later a b c run more.frames fault x.2 open_ more.stopped);
      wrote = written_behind start mid now x.0 more.frames fault x.3 more.wrote;
    }

-- ---- what was asked

pub asked_runs : {most : ℕ} {targets : List Target} {a b : StreetTold} {runs : List Run}
    → AreRuns most targets a b runs → Grew a.asked b.asked (map dial_of (take (length runs) targets))
asked_runs (none_left most told) = grew_none told.asked
asked_runs (enough most target later old new run x full) = x.street.asked
asked_runs (another most target later old mid new run runs x open_ more) =
    grew_both old.asked mid.asked new.asked (dial_of target ∷ []) (map dial_of (take (length runs) later))
    x.street.asked (asked_runs more)

pub asked_stopped : {most : ℕ} {targets : List Target} {a b : StreetTold} {frames : List (List ℕ)} {fault : FetchFault}
    → Stopped most targets a b frames fault → (n : ℕ) × Grew a.asked b.asked (map dial_of (take n targets))
asked_stopped (at_first most targets told) = (0, grew_none told.asked)
asked_stopped (here most target later old new link frames fault x broke) = (1, x.asked)
asked_stopped (behind most target later old mid new run frames fault x open_ more) =
    let rest = asked_stopped more in (
      suc rest.0,
      grew_both old.asked mid.asked new.asked (dial_of target ∷ []) (map dial_of (take rest.0 later))
          x.street.asked rest.1,
    )

-- ---- how many frames

went_within : (target : Target) (most : ℕ) (a b : StreetTold) (link : Option LinkTold) (frames : List (List ℕ))
    (tried : Try)
    → Went target most a b link frames tried → tried.frames ≤ most
went_within target most a b None frames tried x = omega (arith, ap (λ (t : Try). t.frames) x.0)
went_within target most a b (Some link) frames tried x =
    let fetched = x.2 in
    omega (
      arith,
      fetched.count,
      ap length fetched.course.first,
      length-take most (answered fetched.answer (bytes_in fetched.taken)),
    )

went_full : (target : Target) (most : ℕ) (a b : StreetTold) (link : Option LinkTold) (frames : List (List ℕ))
    (tried : Try)
    → Went target most a b link frames tried → tried.left ≡ Enough → tried.frames ≡ most
went_full target most a b None frames tried x full =
    absurd (never (sym (ap (λ (t : Try). t.left) x.0) ∙ full))
  where
    never : Dial ≡ Enough → ⊥
    never same = cc
went_full target most a b (Some link) frames tried x full =
    let fetched = x.2 in
    subst (IsLeft most x.0 link fetched.taken fetched.answer tried.frames) full fetched.left

-- the frames of one try more
sum_more : (run : Run) (runs : List Run) → sum_by (λ (t : Try). t.frames) (tries_of (run ∷ runs))
    ≡ run.tried.frames + sum_by (λ (t : Try). t.frames) (tries_of runs)
sum_more run runs = sum_by-cons (λ (t : Try). t.frames) run.tried (tries_of runs)

pub total_within : {most : ℕ} {targets : List Target} {a b : StreetTold} {runs : List Run}
    → AreRuns most targets a b runs → sum_by (λ (t : Try). t.frames) (tries_of runs) ≤ most
total_within (none_left most told) = omega arith
total_within (enough most target later old new run x full) =
    omega (arith, went_within target most old new run.link run.frames run.tried x.went)
total_within (another most target later old mid new run runs x open_ more) =
    omega (
      arith,
      sum_more run runs,
      went_within target most old mid run.link run.frames run.tried x.went,
      total_within
          more,
    )

pub total_or_all : {most : ℕ} {targets : List Target} {a b : StreetTold} {runs : List Run}
    → AreRuns most targets a b runs
    → (sum_by (λ (t : Try). t.frames) (tries_of runs) ≡ most) ⊎ (length runs ≡ length targets)
total_or_all (none_left most told) = inr refl
total_or_all (enough most target later old new run x full) =
    inl (omega (arith, went_full target most old new run.link run.frames run.tried x.went full))
total_or_all (another most target later old mid new run runs x open_ more) =
    elim (total_or_all more) [
      | inl all ↦
          inl (omega (
            arith,
            sum_more run runs,
            all,
            went_within target most old mid run.link run.frames run.tried
                x.went,
          ))
      | inr each ↦ inr (ap suc each)
    ]

-- of one target
pub ended_within : (target : Target) (most : ℕ) (a b : StreetTold) (start now : Option (List ℕ)) (tried : Try)
    → RunEnded target most a b start now tried → tried.frames ≤ most
ended_within target most a b start now tried x = went_within target most a b x.1 x.0 tried x.2.went

went_fewer : (target : Target) (most : ℕ) (a b : StreetTold) (link : Option LinkTold) (frames : List (List ℕ))
    (tried : Try)
    → 0 < most → tried.left ≢ Enough → Went target most a b link frames tried → tried.frames < most
went_fewer target most a b None frames tried some open_ x = omega (arith, some, ap (λ (t : Try). t.frames) x.0)
went_fewer target most a b (Some link) frames tried some open_ x =
    elim (cases_lt tried.frames most) [
      | inl less ↦ less
      | inr full ↦
          let all : tried.frames ≡ most =
          omega (arith, full, went_within target most a b (Some link) frames tried x) in
          absurd (open_ ((enough_exact target most x.0 link frames tried x.2 some).1 all))
    ]

pub ended_fewer : (target : Target) (most : ℕ) (a b : StreetTold) (start now : Option (List ℕ)) (tried : Try)
    → 0 < most → RunEnded target most a b start now tried → tried.left ≢ Enough → tried.frames < most
ended_fewer target most a b start now tried some x open_ =
    went_fewer target most a b x.1 x.0 tried some open_ x.2.went

-- ---- as `fetch` says it

pub count_runs : (most : ℕ) (targets : List Target) (a b : StreetTold) (start now : Option (List ℕ)) (tries : List Try)
    → (x : HasTried most targets a b start now tries) → length x.runs ≡ length tries
count_runs most targets a b start now tries x =
    sym (ap length x.tries_are ∙ length-map x.runs (λ (run : Run). run.tried))

pub asked_of : (most : ℕ) (targets : List Target) (a b : StreetTold) (start now : Option (List ℕ)) (tries : List Try)
    → HasTried most targets a b start now tries → Grew a.asked b.asked (map dial_of (take (length tries) targets))
asked_of most targets a b start now tries x =
    subst (λ n. Grew a.asked b.asked (map dial_of (take n targets))) (count_runs most targets a b start now tries x)
    (asked_runs x.are)

pub within_of : (most : ℕ) (targets : List Target) (a b : StreetTold) (start now : Option (List ℕ)) (tries : List Try)
    → HasTried most targets a b start now tries → sum_by (λ (t : Try). t.frames) tries ≤ most
within_of most targets a b start now tries x =
    subst (λ l. sum_by (λ (t : Try). t.frames) l ≤ most) (sym x.tries_are) (total_within x.are)

pub all_of : (most : ℕ) (targets : List Target) (a b : StreetTold) (start now : Option (List ℕ)) (tries : List Try)
    → HasTried most targets a b start now tries
    → (sum_by (λ (t : Try). t.frames) tries ≡ most) ⊎ (length tries ≡ length targets)
all_of most targets a b start now tries x =
    elim (total_or_all x.are) [
      | inl all ↦ inl (ap (sum_by (λ (t : Try). t.frames)) x.tries_are ∙ all)
      | inr each ↦ inr (sym (count_runs most targets a b start now tries x) ∙ each)
    ]

-- a list that began empty
pub as_given : (most : ℕ) (targets : List Target) (a b : StreetTold) (start now : Option (List ℕ))
    (none items more : List Try)
    → none ≡ [] → items ≡ none ++ more → HasTried most targets a b start now more
    → HasTried most targets a b start now items
as_given most targets a b start now none items more empty is x =
    subst (HasTried most targets a b start now) (sym (is ∙ ap (λ l. l ++ more) empty)) x
