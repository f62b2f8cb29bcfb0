-- What fetches ask of the street and write.
use Rattle.std.proofs.Common.{◌≡◌, ℕ, ◌≤◌, nat_le, ◌&&◌, true, List, [], ◌∷◌, ◌++◌, length, Option, None, Some, inr, refl, ap, sym, subst, ◌∙◌, arith}
use Rattle.std.proofs.lemmas.Bool.{and_parts}
use Rattle.std.proofs.lemmas.Bool.Decides.{nat_tests}
use Rattle.std.proofs.lemmas.List.{append_assoc, length-append}
use Rattle.std.proofs.lemmas.List.Sums.{sum_by-cons}
use Rattle.cast_io.specs.Told.{LinkTold, StreetTold}
use Rattle.cast_io.proofs.ToldLemmas.{grew_none}
use Rattle.ntrip_fetch.specs.declared.left.FetchFault.{FetchFault}
use Rattle.ntrip_fetch.specs.declared.left.Try.{Try}
use Rattle.ntrip_fetch.specs.declared.target.Target.{Target}
use Rattle.ntrip_fetch.specs.Tries.{AreRuns, HasStopped, HasTried, Run, Stopped, Went, at_first, another, behind, enough, frames_of_all, here, none_left, tries_of}
use Rattle.ntrip_fetch.proofs.TriesLemmas.{stopped_first}
use Rattle.caster_top.specs.Command.{are_few_targets, are_targets, targets_of}
use Rattle.caster_top.specs.Fetching.{HasFetching, frames_in}
use Rattle.caster_top.proofs.TargetLemmas.{targets_count}

-- ---- the street's count does not fall

runs_later : {most : ℕ} {targets : List Target} {a b : StreetTold} {runs : List Run}
    → AreRuns most targets a b runs → a.faults ≤ b.faults
runs_later (none_left most told) = omega arith
runs_later (enough most target later old new run x full) = x.street.faults
runs_later (another most target later old mid new run runs x open_ more) =
    let first = x.street.faults in
    let rest = runs_later more in
    omega (arith, first, rest)

stops_later : {most : ℕ} {targets : List Target} {a b : StreetTold} {frames : List (List ℕ)} {fault : FetchFault}
    → Stopped most targets a b frames fault → a.faults ≤ b.faults
stops_later (at_first most targets told) = omega arith
stops_later (here most target later old new link frames fault x broke) = x.faults
stops_later (behind most target later old mid new run frames fault x open_ more) =
    let first = x.street.faults in
    let rest = stops_later more in
    omega (arith, first, rest)

pub tried_later : {most : ℕ} {targets : List Target} {a b : StreetTold} {start now : Option (List ℕ)} {tries : List Try}
    → HasTried most targets a b start now tries → a.faults ≤ b.faults
tried_later tried = runs_later tried.are

pub stopped_later : {most : ℕ} {targets : List Target} {a b : StreetTold} {start now : Option (List ℕ)}
    {fault : FetchFault} → HasStopped most targets a b start now fault → a.faults ≤ b.faults
stopped_later stopped = stops_later stopped.stopped

-- ---- before anything is asked

-- for want of memory nothing was asked and nothing written
pub nothing_fetched : (most : ℕ) (targets : List Target) (told : StreetTold) (start : Option (List ℕ)) (faults : ℕ)
    → HasFetching most targets told told start start faults faults 7
nothing_fetched most targets told start faults = record {
  dialled = (0, grew_none told.asked);
  ends = inr (inr (refl, stopped_first most targets told start));
}

-- so many words are 1 to 8 targets
pub few_targets : (words : List (List ℕ)) → are_few_targets words ≡ true
    → (are_targets words ≡ true) × (1 ≤ length (targets_of words)) × (length (targets_of words) ≤ 8)
few_targets words few =
    let outer = and_parts (nat_le 1 (length words) && nat_le (length words) 40) (are_targets words) few in
    let inner = and_parts (nat_le 1 (length words)) (nat_le (length words) 40) outer.0 in
    let some = inner.0 in
    let most = inner.1 in
    let least : 1 ≤ length words = grind (arith, nat_tests, some) in
    let within : length words ≤ 40 = grind (arith, nat_tests, most) in
    let count = targets_count words outer.1 in
    (outer.1, omega (arith, count, least), omega (arith, count, within))

-- ---- how many frames were written

went_counted : (target : Target) (most : ℕ) (old new : StreetTold) (link : Option LinkTold) (frames : List (List ℕ))
    (tried : Try) → Went target most old new link frames tried → length frames ≡ tried.frames
went_counted target most old new None frames tried went =
    ap length went.1 ∙ sym (ap (λ (t : Try). t.frames) went.0)
went_counted target most old new (Some link) frames tried went = sym went.2.count

pub runs_counted : {most : ℕ} {targets : List Target} {a b : StreetTold} {runs : List Run}
    → AreRuns most targets a b runs → length (frames_of_all runs) ≡ frames_in (tries_of runs)
runs_counted (none_left most told) = refl
runs_counted (enough most target later old new run x full) =
    let one = went_counted target most old new run.link run.frames run.tried x.went in
    let size = length-append run.frames [] in
    let total = sum_by-cons (λ (tried : Try). tried.frames) run.tried [] in
    omega (arith, one, size, total)
runs_counted (another most target later old mid new run runs x open_ more) =
    let one = went_counted target most old mid run.link run.frames run.tried x.went in
    let rest = runs_counted more in
    let size = length-append run.frames (frames_of_all runs) in
    let total = sum_by-cons (λ (tried : Try). tried.frames) run.tried (tries_of runs) in
    omega (arith, one, rest, size, total)

-- ---- targets that are made of words

-- those behind the first are put behind it
pub pushed_more : (old mid new rest all : List Target) (one first : Target) → mid ≡ old ++ one ∷ [] → one ≡ first
    → all ≡ first ∷ rest → new ≡ mid ++ rest → new ≡ old ++ all
pushed_more old mid new rest all one first pushed same whole later =
    later ∙ ap (λ (l : List Target). l ++ rest) pushed ∙ append_assoc old (one ∷ []) rest
    ∙ ap (λ (t : Target). old ++ (t ∷ rest)) same ∙ ap (λ (l : List Target). old ++ l) (sym whole)

-- what holds of the targets holds of the slice of those that were put behind none
pub made_so : (P : List Target → Type 0) {slice made none all : List Target} → slice ≡ made → made ≡ none ++ all
    → none ≡ [] → P all → P slice
made_so P {all = all} same put empty holds =
    subst P (sym (same ∙ put ∙ ap (λ (l : List Target). l ++ all) empty)) holds
