-- Tries over links that are told are tries over the links that a street logs.
use Rattle.std.proofs.Common.{◌≡◌, ◌-◌, ℕ, List, [], ◌∷◌, ◌++◌, length, map, take, Option, None, Some, option_map, refl, ap, sym, subst, ◌∙◌, append-nil, append_assoc}
use Rattle.std.specs.List.{concat, flat_map}
use Rattle.std.proofs.lemmas.List.{length-map}
use Rattle.cast_io.specs.declared.steps.Step.{Step}
use Rattle.cast_io.specs.Causes.{Rose}
use Rattle.cast_io.specs.Links.{IsNewLink, bytes_in}
use Rattle.cast_io.specs.Logged.{LinkLog, StreetLog, link_logged, door_logged, street_logged}
use Rattle.cast_io.specs.Told.{LinkTold, StreetTold, Grew}
use Rattle.ntrip_client.specs.declared.answer.Answer.{Answer}
use Rattle.ntrip_client.specs.Answer.{IsAnswer}
use Rattle.ntrip_fetch.specs.declared.left.Left.{Left}
use Rattle.ntrip_fetch.specs.declared.left.Left.TheVariants.{Enough, Dial, End, LinkFault, BadHead, LongHead, Coding, Table, Status, Done, BadChunk}
use Rattle.ntrip_fetch.specs.declared.left.Try.{Try}
use Rattle.ntrip_fetch.specs.declared.target.Target.{Target}
use Rattle.ntrip_fetch.specs.Answered.{answered}
use Rattle.ntrip_fetch.specs.Fetched.{Fetched, IsLeft}
use Rattle.ntrip_fetch.specs.Request.{target_request}
use Rattle.ntrip_fetch.specs.Steps.{AreNeeded, IsSent}
use Rattle.ntrip_fetch.specs.Tries as told
use Rattle.ntrip_fetch.specs.Tries.{AreRuns, Run, IsRun, Went, dial_of, frames_of_all, none_left, enough, another, tries_of}
use Rattle.caster_top.specs.Fetching.{TriedEnd, HasFetched as HasFetchedOver}
use Rattle.caster_logged.specs.Runs.{RunLog, HasFetched, HasTried, AreTried, HasFetchedAll, links_of, unused}
use Rattle.caster_logged.proofs.LogLemmas.{cons_head, door_back, door_is, grew_by, grew_from, link_back, link_is, map_parts, map_same, some_is}

-- ---- one link

-- the one link of a list, where there is one
one_link : (link : Option LinkTold) (logs : List LinkLog) → told.links_of link ≡ map link_logged logs
    → (log : Option LinkLog) × (link ≡ option_map link_logged log) × (logs ≡ links_of log)
one_link None [] same = (None, refl, refl)
one_link None (log ∷ logs) same = absurd cc
one_link (Some link) [] same = absurd cc
one_link (Some link) (log ∷ []) same =
    (Some log, ap Some (cons_head link (link_logged log) [] [] same), refl)
one_link (Some link) (log ∷ (more ∷ logs)) same = absurd cc

-- a list that was empty and is told now has what came to it
since_new : {X : Type 0} (told : Option (List X)) (now items : List X)
    → ((list : List X) → told ≡ Some list → list ≡ []) → Grew told (Some now) items → now ≡ items
since_new told now items fresh grew =
    let from = grew_from told now items grew in
    from.2 ∙ ap (λ l. l ++ items) (fresh from.0 from.1)

-- why a link was left that was new is said by what it is now
left_for : (most : ℕ) (first last : LinkTold) (taken : List Step) (answer : Answer) (n : ℕ) (left : Left)
    → first.faults ≡ 0 → IsLeft most first last taken answer n left
    → IsLeft most (link_logged unused) last taken answer n left
left_for most first last taken answer n Enough fresh is = is
left_for most first last taken answer n Dial fresh is = is
left_for most first last taken answer n End fresh is = is
left_for most first last taken answer n LinkFault fresh is =
    (is.0, is.1, is.2, subst (λ (f : ℕ). Rose f last.faults) fresh is.3)
left_for most first last taken answer n BadHead fresh is = is
left_for most first last taken answer n LongHead fresh is = is
left_for most first last taken answer n Coding fresh is = is
left_for most first last taken answer n Table fresh is = is
left_for most first last taken answer n (Status status) fresh is = is
left_for most first last taken answer n Done fresh is = is
left_for most first last taken answer n (BadChunk place) fresh is = is

fetched_over : (target : Target) (most : ℕ) (first : LinkTold) (log : LinkLog) (frames : List (List ℕ)) (tried : Try)
    → IsNewLink first → Fetched target most first (link_logged log) frames tried
    → HasFetched target most log frames tried
fetched_over target most first log frames tried fresh is =
    let course = is.course in
    let taken : log.taken ≡ is.taken = since_new first.taken log.taken is.taken fresh.taken course.steps in
    let bytes : log.bytes ≡ course.sent = since_new first.bytes log.bytes course.sent fresh.bytes course.bytes in
    record {
      answer = is.answer;
      needed = subst (λ (t : List Step). AreNeeded most [] t) (sym taken) course.needed;
      request = subst (λ (b : List ℕ). IsSent (target_request target) log.taken b) (sym bytes)
          (subst (λ (t : List Step). IsSent (target_request target) t course.sent) (sym taken) course.request);
      says = subst (λ (t : List Step). IsAnswer (bytes_in t) is.answer) (sym taken) course.says;
      first = course.first ∙ ap (λ (t : List Step). take most (answered is.answer (bytes_in t))) (sym taken);
      count = is.count;
      left = subst (λ (t : List Step). IsLeft most (link_logged unused) (link_logged log) t is.answer tried.frames
          tried.left) (sym taken)
          (left_for most first (link_logged log) is.taken is.answer tried.frames tried.left fresh.faults is.left);
    }

went_over : (target : Target) (most : ℕ) (old new : StreetTold) (link : Option LinkLog) (frames : List (List ℕ))
    (tried : Try) → Went target most old new (option_map link_logged link) frames tried
    → HasTried target most link frames tried
went_over target most old new None frames tried is = (is.0, is.1)
went_over target most old new (Some log) frames tried is =
    fetched_over target most is.0 log frames tried is.1 is.2

-- ---- one run

abbrev run_of : Try → List (List ℕ) → Option LinkLog → RunLog
run_of tried frames link = record { tried = tried; frames = frames; link = link }

-- a run that ended over a street with these links logged
record IsRunOver (target : Target) (most : ℕ) (run : Run) (before : Option (List LinkTold)) (logs : List LinkLog)
    : Type 0 where
  pub link : Option LinkLog
  pub earlier : List LinkLog
  pub told_before : before ≡ Some (map link_logged earlier)
  pub logs_are : logs ≡ earlier ++ links_of link
  pub went : HasTried target most link run.frames run.tried

run_over : (target : Target) (most : ℕ) (old new : StreetTold) (run : Run) (logs : List LinkLog)
    → new.links ≡ Some (map link_logged logs) → IsRun target most old new run
    → IsRunOver target most run old.links logs
run_over target most old new run logs is done =
    let from = done.street.links (map link_logged logs) is in
    let parts = map_parts link_logged logs from.0 (told.links_of run.link) from.2 in
    let one = one_link run.link parts.1 parts.4 in
    record {
      link = one.0;
      earlier = parts.0;
      told_before = from.1 ∙ ap Some parts.3;
      logs_are = parts.2 ∙ ap (λ l. parts.0 ++ l) one.2;
      went = went_over target most old new one.0 run.frames run.tried
          (subst (λ (l : Option LinkTold). Went target most old new l run.frames run.tried) one.1 done.went);
    }

-- ---- all runs

abbrev links_in : List RunLog → List LinkLog
links_in runs = flat_map (λ (run : RunLog). links_of run.link) runs

abbrev frames_in : List RunLog → List (List ℕ)
frames_in runs = flat_map (λ (run : RunLog). run.frames) runs

abbrev tries_in : List RunLog → List Try
tries_in runs = map (λ (run : RunLog). run.tried) runs

record AreRunsOver (most : ℕ) (targets : List Target) (runs : List Run) (before : Option (List LinkTold))
    (logs : List LinkLog) : Type 0 where
  pub own : List RunLog
  pub earlier : List LinkLog
  pub told_before : before ≡ Some (map link_logged earlier)
  pub logs_are : logs ≡ earlier ++ links_in own
  pub are : AreTried most targets own
  pub tries : tries_of runs ≡ tries_in own
  pub frames : frames_of_all runs ≡ frames_in own

runs_over : (most : ℕ) (targets : List Target) (old new : StreetTold) (runs : List Run) (logs : List LinkLog)
    → new.links ≡ Some (map link_logged logs) → AreRuns most targets old new runs
    → AreRunsOver most targets runs old.links logs
runs_over most targets old new runs logs is (none_left _ _) = record {
  own = [];
  earlier = logs;
  told_before = is;
  logs_are = sym (append-nil logs);
  are = tt;
  tries = refl;
  frames = refl;
}
runs_over most targets old new runs logs is (enough _ target later _ _ run done last) =
    let one = run_over target most old new run logs is done in
    record {
      own = run_of run.tried run.frames one.link ∷ [];
      earlier = one.earlier;
      told_before = one.told_before;
      logs_are = one.logs_are ∙ ap (λ l. one.earlier ++ l) (sym (append-nil (links_of one.link)));
      are = (one.went, (λ _. refl), (λ other. absurd (other last)));
      tries = refl;
      frames = refl;
    }
runs_over most targets old new runs logs is (another _ target later _ mid _ run more done other rest) =
    let all = runs_over (most - run.tried.frames) later mid new more logs is rest in
    let one = run_over target most old mid run all.earlier all.told_before done in
    record {
      own = run_of run.tried run.frames one.link ∷ all.own;
      earlier = one.earlier;
      told_before = one.told_before;
      logs_are = all.logs_are ∙ ap (λ l. l ++ links_in all.own) one.logs_are
          ∙ append_assoc one.earlier (links_of one.link) (links_in all.own);
      are = (one.went, (λ last. absurd (other last)), (λ _. all.are));
      tries = ap (λ l. run.tried ∷ l) all.tries;
      frames = ap (λ l. run.frames ++ l) all.frames;
    }

-- doors stay as they are
doors_stay : (most : ℕ) (targets : List Target) (old new : StreetTold) (runs : List Run)
    → AreRuns most targets old new runs → new.doors ≡ old.doors
doors_stay most targets old new runs (none_left _ _) = refl
doors_stay most targets old new runs (enough _ target later _ _ run done last) = done.street.doors
doors_stay most targets old new runs (another _ target later _ mid _ run more done other rest) =
    doors_stay (most - run.tried.frames) later mid new more rest ∙ done.street.doors

pub fetched_logged : (most : ℕ) (targets : List Target) (old new : StreetLog) (start now : List ℕ) (status : ℕ)
    → HasFetchedOver most targets (street_logged old) (street_logged new) (Some start) (Some now) status
    → HasFetchedAll most targets old new start now status
fetched_logged most targets old new start now status fetched =
    let tried = fetched.tried in
    let all = runs_over most targets (street_logged old) (street_logged new) tried.runs new.links refl tried.are in
    let same : old.links ≡ all.earlier = map_same link_logged link_back link_is old.links all.earlier
    (some_is (map link_logged old.links) (map link_logged all.earlier) all.told_before) in
    let tries : fetched.tries ≡ tries_in all.own = tried.tries_are ∙ all.tries in
    let count : length fetched.tries ≡ length all.own =
    ap (λ (l : List Try). length l) tries ∙ length-map all.own (λ (run : RunLog). run.tried) in
    record {
      runs = all.own;
      are = all.are;
      asked = grew_by old.asked new.asked (map dial_of (take (length all.own) targets))
          (subst (λ (n : ℕ). Grew (Some old.asked) (Some new.asked) (map dial_of (take n targets))) count
          fetched.dialled);
      doors = map_same door_logged door_back door_is new.doors old.doors
          (some_is (map door_logged new.doors) (map door_logged old.doors)
          (doors_stay most targets (street_logged old) (street_logged new) tried.runs tried.are));
      links = all.logs_are ∙ ap (λ l. l ++ links_in all.own) (sym same);
      wrote = tried.wrote ∙ ap (λ (l : List (List ℕ)). start ++ concat l) all.frames;
      ends = subst (λ (l : List Try). TriedEnd most targets l status) tries fetched.ends;
    }
