-- Links that a door gave, one after the other.
use Rattle.std.proofs.Common.{◌≡◌, ◌∙◌, ◌+◌, ◌≤◌, ◌++◌, ◌⊎◌, ℕ, Bool, true, false, List, [], ◌∷◌, fold, refl, sym, ap, subst, inl, inr, Option, None, Some, append-nil, append_assoc, arith}
use Rattle.std.specs.Prelude.{◌&&◌, if◌then◌else◌}
use Rattle.std.proofs.lemmas.List.{map-append, length-append}
use Rattle.std.proofs.lemmas.Grind.{fold-append}
use Rattle.cast_io.specs.Told.{LinkTold, DoorTold, Grew, StillTold}
use Rattle.cast_io.specs.Links.{IsNewLink}
use Rattle.cast_io.specs.declared.steps.LinkStep.{LinkStep}
use Rattle.cast_io.specs.declared.door.Arrived.TheVariants as arrived
use Rattle.cast_io.specs.Doors.{HasAccepted, HasHungUp}
use Rattle.cast_io.proofs.ToldLemmas.{grew_none, grew_both, rose_since}
use Rattle.caster_accounts.specs.declared.account.Sum.{Sum}
use Rattle.cast_config.specs.declared.config.Config.{Config}
use Rattle.session_model.specs.declared.report.Receipt.{Receipt}
use Rattle.session_model.specs.Judged.{Opening, sends_head}
use Rattle.session_model.specs.Run.{Histories}
use Rattle.caster_link.specs.Links.{IsCausedBy}
use Rattle.caster_link.specs.Served.{LinkServed}
use Rattle.caster_places.specs.Leaves.{Leaves}
use Rattle.caster_serve.proofs.LeaveLemmas.{leaves_none, leaves_both, leaves_of}
use Rattle.caster_serve.specs.Visits.{Visit, HasCome, GoesOnBy, WentOn}
use Rattle.caster_link.specs.Wear.{Wear, IsRefusedBy, only_worn}
use Rattle.caster_serve.specs.Works.{Record, IsTold, RecordGoes, Followed, AreTaken, givens_among, givens_of, tallied, links_of, receipts_of, Works, LinkCounted, Worked}
use Rattle.caster_link.proofs.PublishLemmas.{source_published}
use Rattle.caster_link.proofs.WornLemmas.{WearsOn, refused_on}
use Rattle.caster_accounts.specs.Sums.{added}

-- ---- one link

-- a list that was empty and grew is what it grew by
pub told_since : {X : Type 0} (before after : Option (List X)) (more : List X)
    → ((list : List X) → before ≡ Some list → list ≡ []) → Grew before after more → IsTold after more
told_since before after more none grew is told =
    let from = grew is told in
    from.2 ∙ ap (λ list. list ++ more) (none from.0 from.1)

unfoldable pub record_goes : (c : Config) (opening : Opening) (me : ℕ) (wear : Wear) (start now : Histories)
    (before after : LinkTold) (receipt : Receipt) → IsNewLink before
    → LinkServed c opening me start now before after receipt → IsRefusedBy wear receipt
    → RecordGoes c opening me wear (record { link = after; receipt = receipt }) start now
record_goes c opening me wear start now before after receipt fresh served refused = record {
  taken = served.taken;
  written = served.written;
  last = served.last;
  taken_is = told_since before.taken after.taken served.taken fresh.taken served.link.steps;
  bytes_is = told_since before.bytes after.bytes served.written fresh.bytes served.link.bytes;
  goes = served.goes;
  caused = subst (λ (n : ℕ). IsCausedBy served.last n after.faults) fresh.faults served.caused;
  refused = refused;
  published = source_published c opening me start now served.taken served.written served.last receipt served.goes;
}

unfoldable pub link_counted : (c : Config) (opening : Opening) (me : ℕ) (wear : Wear) (start now : Histories)
    (before after : LinkTold) (receipt : Receipt) (old new : Sum) → IsNewLink before
    → LinkServed c opening me start now before after receipt → IsRefusedBy wear receipt
    → new ≡ tallied old receipt → LinkCounted c opening me wear start now after old new
link_counted c opening me wear start now before after receipt old new fresh served refused counts = record {
  receipt = receipt;
  goes = record_goes c opening me wear start now before after receipt fresh served refused;
  tally = counts;
  leaves = subst (Leaves me start.book now.book old) (sym counts)
      (leaves_of c opening me start now served.taken served.written served.last receipt old served.goes);
}

-- ---- the tally

count_for : (entered settled : Bool) (more same : Sum) → entered ≡ true → settled ≡ true
    → more ≡ (if entered && settled then more else same)
count_for true true more same enters settles = refl
count_for true false more same enters settles = absurd (let clash : false ≡ true = settles in cc)
count_for false settled more same enters settles = absurd (let clash : false ≡ true = enters in cc)

pub tallied_by : (sum : Sum) (receipt : Receipt) (sent overrun : ℕ) → receipt.entered ≡ true
    → receipt.settled ≡ true → sent ≡ receipt.sent → overrun ≡ receipt.overrun
    → added sum sent overrun ≡ tallied sum receipt
tallied_by sum receipt sent overrun enters settles is over =
    ap (λ (n : ℕ). added sum n overrun) is ∙ ap (added sum receipt.sent) over
    ∙ count_for receipt.entered receipt.settled (added sum receipt.sent receipt.overrun) sum enters settles

-- a receipt counts for one session at most
one_session : (counts : Bool) (old new more : Sum) → more.sessions ≡ old.sessions + 1
    → new ≡ (if counts then more else old) → new.sessions ≤ old.sessions + 1
one_session true old new more one is =
    let same : new.sessions ≡ more.sessions = ap (λ (sum : Sum). sum.sessions) is in omega (arith, same, one)
one_session false old new more one is =
    let same : new.sessions ≡ old.sessions = ap (λ (sum : Sum). sum.sessions) is in omega (arith, same)

pub one_more : (c : Config) (opening : Opening) (me : ℕ) (wear : Wear) (start now : Histories) (after : LinkTold)
    (old new : Sum) → LinkCounted c opening me wear start now after old new → new.sessions ≤ old.sessions + 1
one_more c opening me wear start now after old new counted =
    let receipt = counted.receipt in
    one_session (receipt.entered && receipt.settled) old new (added old receipt.sent receipt.overrun) refl
    counted.tally

-- ---- arrivals

-- one more of them came, or none
came_first : {L : Type 0} (told : L → LinkTold) (link : L) (door opened : DoorTold)
    → HasAccepted told door opened (arrived.Link link)
    → StillTold (AreTaken ((told link).given ∷ [])) door.left opened.left
came_first told link door opened is now left =
    let was = is.left now left in
    (was.0, was.1, record { came = Some (told link) ∷ []; split = was.2; links = refl })

came_idle : (old now : List (Option LinkTold)) → (old ≡ None ∷ now) ⊎ ((old ≡ []) × (now ≡ [])) → AreTaken [] old now
came_idle old now (inl one) = record { came = None ∷ []; split = one; links = refl }
came_idle old now (inr none) = record { came = []; split = none.0 ∙ sym none.1; links = refl }

came_none : {L : Type 0} (told : L → LinkTold) (door opened : DoorTold) → HasAccepted told door opened arrived.Idle
    → StillTold (AreTaken []) door.left opened.left
came_none told door opened is now left =
    let was = is.left now left in (was.0, was.1, came_idle was.0 now was.2)

came_failed : {L : Type 0} (told : L → LinkTold) (door opened : DoorTold)
    → HasAccepted told door opened arrived.Failed → StillTold (AreTaken []) door.left opened.left
came_failed told door opened is now left =
    let was = is.left now left in (was.0, was.1, record { came = []; split = sym was.2; links = refl })

givens-append : (first second : List (Option LinkTold))
    → givens_among (first ++ second) ≡ givens_among first ++ givens_among second
givens-append [] second = refl
givens-append (None ∷ first) second = givens-append first second
givens-append (Some link ∷ first) second = ap (λ l. link.given ∷ l) (givens-append first second)

taken_none : (left : Option (List (Option LinkTold))) → StillTold (AreTaken []) left left
taken_none left now is = (now, is, record { came = []; split = refl; links = refl })

taken_both : (first second third : Option (List (Option LinkTold))) (one two : List (Option (List LinkStep)))
    → StillTold (AreTaken one) first second → StillTold (AreTaken two) second third
    → StillTold (AreTaken (one ++ two)) first third
taken_both first second third one two before after now is =
    let later = after now is in
    let sooner = before later.0 later.1 in (
      sooner.0,
      sooner.1,
      record {
        came = sooner.2.came ++ later.2.came;
        split = sooner.2.split ∙ ap (λ l. sooner.2.came ++ l) later.2.split
            ∙ sym (append_assoc sooner.2.came later.2.came now);
        links = givens-append sooner.2.came later.2.came
            ∙ ap (λ l. l ++ givens_among later.2.came) sooner.2.links ∙ ap (λ l. one ++ l) later.2.links;
      },
    )

taken_still : (first second third : Option (List (Option LinkTold))) (givens : List (Option (List LinkStep)))
    → StillTold (AreTaken givens) first second → StillTold (AreTaken []) second third
    → StillTold (AreTaken givens) first third
taken_still first second third givens before after =
    subst (λ g. StillTold (AreTaken g) first third) (append-nil givens)
    (taken_both first second third givens [] before after)

taken_more : (first second third fourth : Option (List (Option LinkTold))) (entries : List Record) (entry : Record)
    (given : Option (List LinkStep)) → StillTold (AreTaken (givens_of entries)) first second
    → StillTold (AreTaken (given ∷ [])) second third → entry.link.given ≡ given → fourth ≡ third
    → StillTold (AreTaken (givens_of (entries ++ entry ∷ []))) first fourth
taken_more first second third fourth entries entry given before after is same =
    let all : givens_of entries ++ given ∷ [] ≡ givens_of (entries ++ entry ∷ []) =
    ap (λ g. givens_of entries ++ g ∷ []) (sym is)
    ∙ sym (map-append (λ (e : Record). e.link.given) entries (entry ∷ [])) in
    subst (λ left. StillTold (AreTaken (givens_of (entries ++ entry ∷ []))) first left) (sym same)
    (subst (λ g. StillTold (AreTaken g) first third) all
    (taken_both first second third (givens_of entries) (given ∷ []) before after))

-- ---- all of them

pub works_none : (c : Config) (me : ℕ) (wear : Wear) (now : Histories) (door : DoorTold) (sum : Sum)
    → Works c me wear now now door door sum sum 0
works_none c me wear now door sum = record {
  entries = [];
  back = grew_none door.back;
  arrived = taken_none door.left;
  followed = refl;
  counted = refl;
  tally = refl;
  leaves = leaves_none me now.book sum;
  later = omega arith;
}

followed-snoc : (c : Config) (me : ℕ) (wear : Wear) (entries : List Record) (entry : Record)
    (start between now : Histories) → Followed c me wear entries start between
    → RecordGoes c sends_head me wear entry between now → Followed c me wear (entries ++ entry ∷ []) start now
followed-snoc c me wear [] entry start between now so_far goes =
    (now, subst (λ (h : Histories). RecordGoes c sends_head me wear entry h now) so_far goes, refl)
followed-snoc c me wear (first ∷ entries) entry start between now so_far goes =
    (so_far.0, so_far.1, followed-snoc c me wear entries entry so_far.0 between now so_far.2 goes)

-- what was refused by the places as they were worn then, was by the same places as they are now
goes_worn : (c : Config) (opening : Opening) (me : ℕ) (wear later : Wear) (entry : Record) (start now : Histories)
    → WearsOn wear later → RecordGoes c opening me wear entry start now
    → RecordGoes c opening me later entry start now
goes_worn c opening me wear later entry start now on was = record {
  taken = was.taken;
  written = was.written;
  last = was.last;
  taken_is = was.taken_is;
  bytes_is = was.bytes_is;
  goes = was.goes;
  caused = was.caused;
  refused = refused_on wear later entry.receipt on was.refused;
  published = was.published;
}

followed_worn : (c : Config) (me : ℕ) (wear later : Wear) (entries : List Record) (start now : Histories)
    → WearsOn wear later → Followed c me wear entries start now → Followed c me later entries start now
followed_worn c me wear later [] start now on so_far = so_far
followed_worn c me wear later (entry ∷ entries) start now on so_far = (
  so_far.0,
  goes_worn c sends_head me wear later entry start so_far.0 on so_far.1,
  followed_worn c me wear later entries so_far.0 now on so_far.2,
)

pub works_more : {L : Type 0} (told : L → LinkTold) (link : L) (c : Config) (me : ℕ) (wear later : Wear)
    (start between now : Histories) (before door opened after : DoorTold) (hung : LinkTold) (old sum new : Sum)
    (count : ℕ) → WearsOn wear later → Works c me wear start between before door old sum count
    → HasAccepted told door opened (arrived.Link link) → LinkCounted c sends_head me later between now hung sum new
    → hung.given ≡ (told link).given → HasHungUp hung opened after
    → Works c me later start now before after old new (count + 1)
works_more told link c me wear later start between now before door opened after hung old sum new count on works came one
    given hangs = let entry : Record = record { link = hung; receipt = one.receipt } in record {
      entries = works.entries ++ entry ∷ [];
      back = subst (Grew before.back after.back) (sym (map-append (λ (e : Record). e.link) works.entries (entry ∷ [])))
          (grew_both before.back door.back after.back (links_of works.entries) (hung ∷ []) works.back
          (subst (λ told. Grew told after.back (hung ∷ [])) came.back hangs.back));
      arrived = taken_more before.left door.left opened.left after.left works.entries entry (told link).given
          works.arrived (came_first told link door opened came) given hangs.left;
      followed = followed-snoc c me later works.entries entry start between now
          (followed_worn c me wear later works.entries start between on works.followed) one.goes;
      counted = length-append works.entries (entry ∷ []) ∙ ap (λ (n : ℕ). n + 1) works.counted;
      tally = one.tally ∙ ap (λ (s : Sum). tallied s one.receipt) works.tally
          ∙ sym (fold-append tallied old (receipts_of works.entries) (one.receipt ∷ []))
          ∙ ap (fold tallied old) (sym (map-append (λ (e : Record). e.receipt) works.entries (entry ∷ [])));
      leaves = leaves_both me start.book between.book now.book old sum new works.leaves one.leaves;
      later = omega (arith, works.later, came.later, hangs.faults);
    }

-- ---- the door, from accept to accept

went-snoc : (visits : List Visit) (visit : Visit) (before now : DoorTold) → WentOn visits before now
    → HasCome visit.came now visit.opened → GoesOnBy visit.came visit.opened visit.left
    → WentOn (visits ++ visit ∷ []) before visit.left
went-snoc [] visit before now went came goes =
    (subst (λ (d : DoorTold). HasCome visit.came d visit.opened) went came, goes, refl)
went-snoc (first ∷ visits) visit before now went came goes =
    (went.0, went.1, went-snoc visits visit first.left now went.2 came goes)

-- links are seen through what they tell
pub link_come : {L : Type 0} (told : L → LinkTold) (link : L) (old new : DoorTold)
    → HasAccepted told old new (arrived.Link link) → HasCome (arrived.Link (told link)) old new
link_come told link old new is =
    record {
      left = is.left;
      fresh = is.fresh;
      back = is.back;
      later = is.later;
      failed = is.failed;
      unharmed = is.unharmed;
    }

pub none_come : {L : Type 0} (told : L → LinkTold) (old new : DoorTold) → HasAccepted told old new arrived.Idle
    → HasCome arrived.Idle old new
none_come told old new is =
    record {
      left = is.left;
      fresh = is.fresh;
      back = is.back;
      later = is.later;
      failed = is.failed;
      unharmed = is.unharmed;
    }

pub fault_come : {L : Type 0} (told : L → LinkTold) (old new : DoorTold) → HasAccepted told old new arrived.Failed
    → HasCome arrived.Failed old new
fault_come told old new is =
    record {
      left = is.left;
      fresh = is.fresh;
      back = is.back;
      later = is.later;
      failed = is.failed;
      unharmed = is.unharmed;
    }

-- what a worker saw of its door so far
pub record Visited (before now : DoorTold) : Type 0 where
  pub visits : List Visit
  pub went : WentOn visits before now

pub visited_none : (door : DoorTold) → Visited door door
visited_none door = record { visits = []; went = refl }

-- a link came, was served and hung up
pub visited_link : {L : Type 0} (told : L → LinkTold) (link : L) (before now opened after : DoorTold)
    (hung : LinkTold) → Visited before now → HasAccepted told now opened (arrived.Link link)
    → HasHungUp hung opened after → Visited before after
visited_link told link before now opened after hung so_far came hangs =
    let visit : Visit = record { came = arrived.Link (told link); opened = opened; left = after } in record {
      visits = so_far.visits ++ visit ∷ [];
      went = went-snoc so_far.visits visit before now so_far.went (link_come told link now opened came) (hung, hangs);
    }

-- none came
pub visited_idle : {L : Type 0} (told : L → LinkTold) (before now opened after : DoorTold) → Visited before now
    → HasAccepted told now opened arrived.Idle → after ≡ opened → Visited before after
visited_idle told before now opened after so_far came same =
    let visit : Visit = record { came = arrived.Idle; opened = opened; left = after } in record {
      visits = so_far.visits ++ visit ∷ [];
      went = went-snoc so_far.visits visit before now so_far.went (none_come told now opened came) same;
    }

-- ---- the end

-- an accept without a link leaves what was done as it was
works_still : (c : Config) (me : ℕ) (wear : Wear) (start now : Histories) (before door opened : DoorTold)
    (old new : Sum) (count : ℕ) → Works c me wear start now before door old new count
    → StillTold (AreTaken []) door.left opened.left → opened.back ≡ door.back
    → door.faults ≤ opened.faults → Works c me wear start now before opened old new count
works_still c me wear start now before door opened old new count works left back later = record {
  entries = works.entries;
  back = subst (λ told. Grew before.back told (links_of works.entries)) (sym back) works.back;
  arrived = taken_still before.left door.left opened.left (givens_of works.entries) works.arrived left;
  followed = works.followed;
  counted = works.counted;
  tally = works.tally;
  leaves = works.leaves;
  later = omega (arith, works.later, later);
}

-- nor does a rest
pub works_idle : {L : Type 0} (told : L → LinkTold) (c : Config) (me : ℕ) (wear : Wear) (start now : Histories)
    (before door opened after : DoorTold) (old new : Sum) (count : ℕ)
    → Works c me wear start now before door old new count → HasAccepted told door opened arrived.Idle
    → after ≡ opened → Works c me wear start now before after old new count
works_idle told c me wear start now before door opened after old new count works came same =
    subst (λ (d : DoorTold). Works c me wear start now before d old new count) (sym same)
    (works_still c me wear start now before door opened old new count works (came_none told door opened came)
    came.back came.later)

-- its door failed
pub worked_failed : {L : Type 0} (told : L → LinkTold) (c : Config) (me : ℕ) (wear : Wear) (start now : Histories)
    (before door after : DoorTold) (old new : Sum) (count limit answer : ℕ)
    → Works c me wear start now before door old new count → Visited before door
    → HasAccepted told door after arrived.Failed → count ≡ answer
    → Worked c me wear start now before after old new limit answer
worked_failed told c me wear start now before door after old new count limit answer works visited failed is = record {
  works = subst (Works c me wear start now before after old new) is
      (works_still c me wear start now before door after old new count works (came_failed told door after failed)
      failed.back failed.later);
  done = inr (rose_since before.faults door.faults after.faults works.later (failed.failed refl));
  visits = visited.visits;
  at = door;
  went_on = visited.went;
  stopped = inr (fault_come told door after failed);
}

-- as many links came as it was to serve
pub worked_all : (c : Config) (me : ℕ) (wear : Wear) (start now : Histories) (before after : DoorTold) (old new : Sum)
    (count limit : ℕ) → Works c me wear start now before after old new count → Visited before after → count ≡ limit
    → Worked c me wear start now before after old new limit limit
worked_all c me wear start now before after old new count limit works visited all = record {
  works = subst (Works c me wear start now before after old new) all works;
  done = inl refl;
  visits = visited.visits;
  at = after;
  went_on = visited.went;
  stopped = inl (refl, refl);
}

-- places that never lack memory
pub worked_worn : (c : Config) (me : ℕ) (lacks : Bool) (worn : List ℕ) (start now : Histories)
    (before after : DoorTold) (old new : Sum) (limit count : ℕ) → lacks ≡ false
    → Worked c me (record { may_lack = lacks; turns = worn }) start now before after old new limit count
    → Worked c me (only_worn worn) start now before after old new limit count
worked_worn c me lacks worn start now before after old new limit count never worked =
    subst (λ (b : Bool). Worked c me (record { may_lack = b; turns = worn }) start now before after old new limit count)
    never worked

-- ---- the same places, as they are worn later

works_on : (c : Config) (me : ℕ) (wear later : Wear) (start now : Histories) (before after : DoorTold) (old new : Sum)
    (count : ℕ) → WearsOn wear later → Works c me wear start now before after old new count
    → Works c me later start now before after old new count
works_on c me wear later start now before after old new count on works = record {
  entries = works.entries;
  back = works.back;
  arrived = works.arrived;
  followed = followed_worn c me wear later works.entries start now on works.followed;
  counted = works.counted;
  tally = works.tally;
  leaves = works.leaves;
  later = works.later;
}

pub worked_on : (c : Config) (me : ℕ) (wear later : Wear) (start now : Histories) (before after : DoorTold)
    (old new : Sum) (limit count : ℕ) → WearsOn wear later
    → Worked c me wear start now before after old new limit count
    → Worked c me later start now before after old new limit count
worked_on c me wear later start now before after old new limit count on worked = record {
  works = works_on c me wear later start now before after old new count on worked.works;
  done = worked.done;
  visits = worked.visits;
  at = worked.at;
  went_on = worked.went_on;
  stopped = worked.stopped;
}

pub counted_on : (c : Config) (opening : Opening) (me : ℕ) (wear later : Wear) (start now : Histories)
    (after : LinkTold) (old new : Sum) → WearsOn wear later → LinkCounted c opening me wear start now after old new
    → LinkCounted c opening me later start now after old new
counted_on c opening me wear later start now after old new on counted = record {
  receipt = counted.receipt;
  goes = goes_worn c opening me wear later (record { link = after; receipt = counted.receipt }) start now on
      counted.goes;
  tally = counted.tally;
  leaves = counted.leaves;
}
