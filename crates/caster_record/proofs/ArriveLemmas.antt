-- What a door gave, call after call.
use Rattle.std.proofs.Common.{◌≡◌, ◌∙◌, ◌<◌, ℕ, Bool, zero, suc, List, [], ◌∷◌, ◌++◌, map, set, get_or, length, refl, sym, ap, subst, inl, inr, arith, append_assoc, All, Option, None, Some}
use Rattle.std.proofs.lemmas.List.{append-nil, map-append}
use Rattle.std.proofs.lemmas.List.Elements.{All-nil, All-cons, All-append}
use Rattle.cast_io.specs.declared.door.Arrived.{Arrived}
use Rattle.cast_io.specs.declared.door.Arrived.TheVariants as arrived
use Rattle.cast_io.specs.declared.steps.LinkStep.{LinkStep}
use Rattle.cast_io.specs.Doors.{ArrivesNew, HasAccepted, TakesArrival}
use Rattle.cast_io.specs.Links.{IsNewLink}
use Rattle.cast_io.specs.Told.{LinkTold, DoorTold, StillTold, Grew}
use Rattle.cast_io.specs.declared.steps.Step.{Step}
use Rattle.caster_record.specs.Arriving.{links_among, HasTaken, given_in, HaveCome, HasTakenBack, HaveLeft}
use Rattle.caster_record.specs.Moves.{Move, came, nobody, served, Asks, AskAll}

links_both : (a b : List (Option LinkTold)) → links_among (a ++ b) ≡ links_among a ++ links_among b
links_both [] b = refl
links_both (None ∷ a) b = links_both a b
links_both (Some told ∷ a) b = ap (λ (l : List LinkTold). told ∷ l) (links_both a b)

taken_both : (n m : List LinkTold) (a b c : List (Option LinkTold)) → HasTaken n a b → HasTaken m b c → HasTaken
    (n ++ m) a c
taken_both n m a b c f s = (
  f.0 ++ s.0,
  f.1 ∙ ap (λ (l : List (Option LinkTold)). f.0 ++ l) s.1 ∙ sym (append_assoc f.0 s.0 c),
  links_both f.0 s.0 ∙ ap (λ (l : List LinkTold). l ++ links_among s.0) f.2 ∙ ap (λ (l : List LinkTold). n ++ l) s.2,
)

still_both : {X : Type 0} (P Q R : X → X → Type 0) → ((a b c : X) → P a b → Q b c → R a c) → (o p q : Option X)
    → StillTold P o p → StillTold Q p q → StillTold R o q
still_both P Q R both o p q f s = λ now is.
    let second = s now is in
    let first = f second.0 second.1 in
    (first.0, first.1, both first.0 second.0 now first.2 second.2)

still_as : {X : Type 0} (P Q : X → X → Type 0) → ((a b : X) → P a b → Q a b) → (o p : Option X)
    → StillTold P o p → StillTold Q o p
still_as P Q so o p f = λ now is.
    let first = f now is in
    (first.0, first.1, so first.0 now first.2)

-- ---- what the moves took of the arrivals to come

asks_more : (moves : List Move) (move : Move) (a b c : List (Option LinkTold)) → AskAll moves a b → Asks move b c
    → AskAll (moves ++ move ∷ []) a c
asks_more [] move a b c so one = (c, subst (λ (l : List (Option LinkTold)). Asks move l c) so one, refl)
asks_more (m ∷ moves) move a b c so one = (so.0, so.1, asks_more moves move so.0 b c so.2 one)

pub asked_more : (moves : List Move) (move : Move) (a b c : Option (List (Option LinkTold)))
    → StillTold (AskAll moves) a b → StillTold (Asks move) b c → StillTold (AskAll (moves ++ move ∷ [])) a c
asked_more moves move a b c so one =
    still_both (AskAll moves) (Asks move) (AskAll (moves ++ move ∷ [])) (asks_more moves move) a b c so one

-- who serves a link does not ask the door
pub asked_served : (moves : List Move) (k : ℕ) (answer : Step) (torn : Bool) (a b : Option (List (Option LinkTold)))
    → StillTold (AskAll moves) a b → StillTold (AskAll (moves ++ served k answer torn ∷ [])) a b
asked_served moves k answer torn a b so =
    asked_more moves (served k answer torn) a b b so (λ now is. (now, is, refl))

pub asked_link : {L : Type 0} (told : L → LinkTold) (link : L) (k : ℕ) (a b : DoorTold)
    → HasAccepted told a b (arrived.Link link) → StillTold (Asks (came k)) a.left b.left
asked_link told link k a b h =
    still_as (TakesArrival told (arrived.Link link)) (Asks (came k)) (λ old new takes. (told link, takes)) a.left b.left
    h.left

pub asked_nobody : {L : Type 0} (told : L → LinkTold) (a b : DoorTold) → HasAccepted told a b arrived.Idle
    → StillTold (Asks nobody) a.left b.left
asked_nobody told a b h =
    still_as (TakesArrival told arrived.Idle) (Asks nobody) (λ old new takes. takes) a.left b.left h.left

-- ---- the links that came

given_both : (a b : List LinkTold) → given_in (a ++ b) ≡ given_in a ++ given_in b
given_both a b = map-append (λ (link : LinkTold). link.given) a b

-- a link that was served is given the same steps
pub given_set : {L : Type 0} (told : L → LinkTold) (links : List L) (at : ℕ) (link after : L) → at < length links
    → link ≡ get_or links at link → (told after).given ≡ (told link).given
    → given_in (map told (set links at after)) ≡ given_in (map told links)
given_set told [] at link after within here same = absurd (omega (arith, within))
given_set told (first ∷ links) zero link after within here same =
    ap (λ (g : Option (List LinkStep)). g ∷ given_in (map told links)) (same ∙ ap (λ l. (told l).given) here)
given_set told (first ∷ links) (suc at) link after within here same =
    ap (λ (l : List (Option (List LinkStep))). (told first).given ∷ l)
    (given_set told links at link after (omega (arith, within)) here same)

pub come_both : (a b c : DoorTold) (old some new : List LinkTold) → HaveCome a b old some → HaveCome b c some new
    → HaveCome a c old new
come_both a b c old some new f s = record {
  came = f.came ++ s.came;
  left = still_both (HasTaken f.came) (HasTaken s.came) (HasTaken (f.came ++ s.came)) (taken_both f.came s.came)
      a.left b.left c.left f.left s.left;
  fresh = All-append IsNewLink f.came s.came f.fresh s.fresh;
  are = s.are ∙ ap (λ (l : List (Option (List LinkStep))). l ++ given_in s.came) f.are
      ∙ append_assoc (given_in old) (given_in f.came) (given_in s.came)
      ∙ ap (λ (l : List (Option (List LinkStep))). given_in old ++ l) (sym (given_both f.came s.came));
  back = s.back ∙ f.back;
  later = omega (arith, f.later, s.later);
}

none_taken : (a : List (Option LinkTold)) → HasTaken [] a a
none_taken a = ([], refl, refl)

-- none came, and those that stood there were served meanwhile
pub come_none : (told : DoorTold) (old new : List LinkTold) → given_in new ≡ given_in old → HaveCome told told old new
come_none told old new same = record {
  came = [];
  left = λ now is. (now, is, none_taken now);
  fresh = All-nil IsNewLink;
  are = same ∙ sym (append-nil (given_in old));
  back = refl;
  later = omega arith;
}

pub come_same : {L : Type 0} (told : L → LinkTold) (door : DoorTold) (old new : List L) → new ≡ old
    → HaveCome door door (map told old) (map told new)
come_same told door old new same = come_none door (map told old) (map told new) (ap (λ l. given_in (map told l)) same)

-- those that came were served since
come_served : (a b : DoorTold) (old some new : List LinkTold) → HaveCome a b old some → given_in new ≡ given_in some
    → HaveCome a b old new
come_served a b old some new f same = record {
  came = f.came;
  left = f.left;
  fresh = f.fresh;
  are = same ∙ f.are;
  back = f.back;
  later = f.later;
}

-- a round: some may come, and then all are served
pub come_round : (a b c : DoorTold) (old some more new : List LinkTold) → HaveCome a b old some → HaveCome b c some more
    → given_in new ≡ given_in more → HaveCome a c old new
come_round a b c old some more new f s same = come_served a c old more new (come_both a b c old some more f s) same

-- the link that this is, if it is one
abbrev pub links_of : {L : Type 0} → (L → LinkTold) → Arrived L → List LinkTold
links_of told (arrived.Link link) = told link ∷ []
links_of told arrived.Idle = []
links_of told arrived.Failed = []

one_taken : {L : Type 0} (told : L → LinkTold) (result : Arrived L) (a b : List (Option LinkTold))
    → TakesArrival told result a b → HasTaken (links_of told result) a b
one_taken told (arrived.Link link) a b is = (Some (told link) ∷ [], is, refl)
one_taken told arrived.Idle a b (inl is) = (None ∷ [], is, refl)
one_taken told arrived.Idle a b (inr is) = ([], is.0 ∙ sym is.1, refl)
one_taken told arrived.Failed a b is = ([], sym is, refl)

one_fresh : {L : Type 0} (told : L → LinkTold) (result : Arrived L) → ArrivesNew told result
    → All IsNewLink (links_of told result)
one_fresh told (arrived.Link link) new = All-cons IsNewLink (told link) [] new (All-nil IsNewLink)
one_fresh told arrived.Idle new = All-nil IsNewLink
one_fresh told arrived.Failed new = All-nil IsNewLink

pub come_accepted : {L : Type 0} (told : L → LinkTold) (result : Arrived L) (a b : DoorTold) (old : List LinkTold)
    → HasAccepted told a b result → HaveCome a b old (old ++ links_of told result)
come_accepted told result a b old h = record {
  came = links_of told result;
  left = still_as (TakesArrival told result) (HasTaken (links_of told result)) (one_taken told result) a.left b.left
      h.left;
  fresh = one_fresh told result h.fresh;
  are = given_both old (links_of told result);
  back = h.back;
  later = h.later;
}

-- it is behind the others now
pub come_pushed : {L : Type 0} (told : L → LinkTold) (link : L) (a b : DoorTold) (old some new : List L) → some ≡ old
    → new ≡ some ++ link ∷ [] → HasAccepted told a b (arrived.Link link) → HaveCome a b (map told old) (map told new)
come_pushed told link a b old some new same pushed h =
    subst (HaveCome a b (map told old))
    (sym (ap (map told) (pushed ∙ ap (λ l. l ++ link ∷ []) same) ∙ map-append told old (link ∷ [])))
    (come_accepted told (arrived.Link link) a b (map told old) h)

-- or there was none, and the others are as they were
pub come_kept : {L : Type 0} (told : L → LinkTold) (result : Arrived L) (a b : DoorTold) (old new : List L) → new ≡ old
    → links_of told result ≡ [] → HasAccepted told a b result → HaveCome a b (map told old) (map told new)
come_kept told result a b old new same none h =
    subst (HaveCome a b (map told old))
    (ap (λ l. map told old ++ l) none ∙ append-nil (map told old) ∙ ap (map told) (sym same))
    (come_accepted told result a b (map told old) h)

left_same : (n : List LinkTold) (o p q : Option (List (Option LinkTold))) → q ≡ p → StillTold (HasTaken n) o p
    → StillTold (HasTaken n) o q
left_same n o p q same f = λ now is. f now (sym same ∙ is)

pub come_left : (a b c : DoorTold) (links : List LinkTold) → HaveCome a b [] links → HasTakenBack links b c
    → HaveLeft a c
come_left a b c links f s = record {
  came = f.came;
  left = left_same f.came a.left b.left c.left s.left f.left;
  links = links;
  are = f.are;
  back = subst (λ (o : Option (List LinkTold)). Grew o c.back links) f.back s.back;
  later = omega (arith, f.later, s.faults);
}
