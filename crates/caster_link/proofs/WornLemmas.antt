-- A receipt that tells of a worn place.
use Rattle.std.proofs.Common.{◌≡◌, ◌∙◌, ◌^◌, ◌<◌, ◌≤◌, ◌++◌, ◌⊎◌, ℕ, zero, suc, Bool, true, false, List, [], ◌∷◌, length, map, get_or, Option, None, Some, inl, inr, refl, sym, ap, subst, arith}
use Rattle.std.specs.Prelude.{◌||◌, IfSome, IsTrue, Contains, slice_index_or}
use Rattle.std.specs.List.{list_any}
use Rattle.std.proofs.lemmas.List.{get_or_append_left, length-map}
use Rattle.std.proofs.lemmas.Grind.{get_or_default_zero}
use Rattle.std.proofs.lemmas.List.Elements.{Contains-append_cases}
use Rattle.mount_ring.specs.declared.shape.RingShape.{RingShape}
use Rattle.cast_io.specs.Told.{LinkTold}
use Rattle.cast_config.specs.declared.config.Config.{Config}
use Rattle.session_calls.specs.Steps.{Step}
use Rattle.session_calls.specs.Rings.{AllLater}
use Rattle.turn_log.specs.declared.place.TurnFault.{TurnFault}
use Rattle.turn_log.specs.declared.place.TurnFault.TheVariants as turns
use Rattle.session_model.specs.declared.ending.Ending.{Ending}
use Rattle.session_model.specs.declared.ending.Ending.TheVariants as endings
use Rattle.session_model.specs.declared.ending.Last.{Last}
use Rattle.session_model.specs.declared.ending.Last.TheVariants as lasts
use Rattle.session_model.specs.declared.report.Receipt.{Receipt}
use Rattle.session_core.specs.declared.session.Session.{Session}
use Rattle.session_model.specs.Called.{IsCause}
use Rattle.session_model.specs.Endings.{ended_by, at_end, ended_last}
use Rattle.session_model.specs.Judged.{Opening, Judged, judged}
use Rattle.session_core.specs.Refusals.{IsTurnRefused}
use Rattle.session_core.specs.Beginnings.{worn_at}
use Rattle.session_core.specs.Places.{AtBook, AtRing, Stay}
use Rattle.session_core.specs.declared.places.Places.{Places}
use Rattle.session_model.specs.Owed as owed
use Rattle.session_model.specs.Owed.{came_to}
use Rattle.session_model.specs.Run.{Histories}
use Rattle.session_core.specs.Standing.{StandsFor, EndsAs, is_halted}
use Rattle.session_core.specs.Closed.{ending_by}
use Rattle.session_model.specs.Courses.{steps_of, text_of}
use Rattle.caster_places.specs.Known.{Known, StayKnown, known_at}
use Rattle.caster_link.specs.Served.{Came}
use Rattle.caster_link.specs.Wear.{Wear, IsWorn, IsWornBy, MayRefuse, IsRefusedBy}
use Rattle.session_core.proofs.ReceiptLemmas.{unended_by}
use Rattle.caster_link.proofs.ClosedLemmas.{Closes}
use Rattle.caster_link.proofs.PlaceLemmas.{known_same}
use Rattle.caster_link.proofs.CalledLemmas.{others_none}

-- ---- places only wear on

list_later : (rings later : List ℕ) (book now : ℕ) → length later ≡ length rings → AllLater rings later → book ≤ now
    → AllLater (rings ++ book ∷ []) (later ++ now ∷ [])
list_later [] [] book now long rise up zero = up
list_later [] [] book now long rise up (suc k) = omega arith
list_later [] (y ∷ later) book now long rise up k = absurd (omega (arith, long))
list_later (x ∷ rings) [] book now long rise up k = absurd (omega (arith, long))
list_later (x ∷ rings) (y ∷ later) book now long rise up zero = rise 0
list_later (x ∷ rings) (y ∷ later) book now long rise up (suc k) =
    list_later rings later book now (omega (arith, long)) (λ p. rise (suc p)) up k

-- as many places as before
pub same_length : {P : Type 0} (shape : P → RingShape) (worn : P → ℕ) (old now : List P)
    → map shape now ≡ map shape old → length (map worn now) ≡ length (map worn old)
same_length shape worn old now same =
    omega (arith, length-map now worn, length-map old worn, ap length same, length-map now shape, length-map old shape)

worn_later : {P : Type 0} (shape : P → RingShape) (worn : P → ℕ) (old now : List P) (book after : ℕ)
    → map shape now ≡ map shape old → AllLater (map worn old) (map worn now) → book ≤ after
    → AllLater (map worn old ++ book ∷ []) (map worn now ++ after ∷ [])
worn_later shape worn old now book after same rise up =
    list_later (map worn old) (map worn now) book after (same_length shape worn old now same) rise up

pub later_none : (worn : List ℕ) → AllLater worn worn
later_none worn k = omega arith

later_both : (first second third : List ℕ) → AllLater first second → AllLater second third → AllLater first third
later_both first second third one two k = omega (arith, one k, two k)

-- ---- places stay themselves

pub stay_known : {P B : Type 0} (ring : AtRing P) (book : AtBook B) (old now : Places P B) → Stay ring book old now
    → StayKnown (known_at ring.shape book.shape ring.speaks book.speaks ring.may_lack book.may_lack ring.alone
    book.alone ring.home book.home old.rings.items old.book)
    (known_at ring.shape book.shape ring.speaks book.speaks ring.may_lack book.may_lack ring.alone book.alone ring.home
    book.home now.rings.items now.book) (worn_at ring.worn book.worn old.rings.items old.book)
    (worn_at ring.worn book.worn now.rings.items now.book)
stay_known ring book old now stay = record {
  known = known_same ring.shape book.shape ring.speaks book.speaks ring.may_lack book.may_lack ring.alone book.alone
      ring.home book.home old.rings.items now.rings.items old.book now.book stay.at_rings.same stay.at_book.same;
  later = worn_later ring.shape ring.worn old.rings.items now.rings.items (book.worn old.book) (book.worn now.book)
      stay.at_rings.same.0 stay.at_rings.worn stay.at_book.worn;
}

pub stay_none : (known : Known) (worn : List ℕ) → StayKnown known known worn worn
stay_none known worn = record { known = refl; later = later_none worn }

pub stay_both : (first second third : Known) (one two three : List ℕ) → StayKnown first second one two
    → StayKnown second third two three → StayKnown first third one three
stay_both first second third one two three before after = record {
  known = after.known ∙ before.known;
  later = later_both one two three before.later after.later;
}

-- the wear of the same places, later
pub record WearsOn (old now : Wear) : Type 0 where
  pub same : now.may_lack ≡ old.may_lack
  pub later : AllLater old.turns now.turns

worn_by_on : (old now : List ℕ) (ending : Ending) → AllLater old now → IsWornBy old ending → IsWornBy now ending
worn_by_on old now (endings.Worn turns) rise by = (by.0, by.1, omega (arith, rise by.1, by.2))
worn_by_on old now _ rise by = tt

may_on : (old now : Wear) → WearsOn old now → MayRefuse old → MayRefuse now
may_on old now on (inl worn) = inl (worn.0, omega (arith, on.later worn.0, worn.1))
may_on old now on (inr lacks) = inr (subst IsTrue (sym on.same) lacks)

pub refused_on : (old now : Wear) (receipt : Receipt) → WearsOn old now → IsRefusedBy old receipt
    → IsRefusedBy now receipt
refused_on old now receipt on by = record {
  ending = worn_by_on old.turns now.turns receipt.ending on.later by.ending;
  unsettled = λ is. may_on old now on (by.unsettled is);
}

-- ---- how it ended

-- it was told to end as its session ended, or as its link did
pub record EndsSo (ended : Option Ending) (last : Last) (steps : List Step) (told : Ending) : Type 0 where
  pub j : Judged
  pub ends : EndsAs ended (ended_by (came_to j steps))
  pub is : told ≡ ending_by ended last (came_to j steps)

ending_stands : (c : Config) (opening : Opening) (me : ℕ) (alone : Bool) (start between now : Histories)
    (session : Session) (before after : LinkTold) (last : Last) (receipt : Receipt)
    (came : Came c opening me start between session before after last)
    → Closes c opening alone between now session last receipt
    → StandsFor c session opening (text_of came.whats) (steps_of came.reached.events) between came.sent
    → EndsSo session.ended last (steps_of came.reached.events) receipt.ending
ending_stands c opening me alone start between now session before after last receipt came closes (inl stands) = record {
  j = judged c opening stands.heading (text_of came.whats);
  ends = stands.ends;
  is = (closes stands.heading (text_of came.whats) (steps_of came.reached.events) between came.sent stands.is_heading
      (inl stands) (others_none between session.me)).receipt_is.ending;
}
ending_stands c opening me alone start between now session before after last receipt came closes (inr lost) = record {
  j = judged c opening came.reached.first [];
  ends = inl (ap is_halted lost.ended);
  is = (closes came.reached.first [] (steps_of came.reached.events) between came.sent came.reached.is_first
      (inr lost) (others_none between session.me)).receipt_is.ending;
}

pub ending_is : (c : Config) (opening : Opening) (me : ℕ) (alone : Bool) (start between now : Histories)
    (session : Session) (before after : LinkTold) (last : Last) (receipt : Receipt)
    (came : Came c opening me start between session before after last)
    → Closes c opening alone between now session last receipt
    → EndsSo session.ended last (steps_of came.reached.events) receipt.ending
ending_is c opening me alone start between now session before after last receipt came closes =
    ending_stands c opening me alone start between now session before after last receipt came closes came.reached.stands

-- ---- which place it was

-- an end of its link is no worn place
unworn_end : (worn : List ℕ) (it : owed.Came) → ended_by it ≡ None → IsWornBy worn (at_end it)
unworn_end worn owed.nothing unended = tt
unworn_end worn (owed.over reply end) unended = absurd cc
unworn_end worn (owed.holding terms body claim) unended = tt
unworn_end worn (owed.inside terms) unended = tt

unworn : (worn : List ℕ) (last : Last) (it : owed.Came) → ended_by it ≡ None
    → IsWornBy worn (ended_last last (at_end it))
unworn worn lasts.End it unended = unworn_end worn it unended
unworn worn lasts.ReadFault it unended = tt
unworn worn lasts.WriteFault it unended = tt

-- it stands at its place of a list that only rose
ring_still : (rings later : List ℕ) (book turns : ℕ) → length later ≡ length rings → AllLater rings later
    → Contains rings turns → (place : ℕ) × (turns ≤ get_or (later ++ book ∷ []) place 0)
ring_still rings later book turns long rise here = (
  here.0,
  omega (
    arith,
    rise here.0,
    here.2,
    get_or_default_zero rings here.0 turns here.1,
    get_or_append_left later (book ∷ []) 0 here.0 (omega (arith, here.1, long)),
  ),
)

one_is : (book turns k : ℕ) → k < 1 → slice_index_or (book ∷ []) k turns ≡ turns → book ≡ turns
one_is book turns zero less is = is
one_is book turns (suc k) less is = absurd (omega (arith, less))

at_last : (list : List ℕ) (x : ℕ) → get_or (list ++ x ∷ []) (length list) 0 ≡ x
at_last [] x = refl
at_last (y ∷ list) x = at_last list x

book_still : (later : List ℕ) (book now turns : ℕ) → book ≤ now → Contains (book ∷ []) turns
    → (place : ℕ) × (turns ≤ get_or (later ++ now ∷ []) place 0)
book_still later book now turns rise here =
    (length later, omega (arith, one_is book turns here.0 here.1 here.2, at_last later now, rise))

still : (rings later : List ℕ) (book now : ℕ) (turns : ℕ) → length later ≡ length rings → AllLater rings later
    → book ≤ now → Contains (rings ++ book ∷ []) turns
    → (place : ℕ) × (turns ≤ get_or (later ++ now ∷ []) place 0)
still rings later book now turns long rise book_rise here = from (Contains-append_cases rings (book ∷ []) turns here)
  where
    from : Contains rings turns ⊎ Contains (book ∷ []) turns → (place : ℕ)
        × (turns ≤ get_or (later ++ now ∷ []) place 0)
    from (inl ring) = ring_still rings later now turns long rise ring
    from (inr at_book) = book_still later book now turns book_rise at_book

caused_still : (rings later : List ℕ) (book now : ℕ) (ending : Ending) → length later ≡ length rings
    → AllLater rings later → book ≤ now → IsCause (rings ++ book ∷ []) ending → IsWornBy (later ++ now ∷ []) ending
caused_still rings later book now (endings.Worn turns) long rise book_rise cause =
    let at = still rings later book now turns long rise book_rise cause.0 in (cause.1, at.0, at.1)
caused_still rings later book now _ long rise book_rise cause = tt

by_cause : (rings later : List ℕ) (book now : ℕ) (ended : Option Ending) (last : Last) (it : owed.Came)
    → EndsAs ended (ended_by it) → length later ≡ length rings → AllLater rings later → book ≤ now
    → IfSome ended (IsCause (rings ++ book ∷ [])) → IsWornBy (later ++ now ∷ []) (ending_by ended last it)
by_cause rings later book now None last it ends long rise book_rise cause =
    unworn (later ++ now ∷ []) last it (unended_by None (ended_by it) ends refl)
by_cause rings later book now (Some told) last it ends long rise book_rise cause =
    caused_still rings later book now told long rise book_rise cause

pub worn_still : (rings later : List ℕ) (book now : ℕ) (ended : Option Ending) (last : Last) (steps : List Step)
    (told : Ending) → length later ≡ length rings → AllLater rings later → book ≤ now
    → IfSome ended (IsCause (rings ++ book ∷ [])) → EndsSo ended last steps told
    → IsWornBy (later ++ now ∷ []) told
worn_still rings later book now ended last steps told long rise book_rise cause so =
    subst (IsWornBy (later ++ now ∷ [])) (sym so.is)
    (by_cause rings later book now ended last (came_to so.j steps) so.ends long rise book_rise cause)

-- what was not halted has no cause to tell
pub not_ended : (worn : List ℕ) (ended : Option Ending) → ended ≡ None → IfSome ended (IsCause worn)
not_ended worn ended none = subst (λ (e : Option Ending). IfSome e (IsCause worn)) (sym none) tt

-- ---- why its closing turn was refused

is_worn : (worn : List ℕ) (turns : ℕ) → Contains worn turns → 2 ^ 62 ≤ turns → IsWorn worn
is_worn worn turns here many =
    (here.0, omega (arith, many, get_or_default_zero worn here.0 turns here.1, here.2))

-- one of these, or this one, may lack memory
lacking : (lacks : List Bool) (lack : Bool) → Contains (lacks ++ lack ∷ []) true
    → IsTrue (list_any (λ (b : Bool). b) lacks || lack)
lacking [] lack (zero, low, is) = is
lacking [] lack (suc k, low, is) = absurd (omega (arith, low))
lacking (true ∷ lacks) lack here = refl
lacking (false ∷ lacks) lack (zero, low, is) = absurd (let clash : false ≡ true = is in cc)
lacking (false ∷ lacks) lack (suc k, low, is) = lacking lacks lack (k, omega (arith, low), is)

pub may_by : (lacks : List Bool) (lack : Bool) (worn : List ℕ) (fault : TurnFault)
    → IsTurnRefused (lacks ++ lack ∷ []) worn fault
    → MayRefuse (record { may_lack = list_any (λ (b : Bool). b) lacks || lack; turns = worn })
may_by lacks lack worn (turns.Worn given) is = inl (is_worn worn given is.0 is.1)
may_by lacks lack worn turns.Memory is = inr (lacking lacks lack is)

-- places that never lack memory
pub none_lack : {P : Type 0} (places : List P)
    → (list_any (λ (b : Bool). b) (map (λ (place : P). false) places) || false) ≡ false
none_lack [] = refl
none_lack (place ∷ places) = none_lack places

pub worn_alone : (lacks : Bool) (worn : List ℕ) → lacks ≡ false
    → MayRefuse (record { may_lack = lacks; turns = worn }) → IsWorn worn
worn_alone lacks worn never (inl is) = is
worn_alone lacks worn never (inr is) = absurd (let clash : true ≡ false = sym is ∙ never in cc)
