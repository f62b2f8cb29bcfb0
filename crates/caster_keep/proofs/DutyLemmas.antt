-- Works at gates and behind them one at the console: as they begin, and as they have ended.
use Rattle.std.proofs.Common.{◌≡◌, ◌∙◌, ◌+◌, ◌++◌, ℕ, suc, Bool, List, [], ◌∷◌, length, map, refl, sym, ap, subst, arith, append-nil, append_assoc, length-append}
use Rattle.std.specs.Prelude.{Option, Result, Ok, Err, IfOk, OnErr}
use Rattle.std.specs.List.{All}
use Rattle.std.proofs.lemmas.List.{length-map, map-append}
use Rattle.std.proofs.lemmas.List.Elements.{All-nil, All-cons, All-head, All-tail}
use mathlib.Core.Option.{some}
use lib.ListN.{get_elem?}
use Rattle.turn_log.specs.History.{History, own}
use Rattle.cast_io.specs.Told.{DoorTold}
use Rattle.cast_console.specs.Consoles.{ConsoleTold}
use Rattle.caster_press.specs.declared.line.Line.{Line}
use Rattle.caster_press.specs.declared.press.OutputStart.{OutputStart}
use Rattle.caster_press.specs.Callers.{HaveWritten}
use Rattle.caster_keep.specs.declared.duty.Duty.{Duty}
use Rattle.caster_keep.specs.declared.duty.Duty.TheVariants as duties
use Rattle.caster_keep.specs.Stations.{BoothTold, HasDone, HasWaitedOn, HasWorkedOn, MayBegin, PostTold, consoles_in, gates_in}
use Rattle.caster_keep.proofs.TogetherLemmas.{AllWorked}

-- ---- which of them are where

-- works at gates, and behind them one at the console
abbrev pub all_duties : {A B : Type 0} → List A → B → List (Duty A B)
all_duties {A} {B} gates console = map (λ (work : A). duties.Gate work) gates ++ duties.Console console ∷ []

pub gates_of_all : {A B : Type 0} (gates : List A) (console : B) → gates_in (all_duties gates console) ≡ gates
gates_of_all [] console = refl
gates_of_all (work ∷ gates) console = ap (λ l. work ∷ l) (gates_of_all gates console)

pub consoles_of_all : {A B : Type 0} (gates : List A) (console : B)
    → consoles_in (all_duties gates console) ≡ console ∷ []
consoles_of_all [] console = refl
consoles_of_all (work ∷ gates) console = consoles_of_all gates console

pub length_all : {A B : Type 0} (gates : List A) (console : B) → length (all_duties gates console) ≡ length gates + 1
length_all [] console = refl
length_all (work ∷ gates) console = omega (arith, length_all gates console)

pub gates_in-append : {A B : Type 0} (first second : List (Duty A B))
    → gates_in (first ++ second) ≡ gates_in first ++ gates_in second
gates_in-append [] second = refl
gates_in-append (duties.Gate work ∷ first) second = ap (λ l. work ∷ l) (gates_in-append first second)
gates_in-append (duties.Console work ∷ first) second = gates_in-append first second

pub consoles_in-append : {A B : Type 0} (first second : List (Duty A B))
    → consoles_in (first ++ second) ≡ consoles_in first ++ consoles_in second
consoles_in-append [] second = refl
consoles_in-append (duties.Gate work ∷ first) second = consoles_in-append first second
consoles_in-append (duties.Console work ∷ first) second = ap (λ l. work ∷ l) (consoles_in-append first second)

-- the last of them is at a gate, behind those before it
pub gates_last : {A B : Type 0} (all front : List (Duty A B)) (last : Duty A B) (work : A) → all ≡ front ++ last ∷ []
    → last ≡ duties.Gate work → gates_in all ≡ gates_in front ++ work ∷ []
gates_last {A} {B} all front last work split is =
    ap gates_in (split ∙ ap (λ (x : Duty A B). front ++ x ∷ []) is)
    ∙ gates_in-append front (duties.Gate work ∷ [])

pub consoles_before : {A B : Type 0} (all front : List (Duty A B)) (last : Duty A B) (work : A)
    → all ≡ front ++ last ∷ [] → last ≡ duties.Gate work → consoles_in all ≡ consoles_in front
consoles_before {A} {B} all front last work split is =
    ap consoles_in (split ∙ ap (λ (x : Duty A B). front ++ x ∷ []) is)
    ∙ consoles_in-append front (duties.Gate work ∷ []) ∙ append-nil (consoles_in front)

-- or it is at a console
pub consoles_last : {A B : Type 0} (all front : List (Duty A B)) (last : Duty A B) (work : B)
    → all ≡ front ++ last ∷ [] → last ≡ duties.Console work → consoles_in all ≡ consoles_in front ++ work ∷ []
consoles_last {A} {B} all front last work split is =
    ap consoles_in (split ∙ ap (λ (x : Duty A B). front ++ x ∷ []) is)
    ∙ consoles_in-append front (duties.Console work ∷ [])

pub gates_before : {A B : Type 0} (all front : List (Duty A B)) (last : Duty A B) (work : B)
    → all ≡ front ++ last ∷ [] → last ≡ duties.Console work → gates_in all ≡ gates_in front
gates_before {A} {B} all front last work split is =
    ap gates_in (split ∙ ap (λ (x : Duty A B). front ++ x ∷ []) is)
    ∙ gates_in-append front (duties.Console work ∷ []) ∙ append-nil (gates_in front)

-- how many of them are where
pub gates_many : {A B : Type 0} (all front : List (Duty A B)) (last : Duty A B) → all ≡ front ++ last ∷ []
    → length (gates_in all) ≡ length (gates_in front) + length (gates_in (last ∷ []))
gates_many all front last split =
    ap (λ (l : List (Duty _ _)). length (gates_in l)) split ∙ ap length (gates_in-append front (last ∷ []))
    ∙ length-append (gates_in front) (gates_in (last ∷ []))

pub consoles_many : {A B : Type 0} (all front : List (Duty A B)) (last : Duty A B) → all ≡ front ++ last ∷ []
    → length (consoles_in all) ≡ length (consoles_in front) + length (consoles_in (last ∷ []))
consoles_many all front last split =
    ap (λ (l : List (Duty _ _)). length (consoles_in l)) split
    ∙ ap length (consoles_in-append front (last ∷ []))
    ∙ length-append (consoles_in front) (consoles_in (last ∷ []))

-- none took a post
pub none_posted : {X Y Z : Type 0} (f : Y → Z) (told : X → Y) (hands : List X) → length hands ≡ 0
    → [] ≡ map f (map told hands)
none_posted f told [] none = refl
none_posted f told (hand ∷ hands) none = absurd (omega (arith, none))

-- they are begun where there were none before
pub begun_all : {A B : Type 0} (gates : List A) (console : B) (none before all : List (Duty A B)) → none ≡ []
    → before ≡ none ++ map (λ (work : A). duties.Gate work) gates → all ≡ before ++ duties.Console console ∷ []
    → all ≡ all_duties gates console
begun_all {A} gates console none before all empty gates_are behind =
    behind
    ∙ ap (λ (l : List (Duty _ _)). l ++ duties.Console console ∷ [])
    (gates_are ∙ ap (λ (l : List (Duty _ _)). l ++ map (λ (work : A). duties.Gate work) gates) empty)

-- the last took its post behind those that took theirs before
pub posts-snoc : {A B X Y Z : Type 0} (tell : A → Z) (f : Y → Z) (told : X → Y) (all front : List X) (last : X)
    (old mid new : List (Duty A B)) (more : List A) (post : A) → all ≡ front ++ last ∷ []
    → mid ≡ old ++ map (λ (work : A). duties.Gate work) more → map tell more ≡ map f (map told front)
    → new ≡ mid ++ duties.Gate post ∷ [] → tell post ≡ f (told last)
    → (list : List A) × (new ≡ old ++ map (λ (work : A). duties.Gate work) list)
    × (map tell list ≡ map f (map told all))
posts-snoc {A} tell f told all front last old mid new more post split before told_so behind same = (
  more ++ post ∷ [],
  behind ∙ ap (λ (l : List (Duty _ _)). l ++ duties.Gate post ∷ []) before
      ∙ append_assoc old (map (λ (work : A). duties.Gate work) more) (duties.Gate post ∷ [])
      ∙ ap (λ (l : List (Duty _ _)). old ++ l) (sym (map-append (λ (work : A). duties.Gate work) more (post ∷ []))),
  map-append tell more (post ∷ []) ∙ ap (λ l. l ++ tell post ∷ []) told_so
      ∙ ap (λ z. map f (map told front) ++ z ∷ []) same
      ∙ sym (ap (λ (l : List _). map f (map told l)) split ∙ ap (map f) (map-append told front (last ∷ []))
      ∙ map-append f (map told front) (told last ∷ [])),
)

-- each of them may begin
may_all : {A B : Type 0} (at_gate : A → Type 0) (at_console : B → Type 0) (gates : List A) (console : B)
    → All at_gate gates → at_console console → All (MayBegin at_gate at_console) (all_duties gates console)
may_all {A} {B} at_gate at_console [] console may last =
    All-cons (MayBegin at_gate at_console) (duties.Console console) [] last (All-nil (MayBegin at_gate at_console))
may_all {A} {B} at_gate at_console (work ∷ gates) console may last =
    All-cons (MayBegin at_gate at_console) (duties.Gate work) (all_duties gates console)
    (All-head at_gate work gates may)
    (may_all at_gate at_console gates console (All-tail at_gate work gates may) last)

pub may_begin : {A B : Type 0} (at_gate : A → Type 0) (at_console : B → Type 0) (gates : List A) (console : B)
    (all : List (Duty A B)) → all ≡ all_duties gates console → All at_gate gates → at_console console
    → All (MayBegin at_gate at_console) all
may_begin at_gate at_console gates console all are may last =
    subst (All (MayBegin at_gate at_console)) (sym are) (may_all at_gate at_console gates console may last)

-- the one that was popped is the only one
pub one_popped : {B : Type 0} (one x : B) (front : List B) → one ∷ [] ≡ front ++ x ∷ [] → (x ≡ one) × (front ≡ [])
one_popped one x [] is = let same : one ≡ x = cc in (sym same, refl)
one_popped one x (y ∷ front) is =
    absurd (let long : 1 ≡ suc (length (front ++ x ∷ [])) = ap length is in
    omega (arith, long, length-append front (x ∷ [])))

-- the one that is popped of those at the console is the only one
pub the_one : {B : Type 0} (ended : List B) (one : B) (none booths front : List B) (x : B) → ended ≡ one ∷ []
    → none ≡ [] → booths ≡ none ++ ended → booths ≡ front ++ x ∷ [] → ended ≡ x ∷ []
the_one {B} ended one none booths front x is empty are popped =
    is ∙ ap (λ (b : B). b ∷ []) (sym (one_popped one x front
    (sym is ∙ sym (ap (λ (l : List B). l ++ ended) empty) ∙ sym are ∙ popped)).0)

-- where nothing was done, it is the one that was there before
pub booth_still : {A B : Type 0} (gates : List A) (console x : B) (begun ended : List (Duty A B))
    (none booths front : List B) → begun ≡ all_duties gates console → ended ≡ begun → none ≡ []
    → booths ≡ none ++ consoles_in ended → booths ≡ front ++ x ∷ [] → x ≡ console
booth_still {A} {B} gates console x begun ended none booths front are same empty is popped =
    (one_popped console x front
    (sym (consoles_of_all gates console) ∙ sym (ap consoles_in (same ∙ are))
    ∙ sym (ap (λ (l : List B). l ++ consoles_in ended) empty) ∙ sym is ∙ popped)).0

-- ---- what they did

module _ {G C A B : Type 0} (told : G → DoorTold) (over : G → Bool) (peer : G → List ℕ) (heard : C → ConsoleTold)
    (at_gate : A → PostTold G) (at_console : B → BoothTold C) where
  -- what each of them did
  abbrev pub DidHis : Duty A B → Duty A B → List Line → Type 0
  DidHis old new lines =
      HasDone (λ (a b : A) (l : List Line). HasWorkedOn told over peer (at_gate a) (at_gate b) l)
      (λ (a b : B) (l : List Line). HasWaitedOn heard (at_console a) (at_console b) l) old new lines

  -- These ended, who began as works at gates, numbered from this number on, and one at the console
  -- behind them: each did its own, and is where it was.
  pub record Ended (whole : History Line) (n : ℕ) (gates : List A) (console : B) (ended : List (Duty A B))
      : Type 0 where
    pub left : List A
    pub last : B
    pub are : ended ≡ all_duties left last
    pub worked : AllWorked told over peer whole n (map at_gate gates) (map at_gate left)
    pub waited : HasWaitedOn heard (at_console console) (at_console last) (own (n + length gates) whole)

  further : (n k : ℕ) → n + 1 + k ≡ n + suc k
  further n k = omega arith

  ended_from : (whole : History Line) (n : ℕ) (gates : List A) (console : B) (ended : List (Duty A B))
      → length ended ≡ length gates + 1
      → ((k : ℕ) (old new : Duty A B) → get_elem? (all_duties gates console) k ≡ some old
      → get_elem? ended k ≡ some new → DidHis old new (own (n + k) whole))
      → Ended whole n gates console ended
  ended_from whole n [] console [] long each = absurd (omega (arith, long))
  ended_from whole n [] console (duties.Gate work ∷ more) long each =
      absurd (each 0 (duties.Console console) (duties.Gate work) refl refl)
  ended_from whole n [] console (duties.Console last ∷ []) long each =
      let did = each 0 (duties.Console console) (duties.Console last) refl refl in record {
        left = [];
        last = last;
        are = refl;
        worked = tt;
        waited = did;
      }
  ended_from whole n [] console (duties.Console last ∷ x ∷ more) long each = absurd (omega (arith, long))
  ended_from whole n (work ∷ gates) console [] long each = absurd (omega (arith, long))
  ended_from whole n (work ∷ gates) console (duties.Console last ∷ more) long each =
      absurd (each 0 (duties.Gate work) (duties.Console last) refl refl)
  ended_from whole n (work ∷ gates) console (duties.Gate left ∷ more) long each =
      let did = each 0 (duties.Gate work) (duties.Gate left) refl refl in
      let rest = ended_from whole (n + 1) gates console more (omega (arith, long)) (λ k old new was now.
      subst (λ (i : ℕ). DidHis old new (own i whole)) (sym (further n k)) (each (suc k) old new was now)) in record {
        left = left ∷ rest.left;
        last = rest.last;
        are = ap (λ l. duties.Gate left ∷ l) rest.are;
        worked = (
          subst (λ (i : ℕ). HasWorkedOn told over peer (at_gate work) (at_gate left) (own i whole))
              (let e : n + 0 ≡ n = omega arith in e) did,
          rest.worked,
        );
        waited = subst (λ (i : ℕ). HasWaitedOn heard (at_console console) (at_console rest.last) (own i whole))
            (further n (length gates)) rest.waited;
      }

  -- the works at a press ended so
  pub ended_all : (start : OutputStart) (torn : Bool) (taken : Option (List ℕ)) (faults : ℕ) (gates : List A) (console : B)
      (begun ended : List (Duty A B)) → begun ≡ all_duties gates console
      → (written : HaveWritten DidHis start torn taken faults begun ended)
      → Ended written.whole 0 gates console ended
  ended_all start torn taken faults gates console begun ended are written =
      ended_from written.whole 0 gates console ended
      (written.count ∙ ap length are ∙ length_all gates console)
      (λ k old new was now.
      subst (λ (i : ℕ). DidHis old new (own i written.whole)) (from_zero k)
      (written.each k old new (ap (λ (l : List (Duty A B)). get_elem? l k) are ∙ was) now)) where
        from_zero : (k : ℕ) → k ≡ 0 + k
        from_zero k = omega arith

  pub as_many_worked : (whole : History Line) (n : ℕ) (olds news : List (PostTold G))
      → AllWorked told over peer whole n olds news → length news ≡ length olds
  as_many_worked whole n [] [] worked = refl
  as_many_worked whole n [] (new ∷ news) worked = absurd worked
  as_many_worked whole n (old ∷ olds) [] worked = absurd worked
  as_many_worked whole n (old ∷ olds) (new ∷ news) worked =
      ap suc (as_many_worked whole (n + 1) olds news worked.1)

  -- where they are behind the press, whatever it answered
  pub record Left (gates : List A) (ended : List (Duty A B)) : Type 0 where
    pub left : List A
    pub last : B
    pub are : ended ≡ all_duties left last
    pub many : length left ≡ length gates

  pub left_all : {T E : Type 0} (result : Result T E) (start : OutputStart) (torn : T → Bool) (taken : T → Option (List ℕ))
      (faults : T → ℕ) (gates : List A) (console : B) (begun ended : List (Duty A B))
      → begun ≡ all_duties gates console
      → IfOk result (λ closed. HaveWritten DidHis start (torn closed) (taken closed) (faults closed) begun ended)
      → OnErr result (ended ≡ begun) → Left gates ended
  left_all (Ok closed) start torn taken faults gates console begun ended are written kept =
      let all = ended_all start (torn closed) (taken closed) (faults closed) gates console begun ended are written in
      record {
        left = all.left;
        last = all.last;
        are = all.are;
        many =
            sym (length-map all.left at_gate)
            ∙ as_many_worked written.whole 0 (map at_gate gates) (map at_gate all.left) all.worked
            ∙ length-map gates at_gate;
      }
  left_all (Err fault) start torn taken faults gates console begun ended are written kept = record {
    left = gates;
    last = console;
    are = kept ∙ are;
    many = refl;
  }

-- those of one list are at gates, and behind them one is at the console
pub gates_left : {A B : Type 0} (left : List A) (last : B) (ended : List (Duty A B)) → ended ≡ all_duties left last
    → gates_in ended ≡ left
gates_left left last ended are = ap gates_in are ∙ gates_of_all left last

pub console_left : {A B : Type 0} (left : List A) (last : B) (ended : List (Duty A B)) → ended ≡ all_duties left last
    → consoles_in ended ≡ last ∷ []
console_left left last ended are = ap consoles_in are ∙ consoles_of_all left last
