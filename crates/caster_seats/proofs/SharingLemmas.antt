-- Two lists that go together, from their ends.
use Rattle.std.proofs.Common.{◌≡◌, ◌∙◌, ◌+◌, ◌<◌, ℕ, zero, suc, List, [], ◌∷◌, ◌++◌, length, map, refl, sym, ap, subst, take, get_or, arith, Some, slice_get, take_all, append_assoc, Bool, IsTrue, true, false, eqb, Vec, Global, ⊎_elim}
use Rattle.std.proofs.lemmas.List.{length-append, map-append}
use Rattle.std.specs.List.{All}
use Rattle.std.proofs.lemmas.Bool.{eq-eqb}
use Rattle.std.proofs.lemmas.List.Elements.{All-nil, All-cons, All-append}
use mathlib.Core.Option.{some}
use lib.ListN.{get_elem?}
use Rattle.mount_ring.specs.declared.shape.RingShape.{RingShape}
use Rattle.turn_log.specs.declared.object.Played.{Ghosts}
use Rattle.turn_log.specs.declared.lock.parts.Turn.{Turn}
use Rattle.turn_log.specs.declared.lock.parts.Pass.{Pass}
use Rattle.turn_log.specs.Lock.{IsPassOf}
use Rattle.cast_config.specs.declared.config.Config.{Config}
use Rattle.cast_config.specs.declared.config.Group.{Group}
use Rattle.cast_config.specs.declared.config.Mount.{Mount}
use Rattle.cast_config.specs.Served.{filters_of}
use Rattle.session_model.specs.Setting.{shapes, shapes_from}
use Rattle.session_core.proofs.HeldLemmas.{length_shapes}
use Rattle.caster_places.specs.Piles.{AreMatched}
use Rattle.caster_seats.specs.Sharing.{AllSay, AreDealt, AreNewPasses, IsNewPass, ring_of}
use Rattle.caster_seats.specs.declared.shared.Shared.{Shared}
use Rattle.caster_seats.specs.declared.shared.Passes.{Passes}
use Rattle.turn_log.proofs.LockLists.{at_end}
use Rattle.caster_places.proofs.ListLemmas.{matched-length, matched-snoc, at_front, at_back, all_front, all_last}

-- the last of the first list goes with the last of the other
pub record Last {X Y : Type 0} (Fits : X → Y → Type 0) (xs : List X) (x : X) (ys : List Y) : Type 0 where
  pub front : List Y
  pub last : Y
  pub is : ys ≡ front ++ last ∷ []
  pub before : AreMatched Fits xs front
  pub fits : Fits x last

pub matched-last : {X Y : Type 0} (Fits : X → Y → Type 0) (xs : List X) (x : X) (ys : List Y)
    → AreMatched Fits (xs ++ x ∷ []) ys → Last Fits xs x ys
matched-last Fits [] x [] m = absurd m
matched-last Fits [] x (y ∷ []) m = record { front = []; last = y; is = refl; before = tt; fits = m.0 }
matched-last Fits [] x (y ∷ z ∷ ys) m = absurd m.1
matched-last Fits (w ∷ xs) x [] m = absurd m
matched-last Fits (w ∷ xs) x (y ∷ ys) m =
    let rest = matched-last Fits xs x ys m.1 in record {
      front = y ∷ rest.front;
      last = rest.last;
      is = ap (λ l. y ∷ l) rest.is;
      before = (m.0, rest.before);
      fits = rest.fits;
    }

-- what holds of each that go together
pub matched-weaker : {X Y : Type 0} (Fits Less : X → Y → Type 0) (xs : List X) (ys : List Y)
    → ((x : X) (y : Y) → Fits x y → Less x y) → AreMatched Fits xs ys → AreMatched Less xs ys
matched-weaker Fits Less [] [] from m = tt
matched-weaker Fits Less [] (y ∷ ys) from m = absurd m
matched-weaker Fits Less (x ∷ xs) [] from m = absurd m
matched-weaker Fits Less (x ∷ xs) (y ∷ ys) from m = (from x y m.0, matched-weaker Fits Less xs ys from m.1)

-- ---- the last of a list

pub take_front : {X : Type 0} (front : List X) (x : X) (n : ℕ) → n ≡ length front → take n (front ++ x ∷ []) ≡ front
take_front [] x n is = ap (λ (k : ℕ). take k (x ∷ [])) is
take_front (y ∷ front) x n is =
    ap (λ (k : ℕ). take k (y ∷ front ++ x ∷ [])) is ∙ ap (λ l. y ∷ l) (take_front front x (length front) refl)

pub last_at : {X : Type 0} (front : List X) (x d : X) (n : ℕ) → n ≡ length front
    → get_or (front ++ x ∷ []) n d ≡ x
last_at [] x d n is = ap (λ (k : ℕ). get_or (x ∷ []) k d) is
last_at (y ∷ front) x d n is =
    ap (λ (k : ℕ). get_or (y ∷ front ++ x ∷ []) k d) is ∙ last_at front x d (length front) refl

-- ---- passes

module _ {V C A R S : Type 0} {g : Ghosts V C A R S} where
  -- one pass of a pile was taken
  pub dealt_left : (n : ℕ) (old passes : List (Pass V C A R S g)) (pass : Pass V C A R S g) (turn : Turn V C A R S)
      → old ≡ passes ++ pass ∷ [] → AreDealt (n + 1) old turn → AreDealt n passes turn
  dealt_left n old passes pass turn is dealt = record {
    size = omega (arith, dealt.size, ap length is, length-append passes (pass ∷ []));
    each = λ i p at. dealt.each i p (ap (λ l. get_elem? l i) is ∙ at_front passes pass p i at);
  }

  pub dealt_last : (n : ℕ) (old passes : List (Pass V C A R S g)) (pass : Pass V C A R S g) (turn : Turn V C A R S)
      → old ≡ passes ++ pass ∷ [] → AreDealt (n + 1) old turn → IsNewPass n pass turn
  dealt_last n old passes pass turn is dealt =
      let long : length passes ≡ n = omega (arith, dealt.size, ap length is, length-append passes (pass ∷ [])) in
      subst (λ (k : ℕ). IsNewPass k pass turn) long
      (dealt.each (length passes) pass (ap (λ l. get_elem? l (length passes)) is ∙ at_back passes pass))

-- ---- piles of passes

module _ {V C A R S : Type 0} {g : Ghosts V C A R S} where
  -- each of these piles has so many passes of the lock at its place
  abbrev pub AllDealt : ℕ → List (Vec (Pass V C A R S g) Global) → List (Turn V C A R S) → Type 0
  AllDealt n piles locks = AreMatched (λ (pile : Vec (Pass V C A R S g) Global) (lock : Turn V C A R S).
      AreDealt n pile.items lock) piles locks

  -- the last pile and the last lock
  pub record LastPile (n : ℕ) (rest : List (Vec (Pass V C A R S g) Global)) (pile : Vec (Pass V C A R S g) Global)
      (locks : List (Turn V C A R S)) : Type 0 where
    pub front : List (Turn V C A R S)
    pub last : Turn V C A R S
    pub is : locks ≡ front ++ last ∷ []
    pub long : length rest ≡ length front
    pub before : AllDealt (n + 1) rest front
    pub dealt : AreDealt (n + 1) pile.items last

  pub last_pile : (n : ℕ) (old rest : List (Vec (Pass V C A R S g) Global)) (pile : Vec (Pass V C A R S g) Global)
      (locks : List (Turn V C A R S)) → old ≡ rest ++ pile ∷ [] → AllDealt (n + 1) old locks
      → LastPile n rest pile locks
  last_pile n old rest pile locks is dealt =
      let one = matched-last (λ (p : Vec (Pass V C A R S g) Global) (t : Turn V C A R S). AreDealt (n + 1) p.items t)
      rest pile locks (subst (λ l. AllDealt (n + 1) l locks) is dealt) in record {
        front = one.front;
        last = one.last;
        is = one.is;
        long = matched-length (λ (p : Vec (Pass V C A R S g) Global) (t : Turn V C A R S). AreDealt (n + 1) p.items t)
            rest one.front one.before;
        before = one.before;
        dealt = one.fits;
      }

  -- the locks but the last
  pub front_of : (n : ℕ) (rest : List (Vec (Pass V C A R S g) Global)) (pile : Vec (Pass V C A R S g) Global)
      (locks : List (Turn V C A R S)) (count : ℕ) (lp : LastPile n rest pile locks) → count ≡ length rest
      → take count locks ≡ lp.front
  front_of n rest pile locks count lp is =
      ap (take count) lp.is ∙ take_front lp.front lp.last count (is ∙ lp.long)

  pub before_of : (n : ℕ) (rest : List (Vec (Pass V C A R S g) Global)) (pile : Vec (Pass V C A R S g) Global)
      (locks part : List (Turn V C A R S)) (lp : LastPile n rest pile locks) → part ≡ lp.front
      → AllDealt (n + 1) rest part
  before_of n rest pile locks part lp is = subst (AllDealt (n + 1) rest) (sym is) lp.before

  pub piles_left : (n : ℕ) (rest after new : List (Vec (Pass V C A R S g) Global))
      (pile less : Vec (Pass V C A R S g) Global) (pass : Pass V C A R S g) (locks part : List (Turn V C A R S))
      (lp : LastPile n rest pile locks) → part ≡ lp.front → pile.items ≡ less.items ++ pass ∷ []
      → AllDealt n after part → new ≡ after ++ less ∷ [] → AllDealt n new locks
  piles_left n rest after new pile less pass locks part lp is popped dealt pushed =
      subst (λ l. AllDealt n l locks) (sym pushed)
      (subst (AllDealt n (after ++ less ∷ [])) (sym lp.is)
      (matched-snoc (λ (p : Vec (Pass V C A R S g) Global) (t : Turn V C A R S). AreDealt n p.items t) after lp.front
      less lp.last (subst (AllDealt n after) is dealt)
      (dealt_left n pile.items less.items pass lp.last popped lp.dealt)))

  pub passes_taken : (n : ℕ) (rest : List (Vec (Pass V C A R S g) Global)) (pile : Vec (Pass V C A R S g) Global)
      (less : List (Pass V C A R S g)) (pass : Pass V C A R S g) (more : List (Pass V C A R S g))
      (locks part : List (Turn V C A R S)) (lp : LastPile n rest pile locks) → part ≡ lp.front
      → pile.items ≡ less ++ pass ∷ [] → AreMatched (IsNewPass n) more part
      → AreMatched (IsNewPass n) (more ++ pass ∷ []) locks
  passes_taken n rest pile less pass more locks part lp is popped fresh =
      subst (AreMatched (IsNewPass n) (more ++ pass ∷ [])) (sym lp.is)
      (matched-snoc (IsNewPass n) more lp.front pass lp.last (subst (AreMatched (IsNewPass n) more) is fresh)
      (dealt_last n pile.items less pass lp.last popped lp.dealt))

  -- a pile that has passes is not empty
  pub not_empty : (n : ℕ) (rest : List (Vec (Pass V C A R S g) Global)) (pile : Vec (Pass V C A R S g) Global)
      (locks : List (Turn V C A R S)) → LastPile n rest pile locks → 0 < length pile.items
  not_empty n rest pile locks lp = omega (arith, lp.dealt.size)

  -- the last lock that is sat down at
  pub record LastSeat (rest : List (Pass V C A R S g)) (pass : Pass V C A R S g) (locks : List (Turn V C A R S))
      : Type 0 where
    pub front : List (Turn V C A R S)
    pub last : Turn V C A R S
    pub is : locks ≡ front ++ last ∷ []
    pub long : length rest ≡ length front
    pub before : AreMatched IsPassOf rest front
    pub fits : IsPassOf pass last

  pub last_seat : (old rest : List (Pass V C A R S g)) (pass : Pass V C A R S g) (locks : List (Turn V C A R S))
      → old ≡ rest ++ pass ∷ [] → AreMatched IsPassOf old locks → LastSeat rest pass locks
  last_seat old rest pass locks is matched =
      let one = matched-last IsPassOf rest pass locks (subst (λ l. AreMatched IsPassOf l locks) is matched) in record {
        front = one.front;
        last = one.last;
        is = one.is;
        long = matched-length IsPassOf rest one.front one.before;
        before = one.before;
        fits = one.fits;
      }

  pub seats_before : (rest : List (Pass V C A R S g)) (pass : Pass V C A R S g) (locks : List (Turn V C A R S))
      (count : ℕ) (ls : LastSeat rest pass locks) → count ≡ length rest → take count locks ≡ ls.front
  seats_before rest pass locks count ls is =
      ap (take count) ls.is ∙ take_front ls.front ls.last count (is ∙ ls.long)

-- what is said of each, with one more
pub mapped_more : {X Y Z : Type 0} (f : X → Z) (h : Y → Z) (old mid new : List X) (x : X) (locks front part : List Y)
    (last : Y) → map f mid ≡ map f old ++ map h part → part ≡ front → locks ≡ front ++ last ∷ []
    → new ≡ mid ++ x ∷ [] → f x ≡ h last → map f new ≡ map f old ++ map h locks
mapped_more f h old mid new x locks front part last so_far is all pushed same =
    ap (map f) pushed ∙ map-append f mid (x ∷ []) ∙ ap (λ l. l ++ f x ∷ []) (so_far ∙ ap (λ l. map f old ++ map h l) is)
    ∙ append_assoc (map f old) (map h front) (f x ∷ [])
    ∙ ap (λ z. map f old ++ (map h front ++ z ∷ [])) same
    ∙ ap (λ l. map f old ++ l) (sym (map-append h front (last ∷ [])) ∙ ap (map h) (sym all))

-- a number that is not above 0
pub zero_by : (n : ℕ) → (0 < n → false ≡ true) → n ≡ 0
zero_by zero no_more = refl
zero_by (suc n) no_more = let clash : false ≡ true = no_more (omega arith) in absurd cc

-- ---- the rings of a configuration

shapes_next : (groups : List Group) (n : ℕ) (mounts : List Mount) (m : ℕ) → m < length mounts
    → take (m + 1) (shapes_from groups n mounts)
    ≡ take m (shapes_from groups n mounts) ++ ring_of groups (n + m) (slice_get mounts m) ∷ []
shapes_next groups n [] m within = absurd (omega (arith, within))
shapes_next groups n (mount ∷ more) zero within =
    ap (λ (k : ℕ). ring_of groups k (Some mount) ∷ []) (let e : n ≡ n + 0 = omega arith in e)
shapes_next groups n (mount ∷ more) (suc m) within =
    let here : RingShape = record { capacity = mount.ring; filters = filters_of groups n } in
    let shift : (n + 1) + m ≡ n + suc m = omega arith in
    ap (λ (k : ℕ). take k (shapes_from groups n (mount ∷ more))) (let e : suc m + 1 ≡ suc (m + 1) = omega arith in e)
    ∙ ap (λ l. here ∷ l) (shapes_next groups (n + 1) more m (omega (arith, within)))
    ∙ ap (λ (k : ℕ). here ∷ take m (shapes_from groups (n + 1) more) ++ ring_of groups k (slice_get more m) ∷ []) shift

-- one ring more
pub shapes_more : {T : Type 0} (shape : T → RingShape) (c : Config) (turns : List T) (turn : T) (m : ℕ)
    → m < length c.mount → map shape turns ≡ take m (shapes c)
    → shape turn ≡ ring_of c.group m (slice_get c.mount m) → map shape (turns ++ turn ∷ []) ≡ take (m + 1) (shapes c)
shapes_more shape c turns turn m within so_far is =
    map-append shape turns (turn ∷ []) ∙ ap (λ l. l ++ shape turn ∷ []) so_far
    ∙ ap (λ (s : RingShape). take m (shapes c) ++ s ∷ []) (is ∙ from_zero)
    ∙ sym (shapes_next c.group 0 c.mount m within) where
      from_zero : ring_of c.group m (slice_get c.mount m) ≡ ring_of c.group (0 + m) (slice_get c.mount m)
      from_zero = ap (λ (k : ℕ). ring_of c.group k (slice_get c.mount m)) (let e : m ≡ 0 + m = omega arith in e)

pub shapes_all : {T : Type 0} (shape : T → RingShape) (c : Config) (turns : List T) (m : ℕ) → m ≡ length c.mount
    → map shape turns ≡ take m (shapes c) → map shape turns ≡ shapes c
shapes_all shape c turns m is so_far =
    so_far ∙ ap (λ (k : ℕ). take k (shapes c)) (is ∙ sym (length_shapes c))
    ∙ take_all (length (shapes c)) (shapes c) (omega arith)

-- ---- facts of each

-- a seat more speaks for this caller
pub speaks_more : {X P : Type 0} (speaks : X → ℕ → Bool) (number_of : P → ℕ) (number : ℕ) (mid new : List X) (seat : X)
    (passes rest : List P) (pass : P) → passes ≡ rest ++ pass ∷ [] → new ≡ mid ++ seat ∷ []
    → All (λ (p : P). number_of p ≡ number) passes
    → (All (λ (p : P). number_of p ≡ number) rest → AllSay number (map speaks mid))
    → ((k : ℕ) → speaks seat k ≡ eqb k (number_of pass)) → AllSay number (map speaks new)
speaks_more {X} {P} speaks number_of number mid new seat passes rest pass popped pushed numbered before speaks_for =
    let all : All (λ (p : P). number_of p ≡ number) (rest ++ pass ∷ []) =
    subst (All (λ (p : P). number_of p ≡ number)) popped numbered in
    let here : number_of pass ≡ number = all_last (λ (p : P). number_of p ≡ number) rest pass all in
    let own : speaks seat number ≡ true =
    speaks_for number ∙ eq-eqb number (number_of pass) (sym here) in
    let is : map speaks new ≡ map speaks mid ++ speaks seat ∷ [] =
    ap (map speaks) pushed ∙ map-append speaks mid (seat ∷ []) in
    subst (AllSay number) (sym is)
    (All-append (λ (s : ℕ → Bool). IsTrue (s number)) (map speaks mid) (speaks seat ∷ [])
    (before (all_front (λ (p : P). number_of p ≡ number) rest pass all))
    (All-cons (λ (s : ℕ → Bool). IsTrue (s number)) (speaks seat) [] own
    (All-nil (λ (s : ℕ → Bool). IsTrue (s number)))))

-- no place speaks for another
pub none_say : {X : Type 0} (speaks : X → ℕ → Bool) (places : List X) (me : ℕ) → places ≡ []
    → AllSay me (map speaks places)
none_say speaks places me is =
    subst (AllSay me) (sym (ap (map speaks) is)) (All-nil (λ (s : ℕ → Bool). IsTrue (s me)))

-- what is said behind nothing
pub mapped_none : {X Z : Type 0} (f : X → Z) (old : List X) (all more : List Z) → all ≡ map f old ++ more → old ≡ []
    → all ≡ more
mapped_none f old all more is none = is ∙ ap (λ l. map f l ++ more) none

-- ---- passes that are handed out

-- what one worker gets
pub new_passes : (n : ℕ) (passes : Passes) (shared : Shared) (count : ℕ) → count ≡ n → (fresh : List _)
    → passes.rings.items ≡ fresh → AreMatched (IsNewPass count) fresh shared.rings.items
    → IsNewPass n passes.book shared.book → AreNewPasses n passes shared
new_passes n passes shared count is fresh taken matched book = record {
  rings = subst (λ l. AreMatched (IsNewPass n) l shared.rings.items) (sym taken)
      (subst (λ (k : ℕ). AreMatched (IsNewPass k) fresh shared.rings.items) is matched);
  book = book;
}

-- those of one worker more
pub handed_more : (shared : Shared) (list : List Passes) (last : Passes) (n : ℕ) → length list ≡ n
    → ((number : ℕ) (passes : Passes) → get_elem? list number ≡ some passes → AreNewPasses number passes shared)
    → AreNewPasses n last shared
    → (number : ℕ) (passes : Passes) → get_elem? (list ++ last ∷ []) number ≡ some passes
    → AreNewPasses number passes shared
handed_more shared list last n long each fresh number passes at =
    ⊎_elim (λ before. each number passes before)
    (λ here. subst (λ (p : Passes). AreNewPasses number p shared) here.1
    (subst (λ (k : ℕ). AreNewPasses k last shared) (sym (here.0 ∙ long)) fresh))
    (at_end list last passes number at)
