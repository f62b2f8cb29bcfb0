-- What the porter said.
use Rattle.std.proofs.Common.{◌≡◌, ◌∙◌, ◌+◌, ◌++◌, ℕ, suc, Bool, List, [], ◌∷◌, length, map, refl, sym, ap, subst, arith, append-nil, append_assoc, length-append}
use Rattle.std.specs.List.{All, flat_map}
use Rattle.std.proofs.lemmas.List.{map-append}
use Rattle.std.proofs.lemmas.List.Elements.{All-nil, All-cons, All-append, All-head, All-tail}
use Rattle.std.proofs.lemmas.Grind.{flat_map-append}
use Rattle.turn_log.specs.History.{History}
use Rattle.mount_ring.specs.declared.call.RingCall.{RingCall}
use Rattle.mount_ring.specs.declared.shape.RingShape.{RingShape}
use Rattle.session_calls.specs.Steps.{Step}
use Rattle.session_calls.specs.Rings.{AllLater, Went, all_alone}
use Rattle.session_calls.proofs.WentLemmas.{went_none}
use Rattle.rover_session.specs.Places.{AtRing, StayAtRings}
use Rattle.cast_config.specs.declared.config.Config.{Config}
use Rattle.cast_console.specs.Consoles.{ConsoleTold}
use Rattle.caster_press.specs.declared.line.Line.{Line}
use Rattle.caster_press.specs.Lines.{text_of}
use Rattle.caster_press.specs.Places.{HasPut}
use Rattle.keep_lines.specs.Puts.{HasTold}
use Rattle.keep_lines.specs.Lines.{now_end_line, now_workers_line}
use Rattle.keep_lines.proofs.PutLemmas.{told_as, told_none, told_one, told_then}
use Rattle.keep_porter.specs.declared.found.Found.{Found}
use Rattle.keep_porter.specs.Porters.{Answer, AreFound, IsFound, IsOfAll, answer_lines, any_lacks, busy_of, last_lines, mount_line, mount_lines, steps_at, steps_from, steps_of}
use Rattle.keep_porter.proofs.LookLemmas.{all_found_on, went_on_at}

-- ---- one mountpoint more

further : (n k : ℕ) → n + 1 + k ≡ n + suc k
further n k = omega arith

steps-snoc : (n : ℕ) (found : List Found) (one : Found)
    → steps_from n (found ++ one ∷ []) ≡ steps_from n found ++ steps_at (n + length found) one
steps-snoc n [] one =
    append-nil (steps_at n one) ∙ ap (λ (k : ℕ). steps_at k one) (let e : n ≡ n + 0 = omega arith in e)
steps-snoc n (f ∷ found) one =
    ap (λ (l : List Step). steps_at n f ++ l)
    (steps-snoc (n + 1) found one
    ∙ ap (λ (k : ℕ). steps_from (n + 1) found ++ steps_at k one) (further n (length found)))
    ∙ sym (append_assoc (steps_at n f) (steps_from (n + 1) found) (steps_at (n + suc (length found)) one))

lines-snoc : (c : Config) (n : ℕ) (found : List Found) (one : Found)
    → mount_lines c n (found ++ one ∷ []) ≡ mount_lines c n found ++ mount_line c (n + length found) one ∷ []
lines-snoc c n [] one =
    ap (λ (k : ℕ). mount_line c k one ∷ []) (let e : n ≡ n + 0 = omega arith in e)
lines-snoc c n (f ∷ found) one =
    ap (λ (l : List (List ℕ)). mount_line c n f ∷ l)
    (lines-snoc c (n + 1) found one
    ∙ ap (λ (k : ℕ). mount_lines c (n + 1) found ++ mount_line c k one ∷ []) (further n (length found)))

-- so many mountpoints were found, by these calls, and their lines were put
pub record Said (shapes : List RingShape) (alone : Bool) (old now : List (History RingCall)) (me : ℕ) (lacks : Bool)
    (worn : List ℕ) (c : Config) (by n : ℕ) (sheet later : History Line) : Type 0 where
  pub found : List Found
  pub count : length found ≡ n
  pub went : Went shapes alone old now me (steps_from 0 found)
  pub all : All (IsFound lacks worn) found
  pub told : HasTold by (mount_lines c 0 found) sheet later

pub said_none : (shapes : List RingShape) (alone : Bool) (histories : List (History RingCall)) (me : ℕ)
    (lacks : Bool) (worn : List ℕ) (c : Config) (by : ℕ) (sheet : History Line)
    → Said shapes alone histories histories me lacks worn c by 0 sheet sheet
said_none shapes alone histories me lacks worn c by sheet = record {
  found = [];
  count = refl;
  went = went_none shapes alone histories me;
  all = All-nil (IsFound lacks worn);
  told = told_none by sheet sheet refl;
}

-- what was found so far and one more, at places that stayed
abbrev pub SaidAt : {P : Type 0} → AtRing P → List P → List P → ℕ → Config → ℕ → ℕ → History Line → History Line
    → Type 0
SaidAt ring first now me c by n sheet later =
    Said (map ring.shape first) (all_alone ring.alone first) (map ring.seen first) (map ring.seen now) me
    (any_lacks (map ring.may_lack now)) (map ring.worn now) c by n sheet later

module _ {P : Type 0} (ring : AtRing P) (first old now : List P) (me : ℕ) (c : Config) (by n : ℕ) (one : Found)
    (line : Line) (sheet mid later : History Line) (from : StayAtRings ring first old) (stay : StayAtRings ring old now)
    (said : SaidAt ring first old me c by n sheet mid)
    (went : Went (map ring.shape old) (all_alone ring.alone old) (map ring.seen old) (map ring.seen now) me
    (steps_at n one))
    (is : IsFound (any_lacks (map ring.may_lack now)) (map ring.worn now) one)
    (text : text_of line ≡ mount_line c n one) where
  -- the calls with those at the mountpoint
  went_more : Went (map ring.shape first) (all_alone ring.alone first) (map ring.seen first) (map ring.seen now) me
      (steps_from 0 (said.found ++ one ∷ []))
  went_more =
      subst (λ (steps : List Step). Went (map ring.shape first) (all_alone ring.alone first) (map ring.seen first)
      (map ring.seen now) me steps)
      (sym (steps-snoc 0 said.found one ∙ ap (λ (k : ℕ). steps_from 0 said.found ++ steps_at k one)
      (let e : 0 + length said.found ≡ n = omega (arith, said.count) in e)))
      (went_on_at ring first old now me (steps_from 0 said.found) (steps_at n one) from said.went went)

  all_more : All (IsFound (any_lacks (map ring.may_lack now)) (map ring.worn now)) (said.found ++ one ∷ [])
  all_more =
      let lacks = any_lacks (map ring.may_lack now) in
      let worn = map ring.worn now in
      All-append (IsFound lacks worn) said.found (one ∷ [])
      (all_found_on (any_lacks (map ring.may_lack old)) lacks (map ring.worn old) worn said.found
      (ap any_lacks stay.same.2) stay.worn said.all)
      (All-cons (IsFound lacks worn) one [] is (All-nil (IsFound lacks worn)))

  lines_more : mount_lines c 0 (said.found ++ one ∷ []) ≡ mount_lines c 0 said.found ++ text_of line ∷ []
  lines_more =
      lines-snoc c 0 said.found one
      ∙ ap (λ (k : ℕ). mount_lines c 0 said.found ++ mount_line c k one ∷ [])
      (let e : 0 + length said.found ≡ n = omega (arith, said.count) in e)
      ∙ ap (λ (t : List ℕ). mount_lines c 0 said.found ++ t ∷ []) (sym text)

  -- its line was put
  pub said_more : HasPut by (line ∷ []) mid later → SaidAt ring first now me c by (n + 1) sheet later
  said_more put = record {
    found = said.found ++ one ∷ [];
    count = length-append said.found (one ∷ []) ∙ omega (arith, said.count);
    went = went_more;
    all = all_more;
    told = told_as by (mount_lines c 0 said.found ++ text_of line ∷ []) (mount_lines c 0 (said.found ++ one ∷ [])) sheet
        later (sym lines_more)
        (told_then by (mount_lines c 0 said.found) (text_of line ∷ []) sheet mid later said.told
        (told_one by line mid later put));
  }

-- ---- all answers

-- these answers were given so far, and all of their lines were put
pub record Given (shapes : List RingShape) (alone : Bool) (old now : List (History RingCall)) (me : ℕ) (lacks : Bool)
    (worn : List ℕ) (before after : ConsoleTold) (c : Config) (by : ℕ) (sheet later : History Line) : Type 0 where
  pub given : List Answer
  pub busy : after.busy ≡ before.busy ++ map busy_of given
  pub went : Went shapes alone old now me (flat_map steps_of given)
  pub all : All (AreFound lacks worn) given
  pub whole : All (IsOfAll c) given
  pub told : HasTold by (flat_map (answer_lines c) given) sheet later

pub given_none : (shapes : List RingShape) (alone : Bool) (histories : List (History RingCall)) (me : ℕ)
    (lacks : Bool) (worn : List ℕ) (console : ConsoleTold) (c : Config) (by : ℕ) (sheet : History Line)
    → Given shapes alone histories histories me lacks worn console console c by sheet sheet
given_none shapes alone histories me lacks worn console c by sheet = record {
  given = [];
  busy = sym (append-nil console.busy);
  went = went_none shapes alone histories me;
  all = All-nil (AreFound lacks worn);
  whole = All-nil (IsOfAll c);
  told = told_none by sheet sheet refl;
}

abbrev pub GivenAt : {P : Type 0} → AtRing P → List P → List P → ℕ → ConsoleTold → ConsoleTold → Config → ℕ
    → History Line → History Line → Type 0
GivenAt ring first now me before after c by sheet later =
    Given (map ring.shape first) (all_alone ring.alone first) (map ring.seen first) (map ring.seen now) me
    (any_lacks (map ring.may_lack now)) (map ring.worn now) before after c by sheet later

flat-snoc : {X Y : Type 0} (f : X → List Y) (xs : List X) (x : X) → flat_map f (xs ++ x ∷ []) ≡ flat_map f xs ++ f x
flat-snoc f xs x =
    flat_map-append f xs (x ∷ []) ∙ ap (λ (l : List _). flat_map f xs ++ l) (append-nil (f x))

pub all_answers_on : (lacks later_lacks : Bool) (worn later : List ℕ) (given : List Answer) → later_lacks ≡ lacks
    → AllLater worn later → All (AreFound lacks worn) given → All (AreFound later_lacks later) given
all_answers_on lacks later_lacks worn later [] same rise all = All-nil (AreFound later_lacks later)
all_answers_on lacks later_lacks worn later (one ∷ given) same rise all =
    All-cons (AreFound later_lacks later) one given
    (all_found_on lacks later_lacks worn later one.found same rise (All-head (AreFound lacks worn) one given all))
    (all_answers_on lacks later_lacks worn later given same rise (All-tail (AreFound lacks worn) one given all))

module _ {P : Type 0} (ring : AtRing P) (first old now : List P) (me : ℕ) (before mid after : ConsoleTold) (c : Config)
    (by : ℕ) (one : Answer) (sheet between later : History Line) (from : StayAtRings ring first old)
    (stay : StayAtRings ring old now) (given : GivenAt ring first old me before mid c by sheet between)
    (asked : after.busy ≡ mid.busy ++ one.busy ∷ [])
    (went : Went (map ring.shape old) (all_alone ring.alone old) (map ring.seen old) (map ring.seen now) me
    (steps_of one))
    (found : AreFound (any_lacks (map ring.may_lack now)) (map ring.worn now) one) where
  busy_more : after.busy ≡ before.busy ++ map busy_of (given.given ++ one ∷ [])
  busy_more =
      asked ∙ ap (λ (l : List ℕ). l ++ one.busy ∷ []) given.busy
      ∙ append_assoc before.busy (map busy_of given.given) (one.busy ∷ [])
      ∙ ap (λ (l : List ℕ). before.busy ++ l) (sym (map-append busy_of given.given (one ∷ [])))

  calls_more : Went (map ring.shape first) (all_alone ring.alone first) (map ring.seen first) (map ring.seen now) me
      (flat_map steps_of (given.given ++ one ∷ []))
  calls_more =
      subst (λ (steps : List Step). Went (map ring.shape first) (all_alone ring.alone first) (map ring.seen first)
      (map ring.seen now) me steps) (sym (flat-snoc steps_of given.given one))
      (went_on_at ring first old now me (flat_map steps_of given.given) (steps_of one) from given.went went)

  found_more : All (AreFound (any_lacks (map ring.may_lack now)) (map ring.worn now)) (given.given ++ one ∷ [])
  found_more =
      let lacks = any_lacks (map ring.may_lack now) in
      let worn = map ring.worn now in
      All-append (AreFound lacks worn) given.given (one ∷ [])
      (all_answers_on (any_lacks (map ring.may_lack old)) lacks (map ring.worn old) worn given.given
      (ap any_lacks stay.same.2) stay.worn given.all)
      (All-cons (AreFound lacks worn) one [] found (All-nil (AreFound lacks worn)))

  -- all of its lines were put
  pub given_more : IsOfAll c one → HasTold by (answer_lines c one) between later
      → GivenAt ring first now me before after c by sheet later
  given_more whole told = record {
    given = given.given ++ one ∷ [];
    busy = busy_more;
    went = calls_more;
    all = found_more;
    whole = All-append (IsOfAll c) given.given (one ∷ []) given.whole
        (All-cons (IsOfAll c) one [] whole (All-nil (IsOfAll c)));
    told = told_as by (flat_map (answer_lines c) given.given ++ answer_lines c one)
        (flat_map (answer_lines c) (given.given ++ one ∷ [])) sheet later
        (sym (flat-snoc (answer_lines c) given.given one))
        (told_then by (flat_map (answer_lines c) given.given) (answer_lines c one) sheet between later given.told told);
  }

-- the console told so many as busy, and so does the answer
pub told_busy : (before after : ConsoleTold) (wanted said : ℕ) → after.busy ≡ before.busy ++ wanted ∷ []
    → said ≡ wanted → after.busy ≡ before.busy ++ said ∷ []
told_busy before after wanted said told same =
    told ∙ ap (λ (n : ℕ). before.busy ++ n ∷ []) (sym same)

-- ---- one answer

-- the lines of the mountpoints, that of the workers, and the last are all of its lines
pub said_end : (by busy : ℕ) (c : Config) (found : List Found) (workers last : Line) (sheet one two later : History Line)
    → HasTold by (mount_lines c 0 found) sheet one → text_of workers ≡ now_workers_line c busy
    → HasPut by (workers ∷ []) one two → text_of last ≡ now_end_line → HasPut by (last ∷ []) two later
    → HasTold by (mount_lines c 0 found ++ last_lines c busy) sheet later
said_end by busy c found workers last sheet one two later told workers_are put last_is ended =
    told_then by (mount_lines c 0 found) (last_lines c busy) sheet one later told
    (told_then by (now_workers_line c busy ∷ []) (now_end_line ∷ []) one two later
    (told_as by (text_of workers ∷ []) (now_workers_line c busy ∷ []) one two
    (ap (λ (t : List ℕ). t ∷ []) workers_are) (told_one by workers one two put))
    (told_as by (text_of last ∷ []) (now_end_line ∷ []) two later (ap (λ (t : List ℕ). t ∷ []) last_is)
    (told_one by last two later ended)))
