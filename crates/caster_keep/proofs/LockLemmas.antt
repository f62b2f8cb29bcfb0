-- Keepers that sat down at the locks, and their posts before and behind the work.
use Rattle.std.proofs.Common.{◌≡◌, ◌∙◌, ◌+◌, ◌++◌, ◌<◌, ℕ, Bool, List, [], ◌∷◌, length, map, refl, sym, ap, subst}
use Rattle.std.specs.Prelude.{Option, Result, Ok, Err, IfOk, OnErr}
use Rattle.std.specs.List.{All}
use Rattle.std.proofs.lemmas.List.{length-map}
use Rattle.turn_log.specs.History.{History, own}
use Rattle.cast_io.specs.Told.{DoorTold}
use Rattle.cast_io.specs.Doors.{IsNewDoor}
use Rattle.cast_config.specs.declared.config.Config.{Config}
use Rattle.caster_press.specs.declared.line.Line.{Line}
use Rattle.caster_press.specs.declared.press.OutputStart.{OutputStart}
use Rattle.caster_press.specs.Callers.{HaveWritten}
use Rattle.caster_places.specs.Known.{Known}
use Rattle.caster_places.specs.Rows.{AreAt, ArePiles, AreWornWithin}
use Rattle.caster_places.specs.declared.pass_piles.PassPiles.{PassPiles}
use Rattle.caster_seats.specs.declared.shared.Shared.{Shared}
use Rattle.caster_seats.specs.SeatedCallers.{SeatedTold}
use Rattle.caster_seats.specs.Seated.{AreAllAt, AreBelow, AreLegal, AreSeated, HaveLeft, HavePlaces, works_of}
use Rattle.caster_seats.specs.Sharing.{IsReady}
use Rattle.caster_keep.specs.Gates.{roles_of}
use Rattle.caster_keep.specs.Together.{HaveKept, IsNewKeeper, gate_at, role_at}
use Rattle.caster_keep.specs.declared.keeper.Keeper.{Keeper}
use Rattle.cast_console.specs.Consoles.{ConsoleTold}
use Rattle.caster_keep.specs.declared.duty.Duty.{Duty}
use Rattle.caster_keep.specs.Stations.{BoothTold, HasWaitedOn, PostTold, consoles_in, gates_in, hand_at, posted}
use Rattle.caster_keep.proofs.TogetherLemmas.{AllWorked}
use Rattle.caster_keep.proofs.LeavingLemmas.{have_kept, have_places}
use Rattle.caster_keep.proofs.DutyLemmas.{DidHis, all_duties, as_many_worked, console_left, ended_all, gates_left, gates_of_all, left_all, length_all, one_popped}

-- ---- lists

-- all of them, where none were there before
pub all_of : {X Y : Type 0} (tell : X → Y) (all none : List X) (list : List Y) → none ≡ []
    → map tell all ≡ map tell none ++ list → map tell all ≡ list
all_of tell all none list empty is = is ∙ ap (λ l. map tell l ++ list) empty

pub whole_list : {X : Type 0} (all none list : List X) → none ≡ [] → all ≡ none ++ list → all ≡ list
whole_list all none list empty is = is ∙ ap (λ l. l ++ list) empty

-- what is so after a refusal
pub refused_so : {T E A B : Type 0} (result : Result T E) → (A → B) → OnErr result A → OnErr result B
refused_so (Ok value) so was = tt
refused_so (Err fault) so was = so was

-- ---- they have sat down

seated_works : {X : Type 0} (shared : Shared) (n : ℕ) (works : List X) (hands : List (SeatedTold X))
    → AreSeated shared n works hands → works_of hands ≡ works
seated_works shared n [] [] seated = refl
seated_works shared n [] (hand ∷ hands) seated = absurd seated
seated_works shared n (work ∷ works) [] seated = absurd seated
seated_works shared n (work ∷ works) (hand ∷ hands) seated =
    ap (λ w. w ∷ works_of hands) seated.0.work_is
    ∙ ap (λ l. work ∷ l) (seated_works shared (n + 1) works hands seated.1)

-- their work came back as it had been given
pub works_back : {X : Type 0} (shared : Shared) (keepers after none : List X) (hands : List (SeatedTold X))
    → AreSeated shared 0 keepers hands → none ≡ [] → after ≡ none ++ works_of hands → after ≡ keepers
works_back shared keepers after none hands seated empty took =
    whole_list after none (works_of hands) empty took ∙ seated_works shared 0 keepers hands seated

seated_at : {X : Type 0} (shared : Shared) (n : ℕ) (works : List X) (hands : List (SeatedTold X))
    → AreSeated shared n works hands → AreAllAt n hands shared.rings.items shared.book
seated_at shared n [] [] seated = tt
seated_at shared n [] (hand ∷ hands) seated = absurd seated
seated_at shared n (work ∷ works) [] seated = absurd seated
seated_at shared n (work ∷ works) (hand ∷ hands) seated =
    (seated.0.at, seated_at shared (n + 1) works hands seated.1)

pub seated_places : {X : Type 0} (mounts : ℕ) (shared : Shared) (works : List X) (hands : List (SeatedTold X))
    → mounts ≡ length shared.rings.items → AreSeated shared 0 works hands → HavePlaces mounts hands
seated_places mounts shared works hands long seated =
    have_places mounts 0 hands shared.rings.items shared.book (sym long) (seated_at shared 0 works hands seated)

module _ {G : Type 0} where
  -- ---- they have taken their posts

  hands_posted : (c : Config) (table : List ℕ) (hands : List (SeatedTold (Keeper G)))
      → map hand_at (map (posted c table) hands) ≡ hands
  hands_posted c table [] = refl
  hands_posted c table (hand ∷ hands) = ap (λ l. hand ∷ l) (hands_posted c table hands)

  -- the posts of these hands
  pub posts_are : {X : Type 0} (tell : X → PostTold G) (c d : Config) (table text : List ℕ)
      (hands : List (SeatedTold (Keeper G))) (posts : List X) → c ≡ d → table ≡ text
      → map tell posts ≡ map (posted c table) hands → map tell posts ≡ map (posted d text) hands
  posts_are tell c d table text hands posts same as_text are =
      are ∙ ap (λ (x : Config). map (posted x table) hands) same ∙ ap (λ t. map (posted d t) hands) as_text

  -- there are as many posts as hands
  pub still_as_many : {X Y : Type 0} (tell : X → PostTold G) (told : Y → SeatedTold (Keeper G))
      (post : SeatedTold (Keeper G) → PostTold G) (posts : List X) (hands : List Y)
      → map tell posts ≡ map post (map told hands) → length posts ≡ length hands
  still_as_many tell told post posts hands are =
      sym (length-map posts tell) ∙ ap length are ∙ length-map (map told hands) post ∙ length-map hands told

  -- where nothing was done, the hands are as they were
  pub hands_still : {X : Type 0} (tell : X → PostTold G) (c : Config) (table : List ℕ)
      (hands : List (SeatedTold (Keeper G))) (posts : List X) → map tell posts ≡ map (posted c table) hands
      → map hand_at (map tell posts) ≡ hands
  hands_still tell c table hands posts are = ap (map hand_at) are ∙ hands_posted c table hands

  -- and so are those at gates
  pub gates_still : {A B : Type 0} (tell : A → PostTold G) (gates : List A) (console : B) (begun ended : List (Duty A B))
      (news : List (SeatedTold (Keeper G))) → begun ≡ all_duties gates console → ended ≡ begun
      → news ≡ map hand_at (map tell (gates_in ended)) → news ≡ map hand_at (map tell gates)
  gates_still tell gates console begun ended news are same is =
      is ∙ ap (λ (l : List _). map hand_at (map tell l)) (ap gates_in (same ∙ are) ∙ gates_of_all gates console)

  -- and so is their work
  pub works_still : {X : Type 0} (tell : X → PostTold G) (shared : Shared) (table : List ℕ) (keepers : List (Keeper G))
      (olds news : List (SeatedTold (Keeper G))) (posts : List X) (none after : List (Keeper G))
      → AreSeated shared 0 keepers olds → map tell posts ≡ map (posted shared.config.now table) olds
      → news ≡ map hand_at (map tell posts) → none ≡ [] → after ≡ none ++ works_of news → after ≡ keepers
  works_still tell shared table keepers olds news posts none after seated are back empty took =
      whole_list after none (works_of news) empty took
      ∙ ap works_of (back ∙ hands_still tell shared.config.now table olds posts are)
      ∙ seated_works shared 0 keepers olds seated

  -- ---- they have worked

  module _ (told : G → DoorTold) (over : G → Bool) (peer : G → List ℕ) where
    worked_at : (shared : Shared) (table : List ℕ) (whole : History Line) (n : ℕ) (keepers : List (Keeper G))
        (olds : List (SeatedTold (Keeper G))) (posts : List (PostTold G)) → AreSeated shared n keepers olds
        → AllWorked told over peer whole n (map (posted shared.config.now table) olds) posts
        → AreAllAt n (map hand_at posts) shared.rings.items shared.book
    worked_at shared table whole n [] [] [] seated worked = tt
    worked_at shared table whole n [] [] (post ∷ posts) seated worked = absurd worked
    worked_at shared table whole n [] (old ∷ olds) posts seated worked = absurd seated
    worked_at shared table whole n (keeper ∷ keepers) [] posts seated worked = absurd seated
    worked_at shared table whole n (keeper ∷ keepers) (old ∷ olds) [] seated worked = absurd worked
    worked_at shared table whole n (keeper ∷ keepers) (old ∷ olds) (post ∷ posts) seated worked = (
      subst (λ (known : Known). AreAt n known shared.rings.items shared.book) (sym worked.0.known) seated.0.at,
      worked_at shared table whole (n + 1) keepers olds posts seated.1 worked.1,
    )

module _ {G C A B : Type 0} (told : G → DoorTold) (over : G → Bool) (peer : G → List ℕ) (heard : C → ConsoleTold)
    (at_gate : A → PostTold G) (at_console : B → BoothTold C) {T E : Type 0} (result : Result T E) (start : OutputStart)
    (torn : T → Bool) (taken : T → Option (List ℕ)) (faults : T → ℕ) (gates : List A) (console : B)
    (begun ended : List (Duty A B)) (are : begun ≡ all_duties gates console)
    (written : IfOk result (λ closed. HaveWritten (DidHis told over peer heard at_gate at_console) start (torn closed)
    (taken closed) (faults closed) begun ended)) (kept : OnErr result (ended ≡ begun)) where
  -- there are as many at gates as before
  pub still_many : length (gates_in ended) ≡ length gates
  still_many =
      let l = left_all told over peer heard at_gate at_console result start torn taken faults gates console begun ended
      are written kept in
      ap length (gates_left l.left l.last ended l.are) ∙ l.many

  -- and one at the console
  pub still_one : (last : B) × (consoles_in ended ≡ last ∷ [])
  still_one =
      let l = left_all told over peer heard at_gate at_console result start torn taken faults gates console begun ended
      are written kept in
      (l.last, console_left l.left l.last ended l.are)

  -- each of those at gates has its places
  pub still_at : (shared : Shared) (table : List ℕ) (keepers : List (Keeper G)) (olds : List (SeatedTold (Keeper G)))
      → AreSeated shared 0 keepers olds → map at_gate gates ≡ map (posted shared.config.now table) olds
      → AreAllAt 0 (map hand_at (map at_gate (gates_in ended))) shared.rings.items shared.book
  still_at shared table keepers olds seated posts = by_cases result written kept where
    by_cases : (r : Result T E) → IfOk r (λ closed. HaveWritten (DidHis told over peer heard at_gate at_console) start
        (torn closed) (taken closed) (faults closed) begun ended) → OnErr r (ended ≡ begun)
        → AreAllAt 0 (map hand_at (map at_gate (gates_in ended))) shared.rings.items shared.book
    by_cases (Ok closed) did none =
        let all = ended_all told over peer heard at_gate at_console start (torn closed) (taken closed) (faults closed)
        gates console begun ended are did in
        subst (λ (l : List A). AreAllAt 0 (map hand_at (map at_gate l)) shared.rings.items shared.book)
        (sym (gates_left all.left all.last ended all.are))
        (worked_at told over peer shared table did.whole 0 keepers olds (map at_gate all.left) seated
        (subst (λ l. AllWorked told over peer did.whole 0 l (map at_gate all.left)) posts all.worked))
    by_cases (Err fault) none same =
        subst (λ (l : List A). AreAllAt 0 (map hand_at (map at_gate l)) shared.rings.items shared.book)
        (sym (gates_left gates console ended (same ∙ are)))
        (subst (λ l. AreAllAt 0 l shared.rings.items shared.book)
        (sym (hands_still at_gate shared.config.now table olds gates posts)) (seated_at shared 0 keepers olds seated))

  pub still_places : (mounts : ℕ) (shared : Shared) (table : List ℕ) (keepers : List (Keeper G))
      (olds news : List (SeatedTold (Keeper G))) → mounts ≡ length shared.rings.items → AreSeated shared 0 keepers olds
      → map at_gate gates ≡ map (posted shared.config.now table) olds
      → news ≡ map hand_at (map at_gate (gates_in ended)) → HavePlaces mounts news
  still_places mounts shared table keepers olds news long seated posts back =
      have_places mounts 0 news shared.rings.items shared.book (sym long)
      (subst (λ l. AreAllAt 0 l shared.rings.items shared.book) (sym back)
      (still_at shared table keepers olds seated posts))

  -- the one at the console is where it was
  pub still_known : (now : B) → consoles_in ended ≡ now ∷ []
      → (at_console now).hand.known ≡ (at_console console).hand.known
  still_known now one = by_cases result written kept where
    by_cases : (r : Result T E) → IfOk r (λ closed. HaveWritten (DidHis told over peer heard at_gate at_console) start
        (torn closed) (taken closed) (faults closed) begun ended) → OnErr r (ended ≡ begun)
        → (at_console now).hand.known ≡ (at_console console).hand.known
    by_cases (Ok closed) did none =
        let all = ended_all told over peer heard at_gate at_console start (torn closed) (taken closed) (faults closed)
        gates console begun ended are did in
        ap (λ (b : B). (at_console b).hand.known)
        (one_popped all.last now [] (sym (console_left all.left all.last ended all.are) ∙ one)).0
        ∙ all.waited.known
    by_cases (Err fault) none same =
        ap (λ (b : B). (at_console b).hand.known)
        (one_popped console now [] (sym (console_left gates console ended (same ∙ are)) ∙ one)).0

-- all have worked, and those at gates have left
module _ {G C A B : Type 0} (told : G → DoorTold) (over : G → Bool) (peer : G → List ℕ) (heard : C → ConsoleTold)
    (at_gate : A → PostTold G) (at_console : B → BoothTold C) where
  pub all_kept : (shared : Shared) (start : OutputStart) (torn : Bool) (taken : Option (List ℕ)) (faults : ℕ)
      (keepers after : List (Keeper G)) (olds hands : List (SeatedTold (Keeper G))) (gates : List A) (console now : B)
      (begun ended : List (Duty A B)) (old new : PassPiles) → IsReady shared → All IsNewKeeper keepers
      → All (λ (keeper : Keeper G). IsNewDoor (told keeper.gate)) keepers
      → map role_at keepers ≡ roles_of shared.config.now → AreSeated shared 0 keepers olds
      → map at_gate gates ≡ map (posted shared.config.now shared.table.items) olds
      → begun ≡ all_duties gates console
      → HaveWritten (DidHis told over peer heard at_gate at_console) start torn taken faults begun ended
      → hands ≡ map hand_at (map at_gate (gates_in ended)) → consoles_in ended ≡ now ∷ []
      → after ≡ works_of hands → HaveLeft hands old new
      → ((mounts : List ℕ) (book : ℕ) → AreWornWithin mounts book new
      → AreWornWithin mounts book old × AreBelow (mounts ++ book ∷ []) hands)
      → AreLegal hands → ArePiles [] old shared.rings.items shared.book → old.book.items ≡ []
      → length new.book.items ≡ length old.book.items + length hands
      → HaveKept told over peer heard shared start torn (record { taken = taken; faults = faults })
      (map gate_at keepers) after (at_console console) (at_console now) new
  all_kept shared start torn taken faults keepers after olds hands gates console now begun ended old new ready fresh
      unused roles_are seated posts are written hands_are one after_is left worn legal empty no_pass passes =
      let all = ended_all told over peer heard at_gate at_console start torn taken faults gates console begun ended are
      written in
      let at_gates = gates_left all.left all.last ended all.are in
      let now_is : now ≡ all.last =
      (one_popped all.last now [] (sym (console_left all.left all.last ended all.are) ∙ one)).0 in
      have_kept told over peer heard shared shared.table.items start torn
      (record { taken = taken; faults = faults }) keepers after olds hands (map at_gate all.left) written.whole
      (at_console console) (at_console now) (length gates) old new ready fresh unused roles_are seated
      (subst (λ l. AllWorked told over peer written.whole 0 l (map at_gate all.left)) posts all.worked)
      (hands_are ∙ ap (λ (l : List A). map hand_at (map at_gate l)) at_gates)
      (as_many_worked told over peer heard at_gate at_console written.whole 0 (map at_gate gates)
      (map at_gate all.left) all.worked ∙ length-map gates at_gate)
      (subst (λ (b : B). HasWaitedOn heard (at_console console) (at_console b) (own (0 + length gates) written.whole))
      (sym now_is) all.waited)
      (subst (λ (n : ℕ). All (λ (entry : ℕ × Line). entry.0 < n) written.whole)
      (written.count ∙ ap length are ∙ length_all gates console) written.nobody_else)
      written.text after_is left worn legal empty no_pass passes
