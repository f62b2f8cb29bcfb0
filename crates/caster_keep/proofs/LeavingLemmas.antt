-- All keepers worked at the locks and at the press, and left both.
use Rattle.std.proofs.Common.{◌≡◌, ◌∙◌, ◌+◌, ◌<◌, ◌++◌, ℕ, Bool, List, [], ◌∷◌, length, map, refl, sym, ap, subst, arith}
use Rattle.std.specs.List.{All}
use Rattle.std.proofs.lemmas.List.{length-map}
use Rattle.std.proofs.lemmas.List.Elements.{All-nil, All-cons}
use Rattle.turn_log.specs.History.{History, IsLegal, own}
use Rattle.turn_log.specs.Lock.{turn_home, turn_value}
use Rattle.cast_io.specs.Told.{DoorTold}
use Rattle.cast_io.specs.Doors.{IsNewDoor}
use Rattle.cast_io.specs.Yards.{NotesTold}
use Rattle.caster_accounts.specs.History.{fits}
use Rattle.caster_accounts.specs.Kept.{caps_of}
use Rattle.cast_config.specs.declared.config.Config.{Config}
use Rattle.session_model.specs.Run.{Histories}
use Rattle.session_model.specs.Setting.{caps}
use Rattle.caster_press.specs.declared.line.Line.{Line}
use Rattle.caster_press.specs.declared.press.OutputStart.{OutputStart}
use Rattle.caster_press.specs.Lines.{text_in}
use Rattle.caster_press.specs.Written.{IsWritten}
use Rattle.cast_console.specs.Consoles.{ConsoleTold}
use Rattle.caster_places.specs.Piles.{AreMatched}
use Rattle.caster_places.specs.Rows.{ArePiles, AreWornWithin, RingLocks, BookLock}
use Rattle.caster_places.specs.declared.pass_piles.PassPiles.{PassPiles}
use Rattle.caster_seats.specs.declared.shared.Shared.{Shared}
use Rattle.caster_seats.specs.SeatedCallers.{SeatedTold}
use Rattle.caster_seats.specs.Seated.{AreAllAt, AreBelow, AreLegal, AreSeated, HaveLeft, HavePlaces, rows_of, works_of}
use Rattle.caster_seats.specs.Sharing.{IsReady}
use Rattle.caster_keep.specs.declared.keeper.Keeper.{Keeper}
use Rattle.caster_keep.specs.Gates.{roles_of}
use Rattle.caster_keep.specs.Keeping.{seen_by}
use Rattle.caster_keep.specs.Stations.{BoothTold, HasWaitedOn, PostTold, hand_at, posted}
use Rattle.caster_keep.specs.Together.{HaveKept, IsNewKeeper, IsToldBy, gate_at, role_at}
use Rattle.caster_keep.proofs.TogetherLemmas.{AllWorked, Collected, collected, seen_at_posts, works_at}

-- ---- rows of callers that left

legal_rows : {X : Type 0} (c : Config) (n : ℕ) (hands : List (SeatedTold X)) (rings : RingLocks) (book : BookLock)
    → caps_of (turn_value book) ≡ caps c → AreAllAt n hands rings book → AreLegal hands
    → All (λ (row : Histories). IsLegal (fits (caps c)) row.book) (rows_of hands)
legal_rows c n [] rings book caps_are at legal = All-nil (λ (row : Histories). IsLegal (fits (caps c)) row.book)
legal_rows c n (hand ∷ hands) rings book caps_are at legal =
    All-cons (λ (row : Histories). IsLegal (fits (caps c)) row.book) hand.seen (rows_of hands)
    (subst (λ (list : List ℕ). IsLegal (fits list) hand.seen.book) (at.0.caps ∙ caps_are) legal.0)
    (legal_rows c (n + 1) hands rings book caps_are at.1 legal.1)

-- callers at these locks have a place at each of them
pub have_places : {X : Type 0} (mounts n : ℕ) (hands : List (SeatedTold X)) (rings : RingLocks) (book : BookLock)
    → length rings ≡ mounts → AreAllAt n hands rings book → HavePlaces mounts hands
have_places mounts n [] rings book long at = tt
have_places mounts n (hand ∷ hands) rings book long at =
    (ap length at.0.homes ∙ length-map rings turn_home ∙ long, have_places mounts (n + 1) hands rings book long at.1)

module _ {G : Type 0} (told : G → DoorTold) (over : G → Bool) (peer : G → List ℕ) where
  works_are : (posts : List (PostTold G)) → works_of (map hand_at posts) ≡ works_at posts
  works_are [] = refl
  works_are (post ∷ posts) = ap (λ l. post.hand.work ∷ l) (works_are posts)

  rows_are : (posts : List (PostTold G)) → rows_of (map hand_at posts) ≡ seen_at_posts posts
  rows_are [] = refl
  rows_are (post ∷ posts) = ap (λ l. post.hand.seen ∷ l) (rows_are posts)

  pub have_kept : {C : Type 0} (heard : C → ConsoleTold) (shared : Shared) (table : List ℕ) (start : OutputStart)
      (torn : Bool) (notes : NotesTold) (keepers after : List (Keeper G)) (olds hands : List (SeatedTold (Keeper G)))
      (posts : List (PostTold G)) (whole : History Line) (before now : BoothTold C) (count : ℕ) (old new : PassPiles)
      → IsReady shared → All IsNewKeeper keepers → All (λ (keeper : Keeper G). IsNewDoor (told keeper.gate)) keepers
      → map role_at keepers ≡ roles_of shared.config.now → AreSeated shared 0 keepers olds
      → AllWorked told over peer whole 0 (map (posted shared.config.now table) olds) posts
      → hands ≡ map hand_at posts → length posts ≡ count
      → HasWaitedOn heard before now (own (0 + count) whole)
      → All (λ (entry : ℕ × Line). entry.0 < count + 1) whole
      → IsWritten torn start notes.taken notes.faults (text_in whole) → after ≡ works_of hands → HaveLeft hands old new
      → ((mounts : List ℕ) (book : ℕ) → AreWornWithin mounts book new
      → AreWornWithin mounts book old × AreBelow (mounts ++ book ∷ []) hands)
      → AreLegal hands → ArePiles [] old shared.rings.items shared.book → old.book.items ≡ []
      → length new.book.items ≡ length old.book.items + length hands
      → HaveKept told over peer heard shared start torn notes (map gate_at keepers) after before now new
  have_kept {C} heard shared table start torn notes keepers after olds hands posts whole before now count old new ready
      fresh unused roles_are seated worked hands_are many_posts waited nobody text after_is left worn legal empty
      no_pass passes =
      let c = shared.config.now in
      let all : Collected told over peer shared whole 0 keepers posts =
      collected told over peer shared table whole 0 keepers olds posts fresh unused seated worked in
      let seen : rows_of hands ≡ map seen_by all.tolds = ap rows_of hands_are ∙ rows_are posts ∙ sym all.seen in
      let many : length all.tolds ≡ length hands =
      omega (
        arith,
        ap length (sym seen),
        length-map all.tolds seen_by,
        length-map hands (λ (h : SeatedTold (Keeper G)). h.seen),
      ) in
      let as_many : length all.tolds ≡ count =
      omega (arith, many, ap length hands_are, length-map posts hand_at, many_posts) in
      record {
        tolds = all.tolds;
        lines = whole;
        told = subst (AreMatched IsToldBy all.tolds) (sym (after_is ∙ ap works_of hands_are ∙ works_are posts)) all.are;
        roles_are = all.roles_are ∙ roles_are;
        firsts_are = all.firsts_are;
        kept = λ mounts book within. all.kept (mounts ++ book ∷ [])
            (subst (AreBelow (mounts ++ book ∷ [])) hands_are (worn mounts book within).1);
        owns = λ k keeper at. ap (λ (i : ℕ). own i whole) (from_zero k) ∙ all.owns k keeper at;
        waited = subst (λ (i : ℕ). HasWaitedOn heard before now (own i whole))
            (let e : 0 + count ≡ length all.tolds = omega (arith, as_many) in e) waited;
        nobody_else = subst (λ (n : ℕ). All (λ (entry : ℕ × Line). entry.0 < n + 1) whole) (sym as_many) nobody;
        text = text;
        piles_are = subst (λ (rows : List Histories). ArePiles rows new shared.rings.items shared.book) seen
            (left [] shared.rings.items shared.book (at_hands all.at) empty);
        legal = subst (All (λ (row : Histories). IsLegal (fits (caps c)) row.book)) seen
            (legal_rows c 0 hands shared.rings.items shared.book ready.caps_are (at_hands all.at) legal);
        passes = omega (arith, passes, ap length no_pass, many);
      } where
        from_zero : (k : ℕ) → k ≡ 0 + k
        from_zero k = omega arith

        at_hands : AreAllAt 0 (map hand_at posts) shared.rings.items shared.book
            → AreAllAt 0 hands shared.rings.items shared.book
        at_hands at = subst (λ (l : List (SeatedTold (Keeper G))). AreAllAt 0 l shared.rings.items shared.book)
            (sym hands_are) at
