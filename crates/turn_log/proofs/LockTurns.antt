-- One whole turn at the lock, from what its steps tell.
use Rattle.std.proofs.Common.{◌≡◌, ◌≢◌, ℕ, ◌^◌, ◌<◌, Bool, IsTrue, List, [], ◌∷◌, ◌++◌, length, sym, ◌∙◌, ap, subst, Some, get_or}
use Rattle.atomic_table.specs.Table.{rest}
use Rattle.turn_log.specs.declared.lock.rule.SeatStage.TheVariants.{Idle, Waiting, AtTurn}
use Rattle.turn_log.specs.declared.lock.rule.SeatStage.{SeatStage}
use Rattle.turn_log.specs.declared.lock.rule.Known.{Known}
use Rattle.turn_log.specs.declared.lock.rule.Held.{Held}
use Rattle.turn_log.specs.History.{History}
use Rattle.turn_log.specs.LockRule.{times}
use Rattle.turn_log.specs.LockSteps.{Seated, Took, TookTurn}
use Rattle.turn_log.proofs.HistoryLaws.{fits_on, legal_snoc}
use Rattle.turn_log.proofs.LockSteps.{Ready}

module _ {V C Z : Type 0} (stands : V → History C → Type 0) (shape : V → Z) (fits : Z → History C → ℕ → C → Bool) where
  -- the ticket that was waited for was drawn by a token that knew the rest before
  pub took_from : (old : Known C V) (start now : Seated C V) (t : ℕ) → start.0 ≡ record old { stage = Waiting t }
      → Took stands shape fits t start now → Took stands shape fits t (record old { stage = Waiting t }, []) now
  took_from old start now t is took =
      subst (λ (view : Known C V). Took stands shape fits t (view, []) now) is took

  -- the object that is lent
  pub lent : (old now : Seated C V) (t : ℕ) → Took stands shape fits t old now
      → (held : Held V C) × (now.1 ≡ (0, held) ∷ rest now.1)
  lent old now t took =
      let one : now.1 ≡ (0, took.0) ∷ [] = ap (λ (me : Seated C V). me.1) took.2 in
      (took.0, one ∙ ap (λ (l : List (ℕ × Held V C)). (0, took.0) ∷ l) (sym (ap rest one)))

  pub same_held : (old now : Seated C V) (t : ℕ) (took : Took stands shape fits t old now) (held : Held V C)
      → now.1 ≡ (0, held) ∷ rest now.1 → took.0 ≡ held
  same_held old now t took held is =
      ap (λ (l : List (ℕ × Held V C)). (get_or l 0 (0, held)).1)
      (sym (ap (λ (me : Seated C V). me.1) took.2) ∙ is)

  -- the call that fitted what was seen fits what was called since
  pub fits_now : ((z : Z) (h : History C) (me by : ℕ) (call other : C) → IsTrue (fits z h me call) → by ≢ me
      → IsTrue (fits z h by other) → IsTrue (fits z (h ++ (by, other) ∷ []) me call))
      → (old now : Seated C V) (t : ℕ) (took : Took stands shape fits t old now) (value : V) (me : ℕ) (call : C)
      → old.0.about ≡ Some value → 0 < times me old.0.numbers → IsTrue (fits (shape value) old.0.seen me call)
      → IsTrue (fits (shape value) (old.0.seen ++ took.1) me call)
  fits_now still old now t took value me call about speaks fitting =
      fits_on {fits = fits (shape value)} (still (shape value)) old.0.seen took.1 me call fitting (took.4 value about).1
      (took.6 me speaks)

  -- what the play of a lent object leaves
  pub record Played (held played : Held V C) (h : History C) (me : ℕ) (call : C) : Type 0 where
    pub shape_stays : shape played.value ≡ shape held.value
    pub last : played.last ≡ Some (me, call)
    pub stands_now : stands played.value (h ++ (me, call) ∷ [])

  pub ready : (passes : ℕ) (z : Z) (old : Known C V) (now : Seated C V) (t : ℕ)
      (took : Took stands shape fits t (record old { stage = Waiting t }, []) now)
      (me : ℕ) (call : C) (played : Held V C) (value : V)
      → old.about ≡ Some value → 0 < times me old.numbers → old.brought ≡ []
      → IsTrue (fits (shape value) (old.seen ++ took.1) me call)
      → Played took.0 played (old.seen ++ took.1) me call
      → Ready passes stands shape fits z (now.0, (0, played) ∷ rest now.1) t me call played
  ready passes z old now t took me call played value about speaks none_brought fitting does =
      let is : now.0 ≡ record old { stage = AtTurn t; seen = old.seen ++ took.1 } =
      ap (λ (s : Seated C V). s.0) took.2 in
      let seen : now.0.seen ≡ old.seen ++ took.1 = ap (λ (v : Known C V). v.seen) is in
      record {
        turn = ap (λ (v : Known C V). v.stage) is;
        lent = ap (λ (l : List (ℕ × Held V C)). (0, played) ∷ l) (ap (λ (s : Seated C V). rest s.1) took.2);
        last = does.last;
        stands_now = subst (λ (h : History C). stands played.value (h ++ (me, call) ∷ [])) (sym seen) does.stands_now;
        value = value;
        about = ap (λ (v : Known C V). v.about) is ∙ about;
        shaped = does.shape_stays ∙ (took.4 value about).0;
        fitting = subst (λ (h : History C). IsTrue (fits (shape value) h me call)) (sym seen) fitting;
        speaks = subst (λ (ns : List ℕ). 0 < times me ns) (sym (ap (λ (v : Known C V). v.numbers) is)) speaks;
        none_brought = ap (λ (v : Known C V). v.brought) is ∙ none_brought;
      }

  -- what the token knows after its turn
  pub ended_as : (old : Known C V) (now : Seated C V) (t : ℕ)
      (took : Took stands shape fits t (record old { stage = Waiting t }, []) now) (me : ℕ) (call : C)
      → old.stage ≡ Idle
      → record now.0 { stage = Idle; seen = now.0.seen ++ (me, call) ∷ [] }
      ≡ record old { seen = (old.seen ++ took.1) ++ (me, call) ∷ [] }
  ended_as old now t took me call idle =
      let is : now.0 ≡ record old { stage = AtTurn t; seen = old.seen ++ took.1 } =
      ap (λ (s : Seated C V). s.0) took.2 in
      let after : Known C V → Known C V = λ v. record v { stage = Idle; seen = v.seen ++ (me, call) ∷ [] } in
      ap after is
      ∙ ap (λ (stage : SeatStage). let v : Known C V = record old {
        stage = stage;
        seen =
            (old.seen ++ took.1) ++ (me, call) ∷ [];
      } in v) (sym idle)

-- the law of an object's calls: what fits also fits after a fitting entry of another caller
abbrev pub StillFits : {C Z : Type 0} → (Z → History C → ℕ → C → Bool) → Type 0
StillFits {C} {Z} fits = (z : Z) (h : History C) (me by : ℕ) (call other : C) → IsTrue (fits z h me call) → by ≢ me
    → IsTrue (fits z h by other) → IsTrue (fits z (h ++ (by, other) ∷ []) me call)

module _ {V C A R Z : Type 0} (stands : V → History C → Type 0) (shape : V → Z) (fits : Z → History C → ℕ → C → Bool)
    (answer : Z → History C → ℕ → C → A) (filled : Z → History C → ℕ → C → R → R) where
  -- a token that drew a ticket was served, and its call fitted what it had seen
  pub record Served (old : Known C V) (start now : Seated C V) (t me : ℕ) (call : C) : Type 0 where
    pub drawn : start.0 ≡ record old { stage = Waiting t }
    pub was_served : Took stands shape fits t start now
    pub idle : old.stage ≡ Idle
    pub none_brought : old.brought ≡ []
    pub speaks : 0 < times me old.numbers
    pub about : (value : V) × (old.about ≡ Some value)
    pub fitting : (value : V) → old.about ≡ Some value → IsTrue (fits (shape value) old.seen me call)

  module _ (still : StillFits fits) (old : Known C V) (start now : Seated C V) (t me : ℕ) (call : C)
      (s : Served old start now t me call) where
    abbrev at : Took stands shape fits t (record old { stage = Waiting t }, []) now
    at = took_from stands shape fits old start now t s.drawn s.was_served

    -- the history at which the call is made
    abbrev pub before : History C
    before = old.seen ++ at.1

    fits_before : (value : V) → old.about ≡ Some value → IsTrue (fits (shape value) before me call)
    fits_before value about =
        fits_now stands shape fits still (record old { stage = Waiting t }, []) now t at value me call about s.speaks
        (s.fitting value about)

    pub to_play : (held : Held V C) → now.1 ≡ (0, held) ∷ rest now.1
        → (h : History C) × stands held.value h × (length h < 2 ^ 63) × IsTrue (fits (shape held.value) h me call)
    to_play held given =
        let is : at.0 ≡ held = same_held stands shape fits (record old { stage = Waiting t }, []) now t at held given in (
          before,
          subst (λ (y : Held V C). stands y.value before) is at.3,
          at.5,
          subst (λ (z : Z). IsTrue (fits z before me call))
              (sym (at.4 s.about.0 s.about.1).0 ∙ ap (λ (y : Held V C). shape y.value) is)
              (fits_before s.about.0 s.about.1),
        )

    -- what the play of the object ensures
    abbrev pub Plays : Held V C → Held V C → A → R → R → Type 0
    Plays held played reply room after = (h : History C) → stands held.value h → length h < 2 ^ 63
        → IsTrue (fits (shape held.value) h me call)
        → stands played.value (h ++ (me, call) ∷ []) × (reply ≡ answer (shape held.value) h me call)
        × (after ≡ filled (shape held.value) h me call room)

    pub to_advance : (passes : ℕ) (z : Z) (held played : Held V C) (reply : A) (room after : R)
        → now.1 ≡ (0, held) ∷ rest now.1 → shape played.value ≡ shape held.value → played.last ≡ Some (me, call)
        → Plays held played reply room after
        → Ready passes stands shape fits z (now.0, (0, played) ∷ rest now.1) t me call played
    unfolding to_play
    to_advance passes z held played reply room after given shaped last plays =
        let is : at.0 ≡ held = same_held stands shape fits (record old { stage = Waiting t }, []) now t at held given in
        let p = to_play held given in
        ready stands shape fits passes z old now t at me call played s.about.0 s.about.1 s.speaks s.none_brought
        (fits_before s.about.0 s.about.1)
        (record {
          shape_stays = shaped ∙ ap (λ (y : Held V C). shape y.value) (sym is);
          last = last;
          stands_now = (plays before p.1 p.2 p.3).0;
        })

    -- the object is all that is lent
    pub lent_alone : (played : Held V C) → ◌≡◌ {A = List (ℕ × Held V C)} ((0, played) ∷ rest now.1) ((0, played) ∷ [])
    lent_alone played = ap (λ (x : Seated C V). let l : List (ℕ × Held V C) = (0, played) ∷ rest x.1 in l) at.2

    pub turn_taken : (held played : Held V C) (reply : A) (room after : R) (end : Seated C V)
        → now.1 ≡ (0, held) ∷ rest now.1 → Plays held played reply room after
        → end ≡ (record now.0 { stage = Idle; seen = now.0.seen ++ (me, call) ∷ [] }, [])
        → TookTurn shape fits answer filled old end.0 me call reply room after
    unfolding to_play
    turn_taken held played reply room after end given plays ends =
        let is : at.0 ≡ held = same_held stands shape fits (record old { stage = Waiting t }, []) now t at held given in
        let p = to_play held given in
        let did = plays before p.1 p.2 p.3 in (
          at.1,
          ap (λ (x : Seated C V). x.0) ends ∙ ended_as stands shape fits old now t at me call s.idle,
          at.6 me s.speaks,
          (λ value about.
              let shaped : shape held.value ≡ shape value = ap (λ (y : Held V C). shape y.value) (sym is)
              ∙ (at.4 value about).0 in (
                legal_snoc (fits (shape value)) before me call (at.4 value about).1 (fits_before value about),
                subst (λ (z : Z). reply ≡ answer z before me call) shaped did.1,
                subst (λ (z : Z). after ≡ filled z before me call room) shaped did.2,
              )),
        )
