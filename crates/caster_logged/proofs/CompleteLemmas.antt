-- A caster that keeps serving ends as it should where its file gives a configuration, and nothing
-- failed.
use Rattle.std.proofs.Common.{◌≡◌, ◌∙◌, ℕ, ◌+◌, Bool, true, false, List, [], ◌∷◌, map, Option, Some, Result, Ok, Err, inl, inr, refl, ap, sym, arith}
use Rattle.std.specs.List.{All}
use Rattle.std.proofs.lemmas.List.{append_cancel_left}
use Rattle.std.proofs.lemmas.List.Elements.{All-head, All-same, All-tail}
use Rattle.turn_log.specs.History.{History}
use Rattle.cast_io.specs.Causes.{Rose}
use Rattle.cast_io.specs.declared.yard_asked.YardAsked.{YardAsked}
use Rattle.cast_io.specs.Logged.{DoorLog, door_logged}
use Rattle.cast_io.specs.Told.{DoorTold}
use Rattle.cast_io.specs.Yards.{GateTold, NotesTold}
use Rattle.cast_console.specs.Consoles.{ConsoleTold}
use Rattle.cast_config.specs.declared.config.Config.{Config}
use Rattle.session_model.specs.Run.{Histories}
use Rattle.caster_press.specs.declared.line.Line.{Line}
use Rattle.caster_keep.specs.declared.stop.Stop.{Stop}
use Rattle.caster_keep.specs.declared.stop.Stop.TheVariants as stops
use Rattle.caster_keep.specs.declared.whole.Outcome.{Outcome}
use Rattle.caster_keep.specs.declared.whole.KeepFault.{KeepFault}
use Rattle.caster_keep.specs.declared.whole.KeepFault.TheVariants as faults
use Rattle.caster_keep.specs.Keeping.{HasKept, first_stop}
use Rattle.caster_top.specs.Answers.{Writes}
use Rattle.caster_top.specs.Casting.{RefusedEnd}
use Rattle.caster_top.specs.Keeping.{EndOfKeeping, HasKeeping, KeptEnd}
use Rattle.caster_top.specs.Outcome.{Exit, memory_exit}
use Rattle.caster_top.specs.Told.{Files}
use Rattle.caster_top.proofs.ReadingLemmas.{config_in-ok}
use Rattle.caster_logged.specs.Complete.{GivesConfig, CameBackWhole, EndsAsItShould}
use Rattle.caster_logged.specs.Keepers.{AreKeepersKept, HasKeptAll, IsWhy, KeeperLog, WasTaken, YardList, gate_back, yard_told}
use Rattle.caster_logged.proofs.KeeperLemmas.{kept_all}

-- ---- what is written

-- where no write fails, the status is that of the end
written_is : (end : Exit) (old new : Option (List ℕ)) (first now status : ℕ) → (Rose first now → ⊥)
    → Writes end old new first now status → status ≡ end.status
written_is end old new first now status calm (inl written) = written.0
written_is end old new first now status calm (inr torn) = absurd (calm torn.1)

-- with a configuration and files that did not fail, only memory is lacking
refused_is : (files : Files) (config : List ℕ) (fault : Type 0) (end : Exit) → GivesConfig files config
    → (fault → ⊥) → RefusedEnd config files fault end → end.status ≡ 7
refused_is files config fault end gives calm (inl memory) = ap (λ (x : Exit). x.status) memory
refused_is files config fault end gives calm (inr (inl (counted, ended))) = absurd (calm counted)
refused_is files config fault end gives calm (inr (inr refused)) =
    let is = gives refused.0 refused.1 in
    absurd (refused.2.none is.1 (is.0, config_in-ok refused.0 is.1 is.2))

-- ---- counts

none_rose : (before now : ℕ) → now ≡ 0 → Rose before now → ⊥
none_rose before now zero rose = omega (arith, zero, rose)

-- ---- why they stopped

-- where no gate failed, all of them were over
all_over : (c : Config) (histories : Histories) (lines : History Line) (n : ℕ) (keepers : List KeeperLog)
    → AreKeepersKept c histories lines n keepers
    → All (λ (gate : GateTold). gate.door.faults ≡ 0) (map gate_back keepers)
    → first_stop (map (λ (keeper : KeeperLog). keeper.stop) keepers) ≡ stops.Over
all_over c histories lines n [] kept none = refl
all_over c histories lines n (keeper ∷ keepers) kept none =
    by_stop keeper.stop kept.0.why
    (all_over c histories lines (n + 1) keepers kept.1
    (All-tail (λ (gate : GateTold). gate.door.faults ≡ 0) (gate_back keeper) (map gate_back keepers) none)) where
      by_stop : (stop : Stop) → IsWhy stop keeper
          → first_stop (map (λ (k : KeeperLog). k.stop) keepers) ≡ stops.Over
          → first_stop (stop ∷ map (λ (k : KeeperLog). k.stop) keepers) ≡ stops.Over
      by_stop stops.Over why rest = rest
      by_stop stops.Failed why rest =
          absurd (none_rose why.0 keeper.door.faults
          (All-head (λ (gate : GateTold). gate.door.faults ≡ 0) (gate_back keeper) (map gate_back keepers) none) why.1)

-- ---- how it ends that served

kept_ends : (torn : Bool) (stop : Stop) (bytes text : List ℕ) (faults : ℕ) (old new : Option (List ℕ))
    (first now status : ℕ) → WasTaken torn bytes faults text → faults ≡ 0 → stop ≡ stops.Over
    → KeptEnd torn stop old new first now status → status ≡ 0
kept_ends true stop bytes text faults old new first now status taken none over end =
    absurd (none_rose 0 faults none taken.2)
kept_ends false stops.Over bytes text faults old new first now status taken none over end = end.0
kept_ends false stops.Failed bytes text faults old new first now status taken none over end =
    absurd (let clash : stops.Failed ≡ stops.Over = over in cc)

served_ends : (c : Config) (addr : List ℕ) (quiet : ℕ) (old new : YardList)
    (back_before back_now : List ConsoleTold) (outcome : Outcome) (written now_written : List ℕ)
    (first now status : ℕ) → CameBackWhole old new
    → HasKeptAll c addr quiet old new back_before back_now outcome
    → KeptEnd outcome.is_torn outcome.stop (Some written) (Some now_written) first now status
    → status ≡ 0
served_ends c addr quiet old new back_before back_now outcome written now_written first now status whole all end =
    let gates : map gate_back all.keepers ≡ whole.gates =
    append_cancel_left old.gates (map gate_back all.keepers) whole.gates (sym all.gates ∙ whole.gates_back) in
    let place : NotesTold = record { taken = Some all.bytes; faults = all.faults } in
    let notes : place ∷ [] ≡ whole.notes =
    append_cancel_left old.notes (place ∷ []) whole.notes (sym all.notes ∙ whole.notes_back) in
    let none : all.faults ≡ 0 = All-head (λ (p : NotesTold). p.faults ≡ 0) place []
    (All-same (λ (p : NotesTold). p.faults ≡ 0) (place ∷ []) whole.notes notes whole.no_line_failed) in
    let over : outcome.stop ≡ stops.Over =
    all.stop_is
    ∙ all_over c all.histories all.lines 0 all.keepers all.kept
    (All-same (λ (gate : GateTold). gate.door.faults ≡ 0) (map gate_back all.keepers) whole.gates gates
    whole.no_gate_failed) in
    kept_ends outcome.is_torn outcome.stop all.bytes _ all.faults (Some written) (Some now_written) first now status
    all.text none over end

-- ---- all of it

module _ {G O : Type 0} (told : G → DoorTold) (over : G → Bool) (peer : G → List ℕ) (origin : G → YardAsked)
    (taken : O → Option (List ℕ)) (faults_of : O → ℕ) (door : G → DoorLog) (text_of_notes : O → List ℕ)
    (logs : (gate : G) → told gate ≡ door_logged (door gate))
    (notes_log : (notes : O) → taken notes ≡ Some (text_of_notes notes)) where
  came_ends : (c : Config) (addr : List ℕ) (quiet : ℕ) (old new : YardList) (f g h i : ℕ)
      (back_before back_now : List ConsoleTold) (written now_written : List ℕ) (first now status : ℕ)
      (came : Result Outcome KeepFault)
      → HasKept told over peer origin taken faults_of back_before back_now c addr quiet (yard_told old f g)
      (yard_told new h i) came → EndOfKeeping came (Some written) (Some now_written) first now status
      → CameBackWhole old new → (Rose f h → ⊥) → (Rose first now → ⊥) → EndsAsItShould status
  came_ends c addr quiet old new f g h i back_before back_now written now_written first now status (Ok outcome) has end
      whole yard output =
      inl (served_ends c addr quiet old new back_before back_now outcome written now_written first now status whole
      (kept_all told over peer origin taken faults_of door text_of_notes logs notes_log c addr quiet old new f g h i
      back_before back_now outcome has) end)
  came_ends c addr quiet old new f g h i back_before back_now written now_written first now status (Err faults.Network)
      has end whole yard output = absurd (yard has.answered.2)
  came_ends c addr quiet old new f g h i back_before back_now written now_written first now status (Err faults.Memory)
      has end whole yard output =
      inr (written_is memory_exit (Some written) (Some now_written) first now status output end)

  pub keeping_ends : (files : Files) (config addr : List ℕ) (quiet : ℕ) (old new : YardList) (f g h i : ℕ)
      (back_before back_now : List ConsoleTold) (fault : Type 0) (written now_written : List ℕ)
      (first now status : ℕ)
      → HasKeeping (HasKept told over peer origin taken faults_of back_before back_now) files config addr quiet
      (yard_told old f g) (yard_told new h i) fault (Some written) (Some now_written) first now status
      → GivesConfig files config → CameBackWhole old new → (fault → ⊥) → (Rose f h → ⊥) → (Rose first now → ⊥)
      → EndsAsItShould status
  keeping_ends files config addr quiet old new f g h i back_before back_now fault written now_written first now status
      (inl un) gives whole store yard output =
      inr (written_is un.end (Some written) (Some now_written) first now status output un.written
      ∙ refused_is files config fault un.end gives store un.refused)
  keeping_ends files config addr quiet old new f g h i back_before back_now fault written now_written first now status
      (inr was) gives whole store yard output =
      came_ends was.c addr quiet old new f g h i back_before back_now written now_written first now status was.came_to
      was.did was.ends whole yard output
