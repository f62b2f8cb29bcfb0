-- What the program ends with that keeps serving, where its yard and its files log what they did.
use Rattle.std.proofs.Common.{◌≡◌, ◌∙◌, ℕ, Bool, true, false, List, [], ◌++◌, Option, Some, Result, Ok, Err, inl, inr, refl, ap, sym, arith}
use Rattle.std.specs.List.{All}
use Rattle.std.proofs.lemmas.List.{append-nil}
use Rattle.std.proofs.lemmas.List.Elements.{All-nil}
use Rattle.cast_io.specs.declared.yard_asked.YardAsked.{YardAsked}
use Rattle.cast_io.specs.Doors.{IsNewDoor}
use Rattle.cast_io.specs.Logged.{DoorLog, door_logged}
use Rattle.cast_io.specs.Told.{DoorTold}
use Rattle.cast_io.specs.Yards.{GateTold, YardTold}
use Rattle.cast_console.specs.Consoles.{ConsoleTold}
use Rattle.cast_config.specs.declared.config.Config.{Config}
use Rattle.caster_keep.specs.declared.stop.Stop.{Stop}
use Rattle.caster_keep.specs.declared.stop.Stop.TheVariants as stops
use Rattle.caster_keep.specs.declared.whole.Outcome.{Outcome}
use Rattle.caster_keep.specs.declared.whole.KeepFault.{KeepFault}
use Rattle.caster_keep.specs.declared.whole.KeepFault.TheVariants as faults
use Rattle.caster_keep.specs.Keeping.{HasKept, Refused}
use Rattle.caster_top.specs.Answers.{Writes}
use Rattle.caster_top.specs.Casting.{RefusedEnd}
use Rattle.caster_top.specs.Given.{FileCame}
use Rattle.caster_top.specs.Keeping.{EndOfKeeping, HasKeeping, KeptEnd}
use Rattle.caster_top.specs.Outcome.{Exit, memory_exit, network_exit}
use Rattle.caster_top.specs.Told.{Files, FilesTold, IsConfigFrom}
use Rattle.caster_top.proofs.DoneLemmas.{config_more}
use Rattle.caster_top.proofs.GivenLemmas.{file_short}
use Rattle.caster_top.proofs.KeepClauseLemmas.{refused_cases}
use Rattle.caster_logged.specs.Inputs.{Steps, HasReadFile}
use Rattle.caster_logged.specs.Keepers.{YardList, yard_told, NobodyServed, HasEndedAll, WasKeptWhole}
use Rattle.caster_logged.proofs.KeeperLemmas.{kept_all}
use Rattle.caster_logged.proofs.LogLemmas.{gave_read_file, grew_by, some_is}

-- ---- nobody served

nobody : (old new : YardList) (status : ℕ) (gates : List GateTold) → (status ≡ 0 → ⊥)
    → new.gates ≡ old.gates ++ gates → All (λ (gate : GateTold). IsNewDoor gate.door) gates
    → NobodyServed old new status
nobody old new status gates fault back unused =
    record { fault = fault; gates = gates; back = back; unused = unused }

refused_none : (old new : YardList) (f g h i status : ℕ) (wanted : List YardAsked) → (status ≡ 0 → ⊥)
    → Refused wanted (yard_told old f g) (yard_told new h i) → NobodyServed old new status
refused_none old new f g h i status wanted fault is =
    nobody old new status is.gates fault (grew_by old.gates new.gates is.gates is.given_back.gates_back) is.unused

lost_not_zero : (old new : Option (List ℕ)) (first now status : ℕ) → Writes network_exit old new first now status
    → status ≡ 0 → ⊥
lost_not_zero old new first now status (inl written) zero = omega (arith, written.0, zero)
lost_not_zero old new first now status (inr torn) zero = omega (arith, torn.0, zero)

memory_not_zero : (old new : Option (List ℕ)) (first now status : ℕ) → Writes memory_exit old new first now status
    → status ≡ 0 → ⊥
memory_not_zero old new first now status (inl written) zero = omega (arith, written.0, zero)
memory_not_zero old new first now status (inr torn) zero = omega (arith, torn.0, zero)

refused_not_zero : (config : List ℕ) (files : Files) (fault : Type 0) (end : Exit) → RefusedEnd config files fault end
    → end.status ≡ 0 → ⊥
refused_not_zero config files fault end refused zero = elim (refused_cases config files fault end refused) [
  | inl seven ↦ omega (arith, seven, zero)
  | inr (inl counted) ↦ let four = ap (λ (e : Exit). e.status) counted.1 in omega (arith, four, zero)
  | inr (inr (is, status)) ↦ omega arith
]

end_not_zero : (end : Exit) (old new : Option (List ℕ)) (first now status : ℕ) → (end.status ≡ 0 → ⊥)
    → Writes end old new first now status → status ≡ 0 → ⊥
end_not_zero end old new first now status other (inl written) zero = other (sym written.0 ∙ zero)
end_not_zero end old new first now status other (inr torn) zero = omega (arith, torn.0, zero)

-- the same yard has the same gates
same_gates : (old new : YardList) (f g h i : ℕ) → yard_told new h i ≡ yard_told old f g → new.gates ≡ old.gates
same_gates old new f g h i same = some_is new.gates old.gates (ap (λ (y : YardTold). y.gates) same)

-- ---- all of it

module _ {G O : Type 0} (told : G → DoorTold) (over : G → Bool) (peer : G → List ℕ) (origin : G → YardAsked)
    (taken : O → Option (List ℕ)) (faults_of : O → ℕ) (door : G → DoorLog) (text_of_notes : O → List ℕ)
    (logs : (gate : G) → told gate ≡ door_logged (door gate))
    (notes_log : (notes : O) → taken notes ≡ Some (text_of_notes notes))
    (back_before back_now : List ConsoleTold) (files : FilesTold) (a b : Steps) (config addr : List ℕ) (quiet : ℕ)
    (old new : YardList) (f g h i : ℕ) (fault : Type 0) (written now_written : List ℕ) (first now status : ℕ) where
  abbrev Ended : Type 0
  Ended =
      HasEndedAll (HasReadFile a b) config addr quiet old new back_before back_now written now_written first now status

  abbrev Came : Files
  Came = FileCame files (Some a) (Some b)

  came_all : (c : Config) (came : Result Outcome KeepFault)
      → HasKept told over peer origin taken faults_of back_before back_now c addr quiet (yard_told old f g)
      (yard_told new h i) came → EndOfKeeping came (Some written) (Some now_written) first now status
      → IsConfigFrom Came config c → Ended
  came_all c (Ok outcome) has ends is = inl (record {
    c = c;
    config_is = config_more Came (HasReadFile a b) config c
        (λ path bytes short gave.
        gave_read_file path a b bytes (file_short files (Some a) (Some b) path bytes short gave).1) is;
    outcome = outcome;
    all = kept_all told over peer origin taken faults_of door text_of_notes logs notes_log c addr quiet old new f g h i
        back_before back_now outcome has;
    ends = ends;
  })
  came_all c (Err faults.Network) has ends is =
      inr (refused_none old new f g h i status _
      (lost_not_zero (Some written) (Some now_written) first now status ends) has.answered.0)
  came_all c (Err faults.Memory) has ends is =
      inr (refused_none old new f g h i status _
      (memory_not_zero (Some written) (Some now_written) first now status ends) has.answered.0)

  pub keeping_all : HasKeeping (HasKept told over peer origin taken faults_of back_before back_now) Came config addr quiet
      (yard_told old f g) (yard_told new h i) fault (Some written) (Some now_written) first now status → Ended
  keeping_all (inl un) =
      inr (nobody old new status []
      (end_not_zero un.end (Some written) (Some now_written) first now status
      (refused_not_zero config Came fault un.end un.refused) un.written)
      (same_gates old new f g h i un.alone ∙ sym (append-nil old.gates))
      (All-nil (λ (gate : GateTold). IsNewDoor gate.door)))
  keeping_all (inr was) = came_all was.c was.came_to was.did was.ends was.config_is

-- ---- with 0

-- all gates were over, and nothing more was written
zero_end : (torn : Bool) (stop : Stop) (old new : Option (List ℕ)) (first now status : ℕ)
    → KeptEnd torn stop old new first now status → status ≡ 0
    → (torn ≡ false) × (stop ≡ stops.Over) × (new ≡ old)
zero_end true stop old new first now status end zero = absurd (omega (arith, end.0, zero))
zero_end false stops.Over old new first now status end zero = (refl, refl, end.1.0)
zero_end false stops.Failed old new first now status end zero =
    absurd (lost_not_zero old new first now status end zero)

pub kept_whole : {files : Files} {config addr : List ℕ} {quiet : ℕ} {old new : YardList}
    {back_before back_now : List ConsoleTold} {written now_written : List ℕ} {first now status : ℕ} → status ≡ 0
    → HasEndedAll files config addr quiet old new back_before back_now written now_written first now status
    → WasKeptWhole files config addr quiet old new back_before back_now written now_written
kept_whole {written = written} {now_written = now_written} {first = first} {now = now} {status = status} zero (inl was) =
    let is = zero_end was.outcome.is_torn was.outcome.stop (Some written) (Some now_written) first now status was.ends
    zero in record {
      c = was.c;
      config_is = was.config_is;
      outcome = was.outcome;
      all = was.all;
      stop_is = is.1;
      whole = is.0;
      nothing_more = some_is now_written written is.2;
    }
kept_whole zero (inr none) = absurd (none.fault zero)
