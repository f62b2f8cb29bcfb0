-- What the end of a caster that keeps serving says of what was written: with 7, with 5 and with 0;
-- and with 6 of its network.
use Rattle.std.proofs.Common.{◌≡◌, ℕ, ◌+◌, ◌≤◌, Bool, true, false, List, [], ◌∷◌, ◌++◌, length, map, Option, Some, Result, Ok, Err, inl, inr, refl, ap, sym, subst, ◌∙◌, arith}
use Rattle.std.proofs.lemmas.Bool.{cases_lt}
use Rattle.std.specs.Io.KnownBytes.{Appends}
use Rattle.cast_io.specs.Causes.{Rose}
use Rattle.cast_io.specs.declared.yard_asked.YardAsked.{YardAsked}
use Rattle.cast_io.specs.Pieces.{AppendsPrefix}
use Rattle.cast_io.specs.Told.{DoorTold}
use Rattle.cast_io.specs.Yards.{YardTold}
use Rattle.cast_config.specs.declared.config.Config.{Config}
use Rattle.cast_config.specs.declared.fault.ConfigFault.{ConfigFault}
use Rattle.cast_config.specs.declared.fault.ConfigFault.TheVariants as configs
use Rattle.session_model.specs.Text.{closed_text}
use Rattle.caster_press.specs.Lines.{text_in}
use Rattle.caster_press.specs.Written.{IsWritten}
use Rattle.caster_keep.specs.declared.stop.Stop.{Stop}
use Rattle.caster_keep.specs.declared.stop.Stop.TheVariants as stops
use Rattle.caster_keep.specs.declared.whole.Outcome.{Outcome}
use Rattle.caster_keep.specs.declared.whole.KeepFault.{KeepFault}
use Rattle.caster_keep.specs.declared.whole.KeepFault.TheVariants as faults
use Rattle.caster_keep.specs.Keepers.{IsWhy}
use Rattle.cast_console.specs.Consoles.{ConsoleTold}
use Rattle.caster_keep.specs.Keeping.{AreKeepers, HasKept, IsKeeper, IsPorter, KeeperTold, PorterTold, first_stop, start_of, stop_of}
use Rattle.caster_top.specs.Command.{keeping, AreKeep}
use Rattle.caster_top.specs.Reading.{config_in}
use Rattle.caster_top.specs.Outcome.{ExitRule, EndsSo, Exit, ending_of_keeping, ending_of_read, exactly, long_exit, memory_exit, network_exit, usage_exit, whole_exit}
use Rattle.caster_top.specs.Told.{Files, Input, IsConfigFrom, IsOutcome, WritesPart}
use Rattle.caster_top.specs.Answers.{IsRefused, Writes}
use Rattle.caster_top.specs.Casting.{RefusedEnd}
use Rattle.caster_top.specs.Keeping.{AreDone, EndOfKeeping, HasKeeping, IsDone, Keeps, KeptEnd, KeptToItsEnd, PorterIsDone}
use Rattle.caster_top.proofs.WordLemmas.{form_of-form}
use Rattle.caster_top.proofs.AnswerLemmas.{config_came, ending_of_bytes-long, ending_of_bytes-short, outcome_of_read}
use Rattle.caster_top.proofs.DoneLemmas.{config_more}
use Rattle.caster_top.proofs.KeepClauseLemmas.{keep_outcome, refused_cases, unwritten}

abbrev status_at : Exit → ℕ
status_at end = end.status

-- ---- with 7

abbrev unread : Config → ExitRule
unread c = exactly usage_exit

not_seven : {P : Type 0} (end : Exit) (n : ℕ) → end.status ≡ n → end.status ≡ 7 → (n ≡ 7 → ⊥) → P
not_seven end n is seven other = absurd (other (sym is ∙ seven))

read_seven : (read : Result Config ConfigFault) (end : Exit) → EndsSo (ending_of_read unread read) end
    → end.status ≡ 7 → end ≡ memory_exit
read_seven (Ok c) end ends seven = not_seven end 1 (ap status_at ends) seven (λ e. omega (arith, e))
read_seven (Err configs.Memory) end ends seven = ends
read_seven (Err configs.Toml) end ends seven = not_seven end 2 (ap status_at ends) seven (λ e. omega (arith, e))
read_seven (Err (configs.Missing key)) end ends seven =
    not_seven end 2 (ap status_at ends) seven (λ e. omega (arith, e))
read_seven (Err (configs.Wrong key)) end ends seven =
    not_seven end 2 (ap status_at ends) seven (λ e. omega (arith, e))
read_seven (Err (configs.Range key)) end ends seven =
    not_seven end 2 (ap status_at ends) seven (λ e. omega (arith, e))
read_seven (Err (configs.Twice key)) end ends seven =
    not_seven end 2 (ap status_at ends) seven (λ e. omega (arith, e))
read_seven (Err (configs.Unknown key)) end ends seven =
    not_seven end 2 (ap status_at ends) seven (λ e. omega (arith, e))

bytes_seven : (bytes : List ℕ) (end : Exit) → IsRefused bytes end → end.status ≡ 7 → end ≡ memory_exit
bytes_seven bytes end refused seven = elim (cases_lt 8388608 (length bytes)) [
  | inl long ↦
      let is : EndsSo (exactly long_exit) end =
      subst (λ (e : ExitRule). EndsSo e end) (ending_of_bytes-long unread bytes long) (refused.ends unread) in
      not_seven end 8 (ap status_at is) seven (λ e. omega (arith, e))
  | inr short ↦
      read_seven (config_in bytes) end
      (subst (λ (e : ExitRule). EndsSo e end) (ending_of_bytes-short unread bytes short) (refused.ends unread)) seven
]

refused_seven : (config : List ℕ) (files : Files) (fault : Type 0) (end : Exit) → RefusedEnd config files fault end
    → end.status ≡ 7 → end ≡ memory_exit
refused_seven config files fault end (inl memory) seven = memory
refused_seven config files fault end (inr (inl counted)) seven =
    not_seven end 4 (ap status_at counted.1) seven (λ e. omega (arith, e))
refused_seven config files fault end (inr (inr at)) seven = bytes_seven at.0 end at.2 seven

-- neither the line of a failed network nor one that is torn has it
lost_not : {P : Type 0} (old new : Option (List ℕ)) (first now status n : ℕ)
    → Writes network_exit old new first now status → status ≡ n → (n ≡ 6 → ⊥) → (n ≡ 5 → ⊥) → P
lost_not old new first now status n (inl written) is six five = absurd (six (sym is ∙ written.0))
lost_not old new first now status n (inr torn) is six five = absurd (five (sym is ∙ torn.0))

ended_not_seven : {P : Type 0} (torn : Bool) (stop : Stop) (old new : Option (List ℕ)) (first now status : ℕ)
    → KeptEnd torn stop old new first now status → status ≡ 7 → P
ended_not_seven true stop old new first now status end seven = absurd (omega (arith, end.0, seven))
ended_not_seven false stops.Over old new first now status end seven = absurd (omega (arith, end.0, seven))
ended_not_seven false stops.Failed old new first now status end seven =
    lost_not old new first now status 7 end seven (λ e. omega (arith, e)) (λ e. omega (arith, e))

came_seven : (came_to : Result Outcome KeepFault) (old new : Option (List ℕ)) (first now status : ℕ)
    → EndOfKeeping came_to old new first now status → status ≡ 7 → Appends old new memory_exit.text
came_seven (Ok outcome) old new first now status end seven =
    ended_not_seven outcome.is_torn outcome.stop old new first now status end seven
came_seven (Err faults.Network) old new first now status end seven =
    lost_not old new first now status 7 end seven (λ e. omega (arith, e)) (λ e. omega (arith, e))
came_seven (Err faults.Memory) old new first now status (inl written) seven = written.1
came_seven (Err faults.Memory) old new first now status (inr torn) seven = absurd (omega (arith, torn.0, seven))

-- the line of want of memory was written
pub keep_seven : (kept : Keeps) (files : Files) (config addr : List ℕ) (quiet : ℕ) (was is : YardTold)
    (fault : Type 0) (old new : Option (List ℕ)) (first now status : ℕ)
    → HasKeeping kept files config addr quiet was is fault old new first now status → status ≡ 7
    → Appends old new memory_exit.text
keep_seven kept files config addr quiet was is fault old new first now status (inr has) seven =
    came_seven has.came_to old new first now status has.ends seven
keep_seven kept files config addr quiet was is fault old new first now status (inl un) seven = elim un.written [
  | inr torn ↦ absurd (omega (arith, torn.0, seven))
  | inl written ↦
      subst (λ (e : Exit). Appends old new e.text)
      (refused_seven config files fault un.end un.refused (sym written.0 ∙ seven)) written.1
]

-- ---- with 5

-- the line of a failed network was torn
lost_part : (words : List (List ℕ)) (input : Input) (files : Files) (of_input of_store : Type 0)
    (old new : Option (List ℕ)) (first now status : ℕ) → IsOutcome words input files network_exit
    → Writes network_exit old new first now status → status ≡ 5
    → WritesPart words input files of_input of_store old new
lost_part words input files of_input of_store old new first now status is (inl written) five =
    absurd (omega (arith, written.0, five))
lost_part words input files of_input of_store old new first now status is (inr torn) five =
    inl (network_exit, is, torn.2)

ended_part : (words : List (List ℕ)) (input : Input) (files : Files) (of_input of_store : Type 0) (torn : Bool)
    (stop : Stop) (old new : Option (List ℕ)) (first now status : ℕ)
    → IsOutcome words input files (whole_exit []) × IsOutcome words input files network_exit
    → KeptEnd torn stop old new first now status → status ≡ 5
    → WritesPart words input files of_input of_store old new
ended_part words input files of_input of_store true stop old new first now status both end five =
    inl (whole_exit [], both.0, (0, omega arith, unwritten old new end.1.0))
ended_part words input files of_input of_store false stops.Over old new first now status both end five =
    absurd (omega (arith, end.0, five))
ended_part words input files of_input of_store false stops.Failed old new first now status both end five =
    lost_part words input files of_input of_store old new first now status both.1 end five

came_part : (words : List (List ℕ)) (input : Input) (files : Files) (of_input of_store : Type 0)
    (came_to : Result Outcome KeepFault) (old new : Option (List ℕ)) (first now status : ℕ)
    → IsOutcome words input files (whole_exit []) × IsOutcome words input files network_exit
    → EndOfKeeping came_to old new first now status → status ≡ 5
    → WritesPart words input files of_input of_store old new
came_part words input files of_input of_store (Ok outcome) old new first now status both end five =
    ended_part words input files of_input of_store outcome.is_torn outcome.stop old new first now status both end five
came_part words input files of_input of_store (Err faults.Network) old new first now status both end five =
    lost_part words input files of_input of_store old new first now status both.1 end five
came_part words input files of_input of_store (Err faults.Memory) old new first now status both (inl written) five =
    absurd (omega (arith, written.0, five))
came_part words input files of_input of_store (Err faults.Memory) old new first now status both (inr torn) five =
    inr (inr torn.2)

refused_part : (words : List (List ℕ)) (input : Input) (files : Files) (of_input of_store : Type 0)
    (config addr : List ℕ) (quiet : ℕ) (end : Exit) (old new : Option (List ℕ)) → AreKeep words config addr quiet
    → RefusedEnd config files of_store end → AppendsPrefix old new end.text
    → WritesPart words input files of_input of_store old new
refused_part words input files of_input of_store config addr quiet end old new are (inl memory) part =
    inr (inr (subst (λ (e : Exit). AppendsPrefix old new e.text) memory part))
refused_part words input files of_input of_store config addr quiet end old new are (inr (inl counted)) part =
    inr (inl (
      (keeping config addr quiet, are, counted.0),
      subst (λ (e : Exit). AppendsPrefix old new e.text) counted.1 part,
    ))
refused_part words input files of_input of_store config addr quiet end old new are (inr (inr at)) part = inl (
  end,
  outcome_of_read words input files (Some (keeping config addr quiet)) (config_came at.0) end
      (form_of-form words (keeping config addr quiet) are) at.1 (at.2.ends (ending_of_keeping false)),
  part,
)

refused_not_five : (config : List ℕ) (files : Files) (fault : Type 0) (end : Exit) → RefusedEnd config files fault end
    → end.status ≡ 5 → ⊥
refused_not_five config files fault end refused five = elim (refused_cases config files fault end refused) [
  | inl seven ↦ omega (arith, seven, five)
  | inr (inl counted) ↦ let four = ap status_at counted.1 in omega (arith, four, five)
  | inr (inr (is, status)) ↦ omega arith
]

-- a first part of what was to be written was
pub keep_part : (kept : Keeps) (words : List (List ℕ)) (input : Input) (files : Files) (of_input of_store : Type 0)
    (config addr : List ℕ) (quiet : ℕ) (was is : YardTold) (old new : Option (List ℕ)) (first now status : ℕ)
    → AreKeep words config addr quiet
    → HasKeeping kept files config addr quiet was is of_store old new first now status → status ≡ 5
    → WritesPart words input files of_input of_store old new
keep_part kept words input files of_input of_store config addr quiet was is old new first now status are (inr has)
    five =
    came_part words input files of_input of_store has.came_to old new first now status
    (keep_outcome words input files config addr quiet has.c are has.config_is) has.ends five
keep_part kept words input files of_input of_store config addr quiet was is old new first now status are (inl un)
    five = elim un.written [
      | inr torn ↦
          refused_part words input files of_input of_store config addr quiet un.end old new are un.refused torn.2
      | inl written ↦ absurd (refused_not_five config files of_store un.end un.refused (sym written.0 ∙ five))
    ]

-- ---- with 0

-- all gates were over, and nothing more was written
ended_zero : (torn : Bool) (stop : Stop) (old new : Option (List ℕ)) (first now status : ℕ)
    → KeptEnd torn stop old new first now status → status ≡ 0
    → (torn ≡ false) × (stop ≡ stops.Over) × (new ≡ old)
ended_zero true stop old new first now status end zero = absurd (omega (arith, end.0, zero))
ended_zero false stops.Over old new first now status end zero = (refl, refl, end.1.0)
ended_zero false stops.Failed old new first now status end zero =
    lost_not old new first now status 0 end zero (λ e. omega (arith, e)) (λ e. omega (arith, e))

-- a gate failed where it ends with 6
ended_lost : (torn : Bool) (stop : Stop) (old new : Option (List ℕ)) (first now status : ℕ)
    → KeptEnd torn stop old new first now status → status ≡ 6 → stop ≡ stops.Failed
ended_lost true stop old new first now status end six = absurd (omega (arith, end.0, six))
ended_lost false stops.Over old new first now status end six = absurd (omega (arith, end.0, six))
ended_lost false stops.Failed old new first now status end six = refl

refused_not_six : (config : List ℕ) (files : Files) (fault : Type 0) (end : Exit) → RefusedEnd config files fault end
    → end.status ≡ 6 → ⊥
refused_not_six config files fault end refused six = elim (refused_cases config files fault end refused) [
  | inl seven ↦ omega (arith, seven, six)
  | inr (inl counted) ↦ let four = ap status_at counted.1 in omega (arith, four, six)
  | inr (inr (is, status)) ↦ omega arith
]

refused_not_zero : (config : List ℕ) (files : Files) (fault : Type 0) (end : Exit) → RefusedEnd config files fault end
    → end.status ≡ 0 → ⊥
refused_not_zero config files fault end refused zero = elim (refused_cases config files fault end refused) [
  | inl seven ↦ omega (arith, seven, zero)
  | inr (inl counted) ↦ let four = ap status_at counted.1 in omega (arith, four, zero)
  | inr (inr (is, status)) ↦ omega arith
]

-- where no keeper stopped for another reason, all were over
first_over : (stop : Stop) (more : List Stop) → first_stop (stop ∷ more) ≡ stops.Over
    → (stop ≡ stops.Over) × (first_stop more ≡ stops.Over)
first_over stops.Over more is = (refl, is)
first_over stops.Failed more is = absurd (let clash : stops.Failed ≡ stops.Over = is in cc)

module _ {G : Type 0} (told : G → DoorTold) (over : G → Bool) (peer : G → List ℕ) where
  keeper_done : (c : Config) (worn : List ℕ) (me : ℕ) (keeper : KeeperTold G)
      → IsKeeper told over peer c worn me keeper → keeper.stop ≡ stops.Over → IsDone over c me keeper
  keeper_done c worn me keeper is stopped = record {
    gate_over = (subst (λ (s : Stop). IsWhy told over peer s is.kept.at keeper.gate) stopped is.kept.why).1;
    all_lines = is.kept.lines;
  }

  keepers_done : (c : Config) (worn : List ℕ) (n : ℕ) (keepers : List (KeeperTold G))
      → AreKeepers told over peer c worn n keepers → first_stop (map stop_of keepers) ≡ stops.Over
      → AreDone over c n keepers
  keepers_done c worn n [] are stopped = tt
  keepers_done c worn n (keeper ∷ keepers) are stopped =
      let both = first_over keeper.stop (map stop_of keepers) stopped in (
        keeper_done c worn n keeper are.0 both.0,
        keepers_done c worn (n + 1) keepers are.1 both.1,
      )

-- the porter's console was over, and all of its lines were put
porter_done : (c : Config) (worn : List ℕ) (me : ℕ) (porter : PorterTold) → IsPorter c worn me porter
    → PorterIsDone c porter
porter_done c worn me porter is = record {
  console_over = is.answered.over;
  of_all = is.answered.whole;
  all_lines = is.answered.said;
}

module _ {G O : Type 0} {told : G → DoorTold} {over : G → Bool} {peer : G → List ℕ} {origin : G → YardAsked}
    {taken : O → Option (List ℕ)} {faults_of : O → ℕ} {back_before back_now : List ConsoleTold} where
  came_whole : (files : Files) (config addr : List ℕ) (quiet : ℕ) (before after : YardTold)
      (old new : Option (List ℕ)) (first now status : ℕ) (c : Config) (came_to : Result Outcome KeepFault)
      → IsConfigFrom files config c
      → HasKept told over peer origin taken faults_of back_before back_now c addr quiet before after came_to
      → EndOfKeeping came_to old new first now status → status ≡ 0
      → KeptToItsEnd told over peer origin taken faults_of back_before back_now files config addr quiet before after old new
  came_whole files config addr quiet before after old new first now status c (Ok outcome) is did end zero =
      let whole = ended_zero outcome.is_torn outcome.stop old new first now status end zero in
      let went = did.answered in
      let text = subst (λ (torn : Bool). IsWritten torn (start_of taken faults_of went.ended.first)
      (taken went.ended.notes) (faults_of went.ended.notes)
      (text_in went.ended.lines ++ closed_text c outcome.closed)) whole.0 went.ended.text in record {
        c = c;
        config_is = is;
        outcome = outcome;
        went = went;
        done = keepers_done told over peer c _ 0 went.ended.keepers went.ended.all.keepers_are
            (sym went.ended.stop_is ∙ whole.1);
        porter_done = porter_done c _ (length went.ended.keepers) went.ended.porter went.ended.all.porter_is;
        written = text.0;
        unharmed = text.1;
        nothing_more = whole.2;
      }
  came_whole files config addr quiet before after old new first now status c (Err faults.Network) is did end
      zero = lost_not old new first now status 0 end zero (λ e. omega (arith, e)) (λ e. omega (arith, e))
  came_whole files config addr quiet before after old new first now status c (Err faults.Memory) is did
      (inl written) zero = absurd (omega (arith, written.0, zero))
  came_whole files config addr quiet before after old new first now status c (Err faults.Memory) is did
      (inr torn) zero = absurd (omega (arith, torn.0, zero))

  -- a file that is not too long may have come from more
  pub keep_whole : {files more : Files} {config addr : List ℕ} {quiet : ℕ} {before after : YardTold} {fault : Type 0}
      {old new : Option (List ℕ)} {first now status : ℕ}
      → ((path bytes : List ℕ) → length bytes ≤ 8388608 → files path bytes → more path bytes)
      → HasKeeping (HasKept told over peer origin taken faults_of back_before back_now) files config addr quiet before after fault old new
      first now status
      → status ≡ 0
      → KeptToItsEnd told over peer origin taken faults_of back_before back_now more config addr quiet before after old new
  keep_whole {files} {more} {config} {addr} {quiet} {before} {after} {fault} {old} {new} {first} {now} {status} each
      (inr has) zero =
      came_whole more config addr quiet before after old new first now status has.c has.came_to
      (config_more files more config has.c each has.config_is) has.did has.ends zero
  keep_whole {files} {more} {config} {addr} {quiet} {before} {after} {fault} {old} {new} {first} {now} {status} each
      (inl un) zero = elim un.written [
        | inr torn ↦ absurd (omega (arith, torn.0, zero))
        | inl written ↦ absurd (refused_not_zero config files fault un.end un.refused (sym written.0 ∙ zero))
      ]

  -- ---- with 6

  came_lost : (c : Config) (addr : List ℕ) (quiet : ℕ) (before after : YardTold) (old new : Option (List ℕ))
      (first now status : ℕ) (came_to : Result Outcome KeepFault)
      → HasKept told over peer origin taken faults_of back_before back_now c addr quiet before after came_to
      → EndOfKeeping came_to old new first now status → status ≡ 6 → Rose before.faults after.faults
  came_lost c addr quiet before after old new first now status (Ok outcome) did end six =
      did.answered.ended.failed (ended_lost outcome.is_torn outcome.stop old new first now status end six)
  came_lost c addr quiet before after old new first now status (Err faults.Network) did end six = did.answered.2
  came_lost c addr quiet before after old new first now status (Err faults.Memory) did (inl written) six =
      absurd (omega (arith, written.0, six))
  came_lost c addr quiet before after old new first now status (Err faults.Memory) did (inr torn) six =
      absurd (omega (arith, torn.0, six))

  -- the network failed
  pub keep_lost : {files : Files} {config addr : List ℕ} {quiet : ℕ} {before after : YardTold} {fault : Type 0}
      {old new : Option (List ℕ)} {first now status : ℕ}
      → HasKeeping (HasKept told over peer origin taken faults_of back_before back_now) files config addr quiet before
      after fault old new first now status → status ≡ 6 → Rose before.faults after.faults
  keep_lost {files} {config} {addr} {quiet} {before} {after} {fault} {old} {new} {first} {now} {status} (inr has) six =
      came_lost has.c addr quiet before after old new first now status has.came_to has.did has.ends six
  keep_lost {files} {config} {addr} {quiet} {before} {after} {fault} {old} {new} {first} {now} {status} (inl un) six =
      elim un.written [
        | inr torn ↦ absurd (omega (arith, torn.0, six))
        | inl written ↦ absurd (refused_not_six config files fault un.end un.refused (sym written.0 ∙ six))
      ]
