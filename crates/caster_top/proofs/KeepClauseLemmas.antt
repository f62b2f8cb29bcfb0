-- What the words of a caster that keeps serving and its end say of a status and of what was
-- written.
use Rattle.std.proofs.Common.{◌≡◌, ℕ, ◌+◌, ◌*◌, ◌≤◌, ◌⊎◌, Bool, true, false, List, [], ◌∷◌, length, Option, None, Some, Result, Ok, Err, inl, inr, refl, ap, sym, subst, ◌∙◌, arith}
use Rattle.std.specs.Io.KnownBytes.{Appends}
use Rattle.cast_io.specs.Told.{Grew, StoreTold}
use Rattle.cast_io.specs.Yards.{YardTold}
use Rattle.cast_config.specs.declared.config.Config.{Config}
use Rattle.caster_keep.specs.declared.stop.Stop.{Stop}
use Rattle.caster_keep.specs.declared.stop.Stop.TheVariants as stops
use Rattle.caster_keep.specs.declared.whole.Outcome.{Outcome}
use Rattle.caster_keep.specs.declared.whole.KeepFault.{KeepFault}
use Rattle.caster_keep.specs.declared.whole.KeepFault.TheVariants as faults
use Rattle.caster_top.specs.Command.{Form, keeping, AreKeep, AreOf, KeepNothing, files_of, form_of}
use Rattle.caster_top.specs.Outcome.{Exit, ending_of_bytes, ending_of_keeping, exactly, memory_exit, network_exit, read_fault_exit, usage_exit, whole_exit}
use Rattle.caster_top.specs.Told.{Files, FilesTold, Input, EndsWith, FollowsOutcome, HaveFault, IsAsked, IsConfigFrom, IsOutcome}
use Rattle.caster_top.specs.Answers.{IsRefused, IsRefusedAt, Writes}
use Rattle.caster_top.specs.Casting.{RefusedEnd}
use Rattle.caster_top.specs.Kept.{KeepsFiles, LeavesStore}
use Rattle.caster_top.specs.Keeping.{EndOfKeeping, HasKeeping, Keeps, KeptEnd}
use Rattle.ntrip_fetch.proofs.WritingLemmas.{appends_none}
use Rattle.caster_top.proofs.WordLemmas.{form_of-form}
use Rattle.caster_top.proofs.AnswerLemmas.{at_end, config_came, outcome_of_read}
use Rattle.caster_top.proofs.AskedLemmas.{asked_so}
use Rattle.caster_top.proofs.CastingLemmas.{failed_came}
use Rattle.caster_top.proofs.ClauseLemmas.{one_form}
use Rattle.caster_top.proofs.StatusLemmas.{status-ends, too_many, read, faulty, wanting, bytes_cases}

-- ---- the words

abbrev pub is_keep : Form → Bool
is_keep (keeping config addr quiet) = true
is_keep form = false

abbrev is_read_keep : Option Form → Bool
is_read_keep None = false
is_read_keep (Some form) = is_keep form

-- words of such a caster have no other form
pub keep_alone : {P : Type 0} (words : List (List ℕ)) (config addr : List ℕ) (quiet : ℕ) (form : Form)
    → AreKeep words config addr quiet → AreOf words form → is_keep form ≡ false → P
keep_alone words config addr quiet form keep are other =
    let same : true ≡ is_keep form = ap is_read_keep (one_form words (keeping config addr quiet) form keep are) in
    absurd cc

-- words of another form ask for none
pub keeps_nothing : (words : List (List ℕ)) (form : Form) → AreOf words form → is_keep form ≡ false → KeepNothing words
keeps_nothing words form are other config addr quiet keep = keep_alone words config addr quiet form keep are other

keep_is : (config other_config addr other_addr : List ℕ) (quiet other : ℕ)
    → Some (keeping config addr quiet) ≡ Some (keeping other_config other_addr other)
    → (config ≡ other_config) × (addr ≡ other_addr) × (quiet ≡ other)
keep_is config other_config addr other_addr quiet other e = (cc, cc, cc)

-- what is said of the caster that was read is said of the one that the words ask for
pub keep_of_words : (kept : Keeps) (words : List (List ℕ)) (files : Files)
    (config other_config addr other_addr : List ℕ) (quiet other : ℕ) (was is : YardTold) (fault : Type 0)
    (old new : Option (List ℕ)) (first now status : ℕ) → AreKeep words config addr quiet
    → AreKeep words other_config other_addr other
    → HasKeeping kept files config addr quiet was is fault old new first now status
    → HasKeeping kept files other_config other_addr other was is fault old new first now status
keep_of_words kept words files config other_config addr other_addr quiet other was is fault old new first now status
    first_are are all =
    let same = keep_is config other_config addr other_addr quiet other
    (one_form words (keeping config addr quiet) (keeping other_config other_addr other) first_are are) in
    subst (λ (n : ℕ). HasKeeping kept files other_config other_addr n was is fault old new first now status) same.2
    (subst (λ (a : List ℕ). HasKeeping kept files other_config a quiet was is fault old new first now status) same.1
    (subst (λ (p : List ℕ). HasKeeping kept files p addr quiet was is fault old new first now status) same.0 all))

-- one file is asked for
pub keep_asked : (words : List (List ℕ)) (config addr : List ℕ) (quiet : ℕ) (files : FilesTold)
    (old new : Option (List (List ℕ))) → AreKeep words config addr quiet → Grew old new (config ∷ [])
    → IsAsked (form_of words) files old new
keep_asked words config addr quiet files old new are grew =
    asked_so words (Some (keeping config addr quiet)) files old new
    (form_of-form words (keeping config addr quiet) are) (config ∷ [], refl, grew)

-- and it is kept, and read 8 MiB and two times more at most
pub keep_stored : {Store : Type 0} (told : Store → StoreTold) (faults_of reads_of : Store → ℕ)
    (words : List (List ℕ)) (config addr : List ℕ) (quiet : ℕ) (old new : Store)
    → AreKeep words config addr quiet → KeepsFiles told faults_of reads_of 8388610 old new
    → LeavesStore told faults_of reads_of words old new
keep_stored told faults_of reads_of words config addr quiet old new are kept = record {
  unasked = λ none. absurd (none.3 config addr quiet are);
  files = kept.files;
  few = subst (λ (form : Option Form). reads_of new ≤ reads_of old + 8388610 * length (files_of form))
      (sym (form_of-form words (keeping config addr quiet) are)) kept.few;
  faults = kept.faults;
}

-- ---- the status

-- without a configuration it is 2, 7 or 8
refused_is : (bytes : List ℕ) (end : Exit) → IsRefused bytes end
    → (end.status ≡ 8) ⊎ ((end.status ≡ 2) ⊎ (end.status ≡ 7))
refused_is bytes end refused =
    let ended = status-ends (ending_of_bytes (λ (c : Config). exactly usage_exit) bytes) end
    (refused.ends (λ (c : Config). exactly usage_exit)) in
    elim (bytes_cases (λ (c : Config). exactly usage_exit) bytes) [
      | too_many status long ↦ inl (ended ∙ status)
      | read c is ends ↦ absurd (refused.none c is)
      | faulty status short none ↦ inr (inl (ended ∙ status))
      | wanting status ↦ inr (inr (ended ∙ status))
    ]

-- with a caster it is 0, 5, 6 or 7
abbrev IsKeptStatus : ℕ → Type 0
IsKeptStatus status = (status ≡ 0) ⊎ ((status ≡ 5) ⊎ ((status ≡ 6) ⊎ (status ≡ 7)))

written_is : (end : Exit) (old new : Option (List ℕ)) (first now status : ℕ) → IsKeptStatus end.status
    → Writes end old new first now status → IsKeptStatus status
written_is end old new first now status is (inl written) = subst IsKeptStatus (sym written.0) is
written_is end old new first now status is (inr torn) = inr (inl torn.0)

network_is : (old new : Option (List ℕ)) (first now status : ℕ) → Writes network_exit old new first now status
    → IsKeptStatus status
network_is old new first now status end = written_is network_exit old new first now status (inr (inr (inl refl))) end

outcome_is : (torn : Bool) (stop : Stop) (old new : Option (List ℕ)) (first now status : ℕ)
    → KeptEnd torn stop old new first now status → IsKeptStatus status
outcome_is true stop old new first now status end = inr (inl end.0)
outcome_is false stops.Over old new first now status end = inl end.0
outcome_is false stops.Failed old new first now status end = network_is old new first now status end

kept_is : (came_to : Result Outcome KeepFault) (old new : Option (List ℕ)) (first now status : ℕ)
    → EndOfKeeping came_to old new first now status → IsKeptStatus status
kept_is (Ok outcome) old new first now status end =
    outcome_is outcome.is_torn outcome.stop old new first now status end
kept_is (Err faults.Network) old new first now status end = network_is old new first now status end
kept_is (Err faults.Memory) old new first now status end =
    written_is memory_exit old new first now status (inr (inr (inr refl))) end

kept_not_four : (status : ℕ) → IsKeptStatus status → status ≡ 4 → ⊥
kept_not_four status is four = omega arith

kept_not_nine : (status : ℕ) → IsKeptStatus status → status ≡ 9 → ⊥
kept_not_nine status is nine = omega arith

-- without a configuration: 4 only where a fault was counted
pub refused_cases : (config : List ℕ) (files : Files) (fault : Type 0) (end : Exit) → RefusedEnd config files fault end
    → (end.status ≡ 7) ⊎ ((fault × (end ≡ read_fault_exit)) ⊎ (IsRefusedAt config files end
    × ((end.status ≡ 8) ⊎ ((end.status ≡ 2) ⊎ (end.status ≡ 7)))))
refused_cases config files fault end (inl memory) = inl (ap (λ (x : Exit). x.status) memory)
refused_cases config files fault end (inr (inl counted)) = inr (inl counted)
refused_cases config files fault end (inr (inr is)) = inr (inr (is, refused_is is.0 end is.2))

refused_not_nine : (config : List ℕ) (files : Files) (fault : Type 0) (end : Exit) → RefusedEnd config files fault end
    → end.status ≡ 9 → ⊥
refused_not_nine config files fault end refused nine = elim (refused_cases config files fault end refused) [
  | inl seven ↦ omega (arith, seven, nine)
  | inr (inl counted) ↦ let four = ap (λ (x : Exit). x.status) counted.1 in omega (arith, four, nine)
  | inr (inr (is, status)) ↦ omega arith
]

-- ---- where a status names no fault, the outcome followed

-- the text that is left to be written is the outcome of the words
pub keep_outcome : (words : List (List ℕ)) (input : Input) (files : Files) (config addr : List ℕ) (quiet : ℕ) (c : Config)
    → AreKeep words config addr quiet → IsConfigFrom files config c
    → IsOutcome words input files (whole_exit []) × IsOutcome words input files network_exit
keep_outcome words input files config addr quiet c are is =
    let h = form_of-form words (keeping config addr quiet) are in (
      outcome_of_read words input files (Some (keeping config addr quiet)) (config_came is.0) (whole_exit []) h is.1
          (at_end (ending_of_keeping false) files config c (whole_exit []) is refl),
      outcome_of_read words input files (Some (keeping config addr quiet)) (failed_came is.0) network_exit h is.1
          (at_end (ending_of_keeping true) files config c network_exit is refl),
    )

-- nothing was written
pub unwritten : (old new : Option (List ℕ)) → new ≡ old → Appends old new []
unwritten old new same = subst (λ (after : Option (List ℕ)). Appends old after []) (sym same) (appends_none old)

written_follows : (words : List (List ℕ)) (input : Input) (files : Files) (end : Exit) (old new : Option (List ℕ))
    (first now status : ℕ) → IsOutcome words input files end → Writes end old new first now status
    → (status ≡ 5 → ⊥) → FollowsOutcome words input files status old new
written_follows words input files end old new first now status is (inl written) five = (end, is, written)
written_follows words input files end old new first now status is (inr torn) five = absurd (five torn.0)

ended_follows : (words : List (List ℕ)) (input : Input) (files : Files) (torn : Bool) (stop : Stop)
    (old new : Option (List ℕ)) (first now status : ℕ)
    → IsOutcome words input files (whole_exit []) × IsOutcome words input files network_exit
    → KeptEnd torn stop old new first now status → (status ≡ 5 → ⊥) → FollowsOutcome words input files status old new
ended_follows words input files true stop old new first now status both end five = absurd (five end.0)
ended_follows words input files false stops.Over old new first now status both end five =
    (whole_exit [], both.0, (end.0, unwritten old new end.1.0))
ended_follows words input files false stops.Failed old new first now status both end five =
    written_follows words input files network_exit old new first now status both.1 end five

came_follows : (words : List (List ℕ)) (input : Input) (files : Files) (came_to : Result Outcome KeepFault)
    (old new : Option (List ℕ)) (first now status : ℕ)
    → IsOutcome words input files (whole_exit []) × IsOutcome words input files network_exit
    → EndOfKeeping came_to old new first now status → (status ≡ 5 → ⊥) → (status ≡ 7 → ⊥)
    → FollowsOutcome words input files status old new
came_follows words input files (Ok outcome) old new first now status both end five seven =
    ended_follows words input files outcome.is_torn outcome.stop old new first now status both end five
came_follows words input files (Err faults.Network) old new first now status both end five seven =
    written_follows words input files network_exit old new first now status both.1 end five
came_follows words input files (Err faults.Memory) old new first now status both (inl written) five seven =
    absurd (seven written.0)
came_follows words input files (Err faults.Memory) old new first now status both (inr torn) five seven =
    absurd (five torn.0)

refused_follows : (words : List (List ℕ)) (input : Input) (files : Files) (fault : Type 0) (config addr : List ℕ)
    (quiet : ℕ) (end : Exit) (old new : Option (List ℕ)) (status : ℕ) → AreKeep words config addr quiet
    → RefusedEnd config files fault end → EndsWith status old new end → (status ≡ 4 → ⊥) → (status ≡ 7 → ⊥)
    → FollowsOutcome words input files status old new
refused_follows words input files fault config addr quiet end old new status are (inl memory) written four seven =
    absurd (seven (written.0 ∙ ap (λ (x : Exit). x.status) memory))
refused_follows words input files fault config addr quiet end old new status are (inr (inl counted)) written four seven =
    absurd (four (written.0 ∙ ap (λ (x : Exit). x.status) counted.1))
refused_follows words input files fault config addr quiet end old new status are (inr (inr is)) written four seven = (
  end,
  outcome_of_read words input files (Some (keeping config addr quiet)) (config_came is.0) end
      (form_of-form words (keeping config addr quiet) are) is.1 (is.2.ends (ending_of_keeping false)),
  written,
)

pub keep_follows : (kept : Keeps) (words : List (List ℕ)) (input : Input) (files : Files) (config addr : List ℕ)
    (quiet : ℕ) (was is : YardTold) (fault : Type 0) (old new : Option (List ℕ)) (first now status : ℕ)
    → AreKeep words config addr quiet → HasKeeping kept files config addr quiet was is fault old new first now status
    → (status ≡ 4 → ⊥) → (status ≡ 5 → ⊥) → (status ≡ 7 → ⊥) → FollowsOutcome words input files status old new
keep_follows kept words input files config addr quiet was is fault old new first now status are (inl un) four five
    seven = elim un.written [
      | inl written ↦
          refused_follows words input files fault config addr quiet un.end old new status are un.refused written four
          seven
      | inr torn ↦ absurd (five torn.0)
    ]
keep_follows kept words input files config addr quiet was is fault old new first now status are (inr has) four five
    seven =
    came_follows words input files has.came_to old new first now status
    (keep_outcome words input files config addr quiet has.c are has.config_is) has.ends five seven

-- ---- what a status says

-- with 4 there was a fault of reading, and its line was written
pub keep_four : (kept : Keeps) (words : List (List ℕ)) (files : Files) (of_input of_store : Type 0)
    (config addr : List ℕ) (quiet : ℕ) (was is : YardTold) (old new : Option (List ℕ)) (first now status : ℕ)
    → AreKeep words config addr quiet
    → HasKeeping kept files config addr quiet was is of_store old new first now status → status ≡ 4
    → HaveFault words of_input of_store × Appends old new read_fault_exit.text
keep_four kept words files of_input of_store config addr quiet was is old new first now status are (inr has) four =
    absurd (kept_not_four status (kept_is has.came_to old new first now status has.ends) four)
keep_four kept words files of_input of_store config addr quiet was is old new first now status are (inl un) four =
    elim un.written [
      | inr torn ↦ absurd (omega (arith, torn.0, four))
      | inl written ↦ elim (refused_cases config files of_store un.end un.refused) [
        | inl seven ↦ absurd (omega (arith, seven, four, written.0))
        | inr (inl counted) ↦ (
          (keeping config addr quiet, are, counted.0),
          subst (λ (e : Exit). Appends old new e.text) counted.1 written.1,
        )
        | inr (inr (at, status_is)) ↦
            absurd (let e : status ≡ un.end.status = written.0 in omega arith)
      ]
    ]

-- it is never 9
pub keep_not_nine : {P : Type 0} (kept : Keeps) (files : Files) (config addr : List ℕ) (quiet : ℕ) (was is : YardTold)
    (fault : Type 0) (old new : Option (List ℕ)) (first now status : ℕ)
    → HasKeeping kept files config addr quiet was is fault old new first now status → status ≡ 9 → P
keep_not_nine kept files config addr quiet was is fault old new first now status (inr has) nine =
    absurd (kept_not_nine status (kept_is has.came_to old new first now status has.ends) nine)
keep_not_nine kept files config addr quiet was is fault old new first now status (inl un) nine = elim un.written [
  | inr torn ↦ absurd (omega (arith, torn.0, nine))
  | inl written ↦ absurd (refused_not_nine config files fault un.end un.refused (sym written.0 ∙ nine))
]

-- ---- from more

-- whose configuration may have come from more
pub keeping_more : (kept : Keeps) (files more : Files) (config addr : List ℕ) (quiet : ℕ) (was is : YardTold)
    (fault : Type 0) (old new : Option (List ℕ)) (first now status : ℕ)
    → ((path bytes : List ℕ) → files path bytes → more path bytes)
    → HasKeeping kept files config addr quiet was is fault old new first now status
    → HasKeeping kept more config addr quiet was is fault old new first now status
keeping_more kept files more config addr quiet was is fault old new first now status each (inl un) = inl (record {
  alone = un.alone;
  end = un.end;
  refused = elim un.refused [
    | inl memory ↦ inl memory
    | inr (inl counted) ↦ inr (inl counted)
    | inr (inr at) ↦ inr (inr (at.0, each config at.0 at.1, at.2))
  ];
  written = un.written;
})
keeping_more kept files more config addr quiet was is fault old new first now status each (inr has) = inr (record {
  c = has.c;
  config_is = (has.config_is.0, each config has.config_is.0 has.config_is.1, has.config_is.2, has.config_is.3);
  came_to = has.came_to;
  did = has.did;
  ends = has.ends;
})
