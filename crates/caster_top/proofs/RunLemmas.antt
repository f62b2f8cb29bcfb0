-- What the end of a run says: a lemma for each clause of the call that it decides.
use Rattle.std.proofs.Common.{◌≡◌, ℕ, ◌⊎◌, List, Option, Ok, inl, inr, refl, arith}
use Rattle.std.specs.Io.KnownBytes.{Appends}
use Rattle.session_script.specs.declared.Event.{Event}
use Rattle.session_script.specs.Writing.{script_text}
use Rattle.session_model.specs.declared.report.Closed.{Closed}
use Rattle.session_model.specs.Text.{closed_text}
use Rattle.cast_io.specs.Causes.{Rose}
use Rattle.cast_io.specs.Logs.{Log}
use Rattle.cast_io.specs.Pieces.{AppendsPrefix}
use Rattle.cast_io.specs.Told.{StreetTold}
use Rattle.cast_io.specs.Yards.{YardTold}
use Rattle.cast_config.specs.declared.config.Config.{Config}
use Rattle.caster_serve.specs.Caster.{HasServed}
use Rattle.serve_promise.proofs.CallerLemmas.{all_promised}
use Rattle.ntrip_fetch.specs.declared.left.FetchFault.TheVariants as faults
use Rattle.ntrip_fetch.specs.declared.target.Target.{Target}
use Rattle.ntrip_fetch.specs.Tries.{HasStopped}
use Rattle.caster_top.specs.declared.answers.Answer.{Answer}
use Rattle.caster_top.specs.declared.answers.Answer.TheVariants.{Done, ReadFault, Memory}
use Rattle.caster_top.specs.declared.command.RoverStart.TheVariants.{Cold, Warm}
use Rattle.caster_top.specs.declared.command.CasterMode.{CasterMode}
use Rattle.caster_top.specs.declared.command.CasterMode.TheVariants.{Serve, Record}
use Rattle.caster_top.specs.Command.{casting, fetching, keeping, AreCasting, AreFetch, AreKeep, AreOfNoForm, AreRecord, AreServe, KeepNothing, WriteAtEnd}
use Rattle.caster_top.specs.Outcome.{memory_exit, network_exit, read_fault_exit}
use Rattle.caster_top.specs.Told.{Files, FilesTold, Holds, Input, EndsWith, FollowsOutcome, HaveFault, IsConfigFrom, Tells, WritesPart}
use Rattle.caster_top.specs.Answers.{exit_of, IsAnswer, Writes}
use Rattle.caster_top.specs.Given.{FileCame, InputCame}
use Rattle.caster_top.specs.Casting.{HasCast, HasCasting, IsUnserved, no_network}
use Rattle.caster_top.specs.Recording.{HasRecorded}
use Rattle.caster_top.specs.Fetching.{HasFetched, HasFetching}
use Rattle.caster_top.specs.Keeping.{HasKeeping, Keeps}
use Rattle.caster_top.specs.Promised.{KeepPromise, WasPromised}
use Rattle.caster_top.specs.Done.{WasDone}
use Rattle.caster_top.specs.Running.{EndsByAnswer, HasRun}
use Rattle.caster_top.proofs.ClauseLemmas.{decided_run, no_form_run}
use Rattle.caster_top.proofs.PromiseLemmas.{bare_promised, replay_promised, warm_promised, record_promised}
use Rattle.caster_top.proofs.AnswerLemmas.{answer_more}
use Rattle.caster_top.proofs.GivenLemmas.{told_only}
use Rattle.caster_top.proofs.OutcomeLemmas.{Decided, Decided-bare, Decided-checked, Decided-migrated, Decided-network, Decided-played, Decided-promised_report, Decided-reported, Decided-tabled}
use Rattle.caster_top.proofs.CastingLemmas.{casting_more, casting_written, served_run, recorded_run, lost_run, network_rose, unserved_run}
use Rattle.caster_top.proofs.KeepClauseLemmas.{keep_alone, keep_follows, keep_four, keep_not_nine, keep_of_words, keeping_more}
use Rattle.caster_top.proofs.KeepEndLemmas.{keep_part, keep_seven}
use Rattle.caster_top.proofs.FetchClauseLemmas.{fetch_alone, fetch_follows, fetch_never, fetch_of_words, fetch_rose, fetch_unserved, fetched_run, never_nine, torn_run, wanting_run}

-- ---- an answer that was written

-- no answer has status 5
never_five : {P : Type 0} (answer : Answer) (status : ℕ) → status ≡ (exit_of answer).status → status ≡ 5 → P
never_five (Done text) status is five = absurd (omega (arith, is, five))
never_five answer status is five = absurd (omega (arith, is, five))

-- with it a write failed, inside the text
five_torn : (answer : Answer) (old new : Option (List ℕ)) (first now status : ℕ)
    → Writes (exit_of answer) old new first now status → status ≡ 5
    → Rose first now × AppendsPrefix old new (exit_of answer).text
five_torn answer old new first now status (inl written) five = never_five answer status written.0 five
five_torn answer old new first now status (inr torn) five = (torn.1, torn.2)

-- with 4 there was a fault of reading, and its line was written
four_at : (words : List (List ℕ)) (input : Input) (files : Files) (of_input of_store : Type 0)
    (old new : Option (List ℕ)) (status : ℕ) (answer : Answer) → IsAnswer words input files of_input of_store answer
    → EndsWith status old new (exit_of answer) → status ≡ 4
    → HaveFault words of_input of_store × Appends old new read_fault_exit.text
four_at words input files of_input of_store old new status ReadFault is written four = (is, written.1)
four_at words input files of_input of_store old new status answer is written four =
    absurd (omega (arith, written.0, four))

four_written : (words : List (List ℕ)) (input : Input) (files : Files) (of_input of_store : Type 0)
    (old new : Option (List ℕ)) (first now status : ℕ) (answer : Answer)
    → IsAnswer words input files of_input of_store answer → Writes (exit_of answer) old new first now status
    → status ≡ 4 → HaveFault words of_input of_store × Appends old new read_fault_exit.text
four_written words input files of_input of_store old new first now status answer is (inl written) four =
    four_at words input files of_input of_store old new status answer is written four
four_written words input files of_input of_store old new first now status answer is (inr torn) four =
    absurd (omega (arith, torn.0, four))

-- with 7 there was no memory, and its line was written
seven_at : (old new : Option (List ℕ)) (status : ℕ) (answer : Answer) → EndsWith status old new (exit_of answer)
    → status ≡ 7 → Appends old new memory_exit.text
seven_at old new status Memory written seven = written.1
seven_at old new status answer written seven = absurd (omega (arith, written.0, seven))

seven_written : (old new : Option (List ℕ)) (first now status : ℕ) (answer : Answer)
    → Writes (exit_of answer) old new first now status → status ≡ 7 → Appends old new memory_exit.text
seven_written old new first now status answer (inl written) seven = seven_at old new status answer written seven
seven_written old new first now status answer (inr torn) seven = absurd (omega (arith, torn.0, seven))

-- a first part of an answer's text is one of the outcome, of the line of a fault or of that of want
-- of memory
part_of : (words : List (List ℕ)) (input : Input) (files : Files) (of_input of_store : Type 0)
    (old new : Option (List ℕ)) (answer : Answer) → IsAnswer words input files of_input of_store answer
    → AppendsPrefix old new (exit_of answer).text → WritesPart words input files of_input of_store old new
part_of words input files of_input of_store old new Memory is part = inr (inr part)
part_of words input files of_input of_store old new ReadFault is part = inr (inl (is, part))
part_of words input files of_input of_store old new answer is part = inl (exit_of answer, is, part)

-- what the street tells stays as it was where the status says that there was no caster
pub answered_unserved : {words : List (List ℕ)} {input : Input} {files : Files} {of_input of_store : Type 0}
    {before after : StreetTold} {old new : Option (List ℕ)} {first now status : ℕ}
    → EndsByAnswer words input files of_input of_store before after old new first now status → IsUnserved status
    → after ≡ before
answered_unserved {words} {input} {files} {of_input} {of_store} {before} {after} {old} {new} {first} {now} {status} a is =
    unserved_run words files before after of_store old new first now status is a.alone
    (λ task config addr limit are. casting_written task files config addr limit before after of_store old new first now
    status a.answer (a.casting task config addr limit are) a.written)

-- ---- each clause

module _ {kept : Keeps} {words : List (List ℕ)} {input : Input} {files : Files} {of_input of_store : Type 0}
    {was is : YardTold} {before after : StreetTold} {old new : Option (List ℕ)} {first now status : ℕ}
    (run : HasRun kept words input files of_input of_store was is before after old new first now status) where
  pub HasRun-outcome : (status ≡ 4 → ⊥) → (status ≡ 5 → ⊥) → (status ≡ 7 → ⊥)
      → FollowsOutcome words input files status old new
  HasRun-outcome read write memory = elim run.ends [
    | inl a ↦ decided_run words input files of_input of_store old new first now status a.answer a.is a.written
        read write memory
    | inr (inl f) ↦ fetch_follows words input files f.frames f.targets before after old new first now status f.are f.fetching
        write memory
    | inr (inr k) ↦ keep_follows kept words input files k.config k.addr k.quiet was is of_store old new first now status k.are
        k.keeping read write memory
  ]

  pub HasRun-decided : Decided words input files old new status
  HasRun-decided = record { follows = λ read write memory. HasRun-outcome read write memory }

  -- ---- a caster

  pub HasRun-casting : (task : CasterMode) (config addr : List ℕ) (limit : ℕ) → AreCasting task words config addr limit
      → HasCasting task files config addr limit before after of_store old new first now status
  HasRun-casting task config addr limit are = elim run.ends [
    | inl a ↦
        casting_written task files config addr limit before after of_store old new first now status a.answer
        (a.casting task config addr limit are) a.written
    | inr (inl f) ↦ fetch_alone words f.frames f.targets (casting task config addr limit) f.are are refl
    | inr (inr k) ↦ keep_alone words k.config k.addr k.quiet (casting task config addr limit) k.are are refl
  ]

  pub HasRun-served : status ≡ 0 → (config addr : List ℕ) (limit : ℕ) → AreServe words config addr limit
      → (c : Config) × (closed : Closed) × IsConfigFrom files config c × HasServed c addr limit before after (Ok closed)
      × Appends old new (closed_text c closed)
  HasRun-served zero config addr limit are =
      served_run files config addr limit before after of_store old new first now status zero
      (HasRun-casting Serve config addr limit are)

  pub HasRun-recorded : status ≡ 0 → (config addr : List ℕ) (limit : ℕ) → AreRecord words config addr limit
      → (c : Config) × (events : List Event) × IsConfigFrom files config c × HasRecorded c addr limit before after events
      × Appends old new (script_text events)
  HasRun-recorded zero config addr limit are =
      recorded_run files config addr limit before after of_store old new first now status zero
      (HasRun-casting Record config addr limit are)

  -- ---- the promise

  pub HasRun-done : status ≡ 0 → WasDone words input files before after old new
  HasRun-done zero = record {
    bare = λ capacity are. Decided-bare HasRun-decided zero capacity are;
    checked = λ path are. Decided-checked HasRun-decided zero path are;
    tabled = λ path are. Decided-tabled HasRun-decided zero path are;
    migrated = λ path are.
        let run = Decided-migrated HasRun-decided zero path are in (run.0, run.1, run.2, (run.3, run.4), run.5);
    played = λ start config session are. Decided-played HasRun-decided start zero config session are;
    served = λ config addr limit are. HasRun-served zero config addr limit are;
    recorded = λ config addr limit are. HasRun-recorded zero config addr limit are;
  }

  pub HasRun-done_promised : status ≡ 0 → WasPromised words input files before after old new
  HasRun-done_promised zero = record {
    bare = λ capacity are.
        let run = Decided-reported HasRun-decided zero capacity are in (
          run.0,
          run.1,
          run.2,
          run.3,
          run.4,
          bare_promised words capacity run.0 run.1 run.2 are run.4 run.5,
          run.6,
        );
    replayed = λ config session are.
        let run = Decided-played HasRun-decided Cold zero config session are in (
          run.0,
          run.1,
          run.2,
          run.3,
          run.4,
          replay_promised files config session run.0 run.1 run.2 run.3 run.4 run.5,
          run.6,
        );
    warmed = λ config session are.
        let run = Decided-played HasRun-decided Warm zero config session are in (
          run.0,
          run.1,
          run.2,
          run.3,
          run.4,
          warm_promised files config session run.0 run.1 run.2 run.3 run.4 run.5,
          run.6,
        );
    served = λ config addr limit are.
        let run = HasRun-served zero config addr limit are in
        (run.0, run.1, run.2, all_promised run.0 addr limit before after run.1 run.3, run.4);
    recorded = λ config addr limit are.
        let run = HasRun-recorded zero config addr limit are in (
          run.0,
          run.1,
          run.3,
          run.2,
          record_promised files config addr limit before after run.0 run.1 run.3 run.2,
          run.4,
        );
  }

  pub HasRun-network_fault : status ≡ 6 → KeepNothing words → (task : CasterMode) × (config addr : List ℕ) × (limit : ℕ) × (c : Config)
      × AreCasting task words config addr limit × IsConfigFrom files config c
      × HasCast task c addr limit before after no_network × Rose before.faults after.faults
      × Appends old new network_exit.text
  HasRun-network_fault six nothing =
      let asked = Decided-network HasRun-decided nothing six in
      let lost = lost_run asked.0 files asked.1 asked.2 asked.3 before after of_store old new first now status six
      (HasRun-casting asked.0 asked.1 asked.2 asked.3 asked.4) in (
        asked.0,
        asked.1,
        asked.2,
        asked.3,
        lost.0,
        asked.4,
        lost.1,
        lost.2,
        network_rose asked.0 lost.0 asked.2 asked.3 before after lost.2,
        lost.3,
      )

  pub HasRun-unserved : IsUnserved status → after ≡ before
  HasRun-unserved is = elim run.ends [
    | inl a ↦ answered_unserved a is
    | inr (inl f) ↦ fetch_unserved f.frames f.targets before after old new first now status f.fetching is
    | inr (inr k) ↦ k.street
  ]

  -- ---- a caster that keeps serving

  pub HasRun-keeping : (config addr : List ℕ) (quiet : ℕ) → AreKeep words config addr quiet
      → HasKeeping kept files config addr quiet was is of_store old new first now status
  HasRun-keeping config addr quiet are = elim run.ends [
    | inl a ↦ absurd (a.no_keep config addr quiet are)
    | inr (inl f) ↦ keep_alone words config addr quiet (fetching f.frames f.targets) are f.are refl
    | inr (inr k) ↦ keep_of_words kept words files k.config config k.addr addr k.quiet quiet was is of_store old new
        first now status k.are are k.keeping
  ]

  -- ---- a fetch

  pub HasRun-fetching : (frames : ℕ) (targets : List Target) → AreFetch words frames targets
      → HasFetching frames targets before after old new first now status
  HasRun-fetching frames targets are = elim run.ends [
    | inl a ↦ absurd (a.no_fetch frames targets are)
    | inr (inl f) ↦
        fetch_of_words words f.frames frames f.targets targets before after old new first now status f.are are f.fetching
    | inr (inr k) ↦ keep_alone words k.config k.addr k.quiet (fetching frames targets) k.are are refl
  ]

  pub HasRun-fetched : (status ≡ 0) ⊎ (status ≡ 9) → (frames : ℕ) (targets : List Target)
      → AreFetch words frames targets → HasFetched frames targets before after old new status
  HasRun-fetched is frames targets are =
      fetched_run frames targets before after old new first now status (HasRun-fetching frames targets are) is

  pub HasRun-fetch_torn : status ≡ 5 → (frames : ℕ) (targets : List Target) → AreFetch words frames targets
      → HasStopped frames targets before after old new faults.Sink
  HasRun-fetch_torn five frames targets are =
      torn_run frames targets before after old new first now status (HasRun-fetching frames targets are) five

  pub HasRun-fetch_memory : status ≡ 7 → (frames : ℕ) (targets : List Target) → AreFetch words frames targets
      → HasStopped frames targets before after old new faults.Memory
  HasRun-fetch_memory seven frames targets are =
      wanting_run frames targets before after old new first now status (HasRun-fetching frames targets are) seven

  pub HasRun-too_few : status ≡ 9 → (frames : ℕ) × (targets : List Target) × AreFetch words frames targets
  HasRun-too_few nine = elim run.ends [
    | inl a ↦ never_nine a.answer old new first now status a.written nine
    | inr (inl f) ↦ (f.frames, f.targets, f.are)
    | inr (inr k) ↦ keep_not_nine kept files k.config k.addr k.quiet was is of_store old new first now status k.keeping nine
  ]

  pub HasRun-no_form : AreOfNoForm words → (status ≡ 1) ⊎ (status ≡ 5)
  HasRun-no_form none = elim run.ends [
    | inl a ↦
        no_form_run words input files of_input of_store old new first now status a.answer a.is a.written none
    | inr (inl f) ↦ absurd (none (fetching f.frames f.targets) f.are)
    | inr (inr k) ↦ absurd (none (keeping k.config k.addr k.quiet) k.are)
  ]

  four : status ≡ 4 → HaveFault words of_input of_store × Appends old new read_fault_exit.text
  four at = elim run.ends [
    | inl a ↦ four_written words input files of_input of_store old new first now status a.answer a.is a.written at
    | inr (inl f) ↦ fetch_never 4 f.frames f.targets before after old new first now status f.fetching at refl
    | inr (inr k) ↦ keep_four kept words files of_input of_store k.config k.addr k.quiet was is old new first now status k.are
        k.keeping at
  ]

  pub HasRun-read_fault : status ≡ 4 → HaveFault words of_input of_store
  HasRun-read_fault is = (four is).0

  pub HasRun-write_fault : status ≡ 5 → KeepNothing words → Rose first now
  HasRun-write_fault five nothing = elim run.ends [
    | inl a ↦ (five_torn a.answer old new first now status a.written five).0
    | inr (inl f) ↦ fetch_rose f.frames f.targets before after old new first now status f.fetching five
    | inr (inr k) ↦ absurd (nothing k.config k.addr k.quiet k.are)
  ]

  -- where no count rose, the status is neither
  pub HasRun-undisturbed : KeepNothing words → (HaveFault words of_input of_store → ⊥) → (Rose first now → ⊥) → (status ≡ 7 → ⊥)
      → FollowsOutcome words input files status old new
  HasRun-undisturbed nothing read write memory =
      HasRun-outcome (λ four. read (HasRun-read_fault four)) (λ five. write (HasRun-write_fault five nothing)) memory

  -- ---- what was written

  pub HasRun-fault_line : status ≡ 4 → Appends old new read_fault_exit.text
  HasRun-fault_line is = (four is).1

  pub HasRun-memory_line : WriteAtEnd words → status ≡ 7 → Appends old new memory_exit.text
  HasRun-memory_line at_end seven = elim run.ends [
    | inl a ↦ seven_written old new first now status a.answer a.written seven
    | inr (inl f) ↦ absurd (at_end f.frames f.targets f.are)
    | inr (inr k) ↦ keep_seven kept files k.config k.addr k.quiet was is of_store old new first now status k.keeping seven
  ]

  pub HasRun-torn : WriteAtEnd words → status ≡ 5 → WritesPart words input files of_input of_store old new
  HasRun-torn at_end five = elim run.ends [
    | inl a ↦
        part_of words input files of_input of_store old new a.answer a.is
        (five_torn a.answer old new first now status a.written five).1
    | inr (inl f) ↦ absurd (at_end f.frames f.targets f.are)
    | inr (inr k) ↦
        keep_part kept words input files of_input of_store k.config k.addr k.quiet was is old new first now status k.are
        k.keeping five
  ]

-- ---- over what may have come from more

-- a run over what came from less is one over what came from more
run_more : (kept : Keeps) (words : List (List ℕ)) (input more_input : Input) (files more_files : Files) (of_input of_store : Type 0)
    (was is : YardTold) (before after : StreetTold) (old new : Option (List ℕ)) (first now status : ℕ)
    → ((bytes : List ℕ) → input bytes → more_input bytes)
    → ((path bytes : List ℕ) → files path bytes → more_files path bytes)
    → HasRun kept words input files of_input of_store was is before after old new first now status
    → HasRun kept words more_input more_files of_input of_store was is before after old new first now status
run_more kept words input more_input files more_files of_input of_store was is before after old new first now status inputs each
    run = record {
      ends = elim run.ends [
        | inl a ↦ inl (record {
          answer = a.answer;
          no_fetch = a.no_fetch;
          no_keep = a.no_keep;
          is = answer_more words input more_input files more_files of_input of_store a.answer inputs each a.is;
          written = a.written;
          casting = λ task config addr limit are.
              casting_more task files more_files config addr limit before after of_store a.answer each
              (a.casting task config addr limit are);
          alone = a.alone;
        })
        | inr (inl f) ↦ inr (inl f)
        | inr (inr k) ↦ inr (inr (record {
          config = k.config;
          addr = k.addr;
          quiet = k.quiet;
          are = k.are;
          keeping = keeping_more kept files more_files k.config k.addr k.quiet was is of_store old new first now status
              each k.keeping;
          street = k.street;
        }))
      ];
    }

-- ---- where input and files tell their bytes

pub HasRun-promised : (kept : Keeps) (words : List (List ℕ)) (left : Option (List ℕ)) (files : FilesTold)
    (of_input of_store : Type 0) (was is : YardTold) (before after : StreetTold) (old new : Option (List ℕ)) (first now status : ℕ)
    → HasRun kept words (Tells left) (Holds files) of_input of_store was is before after old new first now status → status ≡ 0
    → KeepPromise words left files before after old new
HasRun-promised kept words left files of_input of_store was is before after old new first now status run zero =
    let was = HasRun-done_promised run zero in record {
      bare = λ capacity bytes events are told read.
          Decided-promised_report (HasRun-decided run) zero capacity bytes events are (told_only left bytes told) read;
      replayed = was.replayed;
      warmed = was.warmed;
      served = was.served;
      recorded = was.recorded;
    }

-- of what came, where input and files tell their bytes it is these
pub run_told : {kept : Keeps} {words : List (List ℕ)} (left : Option (List ℕ)) (first_read last_read : Log)
    (files : FilesTold) (opened closed : Log) {of_input of_store : Type 0} {was is : YardTold} {before after : StreetTold}
    {old new : Option (List ℕ)} {first now status : ℕ}
    → HasRun kept words (InputCame left first_read last_read) (FileCame files opened closed) of_input of_store was is
    before after old new first now status
    → HasRun kept words (Tells left) (Holds files) of_input of_store was is before after old new first now status
run_told left first_read last_read files opened closed run =
    run_more _ _ _ _ _ _ _ _ _ _ _ _ _ _ _ _ _ (λ bytes came. came.0) (λ path bytes came. came.0) run
