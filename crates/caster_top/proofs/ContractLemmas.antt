-- The facts of a call, from how the run of its words ended.
use Rattle.std.specs.Prelude.{ℕ}
use Rattle.cast_io.specs.Yards.{YardTold}
use Rattle.caster_top.specs.declared.command.RoverStart.TheVariants.{Cold, Warm}
use Rattle.caster_top.specs.Command.{form_of}
use Rattle.caster_top.specs.Told.{Holds, IsAsked, Tells}
use Rattle.caster_top.specs.Kept.{LeavesOutput}
use Rattle.caster_top.specs.Keeping.{Keeps}
use Rattle.caster_top.specs.Running.{HasRun}
use Rattle.caster_top.specs.Calls.{CallTold, HasRisen}
use Rattle.caster_top.specs.Contract.{CameFiles, CameInput, CastsAsAsked, DoesWhatCame, FetchesAsAsked, HasItsStatus, MeetsContract, WritesOutcome, WritesReports}
use Rattle.caster_top.proofs.OutcomeLemmas.{Decided-made, Decided-no_config, Decided-no_session, Decided-played, Decided-report, Decided-too_long, Decided-usage}
use Rattle.caster_top.proofs.RunLemmas.{HasRun-casting, HasRun-decided, HasRun-done, HasRun-done_promised, HasRun-fault_line, HasRun-fetch_memory, HasRun-fetch_torn, HasRun-fetched, HasRun-fetching, HasRun-memory_line, HasRun-network_fault, HasRun-no_form, HasRun-outcome, HasRun-promised, HasRun-read_fault, HasRun-too_few, HasRun-torn, HasRun-undisturbed, HasRun-write_fault, run_told}
use Rattle.caster_top.proofs.DoneLemmas.{done_more, promised_more}
use Rattle.caster_top.proofs.GivenLemmas.{file_short, input_short, told_only}

module _ (kept : Keeps) (call : CallTold) (was is : YardTold)
    (run : HasRun kept call.words (CameInput call) (CameFiles call) (HasRisen call.input_faults)
    (HasRisen call.store_faults) was is call.before call.after call.old call.new call.output_faults.before
    call.output_faults.now call.status) where
  -- the run, of what input and files tell
  told : HasRun kept call.words (Tells call.left) (Holds call.files) (HasRisen call.input_faults)
      (HasRisen call.store_faults) was is call.before call.after call.old call.new call.output_faults.before
      call.output_faults.now call.status
  told = run_told call.left call.input_log.before call.input_log.now call.files call.store_log.before call.store_log.now run

  reports_met : WritesReports call
  reports_met = record {
    report = λ zero capacity bytes events are came script.
        Decided-report (HasRun-decided told) zero capacity bytes events are (told_only call.left bytes came) script;
    replayed = λ zero config session are. Decided-played (HasRun-decided told) Cold zero config session are;
    warmed = λ zero config session are. Decided-played (HasRun-decided told) Warm zero config session are;
    made = Decided-made (HasRun-decided run);
    promised = HasRun-promised _ _ _ _ _ _ _ _ _ _ _ _ _ _ _ told;
  }

  came_met : DoesWhatCame call
  came_met = record {
    done = λ zero. done_more (input_short call.left call.input_log.before call.input_log.now)
        (file_short call.files call.store_log.before call.store_log.now) (HasRun-done run zero);
    done_promised = λ zero. promised_more (input_short call.left call.input_log.before call.input_log.now)
        (file_short call.files call.store_log.before call.store_log.now) (HasRun-done_promised run zero);
    done_outcome = HasRun-outcome run;
  }

  casts_met : CastsAsAsked call
  casts_met = record { casting = HasRun-casting told; network_fault = HasRun-network_fault told }

  fetches_met : FetchesAsAsked call
  fetches_met = record {
    fetching = HasRun-fetching run;
    fetched = HasRun-fetched run;
    fetch_torn = HasRun-fetch_torn run;
    fetch_memory = HasRun-fetch_memory run;
    too_few = HasRun-too_few run;
  }

  statuses_met : HasItsStatus call
  statuses_met = record {
    usage = Decided-usage (HasRun-decided run);
    no_form = HasRun-no_form run;
    no_config = Decided-no_config (HasRun-decided told);
    no_session = Decided-no_session (HasRun-decided told);
    read_fault = HasRun-read_fault run;
    write_fault = HasRun-write_fault run;
    too_long = Decided-too_long (HasRun-decided told);
  }

  texts_met : WritesOutcome call
  texts_met = record {
    outcome = HasRun-outcome told;
    undisturbed = HasRun-undisturbed told;
    fault_line = HasRun-fault_line run;
    memory_line = HasRun-memory_line run;
    torn = HasRun-torn told;
  }

  pub contract_met : IsAsked (form_of call.words) call.files call.asked.before call.asked.now
      → LeavesOutput call.output_faults.before call.output_faults.now call.status → MeetsContract call
  contract_met asked output = record {
    reports = reports_met;
    came = came_met;
    casts = casts_met;
    fetches = fetches_met;
    statuses = statuses_met;
    texts = texts_met;
    asked = asked;
    kept_output = output;
  }
