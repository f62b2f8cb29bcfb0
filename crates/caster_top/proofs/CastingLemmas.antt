-- What a program that is to be a caster answers, ends with and says by its status.
use Rattle.std.proofs.Common.{◌≡◌, ℕ, ◌≤◌, ◌⊎◌, true, false, List, [], ◌∷◌, length, Option, Some, Result, Ok, Err, inl, inr, refl, ap, sym, subst, ◌∙◌, arith}
use Rattle.std.proofs.lemmas.List.{length-map}
use Rattle.std.specs.Io.KnownBytes.{Appends}
use Rattle.cast_io.specs.Causes.{Rose}
use Rattle.cast_io.specs.Told.{StreetTold, Grew}
use Rattle.cast_config.specs.declared.config.Config.{Config}
use Rattle.cast_config.specs.Document.{IsRead}
use Rattle.session_script.specs.declared.Event.{Event}
use Rattle.session_script.specs.Writing.{script_text}
use Rattle.session_model.proofs.ReportSums.{sums_long}
use Rattle.session_model.specs.declared.report.Closed.{Closed}
use Rattle.session_model.specs.Reports.{mount_total, closed_of}
use Rattle.session_model.specs.Text.{closed_text}
use Rattle.caster_serve.specs.Caster.{Answered, HasServed}
use Rattle.caster_serve.specs.declared.whole.ServeFault.{ServeFault}
use Rattle.caster_serve.specs.declared.whole.ServeFault.TheVariants as faults
use Rattle.caster_top.specs.declared.answers.Answer.{Answer}
use Rattle.caster_top.specs.declared.command.CasterMode.{CasterMode}
use Rattle.caster_top.specs.declared.command.CasterMode.TheVariants.{Serve, Record}
use Rattle.caster_top.specs.Command.{Form, casting, keeping, AreCasting, CastNothing, KeepNothing, form_of}
use Rattle.caster_top.specs.Outcome.{Exit, exactly, EndsSo, Came, whole_exit, usage_exit, network_exit, ending_of_casting, ending_of_bytes, session_in}
use Rattle.caster_top.specs.Told.{Files, FilesTold, Input, IsConfigFrom, IsConfigIn, IsAsked, IsOutcome, HaveCome}
use Rattle.caster_top.specs.Answers.{exit_of, IsRefusal, IsRefused, IsRefusedAt, IsAnswer, Writes}
use Rattle.caster_top.specs.Recording.{HasRecorded}
use Rattle.caster_top.specs.Casting.{CameTo, a_text, no_network, no_memory, HasCast, GivesCame, GivesServed, IsCastingAnswer, CastEnd, RefusedEnd, CastingEnd, HasCasting, IsUnserved}
use Rattle.caster_top.proofs.ReadingLemmas.{config_in-ok}
use Rattle.caster_top.proofs.WordLemmas.{form_of-form, form-form_of}
use Rattle.caster_top.proofs.AnswerLemmas.{given_such, given_end, outcome_of_read, config_came, at_end}
use Rattle.caster_top.proofs.AskedLemmas.{asked_so}
use Rattle.caster_top.proofs.StatusLemmas.{status-ends, too_many, read, faulty, wanting, bytes_cases, IsOfCaster}

-- ---- the answer is one to the words

abbrev pub failed_came : List ℕ → Came
failed_came config = record { script = []; config = config; failed = true }

-- a text that a caster came to is such an end
cast_ends : (task : CasterMode) (c : Config) (addr : List ℕ) (limit : ℕ) (before after : StreetTold) (text : List ℕ)
    → HasCast task c addr limit before after (a_text text) → EndsSo (ending_of_casting task false c) (whole_exit text)
cast_ends Serve c addr limit before after text is = (refl, is.0, is.2)
cast_ends Record c addr limit before after text is =
    (refl, (is.0, is.2, ap (session_in c) is.2 ∙ is.1.session.recorded.reads))

cast_answer : (words : List (List ℕ)) (input : Input) (files : Files) (of_input of_store : Type 0)
    (task : CasterMode) (config addr : List ℕ) (limit : ℕ) (before after : StreetTold) (c : Config) (came_to : CameTo)
    (answer : Answer) → form_of words ≡ Some (casting task config addr limit)
    → AreCasting task words config addr limit → IsConfigFrom files config c
    → HasCast task c addr limit before after came_to → GivesCame task came_to answer
    → IsAnswer words input files of_input of_store answer
cast_answer words input files of_input of_store task config addr limit before after c (a_text text) answer h are is cast
    given =
    given_such (EndsSo (exactly (whole_exit text))) (IsOutcome words input files)
    (λ memory. (casting task config addr limit, are)) (λ none. absurd none)
    (λ end ends. outcome_of_read words input files (Some (casting task config addr limit)) (config_came is.0) end h is.1
    (at_end (ending_of_casting task false) files config c end is
    (subst (λ (e : Exit). EndsSo (ending_of_casting task false c) e) (sym ends)
    (cast_ends task c addr limit before after text cast)))) answer given
cast_answer words input files of_input of_store task config addr limit before after c no_network answer h are is cast
    given =
    subst (λ (a : Answer). IsAnswer words input files of_input of_store a) (sym given)
    (outcome_of_read words input files (Some (casting task config addr limit)) (failed_came is.0) network_exit h is.1
    (at_end (ending_of_casting task true) files config c network_exit is refl))
cast_answer words input files of_input of_store task config addr limit before after c no_memory answer h are is cast
    given =
    subst (λ (a : Answer). IsAnswer words input files of_input of_store a) (sym given)
    (casting task config addr limit, are)

pub casting_answer : (words : List (List ℕ)) (input : Input) (files : Files) (of_input of_store : Type 0)
    (task : CasterMode) (config addr : List ℕ) (limit : ℕ) (before after : StreetTold) (answer : Answer)
    → form_of words ≡ Some (casting task config addr limit) → AreCasting task words config addr limit
    → IsCastingAnswer task files config addr limit before after of_store answer
    → IsAnswer words input files of_input of_store answer
casting_answer words input files of_input of_store task config addr limit before after answer h are
    (inl (same, refused)) =
    given_such (IsRefusedAt config files) (IsOutcome words input files)
    (λ memory. (casting task config addr limit, are)) (λ fault. (casting task config addr limit, are, fault))
    (λ end is. outcome_of_read words input files (Some (casting task config addr limit)) (config_came is.0) end h is.1
    (is.2.ends (ending_of_casting task false))) answer refused
casting_answer words input files of_input of_store task config addr limit before after answer h are (inr has) =
    cast_answer words input files of_input of_store task config addr limit before after has.c has.came_to answer h are
    has.config_is has.cast has.given

-- the words' task, configuration and address are those of their form, and there is one form of them
casting_is : (task other_task : CasterMode) (config addr other_config other_addr : List ℕ) (limit other : ℕ)
    → Some (casting task config addr limit) ≡ Some (casting other_task other_config other_addr other)
    → (task ≡ other_task) × (config ≡ other_config) × (addr ≡ other_addr) × (limit ≡ other)
casting_is task other_task config addr other_config other_addr limit other e = (cc, cc, cc, cc)

pub casting_read : (words : List (List ℕ)) (files : Files) (task other_task : CasterMode)
    (config addr other_config other_addr : List ℕ) (limit other : ℕ) (before after : StreetTold) (fault : Type 0)
    (answer : Answer) → form_of words ≡ Some (casting task config addr limit)
    → AreCasting other_task words other_config other_addr other
    → IsCastingAnswer task files config addr limit before after fault answer
    → IsCastingAnswer other_task files other_config other_addr other before after fault answer
casting_read words files task other_task config addr other_config other_addr limit other before after fault answer h are
    is =
    let same = casting_is task other_task config addr other_config other_addr limit other
    (sym h ∙ form_of-form words (casting other_task other_config other_addr other) are) in
    subst (λ (n : ℕ). IsCastingAnswer other_task files other_config other_addr n before after fault answer) same.3
    (subst (λ (a : List ℕ). IsCastingAnswer other_task files other_config a limit before after fault answer) same.2
    (subst (λ (p : List ℕ). IsCastingAnswer other_task files p addr limit before after fault answer) same.1
    (subst (λ (t : CasterMode). IsCastingAnswer t files config addr limit before after fault answer) same.0 is)))

-- words that are read as something else do not ask for it
pub read_other : {P : Type 0} (words : List (List ℕ)) (form : Option Form) (task : CasterMode) (config addr : List ℕ)
    (limit : ℕ) → form_of words ≡ form → AreCasting task words config addr limit
    → (form ≡ Some (casting task config addr limit) → ⊥) → P
read_other words form task config addr limit h are other =
    absurd (other (sym h ∙ form_of-form words (casting task config addr limit) are))

-- one file is asked for
pub casting_asked : (words : List (List ℕ)) (task : CasterMode) (config addr : List ℕ) (limit : ℕ) (files : FilesTold)
    (old new : Option (List (List ℕ))) → form_of words ≡ Some (casting task config addr limit)
    → Grew old new (config ∷ []) → IsAsked (form_of words) files old new
casting_asked words task config addr limit files old new h grew =
    asked_so words (Some (casting task config addr limit)) files old new h (config ∷ [], refl, grew)

-- ---- how it ends

cast_end : (task : CasterMode) (came_to : CameTo) (answer : Answer) → GivesCame task came_to answer
    → CastEnd task came_to (exit_of answer)
cast_end task (a_text text) answer given =
    given_end (EndsSo (exactly (whole_exit text))) (CastEnd task (a_text text)) (λ memory. inr (memory, refl))
    (λ none. absurd none) (λ end is. inl is) answer given
cast_end task no_network answer given = ap exit_of given
cast_end task no_memory answer given = ap exit_of given

-- so it ends where there is no configuration to be had
pub refused_end : (files : Files) (config : List ℕ) (fault : Type 0) (answer : Answer)
    → IsRefusal config files fault answer → RefusedEnd config files fault (exit_of answer)
refused_end files config fault answer refused =
    given_end (IsRefusedAt config files) (RefusedEnd config files fault) (λ memory. inl refl)
    (λ counted. inr (inl (counted, refl))) (λ end is. inr (inr is)) answer refused

casting_end : (task : CasterMode) (files : Files) (config addr : List ℕ) (limit : ℕ) (before after : StreetTold)
    (fault : Type 0) (answer : Answer) → IsCastingAnswer task files config addr limit before after fault answer
    → CastingEnd task files config addr limit before after fault (exit_of answer)
casting_end task files config addr limit before after fault answer (inl (same, refused)) =
    inl (same, refused_end files config fault answer refused)
casting_end task files config addr limit before after fault answer (inr has) = inr (record {
  c = has.c;
  came_to = has.came_to;
  config_is = has.config_is;
  cast = has.cast;
  ends = cast_end task has.came_to answer has.given;
})

pub casting_written : (task : CasterMode) (files : Files) (config addr : List ℕ) (limit : ℕ) (before after : StreetTold)
    (fault : Type 0) (old new : Option (List ℕ)) (first now status : ℕ) (answer : Answer)
    → IsCastingAnswer task files config addr limit before after fault answer
    → Writes (exit_of answer) old new first now status
    → HasCasting task files config addr limit before after fault old new first now status
casting_written task files config addr limit before after fault old new first now status answer is written = record {
  end = exit_of answer;
  ends = casting_end task files config addr limit before after fault answer is;
  written = written;
}

-- ---- what a status says

-- without a configuration it is none of a caster that served
refused_bytes : (bytes : List ℕ) (end : Exit) → IsRefused bytes end
    → (end.status ≡ 0 → ⊥) × (end.status ≡ 6 → ⊥)
refused_bytes bytes end refused =
    let ended = status-ends (ending_of_bytes (λ (c : Config). exactly usage_exit) bytes) end
    (refused.ends (λ (c : Config). exactly usage_exit)) in
    elim (bytes_cases (λ (c : Config). exactly usage_exit) bytes) [
      | too_many status long ↦ ((λ e. omega (arith, e, ended, status)), (λ e. omega (arith, e, ended, status)))
      | read c is ends ↦ absurd (refused.none c is)
      | faulty status short none ↦ ((λ e. omega (arith, e, ended, status)), (λ e. omega (arith, e, ended, status)))
      | wanting status ↦ ((λ e. omega (arith, e, ended, status)), (λ e. omega (arith, e, ended, status)))
    ]

refused_status : (config : List ℕ) (files : Files) (fault : Type 0) (end : Exit) → RefusedEnd config files fault end
    → (end.status ≡ 0 → ⊥) × (end.status ≡ 6 → ⊥)
refused_status config files fault end (inl memory) =
    let e = ap (λ (x : Exit). x.status) memory in
    ((λ h. omega (arith, e, h)), (λ h. omega (arith, e, h)))
refused_status config files fault end (inr (inl (counted, is))) =
    let e = ap (λ (x : Exit). x.status) is in
    ((λ h. omega (arith, e, h)), (λ h. omega (arith, e, h)))
refused_status config files fault end (inr (inr is)) = refused_bytes is.0 end is.2

-- with 0 the caster came to a text
came_at : (task : CasterMode) (came_to : CameTo) (end : Exit) → CastEnd task came_to end → end.status ≡ 0
    → (text : List ℕ) × (came_to ≡ a_text text) × (end.text ≡ text)
came_at task (a_text text) end (inl is) zero = (text, refl, ap (λ (x : Exit). x.text) is)
came_at task (a_text text) end (inr (may, memory)) zero = absurd (omega (arith, zero, ap (λ (x : Exit). x.status) memory))
came_at task no_network end is zero = absurd (omega (arith, zero, ap (λ (x : Exit). x.status) is))
came_at task no_memory end is zero = absurd (omega (arith, zero, ap (λ (x : Exit). x.status) is))

-- with 6 its network failed
lost_at : (task : CasterMode) (came_to : CameTo) (end : Exit) → CastEnd task came_to end → end.status ≡ 6
    → (came_to ≡ no_network) × (end ≡ network_exit)
lost_at task (a_text text) end (inl is) six = absurd (omega (arith, six, ap (λ (x : Exit). x.status) is))
lost_at task (a_text text) end (inr (may, memory)) six = absurd (omega (arith, six, ap (λ (x : Exit). x.status) memory))
lost_at task no_network end is six = (refl, is)
lost_at task no_memory end is six = absurd (omega (arith, six, ap (λ (x : Exit). x.status) is))

-- the status is 0, 6 or 7, and 6 only where the network failed
kept_at : (task : CasterMode) (came_to : CameTo) (end : Exit) → CastEnd task came_to end
    → (end.status ≡ 0) ⊎ ((end.status ≡ 7) ⊎ ((end.status ≡ 6) × (came_to ≡ no_network)))
kept_at task (a_text text) end (inl is) = inl (ap (λ (x : Exit). x.status) is)
kept_at task (a_text text) end (inr (may, memory)) = inr (inl (ap (λ (x : Exit). x.status) memory))
kept_at task no_network end is = inr (inr (ap (λ (x : Exit). x.status) is, refl))
kept_at task no_memory end is = inr (inl (ap (λ (x : Exit). x.status) is))

-- what a run with status 0 says of a caster of this task
abbrev HasRun : CasterMode → Files → List ℕ → List ℕ → ℕ → StreetTold → StreetTold → Option (List ℕ) → Option (List ℕ)
    → Type 0
HasRun task files config addr limit before after old new =
    (c : Config) × (text : List ℕ) × IsConfigFrom files config c
    × HasCast task c addr limit before after (a_text text) × Appends old new text

whole_run : (task : CasterMode) (files : Files) (config addr : List ℕ) (limit : ℕ) (before after : StreetTold)
    (fault : Type 0) (old new : Option (List ℕ)) (first now status : ℕ) → status ≡ 0
    → HasCasting task files config addr limit before after fault old new first now status
    → HasRun task files config addr limit before after old new
whole_run task files config addr limit before after fault old new first now status zero all =
    whole_written all.end all.ends all.written where
      whole_written : (end : Exit) → CastingEnd task files config addr limit before after fault end
          → Writes end old new first now status → HasRun task files config addr limit before after old new
      whole_written end ends (inr torn) = absurd (omega (arith, zero, torn.0))
      whole_written end (inl (same, refused)) (inl written) =
          absurd ((refused_status config files fault end refused).0 (sym written.0 ∙ zero))
      whole_written end (inr has) (inl written) =
          let came = came_at task has.came_to end has.ends (sym written.0 ∙ zero) in (
            has.c,
            came.0,
            has.config_is,
            subst (λ (x : CameTo). HasCast task has.c addr limit before after x) came.1 has.cast,
            subst (λ (t : List ℕ). Appends old new t) came.2 written.1,
          )

pub served_run : (files : Files) (config addr : List ℕ) (limit : ℕ) (before after : StreetTold) (fault : Type 0)
    (old new : Option (List ℕ)) (first now status : ℕ) → status ≡ 0
    → HasCasting Serve files config addr limit before after fault old new first now status
    → (c : Config) × (closed : Closed) × IsConfigFrom files config c
    × HasServed c addr limit before after (Ok closed) × Appends old new (closed_text c closed)
served_run files config addr limit before after fault old new first now status zero all =
    let run = whole_run Serve files config addr limit before after fault old new first now status zero all in (
      run.0,
      run.3.0,
      run.2,
      run.3.1,
      subst (λ (t : List ℕ). Appends old new t) run.3.2 run.4,
    )

pub recorded_run : (files : Files) (config addr : List ℕ) (limit : ℕ) (before after : StreetTold) (fault : Type 0)
    (old new : Option (List ℕ)) (first now status : ℕ) → status ≡ 0
    → HasCasting Record files config addr limit before after fault old new first now status
    → (c : Config) × (events : List Event) × IsConfigFrom files config c
    × HasRecorded c addr limit before after events × Appends old new (script_text events)
recorded_run files config addr limit before after fault old new first now status zero all =
    let run = whole_run Record files config addr limit before after fault old new first now status zero all in (
      run.0,
      run.3.0,
      run.2,
      run.3.1,
      subst (λ (t : List ℕ). Appends old new t) run.3.2 run.4,
    )

pub lost_run : (task : CasterMode) (files : Files) (config addr : List ℕ) (limit : ℕ) (before after : StreetTold)
    (fault : Type 0) (old new : Option (List ℕ)) (first now status : ℕ) → status ≡ 6
    → HasCasting task files config addr limit before after fault old new first now status
    → (c : Config) × IsConfigFrom files config c × HasCast task c addr limit before after no_network
    × Appends old new network_exit.text
lost_run task files config addr limit before after fault old new first now status six all =
    lost_written all.end all.ends all.written where
      lost_written : (end : Exit) → CastingEnd task files config addr limit before after fault end
          → Writes end old new first now status
          → (c : Config) × IsConfigFrom files config c × HasCast task c addr limit before after no_network
          × Appends old new network_exit.text
      lost_written end ends (inr torn) = absurd (omega (arith, six, torn.0))
      lost_written end (inl (same, refused)) (inl written) =
          absurd ((refused_status config files fault end refused).1 (sym written.0 ∙ six))
      lost_written end (inr has) (inl written) =
          let lost = lost_at task has.came_to end has.ends (sym written.0 ∙ six) in (
            has.c,
            has.config_is,
            subst (λ (x : CameTo). HasCast task has.c addr limit before after x) lost.0 has.cast,
            subst (λ (e : Exit). Appends old new e.text) lost.1 written.1,
          )

-- only where the count rose
answered_rose : (c : Config) (addr : List ℕ) (limit : ℕ) (before after : StreetTold)
    → Answered c addr limit before after (Err faults.Network) → Rose before.faults after.faults
answered_rose c addr limit before after (inl went) = went.ended.rose
answered_rose c addr limit before after (inr refused) = refused.1

pub network_rose : (task : CasterMode) (c : Config) (addr : List ℕ) (limit : ℕ) (before after : StreetTold)
    → HasCast task c addr limit before after no_network → Rose before.faults after.faults
network_rose Serve c addr limit before after served = answered_rose c addr limit before after served.answered
network_rose Record c addr limit before after not = not.1

-- ---- what a caster came to

-- it has a total for each mountpoint and a sum for each account
pub closed_sizes : (c : Config) (addr : List ℕ) (limit : ℕ) (before after : StreetTold)
    (came_to : Result Closed ServeFault) (closed : Closed) → came_to ≡ Ok closed
    → HasServed c addr limit before after came_to
    → (length closed.mounts ≡ length c.mount) × (length closed.accounts ≡ length c.account)
closed_sizes c addr limit before after (Ok same) closed h served =
    let whole = served.answered.ended in
    let is : same ≡ closed_of c whole.histories = whole.closed_is in
    let equal : same ≡ closed = cc in (
      ap (λ (x : Closed). length x.mounts) (sym equal ∙ is)
          ∙ length-map whole.histories.rings mount_total ∙ whole.all.whole.size,
      ap (λ (x : Closed). length x.accounts) (sym equal ∙ is) ∙ sums_long 1 whole.histories c.account,
    )
closed_sizes c addr limit before after (Err fault) closed h served = absurd cc

-- what a caster that serves came to, and its answer
pub cast_served : (c : Config) (addr : List ℕ) (limit : ℕ) (before after : StreetTold)
    (served : Result Closed ServeFault) (answer : Answer) → HasServed c addr limit before after served
    → GivesServed c served answer
    → (came_to : CameTo) × HasCast Serve c addr limit before after came_to × GivesCame Serve came_to answer
cast_served c addr limit before after (Ok closed) answer has given =
    (a_text (closed_text c closed), (closed, has, refl), given)
cast_served c addr limit before after (Err faults.Network) answer has given = (no_network, has, given)
cast_served c addr limit before after (Err faults.Memory) answer has given = (no_memory, has, given)

-- with a configuration and no fault of the outside it is 0, or 7
refused_not : (files : Files) (config bytes : List ℕ) (c : Config) (fault : Type 0) (end : Exit)
    → ((came : List ℕ) → files config came → came ≡ bytes) → length bytes ≤ 8388608 → IsRead bytes (Ok c)
    → (fault → ⊥) → RefusedEnd config files fault end → end.status ≡ 7
refused_not files config bytes c fault end only short is none (inl memory) =
    ap (λ (x : Exit). x.status) memory
refused_not files config bytes c fault end only short is none (inr (inl (counted, ends))) =
    absurd (none counted)
refused_not files config bytes c fault end only short is none (inr (inr refused)) =
    let same = only refused.0 refused.1 in
    let inside : IsConfigIn refused.0 c = subst (λ (b : List ℕ). IsConfigIn b c) (sym same)
    (short, config_in-ok bytes c is) in
    absurd (refused.2.none c inside)

pub complete_run : (task : CasterMode) (files : Files) (config addr : List ℕ) (limit : ℕ) (before after : StreetTold)
    (fault : Type 0) (old new : Option (List ℕ)) (first now status : ℕ) (bytes : List ℕ) (c : Config)
    → HasCasting task files config addr limit before after fault old new first now status
    → ((came : List ℕ) → files config came → came ≡ bytes) → length bytes ≤ 8388608 → IsRead bytes (Ok c)
    → (fault → ⊥) → (Rose first now → ⊥) → (Rose before.faults after.faults → ⊥) → (status ≡ 7) ⊎ (status ≡ 0)
complete_run task files config addr limit before after fault old new first now status bytes c all only
    short is calm write lost = complete_written all.end all.ends all.written where
      complete_written : (end : Exit) → CastingEnd task files config addr limit before after fault end
          → Writes end old new first now status → (status ≡ 7) ⊎ (status ≡ 0)
      complete_written end ends (inr torn) = absurd (write torn.1)
      complete_written end (inl (same, refused)) (inl written) =
          inl (written.0 ∙ refused_not files config bytes c fault end only short is calm refused)
      complete_written end (inr has) (inl written) = elim (kept_at task has.came_to end has.ends) [
        | inl zero ↦ inr (written.0 ∙ zero)
        | inr (inl seven) ↦ inl (written.0 ∙ seven)
        | inr (inr (six, network)) ↦
            absurd (lost (network_rose task has.c addr limit before after
            (subst (λ (x : CameTo). HasCast task has.c addr limit before after x) network has.cast)))
      ]

-- ---- where the street is left alone

unserved_not : (status : ℕ) → IsUnserved status → (status ≡ 0) ⊎ ((status ≡ 7) ⊎ (status ≡ 6)) → ⊥
unserved_not status is ends = omega arith

not_five : (status : ℕ) → IsUnserved status → status ≡ 5 → ⊥
not_five status is five = omega arith

unserved_end : (task : CasterMode) (files : Files) (config addr : List ℕ) (limit : ℕ) (before after : StreetTold)
    (fault : Type 0) (old new : Option (List ℕ)) (first now status : ℕ) (end : Exit) → IsUnserved status
    → CastingEnd task files config addr limit before after fault end → Writes end old new first now status
    → after ≡ before
unserved_end task files config addr limit before after fault old new first now status end is ends (inr torn) =
    absurd (not_five status is torn.0)
unserved_end task files config addr limit before after fault old new first now status end is (inl (same, refused))
    (inl written) = same
unserved_end task files config addr limit before after fault old new first now status end is (inr has) (inl written) =
    absurd (unserved_not status is (elim (kept_at task has.came_to end has.ends) [
      | inl zero ↦ inl (written.0 ∙ zero)
      | inr (inl seven) ↦ inr (inl (written.0 ∙ seven))
      | inr (inr (six, network)) ↦ inr (inr (written.0 ∙ six))
    ]))

-- words ask for a caster, or they do not
cast_or_not : (words : List (List ℕ)) (form : Option Form) → form_of words ≡ form
    → ((task : CasterMode) × (config addr : List ℕ) × (limit : ℕ) × AreCasting task words config addr limit)
    ⊎ CastNothing words
cast_or_not words (Some (casting task config addr limit)) h =
    inl (task, config, addr, limit, form-form_of words (casting task config addr limit) h)
cast_or_not words form h =
    inr (λ task config addr limit are. read_other words form task config addr limit h are (λ e. absurd cc))

pub unserved_run : (words : List (List ℕ)) (files : Files) (before after : StreetTold) (fault : Type 0)
    (old new : Option (List ℕ)) (first now status : ℕ) → IsUnserved status
    → (CastNothing words → after ≡ before)
    → ((task : CasterMode) (config addr : List ℕ) (limit : ℕ) → AreCasting task words config addr limit
    → HasCasting task files config addr limit before after fault old new first now status)
    → after ≡ before
unserved_run words files before after fault old new first now status is alone casts =
    elim (cast_or_not words (form_of words) refl) [
      | inr not ↦ alone not
      | inl (task, config, addr, limit, are) ↦
          let all = casts task config addr limit are in
          unserved_end task files config addr limit before after fault old new first now status all.end is all.ends
          all.written
    ]

-- with 6 the words ask for a caster
pub of_caster : (words : List (List ℕ)) (input : Input) (files : Files) → KeepNothing words
    → HaveCome IsOfCaster words input files
    → (task : CasterMode) × (config addr : List ℕ) × (limit : ℕ) × AreCasting task words config addr limit
of_caster words input files nothing (casting task config addr limit, came, are, told, is) =
    (task, config, addr, limit, are)
of_caster words input files nothing (keeping config addr quiet, came, are, told, is) =
    absurd (nothing config addr quiet are)
of_caster words input files nothing (form, came, are, told, is) = absurd is

-- ---- from more

-- the answer of a caster, whose configuration may have come from more
pub casting_more : (task : CasterMode) (files more : Files) (config addr : List ℕ) (limit : ℕ) (before after : StreetTold)
    (fault : Type 0) (answer : Answer) → ((path bytes : List ℕ) → files path bytes → more path bytes)
    → IsCastingAnswer task files config addr limit before after fault answer
    → IsCastingAnswer task more config addr limit before after fault answer
casting_more task files more config addr limit before after fault answer each (inl (same, refused)) =
    inl (
      same,
      given_such (IsRefusedAt config files) (IsRefusedAt config more) (λ memory. memory) (λ counted. counted)
          (λ end is. (is.0, each config is.0 is.1, is.2)) answer refused,
    )
casting_more task files more config addr limit before after fault answer each (inr has) = inr (record {
  c = has.c;
  came_to = has.came_to;
  config_is = (has.config_is.0, each config has.config_is.0 has.config_is.1, has.config_is.2, has.config_is.3);
  cast = has.cast;
  given = has.given;
})
