-- What the status of an ending says of what came.
use Rattle.std.proofs.Common.{◌≡◌, ℕ, ◌<◌, ◌≤◌, ◌⊎◌, nat_lt, Bool, true, false, List, length, Option, None, Some, Result, Ok, Err, IsOk, inl, inr, refl, ap, sym, subst, ◌∙◌, arith}
use Rattle.std.specs.Prelude.{⊤}
use Rattle.std.proofs.lemmas.Bool.{cases_Bool}
use Rattle.std.proofs.lemmas.Bool.Decides.{nat_tests}
use Rattle.session_script.specs.declared.ScriptKind.TheVariants.{Bare, Replay}
use Rattle.session_script.specs.declared.Event.{Event}
use Rattle.session_script.specs.declared.ScriptFault.{ScriptFault}
use Rattle.session_script.specs.declared.ScriptFault.TheVariants as scripts
use Rattle.session_script.specs.Script.{script_of}
use Rattle.cast_config.specs.declared.config.Config.{Config}
use Rattle.cast_config.specs.declared.fault.ConfigFault.{ConfigFault}
use Rattle.cast_config.specs.declared.fault.ConfigFault.TheVariants as configs
use Rattle.cast_config.specs.Bare as settings
use Rattle.caster_top.specs.declared.command.ConfigCommand.{ConfigCommand}
use Rattle.caster_top.specs.declared.command.ConfigCommand.TheVariants.{Check, Table, Migrate}
use Rattle.caster_top.specs.declared.command.RoverStart.{RoverStart}
use Rattle.caster_top.specs.declared.command.RoverStart.TheVariants.{Cold}
use Rattle.caster_top.specs.declared.command.CasterMode.{CasterMode}
use Rattle.caster_top.specs.declared.command.CasterMode.TheVariants.{Serve, Record}
use Rattle.caster_top.specs.Command.{Form, bare, over, replay, made, casting, keeping, fetching}
use Rattle.caster_top.specs.Reading.{config_in}
use Rattle.caster_top.specs.Outcome.{Exit, ExitRule, exactly, document_of, report_of, closing_of, script_over, enough_of, fewer_than, EndsSo, Came, session_in, ending_of_script, ending_of_config, ending_of_casting, ending_of_keeping, ending_of_fetching, ending_of_read, ending_of_bytes, ending_of_form, ending_of}
use Rattle.caster_top.specs.Told.{IsConfigIn, IsNoConfig, IsStatus, IsWhole, IsFaultyConfig, IsFaultyScript, IsTooLong}
use Rattle.caster_top.proofs.AnswerLemmas.{ending_of_bytes-long, ending_of_bytes-short}
use Rattle.caster_top.proofs.ScriptLemmas.{status_of, whole_script, script_not_usage, script_not_config, script_not_network, faulty_script, long_script}

pub status-ends : (ending : ExitRule) (end : Exit) → EndsSo ending end → end.status ≡ status_of ending
status-ends (exactly wanted) end ends = ap (λ (e : Exit). e.status) ends
status-ends (document_of c) end ends = ends.0
status-ends (report_of start c events) end ends = ends.0
status-ends (closing_of c) end ends = ends.0
status-ends (script_over c) end ends = ends.0
status-ends (enough_of frames) end ends = ends.0
status-ends (fewer_than frames) end ends = ends.0

-- ---- configurations

pub ok_status : (aim : ConfigCommand) (c : Config) → status_of (ending_of_config aim c) ≡ 0
ok_status Check c = refl
ok_status Table c = refl
ok_status Migrate c = refl

-- a caster ends with 0, or where the network failed with 6
casting_status : (task : CasterMode) (failed : Bool) (c : Config)
    → (status_of (ending_of_casting task failed c) ≡ 0) ⊎ (status_of (ending_of_casting task failed c) ≡ 6)
casting_status task true c = inr refl
casting_status Serve false c = inl refl
casting_status Record false c = inl refl

-- and so does one that keeps serving
keeping_status : (failed : Bool) (c : Config)
    → (status_of (ending_of_keeping failed c) ≡ 0) ⊎ (status_of (ending_of_keeping failed c) ≡ 6)
keeping_status true c = inr refl
keeping_status false c = inl refl

read_cases : (next : Config → ExitRule) (read : Result Config ConfigFault)
    → ((c : Config) × (read ≡ Ok c) × (ending_of_read next read ≡ next c))
    ⊎ (((status_of (ending_of_read next read) ≡ 2) × IsNoConfig read) ⊎ (status_of (ending_of_read next read) ≡ 7))
read_cases next (Ok c) = inl (c, refl, refl)
read_cases next (Err configs.Memory) = inr (inr refl)
read_cases next (Err configs.Toml) = inr (inl (refl, tt))
read_cases next (Err (configs.Missing key)) = inr (inl (refl, tt))
read_cases next (Err (configs.Wrong key)) = inr (inl (refl, tt))
read_cases next (Err (configs.Range key)) = inr (inl (refl, tt))
read_cases next (Err (configs.Twice key)) = inr (inl (refl, tt))
read_cases next (Err (configs.Unknown key)) = inr (inl (refl, tt))

-- the status by size and rules
bytes_size : (bytes : List ℕ) → (8388608 < length bytes) ⊎ (length bytes ≤ 8388608)
bytes_size bytes = elim (cases_Bool (nat_lt 8388608 (length bytes))) [
  | inl long ↦ inl (grind (arith, nat_tests, long))
  | inr short ↦ inr (grind (arith, nat_tests, short))
]

-- too many bytes, a configuration, the fault of one, or want of memory
pub data Cases (next : Config → ExitRule) (bytes : List ℕ) : Type 0 where
  too_many : status_of (ending_of_bytes next bytes) ≡ 8 → 8388608 < length bytes → Cases next bytes
  read : (c : Config) → IsConfigIn bytes c → ending_of_bytes next bytes ≡ next c → Cases next bytes
  faulty : status_of (ending_of_bytes next bytes) ≡ 2 → length bytes ≤ 8388608 → IsNoConfig (config_in bytes)
      → Cases next bytes
  wanting : status_of (ending_of_bytes next bytes) ≡ 7 → Cases next bytes

pub bytes_cases : (next : Config → ExitRule) (bytes : List ℕ) → Cases next bytes
bytes_cases next bytes = elim (bytes_size bytes) [
  | inl long ↦ too_many (ap status_of (ending_of_bytes-long next bytes long)) long
  | inr short ↦
      let same = ending_of_bytes-short next bytes short in
      elim (read_cases next (config_in bytes)) [
        | inl (c, is, ends) ↦ read c (short, is) (same ∙ ends)
        | inr (inl (status, none)) ↦ faulty (ap status_of same ∙ status) short none
        | inr (inr status) ↦ wanting (ap status_of same ∙ status)
      ]
]

-- with a status of its own after a configuration, these are the only cases
pub whole_bytes : (next : Config → ExitRule) (bytes : List ℕ) → status_of (ending_of_bytes next bytes) ≡ 0
    → (c : Config) × IsConfigIn bytes c × (status_of (next c) ≡ 0)
whole_bytes next bytes h = elim (bytes_cases next bytes) [
  | too_many status long ↦ absurd (omega (arith, h, status))
  | read c is ends ↦ (c, is, sym (ap status_of ends) ∙ h)
  | faulty status short none ↦ absurd (omega (arith, h, status))
  | wanting status ↦ absurd (omega (arith, h, status))
]

pub usage_bytes : (next : Config → ExitRule) (bytes : List ℕ) → status_of (ending_of_bytes next bytes) ≡ 1
    → (c : Config) × (status_of (next c) ≡ 1)
usage_bytes next bytes h = elim (bytes_cases next bytes) [
  | too_many status long ↦ absurd (omega (arith, h, status))
  | read c is ends ↦ (c, sym (ap status_of ends) ∙ h)
  | faulty status short none ↦ absurd (omega (arith, h, status))
  | wanting status ↦ absurd (omega (arith, h, status))
]

pub faulty_bytes : (next : Config → ExitRule) (bytes : List ℕ) → ((c : Config) → status_of (next c) ≡ 2 → ⊥)
    → status_of (ending_of_bytes next bytes) ≡ 2 → (length bytes ≤ 8388608) × IsNoConfig (config_in bytes)
faulty_bytes next bytes never h = elim (bytes_cases next bytes) [
  | too_many status long ↦ absurd (omega (arith, h, status))
  | read c is ends ↦ absurd (never c (sym (ap status_of ends) ∙ h))
  | faulty status short none ↦ (short, none)
  | wanting status ↦ absurd (omega (arith, h, status))
]

pub session_bytes : (next : Config → ExitRule) (bytes : List ℕ) → status_of (ending_of_bytes next bytes) ≡ 3
    → (c : Config) × IsConfigIn bytes c × (status_of (next c) ≡ 3)
session_bytes next bytes h = elim (bytes_cases next bytes) [
  | too_many status long ↦ absurd (omega (arith, h, status))
  | read c is ends ↦ (c, is, sym (ap status_of ends) ∙ h)
  | faulty status short none ↦ absurd (omega (arith, h, status))
  | wanting status ↦ absurd (omega (arith, h, status))
]

pub long_bytes : (next : Config → ExitRule) (bytes : List ℕ) → status_of (ending_of_bytes next bytes) ≡ 8
    → (8388608 < length bytes) ⊎ ((c : Config) × IsConfigIn bytes c × (status_of (next c) ≡ 8))
long_bytes next bytes h = elim (bytes_cases next bytes) [
  | too_many status long ↦ inl long
  | read c is ends ↦ inr (c, is, sym (ap status_of ends) ∙ h)
  | faulty status short none ↦ absurd (omega (arith, h, status))
  | wanting status ↦ absurd (omega (arith, h, status))
]

network_bytes : (next : Config → ExitRule) (bytes : List ℕ) → status_of (ending_of_bytes next bytes) ≡ 6
    → (c : Config) × (status_of (next c) ≡ 6)
network_bytes next bytes h = elim (bytes_cases next bytes) [
  | too_many status long ↦ absurd (omega (arith, h, status))
  | read c is ends ↦ (c, sym (ap status_of ends) ∙ h)
  | faulty status short none ↦ absurd (omega (arith, h, status))
  | wanting status ↦ absurd (omega (arith, h, status))
]

-- ---- forms

abbrev pub replayed : RoverStart → List ℕ → Config → ExitRule
replayed start script c = ending_of_script start c (session_in c script)

is_whole : (bytes : List ℕ) (c : Config) → IsConfigIn bytes c → IsOk (config_in bytes)
is_whole bytes c is = subst (λ (r : Result Config ConfigFault). IsOk r) (sym is.1) refl

pub whole_form : (form : Form) (came : Came) → status_of (ending_of_form form came) ≡ 0 → IsWhole form came
whole_form (bare capacity) came h = whole_script Cold (settings.bare capacity) (script_of Bare came.script) h
whole_form (over aim path) came h =
    let whole = whole_bytes (ending_of_config aim) came.config h in is_whole came.config whole.0 whole.1
whole_form (replay start config session) came h =
    let whole = whole_bytes (replayed start came.script) came.config h in
    (whole.0, whole.1, whole_script start whole.0 (session_in whole.0 came.script) whole.2)
whole_form (made seed frames rovers) came h = tt
whole_form (casting task config addr limit) came h =
    let whole = whole_bytes (ending_of_casting task came.failed) came.config h in is_whole came.config whole.0 whole.1
whole_form (keeping config addr quiet) came h =
    let whole = whole_bytes (ending_of_keeping came.failed) came.config h in is_whole came.config whole.0 whole.1
whole_form (fetching frames targets) came h = tt

-- and with no other status
not_cast : (task : CasterMode) (failed : Bool) (c : Config) (status : ℕ)
    → status_of (ending_of_casting task failed c) ≡ status → (status ≡ 0 → ⊥) → (status ≡ 6 → ⊥) → ⊥
not_cast task failed c status h whole lost = elim (casting_status task failed c) [
  | inl ended ↦ whole (sym h ∙ ended)
  | inr ended ↦ lost (sym h ∙ ended)
]

not_kept : (failed : Bool) (c : Config) (status : ℕ) → status_of (ending_of_keeping failed c) ≡ status
    → (status ≡ 0 → ⊥) → (status ≡ 6 → ⊥) → ⊥
not_kept failed c status h whole lost = elim (keeping_status failed c) [
  | inl ended ↦ whole (sym h ∙ ended)
  | inr ended ↦ lost (sym h ∙ ended)
]

-- a fetch ends with 0 or 9
not_fetched : (failed : Bool) (frames status : ℕ) → status_of (ending_of_fetching failed frames) ≡ status
    → (status ≡ 0 → ⊥) → (status ≡ 9 → ⊥) → ⊥
not_fetched true frames status h whole fewer = fewer (sym h)
not_fetched false frames status h whole fewer = whole (sym h)

pub no_usage_form : (form : Form) (came : Came) → status_of (ending_of_form form came) ≡ 1 → ⊥
no_usage_form (bare capacity) came h = script_not_usage Cold (settings.bare capacity) (script_of Bare came.script) h
no_usage_form (over aim path) came h =
    let usage = usage_bytes (ending_of_config aim) came.config h in
    omega (arith, ok_status aim usage.0, usage.1)
no_usage_form (replay start config session) came h =
    let usage = usage_bytes (replayed start came.script) came.config h in
    script_not_usage start usage.0 (session_in usage.0 came.script) usage.1
no_usage_form (made seed frames rovers) came h = omega (arith, h)
no_usage_form (casting task config addr limit) came h =
    let usage = usage_bytes (ending_of_casting task came.failed) came.config h in
    not_cast task came.failed usage.0 1 usage.1 (omega arith) (omega arith)
no_usage_form (keeping config addr quiet) came h =
    let usage = usage_bytes (ending_of_keeping came.failed) came.config h in
    not_kept came.failed usage.0 1 usage.1 (omega arith) (omega arith)
no_usage_form (fetching frames targets) came h = not_fetched came.failed frames 1 h (omega arith) (omega arith)

-- only a caster can end with 6
abbrev pub IsOfCaster : Form → Came → Type 0
IsOfCaster (casting task config addr limit) came = ⊤
IsOfCaster (keeping config addr quiet) came = ⊤
IsOfCaster form came = ⊥

pub network_form : (form : Form) (came : Came) → status_of (ending_of_form form came) ≡ 6 → IsOfCaster form came
network_form (bare capacity) came h =
    script_not_network Cold (settings.bare capacity) (script_of Bare came.script) h
network_form (over aim path) came h =
    let lost = network_bytes (ending_of_config aim) came.config h in
    omega (arith, ok_status aim lost.0, lost.1)
network_form (replay start config session) came h =
    let lost = network_bytes (replayed start came.script) came.config h in
    script_not_network start lost.0 (session_in lost.0 came.script) lost.1
network_form (made seed frames rovers) came h = omega (arith, h)
network_form (casting task config addr limit) came h = tt
network_form (keeping config addr quiet) came h = tt
network_form (fetching frames targets) came h = not_fetched came.failed frames 6 h (omega arith) (omega arith)

pub faulty_config_form : (form : Form) (came : Came) → status_of (ending_of_form form came) ≡ 2
    → IsFaultyConfig form came
faulty_config_form (bare capacity) came h =
    absurd (script_not_config Cold (settings.bare capacity) (script_of Bare came.script) h)
faulty_config_form (over aim path) came h =
    faulty_bytes (ending_of_config aim) came.config (λ c two. omega (arith, two, ok_status aim c)) h
faulty_config_form (replay start config session) came h =
    faulty_bytes (replayed start came.script) came.config
    (λ c two. script_not_config start c (session_in c came.script) two) h
faulty_config_form (made seed frames rovers) came h = omega (arith, h)
faulty_config_form (casting task config addr limit) came h =
    faulty_bytes (ending_of_casting task came.failed) came.config
    (λ c two. not_cast task came.failed c 2 two (omega arith) (omega arith)) h
faulty_config_form (keeping config addr quiet) came h =
    faulty_bytes (ending_of_keeping came.failed) came.config
    (λ c two. not_kept came.failed c 2 two (omega arith) (omega arith)) h
faulty_config_form (fetching frames targets) came h =
    absurd (not_fetched came.failed frames 2 h (omega arith) (omega arith))

pub faulty_script_form : (form : Form) (came : Came) → status_of (ending_of_form form came) ≡ 3
    → IsFaultyScript form came
faulty_script_form (bare capacity) came h = faulty_script Cold (settings.bare capacity) (script_of Bare came.script) h
faulty_script_form (over aim path) came h =
    let faulty = session_bytes (ending_of_config aim) came.config h in
    omega (arith, ok_status aim faulty.0, faulty.2)
faulty_script_form (replay start config session) came h =
    let faulty = session_bytes (replayed start came.script) came.config h in
    (faulty.0, faulty.1, faulty_script start faulty.0 (session_in faulty.0 came.script) faulty.2)
faulty_script_form (made seed frames rovers) came h = omega (arith, h)
faulty_script_form (casting task config addr limit) came h =
    let faulty = session_bytes (ending_of_casting task came.failed) came.config h in
    absurd (not_cast task came.failed faulty.0 3 faulty.2 (omega arith) (omega arith))
faulty_script_form (keeping config addr quiet) came h =
    let faulty = session_bytes (ending_of_keeping came.failed) came.config h in
    absurd (not_kept came.failed faulty.0 3 faulty.2 (omega arith) (omega arith))
faulty_script_form (fetching frames targets) came h =
    absurd (not_fetched came.failed frames 3 h (omega arith) (omega arith))

long_after : (start : RoverStart) (came : Came)
    → (8388608 < length came.config)
    ⊎ ((c : Config) × IsConfigIn came.config c × (status_of (replayed start came.script c) ≡ 8))
    → (8388608 < length came.config)
    ⊎ ((c : Config) × IsConfigIn came.config c × (8388608 < length came.script))
long_after start came (inl long) = inl long
long_after start came (inr (c, is, status)) =
    inr (c, is, long_script start c (Replay (length c.relay)) came.script status)

only_long : (aim : ConfigCommand) (came : Came)
    → (8388608 < length came.config)
    ⊎ ((c : Config) × IsConfigIn came.config c × (status_of (ending_of_config aim c) ≡ 8))
    → 8388608 < length came.config
only_long aim came (inl long) = long
only_long aim came (inr (c, is, status)) = absurd (omega (arith, status, ok_status aim c))

only_long_casting : (task : CasterMode) (failed : Bool) (came : Came)
    → (8388608 < length came.config)
    ⊎ ((c : Config) × IsConfigIn came.config c × (status_of (ending_of_casting task failed c) ≡ 8))
    → 8388608 < length came.config
only_long_casting task failed came (inl long) = long
only_long_casting task failed came (inr (c, is, status)) =
    absurd (not_cast task failed c 8 status (omega arith) (omega arith))

only_long_keeping : (failed : Bool) (came : Came)
    → (8388608 < length came.config)
    ⊎ ((c : Config) × IsConfigIn came.config c × (status_of (ending_of_keeping failed c) ≡ 8))
    → 8388608 < length came.config
only_long_keeping failed came (inl long) = long
only_long_keeping failed came (inr (c, is, status)) =
    absurd (not_kept failed c 8 status (omega arith) (omega arith))

pub too_long_form : (form : Form) (came : Came) → status_of (ending_of_form form came) ≡ 8 → IsTooLong form came
too_long_form (bare capacity) came h = long_script Cold (settings.bare capacity) Bare came.script h
too_long_form (over aim path) came h = only_long aim came (long_bytes (ending_of_config aim) came.config h)
too_long_form (replay start config session) came h = long_after start came
    (long_bytes (replayed start came.script) came.config h)
too_long_form (made seed frames rovers) came h = omega (arith, h)
too_long_form (casting task config addr limit) came h =
    only_long_casting task came.failed came (long_bytes (ending_of_casting task came.failed) came.config h)
too_long_form (keeping config addr quiet) came h =
    only_long_keeping came.failed came (long_bytes (ending_of_keeping came.failed) came.config h)
too_long_form (fetching frames targets) came h =
    absurd (not_fetched came.failed frames 8 h (omega arith) (omega arith))

-- ---- every status is one of those that there are

script_status : (start : RoverStart) (c : Config) (script : Result (List Event) ScriptFault)
    → IsStatus (status_of (ending_of_script start c script))
script_status start c (Ok events) = inl refl
script_status start c (Err scripts.Long) = inr (inr (inr (inr (inr (inr (inr (inr (inl refl))))))))
script_status start c (Err scripts.Memory) = inr (inr (inr (inr (inr (inr (inr (inl refl)))))))
script_status start c script = inr (inr (inr (inl refl)))

bytes_status : (next : Config → ExitRule) (bytes : List ℕ) → ((c : Config) → IsStatus (status_of (next c)))
    → IsStatus (status_of (ending_of_bytes next bytes))
bytes_status next bytes each = elim (bytes_cases next bytes) [
  | too_many status long ↦ inr (inr (inr (inr (inr (inr (inr (inr (inl status))))))))
  | read c is ends ↦ subst (λ (e : ExitRule). IsStatus (status_of e)) (sym ends) (each c)
  | faulty status short none ↦ inr (inr (inl status))
  | wanting status ↦ inr (inr (inr (inr (inr (inr (inr (inl status)))))))
]

cast_status : (task : CasterMode) (failed : Bool) (c : Config) → IsStatus (status_of (ending_of_casting task failed c))
cast_status task failed c = elim (casting_status task failed c) [
  | inl ended ↦ inl ended
  | inr ended ↦ inr (inr (inr (inr (inr (inr (inl ended))))))
]

keep_status : (failed : Bool) (c : Config) → IsStatus (status_of (ending_of_keeping failed c))
keep_status true c = inr (inr (inr (inr (inr (inr (inl refl))))))
keep_status false c = inl refl

fetched_status : (failed : Bool) (frames : ℕ) → IsStatus (status_of (ending_of_fetching failed frames))
fetched_status true frames = inr (inr (inr (inr (inr (inr (inr (inr (inr refl))))))))
fetched_status false frames = inl refl

form_status : (form : Form) (came : Came) → IsStatus (status_of (ending_of_form form came))
form_status (bare capacity) came = script_status Cold (settings.bare capacity) (script_of Bare came.script)
form_status (over aim path) came =
    bytes_status (ending_of_config aim) came.config (λ c. inl (ok_status aim c))
form_status (replay start config session) came =
    bytes_status (replayed start came.script) came.config
    (λ c. script_status start c (session_in c came.script))
form_status (made seed frames rovers) came = inl refl
form_status (casting task config addr limit) came =
    bytes_status (ending_of_casting task came.failed) came.config (λ c. cast_status task came.failed c)
form_status (keeping config addr quiet) came =
    bytes_status (ending_of_keeping came.failed) came.config (λ c. keep_status came.failed c)
form_status (fetching frames targets) came = fetched_status came.failed frames

pub ending_status : (read : Option Form) (came : Came) → IsStatus (status_of (ending_of read came))
ending_status None came = inr (inl refl)
ending_status (Some form) came = form_status form came
