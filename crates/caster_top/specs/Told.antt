-- The outcome where input and files may not tell their bytes, and what a status says of words,
-- files and input.
use Rattle.std.specs.Prelude.{◌≡◌, ℕ, ◌<◌, ◌≤◌, ◌⊎◌, List, [], ◌∷◌, length, Option, Some, None, Result, Ok, Err, IsOk, ⊤}
use Rattle.std.specs.Io.KnownBytes.{Appends}
use Rattle.session_script.specs.declared.Event.{Event}
use Rattle.session_script.specs.declared.ScriptKind.TheVariants.{Bare}
use Rattle.session_script.specs.declared.ScriptFault.{ScriptFault}
use Rattle.session_script.specs.declared.ScriptFault.TheVariants as scripts
use Rattle.session_script.specs.Script.{script_of}
use Rattle.cast_io.specs.Pieces.{AppendsPrefix}
use Rattle.cast_io.specs.Stores.{content_of}
use Rattle.cast_io.specs.Told.{Grew}
use Rattle.cast_config.specs.declared.config.Config.{Config}
use Rattle.cast_config.specs.declared.fault.ConfigFault.{ConfigFault}
use Rattle.cast_config.specs.declared.fault.ConfigFault.TheVariants as configs
use Rattle.cast_config.specs.Document.{IsRead}
use Rattle.caster_top.specs.Command.{Form, bare, over, replay, made, casting, keeping, fetching, AreOf, form_of}
use Rattle.caster_top.specs.Reading.{config_in}
use Rattle.caster_top.specs.Outcome.{Exit, Came, EndsSo, read_fault_exit, memory_exit, outcome, session_in}

-- which bytes may have come from the input
abbrev pub Input : Type 1
Input = List ℕ → Type 0

-- and which bytes may have come from the file of a path
abbrev pub Files : Type 1
Files = List ℕ → List ℕ → Type 0

-- files as a store tells them: pairs of path and content, of which the first of a path counts
abbrev pub FilesTold : Type 0
FilesTold = Option (List (List ℕ × List ℕ))

-- ---- what came

-- where the input tells its bytes, they are these
abbrev pub Tells : Option (List ℕ) → List ℕ → Type 0
Tells None bytes = ⊤
Tells (Some told) bytes = told ≡ bytes

-- where the files are told, that of this path holds these bytes
abbrev pub Holds : FilesTold → List ℕ → List ℕ → Type 0
Holds None path bytes = ⊤
Holds (Some files) path bytes = content_of files path ≡ Some bytes

-- what came from the file of this path is read as this configuration
abbrev pub IsConfigFrom : Files → List ℕ → Config → Type 0
IsConfigFrom files path c =
    (bytes : List ℕ) × files path bytes × (length bytes ≤ 8388608) × IsRead bytes (Ok c)

-- what came from the file of this path is a session of these events
abbrev pub IsSessionFrom : Files → List ℕ → Config → List Event → Type 0
IsSessionFrom files path c events =
    (bytes : List ℕ) × files path bytes × (session_in c bytes ≡ Ok events)

-- where the files are told, that of this path is read as this configuration
abbrev pub IsConfigAt : FilesTold → List ℕ → Config → Type 0
IsConfigAt files path c = IsConfigFrom (Holds files) path c

-- where the files are told, that of this path is a session of these events
abbrev pub IsSessionAt : FilesTold → List ℕ → Config → List Event → Type 0
IsSessionAt files path c events = IsSessionFrom (Holds files) path c events

-- the bytes are few enough, and say this configuration
abbrev pub IsConfigIn : List ℕ → Config → Type 0
IsConfigIn bytes c = (length bytes ≤ 8388608) × (config_in bytes ≡ Ok c)

-- what came for words of this form may have come from the input and the files. A session is read
-- where its configuration is one
abbrev pub ComesFrom : Form → Input → Files → Came → Type 0
ComesFrom (bare capacity) input files came = input came.script
ComesFrom (over aim config) input files came = files config came.config
ComesFrom (replay start config session) input files came =
    files config came.config
    × ((c : Config) → IsConfigIn came.config c → files session came.script)
ComesFrom (made seed frames rovers) input files came = ⊤
ComesFrom (casting task config addr limit) input files came = files config came.config
ComesFrom (keeping config addr quiet) input files came = files config came.config
ComesFrom (fetching frames targets) input files came = ⊤

abbrev pub HasCome : Option Form → Input → Files → Came → Type 0
HasCome None input files came = ⊤
HasCome (Some form) input files came = ComesFrom form input files came

-- ---- what was asked for

-- the files that were asked for, in order, for words that are read so: a session only where its
-- configuration is one
abbrev pub AreAsked : Option Form → FilesTold → List (List ℕ) → Type 0
AreAsked None files paths = paths ≡ []
AreAsked (Some (bare capacity)) files paths = paths ≡ []
AreAsked (Some (over aim config)) files paths = paths ≡ config ∷ []
AreAsked (Some (replay start config session)) files paths =
    (paths ≡ config ∷ [])
    ⊎ ((paths ≡ config ∷ session ∷ []) × (c : Config) × IsConfigAt files config c)
AreAsked (Some (made seed frames rovers)) files paths = paths ≡ []
AreAsked (Some (casting task config addr limit)) files paths = paths ≡ config ∷ []
AreAsked (Some (keeping config addr quiet)) files paths = paths ≡ config ∷ []
AreAsked (Some (fetching frames targets)) files paths = paths ≡ []

-- by what it was asked before and now, the store was asked for these, and for no other
abbrev pub IsAsked : Option Form → FilesTold → Option (List (List ℕ)) → Option (List (List ℕ))
    → Type 0
IsAsked form files old new =
    (paths : List (List ℕ)) × AreAsked form files paths × Grew old new paths

-- ---- how the program ended

-- the program ended with this status and wrote the text
abbrev pub EndsWith : ℕ → Option (List ℕ) → Option (List ℕ) → Exit → Type 0
EndsWith status old new end = (status ≡ end.status) × Appends old new end.text

-- this is the outcome of the words and of what came, from the input and the files
abbrev pub IsOutcome : List (List ℕ) → Input → Files → Exit → Type 0
IsOutcome words input files end =
    (came : Came) × HasCome (form_of words) input files came × EndsSo (outcome words came) end

-- status and written bytes are that outcome
abbrev pub FollowsOutcome : List (List ℕ) → Input → Files
    → ℕ → Option (List ℕ) → Option (List ℕ) → Type 0
FollowsOutcome words input files status old new =
    (end : Exit) × IsOutcome words input files end × EndsWith status old new end

-- the status is one of those that there are
abbrev pub IsStatus : ℕ → Type 0
IsStatus status =
    (status ≡ 0) ⊎ ((status ≡ 1) ⊎ ((status ≡ 2) ⊎ ((status ≡ 3) ⊎ ((status ≡ 4)
    ⊎ ((status ≡ 5) ⊎ ((status ≡ 6) ⊎ ((status ≡ 7) ⊎ ((status ≡ 8) ⊎ (status ≡ 9)))))))))

-- ---- what a status says

-- the words are of a form
abbrev pub HaveForm : List (List ℕ) → Type 0
HaveForm words = (form : Form) × AreOf words form

-- the words are of a form, and what came for them, from the input and the files, is such
abbrev pub HaveCome : (Form → Came → Type 0) → List (List ℕ) → Input → Files → Type 0
HaveCome IsSuch words input files =
    (form : Form) × (came : Came) × AreOf words form × ComesFrom form input files came
    × IsSuch form came

-- a script, or a configuration, or both
abbrev pub IsWhole : Form → Came → Type 0
IsWhole (bare capacity) came = IsOk (script_of Bare came.script)
IsWhole (over aim config) came = IsOk (config_in came.config)
IsWhole (replay start config session) came =
    (c : Config) × IsConfigIn came.config c × IsOk (session_in c came.script)
IsWhole (made seed frames rovers) came = ⊤
IsWhole (casting task config addr limit) came = IsOk (config_in came.config)
IsWhole (keeping config addr quiet) came = IsOk (config_in came.config)
IsWhole (fetching frames targets) came = ⊤

-- the bytes break a rule of configurations, or are no document
abbrev pub IsNoConfig : Result Config ConfigFault → Type 0
IsNoConfig (Ok c) = ⊥
IsNoConfig (Err configs.Memory) = ⊥
IsNoConfig (Err fault) = ⊤

abbrev pub IsFaultyConfig : Form → Came → Type 0
IsFaultyConfig (bare capacity) came = ⊥
IsFaultyConfig (over aim config) came =
    (length came.config ≤ 8388608) × IsNoConfig (config_in came.config)
IsFaultyConfig (replay start config session) came =
    (length came.config ≤ 8388608) × IsNoConfig (config_in came.config)
IsFaultyConfig (made seed frames rovers) came = ⊥
IsFaultyConfig (casting task config addr limit) came =
    (length came.config ≤ 8388608) × IsNoConfig (config_in came.config)
IsFaultyConfig (keeping config addr quiet) came =
    (length came.config ≤ 8388608) × IsNoConfig (config_in came.config)
IsFaultyConfig (fetching frames targets) came = ⊥

-- the bytes have a faulty line or no `stop`
abbrev pub IsNoSession : Result (List Event) ScriptFault → Type 0
IsNoSession (Ok events) = ⊥
IsNoSession (Err (scripts.Line n)) = ⊤
IsNoSession (Err (scripts.State n)) = ⊤
IsNoSession (Err scripts.NoStop) = ⊤
IsNoSession (Err scripts.Long) = ⊥
IsNoSession (Err scripts.Memory) = ⊥

abbrev pub IsFaultyScript : Form → Came → Type 0
IsFaultyScript (bare capacity) came = IsNoSession (script_of Bare came.script)
IsFaultyScript (over aim config) came = ⊥
IsFaultyScript (replay start config session) came =
    (c : Config) × IsConfigIn came.config c × IsNoSession (session_in c came.script)
IsFaultyScript (made seed frames rovers) came = ⊥
IsFaultyScript (casting task config addr limit) came = ⊥
IsFaultyScript (keeping config addr quiet) came = ⊥
IsFaultyScript (fetching frames targets) came = ⊥

-- more bytes than a script or a configuration may have
abbrev pub IsTooLong : Form → Came → Type 0
IsTooLong (bare capacity) came = 8388608 < length came.script
IsTooLong (over aim config) came = 8388608 < length came.config
IsTooLong (replay start config session) came =
    (8388608 < length came.config)
    ⊎ ((c : Config) × IsConfigIn came.config c × (8388608 < length came.script))
IsTooLong (made seed frames rovers) came = ⊥
IsTooLong (casting task config addr limit) came = 8388608 < length came.config
IsTooLong (keeping config addr quiet) came = 8388608 < length came.config
IsTooLong (fetching frames targets) came = ⊥

-- the words are of a form, and the fault is of what is read for it: the input's for a bare session,
-- the store's for a command that names a configuration, and none where a session is made or frames
-- are fetched
abbrev pub FaultFor : Form → Type 0 → Type 0 → Type 0
FaultFor (bare capacity) of_input of_store = of_input
FaultFor (over aim config) of_input of_store = of_store
FaultFor (replay start config session) of_input of_store = of_store
FaultFor (made seed frames rovers) of_input of_store = ⊥
FaultFor (casting task config addr limit) of_input of_store = of_store
FaultFor (keeping config addr quiet) of_input of_store = of_store
FaultFor (fetching frames targets) of_input of_store = ⊥

abbrev pub HaveFault : List (List ℕ) → Type 0 → Type 0 → Type 0
HaveFault words of_input of_store =
    (form : Form) × AreOf words form × FaultFor form of_input of_store

-- a failed write wrote a first part of the outcome's text, of the line of a read fault that was
-- counted, or of the line of want of memory
abbrev pub WritesPart : List (List ℕ) → Input → Files → Type 0 → Type 0
    → Option (List ℕ) → Option (List ℕ) → Type 0
WritesPart words input files of_input of_store old new =
    ((end : Exit) × IsOutcome words input files end × AppendsPrefix old new end.text)
    ⊎ ((HaveFault words of_input of_store × AppendsPrefix old new read_fault_exit.text)
    ⊎ AppendsPrefix old new memory_exit.text)
