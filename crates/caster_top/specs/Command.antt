-- The words of the command line. They have no program name.
use Rattle.std.specs.Prelude.{◌≡◌, ◌≢◌, ℕ, ◌-◌, ◌^◌, ◌<◌, ◌≤◌, ◌==◌, nat_le, not, ◌&&◌, ◌||◌, if◌then◌else◌, Bool, true, false, IsTrue, List, [], ◌∷◌, length, map, codes, Option, Some, None, IfSome, option_map, String, string_bytes, ⊤}
use Rattle.std.specs.List.{All, flat_map, list_all}
use Rattle.std.specs.Global.{Global}
use Rattle.std.specs.Str.{bytes_eq}
use Rattle.std.specs.Fmt.{decimal}
use Rattle.session_script.specs.Digits.{number_of, at_most}
use Rattle.cast_text.specs.Name.{is_name}
use Rattle.ntrip_fetch.specs.declared.target.Target.{Target}
use Rattle.caster_top.specs.declared.command.ConfigCommand.{ConfigCommand}
use Rattle.caster_top.specs.declared.command.ConfigCommand.TheVariants.{Check, Table, Migrate}
use Rattle.caster_top.specs.declared.command.RoverStart.{RoverStart}
use Rattle.caster_top.specs.declared.command.RoverStart.TheVariants.{Cold, Warm}
use Rattle.caster_top.specs.declared.command.CasterMode.{CasterMode}
use Rattle.caster_top.specs.declared.command.CasterMode.TheVariants.{Serve, Record}
use Rattle.caster_top.specs.declared.command.Command.{Command}
use Rattle.caster_top.specs.declared.fetch_words.Fetch.{Fetch}
use Rattle.caster_top.specs.declared.keep_words.Keep.{Keep}
use Rattle.caster_top.specs.declared.command.Command.TheVariants as commands
use Rattle.caster_top.specs.declared.command.Casting.{Casting}
use Rattle.caster_top.specs.declared.command.Offline.{Offline}
use Rattle.caster_top.specs.declared.command.Offline.TheVariants as offline

-- the bytes of each word
abbrev pub texts : List (String Global) → List (List ℕ)
texts words = map (λ word. string_bytes word) words

-- the forms of words
pub data Form : Type 0 where
  -- a bare session over a ring of so many frames
  bare : ℕ → Form
  -- something that is done with the configuration in the file of this path
  over : ConfigCommand → List ℕ → Form
  -- a session over a configuration: how its rovers start, and the files of both, the
  -- configuration's first
  replay : RoverStart → List ℕ → List ℕ → Form
  -- the session that is made of this seed, with so many frames and rovers
  made : ℕ → ℕ → ℕ → Form
  -- a caster over the configuration in the file of this path, at this address: its task, and how
  -- many connections each worker serves, or how many are recorded
  casting : CasterMode → List ℕ → List ℕ → ℕ → Form
  -- a caster over the configuration in the file of this path, at this address, that serves until
  -- its gates are over; links that are silent for so many seconds are cut, with 0 none
  keeping : List ℕ → List ℕ → ℕ → Form
  -- so many frames are fetched from these targets
  fetching : ℕ → List Target → Form

-- the word for it
abbrev pub aim_name : ConfigCommand → List ℕ
aim_name Check = codes "check"
aim_name Table = codes "table"
aim_name Migrate = codes "migrate"

-- and the word for how rovers start: with the frames that come then, or greeted before them
abbrev pub start_name : RoverStart → List ℕ
start_name Cold = codes "replay"
start_name Warm = codes "warm"

-- and the word for the task of a caster, with the most connections that it may have
abbrev pub task_name : CasterMode → List ℕ
task_name Serve = codes "serve"
task_name Record = codes "record"

abbrev pub most_of : CasterMode → ℕ
most_of Serve = 1000000
most_of Record = 256

-- ---- which words are of which form

-- the words `bare C`: C is a decimal number from 1 to 4,096 without a sign or leading zeros
pub record AreBare (words : List (List ℕ)) (capacity : ℕ) : Type 0 where
  pub least : 1 ≤ capacity
  pub most : capacity ≤ 4096
  pub parts : words ≡ codes "bare" ∷ decimal capacity ∷ []

-- the words `check CONFIG`, `table CONFIG` or `migrate CONFIG`: CONFIG has 1 to 255 bytes
pub record AreOver (aim : ConfigCommand) (words : List (List ℕ)) (config : List ℕ) : Type 0 where
  pub least : 1 ≤ length config
  pub most : length config ≤ 255
  pub parts : words ≡ aim_name aim ∷ config ∷ []

-- the words `replay CONFIG SESSION` or `warm CONFIG SESSION`: each of both has 1 to 255 bytes
pub record ArePlayed (start : RoverStart) (words : List (List ℕ)) (config session : List ℕ)
    : Type 0 where
  pub config_is : (1 ≤ length config) × (length config ≤ 255)
  pub session_is : (1 ≤ length session) × (length session ≤ 255)
  pub parts : words ≡ start_name start ∷ config ∷ session ∷ []

abbrev pub AreReplay : List (List ℕ) → List ℕ → List ℕ → Type 0
AreReplay words config session = ArePlayed Cold words config session

abbrev pub AreWarm : List (List ℕ) → List ℕ → List ℕ → Type 0
AreWarm words config session = ArePlayed Warm words config session

-- the words `make SEED FRAMES ROVERS`: decimal numbers without signs or leading zeros, SEED below
-- 2^64, FRAMES from 1 to 10,000, ROVERS from 1 to 64
pub record AreMake (words : List (List ℕ)) (seed frames rovers : ℕ) : Type 0 where
  pub seed_is : seed < 2 ^ 64
  pub frames_are : (1 ≤ frames) × (frames ≤ 10000)
  pub rovers_are : (1 ≤ rovers) × (rovers ≤ 64)
  pub parts : words ≡ codes "make" ∷ decimal seed ∷ decimal frames ∷ decimal rovers ∷ []

-- the words `serve CONFIG ADDR LIMIT` or `record CONFIG ADDR LIMIT`: CONFIG and ADDR have 1 to 255
-- bytes each, LIMIT is a decimal number from 1 to 1,000,000, or for a record to 256, without a sign
-- or leading zeros
pub record AreCasting (task : CasterMode) (words : List (List ℕ)) (config addr : List ℕ) (limit : ℕ)
    : Type 0 where
  pub config_is : (1 ≤ length config) × (length config ≤ 255)
  pub addr_is : (1 ≤ length addr) × (length addr ≤ 255)
  pub limit_is : (1 ≤ limit) × (limit ≤ most_of task)
  pub parts : words ≡ task_name task ∷ config ∷ addr ∷ decimal limit ∷ []

abbrev pub AreServe : List (List ℕ) → List ℕ → List ℕ → ℕ → Type 0
AreServe words config addr limit = AreCasting Serve words config addr limit

abbrev pub AreRecord : List (List ℕ) → List ℕ → List ℕ → ℕ → Type 0
AreRecord words config addr limit = AreCasting Record words config addr limit

-- the words `keep CONFIG ADDR QUIET`: CONFIG and ADDR have 1 to 255 bytes each, QUIET is a decimal
-- number of seconds from 0 to 86,400 without a sign or leading zeros
pub record AreKeep (words : List (List ℕ)) (config addr : List ℕ) (quiet : ℕ) : Type 0 where
  pub config_is : (1 ≤ length config) × (length config ≤ 255)
  pub addr_is : (1 ≤ length addr) × (length addr ≤ 255)
  pub quiet_is : quiet ≤ 86400
  pub parts : words ≡ codes "keep" ∷ config ∷ addr ∷ decimal quiet ∷ []

-- ---- the targets of a fetch

-- a byte of an address: no CR and no LF
abbrev pub is_line_byte : ℕ → Bool
is_line_byte byte = not (byte == 10) && not (byte == 13)

-- a byte of a password: nor `;` (59)
abbrev pub is_password_byte : ℕ → Bool
is_password_byte byte = is_line_byte byte && not (byte == 59)

-- 1 to 100 bytes without CR and LF
abbrev pub is_address : List ℕ → Bool
is_address word = nat_le 1 (length word) && nat_le (length word) 100 && list_all is_line_byte word

-- at most 100 bytes without CR, LF and `;`
abbrev pub is_password : List ℕ → Bool
is_password word = nat_le (length word) 100 && list_all is_password_byte word

-- a user's name, where there is one; `-` stands for none
abbrev pub IsUser : List ℕ → Type 0
IsUser user = IsTrue (is_name user) × (user ≢ codes "-")

-- words can name the target: its protocol is a version of NTRIP, 1 or 2
pub record IsTarget (target : Target) : Type 0 where
  pub protocol_is : (1 ≤ target.protocol) × (target.protocol ≤ 2)
  pub address_is : IsTrue (is_address target.address)
  pub mount_is : IsTrue (is_name target.mount)
  pub user_is : IfSome target.user IsUser
  pub password_is : IsTrue (is_password target.password)

-- the word for the user
abbrev pub user_word : Option (List ℕ) → List ℕ
user_word None = codes "-"
user_word (Some user) = user

-- the words `PROTOCOL ADDR MOUNT USER PASSWORD`
abbrev pub target_words : Target → List (List ℕ)
target_words target =
    decimal target.protocol ∷ target.address ∷ target.mount ∷ user_word target.user
    ∷ target.password ∷ []

-- the words `fetch FRAMES` and behind them the five words of each target: FRAMES is a decimal
-- number from 1 to 1,000,000 without a sign or leading zeros, and there are 1 to 8 targets
pub record AreFetch (words : List (List ℕ)) (frames : ℕ) (targets : List Target) : Type 0 where
  pub frames_are : (1 ≤ frames) × (frames ≤ 1000000)
  pub count : (1 ≤ length targets) × (length targets ≤ 8)
  pub each : All IsTarget targets
  pub parts : words ≡ codes "fetch" ∷ decimal frames ∷ flat_map target_words targets

abbrev pub AreOf : List (List ℕ) → Form → Type 0
AreOf words (bare capacity) = AreBare words capacity
AreOf words (over aim config) = AreOver aim words config
AreOf words (replay start config session) = ArePlayed start words config session
AreOf words (made seed frames rovers) = AreMake words seed frames rovers
AreOf words (casting task config addr limit) = AreCasting task words config addr limit
AreOf words (keeping config addr quiet) = AreKeep words config addr quiet
AreOf words (fetching frames targets) = AreFetch words frames targets

-- the words are of no form that there is
abbrev pub AreOfNoForm : List (List ℕ) → Type 0
AreOfNoForm words = (form : Form) → AreOf words form → ⊥

-- the words ask for nothing that reads the input, and name no file
abbrev pub ReadNoInput : List (List ℕ) → Type 0
ReadNoInput words = (capacity : ℕ) → AreBare words capacity → ⊥

abbrev pub NameNoFile : List (List ℕ) → Type 0
NameNoFile words =
    ((aim : ConfigCommand) (config : List ℕ) → AreOver aim words config → ⊥)
    × ((start : RoverStart) (config session : List ℕ) → ArePlayed start words config session → ⊥)
    × ((task : CasterMode) (config addr : List ℕ) (limit : ℕ)
    → AreCasting task words config addr limit → ⊥)
    × ((config addr : List ℕ) (quiet : ℕ) → AreKeep words config addr quiet → ⊥)

-- the same of the words' form
abbrev pub ReadsNoInput : Form → Type 0
ReadsNoInput (bare capacity) = ⊥
ReadsNoInput form = ⊤

abbrev pub NamesNoFile : Form → Type 0
NamesNoFile (over aim config) = ⊥
NamesNoFile (replay start config session) = ⊥
NamesNoFile (casting task config addr limit) = ⊥
NamesNoFile (keeping config addr quiet) = ⊥
NamesNoFile form = ⊤

-- the numbers of the form are within their limits
abbrev pub IsWithin : Form → Type 0
IsWithin (bare capacity) = (1 ≤ capacity) × (capacity ≤ 4096)
IsWithin (made seed frames rovers) =
    (1 ≤ frames) × (frames ≤ 10000) × (1 ≤ rovers) × (rovers ≤ 64)
IsWithin form = ⊤

-- the words ask for no caster
abbrev pub CastNothing : List (List ℕ) → Type 0
CastNothing words =
    (task : CasterMode) (config addr : List ℕ) (limit : ℕ) → AreCasting task words config addr limit
    → ⊥

-- the words ask for no fetch
abbrev pub FetchNothing : List (List ℕ) → Type 0
FetchNothing words = (frames : ℕ) (targets : List Target) → AreFetch words frames targets → ⊥

-- the words ask for no caster that keeps serving
abbrev pub KeepNothing : List (List ℕ) → Type 0
KeepNothing words = (config addr : List ℕ) (quiet : ℕ) → AreKeep words config addr quiet → ⊥

-- the words ask nothing of the street: neither a caster of any kind nor a fetch
abbrev pub AskNoStreet : List (List ℕ) → Type 0
AskNoStreet words = CastNothing words × FetchNothing words × KeepNothing words

-- what the words ask for is written once it is decided: it is no fetch, which writes frames as they
-- come
abbrev pub WriteAtEnd : List (List ℕ) → Type 0
WriteAtEnd words = FetchNothing words

-- ---- the same, read from the words

-- what a command of this name does with a configuration
abbrev pub aim_of : List ℕ → Option ConfigCommand
aim_of name =
    if bytes_eq name (codes "check") then Some Check
    else if bytes_eq name (codes "table") then Some Table
    else if bytes_eq name (codes "migrate") then Some Migrate
    else None

-- how rovers start in a session for a command of this name
abbrev pub start_of : List ℕ → Option RoverStart
start_of name =
    if bytes_eq name (codes "replay") then Some Cold
    else if bytes_eq name (codes "warm") then Some Warm
    else None

-- the word can be a path
abbrev pub is_path : List ℕ → Bool
is_path word = nat_le 1 (length word) && nat_le (length word) 255

-- a name and one word
abbrev pub form_of_two : List ℕ → List ℕ → Option Form
form_of_two name word =
    if bytes_eq name (codes "bare") then option_map bare (at_most 4096 (number_of word))
    else if is_path word then option_map (λ aim. over aim word) (aim_of name)
    else None

-- a name and two words
abbrev pub form_of_three : List ℕ → List ℕ → List ℕ → Option Form
form_of_three name first second =
    if is_path first && is_path second
    then option_map (λ start. replay start first second) (start_of name) else None

-- any number up to this one, 0 too
abbrev pub up_to : ℕ → List ℕ → Option ℕ
up_to most word = if bytes_eq word (codes "0") then Some 0 else at_most most (number_of word)

-- any number below 2^64
abbrev pub seed_of : List ℕ → Option ℕ
seed_of word = up_to (2 ^ 64 - 1) word

abbrev pub made_form : Option ℕ → Option ℕ → Option ℕ → Option Form
made_form None frames rovers = None
made_form (Some seed) None rovers = None
made_form (Some seed) (Some frames) None = None
made_form (Some seed) (Some frames) (Some rovers) = Some (made seed frames rovers)

-- the task of a caster for a command of this name
abbrev pub task_of : List ℕ → Option CasterMode
task_of name =
    if bytes_eq name (codes "serve") then Some Serve
    else if bytes_eq name (codes "record") then Some Record
    else None

abbrev pub casting_form : Option CasterMode → List ℕ → List ℕ → List ℕ → Option Form
casting_form None config addr limit = None
casting_form (Some task) config addr limit =
    option_map (λ n. casting task config addr n) (at_most (most_of task) (number_of limit))

abbrev pub keeping_form : List ℕ → List ℕ → List ℕ → Option Form
keeping_form config addr quiet =
    option_map (λ n. keeping config addr n) (up_to 86400 quiet)

-- the words behind it, both of which can be paths, by the name of a caster
abbrev pub form_of_caster : List ℕ → List ℕ → List ℕ → List ℕ → Option Form
form_of_caster name config addr third =
    if bytes_eq name (codes "keep") then keeping_form config addr third
    else casting_form (task_of name) config addr third

-- the same of words that have this name
abbrev pub keep_of_four : List ℕ → List ℕ → List ℕ → List ℕ → Option Form
keep_of_four name config addr quiet =
    if bytes_eq name (codes "keep") && (is_path config && is_path addr)
    then keeping_form config addr quiet else None

abbrev pub keep_of : List (List ℕ) → Option Form
keep_of (name ∷ config ∷ addr ∷ quiet ∷ []) = keep_of_four name config addr quiet
keep_of words = None

-- a name and three words
abbrev pub form_of_four : List ℕ → List ℕ → List ℕ → List ℕ → Option Form
form_of_four name first second third =
    if bytes_eq name (codes "make")
    then made_form (seed_of first) (at_most 10000 (number_of second)) (at_most 64 (number_of third))
    else if is_path first && is_path second
    then form_of_caster name first second third else None

-- the word is a version of NTRIP
abbrev pub is_protocol : List ℕ → Bool
is_protocol word = bytes_eq word (codes "1") || bytes_eq word (codes "2")

-- five words are a target
abbrev pub is_target : List ℕ → List ℕ → List ℕ → List ℕ → List ℕ → Bool
is_target protocol address mount user password =
    is_protocol protocol && is_address address && is_name mount && is_name user
    && is_password password

-- groups of five words, each a target
abbrev pub are_targets : List (List ℕ) → Bool
are_targets [] = true
are_targets (a ∷ []) = false
are_targets (a ∷ b ∷ []) = false
are_targets (a ∷ b ∷ c ∷ []) = false
are_targets (a ∷ b ∷ c ∷ d ∷ []) = false
are_targets (protocol ∷ address ∷ mount ∷ user ∷ password ∷ more) =
    is_target protocol address mount user password && are_targets more

-- the user that a word names, and the version
abbrev pub user_of : List ℕ → Option (List ℕ)
user_of word = if bytes_eq word (codes "-") then None else Some word

abbrev pub protocol_of : List ℕ → ℕ
protocol_of word = if bytes_eq word (codes "2") then 2 else 1

-- the target that five words name
abbrev pub target_of : List ℕ → List ℕ → List ℕ → List ℕ → List ℕ → Target
target_of protocol address mount user password = record {
  protocol = protocol_of protocol;
  address = address;
  mount = mount;
  user = user_of user;
  password = password;
}

-- the targets of groups of five words
abbrev pub targets_of : List (List ℕ) → List Target
targets_of [] = []
targets_of (a ∷ []) = []
targets_of (a ∷ b ∷ []) = []
targets_of (a ∷ b ∷ c ∷ []) = []
targets_of (a ∷ b ∷ c ∷ d ∷ []) = []
targets_of (protocol ∷ address ∷ mount ∷ user ∷ password ∷ more) =
    target_of protocol address mount user password ∷ targets_of more

-- 1 to 8 targets
abbrev pub are_few_targets : List (List ℕ) → Bool
are_few_targets words =
    nat_le 1 (length words) && nat_le (length words) 40 && are_targets words

abbrev pub fetching_form : List ℕ → List (List ℕ) → Option Form
fetching_form frames words =
    if are_few_targets words
    then option_map (λ n. fetching n (targets_of words)) (at_most 1000000 (number_of frames))
    else None

-- a name, one word and more
abbrev pub form_of_more : List ℕ → List ℕ → List (List ℕ) → Option Form
form_of_more name first more =
    if bytes_eq name (codes "fetch") then fetching_form first more else None

abbrev pub form_of : List (List ℕ) → Option Form
form_of [] = None
form_of (name ∷ []) = None
form_of (name ∷ word ∷ []) = form_of_two name word
form_of (name ∷ first ∷ second ∷ []) = form_of_three name first second
form_of (name ∷ first ∷ second ∷ third ∷ []) = form_of_four name first second third
form_of (name ∷ first ∷ second ∷ third ∷ fourth ∷ more) =
    form_of_more name first (second ∷ third ∷ fourth ∷ more)

-- the files that words of a form name, in the order in which they are read
abbrev pub files_of : Option Form → List (List ℕ)
files_of None = []
files_of (Some (bare capacity)) = []
files_of (Some (over aim config)) = config ∷ []
files_of (Some (replay start config session)) = config ∷ session ∷ []
files_of (Some (made seed frames rovers)) = []
files_of (Some (casting task config addr limit)) = config ∷ []
files_of (Some (keeping config addr quiet)) = config ∷ []
files_of (Some (fetching frames targets)) = []

-- the command that the code has read: one that files and input decide alone, a caster, or any
abbrev pub offline_form : Offline → Form
offline_form (offline.Bare capacity) = bare capacity
offline_form (offline.Over aim config) = over aim config.now
offline_form (offline.Replay start config session) = replay start config.now session.now
offline_form (offline.Make seed frames rovers) = made seed frames rovers

abbrev pub cast_form : Casting → Form
cast_form cast = casting cast.task cast.config.now cast.addr.now cast.limit

abbrev pub form : Command → Form
form (commands.Offline command) = offline_form command
form (commands.Cast cast) = cast_form cast

-- and the caster that keeps serving
abbrev pub keep_form : Keep → Form
keep_form keep = keeping keep.config.now keep.addr.now keep.quiet

-- and the fetch
abbrev pub fetch_form : Fetch → Form
fetch_form fetch = fetching fetch.frames (targets_of (texts fetch.targets.now))
