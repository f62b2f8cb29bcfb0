-- What a caster did that kept serving until its gates were over.
use Rattle.std.specs.Prelude.{◌≡◌, ℕ, ◌+◌, ◌<◌, ◌≤◌, ⊤, Bool, false, List, [], ◌∷◌, ◌++◌, fold, length, map, take, Option, Result, Ok, Err}
use Rattle.std.specs.List.{All, flat_map}
use mathlib.Core.Option.{some}
use lib.ListN.{get_elem?}
use Rattle.turn_log.specs.History.{History, IsLegal, own}
use Rattle.cast_io.specs.Causes.{Rose}
use Rattle.cast_io.specs.Told.{DoorTold, Grew}
use Rattle.cast_io.specs.Doors.{IsNewDoor}
use Rattle.cast_io.specs.declared.yard_asked.YardAsked.{YardAsked}
use Rattle.cast_io.specs.Yards.{AreNewNotes, GateTold, NotesTold, YardTold}
use Rattle.cast_console.specs.Consoles.{ConsoleTold, IsNewConsole}
use Rattle.caster_accounts.specs.declared.account.Sum.{Sum}
use Rattle.caster_accounts.specs.History.{fits}
use Rattle.caster_accounts.specs.Sums.{nothing}
use Rattle.cast_config.specs.declared.config.Config.{Config}
use Rattle.session_model.specs.declared.report.Receipt.{Receipt}
use Rattle.session_model.specs.Reports.{closed_of}
use Rattle.session_model.specs.Run.{Histories, nothing_called}
use Rattle.session_model.specs.Setting.{caps}
use Rattle.session_model.specs.Text.{closed_text}
use Rattle.caster_press.specs.declared.line.Line.{Line}
use Rattle.caster_press.specs.declared.press.OutputStart.{OutputStart}
use Rattle.caster_press.specs.Lines.{text_in, text_of}
use Rattle.caster_press.specs.Written.{IsWritten}
use Rattle.caster_places.specs.Rows.{AreWhole}
use Rattle.caster_link.specs.declared.role.Role.{Role}
use Rattle.caster_link.specs.Wear.{only_worn}
use Rattle.caster_serve.specs.Callers.{calls_in}
use Rattle.caster_serve.specs.Works.{tallied, receipts_of}
use Rattle.caster_keep.specs.declared.stop.Stop.{Stop}
use Rattle.caster_keep.specs.declared.stop.Stop.TheVariants as stops
use Rattle.caster_keep.specs.declared.whole.Outcome.{Outcome}
use Rattle.caster_keep.specs.declared.whole.KeepFault.{KeepFault}
use Rattle.caster_keep.specs.declared.whole.KeepFault.TheVariants as faults
use Rattle.caster_keep.specs.Links.{Kept, records_of}
use Rattle.caster_keep.specs.Keepers.{KeptOn}
use Rattle.keep_porter.specs.Porters.{Answer, HasAnswered}
use Rattle.caster_keep.specs.Gates.{asked_of, gate_told, made_of, roles_of}

-- ---- the keepers

-- what a keeper came to: its role, its gate as it was given, what it has seen, the links that it
-- kept, what their rovers add up to, its gate as it is now, why it stopped, and the lines that it
-- put
pub record KeeperTold (G : Type 0) : Type 0 where
  pub role : Role
  pub first : G
  pub seen : Histories
  pub links : List Kept
  pub tally : Sum
  pub gate : G
  pub stop : Stop
  pub lines : List Line

abbrev pub role_of : {G : Type 0} → KeeperTold G → Role
role_of keeper = keeper.role

abbrev pub first_of : {G : Type 0} → KeeperTold G → G
first_of keeper = keeper.first

abbrev pub seen_by : {G : Type 0} → KeeperTold G → Histories
seen_by keeper = keeper.seen

abbrev pub stop_of : {G : Type 0} → KeeperTold G → Stop
stop_of keeper = keeper.stop

-- the receipts of its links, in order
abbrev pub receipts_by : {G : Type 0} → KeeperTold G → List Receipt
receipts_by keeper = receipts_of (records_of keeper.links)

-- ---- the porter

-- what the porter came to: its console as it was given, what it has seen, its answers, its console
-- as it is now, and the lines that it put
pub record PorterTold : Type 0 where
  pub first : ConsoleTold
  pub seen : Histories
  pub given : List Answer
  pub console : ConsoleTold
  pub lines : List Line

-- what all callers have seen, in the order of their numbers: the keepers, and then the porter
abbrev pub seen_by_all : {G : Type 0} → List (KeeperTold G) → PorterTold → List Histories
seen_by_all keepers porter = map seen_by keepers ++ porter.seen ∷ []

-- The porter of this number waited from its first call on, at a console at which nothing was wanted
-- before, until nothing was wanted there any more. Its places at the locks never lacked memory, and
-- were worn by no more turns than these.
pub record IsPorter (c : Config) (worn : List ℕ) (me : ℕ) (porter : PorterTold) : Type 0 where
  pub unused : IsNewConsole porter.first
  pub answered : HasAnswered c me false worn (nothing_called c) porter.seen porter.first
      porter.console porter.given (map text_of porter.lines)

-- ---- why they stopped

-- the first of these that is not that a gate was over: where there is one, a gate failed
abbrev pub first_stop : List Stop → Stop
first_stop [] = stops.Over
first_stop (stops.Over ∷ more) = first_stop more
first_stop (stop ∷ more) = stop

-- ---- the lines

-- notes as they are told
abbrev pub notes_told : {O : Type 0} → (O → Option (List ℕ)) → (O → ℕ) → O → NotesTold
notes_told taken faults notes = record { taken = taken notes; faults = faults notes }

-- what they told before the first line
abbrev pub start_of : {O : Type 0} → (O → Option (List ℕ)) → (O → ℕ) → O → OutputStart
start_of taken faults notes = record { taken = taken notes; faults = faults notes }

-- the yard took these gates and these notes back, in order, as they are told
pub record HasGivenBack (gates : List GateTold) (notes : List NotesTold) (old new : YardTold)
    : Type 0 where
  pub gates_back : Grew old.gates new.gates gates
  pub notes_back : Grew old.notes new.notes notes

-- The yard was asked for the first of these, nobody served, and what it had given came back as it
-- had come; but a place for lines, of which there is one at most, may have been let go where memory
-- was lacking.
pub record Refused (wanted : List YardAsked) (old new : YardTold) : Type 0 where
  pub n : ℕ
  pub asked : Grew old.asked new.asked (take n wanted)
  pub gates : List GateTold
  pub unused : All (λ (gate : GateTold). IsNewDoor gate.door) gates
  pub notes : List NotesTold
  pub given_back : HasGivenBack gates notes old new
  pub one : length notes ≤ 1
  pub untaken : All AreNewNotes notes

-- ---- all of it

module _ {G : Type 0} (told : G → DoorTold) (over : G → Bool) (peer : G → List ℕ) where
  -- The keeper of this number kept serving from its first call on, at a gate that nobody had used.
  -- Its places at the locks never lacked memory, and were worn by no more turns than these.
  pub record IsKeeper (c : Config) (worn : List ℕ) (me : ℕ) (keeper : KeeperTold G)
      : Type 0 where
    pub unused : IsNewDoor (told keeper.first)
    pub kept : KeptOn told over peer c keeper.role me (only_worn worn) (nothing_called c)
        keeper.seen keeper.first keeper.gate nothing keeper.tally keeper.links
        (map text_of keeper.lines) keeper.stop

  -- these keepers kept serving so, numbered from this number on
  abbrev pub AreKeepers : Config → List ℕ → ℕ → List (KeeperTold G) → Type 0
  AreKeepers c worn n [] = ⊤
  AreKeepers c worn n (keeper ∷ keepers) =
      IsKeeper c worn n keeper × AreKeepers c worn (n + 1) keepers

-- and what it was made for
module _ {G : Type 0} (told : G → DoorTold) (over : G → Bool) (peer : G → List ℕ)
    (origin : G → YardAsked) where
  -- All kept serving: in the order of their numbers, first the workers and then the relays, each at
  -- a gate that was made for this, and behind them the porter. There is one history of each
  -- mountpoint and one of the book: each of them has seen a beginning of it with all its own calls,
  -- and nobody else called. And there is one history of lines, in which the own ones of each of
  -- them are exactly the lines that it put, and nobody else put any.
  pub record AllKept (c : Config) (made : List YardAsked) (keepers : List (KeeperTold G))
      (porter : PorterTold) (histories : Histories) (lines : History Line) : Type 0 where
    pub roles_are : map role_of keepers ≡ roles_of c
    pub gates_are : map (λ (keeper : KeeperTold G). origin keeper.first) keepers ≡ made
    pub keepers_are : AreKeepers told over peer c (calls_in histories) 0 keepers
    pub porter_is : IsPorter c (calls_in histories) (length keepers) porter
    pub whole : AreWhole (seen_by_all keepers porter) histories (length c.mount)
    -- each of them made calls in the book that fitted there
    pub legal : All (λ (row : Histories). IsLegal (fits (caps c)) row.book)
        (seen_by_all keepers porter)
    pub owns : (k : ℕ) (keeper : KeeperTold G) → get_elem? keepers k ≡ some keeper
        → own k lines ≡ keeper.lines
    pub porter_owns : own (length keepers) lines ≡ porter.lines
    pub nobody_else : All (λ (entry : ℕ × Line). entry.0 < length keepers + 1) lines

-- the consoles that came back were not used
pub record AreUnused (old new : List ConsoleTold) : Type 0 where
  pub consoles : List ConsoleTold
  pub back : new ≡ old ++ consoles
  pub unused : All IsNewConsole consoles

-- how gates are seen, what notes told of their bytes and their faults, and which consoles had come
-- back before and have come back now
module _ {G O : Type 0} (told : G → DoorTold) (over : G → Bool) (peer : G → List ℕ)
    (origin : G → YardAsked) (taken : O → Option (List ℕ)) (faults_of : O → ℕ)
    (back_before back_now : List ConsoleTold) where
  -- All kept serving, and all that the yard and the lodge had given came back. The caster came to
  -- what its histories say, and all accounts together are the sum of the receipts of all links. The
  -- notes had taken nothing; then they took the text of the history of lines, and behind it the
  -- totals; or the text is torn, and they took some first bytes of it. Where a keeper stopped since
  -- its gate failed, the yard's count of faults rose.
  pub record HasEnded (c : Config) (made : List YardAsked) (old new : YardTold) (outcome : Outcome)
      : Type 0 where
    pub keepers : List (KeeperTold G)
    pub porter : PorterTold
    pub histories : Histories
    pub lines : History Line
    pub first : O
    pub untaken : AreNewNotes (notes_told taken faults_of first)
    pub notes : O
    pub all : AllKept told over peer origin c made keepers porter histories lines
    pub given_back : HasGivenBack
        (map (λ (keeper : KeeperTold G). gate_told told over keeper.gate) keepers)
        (notes_told taken faults_of notes ∷ []) old new
    pub console_back : back_now ≡ back_before ++ porter.console ∷ []
    pub closed_is : outcome.closed ≡ closed_of c histories
    pub total : outcome.closed.total ≡ fold tallied nothing (flat_map receipts_by keepers)
    pub text : IsWritten outcome.is_torn (start_of taken faults_of first) (taken notes)
        (faults_of notes) (text_in lines ++ closed_text c outcome.closed)
    pub stop_is : outcome.stop ≡ first_stop (map stop_of keepers)
    pub failed : outcome.stop ≡ stops.Failed → Rose old.faults new.faults

  -- The yard was asked for all of these, in order, and then it went so.
  pub record Went (c : Config) (made wanted : List YardAsked) (old new : YardTold)
      (outcome : Outcome) : Type 0 where
    pub asked : Grew old.asked new.asked wanted
    pub ended : HasEnded c made old new outcome

  -- what the answer of a caster says that was to ask for these, and whose gates were made for those
  abbrev pub Answered : Config → List YardAsked → List YardAsked → YardTold → YardTold
      → Result Outcome KeepFault → Type 0
  Answered c made wanted old new (Ok outcome) = Went c made wanted old new outcome
  Answered c made wanted old new (Err faults.Network) =
      Refused wanted old new × AreUnused back_before back_now × Rose old.faults new.faults
  Answered c made wanted old new (Err faults.Memory) =
      Refused wanted old new × AreUnused back_before back_now

  -- the whole of it
  pub record HasKept (c : Config) (addr : List ℕ) (quiet : ℕ) (old new : YardTold)
      (result : Result Outcome KeepFault) : Type 0 where
    pub later : old.faults ≤ new.faults
    pub answered : Answered c (made_of c addr quiet) (asked_of c addr quiet) old new result
