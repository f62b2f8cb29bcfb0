-- Keepers whose gates are told are those of logs, where the gates log themselves.
use Rattle.std.proofs.Common.{◌≡◌, ◌∙◌, ℕ, suc, ◌+◌, ◌<◌, Bool, true, false, List, [], ◌∷◌, ◌++◌, length, map, fold, Option, Some, Ok, refl, ap, sym, subst}
use Rattle.std.specs.Prelude.{take, drop, ◌-◌}
use Rattle.std.specs.List.{All, flat_map}
use Rattle.std.proofs.lemmas.List.{take-append-drop}
use Rattle.cast_io.specs.declared.steps.Step.{Step}
use Rattle.cast_io.specs.declared.yard_asked.YardAsked.{YardAsked}
use Rattle.cast_io.specs.Causes.{Rose}
use Rattle.cast_io.specs.Links.{bytes_in}
use Rattle.cast_io.specs.Logged.{LinkLog, DoorLog, link_logged, door_logged}
use Rattle.cast_io.specs.Told.{LinkTold, DoorTold}
use Rattle.cast_io.specs.Yards.{GateTold, NotesTold}
use Rattle.cast_console.specs.Consoles.{ConsoleTold}
use Rattle.turn_log.specs.History.{History, GoesOn, own}
use Rattle.mount_ring.specs.declared.call.RingCall.{RingCall}
use Rattle.caster_accounts.specs.declared.call.BookCall.{BookCall}
use Rattle.caster_accounts.specs.Sums.{nothing}
use Rattle.session_calls.specs.Rings.{history_at}
use Rattle.cast_config.specs.declared.config.Config.{Config}
use Rattle.session_model.specs.declared.report.Receipt.{Receipt}
use Rattle.session_model.specs.Run.{Histories, nothing_called}
use Rattle.session_model.specs.Text.{closed_text}
use Rattle.session_core.specs.declared.asked.Asked.{Asked}
use Rattle.session_core.specs.declared.held.Held.{Held}
use Rattle.caster_press.specs.declared.line.Line.{Line}
use Rattle.caster_press.specs.Lines.{text_in, text_of}
use Rattle.caster_press.specs.Written.{IsWritten}
use Rattle.caster_link.specs.declared.role.Role.{Role}
use Rattle.caster_link.specs.Links.{opening_of}
use Rattle.caster_serve.specs.Callers.{calls_in}
use Rattle.caster_serve.specs.Works.{links_of, receipts_of, tallied}
use Rattle.caster_keep.specs.declared.stop.Stop.{Stop}
use Rattle.caster_keep.specs.declared.stop.Stop.TheVariants as stops
use Rattle.caster_keep.specs.declared.whole.Outcome.{Outcome}
use Rattle.caster_keep.specs.Links.{Kept, lines_from, records_of}
use Rattle.caster_keep.specs.Keepers.{IsWhy as ToldWhy}
use Rattle.caster_keep.specs.Gates.{gate_told}
use Rattle.caster_keep.specs.Keeping.{AreKeepers, IsKeeper, HasKept, IsPorter, KeeperTold, first_stop, receipts_by as told_receipts, role_of, stop_of}
use Rattle.serve_promise.specs.Accounts.{Bill, IsBilled, sums_by}
use Rattle.serve_promise.specs.Links.{IsLinkKept}
use Rattle.keep_promise.specs.Links.{IsAsked, IsKept as ToldKept, bill_of as told_bill}
use Rattle.keep_promise.specs.Keepers.{AreKeptOn, IsKeeperKept as ToldKeeper, AreKeepersKept as ToldKeepers, bills_by as told_bills}
use Rattle.keep_promise.specs.Points.{AllShown}
use Rattle.keep_promise.proofs.WholeLemmas.{all_promised}
use Rattle.caster_logged.specs.Keepers.{KeptLog, kept_logged, bill_of, IsKept, AreKept, KeeperLog, gate_back, receipts_by, bills_by, IsKeeperKept, AreKeepersKept, YardList, yard_told, WasTaken, HasKeptAll, IsWhy}
use Rattle.caster_logged.proofs.LogLemmas.{grew_by, cons_head, cons_tail}

-- ---- links

abbrev told_kept : LinkTold → Receipt → Option Asked → Held → List ℕ → Kept
told_kept link receipt asked held peer = record {
  entry = record { link = link; receipt = receipt };
  asked = asked;
  held = held;
  peer = peer;
}

abbrev log_of : LinkLog → Kept → KeptLog
log_of log kept = record {
  link = log;
  receipt = kept.entry.receipt;
  asked = kept.asked;
  held = kept.held;
  peer = kept.peer;
}

-- where what came back is logged, so are the links
kept_of : (links : List Kept) (logs : List LinkLog) → map link_logged logs ≡ links_of (records_of links)
    → (own : List KeptLog) × (links ≡ map kept_logged own) × (logs ≡ map (λ (k : KeptLog). k.link) own)
kept_of [] [] same = ([], refl, refl)
kept_of [] (log ∷ logs) same = absurd cc
kept_of (kept ∷ links) [] same = absurd cc
kept_of (kept ∷ links) (log ∷ logs) same =
    let rest = kept_of links logs
    (cons_tail (link_logged log) kept.entry.link (map link_logged logs) (links_of (records_of links)) same) in
    let head : link_logged log ≡ kept.entry.link =
    cons_head (link_logged log) kept.entry.link (map link_logged logs) (links_of (records_of links)) same in (
      log_of log kept ∷ rest.0,
      ap (λ told. told_kept told kept.entry.receipt kept.asked kept.held kept.peer ∷ links) (sym head)
          ∙ ap (λ more. kept_logged (log_of log kept) ∷ more) rest.1,
      ap (λ more. log ∷ more) rest.2,
    )

link_kept : (c : Config) (role : Role) (me : ℕ) (start now histories : Histories) (kept : KeptLog)
    → ToldKept c role me start now histories (kept_logged kept) → IsKept c role me start now histories kept
link_kept c role me start now histories kept is =
    let entry = is.entry in
    let taken : entry.taken ≡ kept.link.taken = sym (entry.taken_is kept.link.taken refl) in
    let bytes : entry.written ≡ kept.link.bytes = sym (entry.bytes_is kept.link.bytes refl) in
    record {
      last = entry.last;
      caused = entry.caused;
      refused = entry.refused;
      kept_is = subst (λ (b : List ℕ). IsLinkKept c (opening_of role) me start.rings now.rings histories.rings
          (bytes_in kept.link.taken) b entry.last kept.receipt) bytes
          (subst (λ (t : List Step). IsLinkKept c (opening_of role) me start.rings now.rings histories.rings (bytes_in t)
          entry.written entry.last kept.receipt) taken entry.kept);
      billed = subst (λ (t : List Step). IsBilled c (opening_of role) me (bytes_in t) start.book now.book
          (bill_of kept)) taken is.billed;
      asked_is = subst (λ (t : List Step). IsAsked (opening_of role) (bytes_in t) kept.receipt kept.asked) taken is.asked;
      claim = is.claim;
    }

links_kept : (c : Config) (role : Role) (me : ℕ) (histories : Histories) (own : List KeptLog) (start now : Histories)
    → AreKeptOn c role me histories (map kept_logged own) start now → AreKept c role me histories own start now
links_kept c role me histories [] start now is = is
links_kept c role me histories (kept ∷ own) start now is = (
  is.0,
  link_kept c role me start is.0 histories kept is.1,
  links_kept c role me histories own is.0 now is.2,
)

receipts_are : (own : List KeptLog)
    → receipts_of (records_of (map kept_logged own)) ≡ map (λ (k : KeptLog). k.receipt) own
receipts_are [] = refl
receipts_are (kept ∷ own) = ap (λ more. kept.receipt ∷ more) (receipts_are own)

bills_are : (own : List KeptLog) → map told_bill (map kept_logged own) ≡ map bill_of own
bills_are [] = refl
bills_are (kept ∷ own) = ap (λ (l : List Bill). bill_of kept ∷ l) (bills_are own)

-- ---- a keeper

module _ {G : Type 0} (told : G → DoorTold) (over : G → Bool) (peer : G → List ℕ) (door : G → DoorLog)
    (logs : (gate : G) → told gate ≡ door_logged (door gate)) where
  -- why it stopped, by the log of its gate
  why_logged : (stop : Stop) (at now : G) (log : KeeperLog) → log.over ≡ over now → log.door ≡ door now
      → ToldWhy told over peer stop at now → IsWhy stop log
  why_logged stops.Over at now log same logged is = same ∙ is.1
  why_logged stops.Failed at now log same logged is = (
    (told is.asked).faults,
    subst (Rose (told is.asked).faults)
        (ap (λ (d : DoorTold). d.faults) (logs now) ∙ ap (λ (d : DoorLog). d.faults) (sym logged)) (is.failed.failed refl),
  )

  -- the keeper as it is logged
  record Logged (c : Config) (histories : Histories) (lines : History Line) (me : ℕ) (keeper : KeeperTold G) : Type 0
    where
      log : KeeperLog
      role : log.role ≡ keeper.role
      stop : log.stop ≡ keeper.stop
      gate : gate_back log ≡ gate_told told over keeper.gate
      receipts : receipts_by log ≡ told_receipts keeper
      bills : bills_by log ≡ told_bills keeper
      kept : IsKeeperKept c histories lines me log

  logged : (c : Config) (histories : Histories) (lines : History Line) (me : ℕ) (keeper : KeeperTold G)
      → ToldKeeper told c histories lines me keeper
      → IsKeeper told over peer c (calls_in histories) me keeper → Logged c histories lines me keeper
  logged c histories lines me keeper is of =
      let back : map link_logged (door keeper.gate).back ≡ links_of (records_of keeper.links) =
      is.back (map link_logged (door keeper.gate).back) (ap (λ (d : DoorTold). d.back) (logs keeper.gate)) in
      let all = kept_of keeper.links (door keeper.gate).back back in
      record {
        log = record {
          role = keeper.role;
          door = door keeper.gate;
          over = over keeper.gate;
          links = all.0;
          seen = keeper.seen;
          stop = keeper.stop;
        };
        role = refl;
        stop = refl;
        gate = ap (λ (d : DoorTold). gate_of d (over keeper.gate)) (sym (logs keeper.gate));
        receipts = sym (receipts_are all.0)
            ∙ ap (λ (l : List Kept). receipts_of (records_of l)) (sym all.1);
        bills = sym (bills_are all.0) ∙ ap (map told_bill) (sym all.1);
        kept = record {
          back = all.2;
          in_turn = links_kept c keeper.role me histories all.0 (nothing_called c) keeper.seen
              (subst (λ (l : List Kept). AreKeptOn c keeper.role me histories l (nothing_called c) keeper.seen) all.1
              is.in_turn);
          nothing_else = is.nothing_else;
          nothing_booked = is.nothing_booked;
          sound_throughout = is.sound_throughout;
          lines_are = is.lines_are ∙ ap (lines_from c me keeper.role 1) all.1;
          why = why_logged keeper.stop of.kept.at keeper.gate (record {
            role = keeper.role;
            door = door keeper.gate;
            over = over keeper.gate;
            links = all.0;
            seen = keeper.seen;
            stop = keeper.stop;
          }) refl refl of.kept.why;
        };
      }
    where
      gate_of : DoorTold → Bool → GateTold
      gate_of d o = record { door = d; over = o }

  -- ---- all of them

  record AllLogged (c : Config) (histories : Histories) (lines : History Line) (n : ℕ) (keepers : List (KeeperTold G))
      : Type 0 where
    list : List KeeperLog
    count : length list ≡ length keepers
    roles : map (λ (k : KeeperLog). k.role) list ≡ map role_of keepers
    stops : map (λ (k : KeeperLog). k.stop) list ≡ map stop_of keepers
    gates : map gate_back list ≡ map (λ (k : KeeperTold G). gate_told told over k.gate) keepers
    receipts : flat_map receipts_by list ≡ flat_map told_receipts keepers
    bills : flat_map bills_by list ≡ flat_map told_bills keepers
    kept : AreKeepersKept c histories lines n list

  all_logged : (c : Config) (histories : Histories) (lines : History Line) (n : ℕ) (keepers : List (KeeperTold G))
      → ToldKeepers told c histories lines n keepers
      → AreKeepers told over peer c (calls_in histories) n keepers
      → AllLogged c histories lines n keepers
  all_logged c histories lines n [] is of = record {
    list = [];
    count = refl;
    roles = refl;
    stops = refl;
    gates = refl;
    receipts = refl;
    bills = refl;
    kept = tt;
  }
  all_logged c histories lines n (keeper ∷ keepers) is of =
      let one = logged c histories lines n keeper is.0 of.0 in
      let rest = all_logged c histories lines (n + 1) keepers is.1 of.1 in
      record {
        list = one.log ∷ rest.list;
        count = ap (λ (k : ℕ). suc k) rest.count;
        roles = ap (λ (r : Role). r ∷ map (λ (k : KeeperLog). k.role) rest.list) one.role
            ∙ ap (λ (l : List Role). keeper.role ∷ l) rest.roles;
        stops = ap (λ (s : Stop). s ∷ map (λ (k : KeeperLog). k.stop) rest.list) one.stop
            ∙ ap (λ (l : List Stop). keeper.stop ∷ l) rest.stops;
        gates = ap (λ (g : GateTold). g ∷ map gate_back rest.list) one.gate
            ∙ ap (λ (l : List GateTold). gate_told told over keeper.gate ∷ l) rest.gates;
        receipts = ap (λ (l : List Receipt). l ++ flat_map receipts_by rest.list) one.receipts
            ∙ ap (λ (l : List Receipt). told_receipts keeper ++ l) rest.receipts;
        bills = ap (λ (l : List Bill). l ++ flat_map bills_by rest.list) one.bills
            ∙ ap (λ (l : List Bill). told_bills keeper ++ l) rest.bills;
        kept = (one.kept, rest.kept);
      }

-- ---- the text

-- what a place for lines took that had taken nothing
text_taken : (torn : Bool) (start bytes : List ℕ) (before faults : ℕ) (text : List ℕ) → start ≡ [] → before ≡ 0
    → IsWritten torn (record { taken = Some start; faults = before }) (Some bytes) faults text
    → WasTaken torn bytes faults text
text_taken false start bytes before faults text none unharmed is =
    (is.0 ∙ ap (λ (l : List ℕ). l ++ text) none, is.1 ∙ unharmed)
text_taken true start bytes before faults text none unharmed is = (
  drop (length bytes - length start) text,
  sym (take-append-drop (length bytes - length start) text)
      ∙ ap (λ (l : List ℕ). l ++ drop (length bytes - length start) text)
      (sym (is.0 ∙ ap (λ (l : List ℕ). l ++ take (length bytes - length start) text) none)),
  subst (λ (n : ℕ). Rose n faults) unharmed is.1,
)

-- ---- the whole

module _ {G O : Type 0} (told : G → DoorTold) (over : G → Bool) (peer : G → List ℕ) (origin : G → YardAsked)
    (taken : O → Option (List ℕ)) (faults_of : O → ℕ) (door : G → DoorLog) (text_of_notes : O → List ℕ)
    (logs : (gate : G) → told gate ≡ door_logged (door gate))
    (notes_log : (notes : O) → taken notes ≡ Some (text_of_notes notes)) where
  pub kept_all : (c : Config) (addr : List ℕ) (quiet : ℕ) (old new : YardList) (f g h i : ℕ)
      (back_before back_now : List ConsoleTold) (outcome : Outcome)
      → HasKept told over peer origin taken faults_of back_before back_now c addr quiet (yard_told old f g)
      (yard_told new h i) (Ok outcome) → HasKeptAll c addr quiet old new back_before back_now outcome
  kept_all c addr quiet old new f g h i back_before back_now outcome has =
      let went = has.answered in
      let ended = went.ended in
      let is = all_promised told over peer origin taken faults_of back_before back_now c _ (yard_told old f g)
      (yard_told new h i) outcome ended in
      let all = all_logged told over peer door logs c ended.histories ended.lines 0 ended.keepers is.kept
      ended.all.keepers_are in
      let text : List ℕ = text_in ended.lines ++ closed_text c outcome.closed in
      let bytes : List ℕ = text_of_notes ended.notes in
      let none : text_of_notes ended.first ≡ [] =
      ended.untaken.taken (text_of_notes ended.first) (notes_log ended.first) in
      record {
        asked = grew_by old.asked new.asked _ went.asked;
        keepers = all.list;
        porter = ended.porter;
        histories = ended.histories;
        lines = ended.lines;
        bytes = bytes;
        faults = faults_of ended.notes;
        roles_are = all.roles ∙ ended.all.roles_are;
        gates = grew_by old.gates new.gates _ ended.given_back.gates_back
            ∙ ap (λ (l : List GateTold). old.gates ++ l) (sym all.gates);
        notes = grew_by old.notes new.notes _ ended.given_back.notes_back
            ∙ ap (λ (t : Option (List ℕ)). old.notes ++ notes_of t (faults_of ended.notes) ∷ []) (notes_log ended.notes);
        console = ended.console_back;
        one_each = is.one_each;
        frames = is.frames;
        kept = all.kept;
        porter_is = subst (λ (n : ℕ). IsPorter c (calls_in ended.histories) n ended.porter)
            (sym all.count) ended.all.porter_is;
        porter_else = subst (λ (n : ℕ). (mount : ℕ) → GoesOn n (history_at ended.porter.seen.rings mount)
            (history_at ended.histories.rings mount)) (sym all.count) is.porter_else;
        porter_lines = ap (λ (n : ℕ). map text_of (own n ended.lines)) all.count
            ∙ ap (map text_of) ended.all.porter_owns ∙ ended.all.porter_is.answered.said;
        nothing_else = subst (λ (n : ℕ). (mount : ℕ) → All (λ (entry : ℕ × RingCall). entry.0 < n + 1)
            (history_at ended.histories.rings mount)) (sym all.count) is.nothing_else;
        shown = subst (λ (n : ℕ). AllShown n ended.histories.rings ended.porter.given) (sym all.count) is.shown;
        capped = is.capped;
        accounts = is.accounts ∙ ap (λ (l : List Bill). sums_by 1 l c.account) (sym all.bills);
        book_callers = subst (λ (n : ℕ). All (λ (entry : ℕ × BookCall). entry.0 < n) ended.histories.book)
            (sym all.count) is.book_callers;
        no_other_line = subst (λ (n : ℕ). All (λ (entry : ℕ × Line). entry.0 < n + 1) ended.lines) (sym all.count)
            ended.all.nobody_else;
        text = text_taken outcome.is_torn (text_of_notes ended.first) bytes (faults_of ended.first)
            (faults_of ended.notes) text none ended.untaken.faults
            (subst (λ (t : Option (List ℕ)). IsWritten outcome.is_torn
            (record { taken = Some (text_of_notes ended.first); faults = faults_of ended.first }) t
            (faults_of ended.notes) text) (notes_log ended.notes)
            (subst (λ (t : Option (List ℕ)). IsWritten outcome.is_torn
            (record { taken = t; faults = faults_of ended.first }) (taken ended.notes)
            (faults_of ended.notes) text) (notes_log ended.first) ended.text));
        closed_is = ended.closed_is;
        total = ended.total ∙ ap (fold tallied nothing) (sym all.receipts);
        stop_is = ended.stop_is ∙ ap first_stop (sym all.stops);
      }
    where
      notes_of : Option (List ℕ) → ℕ → NotesTold
      notes_of t n = record { taken = t; faults = n }
