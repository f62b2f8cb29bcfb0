-- A caster that kept serving is promised.
use Rattle.std.proofs.Common.{◌≡◌, ◌∙◌, ◌++◌, ◌+◌, ◌<◌, ℕ, zero, suc, Bool, List, [], ◌∷◌, length, length-append, map, All, Option, refl, ap, subst, arith}
use Rattle.std.proofs.lemmas.List.Elements.{All-cons, All-nil, All-head, All-tail}
use Rattle.std.proofs.lemmas.List.{length-map}
use mathlib.Core.Option.{some}
use lib.ListN.{get_elem?}
use Rattle.cast_io.specs.declared.yard_asked.YardAsked.{YardAsked}
use Rattle.cast_io.specs.Told.{DoorTold}
use Rattle.cast_io.specs.Yards.{YardTold}
use Rattle.cast_console.specs.Consoles.{ConsoleTold}
use Rattle.turn_log.specs.History.{History, GoesOn, own}
use Rattle.turn_log.proofs.HistoryLaws.{own_none}
use Rattle.mount_ring.specs.declared.call.RingCall.{RingCall}
use Rattle.caster_accounts.specs.declared.call.BookCall.{BookCall}
use Rattle.session_calls.specs.Rings.{history_at}
use Rattle.cast_config.specs.declared.config.Config.{Config}
use Rattle.session_model.specs.declared.report.Closed.{Closed}
use Rattle.session_model.specs.Run.{Histories, nothing_called}
use Rattle.caster_press.specs.declared.line.Line.{Line}
use Rattle.caster_press.specs.Lines.{text_of}
use Rattle.caster_places.specs.Rows.{seen_in_book}
use Rattle.caster_serve.specs.Callers.{calls_in}
use Rattle.caster_link.specs.declared.role.Role.{Role}
use Rattle.caster_keep.specs.declared.whole.Outcome.{Outcome}
use Rattle.caster_keep.specs.Links.{Kept}
use Rattle.caster_keep.specs.Keeping.{AreKeepers, KeeperTold, PorterTold, HasEnded, seen_by, seen_by_all}
use Rattle.serve_promise.specs.Links.{AllFrames}
use Rattle.serve_promise.proofs.AccountLemmas.{AreBilled, AreInBook, account_totals}
use Rattle.serve_promise.proofs.CallerLemmas.{IsBelow}
use Rattle.serve_promise.proofs.CapLemmas.{are_capped}
use Rattle.keep_promise.specs.Links.{bill_of}
use Rattle.keep_promise.specs.Keepers.{AreKeepersKept, AreKeptOn, IsPromised, bills_by}
use Rattle.keep_promise.proofs.LinkLemmas.{follow_kept}
use Rattle.keep_promise.proofs.SeenLemmas.{AllFit, AreSeen, rows_fit, seen_first, seen_next, at_mount, all_frames}
use Rattle.keep_promise.proofs.BackLemmas.{all_back}
use Rattle.keep_promise.proofs.PointLemmas.{sound_throughout}
use Rattle.keep_promise.proofs.ShownLemmas.{all_shown}

-- the book goes on from what each of these has seen of it, with no call of theirs
abbrev AreBooked : ℕ → List Histories → History BookCall → Type 0
AreBooked n rows whole =
    (k me : ℕ) (seen : History BookCall) → me ≡ n + k → get_elem? (seen_in_book rows) k ≡ some seen
    → GoesOn me seen whole

-- the own lines of each of these, who are numbered from this number on
abbrev Own : {G : Type 0} → History Line → ℕ → List (KeeperTold G) → Type 0
Own {G} lines n keepers = (k me : ℕ) (keeper : KeeperTold G) → me ≡ n + k → get_elem? keepers k ≡ some keeper
    → own me lines ≡ keeper.lines

further : (a b k : ℕ) → k ≡ a + suc b → k ≡ (a + 1) + b
further a b k is = omega (arith, is)

-- who called nothing is not among the callers
abbrev IsBookedBelow : ℕ → ℕ × BookCall → Type 0
IsBookedBelow count entry = entry.0 < count

all_below : (n : ℕ) (h : History BookCall) → All (IsBookedBelow (n + 1)) h → own n h ≡ [] → All (IsBookedBelow n) h
all_below n [] below none = All-nil (IsBookedBelow n)
all_below n (entry ∷ h) below none =
    let both = own_none n entry h none in
    let high : entry.0 < n + 1 = All-head (IsBookedBelow (n + 1)) entry h below in
    All-cons (IsBookedBelow n) entry h (omega (arith, both.0))
    (all_below n h (All-tail (IsBookedBelow (n + 1)) entry h below) both.1)

-- of a history of which a caller saw nothing, and called nothing since, it called nothing
unbooked : (me : ℕ) (seen whole : History BookCall) → seen ≡ [] → GoesOn me seen whole → own me whole ≡ []
unbooked me seen whole none goes =
    ap (own me) (goes.1 ∙ ap (λ (h : History BookCall). h ++ goes.0) none) ∙ goes.2

-- ---- their calls in the book

links_billed : (c : Config) (role : Role) (me : ℕ) (histories : Histories) (links : List Kept) (start now : Histories)
    → AreKeptOn c role me histories links start now → AreBilled c me (map bill_of links) start.book now.book
links_billed c role me histories [] start now same = ap (λ (h : Histories). h.book) same
links_billed c role me histories (kept ∷ links) start now is = (
  is.0.book,
  is.1.billed.calls,
  is.1.billed.booked,
  is.1.billed.are_calls,
  links_billed c role me histories links is.0 now is.2,
)

abbrev book_seen : {G : Type 0} → KeeperTold G → History BookCall
book_seen keeper = keeper.seen.book

module _ {G : Type 0} (told : G → DoorTold) where
  all_in_book : (c : Config) (histories : Histories) (lines : History Line) (n : ℕ) (keepers : List (KeeperTold G))
      → AreKeepersKept told c histories lines n keepers
      → AreInBook book_seen bills_by c histories.book n keepers
  all_in_book c histories lines n [] kept = tt
  all_in_book c histories lines n (keeper ∷ keepers) kept = (
    links_billed c keeper.role n histories keeper.links (nothing_called c) keeper.seen kept.0.in_turn,
    kept.0.nothing_booked,
    all_in_book c histories lines (n + 1) keepers kept.1,
  )

-- ---- the whole

module _ {G : Type 0} (told : G → DoorTold) (over : G → Bool) (peer : G → List ℕ) where
  keepers_kept : (c : Config) (histories : Histories) (lines : History Line) (n : ℕ)
      (keepers : List (KeeperTold G)) (porter : PorterTold)
      → AreKeepers told over peer c (calls_in histories) n keepers
      → ((mount : ℕ) → AreSeen n (seen_by_all keepers porter) mount (history_at histories.rings mount))
      → AreBooked n (seen_by_all keepers porter) histories.book → Own lines n keepers
      → AllFrames histories.rings → AreKeepersKept told c histories lines n keepers
  keepers_kept c histories lines n [] porter are seen booked owns frames = tt
  keepers_kept c histories lines n (keeper ∷ keepers) porter are seen booked owns frames =
      let kept = are.0.kept in
      let rows : List Histories = seen_by_all keepers porter in
      let goes : (mount : ℕ) → GoesOn n (history_at keeper.seen.rings mount) (history_at histories.rings mount) =
      λ mount. seen_first n keeper.seen rows mount (history_at histories.rings mount) (seen mount) in
      let in_turn : AreKeptOn c keeper.role n histories keeper.links (nothing_called c) keeper.seen =
      follow_kept c keeper.role n keeper.links (nothing_called c) keeper.seen histories kept.followed
      (λ mount. ((goes mount).0, (goes mount).1)) frames in (
        record {
          back = all_back told over peer kept.turns keeper.links keeper.stop keeper.first kept.at keeper.gate
              are.0.unused kept.went kept.links_are kept.why;
          in_turn = in_turn;
          nothing_else = goes;
          nothing_booked = booked zero n keeper.seen.book (omega arith) refl;
          sound_throughout = λ mount. sound_throughout c mount n keeper.role histories keeper.seen keeper.links
              (history_at histories.rings mount) in_turn (goes mount);
          lines_are = ap (map text_of) (owns zero n keeper (omega arith) refl) ∙ kept.lines;
          tally = kept.tally;
        },
        keepers_kept c histories lines (n + 1) keepers porter are.1
            (λ mount. seen_next n keeper.seen rows mount (history_at histories.rings mount) (seen mount))
            (λ k me row is at. booked (suc k) me row (omega (arith, is)) at)
            (λ k me one is at. owns (suc k) me one (omega (arith, is)) at) frames,
      )

  -- the porter is the last of them
  last_seen : (n me : ℕ) (keepers : List (KeeperTold G)) (porter : PorterTold) (mount : ℕ) (whole : History RingCall)
      → me ≡ n + length keepers → AreSeen n (seen_by_all keepers porter) mount whole
      → GoesOn me (history_at porter.seen.rings mount) whole
  last_seen n me [] porter mount whole is seen = seen zero me (history_at porter.seen.rings mount) is refl
  last_seen n me (keeper ∷ keepers) porter mount whole is seen =
      last_seen (n + 1) me keepers porter mount whole (further n (length keepers) me is)
      (seen_next n keeper.seen (seen_by_all keepers porter) mount whole seen)

  last_booked : (n me : ℕ) (keepers : List (KeeperTold G)) (porter : PorterTold) (whole : History BookCall)
      → me ≡ n + length keepers → AreBooked n (seen_by_all keepers porter) whole
      → GoesOn me porter.seen.book whole
  last_booked n me [] porter whole is booked = booked zero me porter.seen.book is refl
  last_booked n me (keeper ∷ keepers) porter whole is booked =
      last_booked (n + 1) me keepers porter whole (further n (length keepers) me is)
      (λ k m row same at. booked (suc k) m row (omega (arith, same)) at)

  rows_length : (keepers : List (KeeperTold G)) (porter : PorterTold)
      → length (seen_by_all keepers porter) ≡ length keepers + 1
  rows_length keepers porter =
      length-append (map seen_by keepers) (porter.seen ∷ [])
      ∙ ap (λ (n : ℕ). n + 1) (length-map keepers seen_by)

module _ {G O : Type 0} (told : G → DoorTold) (over : G → Bool) (peer : G → List ℕ) (origin : G → YardAsked)
    (taken : O → Option (List ℕ)) (faults_of : O → ℕ) (back_before back_now : List ConsoleTold) where
  pub all_promised : (c : Config) (made : List YardAsked) (old new : YardTold) (outcome : Outcome)
      (ended : HasEnded told over peer origin taken faults_of back_before back_now c made old new outcome)
      → IsPromised told over peer origin taken faults_of back_before back_now c made old new outcome ended
  all_promised c made old new outcome ended =
      let all = ended.all in
      let keepers = ended.keepers in
      let histories = ended.histories in
      let rows : List Histories = seen_by_all keepers ended.porter in
      let fit : AllFit c 0 rows =
      rows_fit told over peer c (calls_in histories) 0 (length keepers) keepers ended.porter
      (omega arith) all.keepers_are all.porter_is in
      let at = at_mount c rows histories fit all.whole in
      let booked : AreBooked 0 rows histories.book =
      λ k me seen is here. subst (λ (m : ℕ). GoesOn m seen histories.book)
      (let e : k ≡ me = omega (arith, is) in e) (all.whole.book.each k seen here) in
      let frames : AllFrames histories.rings = all_frames c rows histories fit all.whole in
      let kept = keepers_kept told over peer c histories ended.lines 0 keepers ended.porter
      all.keepers_are (λ mount. (at mount).1) booked
      (λ k me keeper is here. ap (λ (m : ℕ). own m ended.lines) (let e : me ≡ k = omega (arith, is) in e)
      ∙ all.owns k keeper here) frames in
      let below : All (IsBookedBelow (length keepers)) histories.book =
      all_below (length keepers) histories.book
      (subst (λ (n : ℕ). All (IsBookedBelow n) histories.book)
      (length-map rows (λ (row : Histories). row.book) ∙ rows_length told over peer keepers ended.porter)
      all.whole.book.numbers)
      (unbooked (length keepers) ended.porter.seen.book histories.book all.porter_is.answered.book
      (last_booked told over peer 0 (length keepers) keepers ended.porter histories.book (omega arith) booked)) in
      let porter_else : (mount : ℕ)
      → GoesOn (length keepers) (history_at ended.porter.seen.rings mount) (history_at histories.rings mount) =
      λ mount. last_seen told over peer 0 (length keepers) keepers ended.porter mount
      (history_at histories.rings mount) (omega arith) (at mount).1 in
      record {
        one_each = all.whole.size;
        frames = frames;
        kept = kept;
        nothing_else = λ mount. subst (λ (n : ℕ). All (IsBelow n) (history_at histories.rings mount))
            (rows_length told over peer keepers ended.porter) (at mount).0;
        porter_else = porter_else;
        shown = all_shown c (length keepers) histories ended.porter.seen ended.porter.given
            all.porter_is.answered.went porter_else;
        accounts = ap (λ (x : Closed). x.accounts) ended.closed_is
            ∙ account_totals book_seen bills_by c 1 c.account histories keepers
            (all_in_book told c histories ended.lines 0 keepers kept) below;
        capped = are_capped book_seen bills_by c histories.book keepers
            (all_in_book told c histories ended.lines 0 keepers kept) below;
        book_callers = below;
      }
