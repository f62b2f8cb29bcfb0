-- Each caller of a caster served links that are promised, and whole frames alone were published; its
-- accounts come to what the receipts of its links say.
use Rattle.std.proofs.Common.{◌≡◌, ◌≤◌, ◌<◌, ◌∙◌, ◌++◌, ◌+◌, ℕ, zero, suc, Bool, true, false, cond, IsTrue, List, [], ◌∷◌, length, fold, map, All, Ok, inl, inr, refl, sym, ap, subst, eqb, eq-eqb, append_assoc, arith}
use Rattle.std.specs.Prelude.{⊤}
use Rattle.std.proofs.lemmas.Bool.{cases_lt}
use Rattle.std.proofs.lemmas.List.{append-nil, get_or_past, length-map}
use Rattle.std.proofs.lemmas.List.Elements.{All-append, All-cons, All-nil, All-head, All-tail}
use mathlib.Core.Option.{some}
use lib.ListN.{get_elem?}
use Rattle.rtcm_frame.specs.Transport.{is_frame}
use Rattle.cast_io.specs.Told.{LinkTold, StreetTold}
use Rattle.turn_log.specs.History.{History, own, GoesOn}
use Rattle.turn_log.specs.Heard.{calls_in}
use Rattle.turn_log.proofs.HeardLaws.{calls_told}
use Rattle.turn_log.proofs.HistoryLaws.{own-append}
use Rattle.mount_ring.specs.declared.call.RingCall.{RingCall}
use Rattle.mount_ring.specs.declared.call.RingCall.TheVariants.{Claim, Release, Publish, Join, Look, Read}
use Rattle.mount_ring.specs.Places.{frames_of, published_by}
use Rattle.mount_ring.proofs.HistoryLemmas.{published-append}
use Rattle.caster_accounts.specs.declared.call.BookCall.{BookCall}
use Rattle.session_calls.specs.Steps.{Ask, to_ring, to_book, Step, at_ring, at_book, ask_of, answer_of, on_ring}
use Rattle.session_calls.specs.Plans.{Plan, done, asks, IsBegun}
use Rattle.session_calls.specs.Rings.{history_at, answer_at}
use Rattle.session_calls.proofs.PlanLemmas.{made_begun}
use Rattle.rover_session.specs.Made.{segments_after, owed_among}
use Rattle.cast_config.specs.declared.config.Config.{Config}
use Rattle.cast_config.specs.declared.config.Mount.{Mount}
use Rattle.session_model.specs.declared.report.Closed.{Closed}
use Rattle.session_model.specs.Setting.{shapes}
use Rattle.session_model.specs.Called.{Called}
use Rattle.session_model.specs.Judged.{Opening, sends_head, relays}
use Rattle.session_model.specs.Owed.{came_to, plan_of, closing}
use Rattle.session_model.specs.Run.{Histories, nothing_called}
use Rattle.session_core.specs.Standing.{IsMadeBy, is_halted}
use Rattle.session_core.specs.Closed.{IsSettled}
use Rattle.session_model.proofs.GoodLemmas.{IsGoodAsk, IsGood, good_plan, good_closing}
use Rattle.caster_serve.specs.Endpoints.{EndpointTold, at_door, over_link, IsUnused}
use Rattle.caster_places.specs.Rows.{AreWhole}
use Rattle.caster_places.specs.Rows as rows
use Rattle.session_model.specs.Courses.{steps_of}
use Rattle.caster_link.specs.Wear.{Wear, only_worn}
use Rattle.caster_serve.specs.Works.{Record, RecordGoes, Followed, links_of, receipts_of, tallied}
use Rattle.caster_serve.specs.Callers.{Caller, ServedOver, IsServed, AreServed, uncalled, calls_in as call_counts, seen_of}
use Rattle.caster_serve.specs.Caster.{AllServed, HasServed}
use Rattle.run_promise.proofs.RunLemmas.{nothing_at}
use Rattle.serve_promise.specs.Links.{AllFrames, GoOnTo}
use Rattle.serve_promise.specs.Callers.{IsKept, Served, bill_of, records_of, AreKeptInTurn, opening_at, AreLinksAt, CallerLinks, caller_in, bills_by, AreCallersKept, AllKept, AllPromised}
use Rattle.serve_promise.proofs.AccountLemmas.{AreBilled, AreInBook, account_totals}
use Rattle.serve_promise.proofs.BilledLemmas.{billed}
use Rattle.serve_promise.proofs.CapLemmas.{are_capped}
use Rattle.serve_promise.proofs.LetInLemmas.{held_of, holds_as}
use Rattle.serve_promise.proofs.LinkLemmas.{link_kept}

-- ---- a caller publishes whole frames alone

abbrev pub IsOne : List ℕ → Type 0
IsOne frame = IsTrue (is_frame frame)

abbrev pub IsFit : RingCall → Type 0
IsFit call = All IsOne (frames_of call)

abbrev pub IsFitAsk : Ask → Type 0
IsFitAsk (to_ring mount call) = IsFit call
IsFitAsk (to_book call) = ⊤

abbrev pub AreFit : List Step → Type 0
AreFit [] = ⊤
AreFit (step ∷ steps) = IsFitAsk (ask_of step) × AreFit steps

abbrev AreGood : List Step → Type 0
AreGood [] = ⊤
AreGood (step ∷ steps) = IsGoodAsk (ask_of step) × AreGood steps

begun_good : (plan : Plan) (steps : List Step) → IsGood plan → IsBegun plan steps → AreGood steps
begun_good plan [] good begun = tt
begun_good done (step ∷ steps) good begun = absurd begun
begun_good (asks ask next) (step ∷ steps) good begun = (
  subst IsGoodAsk (sym begun.0) good.0,
  begun_good (next (answer_of step)) steps (good.1 (answer_of step)) begun.1,
)

-- reads publish nothing
owed_fit : (steps : List Step) → AreGood (owed_among steps) → AreFit steps
owed_fit [] good = tt
owed_fit (at_ring mount Claim answer ∷ steps) good = (All-nil IsOne, owed_fit steps good.1)
owed_fit (at_ring mount (Release claim) answer ∷ steps) good = (All-nil IsOne, owed_fit steps good.1)
owed_fit (at_ring mount (Publish claim frame) answer ∷ steps) good =
    (All-cons IsOne frame [] good.0 (All-nil IsOne), owed_fit steps good.1)
owed_fit (at_ring mount (Join filter) answer ∷ steps) good = (All-nil IsOne, owed_fit steps good.1)
owed_fit (at_ring mount Look answer ∷ steps) good = (All-nil IsOne, owed_fit steps good.1)
owed_fit (at_ring mount (Read cursor budget) answer ∷ steps) good = (All-nil IsOne, owed_fit steps good)
owed_fit (at_book call answer ∷ steps) good = (tt, owed_fit steps good.1)

good_owed : (step : Step) (steps : List Step) → IsGoodAsk (ask_of step) → AreGood (owed_among steps)
    → AreGood (owed_among (step ∷ steps))
good_owed (at_ring mount Claim answer) steps one all = (one, all)
good_owed (at_ring mount (Release claim) answer) steps one all = (one, all)
good_owed (at_ring mount (Publish claim frame) answer) steps one all = (one, all)
good_owed (at_ring mount (Join filter) answer) steps one all = (one, all)
good_owed (at_ring mount Look answer) steps one all = (one, all)
good_owed (at_ring mount (Read cursor budget) answer) steps one all = all
good_owed (at_book call answer) steps one all = (one, all)

good_among : (steps : List Step) → AreGood steps → AreGood (owed_among steps)
good_among [] good = tt
good_among (step ∷ steps) good = good_owed step steps good.0 (good_among steps good.1)

pub fit_calls : (mount : ℕ) (steps : List Step) → AreFit steps → All IsFit (calls_in (on_ring mount steps))
fit_calls mount [] fit = All-nil IsFit
fit_calls mount (at_ring asked call answer ∷ steps) fit =
    let rest = fit_calls mount steps fit.1 in
    elim (eqb asked mount) as (λ b. All IsFit (calls_in (cond b ((call, answer) ∷ []) [] ++ on_ring mount steps))) [
      | true ↦ All-cons IsFit call (calls_in (on_ring mount steps)) fit.0 rest
      | false ↦ rest
    ]
fit_calls mount (at_book call answer ∷ steps) fit = fit_calls mount steps fit.1

-- the histories went on, and this caller published whole frames alone since
pub record FitsOn (me : ℕ) (old now : List (History RingCall)) : Type 0 where
  pub size : length now ≡ length old
  pub rings : (mount : ℕ) → (more : History RingCall)
      × (history_at now mount ≡ history_at old mount ++ more) × All IsFit (own me more)

pub fits_none : (me : ℕ) (h : List (History RingCall)) → FitsOn me h h
fits_none me h = record {
  size = refl;
  rings = λ mount. ([], sym (append-nil (history_at h mount)), All-nil IsFit);
}

pub fits_both : (me : ℕ) (a b d : List (History RingCall)) → FitsOn me a b → FitsOn me b d → FitsOn me a d
fits_both me a b d x y = record {
  size = y.size ∙ x.size;
  rings = λ mount.
      let one = x.rings mount in let two = y.rings mount in (
        one.0 ++ two.0,
        two.1 ∙ ap (λ (h : History RingCall). h ++ two.0) one.1 ∙ append_assoc (history_at a mount) one.0 two.0,
        subst (All IsFit) (sym (own-append me one.0 two.0))
            (All-append IsFit (own me one.0) (own me two.0) one.2 two.2),
      );
}

pub fits_goes : (me : ℕ) (a b : List (History RingCall)) → FitsOn me a b → GoOnTo a b
fits_goes me a b x mount = ((x.rings mount).0, (x.rings mount).1)

pub goes_both : (a b d : List (History RingCall)) → GoOnTo a b → GoOnTo b d → GoOnTo a d
goes_both a b d x y mount =
    let one = x mount in let two = y mount in (
      one.0 ++ two.0,
      two.1 ∙ ap (λ (h : History RingCall). h ++ two.0) one.1 ∙ append_assoc (history_at a mount) one.0 two.0,
    )

called_fits : (c : Config) (old now : Histories) (me : ℕ) (steps : List Step) → Called c false old now me steps
    → AreFit steps → FitsOn me old.rings now.rings
called_fits c old now me steps called fit = record {
  size = called.rings.size;
  rings = λ mount.
      let heard = called.rings.rings mount in (
        heard.more,
        heard.seen,
        subst (All IsFit)
            (sym (sym (calls_told (answer_at (shapes c) mount) me (history_at old.rings mount) heard.more)
            ∙ ap calls_in heard.mine)) (fit_calls mount steps fit),
      );
}

-- ---- one link

made_fit : (halted : Bool) (plan : Plan) (steps : List Step) → IsGood plan → IsMadeBy halted plan (owed_among steps)
    → AreFit steps
made_fit false plan steps good is =
    owed_fit steps (begun_good plan (owed_among steps) good (made_begun plan (owed_among steps) is))
made_fit true plan steps good is = owed_fit steps (begun_good plan (owed_among steps) good is)

settled_fit : (settled : Bool) (plan : Plan) (steps : List Step) → IsGood plan → IsSettled settled plan steps
    → AreFit steps
settled_fit true plan steps good is =
    owed_fit steps (good_among steps (begun_good plan steps good (made_begun plan steps is)))
settled_fit false plan steps good is = subst AreFit (sym is) tt

pub record_fits : (c : Config) (opening : Opening) (me : ℕ) (wear : Wear) (entry : Record) (start now : Histories)
    → RecordGoes c opening me wear entry start now → FitsOn me start.rings now.rings
record_fits c opening me wear entry start now is =
    let goes = is.goes in
    let steps : List Step = steps_of goes.events in
    fits_both me start.rings goes.between.rings now.rings
    (called_fits c start goes.between me steps goes.called
    (made_fit (is_halted goes.ended) (plan_of c goes.j) steps (good_plan c goes.j) goes.owes))
    (called_fits c goes.between now me goes.closed_by goes.closed
    (settled_fit entry.receipt.settled (closing goes.j steps) goes.closed_by
    (good_closing (came_to goes.j steps) (segments_after [] steps)) goes.settled))

-- a link that went so, with what it held before it was closed
abbrev served_by : (c : Config) (opening : Opening) (me : ℕ) (wear : Wear) (entry : Record) (start now : Histories)
    → RecordGoes c opening me wear entry start now → Served
served_by c opening me wear entry start now is =
    record { entry = entry; held = held_of (came_to is.goes.j (steps_of is.goes.events)) }

served_kept : (c : Config) (opening : Opening) (me : ℕ) (entry : Record) (start now histories : Histories)
    (is : RecordGoes c opening me (only_worn (call_counts histories)) entry start now)
    → GoOnTo now.rings histories.rings → AllFrames histories.rings
    → IsKept c opening me start now histories
    (served_by c opening me (only_worn (call_counts histories)) entry start now is)
served_kept c opening me entry start now histories is on_to frames =
    let goes = is.goes in
    record {
      entry = record {
        taken = is.taken;
        written = is.written;
        taken_is = is.taken_is;
        bytes_is = is.bytes_is;
        last = is.last;
        caused = is.caused;
        refused = is.refused;
        kept = link_kept c opening me start now is.taken is.written is.last entry.receipt histories.rings goes on_to
            frames;
      };
      billed = billed c opening me start now is.taken is.written is.last entry.receipt goes
          (held_of (came_to goes.j (steps_of goes.events)))
          (holds_as c opening (came_to goes.j (steps_of goes.events)));
    }

-- ---- the links of a caller

followed_fits : (c : Config) (me : ℕ) (wear : Wear) (entries : List Record) (start now : Histories)
    → Followed c me wear entries start now → FitsOn me start.rings now.rings
followed_fits c me wear [] start now same =
    subst (λ (h : Histories). FitsOn me start.rings h.rings) (sym same) (fits_none me start.rings)
followed_fits c me wear (entry ∷ entries) start now is =
    fits_both me start.rings is.0.rings now.rings (record_fits c sends_head me wear entry start is.0 is.1)
    (followed_fits c me wear entries is.0 now is.2)

abbrev all_served : (c : Config) (me : ℕ) (wear : Wear) (entries : List Record) (start now : Histories)
    → Followed c me wear entries start now → List Served
all_served c me wear [] start now is = []
all_served c me wear (entry ∷ entries) start now is =
    served_by c sends_head me wear entry start is.0 is.1 ∷ all_served c me wear entries is.0 now is.2

same_records : (c : Config) (me : ℕ) (wear : Wear) (entries : List Record) (start now : Histories)
    (is : Followed c me wear entries start now) → records_of (all_served c me wear entries start now is) ≡ entries
same_records c me wear [] start now is = refl
same_records c me wear (entry ∷ entries) start now is =
    ap (λ (l : List Record). entry ∷ l) (same_records c me wear entries is.0 now is.2)

followed_kept : (c : Config) (me : ℕ) (entries : List Record) (start now histories : Histories)
    (is : Followed c me (only_worn (call_counts histories)) entries start now) → GoOnTo now.rings histories.rings
    → AllFrames histories.rings
    → AreKeptInTurn c sends_head me histories
    (all_served c me (only_worn (call_counts histories)) entries start now is) start now
followed_kept c me [] start now histories same on_to frames = same
followed_kept c me (entry ∷ entries) start now histories is on_to frames =
    let wear : Wear = only_worn (call_counts histories) in (
      is.0,
      served_kept c sends_head me entry start is.0 histories is.1
          (goes_both is.0.rings now.rings histories.rings
          (fits_goes me is.0.rings now.rings (followed_fits c me wear entries is.0 now is.2)) on_to) frames,
      followed_kept c me entries is.0 now histories is.2 on_to frames,
    )

over_fits : (c : Config) (limit me : ℕ) (wear : Wear) (before after : EndpointTold) (old new : Caller)
    → ServedOver c limit me wear before after old new → FitsOn me old.seen.rings new.seen.rings
over_fits c limit me wear (at_door before) (at_door after) old new is =
    followed_fits c me wear is.works.entries old.seen new.seen is.works.followed
over_fits c limit me wear (at_door before) (over_link number after) old new is = absurd is
over_fits c limit me wear (over_link number before) (at_door after) old new is = absurd is
over_fits c limit me wear (over_link number before) (over_link now after) old new is =
    record_fits c (relays number) me wear (record { link = after; receipt = is.1.receipt }) old.seen new.seen is.1.goes

-- what was served over this end
record ServedLinks (c : Config) (histories : Histories) (me : ℕ) (after : EndpointTold) (old new : Caller) : Type 0 where
  links : List Served
  links_are : AreLinksAt after new.served (records_of links)
  in_turn : AreKeptInTurn c (opening_at after) me histories links old.seen new.seen
  tally : new.tally ≡ fold tallied old.tally (receipts_of (records_of links))

over_kept : (c : Config) (limit me : ℕ) (before after : EndpointTold) (old new : Caller) (histories : Histories)
    → ServedOver c limit me (only_worn (call_counts histories)) before after old new → IsUnused before
    → GoOnTo new.seen.rings histories.rings → AllFrames histories.rings → ServedLinks c histories me after old new
over_kept c limit me (at_door before) (at_door after) old new histories is unused on_to frames =
    let works = is.works in
    let wear : Wear = only_worn (call_counts histories) in
    let same : records_of (all_served c me wear works.entries old.seen new.seen works.followed) ≡ works.entries =
    same_records c me wear works.entries old.seen new.seen works.followed in
    record {
      links = all_served c me wear works.entries old.seen new.seen works.followed;
      links_are = subst (AreLinksAt (at_door after) new.served) (sym same) (
        λ list told.
            let grew = works.back list told in
            grew.2 ∙ ap (λ (l : List LinkTold). l ++ links_of works.entries) (unused.back grew.0 grew.1),
        works.counted,
      );
      in_turn = followed_kept c me works.entries old.seen new.seen histories works.followed on_to frames;
      tally = works.tally ∙ ap (λ (l : List Record). fold tallied old.tally (receipts_of l)) (sym same);
    }
over_kept c limit me (at_door before) (over_link number after) old new histories is unused on_to frames = absurd is
over_kept c limit me (over_link number before) (at_door after) old new histories is unused on_to frames = absurd is
over_kept c limit me (over_link number before) (over_link now after) old new histories is unused on_to frames =
    let wear : Wear = only_worn (call_counts histories) in
    let entry : Record = record { link = after; receipt = is.1.receipt } in
    let served : Served = served_by c (relays number) me wear entry old.seen new.seen is.1.goes in
    record {
      links = served ∷ [];
      links_are = refl;
      in_turn = subst (λ (n : ℕ). AreKeptInTurn c (relays n) me histories (served ∷ []) old.seen new.seen) (sym is.0) (
        new.seen,
        served_kept c (relays number) me entry old.seen new.seen histories is.1.goes on_to frames,
        refl,
      );
      tally = is.1.tally;
    }

-- ---- all callers

-- what they have seen of one mountpoint goes on to its one history, with no call of theirs
abbrev AreSeen : ℕ → List Caller → ℕ → History RingCall → Type 0
AreSeen n callers mount whole =
    (k me : ℕ) (seen : History RingCall) → me ≡ n + k
    → get_elem? (rows.seen_of (seen_of callers) mount) k ≡ some seen → GoesOn me seen whole

seen_next : (n : ℕ) (caller : Caller) (callers : List Caller) (mount : ℕ) (whole : History RingCall)
    → AreSeen n (caller ∷ callers) mount whole → AreSeen (n + 1) callers mount whole
seen_next n caller callers mount whole all k me seen is here = all (suc k) me seen (omega (arith, is)) here

seen_first : (n : ℕ) (caller : Caller) (callers : List Caller) (mount : ℕ) (whole : History RingCall)
    → AreSeen n (caller ∷ callers) mount whole → GoesOn n (history_at caller.seen.rings mount) whole
seen_first n caller callers mount whole all = all zero n (history_at caller.seen.rings mount) (omega arith) refl

-- what a caller has seen has its own calls alone from the first on
caller_fits : (c : Config) (limit : ℕ) (worn : List ℕ) (me : ℕ) (caller : Caller) → IsServed c limit worn me caller
    → FitsOn me (nothing_called c).rings caller.seen.rings
caller_fits c limit worn me caller is =
    over_fits c limit me (only_worn worn) is.end caller.end (uncalled c is.end) caller is.served

pub own_fit : (c : Config) (me mount : ℕ) (seen : List (History RingCall)) (whole : History RingCall)
    → FitsOn me (nothing_called c).rings seen → GoesOn me (history_at seen mount) whole → All IsFit (own me whole)
own_fit c me mount seen whole fits goes =
    let at = fits.rings mount in
    let is : history_at seen mount ≡ at.0 =
    at.1 ∙ ap (λ (h : History RingCall). h ++ at.0) (nothing_at c mount) in
    let mine : own me whole ≡ own me at.0 =
    ap (own me) goes.1 ∙ own-append me (history_at seen mount) goes.0
    ∙ ap (λ (l : List RingCall). own me (history_at seen mount) ++ l) goes.2
    ∙ append-nil (own me (history_at seen mount)) ∙ ap (own me) is in
    subst (All IsFit) (sym mine) at.2

each_fit : (c : Config) (limit : ℕ) (worn : List ℕ) (n : ℕ) (callers : List Caller) (mount : ℕ)
    (whole : History RingCall) → AreServed c limit worn n callers → AreSeen n callers mount whole → (k me : ℕ)
    → me ≡ n + k → k < length callers → All IsFit (own me whole)
each_fit c limit worn n [] mount whole served seen k me is below = let no : ⊥ = omega (arith, below) in absurd no
each_fit c limit worn n (caller ∷ callers) mount whole served seen zero me is below =
    let here : n ≡ me = omega (arith, is) in
    subst (λ (m : ℕ). All IsFit (own m whole)) here
    (own_fit c n mount caller.seen.rings whole (caller_fits c limit worn n caller served.0)
    (seen_first n caller callers mount whole seen))
each_fit c limit worn n (caller ∷ callers) mount whole served seen (suc k) me is below =
    each_fit c limit worn (n + 1) callers mount whole served.1 (seen_next n caller callers mount whole seen) k me
    (omega (arith, is)) (omega (arith, below))

tail_fit : (b : Bool) (call : RingCall) (calls : List RingCall) → All IsFit (cond b (call ∷ calls) calls)
    → All IsFit calls
tail_fit true call calls all = All-tail IsFit call calls all
tail_fit false call calls all = all

abbrev pub IsBelow : ℕ → ℕ × RingCall → Type 0
IsBelow count entry = entry.0 < count

-- where each caller's own calls are fit, all frames are whole
pub all_fit : (count : ℕ) (h : History RingCall) → All (IsBelow count) h
    → ((me : ℕ) → me < count → All IsFit (own me h)) → All IsOne (published_by h)
all_fit count [] below each = All-nil IsOne
all_fit count (entry ∷ h) below each =
    let first = subst (λ (b : Bool). All IsFit (cond b (entry.1 ∷ own entry.0 h) (own entry.0 h)))
    (eq-eqb entry.0 entry.0 refl) (each entry.0 (All-head (IsBelow count) entry h below)) in
    All-append IsOne (frames_of entry.1) (published_by h) (All-head IsFit entry.1 (own entry.0 h) first)
    (all_fit count h (All-tail (IsBelow count) entry h below)
    (λ me there. tail_fit (eqb entry.0 me) entry.1 (own me h) (each me there)))

-- what they have seen of the book goes on to its one history, with no call of theirs
abbrev AreBooked : ℕ → List Caller → History BookCall → Type 0
AreBooked n callers whole =
    (k me : ℕ) (seen : History BookCall) → me ≡ n + k
    → get_elem? (rows.seen_in_book (seen_of callers)) k ≡ some seen → GoesOn me seen whole

-- these callers with the links that they served
abbrev WithLinks : Config → Histories → ℕ → List Caller → Type 0
WithLinks c histories n callers =
    (all : List CallerLinks) × (map caller_in all ≡ callers) × AreCallersKept c histories n all

callers_kept : (c : Config) (limit n : ℕ) (callers : List Caller) (histories : Histories)
    → AreServed c limit (call_counts histories) n callers
    → ((mount : ℕ) → AreSeen n callers mount (history_at histories.rings mount))
    → AreBooked n callers histories.book → AllFrames histories.rings → WithLinks c histories n callers
callers_kept c limit n [] histories served seen booked frames = ([], refl, tt)
callers_kept c limit n (caller ∷ callers) histories served seen booked frames =
    let is = served.0 in
    let goes : (mount : ℕ) → GoesOn n (history_at caller.seen.rings mount) (history_at histories.rings mount) =
    λ mount. seen_first n caller callers mount (history_at histories.rings mount) (seen mount) in
    let one : ServedLinks c histories n caller.end (uncalled c is.end) caller =
    over_kept c limit n is.end caller.end (uncalled c is.end) caller histories is.served is.unused
    (λ mount. ((goes mount).0, (goes mount).1)) frames in
    let rest = callers_kept c limit (n + 1) callers histories served.1
    (λ mount. seen_next n caller callers mount (history_at histories.rings mount) (seen mount))
    (λ k me row same at. booked (suc k) me row (omega (arith, same)) at) frames in (
      record { caller = caller; links = one.links } ∷ rest.0,
      ap (λ (l : List Caller). caller ∷ l) rest.1,
      (
        record {
          links_are = one.links_are;
          in_turn = one.in_turn;
          nothing_else = goes;
          nothing_booked = booked zero n caller.seen.book (omega arith) refl;
          tally = one.tally;
        },
        rest.2,
      ),
    )

-- ---- their calls in the book

abbrev book_seen : CallerLinks → History BookCall
book_seen one = one.caller.seen.book

links_billed : (c : Config) (opening : Opening) (me : ℕ) (histories : Histories) (links : List Served)
    (start now : Histories) → AreKeptInTurn c opening me histories links start now
    → AreBilled c me (map bill_of links) start.book now.book
links_billed c opening me histories [] start now same = ap (λ (h : Histories). h.book) same
links_billed c opening me histories (served ∷ links) start now is = (
  is.0.book,
  is.1.billed.calls,
  is.1.billed.booked,
  is.1.billed.are_calls,
  links_billed c opening me histories links is.0 now is.2,
)

all_in_book : (c : Config) (histories : Histories) (n : ℕ) (all : List CallerLinks)
    → AreCallersKept c histories n all → AreInBook book_seen bills_by c histories.book n all
all_in_book c histories n [] kept = tt
all_in_book c histories n (one ∷ more) kept = (
  links_billed c (opening_at one.caller.end) n histories one.links (nothing_called c) one.caller.seen kept.0.in_turn,
  kept.0.nothing_booked,
  all_in_book c histories (n + 1) more kept.1,
)

abbrev IsBookedBelow : ℕ → ℕ × BookCall → Type 0
IsBookedBelow count entry = entry.0 < count

all_below : (all : List CallerLinks) (callers : List Caller) (book : History BookCall) → map caller_in all ≡ callers
    → All (IsBookedBelow (length callers)) book → All (IsBookedBelow (length all)) book
all_below all callers book same below =
    subst (λ (n : ℕ). All (IsBookedBelow n) book)
    (ap (λ (l : List Caller). length l) (sym same) ∙ length-map all caller_in) below

-- ---- where there is no such mountpoint

-- of what each caller has seen there are as many histories as mountpoints
past_seen : (c : Config) (limit : ℕ) (worn : List ℕ) (n : ℕ) (callers : List Caller) (mount : ℕ)
    → AreServed c limit worn n callers → length c.mount ≤ mount → AreSeen n callers mount []
past_seen c limit worn n [] mount served past k me seen is here = absurd cc
past_seen c limit worn n (caller ∷ callers) mount served past zero me seen is here =
    let empty : Mount → History RingCall = λ m. [] in
    let size : length caller.seen.rings ≡ length c.mount =
    (caller_fits c limit worn n caller served.0).size ∙ length-map c.mount empty in
    let none : history_at caller.seen.rings mount ≡ [] =
    get_or_past caller.seen.rings mount [] (omega (arith, size, past)) in
    let same : history_at caller.seen.rings mount ≡ seen = cc in
    ([], sym (append-nil seen ∙ sym same ∙ none), refl)
past_seen c limit worn n (caller ∷ callers) mount served past (suc k) me seen is here =
    past_seen c limit worn (n + 1) callers mount served.1 past k me seen (omega (arith, is)) here

-- ---- the whole

at_mount : (c : Config) (limit : ℕ) (worn : List ℕ) (callers : List Caller) (histories : Histories)
    → AreServed c limit worn 0 callers → AreWhole (seen_of callers) histories (length c.mount) → (mount : ℕ)
    → All (IsBelow (length callers)) (history_at histories.rings mount)
    × AreSeen 0 callers mount (history_at histories.rings mount)
at_mount c limit worn callers histories served whole mount = elim (cases_lt mount (length histories.rings)) [
  | inl there ↦
      let is = whole.rings mount there in (
        subst (λ (count : ℕ). All (IsBelow count) (history_at histories.rings mount))
            (length-map (seen_of callers) (λ (row : Histories). history_at row.rings mount)
            ∙ length-map callers (λ (caller : Caller). caller.seen)) is.numbers,
        λ k me seen same here. subst (λ (m : ℕ). GoesOn m seen (history_at histories.rings mount))
            (let e : k ≡ me = omega (arith, same) in e) (is.each k seen here),
      )
  | inr past ↦
      let none : history_at histories.rings mount ≡ [] =
      get_or_past histories.rings mount [] (omega (arith, past)) in (
        subst (All (IsBelow (length callers))) (sym none) (All-nil (IsBelow (length callers))),
        subst (AreSeen 0 callers mount) (sym none)
            (past_seen c limit worn 0 callers mount served (omega (arith, past, whole.size))),
      )
]

pub all_kept : (c : Config) (limit : ℕ) (old new : StreetTold) (callers : List Caller) (histories : Histories)
    → AllServed c limit old new callers histories → AllKept c old new callers histories
all_kept c limit old new callers histories is =
    let worn : List ℕ = call_counts histories in
    let at = at_mount c limit worn callers histories is.served is.whole in
    let frames : AllFrames histories.rings = λ mount.
    subst (All IsOne) (sym (published-append [] (history_at histories.rings mount)))
    (all_fit (length callers) (history_at histories.rings mount) (at mount).0
    (λ me below. each_fit c limit worn 0 callers mount (history_at histories.rings mount) is.served (at mount).1 me
    me (omega arith) below)) in
    let booked : AreBooked 0 callers histories.book =
    λ k me seen same here. subst (λ (m : ℕ). GoesOn m seen histories.book)
    (let e : k ≡ me = omega (arith, same) in e) (is.whole.book.each k seen here) in
    let found = callers_kept c limit 0 callers histories is.served (λ mount. (at mount).1) booked frames in
    let below : All (IsBookedBelow (length callers)) histories.book =
    subst (λ (n : ℕ). All (IsBookedBelow n) histories.book)
    (length-map (seen_of callers) (λ (row : Histories). row.book)
    ∙ length-map callers (λ (caller : Caller). caller.seen)) is.whole.book.numbers in
    record {
      kinds_are = is.kinds_are;
      given_back = is.given_back;
      one_each = is.whole.size;
      frames = frames;
      all = found.0;
      callers_are = found.1;
      kept = found.2;
      nothing_else = λ mount. (at mount).0;
      book_callers = below;
      capped = are_capped book_seen bills_by c histories.book found.0 (all_in_book c histories 0 found.0 found.2)
          (all_below found.0 callers histories.book found.1 below);
    }

pub all_promised : (c : Config) (addr : List ℕ) (limit : ℕ) (old new : StreetTold) (closed : Closed)
    → HasServed c addr limit old new (Ok closed) → AllPromised c limit old new closed
all_promised c addr limit old new closed is =
    let ended = is.answered.ended in
    let histories : Histories = ended.histories in
    let kept = all_kept c limit old new ended.callers histories ended.all in
    record {
      callers = ended.callers;
      histories = histories;
      kept = kept;
      whole = ended.whole;
      closed_is = ended.closed_is;
      accounts = ap (λ (x : Closed). x.accounts) ended.closed_is
          ∙ account_totals book_seen bills_by c 1 c.account histories kept.all
          (all_in_book c histories 0 kept.all kept.kept)
          (all_below kept.all ended.callers histories.book kept.callers_are kept.book_callers);
      total = ended.total;
    }
