-- How a rover begins.
use Rattle.std.proofs.Common.{◌≡◌, ◌∙◌, ℕ, zero, suc, Bool, true, false, IsTrue, List, [], ◌∷◌, ◌++◌, length, map, reverse, take, drop, refl, sym, ap, subst, inl, inr, Option, None, Some, Result, Ok, Err, arith}
use Rattle.std.specs.Result.{result_err}
use Rattle.std.specs.Prelude.{IfSome, IfErr, is_none, Contains, unwrap_or}
use Rattle.std.proofs.lemmas.List.{append-nil, take_all}
use Rattle.std.proofs.lemmas.List.Concat.{flat_map-append}
use mathlib.Core.List.{reverse-cons}
use Rattle.gga_read.specs.declared.Position.{Position}
use Rattle.base_select.specs.declared.Base.{Base}
use Rattle.ntrip_head.specs.declared.request.Version.TheVariants.{One}
use Rattle.ntrip_reply.specs.declared.kind.Reply.TheVariants as replies
use Rattle.turn_log.specs.History.{History}
use Rattle.turn_log.specs.Faults.{IsFault}
use Rattle.turn_log.specs.Heard.{Heard}
use Rattle.turn_log.specs.declared.place.TurnFault.{TurnFault}
use Rattle.turn_log.specs.declared.place.TurnFault.TheVariants as turn_faults
use Rattle.mount_ring.specs.declared.call.RingCall.{RingCall}
use Rattle.mount_ring.specs.declared.shape.RingShape.{RingShape}
use Rattle.caster_accounts.specs.declared.call.BookCall.{BookCall}
use Rattle.caster_accounts.specs.declared.call.BookCall.TheVariants.{Enter}
use Rattle.caster_accounts.specs.declared.call.BookAnswer.{BookAnswer}
use Rattle.caster_accounts.specs.declared.call.BookAnswer.TheVariants as books
use Rattle.caster_accounts.specs.History.{may_leave, answer}
use Rattle.rover_cursor.specs.declared.segment.Segment.{Segment}
use Rattle.rover_cursor.specs.declared.fault.SegFault.{SegFault}
use Rattle.rover_cursor.specs.declared.fault.SegFault.TheVariants as seg_faults
use Rattle.session_calls.specs.Steps.{Ask, to_ring, to_book, Answer, Step, at_ring, at_book, on_book, answer_of}
use Rattle.session_calls.specs.Plans.{Plan, done, asks, IsBegun}
use Rattle.session_calls.specs.Rings.{Went, all_alone}
use Rattle.turn_log.proofs.HeardLaws.{heard_less, heard_none}
use Rattle.std.proofs.Math.ListN.{drop_of_length-le}
use Rattle.session_calls.proofs.PlanLemmas.{made_begun}
use Rattle.session_calls.proofs.WentLemmas.{went_none}
use Rattle.rover_session.specs.declared.session.RoverSession.{RoverSession}
use Rattle.rover_session.specs.Owed.{Terms, looks, joins, joins_each, changed, chooses, follows, plan_by, rover_plan, if_held}
use Rattle.rover_session.specs.Made.{segments_after, owed_among, IsMadeUntil, IsRefusedBy}
use Rattle.rover_session.specs.Body.{body_of}
use Rattle.rover_session.specs.Standing.{Rover, Told, IsResumable, frames_of, frames_sent}
use Rattle.cast_config.specs.declared.config.Config.{Config}
use Rattle.session_model.specs.declared.ending.Ending.{Ending}
use Rattle.session_model.specs.declared.ending.Ending.TheVariants as endings
use Rattle.session_core.specs.declared.session_stage.SessionStage.{SessionStage}
use Rattle.session_core.specs.declared.session_stage.SessionStage.TheVariants as stages
use Rattle.session_model.specs.Setting.{shapes, caps}
use Rattle.session_model.specs.Setting as setting
use Rattle.session_model.specs.Judged.{RoverTerms, rover}
use Rattle.session_model.specs.Owed.{terms_of, entering_plan}
use Rattle.session_model.specs.Replies.{text_if, kept_of, kept_frames}
use Rattle.session_model.specs.Run.{Histories}
use Rattle.session_model.specs.Called.{Called, book_answer, IsCause, seen_at}
use Rattle.session_core.specs.Beginnings.{histories_of, worn_at, end_unentered, ended_joining}
use Rattle.session_core.specs.Standing.{IsMadeBy, is_halted, is_halted_uncalled, EndsAs}
use Rattle.session_core.specs.Begun.{BeginsFor}
use Rattle.session_core.proofs.BeginLemmas.{over_ends, over_starts, sent_all, full_untabled}
use Rattle.session_core.proofs.BegunLemmas.{went_as}

-- ---- a rover's plan has no call at the book

abbrev pub IsToRing : Ask → Type 0
IsToRing (to_ring mount call) = Unit {0}
IsToRing (to_book call) = ⊥

abbrev pub AsksRings : Plan → Type 0
AsksRings done = Unit {0}
AsksRings (asks ask next) = IsToRing ask × ((answer : Answer) → AsksRings (next answer))

looks_ask : (bases held : List Base) (next : List Base → Plan) → ((h : List Base) → AsksRings (next h))
    → AsksRings (looks bases held next)
looks_ask [] held next rings = rings held
looks_ask (base ∷ bases) held next rings = (tt, λ answer. looks_ask bases (held ++ if_held base answer) next rings)

joins_ask : (filter : ℕ) (mount : Option ℕ) (next : Plan) → AsksRings next → AsksRings (joins filter mount next)
joins_ask filter None next rings = rings
joins_ask filter (Some mount) next rings = (tt, λ answer. rings)

follows_ask : (terms : Terms) (present : Option ℕ) (told : List Position) → AsksRings (follows terms present told)
follows_ask terms present [] = tt
follows_ask terms present (report ∷ later) =
    looks_ask terms.bases [] _ (λ held.
    joins_ask terms.filter (changed present (chooses terms.hysteresis present report held)) _
    (follows_ask terms (chooses terms.hysteresis present report held) later))

each_asks : (filter : ℕ) (bases : List Base) → AsksRings (joins_each filter bases)
each_asks filter [] = tt
each_asks filter (base ∷ bases) = (tt, λ answer. each_asks filter bases)

pub plan_asks : (near : Bool) (terms : Terms) (told : List Position) → AsksRings (plan_by near terms told)
plan_asks false terms told = each_asks terms.filter terms.bases
plan_asks true terms told = follows_ask terms None told

pub begun_off_book : (plan : Plan) (steps : List Step) → AsksRings plan → IsBegun plan steps → on_book steps ≡ []
begun_off_book plan [] rings begun = refl
begun_off_book done (step ∷ steps) rings begun = absurd begun
begun_off_book (asks ask next) (at_ring mount call answer ∷ steps) rings begun =
    begun_off_book (next (answer_of (at_ring mount call answer))) steps
    (rings.1 (answer_of (at_ring mount call answer))) begun.1
begun_off_book (asks ask next) (at_book call answer ∷ steps) rings begun =
    absurd (subst (λ (a : Ask). IsToRing a) (sym begun.0) rings.0)

pub until_begun : (halt : Option SegFault) (plan : Plan) (steps : List Step) → IsMadeUntil halt plan steps
    → IsBegun plan steps
until_begun None plan steps made = made_begun plan steps made
until_begun (Some fault) plan steps made = made

-- ---- nothing is sent before the first turn

one_more : (c : Config) (h : List (History RingCall)) (segment : Segment) (older : List Segment)
    → kept_frames c h (reverse (segment ∷ older)) ≡ kept_frames c h (reverse older) ++ frames_of (shapes c) h segment
one_more c h segment older =
    ap (kept_frames c h) (reverse-cons segment older)
    ∙ flat_map-append (kept_of c h) (reverse older) (segment ∷ [])
    ∙ ap (λ (l : List (List ℕ)). kept_frames c h (reverse older) ++ l) (append-nil (frames_of (shapes c) h segment))

pub sent_kept : (c : Config) (h : List (History RingCall)) (segments : List Segment)
    → kept_frames c h (reverse segments) ≡ frames_sent (shapes c) h segments
sent_kept c h [] = refl
sent_kept c h (segment ∷ older) =
    one_more c h segment older
    ∙ ap (λ (l : List (List ℕ)). l ++ frames_of (shapes c) h segment) (sent_kept c h older)

-- ---- how its joining ended

pub made_joining : (halt : Option SegFault) (c : Config) (terms : RoverTerms) (tail : List ℕ) (steps : List Step)
    → IsMadeUntil halt (rover_plan (terms_of c terms.admission) terms.first tail) steps
    → IsMadeBy (is_halted (ended_joining halt)) (entering_plan c terms tail)
    (at_book (Enter terms.admission.account) books.Entered ∷ steps)
made_joining None c terms tail steps made = (refl, made)
made_joining (Some (seg_faults.Worn given)) c terms tail steps made = (refl, made)
made_joining (Some seg_faults.Memory) c terms tail steps made = (refl, made)

pub ends_joining : (halt : Option SegFault) → EndsAs (ended_joining halt) None
ends_joining None = inr refl
ends_joining (Some (seg_faults.Worn given)) = inl refl
ends_joining (Some seg_faults.Memory) = inl refl

pub joined_goes : (halt : Option SegFault) → ended_joining halt ≡ None → IsTrue (is_none halt)
joined_goes None none = refl
joined_goes (Some (seg_faults.Worn given)) none = absurd cc
joined_goes (Some seg_faults.Memory) none = absurd cc

-- ---- a rover that entered

went_behind : (shapes_now : List RingShape) (alone : Bool) (old now : List (History RingCall)) (me : ℕ)
    (call : BookCall) (answer : BookAnswer)
    (steps : List Step) → Went shapes_now alone old now me steps
    → Went shapes_now alone old now me (at_book call answer ∷ steps)
went_behind shapes_now alone old now me call answer steps went =
    record { size = went.size; rings = λ mount. went.rings mount }

pub begins_entered : (c : Config) (alone : Bool) (old now : Histories) (me : ℕ) (terms : RoverTerms)
    (session : RoverSession) (before after : List ℕ)
    → Heard alone (book_answer c) old.book now.book me ((Enter terms.admission.account, books.Entered) ∷ [])
    → IsTrue (may_leave (caps c) now.book me terms.admission.account)
    → Told (shapes c) alone old.rings now.rings session terms.first [] []
    → session.me ≡ me → session.terms ≡ terms_of c terms.admission
    → session.version ≡ unwrap_or terms.version One
    → IsResumable (shapes c) me now.rings session.segments
    → frames_sent (shapes c) now.rings session.segments ≡ []
    → after ≡ before ++ text_if terms.version replies.RoverOk []
    → BeginsFor c alone old now me (rover terms []) (stages.Rover terms.admission.account session)
    (ended_joining session.halt) before after
begins_entered c alone old now me terms session before after heard inside told is_me admitted version resumes unsent
    out =
    let entry : Step = at_book (Enter terms.admission.account) books.Entered in
    let halt : Option SegFault = session.halt in
    let made : IsMadeUntil halt (rover_plan (terms_of c terms.admission) terms.first []) told.more =
    subst (λ (l : List Step). IsMadeUntil halt (rover_plan (terms_of c terms.admission) terms.first []) l) told.no_read
    (subst (λ (t : Terms). IsMadeUntil halt (rover_plan t terms.first [])
    (owed_among told.more)) admitted told.stands.owed) in
    let off : on_book told.more ≡ [] =
    begun_off_book _ told.more (plan_asks terms.admission.near (terms_of c terms.admission) _)
    (until_begun halt _ told.more made) in
    let went : Went (shapes c) alone old.rings now.rings me told.more =
    subst (λ (m : ℕ). Went (shapes c) alone old.rings now.rings m told.more) is_me told.went in
    let none : kept_frames c now.rings (reverse (segments_after [] told.more)) ≡ [] =
    sent_kept c now.rings (segments_after [] told.more)
    ∙ ap (λ (s : List Segment). frames_sent (shapes c) now.rings s) (sym told.stands.segments) ∙ unsent in
    inl (record {
      more = entry ∷ told.more;
      added = text_if terms.version replies.RoverOk [];
      out = out;
      called = record {
        rings = went_behind (shapes c) alone old.rings now.rings me
            (Enter terms.admission.account) books.Entered told.more went;
        book = subst (λ (l : List (BookCall × BookAnswer)). Heard alone (book_answer c) old.book now.book me
            ((Enter terms.admission.account, books.Entered) ∷ l)) (sym off) heard;
      };
      no_read = ap (λ (l : List Step). entry ∷ l) told.no_read;
      owes = subst (λ (l : List Step). IsMadeBy (is_halted (ended_joining halt)) (entering_plan c terms []) (entry ∷ l))
          (sym told.no_read) (made_joining halt c terms [] told.more made);
      ends = ends_joining halt;
      stage_is = λ opening text. record {
        terms = terms;
        tail = [];
        behind = told.more;
        judged_is = refl;
        account_is = refl;
        steps_are = refl;
        caller = is_me;
        admitted = admitted;
        version = version;
        stands = told.stands;
        resumes = resumes;
        inside = inside;
      };
      halts = record { goes = joined_goes halt; refused = λ short. absurd cc };
      starts = refl;
      sent_is = sent_all (is_halted_uncalled (ended_joining halt) (entry ∷ told.more)) _ _
          (sym (ap (λ (l : List (List ℕ)). text_if terms.version replies.RoverOk [] ++ body_of
          (unwrap_or terms.version One) l) none
          ∙ append-nil (text_if terms.version replies.RoverOk [])));
    })

-- ---- one whose account is full

pub begins_full : (c : Config) (alone : Bool) (old now : Histories) (me : ℕ) (terms : RoverTerms) (busy cap : ℕ)
    (stage : SessionStage) (ended : Option Ending) (before after : List ℕ)
    → Heard alone (book_answer c) old.book now.book me ((Enter terms.admission.account, books.Full busy cap) ∷ [])
    → now.rings ≡ old.rings → stage ≡ stages.Over → ended ≡ Some (endings.Full busy cap)
    → after ≡ before ++ text_if terms.version replies.Full []
    → BeginsFor c alone old now me (rover terms []) stage ended before after
begins_full c alone old now me terms busy cap stage ended before after heard same over end out =
    rw end (inl (record {
      more = at_book (Enter terms.admission.account) (books.Full busy cap) ∷ [];
      added = text_if terms.version replies.Full [];
      out = out;
      called = record {
        rings = subst (λ (h : List (History RingCall)). Went (shapes c) alone old.rings h me
            (at_book (Enter terms.admission.account) (books.Full busy cap) ∷ [])) (sym same)
            (went_behind (shapes c) alone old.rings old.rings me (Enter terms.admission.account)
            (books.Full busy cap) []
            (went_none (shapes c) alone old.rings me));
        book = heard;
      };
      no_read = refl;
      owes = (refl, refl);
      ends = inr refl;
      stage_is = λ opening text.
          rw over (record { known = λ e. cc; free = tt; segments = refl; no_read = refl });
      halts = over_ends stage _ _ over refl;
      starts = over_starts stage _ over;
      sent_is = full_untabled terms.version (setting.table c)
          ∙ sym (append-nil (text_if terms.version replies.Full (setting.table c)));
    }))

-- ---- and one whose entry was refused

pub begins_unentered : (c : Config) (alone : Bool) (old now : Histories) (me : ℕ) (terms : RoverTerms)
    (fault : TurnFault)
    (stage : SessionStage) (ended : Option Ending) (before after : List ℕ)
    → Called c alone old now me [] → stage ≡ stages.Over → ended ≡ Some (end_unentered fault) → after ≡ before
    → BeginsFor c alone old now me (rover terms []) stage ended before after
begins_unentered c alone old now me terms (turn_faults.Worn given) stage ended before after called over end out =
    rw end (inl (record {
      more = [];
      added = [];
      out = out ∙ sym (append-nil before);
      called = called;
      no_read = refl;
      owes = tt;
      ends = inl refl;
      stage_is = λ opening text.
          rw over (record { known = λ e. cc; free = tt; segments = refl; no_read = refl });
      halts = over_ends stage _ _ over refl;
      starts = over_starts stage _ over;
      sent_is = ([], refl);
    }))
begins_unentered c alone old now me terms turn_faults.Memory stage ended before after called over end out =
    rw end (inl (record {
      more = [];
      added = [];
      out = out ∙ sym (append-nil before);
      called = called;
      no_read = refl;
      owes = tt;
      ends = inl refl;
      stage_is = λ opening text.
          rw over (record { known = λ e. cc; free = tt; segments = refl; no_read = refl });
      halts = over_ends stage _ _ over refl;
      starts = over_starts stage _ over;
      sent_is = ([], refl);
    }))

-- ---- causes

-- an element of the first of two lists, and the last one
pub contains_left : {X : Type 0} (xs ys : List X) (n : X) → Contains xs n → Contains (xs ++ ys) n
contains_left [] ys n there = absurd (omega (arith, there.1))
contains_left (x ∷ xs) ys n (zero, low, is) = (zero, omega arith, is)
contains_left (x ∷ xs) ys n (suc k, low, is) =
    let rest : Contains (xs ++ ys) n = contains_left xs ys n (k, omega (arith, low), is) in
    (suc rest.0, omega (arith, rest.1), rest.2)

pub contains_last : {X : Type 0} (xs : List X) (n : X) → Contains (xs ++ n ∷ []) n
contains_last [] n = (zero, omega arith, refl)
contains_last (x ∷ xs) n =
    let rest : Contains (xs ++ n ∷ []) n = contains_last xs n in (suc rest.0, omega (arith, rest.1), rest.2)

-- of a rover that was halted: one of the rings is worn
pub cause_halted : (rings : List ℕ) (r : Result (Unit {0}) SegFault) (ended : Option Ending)
    → ended ≡ ended_joining (result_err r) → IfErr r (IsRefusedBy rings) → IfSome ended (IsCause rings)
cause_halted rings (Ok x) ended is refused = rw is tt
cause_halted rings (Err (seg_faults.Worn given)) ended is refused = rw is refused
cause_halted rings (Err seg_faults.Memory) ended is refused = rw is tt

-- of one whose entry was refused: the book is worn
pub cause_unentered : (may_lack : Bool) (rings : List ℕ) (book : ℕ) (fault : TurnFault) (ended : Option Ending)
    → ended ≡ Some (end_unentered fault) → IsFault may_lack book fault → IfSome ended (IsCause (rings ++ book ∷ []))
cause_unentered may_lack rings book (turn_faults.Worn given) ended is fault =
    rw is (subst (λ (n : ℕ). Contains (rings ++ book ∷ []) n) fault.0 (contains_last rings book), fault.1)
cause_unentered may_lack rings book turn_faults.Memory ended is fault = rw is tt

-- ---- the book and the rings as a configuration names them

pub heard_as : (c : Config) (caps_now : List ℕ) (less alone : Bool) (old now : History BookCall) (me : ℕ)
    (pairs : List (BookCall × BookAnswer)) → caps_now ≡ caps c → (IsTrue less → IsTrue alone)
    → Heard alone (λ h me call. answer caps_now h call) old now me pairs → Heard less (book_answer c) old now me pairs
heard_as c caps_now less alone old now me pairs same from heard =
    subst (λ (s : List ℕ). Heard less (λ h me call. answer s h call) old now me pairs) same
    (heard_less alone less (λ h me call. answer caps_now h call) old now me pairs from heard)

-- a slice that was written back whole
pub back_whole : {P : Type 0} (new old : List P) (n : ℕ) → length new ≡ length old → n ≡ length old
    → take n (new ++ drop (length new) old) ≡ new
back_whole {P} new old n long is =
    ap (λ (l : List P). take n (new ++ l)) (drop_of_length-le old {i = length new} (omega (arith, long)))
    ∙ ap (take n) (append-nil new) ∙ take_all n new (omega (arith, long, is))

pub entered_back : {P B : Type 0} (ring_seen : P → History RingCall) (book_seen : B
    → History BookCall) (new old : List P)
    (n : ℕ) (book : B) (Q : Histories → Type 0) → take n (new ++ drop (length new) old) ≡ new
    → Q (seen_at ring_seen book_seen new book)
    → Q (seen_at ring_seen book_seen (take n (new ++ drop (length new) old)) book)
entered_back {P} ring_seen book_seen new old n book Q back holds =
    subst (λ (items : List P). Q (seen_at ring_seen book_seen items book)) (sym back) holds

pub worn_back : {P B : Type 0} (ring_worn : P → ℕ) (book_worn : B → ℕ) (new old : List P) (n : ℕ) (book : B)
    (ended : Option Ending) → take n (new ++ drop (length new) old) ≡ new
    → IfSome ended (IsCause (worn_at ring_worn book_worn new book))
    → IfSome ended (IsCause (worn_at ring_worn book_worn (take n (new ++ drop (length new) old)) book))
worn_back {P} ring_worn book_worn new old n book ended back holds =
    subst (λ (items : List P). IfSome ended (IsCause (worn_at ring_worn book_worn items book))) (sym back) holds

pub told_as : {P : Type 0} (shape : P → RingShape) (alone : P → Bool) (seen : P
    → History RingCall) (c : Config) (less : Bool)
    (slice items new : List P) (told_rover : Rover) (first : Option Position) → slice ≡ items
    → map shape items ≡ shapes c
    → (IsTrue less → IsTrue (all_alone alone items))
    → Told (map shape slice) (all_alone alone slice) (map seen slice) (map seen new) told_rover first [] []
    → Told (shapes c) less (map seen items) (map seen new) told_rover first [] []
told_as {P} shape alone seen c less slice items new told_rover first is same from told =
    let t : Told (map shape items) (all_alone alone items) (map seen items) (map seen new) told_rover first [] [] =
    subst (λ (l : List P). Told (map shape l) (all_alone alone l) (map seen l)
    (map seen new) told_rover first [] []) is told in record {
      more = t.more;
      went = went_as c (map shape items) less (all_alone alone items) (map seen items)
          (map seen new) told_rover.me t.more same from t.went;
      no_read = t.no_read;
      stands = t.stands;
    }

pub called_none_by : (c : Config) (alone : Bool) (rings : List (History RingCall)) (old now : History BookCall) (me : ℕ)
    → now ≡ old → Called c alone (histories_of rings old) (histories_of rings now) me []
called_none_by c alone rings old now me same = record {
  rings = went_none (shapes c) alone rings me;
  book = subst (λ (h : History BookCall). Heard alone (book_answer c) old h me []) (sym same) (heard_none alone
      (book_answer c) old me);
}

-- a ring that is worn is among all places
pub cause_left : (rings : List ℕ) (book : ℕ) (ended : Option Ending) → IfSome ended (IsCause rings)
    → IfSome ended (IsCause (rings ++ book ∷ []))
cause_left rings book None cause = tt
cause_left rings book (Some (endings.Worn given)) cause = (contains_left rings (book ∷ []) given cause.0, cause.1)
cause_left rings book (Some (endings.SourceEnd claim)) cause = tt
cause_left rings book (Some endings.RoverEnd) cause = tt
cause_left rings book (Some endings.TableSent) cause = tt
cause_left rings book (Some endings.NoHead) cause = tt
cause_left rings book (Some endings.BadHead) cause = tt
cause_left rings book (Some endings.LongHead) cause = tt
cause_left rings book (Some endings.Method) cause = tt
cause_left rings book (Some endings.Coding) cause = tt
cause_left rings book (Some endings.NoMount) cause = tt
cause_left rings book (Some endings.NoAccount) cause = tt
cause_left rings book (Some (endings.Password account)) cause = tt
cause_left rings book (Some endings.SourcePassword) cause = tt
cause_left rings book (Some (endings.Denied group)) cause = tt
cause_left rings book (Some (endings.Taken caller claim)) cause = tt
cause_left rings book (Some (endings.Full busy cap)) cause = tt
cause_left rings book (Some (endings.BadChunk place)) cause = tt
cause_left rings book (Some endings.UpstreamTable) cause = tt
cause_left rings book (Some (endings.Upstream status)) cause = tt
cause_left rings book (Some endings.ReadFault) cause = tt
cause_left rings book (Some endings.WriteFault) cause = tt
cause_left rings book (Some endings.Memory) cause = tt

pub cause_joined : (rings : List ℕ) (book : ℕ) (r : Result (Unit {0}) SegFault) (ended : Option Ending)
    → ended ≡ ended_joining (result_err r) → IfErr r (IsRefusedBy rings) → IfSome ended (IsCause (rings ++ book ∷ []))
cause_joined rings book r ended is refused = cause_left rings book ended (cause_halted rings r ended is refused)
