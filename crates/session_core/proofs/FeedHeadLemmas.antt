-- A head that goes on, and one that ends: what becomes of its connection with the bytes behind it.
use Rattle.std.proofs.Common.{◌&&◌, ◌≡◌, ◌∙◌, ◌+◌, ◌-◌, ◌<◌, ◌≤◌, ℕ, Bool, true, false, IsTrue, List, [], ◌++◌, length, map, take, drop, reverse, length-append, refl, sym, ap, subst, inl, inr, arith, Option, None, Some, Result, Ok, Err, append_assoc}
use Rattle.std.specs.Prelude.{◌^◌, is_some}
use Rattle.std.proofs.lemmas.Bool.{le-leb}
use Rattle.std.proofs.lemmas.List.{append-nil, drop_all, length-drop, take_all, take-append-drop}
use Rattle.std.proofs.lemmas.List.Concat.{flat_map-append}
use Rattle.turn_log.specs.History.{History}
use Rattle.turn_log.specs.Heard.{Heard}
use Rattle.turn_log.proofs.HeardLaws.{heard_both}
use Rattle.mount_ring.specs.declared.call.RingCall.{RingCall}
use Rattle.session_calls.specs.Steps.{Step, book_part, on_book}
use Rattle.session_calls.specs.Rings.{all_alone, history_at}
use Rattle.session_calls.proofs.PlaceLemmas.{alone_same}
use Rattle.session_calls.proofs.WentLemmas.{went_both}
use Rattle.rover_session.specs.Made.{segments_after}
use Rattle.rover_session.proofs.MadeLemmas.{owed_both}
use Rattle.ntrip_head.specs.declared.buffer.HeadEnd.{HeadEnd}
use Rattle.ntrip_head.specs.declared.fault.HeadError.{HeadError}
use Rattle.ntrip_head.specs.declared.fault.HeadError.TheVariants.{Refused}
use Rattle.ntrip_head.specs.declared.fault.HeadFault.{HeadFault}
use Rattle.ntrip_head.specs.declared.request.Request.{Request}
use Rattle.ntrip_head.specs.declared.request.Version.TheVariants.{One}
use Rattle.ntrip_head.specs.Head.{IsOpen, IsHead, IsLong}
use Rattle.ntrip_head.specs.Answer.{HeadAnswer}
use Rattle.ntrip_head.specs.Ends.{IsEndOf}
use Rattle.ntrip_head.specs.Outcome.{UnlessMemory}
use Rattle.ntrip_reply.specs.declared.kind.Reply.TheVariants.{BadHead}
use Rattle.cast_config.specs.declared.config.Config.{Config}
use Rattle.session_model.specs.declared.ending.Ending.{Ending}
use Rattle.session_model.specs.declared.ending.Ending.TheVariants.{LongHead}
use Rattle.session_core.specs.declared.begun.Begun.{Begun}
use Rattle.session_core.specs.declared.session.Session.{Session}
use Rattle.session_core.specs.declared.session_stage.SessionStage.{SessionStage}
use Rattle.session_core.specs.declared.session_stage.SessionStage.TheVariants.{Head, Over, Source, Relay, Rover}
use Rattle.session_model.specs.Setting.{shapes}
use Rattle.session_model.specs.Headings.{Heading, incomplete, too_long, whole, IsHeading}
use Rattle.session_model.specs.Judged.{Opening, sends_head, relays, Judged, finished, once, request_judged, heading_judged, judged}
use Rattle.session_model.specs.Owed.{came_to, plan_of}
use Rattle.session_model.specs.Replies.{sent_by}
use Rattle.session_model.specs.Reports.{IsHeadingOf}
use Rattle.session_model.specs.Run.{Histories}
use Rattle.session_model.specs.Called.{Called, OthersCalled, alone_at, book_answer}
use Rattle.session_core.specs.Feeding.{FedOn, HasBegun, HasBegunFor, IsBehindHead}
use Rattle.session_core.specs.Standing.{EndsAt, Fed, Follows, IsAtStage, IsMadeBy, IsSentBy, Stands, StandsFor, is_going, is_halted, is_halted_uncalled}
use Rattle.session_core.specs.Begun.{Begins, BeginsFor}
use Rattle.session_core.proofs.CloseLemmas.{called_none}
use Rattle.session_model.proofs.HeadingLemmas.{one_heading}
use Rattle.session_core.proofs.OverLemmas.{ended_more}

-- ---- what the head says

-- where it was read and no memory was lacking, this is its answer
pub read_says : (head : List ℕ) (answer : Result Request HeadError) (request : Request) → answer ≡ Ok request
    → UnlessMemory answer (HeadAnswer head) → HeadAnswer head (Ok request)
read_says head answer request is says =
    subst (λ (a : Result Request HeadError). UnlessMemory a (HeadAnswer head)) is says

pub refused_says : (head : List ℕ) (answer : Result Request HeadError) (error : HeadError) (fault : HeadFault)
    → answer ≡ Err error → error ≡ Refused fault → UnlessMemory answer (HeadAnswer head)
    → HeadAnswer head (Err fault)
refused_says head answer error fault is named says =
    subst (λ (e : HeadError). UnlessMemory (Err e) (HeadAnswer head)) named
    (subst (λ (a : Result Request HeadError). UnlessMemory a (HeadAnswer head)) is says)

whole_judged : (c : Config) (front : List ℕ) (answer : Result Request HeadFault)
    → heading_judged c (whole (length front) answer) front ≡ request_judged c [] answer
whole_judged c front answer =
    ap (λ (b : Bool). once b (request_judged c (drop (length front) front) answer))
    (le-leb (length front) (length front) (omega arith))
    ∙ ap (λ (body : List ℕ). request_judged c body answer) (drop_all (length front) front (omega arith))

pub whole_begun : (c : Config) (alone : Bool) (old now : Histories) (me : ℕ) (front : List ℕ)
    (answer : Result Request HeadFault) (stage : SessionStage) (ended : Option Ending) (before after : List ℕ)
    → IsHead front → HeadAnswer front answer
    → BeginsFor c alone old now me (request_judged c [] answer) stage ended before after
    → HasBegunFor c alone old now me front stage ended before after
whole_begun c alone old now me front answer stage ended before after head says (inr lost) = inr lost
whole_begun c alone old now me front answer stage ended before after head says (inl begins) =
    let all : take (length front) front ≡ front = take_all (length front) front (omega arith) in
    inl (record {
      heading = whole (length front) answer;
      is_heading = (
        omega arith,
        subst IsHead (sym all) head,
        subst (λ (bytes : List ℕ). HeadAnswer bytes answer) (sym all) says,
      );
      begins = subst (λ (j : Judged). Begins c alone old now me j stage ended before after)
          (sym (whole_judged c front answer)) begins;
    })

pub long_begun : (c : Config) (alone : Bool) (h : Histories) (me : ℕ) (front : List ℕ) (stage : SessionStage)
    (ended : Option Ending) (before after : List ℕ) → IsLong front
    → BeginsFor c alone h h me (finished (Some (One, BadHead)) LongHead) stage ended before after
    → HasBegunFor c alone h h me front stage ended before after
long_begun c alone h me front stage ended before after long (inr lost) = inr lost
long_begun c alone h me front stage ended before after long (inl begins) =
    inl (record {
      heading = too_long;
      is_heading = (
        omega (arith, long.full),
        subst IsLong (sym (take_all 8192 front (omega (arith, long.full)))) long,
      );
      begins = subst (λ (j : Judged). Begins c alone h h me j stage ended before after)
          (sym (ap (λ (b : Bool). once b (finished (Some (One, BadHead)) LongHead))
          (le-leb 8192 (length front) (omega (arith, long.full))))) begins;
    })

-- ---- a head that is awaited

-- what is known of a session whose head goes on
pub record IsAwaited (opening : Opening) (text : List ℕ) (steps : List Step) (sent head : List ℕ) : Type 0 where
  pub opens : opening ≡ sends_head
  pub text_is : head ≡ text
  pub uncalled : steps ≡ []
  pub unsent : sent ≡ []
  pub goes : IsOpen head

sent_waiting : (c : Config) (h : List (History RingCall)) (text sent : List ℕ) (heading : Heading) → IsOpen text
    → IsHeading text heading
    → sent ≡ sent_by c h sends_head (came_to (judged c sends_head heading text) []) (reverse (segments_after [] []))
    → sent ≡ []
sent_waiting c h text sent heading goes is due =
    due ∙ ap (λ (x : Heading). sent_by c h sends_head (came_to (judged c sends_head x text) [])
    (reverse (segments_after [] []))) (one_heading text heading incomplete is goes)

awaited_at : (c : Config) (session : Session) (opening : Opening) (text : List ℕ) (steps : List Step) (h : Histories)
    (sent head : List ℕ) (heading : Heading) → opening ≡ sends_head → head ≡ text → steps ≡ [] → IsOpen head
    → IsHeadingOf (Some opening) text heading
    → sent ≡ sent_by c h.rings opening (came_to (judged c opening heading text) steps)
    (reverse (segments_after [] steps))
    → IsAwaited opening text steps sent head
awaited_at c session opening text steps h sent head heading opens is uncalled goes is_heading due = record {
  opens = opens;
  text_is = is;
  uncalled = uncalled;
  unsent = sent_waiting c h.rings text sent heading (subst IsOpen is goes)
      (subst (λ (o : Opening). IsHeadingOf (Some o) text heading) opens is_heading)
      (subst (λ (o : Opening). sent ≡ sent_by c h.rings o (came_to (judged c o heading text) [])
      (reverse (segments_after [] []))) opens
      (subst (λ (l : List Step). sent ≡ sent_by c h.rings opening (came_to (judged c opening heading text) l)
      (reverse (segments_after [] l))) uncalled due));
  goes = goes;
}

pub is_awaited : (c : Config) (session : Session) (opening : Opening) (text : List ℕ) (steps : List Step)
    (h : Histories) (sent head : List ℕ) → session.stage ≡ Head head → session.ended ≡ None
    → StandsFor c session opening text steps h sent → IsAwaited opening text steps sent head
is_awaited c session opening text steps h sent head is unended (inr lost) =
    let clash : Some _ ≡ None = sym lost.ended ∙ unended in absurd cc
is_awaited c session opening text steps h sent head is unended (inl s) =
    let at = subst (IsAtStage c session.me h opening (judged c opening s.heading text) text steps) is s.stage in
    awaited_at c session opening text steps h sent head s.heading at.0 at.1 at.2 at.3 s.is_heading
    (subst (λ (e : Option Ending). IsSentBy (is_halted_uncalled e steps) sent (sent_by c h.rings opening
    (came_to (judged c opening s.heading text) steps) (reverse (segments_after [] steps)))) unended s.sent_is)

-- ---- a head that goes on

over_goes : false ≡ true → ⊥
over_goes e = cc

open_stands : (c : Config) (session : Session) (text : List ℕ) (h : Histories) → session.ended ≡ None
    → session.stage ≡ Head text → IsOpen text → Stands c session sends_head text [] h []
open_stands c session text h unended at goes = record {
  heading = incomplete;
  is_heading = goes;
  owes = subst (λ (e : Option Ending). IsMadeBy (is_halted e) (plan_of c (judged c sends_head incomplete text)) [])
      (sym unended) refl;
  ends = inr unended;
  stage = subst (IsAtStage c session.me h sends_head (judged c sends_head incomplete text) text []) (sym at)
      (refl, refl, refl, goes);
  halts = subst (λ (stage : SessionStage). EndsAt stage session.ended) (sym at) (record {
    goes = λ none. refl;
    refused = λ short. absurd (over_goes short);
  });
  sent_is = subst (λ (e : Option Ending). IsSentBy (is_halted_uncalled e []) [] (sent_by c h.rings sends_head
      (came_to (judged c sends_head incomplete text) []) (reverse (segments_after [] [])))) (sym unended) refl;
}

-- more bytes that do not end it come to no call
pub fed_open : (c : Config) (alone : Bool) (h : Histories) (session : Session) (opening : Opening)
    (text bytes : List ℕ) (steps : List Step) (sent head new out : List ℕ) → IsAwaited opening text steps sent head
    → session.ended ≡ None → session.stage ≡ Head new → new ≡ head ++ bytes → IsOpen new
    → Fed c alone h h session opening (text ++ bytes) steps sent out out
fed_open c alone h session opening text bytes steps sent head new out is unended at longer goes =
    let all : new ≡ text ++ bytes = longer ∙ ap (λ (l : List ℕ). l ++ bytes) is.text_is in
    record {
      more = [];
      added = [];
      out = sym (append-nil out);
      called = called_none c alone h session.me;
      no_read = refl;
      stands = rw is.opens (rw is.uncalled (rw is.unsent
          (inl (open_stands c session (text ++ bytes) h unended (at ∙ ap Head all) (subst IsOpen all goes)))));
    }

-- ---- a head that ended

begun_stands : (c : Config) (alone : Bool) (old now : Histories) (me : ℕ) (front : List ℕ) (new : Session)
    (before after : List ℕ) (b : HasBegun c alone old now me front new.stage new.ended before after) → new.me ≡ me
    → Stands c new sends_head front b.begins.more now b.begins.added
begun_stands c alone old now me front new before after b same = record {
  heading = b.heading;
  is_heading = b.is_heading;
  owes = b.begins.owes;
  ends = b.begins.ends;
  stage = subst (λ (m : ℕ). IsAtStage c m now sends_head (heading_judged c b.heading front) front b.begins.more
      new.stage) (sym same) (b.begins.stage_is sends_head front);
  halts = b.begins.halts;
  sent_is = b.begins.sent_is;
}

-- the text of the connection, whose head ended within these bytes
pub front_and_rest : (text head bytes : List ℕ) (count : ℕ) → head ≡ text
    → (head ++ take count bytes) ++ drop count bytes ≡ text ++ bytes
front_and_rest text head bytes count is =
    append_assoc head (take count bytes) (drop count bytes)
    ∙ ap (λ (l : List ℕ). head ++ l) (take-append-drop count bytes) ∙ ap (λ (l : List ℕ). l ++ bytes) is

-- it ended as it began
pub fed_ended : (c : Config) (alone : Bool) (old now : Histories) (me : ℕ) (new : Session) (opening : Opening)
    (text bytes : List ℕ) (steps : List Step) (sent head before after : List ℕ) (count : ℕ) (end : Ending)
    → IsAwaited opening text steps sent head → new.me ≡ me → new.ended ≡ Some end
    → HasBegunFor c alone old now me (head ++ take count bytes) new.stage new.ended before after
    → Fed c alone old now new opening (text ++ bytes) steps sent before after
fed_ended c alone old now me new opening text bytes steps sent head before after count end is same ended
    (inl b) = record {
      more = b.begins.more;
      added = b.begins.added;
      out = b.begins.out;
      called = subst (λ (m : ℕ). Called c alone old now m b.begins.more) (sym same) b.begins.called;
      no_read = b.begins.no_read;
      stands = rw is.opens (rw is.uncalled (rw is.unsent
          (rw (sym (front_and_rest text head bytes count is.text_is))
          (inl (ended_more c new sends_head (head ++ take count bytes) (drop count bytes) b.begins.more now
          b.begins.added end ended b.begins.starts
          (begun_stands c alone old now me (head ++ take count bytes) new before after b same))))));
    }
fed_ended c alone old now me new opening text bytes steps sent head before after count end is same ended
    (inr lost) = record {
      more = [];
      added = [];
      out = lost.unsent ∙ sym (append-nil before);
      called = subst (λ (h : Histories). Called c alone old h new.me []) (sym lost.uncalled)
          (called_none c alone old new.me);
      no_read = refl;
      stands = rw is.opens (rw is.uncalled (rw is.unsent (inr (record {
        ended = lost.ended_is;
        stage = lost.stage_is;
        uncalled = refl;
        unsent = refl;
      }))));
    }

-- ---- and one that goes on, with the bytes behind its head

called_both : (c : Config) (alone : Bool) (a b d : Histories) (me : ℕ) (first second : List Step)
    → Called c alone a b me first → Called c alone b d me second → Called c alone a d me (first ++ second)
called_both c alone a b d me first second x y = record {
  rings = went_both (shapes c) alone a.rings b.rings d.rings me first second x.rings y.rings;
  book = subst (λ pairs. Heard alone (book_answer c) a.book d.book me pairs)
      (sym (flat_map-append book_part first second))
      (heard_both alone (book_answer c) a.book b.book d.book me (on_book first) (on_book second) x.book y.book);
}

-- nobody called in between
pub others_none : (h : Histories) (me : ℕ) → OthersCalled h h me
others_none h me = record {
  rings = record { size = refl; rings = λ mount. ([], sym (append-nil (history_at h.rings mount)), refl) };
  book = ([], sym (append-nil h.book), refl);
}

-- a session that began and goes on may be fed the rest
pub begun_follows : (c : Config) (alone : Bool) (old now : Histories) (me : ℕ) (mid : Session) (opening : Opening)
    (text bytes : List ℕ) (steps : List Step) (sent head before after : List ℕ) (count : ℕ)
    → IsAwaited opening text steps sent head → mid.me ≡ me → mid.ended ≡ None → count ≤ length bytes
    → length text + length bytes < 2 ^ 63
    → HasBegunFor c alone old now me (head ++ take count bytes) mid.stage mid.ended before after
    → Follows c mid now (length (drop count bytes))
begun_follows c alone old now me mid opening text bytes steps sent head before after count is same unended within few
    (inr lost) = let clash : Some _ ≡ None = sym lost.ended_is ∙ unended in absurd cc
begun_follows c alone old now me mid opening text bytes steps sent head before after count is same unended within few
    (inl b) = (
      sends_head,
      head ++ take count bytes,
      b.begins.more,
      now,
      b.begins.added,
      inl (begun_stands c alone old now me (head ++ take count bytes) mid before after b same),
      others_none now mid.me,
      omega (
        arith,
        few,
        ap length (front_and_rest text head bytes count is.text_is),
        length-append (head ++ take count bytes) (drop count bytes),
        length-append text bytes,
      ),
    )

pub fed_behind : (c : Config) (alone : Bool) (old mid_h now : Histories) (me : ℕ) (mid new : Session)
    (opening : Opening) (text bytes : List ℕ) (steps : List Step) (sent head before after : List ℕ) (count : ℕ)
    → IsAwaited opening text steps sent head → mid.me ≡ me → mid.ended ≡ None → new.me ≡ me
    → HasBegunFor c alone old mid_h me (head ++ take count bytes) mid.stage mid.ended before after
    → ((o : Opening) (front : List ℕ) (ss : List Step) (h : Histories) (so_far : List ℕ)
    → Stands c mid o front ss h so_far → OthersCalled h mid_h mid.me
    → FedOn c alone mid_h now new o (front ++ drop count bytes) ss so_far)
    → Fed c alone old now new opening (text ++ bytes) steps sent before after
fed_behind c alone old mid_h now me mid new opening text bytes steps sent head before after count is same unended still
    (inr lost) fed = let clash : Some _ ≡ None = sym lost.ended_is ∙ unended in absurd cc
fed_behind c alone old mid_h now me mid new opening text bytes steps sent head before after count is same unended still
    (inl b) fed =
    let front : List ℕ = head ++ take count bytes in
    let on : FedOn c alone mid_h now new sends_head (front ++ drop count bytes) b.begins.more b.begins.added =
    fed sends_head front b.begins.more mid_h b.begins.added
    (begun_stands c alone old mid_h me front mid before after b same) (others_none mid_h mid.me) in
    record {
      more = b.begins.more ++ on.more;
      added = b.begins.added;
      out = b.begins.out;
      called = called_both c alone old mid_h now new.me b.begins.more on.more
          (subst (λ (m : ℕ). Called c alone old mid_h m b.begins.more) (sym still) b.begins.called) on.called;
      no_read = owed_both b.begins.more on.more b.begins.no_read on.no_read;
      stands = rw is.opens (rw is.uncalled (rw is.unsent
          (rw (sym (front_and_rest text head bytes count is.text_is)) (inl on.stands))));
    }

-- the head ended so with the bytes that it is made of
pub ended_front : (end : HeadEnd) (new head bytes : List ℕ) (count : ℕ) → new ≡ head ++ take count bytes
    → IsEndOf new end → IsEndOf (head ++ take count bytes) end
ended_front end new head bytes count made = subst (λ (l : List ℕ). IsEndOf l end) made

-- it began so, and this is its stage
pub begun_as : (c : Config) (alone : Bool) (old now : Histories) (me : ℕ) (front : List ℕ) (begun : Begun)
    (stage : SessionStage) (before after : List ℕ) → stage ≡ begun.stage
    → HasBegunFor c alone old now me front begun.stage begun.ended before after
    → HasBegunFor c alone old now me front stage begun.ended before after
begun_as c alone old now me front begun stage before after is has =
    subst (λ (s : SessionStage). HasBegunFor c alone old now me front s begun.ended before after) (sym is) has

-- ---- a connection that is behind its head

pub fed_on : (c : Config) (alone : Bool) (old now : Histories) (session new : Session) (opening : Opening)
    (text bytes : List ℕ) (steps : List Step) (histories : Histories) (sent out : List ℕ) → session.ended ≡ None
    → StandsFor c session opening text steps histories sent
    → (Stands c session opening text steps histories sent → FedOn c alone old now new opening (text ++ bytes) steps
    sent)
    → Fed c alone old now new opening (text ++ bytes) steps sent out out
fed_on c alone old now session new opening text bytes steps histories sent out unended (inr lost) fed =
    let clash : Some _ ≡ None = sym lost.ended ∙ unended in absurd cc
fed_on c alone old now session new opening text bytes steps histories sent out unended (inl s) fed =
    let on = fed s in
    record {
      more = on.more;
      added = [];
      out = sym (append-nil out);
      called = on.called;
      no_read = on.no_read;
      stands = inl (subst (λ (l : List ℕ). Stands c new opening (text ++ bytes) (steps ++ on.more) now l)
          (sym (append-nil sent)) on.stands);
    }

-- ---- by stage

-- and so is one that began and goes on
pub begun_behind : (c : Config) (alone : Bool) (old now : Histories) (me : ℕ) (front : List ℕ) (stage : SessionStage)
    (ended : Option Ending) (before after : List ℕ) → ended ≡ None
    → HasBegunFor c alone old now me front stage ended before after → IsBehindHead stage
begun_behind c alone old now me front stage ended before after unended (inr lost) =
    let clash : Some _ ≡ None = sym lost.ended_is ∙ unended in absurd cc
begun_behind c alone old now me front stage ended before after unended (inl b) = by stage refl where
  by : (s : SessionStage) → stage ≡ s → IsBehindHead s
  by (Head head) is =
      let at = subst (IsAtStage c me now (relays 0) (heading_judged c b.heading front) [] b.begins.more) is
      (b.begins.stage_is (relays 0) []) in
      let clash : relays 0 ≡ sends_head = at.0 in absurd cc
  by Over is = absurd (over_goes (ap is_going (sym is) ∙ b.begins.halts.goes unended))
  by (Source mount inner) is = tt
  by (Relay mount inner) is = tt
  by (Rover account inner) is = tt

-- ---- the bytes behind the head, as a slice

pub rest_of : (bytes : List ℕ) (count : ℕ) → count ≤ length bytes
    → take (length bytes - count) (drop count bytes) ≡ drop count bytes
rest_of bytes count within =
    take_all (length bytes - count) (drop count bytes) (omega (arith, within, length-drop count bytes))

pub some_of : (ended : Option Ending) → IsTrue (is_some ended) → (end : Ending) × (ended ≡ Some end)
some_of None none = absurd cc
some_of (Some end) some = (end, refl)

pub none_of : (ended : Option Ending) → is_some ended ≡ false → ended ≡ None
none_of None none = refl
none_of (Some end) none = absurd cc

-- the same places are alone
pub alone_as : {P B : Type 0} (ring_alone : P → Bool) (book_alone : B → Bool) (old now : List P) (old_book now_book : B)
    → map ring_alone now ≡ map ring_alone old → book_alone now_book ≡ book_alone old_book
    → alone_at ring_alone book_alone now now_book ≡ alone_at ring_alone book_alone old old_book
alone_as ring_alone book_alone old now old_book now_book rings book =
    ap (λ (a : Bool). a && book_alone now_book) (alone_same ring_alone old now rings)
    ∙ ap (λ (a : Bool). all_alone ring_alone old && a) book
