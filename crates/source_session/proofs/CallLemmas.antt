-- The calls of a source, one after the other, and what they leave of its claim.
use Rattle.std.proofs.Common.{◌≡◌, ℕ, ◌+◌, Bool, IsTrue, List, [], ◌∷◌, ◌++◌, length, refl, ap, ◌∙◌, sym, subst, arith, append_assoc, length-append, Option, None, Some}
use Rattle.std.proofs.lemmas.List.{append-nil, map-append}
use Rattle.std.proofs.lemmas.List.Sums.{sum_by-append}
use Rattle.rtcm_frame.specs.Cut.{cut, Parts, IsWaiting, only_rest}
use Rattle.rtcm_frame.specs.Pending.{Pending, Took, IsBehindJunk}
use Rattle.rtcm_frame.proofs.CutLemmas.{cut_waiting}
use Rattle.rtcm_frame.proofs.PendingLemmas.{took_none}
use Rattle.turn_log.specs.History.{History, IsLegal, GoesOn}
use Rattle.turn_log.specs.Turn.{Turned}
use Rattle.turn_log.specs.Heard.{calls_in, Heard, HeardFirst}
use Rattle.turn_log.proofs.HistoryLaws.{legal_front, fits_on}
use Rattle.turn_log.proofs.HeardLaws.{heard_none, heard_both, heard_turn}
use Rattle.mount_ring.specs.declared.RingCall.{RingCall}
use Rattle.mount_ring.specs.declared.RingCall.TheVariants.{Publish, Release}
use Rattle.mount_ring.specs.declared.RingAnswer.{RingAnswer}
use Rattle.mount_ring.specs.declared.RingShape.{RingShape}
use Rattle.mount_ring.specs.Shapes.{shape_of}
use Rattle.mount_ring.specs.History.{State, state_of, is_holder, fits}
use Rattle.mount_ring.specs.StillFits.{still_fits_one, one_more}
use Rattle.source_session.specs.declared.fault.SourceHalt.{SourceHalt}
use Rattle.source_session.specs.declared.fault.SourceHalt.TheVariants.{Done, BadChunk, Worn, Memory}
use Rattle.source_session.specs.Calls.{publishes, IsHolding, HeldSince, HeardAll, HeardBy, IsRefusedAt}

-- ---- the claim

-- a holder goes on to hold while others call
pub holding_on : (shape : RingShape) (me claim : ℕ) (h now : History RingCall)
    → IsHolding me claim h → GoesOn me h now
    → IsLegal (λ (before : History RingCall) by call. fits (shape_of shape) (state_of before) by call) now
    → IsHolding me claim now
holding_on shape me claim h now holds goes legal =
    let may : History RingCall → ℕ → RingCall → Bool = λ before by call. fits (shape_of shape) (state_of before) by
    call in
    let on = fits_on {fits = may}
    (λ before mine by call other fitting apart theirs. still_fits_one (shape_of shape) before mine by call other fitting
    apart theirs)
    h goes.0 me (Release claim) holds (subst (IsLegal may) goes.1 legal) goes.2 in
    subst (IsHolding me claim) (sym goes.1) on

pub held_now : (shape : RingShape) (me claim : ℕ) (now : History RingCall) → HeldSince me claim now
    → IsLegal (λ (before : History RingCall) by call. fits (shape_of shape) (state_of before) by call) now
    → IsHolding me claim now
held_now shape me claim now held legal = holding_on shape me claim held.0 now held.1 held.2 legal

-- and over a turn in which it publishes
pub holding_published : {R : Type 0} {alone : Bool} {said : History RingCall → ℕ → RingCall → RingAnswer}
    {filled : History RingCall → ℕ → RingCall → R → R} {old now : History RingCall} {me claim : ℕ} {frame : List ℕ}
    {reply : RingAnswer} {before after : R} (shape : RingShape)
    → IsHolding me claim old
    → Turned alone (λ (h : History RingCall) by call. fits (shape_of shape) (state_of h) by call) said filled old now me
    (Publish claim frame) reply before after
    → IsHolding me claim now
holding_published {old = old} {now = now} {me = me} {claim = claim} {frame = frame} shape holds t =
    let may : History RingCall → ℕ → RingCall → Bool = λ h by call. fits (shape_of shape) (state_of h) by call in
    let point : History RingCall = old ++ t.others in
    let legal : IsLegal may point =
    legal_front may point ((me, Publish claim frame) ∷ []) (subst (IsLegal may) t.seen t.legal) in
    let here : IsHolding me claim point =
    holding_on shape me claim old point holds (t.others, refl, t.none_of_mine) legal in
    subst (IsHolding me claim) (sym t.seen)
    (subst (λ (s : State). IsTrue (is_holder s.holder me claim)) (sym (one_more point (me, Publish claim frame))) here)

-- ---- calls that were all made

pub all_none : {C A : Type 0} (alone : Bool) (said : History C → ℕ → C → A) (h : History C) (me : ℕ)
    → HeardAll alone said h h me []
all_none alone said h me = record { pairs = []; made = refl; heard = heard_none alone said h me }

pub all_both : {C A : Type 0} {alone : Bool} {said : History C → ℕ → C → A} {a b c : History C} {me : ℕ}
    {first second : List C} → HeardAll alone said a b me first → HeardAll alone said b c me second
    → HeardAll alone said a c me (first ++ second)
all_both {alone = alone} {said = said} {a = a} {b = b} {c = c} {me = me} {first = first} {second = second} x y =
    record {
      pairs = x.pairs ++ y.pairs;
      made = map-append (λ p. p.0) x.pairs y.pairs
          ∙ ap (λ l. l ++ calls_in y.pairs) x.made
          ∙ ap (λ l. first ++ l) y.made;
      heard = heard_both alone said a b c me x.pairs y.pairs x.heard y.heard;
    }

pub first_both : {C A : Type 0} {alone : Bool} {said : History C → ℕ → C → A} {a b c : History C} {me : ℕ}
    {first second : List C} → HeardAll alone said a b me first → HeardFirst alone said b c me second
    → HeardFirst alone said a c me (first ++ second)
first_both {alone = alone} {said = said} {a = a} {b = b} {c = c} {me = me} {first = first} {second = second} x y =
    record {
      pairs = x.pairs ++ y.pairs;
      unmade = y.unmade;
      split = ap (λ l. l ++ second) (sym x.made)
          ∙ ap (λ l. calls_in x.pairs ++ l) y.split
          ∙ sym (append_assoc (calls_in x.pairs) (calls_in y.pairs) y.unmade)
          ∙ ap (λ l. l ++ y.unmade) (sym (map-append (λ p. p.0) x.pairs y.pairs));
      heard = heard_both alone said a b c me x.pairs y.pairs x.heard y.heard;
    }

-- the first of some calls are the first of more
pub first_more : {C A : Type 0} {alone : Bool} {said : History C → ℕ → C → A} {a b : History C} {me : ℕ}
    {calls : List C} (later : List C) → HeardFirst alone said a b me calls
    → HeardFirst alone said a b me (calls ++ later)
first_more later x = record {
  pairs = x.pairs;
  unmade = x.unmade ++ later;
  split = ap (λ l. l ++ later) x.split ∙ append_assoc (calls_in x.pairs) x.unmade later;
  heard = x.heard;
}

-- ---- by the time of a halt

pub by_both : {C A : Type 0} {alone : Bool} {said : History C → ℕ → C → A} {a b : History C} {me : ℕ}
    {first : List C} (halt : Option SourceHalt) (c : History C) (second : List C)
    → HeardAll alone said a b me first → HeardBy halt alone said b c me second
    → HeardBy halt alone said a c me (first ++ second)
by_both None c second x y = all_both x y
by_both (Some Done) c second x y = all_both x y
by_both (Some (BadChunk place)) c second x y = all_both x y
by_both (Some (Worn turns)) c second x y = first_both x y
by_both (Some Memory) c second x y = first_both x y

-- ---- the frames of a cutter, one by one

took_both : (a b c : Pending) (xs ys : List (List ℕ)) → Took a b xs → Took b c ys → Took a c (xs ++ ys)
took_both a b c xs ys first second = record {
  in_order = first.in_order ∙ ap (λ l. xs ++ l) second.in_order ∙ sym (append_assoc xs ys (cut c.bytes).frames);
  junk = first.junk ∙ second.junk;
  rest = first.rest ∙ second.rest;
  counted = omega (arith, first.counted, second.counted, sum_by-append length xs ys);
}

passed_more : (a b c d : List ℕ) → a ++ (b ++ (c ++ d)) ≡ ((a ++ b) ++ c) ++ d
passed_more a b c d = sym (append_assoc a b (c ++ d)) ∙ sym (append_assoc (a ++ b) c d)

-- from one state of the cutter to the next these frames were given, and each was published
pub record GivenSoFar {A : Type 0} (alone : Bool) (said : History RingCall → ℕ → RingCall → A)
    (old now : History RingCall) (me claim : ℕ) (from to : Pending) : Type 0 where
  pub frames : List (List ℕ)
  -- the bytes that were passed over, of frames and junk
  pub passed : List ℕ
  pub over : from.bytes ≡ passed ++ to.bytes
  pub took : Took from to frames
  pub heard : HeardAll alone said old now me (publishes claim frames)

-- before the first frame
pub given_none : {A : Type 0} (alone : Bool) (said : History RingCall → ℕ → RingCall → A) (h : History RingCall)
    (me claim : ℕ) (from : Pending) → GivenSoFar alone said h h me claim from from
given_none alone said h me claim from = record {
  frames = [];
  passed = [];
  over = refl;
  took = took_none from;
  heard = all_none alone said h me;
}

pub given_more : {A : Type 0} {alone : Bool} {said : History RingCall → ℕ → RingCall → A}
    {old mid now : History RingCall} {me claim : ℕ} {from to next : Pending} {frame : List ℕ} {reply : A}
    → GivenSoFar alone said old mid me claim from to → Took to next (frame ∷ []) → IsBehindJunk to next frame
    → Heard alone said mid now me ((Publish claim frame, reply) ∷ [])
    → GivenSoFar alone said old now me claim from next
given_more {alone = alone} {said = said} {old = old} {mid = mid} {now = now} {me = me} {claim = claim} {from = from}
    {to = to} {next = next} {frame = frame} {reply = reply} x took behind heard = record {
      frames = x.frames ++ frame ∷ [];
      passed = (x.passed ++ behind.junk) ++ frame;
      over = x.over ∙ ap (λ (l : List ℕ). x.passed ++ l) behind.split ∙ passed_more x.passed behind.junk frame next.bytes;
      took = took_both from to next x.frames (frame ∷ []) x.took took;
      heard = subst (HeardAll alone said old now me) (sym (map-append (λ f. Publish claim f) x.frames (frame ∷ [])))
          (all_both x.heard (record { pairs = (Publish claim frame, reply) ∷ []; made = refl; heard = heard }));
    }

-- where no more is given all frames were published, and the rest waits
pub given_all : {A : Type 0} {alone : Bool} {said : History RingCall → ℕ → RingCall → A}
    {old now : History RingCall} {me claim : ℕ} {from to next : Pending}
    → GivenSoFar alone said old now me claim from to → Took to next [] → IsWaiting next.bytes
    → HeardAll alone said old now me (publishes claim (cut from.bytes).frames)
given_all {alone = alone} {said = said} {old = old} {now = now} {me = me} {claim = claim} {from = from} {next = next} x
    took waits =
    let all : (cut from.bytes).frames ≡ x.frames =
    x.took.in_order ∙ ap (λ l. x.frames ++ l)
    (took.in_order ∙ ap (λ (p : Parts). p.frames) (cut_waiting next.bytes waits)) ∙ append-nil x.frames in
    subst (λ (fs : List (List ℕ)). HeardAll alone said old now me (publishes claim fs)) (sym all) x.heard

pub given_cutter : {A : Type 0} {alone : Bool} {said : History RingCall → ℕ → RingCall → A}
    {old now : History RingCall} {me claim : ℕ} {from to next : Pending}
    → GivenSoFar alone said old now me claim from to → Took to next [] → IsWaiting next.bytes
    → next ≡ record { bytes = (cut from.bytes).rest; junk = from.junk + (cut from.bytes).junk }
given_cutter {from = from} {next = next} x took waits =
    let only : cut next.bytes ≡ only_rest next.bytes = cut_waiting next.bytes waits in
    let rest : (cut from.bytes).rest ≡ next.bytes =
    x.took.rest ∙ took.rest ∙ ap (λ (p : Parts). p.rest) only in
    let junk : from.junk + (cut from.bytes).junk ≡ next.junk =
    omega (arith, x.took.junk, took.junk, ap (λ (p : Parts). p.junk) only) in
    let pending : List ℕ → ℕ → Pending = λ bytes junk. record { bytes = bytes; junk = junk } in
    ap (λ (l : List ℕ). pending l next.junk) (sym rest) ∙ ap (λ (n : ℕ). pending (cut from.bytes).rest n) (sym junk)

-- where one is refused, each byte in front of it is in a frame that was published or is junk
pub given_refused : {A : Type 0} {alone : Bool} {said : History RingCall → ℕ → RingCall → A}
    {old mid now : History RingCall} {me claim : ℕ} {from to next : Pending} {frame : List ℕ}
    → GivenSoFar alone said old mid me claim from to → Took to next (frame ∷ []) → IsBehindJunk to next frame
    → now ≡ mid → (before : List ℕ) (sum : ℕ) → sum + from.junk ≡ length before
    → IsRefusedAt alone said old now me claim (cut from.bytes).frames (before ++ from.bytes) sum next.junk
given_refused {alone = alone} {said = said} {old = old} {mid = mid} {now = now} {me = me} {claim = claim} {from = from}
    {to = to} {next = next} {frame = frame} x took behind none before sum counted = record {
      given = x.frames;
      frame = frame;
      later = (cut next.bytes).frames;
      next = x.took.in_order ∙ ap (λ (l : List (List ℕ)). x.frames ++ l) took.in_order;
      made = subst (λ (h : History RingCall). HeardAll alone said old h me (publishes claim x.frames)) (sym none)
          x.heard;
      front = before ++ (x.passed ++ behind.junk);
      behind = next.bytes;
      split = ap (λ (l : List ℕ). before ++ l)
          (x.over ∙ ap (λ (l : List ℕ). x.passed ++ l) behind.split
          ∙ sym (append_assoc x.passed behind.junk (frame ++ next.bytes)))
          ∙ sym (append_assoc before (x.passed ++ behind.junk) (frame ++ next.bytes));
      counted = omega (
        arith,
        counted,
        x.took.counted,
        behind.added,
        ap length x.over,
        length-append x.passed to.bytes,
        length-append before (x.passed ++ behind.junk),
        length-append x.passed behind.junk,
      );
    }

-- the frames in front of one that is refused are the first of all
pub first_refused : {A : Type 0} {alone : Bool} {said : History RingCall → ℕ → RingCall → A}
    {old now : History RingCall} {me claim before junk : ℕ} {frames : List (List ℕ)} {bytes : List ℕ}
    → IsRefusedAt alone said old now me claim frames bytes before junk
    → HeardFirst alone said old now me (publishes claim frames)
first_refused {claim = claim} x = record {
  pairs = x.made.pairs;
  unmade = publishes claim (x.frame ∷ x.later);
  split = ap (publishes claim) x.next
      ∙ map-append (λ f. Publish claim f) x.given (x.frame ∷ x.later)
      ∙ ap (λ l. l ++ publishes claim (x.frame ∷ x.later)) (sym x.made.made);
  heard = x.made.heard;
}

-- ---- one turn

-- a turn is one call of the caller, with the call and the answer as they were matched
pub heard_as : {C A R : Type 0} {alone : Bool} {may : History C → ℕ → C → Bool} {said : History C → ℕ → C → A}
    {filled : History C → ℕ → C → R → R} {old now : History C} {me : ℕ} {call : C} {reply : A} {before after : R}
    (other : A) → Turned alone may said filled old now me call reply before after → reply ≡ other
    → Heard alone said old now me ((call, other) ∷ [])
heard_as {C = C} {A = A} {alone = alone} {said = said} {old = old} {now = now} {me = me} {call = call} other t is =
    subst (λ (r : A). Heard {C = C} {A = A} alone said old now me ((call, r) ∷ [])) is (heard_turn t)
