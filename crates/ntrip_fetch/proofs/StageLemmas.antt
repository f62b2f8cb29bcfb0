-- From the head of an answer to its body.
use Rattle.std.proofs.Common.{◌≡◌, ◌≢◌, ◌≤◌, ◌<◌, ℕ, Bool, true, false, List, [], ◌++◌, length, take, drop, Option, None, Some, refl, ap, sym, subst, ◌∙◌, arith, length-take}
use Rattle.std.specs.Prelude.{is_some}
use Rattle.std.proofs.lemmas.List.{drop-append-le, take_all}
use Rattle.std.proofs.Math.Seq.{drop-append_seam}
use Rattle.rtcm_frame.specs.Cut.{IsWaiting}
use Rattle.rtcm_frame.specs.Pending.{Pending, Gave}
use Rattle.rtcm_frame.proofs.PendingLemmas.{gave_start}
use Rattle.chunk_body.specs.Machine.{Reading}
use Rattle.chunk_body.specs.Answer.{plain_of}
use Rattle.source_session.specs.Body.{payload}
use Rattle.source_session.specs.Standing.{GoesOnAt}
use Rattle.ntrip_client.specs.declared.answer.Answer.{Answer}
use Rattle.ntrip_client.specs.declared.answer.Answer.TheVariants.{Open, Accepted, Refused}
use Rattle.ntrip_client.specs.declared.answer.Refusal.{Refusal}
use Rattle.ntrip_client.specs.declared.answer.Refusal.TheVariants as refusals
use Rattle.ntrip_client.specs.Answer.{IsAnswer}
use Rattle.ntrip_client.proofs.OnceLemmas.{answer_stays}
use Rattle.ntrip_fetch.specs.declared.left.Left.{Left}
use Rattle.ntrip_fetch.specs.declared.left.Left.TheVariants.{Enough, Dial, End, LinkFault, BadHead, LongHead, Coding, Table, Status, Done, BadChunk}
use Rattle.ntrip_fetch.specs.declared.body.Body.{Body}
use Rattle.ntrip_fetch.specs.declared.fetch_stage.FetchStage.{FetchStage}
use Rattle.ntrip_fetch.specs.declared.fetch_stage.FetchStage.TheVariants as stages
use Rattle.ntrip_fetch.specs.Answered.{answered, MayFollow, IsWanting}
use Rattle.ntrip_fetch.specs.Writing.{HasWritten, IsTorn, wanted}
use Rattle.ntrip_fetch.proofs.WritingLemmas.{written_all}
use Rattle.ntrip_fetch.specs.Stages.{left_of, IsAtBody, BodyIs, IsBodyLeft, IsAtStage, IsDecided, StageLeft, StageIs, StageTorn}

-- ---- a body begins

payload_none : (chunked : Bool) → payload chunked [] ≡ []
unfolding plain_of
payload_none false = refl
payload_none true = refl

pub body_begins : (start now : Option (List ℕ)) (most : ℕ) (chunks : Option Reading) (cutter : Pending) (count : ℕ)
    → GoesOnAt chunks [] → cutter ≡ record { bytes = []; junk = 0 } → HasWritten start now [] count → 0 < most
    → IsAtBody start now most chunks cutter [] count
body_begins start now most chunks cutter count goes is wrote some = record {
  goes_on = goes;
  writing = record {
    given = [];
    gave = subst (λ l. Gave [] l cutter) (sym (payload_none (is_some chunks))) (subst (Gave [] []) (sym is) gave_start);
    wrote = wrote.wrote;
    counted = wrote.counted;
  };
  waits = subst (λ (p : Pending). IsWaiting p.bytes) (sym is) refl;
  fewer = omega (arith, wrote.counted, some);
}

-- ---- an answer that is there

accepted_said : (at : ℕ) (chunked : Bool) → Accepted at chunked ≢ Open
accepted_said at chunked same = absurd cc

refused_said : (why : Refusal) → Refused why ≢ Open
refused_said why same = absurd cc

-- ---- a body by what the whole answer says

decided_by : (most at : ℕ) (chunked : Bool) (bytes : List ℕ) (count : ℕ) (left : Left)
    → IsBodyLeft most chunked (drop at bytes) count left → IsDecided most (Accepted at chunked) bytes count left
decided_by most at chunked bytes count Enough x = x
decided_by most at false bytes count Done x = absurd x
decided_by most at true bytes count Done x = x
decided_by most at false bytes count (BadChunk place) x = absurd x
decided_by most at true bytes count (BadChunk place) x = x
decided_by most at chunked bytes count Dial x = absurd x
decided_by most at chunked bytes count End x = absurd x
decided_by most at chunked bytes count LinkFault x = absurd x
decided_by most at chunked bytes count BadHead x = absurd x
decided_by most at chunked bytes count LongHead x = absurd x
decided_by most at chunked bytes count Coding x = absurd x
decided_by most at chunked bytes count Table x = absurd x
decided_by most at chunked bytes count (Status status) x = absurd x

pub body_is : (start now : Option (List ℕ)) (most : ℕ) (body : Body) (bytes : List ℕ) (at count : ℕ)
    (left : Option Left) → IsAnswer bytes (Accepted at (is_some body.chunks))
    → BodyIs start now most body.chunks body.cutter (drop at bytes) count left
    → StageIs start now most (stages.Body body) bytes count left
body_is start now most body bytes at count None says x = record { at = at; says = says; stands = x }
body_is start now most body bytes at count (Some left) says x = record {
  answer = Accepted at (is_some body.chunks);
  says = says;
  wrote = x.wrote;
  why = decided_by most at (is_some body.chunks) bytes count left x.why;
}

-- the body that begins behind a head
pub begun_is : (start now : Option (List ℕ)) (most : ℕ) (body : Body) (head rest bytes : List ℕ) (count : ℕ)
    (left : Option Left) (chunked : Bool) → head ++ rest ≡ bytes → IsAnswer head (Accepted (length head) chunked)
    → is_some body.chunks ≡ chunked
    → BodyIs start now most body.chunks body.cutter ([] ++ rest) count left
    → StageIs start now most (stages.Body body) bytes count left
begun_is start now most body head rest bytes count left chunked is says same x =
    let at = length head in
    let behind : rest ≡ drop at bytes = sym (drop-append_seam head rest) ∙ ap (drop at) is in
    let whole : IsAnswer bytes (Accepted at (is_some body.chunks)) =
    subst (λ c. IsAnswer bytes (Accepted at c)) (sym same)
    (subst (λ l. IsAnswer l (Accepted at chunked)) is
    (answer_stays head rest (Accepted at chunked) (accepted_said at chunked) says)) in
    body_is start now most body bytes at count left whole
    (subst (λ l. BodyIs start now most body.chunks body.cutter l count left) behind x)

pub begun_torn : (start now : Option (List ℕ)) (most : ℕ) (head rest bytes : List ℕ) (chunked other : Bool)
    → head ++ rest ≡ bytes → IsAnswer head (Accepted (length head) chunked) → other ≡ chunked
    → IsTorn start now (wanted most (payload other ([] ++ rest))) → StageTorn start now most bytes
begun_torn start now most head rest bytes chunked other is says same torn =
    let at = length head in
    let behind : rest ≡ drop at bytes = sym (drop-append_seam head rest) ∙ ap (drop at) is in (
      Accepted at chunked,
      subst (λ l. IsAnswer l (Accepted at chunked)) is
          (answer_stays head rest (Accepted at chunked) (accepted_said at chunked) says),
      subst (λ c. IsTorn start now (wanted most (payload c (drop at bytes)))) same
          (subst (λ l. IsTorn start now (wanted most (payload other l))) behind torn),
    )

-- more of a body that goes on
pub body_more : (start now : Option (List ℕ)) (most : ℕ) (old new : Body) (before bytes : List ℕ) (at count : ℕ)
    (left : Option Left) → IsAnswer before (Accepted at (is_some old.chunks))
    → is_some new.chunks ≡ is_some old.chunks
    → BodyIs start now most new.chunks new.cutter (drop at before ++ bytes) count left
    → StageIs start now most (stages.Body new) (before ++ bytes) count left
body_more start now most old new before bytes at count left says same x =
    let within : at ≤ length before = says.0 in
    body_is start now most new (before ++ bytes) at count left
    (subst (λ c. IsAnswer (before ++ bytes) (Accepted at c)) (sym same)
    (answer_stays before bytes (Accepted at (is_some old.chunks)) (accepted_said at (is_some old.chunks)) says))
    (subst (λ l. BodyIs start now most new.chunks new.cutter l count left) (sym (drop-append-le at before bytes within))
    x)

pub body_torn : (start now : Option (List ℕ)) (most : ℕ) (chunked : Bool) (before bytes : List ℕ) (at : ℕ)
    → IsAnswer before (Accepted at chunked)
    → IsTorn start now (wanted most (payload chunked (drop at before ++ bytes)))
    → StageTorn start now most (before ++ bytes)
body_torn start now most chunked before bytes at says torn =
    let within : at ≤ length before = says.0 in (
      Accepted at chunked,
      answer_stays before bytes (Accepted at chunked) (accepted_said at chunked) says,
      subst (λ l. IsTorn start now (wanted most (payload chunked l))) (sym (drop-append-le at before bytes within))
          torn,
    )

-- ---- no body

refused_by : (most : ℕ) (bytes : List ℕ) (count : ℕ) (why : Refusal)
    → IsDecided most (Refused why) bytes count (left_of why)
refused_by most bytes count refusals.BadHead = refl
refused_by most bytes count refusals.LongHead = refl
refused_by most bytes count refusals.Coding = refl
refused_by most bytes count refusals.Table = refl
refused_by most bytes count (refusals.Status status) = refl

-- of no frames none are wanted
abbrev pub no_frames : List (List ℕ)
no_frames = []

pub take_none : (n : ℕ) → no_frames ≡ take n no_frames
take_none n = sym (take_all n no_frames (omega arith))

pub refused_left : (start now : Option (List ℕ)) (most : ℕ) (head rest bytes : List ℕ) (count : ℕ) (why : Refusal)
    (left : Left) → head ++ rest ≡ bytes → IsAnswer head (Refused why) → left ≡ left_of why
    → HasWritten start now [] count → StageLeft start now most bytes count left
refused_left start now most head rest bytes count why left is says same wrote = record {
  answer = Refused why;
  says = subst (λ l. IsAnswer l (Refused why)) is (answer_stays head rest (Refused why) (refused_said why) says);
  wrote = subst (λ fs. HasWritten start now fs count) (take_none most) wrote;
  why = subst (IsDecided most (Refused why) bytes count) (sym same) (refused_by most bytes count why);
}

-- ---- more is wanted

follows_open : (at : ℕ) (chunks : Option Reading) (bytes : List ℕ) → GoesOnAt chunks (drop at bytes)
    → MayFollow (Accepted at (is_some chunks)) bytes
follows_open at None bytes goes = tt
follows_open at (Some reading) bytes goes = goes.1

-- what a fetch that goes on says of the bytes so far
pub record StillOpen (start now : Option (List ℕ)) (most : ℕ) (bytes : List ℕ) (count : ℕ) : Type 0 where
  pub answer : Answer
  pub says : IsAnswer bytes answer
  pub follows : MayFollow answer bytes
  pub fewer : count < most
  pub wrote : HasWritten start now (take most (answered answer bytes)) count

pub open_at : (start now : Option (List ℕ)) (most : ℕ) (stage : FetchStage) (bytes : List ℕ) (count : ℕ) → 0 < most
    → IsAtStage start now most stage bytes count → StillOpen start now most bytes count
open_at start now most (stages.Head head) bytes count some x = record {
  answer = Open;
  says = x.1;
  follows = tt;
  fewer = omega (arith, x.2.counted, some);
  wrote = subst (λ fs. HasWritten start now fs count) (take_none most) x.2;
}
open_at start now most (stages.Body body) bytes count some x = let stands = x.stands in record {
  answer = Accepted x.at (is_some body.chunks);
  says = x.says;
  follows = follows_open x.at body.chunks bytes stands.goes_on;
  fewer = stands.fewer;
  wrote = written_all start now (payload (is_some body.chunks) (drop x.at bytes)) body.cutter count most stands.writing
      stands.waits (omega (arith, stands.fewer));
}

pub wanting : (start now : Option (List ℕ)) (most : ℕ) (bytes : List ℕ) (count : ℕ)
    → StillOpen start now most bytes count → IsWanting most bytes
wanting start now most bytes count x = record {
  answer = x.answer;
  says = x.says;
  follows = x.follows;
  fewer = omega (arith, x.fewer, x.wrote.counted, length-take most (answered x.answer bytes));
}
