-- Where a session stands, with more of its body.
use Rattle.std.proofs.Common.{◌≡◌, ℕ, ◌+◌, ◌≤◌, ◌<◌, ◌^◌, Bool, List, [], ◌∷◌, ◌++◌, ◌-◌, length, take, drop, sum_by, get_or, length-drop, length-take-le, ap, ◌∙◌, sym, subst, arith, append_assoc, length-append, Option, None, Some}
use Rattle.std.proofs.lemmas.List.Sums.{sum_by-append}
use Rattle.std.proofs.lemmas.List.{append-nil, map-append, take_more, take_rest, take-append-drop}
use Rattle.std.specs.Prelude.{is_some, IsTrue}
use Rattle.rtcm_frame.specs.Cut.{cut, IsWaiting}
use Rattle.rtcm_frame.proofs.PendingLemmas.{fed_front}
use Rattle.rtcm_frame.specs.Pending.{Pending}
use Rattle.turn_log.specs.History.{History}
use Rattle.turn_log.specs.Heard.{HeardFirst}
use Rattle.turn_log.proofs.HeardLaws.{first_none}
use Rattle.chunk_body.specs.Machine.{Reading}
use Rattle.chunk_body.specs.Text.{IsOpen, HasEnded, IsBadAt}
use Rattle.chunk_body.proofs.TextLemmas.{ended_on, bad_on}
use Rattle.mount_ring.specs.declared.RingCall.{RingCall}
use Rattle.mount_ring.specs.declared.RingCall.TheVariants.{Publish}
use Rattle.source_session.specs.declared.fault.SourceHalt.{SourceHalt}
use Rattle.source_session.specs.declared.fault.SourceHalt.TheVariants.{Done, BadChunk, Worn, Memory}
use Rattle.source_session.specs.Body.{payload, frames_of, completed}
use Rattle.source_session.specs.Calls.{publishes, HeardAll, HeardBy, IsRefusedAt, IsRefusedIn}
use Rattle.source_session.specs.Standing.{cutter_at, GoesOnAt, EndsAt, BreaksAt, IsCutUp, IsCutShort, StandsBy}
use Rattle.source_session.proofs.BodyLemmas.{plain_ended, plain_bad, payload_short, payload_more, cut_few, rest_waits, completed_by, completed_none, completed_both, cutter_more, junk_more, frames_more, rest_behind, front_counted}
use Rattle.source_session.proofs.CallLemmas.{all_none, all_both, first_more, by_both}

-- ---- what has ended, is bad or was refused stays so

pub cut_up_on : (chunks : Option Reading) (cutter : Pending) (body more : List ℕ)
    → payload (is_some chunks) (body ++ more) ≡ payload (is_some chunks) body
    → IsCutUp chunks cutter body → IsCutUp chunks cutter (body ++ more)
cut_up_on chunks cutter body more same is = is ∙ ap cutter_at (sym same)

ended_same : (chunks : Option Reading) (body more : List ℕ) → EndsAt chunks body
    → payload (is_some chunks) (body ++ more) ≡ payload (is_some chunks) body
ended_same None body more ended = absurd ended
ended_same (Some reading) body more ended = plain_ended body more ended

bad_same : (chunks : Option Reading) (body more : List ℕ) (place : ℕ) → BreaksAt chunks body place
    → payload (is_some chunks) (body ++ more) ≡ payload (is_some chunks) body
bad_same None body more place bad = absurd bad
bad_same (Some reading) body more place bad = plain_bad body more place bad

ends_on : (chunks : Option Reading) (body more : List ℕ) → EndsAt chunks body → EndsAt chunks (body ++ more)
ends_on None body more ended = ended
ends_on (Some reading) body more ended = ended_on body more ended

breaks_on : (chunks : Option Reading) (body more : List ℕ) (place : ℕ) → BreaksAt chunks body place
    → BreaksAt chunks (body ++ more) place
breaks_on None body more place bad = bad
breaks_on (Some reading) body more place bad = bad_on body more place bad

short_on : (chunked : Bool) (cutter : Pending) (body more : List ℕ) → IsCutShort chunked cutter body
    → IsCutShort chunked cutter (body ++ more)
short_on chunked cutter body more x = record {
  front = x.front;
  behind = x.behind ++ more;
  split = ap (λ (l : List ℕ). l ++ more) x.split ∙ append_assoc x.front x.behind more;
  junk = x.junk;
}

-- ---- what was called until then

-- frames of a part that comes in two parts
pub publishes_both : (claim : ℕ) (c : Bool) (a b d : List ℕ)
    → publishes claim (completed c a (b ++ d)) ≡ publishes claim (completed c a b) ++ publishes claim
    (completed c (a ++ b) d)
publishes_both claim c a b d =
    ap (publishes claim) (completed_both c a b d)
    ∙ map-append (λ frame. Publish claim frame) (completed c a b) (completed c (a ++ b) d)

pub halted_on : (halt : SourceHalt) (chunks : Option Reading) (cutter : Pending) (body more : List ℕ)
    → StandsBy (Some halt) chunks cutter body → StandsBy (Some halt) chunks cutter (body ++ more)
halted_on Done chunks cutter body more x =
    (ends_on chunks body more x.0, cut_up_on chunks cutter body more (ended_same chunks body more x.0) x.1)
halted_on (BadChunk place) chunks cutter body more x =
    (breaks_on chunks body more place x.0, cut_up_on chunks cutter body more (bad_same chunks body more place x.0) x.1)
halted_on (Worn turns) chunks cutter body more x = short_on (is_some chunks) cutter body more x
halted_on Memory chunks cutter body more x = short_on (is_some chunks) cutter body more x

module _ {A : Type 0} (alone : Bool) (said : History RingCall → ℕ → RingCall → A) (me claim : ℕ) where
  pub published_more : (halt : Option SourceHalt) (old mid now : History RingCall) (c : Bool) (a b d : List ℕ)
      → HeardAll alone said old mid me (publishes claim (completed c a b))
      → HeardBy halt alone said mid now me (publishes claim (completed c (a ++ b) d))
      → HeardBy halt alone said old now me (publishes claim (completed c a (b ++ d)))
  published_more halt old mid now c a b d x y =
      subst (HeardBy halt alone said old now me) (sym (publishes_both claim c a b d))
      (by_both halt now (publishes claim (completed c (a ++ b) d)) x y)

  -- where nothing more is carried nothing more is called
  none_more : (old now : History RingCall) (c : Bool) (a b d : List ℕ)
      → payload c ((a ++ b) ++ d) ≡ payload c (a ++ b)
      → HeardAll alone said old now me (publishes claim (completed c a b))
      → HeardAll alone said old now me (publishes claim (completed c a (b ++ d)))
  none_more old now c a b d same x =
      subst (HeardAll alone said old now me)
      (sym (publishes_both claim c a b d
      ∙ ap (λ (fs : List (List ℕ)). publishes claim (completed c a b) ++ publishes claim fs)
      (completed_none c (a ++ b) d same)
      ∙ append-nil (publishes claim (completed c a b)))) x

  pub none_called : (h : History RingCall) (c : Bool) (a b : List ℕ) → payload c (a ++ b) ≡ payload c a
      → HeardAll alone said h h me (publishes claim (completed c a b))
  none_called h c a b same =
      subst (λ (fs : List (List ℕ)). HeardAll alone said h h me (publishes claim fs)) (sym (completed_none c a b same))
      (all_none alone said h me)

  -- what was called until a halt is all that is called, whatever comes behind
  pub published_on : (halt : SourceHalt) (chunks : Option Reading) (cutter : Pending) (old now : History RingCall)
      (a b d : List ℕ) → StandsBy (Some halt) chunks cutter (a ++ b)
      → HeardBy (Some halt) alone said old now me (publishes claim (completed (is_some chunks) a b))
      → HeardBy (Some halt) alone said old now me (publishes claim (completed (is_some chunks) a (b ++ d)))
  published_on Done chunks cutter old now a b d stands x =
      none_more old now (is_some chunks) a b d (ended_same chunks (a ++ b) d stands.0) x
  published_on (BadChunk place) chunks cutter old now a b d stands x =
      none_more old now (is_some chunks) a b d (bad_same chunks (a ++ b) d place stands.0) x
  published_on (Worn turns) chunks cutter old now a b d stands x =
      subst (HeardFirst alone said old now me) (sym (publishes_both claim (is_some chunks) a b d))
      (first_more (publishes claim (completed (is_some chunks) (a ++ b) d)) x)
  published_on Memory chunks cutter old now a b d stands x =
      subst (HeardFirst alone said old now me) (sym (publishes_both claim (is_some chunks) a b d))
      (first_more (publishes claim (completed (is_some chunks) (a ++ b) d)) x)

  -- a session that was halted before calls nothing
  pub halted_none : (halt : SourceHalt) (chunks : Option Reading) (cutter : Pending) (h : History RingCall)
      (a b : List ℕ) → StandsBy (Some halt) chunks cutter a
      → HeardBy (Some halt) alone said h h me (publishes claim (completed (is_some chunks) a b))
  halted_none Done chunks cutter h a b stands =
      subst (λ (fs : List (List ℕ)). HeardAll alone said h h me (publishes claim fs))
      (sym (completed_none (is_some chunks) a b (ended_same chunks a b stands.0))) (all_none alone said h me)
  halted_none (BadChunk place) chunks cutter h a b stands =
      subst (λ (fs : List (List ℕ)). HeardAll alone said h h me (publishes claim fs))
      (sym (completed_none (is_some chunks) a b (bad_same chunks a b place stands.0))) (all_none alone said h me)
  halted_none (Worn turns) chunks cutter h a b stands =
      first_none alone said h me (publishes claim (completed (is_some chunks) a b))
  halted_none Memory chunks cutter h a b stands =
      first_none alone said h me (publishes claim (completed (is_some chunks) a b))

-- ---- room to count

-- what waits and the junk are no more than the body
pub cut_up_few : (chunks : Option Reading) (cutter : Pending) (body : List ℕ) → IsCutUp chunks cutter body
    → cutter.junk + length cutter.bytes ≤ length body
cut_up_few chunks cutter body is =
    let carried : List ℕ = payload (is_some chunks) body in
    omega (
      arith,
      ap (λ (p : Pending). p.junk + length p.bytes) is,
      cut_few carried,
      payload_short (is_some chunks)
          body,
    )

-- what waits is no whole frame
pub cut_up_waits : (chunks : Option Reading) (cutter : Pending) (body : List ℕ) → IsCutUp chunks cutter body
    → IsWaiting cutter.bytes
cut_up_waits chunks cutter body is =
    subst (λ (p : Pending). IsWaiting p.bytes) (sym is) (rest_waits (payload (is_some chunks) body))

abbrev pub with_bytes : Pending → List ℕ → Pending
with_bytes cutter more = record { bytes = cutter.bytes ++ more; junk = cutter.junk }

-- so there is room to count as junk what waits with more bytes
pub room_for : (chunks : Option Reading) (cutter pushed : Pending) (body y : List ℕ) → IsCutUp chunks cutter body
    → pushed ≡ with_bytes cutter y → length body + length y < 2 ^ 63 → pushed.junk + length pushed.bytes < 2 ^ 64
room_for chunks cutter pushed body y is behind few =
    omega (
      arith,
      cut_up_few chunks cutter body is,
      ap (λ (p : Pending). p.junk) behind,
      ap (λ (p : Pending). length p.bytes) behind,
      length-append cutter.bytes y,
      few,
    )

-- ---- a cutter that takes what more of the body carries

module _ (c : Bool) (cutter pushed : Pending) (body more y : List ℕ) (at : cutter ≡ cutter_at (payload c body))
    (behind : pushed ≡ with_bytes cutter y) (carries : payload c (body ++ more) ≡ payload c body ++ y) where
  pushed_is : pushed ≡ with_bytes (cutter_at (payload c body)) y
  pushed_is = behind ∙ ap (λ (p : Pending). with_bytes p y) at

  -- the frames that it then holds are those that are completed
  pub frames_pushed : (cut pushed.bytes).frames ≡ completed c body more
  frames_pushed = ap (λ (p : Pending). (cut p.bytes).frames) pushed_is ∙ sym (completed_by c body more y carries)

  junk_pushed : pushed.junk + (cut pushed.bytes).junk ≡ (cut (payload c (body ++ more))).junk
  junk_pushed =
      ap (λ (p : Pending). p.junk + (cut p.bytes).junk) pushed_is
      ∙ junk_more (payload c body) y
      ∙ ap (λ (l : List ℕ). (cut l).junk) (sym carries)

  -- and with them given it stands for the longer body
  pub cutter_pushed : (now : Pending)
      → now ≡ record { bytes = (cut pushed.bytes).rest; junk = pushed.junk + (cut pushed.bytes).junk }
      → now ≡ cutter_at (payload c (body ++ more))
  cutter_pushed now is =
      is ∙ ap given pushed_is ∙ cutter_more (payload c body) y ∙ ap cutter_at (sym carries)
    where
      given : Pending → Pending
      given p = record { bytes = (cut p.bytes).rest; junk = p.junk + (cut p.bytes).junk }

  -- where a frame is refused
  pub short_pushed : (now : Pending)
      → now.junk + (cut now.bytes).junk ≡ pushed.junk + (cut pushed.bytes).junk → IsCutShort c now (body ++ more)
  short_pushed now is = record {
    front = body ++ more;
    behind = [];
    split = sym (append-nil (body ++ more));
    junk = is ∙ junk_pushed;
  }

-- ---- a refused turn

-- a cutter that took what more of the body carries: where a frame of these is refused, the bytes in
-- front of what it held before are in frames of the body before or are junk
module _ {A : Type 0} (alone : Bool) (said : History RingCall → ℕ → RingCall → A) (old now : History RingCall)
    (me claim : ℕ) (c : Bool) (cutter pushed : Pending) (body more y : List ℕ) (junk : ℕ)
    (at : cutter ≡ cutter_at (payload c body)) (behind : pushed ≡ with_bytes cutter y)
    (carries : payload c (body ++ more) ≡ payload c body ++ y) where
  pub refused_pushed : ((before : List ℕ) (sum : ℕ) → sum + pushed.junk ≡ length before
      → IsRefusedAt alone said old now me claim (cut pushed.bytes).frames (before ++ pushed.bytes) sum junk)
      → IsRefusedIn alone said old now me claim c body more junk
  refused_pushed refused =
      let x : List ℕ = payload c body in
      let front = rest_behind x in
      let is : pushed ≡ with_bytes (cutter_at x) y = behind ∙ ap (λ (p : Pending). with_bytes p y) at in
      let sum : ℕ = sum_by length (frames_of c body) in
      let counted : sum + pushed.junk ≡ length front.0 =
      ap (λ (p : Pending). sum + p.junk) is ∙ front_counted x in
      let bytes : front.0 ++ pushed.bytes ≡ payload c (body ++ more) =
      ap (λ (p : Pending). front.0 ++ p.bytes) is
      ∙ sym (append_assoc front.0 (cut x).rest y)
      ∙ ap (λ (l : List ℕ). l ++ y) (sym front.1)
      ∙ sym carries
      in
      subst (λ (l : List ℕ). IsRefusedAt alone said old now me claim (completed c body more) l sum junk) bytes
      (subst (λ (fs : List (List ℕ)). IsRefusedAt alone said old now me claim fs (front.0 ++ pushed.bytes) sum junk)
      (frames_pushed c cutter pushed body more y at behind carries) (refused front.0 sum counted))

-- behind calls that were all made, and whatever bytes come then
pub refused_within : {A : Type 0} (alone : Bool) (said : History RingCall → ℕ → RingCall → A) (me claim : ℕ)
    (c : Bool) (old mid now : History RingCall) (body front more rest bytes : List ℕ) (junk : ℕ)
    → (front ++ more) ++ rest ≡ bytes
    → HeardAll alone said old mid me (publishes claim (completed c body front))
    → IsRefusedIn alone said mid now me claim c (body ++ front) more junk
    → IsRefusedIn alone said old now me claim c body bytes junk
refused_within alone said me claim c old mid now body front more rest bytes junk split heard x =
    let first : List (List ℕ) = completed c body front in
    let before : List ℕ = body ++ (front ++ more) in
    let last : List (List ℕ) = completed c before rest in
    let same : (body ++ front) ++ more ≡ before = append_assoc body front more in
    let ends : before ++ rest ≡ body ++ bytes =
    append_assoc body (front ++ more) rest ∙ ap (λ (l : List ℕ). body ++ l) split in
    let carries = payload_more c before rest in
    record {
      given = first ++ x.given;
      frame = x.frame;
      later = x.later ++ last;
      next = ap (completed c body) (sym split)
          ∙ completed_both c body (front ++ more) rest
          ∙ ap (λ (l : List (List ℕ)). l ++ last) (completed_both c body front more
          ∙ ap (λ (l : List (List ℕ)). first ++ l) x.next)
          ∙ ap (λ (l : List (List ℕ)). l ++ last) (sym (append_assoc first x.given (x.frame ∷ x.later)))
          ∙ append_assoc (first ++ x.given) (x.frame ∷ x.later) last;
      made = subst (HeardAll alone said old now me) (sym (map-append (λ frame. Publish claim frame) first x.given))
          (all_both heard x.made);
      front = x.front;
      behind = x.behind ++ carries.0;
      split = ap (payload c) (sym ends)
          ∙ carries.1
          ∙ ap (λ (l : List ℕ). l ++ carries.0) (ap (payload c) (sym same) ∙ x.split)
          ∙ append_assoc x.front (x.frame ++ x.behind) carries.0
          ∙ ap (λ (l : List ℕ). x.front ++ l) (append_assoc x.frame x.behind carries.0);
      counted = omega (
        arith,
        x.counted,
        ap (sum_by length) (frames_more c body front),
        sum_by-append length (frames_of c body) first,
        sum_by-append length first x.given,
      );
    }

-- ---- the same by other names of equal things

pub by_same : {A : Type 0} {alone still : Bool} {said says : History RingCall → ℕ → RingCall → A}
    (halt : Option SourceHalt) (old now : History RingCall) (me : ℕ) (calls : List RingCall) → still ≡ alone
    → says ≡ said → HeardBy halt still says old now me calls → HeardBy halt alone said old now me calls
by_same {alone = alone} {still = still} {said = said} {says = says} halt old now me calls same names x =
    subst (λ a. HeardBy halt a said old now me calls) same
    (subst (λ f. HeardBy halt still f old now me calls) names x)

pub refused_same : {A : Type 0} {alone still : Bool} {said says : History RingCall → ℕ → RingCall → A}
    (old now : History RingCall) (me claim : ℕ) (c : Bool) (body more : List ℕ) (junk : ℕ) → still ≡ alone
    → says ≡ said → IsRefusedIn still says old now me claim c body more junk
    → IsRefusedIn alone said old now me claim c body more junk
refused_same {alone = alone} {still = still} {said = said} {says = says} old now me claim c body more junk same names x
    =
    subst (λ a. IsRefusedIn a said old now me claim c body more junk) same
    (subst (λ f. IsRefusedIn still f old now me claim c body more junk) names x)

-- ---- a halt within the bytes

-- what stands behind it changes nothing
pub stands_within : (halt : SourceHalt) (chunks : Option Reading) (cutter : Pending)
    (body front more rest bytes : List ℕ)
    → (front ++ more) ++ rest ≡ bytes → StandsBy (Some halt) chunks cutter ((body ++ front) ++ more)
    → StandsBy (Some halt) chunks cutter (body ++ bytes)
stands_within halt chunks cutter body front more rest bytes split stands =
    subst (StandsBy (Some halt) chunks cutter)
    (ap (λ (l : List ℕ). l ++ rest) (append_assoc body front more)
    ∙ append_assoc body (front ++ more) rest
    ∙ ap (λ (l : List ℕ). body ++ l) split)
    (halted_on halt chunks cutter ((body ++ front) ++ more) rest stands)

pub published_within : {A : Type 0} (alone : Bool) (said : History RingCall → ℕ → RingCall → A) (me claim : ℕ)
    (halt : SourceHalt) (chunks : Option Reading) (cutter : Pending) (old mid now : History RingCall)
    (body front more rest bytes : List ℕ)
    → (front ++ more) ++ rest ≡ bytes → StandsBy (Some halt) chunks cutter ((body ++ front) ++ more)
    → HeardAll alone said old mid me (publishes claim (completed (is_some chunks) body front))
    → HeardBy (Some halt) alone said mid now me (publishes claim (completed (is_some chunks) (body ++ front) more))
    → HeardBy (Some halt) alone said old now me (publishes claim (completed (is_some chunks) body bytes))
published_within alone said me claim halt chunks cutter old mid now body front more rest bytes split stands x y =
    let c : Bool = is_some chunks in
    subst (λ (l : List ℕ). HeardBy (Some halt) alone said old now me (publishes claim (completed c body l))) split
    (published_on alone said me claim halt chunks cutter old now body (front ++ more) rest
    (subst (StandsBy (Some halt) chunks cutter) (append_assoc body front more) stands)
    (published_more alone said me claim (Some halt) old mid now c body front more x y))

-- bytes in front of one, that byte, and those behind it
pub one_within : (bytes : List ℕ) (i byte : ℕ) → i < length bytes → byte ≡ get_or bytes i 0
    → (take i bytes ++ byte ∷ []) ++ drop (i + 1) bytes ≡ bytes
one_within bytes i byte within is =
    ap (λ (l : List ℕ). l ++ drop (i + 1) bytes)
    (ap (λ (b : ℕ). take i bytes ++ b ∷ []) is ∙ sym (take_more bytes i 0 within))
    ∙ take-append-drop (i + 1) bytes

-- bytes in front of a block, the block, and those behind it
pub block_within : (bytes : List ℕ) (at count : ℕ)
    → (take at bytes ++ take count (take (length bytes - at) (drop at bytes))) ++ drop (at + count) bytes ≡ bytes
block_within bytes at count =
    ap (λ (l : List ℕ). l ++ drop (at + count) bytes) (fed_front bytes at count)
    ∙ take-append-drop (at + count) bytes

pub block_left : (bytes : List ℕ) (at : ℕ) → length (take (length bytes - at) (drop at bytes)) ≡ length bytes - at
block_left bytes at = ap length (take_rest bytes at) ∙ length-drop at bytes

pub block_few : (body bytes : List ℕ) (at count : ℕ) → at ≤ length bytes
    → count ≤ length (take (length bytes - at) (drop at bytes)) → length body + length bytes < 2 ^ 63
    → length (body ++ take at bytes) + length (take count (take (length bytes - at) (drop at bytes))) < 2 ^ 63
block_few body bytes at count within fits few =
    omega (
      arith,
      length-append body (take at bytes),
      length-take-le at bytes within,
      length-take-le count (take (length bytes - at) (drop at bytes)) fits,
      block_left bytes at,
      fits,
      within,
      few,
    )

-- more of the body, as the loops take it
pub body_more : (body front more next : List ℕ) → front ++ more ≡ next → (body ++ front) ++ more ≡ body ++ next
body_more body front more next is = append_assoc body front more ∙ ap (λ (l : List ℕ). body ++ l) is

short_most : (c : Bool) (cutter : Pending) (body : List ℕ) → IsCutShort c cutter body
    → cutter.junk ≤ (cut (payload c body)).junk
short_most c cutter body x =
    let more = payload_more c x.front x.behind in
    omega (
      arith,
      x.junk,
      junk_more (payload c x.front) more.0,
      ap (λ (l : List ℕ). (cut l).junk) more.1,
      ap (λ (l : List ℕ). (cut (payload c l)).junk) x.split,
    )

-- the junk is no more than that of the whole body
pub junk_most : (halt : Option SourceHalt) (chunks : Option Reading) (cutter : Pending) (body : List ℕ)
    → StandsBy halt chunks cutter body → cutter.junk ≤ (cut (payload (is_some chunks) body)).junk
junk_most None chunks cutter body x = omega (arith, ap (λ (p : Pending). p.junk) x.1)
junk_most (Some Done) chunks cutter body x = omega (arith, ap (λ (p : Pending). p.junk) x.1)
junk_most (Some (BadChunk place)) chunks cutter body x = omega (arith, ap (λ (p : Pending). p.junk) x.1)
junk_most (Some (Worn turns)) chunks cutter body x = short_most (is_some chunks) cutter body x
junk_most (Some Memory) chunks cutter body x = short_most (is_some chunks) cutter body x

-- a session that was halted stands for more of the body
pub stands_on : (before : Option SourceHalt) (halt : SourceHalt) (chunks : Option Reading) (cutter : Pending)
    (body more : List ℕ) → before ≡ Some halt → StandsBy before chunks cutter body
    → StandsBy before chunks cutter (body ++ more)
stands_on before halt chunks cutter body more is stands =
    subst (λ (o : Option SourceHalt). StandsBy o chunks cutter (body ++ more)) (sym is)
    (halted_on halt chunks cutter body more (subst (λ (o : Option SourceHalt). StandsBy o chunks cutter body) is
    stands))

pub halted_calls : {A : Type 0} (alone : Bool) (said : History RingCall → ℕ → RingCall → A) (me claim : ℕ)
    (before : Option SourceHalt) (halt : SourceHalt) (chunks : Option Reading) (cutter : Pending) (h : History RingCall)
    (a b : List ℕ) → before ≡ Some halt → StandsBy before chunks cutter a
    → HeardBy before alone said h h me (publishes claim (completed (is_some chunks) a b))
halted_calls alone said me claim before halt chunks cutter h a b is stands =
    subst (λ (o : Option SourceHalt). HeardBy o alone said h h me (publishes claim (completed (is_some chunks) a b)))
    (sym is)
    (halted_none alone said me claim halt chunks cutter h a b
    (subst (λ (o : Option SourceHalt). StandsBy o chunks cutter a) is stands))

-- ---- what a halt tells

open_some : (chunks : Option Reading) (body : List ℕ) → GoesOnAt chunks body → IsTrue (is_some chunks) → IsOpen body
open_some None body goes chunked = absurd cc
open_some (Some reading) body goes chunked = goes.1

ended_some : (chunks : Option Reading) (body : List ℕ) → EndsAt chunks body → HasEnded body
ended_some None body ended = absurd ended
ended_some (Some reading) body ended = ended

bad_some : (chunks : Option Reading) (body : List ℕ) (place : ℕ) → BreaksAt chunks body place → IsBadAt body place
bad_some None body place bad = absurd bad
bad_some (Some reading) body place bad = bad

pub open_at_none : (halt : Option SourceHalt) (chunks : Option Reading) (cutter : Pending) (body : List ℕ)
    → halt ≡ None → IsTrue (is_some chunks) → StandsBy halt chunks cutter body → IsOpen body
open_at_none halt chunks cutter body at chunked stands =
    open_some chunks body (subst (λ (o : Option SourceHalt). StandsBy o chunks cutter body) at stands).0 chunked

pub ended_at_done : (halt : Option SourceHalt) (chunks : Option Reading) (cutter : Pending) (body : List ℕ)
    → halt ≡ Some Done → StandsBy halt chunks cutter body → HasEnded body
ended_at_done halt chunks cutter body at stands =
    ended_some chunks body (subst (λ (o : Option SourceHalt). StandsBy o chunks cutter body) at stands).0

pub bad_at_fault : (halt : Option SourceHalt) (chunks : Option Reading) (cutter : Pending) (body : List ℕ) (place : ℕ)
    → halt ≡ Some (BadChunk place) → StandsBy halt chunks cutter body → IsBadAt body place
bad_at_fault halt chunks cutter body place at stands =
    bad_some chunks body place (subst (λ (o : Option SourceHalt). StandsBy o chunks cutter body) at stands).0
