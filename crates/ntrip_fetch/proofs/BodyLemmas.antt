-- A body of which more came.
use Rattle.std.proofs.Common.{◌≡◌, ◌≤◌, ◌<◌, ◌+◌, ℕ, Bool, true, false, List, [], ◌∷◌, ◌++◌, length, take, Option, None, Some, refl, ap, sym, subst, ◌∙◌, inl, inr, arith, length-take, drop, get_or, append_assoc}
use Rattle.std.specs.Prelude.{is_some}
use Rattle.std.proofs.lemmas.Bool.{cases_lt}
use Rattle.std.proofs.lemmas.List.{take-append-le, take-append-drop, take_more}
use Rattle.rtcm_frame.specs.Cut.{cut, Parts, IsWaiting}
use Rattle.rtcm_frame.specs.Pending.{Pending}
use Rattle.rtcm_frame.proofs.CutLemmas.{cut-append}
use Rattle.chunk_body.specs.Machine.{Reading}
use Rattle.chunk_body.proofs.ReadingLemmas.{taken_most}
use Rattle.chunk_body.proofs.TextLemmas.{ended_on, bad_on}
use Rattle.source_session.specs.Body.{payload}
use Rattle.source_session.specs.Standing.{GoesOnAt}
use Rattle.source_session.proofs.BodyLemmas.{payload_short, payload_more, plain_ended, plain_bad}
use Rattle.ntrip_fetch.specs.declared.left.Left.{Left}
use Rattle.ntrip_fetch.specs.declared.left.Left.TheVariants.{Enough, Dial, End, LinkFault, BadHead, LongHead, Coding, Table, Status, Done, BadChunk}
use Rattle.ntrip_fetch.specs.Writing.{IsWriting, HasWritten, IsTorn, wanted}
use Rattle.ntrip_fetch.specs.Stages.{IsAtBody, BodyLeft, BodyIs, IsBodyLeft}
use Rattle.ntrip_fetch.proofs.WritingLemmas.{torn_more}

-- ---- how much a body holds back

-- a cutter holds no more than came
pub holds_few : (start now : Option (List ℕ)) (most : ℕ) (chunks : Option Reading) (cutter : Pending) (text : List ℕ)
    (count : ℕ) → IsAtBody start now most chunks cutter text count → cutter.junk + length cutter.bytes ≤ length text
holds_few start now most chunks cutter text count x =
    omega (arith, x.writing.gave.counted, payload_short (is_some chunks) text)

-- nor did a reader of chunks take more
pub read_few : (start now : Option (List ℕ)) (most : ℕ) (reading : Reading) (cutter : Pending) (text : List ℕ)
    (count : ℕ) → IsAtBody start now most (Some reading) cutter text count → reading.taken ≤ length text
read_few start now most reading cutter text count x =
    omega (arith, ap (λ (r : Reading). r.taken) x.goes_on.0, taken_most text)

-- ---- a body after a part of it was written

-- enough were written, or the body goes on
pub now_is : (start now : Option (List ℕ)) (most : ℕ) (chunks : Option Reading) (cutter : Pending) (text : List ℕ)
    (count : ℕ) (left : Option Left) → (count ≡ most → left ≡ Some Enough) → (count < most → left ≡ None)
    → count ≤ most → GoesOnAt chunks text
    → (count < most → IsWriting start now (payload (is_some chunks) text) cutter count)
    → (count < most → IsWaiting cutter.bytes)
    → HasWritten start now (wanted most (payload (is_some chunks) text)) count
    → BodyIs start now most chunks cutter text count left
now_is start now most chunks cutter text count left enough fewer within goes writing waits wrote =
    elim (cases_lt count most) [
      | inl less ↦
          subst (BodyIs start now most chunks cutter text count) (sym (fewer less))
          (record { goes_on = goes; writing = writing less; waits = waits less; fewer = less })
      | inr full ↦
          let all : count ≡ most = omega (arith, within, full) in
          subst (BodyIs start now most chunks cutter text count) (sym (enough all))
          (record { wrote = wrote; why = by_count all })
    ]
  where
    by_count : count ≡ most → IsBodyLeft most (is_some chunks) text count Enough
    by_count all = all

-- ---- a body that was left

-- as many frames as are wanted are those of a longer stream
full_more : (most : ℕ) (bytes more : List ℕ) → length (wanted most bytes) ≡ most
    → wanted most (bytes ++ more) ≡ wanted most bytes
full_more most bytes more full =
    let enough : most ≤ length (cut bytes).frames = omega (arith, full, length-take most (cut bytes).frames) in
    ap (λ (p : Parts). take most p.frames) (cut-append bytes more)
    ∙ take-append-le most (cut bytes).frames (cut ((cut bytes).rest ++ more)).frames enough

wrote_same : (start now : Option (List ℕ)) (a b : List (List ℕ)) (count : ℕ) → a ≡ b → HasWritten start now a count
    → HasWritten start now b count
wrote_same start now a b count same wrote = subst (λ fs. HasWritten start now fs count) same wrote

-- what comes behind does not count
pub left_on : (start now : Option (List ℕ)) (most : ℕ) (chunked : Bool) (text more : List ℕ) (count : ℕ) (left : Left)
    → BodyLeft start now most chunked text count left → BodyLeft start now most chunked (text ++ more) count left
left_on start now most chunked text more count Enough x =
    let longer = payload_more chunked text more in
    let full : length (wanted most (payload chunked text)) ≡ most = sym x.wrote.counted ∙ x.why in
    record {
      wrote = wrote_same start now _ _ count
          (sym (ap (wanted most) longer.1 ∙ full_more most (payload chunked text) longer.0 full)) x.wrote;
      why = x.why;
    }
left_on start now most false text more count Done x = absurd x.why
left_on start now most true text more count Done x = record {
  wrote = wrote_same start now _ _ count (sym (ap (wanted most) (plain_ended text more x.why.1))) x.wrote;
  why = (x.why.0, ended_on text more x.why.1);
}
left_on start now most false text more count (BadChunk at) x = absurd x.why
left_on start now most true text more count (BadChunk at) x = record {
  wrote = wrote_same start now _ _ count (sym (ap (wanted most) (plain_bad text more at x.why.1))) x.wrote;
  why = (x.why.0, bad_on text more at x.why.1);
}
left_on start now most chunked text more count Dial x = absurd x.why
left_on start now most chunked text more count End x = absurd x.why
left_on start now most chunked text more count LinkFault x = absurd x.why
left_on start now most chunked text more count BadHead x = absurd x.why
left_on start now most chunked text more count LongHead x = absurd x.why
left_on start now most chunked text more count Coding x = absurd x.why
left_on start now most chunked text more count Table x = absurd x.why
left_on start now most chunked text more count (Status status) x = absurd x.why

-- the same where the whole of it is known
pub left_within : (start now : Option (List ℕ)) (most : ℕ) (chunked : Bool) (text more all : List ℕ) (count : ℕ)
    (left : Left) → text ++ more ≡ all → BodyLeft start now most chunked text count left
    → BodyLeft start now most chunked all count left
left_within start now most chunked text more all count left is x =
    subst (λ l. BodyLeft start now most chunked l count left) is (left_on start now most chunked text more count left x)

-- so does a write that was torn
pub torn_within : (start now : Option (List ℕ)) (most : ℕ) (chunked : Bool) (text more all : List ℕ)
    → text ++ more ≡ all → IsTorn start now (wanted most (payload chunked text))
    → IsTorn start now (wanted most (payload chunked all))
torn_within start now most chunked text more all is torn =
    let longer = payload_more chunked text more in
    subst (λ l. IsTorn start now (wanted most (payload chunked l))) is
    (subst (λ l. IsTorn start now (wanted most l)) (sym longer.1)
    (torn_more start now (payload chunked text) longer.0 most torn))

-- a body that was left is left by whatever came behind
pub left_now : (start now : Option (List ℕ)) (most : ℕ) (chunks : Option Reading) (cutter : Pending)
    (text more all : List ℕ) (count : ℕ) (left : Option Left) → is_some left ≡ true → text ++ more ≡ all
    → BodyIs start now most chunks cutter text count left → BodyIs start now most chunks cutter all count left
left_now start now most chunks cutter text more all count None some is x = absurd cc
left_now start now most chunks cutter text more all count (Some left) some is x =
    left_within start now most (is_some chunks) text more all count left is x

pub is_none : (left : Option Left) → is_some left ≡ false → left ≡ None
is_none None none = refl
is_none (Some left) none = absurd cc

-- a byte more of a text, and what is behind it
pub one_within : (text bytes : List ℕ) (i byte : ℕ) → i < length bytes → get_or bytes i 0 ≡ byte
    → ((text ++ take i bytes) ++ byte ∷ [] ≡ text ++ take (i + 1) bytes)
    × (((text ++ take i bytes) ++ byte ∷ []) ++ drop (i + 1) bytes ≡ text ++ bytes)
one_within text bytes i byte within here =
    let next : take i bytes ++ byte ∷ [] ≡ take (i + 1) bytes =
    ap (λ b. take i bytes ++ b ∷ []) (sym here) ∙ sym (take_more bytes i 0 within) in
    let first = append_assoc text (take i bytes) (byte ∷ []) ∙ ap (λ l. text ++ l) next in (
      first,
      ap (λ l. l ++ drop (i + 1) bytes) first
          ∙ append_assoc text (take (i + 1) bytes) (drop (i + 1) bytes)
          ∙ ap (λ l. text ++ l) (take-append-drop (i + 1) bytes),
    )
