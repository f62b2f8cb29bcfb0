-- How the payload of a body, its frames and its cut grow with more of the body.
use Rattle.std.proofs.Common.{◌≡◌, ℕ, ◌+◌, ◌≤◌, Bool, true, false, List, [], ◌∷◌, ◌++◌, length, drop, sum_by, refl, ap, ◌∙◌, sym, subst, arith, append_assoc, length-append, fold}
use Rattle.std.proofs.lemmas.List.{append-nil, append_cancel_left}
use Rattle.std.proofs.Math.Seq.{drop-append_seam}
use Rattle.rtcm_frame.specs.Cut.{cut, Parts, IsWaiting}
use Rattle.rtcm_frame.specs.Pending.{Pending}
use Rattle.rtcm_frame.proofs.CutLemmas.{cut-append, cut_waiting, cut-frame, cut_junk, cut_counted, cut_induction}
use Rattle.chunk_body.specs.Machine.{Reading, nothing_read, after, read}
use Rattle.chunk_body.specs.declared.dechunk.Step.{Step}
use Rattle.chunk_body.specs.declared.dechunk.Step.TheVariants.{More, Byte, Done, Bad}
use Rattle.chunk_body.specs.Answer.{answer, given_by, given_from, plain_of}
use Rattle.chunk_body.specs.Text.{HasEnded, IsBadAt}
use Rattle.chunk_body.proofs.TextLemmas.{ended_on, bad_on}
use Rattle.chunk_body.proofs.ReadingLemmas.{answered, exactly_done, exactly_bad, gives_more}
use Rattle.source_session.specs.Body.{payload, frames_of, completed}
use Rattle.source_session.specs.Standing.{cutter_at}

-- ---- the payload

given-append : (r : Reading) (a b : List ℕ)
    → given_from r (a ++ b) ≡ given_from r a ++ given_from (fold after r a) b
given-append r [] b = refl
given-append r (x ∷ a) b =
    ap (λ (l : List ℕ). given_by (answer r x) ++ l) (given-append (after r x) a b)
    ∙ sym (append_assoc (given_by (answer r x)) (given_from (after r x) a) (given_from (fold after (after r x) a) b))

-- more of the body carries more bytes behind those before
pub payload_more : (c : Bool) (a b : List ℕ) → (y : List ℕ) × (payload c (a ++ b) ≡ payload c a ++ y)
unfolding plain_of
payload_more false a b = (b, refl)
payload_more true a b = (given_from (fold after nothing_read a) b, given-append nothing_read a b)

given_short : (a : Step) → length (given_by a) ≤ 1
given_short More = omega arith
given_short (Byte byte) = omega arith
given_short Done = omega arith
given_short (Bad place) = omega arith

given_from_short : (r : Reading) (x : List ℕ) → length (given_from r x) ≤ length x
given_from_short r [] = omega arith
given_from_short r (x ∷ xs) =
    omega (
      arith,
      length-append (given_by (answer r x)) (given_from (after r x) xs),
      given_short (answer r x),
      given_from_short (after r x) xs,
    )

-- it carries no more bytes than it has
pub payload_short : (c : Bool) (body : List ℕ) → length (payload c body) ≤ length body
unfolding plain_of
payload_short false body = omega arith
payload_short true body = given_from_short nothing_read body

-- behind the end of a chunked body nothing is carried
pub plain_ended : (t more : List ℕ) → HasEnded t → plain_of (t ++ more) ≡ plain_of t
plain_ended t [] ended = ap plain_of (append-nil t)
plain_ended t (b ∷ more) ended =
    let on = ended_on t (b ∷ []) ended in
    let done : answer (read t) b ≡ Done = (exactly_done (t ++ b ∷ []) (answer (read t) b) (answered t b)).1 on in
    ap plain_of (sym (append_assoc t (b ∷ []) more))
    ∙ plain_ended (t ++ b ∷ []) more on
    ∙ gives_more t b
    ∙ ap (λ (a : Step). plain_of t ++ given_by a) done
    ∙ append-nil (plain_of t)

-- nor behind its fault
pub plain_bad : (t more : List ℕ) (place : ℕ) → IsBadAt t place → plain_of (t ++ more) ≡ plain_of t
plain_bad t [] place bad = ap plain_of (append-nil t)
plain_bad t (b ∷ more) place bad =
    let on = bad_on t (b ∷ []) place bad in
    let breaks : answer (read t) b ≡ Bad place =
    (exactly_bad (t ++ b ∷ []) (answer (read t) b) place (answered t b)).1 on in
    ap plain_of (sym (append_assoc t (b ∷ []) more))
    ∙ plain_bad (t ++ b ∷ []) more place on
    ∙ gives_more t b
    ∙ ap (λ (a : Step). plain_of t ++ given_by a) breaks
    ∙ append-nil (plain_of t)

-- ---- the cut

pub rest_waits : (x : List ℕ) → IsWaiting (cut x).rest
rest_waits = cut_induction (λ x. IsWaiting (cut x).rest)
    (λ x waits. subst (λ (p : Parts). IsWaiting p.rest) (sym (cut_waiting x waits)) waits)
    (λ frame t valid so. subst (λ (p : Parts). IsWaiting p.rest) (sym (cut-frame frame t valid)) so)
    (λ x t none finished so. subst (λ (p : Parts). IsWaiting p.rest) (sym (cut_junk x t none finished)) so)

-- and it stands behind all frames and all junk
pub rest_behind : (x : List ℕ) → (front : List ℕ) × (x ≡ front ++ (cut x).rest)
rest_behind = cut_induction (λ x. (front : List ℕ) × (x ≡ front ++ (cut x).rest))
    (λ x waits. ([], ap (λ (p : Parts). p.rest) (sym (cut_waiting x waits))))
    (λ frame t valid so. (
      frame ++ so.0,
      ap (λ (l : List ℕ). frame ++ l) so.1 ∙ sym (append_assoc frame so.0 (cut t).rest)
          ∙ ap (λ (p : Parts). (frame ++ so.0) ++ p.rest) (sym (cut-frame frame t valid)),
    ))
    (λ x t none finished so. (
      x ∷ so.0,
      ap (λ (l : List ℕ). x ∷ l) so.1 ∙ ap (λ (p : Parts). x ∷ so.0 ++ p.rest) (sym (cut_junk x t none finished)),
    ))

-- so they are as long as what stands in front of it
pub front_counted : (x : List ℕ) → sum_by length (cut x).frames + (cut x).junk ≡ length (rest_behind x).0
front_counted x =
    let front = rest_behind x in
    omega (arith, cut_counted x, ap length front.1, length-append front.0 (cut x).rest)

pub cut_few : (x : List ℕ) → (cut x).junk + length (cut x).rest ≤ length x
cut_few x = omega (arith, cut_counted x)

frames_by : (x y : List ℕ) → (cut (x ++ y)).frames ≡ (cut x).frames ++ (cut ((cut x).rest ++ y)).frames
frames_by x y = ap (λ (p : Parts). p.frames) (cut-append x y)

-- a cutter that takes more bytes, and gives each frame that they complete
pub cutter_more : (x y : List ℕ) →
    let p : Pending = record {
      bytes = (cut ((cut x).rest ++ y)).rest;
      junk = (cut x).junk + (cut ((cut x).rest ++ y)).junk;
    } in
    p ≡ cutter_at (x ++ y)
cutter_more x y =
    ap (λ (p : Parts). let q : Pending = record { bytes = p.rest; junk = p.junk } in q) (sym (cut-append x y))

pub junk_more : (x y : List ℕ) → (cut x).junk + (cut ((cut x).rest ++ y)).junk ≡ (cut (x ++ y)).junk
junk_more x y = ap (λ (p : Parts). p.junk) (sym (cut-append x y))

-- ---- the frames

pub completed_by : (c : Bool) (a b y : List ℕ) → payload c (a ++ b) ≡ payload c a ++ y
    → completed c a b ≡ (cut ((cut (payload c a)).rest ++ y)).frames
completed_by c a b y more =
    ap (drop (length (frames_of c a))) (ap (λ (x : List ℕ). (cut x).frames) more ∙ frames_by (payload c a) y)
    ∙ drop-append_seam (frames_of c a) (cut ((cut (payload c a)).rest ++ y)).frames

-- where nothing more is carried no frame is completed
pub completed_none : (c : Bool) (a b : List ℕ) → payload c (a ++ b) ≡ payload c a → completed c a b ≡ []
completed_none c a b same =
    let rest : List ℕ = (cut (payload c a)).rest in
    completed_by c a b [] (same ∙ sym (append-nil (payload c a)))
    ∙ ap (λ (x : List ℕ). (cut x).frames) (append-nil rest)
    ∙ ap (λ (p : Parts). p.frames) (cut_waiting rest (rest_waits (payload c a)))

-- the frames of a longer body are those of the shorter and those that are completed
pub frames_more : (c : Bool) (a b : List ℕ) → frames_of c (a ++ b) ≡ frames_of c a ++ completed c a b
frames_more c a b =
    let more = payload_more c a b in
    ap (λ (x : List ℕ). (cut x).frames) more.1 ∙ frames_by (payload c a) more.0
    ∙ ap (λ (l : List (List ℕ)). frames_of c a ++ l) (sym (completed_by c a b more.0 more.1))

-- a part that comes in two parts
pub completed_both : (c : Bool) (a b d : List ℕ)
    → completed c a (b ++ d) ≡ completed c a b ++ completed c (a ++ b) d
completed_both c a b d =
    append_cancel_left (frames_of c a) (completed c a (b ++ d)) (completed c a b ++ completed c (a ++ b) d)
    (sym (frames_more c a (b ++ d))
    ∙ ap (frames_of c) (sym (append_assoc a b d))
    ∙ frames_more c (a ++ b) d
    ∙ ap (λ (l : List (List ℕ)). l ++ completed c (a ++ b) d) (frames_more c a b)
    ∙ append_assoc (frames_of c a) (completed c a b) (completed c (a ++ b) d))

-- from the start of a body its frames are completed
pub completed_first : (c : Bool) (body : List ℕ) → completed c [] body ≡ frames_of c body
unfolding plain_of
completed_first false body = ap (λ (p : Parts). drop (length p.frames) (cut body).frames) (cut_waiting [] refl)
completed_first true body = ap (λ (p : Parts). drop (length p.frames) (cut (plain_of body)).frames)
    (cut_waiting [] refl)

pub nothing_cut : (c : Bool) → cutter_at (payload c []) ≡ record { bytes = []; junk = 0 }
unfolding plain_of
nothing_cut false = ap (λ (p : Parts). let q : Pending = record { bytes = p.rest; junk = p.junk } in q)
    (cut_waiting [] refl)
nothing_cut true = ap (λ (p : Parts). let q : Pending = record { bytes = p.rest; junk = p.junk } in q)
    (cut_waiting [] refl)
