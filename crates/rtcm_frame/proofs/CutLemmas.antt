-- How a cut goes on: the four cases, an induction along them, and the cut of two streams joined.
use Rattle.std.proofs.Common.{◌≡◌, ℕ, zero, suc, ◌+◌, ◌*◌, ◌-◌, ◌%◌, ◌≤◌, ◌<◌, inl, inr, Bool, false, ◌&&◌, ◌==◌, nat_lt, List, [], ◌∷◌, ◌++◌, length, take, drop, get_or, IsTrue, refl, ap, ap₂, ◌∙◌, sym, subst, arith, append_assoc, length-append, length-drop, zero-add}
use Rattle.std.proofs.lemmas.Bool.{cases_lt, cases_Bool}
use Rattle.std.proofs.lemmas.Bool.Decides.{nat_tests}
use Rattle.std.proofs.lemmas.List.{take-append-drop, take_all, take-append-le, get_or_append_left, get_or-take}
use Rattle.std.proofs.Math.Seq.{take-append_seam, drop-append_seam}
use Rattle.std.specs.List.{All, sum_by, concat}
use Rattle.rtcm_frame.specs.Transport.{preamble, frame_length, is_frame}
use Rattle.std.proofs.lemmas.List.Sums.{sum_by-cons}
use Rattle.std.proofs.lemmas.List.Elements.{All-head, All-tail, All-cons}
use Rattle.rtcm_frame.specs.Order.{IsUnfinishedFrame, HasNoFrameInFront, StandIn, at_rest, at_frame, at_junk}
use Rattle.rtcm_frame.specs.Cut.{Parts, begins_with_frame, is_unfinished, IsWaiting, only_rest, with_frame, with_junk, cut_after, cut, followed_by}
use Rattle.rtcm_frame.proofs.FrameLemmas.{frame_claim, frame_least, frame_preamble}

-- the claimed length of three bytes or more does not depend on what follows
claim_stays : (a b : List ℕ) → 3 ≤ length a → frame_length (a ++ b) ≡ frame_length a
claim_stays a b long =
    ap₂ (λ (x y : ℕ). (x * 256 + y) % 1024 + 6) (get_or_append_left a b 0 1 (omega arith))
    (get_or_append_left a b 0 2 (omega arith))

-- a frame in front has come whole
front_fits : (bytes : List ℕ) → IsTrue (begins_with_frame bytes) → frame_length bytes ≤ length bytes
front_fits bytes begins = elim (cases_lt (length bytes) (frame_length bytes)) [
  | inl short ↦ absurd (omega (
    arith,
    frame_claim bytes (subst (λ (xs : List ℕ). IsTrue (is_frame xs)) (take_all _ bytes (omega arith)) begins),
  ))
  | inr long ↦ long
]

-- what begins with a frame is that frame and the bytes behind it
front_valid : (frame t : List ℕ) → IsTrue (is_frame frame) → take (frame_length (frame ++ t)) (frame ++ t) ≡ frame
front_valid frame t valid =
    let claim = claim_stays frame t (omega (arith, frame_least frame valid)) ∙ sym (frame_claim frame valid) in
    ap (λ (n : ℕ). take n (frame ++ t)) claim ∙ take-append_seam frame t

-- a frame and what follows it begin with a frame
front_begins : (frame t : List ℕ) → IsTrue (is_frame frame) → IsTrue (begins_with_frame (frame ++ t))
front_begins frame t valid =
    subst (λ (xs : List ℕ). IsTrue (is_frame xs)) (sym (front_valid frame t valid)) valid

-- to skip bytes is to drop them
cut_after_drop : (n : ℕ) (bytes : List ℕ) → cut_after n bytes ≡ cut (drop n bytes)
unfolding cut cut_after
cut_after_drop zero bytes = refl
cut_after_drop (suc n) [] = refl
cut_after_drop (suc n) (x ∷ t) = cut_after_drop n t

-- an unfinished frame is shorter than it claims
pub waiting_short : (x : ℕ) (t : List ℕ) → IsWaiting (x ∷ t) → length (x ∷ t) < frame_length (x ∷ t)
waiting_short x t waiting = grind (arith, nat_tests)

-- what waits begins with no frame
waiting_no_frame : (x : ℕ) (t : List ℕ) → IsWaiting (x ∷ t) → begins_with_frame (x ∷ t) ≡ false
waiting_no_frame x t waiting = elim (cases_Bool (begins_with_frame (x ∷ t))) [
  | inl begins ↦ absurd (omega (arith, waiting_short x t waiting, front_fits (x ∷ t) begins))
  | inr no_frame ↦ no_frame
]

-- what waits is the rest
pub cut_waiting : (bytes : List ℕ) → IsWaiting bytes → cut bytes ≡ only_rest bytes
unfolding cut cut_after
cut_waiting [] waiting = refl
cut_waiting (x ∷ t) waiting =
    let no_frame = waiting_no_frame x t waiting in
    rw (no_frame, waiting, cut_after) refl

-- to drop bytes is to drop one and then the others
drop_first : (n x : ℕ) (t : List ℕ) → 0 < n → drop (n - 1) t ≡ drop n (x ∷ t)
drop_first zero x t some = absurd (omega arith)
drop_first (suc n) x t some =
    let one_less : suc n - 1 ≡ n = omega arith in
    ap (λ (m : ℕ). drop m t) one_less

-- a frame in front is cut off, as far as the claimed length tells
cut_begins : (x : ℕ) (t : List ℕ) → IsTrue (begins_with_frame (x ∷ t))
    → cut (x ∷ t) ≡ with_frame (take (frame_length (x ∷ t)) (x ∷ t)) (cut (drop (frame_length (x ∷ t)) (x ∷ t)))
unfolding cut cut_after
cut_begins x t begins =
    let n = frame_length (x ∷ t) in
    let behind : cut_after (n - 1) t ≡ cut (drop n (x ∷ t)) =
    cut_after_drop (n - 1) t ∙ ap cut (drop_first n x t (omega arith))
    in
    rw (begins, cut_after) (ap (λ (p : Parts). with_frame (take n (x ∷ t)) p) behind)

-- any other byte is junk
pub cut_junk : (x : ℕ) (t : List ℕ) → begins_with_frame (x ∷ t) ≡ false → is_unfinished (x ∷ t) ≡ false
    → cut (x ∷ t) ≡ with_junk (cut t)
unfolding cut cut_after
cut_junk x t no_frame finished = rw (no_frame, finished, cut_after) refl

-- a whole frame in front is cut off
pub cut-frame : (frame t : List ℕ) → IsTrue (is_frame frame) → cut (frame ++ t) ≡ with_frame frame (cut t)
cut-frame [] t valid = absurd (omega (arith, frame_least [] valid))
cut-frame (x ∷ f) t valid =
    let front = front_valid (x ∷ f) t valid in
    let claim : frame_length (x ∷ (f ++ t)) ≡ length (x ∷ f) =
    claim_stays (x ∷ f) t (omega (arith, frame_least (x ∷ f) valid)) ∙ sym (frame_claim (x ∷ f) valid)
    in
    let behind : drop (frame_length (x ∷ (f ++ t))) (x ∷ (f ++ t)) ≡ t =
    ap (λ (n : ℕ). drop n (x ∷ (f ++ t))) claim ∙ drop-append_seam (x ∷ f) t
    in
    cut_begins x (f ++ t) (front_begins (x ∷ f) t valid)
    ∙ ap₂ (λ (xs ys : List ℕ). with_frame xs (cut ys)) front behind

-- where every stream that waits has a property, and a frame or a junk byte before a stream keeps
-- it, every stream has it
pub cut_induction : (P : List ℕ → Type 0)
    → ((bytes : List ℕ) → IsWaiting bytes → P bytes)
    → ((frame t : List ℕ) → IsTrue (is_frame frame) → P t → P (frame ++ t))
    → ((x : ℕ) (t : List ℕ) → begins_with_frame (x ∷ t) ≡ false → is_unfinished (x ∷ t) ≡ false → P t → P (x ∷ t))
    → (bytes : List ℕ) → P bytes
cut_induction P waits frame junk bytes = within (length bytes) bytes (omega arith)
  where
    within : (n : ℕ) (bytes : List ℕ) → length bytes ≤ n → P bytes
    within n [] short = waits [] refl
    within zero (x ∷ t) short = absurd (omega arith)
    within (suc n) (x ∷ t) short = elim (cases_Bool (begins_with_frame (x ∷ t))) [
      | inl begins ↦
          let count = frame_length (x ∷ t) in
          let behind : length (drop count (x ∷ t)) ≤ n =
          omega (arith, length-drop count (x ∷ t), front_fits (x ∷ t) begins)
          in
          subst P (take-append-drop count (x ∷ t)) (frame (take count (x ∷ t)) (drop count (x ∷ t)) begins
          (within n (drop count (x ∷ t)) behind))
      | inr no_frame ↦ elim (cases_Bool (is_unfinished (x ∷ t))) [
        | inl waiting ↦ waits (x ∷ t) waiting
        | inr finished ↦ junk x t no_frame finished (within n t (omega arith))
      ]
    ]

-- these parts with another count of junk
abbrev junk_of : Parts → ℕ → Parts
junk_of p n = record { frames = p.frames; junk = n; rest = p.rest }

-- the same parts, where there are no other parts before
none_before : (rest : List ℕ) (p : Parts) → followed_by (only_rest rest) p ≡ p
none_before rest p = ap (λ (n : ℕ). junk_of p n) (zero-add p.junk)

-- another first byte than the preamble begins no frame
other_byte : (x : ℕ) (t : List ℕ) → (x == preamble) ≡ false → begins_with_frame (x ∷ t) ≡ false
other_byte x t other = elim (cases_Bool (begins_with_frame (x ∷ t))) [
  | inl begins ↦
      let count = frame_length (x ∷ t) in
      let first : get_or (take count (x ∷ t)) 0 0 ≡ x = get_or-take count (x ∷ t) 0 0 (omega arith) in
      let is_preamble : x ≡ preamble = sym first ∙ frame_preamble (take count (x ∷ t)) begins in
      absurd (grind (arith, nat_tests))
  | inr no_frame ↦ no_frame
]

-- a byte that is junk stays junk whatever follows
junk_stays : (x : ℕ) (t b : List ℕ) → begins_with_frame (x ∷ t) ≡ false → is_unfinished (x ∷ t) ≡ false
    → (begins_with_frame (x ∷ (t ++ b)) ≡ false) × (is_unfinished (x ∷ (t ++ b)) ≡ false)
junk_stays x t b no_frame finished = elim (cases_Bool (x == preamble)) [
  | inl is_preamble ↦
      let fits : frame_length (x ∷ t) ≤ length (x ∷ t) = grind (arith, nat_tests) in
      let claim : frame_length (x ∷ (t ++ b)) ≡ frame_length (x ∷ t) = claim_stays (x ∷ t) b (omega arith) in
      let front : take (frame_length (x ∷ (t ++ b))) (x ∷ (t ++ b)) ≡ take (frame_length (x ∷ t)) (x ∷ t) =
      ap (λ (n : ℕ). take n (x ∷ (t ++ b))) claim ∙ take-append-le (frame_length (x ∷ t)) (x ∷ t) b fits
      in
      let longer = length-append t b in
      let not_short : nat_lt (length (x ∷ (t ++ b))) (frame_length (x ∷ (t ++ b))) ≡ false =
      grind (arith, nat_tests)
      in
      (ap is_frame front ∙ no_frame, ap₂ ◌&&◌ is_preamble not_short)
  | inr other ↦ (
    other_byte x (t ++ b) other,
    ap (λ (first : Bool). first && nat_lt (length (x ∷ (t ++ b))) (frame_length (x ∷ (t ++ b)))) other,
  )
]

-- streams joined are cut as the first, and then as its rest with the second
pub cut-append : (a b : List ℕ) → cut (a ++ b) ≡ followed_by (cut a) (cut ((cut a).rest ++ b))
cut-append a b = cut_induction Splits waiting frame junk a b
  where
    Splits : List ℕ → Type 0
    Splits a = (b : List ℕ) → cut (a ++ b) ≡ followed_by (cut a) (cut ((cut a).rest ++ b))

    -- the parts of a stream and of what follows it, as they follow from the first's
    parts_with : List ℕ → Parts → Parts
    parts_with b p = followed_by p (cut (p.rest ++ b))

    waiting : (a : List ℕ) → IsWaiting a → Splits a
    waiting a waits b =
        sym (none_before a (cut (a ++ b))) ∙ ap (parts_with b) (sym (cut_waiting a waits))

    frame : (f t : List ℕ) → IsTrue (is_frame f) → Splits t → Splits (f ++ t)
    frame f t valid splits b =
        ap cut (append_assoc f t b)
        ∙ cut-frame f (t ++ b) valid
        ∙ ap (λ (p : Parts). with_frame f p) (splits b)
        ∙ ap (parts_with b) (sym (cut-frame f t valid))

    junk : (x : ℕ) (t : List ℕ) → begins_with_frame (x ∷ t) ≡ false → is_unfinished (x ∷ t) ≡ false → Splits t
        → Splits (x ∷ t)
    junk x t no_frame finished splits b =
        let stays = junk_stays x t b no_frame finished in
        let q = cut ((cut t).rest ++ b) in
        let sum : ((cut t).junk + q.junk) + 1 ≡ ((cut t).junk + 1) + q.junk = omega arith in
        cut_junk x (t ++ b) stays.0 stays.1
        ∙ ap with_junk (splits b)
        ∙ ap (λ (n : ℕ). junk_of (followed_by (cut t) q) n) sum
        ∙ ap (parts_with b) (sym (cut_junk x t no_frame finished))

-- every frame of a cut is one
pub all-frames : (bytes : List ℕ) → All (λ frame. IsTrue (is_frame frame)) (cut bytes).frames
all-frames = cut_induction (λ bytes. Valid (cut bytes)) waiting frame junk
  where
    Valid : Parts → Type 0
    Valid p = All (λ frame. IsTrue (is_frame frame)) p.frames

    waiting : (bytes : List ℕ) → IsWaiting bytes → Valid (cut bytes)
    waiting bytes waits = subst Valid (sym (cut_waiting bytes waits)) (λ k d below. absurd (omega arith))

    frame : (f t : List ℕ) → IsTrue (is_frame f) → Valid (cut t) → Valid (cut (f ++ t))
    frame f t valid others = subst Valid (sym (cut-frame f t valid)) (All-cons (λ g. IsTrue (is_frame g)) f
        (cut t).frames valid others)

    junk : (x : ℕ) (t : List ℕ) → begins_with_frame (x ∷ t) ≡ false → is_unfinished (x ∷ t) ≡ false → Valid (cut t)
        → Valid (cut (x ∷ t))
    junk x t no_frame finished others = subst Valid (sym (cut_junk x t no_frame finished)) others

-- the parts stand in the stream in order
pub cut_order : (bytes : List ℕ) → StandIn (cut bytes).frames (cut bytes).junk (cut bytes).rest bytes
cut_order = cut_induction (λ bytes. Stand bytes (cut bytes)) waiting frame junk
  where
    Stand : List ℕ → Parts → Type 0
    Stand bytes p = StandIn p.frames p.junk p.rest bytes

    waiting : (bytes : List ℕ) → IsWaiting bytes → Stand bytes (cut bytes)
    waiting bytes waits = subst (Stand bytes) (sym (cut_waiting bytes waits)) (at_rest bytes)

    frame : (f t : List ℕ) → IsTrue (is_frame f) → Stand t (cut t) → Stand (f ++ t) (cut (f ++ t))
    frame f t valid others =
        subst (Stand (f ++ t)) (sym (cut-frame f t valid)) (at_frame f _ _ _ _ others)

    junk : (x : ℕ) (t : List ℕ) → begins_with_frame (x ∷ t) ≡ false → is_unfinished (x ∷ t) ≡ false → Stand t (cut t)
        → Stand (x ∷ t) (cut (x ∷ t))
    junk x t no_frame finished others =
        subst (Stand (x ∷ t)) (sym (cut_junk x t no_frame finished)) (at_junk x _ _ _ _ others)

-- every byte of a stream is in a frame, is junk, or is in the rest
counted_in : (frames : List (List ℕ)) (junk : ℕ) (rest bytes : List ℕ) → StandIn frames junk rest bytes
    → sum_by length frames + junk + length rest ≡ length bytes
counted_in _ _ _ _ (at_rest rest) = omega arith
counted_in _ _ _ _ (at_frame frame frames junk rest bytes others) =
    omega (
      arith,
      sum_by-cons length frame frames,
      length-append frame bytes,
      counted_in frames junk rest bytes others,
    )
counted_in _ _ _ _ (at_junk x frames junk rest bytes others) =
    omega (arith, counted_in frames junk rest bytes others)

pub cut_counted : (bytes : List ℕ)
    → sum_by length (cut bytes).frames + (cut bytes).junk + length (cut bytes).rest ≡ length bytes
cut_counted bytes = counted_in _ _ _ _ (cut_order bytes)

-- frames joined are cut into themselves
pub cut-frames-joined : (frames : List (List ℕ)) → All (λ frame. IsTrue (is_frame frame)) frames
    → cut (concat frames) ≡ record { frames = frames; junk = 0; rest = [] }
cut-frames-joined [] valid = cut_waiting [] refl
cut-frames-joined (f ∷ frames) valid =
    cut-frame f (concat frames) (All-head (λ frame. IsTrue (is_frame frame)) f frames valid)
    ∙ ap (λ (p : Parts). with_frame f p) (cut-frames-joined frames (All-tail (λ frame. IsTrue (is_frame frame)) f frames
    valid))

-- a frame in front, of whatever length it was found to have
pub front_frame : (bytes : List ℕ) (count : ℕ) → IsTrue (is_frame (take count bytes))
    → cut bytes ≡ with_frame (take count bytes) (cut (drop count bytes))
front_frame bytes count valid =
    ap cut (sym (take-append-drop count bytes)) ∙ cut-frame (take count bytes) (drop count bytes) valid

-- a byte in front that is in no frame
pub front_junk : (bytes : List ℕ) → 1 ≤ length bytes → begins_with_frame bytes ≡ false → is_unfinished bytes ≡ false
    → cut bytes ≡ with_junk (cut (drop 1 bytes))
front_junk [] some no_frame finished = absurd (omega arith)
front_junk (x ∷ t) some no_frame finished = cut_junk x t no_frame finished

-- a first byte other than the preamble is in no frame
pub front_other : (bytes : List ℕ) → 1 ≤ length bytes → (get_or bytes 0 0 ≡ preamble → ⊥)
    → (begins_with_frame bytes ≡ false) × (is_unfinished bytes ≡ false)
front_other [] some other = absurd (omega arith)
front_other (x ∷ t) some other =
    let test : (x == preamble) ≡ false = grind (arith, nat_tests) in (
      other_byte x t test,
      ap (λ (first : Bool). first && nat_lt (length (x ∷ t)) (frame_length (x ∷ t))) test,
    )

-- a frame that has begun waits
pub unfinished_waits : (bytes : List ℕ) → IsUnfinishedFrame bytes → IsWaiting bytes
unfinished_waits [] begun = refl
unfinished_waits (x ∷ t) begun =
    let short : length (x ∷ t) < frame_length (x ∷ t) = elim begun.1 [ inl few ↦ omega arith | inr less ↦ less ] in
    let is_preamble : x ≡ preamble = begun.0 in
    grind (arith, nat_tests)

-- where no frame stands in front, none is found there
pub none_begins : (bytes : List ℕ) → HasNoFrameInFront bytes → begins_with_frame bytes ≡ false
none_begins bytes none = elim (cases_Bool (begins_with_frame bytes)) [
  | inl begins ↦
      let count = frame_length bytes in
      absurd (none (take count bytes) (drop count bytes) begins (sym (take-append-drop count bytes)))
  | inr no_frame ↦ no_frame
]

-- where no frame has begun, nothing waits
pub none_waits : (x : ℕ) (t : List ℕ) → (IsUnfinishedFrame (x ∷ t) → ⊥) → is_unfinished (x ∷ t) ≡ false
none_waits x t none = elim (cases_Bool (is_unfinished (x ∷ t))) [
  | inl waits ↦
      let is_preamble : x ≡ preamble = grind (arith, nat_tests) in
      absurd (none (is_preamble, inr (waiting_short x t waits)))
  | inr finished ↦ finished
]
