-- What a cutter's steps do to the cut of all bytes pushed.
use Rattle.std.proofs.Common.{◌≡◌, ℕ, zero, suc, ◌+◌, ◌-◌, ◌≤◌, ◌<◌, false, List, [], ◌∷◌, ◌++◌, length, take, drop, get_or, IsTrue, ap, ap₂, ◌∙◌, sym, arith, append_assoc, append-nil, length-append, length-drop, length-take-le, refl, subst}
use Rattle.std.proofs.lemmas.List.{take-append-drop, take_rest, drop-drop, get_or-drop}
use Rattle.std.proofs.Math.Seq.{take-add}
use Rattle.std.proofs.lemmas.List.Sums.{sum_by-append, sum_by-cons}
use Rattle.rtcm_frame.specs.Transport.{preamble, longest, is_frame}
use Rattle.rtcm_frame.specs.Cut.{Parts, begins_with_frame, is_unfinished, IsWaiting, cut, followed_by}
use Rattle.rtcm_frame.specs.Pending.{Pending, Gave, GaveAll, Took, IsBehindJunk}
use Rattle.rtcm_frame.proofs.CutLemmas.{cut_waiting, cut-append, front_frame, front_junk, front_other, waiting_short}

-- the state of these bytes and this count
abbrev pub pending_of : List ℕ → ℕ → Pending
pending_of bytes junk = record { bytes = bytes; junk = junk }

-- what waits is shorter than the longest frame
pub waiting_fits : (bytes : List ℕ) → IsWaiting bytes → length bytes < longest
waiting_fits [] waits = omega arith
waiting_fits (x ∷ t) waits = omega (arith, waiting_short x t waits)

-- with nothing pushed nothing was given
pub gave_start : Gave [] [] (record { bytes = []; junk = 0 })
gave_start = record { frames = refl; junk = omega arith; rest = refl; counted = omega arith }

-- with nothing done nothing is taken
pub took_none : (p : Pending) → Took p p []
took_none p = record { in_order = refl; junk = refl; rest = refl; counted = omega arith }

-- a junk byte in front is counted
pub took_junk : (old p : Pending) → Took old p [] → 1 ≤ length p.bytes
    → begins_with_frame p.bytes ≡ false → is_unfinished p.bytes ≡ false
    → Took old (record { bytes = drop 1 p.bytes; junk = p.junk + 1 }) []
took_junk old p took some no_frame finished =
    let step = front_junk p.bytes some no_frame finished in
    let n = (cut (drop 1 p.bytes)).junk in
    let sum : p.junk + (n + 1) ≡ (p.junk + 1) + n = omega arith in
    record {
      in_order = took.in_order ∙ ap (λ (q : Parts). q.frames) step;
      junk = took.junk ∙ ap (λ (q : Parts). p.junk + q.junk) step ∙ sum;
      rest = took.rest ∙ ap (λ (q : Parts). q.rest) step;
      counted = omega (arith, took.counted, length-drop 1 p.bytes);
    }

-- one state after another
pub took_then : (old mid new : Pending) → Took old mid [] → Took mid new [] → Took old new []
took_then old mid new first second = record {
  in_order = first.in_order ∙ second.in_order;
  junk = first.junk ∙ second.junk;
  rest = first.rest ∙ second.rest;
  counted = omega (arith, first.counted, second.counted);
}

-- bytes in front that are no preamble are counted
pub took_others : (n : ℕ) (old p : Pending) → Took old p [] → n ≤ length p.bytes
    → ((k : ℕ) → k < n → get_or p.bytes k 0 ≡ preamble → ⊥)
    → Took old (pending_of (drop n p.bytes) (p.junk + n)) []
took_others zero old p took within others =
    let none : p.junk ≡ p.junk + 0 = omega arith in
    subst (λ (n : ℕ). Took old (pending_of p.bytes n) []) none took
took_others (suc n) old p took within others =
    let front = front_other p.bytes (omega arith) (others 0 (omega arith)) in
    let next = pending_of (drop 1 p.bytes) (p.junk + 1) in
    let left : length (drop 1 p.bytes) ≡ length p.bytes - 1 = length-drop 1 p.bytes in
    let later : (k : ℕ) → k < n → get_or (drop 1 p.bytes) k 0 ≡ preamble → ⊥ =
    λ k below same. others (1 + k) (omega arith) (sym (get_or-drop 1 p.bytes k 0) ∙ same)
    in
    let one_more : 1 + n ≡ suc n = omega arith in
    let sum : p.junk + 1 + n ≡ p.junk + suc n = omega arith in
    let there : drop n (drop 1 p.bytes) ≡ drop (suc n) p.bytes =
    drop-drop n 1 p.bytes ∙ ap (λ (k : ℕ). drop k p.bytes) one_more
    in
    subst (λ (q : Pending). Took old q []) (ap₂ pending_of there sum) (
    took_others n old next (took_junk old p took (omega arith) front.0 front.1) (omega (arith, left)) later)

-- a byte in front that is junk is counted, with those behind it that are no preamble
pub took_run : (p : Pending) (n : ℕ) → 1 ≤ length p.bytes → begins_with_frame p.bytes ≡ false
    → is_unfinished p.bytes ≡ false → n ≤ length p.bytes - 1
    → ((k : ℕ) → k < n → get_or (drop 1 p.bytes) k 0 ≡ preamble → ⊥)
    → Took p (pending_of (drop (1 + n) p.bytes) (p.junk + (1 + n))) []
took_run p n some no_frame finished within others =
    let next = pending_of (drop 1 p.bytes) (p.junk + 1) in
    let one_more : n + 1 ≡ 1 + n = omega arith in
    let sum : p.junk + 1 + n ≡ p.junk + (1 + n) = omega arith in
    let there : drop n (drop 1 p.bytes) ≡ drop (1 + n) p.bytes = drop-drop n 1 p.bytes in
    subst (λ (q : Pending). Took p q []) (ap₂ pending_of there sum) (
    took_others n p next (took_junk p p (took_none p) some no_frame finished) (omega (arith, length-drop 1 p.bytes))
    others)

-- a frame in front is given
pub took_frame : (old p : Pending) (count : ℕ) → Took old p [] → count ≤ length p.bytes
    → IsTrue (is_frame (take count p.bytes))
    → Took old (record { bytes = drop count p.bytes; junk = p.junk }) (take count p.bytes ∷ [])
took_frame old p count took fits valid =
    let step = front_frame p.bytes count valid in
    let f = take count p.bytes in
    record {
      in_order = took.in_order ∙ ap (λ (q : Parts). q.frames) step;
      junk = took.junk ∙ ap (λ (q : Parts). p.junk + q.junk) step;
      rest = took.rest ∙ ap (λ (q : Parts). q.rest) step;
      counted = omega (
        arith,
        took.counted,
        length-drop count p.bytes,
        length-take-le count p.bytes fits,
        sum_by-cons length f [],
      );
    }

-- the same of a frame and a state that are known by equations
pub took_found : (old p new : Pending) (count : ℕ) (frame : List ℕ) → Took old p [] → count ≤ length p.bytes
    → IsTrue (is_frame (take count p.bytes)) → frame ≡ take count p.bytes → new ≡ pending_of (drop count p.bytes) p.junk
    → Took old new (frame ∷ [])
took_found old p new count frame took fits valid is_front is_behind =
    let before = took_frame old p count took fits valid in
    let behind = pending_of (drop count p.bytes) p.junk in
    let with_frame_given : Took old behind (frame ∷ []) =
    subst (λ (f : List ℕ). Took old behind (f ∷ [])) (sym is_front) before
    in
    subst (λ (q : Pending). Took old q (frame ∷ [])) (sym is_behind) with_frame_given

-- with nothing done nothing is passed over
pub behind_none : (p : Pending) → IsBehindJunk p p []
behind_none p = record { junk = []; split = refl; added = omega arith }

-- the bytes that are passed over and those behind them
behind_front : (old p : Pending) (count : ℕ) (passed : IsBehindJunk old p [])
    → old.bytes ≡ passed.junk ++ (take count p.bytes ++ drop count p.bytes)
behind_front old p count passed =
    passed.split ∙ ap (λ (xs : List ℕ). passed.junk ++ xs) (sym (take-append-drop count p.bytes))

-- further bytes in front are passed over
pub behind_more : (old p : Pending) (count : ℕ) → IsBehindJunk old p [] → count ≤ length p.bytes
    → IsBehindJunk old (pending_of (drop count p.bytes) (p.junk + count)) []
behind_more old p count passed fits =
    let more = take count p.bytes in
    record {
      junk = passed.junk ++ more;
      split = behind_front old p count passed ∙ sym (append_assoc passed.junk more (drop count p.bytes));
      added = omega (
        arith,
        passed.added,
        length-append passed.junk more,
        length-take-le count p.bytes fits,
      );
    }

-- and then more
pub behind_then : (old mid new : Pending) → IsBehindJunk old mid [] → IsBehindJunk mid new [] → IsBehindJunk old new []
behind_then old mid new first second = record {
  junk = first.junk ++ second.junk;
  split = first.split
      ∙ ap (λ (xs : List ℕ). first.junk ++ xs) second.split
      ∙ sym (append_assoc first.junk second.junk new.bytes);
  added = omega (arith, first.added, second.added, length-append first.junk second.junk);
}

-- what is taken is given behind what was
pub gave_took : (given frames : List (List ℕ)) (all : List ℕ) (old new : Pending)
    → Gave given all old → Took old new frames → Gave (given ++ frames) all new
gave_took given frames all old new gave took = record {
  frames = append_assoc given frames (cut new.bytes).frames
      ∙ ap (λ (fs : List (List ℕ)). given ++ fs) (sym took.in_order)
      ∙ gave.frames;
  junk = sym took.junk ∙ gave.junk;
  rest = sym took.rest ∙ gave.rest;
  counted = omega (arith, gave.counted, took.counted, sum_by-append length given frames);
}

-- what waits is the rest of all bytes, and no frame of theirs is left to give
pub gave_waiting : (given : List (List ℕ)) (all : List ℕ) (p : Pending) → Gave given all p → IsWaiting p.bytes
    → GaveAll given all p
gave_waiting given all p gave waits =
    let step = cut_waiting p.bytes waits in
    let none : p.junk ≡ p.junk + 0 = omega arith in
    record {
      frames = sym (append-nil given) ∙ ap (λ (q : Parts). given ++ q.frames) (sym step) ∙ gave.frames;
      junk = none ∙ ap (λ (q : Parts). p.junk + q.junk) (sym step) ∙ gave.junk;
      rest = ap (λ (q : Parts). q.rest) (sym step) ∙ gave.rest;
    }

-- the bytes fed so far, and then so many of those that are left
pub fed_front : (bytes : List ℕ) (place count : ℕ)
    → take place bytes ++ take count (take (length bytes - place) (drop place bytes)) ≡ take (place + count) bytes
fed_front bytes place count =
    ap (λ (xs : List ℕ). take place bytes ++ take count xs) (take_rest bytes place) ∙ sym (take-add place count bytes)

-- bytes behind what is not yet cut are bytes behind all
pub gave_more : (given : List (List ℕ)) (all : List ℕ) (p : Pending) (more : List ℕ) → Gave given all p
    → Gave given (all ++ more) (pending_of (p.bytes ++ more) p.junk)
gave_more given all p more gave =
    let behind = cut ((cut all).rest ++ more) in
    let whole : cut (all ++ more) ≡ followed_by (cut all) behind = cut-append all more in
    let left : cut (p.bytes ++ more) ≡ followed_by (cut p.bytes) behind =
    cut-append p.bytes more ∙ ap (λ (xs : List ℕ). followed_by (cut p.bytes) (cut (xs ++ more))) gave.rest
    in
    let sum : p.junk + ((cut p.bytes).junk + behind.junk) ≡ (p.junk + (cut p.bytes).junk) + behind.junk = omega arith in
    record {
      frames = ap (λ (q : Parts). given ++ q.frames) left
          ∙ sym (append_assoc given (cut p.bytes).frames behind.frames)
          ∙ ap (λ (fs : List (List ℕ)). fs ++ behind.frames) gave.frames
          ∙ ap (λ (q : Parts). q.frames) (sym whole);
      junk = ap (λ (q : Parts). p.junk + q.junk) left
          ∙ sum
          ∙ ap (λ (n : ℕ). n + behind.junk) gave.junk
          ∙ ap (λ (q : Parts). q.junk) (sym whole);
      rest = ap (λ (q : Parts). q.rest) left ∙ ap (λ (q : Parts). q.rest) (sym whole);
      counted = omega (arith, gave.counted, length-append all more, length-append p.bytes more);
    }
