-- What one more frame does to the counts.
use Rattle.std.proofs.Common.{◌≡◌, ℕ, ◌+◌, ◌-◌, ◌≤◌, List, [], ◌∷◌, ◌++◌, length, take, drop, IsTrue, IfSome, Option, Some, None, refl, ap, ◌∙◌, sym, arith, append_assoc, append-nil, length-append, length-take-le, subst}
use Rattle.std.specs.Io.KnownBytes.{Consumes, IsAtEnd}
use Rattle.std.proofs.lemmas.List.Elements.{All-head}
use Rattle.std.proofs.lemmas.List.Sums.{sum_by-cons}
use Rattle.std.specs.List.{All}
use Rattle.rtcm_frame.specs.Transport.{is_frame}
use Rattle.rtcm_frame.specs.Cut.{IsWaiting, cut}
use Rattle.rtcm_frame.specs.Pending.{Pending, Gave, Took}
use Rattle.rtcm_frame.proofs.CutLemmas.{all-frames}
use Rattle.rtcm_frame.proofs.FrameLemmas.{frame_least}
use Rattle.rtcm_frame.proofs.PendingLemmas.{fed_front, gave_start, gave_took, gave_waiting}
use Rattle.bench_cut.specs.Counted.{GaveSoMany, size}

-- a frame that is taken is one
taken_valid : (old new : Pending) (frame : List ℕ) → Took old new (frame ∷ []) → IsTrue (is_frame frame)
taken_valid old new frame took =
    let valid : All (λ f. IsTrue (is_frame f)) (frame ∷ (cut new.bytes).frames) =
    subst (λ (fs : List (List ℕ)). All (λ f. IsTrue (is_frame f)) fs) took.in_order (all-frames old.bytes)
    in
    All-head (λ f. IsTrue (is_frame f)) frame (cut new.bytes).frames valid

-- a frame has bytes, so a count of one more is no more than they were
pub took_one : (old new : Pending) (frame : List ℕ) → Took old new (frame ∷ [])
    → new.junk + length new.bytes + 1 ≤ old.junk + length old.bytes
took_one old new frame took = omega (
  arith,
  took.counted,
  sum_by-cons length frame [],
  frame_least frame (taken_valid old new frame took),
)

-- a frame that is taken is one more that was given
pub one_more : (all : List ℕ) (count : ℕ) (old new : Pending) (frame : List ℕ) → GaveSoMany all count old
    → Took old new (frame ∷ []) → GaveSoMany all (count + 1) new
one_more all count old new frame so_many took = record {
  given = so_many.given ++ frame ∷ [];
  count_is = omega (arith, length-append so_many.given (frame ∷ []), so_many.count_is);
  gave = gave_took so_many.given (frame ∷ []) all old new so_many.gave took;
}

-- a byte that is pushed goes on behind what was pushed
pub pushed_more : (all : List ℕ) (byte before frames : ℕ) (old mid new : Pending) → GaveSoMany all before old
    → ((given : List (List ℕ)) (so_far : List ℕ) → Gave given so_far old → Gave given (so_far ++ byte ∷ []) mid)
    → ((so_far : List ℕ) → GaveSoMany so_far before mid → GaveSoMany so_far frames new)
    → GaveSoMany (all ++ byte ∷ []) frames new
pushed_more all byte before frames old mid new so_many pushed ready =
    ready _ (record {
      given = so_many.given;
      count_is = so_many.count_is;
      gave = pushed so_many.given all so_many.gave;
    })

-- the bytes that are not yet cut grow by a block
pub fed_size : (old mid : Pending) (more : List ℕ) (count before : ℕ) → count ≤ length more
    → mid ≡ record { bytes = old.bytes ++ take count more; junk = old.junk }
    → size mid before ≡ size old before + count
fed_size old mid more count before within is =
    ap (λ (p : Pending). size p before) is
    ∙ omega (arith, length-append old.bytes (take count more), length-take-le count more within)

-- a block that is fed, and the frames that it completes, go on behind what was fed
pub fed_more : (all piece : List ℕ) (place count before frames : ℕ) (old mid new : Pending)
    → GaveSoMany (all ++ take place piece) before old
    → ((given : List (List ℕ)) (so_far : List ℕ) → Gave given so_far old
    → Gave given (so_far ++ take count (take (length piece - place) (drop place piece))) mid)
    → ((so_far : List ℕ) → GaveSoMany so_far before mid → GaveSoMany so_far frames new)
    → GaveSoMany (all ++ take (place + count) piece) frames new
fed_more all piece place count before frames old mid new so_many fed ready =
    let front = all ++ take place piece in
    let block = take count (take (length piece - place) (drop place piece)) in
    let whole : front ++ block ≡ all ++ take (place + count) piece =
    append_assoc all (take place piece) block ∙ ap (λ (xs : List ℕ). all ++ xs) (fed_front piece place count)
    in
    subst (λ (xs : List ℕ). GaveSoMany xs frames new) whole (
    ready _ (record {
      given = so_many.given;
      count_is = so_many.count_is;
      gave = fed so_many.given front so_many.gave;
    }))

-- from a reader's first state to its present one so many frames of what was read were given
pub record ReadSoFar (old now : Option (List ℕ)) (count : ℕ) (pending : Pending) : Type 0 where
  pub all : List ℕ
  pub consumed : Consumes old now all
  pub gave : GaveSoMany all count pending

-- bytes that are read one piece after the other
consumed_both : (old mid new : Option (List ℕ)) (a b : List ℕ) → Consumes old mid a → Consumes mid new b
    → Consumes old new (a ++ b)
consumed_both None mid new a b first second = tt
consumed_both (Some xs) None new a b first second = absurd first
consumed_both (Some xs) (Some ys) None a b first second = absurd second
consumed_both (Some xs) (Some ys) (Some zs) a b first second =
    first ∙ ap (λ (l : List ℕ). a ++ l) second ∙ sym (append_assoc a b zs)

-- nothing is read at first
pub read_none : (known : Option (List ℕ)) → ReadSoFar known known 0 (record { bytes = []; junk = 0 })
read_none known = record {
  all = [];
  consumed = nothing known;
  gave = record { given = []; count_is = refl; gave = gave_start };
}
  where
    nothing : (known : Option (List ℕ)) → Consumes known known []
    nothing None = tt
    nothing (Some xs) = refl

-- one more piece is read and counted
pub read_more : (old mid new : Option (List ℕ)) (piece : List ℕ) (before count : ℕ) (pending later : Pending)
    → ReadSoFar old mid before pending → Consumes mid new piece
    → ((all : List ℕ) → GaveSoMany all before pending → GaveSoMany (all ++ piece) count later)
    → ReadSoFar old new count later
read_more old mid new piece before count pending later so_far consumed counted = record {
  all = so_far.all ++ piece;
  consumed = consumed_both old mid new so_far.all piece so_far.consumed consumed;
  gave = counted so_far.all so_far.gave;
}

-- at the end the counts are those of the cut of all that was there
pub read_all : (old now : Option (List ℕ)) (count : ℕ) (pending : Pending) → ReadSoFar old now count pending
    → IsWaiting pending.bytes → IsAtEnd now
    → IfSome old (λ all. (count ≡ length (cut all).frames) × (pending.junk ≡ (cut all).junk))
read_all None now count pending so_far waits end = tt
read_all (Some xs) None count pending so_far waits end = absurd so_far.consumed
read_all (Some xs) (Some ys) count pending so_far waits end =
    let whole : so_far.all ≡ xs =
    sym (so_far.consumed ∙ ap (λ (l : List ℕ). so_far.all ++ l) end ∙ append-nil so_far.all)
    in
    let done = gave_waiting so_far.gave.given so_far.all pending so_far.gave.gave waits in (
      sym so_far.gave.count_is
          ∙ ap (λ (fs : List (List ℕ)). length fs) done.frames
          ∙ ap (λ (l : List ℕ). length (cut l).frames) whole,
      done.junk ∙ ap (λ (l : List ℕ). (cut l).junk) whole,
    )

-- a read of no bytes leaves the counts as they are
pub read_nothing : (old mid new : Option (List ℕ)) (buffer : List ℕ) (read count : ℕ) (pending : Pending)
    → ReadSoFar old mid count pending → read ≡ 0 → Consumes mid new (take read buffer)
    → ReadSoFar old new count pending
read_nothing old mid new buffer read count pending so_far none consumed =
    let no_bytes : take read buffer ≡ [] = ap (λ (n : ℕ). take n buffer) none in
    let empty : Consumes mid new [] = subst (λ (l : List ℕ). Consumes mid new l) no_bytes consumed in
    read_more old mid new [] count count pending pending so_far empty
    (λ all gave. subst (λ (l : List ℕ). GaveSoMany l count pending) (sym (append-nil all)) gave)
