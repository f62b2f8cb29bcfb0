-- What a cutter knows of the bytes pushed so far, and what its calls promise of them.
use Rattle.std.specs.Prelude.{◌≡◌, ℕ, ◌+◌, List, ◌++◌, length, sum_by}
use Rattle.rtcm_frame.specs.Cut.{cut}

-- the bytes that are not yet cut, and the junk counted so far
pub record Pending : Type 0 where
  pub bytes : List ℕ
  pub junk : ℕ

-- with these frames given so far, what is left to cut gives the rest of the cut of all bytes pushed
pub record Gave (given : List (List ℕ)) (all : List ℕ) (pending : Pending) : Type 0 where
  pub frames : given ++ (cut pending.bytes).frames ≡ (cut all).frames
  pub junk : pending.junk + (cut pending.bytes).junk ≡ (cut all).junk
  pub rest : (cut pending.bytes).rest ≡ (cut all).rest
  -- every byte is in a frame that was given, is counted as junk, or is not yet cut
  pub counted : sum_by length given + pending.junk + length pending.bytes ≡ length all

-- these frames are all of the cut of all bytes pushed, and so are the junk and what waits
pub record GaveAll (given : List (List ℕ)) (all : List ℕ) (pending : Pending) : Type 0 where
  pub frames : given ≡ (cut all).frames
  pub junk : pending.junk ≡ (cut all).junk
  pub rest : pending.bytes ≡ (cut all).rest

-- from one state to the next these frames were given, and some junk may have been counted
pub record Took (old new : Pending) (frames : List (List ℕ)) : Type 0 where
  pub in_order : (cut old.bytes).frames ≡ frames ++ (cut new.bytes).frames
  pub junk : old.junk + (cut old.bytes).junk ≡ new.junk + (cut new.bytes).junk
  pub rest : (cut old.bytes).rest ≡ (cut new.bytes).rest
  pub counted : old.junk + length old.bytes ≡ sum_by length frames + new.junk + length new.bytes

-- of the old state's bytes some in front are now counted as junk, then comes this frame, and
-- nothing behind it was cut yet
pub record IsBehindJunk (old new : Pending) (frame : List ℕ) : Type 0 where
  pub junk : List ℕ
  pub split : old.bytes ≡ junk ++ (frame ++ new.bytes)
  pub added : new.junk ≡ old.junk + length junk
