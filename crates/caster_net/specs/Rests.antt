-- What ends the rest of a link: whom it wakes and by whom it is woken.
use Rattle.std.specs.Prelude.{ℕ, ◌==◌, ◌||◌, ◌&&◌, Bool, false, not, List, Option, None, is_some}
use Rattle.std.specs.List.{list_any}

-- what a link has to do with the bells of its street: whether it is a source; the mountpoint that
-- it was told last; and whether it gave bytes as a source, and no bell was rung for them yet
pub record RingerState : Type 0 where
  pub is_source : Bool
  pub mount : Option ℕ
  pub gave : Bool

-- that of a link that gave no byte and was told no mountpoint
abbrev pub silent : RingerState
silent = record { is_source = false; mount = None; gave = false }

-- the first byte of every frame (RTCM 10403.3, transport layer) is among these, 0xD3, which no head
-- and no report has
abbrev pub has_preamble : List ℕ → Bool
has_preamble bytes = list_any (λ byte. byte == 0xD3) bytes

-- the link gave these bytes: it is a source from the first frame on, and then all may be frames
abbrev pub heard : List ℕ → RingerState → RingerState
heard bytes ringer = record ringer {
  is_source = ringer.is_source || has_preamble bytes;
  gave = ringer.is_source || has_preamble bytes;
}

-- the link waits for a bell at its rests: it was told a mountpoint, and is no source
abbrev pub waits_for_bell : RingerState → Bool
waits_for_bell ringer = is_some ringer.mount && not ringer.is_source
