-- The fields of `Lines`.
use Rattle.std.specs.Prelude.{◌+◌, ◌≤◌, length}
use Rattle.std.specs.Vec.{vec_capacity}
use Rattle.cast_text.specs.declared.lines.Lines.TheInside.{Inside}
use Rattle.cast_text.specs.Lines.{LineState}

abbrev pub state_of : Inside → LineState
state_of a = record { limit = a.limit; line = a.line.items; over = a.over; ended = a.ended }

-- the limit is small, and there is room for one byte more
pub record IsWithin (a : Inside) : Type 0 where
  pub limit : a.limit ≤ 8192
  pub line : length a.line.items ≤ a.limit + 1
  pub room : a.limit + 1 ≤ vec_capacity a.line
