-- Lines that a caller put at a press, by their texts.
use Rattle.std.specs.Prelude.{◌≡◌, ℕ, List, map}
use Rattle.turn_log.specs.History.{History}
use Rattle.caster_press.specs.declared.line.Line.{Line}
use Rattle.caster_press.specs.Lines.{text_of}
use Rattle.caster_press.specs.Places.{HasPut}

-- This caller put exactly the lines of these texts, in this order. Others may have put lines
-- before, between and behind them.
pub record HasTold (me : ℕ) (texts : List (List ℕ)) (old new : History Line) : Type 0 where
  pub lines : List Line
  pub texts_are : map text_of lines ≡ texts
  pub put : HasPut me lines old new
