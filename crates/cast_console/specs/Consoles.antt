-- What a console tells of itself, as plain data, and what is heard at it.
use Rattle.std.specs.Prelude.{ℕ, ◌≡◌, ◌++◌, List, [], ◌∷◌, Bool, true, false}
use Rattle.cast_console.specs.declared.wanted.Wanted.{Wanted}
use Rattle.cast_console.specs.declared.wanted.Wanted.TheVariants as wants

-- a console: how many workers were busy each time that it was wanted how things stand, in order,
-- and whether nothing is wanted any more
pub record ConsoleTold : Type 0 where
  pub busy : List ℕ
  pub over : Bool

-- nothing was wanted at it
pub record IsNewConsole (told : ConsoleTold) : Type 0 where
  pub busy : told.busy ≡ []
  pub over : told.over ≡ false

-- this was heard there: how many workers are busy is noted, and that nothing is wanted any more
abbrev pub HasHeard : Wanted → ConsoleTold → ConsoleTold → Type 0
HasHeard (wants.Status busy) old new =
    (new.busy ≡ old.busy ++ busy ∷ []) × (new.over ≡ old.over)
HasHeard wants.Nothing old new = new ≡ old
HasHeard wants.Over old new = (new.busy ≡ old.busy) × (new.over ≡ true)
