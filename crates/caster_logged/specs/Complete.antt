-- When a caster that keeps serving ends as it should: where its file gives a configuration, and
-- nothing failed.
use Rattle.std.specs.Prelude.{◌≡◌, ◌≤◌, ◌⊎◌, ℕ, List, ◌++◌, length, Ok}
use Rattle.std.specs.List.{All}
use Rattle.cast_io.specs.Yards.{GateTold, NotesTold}
use Rattle.cast_config.specs.declared.config.Config.{Config}
use Rattle.cast_config.specs.Document.{IsRead}
use Rattle.caster_top.specs.Told.{Files}
use Rattle.caster_logged.specs.Keepers.{YardList}

-- whatever came from the file of this path is a configuration of at most 8 MiB
abbrev pub GivesConfig : Files → List ℕ → Type 0
GivesConfig files path = (bytes : List ℕ) → files path bytes
    → (length bytes ≤ 8388608) × (c : Config) × IsRead bytes (Ok c)

-- no gate and no place for lines that came back counted a fault
pub record CameBackWhole (old new : YardList) : Type 0 where
  pub gates : List GateTold
  pub notes : List NotesTold
  pub gates_back : new.gates ≡ old.gates ++ gates
  pub notes_back : new.notes ≡ old.notes ++ notes
  pub no_gate_failed : All (λ (gate : GateTold). gate.door.faults ≡ 0) gates
  pub no_line_failed : All (λ (notes : NotesTold). notes.faults ≡ 0) notes

-- the status is 0, or 7 for want of memory
abbrev pub EndsAsItShould : ℕ → Type 0
EndsAsItShould status = (status ≡ 0) ⊎ (status ≡ 7)
