-- What was asked for.
use Rattle.std.proofs.Common.{◌≡◌, ℕ, List, [], ◌∷◌, Option, Some, refl, sym, subst, inl, inr}
use Rattle.cast_io.specs.Told.{Grew}
use Rattle.cast_io.proofs.ToldLemmas.{grew_both}
use Rattle.cast_config.specs.declared.config.Config.{Config}
use Rattle.caster_top.specs.declared.command.RoverStart.{RoverStart}
use Rattle.caster_top.specs.Command.{Form, replay, form_of}
use Rattle.caster_top.specs.Told.{FilesTold, IsConfigAt, IsAsked}

-- for words that are read so
pub asked_so : (words : List (List ℕ)) (read : Option Form) (files : FilesTold) (old new : Option (List (List ℕ)))
    → form_of words ≡ read → IsAsked read files old new → IsAsked (form_of words) files old new
asked_so words read files old new h asked =
    subst (λ (form : Option Form). IsAsked form files old new) (sym h) asked

-- the configuration alone, and both
pub config_asked : (start : RoverStart) (config session : List ℕ) (files : FilesTold) (old new : Option (List (List ℕ)))
    → Grew old new (config ∷ []) → IsAsked (Some (replay start config session)) files old new
config_asked start config session files old new grew = (config ∷ [], inl refl, grew)

pub both_asked : (start : RoverStart) (config session : List ℕ) (files : FilesTold) (old mid new : Option (List (List ℕ)))
    (c : Config)
    → Grew old mid (config ∷ []) → Grew mid new (session ∷ []) → IsConfigAt files config c
    → IsAsked (Some (replay start config session)) files old new
both_asked start config session files old mid new c first second is =
    (config ∷ session ∷ [], inr (refl, c, is), grew_both old mid new (config ∷ []) (session ∷ []) first second)
