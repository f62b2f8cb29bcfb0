-- What was done with what input and files gave was done with what they logged.
use Rattle.std.proofs.Common.{ℕ, List, Option, Some}
use Rattle.cast_io.specs.Told.{StreetTold}
use Rattle.caster_top.specs.Done.{WasDone}
use Rattle.caster_top.specs.Given.{FileGave, InputGave}
use Rattle.caster_top.specs.Told.{FilesTold}
use Rattle.caster_top.proofs.DoneLemmas.{done_more}
use Rattle.caster_logged.specs.Inputs.{Steps, HasRead, HasReadFile}
use Rattle.caster_logged.proofs.LogLemmas.{gave_read, gave_read_file}

pub done_logged : (words : List (List ℕ)) (left : Option (List ℕ)) (files : FilesTold) (a b c d : Steps)
    (before after : StreetTold) (old new : Option (List ℕ))
    → WasDone words (InputGave left (Some a) (Some b)) (FileGave files (Some c) (Some d)) before after old new
    → WasDone words (HasRead a b) (HasReadFile c d) before after old new
done_logged words left files a b c d before after old new done =
    done_more (λ bytes short gave. gave_read a b bytes gave.1)
    (λ path bytes short gave. gave_read_file path c d bytes gave.1) done
