-- What was done is by the logs, once these are what is told.
use Rattle.std.proofs.Common.{◌≡◌, ℕ, List, Option, Some, subst}
use Rattle.cast_io.specs.Logs.{Log}
use Rattle.cast_io.specs.Told.{StreetTold}
use Rattle.caster_top.specs.Done.{WasDone}
use Rattle.caster_top.specs.Given.{FileGave, InputGave}
use Rattle.caster_top.specs.Told.{FilesTold}
use Rattle.caster_logged.specs.Inputs.{Steps}
use Rattle.caster_cases.proofs.logged.logged_status.Goals as goal

-- what is told to be these logs is what they are
told_so : (words : List (List ℕ)) (left : Option (List ℕ)) (files : FilesTold)
    (before after : StreetTold) (old new : Option (List ℕ)) {a b c d : Log}
    {first last opened closed : Steps}
    → a ≡ Some first → b ≡ Some last → c ≡ Some opened → d ≡ Some closed
    → WasDone words (InputGave left a b) (FileGave files c d) before after old new
    → WasDone words (InputGave left (Some first) (Some last))
    (FileGave files (Some opened) (Some closed)) before after old new
told_so words left files before after old new {a} {b} {c} {d} {first} {last} {opened} {closed} is_a is_b is_c is_d done =
    subst (λ (l : Log). WasDone words (InputGave left (Some first) (Some last)) (FileGave files (Some opened) l) before after old new) is_d
    (subst (λ (l : Log). WasDone words (InputGave left (Some first) (Some last)) (FileGave files l d) before after old new) is_c
    (subst (λ (l : Log). WasDone words (InputGave left (Some first) l) (FileGave files c d) before after old new) is_b
    (subst (λ (l : Log). WasDone words (InputGave left l b) (FileGave files c d) before after old new) is_a done)))

pub returns : goal.returns
returns g c = record {
  done = λ zero first last opened closed is_a is_b is_c is_d. c.what_was_done_is_logged.ensures _ _ _ _ _ _ _ _ _ _ _
      (told_so _ _ _ _ _ _ _ is_a is_b is_c is_d (c.caster.ensures.call.came.done zero));
}
