-- A seat never lacks memory.
use Rattle.std.proofs.Common.{◌≡◌, ℕ, subst}
use Rattle.cast_config.specs.declared.config.Config.{Config}
use Rattle.cast_io.specs.Told.{DoorTold}
use Rattle.caster_accounts.specs.declared.account.Sum.{Sum}
use Rattle.session_model.specs.Run.{Histories}
use Rattle.caster_link.specs.Wear.{Wear}
use Rattle.caster_link.proofs.WornLemmas.{none_lack}
use Rattle.caster_serve.specs.Works.{Worked}
use Rattle.caster_serve.proofs.WorkLemmas.{worked_worn}
use Rattle.caster_serve.proofs.worker.work.Goals as goal

-- of the same configuration and number
worked_as : (c d : Config) (me number : ℕ) (wear : Wear) (start now : Histories) (before after : DoorTold)
    (old new : Sum) (limit count : ℕ) → c ≡ d → me ≡ number
    → Worked c me wear start now before after old new limit count
    → Worked d number wear start now before after old new limit count
worked_as c d me number wear start now before after old new limit count same called worked =
    subst (λ (config : Config). Worked config number wear start now before after old new limit count) same
    (subst (λ (n : ℕ). Worked c n wear start now before after old new limit count) called worked)

pub returns-clause-worked : goal.returns-clause-worked
returns-clause-worked g c = (
  c.work_places.result,
  worked_as _ _ _ _ _ _ _ _ _ _ _ _ _ c.setup-setup.ensures.config c.setup-setup.ensures.me
      (worked_worn _ _ _ _ _ _ _ _ _ _ _ _ (none_lack c.work_places.new.places.rings.items)
      c.work_places.ensures.worked),
)
