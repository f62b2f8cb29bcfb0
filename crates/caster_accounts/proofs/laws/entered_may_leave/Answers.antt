use Rattle.std.proofs.Common.{◌++◌, ◌∷◌, [], refl}
use Rattle.caster_accounts.specs.declared.call.BookCall.TheVariants.{Enter}
use Rattle.caster_accounts.proofs.BookLemmas.{entered_may}
use Rattle.caster_accounts.proofs.laws.entered_may_leave.Goals as goal

pub returns : goal.returns
returns c = λ caps h me account low answered.
    entered_may caps h (h ++ (me, Enter account) ∷ []) me account refl low answered
