-- the caps so far
use Rattle.std.proofs.Common.{◌≡◌, ◌∷◌, map, take}
use Rattle.cast_config.specs.declared.config.Account.{Account}
use Rattle.session_model.specs.Setting.{anonymous_cap}
use Rattle.session_model.proofs.caps.caps_of.Given as goal

abbrev pub invariant-loop-account : goal.invariant-loop-account
invariant-loop-account l =
    l.list.items
    ≡ anonymous_cap l.config.anonymous ∷ map (λ (account : Account). account.cap)
    (take l.account-index l.config.account)
