-- That a ring keeps what a state says is one fact, and not a choice.
use Rattle.std.specs.Prelude.{ℕ, refl}
use Rattle.std.specs.Coded.{Coded, Coded-set, code_by, coded×, coded_list, coded_ℕ, coded_option}
use Rattle.type_filter.specs.Permitted.{FilterValue}
use Rattle.type_filter.specs.Codes.{filter_code}
use Rattle.mount_ring.specs.declared.call.Holder.{Holder}
use Rattle.mount_ring.specs.declared.watch.Watch.{Watch}
use Rattle.mount_ring.specs.declared.ring.Ring.{Ring}
use Rattle.mount_ring.specs.History.{State}
use Rattle.mount_ring.specs.Kept.{Keeps}

-- a holder as two numbers, and the counts for a filter as it and two numbers
abbrev holder_code : Coded Holder
holder_code =
    code_by (ℕ × ℕ) (coded× coded_ℕ coded_ℕ) (λ holder. (holder.caller, holder.claim))
    (λ pair. record { caller = pair.0; claim = pair.1 }) (λ _. refl)

abbrev watch_code : Coded Watch
watch_code =
    code_by (FilterValue × (ℕ × ℕ)) (coded× filter_code (coded× coded_ℕ coded_ℕ))
    (λ watch. (watch.filter, (watch.permitted, watch.dropped)))
    (λ pair. record { filter = pair.0; permitted = pair.1.0; dropped = pair.1.1 }) (λ _. refl)

pub kept_once : (ring : Ring) (state : State) → IsProp (Keeps ring state)
kept_once ring state =
    hlevel (
      Coded-set (coded_list (coded_list coded_ℕ)),
      Coded-set (coded_list watch_code),
      Coded-set coded_ℕ,
      Coded-set (coded_option holder_code),
    )
