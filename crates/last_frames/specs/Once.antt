-- That a station keeps what a state says is one fact, and not a choice.
use Rattle.std.specs.Prelude.{ℕ, List, Option, refl}
use Rattle.std.specs.Coded.{Coded, Coded-set, code_by, coded×, coded_list, coded_ℕ, coded_option}
use Rattle.mount_ring.specs.History.{State}
use Rattle.mount_ring.specs.KeptOnce.{kept_once}
use Rattle.last_frames.specs.declared.latest.Latest.{Latest}
use Rattle.last_frames.specs.declared.station.Station.{Station}
use Rattle.last_frames.specs.Station.{IsKept}

-- a number and a frame
abbrev latest_code : Coded Latest
latest_code =
    code_by (ℕ × Option (List ℕ)) (coded× coded_ℕ (coded_option (coded_list coded_ℕ)))
    (λ latest. (latest.number, latest.frame))
    (λ pair. record { number = pair.0; frame = pair.1 }) (λ _. refl)

pub is_kept_once : (station : Station) (state : State) → IsProp (IsKept station state)
is_kept_once station state =
    hlevel (kept_once station.ring state, Coded-set (coded_list latest_code))
