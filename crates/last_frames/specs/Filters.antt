-- That two lists of filters are the same is one fact, and not a choice.
use Rattle.std.specs.Prelude.{◌≡◌, List}
use Rattle.std.specs.Coded.{Coded-set, coded_list}
use Rattle.type_filter.specs.Permitted.{FilterValue}
use Rattle.type_filter.specs.Codes.{filter_code}

pub filters_once : (some others : List FilterValue) → IsProp (some ≡ others)
filters_once = Coded-set (coded_list filter_code)
