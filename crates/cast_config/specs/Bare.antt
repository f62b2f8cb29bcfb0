-- The smallest configuration.
use Rattle.std.specs.Prelude.{ℕ, pos, codes, [], ◌∷◌, Some}
use Rattle.type_filter.specs.Permitted.{All}
use Rattle.cast_config.specs.declared.config.Config.{Config}
use Rattle.cast_config.specs.declared.config.Mount.{Mount}
use Rattle.cast_config.specs.declared.config.Group.{Group}
use Rattle.cast_config.specs.declared.mountpoint.Station.{Station}
use Rattle.cast_config.specs.declared.mountpoint.Signals.{Signals}
use Rattle.cast_config.specs.declared.mountpoint.Origin.{Origin}
use Rattle.cast_config.specs.Served.{all_filters}

-- the mountpoint `A` of this capacity, without a password, at latitude and longitude 0; all else
-- has the value of a key that is not there
abbrev pub mount_a : ℕ → Mount
mount_a capacity = record {
  name = codes "A";
  password = [];
  ring = capacity;
  at = record { lat = pos 0; lon = pos 0 };
  identifier = codes "A";
  details = [];
  carrier = codes "2";
  navigation = codes "GPS";
  network = [];
  country = [];
  generator = [];
  bitrate = 0;
  misc = [];
}

-- its parts
abbrev pub station_a : ℕ → Station
station_a capacity = record {
  name = codes "A";
  password = [];
  ring = capacity;
  at = record { lat = pos 0; lon = pos 0 };
}

abbrev pub signals_a : Signals
signals_a = record {
  identifier = codes "A";
  details = [];
  carrier = codes "2";
  navigation = codes "GPS";
}

abbrev pub origin_a : Origin
origin_a = record { network = []; country = []; generator = []; bitrate = 0; misc = [] }

-- the group `all`, which lists it and is given every frame
abbrev pub group_all : Group
group_all = record { name = codes "all"; mounts = 0 ∷ []; types = All; filter = [] }

-- both, and who has no account in that group, with a cap that is never reached
abbrev pub bare : ℕ → Config
bare capacity = record {
  workers = 4;
  hysteresis = 10;
  records = [];
  mount = mount_a capacity ∷ [];
  near = [];
  group = group_all ∷ [];
  account = [];
  relay = [];
  anonymous = Some (record { group = 0; cap = 4294967295 });
  permits = all_filters (mount_a capacity ∷ []) (group_all ∷ []);
}
