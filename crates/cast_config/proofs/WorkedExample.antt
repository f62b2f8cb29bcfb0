-- A worked configuration: two mountpoints and a near one, two groups and two accounts, from the
-- members of its document on.
use Rattle.std.proofs.Common.{◌≡◌, ℕ, List, [], ◌∷◌, None, Ok, refl}
use Rattle.std.specs.Prelude.{codes, pos}
use Rattle.toml.specs.Data.{Data, string, integer, array, table, Items, no_items, item, Members, no_members, member}
use Rattle.type_filter.specs.Permitted.{All, Listed}
use Rattle.cast_config.specs.declared.config.Config.{Config}
use Rattle.cast_config.specs.declared.config.Mount.{Mount}
use Rattle.std.specs.Str.{is_utf8, chars}
use Rattle.std.proofs.Math.Utf8.{encode}
use Rattle.config_keys.specs.Lists.{tables}
use Rattle.config_keys.specs.Types.{types}
use Rattle.cast_config.specs.Names.{new_name, names_once, named}
use Rattle.cast_config.specs.Entries.{position_of, station_of, signals_of, origin_of, mount_of, near_of, hearing_of, given_of, group_of, credentials_of, membership_of, account_of}
use Rattle.cast_config.specs.Document.{places_of, heard_of, parties_of, settings_of, config_of}

-- ---- the document, each table's keys in order

abbrev texts : List (List ℕ) → Items
texts [] = no_items
texts (text ∷ more) = item (string text) (texts more)

abbrev mount_data : List ℕ → ℕ → Data
mount_data name latitude = table
    (member (codes "latitude") (integer (pos latitude))
    (member (codes "longitude") (integer (pos 115166666))
    (member (codes "name") (string name)
    (member (codes "password") (string (codes "sesame"))
    (member (codes "ring") (integer (pos 4)) no_members)))))

abbrev near_data : Data
near_data = table
    (member (codes "bases") (array (texts (codes "ALPHA" ∷ codes "BRAVO" ∷ [])))
    (member (codes "name") (string (codes "NEAR")) no_members))

abbrev group_data : List ℕ → List (List ℕ) → Data → Data
group_data name mounts types = table
    (member (codes "mounts") (array (texts mounts))
    (member (codes "name") (string name)
    (member (codes "types") types no_members)))

abbrev account_data : List ℕ → List ℕ → List ℕ → ℕ → Data
account_data user password group cap = table
    (member (codes "cap") (integer (pos cap))
    (member (codes "group") (string group)
    (member (codes "password") (string password)
    (member (codes "user") (string user) no_members))))

abbrev two : Data → Data → Data
two first second = array (item first (item second no_items))

abbrev document : Members
document =
    member (codes "account")
    (two (account_data (codes "rover1") (codes "secret") (codes "field") 1)
    (account_data (codes "rover2") (codes "secret2") (codes "survey") 8))
    (member (codes "group")
    (two (group_data (codes "field") (codes "ALPHA" ∷ codes "BRAVO" ∷ codes "NEAR" ∷ []) (string (codes "all")))
    (group_data (codes "survey") (codes "BRAVO" ∷ []) (array (item (integer (pos 1005)) no_items))))
    (member (codes "hysteresis") (integer (pos 10))
    (member (codes "mount")
    (two (mount_data (codes "ALPHA") 481173000) (mount_data (codes "BRAVO") 482000000))
    (member (codes "near") (array (item near_data no_items))
    (member (codes "version") (integer (pos 1))
    (member (codes "workers") (integer (pos 3)) no_members))))))

-- ---- the configuration

abbrev mount : List ℕ → ℕ → Mount
mount name latitude = record {
  name = name;
  password = codes "sesame";
  ring = 4;
  at = record { lat = pos latitude; lon = pos 115166666 };
  identifier = name;
  details = [];
  carrier = codes "2";
  navigation = codes "GPS";
  network = [];
  country = [];
  generator = [];
  bitrate = 0;
  misc = [];
}

abbrev pub example : Config
example = record {
  workers = 3;
  hysteresis = 10;
  records = [];
  mount = mount (codes "ALPHA") 481173000 ∷ mount (codes "BRAVO") 482000000 ∷ [];
  near = record { name = codes "NEAR"; bases = 0 ∷ 1 ∷ [] } ∷ [];
  group =
      record { name = codes "field"; mounts = 0 ∷ 1 ∷ 2 ∷ []; types = All; filter = [] }
      ∷ record { name = codes "survey"; mounts = 1 ∷ []; types = Listed (1005 ∷ []); filter = [] } ∷ [];
  account =
      record { user = codes "rover1"; password = codes "secret"; group = 0; cap = 1 }
      ∷ record { user = codes "rover2"; password = codes "secret2"; group = 1; cap = 8 } ∷ [];
  relay = [];
  anonymous = None;
  permits = (All ∷ Listed (1005 ∷ []) ∷ []) ∷ (All ∷ Listed (1005 ∷ []) ∷ []) ∷ [];
}

document_says_it : config_of document ≡ Ok example
unfolding config_of settings_of heard_of places_of parties_of mount_of station_of position_of signals_of origin_of
    near_of group_of hearing_of given_of account_of credentials_of membership_of tables new_name names_once named types
    is_utf8 chars encode
document_says_it = refl
