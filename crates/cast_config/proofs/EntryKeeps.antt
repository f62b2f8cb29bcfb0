-- What holds of each entry that was read, key by key: each value is read again from its data.
use Rattle.std.proofs.Common.{◌≡◌, ℕ, pos, negsuc, Bool, true, false, cond, List, [], Option, Some, None, Ok, refl, subst}
use Rattle.std.specs.Prelude.{codes, IfSome, ◌==◌}
use Rattle.gga_read.specs.declared.Position.{Position}
use Rattle.toml.specs.Data.{Data, string, integer, float, boolean, datetime, array, table, Members, get_member}
use Rattle.config_keys.specs.declared.key.Key.{Key}
use Rattle.config_keys.specs.declared.strings.TextKind.TheVariants.{Plain, Secret, Address}
use Rattle.config_keys.specs.Rules.{Rule, required, optional, whole, count}
use Rattle.config_keys.specs.Texts.{is_fit, text, name}
use Rattle.config_keys.specs.Types.{types}
use Rattle.config_keys.proofs.KeepLemmas.{value_is, taken, again, again_or, text_keeps, name_keeps, count_keeps, whole_keeps, fit_text, name_is}
use Rattle.cast_config.specs.declared.config.Mount.{Mount}
use Rattle.cast_config.specs.declared.config.Near.{Near}
use Rattle.cast_config.specs.declared.config.Group.{Group}
use Rattle.cast_config.specs.declared.config.GroupFilter.{GroupFilter}
use Rattle.cast_config.specs.declared.config.Account.{Account}
use Rattle.cast_config.specs.declared.config.Relay.{Relay}
use Rattle.cast_config.specs.declared.config.Anonymous.{Anonymous}
use Rattle.cast_config.specs.declared.entries.Credentials.{Credentials}
use Rattle.cast_config.specs.declared.entries.Given.{Given}
use Rattle.cast_config.specs.declared.entries.Hearing.{Hearing}
use Rattle.cast_config.specs.declared.entries.Membership.{Membership}
use Rattle.cast_config.specs.declared.entries.Pull.{Pull}
use Rattle.cast_config.specs.declared.mountpoint.Station.{Station}
use Rattle.cast_config.specs.declared.mountpoint.Signals.{Signals}
use Rattle.cast_config.specs.declared.mountpoint.Origin.{Origin}
use Rattle.cast_config.specs.Names.{mount_names, group_names, user_names, heard_names, new_name, named, all_named, filters_at, some_of}
use Rattle.cast_config.specs.Entries.{place, position_of, station_of, signals_of, origin_of, mount_from, mount_of, near_of, hearing_of, given_of, group_of, credentials_of, membership_of, account_of, pull_of, relay_of, anonymous_in, anonymous_of}
use Rattle.cast_config.proofs.NameKeeps.{IsNew, IsNamed, new_is, named_is}
use Rattle.cast_config.proofs.ReferenceKeeps.{IsAllNamed, all_is, IsFiltered, filtered_is, none_filtered}
use Rattle.cast_config.proofs.NameTexts.{name_fits, empty_fits, empty_secret, carrier_fits, navigation_fits}

-- ---- mountpoints

pub record IsPosition (n : ℕ) (p : Position) : Type 0 where
  pub lat : whole (negsuc 899999999) (pos 900000000) (place 5 n 4) (integer p.lat) ≡ Ok p.lat
  pub lon : whole (negsuc 1799999999) (pos 1800000000) (place 5 n 5) (integer p.lon) ≡ Ok p.lon

pub position_is : (n : ℕ) (ms : Members) (p : Position) → position_of n ms ≡ Ok p → IsPosition n p
unfolding position_of
position_is n ms p e =
    taken (IsPosition n) _ _ p e (λ v1 f1 e1.
    taken (IsPosition n) _ _ p e1 (λ v2 f2 e2.
    subst (IsPosition n) (value_is _ p e2) (record {
      lat = again (whole (negsuc 899999999) (pos 900000000)) integer (whole_keeps (negsuc 899999999) (pos 900000000)) _
          (get_member (codes "latitude") ms) v1 f1;
      lon = again (whole (negsuc 1799999999) (pos 1800000000)) integer
          (whole_keeps (negsuc 1799999999) (pos 1800000000)) _ (get_member (codes "longitude") ms) v2 f2;
    })))

pub record IsMount (n : ℕ) (before : List Mount) (m : Mount) : Type 0 where
  pub name : IsNew (mount_names before) (place 5 n 1) m.name
  pub password : text Plain (place 5 n 2) (string m.password) ≡ Ok m.password
  pub ring : count 1 4096 (place 5 n 3) (integer (pos m.ring)) ≡ Ok m.ring
  pub at : IsPosition n m.at
  pub identifier : text Plain (place 5 n 6) (string m.identifier) ≡ Ok m.identifier
  pub details : text Plain (place 5 n 7) (string m.details) ≡ Ok m.details
  pub carrier : text Plain (place 5 n 8) (string m.carrier) ≡ Ok m.carrier
  pub navigation : text Plain (place 5 n 9) (string m.navigation) ≡ Ok m.navigation
  pub network : text Plain (place 5 n 10) (string m.network) ≡ Ok m.network
  pub country : text Plain (place 5 n 11) (string m.country) ≡ Ok m.country
  pub generator : text Plain (place 5 n 12) (string m.generator) ≡ Ok m.generator
  pub bitrate : count 0 1000000000 (place 5 n 13) (integer (pos m.bitrate)) ≡ Ok m.bitrate
  pub misc : text Plain (place 5 n 14) (string m.misc) ≡ Ok m.misc

required_new : (names : List (List ℕ)) (key : Key) (o : Option Data) (s : List ℕ)
    → required (new_name names) key o ≡ Ok s → IsNew names key s
required_new names key None s e = absurd cc
required_new names key (Some d) s e = (new_is names key d s e).1

record IsStation (n : ℕ) (before : List Mount) (s : Station) : Type 0 where
  pub name : IsNew (mount_names before) (place 5 n 1) s.name
  pub password : text Plain (place 5 n 2) (string s.password) ≡ Ok s.password
  pub ring : count 1 4096 (place 5 n 3) (integer (pos s.ring)) ≡ Ok s.ring
  pub at : IsPosition n s.at

station_is : (n : ℕ) (before : List Mount) (ms : Members) (s : Station) → station_of n before ms ≡ Ok s
    → IsStation n before s
unfolding station_of
station_is n before ms s e =
    taken (IsStation n before) _ _ s e (λ v1 f1 e1.
    taken (IsStation n before) _ _ s e1 (λ v2 f2 e2.
    taken (IsStation n before) _ _ s e2 (λ v3 f3 e3.
    taken (IsStation n before) _ _ s e3 (λ v4 f4 e4.
    subst (IsStation n before) (value_is _ s e4) (record {
      name = required_new (mount_names before) (place 5 n 1) (get_member (codes "name") ms) v1 f1;
      password = again (text Plain) string (text_keeps Plain) _ (get_member (codes "password") ms) v2 f2;
      ring = again (count 1 4096) (λ n. integer (pos n)) (count_keeps 1 4096) _ (get_member (codes "ring") ms) v3 f3;
      at = position_is n ms v4 f4;
    })))))

-- a plain text that may be left out
plain_is : (key : Key) (default : List ℕ) (o : Option Data) (s : List ℕ) → is_fit Plain default ≡ true
    → optional default (text Plain) key o ≡ Ok s → text Plain key (string s) ≡ Ok s
plain_is key default o s fits e = again_or (text Plain) string (text_keeps Plain) key default o s
    (fit_text Plain key default fits) e

record IsSignals (n : ℕ) (s : Signals) : Type 0 where
  pub identifier : text Plain (place 5 n 6) (string s.identifier) ≡ Ok s.identifier
  pub details : text Plain (place 5 n 7) (string s.details) ≡ Ok s.details
  pub carrier : text Plain (place 5 n 8) (string s.carrier) ≡ Ok s.carrier
  pub navigation : text Plain (place 5 n 9) (string s.navigation) ≡ Ok s.navigation

signals_is : (n : ℕ) (name : List ℕ) (ms : Members) (s : Signals) → is_fit Plain name ≡ true
    → signals_of n name ms ≡ Ok s → IsSignals n s
unfolding signals_of
signals_is n name ms s fits e =
    taken (IsSignals n) _ _ s e (λ v1 f1 e1.
    taken (IsSignals n) _ _ s e1 (λ v2 f2 e2.
    taken (IsSignals n) _ _ s e2 (λ v3 f3 e3.
    taken (IsSignals n) _ _ s e3 (λ v4 f4 e4.
    subst (IsSignals n) (value_is _ s e4) (record {
      identifier = plain_is _ name (get_member (codes "identifier") ms) v1 fits f1;
      details = plain_is _ [] (get_member (codes "details") ms) v2 empty_fits f2;
      carrier = plain_is _ (codes "2") (get_member (codes "carrier") ms) v3 carrier_fits f3;
      navigation = plain_is _ (codes "GPS") (get_member (codes "navigation") ms) v4 navigation_fits f4;
    })))))

record IsOrigin (n : ℕ) (o : Origin) : Type 0 where
  pub network : text Plain (place 5 n 10) (string o.network) ≡ Ok o.network
  pub country : text Plain (place 5 n 11) (string o.country) ≡ Ok o.country
  pub generator : text Plain (place 5 n 12) (string o.generator) ≡ Ok o.generator
  pub bitrate : count 0 1000000000 (place 5 n 13) (integer (pos o.bitrate)) ≡ Ok o.bitrate
  pub misc : text Plain (place 5 n 14) (string o.misc) ≡ Ok o.misc

origin_is : (n : ℕ) (ms : Members) (o : Origin) → origin_of n ms ≡ Ok o → IsOrigin n o
unfolding origin_of
origin_is n ms o e =
    taken (IsOrigin n) _ _ o e (λ v1 f1 e1.
    taken (IsOrigin n) _ _ o e1 (λ v2 f2 e2.
    taken (IsOrigin n) _ _ o e2 (λ v3 f3 e3.
    taken (IsOrigin n) _ _ o e3 (λ v4 f4 e4.
    taken (IsOrigin n) _ _ o e4 (λ v5 f5 e5.
    subst (IsOrigin n) (value_is _ o e5) (record {
      network = plain_is _ [] (get_member (codes "network") ms) v1 empty_fits f1;
      country = plain_is _ [] (get_member (codes "country") ms) v2 empty_fits f2;
      generator = plain_is _ [] (get_member (codes "generator") ms) v3 empty_fits f3;
      bitrate = again_or (count 0 1000000000) (λ n. integer (pos n)) (count_keeps 0 1000000000) _ 0
          (get_member (codes "bitrate") ms) v4 refl f4;
      misc = plain_is _ [] (get_member (codes "misc") ms) v5 empty_fits f5;
    }))))))

pub mount_is : (n : ℕ) (before : List Mount) (ms : Members) (m : Mount) → mount_of n before ms ≡ Ok m
    → IsMount n before m
unfolding mount_of
mount_is n before ms m e =
    taken (IsMount n before) _ _ m e (λ v1 f1 e1.
    taken (IsMount n before) _ _ m e1 (λ v2 f2 e2.
    taken (IsMount n before) _ _ m e2 (λ v3 f3 e3.
    let station = station_is n before ms v1 f1 in
    let signals = signals_is n v1.name ms v2 (name_fits v1.name (name_is _ v1.name station.name.is)) f2 in
    let origin = origin_is n ms v3 f3 in
    subst (IsMount n before) (value_is (mount_from v1 v2 v3) m e3) (record {
      name = station.name;
      password = station.password;
      ring = station.ring;
      at = station.at;
      identifier = signals.identifier;
      details = signals.details;
      carrier = signals.carrier;
      navigation = signals.navigation;
      network = origin.network;
      country = origin.country;
      generator = origin.generator;
      bitrate = origin.bitrate;
      misc = origin.misc;
    }))))

-- ---- near mountpoints

pub record IsNear (mounts : List Mount) (n : ℕ) (before : List Near) (m : Near) : Type 0 where
  pub name : IsNew (heard_names mounts before) (place 6 n 1) m.name
  pub bases : IsAllNamed (mount_names mounts) 1 16 (place 6 n 2) m.bases

required_all : (names : List (List ℕ)) (least most : ℕ) (key : Key) (o : Option Data) (ns : List ℕ)
    → required (all_named names least most) key o ≡ Ok ns → IsAllNamed names least most key ns
required_all names least most key None ns e = absurd cc
required_all names least most key (Some d) ns e = all_is names least most key d ns e

pub near_is : (mounts : List Mount) (n : ℕ) (before : List Near) (ms : Members) (m : Near)
    → near_of mounts n before ms ≡ Ok m → IsNear mounts n before m
unfolding near_of
near_is mounts n before ms m e =
    taken (IsNear mounts n before) _ _ m e (λ v1 f1 e1.
    taken (IsNear mounts n before) _ _ m e1 (λ v2 f2 e2.
    subst (IsNear mounts n before) (value_is _ m e2) (record {
      name = required_new (heard_names mounts before) (place 6 n 1) (get_member (codes "name") ms) v1 f1;
      bases = required_all (mount_names mounts) 1 16 (place 6 n 2) (get_member (codes "bases") ms) v2 f2;
    })))

-- ---- groups

pub record IsGroup (version : ℕ) (mounts : List Mount) (nears : List Near) (n : ℕ) (before : List Group) (g : Group) :
    Type 0 where
  pub name : IsNew (group_names before) (place 7 n 1) g.name
  pub heard : IsAllNamed (heard_names mounts nears) 0 64 (place 7 n 2) g.mounts
  pub types : (d : Data) × (types (place 7 n 3) d ≡ Ok g.types)
  pub filter : IsFiltered (mount_names mounts) (place 7 n 4) g.filter

some_data : {A : Type 0} (rule : Rule A) (key : Key) (o : Option Data) (x : A) → required rule key o ≡ Ok x → (d : Data)
    × (rule key d ≡ Ok x)
some_data rule key None x e = absurd cc
some_data rule key (Some d) x e = (d, e)

optional_filters : (names : List (List ℕ)) (key : Key) (o : Option Data) (fs : List GroupFilter)
    → optional [] (filters_at names) key o ≡ Ok fs → IsFiltered names key fs
optional_filters names key None fs e = subst (IsFiltered names key) (value_is [] fs e) (none_filtered names key)
optional_filters names key (Some d) fs e = filtered_is names key d fs e

by_version : (one : Bool) (names : List (List ℕ)) (key : Key) (o : Option Data) (fs : List GroupFilter)
    → cond one (Ok []) (optional [] (filters_at names) key o) ≡ Ok fs → IsFiltered names key fs
by_version true names key o fs e = subst (IsFiltered names key) (value_is [] fs e) (none_filtered names key)
by_version false names key o fs e = optional_filters names key o fs e

record IsHearing (mounts : List Mount) (nears : List Near) (n : ℕ) (before : List Group) (h : Hearing) : Type 0 where
  pub name : IsNew (group_names before) (place 7 n 1) h.name
  pub heard : IsAllNamed (heard_names mounts nears) 0 64 (place 7 n 2) h.mounts

hearing_is : (mounts : List Mount) (nears : List Near) (n : ℕ) (before : List Group) (ms : Members) (h : Hearing)
    → hearing_of mounts nears n before ms ≡ Ok h → IsHearing mounts nears n before h
unfolding hearing_of
hearing_is mounts nears n before ms h e =
    taken (IsHearing mounts nears n before) _ _ h e (λ v1 f1 e1.
    taken (IsHearing mounts nears n before) _ _ h e1 (λ v2 f2 e2.
    subst (IsHearing mounts nears n before) (value_is _ h e2) (record {
      name = required_new (group_names before) (place 7 n 1) (get_member (codes "name") ms) v1 f1;
      heard = required_all (heard_names mounts nears) 0 64 (place 7 n 2) (get_member (codes "mounts") ms) v2 f2;
    })))

record IsGiven (mounts : List Mount) (n : ℕ) (g : Given) : Type 0 where
  pub types : (d : Data) × (types (place 7 n 3) d ≡ Ok g.types)
  pub filter : IsFiltered (mount_names mounts) (place 7 n 4) g.filter

given_is : (version : ℕ) (mounts : List Mount) (n : ℕ) (ms : Members) (g : Given) → given_of version mounts n ms ≡ Ok g
    → IsGiven mounts n g
unfolding given_of
given_is version mounts n ms g e =
    taken (IsGiven mounts n) _ _ g e (λ v1 f1 e1.
    taken (IsGiven mounts n) _ _ g e1 (λ v2 f2 e2.
    subst (IsGiven mounts n) (value_is _ g e2) (record {
      types = some_data types (place 7 n 3) (get_member (codes "types") ms) v1 f1;
      filter = by_version (version == 1) (mount_names mounts) (place 7 n 4) (get_member (codes "filter") ms) v2 f2;
    })))

pub group_is : (version : ℕ) (mounts : List Mount) (nears : List Near) (n : ℕ) (before : List Group) (ms : Members)
    (g : Group)
    → group_of version mounts nears n before ms ≡ Ok g → IsGroup version mounts nears n before g
unfolding group_of
group_is version mounts nears n before ms g e =
    taken (IsGroup version mounts nears n before) _ _ g e (λ v1 f1 e1.
    taken (IsGroup version mounts nears n before) _ _ g e1 (λ v2 f2 e2.
    let hearing = hearing_is mounts nears n before ms v1 f1 in
    let given = given_is version mounts n ms v2 f2 in
    subst (IsGroup version mounts nears n before) (value_is _ g e2) (record {
      name = hearing.name;
      heard = hearing.heard;
      types = given.types;
      filter = given.filter;
    })))

-- ---- accounts, relays, and who has no account

required_named : (names : List (List ℕ)) (key : Key) (o : Option Data) (n : ℕ) → required (named names) key o ≡ Ok n
    → IsNamed names key n
required_named names key None n e = absurd cc
required_named names key (Some d) n e = named_is names key d n e

pub record IsAccount (groups : List Group) (n : ℕ) (before : List Account) (a : Account) : Type 0 where
  pub user : IsNew (user_names before) (place 8 n 1) a.user
  pub password : text Secret (place 8 n 2) (string a.password) ≡ Ok a.password
  pub group : IsNamed (group_names groups) (place 8 n 3) a.group
  pub cap : count 1 1000000 (place 8 n 4) (integer (pos a.cap)) ≡ Ok a.cap

record IsCredentials (n : ℕ) (before : List Account) (c : Credentials) : Type 0 where
  pub user : IsNew (user_names before) (place 8 n 1) c.user
  pub password : text Secret (place 8 n 2) (string c.password) ≡ Ok c.password

credentials_is : (n : ℕ) (before : List Account) (ms : Members) (c : Credentials) → credentials_of n before ms ≡ Ok c
    → IsCredentials n before c
unfolding credentials_of
credentials_is n before ms c e =
    taken (IsCredentials n before) _ _ c e (λ v1 f1 e1.
    taken (IsCredentials n before) _ _ c e1 (λ v2 f2 e2.
    subst (IsCredentials n before) (value_is _ c e2) (record {
      user = required_new (user_names before) (place 8 n 1) (get_member (codes "user") ms) v1 f1;
      password = again (text Secret) string (text_keeps Secret) _ (get_member (codes "password") ms) v2 f2;
    })))

record IsMembership (groups : List Group) (n : ℕ) (m : Membership) : Type 0 where
  pub group : IsNamed (group_names groups) (place 8 n 3) m.group
  pub cap : count 1 1000000 (place 8 n 4) (integer (pos m.cap)) ≡ Ok m.cap

membership_is : (groups : List Group) (n : ℕ) (ms : Members) (m : Membership) → membership_of groups n ms ≡ Ok m
    → IsMembership groups n m
unfolding membership_of
membership_is groups n ms m e =
    taken (IsMembership groups n) _ _ m e (λ v1 f1 e1.
    taken (IsMembership groups n) _ _ m e1 (λ v2 f2 e2.
    subst (IsMembership groups n) (value_is _ m e2) (record {
      group = required_named (group_names groups) (place 8 n 3) (get_member (codes "group") ms) v1 f1;
      cap = again (count 1 1000000) (λ n. integer (pos n)) (count_keeps 1 1000000) _ (get_member (codes "cap") ms) v2
          f2;
    })))

pub account_is : (groups : List Group) (n : ℕ) (before : List Account) (ms : Members) (a : Account)
    → account_of groups n before ms ≡ Ok a → IsAccount groups n before a
unfolding account_of
account_is groups n before ms a e =
    taken (IsAccount groups n before) _ _ a e (λ v1 f1 e1.
    taken (IsAccount groups n before) _ _ a e1 (λ v2 f2 e2.
    let credentials = credentials_is n before ms v1 f1 in
    let membership = membership_is groups n ms v2 f2 in
    subst (IsAccount groups n before) (value_is _ a e2) (record {
      user = credentials.user;
      password = credentials.password;
      group = membership.group;
      cap = membership.cap;
    })))

pub record IsRelay (mounts : List Mount) (n : ℕ) (r : Relay) : Type 0 where
  pub mount : IsNamed (mount_names mounts) (place 9 n 1) r.mount
  pub address : text Address (place 9 n 2) (string r.address) ≡ Ok r.address
  pub upstream : name (place 9 n 3) (string r.upstream) ≡ Ok r.upstream
  pub protocol : count 1 2 (place 9 n 4) (integer (pos r.protocol)) ≡ Ok r.protocol
  pub user : IfSome r.user (λ user. name (place 9 n 5) (string user) ≡ Ok user)
  pub password : text Secret (place 9 n 6) (string r.password) ≡ Ok r.password

some_name : (key : Key) (d : Data) (o : Option (List ℕ)) → some_of name key d ≡ Ok o
    → IfSome o (λ user. name key (string user) ≡ Ok user)
some_name key d o e =
    taken (λ o. IfSome o (λ user. name key (string user) ≡ Ok user)) (name key d) _ o e (λ s f last.
    subst (λ o. IfSome o (λ user. name key (string user) ≡ Ok user)) (value_is (Some s) o last)
    (again name string name_keeps key (Some d) s f))

optional_name : (key : Key) (o : Option Data) (u : Option (List ℕ)) → optional None (some_of name) key o ≡ Ok u
    → IfSome u (λ user. name key (string user) ≡ Ok user)
optional_name key None u e = subst (λ o. IfSome o (λ user. name key (string user) ≡ Ok user)) (value_is None u e) tt
optional_name key (Some d) u e = some_name key d u e

record IsPull (mounts : List Mount) (n : ℕ) (p : Pull) : Type 0 where
  pub mount : IsNamed (mount_names mounts) (place 9 n 1) p.mount
  pub address : text Address (place 9 n 2) (string p.address) ≡ Ok p.address
  pub upstream : name (place 9 n 3) (string p.upstream) ≡ Ok p.upstream

pull_is : (mounts : List Mount) (n : ℕ) (ms : Members) (p : Pull) → pull_of mounts n ms ≡ Ok p → IsPull mounts n p
unfolding pull_of
pull_is mounts n ms p e =
    taken (IsPull mounts n) _ _ p e (λ v1 f1 e1.
    taken (IsPull mounts n) _ _ p e1 (λ v2 f2 e2.
    taken (IsPull mounts n) _ _ p e2 (λ v3 f3 e3.
    subst (IsPull mounts n) (value_is _ p e3) (record {
      mount = required_named (mount_names mounts) (place 9 n 1) (get_member (codes "mount") ms) v1 f1;
      address = again (text Address) string (text_keeps Address) _ (get_member (codes "address") ms) v2 f2;
      upstream = again name string name_keeps _ (get_member (codes "upstream") ms) v3 f3;
    }))))

pub relay_is : (mounts : List Mount) (n : ℕ) (ms : Members) (r : Relay) → relay_of mounts n ms ≡ Ok r
    → IsRelay mounts n r
unfolding relay_of
relay_is mounts n ms r e =
    taken (IsRelay mounts n) _ _ r e (λ v1 f1 e1.
    taken (IsRelay mounts n) _ _ r e1 (λ v2 f2 e2.
    taken (IsRelay mounts n) _ _ r e2 (λ v3 f3 e3.
    taken (IsRelay mounts n) _ _ r e3 (λ v4 f4 e4.
    let pull = pull_is mounts n ms v1 f1 in
    subst (IsRelay mounts n) (value_is _ r e4) (record {
      mount = pull.mount;
      address = pull.address;
      upstream = pull.upstream;
      protocol = again (count 1 2) (λ n. integer (pos n)) (count_keeps 1 2) _ (get_member (codes "protocol") ms) v2 f2;
      user = optional_name (place 9 n 5) (get_member (codes "user") ms) v3 f3;
      password = again_or (text Secret) string (text_keeps Secret) _ [] (get_member (codes "password") ms) v4
          (fit_text Secret _ [] empty_secret) f4;
    })))))

pub record IsAnonymous (groups : List Group) (a : Anonymous) : Type 0 where
  pub group : IsNamed (group_names groups) (place 10 0 1) a.group
  pub cap : count 1 1000000 (place 10 0 2) (integer (pos a.cap)) ≡ Ok a.cap

anonymous_in_is : (groups : List Group) (ms : Members) (a : Anonymous) → anonymous_in groups ms ≡ Ok a
    → IsAnonymous groups a
unfolding anonymous_in
anonymous_in_is groups ms a e =
    taken (IsAnonymous groups) _ _ a e (λ v1 f1 e1.
    taken (IsAnonymous groups) _ _ a e1 (λ v2 f2 e2.
    subst (IsAnonymous groups) (value_is _ a e2) (record {
      group = required_named (group_names groups) (place 10 0 1) (get_member (codes "group") ms) v1 f1;
      cap = again (count 1 1000000) (λ n. integer (pos n)) (count_keeps 1 1000000) _ (get_member (codes "cap") ms) v2
          f2;
    })))

anonymous_is : (groups : List Group) (key : Key) (d : Data) (a : Anonymous) → anonymous_of groups key d ≡ Ok a
    → IsAnonymous groups a
anonymous_is groups key (table ms) a e = anonymous_in_is groups ms a e
anonymous_is groups key (string z) a e = absurd cc
anonymous_is groups key (integer z) a e = absurd cc
anonymous_is groups key (float z) a e = absurd cc
anonymous_is groups key (boolean z) a e = absurd cc
anonymous_is groups key (datetime z) a e = absurd cc
anonymous_is groups key (array z) a e = absurd cc

pub optional_anonymous : (groups : List Group) (key : Key) (o : Option Data) (a : Option Anonymous)
    → optional None (some_of (anonymous_of groups)) key o ≡ Ok a → IfSome a (IsAnonymous groups)
optional_anonymous groups key None a e = subst (λ a. IfSome a (IsAnonymous groups)) (value_is None a e) tt
optional_anonymous groups key (Some d) a e =
    taken (λ a. IfSome a (IsAnonymous groups)) (anonymous_of groups key d) _ a e (λ x f last.
    subst (λ a. IfSome a (IsAnonymous groups)) (value_is (Some x) a last) (anonymous_is groups key d x f))
