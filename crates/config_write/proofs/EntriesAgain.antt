-- Each entry that was read is read again from what is written of it.
use Rattle.std.proofs.Common.{◌≡◌, ℕ, ◌≤◌, Bool, true, false, cond, List, [], ◌∷◌, length, map, Option, Some, None, Ok, refl, ap, subst}
use Rattle.std.specs.Prelude.{codes, ◌==◌}
use Rattle.toml.specs.Data.{Data, string, array, table, Items, item, Members, no_members, get_member}
use Rattle.toml.specs.View.{items_of}
use Rattle.config_keys.specs.declared.key.Key.{Key}
use Rattle.config_keys.specs.Answers.{Read}
use Rattle.config_keys.specs.Rules.{required, optional}
use Rattle.config_keys.specs.Types.{types}
use Rattle.config_keys.proofs.KeepLemmas.{value_is, taken}
use Rattle.cast_config.specs.declared.config.Mount.{Mount}
use Rattle.cast_config.specs.declared.config.Near.{Near}
use Rattle.cast_config.specs.declared.config.Group.{Group}
use Rattle.cast_config.specs.declared.config.GroupFilter.{GroupFilter}
use Rattle.cast_config.specs.declared.config.Account.{Account}
use Rattle.cast_config.specs.declared.config.Relay.{Relay}
use Rattle.cast_config.specs.declared.config.Anonymous.{Anonymous}
use Rattle.cast_config.specs.Names.{mount_names, new_name, all_named, filters_at}
use Rattle.cast_config.specs.Entries.{place, position_of, station_of, signals_of, origin_of, mount_of, near_of, hearing_of, given_of, group_of, credentials_of, membership_of, account_of, pull_of, relay_of, anonymous_in}
use Rattle.cast_config.proofs.NameKeeps.{IsNew}
use Rattle.cast_config.proofs.ReferenceKeeps.{text_items, IsAllNamed}
use Rattle.cast_config.proofs.EntryKeeps.{IsMount, mount_is, IsNear, near_is, IsGroup, group_is, IsAccount, account_is, IsRelay, relay_is, IsAnonymous}
use Rattle.config_write.specs.Members.{list_data}
use Rattle.config_write.specs.Entries.{name_at, name_data, filter_tree, mount_tree, near_tree, group_tree, account_tree, relay_tree, anonymous_tree}
use Rattle.config_write.proofs.TypesAgain.{types_again}
use Rattle.config_write.proofs.FiltersAgain.{filters_again, none_again}

new_again : (names : List (List ℕ)) (key : Key) (s : List ℕ) → IsNew names key s → new_name names key (string s) ≡ Ok s
unfolding new_name
new_again names key s h = rw (h.is, h.new) refl

-- ---- mountpoints

mount_back : (n : ℕ) (before : List Mount) (m : Mount) → IsMount n before m → mount_of n before (mount_tree m) ≡ Ok m
unfolding mount_of station_of position_of signals_of origin_of mount_tree
mount_back n before m h =
    rw (
      new_again _ _ m.name h.name,
      h.password,
      h.ring,
      h.at.lat,
      h.at.lon,
      h.identifier,
      h.details,
      h.carrier,
      h.navigation,
      h.network,
      h.country,
      h.generator,
      h.bitrate,
      h.misc,
    ) refl

pub mount_again : (n : ℕ) (before : List Mount) (ms : Members) (m : Mount) → mount_of n before ms ≡ Ok m
    → mount_of n before (mount_tree m) ≡ Ok m
mount_again n before ms m e = mount_back n before m (mount_is n before ms m e)

-- ---- near mountpoints

items_same : (names : List (List ℕ)) (ns : List ℕ) → text_items (map (name_at names) ns) ≡ items_of
    (map (name_data names) ns)
items_same names [] = refl
items_same names (n ∷ ns) = ap (item (name_data names n)) (items_same names ns)

all_again : (names : List (List ℕ)) (least most : ℕ) (key : Key) (ns : List ℕ) → IsAllNamed names least most key ns
    → all_named names least most key (list_data (name_data names) ns) ≡ Ok ns
all_again names least most key ns h = subst (λ (ds : Items). all_named names least most key (array ds) ≡ Ok ns)
    (items_same names ns) h.again

near_back : (mounts : List Mount) (n : ℕ) (before : List Near) (m : Near) → IsNear mounts n before m
    → near_of mounts n before (near_tree mounts m) ≡ Ok m
unfolding near_of near_tree
near_back mounts n before m h = rw (new_again _ _ m.name h.name, all_again _ _ _ _ m.bases h.bases) refl

pub near_again : (mounts : List Mount) (n : ℕ) (before : List Near) (ms : Members) (m : Near)
    → near_of mounts n before ms ≡ Ok m → near_of mounts n before (near_tree mounts m) ≡ Ok m
near_again mounts n before ms m e = near_back mounts n before m (near_is mounts n before ms m e)

-- ---- groups

record IsFilterAgain (mounts : List Mount) (n : ℕ) (g : Group) : Type 0 where
  pub again : length g.filter ≤ 64
      → filters_at (mount_names mounts) (place 7 n 4) (list_data (λ f. table (filter_tree (mount_names mounts) f))
      g.filter) ≡ Ok g.filter

filter_given : (names : List (List ℕ)) (key : Key) (o : Option Data) (fs : List GroupFilter)
    → optional [] (filters_at names) key o ≡ Ok fs
    → length fs ≤ 64 → filters_at names key (list_data (λ f. table (filter_tree names f)) fs) ≡ Ok fs
filter_given names key None fs e few =
    subst (λ (fs : List GroupFilter). filters_at names key (list_data (λ f. table (filter_tree names f)) fs) ≡ Ok fs)
    (value_is [] fs e) (none_again names key)
filter_given names key (Some d) fs e few = filters_again names key d fs few e

by_version : (one : Bool) (names : List (List ℕ)) (key : Key) (o : Option Data) (fs : List GroupFilter)
    → cond one (Ok []) (optional [] (filters_at names) key o) ≡ Ok fs
    → length fs ≤ 64 → filters_at names key (list_data (λ f. table (filter_tree names f)) fs) ≡ Ok fs
by_version true names key o fs e few =
    subst (λ (fs : List GroupFilter). filters_at names key (list_data (λ f. table (filter_tree names f)) fs) ≡ Ok fs)
    (value_is [] fs e) (none_again names key)
by_version false names key o fs e few = filter_given names key o fs e few

-- the type of this part, which `cast_config` keeps to itself
abbrev read_type : {A : Type 0} → Read A → Type 0
read_type {A} read = A

abbrev Given : Type 0
Given = read_type (given_of 2 [] 1 no_members)

record IsGivenAgain (mounts : List Mount) (n : ℕ) (g : Given) : Type 0 where
  pub again : length g.filter ≤ 64
      → filters_at (mount_names mounts) (place 7 n 4) (list_data (λ f. table (filter_tree (mount_names mounts) f))
      g.filter) ≡ Ok g.filter

given_again : (version : ℕ) (mounts : List Mount) (n : ℕ) (ms : Members) (g : Given) → given_of version mounts n ms ≡
    Ok g
    → IsGivenAgain mounts n g
unfolding given_of
given_again version mounts n ms g e =
    taken (IsGivenAgain mounts n) (required types (place 7 n 3) (get_member (codes "types") ms)) _ g e (λ v1 f1 e1.
    taken (IsGivenAgain mounts n) _ _ g e1 (λ v2 f2 e2.
    subst (IsGivenAgain mounts n) (value_is _ g e2) (record {
      again = by_version (version == 1) (mount_names mounts) (place 7 n 4) (get_member (codes "filter") ms) v2 f2;
    })))

filter_again : (version : ℕ) (mounts : List Mount) (nears : List Near) (n : ℕ) (before : List Group) (ms : Members)
    (g : Group)
    → group_of version mounts nears n before ms ≡ Ok g → IsFilterAgain mounts n g
unfolding group_of
filter_again version mounts nears n before ms g e =
    taken (IsFilterAgain mounts n) (hearing_of mounts nears n before ms) _ g e (λ v1 f1 e1.
    taken (IsFilterAgain mounts n) (given_of version mounts n ms) _ g e1 (λ v2 f2 e2.
    subst (IsFilterAgain mounts n) (value_is _ g e2) (record {
      again = (given_again version mounts n ms v2 f2).again;
    })))

group_back : (version : ℕ) (mounts : List Mount) (nears : List Near) (n : ℕ) (before : List Group) (g : Group)
    → IsGroup version mounts nears n before g → IsFilterAgain mounts n g
    → group_of 2 mounts nears n before (group_tree mounts nears g) ≡ Ok g
unfolding group_of hearing_of given_of group_tree
group_back version mounts nears n before g h filter =
    rw (
      new_again _ _ g.name h.name,
      all_again _ _ _ _ g.mounts h.heard,
      types_again _ h.types.0 g.types h.types.1,
      filter.again h.filter.few,
    ) refl

pub group_again : (version : ℕ) (mounts : List Mount) (nears : List Near) (n : ℕ) (before : List Group) (ms : Members)
    (g : Group)
    → group_of version mounts nears n before ms ≡ Ok g → group_of 2 mounts nears n before (group_tree mounts nears g) ≡
    Ok g
group_again version mounts nears n before ms g e =
    group_back version mounts nears n before g (group_is version mounts nears n before ms g e)
    (filter_again version mounts nears n before ms g e)

-- ---- accounts, relays, and who has no account

account_back : (groups : List Group) (n : ℕ) (before : List Account) (a : Account) → IsAccount groups n before a
    → account_of groups n before (account_tree groups a) ≡ Ok a
unfolding account_of credentials_of membership_of account_tree
account_back groups n before a h = rw (new_again _ _ a.user h.user, h.password, h.group.again, h.cap) refl

pub account_again : (groups : List Group) (n : ℕ) (before : List Account) (ms : Members) (a : Account)
    → account_of groups n before ms ≡ Ok a → account_of groups n before (account_tree groups a) ≡ Ok a
account_again groups n before ms a e = account_back groups n before a (account_is groups n before ms a e)

relay_back : (mounts : List Mount) (n : ℕ) (r : Relay) (o : Option (List ℕ)) → IsRelay mounts n (record r { user = o })
    → relay_of mounts n (relay_tree mounts (record r { user = o })) ≡ Ok (record r { user = o })
unfolding relay_of pull_of relay_tree
relay_back mounts n r None h = rw (h.mount.again, h.address, h.upstream, h.protocol, h.password) refl
relay_back mounts n r (Some user) h = rw (h.mount.again, h.address, h.upstream, h.protocol, h.user, h.password) refl

pub relay_again : (mounts : List Mount) (n : ℕ) (before : List Relay) (ms : Members) (r : Relay)
    → relay_of mounts n ms ≡ Ok r → relay_of mounts n (relay_tree mounts r) ≡ Ok r
relay_again mounts n before ms r e = relay_back mounts n r r.user (relay_is mounts n ms r e)

pub anonymous_back : (groups : List Group) (a : Anonymous) → IsAnonymous groups a
    → anonymous_in groups (anonymous_tree groups a) ≡ Ok a
unfolding anonymous_in anonymous_tree
anonymous_back groups a h = rw (h.group.again, h.cap) refl
