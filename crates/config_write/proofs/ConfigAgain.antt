-- A configuration that was read is read again from what is written of it.
use Rattle.std.proofs.Common.{◌≡◌, ℕ, ◌+◌, ◌-◌, ◌≤◌, true, List, [], length, Option, Some, None, Ok, refl, sym, ap, subst, ◌∙◌, arith}
use Rattle.std.specs.Prelude.{codes, IfSome}
use Rattle.std.proofs.lemmas.Bool.{and_from, le-leb}
use Rattle.sourcetable.specs.Record.{line_of}
use Rattle.type_filter.specs.Permitted.{FilterValue}
use Rattle.toml.specs.Data.{string, Members, no_members, get_member}
use Rattle.config_keys.specs.Answers.{Read}
use Rattle.config_keys.specs.Records.{records}
use Rattle.config_keys.specs.Rules.{required, optional, count, is_within}
use Rattle.config_keys.proofs.KeepLemmas.{value_is, taken, again_or, count_keeps}
use Rattle.cast_config.specs.declared.config.Config.{Config}
use Rattle.cast_config.specs.declared.config.Mount.{Mount}
use Rattle.cast_config.specs.declared.config.Near.{Near}
use Rattle.cast_config.specs.declared.config.Group.{Group}
use Rattle.cast_config.specs.declared.config.Account.{Account}
use Rattle.cast_config.specs.declared.config.Relay.{Relay}
use Rattle.cast_config.specs.declared.config.Anonymous.{Anonymous}
use Rattle.cast_config.specs.Entries.{top, mount_of, near_of, group_of, account_of, relay_of}
use Rattle.cast_config.specs.Served.{all_filters}
use Rattle.cast_config.specs.Document.{listed, listed_or_none, most_groups, places_of, heard_of, parties_of, settings_of, config_from, config_of, IsDocument, IsRead}
use Rattle.cast_config.specs.Kept.{KeepsRules}
use Rattle.cast_config.proofs.EntryKeeps.{IsAnonymous, optional_anonymous}
use Rattle.cast_config.proofs.KeptLemmas.{keeps_rules}
use Rattle.config_write.specs.Members.{list_data, number}
use Rattle.config_write.specs.Entries.{mount_tree, near_tree, group_tree, account_tree, relay_tree, mounts_data, nears_data, groups_data, accounts_data, relays_data}
use Rattle.config_write.specs.Written.{config_tree, WasRead, HasVersion}
use Rattle.config_write.proofs.DataLemmas.{records_read}
use Rattle.config_write.proofs.EntriesAgain.{mount_again, near_again, group_again, account_again, relay_again, anonymous_back}
use Rattle.config_write.proofs.ListsAgain.{listed_again, listed_or_none_again}

-- ---- the parts of a document

-- the types of these parts, which `cast_config` keeps to itself
abbrev read_type : {A : Type 0} → Read A → Type 0
read_type {A} read = A

abbrev Settings : Type 0
Settings = read_type (settings_of no_members)

abbrev Places : Type 0
Places = read_type (places_of no_members)

abbrev Heard : Type 0
Heard = read_type (heard_of 2 no_members)

abbrev Parties : Type 0
Parties = read_type (parties_of [] [] no_members)

record IsHeard (h : Heard) : Type 0 where
  pub mount : listed mount_of 1 64 (top 5) (Some (mounts_data h.mount)) ≡ Ok h.mount
  pub near : listed_or_none (near_of h.mount) (64 - length h.mount) (top 6) (Some (nears_data h.mount h.near)) ≡ Ok
      h.near
  pub group : listed (group_of 2 h.mount h.near) 1 64 (top 7) (Some (groups_data h.mount h.near h.group)) ≡ Ok h.group
  pub permits : h.permits ≡ all_filters h.mount h.group

record IsParties (mounts : List Mount) (groups : List Group) (p : Parties) : Type 0 where
  pub account : listed_or_none (account_of groups) 1024 (top 8) (Some (accounts_data groups p.account)) ≡ Ok p.account
  pub relay : listed_or_none (λ n before. relay_of mounts n) 16 (top 9) (Some (relays_data mounts p.relay)) ≡ Ok p.relay
  pub anonymous : IfSome p.anonymous (IsAnonymous groups)

-- the numbers of entries are in range
record AreFew (mount : List Mount) (near : List Near) (group : List Group) (account : List Account)
    (relay : List Relay) : Type 0 where
  pub mounts : is_within 1 64 (length mount) ≡ true
  pub nears : is_within 0 (64 - length mount) (length near) ≡ true
  pub groups : is_within 1 64 (length group) ≡ true
  pub accounts : is_within 0 1024 (length account) ≡ true
  pub relays : is_within 0 16 (length relay) ≡ true

in_range : (least most n : ℕ) → least ≤ n → n ≤ most → is_within least most n ≡ true
in_range least most n low high = and_from _ _ (le-leb least n low) (le-leb n most high)

few : (c : Config) → KeepsRules 1000000 c → AreFew c.mount c.near c.group c.account c.relay
few c k =
    let most : length c.mount + length c.near ≤ 64 = k.few_mounts in
    record {
      mounts = in_range 1 64 (length c.mount) k.some_mounts (omega arith);
      nears = in_range 0 (64 - length c.mount) (length c.near) (omega arith) (omega arith);
      groups = k.count_groups;
      accounts = in_range 0 1024 (length c.account) (omega arith) k.few_accounts;
      relays = in_range 0 16 (length c.relay) (omega arith) k.few_relays;
    }

record IsPlaces (p : Places) : Type 0 where
  pub mount : listed mount_of 1 64 (top 5) (Some (mounts_data p.mount)) ≡ Ok p.mount
  pub near : listed_or_none (near_of p.mount) (64 - length p.mount) (top 6) (Some (nears_data p.mount p.near)) ≡ Ok
      p.near

record ArePlaces (p : Places) : Type 0 where
  pub are : is_within 1 64 (length p.mount) ≡ true → is_within 0 (64 - length p.mount) (length p.near) ≡ true
      → IsPlaces p

places_are : (ms : Members) (p : Places) → places_of ms ≡ Ok p → ArePlaces p
unfolding places_of mounts_data nears_data
places_are ms p e =
    taken ArePlaces _ _ p e (λ v1 f1 e1.
    taken ArePlaces _ _ p e1 (λ v2 f2 e2.
    subst ArePlaces (value_is _ p e2) (record {
      are = λ mounts nears. record {
        mount = listed_again (top 5) mount_of mount_of mount_tree mount_again 1 64 1 64 (get_member (codes "mount") ms)
            v1 f1 mounts;
        near = listed_or_none_again (top 6) (near_of v1) (near_of v1) (near_tree v1) (near_again v1) (64 - length v1)
            (64 - length v1) (get_member (codes "near") ms) v2 f2 nears;
      };
    })))

record AreHeard (h : Heard) : Type 0 where
  pub are : is_within 1 64 (length h.mount) ≡ true → is_within 0 (64 - length h.mount) (length h.near) ≡ true
      → is_within 1 64 (length h.group) ≡ true → IsHeard h

heard_is : (version : ℕ) (ms : Members) (h : Heard) → heard_of version ms ≡ Ok h → AreHeard h
unfolding heard_of groups_data
heard_is version ms h e =
    taken AreHeard _ _ h e (λ v1 f1 e1.
    taken AreHeard _ _ h e1 (λ v2 f2 e2.
    subst AreHeard (value_is _ h e2) (record {
      are = λ mounts nears groups.
          let places = (places_are ms v1 f1).are mounts nears in
          record {
            mount = places.mount;
            near = places.near;
            group = listed_again (top 7) (group_of version v1.mount v1.near) (group_of 2 v1.mount v1.near)
                (group_tree v1.mount v1.near) (group_again version v1.mount v1.near) 1 64 1 (most_groups version)
                (get_member (codes "group") ms) v2 f2 groups;
            permits = refl;
          };
    })))

record AreParties (mounts : List Mount) (groups : List Group) (p : Parties) : Type 0 where
  pub are : is_within 0 1024 (length p.account) ≡ true → is_within 0 16 (length p.relay) ≡ true
      → IsParties mounts groups p

parties_is : (mounts : List Mount) (groups : List Group) (ms : Members) (p : Parties)
    → parties_of mounts groups ms ≡ Ok p → AreParties mounts groups p
unfolding parties_of accounts_data relays_data
parties_is mounts groups ms p e =
    taken (AreParties mounts groups) _ _ p e (λ v1 f1 e1.
    taken (AreParties mounts groups) _ _ p e1 (λ v2 f2 e2.
    taken (AreParties mounts groups) _ _ p e2 (λ v3 f3 e3.
    subst (AreParties mounts groups) (value_is _ p e3) (record {
      are = λ accounts relays. record {
        account = listed_or_none_again (top 8) (account_of groups) (account_of groups) (account_tree groups)
            (account_again groups) 1024 1024 (get_member (codes "account") ms) v1 f1 accounts;
        relay = listed_or_none_again (top 9) (λ n before. relay_of mounts n) (λ n before. relay_of mounts n)
            (relay_tree mounts) (relay_again mounts) 16 16 (get_member (codes "relay") ms) v2 f2 relays;
        anonymous = optional_anonymous groups (top 10) (get_member (codes "anonymous") ms) v3 f3;
      };
    }))))

-- ---- the whole

record IsAgain (c : Config) : Type 0 where
  pub workers : count 1 256 (top 2) (number c.workers) ≡ Ok c.workers
  pub hysteresis : count 0 50 (top 3) (number c.hysteresis) ≡ Ok c.hysteresis
  pub records : records (top 4) (list_data (λ r. string (line_of r)) c.records) ≡ Ok c.records
  pub mount : listed mount_of 1 64 (top 5) (Some (mounts_data c.mount)) ≡ Ok c.mount
  pub near : listed_or_none (near_of c.mount) (64 - length c.mount) (top 6) (Some (nears_data c.mount c.near)) ≡ Ok
      c.near
  pub group : listed (group_of 2 c.mount c.near) 1 64 (top 7) (Some (groups_data c.mount c.near c.group)) ≡ Ok c.group
  pub permits : c.permits ≡ all_filters c.mount c.group
  pub account : listed_or_none (account_of c.group) 1024 (top 8) (Some (accounts_data c.group c.account)) ≡ Ok c.account
  pub relay : listed_or_none (λ n before. relay_of c.mount n) 16 (top 9) (Some (relays_data c.mount c.relay)) ≡ Ok
      c.relay
  pub anonymous : IfSome c.anonymous (IsAnonymous c.group)

record Again (c : Config) : Type 0 where
  pub is : KeepsRules 1000000 c → IsAgain c

record AreSettings (s : Settings) : Type 0 where
  pub workers : count 1 256 (top 2) (number s.workers) ≡ Ok s.workers
  pub hysteresis : count 0 50 (top 3) (number s.hysteresis) ≡ Ok s.hysteresis

settings_are : (ms : Members) (s : Settings) → settings_of ms ≡ Ok s → AreSettings s
unfolding settings_of
settings_are ms s e =
    taken AreSettings (required (count 1 2) (top 1) (get_member (codes "version") ms)) _ s e (λ v1 f1 e1.
    taken AreSettings _ _ s e1 (λ v2 f2 e2.
    taken AreSettings _ _ s e2 (λ v3 f3 e3.
    subst AreSettings (value_is _ s e3) (record {
      workers = again_or (count 1 256) (λ n. number n) (count_keeps 1 256) (top 2) 4
          (get_member (codes "workers") ms) v2 refl f2;
      hysteresis = again_or (count 0 50) (λ n. number n) (count_keeps 0 50) (top 3) 10
          (get_member (codes "hysteresis") ms) v3 refl f3;
    }))))

again_is : (ms : Members) (c : Config) → config_of ms ≡ Ok c → Again c
unfolding config_of
again_is ms c e =
    taken Again _ _ c e (λ v1 f1 e1.
    taken Again (optional [] records (top 4) (get_member (codes "records") ms)) _ c e1 (λ v2 f2 e2.
    taken Again _ _ c e2 (λ v3 f3 e3.
    taken Again _ _ c e3 (λ v4 f4 e4.
    subst Again (value_is (config_from v1 v2 v3 v4) c e4) (record {
      is = λ k.
          let are = few (config_from v1 v2 v3 v4) k in
          let settings = settings_are ms v1 f1 in
          let heard = (heard_is v1.version ms v3 f3).are are.mounts are.nears are.groups in
          let parties = (parties_is v3.mount v3.group ms v4 f4).are are.accounts are.relays in
          record {
            workers = settings.workers;
            hysteresis = settings.hysteresis;
            records = records_read (top 4) v2 k.records k.few_records;
            mount = heard.mount;
            near = heard.near;
            group = heard.group;
            permits = heard.permits;
            account = parties.account;
            relay = parties.relay;
            anonymous = parties.anonymous;
          };
    })))))

abbrev permitting : (c : Config) → List (List FilterValue) → Read Config
permitting c permits = Ok (record c { permits = permits })

-- it is read from its keys
back : (c : Config) (o : Option Anonymous) → IsAgain (record c { anonymous = o })
    → config_of (config_tree (record c { anonymous = o })) ≡ Ok (record c { anonymous = o })
unfolding config_of settings_of heard_of places_of parties_of config_tree
back c None h =
    rw (h.workers, h.hysteresis, h.records, h.mount, h.near, h.group, h.account, h.relay) refl
    ∙ ap (permitting (record c { anonymous = None })) (sym h.permits)
back c (Some a) h =
    rw (
      h.workers,
      h.hysteresis,
      h.records,
      h.mount,
      h.near,
      h.group,
      h.account,
      h.relay,
      anonymous_back c.group a
          h.anonymous,
    ) refl
    ∙ ap (permitting (record c { anonymous = Some a })) (sym h.permits)

pub config_again : (ms : Members) (c : Config) → config_of ms ≡ Ok c → config_of (config_tree c) ≡ Ok c
config_again ms c e = back c c.anonymous ((again_is ms c e).is (keeps_rules ms c e))

version_from : (c : Config) (o : Option Anonymous) → get_member (codes "version")
    (config_tree (record c { anonymous = o })) ≡ Some (number 2)
unfolding config_tree
version_from c None = refl
version_from c (Some a) = refl

pub version_is : (c : Config) → get_member (codes "version") (config_tree c) ≡ Some (number 2)
version_is c = version_from c c.anonymous

-- ---- its text

pub written : (c : Config) (text : List ℕ) → WasRead c → IsDocument text (config_tree c) → IsRead text (Ok c)
written c text was document = (config_tree c, document, config_again was.1.0 c was.1.2)

pub versioned : (c : Config) (text : List ℕ) → IsDocument text (config_tree c) → HasVersion 2 text
versioned c text document = (config_tree c, document, version_is c)
