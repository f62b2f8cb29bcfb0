-- A configuration that was read keeps the rules of the file.
use Rattle.std.proofs.Common.{◌≡◌, ℕ, ◌+◌, ◌-◌, ◌<◌, ◌≤◌, pos, Bool, true, false, cond, ◌&&◌, leb, List, [], ◌∷◌, ◌++◌, length, Option, Some, None, Result, Ok, Err, refl, sym, ap, subst, ◌∙◌, inl, inr, arith, length-append}
use Rattle.std.specs.Prelude.{IsTrue, IfSome, codes, ◌==◌}
use Rattle.std.specs.List.{All}
use Rattle.std.specs.Str.{is_utf8}
use Rattle.std.proofs.lemmas.Bool.{and_parts, and_from, cases_Bool, leb-true, le-leb}
use Rattle.std.proofs.lemmas.List.{append-nil, length-map}
use Rattle.std.proofs.lemmas.List.Elements.{All-append, All-cons, All-nil}
use Rattle.sourcetable.specs.declared.record.Kind.{Kind as RecordKind}
use Rattle.sourcetable.specs.declared.record.Kind.TheVariants.{Str, Cas, Net}
use Rattle.sourcetable.specs.declared.record.Record.{Record}
use Rattle.sourcetable.specs.declared.fault.RecordFault.{RecordFault}
use Rattle.sourcetable.specs.Record.{line_of}
use Rattle.sourcetable.specs.Reading.{record_read}
use Rattle.sourcetable.proofs.FunctionLemmas.{read_is}
use Rattle.toml.specs.Data.{Data, string, integer, Members, get_member}
use Rattle.cast_text.specs.Name.{is_name}
use Rattle.config_keys.specs.declared.key.Key.{Key}
use Rattle.config_keys.specs.declared.strings.TextKind.TheVariants.{Plain, Secret, Address}
use Rattle.config_keys.specs.declared.fault.KeyFault.TheVariants.{Range}
use Rattle.config_keys.specs.Lists.{each_once, each_of, texts}
use Rattle.config_keys.specs.Records.{but_mountpoints, given_record, record_line, record_at, records}
use Rattle.config_keys.specs.Rules.{required, optional, count, is_within}
use Rattle.config_keys.proofs.KeepLemmas.{value_is, taken, held, again_or, count_keeps, count_within, text_fits, name_is, whole_within}
use Rattle.cast_config.specs.declared.config.Config.{Config}
use Rattle.cast_config.specs.declared.config.Mount.{Mount}
use Rattle.cast_config.specs.declared.config.Near.{Near}
use Rattle.cast_config.specs.declared.config.Group.{Group}
use Rattle.cast_config.specs.declared.config.Account.{Account}
use Rattle.cast_config.specs.declared.config.Relay.{Relay}
use Rattle.cast_config.specs.declared.config.Anonymous.{Anonymous}
use Rattle.cast_config.specs.declared.document.RoverOffer.{RoverOffer}
use Rattle.cast_config.specs.declared.document.Parties.{Parties}
use Rattle.cast_config.specs.declared.document.Places.{Places}
use Rattle.cast_config.specs.declared.document.Settings.{Settings}
use Rattle.cast_config.proofs.NameTexts.{name_fits, empty_fits, carrier_fits, navigation_fits}
use Rattle.cast_config.specs.Bare.{mount_a, group_all, bare}
use Rattle.cast_config.specs.Names.{mount_names, near_names, group_names, user_names, heard_names}
use Rattle.cast_config.specs.Entries.{place, top, mount_of, near_of, group_of, account_of, relay_of}
use Rattle.config_keys.specs.Texts.{name}
use Rattle.cast_config.specs.Served.{all_filters}
use Rattle.cast_config.specs.Document.{most_groups, places_of, heard_of, parties_of, settings_of, config_from, config_of}
use Rattle.cast_config.specs.Kept.{AreNumbers, filtered, KeepsMount, KeepsNear, KeepsGroup, KeepsAccount, KeepsRelay, KeepsAnonymous, KeepsRules}
use Rattle.cast_config.proofs.NameKeeps.{given_some}
use Rattle.cast_config.proofs.EntryKeeps.{mount_is, near_is, group_is, account_is, relay_is, IsAnonymous, optional_anonymous}
use Rattle.cast_config.proofs.ListKeeps.{AreKept, listed_kept, listed_or_none_kept, listed_differ, listed_or_none_differ}

pub within : (least most n : ℕ) → is_within least most n ≡ true → (least ≤ n) × (n ≤ most)
within least most n h =
    let parts = and_parts (leb least n) (leb n most) h in
    (leb-true least n parts.0, leb-true n most parts.1)

names_count : (mounts : List Mount) → length (mount_names mounts) ≡ length mounts
names_count mounts = length-map mounts (λ (m : Mount). m.name)

heard_count : (mounts : List Mount) (nears : List Near) → length (heard_names mounts nears) ≡ length mounts + length
    nears
heard_count mounts nears =
    let both : length (heard_names mounts nears) ≡ length (mount_names mounts) + length (near_names nears) =
    length-append (mount_names mounts) (near_names nears) in
    let one : length (mount_names mounts) ≡ length mounts = names_count mounts in
    let two : length (near_names nears) ≡ length nears = length-map nears (λ (n : Near). n.name) in
    omega arith

groups_count : (groups : List Group) → length (group_names groups) ≡ length groups
groups_count groups = length-map groups (λ (g : Group). g.name)

-- ---- entries

keeps_mount : (n : ℕ) (before : List Mount) (ms : Members) (m : Mount) → mount_of n before ms ≡ Ok m → KeepsMount m
keeps_mount n before ms m e =
    let is = mount_is n before ms m e in
    record {
      name = name_is _ m.name is.name.is;
      password = text_fits Plain _ m.password is.password;
      ring = count_within 1 4096 _ m.ring is.ring;
      lat = whole_within 899999999 _ m.at.lat is.at.lat;
      lon = whole_within 1799999999 _ m.at.lon is.at.lon;
      identifier = text_fits Plain _ m.identifier is.identifier;
      details = text_fits Plain _ m.details is.details;
      carrier = text_fits Plain _ m.carrier is.carrier;
      navigation = text_fits Plain _ m.navigation is.navigation;
      network = text_fits Plain _ m.network is.network;
      country = text_fits Plain _ m.country is.country;
      generator = text_fits Plain _ m.generator is.generator;
      bitrate = (within 0 1000000000 m.bitrate (count_within 0 1000000000 _ m.bitrate is.bitrate)).1;
      misc = text_fits Plain _ m.misc is.misc;
    }

keeps_near : (mounts : List Mount) (n : ℕ) (before : List Near) (ms : Members) (m : Near)
    → near_of mounts n before ms ≡ Ok m → KeepsNear (length mounts) m
keeps_near mounts n before ms m e =
    let is = near_is mounts n before ms m e in
    record {
      name = name_is _ m.name is.name.is;
      count = is.bases.count;
      bases = subst (λ k. AreNumbers k m.bases) (names_count mounts) is.bases.numbers;
    }

keeps_group : (version : ℕ) (mounts : List Mount) (nears : List Near) (n : ℕ) (before : List Group) (ms : Members)
    (g : Group)
    → group_of version mounts nears n before ms ≡ Ok g → KeepsGroup (length mounts) (length nears) g
keeps_group version mounts nears n before ms g e =
    let is = group_is version mounts nears n before ms g e in
    record {
      name = name_is _ g.name is.name.is;
      few = (within 0 64 (length g.mounts) is.heard.count).1;
      mounts = subst (λ k. AreNumbers k g.mounts) (heard_count mounts nears) is.heard.numbers;
      few_filters = is.filter.few;
      filters = subst (λ k. AreNumbers k (filtered g.filter)) (names_count mounts) is.filter.numbers;
    }

keeps_account : (groups : List Group) (n : ℕ) (before : List Account) (ms : Members) (a : Account)
    → account_of groups n before ms ≡ Ok a → KeepsAccount 1000000 (length groups) a
keeps_account groups n before ms a e =
    let is = account_is groups n before ms a e in
    record {
      user = name_is _ a.user is.user.is;
      password = text_fits Secret _ a.password is.password;
      group = subst (λ k. a.group < k) (groups_count groups) is.group.within;
      cap = count_within 1 1000000 _ a.cap is.cap;
    }

keeps_user : (key : Key) (user : Option (List ℕ)) → IfSome user (λ u. name key (string u) ≡ Ok u)
    → IfSome user (λ u. IsTrue (is_name u))
keeps_user key None is = tt
keeps_user key (Some u) is = name_is key u is

keeps_relay : (mounts : List Mount) (n : ℕ) (before : List Relay) (ms : Members) (r : Relay)
    → relay_of mounts n ms ≡ Ok r → KeepsRelay (length mounts) r
keeps_relay mounts n before ms r e =
    let is = relay_is mounts n ms r e in
    record {
      mount = subst (λ k. r.mount < k) (names_count mounts) is.mount.within;
      address = text_fits Address _ r.address is.address;
      upstream = name_is _ r.upstream is.upstream;
      protocol = count_within 1 2 _ r.protocol is.protocol;
      user = keeps_user (place 9 n 5) r.user is.user;
      password = text_fits Secret _ r.password is.password;
    }

keeps_anonymous : (groups : List Group) (a : Option Anonymous) → IfSome a (IsAnonymous groups)
    → IfSome a (KeepsAnonymous 1000000 (length groups))
keeps_anonymous groups None is = tt
keeps_anonymous groups (Some a) is = record {
  group = subst (λ k. a.group < k) (groups_count groups) is.group.within;
  cap = count_within 1 1000000 _ a.cap is.cap;
}

-- ---- records

but_same : (kind : RecordKind) (found r : Record) → but_mountpoints kind found ≡ Some r → found ≡ r
but_same Str found r e = absurd cc
but_same Cas found r e = cc
but_same Net found r e = cc

record_given : (read : Result Record RecordFault) (r : Record) → given_record read ≡ Some r → read ≡ Ok r
record_given (Ok found) r e = let same : found ≡ r = but_same found.kind found r e in ap Ok same
record_given (Err fault) r e = absurd cc

line_kept : (line : List ℕ) (r : Record) → record_line line ≡ Some r → record_line (line_of r) ≡ Some r
line_kept line r e =
    elim (cases_Bool (leb (length line) 1000 && is_utf8 line)) [
      | inl fits ↦
          let read : record_read line ≡ Ok r = record_given (record_read line) r (rw fits at e) in
          subst (λ l. record_line l ≡ Some r) (read_is line r read).line_is e
      | inr other ↦ absurd (let h = rw other at e in cc)
    ]

abbrev IsKept : Record → Type 0
IsKept r = record_line (line_of r) ≡ Some r

records_from : (key : Key) (before : List Record) (lines : List (List ℕ)) (rs : List Record) → All IsKept before
    → each_of (record_at key) before lines ≡ Ok rs → All IsKept rs × (length rs ≡ length before + length lines)
records_from key before [] rs kept e =
    let same = value_is before rs e in
    (subst (λ rs. All IsKept rs) same kept, ap length (sym same) ∙ omega arith)
records_from key before (line ∷ lines) rs kept e =
    taken (λ rs. All IsKept rs × (length rs ≡ length before + length (line ∷ lines))) (record_at key line) _ rs e
    (λ r read rest.
    let one : IsKept r = line_kept line r (given_some (Range key) (record_line line) r read) in
    let more = records_from key (before ++ r ∷ []) lines rs (All-append IsKept before (r ∷ []) kept
    (All-cons IsKept r [] one (All-nil IsKept))) rest in
    let size : length (before ++ r ∷ []) ≡ length before + 1 = length-append before (r ∷ []) in
    let all : length rs ≡ length (before ++ r ∷ []) + length lines = more.1 in
    (more.0, omega arith))

records_rule : (key : Key) (d : Data) (rs : List Record) → records key d ≡ Ok rs → All IsKept rs × (length rs ≤ 64)
unfolding records
records_rule key d rs e =
    taken (λ rs. All IsKept rs × (length rs ≤ 64)) (texts key d) _ rs e (λ lines read e1.
    held (λ rs. All IsKept rs × (length rs ≤ 64)) (Range key) (leb (length lines) 64) _ rs e1 (λ few e2.
    let kept = records_from key [] lines rs (All-nil IsKept) e2 in
    let all : length rs ≡ 0 + length lines = kept.1 in
    let most : length lines ≤ 64 = leb-true (length lines) 64 few in
    (kept.0, omega arith)))

keeps_records : (key : Key) (o : Option Data) (rs : List Record) → optional [] records key o ≡ Ok rs → All IsKept rs
    × (length rs ≤ 64)
keeps_records key None rs e = subst (λ rs. All IsKept rs × (length rs ≤ 64)) (value_is [] rs e)
    (All-nil IsKept, omega arith)
keeps_records key (Some d) rs e = records_rule key d rs e

-- ---- the document

pub record KeepsHeard (h : RoverOffer) : Type 0 where
  pub mount : AreKept KeepsMount 1 64 h.mount
  pub near : AreKept (KeepsNear (length h.mount)) 0 (64 - length h.mount) h.near
  pub names : each_once (heard_names h.mount h.near) ≡ true
  pub group : All (KeepsGroup (length h.mount) (length h.near)) h.group
  pub count_groups : is_within 1 64 (length h.group) ≡ true
  pub groups : each_once (group_names h.group) ≡ true
  pub filters : h.permits ≡ all_filters h.mount h.group

group_limit : (one : Bool) (n : ℕ) → is_within 1 (cond one 16 64) n ≡ true → is_within 1 64 n ≡ true
group_limit true n h = let parts = within 1 16 n h in and_from _ _ (le-leb 1 n parts.0)
    (le-leb n 64 (omega (arith, parts.1)))
group_limit false n h = h

record KeepsPlaces (p : Places) : Type 0 where
  pub mount : AreKept KeepsMount 1 64 p.mount
  pub near : AreKept (KeepsNear (length p.mount)) 0 (64 - length p.mount) p.near
  pub names : each_once (heard_names p.mount p.near) ≡ true

keeps_places : (ms : Members) (p : Places) → places_of ms ≡ Ok p → KeepsPlaces p
unfolding places_of
keeps_places ms p e =
    taken KeepsPlaces _ _ p e (λ v1 f1 e1.
    taken KeepsPlaces _ _ p e1 (λ v2 f2 e2.
    let names = listed_differ (λ (m : Mount). m.name) [] mount_of (λ n before ms m e.
    (mount_is n before ms m e).name.new) refl 1 64 (top 5) (get_member (codes "mount") ms) v1 f1 in
    subst KeepsPlaces (value_is _ p e2) (record {
      mount = listed_kept KeepsMount mount_of keeps_mount 1 64 (top 5) (get_member (codes "mount") ms) v1 f1;
      near = listed_or_none_kept (KeepsNear (length v1)) (near_of v1) (keeps_near v1) (64 - length v1) (top 6)
          (get_member (codes "near") ms) v2 f2;
      names = listed_or_none_differ (λ (n : Near). n.name) (mount_names v1) (near_of v1)
          (λ n before ms m e. (near_is v1 n before ms m e).name.new)
          (subst (λ ns. each_once ns ≡ true) (sym (append-nil (mount_names v1))) names) (64 - length v1) (top 6)
          (get_member (codes "near") ms) v2 f2;
    })))

keeps_heard : (version : ℕ) (ms : Members) (h : RoverOffer) → heard_of version ms ≡ Ok h → KeepsHeard h
unfolding heard_of
keeps_heard version ms h e =
    taken KeepsHeard _ _ h e (λ v1 f1 e1.
    taken KeepsHeard _ _ h e1 (λ v2 f2 e2.
    let places = keeps_places ms v1 f1 in
    let one = group_of version v1.mount v1.near in
    let groups = listed_kept (KeepsGroup (length v1.mount) (length v1.near)) one
    (keeps_group version v1.mount v1.near) 1 (most_groups version) (top 7) (get_member (codes "group") ms) v2 f2 in
    subst KeepsHeard (value_is _ h e2) (record {
      mount = places.mount;
      near = places.near;
      names = places.names;
      group = groups.each;
      count_groups = group_limit (version == 1) (length v2) groups.count;
      groups = listed_differ (λ (g : Group). g.name) [] one
          (λ n before ms g e. (group_is version v1.mount v1.near n before ms g e).name.new) refl 1 (most_groups version)
          (top 7) (get_member (codes "group") ms) v2 f2;
      filters = refl;
    })))

pub record KeepsParties (mounts groups : ℕ) (p : Parties) : Type 0 where
  pub account : AreKept (KeepsAccount 1000000 groups) 0 1024 p.account
  pub users : each_once (user_names p.account) ≡ true
  pub relay : AreKept (KeepsRelay mounts) 0 16 p.relay
  pub anonymous : IfSome p.anonymous (KeepsAnonymous 1000000 groups)

keeps_parties : (mounts : List Mount) (groups : List Group) (ms : Members) (p : Parties)
    → parties_of mounts groups ms ≡ Ok p → KeepsParties (length mounts) (length groups) p
unfolding parties_of
keeps_parties mounts groups ms p e =
    taken (KeepsParties (length mounts) (length groups)) _ _ p e (λ v1 f1 e1.
    taken (KeepsParties (length mounts) (length groups)) _ _ p e1 (λ v2 f2 e2.
    taken (KeepsParties (length mounts) (length groups)) _ _ p e2 (λ v3 f3 e3.
    subst (KeepsParties (length mounts) (length groups)) (value_is _ p e3) (record {
      account = listed_or_none_kept (KeepsAccount 1000000 (length groups)) (account_of groups) (keeps_account groups)
          1024 (top 8) (get_member (codes "account") ms) v1 f1;
      users = listed_or_none_differ (λ (a : Account). a.user) [] (account_of groups)
          (λ n before ms a e. (account_is groups n before ms a e).user.new) refl 1024 (top 8)
          (get_member (codes "account") ms) v1 f1;
      relay = listed_or_none_kept (KeepsRelay (length mounts)) (λ n before. relay_of mounts n) (keeps_relay mounts) 16
          (top 9) (get_member (codes "relay") ms) v2 f2;
      anonymous = keeps_anonymous groups v3 (optional_anonymous groups (top 10) (get_member (codes "anonymous") ms) v3
          f3);
    }))))

record KeepsSettings (s : Settings) : Type 0 where
  pub workers : IsTrue (is_within 1 256 s.workers)
  pub hysteresis : s.hysteresis ≤ 50

keeps_settings : (ms : Members) (s : Settings) → settings_of ms ≡ Ok s → KeepsSettings s
unfolding settings_of
keeps_settings ms s e =
    taken KeepsSettings (required (count 1 2) (top 1) (get_member (codes "version") ms)) _ s e (λ v1 f1 e1.
    taken KeepsSettings _ _ s e1 (λ v2 f2 e2.
    taken KeepsSettings _ _ s e2 (λ v3 f3 e3.
    subst KeepsSettings (value_is _ s e3) (record {
      workers = count_within 1 256 (top 2) v2 (again_or (count 1 256) (λ n. integer (pos n)) (count_keeps 1 256) (top 2)
          4 (get_member (codes "workers") ms) v2 refl f2);
      hysteresis = (within 0 50 v3 (count_within 0 50 (top 3) v3 (again_or (count 0 50) (λ n. integer (pos n))
          (count_keeps 0 50) (top 3) 10 (get_member (codes "hysteresis") ms) v3 refl f3))).1;
    }))))

pub keeps_rules : (ms : Members) (c : Config) → config_of ms ≡ Ok c → KeepsRules 1000000 c
unfolding config_of
keeps_rules ms c e =
    taken (KeepsRules 1000000) _ _ c e (λ v1 f1 e1.
    taken (KeepsRules 1000000) _ _ c e1 (λ v2 f2 e2.
    taken (KeepsRules 1000000) _ _ c e2 (λ v3 f3 e3.
    taken (KeepsRules 1000000) _ _ c e3 (λ v4 f4 e4.
    let settings = keeps_settings ms v1 f1 in
    let kept = keeps_records (top 4) (get_member (codes "records") ms) v2 f2 in
    let heard = keeps_heard v1.version ms v3 f3 in
    let parties = keeps_parties v3.mount v3.group ms v4 f4 in
    let some = within 1 64 (length v3.mount) heard.mount.count in
    let more = within 0 (64 - length v3.mount) (length v3.near) heard.near.count in
    let accounts = within 0 1024 (length v4.account) parties.account.count in
    let relays = within 0 16 (length v4.relay) parties.relay.count in
    subst (KeepsRules 1000000) (value_is (config_from v1 v2 v3 v4) c e4) (record {
      workers = settings.workers;
      hysteresis = settings.hysteresis;
      few_records = kept.1;
      records = kept.0;
      some_mounts = some.0;
      few_mounts = omega (arith, some.1, more.1);
      mount = heard.mount.each;
      near = heard.near.each;
      names = heard.names;
      count_groups = heard.count_groups;
      group = heard.group;
      groups = heard.groups;
      few_accounts = accounts.1;
      account = parties.account.each;
      users = parties.users;
      few_relays = relays.1;
      relay = parties.relay.each;
      anonymous = parties.anonymous;
      filters = heard.filters;
    })))))

-- ---- the smallest configuration

keeps_mount_a : (capacity : ℕ) → 1 ≤ capacity → capacity ≤ 4096 → KeepsMount (mount_a capacity)
keeps_mount_a capacity low high = record {
  name = refl;
  password = empty_fits;
  ring = and_from _ _ (le-leb 1 capacity low) (le-leb capacity 4096 high);
  lat = omega arith;
  lon = omega arith;
  identifier = name_fits (codes "A") refl;
  details = empty_fits;
  carrier = carrier_fits;
  navigation = navigation_fits;
  network = empty_fits;
  country = empty_fits;
  generator = empty_fits;
  bitrate = omega arith;
  misc = empty_fits;
}

keeps_group_all : KeepsGroup 1 0 group_all
keeps_group_all = record {
  name = refl;
  few = omega arith;
  mounts = record { within = All-cons (λ n. n < 1) 0 [] (omega arith) (All-nil (λ n. n < 1)); once = refl };
  few_filters = omega arith;
  filters = record { within = All-nil (λ n. n < 1); once = refl };
}

pub bare_keeps_rules : (capacity : ℕ) → 1 ≤ capacity → capacity ≤ 4096 → KeepsRules 4294967295 (bare capacity)
bare_keeps_rules capacity low high = record {
  workers = refl;
  hysteresis = omega arith;
  few_records = omega arith;
  records = All-nil IsKept;
  some_mounts = omega arith;
  few_mounts = omega arith;
  mount = All-cons KeepsMount (mount_a capacity) [] (keeps_mount_a capacity low high) (All-nil KeepsMount);
  near = All-nil (KeepsNear 1);
  names = refl;
  count_groups = refl;
  group = All-cons (KeepsGroup 1 0) group_all [] keeps_group_all (All-nil (KeepsGroup 1 0));
  groups = refl;
  few_accounts = omega arith;
  account = All-nil (KeepsAccount 4294967295 1);
  users = refl;
  few_relays = omega arith;
  relay = All-nil (KeepsRelay 1);
  anonymous = record { group = omega arith; cap = refl };
  filters = refl;
}
