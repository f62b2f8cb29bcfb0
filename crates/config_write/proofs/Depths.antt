-- What is written is not deep, and has no date.
use Rattle.std.proofs.Common.{◌≡◌, ℕ, ◌≤◌, suc, max, true, List, [], ◌∷◌, map, Option, Some, None, Less, Equal, Greater, nat_cmp, refl, arith}
use Rattle.std.specs.Prelude.{codes}
use Rattle.std.specs.Cmp.Lexicographic.{slice_cmp}
use Rattle.std.specs.Ordering.{match_ordering}
use Rattle.std.proofs.Math.Nat.{max-le}
use Rattle.std.proofs.lemmas.Bool.{and_from, and_parts}
use Rattle.toml.specs.Data.{Data, string, table, Members, no_members, member, depth, items_depth, members_depth, has_valid_dates, items_have_valid_dates, members_have_valid_dates}
use Rattle.toml.specs.View.{items_of}
use Rattle.sourcetable.specs.Record.{line_of}
use Rattle.type_filter.specs.Permitted.{FilterValue, All, Listed}
use Rattle.cast_config.specs.declared.config.Config.{Config}
use Rattle.cast_config.specs.declared.config.Mount.{Mount}
use Rattle.cast_config.specs.declared.config.Near.{Near}
use Rattle.cast_config.specs.declared.config.Group.{Group}
use Rattle.cast_config.specs.declared.config.GroupFilter.{GroupFilter}
use Rattle.cast_config.specs.declared.config.Account.{Account}
use Rattle.cast_config.specs.declared.config.Relay.{Relay}
use Rattle.cast_config.specs.declared.config.Anonymous.{Anonymous}
use Rattle.cast_config.specs.Names.{mount_names, heard_names}
use Rattle.config_write.specs.Members.{Keys, put, put_keys, list_data, number}
use Rattle.config_write.specs.Entries.{name_data, types_data, filter_keys, filter_tree, station_keys, record_keys, mount_tree, near_keys, near_tree, heard_keys, filters_keys, group_tree, account_keys, account_tree, relay_keys, with_user, relay_tree, mounts_data, nears_data, groups_data, accounts_data, relays_data, anonymous_keys, anonymous_tree}
use Rattle.config_write.specs.Written.{top_keys, list_keys, with_anonymous, config_tree}

-- at most so deep, and each date in it, if there is any, can be written
record IsShallow (k : ℕ) (d : Data) : Type 0 where
  pub depth : depth d ≤ k
  pub dates : has_valid_dates d ≡ true

pub record AreShallow (k : ℕ) (ms : Members) : Type 0 where
  pub depth : members_depth ms ≤ k
  pub dates : members_have_valid_dates ms ≡ true

text : (k : ℕ) (s : List ℕ) → IsShallow k (string s)
text k s = record { depth = omega arith; dates = refl }

whole : (k : ℕ) (n : ℕ) → IsShallow k (number n)
whole k n = record { depth = omega arith; dates = refl }

inner : (k : ℕ) (ms : Members) → AreShallow k ms → IsShallow (suc k) (table ms)
inner k ms are = record { depth = let d : members_depth ms ≤ k = are.depth in omega arith; dates = are.dates }

none : (k : ℕ) → AreShallow k no_members
none k = record { depth = omega arith; dates = refl }

-- ---- lists

items_depths : {A : Type 0} (k : ℕ) (one : A → Data) → ((x : A) → IsShallow k (one x)) → (xs : List A)
    → items_depth (items_of (map one xs)) ≤ k
items_depths k one each [] = omega arith
items_depths k one each (x ∷ xs) = max-le (each x).depth (items_depths k one each xs)

items_dates : {A : Type 0} (k : ℕ) (one : A → Data) → ((x : A) → IsShallow k (one x)) → (xs : List A)
    → items_have_valid_dates (items_of (map one xs)) ≡ true
items_dates k one each [] = refl
items_dates k one each (x ∷ xs) = and_from _ _ (each x).dates (items_dates k one each xs)

list : {A : Type 0} (k : ℕ) (one : A → Data) → ((x : A) → IsShallow k (one x)) → (xs : List A)
    → IsShallow (suc k) (list_data one xs)
list k one each xs = record {
  depth = let d : items_depth (items_of (map one xs)) ≤ k = items_depths k one each xs in omega arith;
  dates = items_dates k one each xs;
}

-- ---- keys

more : (k : ℕ) (key : List ℕ) (d : Data) (ms : Members) → IsShallow k d → AreShallow k ms
    → AreShallow k (member key d ms)
more k key d ms is are = record { depth = max-le is.depth are.depth; dates = and_from _ _ is.dates are.dates }

rest : (k : ℕ) (key : List ℕ) (d : Data) (ms : Members) → AreShallow k (member key d ms) → AreShallow k ms
rest k key d ms are = record {
  depth = let all : max (depth d) (members_depth ms) ≤ k = are.depth in omega arith;
  dates = (and_parts (has_valid_dates d) (members_have_valid_dates ms) are.dates).1;
}

head : (k : ℕ) (key : List ℕ) (d : Data) (ms : Members) → AreShallow k (member key d ms) → IsShallow k d
head k key d ms are = record {
  depth = let all : max (depth d) (members_depth ms) ≤ k = are.depth in omega arith;
  dates = (and_parts (has_valid_dates d) (members_have_valid_dates ms) are.dates).0;
}

one_more : (k : ℕ) (key : List ℕ) (d : Data) (ms : Members) → IsShallow k d → AreShallow k ms
    → AreShallow k (put key d ms)
one_more k key d no_members is are = more k key d no_members is are
one_more k key d (member other e ms) is are =
    elim (slice_cmp nat_cmp key other) as (λ r. AreShallow k
    (match_ordering r (member key d (member other e ms)) (member other d ms) (member other e (put key d ms)))) [
      | Less ↦ more k key d (member other e ms) is are
      | Equal ↦ more k other d ms is (rest k other e ms are)
      | Greater ↦ more k other e (put key d ms) (head k other e ms are) (one_more k key d ms is (rest k other e ms are))
    ]

abbrev AreKeys : ℕ → Keys → Type 0
AreKeys k [] = Unit {0}
AreKeys k (key ∷ keys) = IsShallow k key.1 × AreKeys k keys

all_more : (k : ℕ) (keys : Keys) (ms : Members) → AreKeys k keys → AreShallow k ms → AreShallow k (put_keys keys ms)
all_more k [] ms each are = are
all_more k (key ∷ keys) ms each are = all_more k keys (put key.0 key.1 ms) each.1 (one_more k key.0 key.1 ms each.0 are)

-- ---- entries

mount_shallow : (m : Mount) → AreShallow 0 (mount_tree m)
unfolding mount_tree
mount_shallow m =
    all_more 0 (record_keys m) (put_keys (station_keys m) no_members) (
      text 0 m.identifier,
      (
        text 0 m.details,
        (
          text 0 m.carrier,
          (
            text 0 m.navigation,
            (text 0 m.network, (text 0 m.country, (text 0 m.generator, (whole 0 m.bitrate, (text 0 m.misc, tt))))),
          ),
        ),
      ),
    )
    (all_more 0 (station_keys m) no_members (
      text 0 m.name,
      (
        text 0 m.password,
        (
          whole 0 m.ring,
          (
            record { depth = omega arith; dates = refl },
            (record { depth = omega arith; dates = refl }, tt),
          ),
        ),
      ),
    )
    (none 0))

names_shallow : (k : ℕ) (names : List (List ℕ)) (ns : List ℕ) → IsShallow (suc k) (list_data (name_data names) ns)
names_shallow k names ns = list k (name_data names) (λ n. text k _) ns

near_shallow : (mounts : List Mount) (n : Near) → AreShallow 1 (near_tree mounts n)
unfolding near_tree
near_shallow mounts n = all_more 1 (near_keys mounts n) no_members (
  text 1 n.name,
  (names_shallow 0 (mount_names mounts) n.bases, tt),
) (none 1)

types_shallow : (k : ℕ) (f : FilterValue) → IsShallow (suc k) (types_data f)
types_shallow k All = text (suc k) (codes "all")
types_shallow k (Listed numbers) = list k number (whole k) numbers

filter_shallow : (names : List (List ℕ)) (f : GroupFilter) → AreShallow 1 (filter_tree names f)
filter_shallow names f = all_more 1 (filter_keys names f) no_members (text 1 _, (types_shallow 0 f.types, tt)) (none 1)

group_shallow : (mounts : List Mount) (nears : List Near) (g : Group) → AreShallow 3 (group_tree mounts nears g)
unfolding group_tree
group_shallow mounts nears g =
    all_more 3 (filters_keys mounts g) (put_keys (heard_keys mounts nears g) no_members) (
      types_shallow 2 g.types,
      (
        list 2 (λ f. table (filter_tree (mount_names mounts) f)) (λ f. inner 1 (filter_tree (mount_names mounts) f)
            (filter_shallow (mount_names mounts) f)) g.filter,
        tt,
      ),
    )
    (all_more 3 (heard_keys mounts nears g) no_members (
      text 3 g.name,
      (names_shallow 2 (heard_names mounts nears) g.mounts, tt),
    ) (none 3))

account_shallow : (groups : List Group) (a : Account) → AreShallow 0 (account_tree groups a)
unfolding account_tree
account_shallow groups a =
    all_more 0 (account_keys groups a) no_members (text 0 a.user, (text 0 a.password, (text 0 _, (whole 0 a.cap, tt))))
    (none 0)

user_shallow : (o : Option (List ℕ)) (ms : Members) → AreShallow 0 ms → AreShallow 0 (with_user o ms)
user_shallow None ms are = are
user_shallow (Some user) ms are = one_more 0 (codes "user") (string user) ms (text 0 user) are

relay_shallow : (mounts : List Mount) (r : Relay) → AreShallow 0 (relay_tree mounts r)
unfolding relay_tree
relay_shallow mounts r =
    user_shallow r.user _
    (all_more 0 (relay_keys mounts r) no_members (
      text 0 _,
      (
        text 0 r.address,
        (text 0 r.upstream, (whole 0 r.protocol, (text 0 r.password, tt))),
      ),
    ) (none 0))

anonymous_shallow : (groups : List Group) (a : Anonymous) → AreShallow 0 (anonymous_tree groups a)
unfolding anonymous_tree
anonymous_shallow groups a = all_more 0 (anonymous_keys groups a) no_members (text 0 _, (whole 0 a.cap, tt)) (none 0)

-- ---- the document

deeper : (k most : ℕ) (d : Data) → k ≤ most → IsShallow k d → IsShallow most d
deeper k most d le is = record { depth = let at : depth d ≤ k = is.depth in omega arith; dates = is.dates }

with_anonymous_shallow : (groups : List Group) (o : Option Anonymous) (ms : Members) → AreShallow 5 ms
    → AreShallow 5 (with_anonymous groups o ms)
with_anonymous_shallow groups None ms are = are
with_anonymous_shallow groups (Some a) ms are =
    one_more 5 (codes "anonymous") (table (anonymous_tree groups a)) ms
    (deeper 1 5 _ (omega arith) (inner 0 (anonymous_tree groups a) (anonymous_shallow groups a))) are

top_shallow : (c : Config) → AreShallow 5 (put_keys (top_keys c) no_members)
top_shallow c =
    all_more 5 (top_keys c) no_members (
      whole 5 2,
      (
        whole 5 c.workers,
        (whole 5 c.hysteresis, (list 4 (λ r. string (line_of r)) (λ r. text 4 _) c.records, tt)),
      ),
    ) (none 5)

lists_shallow : (c : Config) → AreKeys 5 (list_keys c)
unfolding mounts_data nears_data groups_data accounts_data relays_data
lists_shallow c = (
  deeper 2 5 _ (omega arith) (list 1 (λ m. table (mount_tree m)) (λ m. inner 0 (mount_tree m) (mount_shallow m))
      c.mount),
  (
    deeper 3 5 _ (omega arith) (list 2 (λ n. table (near_tree c.mount n))
        (λ n. inner 1 (near_tree c.mount n) (near_shallow c.mount n)) c.near),
    (
      list 4 (λ g. table (group_tree c.mount c.near g)) (λ g. inner 3 (group_tree c.mount c.near g)
          (group_shallow c.mount c.near g)) c.group,
      (
        deeper 2 5 _ (omega arith) (list 1 (λ a. table (account_tree c.group a))
            (λ a. inner 0 (account_tree c.group a) (account_shallow c.group a)) c.account),
        (
          deeper 2 5 _ (omega arith) (list 1 (λ r. table (relay_tree c.mount r))
              (λ r. inner 0 (relay_tree c.mount r) (relay_shallow c.mount r)) c.relay),
          tt,
        ),
      ),
    ),
  ),
)

pub config_shallow : (c : Config) → AreShallow 5 (config_tree c)
unfolding config_tree
config_shallow c =
    with_anonymous_shallow c.group c.anonymous _ (all_more 5 (list_keys c) (put_keys (top_keys c) no_members)
    (lists_shallow c) (top_shallow c))
