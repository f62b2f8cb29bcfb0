-- What a rover that is admitted under a configuration that keeps its rules is given.
use Rattle.std.proofs.Common.{◌≡◌, ◌∙◌, ◌<◌, ◌≤◌, ◌+◌, ◌-◌, ℕ, zero, suc, Bool, true, false, List, [], ◌∷◌, length, All, refl, sym, subst, arith, Result, Ok, Err, Option, None, Some, length-append}
use Rattle.std.specs.Prelude.{nat_lt, nat_le, not, if◌then◌else◌, slice_get, filter, IfSome}
use Rattle.std.specs.Str.{bytes_eq}
use Rattle.std.proofs.lemmas.Bool.{ltb-true, and_parts, leb-true}
use Rattle.std.proofs.lemmas.List.{length-map}
use Rattle.std.proofs.lemmas.Option.{slice_get_within, get_or_from_slice_get}
use Rattle.std.proofs.lemmas.List.Elements.{All-head, All-tail, All-cons, All-nil, All-append, All-filter}
use Rattle.base_select.specs.declared.Base.{Base}
use Rattle.base_select.specs.Measure.{IsOnEarth}
use Rattle.mount_ring.specs.declared.shape.RingShape.{RingShape}
use Rattle.ntrip_head.specs.declared.request.Auth.{Auth}
use Rattle.ntrip_head.specs.declared.request.Auth.TheVariants as auths
use Rattle.rover_session.specs.Standing.{KnowsFilter, AreWithin}
use Rattle.cast_config.specs.declared.config.Config.{Config}
use Rattle.cast_config.specs.declared.config.Mount.{Mount}
use Rattle.cast_config.specs.declared.config.Near.{Near}
use Rattle.cast_config.specs.declared.config.Group.{Group}
use Rattle.cast_config.specs.declared.config.Account.{Account}
use Rattle.cast_config.specs.declared.config.Anonymous.{Anonymous}
use Rattle.cast_config.specs.Kept.{KeepsRules, KeepsNear, KeepsMount, KeepsAccount, KeepsAnonymous}
use Rattle.cast_config.specs.Names.{heard_names, mount_names, user_names, place_of}
use Rattle.cast_config.specs.Served.{filter_for, filters_of}
use Rattle.access_groups.specs.declared.admission.Admission.{Admission}
use Rattle.access_groups.specs.declared.admission.Denial.{Denial}
use Rattle.access_groups.specs.declared.admission.Denial.TheVariants as denials
use Rattle.access_groups.specs.declared.admission.SourceDenial.{SourceDenial}
use Rattle.access_groups.specs.declared.admission.SourceDenial.TheVariants as sources
use Rattle.access_groups.specs.Admission.{◌>>=◌, given, party, anonymous_party, account_party, party_of, hears, bases_of, is_near, heard_bases, admission_of, admission_in, admission, source_at, source_of, source_admission}
use Rattle.session_model.specs.Setting.{shapes, shapes_from, caps, base_at, bases_at}

-- ---- numbers of mountpoints

-- what holds of each element holds of the one at a place
pub at_place : {X : Type 0} (P : X → Type 0) (xs : List X) (k : ℕ) (x : X) → All P xs → slice_get xs k ≡ Some x → P x
at_place P xs k x all here =
    subst P (get_or_from_slice_get xs k x x here) (all k x (slice_get_within xs k x here))

abbrev IsBelow : ℕ → ℕ → Type 0
IsBelow most n = n < most

-- between 1 and 16 of them, all mountpoints; one where it is not near
pub record AreGiven (c : Config) (near : Bool) (bases : List ℕ) : Type 0 where
  pub some : 1 ≤ length bases
  pub few : length bases ≤ 16
  pub within : All (IsBelow (length c.mount)) bases
  pub one : near ≡ false → length bases ≡ 1

filter_few : (p : ℕ → Bool) (xs : List ℕ) → length (filter p xs) ≤ length xs
filter_few p [] = omega arith
filter_few p (x ∷ xs) = filter_one (p x) x (filter p xs) (length xs) (filter_few p xs)
  where
    filter_one : (b : Bool) (x : ℕ) (rest : List ℕ) (n : ℕ) → length rest ≤ n
        → length (if b then x ∷ rest else rest) ≤ suc n
    filter_one true x rest n few = omega (arith, few)
    filter_one false x rest n few = omega (arith, few)

near_bases : (c : Config) (cap : ℕ) (near : Option Near) → KeepsRules cap c → (k : ℕ) → slice_get c.near k ≡ near
    → (length (bases_of near) ≤ 16) × All (IsBelow (length c.mount)) (bases_of near)
near_bases c cap None kept k here = (omega arith, All-nil (IsBelow (length c.mount)))
near_bases c cap (Some near) kept k here =
    let keeps : KeepsNear (length c.mount) near = at_place (KeepsNear (length c.mount)) c.near k near kept.near here in (
      leb-true (length near.bases) 16 (and_parts (nat_le 1 (length near.bases)) (nat_le
          (length near.bases) 16) keeps.count).1,
      keeps.bases.within,
    )

abbrev Gives : Config → Bool → List ℕ → Type 0
Gives c near bases = (length bases ≤ 16) × All (IsBelow (length c.mount)) bases × (near ≡ false → length bases ≡ 1)

heard_given : (c : Config) (cap group n : ℕ) → KeepsRules cap c → Gives c (is_near c n) (heard_bases c group n)
heard_given c cap group n kept = by_near (nat_lt n (length c.mount)) refl
  where
    by_near : (b : Bool) → nat_lt n (length c.mount) ≡ b
        → Gives c (not b) (if not b then filter (hears c group) (bases_of (slice_get c.near
        (n - length c.mount))) else n ∷ [])
    by_near true is = (
      omega arith,
      All-cons (IsBelow (length c.mount)) n [] (ltb-true n (length c.mount) is)
          (All-nil (IsBelow (length c.mount))),
      λ e. refl,
    )
    by_near false is =
        let there = near_bases c cap (slice_get c.near (n - length c.mount)) kept (n - length c.mount) refl in (
          omega (arith, filter_few (hears c group) (bases_of (slice_get c.near (n - length c.mount))), there.0),
          All-filter (hears c group) (IsBelow (length c.mount)) (bases_of (slice_get c.near (n - length c.mount)))
              there.1,
          λ e. absurd cc,
        )

-- ---- who it is

-- its group and its account are there
abbrev IsParty : Config → ℕ → ℕ → Type 0
IsParty c group account = (group < length c.group) × (account < 1 + length c.account)

anonymous_is : (c : Config) (cap : ℕ) (a : Option Anonymous) (p : _) → IfSome a (KeepsAnonymous cap (length c.group))
    → anonymous_party a ≡ Ok p → IsParty c p.group p.account
anonymous_is c cap None p kept is = absurd cc
anonymous_is c cap (Some a) p kept is =
    let e : party 0 a.group ≡ p = cc in
    subst (λ (q : _). IsParty c q.group q.account) e (kept.group, omega arith)

account_is : (c : Config) (cap place : ℕ) (password : List ℕ) (a : Option Account) (p : _) → KeepsRules cap c
    → slice_get c.account place ≡ a → account_party place password a ≡ Ok p → IsParty c p.group p.account
account_is c cap place password None p kept here is = absurd cc
account_is c cap place password (Some a) p kept here is = by_password (bytes_eq a.password password) is
  where
    by_password : (b : Bool)
        → ◌≡◌ (if b then Ok (party (place + 1) a.group) else Err (denials.Password (place + 1))) (Ok p)
        → IsParty c p.group p.account
    by_password true is =
        let e : party (place + 1) a.group ≡ p = cc in
        let keeps : KeepsAccount cap (length c.group) a = at_place (KeepsAccount cap
        (length c.group)) c.account place a kept.account here in
        subst (λ (q : _). IsParty c q.group q.account) e (
          keeps.group,
          omega
              (arith, slice_get_within c.account place a here),
        )
    by_password false is = absurd cc

named_is : (c : Config) (cap : ℕ) (place : Option ℕ) (password : List ℕ) (p : _) → KeepsRules cap c
    → (given denials.NoAccount place >>= (λ place. account_party place password (slice_get c.account place))) ≡ Ok p
    → IsParty c p.group p.account
named_is c cap None password p kept is = absurd cc
named_is c cap (Some place) password p kept is =
    account_is c cap place password (slice_get c.account place) p kept refl is

party_is : (c : Config) (cap : ℕ) (auth : Auth) (p : _) → KeepsRules cap c → party_of c auth ≡ Ok p
    → IsParty c p.group p.account
party_is c cap auths.Unread p kept is = absurd cc
party_is c cap auths.None p kept is = anonymous_is c cap c.anonymous p kept.anonymous is
party_is c cap (auths.Basic user password) p kept is =
    named_is c cap (place_of (user_names c.account) user) password p kept is

-- ---- both

pub record IsAdmitted (c : Config) (a : Admission) : Type 0 where
  pub group : a.group < length c.group
  pub account : a.account < 1 + length c.account
  pub numbers : AreGiven c a.near a.bases

of_is : (c : Config) (p : _) (n : ℕ) (bases : List ℕ) (a : Admission) → admission_of c p n bases ≡ Ok a
    → IsParty c p.group p.account → Gives c (is_near c n) bases → IsAdmitted c a
of_is c p n [] a answered is gives = absurd cc
of_is c p n (base ∷ more) a answered is gives =
    let made : Admission = record { account = p.account; group = p.group; near = is_near c n; bases = base ∷ more } in
    let e : made ≡ a = cc in
    subst (IsAdmitted c) e (record {
      group = is.0;
      account = is.1;
      numbers = record { some = omega arith; few = gives.0; within = gives.1; one = gives.2 };
    })

in_is : (c : Config) (cap n : ℕ) (p : _) (a : Admission) → admission_in c n p ≡ Ok a → KeepsRules cap c
    → IsParty c p.group p.account → IsAdmitted c a
in_is c cap n p a answered kept is = by_hears (hears c p.group n) answered
  where
    by_hears : (b : Bool)
        → ◌≡◌ {A = Result Admission Denial} (if b then admission_of c p n (heard_bases c p.group n) else Err
        (denials.Group p.group)) (Ok a)
        → IsAdmitted c a
    by_hears true answered = of_is c p n (heard_bases c p.group n) a answered is (heard_given c cap p.group n kept)
    by_hears false answered = absurd cc

party_then : (c : Config) (cap n : ℕ) (r : Result _ Denial) (a : Admission)
    → (r >>= (λ p. admission_in c n p)) ≡ Ok a → KeepsRules cap c
    → ((p : _) → r ≡ Ok p → IsParty c p.group p.account) → IsAdmitted c a
party_then c cap n (Ok p) a answered kept is = in_is c cap n p a answered kept (is p refl)
party_then c cap n (Err denial) a answered kept is = absurd cc

name_then : (c : Config) (cap : ℕ) (auth : Auth) (place : Option ℕ) (a : Admission) → KeepsRules cap c
    → (given denials.NoMount place >>= (λ n. party_of c auth >>= (λ p. admission_in c n p))) ≡ Ok a → IsAdmitted c a
name_then c cap auth None a kept answered = absurd cc
name_then c cap auth (Some n) a kept answered =
    party_then c cap n (party_of c auth) a answered kept (λ p is. party_is c cap auth p kept is)

pub admitted_is : (c : Config) (cap : ℕ) (auth : Auth) (name : List ℕ) (a : Admission) → KeepsRules cap c
    → admission c auth name ≡ Ok a → IsAdmitted c a
unfolding admission
admitted_is c cap auth name a kept answered =
    name_then c cap auth (place_of (heard_names c.mount c.near) name) a kept answered

-- ---- the bases with their positions

on_earth : (m : Mount) → KeepsMount m → IsOnEarth m.at
on_earth m keeps = record { lat = keeps.lat; lon = keeps.lon }

-- each number of a mountpoint gives one base
pub record AreBases (c : Config) (count : ℕ) (bases : List Base) : Type 0 where
  pub long : length bases ≡ count
  pub earth : All (λ (base : Base). IsOnEarth base.at) bases
  pub within : AreWithin (length c.mount) bases

base_one : (c : Config) (cap n : ℕ) (mount : Option Mount) → KeepsRules cap c → n < length c.mount
    → slice_get c.mount n ≡ mount → AreBases c 1 (base_at n mount)
base_one c cap n None kept below here =
    absurd (none_past (c.mount) n below here)
  where
    none_past : (xs : List Mount) (k : ℕ) → k < length xs → slice_get xs k ≡ None → ⊥
    none_past [] k below none = absurd (omega arith)
    none_past (x ∷ xs) zero below none = absurd cc
    none_past (x ∷ xs) (suc k) below none = none_past xs k (omega arith) none
base_one c cap n (Some m) kept below here =
    let base : Base = record { mount = n; at = m.at } in
    let keeps : KeepsMount m = at_place KeepsMount c.mount n m kept.mount here in record {
      long = refl;
      earth = All-cons (λ (base : Base). IsOnEarth base.at) base [] (on_earth m keeps) (All-nil (λ
          (base : Base). IsOnEarth base.at));
      within = All-cons (λ (base : Base). base.mount < length c.mount) base [] below
          (All-nil (λ (base : Base). base.mount < length c.mount));
    }

pub bases_are : (c : Config) (cap : ℕ) (numbers : List ℕ) → KeepsRules cap c
    → All (IsBelow (length c.mount)) numbers → AreBases c (length numbers) (bases_at c numbers)
bases_are c cap [] kept within = record {
  long = refl;
  earth = All-nil (λ (base : Base). IsOnEarth base.at);
  within = All-nil (λ (base : Base). base.mount < length c.mount);
}
bases_are c cap (n ∷ more) kept within =
    let first : List Base = base_at n (slice_get c.mount n) in
    let one : AreBases c 1 first =
    base_one c cap n (slice_get c.mount n) kept (All-head (IsBelow (length c.mount)) n more within) refl in
    let rest : AreBases c (length more) (bases_at c more) =
    bases_are c cap more kept (All-tail (IsBelow (length c.mount)) n more within) in record {
      long = omega (arith, length-append first (bases_at c more), one.long, rest.long);
      earth = All-append (λ (base : Base). IsOnEarth base.at) first (bases_at c more) one.earth rest.earth;
      within = All-append (λ (base : Base). base.mount < length c.mount) first (bases_at c more) one.within rest.within;
    }

-- ---- its filter and its account

filters_from : (groups : List Group) (n : ℕ) (mounts : List Mount) (filter : ℕ) → filter < length groups
    → KnowsFilter (shapes_from groups n mounts) filter
filters_from groups n [] filter below = All-nil (λ (shape : RingShape). filter < length shape.filters)
filters_from groups n (mount ∷ mounts) filter below =
    All-cons (λ (shape : RingShape). filter < length shape.filters)
    (record { capacity = mount.ring; filters = filters_of groups n }) (shapes_from groups (n + 1) mounts)
    (omega (arith, below, length-map groups (λ (g : Group). filter_for n g.types g.filter)))
    (filters_from groups (n + 1) mounts filter below)

pub knows_filter : (c : Config) (filter : ℕ) → filter < length c.group → KnowsFilter (shapes c) filter
knows_filter c filter below = filters_from c.group 0 c.mount filter below

pub account_known : (c : Config) (account : ℕ) → account < 1 + length c.account → account < length (caps c)
account_known c account below = omega (arith, below, length-map c.account (λ (a : Account). a.cap))

-- ---- what a session is made of

pub record IsReady (c : Config) (a : Admission) (bases : List Base) : Type 0 where
  pub some : 1 ≤ length bases
  pub few : length bases ≤ 16
  pub earth : All (λ (base : Base). IsOnEarth base.at) bases
  pub one : a.near ≡ false → length bases ≡ 1
  pub within : AreWithin (length c.mount) bases
  pub filter : KnowsFilter (shapes c) a.group
  pub account : a.account < length (caps c)
  pub percent : c.hysteresis ≤ 50

pub is_ready : (c : Config) (a : Admission) → ((cap : ℕ) × KeepsRules cap c)
    → ((auth : Auth) × (name : List ℕ) × (admission c auth name ≡ Ok a)) → IsReady c a (bases_at c a.bases)
is_ready c a kept by =
    let is : IsAdmitted c a = admitted_is c kept.0 by.0 by.1 a kept.1 by.2 in
    let bases : AreBases c (length a.bases) (bases_at c a.bases) = bases_are c kept.0 a.bases kept.1 is.numbers.within
    in record {
      some = omega (arith, bases.long, is.numbers.some);
      few = omega (arith, bases.long, is.numbers.few);
      earth = bases.earth;
      one = λ far. bases.long ∙ is.numbers.one far;
      within = bases.within;
      filter = knows_filter c a.group is.group;
      account = account_known c a.account is.account;
      percent = kept.1.hysteresis;
    }

-- the same of these bases by another name
pub ready_by : (c : Config) (a : Admission) (bases : List Base) → ((cap : ℕ) × KeepsRules cap c)
    → ((auth : Auth) × (name : List ℕ) × (admission c auth name ≡ Ok a)) → bases ≡ bases_at c a.bases
    → IsReady c a bases
ready_by c a bases kept by are = subst (λ (l : List Base). IsReady c a l) (sym are) (is_ready c a kept by)

-- ---- sources

source_at_is : (c : Config) (n : ℕ) (password : List ℕ) (m : Option Mount) (k : ℕ) → slice_get c.mount n ≡ m
    → source_at n password m ≡ Ok k → k < length c.mount
source_at_is c n password None k here is = absurd cc
source_at_is c n password (Some m) k here is = by_password (bytes_eq m.password password) is
  where
    by_password : (b : Bool) → ◌≡◌ {A = Result ℕ SourceDenial} (if b then Ok n else Err sources.Password) (Ok k)
        → k < length c.mount
    by_password true is =
        let e : n ≡ k = cc in
        subst (λ (i : ℕ). i < length c.mount) e (slice_get_within c.mount n m here)
    by_password false is = absurd cc

source_of_is : (c : Config) (password : List ℕ) (place : Option ℕ) (k : ℕ) → source_of c password place ≡ Ok k
    → k < length c.mount
source_of_is c password None k is = absurd cc
source_of_is c password (Some n) k is = source_at_is c n password (slice_get c.mount n) k refl is

-- a source that is admitted feeds a mountpoint
pub source_is : (c : Config) (name password : List ℕ) (k : ℕ) → source_admission c name password ≡ Ok k
    → k < length c.mount
unfolding source_admission
source_is c name password k is = source_of_is c password (place_of (mount_names c.mount) name) k is
