-- Who may enter: the first rule that fails, or what a rover is given.
use Rattle.std.specs.Prelude.{◌≡◌, ⊤, ℕ, ◌+◌, ◌-◌, nat_lt, not, Bool, if◌then◌else◌, List, [], ◌∷◌, length, filter, slice_get, Option, Some, None, Result, Ok, Err}
use Rattle.std.specs.Str.{bytes_eq}
use Rattle.ntrip_head.specs.declared.request.Auth.{Auth}
use Rattle.ntrip_head.specs.declared.request.Auth.TheVariants.{Basic, Unread}
use Rattle.ntrip_head.specs.declared.request.Auth.TheVariants as auths
use Rattle.cast_config.specs.Served.{lists}
use Rattle.cast_config.specs.declared.config.Config.{Config}
use Rattle.cast_config.specs.declared.config.Account.{Account}
use Rattle.cast_config.specs.declared.config.Anonymous.{Anonymous}
use Rattle.cast_config.specs.declared.config.Mount.{Mount}
use Rattle.cast_config.specs.declared.config.Near.{Near}
use Rattle.cast_config.specs.Names.{heard_names, mount_names, user_names, place_of}
use Rattle.access_groups.specs.declared.admission.Admission.{Admission}
use Rattle.access_groups.specs.declared.admission.Denial.{Denial}
use Rattle.access_groups.specs.declared.admission.Denial.TheVariants.{NoMount, NoAccount, Password, Group as NotListed}
use Rattle.access_groups.specs.declared.admission.AdmissionError.{AdmissionError}
use Rattle.access_groups.specs.declared.admission.AdmissionError.TheVariants.{Denied, Memory}
use Rattle.access_groups.specs.declared.admission.SourceDenial.{SourceDenial}
use Rattle.access_groups.specs.declared.admission.SourceDenial.TheVariants as sources
use Rattle.access_groups.specs.declared.party.Party.{Party}

infixl 10 ◌>>=◌
-- what is answered next; the first denial stays
abbrev pub ◌>>=◌ : {A B : Type 0} → Result A Denial → (A → Result B Denial) → Result B Denial
(Ok x) >>= f = f x
(Err denial) >>= f = Err denial

-- the value, and this denial where there is none
abbrev pub given : {A : Type 0} → Denial → Option A → Result A Denial
given denial None = Err denial
given denial (Some x) = Ok x

-- ---- who it is

-- named accounts are numbered from 1; 0 is the account of all who give no credentials
abbrev pub party : ℕ → ℕ → Party
party account group = record { account = account; group = group }

abbrev pub anonymous_party : Option Anonymous → Result Party Denial
anonymous_party None = Err NoAccount
anonymous_party (Some a) = Ok (party 0 a.group)

-- the account at this place of the list, with all bytes of its password
abbrev pub account_party : ℕ → List ℕ → Option Account → Result Party Denial
account_party place password None = Err NoAccount
account_party place password (Some a) =
    if bytes_eq a.password password then Ok (party (place + 1) a.group)
    else Err (Password (place + 1))

-- credentials that cannot be read name no account
abbrev pub party_of : Config → Auth → Result Party Denial
party_of c Unread = Err NoAccount
party_of c auths.None = anonymous_party c.anonymous
party_of c (Basic user password) =
    given NoAccount (place_of (user_names c.account) user)
    >>= (λ place. account_party place password (slice_get c.account place))

-- ---- what a group may hear

-- whether the group of this number lists the mountpoint or near mountpoint of that number
abbrev pub hears : Config → ℕ → ℕ → Bool
hears c group n = lists (slice_get c.group group) n

abbrev pub bases_of : Option Near → List ℕ
bases_of None = []
bases_of (Some near) = near.bases

-- the numbers of near mountpoints go on after those of the mountpoints
abbrev pub is_near : Config → ℕ → Bool
is_near c n = not (nat_lt n (length c.mount))

-- a mountpoint itself; of a near mountpoint those bases that the group lists, in its order
abbrev pub heard_bases : Config → ℕ → ℕ → List ℕ
heard_bases c group n =
    if is_near c n
    then filter (hears c group) (bases_of (slice_get c.near (n - length c.mount)))
    else n ∷ []

-- what is given, unless nothing is left of the bases
abbrev pub admission_of : Config → Party → ℕ → List ℕ → Result Admission Denial
admission_of c p n [] = Err (NotListed p.group)
admission_of c p n (base ∷ more) =
    Ok (record { account = p.account; group = p.group; near = is_near c n; bases = base ∷ more })

-- the group lists the name, and something is left of its bases
abbrev pub admission_in : Config → ℕ → Party → Result Admission Denial
admission_in c n p =
    if hears c p.group n then admission_of c p n (heard_bases c p.group n)
    else Err (NotListed p.group)

-- ---- in this order: the name, the account, the password, the group

unfoldable pub admission : Config → Auth → List ℕ → Result Admission Denial
admission c auth name = do
  n ← given NoMount (place_of (heard_names c.mount c.near) name)
  p ← party_of c auth
  admission_in c n p

-- a call answered this, unless memory ran out
abbrev pub Gives : Result Admission AdmissionError → Result Admission Denial → Type 0
Gives (Ok a) answer = answer ≡ Ok a
Gives (Err (Denied denial)) answer = answer ≡ Err denial
Gives (Err Memory) answer = ⊤

-- ---- sources

abbrev pub source_at : ℕ → List ℕ → Option Mount → Result ℕ SourceDenial
source_at n password None = Err sources.NoMount
source_at n password (Some m) =
    if bytes_eq m.password password then Ok n else Err sources.Password

abbrev pub source_of : Config → List ℕ → Option ℕ → Result ℕ SourceDenial
source_of c password None = Err sources.NoMount
source_of c password (Some n) = source_at n password (slice_get c.mount n)

-- in this order: the name of a mountpoint, its password. A near mountpoint has no source
unfoldable pub source_admission : Config → List ℕ → List ℕ → Result ℕ SourceDenial
source_admission c name password = source_of c password (place_of (mount_names c.mount) name)
