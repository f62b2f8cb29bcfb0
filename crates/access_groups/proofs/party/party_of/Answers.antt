use Rattle.std.proofs.Common.{rules, ◌≡◌, ◌∙◌, ℕ, true, false, List, Some, length, refl, sym, ap, subst}
use Rattle.std.specs.Prelude.{slice_get}
use Rattle.std.proofs.lemmas.Option.{slice_get_read}
use Rattle.std.specs.Str.{bytes_eq}
use Rattle.ntrip_head.specs.declared.request.Auth.TheVariants.{Basic}
use Rattle.cast_config.specs.declared.config.Config.{Config}
use Rattle.cast_config.specs.declared.config.Account.{Account}
use Rattle.cast_config.specs.Names.{user_names, place_of}
use Rattle.access_groups.specs.Admission.{account_party, party_of}
use Rattle.access_groups.proofs.party.party_of.Goals as goal

-- an account with this name is found
named_is : (c : Config) (user password : List ℕ) (place : ℕ) (a : Account)
    → place_of (user_names c.account) user ≡ Some place → slice_get c.account place ≡ Some a
    → account_party place password (Some a) ≡ party_of c (Basic user password)
named_is c user password place a at here =
    ap (account_party place password) (sym here) ∙ sym (rw at refl)

pub returns-in_default : goal.returns-in_default
returns-in_default c = rw c.in-Basic.is (search rules)

pub returns-then-is_password : goal.returns-then-is_password
returns-then-is_password c =
    let a : Account = c.index-accounts-place.result in
    let at : place_of (user_names c.args.config.now.account) c.in-Basic.user ≡ Some c.in-Some.place = search rules in
    let here : slice_get c.args.config.now.account c.in-Some.place ≡ Some a =
    subst (λ (l : List Account). slice_get l c.in-Some.place ≡ Some a) c.as_slice-accounts.ensures
    (slice_get_read c.as_slice-accounts.result.now (length c.as_slice-accounts.result.now) c.in-Some.place a refl
    c.in-Some.ensures.within c.index-accounts-place.is) in
    let same : bytes_eq a.password c.in-Basic.password ≡ true = search rules in
    rw c.in-Basic.is (rw same at (named_is c.args.config.now c.in-Basic.user c.in-Basic.password c.in-Some.place a at here))

pub returns-else-is_password : goal.returns-else-is_password
returns-else-is_password c =
    let a : Account = c.index-accounts-place.result in
    let at : place_of (user_names c.args.config.now.account) c.in-Basic.user ≡ Some c.in-Some.place = search rules in
    let here : slice_get c.args.config.now.account c.in-Some.place ≡ Some a =
    subst (λ (l : List Account). slice_get l c.in-Some.place ≡ Some a) c.as_slice-accounts.ensures
    (slice_get_read c.as_slice-accounts.result.now (length c.as_slice-accounts.result.now) c.in-Some.place a refl
    c.in-Some.ensures.within c.index-accounts-place.is) in
    let same : bytes_eq a.password c.in-Basic.password ≡ false = search rules in
    rw c.in-Basic.is (rw same at (named_is c.args.config.now c.in-Basic.user c.in-Basic.password c.in-Some.place a at here))
