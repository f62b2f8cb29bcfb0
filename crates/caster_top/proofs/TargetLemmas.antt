-- Groups of five words are just the words of the targets that are read from them.
use Rattle.std.proofs.Common.{◌≡◌, ◌≢◌, ℕ, suc, zero, ◌*◌, ◌≤◌, ◌⊎◌, true, false, ◌&&◌, Bool, List, [], ◌∷◌, ◌++◌, length, codes, Option, None, Some, IfSome, inl, inr, refl, ap, sym, subst, ◌∙◌, arith}
use Rattle.std.proofs.lemmas.Bool.{and_parts, cases_Bool}
use Rattle.std.proofs.lemmas.Fmt.{decimal_digit}
use Rattle.std.proofs.lemmas.List.Elements.{All-cons, All-head, All-nil, All-tail}
use Rattle.std.proofs.lemmas.Slice.Eq.{bytes_eq-Decides}
use Rattle.std.specs.Fmt.{decimal}
use Rattle.std.specs.List.{All, flat_map}
use Rattle.std.specs.Str.{bytes_eq}
use Rattle.cast_text.specs.Name.{is_name}
use Rattle.ntrip_fetch.specs.declared.target.Target.{Target}
use Rattle.caster_top.specs.Command.{IsTarget, IsUser, are_targets, is_address, is_password, is_protocol, is_target, protocol_of, target_of, target_words, targets_of, user_of, user_word}

-- ---- the words of one target

one_or_two : (n : ℕ) → 1 ≤ n → n ≤ 2 → (n ≡ 1) ⊎ (n ≡ 2)
one_or_two zero least most = absurd (omega (arith, least))
one_or_two (suc zero) least most = inl refl
one_or_two (suc (suc zero)) least most = inr refl
one_or_two (suc (suc (suc n))) least most = absurd (omega (arith, most))

one_text : decimal 1 ≡ codes "1"
one_text = decimal_digit 1 (omega arith)

two_text : decimal 2 ≡ codes "2"
two_text = decimal_digit 2 (omega arith)

-- the word is the version of this number
abbrev IsRead : ℕ → List ℕ → Type 0
IsRead n word = (is_protocol word ≡ true) × (protocol_of word ≡ n)

one_read : IsRead 1 (codes "1")
one_read = (refl, refl)

two_read : IsRead 2 (codes "2")
two_read = (refl, refl)

protocol_read : (n : ℕ) → 1 ≤ n → n ≤ 2 → IsRead n (decimal n)
protocol_read n least most = elim (one_or_two n least most) [
  | inl one ↦ subst (λ (m : ℕ). IsRead m (decimal m)) (sym one) (subst (λ w. IsRead 1 w) (sym one_text) one_read)
  | inr two ↦ subst (λ (m : ℕ). IsRead m (decimal m)) (sym two) (subst (λ w. IsRead 2 w) (sym two_text) two_read)
]

user_read : (user : Option (List ℕ)) → IfSome user IsUser
    → (is_name (user_word user) ≡ true) × (user_of (user_word user) ≡ user)
user_read None is = (refl, refl)
user_read (Some user) is = elim (cases_Bool (bytes_eq user (codes "-"))) [
  | inl same ↦ absurd (is.1 ((bytes_eq-Decides user (codes "-")).0 same))
  | inr other ↦ (is.0, rw other refl)
]

both : (a b : Bool) → a ≡ true → b ≡ true → (a && b) ≡ true
both a b first second = rw (first, second) refl

read_all : (target : Target) → IsTarget target
    → is_target (decimal target.protocol) target.address target.mount (user_word target.user) target.password ≡ true
read_all target is =
    let protocol = (protocol_read target.protocol is.protocol_is.0 is.protocol_is.1).0 in
    let address : is_address target.address ≡ true = is.address_is in
    let mount : is_name target.mount ≡ true = is.mount_is in
    let user = (user_read target.user is.user_is).0 in
    let password : is_password target.password ≡ true = is.password_is in
    rw (protocol, address, mount, user, password) refl

same_target : (target : Target) (protocol : ℕ) (user : Option (List ℕ)) → protocol ≡ target.protocol
    → user ≡ target.user
    → record {
      protocol = protocol;
      address = target.address;
      mount = target.mount;
      user = user;
      password = target.password;
    } ≡ target
same_target target protocol user first second = rw (first, second) refl

read_back : (target : Target) → IsTarget target
    → target_of (decimal target.protocol) target.address target.mount (user_word target.user) target.password ≡ target
read_back target is =
    same_target target (protocol_of (decimal target.protocol)) (user_of (user_word target.user))
    (protocol_read target.protocol is.protocol_is.0 is.protocol_is.1).1 (user_read target.user is.user_is).1

-- ---- and of many

pub targets_are : (targets : List Target) → All IsTarget targets → are_targets (flat_map target_words targets) ≡ true
targets_are [] each = refl
targets_are (target ∷ more) each =
    both (is_target (decimal target.protocol) target.address target.mount (user_word target.user) target.password)
    (are_targets (flat_map target_words more)) (read_all target (All-head IsTarget target more each))
    (targets_are more (All-tail IsTarget target more each))

pub targets_read : (targets : List Target) → All IsTarget targets → targets_of (flat_map target_words targets) ≡ targets
targets_read [] each = refl
targets_read (target ∷ more) each =
    ap (λ (t : Target). t ∷ targets_of (flat_map target_words more))
    (read_back target (All-head IsTarget target more each))
    ∙ ap (λ (ts : List Target). target ∷ ts) (targets_read more (All-tail IsTarget target more each))

pub targets_length : (targets : List Target) → length (flat_map target_words targets) ≡ length targets * 5
targets_length [] = refl
targets_length (target ∷ more) =
    let rest = targets_length more in
    omega (arith, rest)

-- ---- back

protocol_word : (word : List ℕ) → is_protocol word ≡ true
    → ((1 ≤ protocol_of word) × (protocol_of word ≤ 2)) × (decimal (protocol_of word) ≡ word)
protocol_word word is = elim (cases_Bool (bytes_eq word (codes "2"))) [
  | inl two ↦
      let text : word ≡ codes "2" = (bytes_eq-Decides word (codes "2")).0 two in
      subst (λ (w : List ℕ). ((1 ≤ protocol_of w) × (protocol_of w ≤ 2)) × (decimal (protocol_of w) ≡ w)) (sym text)
      ((omega arith, omega arith), two_text)
  | inr other ↦ elim (cases_Bool (bytes_eq word (codes "1"))) [
    | inl one ↦
        let text : word ≡ codes "1" = (bytes_eq-Decides word (codes "1")).0 one in
        subst (λ (w : List ℕ). ((1 ≤ protocol_of w) × (protocol_of w ≤ 2)) × (decimal (protocol_of w) ≡ w)) (sym text)
        ((omega arith, omega arith), one_text)
    | inr third ↦
        let none : is_protocol word ≡ false = rw (other, third) refl in
        absurd cc
  ]
]

user_is_word : (word : List ℕ) → is_name word ≡ true
    → IfSome (user_of word) IsUser × (user_word (user_of word) ≡ word)
user_is_word word is = elim (cases_Bool (bytes_eq word (codes "-"))) [
  | inl none ↦
      let text : word ≡ codes "-" = (bytes_eq-Decides word (codes "-")).0 none in
      subst (λ (w : List ℕ). IfSome (user_of w) IsUser × (user_word (user_of w) ≡ w)) (sym text) (tt, refl)
  | inr some ↦
      let read : user_of word ≡ Some word = rw some refl in
      let other : word ≢ codes "-" =
      λ same. let yes = (bytes_eq-Decides word (codes "-")).1 same in absurd cc in
      subst (λ (u : Option (List ℕ)). IfSome u IsUser × (user_word u ≡ word)) (sym read) ((is, other), refl)
]

record AreFive (protocol address mount user password : List ℕ) : Type 0 where
  protocol_is : is_protocol protocol ≡ true
  address_is : is_address address ≡ true
  mount_is : is_name mount ≡ true
  user_is : is_name user ≡ true
  password_is : is_password password ≡ true

are_five : (protocol address mount user password : List ℕ) → is_target protocol address mount user password ≡ true
    → AreFive protocol address mount user password
are_five protocol address mount user password h =
    let a = and_parts (is_protocol protocol && is_address address && is_name mount && is_name user)
    (is_password password) h in
    let b = and_parts (is_protocol protocol && is_address address && is_name mount) (is_name user) a.0 in
    let c = and_parts (is_protocol protocol && is_address address) (is_name mount) b.0 in
    let d = and_parts (is_protocol protocol) (is_address address) c.0 in
    record { protocol_is = d.0; address_is = d.1; mount_is = c.1; user_is = b.1; password_is = a.1 }

named : (protocol address mount user password : List ℕ) → AreFive protocol address mount user password
    → IsTarget (target_of protocol address mount user password)
named protocol address mount user password are = record {
  protocol_is = (protocol_word protocol are.protocol_is).0;
  address_is = are.address_is;
  mount_is = are.mount_is;
  user_is = (user_is_word user are.user_is).0;
  password_is = are.password_is;
}

pub targets_each : (words : List (List ℕ)) → are_targets words ≡ true → All IsTarget (targets_of words)
targets_each [] h = All-nil IsTarget
targets_each (a ∷ []) h = absurd cc
targets_each (a ∷ b ∷ []) h = absurd cc
targets_each (a ∷ b ∷ c ∷ []) h = absurd cc
targets_each (a ∷ b ∷ c ∷ d ∷ []) h = absurd cc
targets_each (a ∷ b ∷ c ∷ d ∷ e ∷ more) h =
    let parts = and_parts (is_target a b c d e) (are_targets more) h in
    All-cons IsTarget (target_of a b c d e) (targets_of more) (named a b c d e (are_five a b c d e parts.0))
    (targets_each more parts.1)

words_of_five : (a b c d e : List ℕ) → AreFive a b c d e
    → decimal (protocol_of a) ∷ b ∷ c ∷ user_word (user_of d) ∷ e ∷ [] ≡ a ∷ b ∷ c ∷ d ∷ e ∷ []
words_of_five a b c d e are =
    let protocol = (protocol_word a are.protocol_is).1 in
    let user = (user_is_word d are.user_is).1 in
    ap (λ w. w ∷ b ∷ c ∷ user_word (user_of d) ∷ e ∷ []) protocol ∙ ap (λ w. a ∷ b ∷ c ∷ w ∷ e ∷ []) user

pub targets_said : (words : List (List ℕ)) → are_targets words ≡ true → flat_map target_words (targets_of words) ≡ words
targets_said [] h = refl
targets_said (a ∷ []) h = absurd cc
targets_said (a ∷ b ∷ []) h = absurd cc
targets_said (a ∷ b ∷ c ∷ []) h = absurd cc
targets_said (a ∷ b ∷ c ∷ d ∷ []) h = absurd cc
targets_said (a ∷ b ∷ c ∷ d ∷ e ∷ more) h =
    let parts = and_parts (is_target a b c d e) (are_targets more) h in
    ap (λ (ws : List (List ℕ)). ws ++ flat_map target_words (targets_of more))
    (words_of_five a b c d e (are_five a b c d e parts.0))
    ∙ ap (λ (ws : List (List ℕ)). a ∷ b ∷ c ∷ d ∷ e ∷ ws) (targets_said more parts.1)

-- there are as many targets as groups
pub targets_count : (words : List (List ℕ)) → are_targets words ≡ true → length (targets_of words) * 5 ≡ length words
targets_count words h = sym (targets_length (targets_of words)) ∙ ap length (targets_said words h)
