-- The words of a form are those that are read as it.
use Rattle.std.proofs.Common.{◌≡◌, ◌==◌, ℕ, suc, zero, ◌-◌, ◌^◌, ◌*◌, ◌<◌, ◌≤◌, ◌⊎◌, true, false, not, ◌&&◌, List, [], ◌∷◌, String, string_bytes, length, get_or, take, drop, codes, Option, None, Some, IfSome, IfNone, option_map, Result, Ok, Err, inl, inr, refl, ap, sym, subst, ◌∙◌, arith, rules, nat_le}
use Rattle.std.proofs.lemmas.Bool.{and_parts, le-leb, cases_Bool}
use Rattle.std.proofs.lemmas.Bool.Decides.{nat_tests}
use Rattle.std.proofs.lemmas.Fmt.{decimal_digit, digits_decimal, digits_value-decimal, decimal_nonempty, first_decimal, decimal-digits_value}
use Rattle.std.proofs.lemmas.Str.Parse.{IsNumeralModel, numerals_by_fold, parse_digits}
use Rattle.std.proofs.lemmas.Slice.Eq.{bytes_eq-Decides}
use Rattle.std.specs.Fmt.{decimal}
use Rattle.std.specs.Str.{bytes_eq}
use Rattle.std.specs.Str.Parse.{ParsesUnsigned}
use Rattle.session_script.specs.Digits.{is_digit, is_number, number_from, number_of, at_most}
use Rattle.caster_top.specs.declared.command.ConfigCommand.{ConfigCommand}
use Rattle.caster_top.specs.declared.command.ConfigCommand.TheVariants.{Check, Table, Migrate}
use Rattle.caster_top.specs.declared.command.RoverStart.{RoverStart}
use Rattle.caster_top.specs.declared.command.RoverStart.TheVariants.{Cold, Warm}
use Rattle.caster_top.specs.declared.command.CasterMode.{CasterMode}
use Rattle.caster_top.specs.declared.command.CasterMode.TheVariants.{Serve, Record}
use Rattle.caster_top.specs.declared.command.Command.{Command}
use Rattle.caster_top.specs.declared.fetch_words.Fetch.{Fetch}
use Rattle.std.specs.Global.{Global}
use Rattle.std.specs.List.{All, flat_map, list_all}
use Rattle.ntrip_fetch.specs.declared.target.Target.{Target}
use Rattle.caster_top.specs.Command.{Form, bare, over, replay, made, casting, keeping, fetching, AreBare, AreOver, ArePlayed, AreMake, AreCasting, AreFetch, AreKeep, AreOf, AreOfNoForm, FetchNothing, IsTarget, aim_name, aim_of, are_few_targets, are_targets, fetching_form, is_path, form_of_two, form_of_three, seed_of, up_to, start_name, start_of, made_form, casting_form, task_name, task_of, most_of, form_of_four, form_of_caster, keeping_form, form_of_more, form_of, fetch_form, form, target_words, targets_of, texts}
use Rattle.caster_top.proofs.SliceLemmas.{two_words}
use Rattle.caster_top.proofs.TargetLemmas.{targets_are, targets_read, targets_length, targets_each, targets_said, targets_count}

-- what is read here as digits and as a number is what std reads and writes
own : IsNumeralModel (λ ds. list_all is_digit ds ≡ true) (number_from 0)
own = numerals_by_fold _ (search rules) number_from (search rules)

-- ---- numbers

-- what makes a text a number: it is not empty, does not begin with `0`, and has digits alone
number_parts : (t : List ℕ) → is_number t ≡ true
    → (nat_le 1 (length t) ≡ true) × (not (get_or t 0 0 == 48) ≡ true) × (list_all is_digit t ≡ true)
number_parts t h =
    let outer = and_parts (nat_le 1 (length t) && not (get_or t 0 0 == 48)) (list_all is_digit t) h in
    let inner = and_parts (nat_le 1 (length t)) (not (get_or t 0 0 == 48)) outer.0 in
    (inner.0, inner.1, outer.1)

is_number-first : (t : List ℕ) → 0 < length t → (get_or t 0 0 ≡ 48 → ⊥) → is_number t ≡ list_all is_digit t
is_number-first t some other =
    let least : nat_le 1 (length t) ≡ true = grind (arith, nat_tests, some) in
    let first : (get_or t 0 0 == 48) ≡ false = grind (arith, nat_tests, other) in
    rw (least, first) refl

number_digits : (t : List ℕ) → is_number t ≡ true → list_all is_digit t ≡ true
number_digits t h = (number_parts t h).2

number_some : (t : List ℕ) → is_number t ≡ true → 0 < length t
number_some t h = let least = (number_parts t h).0 in grind (arith, nat_tests, least)

number_first : (t : List ℕ) → is_number t ≡ true → get_or t 0 0 ≡ 48 → ⊥
number_first t h nought =
    let other = (number_parts t h).1 in
    let first : (get_or t 0 0 == 48) ≡ true = grind (arith, nat_tests, nought) in
    absurd cc

number_of-number : (t : List ℕ) → is_number t ≡ true → number_of t ≡ Some (number_from 0 t)
number_of-number t h = rw h refl

pub number_of-decimal : (n : ℕ) → 0 < n → n < 2 ^ 64 → number_of (decimal n) ≡ Some n
number_of-decimal n some small =
    let digits = digits_decimal own n small in
    let first = first_decimal n some small in
    let is : is_number (decimal n) ≡ true =
    is_number-first (decimal n) (decimal_nonempty n small) (λ e. omega (arith, first, e)) ∙ digits in
    number_of-number (decimal n) is ∙ ap (λ v. Some v) (digits_value-decimal own n small)

at_most-within : (limit n : ℕ) → n ≤ limit → at_most limit (Some n) ≡ Some n
at_most-within limit n h = let e : nat_le n limit ≡ true = le-leb n limit h in rw e refl

at_most-above : (limit n : ℕ) → (n ≤ limit → ⊥) → at_most limit (Some n) ≡ None
at_most-above limit n h = let e : nat_le n limit ≡ false = grind (arith, nat_tests, h) in rw e refl

-- ---- what `parse` gives of a number

pub number_read : {E : Type 0} (limit : ℕ) (t : List ℕ) (r : Result ℕ E) (n : ℕ) → is_number t ≡ true
    → ParsesUnsigned 32 10 t r → r ≡ Ok n → n ≤ limit → Some n ≡ at_most limit (number_of t)
number_read limit t r n h parsed is within =
    let told = rw is at (parse_digits own 32 t r parsed (number_digits t h)) in
    let value : n ≡ number_from 0 t = told.1 in
    let small : number_from 0 t ≤ limit = omega (arith, value, within) in
    sym (ap (λ v. at_most limit v) (number_of-number t h) ∙ at_most-within limit (number_from 0 t) small
    ∙ ap (λ v. Some v) (sym value))

pub number_above : {E : Type 0} (limit : ℕ) (t : List ℕ) (r : Result ℕ E) (n : ℕ) → is_number t ≡ true
    → ParsesUnsigned 32 10 t r → r ≡ Ok n → limit < n → None ≡ at_most limit (number_of t)
number_above limit t r n h parsed is above =
    let told = rw is at (parse_digits own 32 t r parsed (number_digits t h)) in
    let value : n ≡ number_from 0 t = told.1 in
    sym (ap (λ v. at_most limit v) (number_of-number t h)
    ∙ at_most-above limit (number_from 0 t) (λ small. omega (arith, value, small, above)))

pub number_overflown : {E : Type 0} (limit : ℕ) (t : List ℕ) (r : Result ℕ E) (e : E) → limit < 2 ^ 32
    → is_number t ≡ true → ParsesUnsigned 32 10 t r → r ≡ Err e → None ≡ at_most limit (number_of t)
number_overflown limit t r e few h parsed is =
    let told = rw is at (parse_digits own 32 t r parsed (number_digits t h)) in
    sym (ap (λ v. at_most limit v) (number_of-number t h)
    ∙ at_most-above limit (number_from 0 t)
    (λ small. let below : number_from 0 t < 2 ^ 32 = omega (arith, small, few) in told (number_some t h, below)))

pub seed_read : {E : Type 0} (t : List ℕ) (r : Result ℕ E) (n : ℕ) → is_number t ≡ true
    → ParsesUnsigned 64 10 t r → r ≡ Ok n → Some n ≡ at_most (2 ^ 64 - 1) (number_of t)
seed_read t r n h parsed is =
    let told = rw is at (parse_digits own 64 t r parsed (number_digits t h)) in
    let value : n ≡ number_from 0 t = told.1 in
    let below : number_from 0 t < 2 ^ 64 = told.0.1 in
    let small : number_from 0 t ≤ 2 ^ 64 - 1 = omega (arith, below) in
    sym (ap (λ v. at_most (2 ^ 64 - 1) v) (number_of-number t h)
    ∙ at_most-within (2 ^ 64 - 1) (number_from 0 t) small ∙ ap (λ v. Some v) (sym value))

pub seed_overflown : {E : Type 0} (t : List ℕ) (r : Result ℕ E) (e : E) → is_number t ≡ true
    → ParsesUnsigned 64 10 t r → r ≡ Err e → None ≡ at_most (2 ^ 64 - 1) (number_of t)
seed_overflown t r e h parsed is =
    let told = rw is at (parse_digits own 64 t r parsed (number_digits t h)) in
    sym (ap (λ v. at_most (2 ^ 64 - 1) v) (number_of-number t h)
    ∙ at_most-above (2 ^ 64 - 1) (number_from 0 t)
    (λ small. let below : number_from 0 t < 2 ^ 64 = omega (arith, small) in told (number_some t h, below)))

-- ---- the words

at_most-some : (limit v n : ℕ) → at_most limit (Some v) ≡ Some n → (v ≡ n) × (v ≤ limit)
at_most-some limit v n h = elim (cases_Bool (nat_le v limit)) [
  | inl small ↦
      let within : v ≤ limit = grind (arith, nat_tests, small) in
      let e = at_most-within limit v within in
      let same : v ≡ n = cc in
      (same, within)
  | inr above ↦
      let e : at_most limit (Some v) ≡ None = rw above refl in
      absurd cc
]

-- what is read as a number within a limit is a number, and that one
at_most-number : (limit : ℕ) (t : List ℕ) (n : ℕ) → at_most limit (number_of t) ≡ Some n
    → (is_number t ≡ true) × (number_from 0 t ≡ n) × (number_from 0 t ≤ limit)
at_most-number limit t n h = elim (cases_Bool (is_number t)) [
  | inl is ↦
      let read = at_most-some limit (number_from 0 t) n (ap (λ v. at_most limit v) (sym (number_of-number t is)) ∙ h) in
      (is, read.0, read.1)
  | inr other ↦
      let e : at_most limit (number_of t) ≡ None = rw other refl in
      absurd cc
]

-- a number is the decimal text of what it is read as
decimal-number : (t : List ℕ) → is_number t ≡ true → number_from 0 t < 2 ^ 64 → decimal (number_from 0 t) ≡ t
decimal-number t is small =
    decimal-digits_value own t (number_digits t is) (number_some t is) (λ nought. absurd (number_first t is nought))
    small

zero_or_more : (n : ℕ) → (n ≡ 0) ⊎ (1 ≤ n)
zero_or_more zero = inl refl
zero_or_more (suc n) = inr (omega arith)

-- a number is not 0
number_from-positive : (t : List ℕ) → is_number t ≡ true → number_from 0 t < 2 ^ 64 → 1 ≤ number_from 0 t
number_from-positive t is small = elim (zero_or_more (number_from 0 t)) [
  | inl nought ↦
      let text = ap decimal (sym nought) ∙ decimal-number t is small in
      absurd (number_first t is (ap (λ ds. get_or ds 0 0) (sym text ∙ decimal_digit 0 (omega arith))))
  | inr more ↦ more
]

-- a word that is read as a number within a limit is its decimal text
record IsDecimal (limit : ℕ) (word : List ℕ) (n : ℕ) : Type 0 where
  least : 1 ≤ n
  most : n ≤ limit
  text : word ≡ decimal n

read_decimal : (limit : ℕ) (word : List ℕ) (n : ℕ) → limit < 2 ^ 64 → at_most limit (number_of word) ≡ Some n
    → IsDecimal limit word n
read_decimal limit word n few h =
    let read = at_most-number limit word n h in
    let small : number_from 0 word < 2 ^ 64 = omega (arith, few, read.2) in
    record {
      least = subst (λ n. 1 ≤ n) read.1 (number_from-positive word read.0 small);
      most = subst (λ n. n ≤ limit) read.1 read.2;
      text = sym (decimal-number word read.0 small) ∙ ap decimal read.1;
    }

decimal_read : (limit n : ℕ) → 1 ≤ n → n ≤ limit → limit < 2 ^ 64 → at_most limit (number_of (decimal n)) ≡ Some n
decimal_read limit n least most few =
    let some : 0 < n = omega (arith, least) in
    let small : n < 2 ^ 64 = omega (arith, most, few) in
    ap (λ v. at_most limit v) (number_of-decimal n some small) ∙ at_most-within limit n most

form_of-bare : (words : List (List ℕ)) (capacity : ℕ) → AreBare words capacity
    → form_of words ≡ Some (bare capacity)
form_of-bare words capacity are =
    ap form_of are.parts
    ∙ ap (λ v. option_map bare v) (decimal_read 4096 capacity are.least are.most (omega arith))

-- ---- a name and a path

pub name_is : (name text : List ℕ) → bytes_eq name text ≡ true → name ≡ text
name_is name text h = (bytes_eq-Decides name text).0 h

pub is_path-true : (word : List ℕ) → 1 ≤ length word → length word ≤ 255 → is_path word ≡ true
is_path-true word least most =
    let some : nat_le 1 (length word) ≡ true = le-leb 1 (length word) least in
    let few : nat_le (length word) 255 ≡ true = le-leb (length word) 255 most in
    rw (some, few) refl

is_path-parts : (word : List ℕ) → is_path word ≡ true → (1 ≤ length word) × (length word ≤ 255)
is_path-parts word h =
    let parts = and_parts (nat_le 1 (length word)) (nat_le (length word) 255) h in
    let some = parts.0 in
    let few = parts.1 in
    (grind (arith, nat_tests, some), grind (arith, nat_tests, few))

form_of_two-over : (aim : ConfigCommand) (config : List ℕ) → is_path config ≡ true
    → form_of_two (aim_name aim) config ≡ Some (over aim config)
form_of_two-over Check config h = rw h refl
form_of_two-over Table config h = rw h refl
form_of_two-over Migrate config h = rw h refl

-- ---- two paths, and three numbers

form_of_three-replay : (start : RoverStart) (config session : List ℕ) → is_path config ≡ true → is_path session ≡ true
    → form_of_three (start_name start) config session ≡ Some (replay start config session)
form_of_three-replay Cold config session first second = rw (first, second) refl
form_of_three-replay Warm config session first second = rw (first, second) refl

form_of-replay : (words : List (List ℕ)) (start : RoverStart) (config session : List ℕ)
    → ArePlayed start words config session → form_of words ≡ Some (replay start config session)
form_of-replay words start config session are =
    let first : is_path config ≡ true = is_path-true config are.config_is.0 are.config_is.1 in
    let second : is_path session ≡ true = is_path-true session are.session_is.0 are.session_is.1 in
    ap form_of are.parts ∙ form_of_three-replay start config session first second

-- the text of a seed that is not 0 is not that of 0
not_nought : (n : ℕ) → 1 ≤ n → n < 2 ^ 64 → bytes_eq (decimal n) (codes "0") ≡ false
not_nought n least small = elim (cases_Bool (bytes_eq (decimal n) (codes "0"))) [
  | inl same ↦
      let first = first_decimal n (omega (arith, least)) small in
      let text : decimal n ≡ codes "0" = name_is (decimal n) (codes "0") same in
      let nought : get_or (decimal n) 0 0 ≡ 48 = ap (λ ds. get_or ds 0 0) text in
      absurd (omega (arith, first, nought))
  | inr other ↦ other
]

nought_text : decimal 0 ≡ codes "0"
nought_text = decimal_digit 0 (omega arith)

nought_read : (most : ℕ) → up_to most (codes "0") ≡ Some 0
nought_read most = refl

pub up_to-decimal : (most n : ℕ) → n ≤ most → most < 2 ^ 64 → up_to most (decimal n) ≡ Some n
up_to-decimal most n within small = elim (zero_or_more n) [
  | inl nought ↦
      subst (λ (m : ℕ). up_to most (decimal m) ≡ Some m) (sym nought) (ap (up_to most) nought_text ∙ nought_read most)
  | inr more ↦
      let other = not_nought n more (omega (arith, within, small)) in
      let e : up_to most (decimal n) ≡ at_most most (number_of (decimal n)) = rw other refl in
      e ∙ decimal_read most n more within small
]

seed_of-decimal : (n : ℕ) → n < 2 ^ 64 → seed_of (decimal n) ≡ Some n
seed_of-decimal n small = up_to-decimal (2 ^ 64 - 1) n (omega (arith, small)) (omega arith)

made_form-all : (seed frames rovers : Option ℕ) (s f r : ℕ) → seed ≡ Some s → frames ≡ Some f → rovers ≡ Some r
    → made_form seed frames rovers ≡ Some (made s f r)
made_form-all seed frames rovers s f r first second third = rw (first, second, third) refl

form_of-make : (words : List (List ℕ)) (seed frames rovers : ℕ) → AreMake words seed frames rovers
    → form_of words ≡ Some (made seed frames rovers)
form_of-make words seed frames rovers are =
    ap form_of are.parts
    ∙ made_form-all (seed_of (decimal seed)) (at_most 10000 (number_of (decimal frames)))
    (at_most 64 (number_of (decimal rovers))) seed frames rovers (seed_of-decimal seed are.seed_is)
    (decimal_read 10000 frames are.frames_are.0 are.frames_are.1 (omega arith))
    (decimal_read 64 rovers are.rovers_are.0 are.rovers_are.1 (omega arith))

form_of_four-cast : (task : CasterMode) (config addr limit : List ℕ) → is_path config ≡ true → is_path addr ≡ true
    → form_of_four (task_name task) config addr limit ≡ casting_form (Some task) config addr limit
form_of_four-cast Serve config addr limit first second = rw (first, second) refl
form_of_four-cast Record config addr limit first second = rw (first, second) refl

most_small : (task : CasterMode) → most_of task < 2 ^ 64
most_small Serve = omega arith
most_small Record = omega arith

form_of-cast : (words : List (List ℕ)) (task : CasterMode) (config addr : List ℕ) (limit : ℕ)
    → AreCasting task words config addr limit → form_of words ≡ Some (casting task config addr limit)
form_of-cast words task config addr limit are =
    ap form_of are.parts
    ∙ form_of_four-cast task config addr (decimal limit) (is_path-true config are.config_is.0 are.config_is.1)
    (is_path-true addr are.addr_is.0 are.addr_is.1)
    ∙ ap (λ v. option_map (λ n. casting task config addr n) v)
    (decimal_read (most_of task) limit are.limit_is.0 are.limit_is.1 (most_small task))

form_of_four-keep : (config addr quiet : List ℕ) → is_path config ≡ true → is_path addr ≡ true
    → form_of_four (codes "keep") config addr quiet ≡ keeping_form config addr quiet
form_of_four-keep config addr quiet first second = rw (first, second) refl

form_of-keep : (words : List (List ℕ)) (config addr : List ℕ) (quiet : ℕ) → AreKeep words config addr quiet
    → form_of words ≡ Some (keeping config addr quiet)
form_of-keep words config addr quiet are =
    ap form_of are.parts
    ∙ form_of_four-keep config addr (decimal quiet) (is_path-true config are.config_is.0 are.config_is.1)
    (is_path-true addr are.addr_is.0 are.addr_is.1)
    ∙ ap (λ v. option_map (λ n. keeping config addr n) v) (up_to-decimal 86400 quiet are.quiet_is (omega arith))

-- ---- the words of a fetch

fetching_known : (first : List ℕ) (words : List (List ℕ)) (n : ℕ) (targets : List Target)
    → are_few_targets words ≡ true → at_most 1000000 (number_of first) ≡ Some n → targets_of words ≡ targets
    → fetching_form first words ≡ Some (fetching n targets)
fetching_known first words n targets few number read = rw (few, number, read) refl

few_true : (words : List (List ℕ)) → 1 ≤ length words → length words ≤ 40 → are_targets words ≡ true
    → are_few_targets words ≡ true
few_true words least most are =
    let some : nat_le 1 (length words) ≡ true = le-leb 1 (length words) least in
    let few : nat_le (length words) 40 ≡ true = le-leb (length words) 40 most in
    rw (some, few, are) refl

read_fetch : (frames : ℕ) (targets : List Target) → 1 ≤ frames → frames ≤ 1000000 → 1 ≤ length targets
    → length targets ≤ 8 → All IsTarget targets
    → fetching_form (decimal frames) (flat_map target_words targets) ≡ Some (fetching frames targets)
read_fetch frames targets least most some few each =
    let words = flat_map target_words targets in
    let count : length words ≡ length targets * 5 = targets_length targets in
    fetching_known (decimal frames) words frames targets
    (few_true words (omega (arith, count, some)) (omega (arith, count, few)) (targets_are targets each))
    (decimal_read 1000000 frames least most (omega arith)) (targets_read targets each)

fetch_words : (frames : ℕ) (targets : List Target) → 1 ≤ length targets
    → form_of (codes "fetch" ∷ decimal frames ∷ flat_map target_words targets)
    ≡ fetching_form (decimal frames) (flat_map target_words targets)
fetch_words frames [] some = absurd (omega (arith, some))
fetch_words frames (target ∷ more) some = refl

form_of-fetch : (words : List (List ℕ)) (frames : ℕ) (targets : List Target) → AreFetch words frames targets
    → form_of words ≡ Some (fetching frames targets)
form_of-fetch words frames targets are =
    ap form_of are.parts ∙ fetch_words frames targets are.count.0
    ∙ read_fetch frames targets are.frames_are.0 are.frames_are.1 are.count.0 are.count.1 are.each

pub form_of-form : (words : List (List ℕ)) (form : Form) → AreOf words form → form_of words ≡ Some form
form_of-form words (bare capacity) are = form_of-bare words capacity are
form_of-form words (over aim config) are =
    ap form_of are.parts ∙ form_of_two-over aim config (is_path-true config are.least are.most)
form_of-form words (replay start config session) are = form_of-replay words start config session are
form_of-form words (made seed frames rovers) are = form_of-make words seed frames rovers are
form_of-form words (casting task config addr limit) are = form_of-cast words task config addr limit are
form_of-form words (keeping config addr quiet) are = form_of-keep words config addr quiet are
form_of-form words (fetching frames targets) are = form_of-fetch words frames targets are

-- ---- back

aim_is : (a b : ConfigCommand) → Some a ≡ Some b → a ≡ b
aim_is a b h = cc

form_is : (a b : Form) → Some a ≡ Some b → a ≡ b
form_is a b h = cc

some_number : (a b : ℕ) → Some a ≡ Some b → a ≡ b
some_number a b h = cc

aim_of-name : (name : List ℕ) (aim : ConfigCommand) → aim_of name ≡ Some aim → name ≡ aim_name aim
aim_of-name name aim h = elim (cases_Bool (bytes_eq name (codes "check"))) [
  | inl check ↦
      name_is name (codes "check") check ∙ ap aim_name (aim_is Check aim (sym (rw check refl) ∙ h))
  | inr other ↦ elim (cases_Bool (bytes_eq name (codes "table"))) [
    | inl table_ ↦
        name_is name (codes "table") table_ ∙ ap aim_name (aim_is Table aim (sym (rw (other, table_) refl) ∙ h))
    | inr third ↦ elim (cases_Bool (bytes_eq name (codes "migrate"))) [
      | inl migrate ↦
          name_is name (codes "migrate") migrate
          ∙ ap aim_name (aim_is Migrate aim (sym (rw (other, third, migrate) refl) ∙ h))
      | inr none ↦
          let e : aim_of name ≡ None = rw (other, third, none) refl in
          absurd cc
    ]
  ]
]

start_is : (a b : RoverStart) → Some a ≡ Some b → a ≡ b
start_is a b h = cc

start_of-name : (name : List ℕ) (start : RoverStart) → start_of name ≡ Some start → name ≡ start_name start
start_of-name name start h = elim (cases_Bool (bytes_eq name (codes "replay"))) [
  | inl replays ↦
      name_is name (codes "replay") replays ∙ ap start_name (start_is Cold start (sym (rw replays refl) ∙ h))
  | inr other ↦ elim (cases_Bool (bytes_eq name (codes "warm"))) [
    | inl warms ↦
        name_is name (codes "warm") warms
        ∙ ap start_name (start_is Warm start (sym (rw (other, warms) refl) ∙ h))
    | inr none ↦
        let e : start_of name ≡ None = rw (other, none) refl in
        absurd cc
  ]
]

task_is : (a b : CasterMode) → Some a ≡ Some b → a ≡ b
task_is a b h = cc

task_of-name : (name : List ℕ) (task : CasterMode) → task_of name ≡ Some task → name ≡ task_name task
task_of-name name task h = elim (cases_Bool (bytes_eq name (codes "serve"))) [
  | inl serves ↦
      name_is name (codes "serve") serves ∙ ap task_name (task_is Serve task (sym (rw serves refl) ∙ h))
  | inr other ↦ elim (cases_Bool (bytes_eq name (codes "record"))) [
    | inl records ↦
        name_is name (codes "record") records
        ∙ ap task_name (task_is Record task (sym (rw (other, records) refl) ∙ h))
    | inr none ↦
        let e : task_of name ≡ None = rw (other, none) refl in
        absurd cc
  ]
]

mapped : {A B : Type 0} (f : A → B) (o : Option A) (b : B) → option_map f o ≡ Some b
    → (a : A) × (o ≡ Some a) × (f a ≡ b)
mapped f None b h = absurd cc
mapped f (Some a) b h = (a, refl, cc)

are_bare : (name word : List ℕ) (capacity : ℕ) → bytes_eq name (codes "bare") ≡ true
    → at_most 4096 (number_of word) ≡ Some capacity → AreBare (name ∷ word ∷ []) capacity
are_bare name word capacity same h =
    let read = read_decimal 4096 word capacity (omega arith) h in
    let first : name ≡ codes "bare" = name_is name (codes "bare") same in
    record {
      least = read.least;
      most = read.most;
      parts = ap (λ w. w ∷ word ∷ []) first ∙ ap (λ w. codes "bare" ∷ w ∷ []) read.text;
    }

are_over : (name word : List ℕ) (aim : ConfigCommand) → is_path word ≡ true → aim_of name ≡ Some aim
    → AreOver aim (name ∷ word ∷ []) word
are_over name word aim path h = record {
  least = (is_path-parts word path).0;
  most = (is_path-parts word path).1;
  parts = ap (λ w. w ∷ word ∷ []) (aim_of-name name aim h);
}

form_of_two-form : (name word : List ℕ) (form : Form) → form_of_two name word ≡ Some form
    → AreOf (name ∷ word ∷ []) form
form_of_two-form name word form h = elim (cases_Bool (bytes_eq name (codes "bare"))) [
  | inl same ↦
      let read = mapped bare (at_most 4096 (number_of word)) form (sym (rw same refl) ∙ h) in
      subst (λ f. AreOf (name ∷ word ∷ []) f) read.2 (are_bare name word read.0 same read.1)
  | inr other ↦ elim (cases_Bool (is_path word)) [
    | inl path ↦
        let read = mapped (λ aim. over aim word) (aim_of name) form (sym (rw (other, path) refl) ∙ h) in
        subst (λ f. AreOf (name ∷ word ∷ []) f) read.2 (are_over name word read.0 path read.1)
    | inr none ↦
        let e : form_of_two name word ≡ None = rw (other, none) refl in
        absurd cc
  ]
]

are_played : (name first second : List ℕ) (start : RoverStart) → start_of name ≡ Some start → is_path first ≡ true
    → is_path second ≡ true → ArePlayed start (name ∷ first ∷ second ∷ []) first second
are_played name first second start same one two = record {
  config_is = is_path-parts first one;
  session_is = is_path-parts second two;
  parts = ap (λ w. w ∷ first ∷ second ∷ []) (start_of-name name start same);
}

form_of_three-form : (name first second : List ℕ) (form : Form) → form_of_three name first second ≡ Some form
    → AreOf (name ∷ first ∷ second ∷ []) form
form_of_three-form name first second form h = elim (cases_Bool (is_path first && is_path second)) [
  | inl is ↦
      let paths = and_parts (is_path first) (is_path second) is in
      let read = mapped (λ start. replay start first second) (start_of name) form (sym (rw is refl) ∙ h) in
      subst (λ f. AreOf (name ∷ first ∷ second ∷ []) f) read.2
      (are_played name first second read.0 read.1 paths.0 paths.1)
  | inr other ↦
      let e : form_of_three name first second ≡ None = rw other refl in
      absurd cc
]

-- a word that is read as a number up to this one is its decimal text
read_up_to : (most : ℕ) (word : List ℕ) (n : ℕ) → most < 2 ^ 64 → up_to most word ≡ Some n
    → (n ≤ most) × (word ≡ decimal n)
read_up_to most word n small h = elim (cases_Bool (bytes_eq word (codes "0"))) [
  | inl nought ↦
      let none : 0 ≡ n = some_number 0 n (sym (rw nought refl) ∙ h) in
      let text : word ≡ decimal 0 = name_is word (codes "0") nought ∙ sym nought_text in
      (omega (arith, none), text ∙ ap decimal none)
  | inr other ↦
      let read = read_decimal most word n small (sym (rw other refl) ∙ h) in
      (read.most, read.text)
]

read_seed : (word : List ℕ) (n : ℕ) → seed_of word ≡ Some n → (n < 2 ^ 64) × (word ≡ decimal n)
read_seed word n h =
    let read = read_up_to (2 ^ 64 - 1) word n (omega arith) h in
    let within : n ≤ 2 ^ 64 - 1 = read.0 in
    (omega (arith, within), read.1)

record AreAll (seed frames rovers : Option ℕ) (form : Form) : Type 0 where
  s : ℕ
  f : ℕ
  r : ℕ
  seed_is : seed ≡ Some s
  frames_are : frames ≡ Some f
  rovers_are : rovers ≡ Some r
  same : made s f r ≡ form

all_made : (seed frames rovers : Option ℕ) (form : Form) → made_form seed frames rovers ≡ Some form
    → AreAll seed frames rovers form
all_made None frames rovers form h = absurd cc
all_made (Some s) None rovers form h = absurd cc
all_made (Some s) (Some f) None form h = absurd cc
all_made (Some s) (Some f) (Some r) form h = record {
  s = s;
  f = f;
  r = r;
  seed_is = refl;
  frames_are = refl;
  rovers_are = refl;
  same = form_is (made s f r) form h;
}

are_make : (name seed frames rovers : List ℕ) (s f r : ℕ) → bytes_eq name (codes "make") ≡ true
    → seed_of seed ≡ Some s → at_most 10000 (number_of frames) ≡ Some f → at_most 64 (number_of rovers) ≡ Some r
    → AreMake (name ∷ seed ∷ frames ∷ rovers ∷ []) s f r
are_make name seed frames rovers s f r same first second third =
    let named : name ≡ codes "make" = name_is name (codes "make") same in
    let one = read_seed seed s first in
    let two = read_decimal 10000 frames f (omega arith) second in
    let three = read_decimal 64 rovers r (omega arith) third in
    record {
      seed_is = one.0;
      frames_are = (two.least, two.most);
      rovers_are = (three.least, three.most);
      parts = ap (λ w. w ∷ seed ∷ frames ∷ rovers ∷ []) named
          ∙ ap (λ w. codes "make" ∷ w ∷ frames ∷ rovers ∷ []) one.1
          ∙ ap (λ w. codes "make" ∷ decimal s ∷ w ∷ rovers ∷ []) two.text
          ∙ ap (λ w. codes "make" ∷ decimal s ∷ decimal f ∷ w ∷ []) three.text;
    }

are_cast : (task : CasterMode) (name config addr limit : List ℕ) (n : ℕ) → name ≡ task_name task
    → (is_path config && is_path addr) ≡ true → at_most (most_of task) (number_of limit) ≡ Some n
    → AreCasting task (name ∷ config ∷ addr ∷ limit ∷ []) config addr n
are_cast task name config addr limit n named paths h =
    let both = and_parts (is_path config) (is_path addr) paths in
    let read = read_decimal (most_of task) limit n (most_small task) h in
    record {
      config_is = is_path-parts config both.0;
      addr_is = is_path-parts addr both.1;
      limit_is = (read.least, read.most);
      parts = ap (λ w. w ∷ config ∷ addr ∷ limit ∷ []) named
          ∙ ap (λ w. task_name task ∷ config ∷ addr ∷ w ∷ []) read.text;
    }

-- a caster's words, by the task that their first word names
cast_form : (name first second third : List ℕ) (task : Option CasterMode) (form : Form) → task_of name ≡ task
    → (is_path first && is_path second) ≡ true → casting_form task first second third ≡ Some form
    → AreOf (name ∷ first ∷ second ∷ third ∷ []) form
cast_form name first second third None form named paths h = absurd cc
cast_form name first second third (Some task) form named paths h =
    let read = mapped (λ n. casting task first second n) (at_most (most_of task) (number_of third)) form h in
    subst (λ f. AreOf (name ∷ first ∷ second ∷ third ∷ []) f) read.2
    (are_cast task name first second third read.0 (task_of-name name task named) paths read.1)

pub are_keep : (name config addr quiet : List ℕ) (n : ℕ) → bytes_eq name (codes "keep") ≡ true
    → (is_path config && is_path addr) ≡ true → up_to 86400 quiet ≡ Some n
    → AreKeep (name ∷ config ∷ addr ∷ quiet ∷ []) config addr n
are_keep name config addr quiet n same paths h =
    let named : name ≡ codes "keep" = name_is name (codes "keep") same in
    let both = and_parts (is_path config) (is_path addr) paths in
    let read = read_up_to 86400 quiet n (omega arith) h in
    record {
      config_is = is_path-parts config both.0;
      addr_is = is_path-parts addr both.1;
      quiet_is = read.0;
      parts = ap (λ w. w ∷ config ∷ addr ∷ quiet ∷ []) named
          ∙ ap (λ w. codes "keep" ∷ config ∷ addr ∷ w ∷ []) read.1;
    }

-- the words of a caster that keeps serving
pub keep_form_is : (name config addr quiet : List ℕ) (form : Form) → bytes_eq name (codes "keep") ≡ true
    → (is_path config && is_path addr) ≡ true → keeping_form config addr quiet ≡ Some form
    → AreOf (name ∷ config ∷ addr ∷ quiet ∷ []) form
keep_form_is name config addr quiet form same paths h =
    let read = mapped (λ n. keeping config addr n) (up_to 86400 quiet) form h in
    subst (λ f. AreOf (name ∷ config ∷ addr ∷ quiet ∷ []) f) read.2
    (are_keep name config addr quiet read.0 same paths read.1)

-- a caster's words, by their name
form_of_caster-form : (name first second third : List ℕ) (form : Form) → (is_path first && is_path second) ≡ true
    → form_of_caster name first second third ≡ Some form → AreOf (name ∷ first ∷ second ∷ third ∷ []) form
form_of_caster-form name first second third form is h = elim (cases_Bool (bytes_eq name (codes "keep"))) [
  | inl same ↦ keep_form_is name first second third form same is (sym (rw same refl) ∙ h)
  | inr other ↦ cast_form name first second third (task_of name) form refl is (sym (rw other refl) ∙ h)
]

form_of_casting-form : (name first second third : List ℕ) (form : Form)
    → bytes_eq name (codes "make") ≡ false → form_of_four name first second third ≡ Some form
    → AreOf (name ∷ first ∷ second ∷ third ∷ []) form
form_of_casting-form name first second third form other h =
    elim (cases_Bool (is_path first && is_path second)) [
      | inl is ↦ form_of_caster-form name first second third form is (sym (rw (other, is) refl) ∙ h)
      | inr none ↦
          let e : form_of_four name first second third ≡ None = rw (other, none) refl in
          absurd cc
    ]

form_of_four-form : (name seed frames rovers : List ℕ) (form : Form) → form_of_four name seed frames rovers ≡ Some form
    → AreOf (name ∷ seed ∷ frames ∷ rovers ∷ []) form
form_of_four-form name seed frames rovers form h = elim (cases_Bool (bytes_eq name (codes "make"))) [
  | inl is ↦
      let all = all_made (seed_of seed) (at_most 10000 (number_of frames)) (at_most 64 (number_of rovers)) form
      (sym (rw is refl) ∙ h) in
      subst (λ f. AreOf (name ∷ seed ∷ frames ∷ rovers ∷ []) f) all.same
      (are_make name seed frames rovers all.s all.f all.r is all.seed_is all.frames_are all.rovers_are)
  | inr other ↦ form_of_casting-form name seed frames rovers form other h
]

are_fetch : (name first : List ℕ) (words : List (List ℕ)) (n : ℕ) → bytes_eq name (codes "fetch") ≡ true
    → are_few_targets words ≡ true → at_most 1000000 (number_of first) ≡ Some n
    → AreFetch (name ∷ first ∷ words) n (targets_of words)
are_fetch name first words n same few number =
    let outer = and_parts (nat_le 1 (length words) && nat_le (length words) 40) (are_targets words) few in
    let inner = and_parts (nat_le 1 (length words)) (nat_le (length words) 40) outer.0 in
    let some = inner.0 in
    let most = inner.1 in
    let least : 1 ≤ length words = grind (arith, nat_tests, some) in
    let within : length words ≤ 40 = grind (arith, nat_tests, most) in
    let count : length (targets_of words) * 5 ≡ length words = targets_count words outer.1 in
    let read = read_decimal 1000000 first n (omega arith) number in
    let named : name ≡ codes "fetch" = name_is name (codes "fetch") same in
    record {
      frames_are = (read.least, read.most);
      count = (omega (arith, count, least), omega (arith, count, within));
      each = targets_each words outer.1;
      parts = ap (λ w. w ∷ first ∷ words) named ∙ ap (λ w. codes "fetch" ∷ w ∷ words) read.text
          ∙ ap (λ (ws : List (List ℕ)). codes "fetch" ∷ decimal n ∷ ws) (sym (targets_said words outer.1));
    }

form_of_more-form : (name first : List ℕ) (words : List (List ℕ)) (form : Form)
    → form_of_more name first words ≡ Some form → AreOf (name ∷ first ∷ words) form
form_of_more-form name first words form h = elim (cases_Bool (bytes_eq name (codes "fetch"))) [
  | inl same ↦ elim (cases_Bool (are_few_targets words)) [
    | inl few ↦
        let read = mapped (λ n. fetching n (targets_of words)) (at_most 1000000 (number_of first)) form
        (sym (rw (same, few) refl) ∙ h) in
        subst (λ f. AreOf (name ∷ first ∷ words) f) read.2 (are_fetch name first words read.0 same few read.1)
    | inr many ↦
        let e : form_of_more name first words ≡ None = rw (same, many) refl in
        absurd cc
  ]
  | inr other ↦
      let e : form_of_more name first words ≡ None = rw other refl in
      absurd cc
]

pub form-form_of : (words : List (List ℕ)) (form : Form) → form_of words ≡ Some form → AreOf words form
form-form_of [] form h = absurd cc
form-form_of (name ∷ []) form h = absurd cc
form-form_of (name ∷ word ∷ []) form h = form_of_two-form name word form h
form-form_of (name ∷ first ∷ second ∷ []) form h = form_of_three-form name first second form h
form-form_of (name ∷ first ∷ second ∷ third ∷ []) form h = form_of_four-form name first second third form h
form-form_of (name ∷ first ∷ second ∷ third ∷ fourth ∷ more) form h =
    form_of_more-form name first (second ∷ third ∷ fourth ∷ more) form h

-- words that are read as nothing are of no form
pub no_form : (words : List (List ℕ)) → form_of words ≡ None → AreOfNoForm words
no_form words h = λ form are. absurd (let e = form_of-form words form are in cc)

-- what is read as a command are the words of its form
pub command-form : (words : List (List ℕ)) (read : Option Command) → option_map form read ≡ form_of words
    → IfSome read (λ command. AreOf words (form command))
command-form words None h = tt
command-form words (Some command) h = form-form_of words (form command) (sym h)

-- where nothing is read, the words are of no form
pub command-none : (words : List (List ℕ)) (read : Option Command) → option_map form read ≡ form_of words
    → IfNone read (AreOfNoForm words)
command-none words None h = no_form words (sym h)
command-none words (Some command) h = tt

-- ---- words of a fetch and others

-- what is not read as a fetch is none
pub no_fetch_read : (name first : List ℕ) (words : List (List ℕ)) → form_of_more name first words ≡ None
    → FetchNothing (name ∷ first ∷ words)
no_fetch_read name first words none frames targets are =
    let read = read_fetch frames targets are.frames_are.0 are.frames_are.1 are.count.0 are.count.1 are.each in
    let parts = are.parts in
    let named : name ≡ codes "fetch" = cc in
    let number : first ≡ decimal frames = cc in
    let others : words ≡ flat_map target_words targets = cc in
    let same : form_of_more name first words ≡ fetching_form (decimal frames) (flat_map target_words targets) =
    rw (named, number, others) refl in
    absurd cc

-- fewer words than two are of none
pub few_words : (words : List (List ℕ)) → length words < 2 → None ≡ form_of words
few_words [] few = refl
few_words (a ∷ []) few = refl
few_words (a ∷ b ∷ more) few = absurd (omega (arith, few))

-- more than four words are those of a fetch, or of no form
pub many_words : (words : List (List ℕ)) (read : Option Form) → form_of words ≡ read → 5 ≤ length words
    → FetchNothing words → None ≡ form_of words
many_words words None h five nothing = sym h
many_words words (Some (bare capacity)) h five nothing =
    let size = ap length (form-form_of words (bare capacity) h).parts in absurd (omega (arith, five, size))
many_words words (Some (over aim config)) h five nothing =
    let size = ap length (form-form_of words (over aim config) h).parts in absurd (omega (arith, five, size))
many_words words (Some (replay start config session)) h five nothing =
    let size = ap length (form-form_of words (replay start config session) h).parts in absurd
    (omega (arith, five, size))
many_words words (Some (made seed frames rovers)) h five nothing =
    let size = ap length (form-form_of words (made seed frames rovers) h).parts in absurd (omega (arith, five, size))
many_words words (Some (casting task config addr limit)) h five nothing =
    let size = ap length (form-form_of words (casting task config addr limit) h).parts in
    absurd (omega (arith, five, size))
many_words words (Some (keeping config addr quiet)) h five nothing =
    let size = ap length (form-form_of words (keeping config addr quiet) h).parts in absurd (omega (arith, five, size))
many_words words (Some (fetching frames targets)) h five nothing =
    absurd (nothing frames targets (form-form_of words (fetching frames targets) h))

-- what is read as a fetch is one, and what is not is none
fetch_read : (name first : List ℕ) (words : List (List ℕ)) (read : Option Fetch)
    → option_map fetch_form read ≡ form_of_more name first words
    → IfSome read (λ fetch. AreFetch (name ∷ first ∷ words) fetch.frames (targets_of (texts fetch.targets.now)))
    × IfNone read (FetchNothing (name ∷ first ∷ words))
fetch_read name first words None h = (tt, no_fetch_read name first words (sym h))
fetch_read name first words (Some fetch) h =
    (form_of_more-form name first words (fetch_form fetch) (sym h), tt)

-- of words whose first two and others are these
pub fetch_in_words : (words : List (String Global)) (a b : String Global) (name first : List ℕ) (read : Option Fetch)
    → 2 ≤ length words → a ≡ get_or words 0 a → b ≡ get_or words 1 b → name ≡ string_bytes a → first ≡ string_bytes b
    → option_map fetch_form read ≡ form_of_more name first (texts (take (length words - 2) (drop 2 words)))
    → IfSome read (λ fetch. AreFetch (texts words) fetch.frames (targets_of (texts fetch.targets.now)))
    × IfNone read (FetchNothing (texts words))
fetch_in_words words a b name first read two is_a is_b named number h =
    let rest = texts (take (length words - 2) (drop 2 words)) in
    let parts : texts words ≡ name ∷ first ∷ rest =
    ap (λ (ws : List (String Global)). texts ws) (two_words words a b two is_a is_b)
    ∙ ap (λ v. v ∷ string_bytes b ∷ rest) (sym named) ∙ ap (λ v. name ∷ v ∷ rest) (sym number) in
    subst (λ (ws : List (List ℕ)).
    IfSome read (λ fetch. AreFetch ws fetch.frames (targets_of (texts fetch.targets.now)))
    × IfNone read (FetchNothing ws)) (sym parts) (fetch_read name first rest read h)
