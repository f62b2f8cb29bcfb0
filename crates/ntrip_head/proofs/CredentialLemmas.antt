-- Basic credentials as a form.
use Rattle.std.proofs.Common.{◌≡◌, ◌≢◌, ◌<◌, ◌+◌, ◌∙◌, ℕ, zero, suc, Bool, true, false, List, [], ◌∷◌, ◌++◌, length, take, drop, replicate, get_or, append_assoc, length-append, arith, sym, ap, subst, refl, cond, Option, Some, None, Result, Ok, Err}
use Rattle.std.specs.Prelude.{if◌then◌else◌, ◌==◌, codes, position, slice_index}
use Rattle.std.specs.List.{list_any, position_or_len}
use Rattle.std.specs.Char.{to_ascii_lowercase}
use Rattle.std.specs.Str.{str_eq_ignore_ascii_case, str_to_ascii_lowercase}
use Rattle.std.proofs.Math.Seq.{take-append_seam, drop-append_seam, drop-append-add}
use Rattle.std.proofs.lemmas.Bool.{and_parts, and_from, or_parts, eqb-true, eq-eqb, ne_eqb, lt-ltb, not-true, not_from_false}
use Rattle.std.proofs.lemmas.List.{take-append-drop, get_or-drop, get_or-take, drop_more, length-map, length-take-le}
use Rattle.std.proofs.lemmas.List.Folds.{list_any_none}
use Rattle.std.proofs.lemmas.List.Quantifiers.{position-Some}
use Rattle.std.proofs.lemmas.Slice.Eq.{bytes_eq-Decides}
use Rattle.base64.specs.declared.decode.DecodeError.{DecodeError}
use Rattle.base64.specs.Engines.{standard}
use Rattle.base64.specs.GeneralPurpose.{decode_of}
use Rattle.ntrip_head.specs.declared.request.Auth.TheVariants.{Basic, Unread}
use Rattle.ntrip_head.specs.Credentials.{is_basic, after_spaces, split_at, user_and_password, decoded_pair, credentials, IsBasicText}

-- ---- spaces at the front

pub record IsSpaced (text : List ℕ) : Type 0 where
  pub spaces : ℕ
  pub text_is : text ≡ replicate spaces 32 ++ after_spaces text
  pub no_space : slice_index (after_spaces text) 0 ≢ 32

-- a space more, or another byte
spaced_more : (b : ℕ) (text : List ℕ) (t : Bool) → (b == 32) ≡ t → IsSpaced text → IsSpaced (b ∷ text)
spaced_more b text true e rest =
    let at : after_spaces (b ∷ text) ≡ after_spaces text = ap
    (λ (t : Bool). if t then after_spaces text else b ∷ text) e in
    record {
      spaces = suc rest.spaces;
      text_is = ap (λ (n : ℕ). n ∷ text) (eqb-true b 32 e) ∙ ap (λ (l : List ℕ). 32 ∷ l) rest.text_is
          ∙ ap (λ (l : List ℕ). 32 ∷ replicate rest.spaces 32 ++ l) (sym at);
      no_space = subst (λ (l : List ℕ). slice_index l 0 ≢ 32) (sym at) rest.no_space;
    }
spaced_more b text false e rest =
    let at : after_spaces (b ∷ text) ≡ b ∷ text = ap (λ (t : Bool). if t then after_spaces text else b ∷ text) e in
    record {
      spaces = 0;
      text_is = sym at;
      no_space = subst (λ (l : List ℕ). slice_index l 0 ≢ 32) (sym at)
          (λ (is : b ≡ 32). let yes = eq-eqb b 32 is in absurd cc);
    }

pub spaced : (text : List ℕ) → IsSpaced text
spaced [] = record { spaces = 0; text_is = refl; no_space = λ e. absurd cc }
spaced (b ∷ text) = spaced_more b text (b == 32) refl (spaced text)

no_spaces : (text : List ℕ) → slice_index text 0 ≢ 32 → after_spaces text ≡ text
no_spaces [] other = refl
no_spaces (b ∷ text) other = ap (λ (t : Bool). if t then after_spaces text else b ∷ text) (ne_eqb b 32 other)

pub after_replicate : (n : ℕ) (text : List ℕ) → slice_index text 0 ≢ 32 → after_spaces (replicate n 32 ++ text) ≡ text
after_replicate zero text other = no_spaces text other
after_replicate (suc n) text other = after_replicate n text other

-- ---- the first colon

abbrev pub is_colon : ℕ → Bool
is_colon b = b == 58

first_colon : (user password : List ℕ) → list_any is_colon user ≡ false
    → position_or_len is_colon (user ++ 58 ∷ password) ≡ length user
first_colon [] password none = refl
first_colon (b ∷ user) password none =
    let parts = or_parts (is_colon b) (list_any is_colon user) none in
    rw (parts.0, first_colon user password parts.1) (omega arith)

-- a pair is split where its first colon is
pub split_pair : (user password : List ℕ) → list_any is_colon user ≡ false
    → user_and_password (user ++ 58 ∷ password) ≡ Basic user password
split_pair user password none =
    let pair : List ℕ = user ++ 58 ∷ password in
    let at : position_or_len is_colon pair ≡ length user = first_colon user password none in
    let lt : position_or_len is_colon pair < length pair = omega (arith, length-append user (58 ∷ password)) in
    let found : position is_colon pair ≡ Some (position_or_len is_colon pair) =
    ap (λ (t : Bool). cond t (Some (position_or_len is_colon pair)) None)
    (lt-ltb (position_or_len is_colon pair) (length pair) lt) in
    ap (split_at pair) (found ∙ ap (λ (n : ℕ). Some n) at)
    ∙ ap (λ (front : List ℕ). Basic front (drop (length user + 1) pair)) (take-append_seam user (58 ∷ password))
    ∙ ap (λ (rest : List ℕ). Basic user rest) (drop-append-add user (58 ∷ password) 1)

pub record IsPair (pair user password : List ℕ) : Type 0 where
  pub pair_is : pair ≡ user ++ 58 ∷ password
  pub no_colon : list_any is_colon user ≡ false

at_colon : (pair user password : List ℕ) (colon : ℕ) → position is_colon pair ≡ Some colon → take colon pair ≡ user
    → drop (colon + 1) pair ≡ password → IsPair pair user password
at_colon pair user password colon found front rest =
    let facts = position-Some is_colon pair colon 0 found in
    let lt : colon < length pair = facts.0 in
    let here : get_or pair colon 0 ≡ 58 = eqb-true (get_or pair colon 0) 58 facts.1 in
    let none : list_any is_colon (take colon pair) ≡ false =
    list_any_none is_colon (take colon pair) (λ k d few.
    let below : k < colon = omega (arith, length-take-le colon pair (omega arith)) in
    rw get_or-take ((position-Some is_colon pair colon d found).2 k below)) in
    record {
      pair_is = sym (take-append-drop colon pair)
          ∙ ap (λ (l : List ℕ). take colon pair ++ l) (drop_more pair colon 0 lt)
          ∙ ap (λ (n : ℕ). take colon pair ++ n ∷ drop (colon + 1) pair) here
          ∙ ap (λ (l : List ℕ). l ++ 58 ∷ drop (colon + 1) pair) front ∙ ap (λ (l : List ℕ). user ++ 58 ∷ l) rest;
      no_colon = subst (λ (l : List ℕ). list_any is_colon l ≡ false) front none;
    }

by_place : (pair user password : List ℕ) (place : Option ℕ) → position is_colon pair ≡ place
    → split_at pair place ≡ Basic user password → IsPair pair user password
by_place pair user password None found e = absurd cc
by_place pair user password (Some colon) found e =
    at_colon pair user password colon found (cc) (cc)

pub from_split : (pair user password : List ℕ) → user_and_password pair ≡ Basic user password
    → IsPair pair user password
from_split pair user password e = by_place pair user password (position is_colon pair) refl e

-- ---- the form

record IsDecoded (t : Bool) (r : Result (List ℕ) DecodeError) (user password : List ℕ) : Type 0 where
  basic : t ≡ true
  pair : List ℕ
  decoded : r ≡ Ok pair
  split : user_and_password pair ≡ Basic user password

by_answer : (t : Bool) (r : Result (List ℕ) DecodeError) (user password : List ℕ)
    → (if t then decoded_pair r else Unread) ≡ Basic user password → IsDecoded t r user password
by_answer true (Ok pair) user password e = record { basic = refl; pair = pair; decoded = refl; split = e }
by_answer true (Err d) user password e = absurd cc
by_answer false r user password e = absurd cc

-- what is read has the form
pub to_form : (value user password : List ℕ) → credentials value ≡ Basic user password → IsBasicText value user password
to_form value user password e =
    let rest : List ℕ = drop 5 value in
    let read = by_answer (is_basic value) (decode_of standard (after_spaces rest)) user password e in
    let parts = and_parts (str_eq_ignore_ascii_case (take 5 value) (codes "Basic")) (slice_index value 5 == 32)
    read.basic in
    let form = spaced rest in
    let pair = from_split read.pair user password read.split in
    let sixth : slice_index rest 0 ≡ 32 = get_or-drop 5 value 0 0 ∙ eqb-true (slice_index value 5) 32 parts.1 in
    record {
      scheme = take 5 value;
      spaces = form.spaces;
      text = after_spaces rest;
      value_is = sym (take-append-drop 5 value) ∙ ap (λ (l : List ℕ). take 5 value ++ l) form.text_is
          ∙ sym (append_assoc (take 5 value) (replicate form.spaces 32) (after_spaces rest));
      scheme_is = parts.0;
      some_space = some form.spaces form.text_is form.no_space sixth;
      no_space = form.no_space;
      pair_is = read.decoded ∙ ap (λ (l : List ℕ). Ok l) pair.pair_is;
      no_colon = not_from_false (list_any is_colon user) pair.no_colon;
    }
  where
    some : (n : ℕ) → drop 5 value ≡ replicate n 32 ++ after_spaces (drop 5 value)
        → slice_index (after_spaces (drop 5 value)) 0 ≢ 32
        → slice_index (drop 5 value) 0 ≡ 32 → 0 < n
    some zero all other first = absurd (other (ap (λ (l : List ℕ). slice_index l 0) (sym all) ∙ first))
    some (suc n) all other first = omega arith

first_space : (n : ℕ) (text : List ℕ) → 0 < n → slice_index (replicate n 32 ++ text) 0 ≡ 32
first_space zero text some = absurd (omega arith)
first_space (suc n) text some = refl

-- what has the form is read
pub from_form : (value user password : List ℕ) → IsBasicText value user password
    → credentials value ≡ Basic user password
from_form value user password form =
    let tail : List ℕ = replicate form.spaces 32 ++ form.text in
    let all : value ≡ form.scheme ++ tail = form.value_is
    ∙ append_assoc form.scheme (replicate form.spaces 32) form.text in
    let same : str_to_ascii_lowercase form.scheme ≡ str_to_ascii_lowercase (codes "Basic") =
    (bytes_eq-Decides (str_to_ascii_lowercase form.scheme) (str_to_ascii_lowercase (codes "Basic"))).0 form.scheme_is in
    let five : length form.scheme ≡ 5 = sym (length-map form.scheme to_ascii_lowercase)
    ∙ ap (λ (l : List ℕ). length l) same in
    let front : take 5 value ≡ form.scheme =
    ap (λ (l : List ℕ). take 5 l) all
    ∙ subst (λ (n : ℕ). take n (form.scheme ++ tail) ≡ form.scheme) five (take-append_seam form.scheme tail) in
    let rest : drop 5 value ≡ tail =
    ap (λ (l : List ℕ). drop 5 l) all
    ∙ subst (λ (n : ℕ). drop n (form.scheme ++ tail) ≡ tail) five (drop-append_seam form.scheme tail) in
    let sixth : slice_index value 5 ≡ 32 =
    sym (get_or-drop 5 value 0 0) ∙ ap (λ (l : List ℕ). slice_index l 0) rest
    ∙ first_space form.spaces form.text form.some_space in
    let word : str_eq_ignore_ascii_case (take 5 value) (codes "Basic") ≡ true =
    subst (λ (l : List ℕ). str_eq_ignore_ascii_case l (codes "Basic") ≡ true) (sym front) form.scheme_is in
    let basic : is_basic value ≡ true =
    and_from (str_eq_ignore_ascii_case (take 5 value) (codes "Basic")) (slice_index value 5 == 32) word
    (eq-eqb (slice_index value 5) 32 sixth) in
    let text_is : after_spaces (drop 5 value) ≡ form.text =
    ap (λ (l : List ℕ). after_spaces l) rest ∙ after_replicate form.spaces form.text form.no_space in
    ap (λ (t : Bool). if t then decoded_pair (decode_of standard (after_spaces (drop 5 value))) else Unread) basic
    ∙ ap (λ (l : List ℕ). decoded_pair (decode_of standard l)) text_is
    ∙ ap (λ (r : Result (List ℕ) DecodeError). decoded_pair r) form.pair_is
    ∙ split_pair user password (not-true (list_any is_colon user) form.no_colon)
