-- A name is a text that may stand in the sourcetable.
use Rattle.std.proofs.Common.{◌≡◌, ℕ, ◌≤◌, ◌<◌, true, ◌&&◌, zero, suc, leb, get_or, List, [], ◌∷◌, length, refl, arith}
use Rattle.std.specs.Prelude.{codes}
use Rattle.std.specs.List.{list_all}
use Rattle.std.specs.Str.{is_utf8, IsUtf8}
use Rattle.std.proofs.lemmas.Bool.{and_parts, and_from, leb-true, ne_eqb}
use Rattle.std.proofs.lemmas.Str.{IsUtf8-from_ascii, IsUtf8-nil, is_utf8-from_IsUtf8}
use Rattle.cast_text.specs.Name.{is_name, is_name_byte}
use Rattle.config_keys.specs.declared.strings.TextKind.TheVariants.{Plain, Secret}
use Rattle.config_keys.specs.Texts.{is_fit, is_plain}

plain_byte : (b : ℕ) → is_name_byte b ≡ true → is_plain b ≡ true
plain_byte b h =
    let p63 = and_parts _ _ h in
    let p59 = and_parts _ _ p63.0 in
    let p58 = and_parts _ _ p59.0 in
    let p47 = and_parts _ _ p58.0 in
    let range = and_parts (leb 0x21 b) (leb b 0x7E) p47.0 in
    let low : 33 ≤ b = leb-true 0x21 b range.0 in
    rw (ne_eqb b 13 (omega arith), ne_eqb b 10 (omega arith), p59.1) refl

low_byte : (b : ℕ) → is_name_byte b ≡ true → b < 128
low_byte b h =
    let p63 = and_parts _ _ h in
    let p59 = and_parts _ _ p63.0 in
    let p58 = and_parts _ _ p59.0 in
    let p47 = and_parts _ _ p58.0 in
    let range = and_parts (leb 0x21 b) (leb b 0x7E) p47.0 in
    let high : b ≤ 126 = leb-true b 0x7E range.1 in
    omega arith

all_plain : (s : List ℕ) → list_all is_name_byte s ≡ true → list_all is_plain s ≡ true
all_plain [] h = refl
all_plain (b ∷ s) h =
    let parts = and_parts (is_name_byte b) (list_all is_name_byte s) h in
    and_from _ _ (plain_byte b parts.0) (all_plain s parts.1)

all_low : (s : List ℕ) → list_all is_name_byte s ≡ true → (i : ℕ) → get_or s i 0 < 128
all_low [] h i = omega arith
all_low (b ∷ s) h zero = low_byte b (and_parts (is_name_byte b) (list_all is_name_byte s) h).0
all_low (b ∷ s) h (suc i) = all_low s (and_parts (is_name_byte b) (list_all is_name_byte s) h).1 i

pub name_utf8 : (s : List ℕ) → is_name s ≡ true → IsUtf8 s
name_utf8 s name = IsUtf8-from_ascii s (all_low s (and_parts (leb 1 (length s) && leb (length s) 100)
    (list_all is_name_byte s) name).1)

pub name_fits : (s : List ℕ) → is_name s ≡ true → is_fit Plain s ≡ true
name_fits s name =
    let parts = and_parts (leb 1 (length s) && leb (length s) 100) (list_all is_name_byte s) name in
    let few = and_parts (leb 1 (length s)) (leb (length s) 100) parts.0 in
    let utf8 : is_utf8 s ≡ true = is_utf8-from_IsUtf8 s (name_utf8 s name) in
    and_from _ _ (and_from _ _ few.1 utf8) (all_plain s parts.1)

pub empty_fits : is_fit Plain [] ≡ true
empty_fits = rw (is_utf8-from_IsUtf8 [] IsUtf8-nil) refl

pub empty_secret : is_fit Secret [] ≡ true
empty_secret = rw (is_utf8-from_IsUtf8 [] IsUtf8-nil) refl

pub carrier_fits : is_fit Plain (codes "2") ≡ true
carrier_fits = name_fits (codes "2") refl

pub navigation_fits : is_fit Plain (codes "GPS") ≡ true
navigation_fits = name_fits (codes "GPS") refl
