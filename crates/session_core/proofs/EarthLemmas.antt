-- The report of a head is a position on the earth.
use Rattle.std.proofs.Common.{◌≡◌, ◌≤◌, rules, ℕ, zero, suc, Bool, true, false, List, Option, None, Some, Result, Ok, Err, subst, sym, refl, inl, inr}
use Rattle.std.specs.Prelude.{if◌then◌else◌, ◌&&◌, nat_le, ℤ, pos, neg_ℤ, unsigned_abs, IfSome, IfOk, MatchBool, slice_index, codes}
use Rattle.std.specs.Option.{option_and_then}
use Rattle.std.proofs.lemmas.Bool.{and_parts, leb-true}
use Rattle.gga_read.specs.Angle.{is_digit, has_minutes, magnitude, angle_within, latitude_size, longitude_size, is_letter, signed}
use Rattle.gga_read.specs.Report.{position_of, position_in, fix_of, is_fix}
use Rattle.gga_read.specs.Sentence.{inner, is_framed, is_gga, field}
use Rattle.base_select.specs.Measure.{IsOnEarth}
use Rattle.std.specs.Str.{bytes_eq}
use Rattle.cast_text.specs.Name.{name_of}
use Rattle.ntrip_head.specs.declared.fault.HeadFault.{HeadFault}
use Rattle.ntrip_head.specs.declared.fault.HeadFault.TheVariants.{Method, Coding}
use Rattle.ntrip_head.specs.declared.request.Request.{Request}
use Rattle.ntrip_head.specs.declared.request.Request.TheVariants.{Table}
use Rattle.ntrip_head.specs.Fields.{HeadFields, value_in, coding_in, is_other_coding}
use Rattle.ntrip_head.specs.Judge.{version_in, or_bad, mount_in, rover_at, get_of, source_at, request_of}
use Rattle.ntrip_head.specs.SourceHead.{is_source, first_line, words_of, without_slash, source_with, SourceAnswer}
use Rattle.ntrip_head.specs.Answer.{HttpAnswer, HeadAnswer}
use Rattle.session_core.specs.Beginnings.{IsRequestOnEarth}

-- an option that a test gives holds what the test says
if_some : {X : Type 0} (P : X → Type 0) (b : Bool) (o : Option X) → (b ≡ true → IfSome o P)
    → IfSome (if b then o else None) P
if_some P true o holds = holds refl
if_some P false o holds = tt

within_limit : (limit degrees at : ℕ) (text : List ℕ) → IfSome (angle_within limit degrees at text) (λ n. n ≤ limit)
within_limit limit degrees at text =
    if_some (λ n. n ≤ limit) (has_minutes at text && nat_le (magnitude degrees at text) limit)
    (Some (magnitude degrees at text))
    (λ both. leb-true (magnitude degrees at text) limit
    (and_parts (has_minutes at text) (nat_le (magnitude degrees at text) limit) both).1)

latitude_within : (text : List ℕ) → IfSome (latitude_size text) (λ n. n ≤ 900000000)
latitude_within text =
    if_some (λ n. n ≤ 900000000) (is_digit (slice_index text 0) && is_digit (slice_index text 1)) _
    (λ digits. within_limit 900000000 _ 2 text)

longitude_within : (text : List ℕ) → IfSome (longitude_size text) (λ n. n ≤ 1800000000)
longitude_within text =
    if_some (λ n. n ≤ 1800000000)
    (is_digit (slice_index text 0) && is_digit (slice_index text 1) && is_digit (slice_index text 2)) _
    (λ digits. within_limit 1800000000 _ 3 text)

negative : (n : ℕ) → unsigned_abs (neg_ℤ (pos n)) ≡ n
negative zero = refl
negative (suc n) = refl

signed_within : (limit plus minus : ℕ) (letter : List ℕ) (size : Option ℕ) → IfSome size (λ n. n ≤ limit)
    → IfSome (signed plus minus letter size) (λ z. unsigned_abs z ≤ limit)
signed_within limit plus minus letter None within = tt
signed_within limit plus minus letter (Some n) within = by_letters (is_letter plus letter) (is_letter minus letter)
  where
    by_letters : (a b : Bool) → IfSome (if a then Some (pos n) else if b then Some (neg_ℤ (pos n)) else None)
        (λ z. unsigned_abs z ≤ limit)
    by_letters true b = within
    by_letters false true = subst (λ (m : ℕ). m ≤ limit) (sym (negative n)) within
    by_letters false false = tt

angles_on_earth : (lat lon : Option ℤ) → IfSome lat (λ z. unsigned_abs z ≤ 900000000)
    → IfSome lon (λ z. unsigned_abs z ≤ 1800000000) → IfSome (position_of lat lon) IsOnEarth
angles_on_earth None lon low long = tt
angles_on_earth (Some lat) None low long = tt
angles_on_earth (Some lat) (Some lon) low long = record { lat = low; lon = long }

report_on_earth : (line : List ℕ) → IfSome (fix_of line) IsOnEarth
unfolding fix_of
report_on_earth line =
    if_some IsOnEarth (is_framed line && is_gga (inner line) && is_fix (field 6 (inner line)))
    (position_in (inner line))
    (λ is. angles_on_earth _ _
    (signed_within 900000000 78 83 (field 3 (inner line)) _ (latitude_within (field 2 (inner line))))
    (signed_within 1800000000 69 87 (field 5 (inner line)) _ (longitude_within (field 4 (inner line)))))

pub field_on_earth : (value : Option (List ℕ)) → IfSome (option_and_then fix_of value) IsOnEarth
field_on_earth None = tt
field_on_earth (Some line) = report_on_earth line

-- ---- what a head asks for

abbrev IsAnswer : Result Request HeadFault → Type 0
IsAnswer answer = IfOk answer IsRequestOnEarth

if_answer : (b : Bool) (x y : Result Request HeadFault) → IsAnswer x → IsAnswer y → IsAnswer (if b then x else y)
if_answer true x y one other = one
if_answer false x y one other = other

rover_answer : (mount : Result (List ℕ) HeadFault) (fields : HeadFields) → IsAnswer (rover_at mount fields)
rover_answer (Err e) fields = tt
rover_answer (Ok mount) fields = field_on_earth (value_in (codes "Ntrip-GGA") fields)

source_answer : (mount : Result (List ℕ) HeadFault) (fields : HeadFields) → IsAnswer (source_at mount fields)
source_answer (Err e) fields = tt
source_answer (Ok mount) fields = if_answer (is_other_coding (coding_in fields)) (Err Coding) _ tt tt

request_answer : (method target : List ℕ) (fields : HeadFields) → IsAnswer (request_of method target fields)
request_answer method target fields =
    if_answer (bytes_eq method (codes "GET")) (get_of target fields) _
    (if_answer (bytes_eq target (codes "/")) (Ok (Table (version_in fields))) (rover_at (mount_in target) fields) tt
    (rover_answer (mount_in target) fields))
    (if_answer (bytes_eq method (codes "POST")) (source_at (mount_in target) fields) (Err Method)
    (source_answer (mount_in target) fields) tt)

line_answer : (password : List ℕ) (mount : Result (List ℕ) HeadFault) → IsAnswer (source_with password mount)
line_answer password (Err e) = tt
line_answer password (Ok mount) = tt

source_head : (bytes : List ℕ) (answer : Result Request HeadFault) → SourceAnswer bytes answer → IsAnswer answer
source_head bytes answer (inl block) =
    subst IsAnswer (sym block.1) (line_answer (words_of (first_line bytes)).0
    (or_bad (name_of (without_slash (words_of (first_line bytes)).1))))
source_head bytes answer (inr none) = subst IsAnswer (sym none.1) tt

http_head : (bytes : List ℕ) (answer : Result Request HeadFault) → HttpAnswer bytes answer → IsAnswer answer
http_head bytes answer (inl whole) =
    subst IsAnswer (sym whole.2) (search (rules, request_answer))
http_head bytes answer (inr none) = subst IsAnswer (sym none.1) tt

pub head_on_earth : (bytes : List ℕ) (answer : Result Request HeadFault) → HeadAnswer bytes answer
    → IfOk answer IsRequestOnEarth
head_on_earth bytes answer is = by_source (is_source bytes) is where
  by_source : (b : Bool) → MatchBool b (SourceAnswer bytes answer) (HttpAnswer bytes answer) → IsAnswer answer
  by_source true is = source_head bytes answer is
  by_source false is = http_head bytes answer is
