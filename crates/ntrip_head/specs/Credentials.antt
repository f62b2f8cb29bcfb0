-- The credentials of a request: its `Authorization` field (RFC 9110, section 11.6.2), where its
-- scheme is `Basic` (RFC 7617, section 2).
use Rattle.std.specs.Prelude.{◌≡◌, ◌≢◌, ◌<◌, ℕ, ◌+◌, Bool, true, not, ◌&&◌, ◌==◌, if◌then◌else◌, IsTrue, codes, List, [], ◌∷◌, ◌++◌, replicate, take, drop, slice_index, position, Option, Some, None, Result, Ok, Err}
use Rattle.std.specs.List.{list_any}
use Rattle.std.specs.Str.{str_eq_ignore_ascii_case}
use Rattle.base64.specs.declared.decode.DecodeError.{DecodeError}
use Rattle.base64.specs.Engines.{standard}
use Rattle.base64.specs.GeneralPurpose.{decode_of}
use Rattle.ntrip_head.specs.declared.request.Auth.{Auth}
use Rattle.ntrip_head.specs.declared.request.Auth.TheVariants.{Basic, Unread}
use Rattle.ntrip_head.specs.declared.request.Auth.TheVariants as auths

-- the scheme `Basic`, without case, and a space (32)
abbrev pub is_basic : List ℕ → Bool
is_basic value =
    str_eq_ignore_ascii_case (take 5 value) (codes "Basic") && (slice_index value 5 == 32)

-- the text without the spaces at its front
abbrev pub after_spaces : List ℕ → List ℕ
after_spaces [] = []
after_spaces (b ∷ text) = if b == 32 then after_spaces text else b ∷ text

-- the user before this place, where the first colon is, and the password after it
abbrev pub split_at : List ℕ → Option ℕ → Auth
split_at pair None = Unread
split_at pair (Some colon) = Basic (take colon pair) (drop (colon + 1) pair)

-- the user before the first colon (58) and the password after it, if there is a colon
abbrev pub user_and_password : List ℕ → Auth
user_and_password pair = split_at pair (position (λ b. b == 58) pair)

-- what the base64 text decoded to, if it did
abbrev pub decoded_pair : Result (List ℕ) DecodeError → Auth
decoded_pair (Err e) = Unread
decoded_pair (Ok pair) = user_and_password pair

-- the credentials that a value is: `Basic`, one or more spaces, and base64 text (RFC 4648, section
-- 4) of a pair with a colon
abbrev pub credentials : List ℕ → Auth
credentials value =
    if is_basic value then decoded_pair (decode_of standard (after_spaces (drop 5 value)))
    else Unread

-- the credentials of a request with this `Authorization` field, or without one
abbrev pub auth_of : Option (List ℕ) → Auth
auth_of None = auths.None
auth_of (Some value) = credentials value

-- the password of Basic credentials, else the empty text
abbrev pub password_of : Auth → List ℕ
password_of auths.None = []
password_of (Basic user password) = password
password_of Unread = []

-- ---- the same as a form (RFC 7617, section 2)

-- scheme, spaces and text: the scheme is `Basic` but for case, the spaces are one at least, and the
-- text begins with no space and decodes to the user, a colon (58) and the password; there is no
-- colon in the user
pub record IsBasicText (value user password : List ℕ) : Type 0 where
  pub scheme : List ℕ
  pub spaces : ℕ
  pub text : List ℕ
  pub value_is : value ≡ scheme ++ replicate spaces 32 ++ text
  pub scheme_is : IsTrue (str_eq_ignore_ascii_case scheme (codes "Basic"))
  pub some_space : 0 < spaces
  pub no_space : slice_index text 0 ≢ 32
  pub pair_is : decode_of standard text ≡ Ok (user ++ 58 ∷ password)
  pub no_colon : not (list_any (λ b. b == 58) user) ≡ true
