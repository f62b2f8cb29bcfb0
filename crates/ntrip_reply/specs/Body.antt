-- A text that is a response of HTTP with a body (RFC 9112, sections 4 and 6).
use Rattle.std.specs.Prelude.{◌≡◌, ℕ, codes, List, length, map, Some}
use Rattle.std.specs.Fmt.{decimal}
use Rattle.httparse.specs.Grammar.{ResponseHead, ReadsResponse, status_code}
use Rattle.httparse.specs.Spans.{name_and_value}
use Rattle.ntrip_head.specs.Fields.{value_in}

-- the text is a head with this status, which says how many bytes the body has, and then the body
pub record HasBody (text : List ℕ) (status : ℕ) (body : List ℕ) : Type 0 where
  pub head : ResponseHead
  pub reads : ReadsResponse text head body
  pub status_is : status_code head ≡ status
  pub length_is :
      value_in (codes "Content-Length") (map name_and_value head.fields)
      ≡ Some (decimal (length body))
