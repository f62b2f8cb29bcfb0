-- Where the body behind an answer begins.
use Rattle.std.specs.Prelude.{◌≡◌, ℕ, ⊤}
use Rattle.ntrip_client.specs.declared.answer.Answer.{Answer}
use Rattle.ntrip_client.specs.declared.answer.Answer.TheVariants.{Open, Accepted, Refused}

-- where a body follows, it begins at this place
abbrev pub BeginsAt : ℕ → Answer → Type 0
BeginsAt place Open = ⊤
BeginsAt place (Accepted at chunked) = at ≡ place
BeginsAt place (Refused why) = ⊤
