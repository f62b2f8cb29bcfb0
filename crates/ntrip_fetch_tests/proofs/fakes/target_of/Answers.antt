use Rattle.std.proofs.Common.{ℕ, List, IsTrue, subst, sym}
use Rattle.std.proofs.lemmas.Str.{is_utf8-from_IsUtf8}
use Rattle.std.specs.Str.{is_utf8}
use Rattle.ntrip_fetch_tests.proofs.TextLemmas.{text_is}
use Rattle.ntrip_fetch_tests.proofs.fakes.target_of.Goals as goal

pub returns : goal.returns
returns c = (
  c.requires.protocol,
  subst (λ (text : List ℕ). IsTrue (is_utf8 text))
      (sym (text_is c.as_bytes.result.now c.in_ok-new.field-0 c.in_ok-new.ensures))
      (is_utf8-from_IsUtf8 c.as_bytes.result.now c.as_bytes.ensures.utf8),
)
