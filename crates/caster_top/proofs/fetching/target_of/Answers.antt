-- The address is text, as words are.
use Rattle.std.proofs.Common.{◌∙◌, ap}
use Rattle.std.proofs.lemmas.Str.{is_utf8-from_IsUtf8}
use Rattle.std.specs.Str.{is_utf8}
use Rattle.caster_top.proofs.fetching.target_of.Goals as goal

pub returns-clause-can : goal.returns-clause-can
returns-clause-can c = (
  c.protocol_of.ensures.spoken,
  ap is_utf8 (c.in_ok-of.ensures ∙ c.as_bytes.ensures.value)
      ∙ is_utf8-from_IsUtf8 c.args.address.now c.utf8.address,
)
