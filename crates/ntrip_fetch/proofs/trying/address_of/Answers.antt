-- The address is text.
use Rattle.std.proofs.Common.{subst, sym, IsTrue}
use Rattle.std.specs.Str.{is_utf8}
use Rattle.std.proofs.lemmas.Str.{IsUtf8-from_is_utf8}
use Rattle.ntrip_fetch.proofs.trying.address_of.Goals as goal

pub unreachable-requires : goal.unreachable-requires
unreachable-requires c =
    c.in-Err.ensures.cases.0 (IsUtf8-from_is_utf8 c.bytes.result.now
    (subst (λ text. IsTrue (is_utf8 text)) (sym c.bytes.ensures.value) c.requires))
