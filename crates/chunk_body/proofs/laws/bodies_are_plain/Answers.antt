use Rattle.std.proofs.Common.{◌∙◌, sym}
use Rattle.chunk_body.proofs.TextLemmas.{dead_behind}
use Rattle.chunk_body.proofs.PlainLemmas.{plain_is, plain_only, plain_whole, one_data}
use Rattle.chunk_body.proofs.laws.bodies_are_plain.Goals as goal

pub returns-clause-nothing : goal.returns-clause-nothing
returns-clause-nothing c = plain_is _

pub returns-clause-one_data : goal.returns-clause-one_data
returns-clause-one_data c = one_data

pub returns-clause-plain : goal.returns-clause-plain
returns-clause-plain c = plain_whole

pub returns-clause-one_plain : goal.returns-clause-one_plain
returns-clause-one_plain c =
    λ text x y first second. plain_only text x first ∙ sym (plain_only text y second)

pub returns-clause-nothing_behind : goal.returns-clause-nothing_behind
returns-clause-nothing_behind c =
    λ text content byte more body live. dead_behind text byte more content body live
