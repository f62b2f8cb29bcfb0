use Rattle.std.proofs.Common.{sym, ◌∙◌}
use Rattle.ntrip_head.proofs.TreeLemmas.{response_begins, found_response}
use Rattle.ntrip_head.proofs.upstream.whole_response.Goals as goal

pub returns-then-not-begins_in_line-clause-none : goal.returns-then-not-begins_in_line-clause-none
returns-then-not-begins_in_line-clause-none c = λ h whole. absurd
    (let begins = response_begins c.args.bytes.now h whole in cc)

pub returns-clause-found : goal.returns-clause-found
returns-clause-found c =
    let within = rw c.in-Ok-Complete.field-0-is at c.in-Ok-Complete.ensures.within in
    let complete = rw c.in-Ok-Complete.field-0-is at c.in-Ok-Complete.ensures.complete in
    found_response c.args.bytes.now c.parse_response.new.headers c.in-Ok-Complete.spans
    (sym c.begins_in_line.ensures ∙ c.if-not-begins_in_line.false)
    c.if-spans-bytes.false (c.parse_response.auto.headers ∙ c.requires) within complete
