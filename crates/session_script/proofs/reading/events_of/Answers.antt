use Rattle.std.proofs.Common.{ℕ, List, sym, ap, ◌∙◌}
use Rattle.std.specs.Str.Lines.{lines}
use Rattle.session_script.specs.Reading.{read_on}
use Rattle.session_script.proofs.ReadLemmas.{script_small, script_long, no_more, Fails-at}
use Rattle.session_script.proofs.reading.events_of.Goals as goal

pub returns-then-bytes-gt-MAX_SCRIPT_BYTES : goal.returns-then-bytes-gt-MAX_SCRIPT_BYTES
returns-then-bytes-gt-MAX_SCRIPT_BYTES c = script_long c.args.kind c.args.bytes.now c.if-bytes-gt-MAX_SCRIPT_BYTES.true

pub returns-in-Ok-true : goal.returns-in-Ok-true
returns-in-Ok-true c =
    let found = c.in-Some.ensures.found in
    let goes = rw c.in-Ok-true.field-0-test at (c.in-Ok-true.ensures.goes (lines c.in-Some.after.now)) in
    script_small c.args.kind c.args.bytes.now c.if-bytes-gt-MAX_SCRIPT_BYTES.false ∙ sym c.loop-line.invariant.so_far
    ∙ ap (read_on c.loop-line.reader) found ∙ goes

pub returns-in-Err : goal.returns-in-Err
returns-in-Err c =
    let found = c.in-Some.ensures.found in
    let fails = c.in-Err.ensures.fails (lines c.in-Some.after.now) in
    Fails-at c.in-Err.fault _ _
    (sym (script_small c.args.kind c.args.bytes.now c.if-bytes-gt-MAX_SCRIPT_BYTES.false ∙ sym c.loop-line.invariant.so_far
    ∙ ap (read_on c.loop-line.reader) found)) fails

pub returns : goal.returns
returns c =
    let r = c.loop-line.reader in
    script_small c.args.kind c.args.bytes.now c.if-bytes-gt-MAX_SCRIPT_BYTES.false ∙ sym c.loop-line.invariant.so_far
    ∙ ap (λ (rest : List ℕ). read_on c.loop-line.reader (lines rest)) c.in_default.ensures.none
    ∙ no_more r.kind r.line r.connections r.events.items
