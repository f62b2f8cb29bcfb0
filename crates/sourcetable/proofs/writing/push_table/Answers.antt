use Rattle.std.proofs.Common.{◌≡◌, List, ℕ, ◌++◌, length, Result, Ok, Err, cond, ap, ◌∙◌, append_assoc, arith}
use Rattle.std.proofs.lemmas.Bool.{false≢true}
use Rattle.std.proofs.lemmas.List.{length-append}
use Rattle.std.specs.Prelude.{OnOk, is_ok, codes}
use Rattle.sourcetable.specs.Table.{cr_lf, lines_text}
use Rattle.sourcetable.proofs.writing.push_table.Goals as goal

joined : {X E : Type 0} (outcome : Result X E) (new middle old lines last : List ℕ)
    → new ≡ cond (is_ok outcome) (middle ++ last) middle
    → middle ≡ old ++ lines → OnOk outcome (new ≡ old ++ (lines ++ last))
joined (Ok x) new middle old lines last is before = is ∙ ap (λ (t : List ℕ). t ++ last) before
    ∙ append_assoc old lines last
joined (Err e) new middle old lines last is before = tt

pub returns-clause-ok : goal.returns-clause-ok
returns-clause-ok c =
    joined c.extend_from_slice.result c.extend_from_slice.new.self.items c.push_records.new.out.items
    c.args.out.now.items
    (lines_text c.args.table.now.records) (codes "ENDSOURCETABLE" ++ cr_lf) c.extend_from_slice.ensures.items
    (cc c.in_ok-push_records.ensures.ok)

pub returns-in_err-push_records-clause-room : goal.returns-in_err-push_records-clause-room
returns-in_err-push_records-clause-room c room =
    absurd (false≢true (c.in_err-push_records.ensures.room
    (omega (
      arith,
      ap (λ records. length (lines_text records)) c.as_slice.ensures,
      length-append
          (lines_text c.args.table.now.records) (codes "ENDSOURCETABLE" ++ cr_lf),
      room,
    ))))

pub returns-clause-room : goal.returns-clause-room
returns-clause-room c room =
    let lines = lines_text c.args.table.now.records in
    let pushed = ap length
    (c.in_ok-push_records.ensures.ok
    ∙ ap (λ records. c.args.out.now.items ++ lines_text records) c.as_slice.ensures) in
    c.extend_from_slice.ensures.succeeds
    (omega (
      arith,
      pushed,
      length-append c.args.out.now.items lines,
      length-append lines
          (codes "ENDSOURCETABLE" ++ cr_lf),
      c.in_ok-push_records.ensures.capacity,
      room,
    ))
