use Rattle.std.proofs.Common.{ℕ, List, ◌≡◌, ◌++◌, length, vec_len, ap, ◌∙◌, arith}
use Rattle.std.specs.Prelude.{codes}
use Rattle.std.specs.Fmt.{decimal}
use Rattle.std.proofs.lemmas.List.{length-append, append_assoc}
use Rattle.ntrip_reply.specs.Message.{lines, texts_in, message}
use Rattle.ntrip_reply.proofs.TextLemmas.{front_kept, on_err, on_ok, message_appended, last_lines}
use Rattle.ntrip_reply.proofs.lines.push_message.Goals as goal

pub returns-in_err-push_lines-2-clause-kept : goal.returns-in_err-push_lines-2-clause-kept
returns-in_err-push_lines-2-clause-kept c =
    let old = c.args.out.now.items in
    let first = lines (texts_in c.args.first.now) in
    let name = codes "Content-Length: " in
    let digits = decimal (length c.args.body.now) in
    let so_far : c.push_decimal.new.out.items ≡ old ++ (first ++ (name ++ digits)) =
    c.in_ok-push_decimal.ensures.ok ∙ ap (λ (l : List ℕ). l ++ digits) (
    c.in_ok-extend_from_slice.ensures.items ∙ ap (λ (l : List ℕ). l ++ name) c.in_ok-push_lines.ensures.ok)
    ∙ append_assoc (old ++ first) name digits ∙ append_assoc old first (name ++ digits) in
    on_err c.from_residual-in_err-push_lines-2.result
    (front_kept old (first ++ (name ++ digits)) c.push_lines-2.new.out.items (vec_len c.args.out.now)
    (vec_len c.push_decimal.new.out) (omega arith)
    (omega (arith, ap length so_far, length-append old (first ++ (name ++ digits))))
    (c.in_err-push_lines-2.ensures.kept ∙ so_far))

whole : (c : goal.After-extend_from_slice-2)
    → c.push_lines-2.new.out.items ++ c.args.body.now ≡ c.args.out.now.items ++ message
    (texts_in c.args.first.now) c.args.body.now
whole c =
    ap (λ (l : List ℕ). l ++ c.args.body.now) (
    c.in_ok-push_lines-2.ensures.ok ∙ ap (λ (l : List ℕ). l ++ lines last_lines) (
    c.in_ok-push_decimal.ensures.ok ∙ ap (λ (l : List ℕ). l ++ decimal (length c.args.body.now)) (
    c.in_ok-extend_from_slice.ensures.items
    ∙ ap (λ (l : List ℕ). l ++ codes "Content-Length: ") c.in_ok-push_lines.ensures.ok)))
    ∙ message_appended c.args.out.now.items (texts_in c.args.first.now) c.args.body.now

pub returns-clause-ok : goal.returns-clause-ok
returns-clause-ok c =
    on_ok c.push_lines-2.new.out.items c.args.body.now c.extend_from_slice-2.result
    c.extend_from_slice-2.ensures.items (whole c)

pub returns-clause-room : goal.returns-clause-room
returns-clause-room c = λ room.
    c.extend_from_slice-2.ensures.succeeds
    (omega (
      arith,
      ap length
          (whole c),
      length-append c.push_lines-2.new.out.items c.args.body.now,
      length-append c.args.out.now.items
          (message (texts_in c.args.first.now) c.args.body.now),
    ))
