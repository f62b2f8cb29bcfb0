use Rattle.std.proofs.Common.{◌∙◌, List, ℕ, length, sym, ap, subst}
use Rattle.ntrip_head.specs.Head.{ends_with_empty_line, IsOpen}
use Rattle.ntrip_head.proofs.HeadLemmas.{more_open, done_head, full_long}
use Rattle.ntrip_head.proofs.buffer.HeadBuf.push.Goals as goal
use Rattle.ntrip_head.proofs.buffer.HeadBuf.push.Goals.{then-ends_with_empty_line, else-ends_with_empty_line+then-len-eq-MAX_HEAD_BYTES, else-ends_with_empty_line+else-len-eq-MAX_HEAD_BYTES}

pub returns-clause-more : goal.returns-clause-more
returns-clause-more c =
    elim c.if-ends_with_empty_line.branch [
      | then-ends_with_empty_line w ↦ λ is. absurd cc
      | else-ends_with_empty_line+then-len-eq-MAX_HEAD_BYTES w ↦ λ is. absurd cc
      | else-ends_with_empty_line+else-len-eq-MAX_HEAD_BYTES w ↦ λ is.
          more_open c.self.inside.bytes.items c.push_reserved.new.self.items c.args.byte
          (subst (λ (bytes : List ℕ). IsOpen bytes) (sym c.self.view_is) c.requires) c.push_reserved.ensures.items
          (ap (λ (bytes : List ℕ). ends_with_empty_line bytes) (sym c.deref.ensures.value)
          ∙ sym c.ends_with_empty_line.ensures ∙ w.if-ends_with_empty_line.false)
          (λ full. w.if-len-eq-MAX_HEAD_BYTES.false
          (w.len.ensures ∙ sym c.deref.ensures.len ∙ ap (λ (bytes : List ℕ). length bytes) c.deref.ensures.value
          ∙ full))
    ]

pub returns-clause-done : goal.returns-clause-done
returns-clause-done c =
    elim c.if-ends_with_empty_line.branch [
      | then-ends_with_empty_line w ↦ λ is.
          done_head c.self.inside.bytes.items c.push_reserved.new.self.items c.args.byte
          (subst (λ (bytes : List ℕ). IsOpen bytes) (sym c.self.view_is) c.requires) c.push_reserved.ensures.items
          (ap (λ (bytes : List ℕ). ends_with_empty_line bytes) (sym c.deref.ensures.value)
          ∙ sym c.ends_with_empty_line.ensures ∙ w.if-ends_with_empty_line.true)
      | else-ends_with_empty_line+then-len-eq-MAX_HEAD_BYTES w ↦ λ is. absurd cc
      | else-ends_with_empty_line+else-len-eq-MAX_HEAD_BYTES w ↦ λ is. absurd cc
    ]

pub returns-clause-long : goal.returns-clause-long
returns-clause-long c =
    elim c.if-ends_with_empty_line.branch [
      | then-ends_with_empty_line w ↦ λ is. absurd cc
      | else-ends_with_empty_line+then-len-eq-MAX_HEAD_BYTES w ↦ λ is.
          full_long c.self.inside.bytes.items c.push_reserved.new.self.items c.args.byte
          (subst (λ (bytes : List ℕ). IsOpen bytes) (sym c.self.view_is) c.requires) c.push_reserved.ensures.items
          (ap (λ (bytes : List ℕ). ends_with_empty_line bytes) (sym c.deref.ensures.value)
          ∙ sym c.ends_with_empty_line.ensures ∙ w.if-ends_with_empty_line.false)
          (ap (λ (bytes : List ℕ). length bytes) (sym c.deref.ensures.value) ∙ c.deref.ensures.len
          ∙ sym w.len.ensures ∙ w.if-len-eq-MAX_HEAD_BYTES.true)
      | else-ends_with_empty_line+else-len-eq-MAX_HEAD_BYTES w ↦ λ is. absurd cc
    ]
