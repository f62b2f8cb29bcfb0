-- The state after the line that was given is forgotten stands for the same bytes, and then the byte
-- comes.
use Rattle.std.proofs.Common.{◌≡◌, true, false, sym, subst}
use Rattle.std.proofs.lemmas.Bool.{ne_eqb}
use Rattle.cast_text.specs.Lines.{LineState, no_line}
use Rattle.cast_text.proofs.LineLemmas.{Stays, stays_new, stays_same, stands_kept, lines_kept, stands_ended, lines_ended}
use Rattle.cast_text.proofs.lines.Lines.push.Goals as goal
use Rattle.cast_text.proofs.lines.Lines.push.Goals.{then-self, else-self}

-- the line that was given is forgotten
forgotten : (old state : LineState) → (old.ended ≡ true) × (state ≡ no_line old.limit) → Stays old state
forgotten old state h = subst (λ (t : LineState). Stays old t) (sym h.1) (stays_new old h.0)

-- no line was given
unchanged : (old state : LineState) → (old.ended ≡ false) × (state ≡ old) → Stays old state
unchanged old state h = subst (λ (t : LineState). Stays old t) (sym h.1) (stays_same old h.0)

pub returns-then-byte-eq10-clause-stands : goal.returns-then-byte-eq10-clause-stands
returns-then-byte-eq10-clause-stands c bytes stands = rw c.if-byte-eq10.true
    (stands_ended c.finish.new.self bytes c.finish.ensures.ended)

pub returns-then-byte-eq10-clause-lines : goal.returns-then-byte-eq10-clause-lines
returns-then-byte-eq10-clause-lines c bytes stands =
    let stays : Stays c.args.self.now c.if-self.self = elim c.if-self.branch [
      | then-self w ↦ forgotten c.args.self.now c.if-self.self (cc, cc)
      | else-self w ↦ unchanged c.args.self.now c.if-self.self (cc, cc)
    ] in
    rw (c.if-byte-eq10.true, ← stays.limit)
    (lines_ended c.if-self.self c.finish.result c.finish.new.self.line bytes stays.coming
    (stays.stands bytes stands) c.finish.ensures.within c.finish.ensures.line)

pub returns-else-byte-eq10-clause-stands : goal.returns-else-byte-eq10-clause-stands
returns-else-byte-eq10-clause-stands c bytes stands =
    let stays : Stays c.args.self.now c.if-self.self = elim c.if-self.branch [
      | then-self w ↦ forgotten c.args.self.now c.if-self.self (cc, cc)
      | else-self w ↦ unchanged c.args.self.now c.if-self.self (cc, cc)
    ] in
    rw c.keep.ensures (stands_kept c.if-self.self c.args.byte bytes stays.coming
    (ne_eqb c.args.byte 10 c.if-byte-eq10.false) (stays.stands bytes stands))

pub returns-else-byte-eq10-clause-lines : goal.returns-else-byte-eq10-clause-lines
returns-else-byte-eq10-clause-lines c bytes stands = lines_kept c.args.self.now c.args.byte bytes
    (ne_eqb c.args.byte 10 c.if-byte-eq10.false)
