use Rattle.std.proofs.Common.{◌∙◌, ◌++◌, List, ℕ, take, drop, sym, ap, append_assoc}
use Rattle.std.proofs.lemmas.Bool.{false≢true}
use Rattle.std.proofs.lemmas.List.{take-append-drop}
use Rattle.caster_record.proofs.PeerLemmas.{rose_one}
use Rattle.caster_record.proofs.hearing.give.Goals as goal

pub returns-in-Err : goal.returns-in-Err
returns-in-Err g c =
    let w = c.in-Err.ensures.written in
    let told = g.L.Link.told in
    let piece : List ℕ = c.args.piece.now in
    let n : ℕ = w.torn.0 in
    record {
      given = w.given;
      left = w.left;
      taken = w.taken;
      bytes = λ list is.
          let grew = w.torn.2 list is in (
            grew.0,
            grew.1,
            drop n piece,
            ap (λ (l : List ℕ). grew.0 ++ l) (sym (take-append-drop n piece))
                ∙ sym (append_assoc grew.0 (take n piece) (drop n piece))
                ∙ ap (λ (l : List ℕ). l ++ drop n piece) (sym grew.2),
            λ whole. absurd (false≢true (sym whole)),
          );
      later = w.later;
      failed = λ torn. rose_one (told c.args.link.now).faults (told c.write.new.self).faults w.failed;
    }
