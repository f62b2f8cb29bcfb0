-- A script that has put one line more.
use Rattle.std.proofs.Common.{◌≡◌, ◌∙◌, ℕ, ◌+◌, ◌<◌, List, [], ◌∷◌, ◌++◌, length, take, get_or, sym, ap, append_assoc}
use Rattle.std.proofs.lemmas.List.{take_more}
use Rattle.caster_press.specs.declared.line.Line.{Line}
use Rattle.caster_press.specs.Places.{HasPut, IsSamePlace, PlaceTold}
use Rattle.caster_press.proofs.PlaceLemmas.{put_then, same_then}

-- A work went on at this place: what it has put of its list is what it had put, and behind that
-- exactly what was put since then.
pub record GoesOn (me : ℕ) (old new : PlaceTold) (before after : List Line) : Type 0 where
  pub same : IsSamePlace old new
  pub more : List Line
  pub next : after ≡ before ++ more
  pub put : HasPut me more old.seen new.seen

-- a line was put behind those of before
pub on_more : (me : ℕ) (old mid new : PlaceTold) (before lines : List Line) (i : ℕ) (d line : Line)
    → i < length lines → line ≡ get_or lines i d → GoesOn me old mid before (take i lines) → IsSamePlace mid new
    → HasPut me (line ∷ []) mid.seen new.seen → GoesOn me old new before (take (i + 1) lines)
on_more me old mid new before lines i d line below at so_far same put = record {
  same = same_then old mid new so_far.same same;
  more = so_far.more ++ line ∷ [];
  next = take_more lines i d below ∙ ap (λ l. l ++ get_or lines i d ∷ []) so_far.next
      ∙ ap (λ x. (before ++ so_far.more) ++ x ∷ []) (sym at) ∙ append_assoc before so_far.more (line ∷ []);
  put = put_then me so_far.more (line ∷ []) old.seen mid.seen new.seen so_far.put put;
}
