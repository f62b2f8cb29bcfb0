-- Lines that one caller put.
use Rattle.std.proofs.Common.{◌≡◌, ◌∙◌, ◌==◌, ℕ, ◌<◌, ◌+◌, List, [], ◌∷◌, ◌++◌, length, take, get_or, refl, sym, ap, subst, append_assoc, append-nil, cond}
use Rattle.std.proofs.lemmas.Bool.{eqb-true, eq-eqb}
use Rattle.std.proofs.lemmas.List.{take_more}
use Rattle.turn_log.specs.History.{History, own}
use Rattle.turn_log.proofs.HistoryLaws.{own-append}
use Rattle.caster_press.specs.declared.line.Line.{Line}
use Rattle.caster_press.specs.Places.{HasPut, IsAt, IsSamePlace, LockTold, PlaceTold}

own_one : (me : ℕ) (line : Line) → own me ((me, line) ∷ []) ≡ line ∷ []
own_one me line = ap (λ t. cond t (line ∷ []) []) (eq-eqb me me refl)

-- nothing was put, and nobody put anything
pub put_none : (me : ℕ) (old new : History Line) → new ≡ old → HasPut me [] old new
put_none me old new same = record { more = []; goes_on = same ∙ sym (append-nil old); mine = refl }

-- one line was put, behind those of others
pub put_one : (me : ℕ) (old others new : History Line) (line : Line) → own me others ≡ []
    → new ≡ (old ++ others) ++ (me, line) ∷ [] → HasPut me (line ∷ []) old new
put_one me old others new line none is = record {
  more = others ++ (me, line) ∷ [];
  goes_on = is ∙ append_assoc old others ((me, line) ∷ []);
  mine = own-append me others ((me, line) ∷ []) ∙ ap (λ l. l ++ own me ((me, line) ∷ [])) none ∙ own_one me line;
}

-- some lines were put, and then some more
pub put_then : (me : ℕ) (first second : List Line) (old mid new : History Line) → HasPut me first old mid
    → HasPut me second mid new → HasPut me (first ++ second) old new
put_then me first second old mid new a b = record {
  more = a.more ++ b.more;
  goes_on = b.goes_on ∙ ap (λ h. h ++ b.more) a.goes_on ∙ append_assoc old a.more b.more;
  mine = own-append me a.more b.more ∙ ap (λ l. l ++ own me b.more) a.mine ∙ ap (λ l. first ++ l) b.mine;
}

-- the caller's own lines are those that it had put, and these behind them
pub own-put : (me : ℕ) (lines : List Line) (old new : History Line) → HasPut me lines old new
    → own me new ≡ own me old ++ lines
own-put me lines old new put =
    ap (own me) put.goes_on ∙ own-append me old put.more ∙ ap (λ l. own me old ++ l) put.mine

-- who had put nothing has put these lines, and no others
pub put_all_own : (me : ℕ) (lines : List Line) (old new : History Line) → own me old ≡ [] → HasPut me lines old new
    → lines ≡ own me new
put_all_own me lines old new none put = sym (own-put me lines old new put ∙ ap (λ l. l ++ lines) none)

-- the next line of a list was put
pub put_next : (me : ℕ) (lines : List Line) (i : ℕ) (d line : Line) (old mid new : History Line) → i < length lines
    → line ≡ get_or lines i d → HasPut me (take i lines) old mid → HasPut me (line ∷ []) mid new
    → HasPut me (take (i + 1) lines) old new
put_next me lines i d line old mid new below at so_far one =
    subst (λ l. HasPut me l old new) (ap (λ x. take i lines ++ x ∷ []) at ∙ sym (take_more lines i d below))
    (put_then me (take i lines) (line ∷ []) old mid new so_far one)

-- who speaks for the same callers has the same number
pub same_number : (n m : ℕ) → ((k : ℕ) → (k == n) ≡ (k == m)) → n ≡ m
same_number n m same = eqb-true n m (sym (same n) ∙ eq-eqb n n refl)

-- at this lock under this number, by another name
pub at_number : (n k : ℕ) (place : PlaceTold) (lock : LockTold) → n ≡ k → IsAt n place lock → IsAt k place lock
at_number n k place lock same at = subst (λ (i : ℕ). IsAt i place lock) same at

-- a place that is what it was, and still is
pub same_then : (a b c : PlaceTold) → IsSamePlace a b → IsSamePlace b c → IsSamePlace a c
same_then a b c first second = record {
  speaks = second.speaks ∙ first.speaks;
  home = second.home ∙ first.home;
  start = second.start ∙ first.start;
}

pub same_as_it_is : (a : PlaceTold) → IsSamePlace a a
same_as_it_is a = record { speaks = refl; home = refl; start = refl }
