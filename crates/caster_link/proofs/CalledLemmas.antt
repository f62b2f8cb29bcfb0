-- Calls of one connection, one after the other.
use Rattle.std.proofs.Common.{ℕ, Bool, false, List, [], ◌++◌, refl, sym, subst}
use Rattle.std.proofs.lemmas.List.{append-nil}
use Rattle.std.proofs.lemmas.List.Concat.{flat_map-append}
use Rattle.turn_log.specs.Heard.{Heard}
use Rattle.turn_log.proofs.HeardLaws.{heard_none, heard_both, heard_less}
use Rattle.session_calls.specs.Steps.{Step, on_book, book_part}
use Rattle.session_calls.proofs.WentLemmas.{went_none, went_both, went_less}
use Rattle.cast_config.specs.declared.config.Config.{Config}
use Rattle.session_model.specs.Setting.{shapes}
use Rattle.session_model.specs.Run.{Histories}
use Rattle.session_model.specs.Called.{Called, OthersCalled, book_answer}

-- nothing called
pub called_none : (c : Config) (h : Histories) (me : ℕ) → Called c false h h me []
called_none c h me = record {
  rings = went_none (shapes c) false h.rings me;
  book = heard_none false (book_answer c) h.book me;
}

-- some calls, and then some more
pub called_both : (c : Config) (a b d : Histories) (me : ℕ) (first second : List Step)
    → Called c false a b me first → Called c false b d me second → Called c false a d me (first ++ second)
called_both c a b d me first second x y = record {
  rings = went_both (shapes c) false a.rings b.rings d.rings me first second x.rings y.rings;
  book = subst (λ pairs. Heard false (book_answer c) a.book d.book me pairs)
      (sym (flat_map-append book_part first second))
      (heard_both false (book_answer c) a.book b.book d.book me (on_book first) (on_book second) x.book y.book);
}

-- what holds where places are alone holds where that is not claimed
pub called_less : (c : Config) (alone : Bool) (old now : Histories) (me : ℕ) (steps : List Step)
    → Called c alone old now me steps → Called c false old now me steps
called_less c alone old now me steps x = record {
  rings = went_less (shapes c) alone false old.rings now.rings me steps (λ is. absurd cc) x.rings;
  book = heard_less alone false (book_answer c) old.book now.book me (on_book steps) (λ is. absurd cc) x.book;
}

-- nobody called
pub others_none : (h : Histories) (me : ℕ) → OthersCalled h h me
others_none h me = record {
  rings = record { size = refl; rings = λ mount. ([], sym (append-nil _), refl) };
  book = ([], sym (append-nil h.book), refl);
}
