-- A connection without head and reply.
use Rattle.std.proofs.Common.{◌≡◌, ◌∙◌, ℕ, Bool, List, [], ◌++◌, refl, sym, subst, inl, inr}
use Rattle.cast_config.specs.declared.config.Config.{Config}
use Rattle.session_core.specs.declared.ending.Bare.{Bare}
use Rattle.session_core.specs.declared.ending.Bare.TheVariants as bare
use Rattle.session_core.specs.declared.session.Session.{Session}
use Rattle.session_model.specs.Headings.{incomplete}
use Rattle.session_model.specs.Judged.{judged}
use Rattle.session_model.specs.Replies.{opening_text}
use Rattle.session_model.specs.Run.{Histories}
use Rattle.session_model.specs.Called.{Called}
use Rattle.session_core.specs.Beginnings.{bare_opening}
use Rattle.session_core.specs.Standing.{Fed, IsSentBy, Stands, is_halted_uncalled}
use Rattle.session_core.specs.Begun.{Begins, BeginsFor, due_by}
use Rattle.session_core.proofs.CloseLemmas.{called_none}

nothing_added : (added after : List ℕ) → after ≡ [] ++ added → after ≡ [] → added ≡ []
nothing_added added after out none = sym out ∙ none

stands_bare : (c : Config) (alone : Bool) (old now : Histories) (role : Bare) (name : List ℕ) (session : Session)
    (after : List ℕ)
    (b : Begins c alone old now session.me (judged c (bare_opening role name) incomplete []) session.stage session.ended
    [] after) → b.added ≡ []
    → Stands c session (bare_opening role name) [] b.more now []
stands_bare c alone old now bare.Source name session after b none = record {
  heading = incomplete;
  is_heading = refl;
  owes = b.owes;
  ends = b.ends;
  stage = b.stage_is (bare_opening bare.Source name) [];
  halts = b.halts;
  sent_is = subst (λ (l : List ℕ). IsSentBy (is_halted_uncalled session.ended b.more) l (due_by c now
      (judged c (bare_opening bare.Source name) incomplete []) b.more)) none b.sent_is;
}
stands_bare c alone old now bare.Rover name session after b none = record {
  heading = incomplete;
  is_heading = refl;
  owes = b.owes;
  ends = b.ends;
  stage = b.stage_is (bare_opening bare.Rover name) [];
  halts = b.halts;
  sent_is = subst (λ (l : List ℕ). IsSentBy (is_halted_uncalled session.ended b.more) l (due_by c now
      (judged c (bare_opening bare.Rover name) incomplete []) b.more)) none b.sent_is;
}

unsent_bare : (c : Config) (role : Bare) (name : List ℕ) → [] ≡ opening_text c (bare_opening role name)
unsent_bare c bare.Source name = refl
unsent_bare c bare.Rover name = refl

pub bare_begun : (c : Config) (alone : Bool) (old now : Histories) (role : Bare) (name : List ℕ) (session : Session)
    (after : List ℕ)
    → BeginsFor c alone old now session.me (judged c (bare_opening role name) incomplete []) session.stage session.ended
    [] after → after ≡ [] → Fed c alone old now session (bare_opening role name) [] [] [] [] []
bare_begun c alone old now role name session after (inl b) none =
    let added : b.added ≡ [] = nothing_added b.added after b.out none in
    record {
      more = b.more;
      added = [];
      out = refl;
      called = b.called;
      no_read = b.no_read;
      stands = inl (stands_bare c alone old now role name session after b added);
    }
bare_begun c alone old now role name session after (inr lost) none = record {
  more = [];
  added = [];
  out = refl;
  called = subst (λ (h : Histories). Called c alone old h session.me []) (sym lost.uncalled)
      (called_none c alone old session.me);
  no_read = refl;
  stands = inr (record {
    ended = lost.ended_is;
    stage = lost.stage_is;
    uncalled = refl;
    unsent = unsent_bare c role name;
  });
}
