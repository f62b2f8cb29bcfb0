-- A session follows its places while another one is served there.
use Rattle.std.proofs.Common.{◌≡◌, ◌≢◌, ◌∙◌, ◌-◌, ◌≤◌, ℕ, zero, suc, Bool, true, false, IsTrue, List, [], ◌∷◌, ◌++◌, length, take, refl, sym, subst, arith, length-append}
use Rattle.turn_log.proofs.HistoryLaws.{goes_both}
use Rattle.turn_log.proofs.HeardLaws.{heard_others}
use Rattle.session_calls.specs.Steps.{Step, on_ring, on_book}
use Rattle.session_calls.specs.Rings.{history_at, answer_at}
use Rattle.cast_config.specs.declared.config.Config.{Config}
use Rattle.session_core.specs.declared.session.Session.{Session}
use Rattle.session_model.specs.Setting.{shapes}
use Rattle.session_model.specs.Judged.{Opening}
use Rattle.session_model.specs.Run.{Histories}
use Rattle.session_model.specs.Called.{Called, OthersCalled, book_answer}
use Rattle.session_core.specs.Standing.{StandsFor, Follows, Fed}
use Rattle.session_core.specs.Turned.{Turned, is_rover}
use Rattle.session_core.proofs.FeedHeadLemmas.{others_none}

-- before any bytes came in
pub follows_first : (c : Config) (session : Session) (now : Histories) (opening : Opening) (steps : List Step)
    (sent : List ℕ) → StandsFor c session opening [] steps now sent → Follows c session now 4294967296
follows_first c session now opening steps sent stands =
    (opening, [], steps, now, sent, stands, others_none now session.me, omega arith)

-- fewer bytes may come
pub follows_less : (c : Config) (session : Session) (now : Histories) (room less : ℕ) → less ≤ room
    → Follows c session now room → Follows c session now less
follows_less c session now room less is (opening, text, steps, histories, sent, stands, others, few) =
    (opening, text, steps, histories, sent, stands, others, omega (arith, is, few))

-- others called
pub follows_on : (c : Config) (session : Session) (old now : Histories) (room : ℕ) → Follows c session old room
    → OthersCalled old now session.me → Follows c session now room
follows_on c session old now room (opening, text, steps, histories, sent, stands, first, few) then = (
  opening,
  text,
  steps,
  histories,
  sent,
  stands,
  record {
    rings = record {
      size = then.rings.size ∙ first.rings.size;
      rings = λ mount. goes_both session.me (history_at histories.rings mount) (history_at old.rings mount)
          (history_at now.rings mount) (first.rings.rings mount) (then.rings.rings mount);
    };
    book = goes_both session.me histories.book old.book now.book first.book then.book;
  },
  few,
)

-- what one caller calls where nobody else does is no call of any other
pub others_by : (c : Config) (alone : Bool) (old now : Histories) (me by : ℕ) (steps : List Step) → IsTrue alone
    → by ≢ me → Called c alone old now me steps → OthersCalled old now by
others_by c alone old now me by steps is apart called =
    let all : Called c true old now me steps = subst (λ (b : Bool). Called c b old now me steps) is called in
    record {
      rings = record {
        size = all.rings.size;
        rings = λ mount. heard_others (answer_at (shapes c) mount) by me (history_at old.rings mount)
            (history_at now.rings mount) (on_ring mount steps) (λ e. apart (sym e)) (all.rings.rings mount);
      };
      book = heard_others (book_answer c) by me old.book now.book (on_book steps) (λ e. apart (sym e)) all.book;
    }

-- ---- bytes came in

-- no more are taken than are asked for
pub taken_few : (n room : ℕ) (bytes : List ℕ) → n ≤ room → length (take n bytes) ≤ room
taken_few zero room bytes is = omega arith
taken_few (suc n) room [] is = omega arith
taken_few (suc n) room (byte ∷ bytes) is = let rest : length (take n bytes) ≤ n = taken_few n n bytes (omega arith) in
    omega (arith, is, rest)

abbrev pub FedBy : Config → Bool → Session → Session → Histories → Histories → List ℕ → List ℕ → List ℕ → Type 0
FedBy c alone old new h now bytes before after =
    (opening : Opening) (text : List ℕ) (steps : List Step) (histories : Histories) (sent : List ℕ)
    → StandsFor c old opening text steps histories sent → OthersCalled histories h old.me
    → Fed c alone h now new opening (text ++ bytes) steps sent before after

pub fed_follows : (c : Config) (alone : Bool) (old new : Session) (h now : Histories) (bytes before after : List ℕ)
    (room : ℕ) → length bytes ≤ room → Follows c old h room → FedBy c alone old new h now bytes before after
    → Follows c new now (room - length bytes)
fed_follows c alone old new h now bytes before after room within
    (opening, text, steps, histories, sent, stands, others, few) fed =
    let on = fed opening text steps histories sent stands others in (
      opening,
      text ++ bytes,
      steps ++ on.more,
      now,
      sent ++ on.added,
      on.stands,
      others_none now new.me,
      omega (arith, within, few, length-append text bytes),
    )

pub fed_others : (c : Config) (alone : Bool) (old new : Session) (h now : Histories) (bytes before after : List ℕ)
    (room by : ℕ) → IsTrue alone → new.me ≡ old.me → by ≢ old.me → Follows c old h room
    → FedBy c alone old new h now bytes before after → OthersCalled h now by
fed_others c alone old new h now bytes before after room by is same apart
    (opening, text, steps, histories, sent, stands, others, few) fed =
    let on = fed opening text steps histories sent stands others in
    others_by c alone h now new.me by on.more is (λ e. apart (e ∙ same)) on.called

-- ---- a turn was taken

abbrev pub TurnedBy : Config → Bool → Session → Session → Histories → Histories → ℕ → List ℕ → List ℕ → Type 0
TurnedBy c alone old new h now budget before after =
    is_rover old.stage ≡ true → (opening : Opening) (text : List ℕ) (steps : List Step) (histories : Histories)
    (sent : List ℕ) → StandsFor c old opening text steps histories sent → OthersCalled histories h old.me
    → Turned c alone h now budget new opening text steps sent before after

abbrev pub Stayed : Session → Session → Histories → Histories → Type 0
Stayed old new h now = is_rover old.stage ≡ false → (new ≡ old) × (now ≡ h)

pub turned_follows : (c : Config) (alone : Bool) (old new : Session) (h now : Histories) (budget : ℕ)
    (before after : List ℕ) (room : ℕ) → Follows c old h room → Stayed old new h now
    → TurnedBy c alone old new h now budget before after → Follows c new now room
turned_follows c alone old new h now budget before after room follows stayed turned =
    by (is_rover old.stage) refl follows where
      by : (b : Bool) → is_rover old.stage ≡ b → Follows c old h room → Follows c new now room
      by false is all =
          subst (λ (s : Session). Follows c s now room) (sym (stayed is).0)
          (subst (λ (x : Histories). Follows c old x room) (sym (stayed is).1) all)
      by true is (opening, text, steps, histories, sent, stands, others, few) =
          let on = turned is opening text steps histories sent stands others in
          (opening, text, steps ++ on.more, now, sent ++ on.added, on.stands, others_none now new.me, few)

pub turned_others : (c : Config) (alone : Bool) (old new : Session) (h now : Histories) (budget : ℕ)
    (before after : List ℕ) (room by : ℕ) → IsTrue alone → new.me ≡ old.me → by ≢ old.me → Follows c old h room
    → Stayed old new h now → TurnedBy c alone old new h now budget before after → OthersCalled h now by
turned_others c alone old new h now budget before after room by is_alone same apart follows stayed turned =
    at (is_rover old.stage) refl follows where
      at : (b : Bool) → is_rover old.stage ≡ b → Follows c old h room → OthersCalled h now by
      at false is all = subst (λ (x : Histories). OthersCalled h x by) (sym (stayed is).1) (others_none h by)
      at true is (opening, text, steps, histories, sent, stands, others, few) =
          let on = turned is opening text steps histories sent stands others in
          others_by c alone h now new.me by on.more is_alone (λ e. apart (e ∙ same)) on.called
