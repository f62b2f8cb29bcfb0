-- What an entry into an account was answered, and what is known of a rover that entered its own.
use Rattle.std.specs.Prelude.{◌≡◌, ℕ, Bool, IsTrue, [], ◌∷◌, Option, unwrap_or}
use Rattle.turn_log.specs.Heard.{Heard}
use Rattle.caster_accounts.specs.declared.call.BookCall.TheVariants.{Enter}
use Rattle.caster_accounts.specs.declared.call.BookAnswer.{BookAnswer}
use Rattle.caster_accounts.specs.declared.call.BookAnswer.TheVariants as books
use Rattle.caster_accounts.specs.History.{may_leave}
use Rattle.ntrip_head.specs.declared.request.Version.{Version}
use Rattle.ntrip_head.specs.declared.request.Version.TheVariants.{One}
use Rattle.rover_session.specs.declared.session.RoverSession.{RoverSession}
use Rattle.access_groups.specs.declared.admission.Admission.{Admission}
use Rattle.cast_config.specs.declared.config.Config.{Config}
use Rattle.session_model.specs.Setting.{caps}
use Rattle.session_model.specs.Owed.{terms_of}
use Rattle.session_model.specs.Run.{Histories}
use Rattle.session_model.specs.Called.{book_answer}
use Rattle.session_core.specs.declared.book.EnterAnswer.{EnterAnswer}
use Rattle.session_core.specs.declared.book.EnterAnswer.TheVariants.{Entered, Full}

abbrev pub answer_of : EnterAnswer → BookAnswer
answer_of Entered = books.Entered
answer_of (Full busy cap) = books.Full busy cap

-- The caller entered the account of this admission, for a session that was made by it.
pub record HasEntered (c : Config) (alone : Bool) (old now : Histories) (me : ℕ)
    (version : Option Version) (a : Admission) (account : ℕ) (session : RoverSession)
    : Type 0 where
  pub account_is : a.account ≡ account
  pub entered : Heard alone (book_answer c) old.book now.book me
      ((Enter a.account, books.Entered) ∷ [])
  pub inside : IsTrue (may_leave (caps c) now.book me a.account)
  pub caller : session.me ≡ me
  pub terms_are : session.terms ≡ terms_of c a
  pub version_is : session.version ≡ unwrap_or version One
