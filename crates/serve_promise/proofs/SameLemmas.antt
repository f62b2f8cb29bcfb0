-- What a connection was is said of its bytes, of its segments and of whether it entered alone.
use Rattle.std.proofs.Common.{◌≡◌, ◌∙◌, ℕ, List, [], All, inl, inr, sym, subst}
use Rattle.std.specs.Prelude.{unwrap_or}
use Rattle.turn_log.specs.History.{History}
use Rattle.mount_ring.specs.declared.call.RingCall.{RingCall}
use Rattle.rover_cursor.specs.declared.segment.Segment.{Segment}
use Rattle.ntrip_head.specs.declared.request.Version.TheVariants.{One}
use Rattle.cast_config.specs.declared.config.Config.{Config}
use Rattle.session_model.specs.declared.report.Connection.{Connection}
use Rattle.session_model.specs.Judged.{SourceTerms, RoverTerms, Judged, waiting, finished, source, rover}
use Rattle.session_model.specs.Promises.{IsSoundIn, CountsAll}
use Rattle.session_model.specs.Replies.{kept_frames}
use Rattle.run_promise.specs.Calls.{Call}
use Rattle.run_promise.specs.Promised.{Holds, IsReplied, HasEntered, HasClaimed, WasTaken, Was}

pub record Same (x y : Connection) : Type 0 where
  pub bytes : x.bytes ≡ y.bytes
  pub entered : x.receipt.entered ≡ y.receipt.entered
  pub segments : x.receipt.segments ≡ y.receipt.segments

module _ (c : Config) (histories : List (History RingCall)) (x y : Connection) (before rest : List ℕ)
    (calls : List Call) (same : Same x y) where
  replied_same : (reply : List ℕ) → IsReplied x before calls reply → IsReplied y before calls reply
  replied_same reply is = (is.0, sym same.bytes ∙ is.1)

  entered_same : (terms : RoverTerms) (tail : List ℕ) → HasEntered c histories x terms before tail rest calls
      → HasEntered c histories y terms before tail rest calls
  entered_same terms tail is = record {
    entered = sym same.entered ∙ is.entered;
    all_bytes = is.all_bytes;
    selects = is.selects;
    filter = subst (All (λ (segment : Segment). segment.cursor.filter ≡ terms.admission.group)) same.segments is.filter;
    sound = subst (All (IsSoundIn c histories)) same.segments is.sound;
    counts = subst (All (CountsAll c histories)) same.segments is.counts;
    body = is.body;
    bytes = sym same.bytes ∙ is.bytes;
    holds = subst (λ (segments : List Segment). Holds (unwrap_or terms.version One) is.body
        (kept_frames c histories segments)) same.segments is.holds;
  }

  claimed_same : (terms : SourceTerms) (body : List ℕ) → HasClaimed x terms before body rest calls
      → HasClaimed y terms before body rest calls
  claimed_same terms body is = record {
    all_bytes = is.all_bytes;
    claim = is.claim;
    later = is.later;
    given = is.given;
    carried = is.carried;
    carries = is.carries;
    published = is.published;
    bytes = sym same.bytes ∙ is.bytes;
  }

  taken_same : (terms : SourceTerms) → WasTaken x terms before calls → WasTaken y terms before calls
  taken_same terms is = (is.0, is.1, is.2, sym same.bytes ∙ is.3)

  pub was_same : (j : Judged) → Was c histories x before rest calls j → Was c histories y before rest calls j
  was_same waiting is = (is.0, replied_same [] is.1)
  was_same (finished reply end) is = replied_same _ is
  was_same (source terms body) (inl is) = inl (claimed_same terms body is)
  was_same (source terms body) (inr is) = inr (taken_same terms is)
  was_same (rover terms tail) (inl is) = inl (entered_same terms tail is)
  was_same (rover terms tail) (inr is) = inr (sym same.entered ∙ is.0, replied_same _ is.1)
