-- One step of a connection that goes on, put together of its parts.
use Rattle.std.proofs.Common.{◌≡◌, ◌∙◌, ℕ, Bool, true, false, List, [], ◌∷◌, ◌++◌, length, drop, refl, sym, ap, subst, append_assoc}
use Rattle.std.specs.Prelude.{◌||◌, ◌&&◌}
use Rattle.std.specs.List.{list_any}
use Rattle.std.proofs.Math.Seq.{drop-append_seam}
use Rattle.std.proofs.lemmas.List.{append-nil}
use Rattle.cast_io.specs.declared.link.Got.{Got}
use Rattle.cast_io.specs.declared.link.Got.TheVariants as got
use Rattle.cast_io.specs.declared.steps.Step.{Step}
use Rattle.cast_io.specs.Told.{LinkTold}
use Rattle.cast_io.specs.Links.{step_of}
use Rattle.session_script.specs.declared.Event.{Event}
use Rattle.session_model.specs.Headings.{Heading}
use Rattle.session_model.specs.Run.{Connected, World, is_concerned}
use Rattle.rover_session.specs.Made.{segments_after}
use Rattle.cast_config.specs.declared.config.Config.{Config}
use Rattle.caster_replay.specs.Going.{GoesOn, IsBehind, is_going, is_behind, has_frames}
use Rattle.caster_replay.specs.Kept.{lives_of, sent_by_run}
use Rattle.caster_replay.specs.Lives.{Live}
use Rattle.caster_replay.specs.Sends.{IsSilent, SendsTo, sent_in}
use Rattle.caster_record.specs.declared.hearing.GotText.{GotText}
use Rattle.caster_record.specs.declared.hearing.GotText.TheVariants as heard
use Rattle.caster_record.specs.declared.recorder.Recorder.{Recorder}
use Rattle.caster_record.specs.Giving.{HasGiven}
use Rattle.caster_record.specs.Hearing.{Answers, HasHeard, step_heard}
use Rattle.caster_record.specs.Moves.{served, taken_in, torn_step, is_torn, heard_by, turn_if, break_if}
use Rattle.caster_record.specs.Peers.{IsPeer}
use Rattle.caster_record.specs.Recording.{events_in}
use Rattle.caster_record.specs.Steps.{IsServed}
use Rattle.caster_record.proofs.MoveLemmas.{taken_own}
use Rattle.caster_record.proofs.PeerLemmas.{peer_served}

-- ---- who does not go on has no frames to read

less : (a b r s : Bool) → (a || r) ≡ false → (r ≡ false → s ≡ false) → ((a && b) || s) ≡ false
less true b r s none so = absurd cc
less false b r s none so = so none

any_less : {X : Type 0} (p q : X → Bool) (list : List X) → list_any p list ≡ false
    → list_any (λ x. p x && q x) list ≡ false
any_less p q [] none = refl
any_less p q (x ∷ list) none =
    less (p x) (q x) (list_any p list) (list_any (λ y. p y && q y) list) none (any_less p q list)

pub none_behind : (c : Config) (headings : ℕ → Heading) (w : World) (n : ℕ) → is_going c headings w n ≡ false
    → is_behind c headings w n ≡ false
none_behind c headings w n none =
    any_less (λ (d : Connected). is_concerned c (headings d.number) n d)
    (λ (d : Connected). has_frames w.histories.rings (segments_after [] d.steps)) w.connections none

-- ---- events that send nothing

pub sends_none : (k : ℕ) (before after : List Live) → IsSilent before after → SendsTo k before after
sends_none k before after silent = record {
  others = λ n apart. silent n;
  more = [];
  own = silent k ∙ sym (append-nil (sent_in k before));
}

-- ---- a step

same_step : (result : Got) (buf : List ℕ) (answer : GotText) → Answers result buf answer
    → step_of result buf ≡ step_heard answer
same_step (got.Bytes n) buf (heard.Bytes bytes) is = rw (is) refl
same_step got.Idle buf heard.Idle is = refl
same_step got.End buf heard.End is = refl
same_step got.Failed buf heard.Failed is = refl
same_step (got.Bytes n) buf heard.Idle is = absurd is
same_step (got.Bytes n) buf heard.End is = absurd is
same_step (got.Bytes n) buf heard.Failed is = absurd is
same_step got.Idle buf (heard.Bytes bytes) is = absurd is
same_step got.Idle buf heard.End is = absurd is
same_step got.Idle buf heard.Failed is = absurd is
same_step got.End buf (heard.Bytes bytes) is = absurd is
same_step got.End buf heard.Idle is = absurd is
same_step got.End buf heard.Failed is = absurd is
same_step got.Failed buf (heard.Bytes bytes) is = absurd is
same_step got.Failed buf heard.Idle is = absurd is
same_step got.Failed buf heard.End is = absurd is

heard_calm : (answer : GotText) → is_torn (step_heard answer) ≡ false
heard_calm (heard.Bytes bytes) = refl
heard_calm heard.Idle = refl
heard_calm heard.End = refl
heard_calm heard.Failed = refl

-- what was sent since, from the place where it began
since : (old new more : List ℕ) (from : ℕ) → from ≡ length old → new ≡ old ++ more → old ++ drop from new ≡ new
since old new more from is all =
    ap (λ (l : List ℕ). old ++ l)
    (ap (λ (n : ℕ). drop n new) is ∙ ap (drop (length old)) all ∙ drop-append_seam old more)
    ∙ sym all

pub step_served : (c : Config) (k from : ℕ) (before read now : LinkTold) (old first second new : Recorder)
    (answer : GotText)
    (behind going torn : Bool) → GoesOn c (events_in old) k true → from ≡ length (sent_by_run old.run k)
    → HasHeard before read answer
    → events_in first ≡ events_in old ++ heard_by k (step_heard answer)
    → SendsTo k (lives_of old.run) (lives_of first.run)
    → IsBehind c (events_in first) k behind → events_in second ≡ events_in first ++ turn_if k behind
    → SendsTo k (lives_of first.run) (lives_of second.run)
    → HasGiven read now torn (drop from (sent_by_run second.run k))
    → GoesOn c (events_in second) k going → events_in new ≡ events_in second ++ break_if k (torn && going)
    → IsSilent (lives_of second.run) (lives_of new.run)
    → IsServed c k before now old new torn
step_served c k from before read now old first second new answer behind going torn
    went place h took sent_first is_behind turned sent_second gave is_going broke silent = record {
      answer = step_heard answer;
      calm = heard_calm answer;
      is_served = record {
        went_on = went;
        behind = behind;
        is_behind = subst (λ (l : List Event). IsBehind c l k behind) took is_behind;
        going = going;
        is_going = subst (λ (l : List Event). GoesOn c l k going) both is_going;
        events = broke ∙ ap (λ (l : List Event). l ++ break_if k (torn && going)) both;
      };
      peer = λ moves p whole.
          subst (λ (l : List ℕ). IsPeer k (moves ++ served k (step_heard answer) torn ∷ []) l now)
          (since (sent_by_run old.run k) (sent_by_run second.run k) (sent_first.more ++ sent_second.more) from place
          (sent_second.own ∙ ap (λ (l : List ℕ). l ++ sent_second.more) sent_first.own
          ∙ append_assoc (sent_by_run old.run k) sent_first.more sent_second.more)
          ∙ sym (silent k))
          (peer_served k moves (moves ++ served k (step_heard answer) torn ∷ []) (sent_by_run old.run k)
          (drop from (sent_by_run second.run k)) before read now h.got h.buf torn p whole h.read h.size
          (taken_own k k moves (step_heard answer) torn refl
          ∙ ap (λ (s : Step). taken_in k moves ++ s ∷ torn_step torn) (sym (same_step h.got h.buf answer h.is))) gave);
      given = gave.given ∙ h.read.given;
      others = λ n apart. silent n ∙ sent_second.others n apart ∙ sent_first.others n apart;
    }
  where
    both : events_in second ≡ (events_in old ++ heard_by k (step_heard answer)) ++ turn_if k behind
    both = turned ∙ ap (λ (l : List Event). l ++ turn_if k behind) took
