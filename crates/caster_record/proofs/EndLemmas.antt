-- Where a recording begins, and where it is at its end.
use Rattle.std.proofs.Common.{◌≡◌, ◌≤◌, ℕ, Bool, List, [], length, length-append, map, refl, sym, ap, subst, arith}
use Rattle.std.specs.Prelude.{codes}
use Rattle.std.proofs.lemmas.List.{length-map}
use Rattle.cast_io.specs.Told.{LinkTold, DoorTold}
use Rattle.session_script.specs.declared.Event.{Event}
use Rattle.session_script.specs.Numbers.{no_numbers}
use Rattle.session_model.specs.Reports.{IsReport}
use Rattle.session_model.specs.declared.report.Report.{Report}
use Rattle.cast_config.specs.declared.config.Config.{Config}
use Rattle.caster_replay.specs.Going.{numbers_from}
use Rattle.caster_replay.specs.Kept.{sent_by_run}
use Rattle.caster_replay.specs.Scripts.{IsShort}
use Rattle.caster_replay.specs.Sends.{told_sent}
use Rattle.session_script.specs.Writing.{lines_text, script_text}
use Rattle.session_script.proofs.ScriptLemmas.{reads_plain}
use Rattle.caster_record.specs.declared.recorder.Recorder.{Recorder}
use Rattle.caster_record.specs.Keeping.{AreUpTo, RestsAfter}
use Rattle.caster_record.specs.Moves.{Move}
use Rattle.caster_record.specs.Recorded.{IsAtEnd, IsRecorded}
use Rattle.caster_record.specs.Recording.{kind_of, Records, events_in}
use Rattle.caster_record.specs.Rounds.{AreRounds, moves_of}
use Rattle.caster_record.proofs.MoveLemmas.{all_brought}
use Rattle.caster_record.proofs.PeerLemmas.{peers_same}
use Rattle.caster_record.proofs.RecordLemmas.{input_lines}

keep_none : {L : Type 0} (told : L → LinkTold) (c : Config) (limit : ℕ) (door : DoorTold) (new : Recorder)
    → Records c new → events_in new ≡ [] → ((n : ℕ) → sent_by_run new.run n ≡ [])
    → RestsAfter told c limit door door new [] []
keep_none told c limit door new records none unsent = record {
  rounds = [];
  are = (refl, none);
  asked = λ now is. (now, is, refl);
  calm = refl;
  keeps = record {
    records = records;
    made = none;
    peers = tt;
    size = refl;
    few = omega arith;
    marks = λ at within. absurd (omega (arith, within));
    unread = λ n least. refl;
    unsent = λ n least. unsent n;
    opened = subst (λ (l : List Event). AreUpTo 0 (numbers_from no_numbers l).opened) (sym none)
        (record { size = refl; least = λ n above. refl });
    bound = omega (arith, records.size, ap (λ (l : List Event). length (lines_text l)) none);
  };
}

pub rests_first : {L : Type 0} (told : L → LinkTold) (c : Config) (limit : ℕ) (door : DoorTold) (new : Recorder)
    (links : List L) (torn : List Bool) → links ≡ [] → torn ≡ [] → Records c new → events_in new ≡ []
    → ((n : ℕ) → sent_by_run new.run n ≡ []) → RestsAfter told c limit door door new links torn
rests_first told c limit door new links torn no_links no_torn records none unsent =
    subst (RestsAfter told c limit door door new links) (sym no_torn)
    (subst (λ l. RestsAfter told c limit door door new l []) (sym no_links)
    (keep_none told c limit door new records none unsent))

-- so few bytes come in that the run may be finished
pub short_enough : (c : Config) (recorder : Recorder) → Records c recorder → recorder.tape.size ≤ 8378380
    → IsShort (events_in recorder)
short_enough c recorder records bound = omega (arith, input_lines (events_in recorder), records.size, bound)

within_bound : (c : Config) (recorder : Recorder) → Records c recorder → recorder.tape.size ≤ 8378380
    → length (script_text (events_in recorder)) ≤ 8388608
within_bound c recorder records bound =
    omega (arith, length-append (lines_text (events_in recorder)) (codes "stop\n"), records.size, bound)

pub recorded : {L : Type 0} (told : L → LinkTold) (c : Config) (limit : ℕ) (before door : DoorTold)
    (recorder : Recorder) (links : List L) (torn : List Bool) (report : Report)
    → RestsAfter told c limit before door recorder links torn → IsReport c (events_in recorder) report
    → ((n : ℕ) → told_sent n report.connections ≡ sent_by_run recorder.run n)
    → IsAtEnd c limit (events_in recorder) (length links)
    → IsRecorded c limit before door (events_in recorder) report (map told links)
recorded told c limit before door recorder links torn report r is_report sent ended = record {
  session = r.keeps.records.session;
  bound = small;
  reads = reads_plain (kind_of c) (events_in recorder) r.keeps.records.session small;
  is_report = is_report;
  rounds = r.rounds;
  are = subst (λ (n : ℕ). AreRounds c limit r.rounds [] 0 [] n (events_in recorder)) (sym count) r.are;
  asked = r.asked;
  peers = peers_same 1 moves moves (sent_by_run recorder.run) (λ n. told_sent n report.connections) (map told links)
      (λ n least. refl) (λ n least. sent n) r.keeps.peers;
  brought = λ n. all_brought c n moves [] (events_in recorder) r.keeps.made;
  ended = subst (λ (n : ℕ). IsAtEnd c limit (events_in recorder) n) (sym count) ended;
}
  where
    count : length (map told links) ≡ length links
    count = length-map links told

    moves : List Move
    moves = moves_of r.rounds

    small : length (script_text (events_in recorder)) ≤ 8388608
    small = within_bound c recorder r.keeps.records r.keeps.bound
