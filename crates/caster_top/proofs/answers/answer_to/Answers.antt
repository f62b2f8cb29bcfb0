-- Each answer is the outcome of the words and of what came, or has its cause.
use Rattle.std.proofs.Common.{sym, subst, ◌+◌, ◌*◌, ◌≤◌, length, Option}
use Rattle.caster_top.proofs.AnswerLemmas.{usage_is_outcome}
use Rattle.caster_top.proofs.AskedLemmas.{asked_so}
use Rattle.caster_top.proofs.OfflineLemmas.{within_limits, reads_nothing, names_nothing, offline_answer, offline_alone}
use Rattle.caster_top.specs.Command.{Form, texts, casting, files_of}
use Rattle.caster_top.proofs.CastingLemmas.{casting_answer, casting_asked, casting_read}
use Rattle.caster_top.proofs.answers.answer_to.Goals as goal

pub returns-in-None-clause-answer : goal.returns-in-None-clause-answer
returns-in-None-clause-answer g c = usage_is_outcome _ _ _ (sym c.in-None.ensures.command)

pub returns-in-None-clause-casting : goal.returns-in-None-clause-casting
returns-in-None-clause-casting g c task config addr limit are =
    absurd (c.in-None.ensures.none (casting task config addr limit) are)

pub answer_offline-requires : goal.answer_offline-requires
answer_offline-requires g c =
    within_limits (texts c.args.words.now) _ (rw c.in-Some-Offline.field-0-is at c.in-Some-Offline.ensures.form)

pub returns-in-Some-Offline-clause-answer : goal.returns-in-Some-Offline-clause-answer
returns-in-Some-Offline-clause-answer g c =
    offline_answer (texts c.args.words.now) _ _ _ _ _ c.answer_offline.result
    (sym (rw c.in-Some-Offline.field-0-is at c.in-Some-Offline.ensures.command))
    (rw c.in-Some-Offline.field-0-is at c.in-Some-Offline.ensures.form) c.answer_offline.ensures.answer

pub returns-in-Some-Offline-clause-kept_input : goal.returns-in-Some-Offline-clause-kept_input
returns-in-Some-Offline-clause-kept_input g c = record {
  unread = λ none.
      c.answer_offline.ensures.unread
      (reads_nothing (texts c.args.words.now) _ (rw c.in-Some-Offline.field-0-is at c.in-Some-Offline.ensures.form) none);
  reads = c.answer_offline.ensures.reads;
  faults = c.answer_offline.ensures.input_later;
}

pub returns-in-Some-Offline-clause-asked : goal.returns-in-Some-Offline-clause-asked
returns-in-Some-Offline-clause-asked g c =
    asked_so (texts c.args.words.now) _ _ _ _
    (sym (rw c.in-Some-Offline.field-0-is at c.in-Some-Offline.ensures.command)) c.answer_offline.ensures.asked

pub returns-in-Some-Offline-clause-kept_store : goal.returns-in-Some-Offline-clause-kept_store
returns-in-Some-Offline-clause-kept_store g c =
    let S = g.S.Source in record {
      unasked = λ none.
          c.answer_offline.ensures.unasked
          (names_nothing (texts c.args.words.now) _ (rw c.in-Some-Offline.field-0-is at c.in-Some-Offline.ensures.form)
          none);
      files = c.answer_offline.ensures.kept.files;
      few = subst (λ (form : Option Form). S.reads c.answer_offline.new.store
          ≤ S.reads c.args.store.now + 8388610 * length (files_of form))
          (rw c.in-Some-Offline.field-0-is at c.in-Some-Offline.ensures.command) c.answer_offline.ensures.kept.few;
      faults = c.answer_offline.ensures.kept.faults;
    }

pub returns-in-Some-Offline-clause-casting : goal.returns-in-Some-Offline-clause-casting
returns-in-Some-Offline-clause-casting g c task config addr limit are =
    offline_alone (texts c.args.words.now) _ task config addr limit
    (sym (rw c.in-Some-Offline.field-0-is at c.in-Some-Offline.ensures.command)) are

pub returns-in-Some-Cast-clause-answer : goal.returns-in-Some-Cast-clause-answer
returns-in-Some-Cast-clause-answer g c =
    casting_answer _ _ _ _ _ _ _ _ _ _ _ c.answer_to_cast.result
    (sym (rw c.in-Some-Cast.field-0-is at c.in-Some-Cast.ensures.command))
    (rw c.in-Some-Cast.field-0-is at c.in-Some-Cast.ensures.form) c.answer_to_cast.ensures.casting

pub returns-in-Some-Cast-clause-asked : goal.returns-in-Some-Cast-clause-asked
returns-in-Some-Cast-clause-asked g c =
    casting_asked (texts c.args.words.now) c.in-Some-Cast.casting.task c.in-Some-Cast.casting.config.now
    c.in-Some-Cast.casting.addr.now c.in-Some-Cast.casting.limit (g.S.Source.store c.args.store.now).files _ _
    (sym (rw c.in-Some-Cast.field-0-is at c.in-Some-Cast.ensures.command)) c.answer_to_cast.ensures.asked

pub returns-in-Some-Cast-clause-kept_store : goal.returns-in-Some-Cast-clause-kept_store
returns-in-Some-Cast-clause-kept_store g c =
    let S = g.S.Source in record {
      unasked = λ none.
          absurd (none.2 _ _ _ _ (rw c.in-Some-Cast.field-0-is at c.in-Some-Cast.ensures.form));
      files = c.answer_to_cast.ensures.kept.files;
      few = subst (λ (form : Option Form). S.reads c.answer_to_cast.new.store
          ≤ S.reads c.args.store.now + 8388610 * length (files_of form))
          (rw c.in-Some-Cast.field-0-is at c.in-Some-Cast.ensures.command) c.answer_to_cast.ensures.kept.few;
      faults = c.answer_to_cast.ensures.kept.faults;
    }

pub returns-in-Some-Cast-clause-casting : goal.returns-in-Some-Cast-clause-casting
returns-in-Some-Cast-clause-casting g c task config addr limit are =
    casting_read (texts c.args.words.now) _ _ task _ _ config addr _ limit _ _ _ c.answer_to_cast.result
    (sym (rw c.in-Some-Cast.field-0-is at c.in-Some-Cast.ensures.command)) are c.answer_to_cast.ensures.casting
