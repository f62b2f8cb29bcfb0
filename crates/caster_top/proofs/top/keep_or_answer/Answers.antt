-- The run ended as a caster that kept serving, or with the answer that was written.
use Rattle.std.proofs.Common.{inl, inr, ap, arith}
use Rattle.cast_io.specs.Told.{StreetTold}
use Rattle.caster_top.proofs.KeepClauseLemmas.{keep_asked, keep_stored}
use Rattle.caster_top.proofs.RunLemmas.{answered_unserved}
use Rattle.caster_top.proofs.top.keep_or_answer.Goals as goal

pub returns-in-Some-clause-run : goal.returns-in-Some-clause-run
returns-in-Some-clause-run g c = record {
  ends = inr (inr (record {
    config = c.in-Some.keep.config.now;
    addr = c.in-Some.keep.addr.now;
    quiet = c.in-Some.keep.quiet;
    are = c.in-Some.ensures.keep;
    keeping = c.keep_serving.ensures.keeping;
    street = c.keep_serving.ensures.street;
  }));
}

pub returns-in-Some-clause-asked : goal.returns-in-Some-clause-asked
returns-in-Some-clause-asked g c =
    keep_asked _ _ _ _ _ _ _ c.in-Some.ensures.keep c.keep_serving.ensures.asked

pub returns-in-Some-clause-kept_store : goal.returns-in-Some-clause-kept_store
returns-in-Some-clause-kept_store g c =
    keep_stored _ _ _ _ _ _ _ _ _ c.in-Some.ensures.keep c.keep_serving.ensures.kept

pub returns-in-Some-clause-kept_street : goal.returns-in-Some-clause-kept_street
returns-in-Some-clause-kept_street g c = record {
  alone = λ nothing. absurd (nothing.2 _ _ _ c.in-Some.ensures.keep);
  unserved = λ is. c.keep_serving.ensures.street;
  faults =
      let same = ap (λ (told : StreetTold). told.faults) c.keep_serving.ensures.street in omega (arith, same);
}

pub returns-in-None-clause-run : goal.returns-in-None-clause-run
returns-in-None-clause-run g c = record { ends = inl c.answer_words.ensures.run }

pub returns-in-None-clause-kept_street : goal.returns-in-None-clause-kept_street
returns-in-None-clause-kept_street g c = record {
  alone = λ nothing. c.answer_words.ensures.alone nothing.0;
  unserved = λ is. answered_unserved c.answer_words.ensures.run is;
  faults = c.answer_words.ensures.street_faults;
}
