-- The run ended as a fetch, or as it does for words that ask for none.
use Rattle.std.proofs.Common.{inl, inr}
use Rattle.caster_top.proofs.FetchClauseLemmas.{fetch_asked, fetch_unserved}
use Rattle.caster_top.proofs.top.run_words.Goals as goal

pub returns-in-Some-clause-run : goal.returns-in-Some-clause-run
returns-in-Some-clause-run g c = record {
  ends = inr (inl (record {
    frames = c.in-Some.fetch.frames;
    targets = _;
    are = c.in-Some.ensures.fetch;
    fetching = c.fetch_frames.ensures.fetching;
  }));
}

pub returns-in-Some-clause-asked : goal.returns-in-Some-clause-asked
returns-in-Some-clause-asked g c = fetch_asked _ _ _ _ _ c.in-Some.ensures.fetch

pub returns-in-Some-clause-kept_street : goal.returns-in-Some-clause-kept_street
returns-in-Some-clause-kept_street g c = record {
  alone = λ nothing. absurd (nothing.1 _ _ c.in-Some.ensures.fetch);
  unserved = λ is. fetch_unserved _ _ _ _ _ _ _ _ _ c.fetch_frames.ensures.fetching is;
  faults = c.fetch_frames.ensures.street_faults;
}
