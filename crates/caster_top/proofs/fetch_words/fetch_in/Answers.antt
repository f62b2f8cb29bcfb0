-- What is read as a fetch is one, and what is not is none.
use Rattle.caster_top.proofs.WordLemmas.{fetch_in_words}
use Rattle.caster_top.proofs.fetch_words.fetch_in.Goals as goal

pub returns-in-len2-up-clause-fetch : goal.returns-in-len2-up-clause-fetch
returns-in-len2-up-clause-fetch c =
    (fetch_in_words c.args.words.now _ _ _ _ c.fetch_named.result c.in-len2-up.len_at_least c.name-item.is
    c.frames-item.is c.as_str.ensures.value c.as_str-in-len2-up.ensures.value c.fetch_named.ensures.form).0

pub returns-in-len2-up-clause-none : goal.returns-in-len2-up-clause-none
returns-in-len2-up-clause-none c =
    (fetch_in_words c.args.words.now _ _ _ _ c.fetch_named.result c.in-len2-up.len_at_least c.name-item.is
    c.frames-item.is c.as_str.ensures.value c.as_str-in-len2-up.ensures.value c.fetch_named.ensures.form).1
