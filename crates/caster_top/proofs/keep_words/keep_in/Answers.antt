-- What is read as such a caster is one, and what is not is none.
use Rattle.std.proofs.Common.{map, string_bytes}
use Rattle.caster_top.proofs.KeepWordLemmas.{keep_read, keep_unread}
use Rattle.caster_top.proofs.keep_words.keep_in.Goals as goal

pub returns-clause-keep : goal.returns-clause-keep
returns-clause-keep c =
    keep_read (map (λ word. string_bytes word) c.args.words.now) c.keep_of.result c.keep_of.ensures

pub returns-clause-none : goal.returns-clause-none
returns-clause-none c =
    keep_unread (map (λ word. string_bytes word) c.args.words.now) c.keep_of.result c.keep_of.ensures
