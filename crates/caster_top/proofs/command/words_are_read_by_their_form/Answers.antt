-- Both directions of the reading of words.
use Rattle.caster_top.proofs.WordLemmas.{form_of-form, form-form_of}
use Rattle.caster_top.proofs.command.words_are_read_by_their_form.Goals as goal

pub returns-clause-each : goal.returns-clause-each
returns-clause-each c = form_of-form

pub returns-clause-nothing_else : goal.returns-clause-nothing_else
returns-clause-nothing_else c = form-form_of
