use Rattle.caster_link.proofs.PublishLemmas.{source_published}
use Rattle.caster_link.proofs.laws.sources_publish_their_frames.Goals as goal

pub returns : goal.returns
returns c = source_published
