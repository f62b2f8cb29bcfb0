-- The first place of a path is one where its content stands.
use Rattle.cast_io.proofs.StoreLemmas.{found_at}
use Rattle.cast_io.proofs.mem_store.file_of.Goals as goal

pub returns : goal.returns
returns c = found_at c.args.files.now c.args.path.now c.place_of.result c.place_of.ensures
