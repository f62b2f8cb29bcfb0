use Rattle.send_room.proofs.WindowLemmas.{behind_new}
use Rattle.send_room.proofs.laws.window_is_what_was_taken_lately.Goals as goal

pub returns : goal.returns
returns c = behind_new
