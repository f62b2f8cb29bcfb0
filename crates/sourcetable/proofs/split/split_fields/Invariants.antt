use Rattle.std.proofs.Common.{◌≡◌, ◌+◌, ◌-◌, ◌≤◌, ◌∷◌, ◌++◌, length, vec_len}
use Rattle.std.specs.List.{All}
use Rattle.sourcetable.specs.Record.{is_separator, fields_text}
use Rattle.cast_text.specs.Split.{HasNone}
use Rattle.sourcetable.proofs.split.split_fields.Given as goal

-- the fields so far, each free, and the rest of the text behind a `;` are all of it
abbrev pub invariant-loop-rest : goal.invariant-loop-rest
invariant-loop-rest l = record {
  within : length l.fields.items + 1 ≤ l.count;
  free : All (HasNone is_separator) l.fields.items;
  text : fields_text l.fields.items ++ 59 ∷ l.rest ≡ 59 ∷ l.text;
}

abbrev pub decreases-loop-rest : goal.decreases-loop-rest
decreases-loop-rest l = l.count - vec_len l.fields
