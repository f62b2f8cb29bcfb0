use Rattle.std.proofs.Common.{◌≡◌, ℕ, ◌+◌, ◌≤◌, List, ◌++◌, take}
use Rattle.chunk_body.specs.Machine.{read}
use Rattle.chunk_body.specs.Text.{HasEnded, IsBadAt}
use Rattle.chunk_body.specs.declared.dechunk.Step.TheVariants as steps
use Rattle.examples.proofs.BodyLemmas.{Appends}
use Rattle.examples.proofs.bodies.decode.Given as goal

-- the bytes so far were read behind any text that the reader had read, and their data appended
abbrev pub invariant-loop-byte : goal.invariant-loop-byte
invariant-loop-byte l = record {
  taken : l.reader.taken ≤ l.fn.reader.taken + l.byte-index;
  reads : (text : List ℕ) → l.fn.reader ≡ read text → l.reader ≡ read (text ++ take l.byte-index l.bytes);
  appends : Appends l.fn.reader (take l.byte-index l.bytes) l.fn.out.items l.out.items;
  ended : (text : List ℕ) → l.fn.reader ≡ read text → l.last ≡ steps.Done
      → HasEnded (text ++ take l.byte-index l.bytes);
  bad : (text : List ℕ) (place : ℕ) → l.fn.reader ≡ read text → l.last ≡ steps.Bad place
      → IsBadAt (text ++ take l.byte-index l.bytes) place;
}
