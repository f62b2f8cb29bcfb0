-- Reads and writes of a link, one after the other.
use Rattle.std.proofs.Common.{◌≡◌, ℕ, List, [], ◌∷◌, ◌++◌, take, drop, Ok, Err, refl, sym, ap, subst, ◌∙◌, inl, inr, append_assoc, append-nil, arith}
use Rattle.std.proofs.lemmas.List.{take-append-drop}
use Rattle.cast_io.specs.declared.steps.LinkStep.{LinkStep}
use Rattle.cast_io.specs.declared.steps.Step.{Step}
use Rattle.cast_io.specs.declared.steps.Step.TheVariants as took
use Rattle.cast_io.specs.declared.link.Got.{Got}
use Rattle.cast_io.specs.declared.link.Got.TheVariants as got
use Rattle.cast_io.specs.Told.{LinkTold, Grew}
use Rattle.cast_io.specs.Links.{TakesStep, ahead, step_of, HasRead, HasWritten}
use Rattle.cast_io_tests.specs.Copying.{bytes_given, bytes_ahead, Exchanged, Copied}
use Rattle.cast_io.proofs.ToldLemmas.{grew_none, grew_both}

bytes_given-append : (xs ys : List Step) → bytes_given (xs ++ ys) ≡ bytes_given xs ++ bytes_given ys
bytes_given-append [] ys = refl
bytes_given-append (took.Bytes bytes ∷ xs) ys =
    ap (λ more. bytes ++ more) (bytes_given-append xs ys)
    ∙ sym (append_assoc bytes (bytes_given xs) (bytes_given ys))
bytes_given-append (took.Idle ∷ xs) ys = bytes_given-append xs ys
bytes_given-append (took.End ∷ xs) ys = bytes_given-append xs ys
bytes_given-append (took.ReadFailed ∷ xs) ys = bytes_given-append xs ys
bytes_given-append (took.WriteFailed ∷ xs) ys = bytes_given-append xs ys

bytes_ahead-ahead : (xs : List ℕ) (more : List LinkStep)
    → bytes_ahead (ahead xs more) ≡ xs ++ bytes_ahead more
bytes_ahead-ahead [] more = refl
bytes_ahead-ahead (x ∷ xs) more = refl

-- the bytes that a read gave are those that the steps to come lost
read_bytes : (result : Got) (buf : List ℕ) (old new : List LinkStep) → TakesStep result buf old new
    → bytes_ahead old ≡ bytes_given (step_of result buf ∷ []) ++ bytes_ahead new
read_bytes (got.Bytes n) buf old new takes =
    let bytes = takes.0 in
    let more = takes.1 in
    let front : bytes ++ bytes_ahead more ≡ take n buf ++ (drop n bytes ++ bytes_ahead more) =
    ap (λ list. list ++ bytes_ahead more) (sym (take-append-drop n bytes))
    ∙ append_assoc (take n bytes) (drop n bytes) (bytes_ahead more)
    ∙ ap (λ list. list ++ (drop n bytes ++ bytes_ahead more)) (sym takes.4) in
    ap bytes_ahead takes.2 ∙ front
    ∙ ap (λ list. take n buf ++ list)
    (sym (bytes_ahead-ahead (drop n bytes) more) ∙ sym (ap bytes_ahead takes.5))
    ∙ ap (λ list. list ++ bytes_ahead new) (sym (append-nil (take n buf)))
read_bytes got.Idle buf old new takes = ap bytes_ahead takes
read_bytes got.End buf old new (inl takes) = ap bytes_ahead takes
read_bytes got.End buf old new (inr takes) =
    ap bytes_ahead takes.0 ∙ sym (ap bytes_ahead takes.1)
read_bytes got.Failed buf old new takes = sym (ap bytes_ahead takes)

pub exchanged_more : (a b c : LinkTold) (xs ys : List Step) (us vs : List ℕ)
    → Exchanged a b xs us → Exchanged b c ys vs → Exchanged a c (xs ++ ys) (us ++ vs)
exchanged_more a b c xs ys us vs first second = record {
  given = second.given ∙ first.given;
  left = λ now is.
      let later = second.left now is in
      let before = first.left later.0 later.1 in (
        before.0,
        before.1,
        before.2 ∙ ap (λ list. bytes_given xs ++ list) later.2
            ∙ sym (append_assoc (bytes_given xs) (bytes_given ys) (bytes_ahead now))
            ∙ ap (λ list. list ++ bytes_ahead now) (sym (bytes_given-append xs ys)),
      );
  steps = grew_both a.taken b.taken c.taken xs ys first.steps second.steps;
  bytes = grew_both a.bytes b.bytes c.bytes us vs first.bytes second.bytes;
  later = omega (arith, first.later, second.later);
}

-- a read
exchanged_read : (a b : LinkTold) (result : Got) (buf : List ℕ) → HasRead a b result buf
    → Exchanged a b (step_of result buf ∷ []) []
exchanged_read a b result buf read = record {
  given = read.given;
  left = λ now is.
      let from = read.left now is in
      (from.0, from.1, read_bytes result buf from.0 now from.2);
  steps = read.taken;
  bytes = subst (λ told. Grew a.bytes told []) (sym read.bytes) (grew_none a.bytes);
  later = read.later;
}

-- a write that took all
exchanged_write : {T E : Type 0} (a b : LinkTold) (answer : T) (piece : List ℕ)
    → HasWritten {T = T} {E = E} a b (Ok answer) piece → Exchanged a b [] piece
exchanged_write a b answer piece written = record {
  given = written.given;
  left = λ now is. (now, sym written.left ∙ is, refl);
  steps = written.taken;
  bytes = written.whole;
  later = written.later;
}

-- a write that failed
exchanged_torn : {T E : Type 0} (a b : LinkTold) (fault : E) (piece : List ℕ)
    → (written : HasWritten {T = T} {E = E} a b (Err fault) piece)
    → Exchanged a b (took.WriteFailed ∷ []) (take written.torn.0 piece)
exchanged_torn a b fault piece written = record {
  given = written.given;
  left = λ now is. (now, sym written.left ∙ is, refl);
  steps = written.taken;
  bytes = written.torn.2;
  later = written.later;
}

-- a read after which nothing was written yet
pub exchanged_next : (a b c : LinkTold) (taken : List Step) (result : Got) (buf : List ℕ)
    → Copied a b taken → HasRead b c result buf
    → Exchanged a c (taken ++ step_of result buf ∷ []) (bytes_given taken)
exchanged_next a b c taken result buf so_far read =
    let step = step_of result buf ∷ [] in
    subst (Exchanged a c (taken ++ step)) (append-nil (bytes_given taken))
    (exchanged_more a b c taken step (bytes_given taken) [] so_far
    (exchanged_read b c result buf read))

-- a read that gave no bytes
pub copied_read : (a b c : LinkTold) (taken : List Step) (result : Got) (buf : List ℕ)
    → Copied a b taken → HasRead b c result buf → bytes_given (step_of result buf ∷ []) ≡ []
    → Copied a c (taken ++ step_of result buf ∷ [])
copied_read a b c taken result buf so_far read none =
    let step = step_of result buf ∷ [] in
    subst (Exchanged a c (taken ++ step))
    (sym (bytes_given-append taken step ∙ ap (λ list. bytes_given taken ++ list) none
    ∙ append-nil (bytes_given taken)))
    (exchanged_next a b c taken result buf so_far read)

-- bytes were read and written
pub copied_bytes : {T E : Type 0} (a b c d : LinkTold) (taken : List Step) (n : ℕ) (buf : List ℕ)
    (answer : T) → Copied a b taken → HasRead b c (got.Bytes n) buf
    → HasWritten {T = T} {E = E} c d (Ok answer) (take n buf)
    → Copied a d (taken ++ took.Bytes (take n buf) ∷ [])
copied_bytes a b c d taken n buf answer so_far read written =
    let step = took.Bytes (take n buf) ∷ [] in
    let both : Exchanged b d step (take n buf) =
    exchanged_more b c d step [] [] (take n buf) (exchanged_read b c (got.Bytes n) buf read)
    (exchanged_write c d answer (take n buf) written) in
    subst (Exchanged a d (taken ++ step))
    (ap (λ list. bytes_given taken ++ list) (sym (append-nil (take n buf)))
    ∙ sym (bytes_given-append taken step))
    (exchanged_more a b d taken step (bytes_given taken) (take n buf) so_far both)

-- bytes were read, and some first ones of them written
pub copied_torn : {T E : Type 0} (a b c d : LinkTold) (taken : List Step) (n : ℕ) (buf : List ℕ)
    (fault : E) → Copied a b taken → HasRead b c (got.Bytes n) buf
    → HasWritten {T = T} {E = E} c d (Err fault) (take n buf)
    → (written : List ℕ)
    × Exchanged a d (taken ++ took.Bytes (take n buf) ∷ [] ++ took.WriteFailed ∷ []) written
    × ((rest : List ℕ) × (bytes_given (taken ++ took.Bytes (take n buf) ∷ []) ≡ written ++ rest))
copied_torn a b c d taken n buf fault so_far read written =
    let step = took.Bytes (take n buf) ∷ [] in
    let piece = take n buf in
    let count = written.torn.0 in
    let first : Exchanged a c (taken ++ step) (bytes_given taken ++ []) =
    exchanged_more a b c taken step (bytes_given taken) [] so_far
    (exchanged_read b c (got.Bytes n) buf read) in
    let all : Exchanged a d (taken ++ step ++ took.WriteFailed ∷ [])
    (bytes_given taken ++ [] ++ take count piece) =
    exchanged_more a c d (taken ++ step) (took.WriteFailed ∷ []) (bytes_given taken ++ [])
    (take count piece) first (exchanged_torn c d fault piece written) in (
      bytes_given taken ++ [] ++ take count piece,
      all,
      (
        drop count piece,
        bytes_given-append taken step
            ∙ ap (λ list. bytes_given taken ++ list)
            (append-nil piece ∙ sym (take-append-drop count piece))
            ∙ sym (append_assoc (bytes_given taken) (take count piece) (drop count piece))
            ∙ ap (λ list. list ++ take count piece ++ drop count piece)
            (sym (append-nil (bytes_given taken))),
      ),
    )
