-- The links of a recording caster, where one more came or one was served.
use Rattle.std.proofs.Common.{◌≡◌, ◌≢◌, ◌∙◌, ◌<◌, ◌≤◌, ◌+◌, ℕ, zero, suc, Bool, true, false, List, [], ◌∷◌, ◌++◌, length, take, drop, get_or, set, refl, sym, ap, subst, inl, inr, arith, append_assoc, All, Option, Some}
use Rattle.std.specs.Prelude.{min, nat_lt, IsTrue, unwrap_or}
use Rattle.std.specs.List.{list_any}
use Rattle.std.proofs.lemmas.Bool.{cases_Bool, ltb-true, ltb-false, false≢true, or_parts}
use Rattle.std.proofs.lemmas.List.{append-nil, take_all, take-append-drop, length-take}
use Rattle.std.proofs.lemmas.List.Elements.{All-nil, All-cons, All-head, All-tail, All-append}
use Rattle.cast_io.specs.declared.link.Got.{Got}
use Rattle.cast_io.specs.declared.link.Got.TheVariants as got
use Rattle.cast_io.specs.declared.steps.Step.{Step}
use Rattle.cast_io.specs.declared.steps.Step.TheVariants as took
use Rattle.cast_io.specs.declared.steps.LinkStep.{LinkStep}
use Rattle.cast_io.specs.declared.steps.LinkStep.TheVariants as steps
use Rattle.cast_io.specs.Told.{LinkTold}
use Rattle.cast_io.specs.Causes.{Rose}
use Rattle.cast_io.specs.Links.{IsNewLink, HasRead, TakesStep, step_of, has_failed, ahead, bytes_of, bytes_in, is_failure}
use Rattle.caster_record.specs.Moves.{Move, taken_in, has_torn, is_torn, torn_step}
use Rattle.caster_record.specs.Peers.{EndsOne, IsEnding, IsPieceOf, bytes_ahead, IsPeer, ArePeers}
use Rattle.caster_record.specs.Giving.{HasGiven}
use Rattle.caster_record.proofs.MoveLemmas.{read_both, read_torn}

-- ---- a link that something else happened beside

-- its own moves and what it was sent are the same
pub peer_same : (k : ℕ) (moves next : List Move) (sent now : List ℕ) (told : LinkTold)
    → taken_in k next ≡ taken_in k moves → now ≡ sent → IsPeer k moves sent told → IsPeer k next now told
peer_same k moves next sent now told same sent_same p = record {
  taken = λ list is. p.taken list is ∙ sym same;
  bytes = λ list is.
      let b = p.bytes list is in
      (b.0, sent_same ∙ b.1, λ whole. b.2 (ap (list_any is_torn) (sym same) ∙ whole));
  faults = λ failed. p.faults (subst (λ (l : List Step). IsTrue (list_any is_failure l)) same failed);
  content = λ given left told_given told_left.
      p.content given left told_given told_left ∙ ap (λ (l : List Step). bytes_in l ++ bytes_ahead left) (sym same);
  pieces = λ given left told_given told_left.
      subst (λ (l : List Step). All (IsPieceOf given) l) (sym same) (p.pieces given left told_given told_left);
  ahead = p.ahead;
}

pub peers_same : (k : ℕ) (moves next : List Move) (sent now : ℕ → List ℕ) (tolds : List LinkTold)
    → ((n : ℕ) → k ≤ n → taken_in n next ≡ taken_in n moves) → ((n : ℕ) → k ≤ n → now n ≡ sent n)
    → ArePeers k moves sent tolds → ArePeers k next now tolds
peers_same k moves next sent now [] same sent_same all = tt
peers_same k moves next sent now (told ∷ more) same sent_same all = (
  peer_same k moves next (sent k) (now k) told (same k (omega arith)) (sent_same k (omega arith)) all.0,
  peers_same (k + 1) moves next sent now more (λ n least. same n (omega (arith, least)))
      (λ n least. sent_same n (omega (arith, least))) all.1,
)

none_more : (k : ℕ) → k + 0 ≡ k
none_more k = omega arith

-- one more, behind the others
pub peers_push : (k : ℕ) (moves : List Move) (sent : ℕ → List ℕ) (tolds : List LinkTold) (new : LinkTold)
    → ArePeers k moves sent tolds → IsPeer (k + length tolds) moves (sent (k + length tolds)) new
    → ArePeers k moves sent (tolds ++ new ∷ [])
peers_push k moves sent [] new all is = (subst (λ (n : ℕ). IsPeer n moves (sent n) new) (none_more k) is, tt)
peers_push k moves sent (told ∷ more) new all is = (
  all.0,
  peers_push (k + 1) moves sent more new all.1
      (subst (λ (n : ℕ). IsPeer n moves (sent n) new) (omega arith) is),
)

pub peers_at : (k : ℕ) (moves : List Move) (sent : ℕ → List ℕ) (tolds : List LinkTold) (at : ℕ) (d : LinkTold)
    → ArePeers k moves sent tolds → at < length tolds → IsPeer (k + at) moves (sent (k + at)) (get_or tolds at d)
peers_at k moves sent [] at d all within = absurd (omega (arith, within))
peers_at k moves sent (told ∷ more) zero d all within =
    subst (λ (n : ℕ). IsPeer n moves (sent n) told) (sym (none_more k)) all.0
peers_at k moves sent (told ∷ more) (suc at) d all within =
    subst (λ (n : ℕ). IsPeer n moves (sent n) (get_or more at d)) (omega arith)
    (peers_at (k + 1) moves sent more at d all.1 (omega (arith, within)))

-- one of them is another now, and all else is the same
pub peers_set : (k : ℕ) (moves next : List Move) (sent now : ℕ → List ℕ) (tolds : List LinkTold) (at : ℕ)
    (new : LinkTold)
    → ArePeers k moves sent tolds → at < length tolds
    → ((n : ℕ) → n ≢ k + at → taken_in n next ≡ taken_in n moves) → ((n : ℕ) → n ≢ k + at → now n ≡ sent n)
    → IsPeer (k + at) next (now (k + at)) new → ArePeers k next now (set tolds at new)
peers_set k moves next sent now [] at new all within same sent_same is = absurd (omega (arith, within))
peers_set k moves next sent now (told ∷ more) zero new all within same sent_same is = (
  subst (λ (n : ℕ). IsPeer n next (now n) new) (none_more k) is,
  peers_same (k + 1) moves next sent now more (λ n least. same n (λ e. absurd (omega (arith, least, e))))
      (λ n least. sent_same n (λ e. absurd (omega (arith, least, e)))) all.1,
)
peers_set k moves next sent now (told ∷ more) (suc at) new all within same sent_same is =
    let place : k + 1 + at ≡ k + suc at = omega arith in (
      peer_same k moves next (sent k) (now k) told (same k (λ e. absurd (omega (arith, e))))
          (sent_same k (λ e. absurd (omega (arith, e)))) all.0,
      peers_set (k + 1) moves next sent now more at new all.1 (omega (arith, within))
          (λ n apart. same n (λ e. apart (e ∙ sym place))) (λ n apart. sent_same n (λ e. apart (e ∙ sym place)))
          (subst (λ (n : ℕ). IsPeer n next (now n) new) (sym place) is),
    )

-- ---- steps and the ends of them

all_end : (given before rest : List LinkStep) → given ≡ before ++ rest → All (IsEnding given) rest
all_end given before [] is = All-nil (IsEnding given)
all_end given before (steps.Bytes bytes ∷ rest) is =
    All-cons (IsEnding given) (steps.Bytes bytes) rest (record { before = before; front = []; more = rest; is = is })
    (all_end given (before ++ steps.Bytes bytes ∷ []) rest
    (is ∙ sym (append_assoc before (steps.Bytes bytes ∷ []) rest)))
all_end given before (steps.Idle ∷ rest) is =
    All-cons (IsEnding given) steps.Idle rest tt
    (all_end given (before ++ steps.Idle ∷ []) rest (is ∙ sym (append_assoc before (steps.Idle ∷ []) rest)))
all_end given before (steps.End ∷ rest) is =
    All-cons (IsEnding given) steps.End rest tt
    (all_end given (before ++ steps.End ∷ []) rest (is ∙ sym (append_assoc before (steps.End ∷ []) rest)))

same_some : (a b : List LinkStep) → Some a ≡ Some b → a ≡ b
same_some a b is = ap (λ (o : Option (List LinkStep)). unwrap_or o a) is

ends_later : (given : List LinkStep) (bytes : List ℕ) (n : ℕ) → EndsOne given bytes → EndsOne given (drop n bytes)
ends_later given bytes n e = record {
  before = e.before;
  front = e.front ++ take n bytes;
  more = e.more;
  is = e.is
      ∙ ap (λ (l : List ℕ). e.before ++ steps.Bytes (e.front ++ l) ∷ e.more) (sym (take-append-drop n bytes))
      ∙ ap (λ (l : List ℕ). e.before ++ steps.Bytes l ∷ e.more)
      (sym (append_assoc e.front (take n bytes) (drop n bytes)));
}

ahead_ends : (given : List LinkStep) (bytes : List ℕ) (more : List LinkStep) → EndsOne given bytes
    → All (IsEnding given) more → All (IsEnding given) (ahead bytes more)
ahead_ends given [] more e all = all
ahead_ends given (x ∷ xs) more e all = All-cons (IsEnding given) (steps.Bytes (x ∷ xs)) more e all

-- a read that was taken: its answer is a piece, and what is to come are ends still
record Piece (given left : List LinkStep) (answer : Step) : Type 0 where
  piece : IsPieceOf given answer
  ends : All (IsEnding given) left

-- the bytes to come were its bytes, and are those behind them
ahead_bytes : (bytes : List ℕ) (more : List LinkStep) → bytes_ahead (ahead bytes more) ≡ bytes ++ bytes_ahead more
ahead_bytes [] more = refl
ahead_bytes (x ∷ xs) more = refl

took_bytes : (before left : List LinkStep) (result : Got) (buf : List ℕ) → TakesStep result buf before left
    → bytes_ahead before ≡ bytes_of (step_of result buf) ++ bytes_ahead left
took_bytes before left (got.Bytes n) buf t =
    let bytes : List ℕ = t.0 in
    let more : List LinkStep = t.1 in
    ap bytes_ahead t.2
    ∙ ap (λ (l : List ℕ). l ++ bytes_ahead more) (sym (take-append-drop n bytes))
    ∙ append_assoc (take n bytes) (drop n bytes) (bytes_ahead more)
    ∙ ap (λ (l : List ℕ). take n bytes ++ l) (sym (ahead_bytes (drop n bytes) more))
    ∙ ap (λ (l : List LinkStep). take n bytes ++ bytes_ahead l) (sym t.5)
    ∙ ap (λ (l : List ℕ). l ++ bytes_ahead left) (sym t.4)
took_bytes before left got.Idle buf t = ap bytes_ahead t
took_bytes before left got.End buf (inl t) = ap bytes_ahead t
took_bytes before left got.End buf (inr t) = ap bytes_ahead (t.0 ∙ sym t.1)
took_bytes before left got.Failed buf t = ap bytes_ahead (sym t)

piece_bytes : (given : List LinkStep) (bytes piece : List ℕ) (n size : ℕ) → EndsOne given bytes → size ≡ 4096
    → n ≡ min (length bytes) size → piece ≡ take n bytes → IsPieceOf given (took.Bytes piece)
piece_bytes given bytes piece n size e whole is same =
    elim (cases_Bool (nat_lt (length bytes) 4096)) [
      | inl short ↦
          let below : length bytes < 4096 = ltb-true (length bytes) 4096 short in
          inr (subst (EndsOne given) (sym (same ∙ take_all n bytes (omega (arith, is, whole, below)))) e)
      | inr long ↦
          let least : 4096 ≤ length bytes = ltb-false (length bytes) 4096 long in
          inl (ap length same ∙ length-take n bytes ∙ omega (arith, is, whole, least))
    ]

took_piece : (given before left : List LinkStep) (result : Got) (buf : List ℕ) → length buf ≡ 4096
    → TakesStep result buf before left → All (IsEnding given) before → Piece given left (step_of result buf)
took_piece given before left (got.Bytes n) buf size t all =
    let bytes : List ℕ = t.0 in
    let more : List LinkStep = t.1 in
    let both : All (IsEnding given) (steps.Bytes bytes ∷ more) = subst (All (IsEnding given)) t.2 all in
    let e : EndsOne given bytes = All-head (IsEnding given) (steps.Bytes bytes) more both in
    record {
      piece = piece_bytes given bytes (take n buf) n (length buf) e size t.3 t.4;
      ends = subst (All (IsEnding given)) (sym t.5)
          (ahead_ends given (drop n bytes) more (ends_later given bytes n e)
          (All-tail (IsEnding given) (steps.Bytes bytes) more both));
    }
took_piece given before left got.Idle buf size t all = record {
  piece = tt;
  ends = All-tail (IsEnding given) steps.Idle left (subst (All (IsEnding given)) t all);
}
took_piece given before left got.End buf size (inl t) all = record {
  piece = tt;
  ends = All-tail (IsEnding given) steps.End left (subst (All (IsEnding given)) t all);
}
took_piece given before left got.End buf size (inr t) all = record {
  piece = tt;
  ends = subst (All (IsEnding given)) (sym t.1) (All-nil (IsEnding given));
}
took_piece given before left got.Failed buf size t all = record {
  piece = tt;
  ends = subst (All (IsEnding given)) (sym t) all;
}

-- ---- a link that just came

pub peer_new : (k : ℕ) (moves : List Move) (told : LinkTold) → IsNewLink told → taken_in k moves ≡ []
    → IsPeer k moves [] told
peer_new k moves told new none = record {
  taken = λ list is. new.taken list is ∙ sym none;
  bytes = λ list is. ([], ap (λ (l : List ℕ). l ++ []) (sym (new.bytes list is)), λ whole. refl);
  faults = λ failed.
      let never : IsTrue false = subst (λ (l : List Step). IsTrue (list_any is_failure l)) none failed in absurd cc;
  content = λ given left told_given told_left.
      ap bytes_ahead (same_some given left (sym told_given ∙ sym new.left ∙ told_left))
      ∙ ap (λ (l : List Step). bytes_in l ++ bytes_ahead left) (sym none);
  pieces = λ given left told_given told_left.
      subst (λ (l : List Step). All (IsPieceOf given) l) (sym none) (All-nil (IsPieceOf given));
  ahead = λ given left told_given told_left.
      subst (All (IsEnding given)) (same_some given left (sym told_given ∙ sym new.left ∙ told_left))
      (all_end given [] given refl);
}

-- ---- a link that was served

any_last : (taken : List Step) (answer : Step) (torn : Bool)
    → list_any is_torn (taken ++ answer ∷ torn_step torn) ≡ false → torn ≡ false
any_last taken answer false none = refl
any_last [] answer true none = absurd (false≢true (sym (or_parts (is_torn answer) true none).1))
any_last (step ∷ taken) answer true none =
    any_last taken answer true (or_parts (is_torn step) (list_any is_torn (taken ++ answer ∷ torn_step true)) none).1

pub rose_one : (before now : ℕ) → Rose before now → 1 ≤ now
rose_one before now rose = omega (arith, rose)

step_failed : (result : Got) (buf : List ℕ) → is_failure (step_of result buf) ≡ true → IsTrue (has_failed result)
step_failed (got.Bytes n) buf is = absurd cc
step_failed got.Idle buf is = absurd cc
step_failed got.End buf is = absurd cc
step_failed got.Failed buf is = refl

-- where one of these steps failed, the count rose
failed_somewhere : (old heard new : ℕ) (taken : List Step) (result : Got) (buf : List ℕ) (torn : Bool)
    → old ≤ heard → heard ≤ new → (IsTrue (list_any is_failure taken) → 1 ≤ old)
    → (IsTrue (has_failed result) → Rose old heard) → (torn ≡ true → 1 ≤ new)
    → IsTrue (list_any is_failure (taken ++ step_of result buf ∷ torn_step torn)) → 1 ≤ new
failed_somewhere old heard new [] result buf torn first second before read wrote failed =
    elim (cases_Bool (is_failure (step_of result buf))) [
      | inl own ↦ omega (arith, rose_one old heard (read (step_failed result buf own)), second)
      | inr other ↦ torn_so torn (rw other at failed) wrote
    ]
  where
    torn_so : (b : Bool) → IsTrue (list_any is_failure (torn_step b)) → (b ≡ true → 1 ≤ new) → 1 ≤ new
    torn_so true is so = so refl
    torn_so false is so = absurd cc
failed_somewhere old heard new (step ∷ taken) result buf torn first second before read wrote failed =
    elim (cases_Bool (is_failure step)) [
      | inl own ↦ omega (arith, before (rw own refl), first, second)
      | inr other ↦
          failed_somewhere old heard new taken result buf torn first second (λ some. before (rw other some)) read wrote
          (rw other at failed)
    ]

all_torn : (given : List LinkStep) (torn : Bool) → All (IsPieceOf given) (torn_step torn)
all_torn given true = All-cons (IsPieceOf given) took.WriteFailed [] tt (All-nil (IsPieceOf given))
all_torn given false = All-nil (IsPieceOf given)

-- one read more, and what its connection was then sent
pub peer_served : (k : ℕ) (moves next : List Move) (sent piece : List ℕ) (old heard new : LinkTold) (result : Got)
    (buf : List ℕ) (torn : Bool) → IsPeer k moves sent old → has_torn k moves ≡ false
    → HasRead old heard result buf → length buf ≡ 4096
    → taken_in k next ≡ taken_in k moves ++ step_of result buf ∷ torn_step torn
    → HasGiven heard new torn piece → IsPeer k next (sent ++ piece) new
peer_served k moves next sent piece old heard new result buf torn p whole read size taken given = record {
  taken = λ list is.
      let second = given.taken list is in
      let first = read.taken second.0 second.1 in
      second.2
      ∙ ap (λ (l : List Step). l ++ torn_step torn)
      (first.2 ∙ ap (λ (l : List Step). l ++ step_of result buf ∷ []) (p.taken first.0 first.1))
      ∙ append_assoc (taken_in k moves) (step_of result buf ∷ []) (torn_step torn) ∙ sym taken;
  bytes = λ list is.
      let second = given.bytes list is in
      let before = p.bytes second.0 (sym read.bytes ∙ second.1) in
      let exact : sent ≡ second.0 =
      before.1 ∙ ap (λ (l : List ℕ). second.0 ++ l) (before.2 whole) ∙ append-nil second.0 in (
        second.2,
        ap (λ (l : List ℕ). l ++ piece) exact ∙ second.3,
        λ all. second.4 (any_last (taken_in k moves) (step_of result buf) torn
            (ap (list_any is_torn) (sym taken) ∙ all)),
      );
  faults = λ failed.
      failed_somewhere old.faults heard.faults new.faults (taken_in k moves) result buf torn read.later given.later
      p.faults
      read.failed given.failed (subst (λ (l : List Step). IsTrue (list_any is_failure l)) taken failed);
  content = λ first left told_given told_left.
      let t = read.left left (sym given.left ∙ told_left) in
      let before : old.given ≡ Some first = sym read.given ∙ sym given.given ∙ told_given in
      let heard_bytes : List ℕ = bytes_of (step_of result buf) in
      p.content first t.0 before t.1
      ∙ ap (λ (l : List ℕ). bytes_in (taken_in k moves) ++ l) (took_bytes t.0 left result buf t.2)
      ∙ sym (append_assoc (bytes_in (taken_in k moves)) heard_bytes (bytes_ahead left))
      ∙ ap (λ (l : List ℕ). (bytes_in (taken_in k moves) ++ l) ++ bytes_ahead left)
      (sym (append-nil heard_bytes) ∙ ap (λ (l : List ℕ). heard_bytes ++ l) (sym (read_torn torn)))
      ∙ ap (λ (l : List ℕ). l ++ bytes_ahead left)
      (sym (read_both (taken_in k moves) (step_of result buf ∷ torn_step torn)) ∙ ap bytes_in (sym taken));
  pieces = λ first left told_given told_left.
      let so = left_so first left told_given told_left in
      subst (λ (l : List Step). All (IsPieceOf first) l) (sym taken)
      (All-append (IsPieceOf first) (taken_in k moves) (step_of result buf ∷ torn_step torn) so.0
      (All-cons (IsPieceOf first) (step_of result buf) (torn_step torn) so.1.piece (all_torn first torn)));
  ahead = λ first left told_given told_left. (left_so first left told_given told_left).1.ends;
}
  where
    left_so : (first left : List LinkStep) → new.given ≡ Some first → new.left ≡ Some left
        → All (IsPieceOf first) (taken_in k moves) × Piece first left (step_of result buf)
    left_so first left told_given told_left =
        let t = read.left left (sym given.left ∙ told_left) in
        let before : old.given ≡ Some first = sym read.given ∙ sym given.given ∙ told_given in (
          p.pieces first t.0 before t.1,
          took_piece first t.0 left result buf size t.2 (p.ahead first t.0 before t.1),
        )
