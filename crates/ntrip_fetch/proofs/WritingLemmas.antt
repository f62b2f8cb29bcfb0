-- Frames that were written one after the other, and a write that failed.
use Rattle.std.proofs.Common.{◌≡◌, ◌≤◌, ◌<◌, ◌+◌, ◌-◌, ℕ, suc, List, [], ◌∷◌, ◌++◌, length, take, zero, Option, None, Some, refl, ap, sym, subst, ◌∙◌, arith, append_assoc, length-append}
use Rattle.std.specs.Prelude.{Result, Ok, Err, OnOk, OnErr, IfOk, IfErr, nat_lt}
use Rattle.std.proofs.Common.{inl, inr}
use Rattle.std.proofs.lemmas.Bool.{cases_Bool, ltb-true, ltb-false}
use Rattle.std.specs.List.{concat}
use Rattle.std.proofs.lemmas.List.{append-nil, take-append-le, take_all}
use Rattle.std.proofs.lemmas.List.Folds.{concat-append}
use Rattle.std.proofs.Math.Seq.{take-append_seam, take-append-add}
use Rattle.std.specs.Io.KnownBytes.{Appends}
use Rattle.cast_io.specs.Pieces.{AppendsPrefix}
use Rattle.rtcm_frame.specs.Cut.{cut, Parts, IsWaiting}
use Rattle.rtcm_frame.specs.Pending.{Pending, Gave}
use Rattle.rtcm_frame.proofs.CutLemmas.{cut-append}
use Rattle.rtcm_frame.proofs.PendingLemmas.{gave_waiting, gave_more}
use Rattle.ntrip_fetch.specs.Writing.{IsWriting, HasWritten, IsTorn, wanted}

-- a fact of a refusal
pub on_err : {T E : Type 0} (result : Result T E) (P : Type 0) → P → OnErr result P
on_err (Ok answer) P holds = tt
on_err (Err fault) P holds = holds

pub on_err_so : {T E : Type 0} (result : Result T E) (P Q : Type 0) → (P → Q) → OnErr result P → OnErr result Q
on_err_so (Ok answer) P Q so holds = tt
on_err_so (Err fault) P Q so holds = so holds

pub if_ok_so : {T E : Type 0} (result : Result T E) (P Q : T → Type 0) → ((answer : T) → P answer → Q answer)
    → IfOk result P → IfOk result Q
if_ok_so (Ok answer) P Q so holds = so answer holds
if_ok_so (Err fault) P Q so holds = tt

pub on_ok_so : {T E : Type 0} (result : Result T E) (P Q : Type 0) → (P → Q) → OnOk result P → OnOk result Q
on_ok_so (Ok answer) P Q so holds = so holds
on_ok_so (Err fault) P Q so holds = tt

pub if_err_so : {T E : Type 0} (result : Result T E) (P Q : E → Type 0) → ((fault : E) → P fault → Q fault)
    → IfErr result P → IfErr result Q
if_err_so (Ok answer) P Q so holds = tt
if_err_so (Err fault) P Q so holds = so fault holds

pub if_err : {T E : Type 0} (P : E → Type 0) (result : Result T E) (fault : E) → result ≡ Err fault → P fault
    → IfErr result P
if_err P result fault is holds = subst (λ r. IfErr r P) (sym is) holds

-- ---- a sink

pub appends_none : (a : Option (List ℕ)) → Appends a a []
appends_none None = tt
appends_none (Some bytes) = sym (append-nil bytes)

pub appends_both : (a b c : Option (List ℕ)) (xs ys : List ℕ) → Appends a b xs → Appends b c ys
    → Appends a c (xs ++ ys)
appends_both None b c xs ys first second = tt
appends_both (Some a) None c xs ys first second = absurd first
appends_both (Some a) (Some b) None xs ys first second = absurd second
appends_both (Some a) (Some b) (Some c) xs ys first second =
    second ∙ ap (λ l. l ++ ys) first ∙ append_assoc a xs ys

-- some first bytes of a piece are some of a longer text
take_in : (n : ℕ) (xs piece more : List ℕ) → n ≤ length piece
    → take (length xs + n) (xs ++ (piece ++ more)) ≡ xs ++ take n piece
take_in n xs piece more within =
    take-append-add xs (piece ++ more) n ∙ ap (λ l. xs ++ l) (take-append-le n piece more within)

pub prefix_behind : (a b c : Option (List ℕ)) (xs piece more : List ℕ) → Appends a b xs
    → AppendsPrefix b c piece → AppendsPrefix a c (xs ++ (piece ++ more))
prefix_behind a b c xs piece more first torn = (
  length xs + torn.0,
  omega (arith, torn.1, length-append xs (piece ++ more), length-append piece more),
  subst (Appends a c) (sym (take_in torn.0 xs piece more torn.1))
      (appends_both a b c xs (take torn.0 piece) first torn.2),
)

-- ---- frames

concat_one : (given : List (List ℕ)) (frame : List ℕ)
    → concat (given ++ frame ∷ []) ≡ concat given ++ frame
concat_one given frame =
    concat-append given (frame ∷ []) ∙ ap (λ l. concat given ++ l) (append-nil frame)

-- one frame more
pub writing_one : (start now later : Option (List ℕ)) (bytes frame : List ℕ) (old new : Pending) (count : ℕ)
    → ((given : List (List ℕ)) → Gave given bytes old → Gave (given ++ frame ∷ []) bytes new)
    → Appends now later frame → IsWriting start now bytes old count
    → IsWriting start later bytes new (count + 1)
writing_one start now later bytes frame old new count gives wrote w = record {
  given = w.given ++ frame ∷ [];
  gave = gives w.given w.gave;
  wrote = subst (Appends start later) (sym (concat_one w.given frame))
      (appends_both start now later (concat w.given) frame w.wrote wrote);
  counted = omega (arith, w.counted, length-append w.given (frame ∷ []));
}

-- more bytes, and no frame more
pub writing_fed : (start now : Option (List ℕ)) (bytes longer : List ℕ) (old new : Pending) (count : ℕ)
    → ((given : List (List ℕ)) → Gave given bytes old → Gave given longer new)
    → IsWriting start now bytes old count → IsWriting start now longer new count
writing_fed start now bytes longer old new count gives w =
    record { given = w.given; gave = gives w.given w.gave; wrote = w.wrote; counted = w.counted }

-- as many frames as are wanted, where these are some of the first
wanted_by : (most : ℕ) (given more frames : List (List ℕ)) → given ++ more ≡ frames → length given ≤ most
    → take most frames ≡ given ++ take (most - length given) more
wanted_by most given more frames is within =
    ap (take most) (sym is) ∙ take_split most given more within
  where
    take_split : (most : ℕ) (given more : List (List ℕ)) → length given ≤ most
        → take most (given ++ more) ≡ given ++ take (most - length given) more
    take_split most [] more within =
        let same : most - 0 ≡ most = omega arith in ap (λ k. take k more) (sym same)
    take_split zero (x ∷ given) more within = absurd (omega (arith, within))
    take_split (suc most) (x ∷ given) more within =
        let shorter : length given ≤ most = omega (arith, within) in
        let same : suc most - suc (length given) ≡ most - length given = omega arith in
        grind (arith, take_split most given more shorter, same)

-- a frame that was to be written next was torn
pub torn_one : (start now later : Option (List ℕ)) (bytes frame : List ℕ) (old new : Pending) (count most : ℕ)
    → ((given : List (List ℕ)) → Gave given bytes old → Gave (given ++ frame ∷ []) bytes new)
    → AppendsPrefix now later frame → count < most → IsWriting start now bytes old count
    → IsTorn start later (wanted most bytes)
torn_one start now later bytes frame old new count most gives torn fewer w =
    let gave : Gave (w.given ++ frame ∷ []) bytes new = gives w.given w.gave in
    let behind = take (most - length (w.given ++ frame ∷ [])) (cut new.bytes).frames in
    let within : length (w.given ++ frame ∷ []) ≤ most =
    omega (arith, w.counted, fewer, length-append w.given (frame ∷ [])) in
    let all : concat (wanted most bytes) ≡ concat w.given ++ (frame ++ concat behind) =
    ap concat (wanted_by most (w.given ++ frame ∷ []) (cut new.bytes).frames (cut bytes).frames gave.frames within)
    ∙ concat-append (w.given ++ frame ∷ []) behind
    ∙ ap (λ l. l ++ concat behind) (concat_one w.given frame)
    ∙ append_assoc (concat w.given) frame (concat behind) in
    subst (AppendsPrefix start later) (sym all)
    (prefix_behind start now later (concat w.given) frame (concat behind) w.wrote torn)

-- ---- all that are wanted

-- where the cutter waits, all frames of the bytes were written
pub written_all : (start now : Option (List ℕ)) (bytes : List ℕ) (cutter : Pending) (count most : ℕ)
    → IsWriting start now bytes cutter count → IsWaiting cutter.bytes → count ≤ most
    → HasWritten start now (wanted most bytes) count
written_all start now bytes cutter count most w waits within =
    let all = gave_waiting w.given bytes cutter w.gave waits in
    let same : wanted most bytes ≡ w.given =
    take_all most (cut bytes).frames (omega (arith, w.counted, within, ap length all.frames)) ∙ sym all.frames in
    record {
      wrote = subst (λ fs. Appends start now (concat fs)) (sym same) w.wrote;
      counted = w.counted ∙ ap length (sym same);
    }

-- where enough were written, these are the first of the frames, whatever follows
pub written_enough : (start now : Option (List ℕ)) (bytes more : List ℕ) (cutter : Pending) (count most : ℕ)
    → IsWriting start now bytes cutter count → count ≡ most
    → HasWritten start now (wanted most (bytes ++ more)) count
written_enough start now bytes more cutter count most w enough =
    let gave = gave_more w.given bytes cutter more w.gave in
    let same : wanted most (bytes ++ more) ≡ w.given =
    ap (take most) (sym gave.frames)
    ∙ ap (λ n. take n (w.given ++ (cut (cutter.bytes ++ more)).frames)) (sym enough ∙ w.counted)
    ∙ take-append_seam w.given (cut (cutter.bytes ++ more)).frames in
    record {
      wrote = subst (λ fs. Appends start now (concat fs)) (sym same) w.wrote;
      counted = w.counted ∙ ap length (sym same);
    }

-- as the cutter waits for more, or enough were written
pub written_now : (start now : Option (List ℕ)) (bytes : List ℕ) (cutter : Pending) (count most : ℕ)
    → IsWriting start now bytes cutter count → (count < most → IsWaiting cutter.bytes) → count ≤ most
    → HasWritten start now (wanted most bytes) count
written_now start now bytes cutter count most w waits within =
    elim (cases_Bool (nat_lt count most)) [
      | inl fewer ↦ written_all start now bytes cutter count most w (waits (ltb-true count most fewer)) within
      | inr full ↦
          let enough : count ≡ most = omega (arith, within, ltb-false count most full) in
          subst (λ l. HasWritten start now (wanted most l) count) (append-nil bytes)
          (written_enough start now bytes [] cutter count most w enough)
    ]

-- some first bytes of the frames of a stream are some of a longer stream's
pub torn_more : (start now : Option (List ℕ)) (bytes more : List ℕ) (most : ℕ)
    → IsTorn start now (wanted most bytes) → IsTorn start now (wanted most (bytes ++ more))
torn_more start now bytes more most torn =
    let behind = (cut ((cut bytes).rest ++ more)).frames in
    let longer = take_longer most (cut bytes).frames behind in
    let all : concat (wanted most (bytes ++ more)) ≡ concat (wanted most bytes) ++ concat longer.0 =
    ap (λ (p : Parts). concat (take most p.frames)) (cut-append bytes more)
    ∙ ap concat longer.1 ∙ concat-append (wanted most bytes) longer.0 in (
      torn.0,
      omega (arith, torn.1, ap length all, length-append (concat (wanted most bytes)) (concat longer.0)),
      subst (Appends start now)
          (sym (take-append-le torn.0 (concat (wanted most bytes)) (concat longer.0) torn.1)
          ∙ ap (take torn.0) (sym all))
          torn.2,
    )
  where
    take_longer : (n : ℕ) (xs ys : List (List ℕ)) → (more : List (List ℕ)) × (take n (xs ++ ys) ≡ take n xs ++ more)
    take_longer zero xs ys = ([], refl)
    take_longer (suc n) [] ys = (take (suc n) ys, refl)
    take_longer (suc n) (x ∷ xs) ys =
        let rest = take_longer n xs ys in (rest.0, ap (λ l. x ∷ l) rest.1)
