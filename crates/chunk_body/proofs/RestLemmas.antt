-- What may come behind a byte, with that byte in front, may come before it.
use Rattle.std.proofs.Common.{◌≡◌, ℕ, zero, suc, ◌+◌, ◌-◌, ◌*◌, ◌<◌, ◌≤◌, true, false, not, ◌&&◌, eqb, ltb, leb, List, [], ◌∷◌, ◌++◌, length, replicate, refl, ap, ap₂, ◌∙◌, sym, subst, arith, append_assoc, length-append}
use Rattle.std.specs.Char.{digit_value, is_digit}
use Rattle.std.proofs.lemmas.Bool.{ltb-true, ltb-false, eqb-true, eqb-false, and_parts, cond_both, not-true}
use Rattle.std.proofs.lemmas.List.{length-replicate}
use Rattle.std.proofs.lemmas.List.Elements.{All-nil, All-cons, All-append, All-replicate}
use Rattle.std.specs.List.{All, flat_map}
use Rattle.chunk_body.specs.declared.phase.Phase.{Phase}
use Rattle.chunk_body.specs.declared.phase.Phase.TheVariants.{Digits, Extension, SizeLf, Data, DataCr, DataLf, TrailerStart, Trailer, TrailerLf, LastLf, Ended, Broken}
use Rattle.chunk_body.specs.Body.{line_end, IsLineByte, SizeLine, print_size, size_of, IsSizeLine, Chunk, print_chunk, IsChunk, IsTrailer, print_trailers, Body, print_body}
use Rattle.chunk_body.specs.Text.{BodyText}
use Rattle.chunk_body.specs.Machine.{step, expected, in_digits, in_extension, behind_size, in_data, in_trailers}
use Rattle.chunk_body.proofs.Machines.{run, given, plain}
use Rattle.chunk_body.proofs.StepLemmas.{behind_some, behind_none}
use Rattle.chunk_body.proofs.WithinLemmas.{Within, digits_are, extension_are, data_are, trailers_are, trailer_are, trailer_lf_are, step_within}
use Rattle.chunk_body.proofs.Rests.{RestData, RestTrailers, Behind, RestDigits, RestExtension, RestSizeLf, RestBody, RestTrailer, RestTrailerLf, Rest}

-- ---- from the start: a body

-- a size line and what stands behind it, in one list
line_text : (digits extension behind : List ℕ)
    → digits ++ (extension ++ (13 ∷ 10 ∷ behind)) ≡ (digits ++ (extension ++ line_end)) ++ behind
line_text digits extension behind =
    ap (λ (t : List ℕ). digits ++ t) (sym (append_assoc extension line_end behind))
    ∙ sym (append_assoc digits (extension ++ line_end) behind)

-- a size line, and behind it what its size wants, is a body
from_line : (line : SizeLine) (v : ℕ) (u x : List ℕ) → IsSizeLine line → size_of line ≡ v
    → Behind v u x
    → BodyText (print_size line ++ u) x
from_line line zero u x is value rest =
    let body : Body = record { chunks = []; last = line; trailers = rest.lines } in (
      body,
      record {
        chunks = All-nil IsChunk;
        last = is;
        zero = value;
        trailers = rest.all;
        room = omega (arith, rest.room);
      },
      ap (λ (t : List ℕ). print_size line ++ t) rest.text,
      rest.content,
    )
from_line line (suc n) u x is value rest =
    let first : Chunk = record { size = line; bytes = rest.bytes } in
    let inner = rest.body.0 in
    let body : Body =
    record { chunks = first ∷ inner.chunks; last = inner.last; trailers = inner.trailers }
    in
    let is_first : IsChunk first = record {
      size = is;
      bytes = rest.counted ∙ sym value;
      some = omega (arith, rest.counted);
    } in
    let others = flat_map print_chunk inner.chunks in
    let last = print_size inner.last ++ print_trailers inner.trailers in
    let text : print_size line ++ u ≡ (print_size line ++ (rest.bytes ++ line_end) ++ others) ++ last =
    ap (λ (t : List ℕ). print_size line ++ t) (
    rest.text
    ∙ ap (λ (t : List ℕ). rest.bytes ++ (13 ∷ 10 ∷ t)) rest.body.2
    ∙ sym (append_assoc rest.bytes line_end (print_body inner))
    )
    ∙ sym (append_assoc (print_size line) (rest.bytes ++ line_end) (others ++ last))
    ∙ sym (append_assoc (print_chunk first) others last)
    in (
      body,
      record {
        chunks = All-cons IsChunk first inner.chunks is_first rest.body.1.chunks;
        last = rest.body.1.last;
        zero = rest.body.1.zero;
        trailers = rest.body.1.trailers;
        room = rest.body.1.room;
      },
      text,
      rest.content ∙ ap (λ (y : List ℕ). rest.bytes ++ y) rest.body.3,
    )

-- what may come at the start is a body
pub from_start : (u x : List ℕ) → Rest (Digits 0 0) u x → BodyText u x
from_start u x r =
    let line : SizeLine = record { digits = r.digits; extension = r.extension } in
    let is : IsSizeLine line = record {
      numeral = (omega (arith, r.some), r.all);
      digits = omega (arith, r.few);
      extension = r.is;
      bytes = omega (
        arith,
        r.room,
        length-append r.digits (r.extension ++ line_end),
        length-append r.extension
            line_end,
      );
    } in
    subst (λ (t : List ℕ). BodyText t x) (sym (r.text ∙ line_text r.digits r.extension r.behind))
    (from_line line (size_of line) r.behind x is refl r.rest)

-- ---- one byte back

behind_size_rest : (v : ℕ) (u x : List ℕ) → Rest (behind_size v) u x → Behind v u x
behind_size_rest zero u x r = subst (λ (q : Phase). Rest q u x) (behind_none 0 refl) r
behind_size_rest (suc n) u x r =
    subst (λ (q : Phase). Rest q u x) (behind_some (suc n) (omega arith)) r

-- behind the byte that must come
back_expected : (wanted b : ℕ) (q : Phase) (u x : List ℕ) → Rest (expected wanted b q) u x
    → (b ≡ wanted) × Rest q u x
unfolding expected
back_expected wanted b q u x =
    cond_both (eqb b wanted) q Broken (λ (p : Phase). Rest p u x → (b ≡ wanted) × Rest q u x)
    (λ same. λ r. (eqb-true b wanted same, r))
    (λ _. λ r. absurd r)

back_digits : (n v b : ℕ) (u x : List ℕ) → n ≤ 6 → Rest (in_digits n v b) u x
    → RestDigits n v (b ∷ u) x
unfolding in_digits
back_digits n v b u x few =
    cond_both (is_digit b 16 && ltb n 6) _ _ (λ (p : Phase). Rest p u x → RestDigits n v (b ∷ u) x)
    (λ both. λ r. another (ltb-true (digit_value b) 16 (and_parts (is_digit b 16) (ltb n 6) both).0) r)
    (λ _. cond_both (ltb 0 n && eqb b 59) _ _ (λ (p : Phase). Rest p u x → RestDigits n v (b ∷ u) x)
    (λ both. λ r. semicolon (ltb-true 0 n (and_parts (ltb 0 n) (eqb b 59) both).0)
    (eqb-true b 59 (and_parts (ltb 0 n) (eqb b 59) both).1) r)
    (λ _. cond_both (ltb 0 n) _ _ (λ (p : Phase). Rest p u x → RestDigits n v (b ∷ u) x)
    (λ some. λ r. end (ltb-true 0 n some) (back_expected 13 b (SizeLf v) u x r))
    (λ _. λ r. absurd r)))
  where
    another : digit_value b < 16 → RestDigits (n + 1) (v * 16 + digit_value b) u x
        → RestDigits n v (b ∷ u) x
    another digit r = record {
      digits = b ∷ r.digits;
      extension = r.extension;
      behind = r.behind;
      all = (digit, r.all);
      some = omega arith;
      few = omega (arith, r.few);
      is = r.is;
      room = omega (arith, r.room);
      text = ap (λ (t : List ℕ). b ∷ t) r.text;
      rest = r.rest;
    }

    semicolon : 0 < n → b ≡ 59 → RestExtension (n + 1) v u x → RestDigits n v (b ∷ u) x
    semicolon some is r = record {
      digits = [];
      extension = b ∷ r.bytes;
      behind = r.behind;
      all = tt;
      some = omega arith;
      few = omega arith;
      is = (is, r.all);
      room = omega (arith, r.room);
      text = ap (λ (t : List ℕ). b ∷ t) r.text;
      rest = r.rest;
    }

    end : 0 < n → (b ≡ 13) × RestSizeLf v u x → RestDigits n v (b ∷ u) x
    end some both = record {
      digits = [];
      extension = [];
      behind = both.1.behind;
      all = tt;
      some = omega arith;
      few = omega arith;
      is = tt;
      room = omega arith;
      text = ap₂ (λ (c : ℕ) (t : List ℕ). c ∷ t) both.0 both.1.text;
      rest = both.1.rest;
    }

-- a byte that is neither CR nor LF
line_byte : (b : ℕ) → eqb b 13 ≡ false → not (eqb b 10) ≡ true → IsLineByte b
line_byte b cr lf = (eqb-false b 13 cr, eqb-false b 10 (not-true (eqb b 10) lf))

back_extension : (n v b : ℕ) (u x : List ℕ) → n ≤ 254 → Rest (in_extension n v b) u x
    → RestExtension n v (b ∷ u) x
unfolding in_extension
back_extension n v b u x few =
    cond_both (eqb b 13) _ _ (λ (p : Phase). Rest p u x → RestExtension n v (b ∷ u) x)
    (λ cr. λ r. end (eqb-true b 13 cr) r)
    (λ other. cond_both (not (eqb b 10) && leb (n + 3) 256) _ _ (λ (p : Phase). Rest p u x
    → RestExtension n v (b ∷ u) x)
    (λ both. λ r. another (line_byte b other (and_parts (not (eqb b 10)) (leb (n + 3) 256) both).0) r)
    (λ _. λ r. absurd r))
  where
    end : b ≡ 13 → RestSizeLf v u x → RestExtension n v (b ∷ u) x
    end cr r = record {
      bytes = [];
      behind = r.behind;
      all = All-nil IsLineByte;
      room = omega arith;
      text = ap₂ (λ (c : ℕ) (t : List ℕ). c ∷ t) cr r.text;
      rest = r.rest;
    }

    another : IsLineByte b → RestExtension (n + 1) v u x → RestExtension n v (b ∷ u) x
    another line r = record {
      bytes = b ∷ r.bytes;
      behind = r.behind;
      all = All-cons IsLineByte b r.bytes line r.all;
      room = omega (arith, r.room);
      text = ap (λ (t : List ℕ). b ∷ t) r.text;
      rest = r.rest;
    }

back_data : (n b : ℕ) (u x : List ℕ) → 0 < n → Rest (in_data n) u x → RestData n (b ∷ u) (b ∷ x)
unfolding in_data
back_data n b u x some =
    cond_both (ltb 1 n) _ _ (λ (p : Phase). Rest p u x → RestData n (b ∷ u) (b ∷ x))
    (λ more. λ r. another (ltb-true 1 n more) r)
    (λ last. λ r. end (ltb-false 1 n last) r)
  where
    another : 1 < n → RestData (n - 1) u x → RestData n (b ∷ u) (b ∷ x)
    another more r = record {
      bytes = b ∷ r.bytes;
      behind = r.behind;
      more = r.more;
      counted = omega (arith, r.counted);
      text = ap (λ (t : List ℕ). b ∷ t) r.text;
      body = r.body;
      content = ap (λ (t : List ℕ). b ∷ t) r.content;
    }

    end : n ≤ 1 → RestBody line_end u x → RestData n (b ∷ u) (b ∷ x)
    end last r = record {
      bytes = b ∷ [];
      behind = r.behind;
      more = x;
      counted = omega arith;
      text = ap (λ (t : List ℕ). b ∷ t) r.text;
      body = r.body;
      content = refl;
    }

back_trailers : (n b : ℕ) (u x : List ℕ) → n ≤ 1022 → Rest (in_trailers n b LastLf) u x
    → RestTrailers n (b ∷ u) x
unfolding in_trailers
back_trailers n b u x few =
    cond_both (eqb b 13) _ _ (λ (p : Phase). Rest p u x → RestTrailers n (b ∷ u) x)
    (λ cr. λ r. end (eqb-true b 13 cr) r)
    (λ other. cond_both (not (eqb b 10) && leb (n + 5) 1024) _ _ (λ (p : Phase). Rest p u x → RestTrailers n (b ∷ u) x)
    (λ both. λ r. another (line_byte b other (and_parts (not (eqb b 10)) (leb (n + 5) 1024) both).0) r)
    (λ _. λ r. absurd r))
  where
    end : b ≡ 13 → (u ≡ 10 ∷ []) × (x ≡ []) → RestTrailers n (b ∷ u) x
    end cr r = record {
      lines = [];
      all = All-nil IsTrailer;
      room = omega arith;
      text = ap₂ (λ (c : ℕ) (t : List ℕ). c ∷ t) cr r.0;
      content = r.1;
    }

    another : IsLineByte b → RestTrailer (n + 1) u x → RestTrailers n (b ∷ u) x
    another line r =
        let first = b ∷ r.bytes in
        let others = flat_map (λ (l : List ℕ). l ++ line_end) r.lines in
        let is_first : IsTrailer first = record {
          bytes = All-cons IsLineByte b r.bytes line r.all;
          some = omega arith;
        } in
        let split : print_trailers (first ∷ r.lines) ≡ (first ++ line_end) ++ print_trailers r.lines =
        append_assoc (first ++ line_end) others line_end
        in
        let behind : (first ++ line_end) ++ print_trailers r.lines ≡ first ++ (13 ∷ 10 ∷ print_trailers r.lines) =
        append_assoc first line_end (print_trailers r.lines)
        in
        let count : length (print_trailers (first ∷ r.lines)) ≡ length first + 2 + length (print_trailers r.lines) =
        ap length split
        ∙ omega (arith, length-append (first ++ line_end) (print_trailers r.lines), length-append first line_end)
        in
        record {
          lines = first ∷ r.lines;
          all = All-cons IsTrailer first r.lines is_first r.others;
          room = omega (arith, r.room, count);
          text = ap (λ (t : List ℕ). b ∷ t) r.text ∙ sym (split ∙ behind);
          content = r.content;
        }

back_trailer : (n b : ℕ) (u x : List ℕ) → Rest (in_trailers n b (TrailerLf (n + 1))) u x
    → RestTrailer n (b ∷ u) x
unfolding in_trailers
back_trailer n b u x =
    cond_both (eqb b 13) _ _ (λ (p : Phase). Rest p u x → RestTrailer n (b ∷ u) x)
    (λ cr. λ r. end (eqb-true b 13 cr) r)
    (λ other. cond_both (not (eqb b 10) && leb (n + 5) 1024) _ _ (λ (p : Phase). Rest p u x → RestTrailer n (b ∷ u) x)
    (λ both. λ r. another (line_byte b other (and_parts (not (eqb b 10)) (leb (n + 5) 1024) both).0) r)
    (λ _. λ r. absurd r))
  where
    end : b ≡ 13 → RestTrailerLf (n + 1) u x → RestTrailer n (b ∷ u) x
    end cr r = record {
      bytes = [];
      lines = r.lines;
      all = All-nil IsLineByte;
      others = r.others;
      room = omega (arith, r.room);
      text = ap₂ (λ (c : ℕ) (t : List ℕ). c ∷ t) cr r.text;
      content = r.content;
    }

    another : IsLineByte b → RestTrailer (n + 1) u x → RestTrailer n (b ∷ u) x
    another line r = record {
      bytes = b ∷ r.bytes;
      lines = r.lines;
      all = All-cons IsLineByte b r.bytes line r.all;
      others = r.others;
      room = omega (arith, r.room);
      text = ap (λ (t : List ℕ). b ∷ t) r.text;
      content = r.content;
    }

pub back : (q : Phase) (b : ℕ) (u x : List ℕ) → Within q → Rest (step q b) u x
    → Rest q (b ∷ u) (given q b ++ x)
unfolding step
back (Digits n v) b u x is r = back_digits n v b u x (digits_are n v is).0 r
back (Extension n v) b u x is r = back_extension n v b u x (extension_are n v is).0 r
back (SizeLf v) b u x is r =
    let both = back_expected 10 b (behind_size v) u x r in
    record {
      behind = u;
      text = ap (λ (c : ℕ). c ∷ u) both.0;
      rest = behind_size_rest v u x both.1;
    }
back (Data n) b u x is r = back_data n b u x (data_are n is).0 r
back DataCr b u x is r =
    let both = back_expected 13 b DataLf u x r in
    record {
      behind = both.1.behind;
      text = ap₂ (λ (c : ℕ) (t : List ℕ). c ∷ t) both.0 both.1.text;
      body = both.1.body;
    }
back DataLf b u x is r =
    let both = back_expected 10 b (Digits 0 0) u x r in
    record {
      behind = u;
      text = ap (λ (c : ℕ). c ∷ u) both.0;
      body = from_start u x both.1;
    }
back (TrailerStart n) b u x is r = back_trailers n b u x (trailers_are n is) r
back (Trailer n) b u x is r = back_trailer n b u x r
back (TrailerLf n) b u x is r =
    let both = back_expected 10 b (TrailerStart (n + 1)) u x r in
    record {
      lines = both.1.lines;
      others = both.1.all;
      room = omega (arith, both.1.room);
      text = ap₂ (λ (c : ℕ) (t : List ℕ). c ∷ t) both.0 both.1.text;
      content = both.1.content;
    }
back LastLf b u x is r =
    let both = back_expected 10 b Ended u x r in
    (ap₂ (λ (c : ℕ) (t : List ℕ). c ∷ t) both.0 both.1.0, both.1.1)
back Ended b u x is r = absurd r
back Broken b u x is r = absurd r

-- the same of many bytes
pub back_all : (q : Phase) (t u x : List ℕ) → Within q → Rest (run q t) u x
    → Rest q (t ++ u) (plain q t ++ x)
back_all q [] u x is r = r
back_all q (b ∷ t) u x is r =
    subst (λ (y : List ℕ). Rest q (b ∷ (t ++ u)) y) (sym (append_assoc (given q b) (plain (step q b) t) x))
    (back q b (t ++ u) (plain (step q b) t ++ x) is (back_all (step q b) t u x (step_within q b is) r))

-- ---- from every phase but the broken one some rest leads to the end

-- the shortest body
abbrev pub ending : List ℕ
ending = 48 ∷ 13 ∷ 10 ∷ 13 ∷ 10 ∷ []

abbrev pub IsByte : ℕ → Type 0
IsByte n = n < 256

-- a phase has a rest of bytes
pub record HasRest (q : Phase) : Type 0 where
  pub text : List ℕ
  pub content : List ℕ
  pub rest : Rest q text content
  pub bytes : All IsByte text

record HasBehind (v : ℕ) : Type 0 where
  text : List ℕ
  content : List ℕ
  rest : Behind v text content
  bytes : All IsByte text

-- one more byte, and then bytes
and_then : (b : ℕ) (t : List ℕ) → b < 256 → All IsByte t → All IsByte (b ∷ t)
and_then b t byte bytes = All-cons IsByte b t byte bytes

end_bytes : All IsByte line_end
end_bytes = and_then 13 (10 ∷ []) (omega arith) (and_then 10 [] (omega arith) (All-nil IsByte))

-- a line's end, and then bytes
line_bytes : (t : List ℕ) → All IsByte t → All IsByte (13 ∷ 10 ∷ t)
line_bytes t bytes = and_then 13 (10 ∷ t) (omega arith) (and_then 10 t (omega arith) bytes)

ending_bytes : All IsByte ending
ending_bytes = and_then 48 (13 ∷ 10 ∷ 13 ∷ 10 ∷ []) (omega arith) (line_bytes line_end end_bytes)

zeros_bytes : (n : ℕ) → All IsByte (replicate n 0 ++ (13 ∷ 10 ∷ ending))
zeros_bytes n =
    All-append IsByte (replicate n 0) (13 ∷ 10 ∷ ending)
    (All-replicate IsByte n 0 (omega arith))
    (line_bytes ending ending_bytes)

no_trailers : (n : ℕ) → n ≤ 1022 → RestTrailers n line_end []
no_trailers n few = record {
  lines = [];
  all = All-nil IsTrailer;
  room = omega arith;
  text = refl;
  content = refl;
}

pub shortest : BodyText ending []
shortest = from_start ending [] (record {
  digits = 48 ∷ [];
  extension = [];
  behind = line_end;
  all = (omega arith, tt);
  some = omega arith;
  few = omega arith;
  is = tt;
  room = omega arith;
  text = refl;
  rest = no_trailers 0 (omega arith);
})

zeros : (n : ℕ) → RestData n (replicate n 0 ++ (13 ∷ 10 ∷ ending)) (replicate n 0 ++ [])
zeros n = record {
  bytes = replicate n 0;
  behind = ending;
  more = [];
  counted = length-replicate n 0;
  text = refl;
  body = shortest;
  content = refl;
}

has_behind : (v : ℕ) → HasBehind v
has_behind zero =
    record { text = line_end; content = []; rest = no_trailers 0 (omega arith); bytes = end_bytes }
has_behind (suc n) = record {
  text = replicate (suc n) 0 ++ (13 ∷ 10 ∷ ending);
  content = replicate (suc n) 0 ++ [];
  rest = zeros (suc n);
  bytes = zeros_bytes (suc n);
}

-- after one digit or more, the line may end
end_digits : (n v : ℕ) → 0 < n → n ≤ 6 → HasRest (Digits n v)
end_digits n v some few =
    let h = has_behind v in
    record {
      text = 13 ∷ 10 ∷ h.text;
      content = h.content;
      rest = record {
        digits = [];
        extension = [];
        behind = h.text;
        all = tt;
        some = omega arith;
        few = omega arith;
        is = tt;
        room = omega arith;
        text = refl;
        rest = h.rest;
      };
      bytes = line_bytes h.text h.bytes;
    }

has_digits : (n v : ℕ) → n ≤ 6 → HasRest (Digits n v)
has_digits zero v few =
    let h = has_behind (v * 16 + digit_value 48) in
    record {
      text = 48 ∷ 13 ∷ 10 ∷ h.text;
      content = h.content;
      rest = record {
        digits = 48 ∷ [];
        extension = [];
        behind = h.text;
        all = (omega arith, tt);
        some = omega arith;
        few = omega arith;
        is = tt;
        room = omega arith;
        text = refl;
        rest = h.rest;
      };
      bytes = and_then 48 (13 ∷ 10 ∷ h.text) (omega arith) (line_bytes h.text h.bytes);
    }
has_digits (suc n) v few = end_digits (suc n) v (omega arith) few

pub has_rest : (q : Phase) → Within q → (q ≡ Broken → ⊥) → HasRest q
has_rest (Digits n v) is fine = has_digits n v (digits_are n v is).0
has_rest (Extension n v) is fine =
    let h = has_behind v in
    let few = (extension_are n v is).0 in
    record {
      text = 13 ∷ 10 ∷ h.text;
      content = h.content;
      rest = record {
        bytes = [];
        behind = h.text;
        all = All-nil IsLineByte;
        room = omega arith;
        text = refl;
        rest = h.rest;
      };
      bytes = line_bytes h.text h.bytes;
    }
has_rest (SizeLf v) is fine =
    let h = has_behind v in
    record {
      text = 10 ∷ h.text;
      content = h.content;
      rest = record { behind = h.text; text = refl; rest = h.rest };
      bytes = and_then 10 h.text (omega arith) h.bytes;
    }
has_rest (Data n) is fine = record {
  text = replicate n 0 ++ (13 ∷ 10 ∷ ending);
  content = replicate n 0 ++ [];
  rest = zeros n;
  bytes = zeros_bytes n;
}
has_rest DataCr is fine = record {
  text = 13 ∷ 10 ∷ ending;
  content = [];
  rest = record { behind = ending; text = refl; body = shortest };
  bytes = line_bytes ending ending_bytes;
}
has_rest DataLf is fine = record {
  text = 10 ∷ ending;
  content = [];
  rest = record { behind = ending; text = refl; body = shortest };
  bytes = and_then 10 ending (omega arith) ending_bytes;
}
has_rest (TrailerStart n) is fine = record {
  text = line_end;
  content = [];
  rest = no_trailers n (trailers_are n is);
  bytes = end_bytes;
}
has_rest (Trailer n) is fine =
    let few = trailer_are n is in
    record {
      text = 13 ∷ 10 ∷ line_end;
      content = [];
      rest = record {
        bytes = [];
        lines = [];
        all = All-nil IsLineByte;
        others = All-nil IsTrailer;
        room = omega arith;
        text = refl;
        content = refl;
      };
      bytes = line_bytes line_end end_bytes;
    }
has_rest (TrailerLf n) is fine =
    let few = trailer_lf_are n is in
    record {
      text = 10 ∷ line_end;
      content = [];
      rest = record {
        lines = [];
        others = All-nil IsTrailer;
        room = omega arith;
        text = refl;
        content = refl;
      };
      bytes = and_then 10 line_end (omega arith) end_bytes;
    }
has_rest LastLf is fine = record {
  text = 10 ∷ [];
  content = [];
  rest = (refl, refl);
  bytes = and_then 10 [] (omega arith) (All-nil IsByte);
}
has_rest Ended is fine =
    record { text = []; content = []; rest = (refl, refl); bytes = All-nil IsByte }
has_rest Broken is fine = absurd (fine refl)
