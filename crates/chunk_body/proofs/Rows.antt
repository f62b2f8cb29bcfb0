-- Worked rows, which the definitions compute.
use Rattle.std.proofs.Common.{◌≡◌, ℕ, false, List, [], ◌∷◌, ◌++◌, length, refl, arith}
use Rattle.std.specs.Prelude.{codes, All}
use Rattle.std.specs.Fmt.{digits}
use Rattle.std.proofs.lemmas.List.Elements.{All-nil, All-cons}
use Rattle.chunk_body.specs.declared.phase.Phase.TheVariants.{Digits, Data, Ended, Broken}
use Rattle.chunk_body.specs.Body.{IsLineByte, SizeLine, print_size, size_of, IsSizeLine, Chunk, IsChunk, IsTrailer, print_trailers, Body, IsBody, print_body, data_of, data_within}
use Rattle.chunk_body.specs.Text.{BodyText}
use Rattle.chunk_body.specs.Machine.{read, after, step, expected, in_digits, in_extension, behind_size, in_data, in_trailers}
use Rattle.chunk_body.specs.Written.{chunk_of}

-- a frame whose payload is the number 1005 alone
abbrev frame_a : List ℕ
frame_a = 0xD3 ∷ 0x00 ∷ 0x02 ∷ 0x3E ∷ 0xD0 ∷ 0xA4 ∷ 0xE0 ∷ 0x00 ∷ []

-- ---- a body as a tree

-- a chunk of ten bytes with an extension, a chunk of frame A, and a trailer line
abbrev tree : Body
tree = record {
  chunks = record {
    size = record { digits = codes "0A"; extension = codes ";q=1" };
    bytes = codes "0123\r\n6789";
  }
      ∷ record { size = record { digits = codes "8"; extension = [] }; bytes = frame_a }
      ∷ [];
  last = record { digits = codes "000"; extension = [] };
  trailers = codes "X: y" ∷ [];
}

text : print_body tree ≡ codes "0A;q=1\r\n0123\r\n6789\r\n8\r\n" ++ frame_a ++ codes "\r\n000\r\nX: y\r\n\r\n"
text = refl

content : data_of tree ≡ codes "0123\r\n6789" ++ frame_a
content = refl

-- the data among the first bytes of the text
within_size : data_within 8 tree.chunks ≡ []
within_size = refl

within_bytes : data_within 10 tree.chunks ≡ codes "01"
within_bytes = refl

within_second : data_within 24 tree.chunks ≡ codes "0123\r\n6789" ++ 0xD3 ∷ []
within_second = refl

within_all : data_within 1000 tree.chunks ≡ data_of tree
within_all = refl

lower_case : size_of record { digits = codes "00003f"; extension = [] } ≡ 63
lower_case = refl

upper_case : size_of record { digits = codes "FFFFFF"; extension = [] } ≡ 16777215
upper_case = refl

-- the shortest body
shortest : BodyText (codes "0\r\n\r\n") []
shortest = (
  record { chunks = []; last = line; trailers = [] },
  record {
    chunks = All-nil IsChunk;
    last = record {
      numeral = (omega arith, (omega arith, tt));
      digits = omega arith;
      extension = tt;
      bytes = omega arith;
    };
    zero = refl;
    trailers = All-nil IsTrailer;
    room = omega arith;
  },
  refl,
  refl,
)
  where
    line : SizeLine
    line = record { digits = codes "0"; extension = [] }

-- the tree is a body
line_bytes : (a b c : ℕ) → IsLineByte a → IsLineByte b → IsLineByte c
    → All IsLineByte (a ∷ b ∷ c ∷ [])
line_bytes a b c first second third =
    All-cons IsLineByte a (b ∷ c ∷ []) first
    (All-cons IsLineByte b (c ∷ []) second (All-cons IsLineByte c [] third (All-nil IsLineByte)))

tree_is_body : IsBody tree
tree_is_body = record {
  chunks = All-cons IsChunk first (second ∷ []) is_first
      (All-cons IsChunk second [] is_second (All-nil IsChunk));
  last = record {
    numeral = (omega arith, (omega arith, (omega arith, (omega arith, tt))));
    digits = omega arith;
    extension = tt;
    bytes = omega arith;
  };
  zero = refl;
  trailers = All-cons IsTrailer (codes "X: y") [] is_trailer (All-nil IsTrailer);
  room = omega arith;
}
  where
    first : Chunk
    first = record {
      size = record { digits = codes "0A"; extension = codes ";q=1" };
      bytes = codes "0123\r\n6789";
    }

    second : Chunk
    second = record { size = record { digits = codes "8"; extension = [] }; bytes = frame_a }

    is_first : IsChunk first
    is_first = record {
      size = record {
        numeral = (omega arith, (omega arith, (omega arith, tt)));
        digits = omega arith;
        extension = (refl, line_bytes 113 61 49 (omega arith) (omega arith) (omega arith));
        bytes = omega arith;
      };
      bytes = refl;
      some = omega arith;
    }

    is_second : IsChunk second
    is_second = record {
      size = record {
        numeral = (omega arith, (omega arith, tt));
        digits = omega arith;
        extension = tt;
        bytes = omega arith;
      };
      bytes = refl;
      some = omega arith;
    }

    is_trailer : IsTrailer (codes "X: y")
    is_trailer = record {
      bytes = All-cons IsLineByte 88 (58 ∷ 32 ∷ 121 ∷ []) (omega arith)
          (line_bytes 58 32 121 (omega arith) (omega arith) (omega arith));
      some = omega arith;
    }

-- the limits of the grammar: seven digits are no size, a line of 257 bytes is no size line, a chunk
-- has as many bytes as its size says, and an empty line is no trailer line
seven : (extension : List ℕ) → IsSizeLine record { digits = codes "0000008"; extension = extension } → ⊥
seven extension is = omega (arith, is.digits)

long_line : (line : SizeLine) → length (print_size line) ≡ 257 → IsSizeLine line → ⊥
long_line line long is = omega (arith, is.bytes)

short_chunk : IsChunk record { size = record { digits = codes "2"; extension = [] }; bytes = codes "A" } → ⊥
short_chunk is = omega (arith, is.bytes)

empty_trailer : IsTrailer [] → ⊥
empty_trailer is = omega (arith, is.some)

long_trailers : (body : Body) → length (print_trailers body.trailers) ≡ 1025 → IsBody body → ⊥
long_trailers body long is = omega (arith, is.room)

-- ---- readings

seven_digits : read (codes "0000008") ≡ record { phase = Broken; taken = 6 }
unfolding read after step expected in_digits
seven_digits = refl

six_digits : read (codes "000008") ≡ record { phase = Digits 6 8; taken = 6 }
unfolding read after step expected in_digits
six_digits = refl

within_chunk : read (codes "8\r\n" ++ 0xD3 ∷ 0x00 ∷ []) ≡ record { phase = Data 6; taken = 5 }
unfolding read after step expected in_digits behind_size in_data
within_chunk = refl

whole : (read (print_body tree)).phase ≡ Ended
unfolding read after step expected in_digits in_extension behind_size in_data in_trailers
whole = refl

-- the bytes behind the end are not looked at
behind : read (codes "0\r\n\r\nGET") ≡ record { phase = Ended; taken = 4 }
unfolding read after step expected in_digits behind_size in_trailers
behind = refl

no_line_end : read (codes "1\r\nAB") ≡ record { phase = Broken; taken = 4 }
unfolding read after step expected in_digits behind_size in_data
no_line_end = refl

bare_lf : read (codes "1\n") ≡ record { phase = Broken; taken = 1 }
unfolding read after step expected in_digits
bare_lf = refl

-- ---- writing

chunk_a : chunk_of frame_a ≡ codes "8\r\n" ++ frame_a ++ codes "\r\n"
unfolding digits
chunk_a = refl

longest_frame : digits 16 false 1029 ≡ codes "405"
unfolding digits
longest_frame = refl
