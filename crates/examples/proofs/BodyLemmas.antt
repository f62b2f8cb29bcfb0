-- What one more byte of a chunked body appends.
use Rattle.std.proofs.Common.{◌≡◌, ℕ, ◌+◌, ◌<◌, List, [], ◌∷◌, ◌++◌, length, take, get_or, refl, ap, sym, ◌∙◌, append_assoc}
use Rattle.std.proofs.lemmas.List.{take_more}
use Rattle.chunk_body.specs.Machine.{Reading, read}
use Rattle.chunk_body.specs.Answer.{given_by, plain_of}
use Rattle.chunk_body.specs.declared.dechunk.Step.{Step}
use Rattle.chunk_body.specs.declared.dechunk.Step.TheVariants.{More, Byte, Done, Bad}

pub text_further : (text bytes : List ℕ) (i : ℕ) → i < length bytes
    → (text ++ take i bytes) ++ get_or bytes i 0 ∷ [] ≡ text ++ take (i + 1) bytes
text_further text bytes i below =
    append_assoc text (take i bytes) (get_or bytes i 0 ∷ [])
    ∙ ap (λ (l : List ℕ). text ++ l) (sym (take_more bytes i 0 below))

-- these data of the bytes were appended, behind any text that the reader had read
pub record Appends (reader : Reading) (bytes old new : List ℕ) : Type 0 where
  pub more : List ℕ
  pub added : new ≡ old ++ more
  pub are_data : (text : List ℕ) → reader ≡ read text → plain_of (text ++ bytes) ≡ plain_of text ++ more

pub appends_further : (reader now : Reading) (bytes : List ℕ) (i : ℕ) (step : Step) (old mid new : List ℕ)
    → i < length bytes → Appends reader (take i bytes) old mid
    → ((text : List ℕ) → reader ≡ read text → now ≡ read (text ++ take i bytes))
    → ((text : List ℕ) → now ≡ read text
    → plain_of (text ++ get_or bytes i 0 ∷ []) ≡ plain_of text ++ given_by step)
    → new ≡ mid ++ given_by step → Appends reader (take (i + 1) bytes) old new
appends_further reader now bytes i step old mid new below so_far reads gives added =
    let given = given_by step in
    record {
      more = so_far.more ++ given;
      added = added ∙ ap (λ (l : List ℕ). l ++ given) so_far.added ∙ append_assoc old so_far.more given;
      are_data = λ text is.
          ap plain_of (sym (text_further text bytes i below))
          ∙ gives (text ++ take i bytes) (reads text is)
          ∙ ap (λ (l : List ℕ). l ++ given) (so_far.are_data text is)
          ∙ append_assoc (plain_of text) so_far.more given;
    }

-- an answer that is no byte of the data gives none
pub none_given : (step : Step) → ((byte : ℕ) → step ≡ Byte byte → ⊥) → given_by step ≡ []
none_given More others = refl
none_given (Byte byte) others = absurd (others byte refl)
none_given Done others = refl
none_given (Bad place) others = refl
