-- A line of a word and numbers, piece by piece.
use Rattle.std.proofs.Common.{◌≡◌, ◌∙◌, ◌++◌, ◌+◌, ◌^◌, ◌<◌, ◌≤◌, ℕ, zero, suc, List, [], ◌∷◌, map, take, length, get_or, refl, sym, ap, append_assoc, arith}
use Rattle.std.proofs.lemmas.List.{append-nil, take_more}
use Rattle.std.proofs.lemmas.Fmt.{length-decimal-le_wide}
use Rattle.std.proofs.lemmas.Grind.{flat_map-append}
use Rattle.std.specs.List.{join_with_byte, flat_map, zip}
use Rattle.std.specs.Prelude.{codes}
use Rattle.std.specs.Fmt.{decimal}
use Rattle.session_model.specs.declared.ending.Ending.{Ending}
use Rattle.session_model.specs.declared.ending.Ending.TheVariants.{SourceEnd, RoverEnd, TableSent, NoHead, BadHead, LongHead, Method, Coding, NoMount, NoAccount, Password, SourcePassword, Denied, Taken, Full, BadChunk, UpstreamTable, Upstream, ReadFault, WriteFault, Worn, Memory}
use Rattle.session_model.specs.Text.{ending_words, line, spaced}

join_spaced : (word numbers : List ℕ) → join_with_byte 32 (word ∷ map decimal numbers) ≡ word ++ spaced numbers
join_spaced word [] = sym (append-nil word)
join_spaced word (number ∷ numbers) = ap (λ (l : List ℕ). word ++ 32 ∷ l) (join_spaced (decimal number) numbers)

pub line_pieces : (old kind name numbers : List ℕ)
    → (((old ++ kind) ++ name) ++ spaced numbers) ++ 10 ∷ [] ≡ old ++ (kind ++ line (name ∷ map decimal numbers))
line_pieces old kind name numbers =
    ap (λ (l : List ℕ). l ++ 10 ∷ []) (append_assoc (old ++ kind) name (spaced numbers))
    ∙ append_assoc (old ++ kind) (name ++ spaced numbers) (10 ∷ [])
    ∙ append_assoc old kind ((name ++ spaced numbers) ++ 10 ∷ [])
    ∙ ap (λ (l : List ℕ). old ++ (kind ++ (l ++ 10 ∷ []))) (sym (join_spaced name numbers))

-- ---- a text, piece by piece

pub two_pieces : (old mid now a b : List ℕ) → mid ≡ old ++ a → now ≡ mid ++ b → now ≡ old ++ (a ++ b)
two_pieces old mid now a b first second = second ∙ ap (λ (l : List ℕ). l ++ b) first ∙ append_assoc old a b

pub three_pieces : (old front mid now a b c : List ℕ) → front ≡ old ++ a → mid ≡ front ++ b → now ≡ mid ++ c
    → now ≡ old ++ ((a ++ b) ++ c)
three_pieces old front mid now a b c first second third =
    two_pieces old mid now (a ++ b) c (two_pieces old front mid a b first second) third

-- ---- the line of an ending behind a number

-- words of which there is a first
record HasFirst (words : List (List ℕ)) : Type 0 where
  first : List ℕ
  others : List (List ℕ)
  is : words ≡ first ∷ others

has_first : (first : List ℕ) (others : List (List ℕ)) → HasFirst (first ∷ others)
has_first first others = record { first = first; others = others; is = refl }

ending_first : (ending : Ending) → HasFirst (ending_words ending)
ending_first (SourceEnd claim) = has_first (codes "source-end") (decimal claim ∷ [])
ending_first RoverEnd = has_first (codes "rover-end") []
ending_first TableSent = has_first (codes "table-sent") []
ending_first NoHead = has_first (codes "no-head") []
ending_first BadHead = has_first (codes "bad-head") []
ending_first LongHead = has_first (codes "long-head") []
ending_first Method = has_first (codes "method") []
ending_first Coding = has_first (codes "coding") []
ending_first NoMount = has_first (codes "no-mount") []
ending_first NoAccount = has_first (codes "no-account") []
ending_first (Password account) = has_first (codes "password") (decimal account ∷ [])
ending_first SourcePassword = has_first (codes "source-password") []
ending_first (Denied group) = has_first (codes "denied") (decimal group ∷ [])
ending_first (Taken caller claim) = has_first (codes "taken") (decimal caller ∷ decimal claim ∷ [])
ending_first (Full busy cap) = has_first (codes "full") (decimal busy ∷ decimal cap ∷ [])
ending_first (BadChunk place) = has_first (codes "bad-chunk") (decimal place ∷ [])
ending_first UpstreamTable = has_first (codes "upstream-table") []
ending_first (Upstream status) = has_first (codes "upstream") (decimal status ∷ [])
ending_first ReadFault = has_first (codes "read-fault") []
ending_first WriteFault = has_first (codes "write-fault") []
ending_first (Worn turns) = has_first (codes "worn") (decimal turns ∷ [])
ending_first Memory = has_first (codes "memory") []

-- two words in front of others
behind_two : (kind number first : List ℕ) (others : List (List ℕ))
    → (kind ++ 32 ∷ []) ++ (number ++ 32 ∷ line (first ∷ others)) ≡ line (kind ∷ number ∷ first ∷ others)
behind_two kind number first others =
    let words = join_with_byte 32 (first ∷ others) in
    append_assoc kind (32 ∷ []) (number ++ 32 ∷ line (first ∷ others))
    ∙ ap (λ (l : List ℕ). kind ++ 32 ∷ l) (sym (append_assoc number (32 ∷ words) (10 ∷ [])))
    ∙ sym (append_assoc kind (32 ∷ (number ++ 32 ∷ words)) (10 ∷ []))

pub ending_pieces : (old one two three now kind number : List ℕ) (ending : Ending) → one ≡ old ++ (kind ++ 32 ∷ [])
    → two ≡ one ++ number → three ≡ two ++ 32 ∷ [] → now ≡ three ++ line (ending_words ending)
    → now ≡ old ++ line (kind ∷ number ∷ ending_words ending)
ending_pieces old one two three now kind number ending first second third last =
    let tail = line (ending_words ending) in
    let has = ending_first ending in
    last
    ∙ ap (λ (l : List ℕ). l ++ tail) (third ∙ ap (λ (l : List ℕ). l ++ 32 ∷ [])
    (second ∙ ap (λ (l : List ℕ). l ++ number) first))
    ∙ append_assoc ((old ++ (kind ++ 32 ∷ [])) ++ number) (32 ∷ []) tail
    ∙ append_assoc (old ++ (kind ++ 32 ∷ [])) number (32 ∷ tail)
    ∙ append_assoc old (kind ++ 32 ∷ []) (number ++ 32 ∷ tail)
    ∙ ap (λ (words : List (List ℕ)). old ++ ((kind ++ 32 ∷ []) ++ (number ++ 32 ∷ line words))) has.is
    ∙ ap (λ (l : List ℕ). old ++ l) (behind_two kind number has.first has.others)
    ∙ ap (λ (words : List (List ℕ)). old ++ line (kind ∷ number ∷ words)) (sym has.is)

-- ---- the texts of a list, one after the other

pub flat_more : {X : Type 0} (f : X → List ℕ) (xs : List X) (i : ℕ) (x : X) → x ≡ get_or xs i x → i < length xs
    → (old mid now : List ℕ) → mid ≡ old ++ flat_map f (take i xs) → now ≡ mid ++ f x
    → now ≡ old ++ flat_map f (take (i + 1) xs)
flat_more {X} f xs i x is within old mid now before appended =
    let so_far = flat_map f (take i xs) in
    appended
    ∙ ap (λ (l : List ℕ). l ++ f x) before
    ∙ append_assoc old so_far (f x)
    ∙ ap (λ (l : List ℕ). old ++ (so_far ++ l)) (sym (append-nil (f x)))
    ∙ ap (λ (l : List ℕ). old ++ l) (sym (flat_map-append f (take i xs) (x ∷ [])))
    ∙ ap (λ (y : X). old ++ flat_map f (take i xs ++ y ∷ [])) is
    ∙ ap (λ l. old ++ flat_map f l) (sym (take_more xs i x within))

-- ---- lines of pairs

abbrev none : (X : Type 0) → List X
none X = []

take_nil : {X : Type 0} (i : ℕ) → take i (none X) ≡ []
take_nil zero = refl
take_nil (suc i) = refl

-- one pair more of two lists
zip_suc : {X Y : Type 0} (f : X × Y → List ℕ) (xs : List X) (ys : List Y) (i : ℕ) (d : X) (e : Y)
    → i < length xs → i < length ys
    → flat_map f (take (suc i) (zip xs ys)) ≡ flat_map f (take i (zip xs ys)) ++ f (get_or xs i d, get_or ys i e)
zip_suc f [] ys i d e within also = absurd (omega (arith, within))
zip_suc f (x ∷ xs) [] i d e within also = absurd (omega (arith, also))
zip_suc f (x ∷ xs) (y ∷ ys) zero d e within also = append-nil (f (x, y))
zip_suc f (x ∷ xs) (y ∷ ys) (suc i) d e within also =
    ap (λ (l : List ℕ). f (x, y) ++ l) (zip_suc f xs ys i d e (omega (arith, within)) (omega (arith, also)))
    ∙ sym (append_assoc (f (x, y)) (flat_map f (take i (zip xs ys))) (f (get_or xs i d, get_or ys i e)))

pub zip_more : {X Y : Type 0} (f : X × Y → List ℕ) (xs : List X) (ys : List Y) (i : ℕ) (d : X) (e : Y)
    (x : X) → x ≡ get_or xs i d → i < length xs → length ys ≡ length xs → (old mid now : List ℕ)
    → mid ≡ old ++ flat_map f (take i (zip xs ys)) → now ≡ mid ++ f (x, get_or ys i e)
    → now ≡ old ++ flat_map f (take (i + 1) (zip xs ys))
zip_more {X} f xs ys i d e x is within same old mid now before appended =
    let next : suc i ≡ i + 1 = omega arith in
    let one = f (get_or xs i d, get_or ys i e) in
    appended
    ∙ ap (λ (item : X). mid ++ f (item, get_or ys i e)) is
    ∙ ap (λ (l : List ℕ). l ++ one) before
    ∙ append_assoc old (flat_map f (take i (zip xs ys))) one
    ∙ ap (λ (l : List ℕ). old ++ l) (sym (zip_suc f xs ys i d e within (omega (arith, within, same))))
    ∙ ap (λ (n : ℕ). old ++ flat_map f (take n (zip xs ys))) next

zip_take : {X Y : Type 0} (xs : List X) (ys : List Y) (i : ℕ) → length xs ≤ i → take i (zip xs ys) ≡ zip xs ys
zip_take [] ys i all = take_nil i
zip_take (x ∷ xs) [] i all = take_nil i
zip_take (x ∷ xs) (y ∷ ys) zero all = absurd (omega (arith, all))
zip_take (x ∷ xs) (y ∷ ys) (suc i) all = ap (λ l. (x, y) ∷ l) (zip_take xs ys i (omega (arith, all)))

pub zip_all : {X Y : Type 0} (f : X × Y → List ℕ) (xs : List X) (ys : List Y) (i : ℕ) → length xs ≤ i
    → (old now : List ℕ) → now ≡ old ++ flat_map f (take i (zip xs ys)) → now ≡ old ++ flat_map f (zip xs ys)
zip_all f xs ys i all old now is = is ∙ ap (λ l. old ++ flat_map f l) (zip_take xs ys i all)

-- ---- room

-- a number of 128 bits has 39 digits at most
pub short_number : (n : ℕ) → n < 2 ^ 128 → length (decimal n) ≤ 39
short_number n fits = length-decimal-le_wide 39 n (omega arith) (omega (arith, fits)) (omega (arith, fits))
