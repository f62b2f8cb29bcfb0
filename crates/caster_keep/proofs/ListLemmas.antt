-- Lists that are taken from their ends.
use Rattle.std.proofs.Common.{◌≡◌, ◌∙◌, ◌++◌, List, [], ◌∷◌, map, sym, ap, append_assoc}
use Rattle.std.proofs.lemmas.List.{map-append}

-- the last of a list came behind those before it, told of as what is told of another list
pub last_told : {X Y Z W : Type 0} (g : X → W) (f : W → Z) (tell : Y → Z) (front all : List X) (last : X)
    (old mid new : List Y) (y : Y) → all ≡ front ++ last ∷ [] → map tell mid ≡ map tell old ++ map f (map g front)
    → new ≡ mid ++ y ∷ [] → tell y ≡ f (g last) → map tell new ≡ map tell old ++ map f (map g all)
last_told g f tell front all last old mid new y split before behind same =
    ap (map tell) behind ∙ map-append tell mid (y ∷ []) ∙ ap (λ l. l ++ tell y ∷ []) before
    ∙ append_assoc (map tell old) (map f (map g front)) (tell y ∷ [])
    ∙ ap (λ l. map tell old ++ l)
    (ap (λ z. map f (map g front) ++ z ∷ []) same
    ∙ sym (ap (map f) (ap (map g) split ∙ map-append g front (last ∷ [])) ∙ map-append f (map g front) (g last ∷ [])))

-- nothing came behind those of a list, as they are told of another one
pub same_told : {X Y Z W : Type 0} (g : X → W) (f : W → Z) (tell : Y → Z) (front all : List X) (old mid : List Y)
    → all ≡ front → map tell mid ≡ map tell old ++ map f (map g front)
    → map tell mid ≡ map tell old ++ map f (map g all)
same_told g f tell front all old mid same before = before ∙ ap (λ l. map tell old ++ map f (map g l)) (sym same)
