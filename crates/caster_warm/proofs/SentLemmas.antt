-- What a connection was sent, once a part was added.
use Rattle.std.proofs.Common.{◌≡◌, ◌∙◌, ◌++◌, ℕ, Bool, true, false, Option, List, Vec, refl, sym, ap, inl, inr}
use Rattle.std.specs.Prelude.{◌==◌, nat_lt, if◌then◌else◌, cond}
use Rattle.std.specs.Global.{Global}
use Rattle.std.specs.Ordering.{is_eq, nat_cmp}
use Rattle.std.specs.declared.cmp.Ordering.TheVariants.{Less, Equal, Greater}
use Rattle.std.specs.BTreeMap.{BTreeMap, get, is_at}
use Rattle.std.proofs.lemmas.Bool.{cases_Bool, eqb-true}
use Rattle.std.proofs.lemmas.List.{append-nil}
use Rattle.caster_warm.specs.declared.parts.Part.{Part}
use Rattle.caster_warm.specs.Parts.{part_to, items_of, sent_to}

apart_if : (lt eq : Bool) → eq ≡ false → is_eq (cond lt Less (cond eq Equal Greater)) ≡ false
apart_if true eq apart = refl
apart_if false true apart = apart
apart_if false false apart = refl

-- another number is at another place
apart : (k n : ℕ) → (k == n) ≡ false → is_at (nat_cmp k) n ≡ false
apart k n is = apart_if (nat_lt k n) (k == n) is

-- The bytes that were found at the part's number, and those of the part behind them, were put
-- there.
pub added : (n : ℕ) (part : Part) (old mid : BTreeMap ℕ (Vec ℕ Global)) (found : Option (Vec ℕ Global))
    (all : List ℕ) → found ≡ get nat_cmp old part.number
    → ((q : ℕ) → is_at (nat_cmp part.number) q ≡ false → get nat_cmp mid q ≡ get nat_cmp old q)
    → all ≡ items_of found ++ part.bytes.items
    → (if part.number == n then all else sent_to n mid) ≡ sent_to n old ++ part_to n part
added n part old mid found all is kept items =
    elim (cases_Bool (part.number == n)) [
      | inl here ↦
          rw here (items ∙ ap (λ (o : Option (Vec ℕ Global)). items_of o ++ part.bytes.items)
          (is ∙ ap (get nat_cmp old) (eqb-true part.number n here)))
      | inr off ↦ rw off (ap items_of (kept n (apart part.number n off)) ∙ sym (append-nil (sent_to n old)))
    ]
