-- Which words ask for a caster that keeps serving.
use Rattle.std.proofs.Common.{◌≡◌, ℕ, true, ◌&&◌, List, [], ◌∷◌, codes, Option, None, Some, IfSome, IfNone, option_map, inl, inr, refl, ap, sym, ◌∙◌, arith}
use Rattle.std.proofs.lemmas.Bool.{and_parts, cases_Bool}
use Rattle.std.specs.Fmt.{decimal}
use Rattle.std.specs.Str.{bytes_eq}
use Rattle.caster_top.specs.declared.keep_words.Keep.{Keep}
use Rattle.caster_top.specs.Command.{Form, keeping, AreKeep, AreOf, KeepNothing, form_of_four, is_path, keep_form, keep_of, keep_of_four, keeping_form, up_to}
use Rattle.caster_top.proofs.WordLemmas.{are_keep, is_path-true, keep_form_is, name_is, up_to-decimal}

keep_of_four-form : (name config addr quiet : List ℕ) (form : Form) → keep_of_four name config addr quiet ≡ Some form
    → AreOf (name ∷ config ∷ addr ∷ quiet ∷ []) form
keep_of_four-form name config addr quiet form h =
    elim (cases_Bool (bytes_eq name (codes "keep") && (is_path config && is_path addr))) [
      | inl is ↦
          let both = and_parts (bytes_eq name (codes "keep")) (is_path config && is_path addr) is in
          keep_form_is name config addr quiet form both.0 both.1 (sym (rw is refl) ∙ h)
      | inr none ↦
          let e : keep_of_four name config addr quiet ≡ None = rw none refl in
          absurd cc
    ]

keep_of-form : (words : List (List ℕ)) (form : Form) → keep_of words ≡ Some form → AreOf words form
keep_of-form (name ∷ config ∷ addr ∷ quiet ∷ []) form h = keep_of_four-form name config addr quiet form h
keep_of-form [] form h = absurd cc
keep_of-form (a ∷ []) form h = absurd cc
keep_of-form (a ∷ b ∷ []) form h = absurd cc
keep_of-form (a ∷ b ∷ c ∷ []) form h = absurd cc
keep_of-form (a ∷ b ∷ c ∷ d ∷ e ∷ more) form h = absurd cc

-- what is read so are its words
pub keep_read : (words : List (List ℕ)) (read : Option Keep) → option_map keep_form read ≡ keep_of words
    → IfSome read (λ keep. AreKeep words keep.config.now keep.addr.now keep.quiet)
keep_read words None h = tt
keep_read words (Some keep) h = keep_of-form words (keep_form keep) (sym h)

-- the words of one are read so
keep_is_read : (words : List (List ℕ)) (config addr : List ℕ) (quiet : ℕ) → AreKeep words config addr quiet
    → keep_of words ≡ Some (keeping config addr quiet)
keep_is_read words config addr quiet are =
    let first = is_path-true config are.config_is.0 are.config_is.1 in
    let second = is_path-true addr are.addr_is.0 are.addr_is.1 in
    let e : keep_of_four (codes "keep") config addr (decimal quiet) ≡ keeping_form config addr (decimal quiet) =
    rw (first, second) refl in
    ap keep_of are.parts ∙ e
    ∙ ap (λ v. option_map (λ n. keeping config addr n) v) (up_to-decimal 86400 quiet are.quiet_is (omega arith))

-- and where nothing is read so, they ask for none
pub keep_unread : (words : List (List ℕ)) (read : Option Keep) → option_map keep_form read ≡ keep_of words
    → IfNone read (KeepNothing words)
keep_unread words None h = λ config addr quiet are. absurd (let e = keep_is_read words config addr quiet are in cc)
keep_unread words (Some keep) h = tt

-- words of this name that ask for none are of no form
no_keeping : (name config addr quiet : List ℕ) → KeepNothing (name ∷ config ∷ addr ∷ quiet ∷ [])
    → bytes_eq name (codes "keep") ≡ true → (is_path config && is_path addr) ≡ true → (read : Option ℕ)
    → up_to 86400 quiet ≡ read → option_map (λ n. keeping config addr n) read ≡ None
no_keeping name config addr quiet nothing same paths None h = refl
no_keeping name config addr quiet nothing same paths (Some n) h =
    absurd (nothing config addr n (are_keep name config addr quiet n same paths h))

pub keep_excluded : (name config addr quiet : List ℕ) → KeepNothing (name ∷ config ∷ addr ∷ quiet ∷ [])
    → bytes_eq name (codes "keep") ≡ true → None ≡ form_of_four name config addr quiet
keep_excluded name config addr quiet nothing same =
    let named : name ≡ codes "keep" = name_is name (codes "keep") same in
    let by_name : form_of_four name config addr quiet ≡ form_of_four (codes "keep") config addr quiet =
    ap (λ (n : List ℕ). form_of_four n config addr quiet) named in
    elim (cases_Bool (is_path config && is_path addr)) [
      | inl paths ↦
          let e : form_of_four (codes "keep") config addr quiet ≡ keeping_form config addr quiet = rw paths refl in
          sym (by_name ∙ e ∙ no_keeping name config addr quiet nothing same paths (up_to 86400 quiet) refl)
      | inr none ↦
          let e : form_of_four (codes "keep") config addr quiet ≡ None = rw none refl in
          sym (by_name ∙ e)
    ]
