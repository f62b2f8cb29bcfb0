-- What bytes say as a document is what they are read as.
use Rattle.std.proofs.Common.{◌≡◌, ℕ, true, false, List, Option, None, Some, Ok, Err, inl, inr, refl, ap, sym, ◌∙◌}
use Rattle.std.proofs.lemmas.Bool.{cases_Bool}
use Rattle.std.proofs.lemmas.Str.{IsUtf8-from_is_utf8, is_utf8-from_IsUtf8}
use Rattle.std.specs.Str.{is_utf8}
use Rattle.toml.specs.Data.{Members}
use Rattle.toml.specs.Parse.{parse_document}
use Rattle.config_keys.specs.Answers.{Read}
use Rattle.cast_config.specs.declared.config.Config.{Config}
use Rattle.cast_config.specs.declared.fault.ConfigFault.{ConfigFault}
use Rattle.cast_config.specs.declared.fault.ConfigFault.TheVariants.{Toml, Missing, Wrong, Range, Twice, Unknown, Memory}
use Rattle.cast_config.specs.Document.{IsDocument, IsRead, ReadsAs, config_of}
use Rattle.caster_top.specs.Reading.{with_fault, config_of_tree, config_in}

config_in-document : (bytes : List ℕ) (ms : Members) → IsDocument bytes ms
    → config_in bytes ≡ with_fault (config_of ms)
unfolding config_in
config_in-document bytes ms is =
    let text : is_utf8 bytes ≡ true = is_utf8-from_IsUtf8 bytes is.utf8 in
    rw (text, is.parsed) refl

config_in-read : (bytes : List ℕ) (read : Read Config) → ReadsAs bytes read → config_in bytes ≡ with_fault read
config_in-read bytes read is = config_in-document bytes is.0 is.1 ∙ ap with_fault is.2

config_in-none : (bytes : List ℕ) (tree : Option Members) → parse_document bytes ≡ tree
    → is_utf8 bytes ≡ true → ((ms : Members) → IsDocument bytes ms → ⊥) → config_in bytes ≡ Err Toml
unfolding config_in
config_in-none bytes None parsed text none = rw (text, parsed) refl
config_in-none bytes (Some ms) parsed text none =
    absurd (none ms (record { utf8 = IsUtf8-from_is_utf8 bytes text; parsed = parsed }))

config_in-no_text : (bytes : List ℕ) → is_utf8 bytes ≡ false → config_in bytes ≡ Err Toml
unfolding config_in
config_in-no_text bytes other = rw other refl

config_in-toml : (bytes : List ℕ) → ((ms : Members) → IsDocument bytes ms → ⊥) → config_in bytes ≡ Err Toml
config_in-toml bytes none = elim (cases_Bool (is_utf8 bytes)) [
  | inl text ↦ config_in-none bytes (parse_document bytes) refl text none
  | inr other ↦ config_in-no_text bytes other
]

-- what is read, unless memory ran out
pub config_in-ok : (bytes : List ℕ) (c : Config) → IsRead bytes (Ok c) → config_in bytes ≡ Ok c
config_in-ok bytes c is = config_in-read bytes (Ok c) is

pub config_in-fault : (bytes : List ℕ) (fault : ConfigFault) → IsRead bytes (Err fault)
    → (fault ≡ Memory → ⊥) → config_in bytes ≡ Err fault
config_in-fault bytes Toml is other = config_in-toml bytes is
config_in-fault bytes (Missing key) is other = config_in-read bytes _ is
config_in-fault bytes (Wrong key) is other = config_in-read bytes _ is
config_in-fault bytes (Range key) is other = config_in-read bytes _ is
config_in-fault bytes (Twice key) is other = config_in-read bytes _ is
config_in-fault bytes (Unknown key) is other = config_in-read bytes _ is
config_in-fault bytes Memory is other = absurd (other refl)

-- ---- back

with_fault-ok : (read : Read Config) (c : Config) → with_fault read ≡ Ok c → read ≡ Ok c
with_fault-ok (Ok d) c h = cc
with_fault-ok (Err fault) c h = absurd cc

tree-read : (bytes : List ℕ) (tree : Option Members) (c : Config) → is_utf8 bytes ≡ true
    → parse_document bytes ≡ tree → config_of_tree tree ≡ Ok c → IsRead bytes (Ok c)
tree-read bytes None c text parsed h = absurd cc
tree-read bytes (Some ms) c text parsed h = (
  ms,
  record { utf8 = IsUtf8-from_is_utf8 bytes text; parsed = parsed },
  with_fault-ok (config_of ms) c h,
)

pub read-config_in : (bytes : List ℕ) (c : Config) → config_in bytes ≡ Ok c → IsRead bytes (Ok c)
unfolding config_in
read-config_in bytes c h = elim (cases_Bool (is_utf8 bytes)) [
  | inl text ↦ tree-read bytes (parse_document bytes) c text refl (sym (rw text refl) ∙ h)
  | inr other ↦ absurd (let e = config_in-no_text bytes other in cc)
]
