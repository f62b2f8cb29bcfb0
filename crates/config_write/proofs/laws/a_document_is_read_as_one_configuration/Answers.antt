use Rattle.std.proofs.Common.{◌≡◌, ◌⊎◌, ℕ, List, Some, Result, Ok, Err, refl, sym, ap, ◌∙◌, inl, inr}
use Rattle.toml.specs.Data.{Members}
use Rattle.config_keys.specs.Answers.{Read}
use Rattle.config_keys.proofs.KeepLemmas.{value_is}
use Rattle.cast_config.specs.declared.config.Config.{Config}
use Rattle.cast_config.specs.declared.fault.ConfigFault.{ConfigFault}
use Rattle.cast_config.specs.declared.fault.ConfigFault.TheVariants.{Toml, Missing, Wrong, Range, Twice, Unknown, Memory}
use Rattle.cast_config.specs.Document.{IsDocument, IsRead, ReadsAs, config_of}
use Rattle.config_write.proofs.laws.a_document_is_read_as_one_configuration.Goals as goal

one_tree : (bytes : List ℕ) (a b : Members) → IsDocument bytes a → IsDocument bytes b → a ≡ b
one_tree bytes a b first second = let both : Some a ≡ Some b = sym first.parsed ∙ second.parsed in cc

-- what a document says is one
one_read : (bytes : List ℕ) (first second : Read Config) → ReadsAs bytes first → ReadsAs bytes second → first ≡ second
one_read bytes first second a b = sym a.2 ∙ ap config_of (one_tree bytes a.0 b.0 a.1 b.1) ∙ b.2

one_answer : (bytes : List ℕ) (c : Config) (answer : Result Config ConfigFault) → IsRead bytes (Ok c)
    → IsRead bytes answer → (answer ≡ Ok c) ⊎ (answer ≡ Err Memory)
one_answer bytes c (Ok d) read other = inl (ap Ok (sym (value_is c d (one_read bytes (Ok c) (Ok d) read other))))
one_answer bytes c (Err Toml) read other = absurd (other read.0 read.1)
one_answer bytes c (Err (Missing key)) read other = absurd (let e = one_read bytes (Ok c) _ read other in cc)
one_answer bytes c (Err (Wrong key)) read other = absurd (let e = one_read bytes (Ok c) _ read other in cc)
one_answer bytes c (Err (Range key)) read other = absurd (let e = one_read bytes (Ok c) _ read other in cc)
one_answer bytes c (Err (Twice key)) read other = absurd (let e = one_read bytes (Ok c) _ read other in cc)
one_answer bytes c (Err (Unknown key)) read other = absurd (let e = one_read bytes (Ok c) _ read other in cc)
one_answer bytes c (Err Memory) read other = inr refl

pub returns : goal.returns
returns c = one_answer
