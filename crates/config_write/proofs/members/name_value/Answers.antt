use Rattle.std.proofs.lemmas.Str.{is_utf8-from_IsUtf8}
use Rattle.cast_config.proofs.NameTexts.{name_utf8}
use Rattle.config_write.proofs.members.name_value.Goals as goal

pub text_value-requires : goal.text_value-requires
text_value-requires c = is_utf8-from_IsUtf8 c.args.name.now (name_utf8 c.args.name.now c.requires)
