-- One more mountpoint.
use Rattle.std.proofs.Common.{◌≡◌, ℕ, ◌+◌, ◌<◌, List, [], ◌∷◌, ◌++◌, length, get_or, drop, sym, ap, ◌∙◌, append_assoc}
use Rattle.std.proofs.lemmas.List.{drop_more}
use Rattle.sourcetable.specs.declared.record.Record.{Record}
use Rattle.cast_config.specs.declared.config.Config.{Config}
use Rattle.cast_config.specs.declared.config.Mount.{Mount}
use Rattle.config_table.specs.Table.{mount_record, mount_records}

pub mount_step : (c : Config) (i : ℕ) (mounts : List Mount) (done all end : List Record) (r : Record) (m : Mount)
    → i < length mounts → m ≡ get_or mounts i m → r ≡ mount_record c i m → all ≡ done ++ r ∷ []
    → done ++ mount_records c i (drop i mounts) ≡ end → all ++ mount_records c (i + 1) (drop (i + 1) mounts) ≡ end
mount_step c i mounts done all end r m within is made pushed so_far =
    ap (λ (rs : List Record). rs ++ mount_records c (i + 1) (drop (i + 1) mounts)) pushed
    ∙ append_assoc done (r ∷ []) (mount_records c (i + 1) (drop (i + 1) mounts))
    ∙ ap (λ (one : Record). done ++ one ∷ mount_records c (i + 1) (drop (i + 1) mounts))
    (made ∙ ap (mount_record c i) is)
    ∙ ap (λ (ms : List Mount). done ++ mount_records c i ms) (sym (drop_more mounts i m within))
    ∙ so_far
