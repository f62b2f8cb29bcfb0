-- Two sourcetables, computed: that of the worked configuration, 206 bytes, and that of the smallest
-- one.
use Rattle.std.proofs.Common.{◌≡◌, ◌++◌, length, refl}
use Rattle.std.specs.Prelude.{codes}
use Rattle.std.specs.Fmt.{digits}
use Rattle.sourcetable.specs.Table.{table_text}
use Rattle.cast_config.specs.Bare.{bare}
use Rattle.cast_config.proofs.WorkedExample.{example}
use Rattle.config_table.specs.Table.{table_records}

of_example : table_text (table_records example)
    ≡ codes "STR;ALPHA;ALPHA;RTCM 3.3;;2;GPS;;;48.11;11.51;0;0;;none;B;N;0;\r\n"
    ++ codes "STR;BRAVO;BRAVO;RTCM 3.3;;2;GPS;;;48.20;11.51;0;0;;none;B;N;0;\r\n"
    ++ codes "STR;NEAR;NEAR;RTCM 3.3;;2;GPS;;;48.11;11.51;1;1;;none;B;N;0;\r\n"
    ++ codes "ENDSOURCETABLE\r\n"
unfolding table_records digits
of_example = refl

long_as_told : length (table_text (table_records example)) ≡ 206
unfolding table_records digits
long_as_told = refl

of_smallest : table_text (table_records (bare 4))
    ≡ codes "STR;A;A;RTCM 3.3;;2;GPS;;;0.00;0.00;0;0;;none;N;N;0;\r\nENDSOURCETABLE\r\n"
unfolding table_records digits
of_smallest = refl
