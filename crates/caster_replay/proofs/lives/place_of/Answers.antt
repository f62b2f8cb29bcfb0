use Rattle.std.proofs.Common.{rules}
use Rattle.std.specs.Prelude.{nat_lt}
use Rattle.std.proofs.lemmas.List.Sorted.{IsPartitionPoint-from_clause, IsPartitionedBy-ltb}
use Rattle.caster_replay.specs.declared.run_connection.RunConnection.{RunConnection}
use Rattle.caster_replay.proofs.LivesLemmas.{point_is}
use Rattle.caster_replay.proofs.lives.place_of.Goals as goal

pub returns-clause-place : goal.returns-clause-place
returns-clause-place c =
    point_is c.args.entries.now c.args.number c.partition_point.result c.partition_point.ensures.bound
    (IsPartitionPoint-from_clause (λ (entry : RunConnection). nat_lt entry.number c.args.number) c.args.entries.now
    c.partition_point.result c.partition_point.ensures.partitioned
    (IsPartitionedBy-ltb (λ (entry : RunConnection). entry.number) c.args.entries.now c.args.number c.requires.order)
    (λ a r f called. search rules))
