use Rattle.std.proofs.{Common.{rules, ltb, ltb-true}, lemmas.Bool.ltb-false}
use Rattle.std.proofs.lemmas.List.Sorted.{IsPartitionPoint-from_clause, IsPartitionedBy-ltb}
use Rattle.race_access.{specs.declared.access.Access.Access, proofs.RisingSteps.never_fall}
use Rattle.race_access.proofs.accesses.place_in_many.Goals as goal

pub returns : goal.returns
returns c =
    let reads = c.args.reads.now in
    let point = IsPartitionPoint-from_clause (λ (e : Access). ltb e.who c.args.who) reads c.partition_point.result c.partition_point.ensures.partitioned
    (IsPartitionedBy-ltb (λ (e : Access). e.who) reads c.args.who (never_fall reads c.requires)) (λ a r f k. search rules) in (
      c.partition_point.ensures.bound,
      (λ k d le less. ltb-true _ _ (point.0 k d le less), λ k d le less. ltb-false _ _ (point.1 k d le less)),
    )
