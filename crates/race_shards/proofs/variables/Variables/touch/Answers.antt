use Rattle.std.proofs.Common.{◌≢◌, ℕ, ◌<◌, ◌/◌, ◌%◌, ◌++◌, [], ◌∷◌, length, slice_set, get_or, sym, ap, ◌∙◌, subst}
use Rattle.std.proofs.lemmas.{List.get_or_default, Result.on_ok_weaker}
use Rattle.race_access.specs.{Kept.Kept, Touches.Touch}
use Rattle.race_shards.specs.Variables.{VariablesState, AreKept, nothing_kept}
use Rattle.race_shards.proofs.VariableSteps.{kept_passed, kept_next}
use Rattle.race_access.specs.TouchHolds as touch
use Rattle.race_shards.proofs.variables.Variables.touch.Goals as goal

pub returns-then-shard_of-self-clause-goes_on : goal.returns-then-shard_of-self-clause-goes_on
returns-then-shard_of-self-clause-goes_on g c = λ caps past e are is.
    let other = subst (λ (v : VariablesState). c.args.stamp.now.var % v.count ≢ v.number) c.self.view_is
    (λ same. c.if-shard_of-self.true (c.shard_of.ensures ∙ same)) in
    kept_passed caps past e c.args.self.now c.args.stamp.now is.stamped other are

pub returns-clause-goes_on : goal.returns-clause-goes_on
returns-clause-goes_on g c =
    let stamp = c.args.stamp.now in
    let items = c.self.inside.states.items in
    let inside : VariablesState = record { number = c.self.inside.number; count = c.self.inside.count; kept = items } in
    let t : Touch = record { stamp = stamp; place = c.args.place; clock = c.args.clock.now } in
    let within = subst (λ (v : VariablesState). stamp.var / v.count < length v.kept) (sym c.self.view_is) c.requires in
    let place : c.place_of.result < length items = subst (λ (n : ℕ). n < length items) (sym c.place_of.ensures) within in
    let value = c.index_mut.ensures.value ∙ get_or_default items c.place_of.result _ nothing_kept place ∙ ap (λ n. get_or items n nothing_kept) c.place_of.ensures in
    on_ok_weaker c.touch.result
    (λ goes caps past e are is.
    subst (λ n. AreKept caps (past ++ e ∷ []) (record { number = inside.number; count = inside.count; kept = slice_set items n c.touch.new.self })) (sym c.place_of.ensures)
    (kept_next caps past e inside t c.touch.new.self (sym c.shard_of.ensures ∙ c.if-shard_of-self.false) within is
    (subst (λ (k : Kept). touch.GoesOn k c.touch.new.self t) value goes)
    (subst (AreKept caps past) (sym c.self.view_is) are)))
    c.touch.ensures.goes_on
