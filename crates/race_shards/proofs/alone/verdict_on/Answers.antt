use Rattle.std.proofs.Common.{◌≡◌, ◌∙◌, ◌∷◌, [], List, map, sym, ap, subst}
use Rattle.std.proofs.lemmas.Result.{IfOk-weaker}
use Rattle.race_records.specs.{declared.kind.Kind.Kind, Declarations.{DeclsState, count_of}}
use Rattle.race_verdict.specs.{Notes.{race_noted, verdict_noted}, Races.{race_of, races_of}, Traces.HasVerdict}
use Rattle.race_shards.specs.{Shards.ShardState, Telling.{told_below, HavePlaces}}
use Rattle.race_shards.proofs.AloneSteps.{items_alone, places_alone, verdict_alone}
use Rattle.race_shards.proofs.alone.verdict_on.Goals as goal

pub noted_races-requires-clause-places : goal.noted_races-requires-clause-places
noted_races-requires-clause-places g c =
    let t : ShardState = c.args.shard in
    let declared = c.count.ensures.count ∙ ap (λ (d : DeclsState). count_of Kind.Var d.declarations) c.decls.ensures.decls in
    let items = items_alone c.as_slice.ensures.value c.in_ok-push.ensures.items c.in_ok-shards.ensures.items in
    subst (λ shards. HavePlaces shards c.count.result) (sym items)
    (places_alone c.args.trace.now c.requires.0 t c.requires.1 c.count.result declared)

pub returns : goal.returns
returns g c =
    let trace = c.args.trace.now in
    let t : ShardState = c.args.shard in
    let vars = c.count.result in
    let declared = c.count.ensures.count ∙ ap (λ (d : DeclsState). count_of Kind.Var d.declarations) c.decls.ensures.decls in
    let items = items_alone c.as_slice.ensures.value c.in_ok-push.ensures.items c.in_ok-shards.ensures.items in
    let races = map race_noted c.in_ok-races.races.items in
    let is : races ≡ map race_of (races_of (told_below (t ∷ []) vars)) =
    subst (λ (shards : List ShardState). races ≡ map race_of (races_of (told_below shards vars))) items c.in_ok-races.ensures.races in
    IfOk-weaker c.verdict.result _ _ (λ verdict same. subst (HasVerdict trace) (sym same)
    (verdict_alone trace c.requires.0 t c.requires.1 c.len.ensures.is_trace vars declared (verdict_noted c.of_races.result) races is c.of_races.ensures.verdict))
    c.verdict.ensures
