use Rattle.std.proofs.lemmas.Iterator.{Adapters.YieldsList-from_vec, Consumers.YieldsList-end}
use Rattle.std.proofs.Common.{◌∙◌, ◌++◌, ◌∷◌, [], Some, sym, ap, map-id, rules}
use Rattle.race_hub.proofs.LogsLemmas.{map_push}
use Rattle.race_hub.proofs.opening.seated.Goals as goal

pub loop-routine-preserved : goal.loop-routine-preserved
loop-routine-preserved g c = record {
  places = c.in_ok-push.ensures.items ∙ ap (λ xs. xs ++ Some c.in-Some.routine ∷ []) c.loop-routine.invariant.places
      ∙ sym (map_push Some c.loop-routine.yielded c.in-Some.routine);
  logs = c.in_ok-push_blank.ensures ∙ ap (λ xs. xs ++ [] ∷ []) c.loop-routine.invariant.logs
      ∙ sym (map_push (λ _. []) c.loop-routine.yielded c.in-Some.routine);
}

pub returns : goal.returns
returns g c =
    let all = YieldsList-from_vec {s = c.into_iter-routine-iterator.result} c.args.routines.items (search rules) (search rules) in
    let end = YieldsList-end all c.loop-routine.yielded c.loop-routine.routine-iterator
    c.loop-routine.yielded_by c.next.result c.next.new.self c.in-None.is c.next.ensures.steps in
    rw (← end.0, map-id) record { routines = c.loop-routine.invariant.places; logs = c.loop-routine.invariant.logs }
