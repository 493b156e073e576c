use Rattle.std.proofs.{Common.{Some, None, [], ◌∷◌, ◌++◌, sym, ap, ◌∙◌, subst}, lemmas.Result.on_ok_weaker}
use Rattle.race_access.specs.{declared.access.Access.Access, Kept.{note_of, IsGreatestUnknown, candidates}}
use Rattle.race_access.specs.{Kept.IsKeptOn, KeptOf.kept_of, Touches.Touch}
use Rattle.race_access.proofs.StandSteps.{stands_raced, stands_first, stands_noted, stands_on}
use Rattle.race_access.proofs.variable.VarState.touch.Goals as goal

pub returns-then-is_raced-clause-goes_on : goal.returns-then-is_raced-clause-goes_on
returns-then-is_raced-clause-goes_on g c =
    λ touched stands lawful. stands_raced touched _ lawful c.args.self.now (rw (← c.self.view_is) (sym c.is_raced.ensures ∙ c.if-is_raced.true)) stands

pub returns-in-Some-clause-goes_on : goal.returns-in-Some-clause-goes_on
returns-in-Some-clause-goes_on g c =
    let t : Touch = record { stamp = c.args.stamp.now; place = c.args.place; clock = c.args.clock.now } in
    let old = kept_of c.self.inside.accesses in
    let first = note_of c.in-Some.first.now in
    let greatest = subst (λ (e : Access). IsGreatestUnknown c.args.clock.now (candidates e old) (Some first)) c.of-access.ensures c.in-Some.ensures in
    λ touched stands lawful.
    stands_noted (touched ++ t ∷ []) c.note.ensures (c.note-in-Some.ensures ∙ ap note_of c.of-access.ensures)
    (stands_first touched t lawful old (sym c.is_raced.ensures ∙ c.if-is_raced.false) first greatest (rw c.self.view_is stands))

pub returns-in-None-clause-goes_on : goal.returns-in-None-clause-goes_on
returns-in-None-clause-goes_on g c =
    let t : Touch = record { stamp = c.args.stamp.now; place = c.args.place; clock = c.args.clock.now } in
    let old = kept_of c.self.inside.accesses in
    let new = kept_of c.keep.new.self in
    let known = subst (λ (e : Access). IsGreatestUnknown c.args.clock.now (candidates e old) None) c.of-access.ensures c.in-None.ensures in
    on_ok_weaker c.keep.result
    (λ kept touched stands lawful. stands_on touched t lawful old new (sym c.is_raced.ensures ∙ c.if-is_raced.false) known
    (subst (λ (e : Access). IsKeptOn old new e c.args.clock.now) c.of-access.ensures kept) (rw c.self.view_is stands))
    c.keep.ensures.ok
