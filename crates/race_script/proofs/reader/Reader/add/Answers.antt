use Rattle.std.{proofs.{Common.{◌≡◌, ◌++◌, ◌∷◌, [], ◌∙◌, List, Some, map, sym, ap, subst}, lemmas.List.map-append}, specs.Option.option_map}
use Rattle.race_text.{specs.Owed.owed, proofs.FedLemmas.match_err}
use Rattle.race_script.{specs.{Reader.{ReadState, Adds, TakesSaid, added_cause, state_of}, Reading.asked_at, Text.Asks}}
use Rattle.race_script.proofs.TakingLemmas.{asked_cause_is, no_cause, ended_taken, more_taken}
use Rattle.race_script.proofs.reader.Reader.add.Goals as goal
use Rattle.race_script.proofs.reader.Reader.add.Goals.{In-Some, In_ok-add}

pushed : {X Y : Type 0} (f : X → Y) (xs ys : List X) (x : X) → ys ≡ xs ++ x ∷ [] → map f ys ≡ map f xs ++ f x ∷ []
pushed f xs ys x is = ap (map f) is ∙ map-append f xs (x ∷ [])

-- the body that has not ended, as the caller sees it
is : (g : _) (c : goal.In-Some g) → c.args.self.now.unended ≡ Some (state_of c.in-Some.unended)
is g c = ap (λ (x : ReadState). x.unended) (sym c.self.view_is) ∙ ap (option_map state_of) (sym c.replace.ensures.value ∙ c.in-Some.is)

-- what was added to it
adds : (g : _) (c : goal.In_ok-add g)
    → Adds c.args.self.now.decls (state_of c.in-Some.unended) (asked_at c.args.ask c.args.place.now) c.add.new.decls (state_of c.add.new.self)
adds g c =
    subst (λ d. Adds d (state_of c.in-Some.unended) (asked_at c.args.ask c.args.place.now) c.add.new.decls (state_of c.add.new.self))
    (ap (λ (x : ReadState). x.decls) c.self.view_is) c.in_ok-add.ensures

pub returns-in_err-add : goal.returns-in_err-add
returns-in_err-add g c =
    let i = asked_at c.args.ask c.args.place.now in
    let u = state_of c.in-Some.unended in
    let cause = asked_cause_is c.args.self.now c.requires.sound u (is g (goal.at.returns-in_err-add g c).In-Some) i c.requires.fits c.requires.form
    ∙ ap (λ (x : ReadState). added_cause x.decls u i) (sym c.self.view_is) in
    match_err _ _ c.from_residual.result c.in_err-add.field-0.0 c.from_residual.ensures.1 (c.in_err-add.ensures ∙ sym (ap owed cause))

pub returns-then-not-exits : goal.returns-then-not-exits
returns-then-not-exits g c =
    let at = goal.at.returns-then-not-exits g c in
    let added = adds g at.In_ok-add in
    subst (TakesSaid c.args.self.now (Asks (asked_at c.args.ask c.args.place.now))) (λ k. record {
      has_header = sym (ap (λ (x : ReadState). x.has_header) c.self.view_is ∙ c.requires.header) k;
      decls = sym added.place k;
      ended = (sym c.self.view_is k).ended;
      unended = Some (record { requests = sym added.pushes.added k; onces = c.add.new.self.onces.items });
    }) (more_taken c.args.self.now c.requires.sound (state_of c.in-Some.unended) (is g at.In-Some) (asked_at c.args.ask c.args.place.now)
    c.requires.fits c.requires.form c.requires.known added (sym c.is_exit-exits.ensures ∙ c.if-not-exits.true))

pub returns-in-Ok : goal.returns-in-Ok
returns-in-Ok g c =
    let at = goal.at.returns-in-Ok g c in
    let added = adds g at.In_ok-add in
    subst (TakesSaid c.args.self.now (Asks (asked_at c.args.ask c.args.place.now))) (λ k. record {
      has_header = sym (ap (λ (x : ReadState). x.has_header) c.self.view_is ∙ c.requires.header) k;
      decls = sym added.place k;
      ended = ((λ j. (sym c.self.view_is j).ended ++ sym added.pushes.added j ∷ []) ∙ sym (pushed _ _ _ _ c.in-Ok.ensures.items)) k;
      unended = sym (ap (option_map state_of) c.replace.ensures.after) k;
    }) (ended_taken c.args.self.now c.requires.sound (state_of c.in-Some.unended) (is g at.In-Some) (asked_at c.args.ask c.args.place.now)
    c.requires.fits c.requires.form c.requires.known added (sym c.is_exit-exits.ensures ∙ c.if-not-exits.false))

-- want of memory for the body is told where no cause holds of its exit
pub returns : goal.returns
returns g c =
    let at = goal.at.returns g c in
    sym (ap owed (no_cause c.args.self.now c.requires.sound (state_of c.in-Some.unended) (is g at.In-Some) (asked_at c.args.ask c.args.place.now)
    c.requires.fits c.requires.form (adds g at.In_ok-add)))
