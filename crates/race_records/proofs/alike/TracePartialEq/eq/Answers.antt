use Rattle.std.proofs.{Common.{◌≡◌, sym, ap, ◌∙◌, true≢false}, lemmas.Bool.Decides.same_from_decides}
use Rattle.race_records.specs.{Equality.{declared, same_declared-Decides}, TraceEquality.{Recorded, recorded}}
use Rattle.race_records.specs.TraceEquality.{same_traces, same_recorded-Decides}
use Rattle.race_records.proofs.alike.TracePartialEq.eq.Goals as goal

pub returns-then-eq-clause-same : goal.returns-then-eq-clause-same
returns-then-eq-clause-same g c =
    let here = ap declared c.decls.ensures.decls in
    let there = ap declared c.decls-2.ensures.decls in
    let same : declared c.args.self.now.decls ≡ declared c.args.other.now.decls =
    sym here ∙ (same_declared-Decides _ _).0 (sym c.eq.ensures ∙ c.if-eq.true) ∙ there in (
      λ h i. record { declared = same i; events = c.are_events_alike.ensures.0 h i },
      λ e. c.are_events_alike.ensures.1 (ap (λ (r : Recorded). r.events) e),
    )

pub returns-then-eq-clause-eq : goal.returns-then-eq-clause-eq
returns-then-eq-clause-eq g c =
    let a = recorded c.args.self.now in
    let b = recorded c.args.other.now in
    same_from_decides {P = a ≡ b} c.are_events_alike.result (same_traces c.args.self.now c.args.other.now)
    (returns-then-eq-clause-same g c) (same_recorded-Decides a b)

pub returns-else-eq-clause-same : goal.returns-else-eq-clause-same
returns-else-eq-clause-same g c =
    let here = ap declared c.decls.ensures.decls in
    let there = ap declared c.decls-2.ensures.decls in (
      λ h. absurd (true≢false (sym h ∙ c.if-eq.false)),
      λ e. c.eq.ensures ∙ (same_declared-Decides _ _).1 (here ∙ ap (λ (r : Recorded). r.declared) e ∙ sym there),
    )
