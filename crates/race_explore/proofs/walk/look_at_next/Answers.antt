use Rattle.std.proofs.Common.{ℕ, List, [], ◌∷◌, ◌++◌, ◌+◌, ◌<◌, ◌^◌, All, MatchBool, ◌≡◌, Some, None, ◌∙◌, subst, sym}
use Rattle.std.proofs.lemmas.List.Elements.{All-take}
use Rattle.race_records.specs.declared.event.Event.{Event}
use Rattle.race_record.specs.declared.noting.Fork.{Fork}
use Rattle.race_verdict.specs.Verdicts.{verdict_of}
use Rattle.race_script.specs.Run.{Asks}
use Rattle.race_explore.specs.{Ends.CountsEndOf, Lists.next_picks, Orders.{IsSkipped, IsWanted}, Told.AreRacy, Walk.{IsNotedRun, Looked}}
use Rattle.race_explore.proofs.{AccessLemmas.recorded_verdict, BadEndLemmas.{bad_counted, bad_few}, CountLemmas.{counts_bounded, counts_more, racy_few}}
use Rattle.race_explore.proofs.{EndLemmas.few_next, StepLemmas.{looks_on, skips_on}, WayLemmas.notes_picks, WalkLemmas.forks_next}
use Rattle.race_explore.proofs.walk.look_at_next.Goals as goal

pub count-requires-clause-bounded : goal.count-requires-clause-bounded
count-requires-clause-bounded g c =
    let walked = c.requires.walked in
    counts_bounded walked.seen _ c.args.explored.now walked.counts walked.skipped.made c.requires.few

pub count-requires-clause-right : goal.count-requires-clause-right
count-requires-clause-right g c =
    recorded_verdict c.in_ok-recording.recording c.trace-2.result.now (verdict_of c.in_ok-verdict.verdict) c.trace-2.ensures.decls c.trace-2.ensures.events
    c.in_ok-verdict.ensures

pub count-requires-clause-few : goal.count-requires-clause-few
count-requires-clause-few g c = racy_few c.requires.walked.seen c.args.explored.now c.requires.walked.counts c.requires.walked.racy

pub count-requires-clause-few_ends : goal.count-requires-clause-few_ends
count-requires-clause-few_ends g c = bad_few c.requires.walked.seen c.args.explored.now c.requires.walked.counts c.requires.walked.bad

pub returns-clause-walked : goal.returns-clause-walked
returns-clause-walked g c =
    let picks = c.args.picks.now.items in
    let forks = c.run_by.new.forks.items in
    let r = c.in_ok-recording.recording in
    let verdict = verdict_of c.in_ok-verdict.verdict in
    let run = subst (λ (p : List ℕ). IsNotedRun c.args.program.now c.args.limit p forks r) c.as_slice.ensures.value c.in_ok-recording.ensures.run in
    let right = recorded_verdict r c.trace-2.result.now verdict c.trace-2.ensures.decls c.trace-2.ensures.events c.in_ok-verdict.ensures in
    let looked : Looked = record { picks = picks; run = r; verdict = verdict } in
    let counted = c.in_ok-count.ensures.counted in
    let counts = counts_more c.requires.walked.seen looked c.args.explored.now c.count.new.self c.requires.walked.counts counted in
    let racy = subst (λ (p : List ℕ). AreRacy (c.requires.walked.seen ++ record { picks = p; run = r; verdict = verdict } ∷ []) c.count.new.self.racy.items)
    c.as_slice-2.ensures.value (c.in_ok-count.ensures.racy c.requires.walked.seen c.requires.walked.racy) in
    let ends = subst (λ (p : List ℕ). CountsEndOf r p c.args.explored.now.bad.items c.count.new.self.bad.items) c.as_slice-2.ensures.value
    c.in_ok-count.ensures.bad in
    let bad = bad_counted c.requires.walked.seen looked c.args.explored.now.bad.items c.count.new.self.bad.items ends c.requires.walked.bad in
    let wanted = subst (λ (es : List Event). IsWanted c.args.orders es) (c.events.ensures.events ∙ c.trace.ensures.events) c.in_default.ensures in
    looks_on c.args.program.now c.args.limit c.args.orders picks c.args.explored.now forks r c.requires.walked run verdict c.count.new.self right wanted
    counted.made counts racy bad c.advance-2.new.picks.items c.in_ok-advance-2.field-0 c.in_ok-advance-2.ensures

pub advance-requires-2 : goal.advance-requires-2
advance-requires-2 g c =
    let picks = c.args.picks.now.items in
    let forks = c.run_by.new.forks.items in
    let run = subst (λ (p : List ℕ). IsNotedRun c.args.program.now c.args.limit p forks c.in_ok-recording.recording) c.as_slice.ensures.value
    c.in_ok-recording.ensures.run in
    forks_next picks forks (notes_picks Asks picks run.hub run.noting.1) (few_next c.args.explored.now.made picks c.requires.few c.requires.walked.few)

pub advance-requires : goal.advance-requires
advance-requires g c =
    let picks = c.args.picks.now.items in
    let forks = c.run_by.new.forks.items in
    let run = subst (λ (p : List ℕ). IsNotedRun c.args.program.now c.args.limit p forks c.in_ok-recording.recording) c.as_slice.ensures.value
    c.in_ok-recording.ensures.run in
    let all = forks_next picks forks (notes_picks Asks picks run.hub run.noting.1)
    (few_next c.args.explored.now.made picks c.requires.few c.requires.walked.few) in
    subst (λ (fs : List Fork). All (λ f. f.pick + 1 < 2 ^ 64) fs) (sym c.truncate.ensures.items)
    (All-take (λ (f : Fork). f.pick + 1 < 2 ^ 64) c.in-Some.events forks all)

pub returns-in-Some-clause-walked : goal.returns-in-Some-clause-walked
returns-in-Some-clause-walked g c =
    let picks = c.args.picks.now.items in
    let forks = c.run_by.new.forks.items in
    let r = c.in_ok-recording.recording in
    let n = c.in-Some.events in
    let old = c.args.explored.now in
    let run = subst (λ (p : List ℕ). IsNotedRun c.args.program.now c.args.limit p forks r) c.as_slice.ensures.value c.in_ok-recording.ensures.run in
    let skips = subst (λ (es : List Event). IsSkipped c.args.orders es n) (c.events.ensures.events ∙ c.trace.ensures.events) c.in-Some.ensures in
    let next = c.advance.new.picks.items in
    let more = c.in_ok-advance.field-0 in
    skips_on c.args.program.now c.args.limit c.args.orders picks old forks r c.requires.walked run n skips c.skip.new.self c.skip.ensures next more
    (subst (λ (fs : List Fork). MatchBool more (next_picks fs ≡ Some next) (next_picks fs ≡ None)) c.truncate.ensures.items c.in_ok-advance.ensures)
