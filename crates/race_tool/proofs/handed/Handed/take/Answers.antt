-- The events are handed to the judge, which is begun before the first of them.
use Rattle.std.proofs.Common.{◌≡◌, List, Option, Some, sym, subst, refl, rules}
use Rattle.race_records.specs.{declared.event.Event.Event, Declarations.DeclsState}
use Rattle.race_shards.specs.Judging.{JudgeState}
use Rattle.race_text.specs.Stream.{decls_of}
use Rattle.race_tool.{specs.Streams.IsJudgeOf, proofs.StreamedLemmas.{can_take_next, handed_over}}
use Rattle.race_shards.specs.Judging as judging
use Rattle.race_tool.proofs.handed.Handed.take.Goals as goal

-- the judge that was begun stands for what the one before stood for
begun_as : (old before : Option JudgeState) (ds decls : DeclsState) (k : JudgeState) → before ≡ old → decls ≡ ds
    → ((past : List Event) → IsJudgeOf (Some decls.declarations) before past → judging.StandsFor decls.declarations k past)
    → (past : List Event) → IsJudgeOf (Some ds.declarations) old past → judging.StandsFor ds.declarations k past
begun_as old before ds decls k same same_decls begun =
    subst (λ (ds : DeclsState). (past : List Event) → IsJudgeOf (Some ds.declarations) old past → judging.StandsFor ds.declarations k past) same_decls
    (subst (λ (judge : Option JudgeState). (past : List Event) → IsJudgeOf (Some decls.declarations) judge past → judging.StandsFor decls.declarations k past) same begun)

pub hand_over-requires : goal.hand_over-requires
hand_over-requires g c =
    let some = c.requires.some.1 in
    record { past = c.requires.some.0.past; lines = some.lines; stands = some.stands.stream.stream }

pub returns-clause-stands : goal.returns-clause-stands
returns-clause-stands g c =
    let old = c.args.self.now in
    let s = c.args.stream.now in
    let k : JudgeState = c.in_ok-judge.judge in
    let same : c.take-before.result ≡ old.judge = search rules in
    let begun = begun_as old.judge c.take-before.result (decls_of s) c.decls.result.now k same c.decls.ensures c.in_ok-judge.ensures.stands in
    handed_over old s k c.requires.none begun c.hand_over.new.self _ refl c.hand_over.ensures.moved c.requires.begun
    c.hand_over.ensures.declared c.hand_over.ensures.stands

pub returns-clause-can : goal.returns-clause-can
returns-clause-can g c =
    let old = c.args.self.now in
    let s = c.args.stream.now in
    let k : JudgeState = c.in_ok-judge.judge in
    let same : c.take-before.result ≡ old.judge = search rules in
    let begun = begun_as old.judge c.take-before.result (decls_of s) c.decls.result.now k same c.decls.ensures c.in_ok-judge.ensures.stands in
    record {
      can = subst (λ (es : List Event). judging.CanTake k es) (sym {A = List Event} c.hand_over.ensures.moved)
          (can_take_next old s k c.requires.none begun c.requires.some c.hand_over.ensures.is_trace);
      block = c.requires.block;
    }
