-- A row that holds by some branch holds by one of those that are tried.
use Rattle.std.proofs.{Common.{◌≡◌, inl, inr, true≢false, refl, sym, subst, ◌∙◌, arith}, lemmas.Bool.cases_lt}
use Rattle.race_requests.{specs.Table.{done_by, IsRow}, proofs.RowLemmas.branch_within}
use Rattle.race_requests.proofs.table.is_told_by_some_branch.Goals as goal

pub loop-branch-preserved : goal.loop-branch-preserved
loop-branch-preserved c k less row =
    let told = c.args.step.now.told in
    elim (cases_lt k c.loop-branch.branch) [
      | inl early ↦ c.loop-branch.invariant k early row
      | inr late ↦
          let same : k ≡ c.loop-branch.branch = omega (arith, less, late) in
          let holds = subst (λ n. IsRow c.args.step.now.asked.ask n (done_by c.args.who c.args.op.now) told) same row in
          absurd (true≢false (sym (c.is_told.ensures.1 (c.answer_of.ensures ∙ holds)) ∙ c.if-is_told.false))
    ]

pub returns-then-is_told : goal.returns-then-is_told
returns-then-is_told c =
    (λ _. (c.loop-branch.branch, sym c.answer_of.ensures ∙ c.is_told.ensures.0 c.if-is_told.true), λ _. refl)

pub returns : goal.returns
returns c = (
  λ no. absurd (true≢false (sym no)),
  λ row.
      let within = branch_within c.args.step.now.asked.ask row.0 (done_by c.args.who c.args.op.now) c.args.step.now.told row.1 in
      absurd (c.loop-branch.invariant row.0 (omega (arith, within, c.branch_count-branch-end.ensures, c.loop-branch-test.false)) row.1),
)
