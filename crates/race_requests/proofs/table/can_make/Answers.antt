-- A row that holds by some branch holds by one of those that are tried.
use Rattle.std.proofs.Common.{◌≡◌, ◌∙◌, true≢false, is_some, inl, inr, refl, sym, ap}
use Rattle.std.proofs.{Common.{subst, arith}, lemmas.Bool.cases_lt}
use Rattle.race_requests.{specs.Table.{IsRow, done_by}, proofs.{RowLemmas.branch_within, SomeRow.some_row}}
use Rattle.race_requests.proofs.table.can_make.Goals as goal

pub loop-branch-preserved : goal.loop-branch-preserved
loop-branch-preserved c k told less row = elim (cases_lt k c.loop-branch.branch) [
  | inl early ↦ c.loop-branch.invariant k told early row
  | inr late ↦
      let same : k ≡ c.loop-branch.branch = omega (arith, less, late) in
      let holds = subst (λ n. IsRow c.args.ask.now n (done_by c.args.who c.args.op.now) told) same row in
      absurd (true≢false (sym (ap is_some (c.answer_of.ensures ∙ holds)) ∙ sym c.is_some.ensures ∙ c.if-is_some.false))
]

pub returns-then-is_some : goal.returns-then-is_some
returns-then-is_some c = (
  λ _. some_row c.args.ask.now c.loop-branch.branch (done_by c.args.who c.args.op.now)
      c.answer_of.result c.answer_of.ensures (sym c.is_some.ensures ∙ c.if-is_some.true),
  λ _. refl,
)

pub returns : goal.returns
returns c = (
  λ none. absurd (true≢false (sym none)),
  λ row.
      let within = branch_within c.args.ask.now row.0 (done_by c.args.who c.args.op.now) row.1 row.2 in
      absurd (c.loop-branch.invariant row.0 row.1 (omega (arith, within, c.branch_count-branch-end.ensures, c.loop-branch-test.false)) row.2),
)
