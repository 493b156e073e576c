-- What the stacks say of a list for which the replay stands, and what they say one event on.
use Rattle.std.proofs.Common.{◌≡◌, ℕ, ◌+◌, ◌-◌, ◌<◌, ◌≤◌, ◌==◌, ◌||◌, ◌&&◌, not, nat_lt, if◌then◌else◌, Bool, true}
use Rattle.std.proofs.Common.{false, List, [], ◌∷◌, ◌++◌, length, take, Option, Some, None, filter_map, refl, sym, ap}
use Rattle.std.proofs.{Common.{◌∙◌, subst, arith, append-nil, IsTrue}, Math.Bool.or-false, lemmas.Bool.eqb-true}
use Rattle.std.proofs.lemmas.Bool.{eqb-false, not-false, false_from_ne_true, false≢true, Decides.nat_tests}
use Rattle.std.specs.Option.{option_to_list}
use Rattle.race_records.specs.declared.event.{Event.Event, Op.{Op, TheVariants.{Go, Exit, OnceBegin, OnceEnd}}}
use Rattle.race_records.specs.{declared.kind.Kind.Kind, Declarations.Declaration, Operands.op_is_in_range}
use Rattle.race_model.specs.{Events.{gives, once_begins, once_ends, count}, State.{is_begun, is_ended, unended_once}}
use Rattle.race_model.{specs.State.innermost, proofs.CountSteps.{as_number, has_push}}
use Rattle.race_legal.specs.ReplayState.{ReplayState, counts_in, stack_in, innermost_in, begun_in, ended_in}
use Rattle.race_legal.specs.{After.goroutines_after, RulesKept.op_rules_in, StandsFor.StandsFor}
use Rattle.race_legal.proofs.{TableSteps.get_or-set, ChannelSteps.NoneBroken, OpenOnces.{entered, open_onces, open_is}}
use Rattle.race_legal.proofs.OpenOnces.{open_push, times, open_apart, open_begun, without, open_without, without_none}
use Rattle.race_legal.proofs.OpenOnces.{last, stands_in, without_last, last_of_is}

-- it gives what it is
gives_is : (o : Option ℕ) (n : ℕ) → gives o n ≡ true → o ≡ Some n
gives_is None n is = absurd (false≢true is)
gives_is (Some m) n is = ap Some (eqb-true m n is)

module _ (declarations : List Declaration) (k : ReplayState) (past : List Event) (S : StandsFor declarations k past) where
  abbrev ended : ℕ → Bool
  ended = λ p. is_ended p past

  -- a stack has the onces that the goroutine began and that haven't ended
  stack_is : (g : ℕ) → g < counts_in k Kind.Goroutine → open_onces g ended past ≡ stack_in k.goroutines g
  stack_is g less = sym (open_is g past past) ∙ S.stack g less

  -- the innermost is the last of them
  pub innermost_is : (g : ℕ) → g < counts_in k Kind.Goroutine → innermost g past ≡ innermost_in k.goroutines g
  innermost_is g less = last_of_is (λ e. unended_once g past e.who e.op) past ∙ ap last (S.stack g less)

  -- it began where the table says so
  pub is_begun_is : (q : ℕ) → q < counts_in k Kind.Once → is_begun q past ≡ begun_in k.onces q
  is_begun_is q less = go (begun_in k.onces q) (S.begun q less)
    where
      go : (b : Bool) → count (once_begins q) past ≡ as_number b → is_begun q past ≡ b
      go true is = ap (nat_lt 0) is
      go false is = ap (nat_lt 0) is

  -- a once began once at most
  begun_once : (q : ℕ) → q < counts_in k Kind.Once → count (once_begins q) past ≤ 1
  begun_once q less = go (begun_in k.onces q) (S.begun q less)
    where
      go : (b : Bool) → count (once_begins q) past ≡ as_number b → count (once_begins q) past ≤ 1
      go true is = omega (arith, is)
      go false is = omega (arith, is)

  -- the innermost once began
  pub innermost_began : (who q : ℕ) → who < counts_in k Kind.Goroutine → q < counts_in k Kind.Once → gives (innermost_in k.goroutines who) q ≡ true
      → IsTrue (begun_in k.onces q)
  innermost_began who q less once is = go (begun_in k.onces q) (S.begun q once)
    where
      stands : 1 ≤ times q (open_onces who ended past)
      stands = subst (λ ps. 1 ≤ times q ps) (sym (stack_is who less)) (stands_in q (stack_in k.goroutines who) (gives_is (innermost_in k.goroutines who) q is))

      within : times q (open_onces who ended past) ≤ count (once_begins q) past
      within = open_begun q who ended past

      go : (b : Bool) → count (once_begins q) past ≡ as_number b → IsTrue b
      go true is = refl
      go false is = absurd (omega (arith, is, stands, within))

  -- a once that hasn't begun hasn't ended
  unended : (q : ℕ) → q < counts_in k Kind.Once → begun_in k.onces q ≡ false → ended q ≡ false
  unended q less fresh = S.ended q less ∙ false_from_ne_true (ended_in k.onces q) (λ is. false≢true (sym fresh ∙ S.ended_begun q less is))

  module _ (g : ℕ) (less : g < counts_in k Kind.Goroutine) where
    row : g < length k.goroutines.stacks
    row = subst (λ n. g < n) (sym S.square.stacks) less

    -- the open onces behind an event that breaks no rule
    entered_step : (who p : ℕ) → p < counts_in k Kind.Once → NoneBroken (op_rules_in k who (OnceBegin p))
        → open_onces g (λ p. ended p || false) past ++ option_to_list (if (who == g) && not (ended p || false) then Some p else None)
        ≡ stack_in (goroutines_after k.goroutines who (OnceBegin p)) g
    entered_step who p once kept =
        (λ i. open_onces g (λ p. or-false (ended p) i) past
        ++ option_to_list (if (who == g) && not ((or-false (ended p) ∙ unended p once kept.0) i) then Some p else None))
        ∙ rw (stack_is g less, get_or-set k.goroutines.stacks who g (stack_in k.goroutines who ++ p ∷ []) [] row) (go (who == g) (eqb-true who g))
      where
        go : (b : Bool) → (b ≡ true → who ≡ g) → stack_in k.goroutines g ++ option_to_list (if b && true then Some p else None)
            ≡ (if b then stack_in k.goroutines who ++ p ∷ [] else stack_in k.goroutines g)
        go true same = ap (λ h. stack_in k.goroutines h ++ p ∷ []) (sym (same refl))
        go false same = append-nil (stack_in k.goroutines g)

    left_step : (who q : ℕ) → who < counts_in k Kind.Goroutine → q < counts_in k Kind.Once → NoneBroken (op_rules_in k who (OnceEnd q))
        → open_onces g (λ p. ended p || (q == p)) past ++ [] ≡ stack_in (goroutines_after k.goroutines who (OnceEnd q)) g
    left_step who q runs once kept =
        append-nil (open_onces g (λ p. ended p || (q == p)) past)
        ∙ open_without q g ended past
        ∙ rw (get_or-set k.goroutines.stacks who g (take (length (stack_in k.goroutines who) - 1) (stack_in k.goroutines who)) [] row)
        (go (who == g) (eqb-true who g) (eqb-false who g))
      where
        at : last (stack_in k.goroutines who) ≡ Some q
        at = gives_is (innermost_in k.goroutines who) q (not-false (gives (innermost_in k.goroutines who) q) kept.0)

        once_at_most : count (once_begins q) past ≤ 1
        once_at_most = begun_once q once

        stands : 1 ≤ times q (open_onces who ended past)
        stands = subst (λ ps. 1 ≤ times q ps) (sym (stack_is who runs)) (stands_in q (stack_in k.goroutines who) at)

        go : (b : Bool) → (b ≡ true → who ≡ g) → (b ≡ false → who ≡ g → ⊥)
            → without q (open_onces g ended past)
            ≡ (if b then take (length (stack_in k.goroutines who) - 1) (stack_in k.goroutines who) else stack_in k.goroutines g)
        go true same differ =
            let within : times q (open_onces who ended past) ≤ count (once_begins q) past = open_begun q who ended past in
            ap (λ h. without q (open_onces h ended past)) (sym (same refl))
            ∙ ap (without q) (stack_is who runs)
            ∙ without_last q (stack_in k.goroutines who) at (subst (λ ps. times q ps ≤ 1) (stack_is who runs) (omega (arith, within, once_at_most)))
        go false same differ =
            let both : times q (open_onces who ended past) + times q (open_onces g ended past) ≤ count (once_begins q) past =
            open_apart q who g ended (differ refl) past in
            without_none q (open_onces g ended past) (omega (arith, both, once_at_most, stands)) ∙ stack_is g less

    same_step : open_onces g (λ p. ended p || false) past ++ [] ≡ stack_in k.goroutines g
    same_step = append-nil (open_onces g (λ p. ended p || false) past) ∙ (λ i. open_onces g (λ p. or-false (ended p) i) past) ∙ stack_is g less

    step_of : (who : ℕ) (o : Op) → who < counts_in k Kind.Goroutine → IsTrue (op_is_in_range (counts_in k) o) → NoneBroken (op_rules_in k who o)
        → open_onces g (λ p. ended p || once_ends p o) past ++ option_to_list (entered g (λ p. ended p || once_ends p o) who o)
        ≡ stack_in (goroutines_after k.goroutines who o) g
    step_of who (OnceBegin p) runs is kept = let once : p < counts_in k Kind.Once = grind (arith, nat_tests) in entered_step who p once kept
    step_of who (OnceEnd q) runs is kept = let once : q < counts_in k Kind.Once = grind (arith, nat_tests) in left_step who q runs once kept
    step_of who (Go h) runs is kept = same_step
    step_of who Exit runs is kept = same_step
    step_of who _ runs is kept = same_step

    pub stack_step : (e : Event) → e.who < counts_in k Kind.Goroutine → IsTrue (op_is_in_range (counts_in k) e.op) → NoneBroken (op_rules_in k e.who e.op)
        → filter_map (λ s. unended_once g (past ++ e ∷ []) s.who s.op) (past ++ e ∷ []) ≡ stack_in (goroutines_after k.goroutines e.who e.op) g
    stack_step e runs is kept =
        open_is g (past ++ e ∷ []) (past ++ e ∷ [])
        ∙ (λ i. open_onces g (λ p. has_push (once_ends p) past e i) (past ++ e ∷ []))
        ∙ open_push g (λ p. ended p || once_ends p e.op) past e
        ∙ step_of e.who e.op runs is kept
