-- Two independent neighbours of a legal list are legal in the other order too.
use Rattle.std.proofs.Common.{◌≡◌, ℕ, ◌-◌, ◌==◌, ◌||◌, ◌&&◌, not, Bool, true, false, nat_lt, List, [], ◌∷◌, ◌++◌, Some, None}
use Rattle.std.proofs.{Common.{sym, ◌∙◌}, lemmas.Bool.{or_parts, and_left, false_from_ne_true}}
use Rattle.race_records.specs.declared.event.{Event.Event, Op.Op}
use Rattle.race_model.specs.Events.{takes_part, starts, is_exit, is_fault, writes, sends, receives, closes, locks, unlocks}
use Rattle.race_model.specs.{Events.{rlocks, runlocks, once_begins, once_ends}, Legal.{broken, IsLegal}}
use Rattle.race_exchange.specs.Independent.{Thing, OfVariable, OfChannel, OfLock, OfOnce, thing_of, is_default, are_independent}
use Rattle.race_exchange.specs.Says.{AnswersTheSame}
use Rattle.race_exchange.proofs.{Apart.{Apart, apart, independent_other_way}, Asked.broken_same, OperationKinds.{Changes, unchanged}}
use Rattle.race_exchange.proofs.OperationKinds.{writes_on, closes_on, sends_on, receives_on, locks_on, unlocks_on, rlocks_on}
use Rattle.race_exchange.proofs.OperationKinds.{runlocks_on, begins_on, ends_on, not_by, not_started}
use Rattle.race_exchange.proofs.Unseen.{count_kept, has_kept, value_kept, front_kept, exited_kept, over_kept, innermost_kept}

module _ (caps : ℕ → ℕ) (before : List Event) (a b : Event) (legal : IsLegal caps before) (both : Apart a b) (kept : broken caps before a ≡ None) where
  -- a is of no kind that changes what b is on
  other_kind : (t : Thing) (kind : Op → Bool) → ((o : Op) → kind o ≡ true → Changes o t) → thing_of b.op ≡ Some t → kind a.op ≡ false
  other_kind t kind changes on = unchanged a.op b.op t (kind a.op) both.no_thing on (changes a.op)

  -- and of another goroutine than those that take part in b
  no_part : (g : ℕ) → takes_part g b ≡ true → takes_part g a ≡ false
  no_part g in_b = false_from_ne_true (takes_part g a) (λ in_a. both.no_goroutine g in_a in_b)

  exits : (g : ℕ) → takes_part g b ≡ true → ((a.who == g) && is_exit a.op) ≡ false
  exits g in_b = and_left (a.who == g) (is_exit a.op) (not_by g a (no_part g in_b))

  answered : AnswersTheSame b (before ++ a ∷ []) before
  answered = record {
    last_value = λ x on. value_kept x before a (other_kind (OfVariable x) (writes x) (writes_on x) on);
    is_closed = λ c on. has_kept (closes c) before a (other_kind (OfChannel c) (closes c) (closes_on c) on);
    sends = λ c on. count_kept (sends c) before a (other_kind (OfChannel c) (sends c) (sends_on c) on);
    receives = λ c on. count_kept (receives c) before a (other_kind (OfChannel c) (receives c) (receives_on c) on);
    front = λ c on. front_kept c before a (other_kind (OfChannel c) (sends c) (sends_on c) on) (other_kind (OfChannel c) (receives c) (receives_on c) on);
    buffered = λ c on i.
        count_kept (sends c) before a (other_kind (OfChannel c) (sends c) (sends_on c) on) i
        - count_kept (receives c) before a (other_kind (OfChannel c) (receives c) (receives_on c) on) i;
    is_held = λ l on i. nat_lt
        (count_kept (unlocks l) before a (other_kind (OfLock l) (unlocks l) (unlocks_on l) on) i)
        (count_kept (locks l) before a (other_kind (OfLock l) (locks l) (locks_on l) on) i);
    is_read_held = λ l on i. nat_lt
        (count_kept (runlocks l) before a (other_kind (OfLock l) (runlocks l) (runlocks_on l) on) i)
        (count_kept (rlocks l) before a (other_kind (OfLock l) (rlocks l) (rlocks_on l) on) i);
    is_begun = λ o on. has_kept (once_begins o) before a (other_kind (OfOnce o) (once_begins o) (begins_on o) on);
    is_ended = λ o on. has_kept (once_ends o) before a (other_kind (OfOnce o) (once_ends o) (ends_on o) on);
    innermost = λ g in_b. innermost_kept caps before legal a g kept (not_by g a (no_part g in_b));
    started = λ g in_b. has_kept (starts g) before a (not_started g a (no_part g in_b));
    has_exited = λ g in_b. exited_kept g before a (exits g in_b);
    runs = λ g in_b i. (g == 0 || has_kept (starts g) before a (not_started g a (no_part g in_b)) i)
        && not (exited_kept g before a (exits g in_b) i);
    over = over_kept before a both.a_moves;
  }

  -- b breaks the same rule with a before it and without
  broken_kept : broken caps (before ++ a ∷ []) b ≡ broken caps before b
  broken_kept =
      let first = or_parts (is_default b.op) (is_fault b.op || (is_exit b.op && (b.who == 0))) both.b_moves in
      let rest = or_parts (is_fault b.op) (is_exit b.op && (b.who == 0)) first.1 in
      broken_same b (before ++ a ∷ []) before answered caps first.0 rest.0

-- all that an event asks is the same with an independent event before it and without
pub unseen_by : (caps : ℕ → ℕ) (before : List Event) (a b : Event) → IsLegal caps before → are_independent a b ≡ true
    → broken caps before a ≡ None → AnswersTheSame b (before ++ a ∷ []) before
unseen_by caps before a b legal is kept = answered caps before a b legal (apart a b is) kept

-- so it breaks the same rule
pub broken_other_way : (caps : ℕ → ℕ) (before : List Event) (a b : Event) → IsLegal caps before → are_independent a b ≡ true
    → broken caps before a ≡ None → broken caps (before ++ a ∷ []) b ≡ broken caps before b
broken_other_way caps before a b legal is kept = broken_kept caps before a b legal (apart a b is) kept

-- both are legal in the other order
pub legal_other_way : (caps : ℕ → ℕ) (before : List Event) (a b : Event) → IsLegal caps before → are_independent a b ≡ true
    → broken caps before a ≡ None → broken caps (before ++ a ∷ []) b ≡ None
    → (broken caps before b ≡ None) × (broken caps (before ++ b ∷ []) a ≡ None)
legal_other_way caps before a b legal is first second =
    let b_first : broken caps before b ≡ None = sym (broken_other_way caps before a b legal is first) ∙ second in
    (b_first, broken_other_way caps before b a legal (independent_other_way a b is) b_first ∙ first)
